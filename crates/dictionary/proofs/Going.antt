-- What is known of the lines before while a dictionary is numbered line by line, and what one line more does. Assumes nothing.
use Prim.Native.Nat.{ℕ}
use mathlib.Core.Path.{◌≡◌, refl, sym, ap, ap₂, subst, ◌∙◌}
use mathlib.Core.Bool.{Bool, true, false, not, ◌&&◌, false≢true}
use mathlib.Core.List.{List, [], ◌∷◌}
use Rattle.std.specs.Prelude.{Option, None, Some}
use lib.Dec.{eqb}
use borrow.Author.Tests.{eqb-true, eqb-false, eq-eqb, ne_eqb}
use Rattle.values.specs.Bytes.{Bytes, same}
use Rattle.values.proofs.Tests.{pass, fail, test, or_l, or_r, or_on, and_l, and_r}
use Rattle.values.proofs.Sames.{same_sound, same_self, same_sym}
use Rattle.values.proofs.Lists.{some_is, none_not}
use Rattle.rules.specs.Known.{is_in}
use Rattle.rules.specs.Map.{is_some}
use Rattle.dictionary.specs.Dictionary.{Line, carries, any_of, id_number, Numbered, clashes, numbered_lines}
use Rattle.dictionary.specs.Lines.{is_idx}
use Rattle.dictionary.specs.Slots.{idx_first}
use Rattle.dictionary.specs.Places.{idx_named, number_seen}
use Rattle.dictionary.specs.declared.line.Dictionary.{Dictionary}
use Rattle.dictionary.proofs.Firsts.{ids, in_other, clash_equal, clash_other, clash_sym}
use Rattle.rules.specs.Claims.{All}

-- The ID among the lines before

named_here : (x : Bytes) (l : Line) (ls : List Line) → same l.id x ≡ true → idx_named x (l ∷ ls) ≡ Some l.idx
unfolding idx_first
named_here x l ls e = rw (idx_first, e)

named_later : (x : Bytes) (l : Line) (ls : List Line) → same l.id x ≡ false → idx_named x (l ∷ ls) ≡ idx_named x ls
unfolding idx_first
named_later x l ls e = rw (idx_first, e)

named_out : (x : Bytes) (ls : List Line) → is_in x (ids ls) ≡ false → idx_named x ls ≡ None
unfolding is_in idx_first
named_out x [] h = refl
named_out x (l ∷ ls) h = named_later x l ls (or_l (same l.id x) (is_in x (ids ls)) h) ∙ named_out x ls (or_r (same l.id x) (is_in x (ids ls)) h)

pub named_none : (x : Bytes) (ls : List Line) → idx_named x ls ≡ None → is_in x (ids ls) ≡ false
unfolding is_in
named_none x [] h = refl
named_none x (l ∷ ls) h = elim (test (same l.id x)) [
  | pass e ↦ none_not (sym h ∙ named_here x l ls e)
  | fail e ↦ in_other x l.id (ids ls) e ∙ named_none x ls (sym (named_later x l ls e) ∙ h)
]

pub named_some : (x : Bytes) (ls : List Line) {m : Option ℕ} → idx_named x ls ≡ Some m → is_in x (ids ls) ≡ true
named_some x ls h = elim (test (is_in x (ids ls))) [ pass e ↦ e | fail e ↦ none_not (sym (named_out x ls e) ∙ h) ]

-- Lists without a clash

-- none clashes with one after it
abbrev pub Free : List Numbered → Type 0
Free [] = Unit {0}
Free (p ∷ ps) = (any_of (clashes p) ps ≡ false) × Free ps

abbrev pub is_pair : Numbered → Numbered → Bool
is_pair p q = same p.0 q.0 && eqb p.1 q.1

pair_is : (p q : Numbered) → is_pair p q ≡ true → p ≡ q
pair_is p q h = ap₂ (λ (x : Bytes) (n : ℕ). (x, n)) (same_sound p.0 q.0 (and_l (same p.0 q.0) (eqb p.1 q.1) h)) (eqb-true p.1 q.1 (and_r (same p.0 q.0) (eqb p.1 q.1) h))

any_off : (t : Numbered → Bool) (p : Numbered) (ps : List Numbered) → any_of t ps ≡ false → any_of (is_pair p) ps ≡ true → t p ≡ false
unfolding any_of
any_off t p [] h m = absurd (false≢true m)
any_off t p (q ∷ ps) h m = elim (test (is_pair p q)) [
  | pass e ↦ ap t (pair_is p q e) ∙ or_l (t q) (any_of t ps) h
  | fail e ↦ any_off t p ps (or_r (t q) (any_of t ps) h) (rw e at m)
]

pub free_has : (p : Numbered) (ps : List Numbered) → Free ps → any_of (is_pair p) ps ≡ true → any_of (clashes p) ps ≡ false
unfolding any_of
free_has p [] f m = refl
free_has p (q ∷ ps) f m = elim (test (is_pair p q)) [
  | pass e ↦
      let i = pair_is p q e in
      let s : clashes p q ≡ false = clash_equal p q (rw i (same_self q.0)) ∙ ap not (eq-eqb p.1 q.1 (ap (λ (r : Numbered). r.1) i)) in
      rw s (subst (λ (r : Numbered). any_of (clashes r) ps ≡ false) (sym i) f.0)
  | fail e ↦
      let j = rw e at m in
      rw (clash_sym p q ∙ any_off (clashes q) p ps f.0 j, free_has p ps f.1 j)
]

-- Lines that carry IDX

module _ (d : Dictionary) (ls : List Line) where
  abbrev pub num : Line → ℕ
  num l = id_number d ls l

  pub idx_number : (l : Line) {n : ℕ} → l.idx ≡ Some n → id_number d ls l ≡ n
  unfolding id_number
  idx_number l e = rw e

  is_number : (l : Line) (n : ℕ) → carries l ≡ true → eqb n (num l) ≡ is_idx n l.idx
  is_number l n h = go l.idx refl (λ k e. idx_number l e) h
    where
      turned : (a b : ℕ) → eqb a b ≡ eqb b a
      turned a b = elim (test (eqb a b)) [ pass e ↦ e ∙ sym (eq-eqb b a (sym (eqb-true a b e))) | fail e ↦ e ∙ sym (ne_eqb b a (λ i. eqb-false a b e (sym i))) ]

      go : (o : Option ℕ) → l.idx ≡ o → ((k : ℕ) → l.idx ≡ Some k → num l ≡ k) → is_some l.idx ≡ true → eqb n (num l) ≡ is_idx n l.idx
      go None e f c = absurd (false≢true (rw e at c))
      go (Some k) e f c = rw (f k e, e) (turned n k)

  abbrev pub Carrying : List Line → Type 0
  Carrying ms = All (λ (l : Line). carries l ≡ true) ms

  pub clashes_new : (x : Bytes) (n : ℕ) (ms : List Line) → Carrying ms → is_in x (ids ms) ≡ false → any_of (clashes (x, n)) (numbered_lines d ls ms) ≡ number_seen n ms
  unfolding any_of is_in
  clashes_new x n [] a i = refl
  clashes_new x n (l ∷ ms) a i =
      let s : same x l.id ≡ false = same_sym x l.id ∙ or_l (same l.id x) (is_in x (ids ms)) i in
      rw (clash_other (x, n) (l.id, num l) s, is_number l n a.0, clashes_new x n ms a.1 (or_r (same l.id x) (is_in x (ids ms)) i))

  module _ (x : Bytes) (n : ℕ) where
    pub named_pair : (ms : List Line) {m : Option ℕ} → Carrying ms → idx_named x ms ≡ Some m → is_idx n m ≡ true → any_of (is_pair (x, n)) (numbered_lines d ls ms) ≡ true
    unfolding any_of idx_first
    named_pair [] a e i = none_not e
    named_pair (l ∷ ms) a e i = elim (test (same l.id x)) [
      | pass s ↦
          let j : eqb n (num l) ≡ true = is_number l n a.0 ∙ ap (is_idx n) (some_is (sym (named_here x l ms s) ∙ e)) ∙ i in
          rw (same_sym x l.id ∙ s, j)
      | fail s ↦ or_on (is_pair (x, n) (l.id, num l)) (named_pair ms a.1 (sym (named_later x l ms s) ∙ e) i)
    ]

    pub named_clash : (ms : List Line) {m : Option ℕ} → Carrying ms → idx_named x ms ≡ Some m → is_idx n m ≡ false → any_of (clashes (x, n)) (numbered_lines d ls ms) ≡ true
    unfolding any_of idx_first
    named_clash [] a e i = none_not e
    named_clash (l ∷ ms) a e i = elim (test (same l.id x)) [
      | pass s ↦
          let j : eqb n (num l) ≡ false = is_number l n a.0 ∙ ap (is_idx n) (some_is (sym (named_here x l ms s) ∙ e)) ∙ i in
          rw (clash_equal (x, n) (l.id, num l) (same_sym x l.id ∙ s), j)
      | fail s ↦ or_on (clashes (x, n) (l.id, num l)) (named_clash ms a.1 (sym (named_later x l ms s) ∙ e) i)
    ]
