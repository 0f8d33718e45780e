-- Slots on plain values: what is found by them, and what they tell after one line more. Assumes nothing.
use Prim.Native.Nat.{ℕ, zero, suc, ◌+◌, ◌-◌, ◌*◌, ◌/◌, ◌%◌, ◌<◌, ◌≤◌}
use native.Mathlib.Omega.{arith}
use native.Mathlib.Nat.{mod-lt}
use mathlib.Core.Path.{◌≡◌, refl, sym, ap, subst, ◌∙◌}
use mathlib.Core.Bool.{Bool, true, false, true≢false, false≢true}
use mathlib.Core.List.{List, [], ◌∷◌, ◌++◌}
use Rattle.std.specs.Prelude.{Option, None, Some}
use lib.Dec.{eqb, ltb}
use lib.ListN.{length, get_or, set, replicate, length-set}
use lib.Seq.{get_or-set_same, get_or-set_other}
use borrow.Author.Tests.{eqb-true, eqb-false, ltb-true, ltb-false, ne_eqb, eq-eqb, lt-ltb, le-ltb}
use Rattle.values.specs.Bytes.{Bytes, same}
use Rattle.values.specs.Value.{meaning}
use Rattle.values.specs.Hash.{wide_basis, wide_step, wide_from}
use Rattle.values.proofs.Tests.{pass, fail, test}
use Rattle.values.proofs.Sames.{same_sound, same_self}
use Rattle.values.proofs.Lists.{none_not}
use Rattle.rules.specs.Map.{is_some}
use Rattle.rules.specs.Shown.{id_in}
use Rattle.rules.specs.Entry.{Entry}
use Rattle.entries.specs.declared.entry.Entry.{Entry as CodeEntry}
use Rattle.entries.specs.declared.form.Form.{Form}
use Rattle.entries.specs.Values.{entry_of}
use Rattle.entries.specs.Tables.{entry_in, entries_in, first_entries}
use Rattle.entries.proofs.Stored.{first_entries_lem}
use Rattle.entries.proofs.Tables.{room_small}
use Rattle.dictionary.specs.Dictionary.{Line, any_of}
use Rattle.dictionary.specs.Lines.{entry_lines, lines_before, ordinal, table_lines, id_at, idx_at, idx_meant, is_idx}
use Rattle.dictionary.specs.Slots.{idx_first, is_named, is_numbered, slot_by, class_of, id_hash, number_hash, id_slot, number_slot, AllOpen, line_at, NoneIn, Passed, LookedIs, Looks, Held, HeldAt, StandsAt, Stands}
use Rattle.dictionary.specs.Places.{idx_named, number_seen}
use Rattle.dictionary.specs.declared.line.Dictionary.{Dictionary}
use Rattle.dictionary.specs.declared.slots.Class.{Class}
use Rattle.dictionary.specs.declared.slots.Looked.{Looked}
use Rattle.dictionary.specs.declared.slots.Looked.TheVariants.{Found, Open, Full}
use Rattle.dictionary.proofs.Left.{before_take, ordinal_few}

-- what answers the needs of `slot_by`, `class_of`, the hashes and `number_slot`
module _ (n hash : ℕ) where
  pub slot_none : n ≡ 0 → 0 ≡ slot_by n hash
  unfolding slot_by
  slot_none e = rw (slot_by, eq-eqb n 0 e)

  module _ (f : n ≡ 0 → ⊥) where
    pub span_some : 0 < n - n / 64
    span_some = omega (arith, f)

    pub slot_some : hash % (n - n / 64) ≡ slot_by n hash
    unfolding slot_by
    slot_some = rw (slot_by, ne_eqb n 0 f)

    pub slot_within : hash % (n - n / 64) ≤ n
    slot_within = let l : hash % (n - n / 64) < n - n / 64 = mod-lt hash span_some in omega (arith, l)

module _ (n hash : ℕ) where
  pub class_none : n ≡ 0 → 0 ≡ class_of n hash
  unfolding class_of
  class_none e = rw (class_of, eq-eqb n 0 e)

  pub class_some : (n ≡ 0 → ⊥) → hash / 4294967296 % n ≡ class_of n hash
  unfolding class_of
  class_some f = rw (class_of, ne_eqb n 0 f)

  pub class_below : 0 < n → class_of n hash < n
  unfolding class_of
  class_below l = rw (class_of, ne_eqb n 0 (λ e. omega arith)) (mod-lt (hash / 4294967296) l)

pub class_tested : {c : ℕ} (at n hash : ℕ) → c ≡ class_of n hash → eqb c at ≡ eqb (class_of n hash) at
class_tested at n hash e = rw e

pub id_hashed : (x : Bytes) {a : ℕ} → a ≡ wide_from wide_basis x → {b : ℕ} → b ≡ wide_step a 0 → b ≡ id_hash x
unfolding id_hash
id_hashed x ea eb = eb ∙ rw ea

pub number_hashed : (m : ℕ) {a : ℕ} → a ≡ wide_step m 0 → {b : ℕ} → b ≡ wide_step a 0 → {c : ℕ} → c ≡ wide_step b 0 → c ≡ number_hash m
unfolding number_hash
number_hashed m ea eb ec = ec ∙ rw (eb, ea)

module _ (n m : ℕ) where
  pub number_own : m < n / 16 → m ≡ number_slot n m
  unfolding number_slot
  number_own l = rw (number_slot, lt-ltb m (n / 16) l)

  pub number_shared : n / 16 ≤ m → {b : ℕ} → b ≡ number_hash m → {r : ℕ} → r ≡ slot_by (n - n / 16) b → n / 16 + r ≡ number_slot n m
  unfolding number_slot
  number_shared l eb er = rw (number_slot, le-ltb m (n / 16) l, er, eb)

pub ruleset slotted = (slot_none, span_some, slot_some, slot_within, class_none, class_some, class_tested, id_hashed, number_hashed, number_own, number_shared)

-- Searches in the slots

module _ {K : Type 0} (test' : K → Line → Bool) (slot : ℕ → K → ℕ) (form : Form) (h : Bytes) (t slots : List ℕ) (w : K) where
  abbrev Passes : ℕ → Type 0
  Passes p = Passed test' slot form h t slots w p

  abbrev Tells : Looked → Type 0
  Tells r = Looks test' slot form h t slots w r

  pub pass_start : {p : ℕ} → p ≡ slot (length slots) w → Passes p
  pass_start e = record { from = omega (arith, e); filled = λ q a b. absurd (omega (arith, e)); others = λ q m a b. absurd (omega (arith, e)) }

  module _ {p : ℕ} (g : Passes p) where
    pub pass_end : length slots ≤ p → Tells Full
    pass_end l = record { is = (p, l, g) }

    module _ (l : p < length slots) {word : ℕ} (ew : word ≡ get_or slots p 0) where
      pub pass_open : word ≡ 0 → Tells (Open p)
      pass_open z = record { is = (l, sym ew ∙ z, g) }

      module _ (z : word ≡ 0 → ⊥) where
        abbrev m : ℕ
        m = word - 1

        word_is : get_or slots p 0 ≡ m + 1
        word_is = omega (arith, ew, z)

        module _ {s : Bool} (es : s ≡ test' w (line_at form h t m)) where
          pass_other : s ≡ false → Passes (p + 1)
          pass_other f = record {
            from = omega (arith, g.from);
            filled = λ q a b c. elim (test (eqb q p)) [
              | pass e ↦ let i = eqb-true q p e in z (ew ∙ ap (λ (x : ℕ). get_or slots x 0) (sym i) ∙ c)
              | fail e ↦ g.filled q a (omega (arith, eqb-false q p e)) c
            ];
            others = λ q n a b c. elim (test (eqb q p)) [
              | pass e ↦
                  let i = eqb-true q p e in
                  let j : n ≡ m = omega (arith, word_is, sym c ∙ ap (λ (x : ℕ). get_or slots x 0) i) in
                  ap (λ (x : ℕ). test' w (line_at form h t x)) j ∙ sym es ∙ f
              | fail e ↦ g.others q n a (omega (arith, eqb-false q p e)) c
            ];
          }

          pass_found : s ≡ true → {x : CodeEntry} → idx_at h x ≡ (line_at form h t m).idx → Tells (Found x)
          pass_found f i = record { is = (p, m, word_is, sym es ∙ f, i) }

pub id_start_lem : (form : Form) (h : Bytes) (t slots : List ℕ) (y : CodeEntry) {a : ℕ} → a ≡ id_hash (id_at h y) → {p : ℕ} → p ≡ slot_by (length slots) a
    → Passed is_named id_slot form h t slots (id_at h y) p
unfolding id_slot
id_start_lem form h t slots y ea e = pass_start is_named id_slot form h t slots (id_at h y) (e ∙ rw ea)

-- by the ID of y, or by a number; x is the entry that the code got from the slot
module _ (form : Form) (h : Bytes) (t slots : List ℕ) {p : ℕ} (l : p < length slots) {word : ℕ} (ew : word ≡ get_or slots p 0) (z : word ≡ 0 → ⊥)
    {x : CodeEntry} (ex : entry_of x ≡ entry_in form t (word - 1)) where
  idx_is : idx_at h x ≡ (line_at form h t (word - 1)).idx
  idx_is = rw ex

  module _ (y : CodeEntry) (g : Passed is_named id_slot form h t slots (id_at h y) p) {a : Bytes} (ea : a ≡ id_in h (entry_of x)) {b : Bytes} (eb : b ≡ id_in h (entry_of y))
      {s : Bool} (es : s ≡ same (meaning x.quoted a) (meaning y.quoted b)) where
    id_tested : s ≡ is_named (id_at h y) (line_at form h t (word - 1))
    id_tested = let i : s ≡ same (id_at h x) (id_at h y) = es ∙ rw (ea, eb) in i ∙ ap (λ (e : Entry). same (meaning e.quoted (id_in h e)) (id_at h y)) ex

    pub id_other : s ≡ false → Passed is_named id_slot form h t slots (id_at h y) (p + 1)
    id_other f = pass_other is_named id_slot form h t slots (id_at h y) g l ew z id_tested f

    pub id_found_lem : s ≡ true → Looks is_named id_slot form h t slots (id_at h y) (Found x)
    id_found_lem f = pass_found is_named id_slot form h t slots (id_at h y) g l ew z id_tested f idx_is

  module _ {n : ℕ} (g : Passed is_numbered number_slot form h t slots n p) {s : Bool} (es : s ≡ is_idx n (idx_at h x)) where
    number_tested : s ≡ is_numbered n (line_at form h t (word - 1))
    number_tested = es ∙ rw ex

    pub number_other : s ≡ false → Passed is_numbered number_slot form h t slots n (p + 1)
    number_other f = pass_other is_numbered number_slot form h t slots n g l ew z number_tested f

    pub number_found : s ≡ true → Looks is_numbered number_slot form h t slots n (Found x)
    number_found f = pass_found is_numbered number_slot form h t slots n g l ew z number_tested f idx_is

pub ruleset looks = (pass_start, id_start_lem, pass_end, pass_open, id_other, id_found_lem, number_other, number_found)

-- The first line that is sought, and one line more

module _ (u : Line → Bool) where
  first_kept : (ls ms : List Line) {i : Option ℕ} → idx_first u ls ≡ Some i → idx_first u (ls ++ ms) ≡ Some i
  unfolding idx_first
  first_kept [] ms e = none_not e
  first_kept (l ∷ ls) ms e = elim (test (u l)) [ pass f ↦ rw (idx_first, f) (rw (idx_first, f) at e) | fail f ↦ rw (idx_first, f) (first_kept ls ms (rw (idx_first, f) at e)) ]

  first_later : (ls ms : List Line) → idx_first u ls ≡ None → idx_first u (ls ++ ms) ≡ idx_first u ms
  unfolding idx_first
  first_later [] ms e = refl
  first_later (l ∷ ls) ms e = elim (test (u l)) [ pass f ↦ none_not (sym (rw (idx_first, f) at e)) | fail f ↦ rw (idx_first, f) (first_later ls ms (rw (idx_first, f) at e)) ]

  first_one : (l : Line) {i : Option ℕ} → idx_first u (l ∷ []) ≡ Some i → u l ≡ true
  unfolding idx_first
  first_one l e = elim (test (u l)) [ pass f ↦ f | fail f ↦ none_not (rw (idx_first, f) at e) ]

  first_here : (l : Line) → u l ≡ true → idx_first u (l ∷ []) ≡ Some l.idx
  unfolding idx_first
  first_here l f = rw (idx_first, f)

  first_any : (ls : List Line) → any_of u ls ≡ is_some (idx_first u ls)
  unfolding idx_first any_of
  first_any [] = refl
  first_any (l ∷ ls) = elim (test (u l)) [ pass f ↦ rw (idx_first, f) | fail f ↦ rw (idx_first, f) (first_any ls) ]

-- a line is sought for one thing
abbrev pub Sole : {K : Type 0} → (K → Line → Bool) → Type 0
Sole {K} u = (l : Line) (a b : K) → u a l ≡ true → u b l ≡ true → a ≡ b

pub named_sole : Sole is_named
named_sole l a b e f = sym (same_sound l.id a e) ∙ same_sound l.id b f

pub numbered_sole : Sole is_numbered
numbered_sole l a b e f = go l.idx e f
  where
    go : (o : Option ℕ) → is_idx a o ≡ true → is_idx b o ≡ true → a ≡ b
    go None e f = absurd (false≢true e)
    go (Some m) e f = sym (eqb-true m a e) ∙ eqb-true m b f

module _ {K : Type 0} {u : K → Line → Bool} {slot : ℕ → K → ℕ} {hash : K → ℕ} {c₀ : Class} {form : Form} {h : Bytes} {t : List ℕ} {ls : List Line} where
  -- the slots stay as they are
  held_more : {slots : List ℕ} → Held u slot hash c₀ form h t ls slots → (l : Line)
      → ((w : K) → class_of c₀.of (hash w) ≡ c₀.at → idx_first (u w) ls ≡ None → u w l ≡ true → (p : ℕ) → slot (length slots) w ≤ p → p < length slots → get_or slots p 0 ≡ 0 → ⊥)
      → Held u slot hash c₀ form h t (ls ++ l ∷ []) slots
  held_more {slots} g l new = record {
    own = λ q m c w e. first_kept (u w) ls (l ∷ []) (g.own q m c w e);
    behind = λ w y i e p a b c n. go w y i e p a b c n (idx_first (u w) ls) refl;
  }
    where
      go : (w : K) → class_of c₀.of (hash w) ≡ c₀.at → (i : Option ℕ) → idx_first (u w) (ls ++ l ∷ []) ≡ Some i → (p : ℕ) → slot (length slots) w ≤ p → p < length slots → get_or slots p 0 ≡ 0
          → NoneIn u slot form h t slots w p → (o : Option (Option ℕ)) → idx_first (u w) ls ≡ o → ⊥
      go w y i e p a b c n (Some j) f = g.behind w y j f p a b c n
      go w y i e p a b c n None f = new w y f (first_one (u w) l (sym (first_later (u w) ls (l ∷ []) f) ∙ e)) p a b c

  -- entry k's line, which is new, has the open slot r
  held_put : Sole u → {slots : List ℕ} → Held u slot hash c₀ form h t ls slots → (k : ℕ) (w₀ : K) → u w₀ (line_at form h t k) ≡ true → idx_first (u w₀) ls ≡ None
      → (r : ℕ) → r < length slots → get_or slots r 0 ≡ 0 → Passed u slot form h t slots w₀ r → Held u slot hash c₀ form h t (ls ++ line_at form h t k ∷ []) (set slots r (k + 1))
  held_put sole {slots} g k w₀ here absent r inside free passed = record {
    own = λ q m c w e. elim (test (eqb q r)) [
      | pass f ↦
          let i = eqb-true q r f in
          let j : k + 1 ≡ m + 1 = sym (get_or-set_same slots r (k + 1) 0 inside) ∙ ap (λ (x : ℕ). get_or (set slots r (k + 1)) x 0) (sym i) ∙ c in
          let n : k ≡ m = omega arith in
          subst (λ (x : ℕ). idx_first (u w) (ls ++ line_at form h t k ∷ []) ≡ Some (line_at form h t x).idx) n
          (new w (subst (λ (x : ℕ). u w (line_at form h t x) ≡ true) (sym n) e))
      | fail f ↦ first_kept (u w) ls (line_at form h t k ∷ []) (g.own q m (sym (other q f) ∙ c) w e)
    ];
    behind = λ w z i e p a b c n. go w z i e p (rw size at a) (rw size at b) c n (idx_first (u w) ls) refl;
  }
    where
      size : length (set slots r (k + 1)) ≡ length slots
      size = length-set slots r (k + 1)

      other : (q : ℕ) → eqb q r ≡ false → get_or (set slots r (k + 1)) q 0 ≡ get_or slots q 0
      other q f = get_or-set_other slots r q (k + 1) 0 (eqb-false q r f)

      new : (w : K) → u w (line_at form h t k) ≡ true → idx_first (u w) (ls ++ line_at form h t k ∷ []) ≡ Some (line_at form h t k).idx
      new w e =
          let i = sole (line_at form h t k) w₀ w here e in
          first_later (u w) ls (line_at form h t k ∷ []) (subst (λ (x : K). idx_first (u x) ls ≡ None) i absent) ∙ first_here (u w) (line_at form h t k) e

      closed : (p : ℕ) → get_or (set slots r (k + 1)) p 0 ≡ 0 → eqb p r ≡ false
      closed p c = elim (test (eqb p r)) [
        | fail f ↦ f
        | pass f ↦ let j : k + 1 ≡ 0 = sym (get_or-set_same slots r (k + 1) 0 inside) ∙ ap (λ (x : ℕ). get_or (set slots r (k + 1)) x 0) (sym (eqb-true p r f)) ∙ c in absurd (omega arith)
      ]

      go : (w : K) → class_of c₀.of (hash w) ≡ c₀.at → (i : Option ℕ) → idx_first (u w) (ls ++ line_at form h t k ∷ []) ≡ Some i → (p : ℕ) → slot (length slots) w ≤ p → p < length slots
          → get_or (set slots r (k + 1)) p 0 ≡ 0 → NoneIn u slot form h t (set slots r (k + 1)) w p → (o : Option (Option ℕ)) → idx_first (u w) ls ≡ o → ⊥
      go w z i e p a b c n (Some j) f =
          g.behind w z j f p a b (sym (other p (closed p c)) ∙ c) (λ q m x y v. elim (test (eqb q r)) [
            | pass s ↦ let z : m + 1 ≡ 0 = sym v ∙ ap (λ (x : ℕ). get_or slots x 0) (eqb-true q r s) ∙ free in absurd (omega arith)
            | fail s ↦ n q m (rw size x) y (other q s ∙ v)
          ])
      go w z i e p a b c n None f =
          let l = first_one (u w) (line_at form h t k) (sym (first_later (u w) ls (line_at form h t k ∷ []) f) ∙ e) in
          let j : w₀ ≡ w = sole (line_at form h t k) w₀ w here l in
          let from : slot (length slots) w ≤ r = subst (λ (x : K). slot (length slots) x ≤ r) j passed.from in
          elim (test (ltb r p)) [
            | pass s ↦ true≢false (sym l ∙ n r k (rw size from) (ltb-true r p s) (get_or-set_same slots r (k + 1) 0 inside))
            | fail s ↦
                let y : p < r = omega (arith, ltb-false r p s, eqb-false p r (closed p c)) in
                passed.filled p (subst (λ (x : K). slot (length slots) x ≤ p) (sym j) a) y (sym (other p (closed p c)) ∙ c)
          ]

-- The slots after entry k

module _ {K : Type 0} (u : K → Line → Bool) (slot : ℕ → K → ℕ) (hash : K → ℕ) (c₀ : Class) (d : Dictionary) (form : Form) (h : Bytes) (t : List ℕ) where
  pub held_start : {slots : List ℕ} → AllOpen slots → HeldAt u slot hash c₀ d form h t 0 slots
  unfolding entry_lines idx_first
  held_start o = record { is = λ b. record { own = λ q m c. let z : m + 1 ≡ 0 = sym c ∙ o.is q in absurd (omega arith); behind = λ w z i e. none_not e } }

pub held_skip : {K : Type 0} {u : K → Line → Bool} {slot : ℕ → K → ℕ} {hash : K → ℕ} {c₀ : Class} {d : Dictionary} {form : Form} {h : Bytes} {t : List ℕ} {k : ℕ} {slots : List ℕ}
    → lines_before d form h t (k + 1) ≡ lines_before d form h t k → HeldAt u slot hash c₀ d form h t k slots → HeldAt u slot hash c₀ d form h t (k + 1) slots
held_skip e g = record { is = λ b. rw e (g.is (omega arith)) }

abbrev opens : ℕ → List ℕ
opens n = replicate n 0

open_at : (n q : ℕ) → get_or (opens n) q 0 ≡ 0
open_at zero q = refl
open_at (suc n) zero = refl
open_at (suc n) (suc q) = open_at n q

pub all_open : (n : ℕ) → AllOpen (opens n)
all_open n = record { is = open_at n }

module _ {K : Type 0} {u : K → Line → Bool} {slot : ℕ → K → ℕ} {hash : K → ℕ} (sole : Sole u) {c₀ : Class} {d : Dictionary} {form : Form} {h : Bytes} {t : List ℕ} {k : ℕ} {w : K}
    (s : Stands u d form h t k w) {slots : List ℕ} (g : HeldAt u slot hash c₀ d form h t k slots) where
  abbrev before : List Line
  before = lines_before d form h t k

  more : lines_before d form h t (k + 1) ≡ before ++ line_at form h t k ∷ []
  more = before_take d form h t k s.inside refl refl s.held

  pub held_large : 4294967294 < k → HeldAt u slot hash c₀ d form h t (k + 1) slots
  held_large l = record { is = λ b. absurd (omega arith) }

  -- what is of another class has no slot
  pub held_other : {q : Bool} → q ≡ eqb (class_of c₀.of (hash w)) c₀.at → q ≡ false → HeldAt u slot hash c₀ d form h t (k + 1) slots
  held_other eq f = record {
    is = λ b. rw more (held_more (g.is (omega arith)) (line_at form h t k) (λ v y n i p a c z.
        eqb-false (class_of c₀.of (hash w)) c₀.at (sym eq ∙ f) (subst (λ (x : K). class_of c₀.of (hash x) ≡ c₀.at) (sole (line_at form h t k) v w i s.is) y)));
  }

  module _ (l : k ≤ 4294967294) {r : Looked} (look : Looks u slot form h t slots w r) where
    held : Held u slot hash c₀ form h t before slots
    held = g.is (omega arith)

    first_found : {x : CodeEntry} → r ≡ Found x → Some (idx_at h x) ≡ idx_first (u w) before
    first_found e = let f = rw e at look.is in sym (held.own f.0 f.1 f.2 w f.3 ∙ ap Some (sym f.4))

    pub held_found : {x : CodeEntry} → r ≡ Found x → HeldAt u slot hash c₀ d form h t (k + 1) slots
    held_found e = record {
      is = λ b. rw more (held_more held (line_at form h t k) (λ v y n i p.
          none_not (sym (subst (λ (a : K). idx_first (u a) before ≡ None) (sole (line_at form h t k) v w i s.is) n) ∙ sym (first_found e))));
    }

    module _ {p : ℕ} (e : r ≡ Open p) where
      opened : LookedIs u slot form h t slots w (Open p)
      opened = rw e at look.is

      pub open_inside : p < length slots
      open_inside = opened.0

      module _ (mine : class_of c₀.of (hash w) ≡ c₀.at) where
        first_open : None ≡ idx_first (u w) before
        first_open = go (idx_first (u w) before) refl
          where
            go : (o : Option (Option ℕ)) → idx_first (u w) before ≡ o → None ≡ idx_first (u w) before
            go None f = sym f
            go (Some i) f = let x = opened.2 in absurd (held.behind w mine i f p x.from opened.0 opened.1 x.others)

        pub held_open : HeldAt u slot hash c₀ d form h t (k + 1) (set slots p (k + 1))
        held_open = record { is = λ b. rw more (held_put sole held k w s.is (sym first_open) p opened.0 opened.1 opened.2) }

    pub held_full : r ≡ Full → HeldAt u slot hash c₀ d form h t (k + 1) slots
    held_full e =
        let f = rw e at look.is in
        record {
          is = λ b. rw more (held_more held (line_at form h t k) (λ v y n i p a c z.
              let j = sole (line_at form h t k) v w i s.is in
              f.2.filled p (subst (λ (x : K). slot (length slots) x ≤ p) j a) (omega (arith, f.1)) z));
        }

-- The lines of the entries ahead are those before entry k

module _ (d : Dictionary) (form : Form) (h : Bytes) (t : List ℕ) (k : ℕ) {ahead : List ℕ} (e : ahead ≡ first_entries form t k) where
  pub ahead_is : table_lines d form h ahead ≡ lines_before d form h t k
  ahead_is = ap (entry_lines d h 0) (ap (entries_in form) e ∙ first_entries_lem form t k)

  pub named_ahead : (x : Bytes) {o : Option (Option ℕ)} → o ≡ idx_named x (table_lines d form h ahead) → o ≡ idx_named x (lines_before d form h t k)
  named_ahead x f = f ∙ ap (idx_named x) ahead_is

  pub seen_ahead : (n : ℕ) {q : Bool} → q ≡ number_seen n (table_lines d form h ahead) → q ≡ number_seen n (lines_before d form h t k)
  seen_ahead n f = f ∙ ap (number_seen n) ahead_is

seen_first : (n : ℕ) (ls : List Line) {o : Option (Option ℕ)} → o ≡ idx_first (is_numbered n) ls → is_some o ≡ number_seen n ls
seen_first n ls e = ap is_some e ∙ sym (first_any (is_numbered n) ls)

module _ {c₀ : Class} {d : Dictionary} {form : Form} {h : Bytes} {t : List ℕ} {k : ℕ} {y : Bytes} (s : Stands is_named d form h t k y) {slots : List ℕ}
    (g : HeldAt is_named id_slot id_hash c₀ d form h t k slots) (l : k ≤ 4294967294) {r : Looked} (look : Looks is_named id_slot form h t slots y r) where
  pub named_found : {x : CodeEntry} → r ≡ Found x → Some (idx_at h x) ≡ idx_named y (lines_before d form h t k)
  named_found i = first_found named_sole s g l look i

  pub named_open : {p : ℕ} → r ≡ Open p → class_of c₀.of (id_hash y) ≡ c₀.at → None ≡ idx_named y (lines_before d form h t k)
  named_open i m = first_open named_sole s g l look i m

module _ {c₀ : Class} {d : Dictionary} {form : Form} {h : Bytes} {t : List ℕ} {k n : ℕ} (s : Stands is_numbered d form h t k n) {slots : List ℕ}
    (g : HeldAt is_numbered number_slot number_hash c₀ d form h t k slots) (l : k ≤ 4294967294) {r : Looked} (look : Looks is_numbered number_slot form h t slots n r) where
  pub taken_found : {x : CodeEntry} → r ≡ Found x → true ≡ number_seen n (lines_before d form h t k)
  taken_found e = seen_first n (lines_before d form h t k) (first_found numbered_sole s g l look e)

  pub taken_open : {p : ℕ} → r ≡ Open p → class_of c₀.of (number_hash n) ≡ c₀.at → false ≡ number_seen n (lines_before d form h t k)
  taken_open e m = seen_first n (lines_before d form h t k) (first_open numbered_sole s g l look e m)

-- what answers the needs of `find_earlier` and `is_taken`
pub ruleset meets = (held_large, held_found, open_inside, held_open, held_full, named_ahead, named_found, named_open, seen_ahead, taken_found, taken_open, named_sole, numbered_sole)

-- and, with the marks, of `mark_id` and `mark_number`
pub stands_id : {d : Dictionary} {form : Form} (h : Bytes) {t : List ℕ} {k : ℕ} {e : CodeEntry} → StandsAt d form t k e → Stands is_named d form h t k (id_at h e)
stands_id {d} {form} h {t} {k} {e} s = record { inside = s.inside; held = rw (← s.is) s.held; is = rw (← s.is) (same_self (id_at h e)) }

module _ (h : Bytes) {d : Dictionary} {form : Form} {t : List ℕ} {k : ℕ} {e : CodeEntry} (s : StandsAt d form t k e) {r : Option ℕ} (er : idx_meant r ≡ idx_at h e) where
  pub stands_number : {n : ℕ} → r ≡ Some n → Stands is_numbered d form h t k n
  stands_number {n} i = record { inside = s.inside; held = rw (← s.is) s.held; is = rw (← s.is, ← er, i) (eq-eqb n n refl) }

  pub held_unnumbered : r ≡ None → {c₀ : Class} {slots : List ℕ} → HeldAt is_numbered number_slot number_hash c₀ d form h t k slots
      → HeldAt is_numbered number_slot number_hash c₀ d form h t (k + 1) slots
  held_unnumbered i g =
      let none_here : (line_at form h t k).idx ≡ None = rw (← s.is, ← er, i) in
      record {
        is = λ b. rw (before_take d form h t k s.inside refl refl (rw (← s.is) s.held)) (held_more (g.is (omega arith)) (line_at form h t k) (λ v y n f p a c z.
            false≢true (rw none_here at f)));
      }

module _ {c₀ : Class} {d : Dictionary} {form : Form} {h : Bytes} {t : List ℕ} {k : ℕ} {e : CodeEntry} (s : StandsAt d form t k e) {slots : List ℕ} where
  pub id_elsewhere : HeldAt is_named id_slot id_hash c₀ d form h t k slots → {a : ℕ} → a ≡ id_hash (id_at h e) → {q : Bool} → q ≡ eqb (class_of c₀.of a) c₀.at → q ≡ false
      → HeldAt is_named id_slot id_hash c₀ d form h t (k + 1) slots
  id_elsewhere g ea eq f = held_other named_sole (stands_id h s) g (eq ∙ rw ea) f

  pub number_elsewhere : HeldAt is_numbered number_slot number_hash c₀ d form h t k slots → {r : Option ℕ} → idx_meant r ≡ idx_at h e → {n : ℕ} → r ≡ Some n → {a : ℕ} → a ≡ number_hash n
      → {q : Bool} → q ≡ eqb (class_of c₀.of a) c₀.at → q ≡ false → HeldAt is_numbered number_slot number_hash c₀ d form h t (k + 1) slots
  number_elsewhere g er i ea eq f = held_other numbered_sole (stands_number h s er i) g (eq ∙ rw ea) f

pub class_is : (c₀ : Class) {a b : ℕ} → a ≡ b → {q : Bool} → q ≡ eqb (class_of c₀.of a) c₀.at → q ≡ true → class_of c₀.of b ≡ c₀.at
class_is c₀ {a} {b} ea eq f = eqb-true (class_of c₀.of b) c₀.at (sym (eq ∙ rw ea) ∙ f)

pub id_hash_is : (h : Bytes) (e : CodeEntry) {x : Bytes} → x ≡ id_in h (entry_of e) → {a : ℕ} → a ≡ id_hash (meaning e.quoted x) → a ≡ id_hash (id_at h e)
id_hash_is h e ex ea = ea ∙ rw ex

pub ruleset slotting = (stands_id, stands_number, held_unnumbered, id_elsewhere, number_elsewhere, class_is, id_hash_is)

-- twice the number of a line is a number too
module _ {d : Dictionary} {form : Form} (h : Bytes) {t : List ℕ} {k : ℕ} {e : CodeEntry} (s : StandsAt d form t k e) (l : length t < 18446744073709551616) {n : ℕ} (en : n ≡ ordinal d form h t k) where
  pub line_small : n < 9223372036854775808
  line_small = let r = room_small form t in omega (arith, s.inside, ordinal_few d form h t k (omega (arith, s.inside)), en)

  pub twice_fits : 2 * n < 18446744073709551616
  twice_fits = omega (arith, line_small)

  pub twice_more : 2 * n + 1 < 18446744073709551616
  twice_more = omega (arith, line_small)

pub ruleset twice = (line_small, twice_fits, twice_more)
