-- What a dictionary promises to whoever reads BCF: every ID has one number, no two IDs share one, PASS is 0, and nothing is left out
-- where no IDX is given. Assumes nothing.
use Prim.Native.Nat.{ℕ, zero, suc}
use native.Mathlib.Omega.{arith}
use mathlib.Core.Path.{◌≡◌, refl, sym, ap, ap₂, subst, ◌∙◌}
use mathlib.Core.Bool.{Bool, true, false, not, true≢false, false≢true, or_comm, or-false}
use mathlib.Core.List.{List, [], ◌∷◌, ◌++◌, map, append_assoc}
use mathlib.Core.Logic.{◌⊎◌, inl, inr}
use Rattle.std.specs.Prelude.{Option, None, Some}
use lib.Dec.{eqb}
use lib.ListN.{length, length-append}
use borrow.Author.Tests.{eqb-true, eqb-false, eq-eqb}
use Rattle.values.specs.Bytes.{Bytes, ascii, same}
use Rattle.values.proofs.Tests.{pass, fail, test, or_l, or_r, or_on, not_false}
use Rattle.values.proofs.Sames.{same_sound, same_self}
use Rattle.rules.specs.Known.{is_in}
use Rattle.rules.specs.Map.{is_some}
use Rattle.rules.proofs.Alls.{in_append}
use Rattle.dictionary.specs.Dictionary.{Line, carries, any_of, implied, first_lines, ids_of, place, id_number, Numbered, implied_numbers, clashes, clashed, numbered_lines, dictionary_clash, dictionary}
use Rattle.dictionary.specs.declared.line.Dictionary.{Dictionary}
use Rattle.dictionary.specs.declared.line.Dictionary.TheVariants.{Strings, Contigs}
use Rattle.dictionary.proofs.Firsts.{ids, first_new, first_old, in_same, in_other, first_ids, place_new, clash_equal, clash_other, clash_sym, Placed, placed_free}
use Rattle.rules.specs.Claims.{All}

-- is one of these
abbrev pub Member : {A : Type 0} → A → List A → Type 0
Member x [] = ⊥
Member x (y ∷ ys) = (x ≡ y) ⊎ Member x ys

member_map : {A B : Type 0} (f : A → B) (x : A) (xs : List A) → Member x xs → Member (f x) (map f xs)
member_map f x (y ∷ ys) (inl e) = inl (ap f e)
member_map f x (y ∷ ys) (inr m) = inr (member_map f x ys m)
member_map {A = A} {B = B} f x [] x'' = elim x'' [ ]

member_right : {A : Type 0} (x : A) (xs ys : List A) → Member x ys → Member x (xs ++ ys)
member_right x [] ys m = m
member_right x (z ∷ xs) ys m = inr (member_right x xs ys m)

member_append : {A : Type 0} (x : A) (xs ys : List A) → Member x (xs ++ ys) → Member x xs ⊎ Member x ys
member_append x [] ys m = inr m
member_append x (z ∷ xs) ys (inl e) = inl (inl e)
member_append x (z ∷ xs) ys (inr m) = elim (member_append x xs ys m) [ inl a ↦ inl (inr a) | inr b ↦ inr b ]

any_member : {A : Type 0} (t : A → Bool) (x : A) (xs : List A) → any_of t xs ≡ false → Member x xs → t x ≡ false
unfolding any_of
any_member t x (y ∷ ys) h (inl e) = ap t e ∙ or_l (t y) (any_of t ys) h
any_member t x (y ∷ ys) h (inr m) = any_member t x ys (or_r (t y) (any_of t ys) h) m
any_member {A = A} t x [] h x3 = elim x3 [ ]

pub id_member : (l : Line) (ls : List Line) → Member l ls → is_in l.id (ids ls) ≡ true
unfolding is_in
id_member l (m ∷ ls) (inl e) = in_same l.id m.id (ids ls) (rw e (same_self m.id))
id_member l (m ∷ ls) (inr h) = or_on (same m.id l.id) (id_member l ls h)
id_member l [] x' = elim x' [ ]

-- a line with this ID
pub record LineWith (x : Bytes) (ls : List Line) : Type 0 where
  pub line : Line
  pub member : Member line ls
  pub is : line.id ≡ x

pub line_with : (x : Bytes) (ls : List Line) → is_in x (ids ls) ≡ true → LineWith x ls
unfolding is_in
line_with x [] h = absurd (false≢true h)
line_with x (l ∷ ls) h = elim (test (same l.id x)) [
  | pass e ↦ record { line = l; member = inl refl; is = same_sound l.id x e }
  | fail e ↦ let d = line_with x ls (sym (in_other x l.id (ids ls) e) ∙ h) in record { line = d.line; member = inr d.member; is = d.is }
]

pub first_member : (l : Line) (seen : List Bytes) (ls : List Line) → Member l (first_lines seen ls) → Member l ls
unfolding first_lines
first_member l seen (m ∷ ls) h = elim (test (is_in m.id seen)) [
  | pass e ↦ inr (first_member l (m.id ∷ seen) ls (subst (Member l) (first_old seen m ls e) h))
  | fail e ↦ elim (subst (Member l) (first_new seen m ls e) h) [ inl i ↦ inl i | inr k ↦ inr (first_member l (m.id ∷ seen) ls k) ]
]
first_member l seen [] h = elim h [ ]

-- Where nothing clashes

clash_between : (seen ps : List Numbered) → clashed seen ps ≡ false → (p q : Numbered) → Member p ps → Member q seen → clashes p q ≡ false
unfolding clashed
clash_between seen (r ∷ ps) h p q (inl e) m = any_member (clashes p) q seen (rw e (or_l (any_of (clashes r) seen) (clashed (r ∷ seen) ps) h)) m
clash_between seen (r ∷ ps) h p q (inr k) m = clash_between (r ∷ seen) ps (or_r (any_of (clashes r) seen) (clashed (r ∷ seen) ps) h) p q k (inr m)
clash_between seen [] h p q x3 m = elim x3 [ ]

clash_self : (p : Numbered) → clashes p p ≡ false
clash_self p = clash_equal p p (same_self p.0) ∙ ap not (eq-eqb p.1 p.1 refl)

clash_among : (seen ps : List Numbered) → clashed seen ps ≡ false → (p q : Numbered) → Member p ps → Member q ps → clashes p q ≡ false
unfolding clashed
clash_among seen (r ∷ ps) h p q (inl e) (inl f) = rw (e, f) (clash_self r)
clash_among seen (r ∷ ps) h p q (inl e) (inr n) =
    clash_sym p q ∙ clash_between (r ∷ seen) ps (or_r (any_of (clashes r) seen) (clashed (r ∷ seen) ps) h) q p n (inl e)
clash_among seen (r ∷ ps) h p q (inr m) (inl f) = clash_between (r ∷ seen) ps (or_r (any_of (clashes r) seen) (clashed (r ∷ seen) ps) h) p q m (inl f)
clash_among seen (r ∷ ps) h p q (inr m) (inr n) = clash_among (r ∷ seen) ps (or_r (any_of (clashes r) seen) (clashed (r ∷ seen) ps) h) p q m n
clash_among seen [] h p q x3 _ = elim x3 [ ]

same_number : (p q : Numbered) → clashes p q ≡ false → p.0 ≡ q.0 → p.1 ≡ q.1
same_number p q h e = eqb-true p.1 q.1 (not_false (eqb p.1 q.1) (sym (clash_equal p q (rw e (same_self q.0))) ∙ h))

same_id : (p q : Numbered) → clashes p q ≡ false → p.1 ≡ q.1 → p.0 ≡ q.0
same_id p q h e = elim (test (same p.0 q.0)) [
  | pass s ↦ same_sound p.0 q.0 s
  | fail s ↦ absurd (eqb-false p.1 q.1 (sym (clash_other p q s) ∙ h) e)
]

module _ (d : Dictionary) (ls : List Line) (free : dictionary_clash d ls ≡ false) where
  unclashed : clashed (implied_numbers d) (numbered_lines d ls ls) ≡ false
  unfolding dictionary_clash
  unclashed = free

  abbrev numbering : Line → Numbered
  numbering l = (l.id, id_number d ls l)

  -- a number of the dictionary is PASS's, or a line's
  data Source (p : Numbered) : Type 0 where
    unwritten : Member p (implied_numbers d) → Source p
    written : Member p (numbered_lines d ls ls) → Source p

  numbered_first : (p : Numbered) (seen : List Bytes) (ms : List Line) → Member p (numbered_lines d ls (first_lines seen ms)) → Member p (numbered_lines d ls ms)
  unfolding first_lines
  numbered_first p seen (m ∷ ms) h = elim (test (is_in m.id seen)) [
    | pass e ↦ inr (numbered_first p (m.id ∷ seen) ms (subst (λ (x : List Line). Member p (numbered_lines d ls x)) (first_old seen m ms e) h))
    | fail e ↦ elim (subst (λ (x : List Line). Member p (numbered_lines d ls x)) (first_new seen m ms e) h) [
      | inl i ↦ inl i
      | inr k ↦ inr (numbered_first p (m.id ∷ seen) ms k)
    ]
  ]
  numbered_first p seen [] h = elim h [ ]

  source : (p : Numbered) → Member p (dictionary d ls) → Source p
  source p m = elim (member_append p (implied_numbers d) (numbered_lines d ls (first_lines (implied d) ls)) m) [
    | inl a ↦ unwritten a
    | inr b ↦ written (numbered_first p (implied d) ls b)
  ]

  implied_apart : (d : Dictionary) (p q : Numbered) → Member p (implied_numbers d) → Member q (implied_numbers d) → clashes p q ≡ false
  unfolding same
  implied_apart Strings p q (inl e) (inl f) = rw (e, f) (clash_self (ascii "PASS", 0))
  implied_apart Contigs p q x3 _ = elim x3 [ ]
  implied_apart Strings p q (inr x5) _ = elim x5 [ ]
  implied_apart Strings p q (inl e) (inr x5) = elim x5 [ ]

  apart : (p q : Numbered) → Member p (dictionary d ls) → Member q (dictionary d ls) → clashes p q ≡ false
  apart p q m n = go (source p m) (source q n)
    where
      go : Source p → Source q → clashes p q ≡ false
      go (unwritten a) (unwritten b) = implied_apart d p q a b
      go (unwritten a) (written b) = clash_sym p q ∙ clash_between (implied_numbers d) (numbered_lines d ls ls) unclashed q p b a
      go (written a) (unwritten b) = clash_between (implied_numbers d) (numbered_lines d ls ls) unclashed p q a b
      go (written a) (written b) = clash_among (implied_numbers d) (numbered_lines d ls ls) unclashed p q a b

  -- an ID has at most one number
  pub one_number : (x : Bytes) (m n : ℕ) → Member (x, m) (dictionary d ls) → Member (x, n) (dictionary d ls) → m ≡ n
  one_number x m n a b = same_number (x, m) (x, n) (apart (x, m) (x, n) a b) refl

  -- two IDs have two numbers
  pub two_numbers : (x y : Bytes) (n : ℕ) → Member (x, n) (dictionary d ls) → Member (y, n) (dictionary d ls) → x ≡ y
  two_numbers x y n a b = same_id (x, n) (y, n) (apart (x, n) (y, n) a b) refl

  implied_number : (d' : Dictionary) (p : Numbered) → is_in p.0 (implied d') ≡ true → ((q : Numbered) → Member q (implied_numbers d') → clashes p q ≡ false) → Member p (implied_numbers d')
  unfolding is_in
  implied_number Strings p h f =
      let e : ascii "PASS" ≡ p.0 = same_sound (ascii "PASS") p.0 (sym (or-false (same (ascii "PASS") p.0)) ∙ h) in
      let n = same_number p (ascii "PASS", 0) (f (ascii "PASS", 0) (inl refl)) (sym e) in
      inl (ap₂ (λ (x : Bytes) (k : ℕ). (x, k)) (sym e) n)
  implied_number Contigs p h f = absurd (false≢true h)

  member_left : (p : Numbered) (xs ys : List Numbered) → Member p xs → Member p (xs ++ ys)
  member_left p (x ∷ xs) ys (inl e) = inl e
  member_left p (x ∷ xs) ys (inr m) = inr (member_left p xs ys m)
  member_left p [] ys x' = elim x' [ ]

  -- and each line's ID has the number of that line
  pub has_number : (l : Line) → Member l ls → Member (l.id, id_number d ls l) (dictionary d ls)
  has_number l m = elim (test (is_in l.id (implied d))) [
    | pass e ↦ member_left (numbering l) (implied_numbers d) _
        (implied_number d (numbering l) e (λ q k. clash_between (implied_numbers d) (numbered_lines d ls ls) unclashed (numbering l) q (member_map numbering l ls m) k))
    | fail e ↦
        let w = line_with l.id (first_lines (implied d) ls) (first_ids l.id (implied d) ls e ∙ id_member l ls m) in
        let f = w.line in
        let n = same_number (numbering l) (numbering f) (clash_among (implied_numbers d) (numbered_lines d ls ls) unclashed (numbering l) (numbering f)
        (member_map numbering l ls m) (member_map numbering f ls (first_member f (implied d) ls w.member))) (sym w.is) in
        let i : numbering l ≡ numbering f = ap₂ (λ (x : Bytes) (k : ℕ). (x, k)) (sym w.is) n in
        member_right (numbering l) (implied_numbers d) (numbered_lines d ls (first_lines (implied d) ls))
        (subst (λ (p : Numbered). Member p (numbered_lines d ls (first_lines (implied d) ls))) (sym i) (member_map numbering f (first_lines (implied d) ls) w.member))
  ]

-- PASS is 0
pub pass_zero : (ls : List Line) → Member (ascii "PASS", 0) (dictionary Strings ls)
pass_zero ls = inl refl

-- Without IDX

abbrev Bare : Line → Type 0
Bare l = l.idx ≡ None

bare : (l : Line) → carries l ≡ false → Bare l
bare l h = go l.idx refl h
  where
    go : (o : Option ℕ) → l.idx ≡ o → is_some o ≡ false → l.idx ≡ None
    go None e f = e
    go (Some n) e f = absurd (true≢false f)

all_bare : (ls : List Line) → any_of carries ls ≡ false → All Bare ls
unfolding any_of
all_bare [] h = tt
all_bare (l ∷ ls) h = (bare l (or_l (carries l) (any_of carries ls) h), all_bare ls (or_r (carries l) (any_of carries ls) h))

all_first : (P : Line → Type 0) (seen : List Bytes) (ls : List Line) → All P ls → All P (first_lines seen ls)
unfolding first_lines
all_first P seen [] h = tt
all_first P seen (l ∷ ls) h = elim (test (is_in l.id seen)) [
  | pass e ↦ subst (All P) (sym (first_old seen l ls e)) (all_first P (l.id ∷ seen) ls h.1)
  | fail e ↦ subst (All P) (sym (first_new seen l ls e)) (h.0, all_first P (l.id ∷ seen) ls h.1)
]

pub placed_number : (d : Dictionary) (ls : List Line) (l : Line) → l.idx ≡ None → id_number d ls l ≡ place l.id (ids_of d ls)
unfolding id_number
placed_number d ls l e = rw e

among_ids : (d : Dictionary) (ls : List Line) (x : Bytes) → is_in x (ids ls) ≡ true → is_in x (ids_of d ls) ≡ true
among_ids d ls x h = in_append x (implied d) (ids (first_lines (implied d) ls)) ∙ elim (test (is_in x (implied d))) [
  | pass e ↦ rw e
  | fail e ↦ rw (e, first_ids x (implied d) ls e) h
]

all_placed : (d : Dictionary) (ls ms : List Line) → ((x : Bytes) → is_in x (ids ms) ≡ true → is_in x (ids_of d ls) ≡ true) → All Bare ms → All (Placed (ids_of d ls)) (numbered_lines d ls ms)
unfolding is_in
all_placed d ls [] f h = tt
all_placed d ls (m ∷ ms) f h = (
  record { among = f m.id (in_same m.id m.id (ids ms) (same_self m.id)); is = placed_number d ls m h.0 },
  all_placed d ls ms (λ x i. f x (or_on (same m.id x) i)) h.1,
)

implied_placed : (d : Dictionary) (xs : List Bytes) → All (Placed (implied d ++ xs)) (implied_numbers d)
unfolding is_in same place
implied_placed Strings xs = (record { among = refl; is = refl }, tt)
implied_placed Contigs xs = tt

-- there is no clash
pub counted_free : (d : Dictionary) (ls : List Line) → any_of carries ls ≡ false → dictionary_clash d ls ≡ false
unfolding dictionary_clash
counted_free d ls h = placed_free (ids_of d ls) (implied_numbers d) (numbered_lines d ls ls) (implied_placed d (ids (first_lines (implied d) ls))) (all_placed d ls ls (among_ids d ls) (all_bare ls h))

-- n numbers from a first one on
unfoldable pub counting : ℕ → ℕ → List ℕ
counting from zero = []
counting from (suc n) = from ∷ counting (suc from) n

-- `seen` and xs have the same members
abbrev Alike : List Bytes → List Bytes → Type 0
Alike seen xs = (x : Bytes) → is_in x seen ≡ is_in x xs

alike_old : (seen xs : List Bytes) (y : Bytes) → Alike seen xs → is_in y seen ≡ true → Alike (y ∷ seen) xs
unfolding is_in
alike_old seen xs y r h x = elim (test (same y x)) [
  | pass e ↦ in_same x y seen e ∙ sym (sym (r x) ∙ subst (λ (z : Bytes). is_in z seen ≡ true) (same_sound y x e) h)
  | fail e ↦ in_other x y seen e ∙ r x
]

alike_new : (seen xs : List Bytes) (y : Bytes) → Alike seen xs → Alike (y ∷ seen) (xs ++ y ∷ [])
unfolding is_in
alike_new seen xs y r x = rw (in_append x xs (y ∷ []), r x, or-false (same y x)) (or_comm (same y x) (is_in x xs))

places_count : (xs seen : List Bytes) (ls : List Line) → Alike seen xs
    → map (λ (l : Line). place l.id (xs ++ ids (first_lines seen ls))) (first_lines seen ls) ≡ counting (length xs) (length (first_lines seen ls))
unfolding first_lines counting
places_count xs seen [] r = refl
places_count xs seen (l ∷ ls) r = elim (test (is_in l.id seen)) [
  | pass e ↦ rw (first_old seen l ls e) (places_count xs (l.id ∷ seen) ls (alike_old seen xs l.id r e))
  | fail e ↦
      let fs = first_lines (l.id ∷ seen) ls in
      let a : (xs ++ l.id ∷ []) ++ ids fs ≡ xs ++ l.id ∷ ids fs = append_assoc xs (l.id ∷ []) (ids fs) in
      let n : length (xs ++ l.id ∷ []) ≡ suc (length xs) = length-append xs (l.id ∷ []) ∙ omega arith in
      let ih = places_count (xs ++ l.id ∷ []) (l.id ∷ seen) ls (alike_new seen xs l.id r) in
      rw (first_new seen l ls e) (ap₂ ◌∷◌ (place_new l.id xs (ids fs) (sym (r l.id) ∙ e)) (rw (a, n) at ih))
]

module _ (d : Dictionary) (ls : List Line) where
  numbers_of : (ms : List Line) → All Bare ms → map (λ (p : Numbered). p.1) (numbered_lines d ls ms) ≡ map (λ (l : Line). place l.id (ids_of d ls)) ms
  numbers_of [] h = refl
  numbers_of (m ∷ ms) h = ap₂ ◌∷◌ (placed_number d ls m h.0) (numbers_of ms h.1)

  numbered_length : (ms : List Line) → length (numbered_lines d ls ms) ≡ length ms
  numbered_length [] = refl
  numbered_length (m ∷ ms) = ap suc (numbered_length ms)

  later_numbers : any_of carries ls ≡ false → let fs = first_lines (implied d) ls in map (λ (p : Numbered). p.1) (numbered_lines d ls fs) ≡ counting (length (implied d)) (length (numbered_lines d ls fs))
  later_numbers h =
      let fs = first_lines (implied d) ls in
      numbers_of fs (all_first Bare (implied d) ls (all_bare ls h)) ∙ places_count (implied d) (implied d) ls (λ x. refl) ∙ ap (counting (length (implied d))) (sym (numbered_length fs))

-- the numbers are 0, 1, 2 and so on, with no gap
pub no_gap : (d : Dictionary) (ls : List Line) → any_of carries ls ≡ false → map (λ (p : Numbered). p.1) (dictionary d ls) ≡ counting 0 (length (dictionary d ls))
unfolding counting
no_gap Strings ls h = ap (0 ∷◌) (later_numbers Strings ls h)
no_gap Contigs ls h = later_numbers Contigs ls h
