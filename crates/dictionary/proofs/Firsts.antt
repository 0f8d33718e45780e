-- First lines, places and clashes, on plain lists. Assumes nothing.
use Prim.Native.Nat.{ℕ, suc}
use native.Mathlib.Omega.{arith}
use mathlib.Core.Path.{◌≡◌, refl, sym, ap, ◌∙◌}
use mathlib.Core.Bool.{Bool, true, false, not, ◌||◌, true≢false, false≢true, or_assoc}
use mathlib.Core.List.{List, [], ◌∷◌, ◌++◌, map}
use lib.Dec.{eqb}
use lib.ListN.{length}
use borrow.Author.Tests.{eqb-true, eqb-false, eq-eqb, ne_eqb}
use Rattle.values.specs.Bytes.{Bytes, same}
use Rattle.values.proofs.Tests.{pass, fail, test, or_l, or_r}
use Rattle.values.proofs.Sames.{same_sound, same_self, same_sym}
use Rattle.rules.specs.Known.{is_in}
use Rattle.dictionary.specs.Dictionary.{Line, any_of, first_lines, place, Numbered, clashes, clashed}
use Rattle.rules.specs.Claims.{All}

-- One of these passes the test

pub any_append : {A : Type 0} (t : A → Bool) (xs ys : List A) → any_of t (xs ++ ys) ≡ (any_of t xs || any_of t ys)
unfolding any_of
any_append t [] ys = refl
any_append t (x ∷ xs) ys = rw (any_append t xs ys) (sym (or_assoc (t x) (any_of t xs) (any_of t ys)))

pub any_none : {A : Type 0} (t : A → Bool) (xs : List A) → All (λ x. t x ≡ false) xs → any_of t xs ≡ false
unfolding any_of
any_none t [] h = refl
any_none t (x ∷ xs) h = rw (h.0, any_none t xs h.1)

-- First lines

abbrev pub ids : List Line → List Bytes
ids ls = map (λ (l : Line). l.id) ls

pub first_new : (seen : List Bytes) (l : Line) (ls : List Line) → is_in l.id seen ≡ false → first_lines seen (l ∷ ls) ≡ l ∷ first_lines (l.id ∷ seen) ls
unfolding first_lines
first_new seen l ls e = rw e

pub first_old : (seen : List Bytes) (l : Line) (ls : List Line) → is_in l.id seen ≡ true → first_lines seen (l ∷ ls) ≡ first_lines (l.id ∷ seen) ls
unfolding first_lines
first_old seen l ls e = rw e

pub in_same : (x y : Bytes) (xs : List Bytes) → same y x ≡ true → is_in x (y ∷ xs) ≡ true
unfolding is_in
in_same x y xs e = rw e

pub in_other : (x y : Bytes) (xs : List Bytes) → same y x ≡ false → is_in x (y ∷ xs) ≡ is_in x xs
unfolding is_in
in_other x y xs e = rw e

-- the first lines have all IDs that are not among `seen`
pub first_ids : (x : Bytes) (seen : List Bytes) (ls : List Line) → is_in x seen ≡ false → is_in x (ids (first_lines seen ls)) ≡ is_in x (ids ls)
unfolding is_in first_lines
first_ids x seen [] o = refl
first_ids x seen (l ∷ ls) o = elim (test (same l.id x)) [
  | pass s ↦
      let new = rw (sym (same_sound l.id x s)) at o in
      ap (λ (ms : List Line). is_in x (ids ms)) (first_new seen l ls new) ∙ in_same x l.id (ids (first_lines (l.id ∷ seen) ls)) s ∙ sym (in_same x l.id (ids ls) s)
  | fail s ↦
      let ih = first_ids x (l.id ∷ seen) ls (in_other x l.id seen s ∙ o) in
      elim (test (is_in l.id seen)) [
        | pass b ↦ ap (λ (ms : List Line). is_in x (ids ms)) (first_old seen l ls b) ∙ ih ∙ sym (in_other x l.id (ids ls) s)
        | fail b ↦ ap (λ (ms : List Line). is_in x (ids ms)) (first_new seen l ls b) ∙ in_other x l.id (ids (first_lines (l.id ∷ seen) ls)) s ∙ ih ∙ sym (in_other x l.id (ids ls) s)
      ]
]

-- the IDs of these lines, the last one first, and those before them
abbrev pub onto : List Line → List Bytes → List Bytes
onto [] seen = seen
onto (l ∷ ls) seen = onto ls (l.id ∷ seen)

turned : (a b c : Bool) → (a || (b || c)) ≡ ((b || a) || c)
turned true true c = refl
turned true false c = refl
turned false true c = refl
turned false false c = refl

pub in_onto : (x : Bytes) (ls : List Line) (seen : List Bytes) → is_in x (onto ls seen) ≡ (is_in x (ids ls) || is_in x seen)
unfolding is_in
in_onto x [] seen = refl
in_onto x (l ∷ ls) seen = in_onto x ls (l.id ∷ seen) ∙ turned (is_in x (ids ls)) (same l.id x) (is_in x seen)

pub first_append : (seen : List Bytes) (xs ys : List Line) → first_lines seen (xs ++ ys) ≡ first_lines seen xs ++ first_lines (onto xs seen) ys
unfolding first_lines
first_append seen [] ys = refl
first_append seen (x ∷ xs) ys = elim (test (is_in x.id seen)) [
  | pass e ↦ first_old seen x (xs ++ ys) e ∙ first_append (x.id ∷ seen) xs ys ∙ ap (◌++ first_lines (onto xs (x.id ∷ seen)) ys) (sym (first_old seen x xs e))
  | fail e ↦ first_new seen x (xs ++ ys) e ∙ ap (x ∷◌) (first_append (x.id ∷ seen) xs ys) ∙ ap (◌++ first_lines (onto xs (x.id ∷ seen)) ys) (sym (first_new seen x xs e))
]

pub onto_append : (xs ys : List Line) (seen : List Bytes) → onto (xs ++ ys) seen ≡ onto ys (onto xs seen)
onto_append [] ys seen = refl
onto_append (x ∷ xs) ys seen = onto_append xs ys (x.id ∷ seen)

-- Places

pub place_same : (x y : Bytes) (ys : List Bytes) → same y x ≡ true → place x (y ∷ ys) ≡ 0
unfolding place
place_same x y ys e = rw (e, place)

pub place_other : (x y : Bytes) (ys : List Bytes) → same y x ≡ false → place x (y ∷ ys) ≡ suc (place x ys)
unfolding place
place_other x y ys e = rw (e, place)

pub place_new : (x : Bytes) (xs ys : List Bytes) → is_in x xs ≡ false → place x (xs ++ x ∷ ys) ≡ length xs
unfolding is_in
place_new x [] ys e = place_same x x ys (same_self x)
place_new x (y ∷ xs) ys e = place_other x y (xs ++ x ∷ ys) (or_l (same y x) (is_in x xs) e) ∙ ap suc (place_new x xs ys (or_r (same y x) (is_in x xs) e))

pub places_differ : (x y : Bytes) (xs : List Bytes) → is_in x xs ≡ true → is_in y xs ≡ true → place x xs ≡ place y xs → x ≡ y
unfolding is_in
places_differ x y [] a b e = absurd (false≢true a)
places_differ x y (z ∷ xs) a b e = elim (test (same z x)) [
  | pass s ↦ elim (test (same z y)) [
    | pass t ↦ sym (same_sound z x s) ∙ same_sound z y t
    | fail t ↦ absurd (omega (arith, sym (place_same x z xs s) ∙ e ∙ place_other y z xs t))
  ]
  | fail s ↦ elim (test (same z y)) [
    | pass t ↦ absurd (omega (arith, sym (place_other x z xs s) ∙ e ∙ place_same y z xs t))
    | fail t ↦ places_differ x y xs (rw s at a) (rw t at b) (omega (arith, sym (place_other x z xs s) ∙ e ∙ place_other y z xs t))
  ]
]

-- Clashes

pub clash_equal : (p q : Numbered) → same p.0 q.0 ≡ true → clashes p q ≡ not (eqb p.1 q.1)
clash_equal p q e = rw e

pub clash_other : (p q : Numbered) → same p.0 q.0 ≡ false → clashes p q ≡ eqb p.1 q.1
clash_other p q e = rw e

pub clash_sym : (p q : Numbered) → clashes p q ≡ clashes q p
clash_sym p q = rw (same_sym p.0 q.0, eqb_sym p.1 q.1)
  where
    eqb_sym : (m n : ℕ) → eqb m n ≡ eqb n m
    eqb_sym m n = elim (test (eqb m n)) [
      | pass e ↦ e ∙ sym (eq-eqb n m (sym (eqb-true m n e)))
      | fail e ↦ e ∙ sym (ne_eqb n m (λ i. eqb-false m n e (sym i)))
    ]

-- an ID of these, with its place among them
pub record Placed (xs : List Bytes) (p : Numbered) : Type 0 where
  pub among : is_in p.0 xs ≡ true
  pub is : p.1 ≡ place p.0 xs

pub placed_apart : (xs : List Bytes) (p q : Numbered) → Placed xs p → Placed xs q → clashes p q ≡ false
placed_apart xs p q a b = elim (test (same p.0 q.0)) [
  | pass e ↦
      let i : p.1 ≡ q.1 = a.is ∙ ap (λ (x : Bytes). place x xs) (same_sound p.0 q.0 e) ∙ sym b.is in
      clash_equal p q e ∙ ap not (eq-eqb p.1 q.1 i)
  | fail e ↦ clash_other p q e ∙ ne_eqb p.1 q.1 (λ i.
      let s = places_differ p.0 q.0 xs a.among b.among (sym a.is ∙ i ∙ b.is) in
      true≢false (sym (same_self q.0) ∙ (rw s at e)))
]

pub none_clashes : (xs : List Bytes) (p : Numbered) (ps : List Numbered) → Placed xs p → All (Placed xs) ps → any_of (clashes p) ps ≡ false
unfolding any_of
none_clashes xs p [] a h = refl
none_clashes xs p (q ∷ ps) a h = rw (placed_apart xs p q a h.0, none_clashes xs p ps a h.1)

pub placed_free : (xs : List Bytes) (seen ps : List Numbered) → All (Placed xs) seen → All (Placed xs) ps → clashed seen ps ≡ false
unfolding clashed
placed_free xs seen [] a h = refl
placed_free xs seen (p ∷ ps) a h = rw (none_clashes xs p seen h.0 a, placed_free xs (p ∷ seen) ps (h.0, a) h.1)
