-- The rest of a list at a place and at the next, and laws of `before`, `from` and `any`. Assumes nothing.
use Prim.Native.Nat.{ℕ, ◌+◌, ◌-◌, ◌≤◌, ◌<◌}
use native.Mathlib.Numerals.{add-one}
use native.Mathlib.Decide.{dec_le}
use native.Mathlib.Omega.{arith}
use mathlib.Core.Path.{◌≡◌, refl, sym, ap, ◌∙◌}
use mathlib.Core.Bool.{Bool, true, false, ◌||◌, or_assoc}
use mathlib.Core.List.{List, [], ◌∷◌, ◌++◌, tail}
use Rattle.std.specs.Prelude.{Option, None, Some}
use lib.ListN.{length, get_or, take, drop, length-drop, drop_of_length-le}
use lib.Seq.{drop-cons, drop-drop, take_all}
use borrow.Author.Tests.{eqb-true}
use Rattle.values.specs.Bytes.{Bytes, is, begins, any, before, from}
use Rattle.values.proofs.Tests.{pass, fail, test, or_l, or_r, both, never}

pub here : (s : List ℕ) (i : ℕ) → i < length s → drop i s ≡ get_or s i 0 ∷ drop (i + 1) s
here s i h = rw (add-one, drop-cons s i 0)

-- what holds of an answer, if there is one
abbrev pub OnSome : {A : Type 0} → (A → Type 0) → Option A → Type 0
OnSome P None = Unit {0}
OnSome P (Some x) = P x

pub on_some : {A : Type 0} (P : A → Type 0) {a : Option A} {x : A} → OnSome P a → a ≡ Some x → P x
on_some P h e = rw e at h

pub some_is : {A : Type 0} {x y : A} → Some x ≡ Some y → x ≡ y
some_is e = cc

pub none_not : {A B : Type 0} {x : A} → ◌≡◌ {A = Option A} None (Some x) → B
none_not e = never cc

pub some_not : {A B : Type 0} {x : A} → ◌≡◌ {A = Option A} (Some x) None → B
some_not e = none_not (sym e)

-- two answers that are the same, part by part
pub some_pair : {A B : Type 0} {a x : A} {b y : B} → ◌≡◌ {A = Option (A × B)} (Some (a, b)) (Some (x, y)) → (a ≡ x) × (b ≡ y)
some_pair {A} {B} {a} {x} {b} {y} e = let p = some_is {A = A × B} {x = (a, b)} {y = (x, y)} e in (ap (λ (q : A × B). q.0) p, ap (λ (q : A × B). q.1) p)

pub some_three : {A B C : Type 0} {a x : A} {b y : B} {c z : C} → ◌≡◌ {A = Option (A × B × C)} (Some (a, b, c)) (Some (x, y, z)) → (a ≡ x) × (b ≡ y) × (c ≡ z)
some_three {A} {B} {C} {a} {x} {b} {y} {c} {z} e =
    let p = some_is {A = A × B × C} {x = (a, b, c)} {y = (x, y, z)} e in (ap (λ (q : A × B × C). q.0) p, ap (λ (q : A × B × C). q.1) p, ap (λ (q : A × B × C). q.2) p)

-- a place is before the end, or past it
pub data Stands (s : List ℕ) (i : ℕ) : Type 0 where
  there : i < length s → Stands s i
  past : length s ≤ i → Stands s i

pub stands : (s : List ℕ) (i : ℕ) → Stands s i
stands s i = go (dec_le (length s) i)
  where
    go : Dec (length s ≤ i) → Stands s i
    go (yes h) = past h
    go (no n) = there (omega arith)

pub drop_past : (s : List ℕ) (i : ℕ) → length s ≤ i → drop i s ≡ []
drop_past s i h = drop_of_length-le s h

-- `&s[a..]` is all from a on
pub rest : (s : List ℕ) (a : ℕ) → take (length s - a) (drop a s) ≡ drop a s
rest s a = take_all (length s - a) (drop a s) (omega (arith, length-drop a s))

pub any_append : (t : ℕ → Bool) (xs ys : Bytes) → any t (xs ++ ys) ≡ (any t xs || any t ys)
unfolding any
any_append t [] ys = refl
any_append t (b ∷ xs) ys = rw (any_append t xs ys) (sym (or_assoc (t b) (any t xs) (any t ys)))

-- where s passes less than t
pub any_less : (s t : ℕ → Bool) → ((b : ℕ) → s b ≡ true → t b ≡ true) → (bs : Bytes) → any t bs ≡ false → any s bs ≡ false
unfolding any
any_less s t f [] h = refl
any_less s t f (b ∷ bs) h = elim (test (s b)) [
  | pass e ↦ both (f b e) (or_l (t b) (any t bs) h)
  | fail e ↦ rw e (any_less s t f bs (or_r (t b) (any t bs) h))
]

pub before_hit : (t : ℕ → Bool) (b : ℕ) (bs : Bytes) → t b ≡ true → before t (b ∷ bs) ≡ []
unfolding before
before_hit t b bs e = rw (e, before)

pub before_miss : (t : ℕ → Bool) (b : ℕ) (bs : Bytes) → t b ≡ false → before t (b ∷ bs) ≡ b ∷ before t bs
unfolding before
before_miss t b bs e = rw (e, before)

pub from_hit : (t : ℕ → Bool) (b : ℕ) (bs : Bytes) → t b ≡ true → from t (b ∷ bs) ≡ b ∷ bs
unfolding from
from_hit t b bs e = rw (e, from)

pub from_miss : (t : ℕ → Bool) (b : ℕ) (bs : Bytes) → t b ≡ false → from t (b ∷ bs) ≡ from t bs
unfolding from
from_miss t b bs e = rw (e, from)

-- the two make the whole
pub before_from : (t : ℕ → Bool) (bs : Bytes) → before t bs ++ from t bs ≡ bs
unfolding before from
before_from t [] = refl
before_from t (b ∷ bs) = elim (test (t b)) [
  | pass e ↦ rw (before_hit t b bs e, from_hit t b bs e)
  | fail e ↦ rw (before_miss t b bs e, from_miss t b bs e, before_from t bs)
]

pub before_none : (t : ℕ → Bool) (bs : Bytes) → any t (before t bs) ≡ false
unfolding before any
before_none t [] = refl
before_none t (b ∷ bs) = elim (test (t b)) [
  | pass e ↦ rw (before_hit t b bs e)
  | fail e ↦ rw (before_miss t b bs e, e) (before_none t bs)
]

-- a run without such a byte, then one
pub before_stop : (t : ℕ → Bool) (xs : Bytes) (c : ℕ) (ys : Bytes) → any t xs ≡ false → t c ≡ true → before t (xs ++ c ∷ ys) ≡ xs
unfolding any
before_stop t [] c ys h k = before_hit t c ys k
before_stop t (b ∷ xs) c ys h k = rw (before_miss t b (xs ++ c ∷ ys) (or_l (t b) _ h), before_stop t xs c ys (or_r (t b) _ h) k)

pub from_stop : (t : ℕ → Bool) (xs : Bytes) (c : ℕ) (ys : Bytes) → any t xs ≡ false → t c ≡ true → from t (xs ++ c ∷ ys) ≡ c ∷ ys
unfolding any
from_stop t [] c ys h k = from_hit t c ys k
from_stop t (b ∷ xs) c ys h k = rw (from_miss t b (xs ++ c ∷ ys) (or_l (t b) _ h), from_stop t xs c ys (or_r (t b) _ h) k)

pub from_drop : (t : ℕ → Bool) (bs : Bytes) → from t bs ≡ drop (length (before t bs)) bs
unfolding before from
from_drop t [] = refl
from_drop t (b ∷ bs) = elim (test (t b)) [
  | pass e ↦ rw (before_hit t b bs e, from_hit t b bs e)
  | fail e ↦ rw (before_miss t b bs e, from_miss t b bs e) (from_drop t bs)
]

-- the same of the rest at i
pub from_at : (t : ℕ → Bool) (s : Bytes) (i : ℕ) → from t (drop i s) ≡ drop (i + length (before t (drop i s))) s
from_at t s i = from_drop t (drop i s) ∙ drop-drop (length (before t (drop i s))) i s

pub from_none : (t : ℕ → Bool) (bs : Bytes) → from t bs ≡ [] → any t bs ≡ false
unfolding from any
from_none t [] e = refl
from_none t (b ∷ bs) e = elim (test (t b)) [
  | pass q ↦ let f : b ∷ bs ≡ [] = sym (from_hit t b bs q) ∙ e in cc
  | fail q ↦ rw q (from_none t bs (sym (from_miss t b bs q) ∙ e))
]

pub from_some : (t : ℕ → Bool) (bs : Bytes) {c : ℕ} {r : Bytes} → from t bs ≡ c ∷ r → any t bs ≡ true
unfolding from any
from_some t [] e = cc
from_some t (b ∷ bs) e = elim (test (t b)) [
  | pass q ↦ rw q
  | fail q ↦ rw q (from_some t bs (sym (from_miss t b bs q) ∙ e))
]

pub from_first : (t : ℕ → Bool) (bs : Bytes) {c : ℕ} {r : Bytes} → from t bs ≡ c ∷ r → t c ≡ true
unfolding from
from_first t [] e = cc
from_first t (b ∷ bs) {c} {r} e = elim (test (t b)) [
  | pass q ↦ let f : b ∷ bs ≡ c ∷ r = sym (from_hit t b bs q) ∙ e in let g : b ≡ c = cc in rw g at q
  | fail q ↦ from_first t bs (sym (from_miss t b bs q) ∙ e)
]

pub from_begins : (x : ℕ) (bs : Bytes) {c : ℕ} {r : Bytes} → from (is x) bs ≡ c ∷ r → begins x (from (is x) bs) ≡ true
unfolding begins
from_begins x bs e = rw e (from_first (is x) bs e)

-- where a byte passes a test that only c passes, c stands first
pub from_is : (c : ℕ) (bs : Bytes) → any (is c) bs ≡ true → from (is c) bs ≡ c ∷ tail (from (is c) bs)
unfolding from any
from_is c [] e = cc
from_is c (b ∷ bs) e = elim (test (is c b)) [
  | pass q ↦ rw (from_hit (is c) b bs q, eqb-true b c q)
  | fail q ↦ rw (from_miss (is c) b bs q) (from_is c bs (rw q at e))
]
