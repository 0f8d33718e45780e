-- The first refusal of a list, and what holds of an answer. Assumes nothing.
use Prim.Native.Nat.{ℕ, zero, suc}
use native.Mathlib.Omega.{arith}
use mathlib.Core.Path.{◌≡◌, refl}
use mathlib.Core.Bool.{Bool, true, false}
use mathlib.Core.List.{List, [], ◌∷◌}
use Rattle.rules.specs.Answer.{Answer, ok, refuse, ◌>>=◌, unless, first, judged}

pub first_zero : (a : ℕ) (ns : List ℕ) → first (a ∷ ns) ≡ 0 → (a ≡ 0) × (first ns ≡ 0)
unfolding first
first_zero zero ns h = (refl, h)
first_zero (suc a) ns h = absurd (omega arith)

pub zero_first : (a : ℕ) (ns : List ℕ) → a ≡ 0 → first ns ≡ 0 → first (a ∷ ns) ≡ 0
unfolding first
zero_first a ns e h = rw e h

pub first_nil : first [] ≡ 0
unfolding first
first_nil = refl

pub zero_unless : (b : Bool) (n : ℕ) → unless b (suc n) ≡ 0 → b ≡ true
zero_unless true n e = refl
zero_unless false n e = absurd (omega arith)

-- what holds of what was read
abbrev pub OnOk : {A : Type 0} → (A → Type 0) → Answer A → Type 0
OnOk P (ok a) = P a
OnOk P (refuse n) = Unit {0}

pub on_ok : {A : Type 0} (P : A → Type 0) {a : Answer A} {x : A} → OnOk P a → a ≡ ok x → P x
on_ok P h e = rw e at h

pub map_ok : {A : Type 0} (P Q : A → Type 0) (a : Answer A) → ((x : A) → P x → Q x) → OnOk P a → OnOk Q a
map_ok P Q (ok x) f h = f x h
map_ok P Q (refuse n) f h = tt

pub bind_ok : {A B : Type 0} (P : A → Type 0) (Q : B → Type 0) (a : Answer A) (f : A → Answer B) → OnOk P a → ((x : A) → P x → OnOk Q (f x)) → OnOk Q (a >>= f)
bind_ok P Q (ok x) f h k = k x h
bind_ok P Q (refuse n) f h k = tt

pub judged_ok : {A : Type 0} (P : A → Type 0) (n : ℕ) (a : A) → (n ≡ 0 → P a) → OnOk P (judged n a)
judged_ok P zero a h = h refl
judged_ok P (suc n) a h = tt

pub judged_zero : {A : Type 0} {n : ℕ} (a : A) → n ≡ 0 → judged n a ≡ ok a
judged_zero a e = rw e

-- an answer by cases, with the equation kept
pub data Seen {A : Type 0} (a : Answer A) : Type 0 where
  was : (x : A) → a ≡ ok x → Seen a
  not_read : (n : ℕ) → a ≡ refuse n → Seen a

pub see : {A : Type 0} (a : Answer A) → Seen a
see (ok x) = was x refl
see (refuse n) = not_read n refl
