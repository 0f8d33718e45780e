-- Facts of every element of a list, and membership. Assumes nothing.
use Prim.Native.Nat.{ℕ, zero, suc}
use mathlib.Core.Path.{◌≡◌, refl, sym, ap₂}
use mathlib.Core.Bool.{true, ◌||◌, or_assoc}
use mathlib.Core.List.{List, [], ◌∷◌, ◌++◌, map}
use lib.ListN.{take, drop}
use Rattle.values.specs.Bytes.{Bytes, same}
use Rattle.values.proofs.Tests.{or_on}
use Rattle.rules.specs.Known.{is_in}
use Rattle.values.proofs.Sames.{same_self}
use Rattle.rules.specs.Claims.{All}

pub all_map : {A : Type 0} (P Q : A → Type 0) (xs : List A) → ((x : A) → P x → Q x) → All P xs → All Q xs
all_map P Q [] f h = tt
all_map P Q (x ∷ xs) f h = (f x h.0, all_map P Q xs f h.1)

pub all_take : {A : Type 0} (P : A → Type 0) (n : ℕ) (xs : List A) → All P xs → All P (take n xs)
all_take P zero xs h = tt
all_take P (suc n) [] h = tt
all_take P (suc n) (x ∷ xs) h = (h.0, all_take P n xs h.1)

pub all_drop : {A : Type 0} (P : A → Type 0) (n : ℕ) (xs : List A) → All P xs → All P (drop n xs)
all_drop P zero xs h = h
all_drop P (suc n) [] h = tt
all_drop P (suc n) (x ∷ xs) h = all_drop P n xs h.1

pub all_append : {A : Type 0} (P : A → Type 0) (xs ys : List A) → All P xs → All P ys → All P (xs ++ ys)
all_append P [] ys h k = k
all_append P (x ∷ xs) ys h k = (h.0, all_append P xs ys h.1 k)

pub all_left : {A : Type 0} (P : A → Type 0) (xs ys : List A) → All P (xs ++ ys) → All P xs
all_left P [] ys h = tt
all_left P (x ∷ xs) ys h = (h.0, all_left P xs ys h.1)

pub map_same : {A B : Type 0} (f g : A → B) (xs : List A) → All (λ x. f x ≡ g x) xs → map f xs ≡ map g xs
map_same f g [] h = refl
map_same f g (x ∷ xs) h = ap₂ ◌∷◌ h.0 (map_same f g xs h.1)

-- what holds of each member
pub all_in : (P : Bytes → Type 0) (ns : List Bytes) → ((n : Bytes) → is_in n ns ≡ true → P n) → All P ns
unfolding is_in
all_in P [] f = tt
all_in P (n ∷ ns) f = (f n (rw (same_self n)), all_in P ns (λ m h. f m (or_on (same n m) h)))

pub in_append : (k : Bytes) (xs ys : List Bytes) → is_in k (xs ++ ys) ≡ (is_in k xs || is_in k ys)
unfolding is_in
in_append k [] ys = refl
in_append k (x ∷ xs) ys = rw (in_append k xs ys) (sym (or_assoc (same x k) (is_in k xs) (is_in k ys)))
