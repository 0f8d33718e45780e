-- What is read, or the number of its refusal; and the first refusal of a list. Assumes nothing.
use Rattle.std.specs.Prelude.{ℕ, zero, suc, Bool, true, false, List, [], ◌∷◌}

pub data Answer (A : Type 0) : Type 0 where
  ok : A → Answer A
  refuse : ℕ → Answer A

infixl 15 ◌>>=◌
-- what follows is read only if this was
abbrev pub ◌>>=◌ : {A B : Type 0} → Answer A → (A → Answer B) → Answer B
ok a >>= f = f a
refuse n >>= f = refuse n

-- the number, unless the test holds
abbrev pub unless : Bool → ℕ → ℕ
unless true n = 0
unless false n = n

-- the first number that is not 0; 0, where there is none
unfoldable pub first : List ℕ → ℕ
first [] = 0
first (zero ∷ ns) = first ns
first (suc n ∷ ns) = suc n

-- refused by the number, where it is not 0
abbrev pub judged : {A : Type 0} → ℕ → A → Answer A
judged zero a = ok a
judged (suc n) a = refuse (suc n)
