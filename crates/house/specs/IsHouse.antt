-- Document 02 §13: whether a header is its own house form. Assumes nothing.
use Rattle.std.specs.Prelude.{ℕ, zero, suc, ◌≤◌, ◌<◌, ◌≡◌, Bool, true, false, [], ◌∷◌, eqb, length, get_or, take, Option}
use Rattle.values.specs.Bytes.{Bytes, same}
use Rattle.rules.specs.Sizes.{Limits}
use Rattle.rules.specs.Version.{Version}
use Rattle.rules.specs.House.{HouseReading, house}

-- how many bytes two texts have in common before the first place where they differ, or the shorter one ends
unfoldable pub first_difference : Bytes → Bytes → ℕ
first_difference [] y = 0
first_difference (a ∷ x) [] = 0
first_difference (a ∷ x) (b ∷ y) = elim (eqb a b) [ true ↦ suc (first_difference x y) | false ↦ 0 ]

-- the texts are the same before place n, and not at it: a text ends there, or their bytes differ
pub record FirstDiffers (x y : Bytes) (n : ℕ) : Type 0 where
  pub before : take n x ≡ take n y
  pub left : n ≤ length x
  pub right : n ≤ length y
  pub here : n < length x → n < length y → get_or x n 0 ≡ get_or y n 0 → ⊥

-- a house-form call's answer, and the verdict
pub record IsHouse : Type 0 where
  pub number : ℕ
  pub line : ℕ
  pub start : ℕ
  pub holds : Bool
  pub place : ℕ

abbrev pub answered_as : HouseReading → Bool → ℕ → IsHouse
answered_as f holds place = record { number = f.number; line = f.line; start = f.start; holds = holds; place = place }

abbrev pub held_as : HouseReading → Bool → ℕ → IsHouse
held_as f true place = answered_as f true 0
held_as f false place = answered_as f false place

-- yes, place 0; or no, and where the header and the form differ; or the call is refused
abbrev pub judged : Bytes → HouseReading → ℕ → IsHouse
judged h f zero = held_as f (same h f.form) (first_difference h f.form)
judged h f (suc n) = answered_as f false 0

-- a header is read, and its form held against it: the header limit is room enough for a form that may stand
unfoldable pub is_house : Limits → Option Version → ℕ → Bytes → IsHouse
is_house lim imposed tableRoom h = let f = house lim imposed tableRoom lim.header h in judged h f f.number
