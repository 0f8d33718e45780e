-- Integers as a header spells them, and a number's decimal form. Assumes nothing.
use Rattle.std.specs.Prelude.{ℕ, zero, suc, ◌+◌, ◌-◌, ◌*◌, ◌/◌, ◌%◌, ◌^◌, Bool, true, false, not, ◌||◌, ◌&&◌, length, eqb, leb, ltb, Option, Some, None}
use mathlib.Core.List.{[], ◌∷◌, ◌++◌, tail}
use Rattle.values.specs.Bytes.{Bytes, empty, begins, any, PLUS}

abbrev pub is_digit : ℕ → Bool
is_digit b = leb 48 b && leb b 57

abbrev pub is_no_digit : ℕ → Bool
is_no_digit b = not (is_digit b)

-- the number that digits spell: each at its power of ten
unfoldable pub number_of : Bytes → ℕ
number_of [] = 0
number_of (b ∷ bs) = (b - 48) * 10 ^ length bs + number_of bs

-- one digit or more, nothing else, and a number of at most bound
abbrev pub spells : ℕ → Bytes → Bool
spells bound bs = not (empty bs) && (not (any is_no_digit bs) && leb (number_of bs) bound)

-- plainly spelled: no sign, and no leading zero unless the number is the one digit 0
abbrev pub is_plain : Bytes → Bool
is_plain bs = not (begins PLUS bs) && (not (begins 48 bs) || eqb (length bs) 1)

abbrev pub value_if : Bool → ℕ → Bool → Option (ℕ × Bool)
value_if true n plain = Some (n, plain)
value_if false n plain = None

-- digits; `plain`: how the whole integer was spelled
unfoldable pub unsigned_read : ℕ → Bool → Bytes → Option (ℕ × Bool)
unsigned_read bound plain bs = value_if (spells bound bs) (number_of bs) plain

-- without one `+` in front, where a sign is allowed
unfoldable pub without_sign : Bool → Bytes → Bytes
without_sign allowed bs = elim (allowed && begins PLUS bs) [ true ↦ tail bs | false ↦ bs ]

abbrev pub integer_read : Bool → ℕ → Bytes → Option (ℕ × Bool)
integer_read allowed bound bs = unsigned_read bound (is_plain bs) (without_sign allowed bs)

-- IDX, length and a numeric Number: Rust's `parse` of an unsigned 64-bit number
abbrev pub u64_read : Bytes → Option (ℕ × Bool)
u64_read = integer_read true (2 ^ 64 - 1)

-- a part of a version: no sign, 32 bits
abbrev pub u32_read : Bytes → Option (ℕ × Bool)
u32_read = integer_read false (2 ^ 32 - 1)

-- the digits of n, the last one first taken off; n itself is more than the digits that there are
unfoldable pub digits_of : ℕ → ℕ → Bytes
digits_of zero n = (48 + n % 10) ∷ []
digits_of (suc more) n = elim (ltb n 10) [ true ↦ (48 + n) ∷ [] | false ↦ digits_of more (n / 10) ++ (48 + n % 10) ∷ [] ]

-- without leading zeros
unfoldable pub decimal : ℕ → Bytes
decimal n = digits_of n n
