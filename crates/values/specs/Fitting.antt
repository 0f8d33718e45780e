-- UTF-8 by the three bytes before each byte: the texts are those of RFC 3629's rows, but no byte waits for what was made of another, so that
-- many can be judged at once. Assumes nothing.
use Rattle.std.specs.Prelude.{ℕ, ◌-◌, Bool, true, false, not, ◌&&◌, ◌||◌, [], ◌∷◌, leb, ltb, eqb, length, get_or, take, drop}
use Rattle.values.specs.Bytes.{Bytes}
use Rattle.values.specs.Utf8.{tail, within}

-- a character that began in the three bytes before is not complete
abbrev pub is_due : ℕ → ℕ → ℕ → Bool
is_due third second nearest = leb 0xF0 third || (leb 0xE0 second || leb 0xC0 nearest)

-- a character has one form, the shortest
abbrev pub is_overlong : ℕ → ℕ → Bool
is_overlong first b = (eqb first 0xE0 && ltb b 0xA0) || (eqb first 0xF0 && ltb b 0x90)

-- D800 to DFFF are no characters
abbrev pub is_surrogate : ℕ → ℕ → Bool
is_surrogate first b = eqb first 0xED && ltb 0x9F b

-- 10FFFF is the last
abbrev pub is_past_last : ℕ → ℕ → Bool
is_past_last first b = eqb first 0xF4 && ltb 0x8F b

abbrev pub is_barred : ℕ → ℕ → Bool
is_barred first b = is_overlong first b || (is_surrogate first b || is_past_last first b)

-- b goes on a character whose byte just before is known
abbrev pub goes_on : ℕ → ℕ → Bool
goes_on nearest b = within tail b && not (is_barred nearest b)

-- b is a character's first byte
abbrev pub is_first : ℕ → Bool
is_first b = ltb b 0x80 || (leb 0xC2 b && leb b 0xF4)

abbrev pub fits : ℕ → ℕ → ℕ → ℕ → Bool
fits third second nearest b = (is_due third second nearest && goes_on nearest b) || (not (is_due third second nearest) && is_first b)

-- each byte fits after the three before it
unfoldable pub all_fit : ℕ → ℕ → ℕ → Bytes → Bool
all_fit third second nearest [] = true
all_fit third second nearest (b ∷ bs) = fits third second nearest b && all_fit second nearest b bs

-- the byte k places before the place i, or 0 where the bytes begin later
unfoldable pub byte_before : Bytes → ℕ → ℕ → ℕ
byte_before s i k = elim (ltb i k) [ true ↦ 0 | false ↦ get_or s (i - k) 0 ]

-- each byte from one place up to another fits
unfoldable pub part_fits : Bytes → ℕ → ℕ → Bool
part_fits s from to = all_fit (byte_before s from 3) (byte_before s from 2) (byte_before s from 1) (take (to - from) (drop from s))

-- the last character is not complete
unfoldable pub is_cut : Bytes → Bool
is_cut s = is_due (byte_before s (length s) 3) (byte_before s (length s) 2) (byte_before s (length s) 1)
