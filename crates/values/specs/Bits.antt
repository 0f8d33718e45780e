-- Words with a bit for each of some numbers. Assumes nothing.
use Rattle.std.specs.Prelude.{ℕ, ◌/◌, Bool, List, get_or}
use Rattle.values.specs.Marks.{mark_bit, has_bits, set_bits}

unfoldable pub bit_at : List ℕ → ℕ → Bool
bit_at ms n = has_bits (get_or ms (n / 64) 0) (mark_bit n)

-- nothing is set past the words
unfoldable pub set_bit : List ℕ → ℕ → List ℕ
set_bit ms n = set_bits ms (n / 64) (mark_bit n)
