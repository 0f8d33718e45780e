-- Marks of the texts met so far, by which a search for one may be left out: of each four bits in a word, or in each of two. Assumes nothing.
use Rattle.std.specs.Prelude.{ℕ, ◌-◌, ◌*◌, ◌/◌, ◌%◌, ◌^◌, min, Bool, true, false, ◌||◌, ◌&&◌, List, eqb, ltb, length, get_or, set}
use Rattle.std.specs.Int.Bits.{bit_and, bit_or}
use Rattle.values.specs.Bytes.{Bytes}
use Rattle.values.specs.Hash.{wide_step, wide_of}

-- a 0 after the text, so that the last byte of it reaches all bits
abbrev pub ended : ℕ → ℕ
ended hash = wide_step hash 0

-- the word for a hash, by its lower half, of n words or of as many as that can reach
unfoldable pub mark_word : ℕ → ℕ → ℕ
mark_word n hash = hash % 2 ^ 32 * min n (2 ^ 32 - 1) / 2 ^ 32

unfoldable pub mark_bit : ℕ → ℕ
mark_bit n = 2 ^ (n % 64)

-- and its bits in that word, by its upper half
unfoldable pub mark_bits : ℕ → ℕ
mark_bits hash = bit_or (bit_or (bit_or (mark_bit (hash / 2 ^ 32)) (mark_bit (hash / 2 ^ 38))) (mark_bit (hash / 2 ^ 44))) (mark_bit (hash / 2 ^ 50))

unfoldable pub has_bits : ℕ → ℕ → Bool
has_bits word bits = eqb (bit_and word bits) bits

-- whether the bits for a hash are set in their word; where there are no words, any may be
unfoldable pub is_set : List ℕ → ℕ → Bool
is_set ms hash = eqb (length ms) 0 || has_bits (get_or ms (mark_word (length ms) hash) 0) (mark_bits hash)

-- bits are set in a word
abbrev pub set_bits : List ℕ → ℕ → ℕ → List ℕ
set_bits ms at bits = set ms at (bit_or (get_or ms at 0) bits)

unfoldable pub set_all : List ℕ → ℕ → List ℕ
set_all ms hash = set_bits ms (mark_word (length ms) hash) (mark_bits hash)

-- from 65,536 words on a text has bits in two of them, by a second hash
unfoldable pub is_few : List ℕ → Bool
is_few ms = ltb (length ms) 65536

abbrev pub second : ℕ → ℕ
second hash = wide_step (ended hash) 1

unfoldable pub is_met : List ℕ → ℕ → Bool
is_met ms hash = is_set ms (ended hash) && (is_few ms || is_set ms (second hash))

unfoldable pub meet : List ℕ → ℕ → List ℕ
meet ms hash = elim (is_few ms) [ true ↦ set_all ms (ended hash) | false ↦ set_all (set_all ms (ended hash)) (second hash) ]

-- the same by a kind and a text

unfoldable pub is_marked : List ℕ → ℕ → Bytes → Bool
is_marked ms kind text = is_met ms (wide_of kind text)

unfoldable pub mark : List ℕ → ℕ → Bytes → List ℕ
mark ms kind text = meet ms (wide_of kind text)

-- a number that is noted by one bit

unfoldable pub is_noted : List ℕ → ℕ → Bool
is_noted ms n = eqb (length ms) 0 || has_bits (get_or ms (mark_word (length ms) n) 0) (mark_bit (n / 2 ^ 32))

unfoldable pub note : List ℕ → ℕ → List ℕ
note ms n = set_bits ms (mark_word (length ms) n) (mark_bit (n / 2 ^ 32))
