-- Hashes of a kind and of what a text means: 32-bit FNV-1a, and one of 64 bits. Assumes nothing.
use Rattle.std.specs.Prelude.{ℕ, ◌+◌, ◌*◌, ◌/◌, ◌%◌, ◌^◌, [], ◌∷◌}
use Rattle.std.specs.Int.Bits.{bit_xor}
use Rattle.values.specs.Bytes.{Bytes}

abbrev pub offset_basis : ℕ
offset_basis = 2166136261

abbrev pub prime : ℕ
prime = 16777619

-- a product modulo 2^32
abbrev pub wrapping_product : ℕ → ℕ → ℕ
wrapping_product a b = a * b % 2 ^ 32

-- one byte more
unfoldable pub hash_byte : ℕ → ℕ → ℕ
hash_byte hash b = wrapping_product (bit_xor hash b) prime

unfoldable pub hashed : ℕ → Bytes → ℕ
hashed hash [] = hash
hashed hash (b ∷ s) = hashed (hash_byte hash b) s

-- the kind is one byte before those of the meaning
unfoldable pub hash_of : ℕ → Bytes → ℕ
hash_of kind text = hashed offset_basis (kind ∷ text)

-- The one of 64 bits

abbrev pub wide_basis : ℕ
wide_basis = 14695981039346656037

abbrev pub multiplier : ℕ
multiplier = 1791398085

-- one number more: the lower half of the hash is multiplied, the upper half carried
unfoldable pub wide_step : ℕ → ℕ → ℕ
wide_step hash n = hash % 2 ^ 32 * multiplier + (hash / 2 ^ 32 + n)

-- two bytes in a step
unfoldable pub wide_from : ℕ → Bytes → ℕ
wide_from hash [] = hash
wide_from hash (a ∷ []) = wide_step hash a
wide_from hash (a ∷ (b ∷ s)) = wide_from (wide_step hash (a * 256 + b)) s

unfoldable pub wide_of : ℕ → Bytes → ℕ
wide_of kind text = wide_from (wide_step wide_basis kind) text
