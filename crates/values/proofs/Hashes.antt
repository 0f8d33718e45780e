-- The hash: a turn of its loop on plain values. Assumes nothing.
use Rattle.std.specs.Prelude.{Option, Some, None}
use Prim.Native.Nat.{ℕ, ◌+◌, ◌-◌, ◌*◌, ◌^◌, ◌<◌}
use native.Mathlib.Omega.{arith}
use native.Mathlib.Nat.{mul-le-mul, mod-lt}
use mathlib.Core.Path.{◌≡◌, refl, sym, ◌∙◌}
use mathlib.Core.Bool.{Bool}
use lib.ListN.{length, drop}
use Rattle.values.specs.Bytes.{Bytes}
use Rattle.values.specs.Value.{meaning}
use Rattle.values.specs.Places.{unescaped_at}
use Rattle.values.specs.Hash.{offset_basis, hash_byte, hashed, hash_of, wide_step, wide_from}
use Rattle.values.specs.declared.cursor.Cursor.{Cursor}
use Rattle.values.proofs.Meanings.{told_end, told_byte, told_less}

-- the hash of what is left of a text, from here on, is the whole hash
pub record Hashing (kind : ℕ) (text : Bytes) (quoted : Bool) (hash i : ℕ) : Type 0 where
  pub still : hash_of kind (meaning quoted text) ≡ hashed hash (meaning quoted (drop i text))

pub hash_start : {kind : ℕ} {text : Bytes} {quoted : Bool} {hash : ℕ} → hash ≡ hash_byte offset_basis kind → Hashing kind text quoted hash 0
unfolding hash_of hashed
hash_start e = record { still = rw e }

module _ {kind : ℕ} {text : Bytes} {quoted : Bool} {hash i : ℕ} (g : Hashing kind text quoted hash i) {r : Option (ℕ × Cursor)} (a : r ≡ unescaped_at quoted text i) where
  pub hash_end : r ≡ None → hash ≡ hash_of kind (meaning quoted text)
  unfolding hashed
  hash_end e = sym (g.still ∙ rw (told_end quoted text i a e))

  pub hash_next : {b : ℕ} {c : Cursor} → r ≡ Some (b, c) → {hash' : ℕ} → hash' ≡ hash_byte hash b → Hashing kind text quoted hash' c.at
  unfolding hashed
  hash_next e h = record { still = g.still ∙ rw (told_byte quoted text i a e, h) }

-- The hash of 64 bits

pub record Widening (start : ℕ) (text : Bytes) (quoted : Bool) (hash i : ℕ) : Type 0 where
  pub still : wide_from start (meaning quoted text) ≡ wide_from hash (meaning quoted (drop i text))

pub wide_start : (start : ℕ) (text : Bytes) (quoted : Bool) → Widening start text quoted start 0
wide_start start text quoted = record { still = refl }

module _ {start : ℕ} {text : Bytes} {quoted : Bool} {hash i : ℕ} (g : Widening start text quoted hash i) {r : Option (ℕ × Cursor)} (a : r ≡ unescaped_at quoted text i) where
  pub wide_end : r ≡ None → hash ≡ wide_from start (meaning quoted text)
  unfolding wide_from
  wide_end e = sym (g.still ∙ rw (told_end quoted text i a e))

  module _ {b : ℕ} {c : Cursor} (e : r ≡ Some (b, c)) {r' : Option (ℕ × Cursor)} (a' : r' ≡ unescaped_at quoted text c.at) where
    pub wide_one : r' ≡ None → {hash' : ℕ} → hash' ≡ wide_step hash b → hash' ≡ wide_from start (meaning quoted text)
    unfolding wide_from
    wide_one e' h = h ∙ sym (g.still ∙ rw (told_byte quoted text i a e, told_end quoted text c.at a' e'))

    pub wide_two : {b' : ℕ} {c' : Cursor} → r' ≡ Some (b', c') → {hash' : ℕ} → hash' ≡ wide_step hash (b * 256 + b') → Widening start text quoted hash' c'.at
    unfolding wide_from
    wide_two e' h = record { still = g.still ∙ rw (told_byte quoted text i a e, told_byte quoted text c.at a' e', h) }

    pub wide_less : {b' : ℕ} {c' : Cursor} → r' ≡ Some (b', c') → length text - c'.at < length text - i
    wide_less e' = omega (arith, told_less quoted text i a e, told_less quoted text c.at a' e')

pub ruleset wides = (wide_start, wide_end, wide_one, wide_two, wide_less)

-- the product of two numbers of 32 bits has 64
pub product_fits : (a b : ℕ) → a < 2 ^ 32 → b < 2 ^ 32 → a * b < 2 ^ 64
product_fits a b h l = omega (arith, mul-le-mul {n₁ = a} {m₁ = b} {n₂ = 2 ^ 32 - 1} {m₂ = 2 ^ 32 - 1} (omega arith) (omega arith))

pub ruleset products = (product_fits, mod-lt)

pub ruleset hashes = (hash_start, hash_end, hash_next, told_less)
