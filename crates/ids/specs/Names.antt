-- Hashes of the names of an entry: its key, its ID under that, and the last bytes of its ID. Assumes nothing.
use Rattle.std.specs.Prelude.{ℕ, ◌+◌, ◌-◌, ◌*◌, true, false, ◌||◌, eqb, ltb, length, get_or, take, drop}
use Rattle.values.specs.Bytes.{Bytes}
use Rattle.values.specs.Hash.{wide_basis, wide_step, wide_from}
use Rattle.rules.specs.Known.{other}
use Rattle.rules.specs.Entry.{Entry, map_kind, text_kind}
use Rattle.rules.specs.Shown.{line_in}
use Rattle.rules.specs.Claims.{key_in}

-- what an entry's hashes begin with: a typed kind has one key, an other record's key is told by its line
unfoldable pub key_hash : Bytes → Entry → ℕ
key_hash h e = elim (ltb e.kind 7) [ true ↦ wide_basis | false ↦ wide_from wide_basis (key_in (line_in h e)) ]

-- the same by a line's `##key=`
unfoldable pub prefix_hash : Bytes → ℕ → ℕ
prefix_hash prefix kind = elim (ltb kind 7 || ltb (length prefix) 3) [ true ↦ wide_basis | false ↦ wide_from wide_basis (take (length prefix - 1 - 2) (drop 2 prefix)) ]

-- that there is a record of this kind under the key
unfoldable pub under_hash : ℕ → ℕ → ℕ
under_hash key kind = wide_step key kind

-- and one with this ID
unfoldable pub id_hash : ℕ → ℕ → Bytes → ℕ
id_hash key kind id = wide_from (under_hash key kind) id

-- a text must not stand beside a map of its key, nor a map beside a text
unfoldable pub other_sort : ℕ → ℕ
other_sort kind = elim (eqb kind 7) [ true ↦ text_kind | false ↦ map_kind other ]

-- The last bytes of an ID

-- the place after an entry's ID
abbrev pub id_end : Entry → ℕ
id_end e = e.start + e.offset + e.id_length

-- four bytes from a place on, as a number
unfoldable pub four_at : Bytes → ℕ → ℕ
four_at s at = get_or s at 0 + get_or s (at + 1) 0 * 256 + get_or s (at + 2) 0 * 65536 + get_or s (at + 3) 0 * 16777216

-- a hash of the eight bytes before a place
unfoldable pub tail_hash : Bytes → ℕ → ℕ
tail_hash s end = (four_at s (end - 8) + four_at s (end - 4) * 33) * 39084873
