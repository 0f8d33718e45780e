-- Document 01, "Records": `##`, a key of one byte or more up to the first `=`, a value. Assumes nothing.
use Rattle.std.specs.Prelude.{Bool, true, false, not, ◌||◌, ◌&&◌, drop, Option, None, Some}
use mathlib.Core.List.{List, tail}
use Rattle.values.specs.Bytes.{Bytes, ascii, is, empty, begins, before, from, same, starts, EQUALS, LESS}
use Rattle.values.specs.Field.{Field}
use Rattle.rules.specs.Answer.{Answer, ok, refuse, ◌>>=◌}
use Rattle.rules.specs.Version.{Version, v4_3, since, read_version}
use Rattle.rules.specs.Known.{is_typed, always_map}
use Rattle.rules.specs.Map.{read_map}

-- a map or a text under its key; the fields are kept as they stand in the line
pub data Record : Type 0 where
  fileformat : Version → Record
  fields : Bytes → List Field → Record
  text : Bytes → Bytes → Record

abbrev pub key_of : Record → Bytes
key_of (fileformat v) = ascii "fileformat"
key_of (fields k fs) = k
key_of (text k t) = k

-- any other key is a map if its value begins `<` (from 4.3) or `<ID=` (before)
unfoldable pub looks_map : Version → Bytes → Bool
looks_map v x = elim (since v4_3 v) [ true ↦ begins LESS x | false ↦ starts (ascii "<ID=") x ]

abbrev pub is_map : Version → Bytes → Bytes → Bool
is_map v k x = is_typed k || (always_map k || looks_map v x)

abbrev pub fileformat_read : Option Version → Answer Record
fileformat_read None = refuse 7
fileformat_read (Some v) = ok (fileformat v)

unfoldable pub read_record_value : Version → Bytes → Bytes → Answer Record
read_record_value v k x = elim (same k (ascii "fileformat")) [
  | true ↦ fileformat_read (read_version x)
  | false ↦ elim (is_map v k x) [ true ↦ read_map v k x >>= λ fs. ok (fields k fs) | false ↦ ok (text k x) ]
]

-- the key, and the rest from its `=` on
unfoldable pub read_keyed : Version → Bytes → Bytes → Answer Record
read_keyed v k r = elim (not (empty k) && begins EQUALS r) [ true ↦ read_record_value v k (tail r) | false ↦ refuse 6 ]

unfoldable pub read_record : Version → Bytes → Answer Record
read_record v l = elim (starts (ascii "##") l) [
  | true ↦ read_keyed v (before (is EQUALS) (drop 2 l)) (from (is EQUALS) (drop 2 l))
  | false ↦ refuse 6
]
