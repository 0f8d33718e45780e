-- A record as the code reads it: what its value is, and where its ID stands. Assumes nothing.
use Rattle.std.specs.Prelude.{ℕ, ◌+◌, ◌≡◌, Bool, true, ◌&&◌, List, length, drop, Option, None, Some, Result, Ok, Err}
use Rattle.values.specs.Bytes.{Bytes, same}
use Rattle.values.specs.Value.{meaning}
use Rattle.values.specs.Field.{Field}
use Rattle.rules.specs.Answer.{ok, refuse}
use Rattle.rules.specs.Version.{Version, read_version}
use Rattle.rules.specs.Entry.{fields_start}
use Rattle.rules.specs.Record.{fileformat, fields, text, read_record_value, read_record}
use Rattle.rules.specs.Record.{fileformat_read as version_read}
use Rattle.rules.specs.Claims.{key_in}
use Rattle.records.specs.Formats.{version_of, format_of}
use Rattle.records.specs.Refusals.{number}
use Rattle.records.specs.Keys.{Named}
use Rattle.records.specs.Numbers.{is_number_of, type_name}
use Rattle.records.specs.Maps.{id_slot, tally_of}
use Rattle.records.specs.declared.key.MapKey.{MapKey}
use Rattle.records.specs.declared.refusal.Refusal.TheVariants.{InvalidFileFormat}
use Rattle.records.specs.declared.record.RecordKey.{RecordKey}
use Rattle.records.specs.declared.record.RecordKey.TheVariants as key
use Rattle.records.specs.declared.record.Record.{Record}
use Rattle.records.specs.declared.record.Record.TheVariants as read
use Rattle.records.specs.declared.number.Number.{Number}
use Rattle.records.specs.declared.number.ValueType.{ValueType}
use Rattle.values.specs.declared.string.Text.{Text}
use Rattle.records.specs.declared.map.Tally.{Tally}
use Rattle.records.specs.declared.refusal.Refusal.{Refusal}

-- whether a Number and a Type, each as its bytes and whether they stand between quotes, are those of a definition
abbrev pub fits : Option (Number × ValueType) → Bytes → Bool → Bytes → Bool → Bool
fits None n nq t tq = true
fits (Some (x, y)) n nq t tq = is_number_of x n nq && same (type_name y) (meaning tq t)

-- the value of a record under the key k, which stands at a place of its line
abbrev pub ValueIs : Version → Bytes → Bytes → ℕ → Result (Option (Text × ℕ × Tally)) Refusal → Type 0
ValueIs v k s at (Ok (Some (id, tag, tally))) =
    (fs : List Field) × (read_record_value v k (drop at s) ≡ ok (fields k fs)) × (id_slot v k (at + 1) fs ≡ Some (id, tag)) × (tally ≡ tally_of v k fs)
ValueIs v k s at (Ok None) = read_record_value v k (drop at s) ≡ ok (text k (drop at s))
ValueIs v k s at (Err x) = read_record_value v k (drop at s) ≡ refuse (number x)

-- the value of a record under a key of this case was parsed
pub record ParsesValue (v : Version) (key : MapKey) (s : Bytes) (at : ℕ) (r : Result (Option (Text × ℕ × Tally)) Refusal) : Type 0 where
  pub is : (k : Bytes) → Named k key → ValueIs v k s at r

-- past the key's `=`
abbrev pub value_start : Bytes → ℕ
value_start s = 2 + length (key_in s) + 1

abbrev pub RecordIs : Version → Bytes → Result Record Refusal → Type 0
RecordIs v s (Ok (read.FileFormat w)) = read_record v s ≡ ok (fileformat (version_of w))
RecordIs v s (Ok (read.Map m)) =
    (fs : List Field) × Named (key_in s) m.key × (m.value ≡ value_start s) × (read_record v s ≡ ok (fields (key_in s) fs))
    × (id_slot v (key_in s) (fields_start (key_in s)) fs ≡ Some (m.id, m.tag)) × (m.tally ≡ tally_of v (key_in s) fs)
RecordIs v s (Ok (read.Text at)) = (at ≡ value_start s) × (read_record v s ≡ ok (text (key_in s) (drop at s)))
RecordIs v s (Err x) = read_record v s ≡ refuse (number x)

-- a line was parsed as a record
pub record ParsesRecord (v : Version) (s : Bytes) (r : Result Record Refusal) : Type 0 where
  pub is : RecordIs v s r

-- the record of a fileformat line
abbrev pub version_record : Option Version → Result Record Refusal
version_record None = Err InvalidFileFormat
version_record (Some v) = Ok (read.FileFormat (format_of v))

-- the key of a line that begins `##`
abbrev pub KeyedIs : Bytes → Option RecordKey → Type 0
KeyedIs s (Some (key.FileFormat next)) = (v : Version) → read_record v s ≡ version_read (read_version (drop next.at s))
KeyedIs s (Some (key.Map j next)) =
    Named (key_in s) j × (next.at ≡ value_start s) × ((v : Version) → read_record v s ≡ read_record_value v (key_in s) (drop next.at s))
KeyedIs s None = (v : Version) → read_record v s ≡ refuse 6
