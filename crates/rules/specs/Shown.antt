-- Document 01, "Entries" and refusal 29, and document 02, §10: which entries are well formed, and what the calls show of one. Assumes nothing.
use Rattle.std.specs.Prelude.{ℕ, suc, ◌+◌, Bool, true, false, not, ◌||◌, ◌&&◌, List, [], ◌∷◌, eqb, leb, length, take, drop, Option, None, Some}
use Rattle.values.specs.Bytes.{Bytes}
use Rattle.values.specs.Utf8.{is_utf8}
use Rattle.values.specs.Value.{meaning}
use Rattle.values.specs.Field.{Field, written_field}
use Rattle.rules.specs.Answer.{Answer, ok, refuse}
use Rattle.rules.specs.Version.{Version}
use Rattle.rules.specs.Record.{Record, fileformat, fields, text, read_record}
use Rattle.rules.specs.Entry.{Entry, record_kind, fields_start, Counts, counts_of}

-- a part of the header: its start and its end
abbrev pub Part : Type 0
Part = ℕ × ℕ

-- kinds 2 to 7 have an ID
abbrev pub has_id : ℕ → Bool
has_id kind = leb 2 kind && leb kind 7

-- nothing is said of an ID
unfoldable pub says_no_id : Entry → Bool
says_no_id e = eqb e.offset 0 && (eqb e.id_length 0 && (not e.quoted && eqb e.tag 0))

-- kinds 9 and 10 have no key, and none but those with an ID have fields
unfoldable pub counts_in_place : Entry → Bool
counts_in_place e = (leb e.kind 8 || eqb e.key_length 0) && (has_id e.kind || eqb e.field_count 0)

-- kind is 1 to 10, tag is 0 (in kind 7 at most 2), no ID but in its kinds; the line lies in a header of `size` bytes, and the ID in the line
unfoldable pub well_formed : ℕ → Entry → Bool
well_formed size e =
    (leb 1 e.kind && leb e.kind 10)
    && ((eqb e.tag 0 || (eqb e.kind 7 && leb e.tag 2))
    && ((has_id e.kind || says_no_id e)
    && (leb (e.start + e.length) size && (leb (e.offset + e.id_length) e.length && counts_in_place e))))

-- the line of an entry, or the sample name
unfoldable pub line_in : Bytes → Entry → Bytes
line_in h e = take e.length (drop e.start h)

-- the ID's text, without quotes, and what it means
unfoldable pub id_in : Bytes → Entry → Bytes
id_in h e = take e.id_length (drop (e.start + e.offset) h)

abbrev pub id_meaning : Bytes → Entry → Bytes
id_meaning h e = meaning e.quoted (id_in h e)

-- Reading a line again, alone, under the version given; none is refusal 29

-- it must be a record of this kind
abbrev pub of_kind : ℕ → Answer Record → Option Record
of_kind kind (refuse n) = None
of_kind kind (ok r) = elim (eqb (record_kind r) kind) [ true ↦ Some r | false ↦ None ]

unfoldable pub read_alone : Version → ℕ → Bytes → Option Record
read_alone v kind l = elim (is_utf8 l) [ true ↦ of_kind kind (read_record v l) | false ↦ None ]

-- and have the counts that the entry tells
unfoldable pub tells : Entry → Counts → Bool
tells e c = eqb c.key_length e.key_length && eqb c.field_count e.field_count

abbrev pub counted_as : Bool → Entry → Option Record → Option Record
counted_as counted e None = None
counted_as counted e (Some r) = elim (tells e (counts_of counted r)) [ true ↦ Some r | false ↦ None ]

-- the record on an entry's line
unfoldable pub entry_record : Bool → Bytes → Version → Entry → Option Record
entry_record counted h v e = counted_as counted e (read_alone v e.kind (line_in h e))

-- What the calls show of an entry; none is refusal 29

-- the entry call
abbrev pub entry_part : Option Entry → Option Part
entry_part None = None
entry_part (Some e) = Some (e.start, e.start + e.length)

-- the ID call
abbrev pub id_part : Option Entry → Option Part
id_part None = None
id_part (Some e) = elim (has_id e.kind) [ true ↦ Some (e.start + e.offset, e.start + e.offset + e.id_length) | false ↦ None ]

-- field i of the fields that stand at the place `at`, parted by `,`: key through value
unfoldable pub nth_field_part : ℕ → List Field → ℕ → Option Part
nth_field_part at [] i = None
nth_field_part at (f ∷ fs) ℕ.zero = Some (at, at + length (written_field f))
nth_field_part at (f ∷ fs) (suc i) = nth_field_part (at + length (written_field f) + 1) fs i

-- a record whose line stands at start
abbrev pub record_field_part : ℕ → ℕ → Option Record → Option Part
record_field_part start i None = None
record_field_part start i (Some (fileformat v)) = None
record_field_part start i (Some (text k t)) = None
record_field_part start i (Some (fields k fs)) = nth_field_part (start + fields_start k) fs i

-- the field call: field i, from 0, of the entry's line under the version given
abbrev pub entry_field_part : Bool → Bytes → Version → ℕ → Option Entry → Option Part
entry_field_part counted h v i None = None
entry_field_part counted h v i (Some e) = elim (has_id e.kind) [ true ↦ record_field_part e.start i (entry_record counted h v e) | false ↦ None ]

-- the key call, which reads no line: the key after `##`, and the number of fields
abbrev pub entry_key_part : Bool → Option Entry → Option (Part × ℕ)
entry_key_part counted None = None
entry_key_part counted (Some e) = elim (counted && (leb e.kind 8 && leb (2 + e.key_length) e.length)) [
  | true ↦ Some ((e.start + 2, e.start + 2 + e.key_length), e.field_count)
  | false ↦ None
]
