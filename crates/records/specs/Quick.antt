-- A record of one or two bare fields, of which the first is its ID, as it is read without keeping anything. Assumes nothing.
use Rattle.std.specs.Prelude.{ℕ, ◌+◌, ◌≤◌, ◌<◌, ◌≡◌, Bool, true, false, length, get_or, Option, Some, None, Ok}
use Rattle.values.specs.Bytes.{Bytes, ascii, starts}
use Rattle.values.specs.Places.{cursor_at, field_at}
use Rattle.values.specs.declared.string.Text.{Text}
use Rattle.rules.specs.Version.{Version}
use Rattle.rules.specs.Known.{row_named}
use Rattle.rules.specs.Spelling.{odd_value}
use Rattle.records.specs.Formats.{version_of}
use Rattle.records.specs.Keys.{kind_by, context_of}
use Rattle.records.specs.Tags.{tag_row, is_kept, after_id}
use Rattle.records.specs.Maps.{raw_refusal, Checked, ReadsField, tallied}
use Rattle.records.specs.Records.{ParsesValue, KeyedIs, ParsesRecord}
use Rattle.records.specs.declared.file_format.FileFormat.{FileFormat}
use Rattle.records.specs.declared.key.MapKey.{MapKey}
use Rattle.records.specs.declared.key.MapKey.TheVariants.{Contig, Other}
use Rattle.records.specs.declared.key.MapContext.{MapContext}
use Rattle.records.specs.declared.tag.Tag.{Tag}
use Rattle.records.specs.declared.map.Slots.{Slots}
use Rattle.records.specs.declared.map.FieldStep.TheVariants as step
use Rattle.records.specs.declared.record.RecordKey.TheVariants as key
use Rattle.records.specs.declared.record.MapRecord.{MapRecord}
use Rattle.records.specs.declared.record.Record.TheVariants as read

-- the keys whose maps need an ID alone and hold no bracketed value
abbrev pub quick_key : Bool → MapKey
quick_key true = Contig
quick_key false = Other

abbrev pub quick_context : Bool → FileFormat → ℕ → MapContext
quick_context contig f start = context_of (quick_key contig) f start

-- a number without a sign or a leading zero
abbrev pub is_plainly : Option (ℕ × Bool) → Bool
is_plainly (Some (n, p)) = p
is_plainly None = false

-- a field with a bare value: its `=`, and past it
abbrev pub PlainIs : Bytes → ℕ → Option (ℕ × ℕ) → Type 0
PlainIs s i (Some (e, n)) = (field_at false s i ≡ Some (e, record { start = e + 1; end = n; quoted = false }, cursor_at n)) × (e < length s)
PlainIs s i None = Unit {0}

pub record ReadsPlain (s : Bytes) (i : ℕ) (r : Option (ℕ × ℕ)) : Type 0 where
  pub is : PlainIs s i r

-- a field that may follow the ID, with this bare value: it is not kept, and no number in it is oddly spelled
pub record Follows (contig : Bool) (name text : Bytes) : Type 0 where
  pub tag : Tag
  pub named : tag_row tag ≡ row_named name (after_id (kind_by (quick_key contig)))
  pub unkept : is_kept tag ≡ false
  pub passes : (v : Version) → Checked (Ok false) (raw_refusal v (kind_by (quick_key contig)) text false (tag_row tag)) (odd_value text (tag_row tag))

pub record FitsContig (name text : Bytes) (r : Bool) : Type 0 where
  pub is : r ≡ true → Follows true name text

-- the field at a place was read as the last one, and the ID that was kept stays
pub record LastRead (x : MapContext) (s : Bytes) (at : ℕ) (slots : Slots) : Type 0 where
  pub kept : Slots
  pub id : kept.id ≡ slots.id
  pub odd : kept.odd ≡ false
  pub read : ReadsField x s at slots (Ok (step.Last kept))

-- whether a field is the last, where only the ID stands before it
pub record IsLast (contig : Bool) (s : Bytes) (at : ℕ) (r : Bool) : Type 0 where
  pub is : r ≡ true → (f : FileFormat) (start : ℕ) (slots : Slots) → slots.plain ≡ true → slots.odd ≡ false → LastRead (quick_context contig f start) s at slots

pub record Followed (contig : Bool) (s : Bytes) (end : ℕ) : Type 0 where
  pub inside : end < length s
  pub comma : get_or s end 0 ≡ 44
  pub last : (f : FileFormat) (start : ℕ) (slots : Slots) → slots.plain ≡ true → slots.odd ≡ false → LastRead (quick_context contig f start) s (end + 1) slots

-- whether an ID that ends there is followed by a `,` and such a field
pub record IsFollowed (contig : Bool) (s : Bytes) (end : ℕ) (r : Bool) : Type 0 where
  pub is : r ≡ true → Followed contig s end

-- a bare ID after `<ID=`, of a value that stands at a place
abbrev pub id_from : ℕ → ℕ → Text
id_from at end = record { start = at + 4; end = end; quoted = false }

abbrev pub MapQuick : Bool → Bytes → ℕ → Option (ℕ × ℕ) → Type 0
MapQuick contig s at (Some (end, n)) = (at + 4 ≤ length s) × ((f : FileFormat) → ParsesValue (version_of f) (quick_key contig) s at (Ok (Some (id_from at end, 0, tallied false n))))
MapQuick contig s at None = Unit {0}

pub record ReadsQuickMap (contig : Bool) (s : Bytes) (at : ℕ) (r : Option (ℕ × ℕ)) : Type 0 where
  pub is : MapQuick contig s at r

abbrev pub KeyQuick : Bytes → Option (Bool × ℕ) → Type 0
KeyQuick s (Some (contig, at)) = KeyedIs s (Some (key.Map (quick_key contig) (cursor_at at)))
KeyQuick s None = Unit {0}

-- a key of a line that begins `##`
pub record ReadsQuickKey (s : Bytes) (r : Option (Bool × ℕ)) : Type 0 where
  pub is : starts (ascii "##") s ≡ true → KeyQuick s r

abbrev pub quick_record : Bool → ℕ → ℕ → ℕ → MapRecord
quick_record contig at end n = record { key = quick_key contig; value = at; id = id_from at end; tag = 0; tally = tallied false n }

abbrev pub RecordQuick : Bytes → Option (Bool × ℕ × ℕ × ℕ) → Type 0
RecordQuick s (Some (contig, at, end, n)) = (at + 4 ≤ length s) × ((f : FileFormat) → ParsesRecord (version_of f) s (Ok (read.Map (quick_record contig at end n))))
RecordQuick s None = Unit {0}

pub record ReadsQuick (s : Bytes) (r : Option (Bool × ℕ × ℕ × ℕ)) : Type 0 where
  pub is : RecordQuick s r
