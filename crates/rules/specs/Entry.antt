-- Document 01, "Entries", and document 02, §10: what an entry says, and which entries a line has. Assumes nothing.
use Rattle.std.specs.Prelude.{ℕ, ◌+◌, ◌-◌, Bool, true, false, List, [], ◌∷◌, ◌++◌, length, Option, None, Some}
use Rattle.values.specs.Bytes.{Bytes, ascii, same, TAB}
use Rattle.values.specs.Field.{Field, written_field}
use Rattle.values.specs.Places.{text_at}
use Rattle.values.specs.declared.string.Text.{Text}
use Rattle.rules.specs.Version.{Version}
use Rattle.rules.specs.Known.{Kind, INFO, FILTER, FORMAT, ALT, contig, other, kind_of, name_of, tag_of}
use Rattle.rules.specs.Record.{Record, fileformat, fields, text, key_of}
use Rattle.rules.specs.Columns.{Columns, column_names}

-- Kinds: 1 fileformat, 2 INFO, 3 FILTER, 4 FORMAT, 5 ALT, 6 contig, 7 other map, 8 other text, 9 column line, 10 sample

abbrev pub format_kind : ℕ
format_kind = 1

abbrev pub map_kind : Kind → ℕ
map_kind INFO = 2
map_kind FILTER = 3
map_kind FORMAT = 4
map_kind ALT = 5
map_kind contig = 6
map_kind other = 7

abbrev pub text_kind : ℕ
text_kind = 8

abbrev pub columns_kind : ℕ
columns_kind = 9

abbrev pub sample_kind : ℕ
sample_kind = 10

-- an entry: its kind, where its line stands, and where in the line the ID's text stands, without quotes; the crate `entries` says how it is stored
pub record Entry : Type 0 where
  pub kind : ℕ
  pub start : ℕ
  pub length : ℕ
  pub offset : ℕ
  pub id_length : ℕ
  pub quoted : Bool
  -- 0 ID, 1 Child, 2 Derived
  pub tag : ℕ
  -- how many bytes the record's key has, and how many fields the record; 0 where that is not counted
  pub key_length : ℕ
  pub field_count : ℕ

-- an entry that says nothing of an ID, a key and fields
abbrev pub plain_entry : ℕ → ℕ → ℕ → Entry
plain_entry kind start len = record { kind = kind; start = start; length = len; offset = 0; id_length = 0; quoted = false; tag = 0; key_length = 0; field_count = 0 }

-- where the first field of a map under the key k stands: after `##`, the key, `=` and `<`
abbrev pub fields_start : Bytes → ℕ
fields_start k = 2 + length k + 2

-- the text of the field of this name, and its key; the fields stand at the place `at`, parted by `,`
unfoldable pub text_named : Version → Bytes → Bytes → ℕ → List Field → Option (Bytes × Text)
text_named v k name at [] = None
text_named v k name at (f ∷ fs) = elim (same (name_of v k f.key) name) [
  | true ↦ Some (f.key, text_at (at + length f.key + 1) f.value)
  | false ↦ text_named v k name (at + length (written_field f) + 1) fs
]

-- with the ID's text, and the key that named it
abbrev pub map_entry : ℕ → ℕ → ℕ → Option (Bytes × Text) → Entry
map_entry kind start len None = plain_entry kind start len
map_entry kind start len (Some p) = record {
  kind = kind;
  start = start;
  length = len;
  offset = p.1.start;
  id_length = p.1.end - p.1.start;
  quoted = p.1.quoted;
  tag = tag_of p.0;
  key_length = 0;
  field_count = 0;
}

abbrev pub record_kind : Record → ℕ
record_kind (fileformat v) = format_kind
record_kind (fields k fs) = map_kind (kind_of k)
record_kind (text k t) = text_kind

-- what a record on the line l, which stands at start, says but for its key and fields; v is the version in force
unfoldable pub line_entry : Version → ℕ → Bytes → Record → Entry
line_entry v start l (fileformat w) = plain_entry format_kind start (length l)
line_entry v start l (fields k fs) = map_entry (map_kind (kind_of k)) start (length l) (text_named v k (ascii "ID") (fields_start k) fs)
line_entry v start l (text k t) = plain_entry text_kind start (length l)

-- the length of a record's key, and the number of its fields
pub record Counts : Type 0 where
  pub key_length : ℕ
  pub field_count : ℕ

abbrev pub no_counts : Counts
no_counts = record { key_length = 0; field_count = 0 }

abbrev pub fields_of : Record → List Field
fields_of (fileformat v) = []
fields_of (fields k fs) = fs
fields_of (text k t) = []

-- a number that is told where such are counted
abbrev pub if_counted : Bool → ℕ → ℕ
if_counted true n = n
if_counted false n = 0

unfoldable pub counts_of : Bool → Record → Counts
counts_of counted r = record { key_length = if_counted counted (length (key_of r)); field_count = if_counted counted (length (fields_of r)) }

abbrev pub with_counts : Counts → Entry → Entry
with_counts c e = record {
  kind = e.kind;
  start = e.start;
  length = e.length;
  offset = e.offset;
  id_length = e.id_length;
  quoted = e.quoted;
  tag = e.tag;
  key_length = c.key_length;
  field_count = c.field_count;
}

-- the entry of a record
unfoldable pub record_entry : Bool → Version → ℕ → Bytes → Record → Entry
record_entry counted v start l r = with_counts (counts_of counted r) (line_entry v start l r)

-- each with a tab after it
unfoldable pub tabbed : List Bytes → Bytes
tabbed [] = []
tabbed (x ∷ xs) = x ++ TAB ∷ tabbed xs

-- where the first sample name stands in its line
unfoldable pub samples_start : ℕ
unfolding tabbed
samples_start = length (tabbed (column_names ++ ascii "FORMAT" ∷ []))

-- the names stand at the place `at`, tab-parted
unfoldable pub sample_entries : ℕ → List Bytes → List Entry
sample_entries at [] = []
sample_entries at (x ∷ xs) = plain_entry sample_kind at (length x) ∷ sample_entries (at + length x + 1) xs

-- samples follow their column line
unfoldable pub column_entries : ℕ → Bytes → Columns → List Entry
column_entries start l c = plain_entry columns_kind start (length l) ∷ sample_entries (start + samples_start) c.samples
