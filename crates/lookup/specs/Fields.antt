-- A field of an entry, its key and its value apart: by its number, or by its key. Assumes nothing.
use Rattle.std.specs.Prelude.{ℕ, ◌+◌, ◌-◌, ◌≤◌, ◌≡◌, Bool, true, false, length, Option, None, Some}
use mathlib.Core.List.{List, tail}
use Rattle.values.specs.Bytes.{Bytes, is, begins, before, from, part, EQUALS, QUOTE}
use Rattle.rules.specs.Version.{Version}
use Rattle.rules.specs.Record.{Record, fileformat, fields, text}
use Rattle.rules.specs.Entry.{Entry, fields_start}
use Rattle.rules.specs.Shown.{Part, has_id, entry_record}
use Rattle.records.specs.Fields.{text_keyed}
use Rattle.entries.specs.declared.form.Form.{Form}
use Rattle.entries.specs.Values.{limits_by}
use Rattle.entries.specs.Tables.{entry_at}
use Rattle.lookup.specs.declared.field.Cut.{Cut}
use Rattle.lookup.specs.declared.field.FieldParts.{FieldParts}
use Rattle.values.specs.declared.string.Text.{Text}

-- By number

-- a field as it is written, cut at its first `=`: a value that begins with `"` is quoted, and its text stands between its quotes
abbrev pub value_of : Bytes → Bytes
value_of w = tail (from (is EQUALS) w)

unfoldable pub cut_of : Bytes → Cut
cut_of w = elim (begins QUOTE (value_of w)) [
  | true ↦ record { key_length = length (before (is EQUALS) w); start = length w - length (value_of w) + 1; length = length (value_of w) - 2; quoted = true }
  | false ↦ record { key_length = length (before (is EQUALS) w); start = length w - length (value_of w); length = length (value_of w); quoted = false }
]

pub record CutInside (size : ℕ) (c : Cut) : Type 0 where
  pub key : c.key_length ≤ size
  pub text : c.start + c.length ≤ size

-- the field that the field call shows, as parts of the header
abbrev pub parts_at : ℕ → Cut → FieldParts
parts_at at c = record { key_start = at; key_length = c.key_length; start = at + c.start; length = c.length; quoted = c.quoted }

abbrev pub field_apart : Bytes → Option Part → Option FieldParts
field_apart h None = None
field_apart h (Some p) = Some (parts_at p.0 (cut_of (part h p.0 p.1)))

-- By key

-- the value of the first field with this key, in a record whose line stands at start
abbrev pub record_text : Bytes → ℕ → Option Record → Option Text
record_text key start None = None
record_text key start (Some (fileformat v)) = None
record_text key start (Some (text k t)) = None
record_text key start (Some (fields k fs)) = text_keyed key (start + fields_start k) fs

-- in an entry's line under the version given
abbrev pub entry_text : Bool → Bytes → Version → Bytes → Option Entry → Option Text
entry_text counted h v key None = None
entry_text counted h v key (Some e) = elim (has_id e.kind) [ true ↦ record_text key e.start (entry_record counted h v e) | false ↦ None ]

-- of an entry that was looked for
abbrev pub text_under : Form → Bytes → List ℕ → Version → Bytes → Option ℕ → Option Text
text_under form h t v key None = None
text_under form h t v key (Some n) = entry_text (limits_by form).counted h v key (entry_at form h t n)

-- How the code comes to it

-- a text lies among so many bytes
abbrev pub TextInside : ℕ → Option Text → Type 0
TextInside size None = Unit {0}
TextInside size (Some t) = (t.start ≤ t.end) × (t.end ≤ size)

-- the same text where its line stands at `by`
abbrev pub moved_by : ℕ → Option Text → Option Text
moved_by by None = None
moved_by by (Some t) = Some (record { start = by + t.start; end = by + t.end; quoted = t.quoted })

pub record TextAt (h : Bytes) (e : Entry) (key : Bytes) (o : Option Record) (r : Option Text) : Type 0 where
  pub found : r ≡ moved_by e.start (record_text key 0 o)
  pub inside : e.start ≤ length h → TextInside (length h) r
