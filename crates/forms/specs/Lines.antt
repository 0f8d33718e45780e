-- A whole line of the house form, from a line of a header. Bytes by their numbers: LF 10, CR 13, `>` 62. Assumes nothing.
use Rattle.std.specs.Prelude.{ℕ, ◌≡◌, Bool, true, false, [], ◌∷◌, ◌++◌, length, take}
use Rattle.values.specs.Bytes.{Bytes, CR, LF}
use Rattle.values.specs.Field.{written_field}
use Rattle.values.specs.Written.{onward, Puts}
use Rattle.values.specs.declared.sink.Sink.{Sink}
use Rattle.values.specs.declared.string.Text.{Text}
use Rattle.rules.specs.Answer.{Answer, ok, refuse}
use Rattle.rules.specs.Version.{Version}
use Rattle.rules.specs.Record.{Record, fileformat, fields, text, read_record, key_of}
use Rattle.rules.specs.Meaning.{saying}
use Rattle.rules.specs.House.{name_of_tag, record_of, write_record}
use Rattle.records.specs.Fields.{meaning_in}
use Rattle.records.specs.declared.key.MapContext.{MapContext}
use Rattle.forms.specs.declared.line.LineWritten.{LineWritten}
use Rattle.forms.specs.Forms.{fields_in, field_by, known_texts, others_text}

-- a map's fields in the line s: the ID, the known ones after it, the others
unfoldable pub fields_text : MapContext → Bytes → Text → ℕ → Bytes
fields_text x s id tag =
    written_field (field_by x.brackets (name_of_tag tag) (meaning_in s id)) ++ (known_texts x s ++ others_text x (fields_in x s))

abbrev pub map_text : MapContext → Bytes → Text → ℕ → Bytes
map_text x s id tag = take x.start s ++ (fields_text x s id tag ++ 62 ∷ [])

-- the house form's line of a record
abbrev pub record_line : Version → Record → Bytes
record_line v x = write_record (record_of v (key_of x) (saying v x))

-- the version's line is written once, from the version in force
abbrev pub IsEntry : Record → Type 0
IsEntry (fileformat w) = ⊥
IsEntry (fields k fs) = Unit {0}
IsEntry (text k t) = Unit {0}

abbrev pub entry_line : Version → Record → Bytes
entry_line v (fileformat w) = []
entry_line v (fields k fs) = record_line v (fields k fs)
entry_line v (text k t) = record_line v (text k t)

abbrev pub line_for : Version → Answer Record → Bytes
line_for v (ok x) = entry_line v x
line_for v (refuse n) = []

-- what is written of the line s: of a map or a text the house form's line, else nothing
unfoldable pub house_line : Version → Bytes → Bytes
house_line v s = line_for v (read_record v s)

abbrev pub ending : Bool → Bytes
ending true = CR ∷ LF ∷ []
ending false = LF ∷ []

-- a line was written, and an ending; cr: it is CR LF
pub record WroteEnded (given old : Bytes) (at : Sink) (line : Bytes) (cr : Bool) (r : LineWritten) (new : Bytes) : Type 0 where
  pub place : r.end ≡ onward at.at (length line)
  pub text : Puts given old at (line ++ ending cr) r.next new
