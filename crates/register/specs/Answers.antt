-- What a register call answers. Assumes nothing.
use Rattle.std.specs.Prelude.{ℕ, ◌≡◌, List, [], length, Option, Result, Ok, Err, ⊤}
use Rattle.values.specs.Bytes.{Bytes}
use Rattle.rules.specs.Version.{Version}
use Rattle.rules.specs.Reading.{Reading}
use Rattle.records.specs.Formats.{version_of}
use Rattle.records.specs.Refusals.{number}
use Rattle.records.specs.declared.file_format.FileFormat.{FileFormat}
use Rattle.entries.specs.declared.form.Form.{Form}
use Rattle.entries.specs.Values.{limits_by}
use Rattle.entries.specs.Tables.{room, stored}
use Rattle.header.specs.declared.parser.ReadAnswer.{ReadAnswer}
use Rattle.header.specs.Parsers.{answer_means, reading_means, read_into}
use Rattle.register.specs.declared.probe.RegisterRefusal.{RegisterRefusal}
use Rattle.register.specs.declared.probe.RegisterRefusal.TheVariants.{Unread, EarlyVersion, UnknownCell, MissingWell, InvalidConstant}
use Rattle.register.specs.declared.probe.RegisterRead.{RegisterRead}
use Rattle.register.specs.Cells.{Cell}
use Rattle.register.specs.Register.{RegisterReading, counted, register_accepted, register_of}
use Rattle.register.specs.Wells.{table_cells, Lines, filled}
use Rattle.rules.specs.Claims.{Sized}

-- documents 01's and 02's number for each case
abbrev pub register_number : Result ⊤ RegisterRefusal → ℕ
register_number (Ok tt) = 0
register_number (Err (Unread x)) = number x
register_number (Err EarlyVersion) = 37
register_number (Err UnknownCell) = 38
register_number (Err MissingWell) = 39
register_number (Err InvalidConstant) = 40

-- what an answer says: number, place, how many entries, the constants
pub record RegisterMeaning : Type 0 where
  pub number : ℕ
  pub line : ℕ
  pub start : ℕ
  pub entries : ℕ
  pub constants : List ℕ

abbrev pub register_answer_means : RegisterRead → RegisterMeaning
register_answer_means a = record { number = register_number a.outcome; line = a.line; start = a.start; entries = a.entries; constants = a.constants }

-- a refused register has forty zeros
abbrev pub register_means : RegisterReading → RegisterMeaning
register_means r = record { number = r.number; line = r.line; start = r.start; entries = length r.entries; constants = filled r.constants }

abbrev pub register_refused_as : Result ⊤ RegisterRefusal → ℕ → ℕ → ℕ → RegisterRead
register_refused_as x line start entries = record { outcome = x; line = line; start = start; entries = entries; constants = filled [] }

-- after an accepted reading, where each cell is a well's and has its line among these
pub record AnswersKnown (form : Form) (a : ReadAnswer) (h : Bytes) (t ls : List ℕ) (r : RegisterRead) : Type 0 where
  pub is : Lines (table_cells form h t) ls → (g : Reading) → answer_means a ≡ reading_means g → register_answer_means r ≡ register_means (counted g (table_cells form h t))

-- after an accepted reading with these cells
pub record AnswersRegister (a : ReadAnswer) (f : FileFormat) (cs : List Cell) (r : RegisterRead) : Type 0 where
  pub is : (g : Reading) → answer_means a ≡ reading_means g → register_answer_means r ≡ register_means (register_accepted g (version_of f) cs)
  pub sized : Sized (version_of f)

-- what `register` promises of a call: the version imposed, the header and the table; the answer, and the table after it
pub record RegisterCall (form : Form) (imposed : Option Version) (h : Bytes) (t : List ℕ) (r : RegisterRead) (t' : List ℕ) : Type 0 where
  pub answer : register_answer_means r ≡ register_means (register_of (limits_by form) imposed (room form t) h)
  pub table : t' ≡ stored form t 0 (read_into form imposed t h).entries
