-- What a call of `is_house` answers. Assumes nothing.
use Rattle.std.specs.Prelude.{ℕ, ◌≡◌, Bool, true, false, List, eqb, ltb, length, Option, Result, Ok, Err}
use Rattle.values.specs.Bytes.{Bytes}
use Rattle.rules.specs.Sizes.{Limits}
use Rattle.rules.specs.Version.{Version}
use Rattle.rules.specs.Entry.{Entry}
use Rattle.rules.specs.Reading.{Reading}
use Rattle.rules.specs.Claims.{Sized}
use Rattle.records.specs.Formats.{version_of}
use Rattle.records.specs.declared.file_format.FileFormat.{FileFormat}
use Rattle.entries.specs.declared.form.Form.{Form}
use Rattle.entries.specs.Values.{limits_by}
use Rattle.entries.specs.Tables.{room, stored}
use Rattle.header.specs.declared.parser.ReadAnswer.{ReadAnswer}
use Rattle.header.specs.Parsers.{outcome_number, outcome_says, accepted_in, read_into}
use Rattle.house.specs.declared.form.Compared.{Compared}
use Rattle.house.specs.declared.form.HouseAnswer.{HouseAnswer}
use Rattle.house.specs.declared.form.IsHouseAnswer.{IsHouseAnswer}
use Rattle.house.specs.Forms.{ComparesForm}
use Rattle.house.specs.Answers.{form_answered}
use Rattle.house.specs.IsHouse.{IsHouse, is_house}
use Rattle.records.specs.declared.refusal.Refusal.{Refusal}

-- document 01's number, the place, the number of entries, the verdict, and of an accepted header the version in force and the number of samples
pub record VerdictMeaning : Type 0 where
  pub number : ℕ
  pub line : ℕ
  pub start : ℕ
  pub entries : ℕ
  pub holds : Bool
  pub place : ℕ
  pub accepted : Option (Version × ℕ)

abbrev pub verdict_means : IsHouseAnswer → VerdictMeaning
verdict_means a = record {
  number = outcome_number a.outcome;
  line = a.line;
  start = a.start;
  entries = a.entries;
  holds = a.holds;
  place = a.differs;
  accepted = outcome_says a.outcome;
}

-- the same of a reading and the verdict on what was read
abbrev pub is_house_means : Reading → IsHouse → VerdictMeaning
is_house_means r f = record {
  number = f.number;
  line = f.line;
  start = f.start;
  entries = length r.entries;
  holds = f.holds;
  place = f.place;
  accepted = accepted_in f.number r.state;
}

abbrev pub told_answer : HouseAnswer → Bool → ℕ → IsHouseAnswer
told_answer a holds place = record { outcome = a.outcome; line = a.line; start = a.start; entries = a.entries; holds = holds; differs = place }

abbrev pub verdict_by : HouseAnswer → ℕ → ℕ → Result (FileFormat × ℕ) Refusal → IsHouseAnswer
verdict_by a size differs (Err x) = told_answer a false 0
verdict_by a size differs (Ok (f, n)) = elim (ltb differs a.length) [
  | true ↦ told_answer a false differs
  | false ↦ elim (eqb a.length size) [ true ↦ told_answer a true 0 | false ↦ told_answer a false a.length ]
]

-- of a form's answer, the header's size, and the first place within the form where the two differ, if there is one
unfoldable pub verdict : HouseAnswer → ℕ → ℕ → IsHouseAnswer
verdict a size differs = verdict_by a size differs a.outcome

-- the form was held against the header, and answered for
pub record AnswersComparison (lim : Limits) (a : ReadAnswer) (f : FileFormat) (h : Bytes) (es : List Entry) (r : IsHouseAnswer) : Type 0 where
  pub compared : Compared
  pub compares : ComparesForm lim (version_of f) h es compared
  pub answers : r ≡ verdict (form_answered a compared.outcome) (length h) compared.differs
  pub sized : Sized (version_of f)

-- what `is_house` promises of a call: the version imposed, the header and the table; the answer, and the table after it
pub record IsHouseCall (form : Form) (imposed : Option Version) (h : Bytes) (t : List ℕ) (r : IsHouseAnswer) (t' : List ℕ) : Type 0 where
  pub answer : verdict_means r ≡ is_house_means (read_into form imposed t h) (is_house (limits_by form) imposed (room form t) h)
  pub table : t' ≡ stored form t 0 (read_into form imposed t h).entries
