-- What a house-form call answers. Assumes nothing.
use Rattle.std.specs.Prelude.{ℕ, zero, suc, ◌≡◌, List, length, take, Option, None, Some, Result, Ok, Err}
use Rattle.std.proofs.lemmas.List.Edits.{sets}
use Rattle.values.specs.Bytes.{Bytes}
use Rattle.rules.specs.Sizes.{Limits}
use Rattle.rules.specs.Version.{Version}
use Rattle.rules.specs.Entry.{Entry}
use Rattle.rules.specs.Reading.{Reading, State, empty, ready, done, reading}
use Rattle.rules.specs.House.{HouseReading, house}
use Rattle.records.specs.Formats.{version_of}
use Rattle.records.specs.declared.file_format.FileFormat.{FileFormat}
use Rattle.records.specs.declared.refusal.Refusal.{Refusal}
use Rattle.records.specs.declared.refusal.Refusal.TheVariants as refusal
use Rattle.entries.specs.declared.form.Form.{Form}
use Rattle.entries.specs.Values.{limits_by}
use Rattle.entries.specs.Tables.{room, stored}
use Rattle.header.specs.declared.parser.ReadAnswer.{ReadAnswer}
use Rattle.header.specs.Parsers.{outcome_number, outcome_says, accepted_in, read_into}
use Rattle.house.specs.declared.form.FormRefusal.{FormRefusal}
use Rattle.house.specs.declared.form.FormRefusal.TheVariants.{TooLong, LineTooLong, NoRoom}
use Rattle.house.specs.declared.form.HouseAnswer.{HouseAnswer}
use Rattle.house.specs.Forms.{WritesForm}
use Rattle.rules.specs.Claims.{Sized}
use Rattle.rules.specs.Meaning.{Meaning, header_meaning}

-- document 01's number, the place, the number of entries, the form's length, and of an accepted header the version in force and the number of samples
pub record FormMeaning : Type 0 where
  pub number : ℕ
  pub line : ℕ
  pub start : ℕ
  pub entries : ℕ
  pub size : ℕ
  pub accepted : Option (Version × ℕ)

abbrev pub form_answer_means : HouseAnswer → FormMeaning
form_answer_means a = record {
  number = outcome_number a.outcome;
  line = a.line;
  start = a.start;
  entries = a.entries;
  size = a.length;
  accepted = outcome_says a.outcome;
}

-- the same of a reading and the form of what was read
abbrev pub house_means : Reading → HouseReading → FormMeaning
house_means r f = record {
  number = f.number;
  line = f.line;
  start = f.start;
  entries = length r.entries;
  size = length f.form;
  accepted = accepted_in f.number r.state;
}

abbrev pub refused_answer : Refusal → ℕ → ℕ → ℕ → HouseAnswer
refused_answer x line start entries = record { outcome = Err x; line = line; start = start; entries = entries; length = 0 }

-- after an accepted reading
abbrev pub form_answered : ReadAnswer → Result ℕ FormRefusal → HouseAnswer
form_answered a (Ok n) = record { outcome = a.outcome; line = a.line; start = a.start; entries = a.entries; length = n }
form_answered a (Err TooLong) = refused_answer refusal.HeaderTooLong 0 0 a.entries
form_answered a (Err (LineTooLong l s)) = refused_answer refusal.LineTooLong l s a.entries
form_answered a (Err NoRoom) = refused_answer refusal.FormTooLong 0 0 a.entries

-- the form was written, or not, and answered for
pub record AnswersForm (lim : Limits) (a : ReadAnswer) (f : FileFormat) (h : Bytes) (es : List Entry) (old : Bytes) (r : HouseAnswer) (new : Bytes) :
    Type 0 where
  pub written : Result ℕ FormRefusal
  pub writes : WritesForm lim (version_of f) h es old written new
  pub answers : r ≡ form_answered a written
  pub sized : Sized (version_of f)

-- what `house_form` promises of a call: the version imposed, the header, the table and the output; the answer, and the table and the output after it
pub record HouseCall (form : Form) (imposed : Option Version) (h : Bytes) (t : List ℕ) (out : Bytes) (r : HouseAnswer) (t' : List ℕ) (out' : Bytes) :
    Type 0 where
  pub answer : form_answer_means r ≡ house_means (read_into form imposed t h) (house (limits_by form) imposed (room form t) (length out) h)
  pub table : t' ≡ stored form t 0 (read_into form imposed t h).entries
  pub output : out' ≡ sets out 0 (house (limits_by form) imposed (room form t) (length out) h).form

-- the call was accepted
abbrev pub IsAccepted : HouseAnswer → Type 0
IsAccepted r = (f : FileFormat) × (n : ℕ) × (r.outcome ≡ Ok (f, n))

-- what was written
abbrev pub form_written : HouseAnswer → Bytes → Bytes
form_written r out' = take r.length out'

abbrev pub meant : ℕ → State → Option Meaning
meant zero empty = None
meant zero (ready v rs) = None
meant zero (done v rs c) = Some (header_meaning v rs c)
meant (suc n) s = None

-- the meaning of a header, if it is accepted
abbrev pub means : Limits → Option Version → ℕ → Bytes → Option Meaning
means lim imposed room h = meant (reading lim imposed room h).number (reading lim imposed room h).state
