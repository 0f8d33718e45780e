-- What the calls of a season answer. Assumes nothing.
use Rattle.records.specs.declared.file_format.FileFormat.{FileFormat}
use Rattle.records.specs.declared.refusal.Refusal.{Refusal}
use Rattle.std.specs.Prelude.{ℕ, ◌+◌, ◌≤◌, ◌<◌, ◌≡◌, Bool, true, false, List, ltb, length, get_or, Option, None, Some, Result, Ok, Err, ⊤}
use Rattle.values.specs.Bytes.{Bytes}
use Rattle.rules.specs.Version.{Version}
use Rattle.rules.specs.Entry.{Entry}
use Rattle.rules.specs.Reading.{Reading}
use Rattle.entries.specs.declared.form.Form.{Form}
use Rattle.entries.specs.Tables.{stored}
use Rattle.header.specs.declared.parser.ReadAnswer.{ReadAnswer}
use Rattle.header.specs.Parsers.{outcome_number, outcome_says, accepted_in, read_into}
use Rattle.season.specs.declared.merge.SeasonRefusal.{SeasonRefusal}
use Rattle.season.specs.declared.merge.SeasonRefusal.TheVariants as merging
use Rattle.season.specs.declared.merge.MergeAnswer.{MergeAnswer}
use Rattle.season.specs.declared.add.AddAnswer.{AddAnswer}
use Rattle.season.specs.Sheet.{of_kind, tally, sums, passes, added_by}

-- Two sheets

-- document 02's number
abbrev pub merge_number : Result ⊤ SeasonRefusal → ℕ
merge_number (Ok tt) = 0
merge_number (Err merging.TotalTooLarge) = 30

-- one total of two, if it is within 64 bits
abbrev pub total_by : Bool → ℕ → Option ℕ
total_by true n = None
total_by false n = Some n

abbrev pub total_of : ℕ → ℕ → Option ℕ
total_of a b = total_by (ltb 18446744073709551615 (a + b)) (a + b)

abbrev pub merge_outcome : Bool → Result ⊤ SeasonRefusal
merge_outcome true = Err merging.TotalTooLarge
merge_outcome false = Ok tt

abbrev pub merged_by : Bool → List ℕ → List ℕ → MergeAnswer
merged_by over s n = record { outcome = merge_outcome over; sheet = added_by over s n }

abbrev pub merge_answer : List ℕ → List ℕ → MergeAnswer
merge_answer s n = merged_by (passes (sums s n)) s n

-- A header

abbrev pub add_number : Result (Result (FileFormat × ℕ) Refusal) SeasonRefusal → ℕ
add_number (Ok o) = outcome_number o
add_number (Err merging.TotalTooLarge) = 30

abbrev pub add_says : Result (Result (FileFormat × ℕ) Refusal) SeasonRefusal → Option (Version × ℕ)
add_says (Ok o) = outcome_says o
add_says (Err merging.TotalTooLarge) = None

abbrev pub is_added : Result (Result (FileFormat × ℕ) Refusal) SeasonRefusal → Bool
is_added (Ok o) = true
is_added (Err merging.TotalTooLarge) = false

-- what an answer says: number, place, how many entries, of an accepted header the version in force and the number of samples; whether the
-- header is added, and the sheet after it
pub record AddMeaning : Type 0 where
  pub number : ℕ
  pub line : ℕ
  pub start : ℕ
  pub entries : ℕ
  pub accepted : Option (Version × ℕ)
  pub added : Bool
  pub sheet : List ℕ

abbrev pub add_answer_means : AddAnswer → AddMeaning
add_answer_means a = record {
  number = add_number a.outcome;
  line = a.line;
  start = a.start;
  entries = a.entries;
  accepted = add_says a.outcome;
  added = is_added a.outcome;
  sheet = a.sheet;
}

-- 30 if a total would overflow, else the reading's own answer
abbrev pub add_means_by : Bool → List ℕ → Reading → AddMeaning
add_means_by true s r = record { number = 30; line = 0; start = 0; entries = length r.entries; accepted = None; added = false; sheet = s }
add_means_by false s r = record {
  number = r.number;
  line = r.line;
  start = r.start;
  entries = length r.entries;
  accepted = accepted_in r.number r.state;
  added = true;
  sheet = sums s (tally r);
}

abbrev pub add_means : List ℕ → Reading → AddMeaning
add_means s r = add_means_by (passes (sums s (tally r))) s r

-- what `add` promises of a call: the version imposed, the header, the table and the sheet; the answer, and the table after it
pub record AddCall (form : Form) (imposed : Option Version) (h : Bytes) (t s : List ℕ) (r : AddAnswer) (t' : List ℕ) : Type 0 where
  pub answer : add_answer_means r ≡ add_means s (read_into form imposed t h)
  pub table : t' ≡ stored form t 0 (read_into form imposed t h).entries

-- What the code finds on its way

-- the totals of kinds are those of these entries, all others are 0
pub record KindsTold (es : List Entry) (l : List ℕ) : Type 0 where
  pub long : length l ≡ 39
  pub rest : (p : ℕ) → p < 29 → get_or l p 0 ≡ 0
  pub each : (k : ℕ) → 1 ≤ k → k ≤ 10 → get_or l (28 + k) 0 ≡ of_kind k es

-- a reading's answer with the sheet after it
abbrev pub answer_by : ReadAnswer → Result ⊤ SeasonRefusal → List ℕ → AddAnswer
answer_by a (Ok tt) s = record { outcome = Ok a.outcome; line = a.line; start = a.start; entries = a.entries; sheet = s }
answer_by a (Err merging.TotalTooLarge) s = record { outcome = Err merging.TotalTooLarge; line = 0; start = 0; entries = a.entries; sheet = s }
