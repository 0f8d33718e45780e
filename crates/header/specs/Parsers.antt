-- What a reading answers, and the line machine of the code beside that of `Steps`. Assumes nothing.
use Rattle.std.specs.Prelude.{ℕ, zero, suc, ◌+◌, ◌≤◌, ◌<◌, ◌≡◌, Bool, true, false, List, ◌∷◌, leb, length, drop, Option, None, Some, Result, Ok, Err}
use Rattle.values.specs.Bytes.{Bytes, part}
use Rattle.values.specs.Utf8.{is_ascii}
use Rattle.rules.specs.Answer.{Answer, ok, refuse}
use Rattle.rules.specs.Version.{Version}
use Rattle.rules.specs.Lines.{pieces, line_of}
use Rattle.rules.specs.Entry.{Entry}
use Rattle.rules.specs.Reading.{State, empty, ready, done, Reading, reading}
use Rattle.rules.specs.Claims.{All}
use Rattle.rules.proofs.Firsts.{OnOk}
use Rattle.records.specs.Formats.{version_of}
use Rattle.records.specs.Refusals.{number}
use Rattle.records.specs.declared.refusal.Refusal.{Refusal}
use Rattle.entries.specs.Tables.{room, stored}
use Rattle.ids.specs.Marks.{Marked}
use Rattle.header.specs.Steps.{Stage, opening, body, ending, step_on, Spot, Told, fits, point_of, read_on, table_on}
use Rattle.header.specs.Verdicts.{stage_of, Says, MarksKept, MarkedBefore}
use Rattle.header.specs.Ahead.{AheadMarked}
use Rattle.header.specs.declared.verdict.Verdict.{Verdict}
use Rattle.header.specs.declared.parser.ReadAnswer.{ReadAnswer}
use Rattle.header.specs.declared.parser.Parser.{Parser}
use Rattle.entries.specs.Values.{limits_by}
use Rattle.entries.specs.declared.form.Form.{Form}
use Rattle.records.specs.declared.file_format.FileFormat.{FileFormat}

-- What an answer says: document 01's number, the place, the number of entries, and of an accepted header the version in force and the number of samples

pub record AnswerMeaning : Type 0 where
  pub number : ℕ
  pub line : ℕ
  pub start : ℕ
  pub entries : ℕ
  pub accepted : Option (Version × ℕ)

abbrev pub outcome_number : Result (FileFormat × ℕ) Refusal → ℕ
outcome_number (Ok (f, n)) = 0
outcome_number (Err x) = number x

abbrev pub outcome_says : Result (FileFormat × ℕ) Refusal → Option (Version × ℕ)
outcome_says (Ok (f, n)) = Some (version_of f, n)
outcome_says (Err x) = None

abbrev pub answer_means : ReadAnswer → AnswerMeaning
answer_means a = record { number = outcome_number a.outcome; line = a.line; start = a.start; entries = a.entries; accepted = outcome_says a.outcome }

abbrev pub accepted_in : ℕ → State → Option (Version × ℕ)
accepted_in zero empty = None
accepted_in zero (ready v rs) = None
accepted_in zero (done v rs c) = Some (v, length c.samples)
accepted_in (suc n) s = None

abbrev pub reading_means : Reading → AnswerMeaning
reading_means r = record { number = r.number; line = r.line; start = r.start; entries = length r.entries; accepted = accepted_in r.number r.state }

abbrev pub refused_as : Refusal → ℕ → ℕ → ℕ → ReadAnswer
refused_as x line start entries = record { outcome = Err x; line = line; start = start; entries = entries }

-- a header read into a table
abbrev pub read_into : Form → Option Version → List ℕ → Bytes → Reading
read_into form imposed t h = reading (limits_by form) imposed (room form t) h

-- what `read` promises of a call: the version imposed, the header and the table; the answer, and the table after it
pub record ReadCall (form : Form) (imposed : Option Version) (h t : List ℕ) (r : ReadAnswer) (t' : List ℕ) : Type 0 where
  pub answer : answer_means r ≡ reading_means (read_into form imposed t h)
  pub table : t' ≡ stored form t 0 (read_into form imposed t h).entries

-- How far a header is read

abbrev pub spot_in : Parser → Spot
spot_in p = record { stage = stage_of p.phase; line = p.line; at = p.at; count = p.count }

abbrev pub advance_means : Result Parser (Parser × Refusal) → Told
advance_means (Ok p) = record { stop = None; spot = spot_in p }
advance_means (Err (p, x)) = record { stop = Some (number x); spot = spot_in p }

-- the answer where no line is left: no line at all, no column line, or accepted
abbrev pub ended_by : Stage → ℕ → ℕ → ℕ → AnswerMeaning
ended_by opening line at count = record { number = 25; line = 0; start = 0; entries = count; accepted = None }
ended_by (body v) line at count = record { number = 26; line = line; start = at; entries = count; accepted = None }
ended_by (ending v n) line at count = record { number = 0; line = line; start = at; entries = count; accepted = Some (v, n) }

abbrev pub ended_at : Spot → AnswerMeaning
ended_at s = ended_by s.stage s.line s.at s.count

-- the answer where the next line is refused by this number
abbrev pub refused_at : ℕ → Spot → AnswerMeaning
refused_at n s = record { number = n; line = suc s.line; start = s.at; entries = s.count; accepted = None }

-- at the end of a header
abbrev pub closed_by : Option ℕ → Spot → AnswerMeaning
closed_by None s = ended_at s
closed_by (Some n) s = refused_at n s

abbrev pub closed_at : Told → AnswerMeaning
closed_at t = closed_by t.stop t.spot

-- what `read_on` promises of a call: the version imposed, the header, the table and the spot; how far it went, and the table after it
pub record ReadsOn (form : Form) (imposed : Option Version) (h : Bytes) (end : ℕ) (t : List ℕ) (s : Spot) (r : Result Parser (Parser × Refusal)) (t' : List ℕ) : Type 0 where
  pub told : advance_means r ≡ read_on form imposed h end t s
  pub table : t' ≡ table_on form imposed h end t s

-- where the lines from a spot on can be read; plain: they are known to be ASCII
pub record Begins (form : Form) (plain : Bool) (h t : List ℕ) (s : Spot) : Type 0 where
  pub fit : fits form (length h) t s ≡ true
  pub ascii : plain ≡ true → is_ascii (drop s.at h) ≡ true

-- the same, with the entries marked
pub record BeginsMarked (form : Form) (plain : Bool) (h ms t : List ℕ) (s : Spot) : Type 0 where
  pub begins : Begins form plain h t s
  pub marked : AheadMarked (limits_by form) s.stage h s.at ms (point_of form t s).entries

-- One line

pub record Bounds (form : Form) (h t : List ℕ) (p : Parser) : Type 0 where
  pub count : p.count ≤ room form t
  pub line : p.line < length h

-- what a line's answer makes of a spot and of the table: the next line begins at `next`
abbrev pub spot_after : ℕ → Spot → ℕ → Answer (Stage × List Entry) → Answer Spot
spot_after room s next (refuse m) = refuse m
spot_after room s next (ok q) = elim (leb (s.count + length q.1) room) [
  | true ↦ ok (record { stage = q.0; line = s.line + 1; at = next; count = s.count + length q.1 })
  | false ↦ refuse 24
]

abbrev pub table_after : Form → List ℕ → ℕ → Answer (Stage × List Entry) → List ℕ
table_after form t n (refuse m) = t
table_after form t n (ok q) = elim (leb (n + length q.1) (room form t)) [ true ↦ stored form t n q.1 | false ↦ t ]

abbrev pub partial_means : Result Parser Refusal → Answer Spot
partial_means (Ok q) = ok (spot_in q)
partial_means (Err x) = refuse (number x)

-- a line was kept, or refused, as its answer says; ms are the marks after it
pub record Stepped (form : Form) (h ms : Bytes) (p : Parser) (next : ℕ) (a : Answer (Stage × List Entry)) (t : List ℕ) (r : Result Parser Refusal) (t' : List ℕ) : Type 0 where
  pub told : partial_means r ≡ spot_after (room form t) (spot_in p) next a
  pub table : t' ≡ table_after form t p.count a
  pub marked : OnOk (λ q. All (Marked h ms) q.1) a

pub record KeepsLine (form : Form) (p : Parser) (h : Bytes) (end next : ℕ) (v : Result Verdict Refusal) (t : List ℕ) (r : Result Parser Refusal) (t' : List ℕ) : Type 0 where
  pub is : (ms : Bytes) (a : Answer (Stage × List Entry)) → Says (limits_by form) h ms a p.at (stage_of p.phase) (part h p.at end) v → Stepped form h ms p next a t r t'

-- plain: the rest of the header is known to be ASCII
pub record Parses (form : Form) (imposed : Option Version) (plain : Bool) (p : Parser) (h ms t : List ℕ) (r : Result Parser Refusal) (ms' t' : List ℕ) : Type 0 where
  pub marks : MarksKept h ms ms'
  pub is : (piece : Bytes) (ps : List Bytes) → pieces (drop p.at h) ≡ piece ∷ ps → MarkedBefore (limits_by form) (stage_of p.phase) h p.at (line_of piece) ms (point_of form t (spot_in p)).entries
      → (plain ≡ true → is_ascii (drop p.at h) ≡ true)
      → Stepped form h ms' p (p.at + length piece) (step_on (limits_by form) imposed h (point_of form t (spot_in p)).entries p.at (stage_of p.phase) (line_of piece)) t r t'
