-- What a call of feeding answers, in the terms of the definitions. Assumes nothing.
use Rattle.std.specs.Prelude.{ℕ, ◌≡◌, List, [], ◌∷◌, Option, None, Some, Result, Ok, Err}
use Rattle.values.specs.Bytes.{Bytes}
use Rattle.rules.specs.Version.{Version}
use Rattle.records.specs.Formats.{version_of}
use Rattle.records.specs.Refusals.{number}
use Rattle.entries.specs.declared.form.Form.{Form}
use Rattle.header.specs.Verdicts.{imposed_of}
use Rattle.header.specs.Parsers.{AnswerMeaning, answer_means, spot_in, closed_at}
use Rattle.feed.specs.Feeding.{Feeding, Fed, state_by, answer_by, complete_told, complete_table, feed_of, ended_state, rest_told, rest_table, close_of}
use Rattle.feed.specs.declared.cable.FeedState.{FeedState}
use Rattle.feed.specs.declared.cable.FeedAnswer.{FeedAnswer}
use Rattle.header.specs.declared.parser.ReadAnswer.{ReadAnswer}
use Rattle.records.specs.declared.file_format.FileFormat.{FileFormat}
use Rattle.records.specs.declared.refusal.Refusal.{Refusal}

-- the number of each outcome
abbrev pub feed_number : Option (Result (FileFormat × ℕ) Refusal) → ℕ
feed_number None = 0
feed_number (Some (Ok (f, n))) = 0
feed_number (Some (Err x)) = number x

abbrev pub feed_says : Option (Result (FileFormat × ℕ) Refusal) → Option (Version × ℕ)
feed_says None = None
feed_says (Some (Ok (f, n))) = Some (version_of f, n)
feed_says (Some (Err x)) = None

abbrev pub ended_means : Option ReadAnswer → Option AnswerMeaning
ended_means None = None
ended_means (Some a) = Some (answer_means a)

abbrev pub state_means : FeedState → Feeding
state_means s = record { imposed = imposed_of s.imposed; spot = spot_in s.parser; held = s.held; ended = ended_means s.ended }

-- the state that is handed back, and the answer
pub record Answered : Type 0 where
  pub state : Feeding
  pub answer : AnswerMeaning

abbrev pub told : Feeding → AnswerMeaning → Answered
told s a = record { state = s; answer = a }

abbrev pub feed_means : FeedAnswer → Answered
feed_means r = told (state_means r.state) (record { number = feed_number r.outcome; line = r.line; start = r.start; entries = r.entries; accepted = feed_says r.outcome })

-- the complete lines of the bytes held, h
pub record ReadsComplete (form : Form) (s : Feeding) (h : Bytes) (t : List ℕ) (r : FeedAnswer) (t' : List ℕ) : Type 0 where
  pub answer : feed_means r ≡ told (state_by s.imposed s.held (complete_told form s h t).stop (complete_told form s h t).spot) (answer_by s.held (complete_told form s h t).stop (complete_told form s h t).spot)
  pub table : t' ≡ complete_table form s h t

-- all lines that are left
pub record ReadsRest (form : Form) (s : Feeding) (h : Bytes) (t : List ℕ) (r : FeedAnswer) (t' : List ℕ) : Type 0 where
  pub answer : feed_means r ≡ told (ended_state s.imposed (rest_told form s h t).spot s.held (closed_at (rest_told form s h t))) (closed_at (rest_told form s h t))
  pub table : t' ≡ rest_table form s h t

-- what a call promises to leave: the answer with the state, the buffer and the table
pub record Leaves (x : Fed) (r : FeedAnswer) (b' : Bytes) (t' : List ℕ) : Type 0 where
  pub answer : feed_means r ≡ told x.state x.answer
  pub buffer : b' ≡ x.buffer
  pub table : t' ≡ x.table

-- a close leaves the buffer alone
pub record Closes (x : Fed) (r : FeedAnswer) (t' : List ℕ) : Type 0 where
  pub answer : feed_means r ≡ told x.state x.answer
  pub table : t' ≡ x.table

-- Calls one after the other: a piece each, with the state, the buffer and the table that the call before left, and then the close, which
-- answers r and leaves the table t'
pub data Sent (form : Form) : FeedState → List Bytes → Bytes → List ℕ → FeedAnswer → List ℕ → Type 0 where
  closed : {s : FeedState} {b t t' : List ℕ} {r : FeedAnswer} → Closes (close_of form (state_means s) b t) r t' → Sent form s [] b t r t'
  fed : {s : FeedState} {x : Bytes} {xs : List Bytes} {b t b₁ t₁ t' : List ℕ} {q r : FeedAnswer}
      → Leaves (feed_of form (state_means s) x b t) q b₁ t₁ → Sent form q.state xs b₁ t₁ r t' → Sent form s (x ∷ xs) b t r t'
