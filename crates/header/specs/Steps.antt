-- Document 02, §8: the line machine over the entries of a table, whatever they are: what a line is beside the entries kept so far, and the
-- lines one after the other. Where the entries are those of the lines before it, this is the rules' own machine (`proofs/Whole`).
-- Assumes nothing.
use Rattle.std.specs.Prelude.{ℕ, suc, ◌+◌, Bool, true, false, ◌&&◌, List, [], ◌∷◌, ◌++◌, leb, ltb, length, drop, Option, None, Some}
use Rattle.values.specs.Bytes.{Bytes}
use Rattle.rules.specs.Answer.{Answer, ok, refuse, ◌>>=◌, judged}
use Rattle.rules.specs.Sizes.{Limits}
use Rattle.rules.specs.Version.{Version}
use Rattle.rules.specs.Lines.{pieces, line_of}
use Rattle.rules.specs.Record.{key_of}
use Rattle.rules.specs.Entry.{Entry}
use Rattle.rules.specs.Reading.{State, empty, ready, done, step}
use Rattle.entries.specs.declared.form.Form.{Form}
use Rattle.entries.specs.Values.{limits_by}
use Rattle.entries.specs.Tables.{room, stored, first_entries, entries_in}
use Rattle.ids.specs.Clashes.{clash_number, clash_in, prefix_of}

-- the phases: before the fileformat line; after it, with the version in force; after the column line, with the number of samples too
pub data Stage : Type 0 where
  opening : Stage
  body : Version → Stage
  ending : Version → ℕ → Stage

abbrev pub stage_after : State → Stage
stage_after empty = opening
stage_after (ready v rs) = body v
stage_after (done v rs c) = ending v (length c.samples)

-- a state of this phase in which no record was read
abbrev pub fresh_state : Stage → State
fresh_state opening = empty
fresh_state (body v) = ready v []
fresh_state (ending v n) = done v [] (record { format = false; samples = [] })

-- 19 to 21: the record that was read in a fresh state, if it was one, beside the entries kept so far
abbrev pub new_clash : Bytes → List Entry → State → List Entry → ℕ
new_clash h es empty fs = 0
new_clash h es (ready v []) fs = 0
new_clash h es (ready v (r ∷ rs)) [] = 0
new_clash h es (ready v (r ∷ rs)) (e ∷ fs) = clash_number (clash_in h es (prefix_of (key_of r)) e)
new_clash h es (done v rs c) fs = 0

abbrev pub held_against : Bytes → List Entry → State × List Entry → Answer (Stage × List Entry)
held_against h es q = judged (new_clash h es q.0 q.1) (stage_after q.0, q.1)

-- a line, which stands at start: what it is by itself, then 19 to 21
unfoldable pub step_on : Limits → Option Version → Bytes → List Entry → ℕ → Stage → Bytes → Answer (Stage × List Entry)
step_on lim imposed h es start g l = step lim imposed start (fresh_state g) l >>= held_against h es

-- how far the lines are read: the phase, their number, where the next one begins, and the entries kept
pub record Point : Type 0 where
  pub stage : Stage
  pub line : ℕ
  pub at : ℕ
  pub entries : List Entry

abbrev pub start_point : Point
start_point = record { stage = opening; line = 0; at = 0; entries = [] }

-- the refusal of the next line, if it was refused
pub record Went : Type 0 where
  pub stop : Option ℕ
  pub point : Point

-- after a piece, whose line gave this
abbrev pub passed : Point → Bytes → Stage × List Entry → Point
passed q p x = record { stage = x.0; line = suc q.line; at = q.at + length p; entries = q.entries ++ x.1 }

-- the pieces from a point on that begin before `end`; the table has room for `room` entries
unfoldable pub go_on : Limits → Option Version → ℕ → Bytes → ℕ → Point → List Bytes → Went
go_on lim imposed room h end q [] = record { stop = None; point = q }
go_on lim imposed room h end q (p ∷ ps) = elim (ltb q.at end) [
  | true ↦ elim (step_on lim imposed h q.entries q.at q.stage (line_of p)) [
    | refuse m ↦ record { stop = Some m; point = q }
    | ok x ↦ elim (leb (length q.entries + length x.1) room) [
      | true ↦ go_on lim imposed room h end (passed q p x) ps
      | false ↦ record { stop = Some 24; point = q }
    ]
  ]
  | false ↦ record { stop = None; point = q }
]

-- The same with the entries in a table

-- a point, with the number of its entries
pub record Spot : Type 0 where
  pub stage : Stage
  pub line : ℕ
  pub at : ℕ
  pub count : ℕ

pub record Told : Type 0 where
  pub stop : Option ℕ
  pub spot : Spot

abbrev pub start_spot : Spot
start_spot = record { stage = opening; line = 0; at = 0; count = 0 }

-- in a header of `size` bytes: within the limit, no more entries than the table has room for, the next line begins in the header, and no more lines than bytes before it
unfoldable pub fits : Form → ℕ → List ℕ → Spot → Bool
fits form size t s = leb size (limits_by form).header && (leb s.count (room form t) && (leb s.at size && leb s.line s.at))

abbrev pub point_of : Form → List ℕ → Spot → Point
point_of form t s = record { stage = s.stage; line = s.line; at = s.at; entries = entries_in form (first_entries form t s.count) }

abbrev pub spot_of : Point → Spot
spot_of q = record { stage = q.stage; line = q.line; at = q.at; count = length q.entries }

-- the lines from a spot on that begin before `end`
abbrev pub went_on : Form → Option Version → Bytes → ℕ → List ℕ → Spot → Went
went_on form imposed h end t s = go_on (limits_by form) imposed (room form t) h end (point_of form t s) (pieces (drop s.at h))

abbrev pub told_by : Went → Told
told_by w = record { stop = w.stop; spot = spot_of w.point }

-- nothing is read from a spot that does not fit
unfoldable pub read_on : Form → Option Version → Bytes → ℕ → List ℕ → Spot → Told
read_on form imposed h end t s = elim (fits form (length h) t s) [ true ↦ told_by (went_on form imposed h end t s) | false ↦ record { stop = None; spot = s } ]

-- the entries that were kept, after those that were there
unfoldable pub table_on : Form → Option Version → Bytes → ℕ → List ℕ → Spot → List ℕ
table_on form imposed h end t s = elim (fits form (length h) t s) [
  | true ↦ stored form t s.count (drop s.count (went_on form imposed h end t s).point.entries)
  | false ↦ t
]
