-- Document 02, §5 and §10: entries turned from one form into the other, in another table. Assumes nothing.
use Rattle.std.specs.Prelude.{ℕ, zero, suc, ◌+◌, ◌≡◌, Bool, true, false, ◌&&◌, List, [], ◌∷◌, leb, length, Option, None, Some, Result, Ok, Err, ⊤}
use Rattle.values.specs.Bytes.{Bytes}
use Rattle.rules.specs.Version.{Version}
use Rattle.rules.specs.Record.{Record}
use Rattle.rules.specs.Entry.{Entry, no_counts, counts_of, with_counts}
use Rattle.rules.specs.Shown.{line_in, read_alone}
use Rattle.records.specs.Formats.{version_of}
use Rattle.entries.specs.declared.form.Form.{Form}
use Rattle.entries.specs.declared.form.Form.TheVariants.{First, Second}
use Rattle.entries.specs.Values.{limits_by}
use Rattle.entries.specs.Tables.{room, stored, put_all, entry_at}
use Rattle.turning.specs.declared.turn.Into.{Into}
use Rattle.turning.specs.declared.turn.Into.TheVariants as into
use Rattle.turning.specs.declared.turn.TurnRefusal.{TurnRefusal}
use Rattle.turning.specs.declared.turn.TurnRefusal.TheVariants.{NotWellFormed, TooLarge, TableFull}
use Rattle.turning.specs.declared.turn.TurnAnswer.{TurnAnswer}
use Rattle.turning.specs.declared.turn.Judged.{Judged}
use Rattle.turning.specs.declared.turn.Judged.TheVariants.{Fit, Unfit, Malformed}

-- document 02's number
abbrev pub turn_number : Result ⊤ TurnRefusal → ℕ
turn_number (Ok tt) = 0
turn_number (Err NotWellFormed) = 29
turn_number (Err TooLarge) = 32
turn_number (Err TableFull) = 24

-- to the second form lines are read again, under a version
pub data Way : Type 0 where
  to_first : Way
  to_second : Version → Way

-- the form that entries are turned into, and the one that they are in
abbrev pub target_of : Way → Form
target_of to_first = First
target_of (to_second v) = Second

abbrev pub source_of : Way → Form
source_of to_first = Second
source_of (to_second v) = First

-- One entry; none is refusal 29

-- with the counts of the record on its line
abbrev pub with_record : Entry → Option Record → Option Entry
with_record e None = None
with_record e (Some r) = Some (with_counts (counts_of true r) e)

-- in the second form, where the line of kinds 1 to 8 is read alone under the version
unfoldable pub raised : Bytes → Version → Entry → Option Entry
raised h v e = elim (leb e.kind 8) [ true ↦ with_record e (read_alone v e.kind (line_in h e)) | false ↦ Some (with_counts no_counts e) ]

-- the first form has no counts
abbrev pub turned_entry : Way → Bytes → Entry → Option Entry
turned_entry to_first h e = Some (with_counts no_counts e)
turned_entry (to_second v) h e = raised h v e

abbrev pub turned_if : Way → Bytes → Option Entry → Option Entry
turned_if w h None = None
turned_if w h (Some e) = turned_entry w h e

abbrev pub turned_at : Way → Bytes → List ℕ → ℕ → Option Entry
turned_at w h s n = turned_if w h (entry_at (source_of w) h s n)

-- All entries of a table; none if one is refused

abbrev pub with : Option Entry → Option (List Entry) → Option (List Entry)
with None es = None
with (Some e) None = None
with (Some e) (Some es) = Some (e ∷ es)

-- so many from number n on
unfoldable pub turned_from : Way → Bytes → List ℕ → ℕ → ℕ → Option (List Entry)
turned_from w h s n zero = Some []
turned_from w h s n (suc k) = with (turned_at w h s n) (turned_from w h s (n + 1) k)

abbrev pub turned_in : Way → Bytes → List ℕ → Option (List Entry)
turned_in w h s = turned_from w h s 0 (room (source_of w) s)

-- no number is larger than the form's limits, which are all that its bits hold
abbrev pub fits_in : Form → Entry → Bool
fits_in form e =
    leb e.start (limits_by form).header
    && (leb e.length (limits_by form).line && (leb e.offset (limits_by form).line && leb e.id_length (limits_by form).line))

unfoldable pub all_fit : Form → List Entry → Bool
all_fit form [] = true
all_fit form (e ∷ es) = fits_in form e && all_fit form es

-- 29, then 32, then 24: whether all entries are there, whether they fit, and whether there is room for them

abbrev pub outcome_by : Bool → Bool → Result ⊤ TurnRefusal
outcome_by false roomy = Err TooLarge
outcome_by true false = Err TableFull
outcome_by true true = Ok tt

abbrev pub outcome_of : Form → List ℕ → Option (List Entry) → Result ⊤ TurnRefusal
outcome_of to t None = Err NotWellFormed
outcome_of to t (Some es) = outcome_by (all_fit to es) (leb (length es) (room to t))

-- the entries of the table s, turned into the table t
abbrev pub turn_outcome : Way → Bytes → List ℕ → List ℕ → Result ⊤ TurnRefusal
turn_outcome w h s t = outcome_of (target_of w) t (turned_in w h s)

abbrev pub answer_by : ℕ → Result ⊤ TurnRefusal → TurnAnswer
answer_by n (Ok tt) = record { outcome = (Ok tt); entries = n }
answer_by n (Err NotWellFormed) = record { outcome = (Err NotWellFormed); entries = 0 }
answer_by n (Err TooLarge) = record { outcome = (Err TooLarge); entries = 0 }
answer_by n (Err TableFull) = record { outcome = (Err TableFull); entries = 0 }

abbrev pub turn_answer : Way → Bytes → List ℕ → List ℕ → TurnAnswer
turn_answer w h s t = answer_by (room (source_of w) s) (turn_outcome w h s t)

-- the table after the call
abbrev pub table_by : List Entry → Form → List ℕ → Result ⊤ TurnRefusal → List ℕ
table_by es to t (Ok tt) = stored to t 0 es
table_by es to t (Err NotWellFormed) = t
table_by es to t (Err TooLarge) = t
table_by es to t (Err TableFull) = t

abbrev pub table_of : Form → List ℕ → Option (List Entry) → List ℕ
table_of to t None = t
table_of to t (Some es) = table_by es to t (outcome_of to t (Some es))

abbrev pub turn_table : Way → Bytes → List ℕ → List ℕ → List ℕ
turn_table w h s t = table_of (target_of w) t (turned_in w h s)

-- What the code finds before it looks for room

abbrev pub way_of : Into → Way
way_of into.First = to_first
way_of (into.Second version) = to_second (version_of version)

abbrev pub judged_by : Bool → Judged
judged_by false = Unfit
judged_by true = Fit

-- fit: those before them do
abbrev pub judged_of : Form → Bool → Option (List Entry) → Judged
judged_of to fit None = Malformed
judged_of to fit (Some es) = judged_by (fit && all_fit to es)

abbrev pub judged_as : Way → Bytes → List ℕ → Judged
judged_as w h s = judged_of (target_of w) true (turned_in w h s)

-- all entries were put where there is room, unless one is refused
pub record Copies (w : Way) (h : Bytes) (s t t' : List ℕ) : Type 0 where
  pub is : (es : List Entry) → turned_in w h s ≡ Some es → t' ≡ put_all (target_of w) t 0 es
