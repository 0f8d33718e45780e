-- The whole form, as a header's bytes and its entries tell it, and what becomes of it. Assumes nothing.
use Rattle.std.specs.Prelude.{ℕ, ◌≡◌, Bool, true, false, List, [], ◌∷◌, ◌++◌, eqb, leb, length, Option, None, Some, Result, Ok, Err}
use Rattle.std.proofs.lemmas.List.Edits.{sets}
use Rattle.values.specs.Bytes.{Bytes}
use Rattle.values.specs.Written.{last, differing, sooner}
use Rattle.rules.specs.Sizes.{Limits}
use Rattle.rules.specs.Lines.{write_lines}
use Rattle.rules.specs.Version.{Version}
use Rattle.rules.specs.Known.{typed_keys}
use Rattle.rules.specs.Record.{fileformat}
use Rattle.rules.specs.Entry.{Entry, columns_kind}
use Rattle.rules.specs.Shown.{line_in}
use Rattle.rules.specs.House.{write_record, too_long}
use Rattle.house.specs.declared.progress.Progress.{Progress}
use Rattle.house.specs.declared.form.Compared.{Compared}
use Rattle.house.specs.declared.form.FormRefusal.{FormRefusal}
use Rattle.house.specs.declared.form.FormRefusal.TheVariants.{TooLong, LineTooLong, NoRoom}
use Rattle.house.specs.Writes.{long_in, WroteLines}
use Rattle.house.specs.Keys.{AllListed, lines_under, other_lines}

abbrev pub line_or : Bool → Bytes → Bytes → Bytes
line_or true l m = l
line_or false l m = m

-- the first column line, no bytes if there is none
unfoldable pub column_line : Bytes → List Entry → Bytes
column_line h [] = []
column_line h (e ∷ es) = line_or (eqb e.kind columns_kind) (line_in h e) (column_line h es)

unfoldable pub record_lines : Version → Bytes → List Entry → List Bytes
record_lines v h es = lines_under v h es typed_keys ++ other_lines v h es [] es

unfoldable pub form_lines : Version → Bytes → List Entry → List Bytes
form_lines v h es = write_record (fileformat v) ∷ (record_lines v h es ++ column_line h es ∷ [])

-- nothing is written yet, and no difference was met; how long a line may be, and whether all lines stand in form
abbrev pub begun : ℕ → Bool → Progress
begun limit formed = record { limit = limit; next = record { at = 0; differs = last }; lines = 0; long = 0; start = 0; formed = formed }

pub record PutsRecords (v : Version) (h : Bytes) (es : List Entry) (given old : Bytes) (s r : Progress) (new : Bytes) : Type 0 where
  pub is : AllListed s.formed v h es → WroteLines given old s (record_lines v h es) r new

pub record PutsForm (limit : ℕ) (formed : Bool) (v : Version) (h : Bytes) (es : List Entry) (given old : Bytes) (r : Progress) (new : Bytes) : Type 0 where
  pub is : AllListed formed v h es → WroteLines given old (begun limit formed) (form_lines v h es) r new

abbrev pub fitted_as : ℕ → ℕ → Result ℕ FormRefusal
fitted_as room size = elim (leb size room) [ true ↦ Ok size | false ↦ Err NoRoom ]

abbrev pub lined_as : ℕ → ℕ → Option (ℕ × ℕ) → Result ℕ FormRefusal
lined_as room size None = fitted_as room size
lined_as room size (Some p) = Err (LineTooLong p.0 p.1)

-- what becomes of a form whose writing told this
unfoldable pub measured_as : Limits → ℕ → Progress → Result ℕ FormRefusal
measured_as lim room m = elim (leb m.next.at lim.header) [ true ↦ lined_as room m.next.at (long_in m) | false ↦ Err TooLong ]

-- what becomes of these lines, where the output has `room` bytes
unfoldable pub outcome_of : Limits → ℕ → List Bytes → Result ℕ FormRefusal
outcome_of lim room ls = elim (leb (length (write_lines ls)) lim.header) [
  | true ↦ lined_as room (length (write_lines ls)) (too_long lim.line 0 0 ls)
  | false ↦ Err TooLong
]

-- the bytes that are written
abbrev pub written_of : Result ℕ FormRefusal → List Bytes → Bytes
written_of (Ok n) ls = write_lines ls
written_of (Err TooLong) ls = []
written_of (Err (LineTooLong l s)) ls = []
written_of (Err NoRoom) ls = []

pub record WritesForm (lim : Limits) (v : Version) (h : Bytes) (es : List Entry) (old : Bytes) (r : Result ℕ FormRefusal) (new : Bytes) : Type 0 where
  pub is : AllListed false v h es → r ≡ outcome_of lim (length old) (form_lines v h es)
  pub output : AllListed false v h es → new ≡ sets old 0 (written_of r (form_lines v h es))

-- the form was held against the header, the header limit being room enough for it
pub record ComparesForm (lim : Limits) (v : Version) (h : Bytes) (es : List Entry) (r : Compared) : Type 0 where
  pub is : AllListed false v h es → r.outcome ≡ outcome_of lim lim.header (form_lines v h es)
  pub differs : AllListed false v h es → r.differs ≡ sooner last (differing h 0 (write_lines (form_lines v h es)))
