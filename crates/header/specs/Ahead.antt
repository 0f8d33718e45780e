-- The lines still to be read, looked at for their names: of the entries before them only those need be marked that one of these may clash with. Assumes nothing.
use Rattle.std.specs.Prelude.{ℕ, ◌+◌, List, [], ◌∷◌, length, drop}
use Rattle.values.specs.Bytes.{Bytes}
use Rattle.rules.specs.Answer.{ok, refuse}
use Rattle.rules.specs.Sizes.{Limits}
use Rattle.rules.specs.Version.{Version}
use Rattle.rules.specs.Lines.{pieces, line_of}
use Rattle.rules.specs.Entry.{Entry}
use Rattle.rules.specs.Claims.{All}
use Rattle.ids.specs.Ahead.{note_names}
use Rattle.ids.specs.Marks.{MarkedFor}
use Rattle.header.specs.Steps.{Stage}
use Rattle.header.specs.Verdicts.{record_beside, LineNamed}

unfoldable pub note_entries : Bytes → List Entry → List ℕ → List ℕ
note_entries h [] ns = ns
note_entries h (e ∷ es) ns = note_entries h es (note_names h e ns)

-- the names of the record that stands on the line l, at start, if one does
unfoldable pub note_line : Limits → Version → Bytes → ℕ → Bytes → List ℕ → List ℕ
note_line lim v h start l ns = elim (record_beside lim h [] v start l) [ refuse m ↦ ns | ok q ↦ note_entries h q.1 ns ]

-- of the lines of all pieces, the first of which stands at `at`
unfoldable pub note_lines : Limits → Version → Bytes → ℕ → List Bytes → List ℕ → List ℕ
note_lines lim v h at [] ns = ns
note_lines lim v h at (p ∷ ps) ns = note_lines lim v h (at + length p) ps (note_line lim v h at (line_of p) ns)

-- the names of all of these lines were noted
abbrev pub LinesNamed : Limits → Stage → Bytes → List ℕ → ℕ → List Bytes → Type 0
LinesNamed lim g h ns at [] = Unit {0}
LinesNamed lim g h ns at (p ∷ ps) = LineNamed lim g h ns at (line_of p) × LinesNamed lim g h ns (at + length p) ps

-- all entries are marked that a line from there on may clash with
pub record AheadMarked (lim : Limits) (g : Stage) (h : Bytes) (from : ℕ) (ms : List ℕ) (es : List Entry) : Type 0 where
  pub notes : List ℕ
  pub named : LinesNamed lim g h notes from (pieces (drop from h))
  pub all : All (MarkedFor h notes ms) es
