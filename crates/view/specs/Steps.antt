-- A step over the entries of a table, a view moved by it, and the walk of all steps. Assumes nothing.
use Rattle.std.specs.Prelude.{ℕ, zero, suc, ◌+◌, List, [], ◌∷◌, None, Some, Option}
use Rattle.values.specs.Bytes.{Bytes}
use Rattle.rules.specs.Shown.{Part as RulePart}
use Rattle.entries.specs.declared.form.Form.{Form}
use Rattle.entries.specs.Tables.{room, shown_entry}
use Rattle.entries.specs.Shown.{shown_as}
use Rattle.view.specs.declared.Stepped.{Stepped}
use Rattle.view.specs.declared.View.{View}
use Rattle.view.specs.declared.Moved.{Moved}

-- moved by one, but unmoved where nothing is shown
abbrev pub stepped : ℕ → Option (ℕ × ℕ) → Stepped
stepped at (Some (start, end)) = record { found = Some (start, end); at = at + 1 }
stepped at None = record { found = None; at = at }

abbrev pub step_at : Form → Bytes → List ℕ → ℕ → Stepped
step_at form h table at = stepped at (shown_as (shown_entry form h table at))

-- the same header at the next number, with what was shown
abbrev pub moved_to : View → Stepped → Moved
moved_to v p = record { view = record { header = v.header; at = p.at }; found = p.found }

-- what steps show up to the first refusal, at most as many as the first argument says
unfoldable pub steps : ℕ → Form → Bytes → List ℕ → ℕ → List RulePart
steps zero form h table at = []
steps (suc n) form h table at = elim (shown_entry form h table at) [ None ↦ [] | Some p ↦ p ∷ steps n form h table (at + 1) ]

abbrev pub shown_from : Form → Bytes → List ℕ → ℕ → List RulePart
shown_from form h table first = steps (room form table) form h table first

-- where k steps lead
unfoldable pub steps_to : ℕ → Form → Bytes → List ℕ → ℕ → ℕ
steps_to zero form h table at = at
steps_to (suc k) form h table at = steps_to k form h table (step_at form h table at).at
