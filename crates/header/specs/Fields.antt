-- The field call: a field of a line that is read alone. Assumes nothing.
use Rattle.std.specs.Prelude.{ℕ, ◌≤◌, ◌≡◌, Bool, length, Option}
use Rattle.values.specs.Bytes.{Bytes}
use Rattle.rules.specs.Version.{Version}
use Rattle.rules.specs.Entry.{Entry}
use Rattle.rules.specs.Shown.{Part, entry_record, record_field_part}
use Rattle.entries.specs.Shown.{shown_as, Inside, moved_by}

-- field i of an entry's line, as a part of the line
abbrev pub field_in : Bool → Bytes → Version → Entry → ℕ → Option Part
field_in counted h v e i = record_field_part 0 i (entry_record counted h v e)

-- the same as a part of the header
pub record FieldAt (counted : Bool) (h : Bytes) (v : Version) (e : Entry) (i : ℕ) (r : Option (ℕ × ℕ)) : Type 0 where
  pub shown : r ≡ moved_by e.start (shown_as (field_in counted h v e i))
  pub inside : e.start ≤ length h → Inside (length h) r
