-- The number of a line beside the lines before it, as the code works it out. Assumes nothing.
use Rattle.std.specs.Prelude.{ℕ, Bool, true, false, List, Option, None, Some}
use Rattle.values.specs.Bytes.{Bytes}
use Rattle.rules.specs.Known.{is_in}
use Rattle.entries.specs.declared.form.Form.{Form}
use Rattle.dictionary.specs.Dictionary.{Line, any_of, implied, implied_numbers, clashes}
use Rattle.entries.specs.declared.entry.Entry.{Entry as CodeEntry}
use Rattle.dictionary.specs.Lines.{lines_before, table_lines, id_at, idx_at, is_idx}
use Rattle.dictionary.specs.Slots.{idx_first, is_named, is_numbered}
use Rattle.dictionary.specs.declared.line.Dictionary.{Dictionary}
use Rattle.dictionary.specs.declared.place.Beside.{Beside}
use Rattle.dictionary.specs.declared.place.Beside.TheVariants as beside
use Rattle.dictionary.specs.declared.place.Placed.{Placed}
use Rattle.dictionary.specs.declared.place.Placed.TheVariants.{Numbered, Due, Again, Clash}

-- the IDX of the first of these lines that has this ID
abbrev pub idx_named : Bytes → List Line → Option (Option ℕ)
idx_named x ls = idx_first (is_named x) ls

abbrev pub earlier_meant : Bytes → Option CodeEntry → Option (Option ℕ)
earlier_meant h (Some e) = Some (idx_at h e)
earlier_meant h None = None

-- one of these lines carries this number
abbrev pub number_seen : ℕ → List Line → Bool
number_seen n ls = any_of (is_numbered n) ls

-- one of the lines of the entries ahead does
abbrev pub seen_in : Dictionary → Form → Bytes → List ℕ → ℕ → Bool
seen_in d form h ahead n = number_seen n (table_lines d form h ahead)

-- a new ID with the number n, which may be taken; an ID that was met, with the same number or another
abbrev pub new_place : ℕ → Bool → Placed
new_place n true = Clash
new_place n false = Numbered n

abbrev pub again_place : Bool → Placed
again_place true = Again
again_place false = Clash

abbrev pub place_beside : ℕ → Option (Option ℕ) → Bool → Placed
place_beside n None taken = new_place n taken
place_beside n (Some m) taken = again_place (is_idx n m)

-- the number of the ID x clashes with an implied one
abbrev pub implied_clash : Dictionary → Bytes → ℕ → Bool
implied_clash d x n = any_of (clashes (x, n)) (implied_numbers d)

-- where lines carry IDX: x is the ID, `before` the IDX of the line before that has it
abbrev pub indexed_place : Dictionary → Bytes → Option ℕ → Option (Option ℕ) → (ℕ → Bool) → Placed
indexed_place d x None before taken = Clash
indexed_place d x (Some n) before taken = elim (implied_clash d x n) [ true ↦ Clash | false ↦ place_beside n before (taken n) ]

-- where they don't; `zero`: the ID is implied
abbrev pub counted_place : Bool → Option (Option ℕ) → Placed
counted_place zero (Some m) = Again
counted_place true None = Numbered 0
counted_place false None = Due

abbrev pub place_by : Bool → Dictionary → Bytes → Option ℕ → Option (Option ℕ) → (ℕ → Bool) → Placed
place_by true d x idx before taken = indexed_place d x idx before taken
place_by false d x idx before taken = counted_place (is_in x (implied d)) before

-- The same by what the line is beside those before

abbrev pub beside_place : ℕ → Beside → Placed
beside_place n beside.New = Numbered n
beside_place n beside.Again = Again
beside_place n beside.Clash = Clash

abbrev pub indexed_beside : Option ℕ → Beside → Placed
indexed_beside None b = beside_place 0 b
indexed_beside (Some n) b = beside_place n b

abbrev pub new_counted : Bool → Placed
new_counted true = Numbered 0
new_counted false = Due

abbrev pub counted_beside : Bool → Beside → Placed
counted_beside zero beside.New = new_counted zero
counted_beside zero beside.Again = Again
counted_beside zero beside.Clash = Again

-- a number is left out where it is not needed
abbrev pub unnumbered : Placed → Placed
unnumbered (Numbered n) = Numbered 0
unnumbered Due = Due
unnumbered Again = Again
unnumbered Clash = Clash

abbrev pub place_if : Bool → Placed → Placed
place_if true p = p
place_if false p = unnumbered p

-- Of entry k of a table, beside the lines before it

abbrev pub taken_before : Dictionary → Form → Bytes → List ℕ → ℕ → ℕ → Bool
taken_before d form h t k n = number_seen n (lines_before d form h t k)

abbrev pub place_at : Bool → Dictionary → Form → Bytes → List ℕ → ℕ → CodeEntry → Placed
place_at indexed d form h t k e = place_by indexed d (id_at h e) (idx_at h e) (idx_named (id_at h e) (lines_before d form h t k)) (taken_before d form h t k)
