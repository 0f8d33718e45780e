-- What a header's bytes and its entries tell of the cells, as the code finds it. Assumes nothing.
use Rattle.std.specs.Prelude.{ℕ, ◌+◌, ◌-◌, ◌≤◌, ◌≡◌, Bool, true, false, List, [], ◌∷◌, length, get_or, replicate, Option, None, Some}
use Rattle.std.proofs.lemmas.List.Edits.{sets}
use Rattle.values.specs.Bytes.{Bytes, ascii}
use Rattle.rules.specs.Known.{other}
use Rattle.rules.specs.Entry.{Entry, map_kind, fields_start}
use Rattle.rules.specs.Shown.{line_in, id_in}
use Rattle.entries.specs.declared.form.Form.{Form}
use Rattle.entries.specs.Tables.{entries_in, entry_in}
use Rattle.ids.specs.Clashes.{prefix_of, has_key}
use Rattle.register.specs.declared.cells.Plate.{Plate}
use Rattle.register.specs.Cells.{well_of, Cell, constant_of, first_of, wells}
use Rattle.values.specs.Integer.{is_digit}
use Rattle.register.specs.Register.{absent, faulty, constants}
use Rattle.rules.specs.Map.{field_keyed, fields_at}

-- the digit that a byte spells; 10: none
abbrev pub digit_of : ℕ → ℕ
digit_of b = elim (is_digit b) [ true ↦ b - 48 | false ↦ 10 ]

pub record WellTold (id : Bytes) (r : ℕ) : Type 0 where
  pub is : r ≡ well_of id
  pub small : r ≤ 40

abbrev pub constant_read : Option ℕ → Option ℕ
constant_read None = None
constant_read (Some n) = Some n

-- an entry of a `##cell` map
abbrev pub is_cell : Bytes → Entry → Bool
is_cell h e = has_key h (prefix_of (ascii "cell")) (map_kind other) e

-- its K
unfoldable pub constant_at : Bytes → Entry → Option ℕ
constant_at h e = constant_of (field_keyed (ascii "K") (fields_at false (line_in h e) (fields_start (ascii "cell"))))

abbrev pub cell_in : Bytes → ℕ → Entry → Cell
cell_in h line e = record { line = line; start = e.start; well = well_of (id_in h e); constant = constant_at h e }

abbrev pub cells_by : Bool → Cell → List Cell → List Cell
cells_by true c cs = c ∷ cs
cells_by false c cs = cs

-- the cells among entries, the first of which stands on this line
unfoldable pub cells_in : Bytes → ℕ → List Entry → List Cell
cells_in h line [] = []
cells_in h line (e ∷ es) = cells_by (is_cell h e) (cell_in h line e) (cells_in h (line + 1) es)

-- the cells of a table's entries
abbrev pub table_cells : Form → Bytes → List ℕ → List Cell
table_cells form h t = cells_in h 1 (entries_in form t)

abbrev pub cell_line : Option Cell → ℕ
cell_line None = 0
cell_line (Some c) = c.line

-- the line of each well's first cell, and in place 0 that of the first cell of none
pub record Lines (cs : List Cell) (ls : List ℕ) : Type 0 where
  pub long : length ls ≡ 41
  pub each : (w : ℕ) → w ≤ 40 → get_or ls w 0 ≡ cell_line (first_of w cs)

pub record StartTold (form : Form) (t : List ℕ) (line r : ℕ) : Type 0 where
  pub is : 1 ≤ line → r ≡ (entry_in form t (line - 1)).start

pub record ConstantTold (form : Form) (h : Bytes) (t : List ℕ) (line : ℕ) (r : Option ℕ) : Type 0 where
  pub is : 1 ≤ line → r ≡ constant_read (constant_at h (entry_in form t (line - 1)))

pub record MissingTold (ls : List ℕ) (r : Bool) : Type 0 where
  pub is : (form : Form) (h : Bytes) (t : List ℕ) → Lines (table_cells form h t) ls → r ≡ absent wells (table_cells form h t)

-- forty places, these numbers first and 0 past them
abbrev pub filled : List ℕ → List ℕ
filled ns = sets (replicate 40 0) 0 ns

-- the plate of cells, where the lowest well's without a constant is this
abbrev pub plate_of : List Cell → Option Cell → Plate
plate_of cs None = record { fault = 0; constants = filled (constants wells cs) }
plate_of cs (Some c) = record { fault = c.line; constants = filled [] }

pub record ConstantsTold (form : Form) (h : Bytes) (t ls : List ℕ) (r : Plate) : Type 0 where
  pub is : Lines (table_cells form h t) ls → absent wells (table_cells form h t) ≡ false → r ≡ plate_of (table_cells form h t) (faulty wells (table_cells form h t))
