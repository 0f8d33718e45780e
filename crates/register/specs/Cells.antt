-- Document 02, §11: a well's ID, a constant, and the cells that a header declares. Bytes by their numbers: `.` 46, `0` 48, `9` 57, `W` 87.
-- Assumes nothing.
use Rattle.std.specs.Prelude.{ℕ, zero, suc, ◌+◌, ◌*◌, ◌-◌, Bool, true, false, ◌&&◌, List, [], ◌∷◌, ◌++◌, eqb, leb, length, get_or, Option, None, Some}
use Rattle.values.specs.Integer.{is_digit}
use Rattle.values.specs.Bytes.{Bytes, ascii, same}
use Rattle.values.specs.Value.{meaning_of}
use Rattle.values.specs.Field.{Field}
use Rattle.rules.specs.Version.{Version}
use Rattle.rules.specs.Map.{field_named, value_named}
use Rattle.rules.specs.Record.{Record, fileformat, fields, text}
use Rattle.rules.specs.Entry.{Entry}

-- byte i of a text
abbrev pub nth_byte : Bytes → ℕ → ℕ
nth_byte t i = get_or t i 0

abbrev pub is_between : ℕ → ℕ → ℕ → Bool
is_between low high n = leb low n && leb n high

-- `W` and two digits
unfoldable pub spells_well : Bytes → Bool
spells_well t = eqb (length t) 3 && (eqb (nth_byte t 0) 87 && (is_digit (nth_byte t 1) && is_digit (nth_byte t 2)))

abbrev pub well_in : Bytes → ℕ
well_in t = (nth_byte t 1 - 48) * 10 + (nth_byte t 2 - 48)

-- the well that an ID names, W01 to W40; 0: none of them
unfoldable pub well_of : Bytes → ℕ
well_of t = elim (spells_well t && is_between 1 40 (well_in t)) [ true ↦ well_in t | false ↦ 0 ]

-- one digit, a point and two digits
unfoldable pub spells_constant : Bytes → Bool
spells_constant t = eqb (length t) 4 && (eqb (nth_byte t 1) 46 && (is_digit (nth_byte t 0) && (is_digit (nth_byte t 2) && is_digit (nth_byte t 3))))

abbrev pub hundredths_in : Bytes → ℕ
hundredths_in t = (nth_byte t 0 - 48) * 100 + (nth_byte t 2 - 48) * 10 + (nth_byte t 3 - 48)

-- from 0.50 through 2.00
unfoldable pub in_range : ℕ → Option ℕ
in_range n = elim (is_between 50 200 n) [ true ↦ Some n | false ↦ None ]

-- a constant as whole hundredths
unfoldable pub hundredths : Bytes → Option ℕ
hundredths t = elim (spells_constant t) [ true ↦ in_range (hundredths_in t) | false ↦ None ]

-- a `##cell` map: its line from 1, the line's start, its well (0 where the ID is no well's), and its constant, if K is one
pub record Cell : Type 0 where
  pub line : ℕ
  pub start : ℕ
  pub well : ℕ
  pub constant : Option ℕ

-- the constant of the field K, by the meaning of its value
abbrev pub constant_of : Option Field → Option ℕ
constant_of None = None
constant_of (Some f) = hundredths (meaning_of f.value)

-- ID and K go by meaning
abbrev pub cell_of : Version → ℕ → ℕ → Bytes → List Field → Cell
cell_of v line start k fs = record {
  line = line;
  start = start;
  well = well_of (value_named v k (ascii "ID") fs);
  constant = constant_of (field_named v k (ascii "K") fs);
}

-- what a record declares; a text under `cell` declares no well
unfoldable pub declared : Version → ℕ → ℕ → Record → List Cell
declared v line start (fileformat w) = []
declared v line start (fields k fs) = elim (same k (ascii "cell")) [ true ↦ cell_of v line start k fs ∷ [] | false ↦ [] ]
declared v line start (text k t) = []

-- the cells of records, in order; each has its entry, and the first stands on this line
unfoldable pub cells : Version → ℕ → List Entry → List Record → List Cell
cells v line [] rs = []
cells v line (e ∷ es) [] = []
cells v line (e ∷ es) (r ∷ rs) = declared v line e.start r ++ cells v (line + 1) es rs

-- the first cell of this well; of well 0: the first whose ID is no well's
unfoldable pub first_of : ℕ → List Cell → Option Cell
first_of w [] = None
first_of w (c ∷ cs) = elim (eqb c.well w) [ true ↦ Some c | false ↦ first_of w cs ]

-- n wells from w on
unfoldable pub wells_from : ℕ → ℕ → List ℕ
wells_from w zero = []
wells_from w (suc n) = w ∷ wells_from (w + 1) n

-- the probe's wells, in their order
abbrev pub wells : List ℕ
wells = wells_from 1 40
