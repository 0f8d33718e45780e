-- Document 02, §11: the cell register of a header, and the refusals 37 to 40 in their order. Assumes nothing.
use Rattle.std.specs.Prelude.{ℕ, zero, suc, Bool, true, false, ◌||◌, Option, None, Some}
use mathlib.Core.List.{List, [], ◌∷◌, tail}
use Rattle.values.specs.Bytes.{Bytes}
use Rattle.rules.specs.Sizes.{Limits}
use Rattle.rules.specs.Version.{Version, v4_3, earlier}
use Rattle.rules.specs.Entry.{Entry}
use Rattle.rules.specs.Reading.{State, empty, ready, done, Reading, reading}
use Rattle.register.specs.Cells.{Cell, cells, first_of, wells}

-- number, 0 if accepted; line from 1; start; the header's entries; the forty constants in well order, none if refused
pub record RegisterReading : Type 0 where
  pub number : ℕ
  pub line : ℕ
  pub start : ℕ
  pub entries : List Entry
  pub constants : List ℕ

abbrev pub register_refused : ℕ → ℕ → ℕ → List Entry → RegisterReading
register_refused number line start es = record { number = number; line = line; start = start; entries = es; constants = [] }

abbrev pub refused_at : ℕ → Cell → List Entry → RegisterReading
refused_at number c es = register_refused number c.line c.start es

-- 39: one of these wells is absent
abbrev pub is_absent : Option Cell → Bool
is_absent None = true
is_absent (Some c) = false

unfoldable pub absent : List ℕ → List Cell → Bool
absent [] cs = false
absent (w ∷ ws) cs = is_absent (first_of w cs) || absent ws cs

-- 40: the cell of a well has no constant
abbrev pub fault_in : Cell → Option ℕ → Option Cell
fault_in c None = Some c
fault_in c (Some n) = None

abbrev pub fault_of : Option Cell → Option Cell
fault_of None = None
fault_of (Some c) = fault_in c c.constant

-- the lowest of these wells whose cell has none
unfoldable pub faulty : List ℕ → List Cell → Option Cell
faulty [] cs = None
faulty (w ∷ ws) cs = elim (fault_of (first_of w cs)) [ Some c ↦ Some c | None ↦ faulty ws cs ]

abbrev pub or_zero : Option ℕ → ℕ
or_zero None = 0
or_zero (Some n) = n

abbrev pub constant_in : Option Cell → ℕ
constant_in None = 0
constant_in (Some c) = or_zero c.constant

-- the constants of these wells
unfoldable pub constants : List ℕ → List Cell → List ℕ
constants [] cs = []
constants (w ∷ ws) cs = constant_in (first_of w cs) ∷ constants ws cs

-- 40, or the register
abbrev pub settled : Reading → List Cell → Option Cell → RegisterReading
settled r cs (Some c) = refused_at 40 c r.entries
settled r cs None = record { number = 0; line = r.line; start = r.start; entries = r.entries; constants = constants wells cs }

-- 39 before that
unfoldable pub counted : Reading → List Cell → RegisterReading
counted r cs = elim (absent wells cs) [ true ↦ register_refused 39 0 0 r.entries | false ↦ settled r cs (faulty wells cs) ]

-- 38 before that
abbrev pub wells_known : Reading → List Cell → Option Cell → RegisterReading
wells_known r cs (Some c) = refused_at 38 c r.entries
wells_known r cs None = counted r cs

-- 37 first; the records begin on line 2, after the fileformat line and its entry
unfoldable pub register_accepted : Reading → Version → List Cell → RegisterReading
register_accepted r v cs = elim (earlier v v4_3) [ true ↦ register_refused 37 0 0 r.entries | false ↦ wells_known r cs (first_of 0 cs) ]

abbrev pub unread : Reading → RegisterReading
unread r = register_refused r.number r.line r.start r.entries

-- the end of a reading without its column line has 25 or 26 already
abbrev pub in_state : Reading → State → RegisterReading
in_state r empty = register_refused 25 0 0 r.entries
in_state r (ready v rs) = register_refused 26 r.line r.start r.entries
in_state r (done v rs c) = register_accepted r v (cells v 2 (tail r.entries) rs)

-- ordinary refusals come first and unchanged
abbrev pub by_number : Reading → ℕ → RegisterReading
by_number r zero = in_state r r.state
by_number r (suc n) = unread r

abbrev pub registered : Reading → RegisterReading
registered r = by_number r r.number

unfoldable pub register_of : Limits → Option Version → ℕ → Bytes → RegisterReading
register_of lim imposed room h = registered (reading lim imposed room h)
