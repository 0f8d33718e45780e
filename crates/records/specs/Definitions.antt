-- Reserved IDs as the code has them: texts of rows whose IDs are of one length, an ID, two bytes for its Number, one for its Type. Assumes nothing.
use Rattle.std.specs.Prelude.{ℕ, zero, suc, ◌+◌, ◌-◌, true, false, ◌||◌, List, [], ◌∷◌, eqb, ltb, length, get_or, drop, take, Option, None, Some}
use Rattle.values.specs.Bytes.{Bytes}
use Rattle.rules.specs.Known.{count, letter}
use Rattle.rules.specs.Known.{Number as Asked}
use Rattle.rules.specs.Reserved.{ReservedRow}
use Rattle.records.specs.Numbers.{lettered, type_name}
use Rattle.records.specs.declared.number.Number.{Number}
use Rattle.records.specs.declared.number.Number.TheVariants.{Count, Letter}
use Rattle.records.specs.declared.number.ValueType.{ValueType}
use Rattle.records.specs.declared.number.ValueType.TheVariants.{Integer, Float, Flag, String}

abbrev pub asked : Number → Asked
asked (Count n) = count n
asked (Letter a b) = letter (lettered a b)

-- the Number and Type that an ID must have
abbrev pub definition_means : Option (Number × ValueType) → Option (Asked × Bytes)
definition_means (Some (n, t)) = Some (asked n, type_name t)
definition_means None = None

abbrev pub outline : Option ReservedRow → Option (Asked × Bytes)
outline None = None
outline (Some r) = Some (r.number, r.type)

-- a digit is a count, anything else a letter
abbrev pub number_coded : ℕ → ℕ → Number
number_coded a b = elim (ltb a 48 || ltb 57 a) [ true ↦ Letter a b | false ↦ Count (a - 48) ]

-- `I`, `F`, `f`; anything else is a String
abbrev pub type_coded : ℕ → ValueType
type_coded t = elim (eqb t 73) [ true ↦ Integer | false ↦ elim (eqb t 70) [ true ↦ Float | false ↦ elim (eqb t 102) [ true ↦ Flag | false ↦ String ] ] ]

-- the row at the front of a text, whose ID has n bytes
abbrev pub row_coded : ℕ → Bytes → ReservedRow
row_coded n bs = record { id = take n bs; number = asked (number_coded (get_or bs n 0) (get_or bs (n + 1) 0)); type = type_name (type_coded (get_or bs (n + 2) 0)) }

-- the rows of a text, at most as many as the first argument says; a rest that is no whole row is none
unfoldable pub rows_in : ℕ → ℕ → Bytes → List ReservedRow
rows_in zero n bs = []
rows_in (suc most) n bs = elim (ltb (length bs) (n + 3)) [ true ↦ [] | false ↦ row_coded n bs ∷ rows_in most n (drop (n + 3) bs) ]
