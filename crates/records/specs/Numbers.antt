-- Number and Type as the code asks for them: integers are read from the bytes as they stand, letters by meaning. Assumes nothing.
use Rattle.std.specs.Prelude.{ℕ, Bool, true, false, List, [], ◌∷◌, ◌++◌, eqb, Option, Some, None}
use Rattle.values.specs.Bytes.{Bytes, ascii, same}
use Rattle.values.specs.Integer.{u64_read}
use Rattle.values.specs.Value.{meaning}
use Rattle.rules.specs.Known.{common_letters}
use Rattle.rules.specs.Map.{is_value}
use Rattle.records.specs.declared.number.Letters.{Letters}
use Rattle.records.specs.declared.number.Letters.TheVariants.{Common, Phased, Local}
use Rattle.records.specs.declared.number.Number.{Number}
use Rattle.records.specs.declared.number.Number.TheVariants.{Count, Letter}
use Rattle.records.specs.declared.number.ValueType.{ValueType}
use Rattle.records.specs.declared.number.ValueType.TheVariants.{Integer, Float, Flag, Character, String}

abbrev pub is_count : Bytes → Bool
is_count s = is_value (u64_read s)

-- the letters of a kind in a version
abbrev pub letters_of : Letters → List Bytes
letters_of Common = common_letters
letters_of Phased = common_letters ++ ascii "P" ∷ []
letters_of Local = common_letters ++ ascii "P" ∷ ascii "LA" ∷ ascii "LR" ∷ ascii "LG" ∷ ascii "M" ∷ []

-- `flag`: INFO
abbrev pub types_of : Bool → List Bytes
types_of flag = (ascii "Integer" ∷ ascii "Float" ∷ ascii "Character" ∷ ascii "String" ∷ []) ++ elim flag [ true ↦ ascii "Flag" ∷ [] | false ↦ [] ]

abbrev pub is_integer : ℕ → Option (ℕ × Bool) → Bool
is_integer n (Some (m, p)) = eqb m n
is_integer n None = false

-- a letter of one byte has a blank behind it
abbrev pub lettered : ℕ → ℕ → Bytes
lettered a b = elim (eqb b 32) [ true ↦ a ∷ [] | false ↦ a ∷ b ∷ [] ]

abbrev pub is_number_of : Number → Bytes → Bool → Bool
is_number_of (Count n) s quoted = is_integer n (u64_read s)
is_number_of (Letter a b) s quoted = same (lettered a b) (meaning quoted s)

abbrev pub type_name : ValueType → Bytes
type_name Integer = ascii "Integer"
type_name Float = ascii "Float"
type_name Flag = ascii "Flag"
type_name Character = ascii "Character"
type_name String = ascii "String"
