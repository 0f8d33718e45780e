-- Document 01, "Records": the known fields of each kind of map, and what their values may be. Assumes nothing.
use Rattle.std.specs.Prelude.{ℕ, Bool, true, false, not, ◌||◌, ◌&&◌, List, [], ◌∷◌, ◌++◌, map, eqb, Option, None, Some}
use Rattle.values.specs.Bytes.{Bytes, ascii, same}
use Rattle.values.specs.Integer.{u64_read}
use Rattle.rules.specs.Version.{Version, v4_3, v4_4, v4_5, earlier, at_version}

pub data Kind : Type 0 where
  INFO FILTER FORMAT ALT contig other : Kind

unfoldable pub is_in : Bytes → List Bytes → Bool
is_in k [] = false
is_in k (j ∷ js) = same j k || is_in k js

-- the typed keys of maps, in the house form's order
abbrev pub typed_keys : List Bytes
typed_keys = ascii "INFO" ∷ ascii "FILTER" ∷ ascii "FORMAT" ∷ ascii "ALT" ∷ ascii "contig" ∷ []

unfoldable pub is_typed : Bytes → Bool
is_typed k = is_in k typed_keys

unfoldable pub kind_of : Bytes → Kind
kind_of k = elim (same k (ascii "INFO")) [
  | true ↦ INFO
  | false ↦ elim (same k (ascii "FILTER")) [
    | true ↦ FILTER
    | false ↦ elim (same k (ascii "FORMAT")) [
      | true ↦ FORMAT
      | false ↦ elim (same k (ascii "ALT")) [ true ↦ ALT | false ↦ elim (same k (ascii "contig")) [ true ↦ contig | false ↦ other ] ]
    ]
  ]
]

-- META and PEDIGREE are always maps
unfoldable pub always_map : Bytes → Bool
always_map k = same k (ascii "META") || same k (ascii "PEDIGREE")

-- how the value of a known field is read
pub data Reads : Type 0 where
  any_text a_number a_type an_integer : Reads

-- a known field: its name, the refusal where it is missing, 0 if it is optional, and how its value is read
pub record KnownField : Type 0 where
  pub name : Bytes
  pub missing : ℕ
  pub reads : Reads

abbrev pub known_field : Bytes → ℕ → Reads → KnownField
known_field name missing reads = record { name = name; missing = missing; reads = reads }

abbrev pub id_field : KnownField
id_field = known_field (ascii "ID") 14 any_text

abbrev pub number_field : KnownField
number_field = known_field (ascii "Number") 15 a_number

abbrev pub type_field : KnownField
type_field = known_field (ascii "Type") 16 a_type

abbrev pub description_field : KnownField
description_field = known_field (ascii "Description") 17 any_text

abbrev pub length_field : KnownField
length_field = known_field (ascii "length") 0 an_integer

abbrev pub md5_field : KnownField
md5_field = known_field (ascii "md5") 0 any_text

abbrev pub url_field : KnownField
url_field = known_field (ascii "URL") 0 any_text

abbrev pub idx_field : KnownField
idx_field = known_field (ascii "IDX") 0 an_integer

-- the table of known fields: the required ones, then the optional ones
abbrev pub rows : Kind → List KnownField
rows INFO = id_field ∷ number_field ∷ type_field ∷ description_field ∷ idx_field ∷ []
rows FORMAT = id_field ∷ number_field ∷ type_field ∷ description_field ∷ idx_field ∷ []
rows FILTER = id_field ∷ description_field ∷ idx_field ∷ []
rows ALT = id_field ∷ description_field ∷ []
rows contig = id_field ∷ length_field ∷ md5_field ∷ url_field ∷ idx_field ∷ []
rows other = id_field ∷ []

abbrev pub those : (KnownField → Bool) → List KnownField → List KnownField
those p [] = []
those p (r ∷ rs) = elim (p r) [ true ↦ r ∷ those p rs | false ↦ those p rs ]

abbrev pub names : List KnownField → List Bytes
names rs = map (λ (r : KnownField). r.name) rs

abbrev pub known : Kind → List Bytes
known kind = names (rows kind)

abbrev pub required : Kind → List KnownField
required kind = those (λ (r : KnownField). not (eqb r.missing 0)) (rows kind)

-- the value is an integer, or may be one
abbrev pub is_numeric : Reads → Bool
is_numeric any_text = false
is_numeric a_number = true
is_numeric a_type = false
is_numeric an_integer = true

abbrev pub numeric : Kind → List Bytes
numeric kind = names (those (λ (r : KnownField). is_numeric r.reads) (rows kind))

-- the row of this name
unfoldable pub row_named : Bytes → List KnownField → Option KnownField
row_named name [] = None
row_named name (r ∷ rs) = elim (same r.name name) [ true ↦ Some r | false ↦ row_named name rs ]

-- PEDIGREE before 4.3: Child and Derived also name the ID
unfoldable pub names_id : Version → Bytes → Bytes → Bool
names_id v k field =
    same k (ascii "PEDIGREE") && (earlier v v4_3 && (same field (ascii "Child") || same field (ascii "Derived")))

-- the known field, or the field itself, that a field key names in a map under the key k
unfoldable pub name_of : Version → Bytes → Bytes → Bytes
name_of v k field = elim (names_id v k field) [ true ↦ ascii "ID" | false ↦ field ]

-- the ID's tag: 0 ID, 1 Child, 2 Derived
abbrev pub tag_of : Bytes → ℕ
tag_of field = elim (same field (ascii "Child")) [ true ↦ 1 | false ↦ elim (same field (ascii "Derived")) [ true ↦ 2 | false ↦ 0 ] ]

-- a count, or a letter
pub data Number : Type 0 where
  count : ℕ → Number
  letter : Bytes → Number

abbrev pub is_info : Kind → Bool
is_info INFO = true
is_info FILTER = false
is_info FORMAT = false
is_info ALT = false
is_info contig = false
is_info other = false

abbrev pub is_format : Kind → Bool
is_format INFO = false
is_format FILTER = false
is_format FORMAT = true
is_format ALT = false
is_format contig = false
is_format other = false

-- every version has these
abbrev pub common_letters : List Bytes
common_letters = ascii "A" ∷ ascii "R" ∷ ascii "G" ∷ ascii "." ∷ []

-- the letters of each version, from the version on that lists them
abbrev pub letter_pages : Kind → List (Version × List Bytes)
letter_pages FORMAT =
    (v4_5, common_letters ++ ascii "P" ∷ ascii "LA" ∷ ascii "LR" ∷ ascii "LG" ∷ ascii "M" ∷ [])
    ∷ (v4_4, common_letters ++ ascii "P" ∷ [])
    ∷ []
letter_pages INFO = []
letter_pages FILTER = []
letter_pages ALT = []
letter_pages contig = []
letter_pages other = []

unfoldable pub letters : Version → Kind → List Bytes
letters v kind = at_version common_letters (letter_pages kind) v

-- INFO has Flag too
unfoldable pub types : Kind → List Bytes
types kind = (ascii "Integer" ∷ ascii "Float" ∷ ascii "Character" ∷ ascii "String" ∷ []) ++ elim (is_info kind) [ true ↦ ascii "Flag" ∷ [] | false ↦ [] ]

abbrev pub count_or : Option Number → Option (ℕ × Bool) → Option Number
count_or n (Some (c, p)) = Some (count c)
count_or n None = n

abbrev pub letter_in : List Bytes → Bytes → Option Number
letter_in ls t = elim (is_in t ls) [ true ↦ Some (letter t) | false ↦ None ]

-- Number: a count, or one of the letters
unfoldable pub read_number : Version → Kind → Bytes → Option Number
read_number v kind t = count_or (letter_in (letters v kind) t) (u64_read t)
