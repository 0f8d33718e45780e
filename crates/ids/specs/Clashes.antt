-- Document 01, refusals 19 to 21, as the entries kept so far answer them. Assumes nothing.
use Rattle.std.specs.Prelude.{ℕ, ◌-◌, ◌≡◌, Bool, true, false, ◌||◌, ◌&&◌, List, [], ◌∷◌, ◌++◌, eqb, ltb, length, get_or, Option, Some, None}
use Rattle.values.specs.Bytes.{Bytes, ascii, starts, same}
use Rattle.values.specs.Value.{meaning}
use Rattle.rules.specs.Known.{other}
use Rattle.rules.specs.Entry.{Entry, map_kind, text_kind}
use Rattle.rules.specs.Shown.{line_in, id_meaning}
use Rattle.rules.specs.Claims.{key_in}
use Rattle.ids.specs.declared.scan.Clash.{Clash}
use Rattle.ids.specs.declared.scan.Clash.TheVariants.{TypedId, Mixed, OtherId}

-- the refusal, 0 where there is none
abbrev pub clash_number : Option Clash → ℕ
clash_number None = 0
clash_number (Some TypedId) = 19
clash_number (Some Mixed) = 20
clash_number (Some OtherId) = 21

-- a record's line through its first `=`
abbrev pub prefix_of : Bytes → Bytes
prefix_of k = ascii "##" ++ (k ++ 61 ∷ [])

-- the prefix with which a line begins
pub record Prefixes (prefix line : Bytes) : Type 0 where
  pub key : prefix ≡ prefix_of (key_in line)
  pub first : starts prefix line ≡ true

-- an entry of this kind whose line begins with the prefix
unfoldable pub has_key : Bytes → Bytes → ℕ → Entry → Bool
has_key h prefix kind e = eqb e.kind kind && starts prefix (line_in h e)

unfoldable pub key_seen : Bytes → Bytes → ℕ → List Entry → Bool
key_seen h prefix kind [] = false
key_seen h prefix kind (e ∷ es) = has_key h prefix kind e || key_seen h prefix kind es

-- a typed kind has one key; an other record's key is told by its line
unfoldable pub is_of_key : Bytes → Bytes → ℕ → Entry → Bool
is_of_key h prefix kind e = ltb kind 7 || starts prefix (line_in h e)

-- an entry of this kind and key whose ID has the meaning id
unfoldable pub is_of_id : Bytes → Bytes → ℕ → Bytes → Entry → Bool
is_of_id h prefix kind id e = eqb e.kind kind && (is_of_key h prefix kind e && same (id_meaning h e) id)

unfoldable pub id_seen : Bytes → Bytes → ℕ → Bytes → List Entry → Bool
id_seen h prefix kind id [] = false
id_seen h prefix kind id (e ∷ es) = is_of_id h prefix kind id e || id_seen h prefix kind id es

-- 20, then 21, for an other map: whether its key was seen with a text, and its ID
abbrev pub map_clash : Bool → Bool → Option Clash
map_clash true idIs = Some Mixed
map_clash false true = Some OtherId
map_clash false false = None

-- 19 for a typed kind; those for an other map; 20 for an other text: whether the ID was seen, the key with a text, and with a map
unfoldable pub clash_by : ℕ → Bool → Bool → Bool → Option Clash
clash_by kind idIs textIs mapIs = elim (ltb kind 7) [
  | true ↦ elim idIs [ true ↦ Some TypedId | false ↦ None ]
  | false ↦ elim (eqb kind 7) [ true ↦ map_clash textIs idIs | false ↦ elim mapIs [ true ↦ Some Mixed | false ↦ None ] ]
]

-- the new entry e, whose line begins with the prefix, beside the entries es
abbrev pub clash_in : Bytes → List Entry → Bytes → Entry → Option Clash
clash_in h es prefix e = clash_by e.kind (id_seen h prefix e.kind (id_meaning h e) es) (key_seen h prefix text_kind es) (key_seen h prefix (map_kind other) es)

-- Cheap tests before the bytes of two IDs are compared

-- 0 where there is none
abbrev pub last_of : Bytes → ℕ
last_of s = get_or s (length s - 1) 0

-- where the test fails, the entry's ID is another
pub record MayEqual (h : Bytes) (e : Entry) (id : Bytes) (last : ℕ) (quoted r : Bool) : Type 0 where
  pub other : last ≡ last_of id → r ≡ false → same (id_meaning h e) (meaning quoted id) ≡ false

-- where all tests pass, the IDs decide; where one fails, the entry is another
pub record Candidate (h : Bytes) (e : Entry) (prefix : Bytes) (kind : ℕ) (id : Bytes) (last : ℕ) (quoted r : Bool) : Type 0 where
  pub passed : r ≡ true → is_of_id h prefix kind (meaning quoted id) e ≡ same (id_meaning h e) (meaning quoted id)
  pub failed : last ≡ last_of id → r ≡ false → is_of_id h prefix kind (meaning quoted id) e ≡ false
