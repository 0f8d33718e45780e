-- Document 01, "Records": a map, `<`, fields parted by `,`, then `>` as the last byte of the line; and its refusals in their order. Assumes nothing.
use Rattle.std.specs.Prelude.{ℕ, zero, suc, Bool, true, false, not, ◌||◌, ◌&&◌, length, drop, Option, None, Some}
use mathlib.Core.List.{List, [], ◌∷◌, tail, map}
use Rattle.values.specs.Bytes.{Bytes, ascii, is, empty, begins, same, COMMA, GREATER, LESS}
use Rattle.values.specs.Integer.{u64_read}
use Rattle.values.specs.Value.{meaning_of}
use Rattle.values.specs.Field.{Field, read_field}
use Rattle.rules.specs.Answer.{Answer, refuse, unless, first, judged}
use Rattle.rules.specs.Version.{Version, v4_3, since}
use Rattle.rules.specs.Known.{Kind, kind_of, is_in, always_map, Reads, KnownField, any_text, a_number, a_type, an_integer, rows, required, row_named, name_of, types, read_number}
use Rattle.rules.specs.Reserved.{reserved, declares}

-- what follows a value: `,` and more, `>` as the last byte, or neither
pub data After : Type 0 where
  more : Bytes → After
  done wrong : After

unfoldable pub after : Bytes → After
after [] = wrong
after (b ∷ bs) = elim (is COMMA b) [
  | true ↦ more bs
  | false ↦ elim (is GREATER b && empty bs) [ true ↦ done | false ↦ wrong ]
]

-- the fields that were read, and the refusal that ended their reading, 0 if none did
abbrev pub Scan : Type 0
Scan = List Field × ℕ

-- fields, at most as many as the first argument says; `meta`: a META, from 4.3
unfoldable pub scan : ℕ → Bool → Bytes → Scan
scan zero meta bs = ([], 9)
scan (suc n) meta bs = elim (read_field meta bs) [
  | None ↦ ([], 9)
  | Some p ↦ elim (after p.1) [
    | more r ↦ let s = scan n meta r in (p.0 ∷ s.0, s.1)
    | done ↦ (p.0 ∷ [], 0)
    | wrong ↦ (p.0 ∷ [], 8)
  ]
]

-- `>` is the last byte
abbrev pub closing_refusal : After → ℕ
closing_refusal (more r) = 8
closing_refusal done = 0
closing_refusal wrong = 8

-- the fields that stand at a place, parted by `,`, as far as they can be read
abbrev pub fields_at : Bool → Bytes → ℕ → List Field
fields_at meta s at = (scan (length (drop at s)) meta (drop at s)).0

-- the fields after `<`; if `>` or the end follows, there are none, unless one is needed
unfoldable pub read_fields : Bool → Bool → Bytes → Scan
read_fields meta needed bs = elim (not needed && (empty bs || begins GREATER bs)) [
  | true ↦ ([], closing_refusal (after bs))
  | false ↦ scan (length bs) meta bs
]

abbrev pub is_some : {A : Type 0} → Option A → Bool
is_some None = false
is_some (Some a) = true

abbrev pub is_value : Option (ℕ × Bool) → Bool
is_value (Some (n, p)) = true
is_value None = false

-- 11 to 13: a bad Number or Type, a bad IDX or length
abbrev pub misread : Version → Kind → Bytes → Reads → ℕ
misread v kind t any_text = 0
misread v kind t a_number = unless (is_some (read_number v kind t)) 11
misread v kind t a_type = unless (is_in t (types kind)) 12
misread v kind t an_integer = unless (is_value (u64_read t)) 13

-- of a known field's value; the others are not read
abbrev pub value_refusal : Version → Kind → Bytes → Option KnownField → ℕ
value_refusal v kind t None = 0
value_refusal v kind t (Some r) = misread v kind t r.reads

-- the known field that a field key names in a map under the key k
abbrev pub known_named : Version → Bytes → Bytes → Option KnownField
known_named v k field = row_named (name_of v k field) (rows (kind_of k))

-- fields left to right, each by 11 to 13, then 10: `seen` are the names of those before
unfoldable pub check_fields : Version → Bytes → List Bytes → List Field → ℕ
check_fields v k seen [] = 0
check_fields v k seen (f ∷ fs) = first (
    value_refusal v (kind_of k) (meaning_of f.value) (known_named v k f.key)
    ∷ unless (not (is_in (name_of v k f.key) seen)) 10
    ∷ check_fields v k (name_of v k f.key ∷ seen) fs
    ∷ []
    )

-- the field of this name
unfoldable pub field_named : Version → Bytes → Bytes → List Field → Option Field
field_named v k name [] = None
field_named v k name (f ∷ fs) = elim (same (name_of v k f.key) name) [ true ↦ Some f | false ↦ field_named v k name fs ]

-- the first field with this key
unfoldable pub field_keyed : Bytes → List Field → Option Field
field_keyed key [] = None
field_keyed key (f ∷ fs) = elim (same f.key key) [ true ↦ Some f | false ↦ field_keyed key fs ]

abbrev pub meaning_of_field : Option Field → Bytes
meaning_of_field None = []
meaning_of_field (Some f) = meaning_of f.value

-- the meaning of the value of this name
abbrev pub value_named : Version → Bytes → Bytes → List Field → Bytes
value_named v k name fs = meaning_of_field (field_named v k name fs)

-- 14 to 17: a required field missing
unfoldable pub missing : Version → Bytes → List Field → ℕ
missing v k fs = first (map (λ (r : KnownField). unless (is_some (field_named v k r.name fs)) r.missing) (required (kind_of k)))

-- 18: a reserved ID declared otherwise
unfoldable pub misdeclared : Version → Bytes → List Field → ℕ
misdeclared v k fs = unless (declares
    (reserved v (kind_of k) (value_named v k (ascii "ID") fs))
    (read_number v (kind_of k) (value_named v k (ascii "Number") fs))
    (value_named v k (ascii "Type") fs)) 18

-- a map's refusals in their order: each field's, then what ended the fields (9 or 8), then 14 to 17, then 18
unfoldable pub map_refusal : Version → Bytes → Scan → ℕ
map_refusal v k s = first (check_fields v k [] s.0 ∷ s.1 ∷ missing v k s.0 ∷ misdeclared v k s.0 ∷ [])

-- brackets may stand in a META, from 4.3
abbrev pub is_meta : Version → Bytes → Bool
is_meta v k = same k (ascii "META") && since v4_3 v

-- the value of a map under the key k, from its `<` on
unfoldable pub read_map : Version → Bytes → Bytes → Answer (List Field)
read_map v k x = elim (begins LESS x) [
  | true ↦ let s = read_fields (is_meta v k) (always_map k) (tail x) in judged (map_refusal v k s) s.0
  | false ↦ refuse 8
]
