-- Document 01, "Lines" and "Records": versions. Assumes nothing.
use Rattle.std.specs.Prelude.{ℕ, Bool, true, false, not, ◌||◌, ◌&&◌, eqb, ltb, drop, Option, None, Some}
use mathlib.Core.List.{List, [], ◌∷◌, ◌++◌, tail}
use Rattle.values.specs.Bytes.{Bytes, ascii, is, begins, before, from, starts, POINT}
use Rattle.values.specs.Integer.{u32_read, decimal}

pub record Version : Type 0 where
  pub major : ℕ
  pub minor : ℕ

abbrev pub version : ℕ → ℕ → Version
version a b = record { major = a; minor = b }

abbrev pub v4_3 : Version
v4_3 = version 4 3

abbrev pub v4_4 : Version
v4_4 = version 4 4

abbrev pub v4_5 : Version
v4_5 = version 4 5

-- by major, then minor
unfoldable pub earlier : Version → Version → Bool
earlier a b = ltb a.major b.major || (eqb a.major b.major && ltb a.minor b.minor)

-- from w on
abbrev pub since : Version → Version → Bool
since w v = not (earlier v w)

-- what goes by version: pages, the latest first, each from its version on; before all of them, the first argument
unfoldable pub at_version : {A : Type 0} → A → List (Version × A) → Version → A
at_version before [] v = before
at_version before (p ∷ ps) v = elim (since p.0 v) [ true ↦ p.1 | false ↦ at_version before ps v ]

-- the file's version, or the one that the caller imposed
abbrev pub in_force : Option Version → Version → Version
in_force None v = v
in_force (Some w) v = w

abbrev pub version_from : Option (ℕ × Bool) → Option (ℕ × Bool) → Option Version
version_from (Some (a, p)) (Some (b, q)) = Some (version a b)
version_from (Some (a, p)) None = None
version_from None b = None

-- one digit or more, `.`, one digit or more, nothing after
unfoldable pub read_parts : Bytes → Option Version
read_parts bs = elim (begins POINT (from (is POINT) bs)) [
  | true ↦ version_from (u32_read (before (is POINT) bs)) (u32_read (tail (from (is POINT) bs)))
  | false ↦ None
]

-- `VCFv`, then the parts
unfoldable pub read_version : Bytes → Option Version
read_version bs = elim (starts (ascii "VCFv") bs) [ true ↦ read_parts (drop 4 bs) | false ↦ None ]

unfoldable pub write_version : Version → Bytes
write_version v = ascii "VCFv" ++ (decimal v.major ++ POINT ∷ decimal v.minor)
