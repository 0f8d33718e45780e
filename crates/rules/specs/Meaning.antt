-- Document 01, "House form": the meaning of a header, unescaped and defined from the lines as read. Assumes nothing.
use Rattle.std.specs.Prelude.{ℕ, Bool, true, false, List, [], ◌∷◌, ◌++◌, map, Option, None, Some}
use Rattle.values.specs.Bytes.{Bytes, ascii, same}
use Rattle.values.specs.Integer.{u64_read}
use Rattle.values.specs.Value.{meaning_of}
use Rattle.values.specs.Field.{Field}
use Rattle.rules.specs.Version.{Version}
use Rattle.rules.specs.Known.{Kind, kind_of, is_in, is_typed, typed_keys, known, numeric, name_of, tag_of}
use Rattle.rules.specs.Map.{field_named}
use Rattle.rules.specs.Record.{Record, fileformat, fields, text, key_of}
use Rattle.rules.specs.Columns.{Columns}

-- a known value: integers as numbers
pub data Known : Type 0 where
  number : ℕ → Known
  word : Bytes → Known

-- a line: a text, or a tag, the known values and the other fields as key and value
pub data Saying : Type 0 where
  says : Bytes → Saying
  lists : ℕ → List (Option Known) → List (Bytes × Bytes) → Saying

-- the version in force; for each typed key, then each other key by first appearance, its lines in order; whether FORMAT stood; the samples
pub record Meaning : Type 0 where
  pub version : Version
  pub groups : List (Bytes × List Saying)
  pub format : Bool
  pub samples : List Bytes

abbrev pub number_or_word : Bytes → Option (ℕ × Bool) → Known
number_or_word t (Some (n, p)) = number n
number_or_word t None = word t

unfoldable pub known_value : Kind → Bytes → Bytes → Known
known_value kind name t = elim (is_in name (numeric kind)) [ true ↦ number_or_word t (u64_read t) | false ↦ word t ]

abbrev pub known_of : Kind → Bytes → Option Field → Option Known
known_of kind name None = None
known_of kind name (Some f) = Some (known_value kind name (meaning_of f.value))

abbrev pub tag_in : Option Field → ℕ
tag_in None = 0
tag_in (Some f) = tag_of f.key

-- the fields that no known field's name is
unfoldable pub others : Version → Bytes → List Field → List (Bytes × Bytes)
others v k [] = []
others v k (f ∷ fs) = elim (is_in (name_of v k f.key) (known (kind_of k))) [ true ↦ others v k fs | false ↦ (f.key, meaning_of f.value) ∷ others v k fs ]

unfoldable pub saying : Version → Record → Saying
saying v (fileformat w) = says []
saying v (fields k fs) =
    lists (tag_in (field_named v k (ascii "ID") fs)) (map (λ (name : Bytes). known_of (kind_of k) name (field_named v k name fs)) (known (kind_of k))) (others v k fs)
saying v (text k t) = says t

-- the records under the key k, in order
unfoldable pub under : Bytes → List Record → List Record
under k [] = []
under k (r ∷ rs) = elim (same (key_of r) k) [ true ↦ r ∷ under k rs | false ↦ under k rs ]

unfoldable pub without : Bytes → List Bytes → List Bytes
without k [] = []
without k (j ∷ js) = elim (same j k) [ true ↦ without k js | false ↦ j ∷ without k js ]

-- the keys that are not typed, by first appearance
unfoldable pub other_keys : List Record → List Bytes
other_keys [] = []
other_keys (r ∷ rs) = elim (is_typed (key_of r)) [ true ↦ other_keys rs | false ↦ key_of r ∷ without (key_of r) (other_keys rs) ]

unfoldable pub groups : Version → List Bytes → List Record → List (Bytes × List Saying)
groups v [] rs = []
groups v (k ∷ ks) rs = (k, map (saying v) (under k rs)) ∷ groups v ks rs

unfoldable pub header_meaning : Version → List Record → Columns → Meaning
header_meaning v rs c = record { version = v; groups = groups v (typed_keys ++ other_keys rs) rs; format = c.format; samples = c.samples }
