-- Which kind of map a key names. Assumes nothing.
use Rattle.std.specs.Prelude.{ℕ, ◌≡◌, Bool, true, false, List, [], ◌∷◌}
use Rattle.values.specs.Bytes.{Bytes, ascii, same}
use Rattle.rules.specs.Known.{Kind, INFO, FILTER, FORMAT, ALT, contig, other, kind_of, is_typed, always_map}
use Rattle.rules.specs.Version.{Version}
use Rattle.rules.specs.Map.{is_meta}
use Rattle.records.specs.Formats.{version_of}
use Rattle.records.specs.declared.file_format.FileFormat.{FileFormat}
use Rattle.records.specs.declared.key.MapContext.{MapContext}
use Rattle.records.specs.declared.key.MapKey.{MapKey}
use Rattle.records.specs.declared.key.MapKey.TheVariants.{Info, Filter, Format, AlternativeAllele, Contig, Meta, Pedigree, Other}

-- the key that a case stands for; other keys are alike in all that depends on the case
abbrev pub case_bytes : MapKey → Bytes
case_bytes Info = ascii "INFO"
case_bytes Filter = ascii "FILTER"
case_bytes Format = ascii "FORMAT"
case_bytes AlternativeAllele = ascii "ALT"
case_bytes Contig = ascii "contig"
case_bytes Meta = ascii "META"
case_bytes Pedigree = ascii "PEDIGREE"
case_bytes Other = []

abbrev pub untyped_keys : List MapKey
untyped_keys = Meta ∷ Pedigree ∷ []

abbrev pub keys : List MapKey
keys = Info ∷ Format ∷ Contig ∷ Filter ∷ AlternativeAllele ∷ untyped_keys

unfoldable pub among : List MapKey → Bytes → MapKey
among [] k = Other
among (j ∷ js) k = elim (same k (case_bytes j)) [ true ↦ j | false ↦ among js k ]

abbrev pub key_named : Bytes → MapKey
key_named k = among keys k

-- the key of a map or a text: all that the rules ask of it is what they ask of its case
pub record Named (k : Bytes) (key : MapKey) : Type 0 where
  pub kind : kind_of k ≡ kind_of (case_bytes key)
  pub typed : is_typed k ≡ is_typed (case_bytes key)
  pub always : always_map k ≡ always_map (case_bytes key)
  pub meta : same k (ascii "META") ≡ same (case_bytes key) (ascii "META")
  pub pedigree : same k (ascii "PEDIGREE") ≡ same (case_bytes key) (ascii "PEDIGREE")
  pub format : same k (ascii "fileformat") ≡ false

abbrev pub kind_by : MapKey → Kind
kind_by Info = INFO
kind_by Filter = FILTER
kind_by Format = FORMAT
kind_by AlternativeAllele = ALT
kind_by Contig = contig
kind_by Meta = other
kind_by Pedigree = other
kind_by Other = other

abbrev pub is_meta_key : MapKey → Bool
is_meta_key Info = false
is_meta_key Filter = false
is_meta_key Format = false
is_meta_key AlternativeAllele = false
is_meta_key Contig = false
is_meta_key Meta = true
is_meta_key Pedigree = false
is_meta_key Other = false

abbrev pub is_pedigree_key : MapKey → Bool
is_pedigree_key Info = false
is_pedigree_key Filter = false
is_pedigree_key Format = false
is_pedigree_key AlternativeAllele = false
is_pedigree_key Contig = false
is_pedigree_key Meta = false
is_pedigree_key Pedigree = true
is_pedigree_key Other = false

-- what the fields of a map are read by
abbrev pub context_of : MapKey → FileFormat → ℕ → MapContext
context_of key version start = record { key = key; version = version; brackets = is_meta (version_of version) (case_bytes key); start = start }

abbrev pub version_in : MapContext → Version
version_in x = version_of x.version

abbrev pub key_bytes : MapContext → Bytes
key_bytes x = case_bytes x.key
