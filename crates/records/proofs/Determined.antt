-- The promises of this crate leave one answer. Assumes nothing.
use Prim.Native.Nat.{ℕ}
use mathlib.Core.Path.{◌≡◌, refl, sym, ap, ap₂, ◌∙◌}
use mathlib.Core.Bool.{Bool, true, false}
use mathlib.Core.List.{List, [], ◌∷◌}
use Rattle.std.specs.Prelude.{Option, Some, Result, Ok, Err}
use Rattle.values.specs.Bytes.{Bytes, ascii, same}
use Rattle.values.specs.Field.{Field}
use Rattle.values.specs.declared.string.Text.{Text}
use Rattle.values.proofs.Lists.{some_pair}
use Rattle.values.proofs.Tests.{never}
use Rattle.rules.specs.Version.{Version}
use Rattle.rules.specs.Known.{Kind, INFO, FILTER, FORMAT, ALT, contig, other, KnownField, kind_of}
use Rattle.rules.specs.Entry.{fields_start, text_named}
use Rattle.records.specs.Formats.{version_of, format_of}
use Rattle.records.specs.Keys.{case_bytes, Named}
use Rattle.records.specs.Tags.{tag_row, name_in, tag_name}
use Rattle.records.specs.Maps.{slotted, tally_of}
use Rattle.records.specs.declared.map.Tally.{Tally}
use Rattle.rules.specs.Claims.{key_in}
use Rattle.records.specs.Records.{RecordIs, ParsesRecord}
use Rattle.records.specs.declared.key.MapKey.{MapKey}
use Rattle.records.specs.declared.key.MapKey.TheVariants as key
use Rattle.records.specs.declared.tag.Tag.{Tag}
use Rattle.records.specs.declared.tag.Tag.TheVariants.{Id, Number, ValueType, Description, Length, Md5, Url, Idx, Other}
use Rattle.records.specs.declared.record.Record.{Record}
use Rattle.records.specs.declared.record.Record.TheVariants as read
use Rattle.records.proofs.Refusals.{number_injective}
use Rattle.records.specs.declared.refusal.Refusal.{Refusal}

-- the case of a key, by what the rules ask of it: its kind, and whether it is META or PEDIGREE
abbrev key_by : Kind → Bool → Bool → MapKey
key_by INFO m p = key.Info
key_by FILTER m p = key.Filter
key_by FORMAT m p = key.Format
key_by ALT m p = key.AlternativeAllele
key_by contig m p = key.Contig
key_by other true p = key.Meta
key_by other false true = key.Pedigree
key_by other false false = key.Other

key_back : (j : MapKey) → key_by (kind_of (case_bytes j)) (same (case_bytes j) (ascii "META")) (same (case_bytes j) (ascii "PEDIGREE")) ≡ j
unfolding kind_of same
key_back key.Info = refl
key_back key.Filter = refl
key_back key.Format = refl
key_back key.AlternativeAllele = refl
key_back key.Contig = refl
key_back key.Meta = refl
key_back key.Pedigree = refl
key_back key.Other = refl

key_of : {k : Bytes} (j : MapKey) → Named k j → key_by (kind_of k) (same k (ascii "META")) (same k (ascii "PEDIGREE")) ≡ j
key_of j n = rw (n.kind, n.meta, n.pedigree) (key_back j)

pub named_one : {k : Bytes} (i j : MapKey) → Named k i → Named k j → i ≡ j
named_one i j a b = sym (key_of i a) ∙ key_of j b

pub filled_one : {s t : Text} {m n : ℕ} → ◌≡◌ {A = Option (Text × ℕ)} (Some (s, m)) (Some (t, n)) → (s ≡ t) × (m ≡ n)
filled_one e = some_pair e

abbrev map_with : MapKey → ℕ → Tally → Text → ℕ → Result Record Refusal
map_with key value tally id tag = Ok (read.Map (record { key = key; value = value; id = id; tag = tag; tally = tally }))

record_one : (v : Version) (s : Bytes) (a b : Result Record Refusal) → RecordIs v s a → RecordIs v s b → a ≡ b
record_one v s (Ok (read.FileFormat w)) (Ok (read.FileFormat x)) p q = let z : version_of w ≡ version_of x = cc in ap (λ (y : Version). Ok (read.FileFormat (format_of y))) z
record_one v s (Ok (read.FileFormat w)) (Ok (read.Map m)) p q = never cc
record_one v s (Ok (read.FileFormat w)) (Ok (read.Text i)) p q = never cc
record_one v s (Ok (read.FileFormat w)) (Err x) p q = never cc
record_one v s (Ok (read.Map m)) (Ok (read.FileFormat w)) p q = never cc
record_one v s (Ok (read.Map m)) (Ok (read.Map m')) p q =
    let k = named_one m.key m'.key p.1 q.1 in
    let fs : p.0 ≡ q.0 = cc in
    let x = filled_one (sym p.4 ∙ ap (λ (gs : List Field). slotted (text_named v (key_in s) (ascii "ID") (fields_start (key_in s)) gs)) fs ∙ q.4) in
    ap (λ (j : MapKey). map_with j m.value m.tally m.id m.tag) k
    ∙ ap (λ (i : ℕ). map_with m'.key i m.tally m.id m.tag) (p.2 ∙ sym q.2)
    ∙ ap (λ (t : Tally). map_with m'.key m'.value t m.id m.tag) (p.5 ∙ ap (tally_of v (key_in s)) fs ∙ sym q.5)
    ∙ ap₂ (map_with m'.key m'.value m'.tally) x.0 x.1
record_one v s (Ok (read.Map m)) (Ok (read.Text i')) p q = never cc
record_one v s (Ok (read.Map m)) (Err x) p q = never cc
record_one v s (Ok (read.Text i)) (Ok (read.FileFormat w)) p q = never cc
record_one v s (Ok (read.Text i)) (Ok (read.Map m)) p q = never cc
record_one v s (Ok (read.Text i)) (Ok (read.Text i')) p q = cc
record_one v s (Ok (read.Text i)) (Err x) p q = never cc
record_one v s (Err x) (Ok (read.FileFormat w)) p q = never cc
record_one v s (Err x) (Ok (read.Map m)) p q = never cc
record_one v s (Err x) (Ok (read.Text i)) p q = never cc
record_one v s (Err x) (Err y) p q = ap Err (number_injective x y (cc))

-- two answers that meet the promise of `parse_record` are equal
pub record_determined : {v : Version} {s : Bytes} {a b : Result Record Refusal} → ParsesRecord v s a → ParsesRecord v s b → a ≡ b
record_determined {v} {s} {a} {b} p q = record_one v s a b p.is q.is

-- Tags

-- the first of these tags with a name
abbrev tag_among : List Tag → Bytes → Tag
tag_among [] name = Other
tag_among (t ∷ ts) name = elim (same (tag_name t) name) [ true ↦ t | false ↦ tag_among ts name ]

tag_back : (t : Tag) → tag_among (Id ∷ Number ∷ ValueType ∷ Description ∷ Length ∷ Md5 ∷ Url ∷ Idx ∷ []) (tag_name t) ≡ t
unfolding same
tag_back Id = refl
tag_back Number = refl
tag_back ValueType = refl
tag_back Description = refl
tag_back Length = refl
tag_back Md5 = refl
tag_back Url = refl
tag_back Idx = refl
tag_back Other = refl

-- two tags that meet the promise of `tag` are equal
pub tag_determined : (a b : Tag) → tag_row a ≡ tag_row b → a ≡ b
tag_determined a b e = sym (tag_back a) ∙ ap (λ (o : Option KnownField). tag_among (Id ∷ Number ∷ ValueType ∷ Description ∷ Length ∷ Md5 ∷ Url ∷ Idx ∷ []) (name_in o)) e ∙ tag_back b
