-- The fields that the house form writes of a map are those that the code writes. Assumes nothing.
use Prim.Native.Nat.{ℕ}
use mathlib.Core.Path.{◌≡◌, refl, sym, ap, ap₂, ◌∙◌}
use mathlib.Core.Bool.{Bool, true, false, ◌||◌}
use mathlib.Core.List.{List, [], ◌∷◌, ◌++◌, map, append_assoc}
use Rattle.std.specs.Prelude.{Option, None, Some}
use Rattle.values.specs.Bytes.{Bytes, ascii, same}
use Rattle.values.specs.Value.{meaning_of}
use Rattle.values.specs.Field.{Field, written_field}
use Rattle.values.proofs.Tests.{pass, fail, test, both}
use Rattle.values.proofs.Sames.{same_sound, same_self}
use Rattle.rules.specs.Version.{Version}
use Rattle.rules.specs.Known.{Kind, INFO, FILTER, FORMAT, ALT, contig, other, KnownField, is_numeric, names, rows, row_named, numeric, kind_of, is_in, known, name_of, tag_of}
use Rattle.rules.specs.Map.{is_meta, is_some, known_named, field_named, field_keyed}
use Rattle.rules.specs.Meaning.{known_value, known_of, others}
use Rattle.rules.specs.House.{is_written_quoted, write_field, write_known, name_of_tag, key_written, known_fields, other_fields, write_more, write_fields}
use Rattle.rules.proofs.Names.{name_plain, name_is, row_known}
use Rattle.rules.proofs.Checks.{named_yes, named_no}
use Rattle.rules.proofs.Tidy.{known_in, tidy, tag, others_yes, others_no}
use Rattle.records.specs.Keys.{case_bytes, Named, kind_by, version_in}
use Rattle.records.specs.Tags.{after_id}
use Rattle.records.specs.declared.key.MapKey.{MapKey}
use Rattle.records.specs.declared.key.MapContext.{MapContext}
use Rattle.records.proofs.Keys.{name_by_case, kind_by_case}
use Rattle.forms.specs.Forms.{quotes, field_by, shown_value, known_text, listed_fields, other_text, others_text}
use Rattle.rules.specs.Claims.{All}

-- the rule of quoting asks of the map's key only whether it is META, from 4.3
field_as_lem : (v : Version) (k name t : Bytes) → write_field v k name t ≡ field_by (is_meta v k) name t
unfolding is_written_quoted quotes
field_as_lem v k name t = refl

more_append : (xs ys : List Field) → write_more (xs ++ ys) ≡ write_more xs ++ write_more ys
unfolding write_more
more_append [] ys = refl
more_append (x ∷ xs) ys = ap (λ (t : Bytes). 44 ∷ (written_field x ++ t)) (more_append xs ys) ∙ ap (44 ∷◌) (sym (append_assoc (written_field x) (write_more xs) (write_more ys)))

-- Known fields

-- a row after the ID: no name of the ID, and whether its values may be integers
pub record RowIn (kind : Kind) (r : KnownField) : Type 0 where
  pub number : is_in r.name (numeric kind) ≡ is_numeric r.reads
  pub other : same r.name (ascii "ID") ≡ false
  pub plain : same r.name (ascii "Child") || same r.name (ascii "Derived") ≡ false

-- a field has such a name exactly where its key is that name
name_same : (v : Version) (k field name : Bytes) → same name (ascii "ID") ≡ false → same name (ascii "Child") || same name (ascii "Derived") ≡ false
    → same (name_of v k field) name ≡ same field name
name_same v k field name i p = elim (test (same (name_of v k field) name)) [
  | pass e ↦ let q = name_is v k field name (same_sound (name_of v k field) name e) i in e ∙ sym (rw q (same_self name))
  | fail e ↦ elim (test (same field name)) [
    | pass f ↦ let q = same_sound field name f in both (rw (name_plain v k name p) (same_self name)) (rw q at e)
    | fail f ↦ e ∙ sym f
  ]
]

pub named_keyed : (v : Version) (k name : Bytes) (fs : List Field) → same name (ascii "ID") ≡ false → same name (ascii "Child") || same name (ascii "Derived") ≡ false
    → field_named v k name fs ≡ field_keyed name fs
unfolding field_named field_keyed
named_keyed v k name [] i p = refl
named_keyed v k name (f ∷ fs) i p = elim (test (same f.key name)) [
  | pass e ↦ rw (field_keyed, e) (named_yes v k name f fs (name_same v k f.key name i p ∙ e))
  | fail e ↦ rw (field_keyed, e) (named_no v k name f fs (name_same v k f.key name i p ∙ e) ∙ named_keyed v k name fs i p)
]

shown_as_lem : (kind : Kind) (name t : Bytes) (number : Bool) → is_in name (numeric kind) ≡ number → write_known (known_value kind name t) ≡ shown_value number t
unfolding known_value
shown_as_lem kind name t true e = rw (known_value, e)
shown_as_lem kind name t false e = rw (known_value, e)

key_as : (tag : ℕ) (name : Bytes) → same name (ascii "ID") ≡ false → key_written tag name ≡ name
key_as tag name e = rw (key_written, e)

listed_as : (v : Version) (k : Bytes) (tag : ℕ) (fs : List Field) (rs : List KnownField) → All (RowIn (kind_of k)) rs
    → write_more (known_fields v k tag (names rs) (map (known_in v k fs) (names rs))) ≡ listed_fields (is_meta v k) fs rs
unfolding known_fields write_more listed_fields
listed_as v k tag fs [] h = refl
listed_as v k tag fs (r ∷ rs) h = rw (named_keyed v k r.name fs h.0.other h.0.plain) (go (field_keyed r.name fs) (listed_as v k tag fs rs h.1))
  where
    go : (o : Option Field) → write_more (known_fields v k tag (names rs) (map (known_in v k fs) (names rs))) ≡ listed_fields (is_meta v k) fs rs
        → write_more (known_fields v k tag (r.name ∷ names rs) (known_of (kind_of k) r.name o ∷ map (known_in v k fs) (names rs)))
        ≡ known_text (is_meta v k) r.name (is_numeric r.reads) o ++ listed_fields (is_meta v k) fs rs
    go None ih = ih
    go (Some f) ih =
        ap₂ (λ (x : Field) (t : Bytes). 44 ∷ (written_field x ++ t))
        (ap₂ (write_field v k) (key_as tag r.name h.0.other) (shown_as_lem (kind_of k) r.name (meaning_of f.value) (is_numeric r.reads) h.0.number)
        ∙ field_as_lem v k r.name (shown_value (is_numeric r.reads) (meaning_of f.value))) ih

-- The table

id_first : (kind : Kind) → known kind ≡ ascii "ID" ∷ names (after_id kind)
id_first INFO = refl
id_first FILTER = refl
id_first FORMAT = refl
id_first ALT = refl
id_first contig = refl
id_first other = refl

rows_in : (kind : Kind) → All (RowIn kind) (after_id kind)
unfolding same is_in
rows_in INFO = (record { number = refl; other = refl; plain = refl }, (record { number = refl; other = refl; plain = refl }, (record { number = refl; other = refl; plain = refl }, (record { number = refl; other = refl; plain = refl }, tt))))
rows_in FILTER = (record { number = refl; other = refl; plain = refl }, (record { number = refl; other = refl; plain = refl }, tt))
rows_in FORMAT = (record { number = refl; other = refl; plain = refl }, (record { number = refl; other = refl; plain = refl }, (record { number = refl; other = refl; plain = refl }, (record { number = refl; other = refl; plain = refl }, tt))))
rows_in ALT = (record { number = refl; other = refl; plain = refl }, tt)
rows_in contig = (record { number = refl; other = refl; plain = refl }, (record { number = refl; other = refl; plain = refl }, (record { number = refl; other = refl; plain = refl }, (record { number = refl; other = refl; plain = refl }, tt))))
rows_in other = tt

id_word : (kind : Kind) → is_in (ascii "ID") (numeric kind) ≡ false
unfolding same is_in
id_word INFO = refl
id_word FILTER = refl
id_word FORMAT = refl
id_word ALT = refl
id_word contig = refl
id_word other = refl

-- Other fields

-- the field has no row
known_as : (v : Version) (k : Bytes) (j : MapKey) (name : Bytes) → Named k j → is_in (name_of v k name) (known (kind_of k)) ≡ is_some (known_named v (case_bytes j) name)
known_as v k j name n =
    row_known (name_of v k name) (rows (kind_of k)) ∙ ap₂ (λ (x : Bytes) (kind : Kind). is_some (row_named x (rows kind))) (name_by_case v k j n name) n.kind

module _ (v : Version) (k : Bytes) (x : MapContext) (n : Named k x.key) (a : version_in x ≡ v) (b : x.brackets ≡ is_meta v k) where
  others_as : (fs : List Field) → write_more (other_fields v k (others v k fs)) ≡ others_text x fs
  unfolding others other_fields write_more others_text other_text
  others_as [] = refl
  others_as (f ∷ fs) = elim (test (is_in (name_of v k f.key) (known (kind_of k)))) [
    | pass e ↦ rw (others_yes v k 0 f fs e, others_text, other_text, a, ← known_as v k x.key f.key n, e) (others_as fs)
    | fail e ↦ rw (others_no v k 0 f fs e, others_text, other_text, a, ← known_as v k x.key f.key n, e)
        (ap₂ (λ (y : Field) (t : Bytes). 44 ∷ (written_field y ++ t)) (field_as_lem v k f.key (meaning_of f.value) ∙ ap (λ (m : Bool). field_by m f.key (meaning_of f.value)) (sym b)) (others_as fs))
  ]

  -- The whole map: its ID, the known fields after it, and the others
  pub fields_as : (fs : List Field) {f : Field} → field_named v k (ascii "ID") fs ≡ Some f
      → write_fields (tidy v k fs)
      ≡ written_field (field_by x.brackets (name_of_tag (tag_of f.key)) (meaning_of f.value)) ++ (listed_fields x.brackets fs (after_id (kind_by x.key)) ++ others_text x fs)
  unfolding known_fields write_fields same
  fields_as fs {f} e =
      let all : write_fields (known_fields v k (tag v k fs) (ascii "ID" ∷ names (after_id (kind_of k))) (map (known_in v k fs) (ascii "ID" ∷ names (after_id (kind_of k)))) ++ other_fields v k (others v k fs))
      ≡ written_field (field_by (is_meta v k) (name_of_tag (tag_of f.key)) (meaning_of f.value)) ++ (listed_fields (is_meta v k) fs (after_id (kind_by x.key)) ++ others_text x fs)
      = rw e (ap₂ (λ (y : Field) (t : Bytes). written_field y ++ t) first rest) in
      ap (λ (ns : List Bytes). write_fields (known_fields v k (tag v k fs) ns (map (known_in v k fs) ns) ++ other_fields v k (others v k fs))) (id_first (kind_of k))
      ∙ all
      ∙ ap (λ (m : Bool). written_field (field_by m (name_of_tag (tag_of f.key)) (meaning_of f.value)) ++ (listed_fields m fs (after_id (kind_by x.key)) ++ others_text x fs)) (sym b)
    where
      first : write_field v k (name_of_tag (tag_of f.key)) (write_known (known_value (kind_of k) (ascii "ID") (meaning_of f.value))) ≡ field_by (is_meta v k) (name_of_tag (tag_of f.key)) (meaning_of f.value)
      first =
          ap (write_field v k (name_of_tag (tag_of f.key))) (shown_as_lem (kind_of k) (ascii "ID") (meaning_of f.value) false (id_word (kind_of k)))
          ∙ field_as_lem v k (name_of_tag (tag_of f.key)) (meaning_of f.value)

      rest : write_more (known_fields v k (tag_of f.key) (names (after_id (kind_of k))) (map (known_in v k fs) (names (after_id (kind_of k)))) ++ other_fields v k (others v k fs))
          ≡ listed_fields (is_meta v k) fs (after_id (kind_by x.key)) ++ others_text x fs
      rest =
          more_append (known_fields v k (tag_of f.key) (names (after_id (kind_of k))) (map (known_in v k fs) (names (after_id (kind_of k))))) (other_fields v k (others v k fs))
          ∙ ap₂ ◌++◌ (listed_as v k (tag_of f.key) fs (after_id (kind_of k)) (rows_in (kind_of k)) ∙ ap (λ (kind : Kind). listed_fields (is_meta v k) fs (after_id kind)) (n.kind ∙ kind_by_case x.key)) (others_as fs)
