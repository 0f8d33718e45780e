-- The known fields as they are written. Assumes nothing.
use Prim.Native.Nat.{ℕ, ◌-◌, ◌≤◌}
use mathlib.Core.Path.{◌≡◌, refl, sym, ap, subst, ◌∙◌}
use mathlib.Core.Bool.{Bool, true, false, ◌&&◌}
use mathlib.Core.List.{List, [], ◌∷◌, append-nil}
use Rattle.std.specs.Prelude.{Option, None, Some}
use lib.ListN.{length, drop, take}
use Rattle.values.specs.Bytes.{Bytes, ascii, same}
use Rattle.values.specs.Integer.{u64_read}
use Rattle.values.specs.Value.{meaning, meaning_of}
use Rattle.values.specs.Field.{Field, written_field}
use Rattle.values.specs.Written.{last, Puts}
use Rattle.values.specs.declared.sink.Sink.{Sink}
use Rattle.values.specs.declared.string.Text.{Text}
use Rattle.values.proofs.Outputs.{puts_nothing, then}
use Rattle.rules.specs.Known.{INFO, FILTER, contig, KnownField, number_field, type_field, description_field, length_field, md5_field, url_field, idx_field, is_numeric}
use Rattle.rules.specs.Map.{fields_at, field_keyed}
use Rattle.records.specs.Keys.{kind_by}
use Rattle.records.specs.Tags.{after_id}
use Rattle.records.specs.Fields.{FoundIs, FindsField}
use Rattle.records.specs.declared.key.MapKey.{MapKey}
use Rattle.forms.specs.Forms.{field_by, PutsNumber, known_text, listed_fields, PutsKnown}

-- A known field

module _ (s : Bytes) where
  not_found : (o : Option Field) → FoundIs s o None → o ≡ None
  not_found None h = refl
  not_found (Some f) h = absurd h

  found_some : (t : Text) (o : Option Field) → FoundIs s o (Some t) → (f : Field) × (o ≡ Some f) × FoundIs s (Some f) (Some t)
  found_some t None h = absurd h
  found_some t (Some f) h = (f, refl, h)

module _ {meta : Bool} {s : Bytes} {start : ℕ} {name : Bytes} {r : Option Text} (a : FindsField meta s start name r) {given out : Bytes} {at : Sink} where
  pub known_none : (number : Bool) → r ≡ None → at.at ≤ last → length out ≤ last → PutsKnown meta (fields_at meta s start) name number given out at at out
  known_none number e h l =
      let o = not_found s (field_keyed name (fields_at meta s start)) (subst (FoundIs s (field_keyed name (fields_at meta s start))) e a.value) in
      record { is = λ n. rw o (puts_nothing given out at h l) }

  module _ {t : Text} (e : r ≡ Some t) {r₁ : Sink} {o₁ : Bytes} (w : Puts given out at (44 ∷ []) r₁ o₁) {p : Bytes} (b : p ≡ take (t.end - t.start) (drop t.start s)) where
    field : (f : Field) × (field_keyed name (fields_at meta s start) ≡ Some f) × FoundIs s (Some f) (Some t)
    field = found_some s t (field_keyed name (fields_at meta s start)) (subst (FoundIs s (field_keyed name (fields_at meta s start))) e a.value)

    pub known_number : (number : Bool) → number ≡ true → {r₂ : Sink} {o₂ : Bytes} → PutsNumber meta name p t.quoted given o₁ r₁ r₂ o₂ → PutsKnown meta (fields_at meta s start) name number given out at r₂ o₂
    known_number number u v = record {
      is = λ n.
          let f = field in
          let m : meaning t.quoted p ≡ meaning_of f.0.value = ap (meaning t.quoted) b ∙ f.2.0 in
          let y = v.is (rw u at n) (ap u64_read m ∙ f.2.1 ∙ ap u64_read (sym b)) in
          rw (f.1, u) (then w (rw m at y));
    }

    pub known_word : (number : Bool) → number ≡ false → {r₂ : Sink} {o₂ : Bytes} → Puts given o₁ r₁ (written_field (field_by meta name (meaning t.quoted p))) r₂ o₂ → PutsKnown meta (fields_at meta s start) name number given out at r₂ o₂
    known_word number u v = record {
      is = λ n.
          let f = field in
          let m : meaning t.quoted p ≡ meaning_of f.0.value = ap (meaning t.quoted) b ∙ f.2.0 in
          rw (f.1, u) (then w (rw m at v));
    }

pub ruleset knowns = (known_none, known_number, known_word)

-- Known fields one after the other

module _ {meta : Bool} {fs : List Field} {given out : Bytes} {at r : Sink} {o : Bytes} (row : KnownField) (n : is_numeric row.reads && same row.name (ascii "Description") ≡ false)
    (p : PutsKnown meta fs row.name (is_numeric row.reads) given out at r o) where
  last_known : Puts given out at (listed_fields meta fs (row ∷ [])) r o
  unfolding listed_fields
  last_known = rw (append-nil (known_text meta row.name (is_numeric row.reads) (field_keyed row.name fs))) (p.is n)

  more_known : (rows : List KnownField) {r' : Sink} {o' : Bytes} → Puts given o r (listed_fields meta fs rows) r' o' → Puts given out at (listed_fields meta fs (row ∷ rows)) r' o'
  unfolding listed_fields
  more_known rows w = then (p.is n) w

module _ {meta : Bool} {fs : List Field} {given out : Bytes} {at r₁ r₂ : Sink} {o₁ o₂ : Bytes} where
  pub filter_known : PutsKnown meta fs (ascii "Description") false given out at r₁ o₁ → PutsKnown meta fs (ascii "IDX") true given o₁ r₁ r₂ o₂ → Puts given out at (listed_fields meta fs (after_id FILTER)) r₂ o₂
  unfolding same
  filter_known p q = more_known description_field refl p (idx_field ∷ []) (last_known idx_field refl q)

  module _ {r₃ r₄ : Sink} {o₃ o₄ : Bytes} where
    pub typed_known : PutsKnown meta fs (ascii "Number") true given out at r₁ o₁ → PutsKnown meta fs (ascii "Type") false given o₁ r₁ r₂ o₂
        → PutsKnown meta fs (ascii "Description") false given o₂ r₂ r₃ o₃ → PutsKnown meta fs (ascii "IDX") true given o₃ r₃ r₄ o₄ → Puts given out at (listed_fields meta fs (after_id INFO)) r₄ o₄
    unfolding same
    typed_known p q u v =
        more_known number_field refl p (type_field ∷ description_field ∷ idx_field ∷ [])
        (more_known type_field refl q (description_field ∷ idx_field ∷ []) (more_known description_field refl u (idx_field ∷ []) (last_known idx_field refl v)))

    pub contig_known : PutsKnown meta fs (ascii "length") true given out at r₁ o₁ → PutsKnown meta fs (ascii "md5") false given o₁ r₁ r₂ o₂
        → PutsKnown meta fs (ascii "URL") false given o₂ r₂ r₃ o₃ → PutsKnown meta fs (ascii "IDX") true given o₃ r₃ r₄ o₄ → Puts given out at (listed_fields meta fs (after_id contig)) r₄ o₄
    unfolding same
    contig_known p q u v =
        more_known length_field refl p (md5_field ∷ url_field ∷ idx_field ∷ [])
        (more_known md5_field refl q (url_field ∷ idx_field ∷ []) (more_known url_field refl u (idx_field ∷ []) (last_known idx_field refl v)))

pub ruleset rows = (filter_known, typed_known, contig_known)

-- by the case of the map's key
module _ (meta : Bool) (fs : List Field) {given out : Bytes} {at : Sink} (key : MapKey) {x : MapKey} (e : key ≡ x) where
  pub rows_told : {r : Sink} {o : Bytes} → Puts given out at (listed_fields meta fs (after_id (kind_by x))) r o → Puts given out at (listed_fields meta fs (after_id (kind_by key))) r o
  rows_told w = rw e w

  pub row_told : after_id (kind_by x) ≡ description_field ∷ [] → {r : Sink} {o : Bytes} → PutsKnown meta fs (ascii "Description") false given out at r o → Puts given out at (listed_fields meta fs (after_id (kind_by key))) r o
  row_told f p = rw (e, f) (last_known description_field refl p)

  pub no_rows : after_id (kind_by x) ≡ [] → at.at ≤ last → length out ≤ last → Puts given out at (listed_fields meta fs (after_id (kind_by key))) at out
  unfolding listed_fields
  no_rows f h l = rw (e, f) (puts_nothing given out at h l)

pub ruleset tables = (rows_told, row_told, no_rows)
