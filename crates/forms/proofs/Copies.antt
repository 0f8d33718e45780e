-- The fields that are no known ones, copied one after the other. Assumes nothing.
use Rattle.std.specs.Prelude.{Option, Some, None}
use Prim.Native.Nat.{ℕ, ◌-◌, ◌≤◌, ◌<◌}
use mathlib.Core.Path.{◌≡◌, refl, sym, ap, subst, ◌∙◌}
use mathlib.Core.Bool.{Bool, true, false}
use mathlib.Core.List.{List, [], ◌∷◌, ◌++◌, append-nil}
use lib.ListN.{length, drop, take}
use Rattle.values.specs.Bytes.{Bytes}
use Rattle.values.specs.Value.{meaning, meaning_of}
use Rattle.values.specs.Field.{Field, written_field}
use Rattle.values.specs.Places.{field_at, separator_at}
use Rattle.values.specs.Written.{last, Puts}
use Rattle.values.specs.declared.cursor.Cursor.{Cursor}
use Rattle.values.specs.declared.sink.Sink.{Sink}
use Rattle.values.specs.declared.string.Text.{Text}
use Rattle.values.proofs.Outputs.{puts_nothing, puts_length, puts_capped, then}
use Rattle.values.proofs.Places.{FieldHere}
use Rattle.rules.specs.Map.{is_some, known_named}
use Rattle.rules.proofs.Scans.{Left, left_all, left_unread, left_told, left_last, left_next, left_less}
use Rattle.rules.proofs.Shows.{value_means}
use Rattle.records.specs.Keys.{version_in, key_bytes}
use Rattle.records.specs.Tags.{tag_row}
use Rattle.records.specs.declared.key.MapContext.{MapContext}
use Rattle.records.specs.declared.tag.Tag.{Tag}
use Rattle.forms.specs.Forms.{fields_in, field_by, other_text, others_text}

-- One field

module _ (x : MapContext) (name t : Bytes) (g : Tag) (a : tag_row g ≡ known_named (version_in x) (key_bytes x) name) {q : Bool} (b : q ≡ is_some (tag_row g)) {given out : Bytes} {at : Sink} where
  pub other_known : q ≡ true → at.at ≤ last → length out ≤ last → Puts given out at (other_text x name t) at out
  unfolding other_text
  other_known e h l = rw (other_text, ← a, ← b, e) (puts_nothing given out at h l)

  pub other_put : q ≡ false → {r : Sink} {o : Bytes} → Puts given out at (44 ∷ []) r o → {r' : Sink} {o' : Bytes} → Puts given o r (written_field (field_by x.brackets name t)) r' o'
      → Puts given out at (other_text x name t) r' o'
  unfolding other_text
  other_put e w w' = rw (other_text, ← a, ← b, e) (then w w')

-- All of them

others_none : (x : MapContext) → others_text x [] ≡ []
unfolding others_text
others_none x = refl

others_more : (x : MapContext) (f : Field) (fs : List Field) → others_text x (f ∷ fs) ≡ other_text x f.key (meaning_of f.value) ++ others_text x fs
unfolding others_text
others_more x f fs = refl

-- what is written of the fields that are left is written of the whole
pub record Copying (x : MapContext) (s given out₀ : Bytes) (at : Sink) (out : Bytes) (next : Sink) (i : ℕ) : Type 0 where
  pub fs : List Field
  pub left : Left x.brackets s i fs
  pub capped : next.at ≤ last
  pub fits : length out ≤ last
  pub size : length out ≡ length out₀
  pub still : (r : Sink) (o : Bytes) → Puts given out next (others_text x fs) r o → Puts given out₀ at (others_text x (fields_in x s)) r o

pub copy_all : (x : MapContext) (s given out : Bytes) (at : Sink) → at.at ≤ last → length out ≤ last → Copying x s given out at out at x.start
copy_all x s given out at h l =
    record { fs = fields_in x s; left = left_all x.brackets s x.start; capped = h; fits = l; size = refl; still = λ r o w. w }

module _ {x : MapContext} {s given out₀ : Bytes} {at : Sink} {out : Bytes} {next : Sink} {i : ℕ} (g : Copying x s given out₀ at out next i) {r : Option (ℕ × Text × Cursor)} (a : r ≡ field_at x.brackets s i) where
  pub copied_all : r ≡ None → Puts given out₀ at (others_text x (fields_in x s)) next out
  copied_all e = g.still next out (rw (left_unread g.left a e, others_none x) (puts_nothing given out next g.capped g.fits))

  module _ {e : ℕ} {t : Text} {n : Cursor} (b : r ≡ Some (e, t, n)) {p : Bytes} (c : p ≡ take (e - i) (drop i s)) {val : Bytes} (d : val ≡ take (t.end - t.start) (drop t.start s))
      {r₁ : Sink} {o₁ : Bytes} (w : Puts given out next (other_text x p (meaning t.quoted val)) r₁ o₁) {y : Option Cursor} (j : y ≡ separator_at s n.at) where
    abbrev here : FieldHere x.brackets s i e t n
    here = left_told g.left a b

    one : Puts given out next (other_text x here.field.key (meaning_of here.field.value)) r₁ o₁
    one =
        let k : p ≡ here.field.key = c ∙ here.key in
        let m : meaning t.quoted val ≡ meaning_of here.field.value = ap (meaning t.quoted) d ∙ value_means s t here.field.value here.value in
        rw (← k, ← m) w

    pub copied_last : y ≡ None → Puts given out₀ at (others_text x (fields_in x s)) r₁ o₁
    copied_last o = g.still r₁ o₁ (subst (λ (fs : List Field). Puts given out next (others_text x fs) r₁ o₁) (sym (left_last g.left a b j o))
        (rw (others_more x here.field [], others_none x, append-nil (other_text x here.field.key (meaning_of here.field.value))) one))

    module _ {z : Cursor} (o : y ≡ Some z) where
      pub copied_one : Copying x s given out₀ at o₁ r₁ z.at
      copied_one = let l = left_next g.left a b j o in record {
        fs = l.0;
        left = l.2;
        capped = puts_capped w;
        fits = rw (puts_length w) g.fits;
        size = puts_length w ∙ g.size;
        still = λ r' o' w'. g.still r' o' (subst (λ (fs : List Field). Puts given out next (others_text x fs) r' o') (sym l.1)
            (rw (others_more x here.field l.0) (then one w')));
      }

      pub copied_less : length s - z.at < length s - i
      copied_less = left_less g.left a b j o

pub ruleset copies = (copied_all, copied_last, copied_one, copied_less)
