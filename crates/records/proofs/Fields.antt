-- The search for a field by its key. Assumes nothing.
use Prim.Native.Nat.{ℕ, ◌+◌, ◌-◌, ◌^◌, ◌≤◌, ◌<◌}
use native.Mathlib.Omega.{arith}
use mathlib.Core.Path.{◌≡◌, refl, sym, ap, subst, ◌∙◌}
use mathlib.Core.Bool.{Bool, true, false}
use mathlib.Core.List.{List, [], ◌∷◌, ◌++◌}
use Rattle.std.specs.Prelude.{Option, None, Some}
use lib.Dec.{ltb}
use lib.ListN.{length, drop, take, length-append}
use borrow.Author.Tests.{lt-ltb, le-ltb}
use Rattle.values.specs.Bytes.{Bytes, same, part}
use Rattle.values.specs.Integer.{u64_read}
use Rattle.values.specs.Value.{Value, quoted, bare, written, text_of}
use Rattle.values.specs.Field.{Field, written_field}
use Rattle.values.specs.Places.{text_at, field_at, separator_at}
use Rattle.values.specs.declared.cursor.Cursor.{Cursor}
use Rattle.values.specs.declared.string.Text.{Text}
use Rattle.values.proofs.Tests.{pass, fail, test}
use Rattle.values.proofs.Lists.{on_some}
use Rattle.values.proofs.Places.{text_by, FieldHere}
use Rattle.values.proofs.Raws.{Raw, field_raw}
use Rattle.rules.specs.Known.{is_in}
use Rattle.rules.specs.Map.{scan, fields_at, field_keyed}
use Rattle.rules.proofs.Scans.{Left, left_all, left_unread, left_told, left_first, left_last, left_next, left_past, left_less}
use Rattle.rules.proofs.Shows.{value_means}
use Rattle.records.specs.Fields.{text_keyed, FoundIs, FindsField}
use Rattle.records.specs.Maps.{FieldsFrom, keys_of, HasKey}
use Rattle.records.proofs.Walks.{walk_scan}

module _ (key : Bytes) (at : ℕ) (f : Field) (fs : List Field) where
  keyed_here : same f.key key ≡ true → (field_keyed key (f ∷ fs) ≡ Some f) × (text_keyed key at (f ∷ fs) ≡ Some (text_at (at + length f.key + 1) f.value))
  unfolding field_keyed text_keyed
  keyed_here e = (rw (field_keyed, e), rw (text_keyed, e))

  keyed_later : same f.key key ≡ false → (field_keyed key (f ∷ fs) ≡ field_keyed key fs) × (text_keyed key at (f ∷ fs) ≡ text_keyed key (at + length (written_field f) + 1) fs)
  unfolding field_keyed text_keyed
  keyed_later e = (rw (field_keyed, e), rw (text_keyed, e))

-- the field is among those that are left
pub record Seeking (m : Bool) (s : Bytes) (start : ℕ) (key : Bytes) (i : ℕ) : Type 0 where
  pub fs : List Field
  pub left : Left m s i fs
  pub still : field_keyed key (fields_at m s start) ≡ field_keyed key fs
  pub there : text_keyed key start (fields_at m s start) ≡ text_keyed key i fs

pub seek_all : (m : Bool) (s : Bytes) (start : ℕ) (key : Bytes) → Seeking m s start key start
seek_all m s start key = record { fs = fields_at m s start; left = left_all m s start; still = refl; there = refl }

missed : {m : Bool} {s : Bytes} {start : ℕ} {key : Bytes} {i : ℕ} (g : Seeking m s start key i) → g.fs ≡ [] → FindsField m s start key None
unfolding field_keyed text_keyed
missed {i = i} g e = let k = g.still in let t = g.there in record { place = sym (rw e at t); value = rw (rw e at k) tt }

-- a field that the code was told of has its value there
field_found : {m : Bool} {s : Bytes} {i e : ℕ} {t : Text} {n : Cursor} (h : FieldHere m s i e t n) → FoundIs s (Some h.field) (Some t)
field_found {m} {s} {i} {e} {t} h = (
  value_means s t h.field.value h.value,
  on_some (λ (p : Field × Bytes). Raw true (2 ^ 64 - 1) p.0.value) (field_raw true (2 ^ 64 - 1) m (drop i s)) h.read
      ∙ ap u64_read (ap text_of (sym h.value) ∙ text_by t.quoted (part s t.start t.end)),
)

module _ {m : Bool} {s : Bytes} {start : ℕ} {key : Bytes} {i : ℕ} (g : Seeking m s start key i) {r : Option (ℕ × Text × Cursor)} (a : r ≡ field_at m s i) where
  pub seek_unread : r ≡ None → FindsField m s start key None
  seek_unread e = missed g (left_unread g.left a e)

  module _ {e : ℕ} {t : Text} {n : Cursor} (b : r ≡ Some (e, t, n)) {p : Bytes} (c : p ≡ take (e - i) (drop i s)) {q : Bool} (d : q ≡ same p key) where
    abbrev here : FieldHere m s i e t n
    here = left_told g.left a b

    tested : {x : Bool} → q ≡ x → same here.field.key key ≡ x
    tested f = ap (λ (x : Bytes). same x key) (sym here.key ∙ sym c) ∙ sym d ∙ f

    pub seek_found : q ≡ true → FindsField m s start key (Some t)
    seek_found f =
        let l = left_first g.left a b in
        let k = keyed_here key i here.field l.0 (tested f) in
        let w : field_keyed key (fields_at m s start) ≡ Some here.field = g.still ∙ ap (field_keyed key) l.1 ∙ k.0 in
        record {
          place = sym (g.there ∙ ap (text_keyed key i) l.1 ∙ k.1 ∙ ap Some (sym here.text));
          value = subst (λ (x : Option Field). FoundIs s x (Some t)) (sym w) (field_found here);
        }

    module _ (f : q ≡ false) {x : Option Cursor} (j : x ≡ separator_at s n.at) where
      pub seek_last : x ≡ None → FindsField m s start key None
      unfolding field_keyed text_keyed
      seek_last o =
          let l = left_last g.left a b j o in
          let k = keyed_later key i here.field [] (tested f) in
          let w : field_keyed key (fields_at m s start) ≡ None = g.still ∙ ap (field_keyed key) l ∙ k.0 in
          record { place = sym (g.there ∙ ap (text_keyed key i) l ∙ k.1); value = rw w tt }

      module _ {y : Cursor} (o : x ≡ Some y) where
        pub seek_next : Seeking m s start key y.at
        seek_next =
            let l = left_next g.left a b j o in
            let k = keyed_later key i here.field l.0 (tested f) in
            record {
              fs = l.0;
              left = l.2;
              still = g.still ∙ ap (field_keyed key) l.1 ∙ k.0;
              there = g.there ∙ ap (text_keyed key i) l.1 ∙ k.1 ∙ ap (λ (j : ℕ). text_keyed key j l.0) (sym (left_past g.left a b j o));
            }

        pub seek_less : length s - y.at < length s - i
        seek_less = left_less g.left a b j o

pub ruleset seeks = (seek_all, seek_unread, seek_found, seek_last, seek_next, seek_less)

-- Whether a field stands before a place

-- a text that was found, and whether it begins before a place
abbrev found_before : ℕ → Option Text → Bool
found_before upto None = false
found_before upto (Some t) = ltb t.start upto

text_start : (at : ℕ) (x : Value) → (at ≤ (text_at at x).start) × ((text_at at x).start ≤ at + length (written x))
unfolding written
text_start at (quoted t) = (omega arith, omega (arith, length-append t (34 ∷ [])))
text_start at (bare t) = (omega arith, omega arith)

-- no field that stands at a place begins before it
not_before : (key : Bytes) (at : ℕ) (fs : List Field) (upto : ℕ) → upto ≤ at → found_before upto (text_keyed key at fs) ≡ false
unfolding text_keyed
not_before key at [] upto h = refl
not_before key at (f ∷ fs) upto h = elim (test (same f.key key)) [
  | pass e ↦ let t = (text_start (at + length f.key + 1) f.value).0 in rw (text_keyed, e) (le-ltb (text_at (at + length f.key + 1) f.value).start upto (omega arith))
  | fail e ↦ rw (text_keyed, e) (not_before key (at + length (written_field f) + 1) fs upto (omega arith))
]

fields_order : (m : Bool) (s : Bytes) (at : ℕ) (fs : List Field) (upto : ℕ) → FieldsFrom m s at fs upto → at ≤ upto
fields_order m s at [] upto e = omega arith
fields_order m s at (f ∷ fs) upto e = let h = fields_order m s (at + length (written_field f) + 1) fs upto e.1 in omega arith

-- a field begins before a place exactly where it is one of those that stand there
found_before_lem : (m : Bool) (s key : Bytes) (at : ℕ) (before rest : List Field) (upto : ℕ) → FieldsFrom m s at before upto → found_before upto (text_keyed key at (before ++ rest)) ≡ is_in key (keys_of before)
unfolding text_keyed is_in written_field
found_before_lem m s key at [] rest upto w = not_before key at rest upto (omega (arith, w))
found_before_lem m s key at (f ∷ fs) rest upto w = elim (test (same f.key key)) [
  | pass e ↦
      let t = (text_start (at + length f.key + 1) f.value).1 in
      let o = fields_order m s (at + length (written_field f) + 1) fs upto w.1 in
      let l = length-append f.key (61 ∷ written f.value) in
      rw (text_keyed, e) (lt-ltb (text_at (at + length f.key + 1) f.value).start upto (omega arith))
  | fail e ↦ rw (text_keyed, e) (found_before_lem m s key (at + length (written_field f) + 1) fs rest upto w.1)
]

module _ {m : Bool} {s : Bytes} {start : ℕ} {key : Bytes} {r : Option Text} (a : FindsField m s start key r) (upto : ℕ) where
  found_key : {x : Option Text} → r ≡ x → HasKey m s start upto key (found_before upto x)
  found_key {x} e = record {
    among = λ fs w.
        let l = walk_scan m s start fs upto (length (drop start s)) w (omega arith) in
        ap (found_before upto) (sym e ∙ a.place ∙ ap (λ (gs : List Field). text_keyed key start gs) (ap (λ (x : List Field × ℕ). x.0) l.2))
        ∙ found_before_lem m s key start fs (scan l.0 m (drop upto s)).0 upto w;
  }

  pub key_missing : r ≡ None → HasKey m s start upto key false
  key_missing e = found_key e

  pub key_placed_lem : {t : Text} → r ≡ Some t → HasKey m s start upto key (ltb t.start upto)
  key_placed_lem e = found_key e

pub ruleset key_places = (key_missing, key_placed_lem)
