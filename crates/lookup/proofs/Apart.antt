-- What the field call by number shows of an accepted header's maps. Assumes nothing.
use Prim.Native.Nat.{ℕ, zero, suc, ◌+◌, ◌-◌}
use native.Mathlib.Omega.{arith}
use mathlib.Core.Path.{◌≡◌, refl, sym, ap, subst, ◌∙◌}
use mathlib.Core.Bool.{Bool, false}
use mathlib.Core.List.{List, [], ◌∷◌, ◌++◌, tail, append_assoc}
use Rattle.std.specs.Prelude.{Option, None, Some}
use lib.ListN.{length, drop, length-append, length-drop, take-append-drop}
use lib.Seq.{drop-drop}
use Rattle.values.specs.Bytes.{Bytes, is, begins, any, before, part}
use Rattle.values.specs.Value.{Value, quoted, bare, is_quoted, text_of, written, in_quotes, quoted_text, read_value}
use Rattle.values.specs.Field.{Field, written_field, read_key, may_bracket, with_value, with_key, read_field}
use Rattle.values.specs.Places.{text_at}
use Rattle.values.proofs.Tests.{pass, fail, test}
use Rattle.values.proofs.Lists.{OnSome, on_some, none_not, some_is, before_stop, from_stop}
use Rattle.values.proofs.Fields.{KeyIn, key_in, text_here}
use Rattle.values.proofs.Places.{ValueIn, value_in_lem, value_by, text_by, text_of_value}
use Rattle.rules.specs.Version.{Version}
use Rattle.rules.specs.Known.{always_map}
use Rattle.rules.specs.Map.{scan, after, is_meta}
use Rattle.rules.specs.Record.{fields}
use Rattle.rules.specs.Entry.{Entry, fields_start}
use Rattle.rules.specs.Shown.{Part, entry_field_part}
use Rattle.rules.specs.Claims.{All, nth, PartOf}
use Rattle.rules.proofs.Firsts.{on_ok}
use Rattle.rules.proofs.Fields.{no_field, a_field, see_field, was_more, was_done, was_wrong, see_after}
use Rattle.rules.proofs.Scans.{fields_read}
use Rattle.rules.proofs.Texts.{Scanned, record_scanned}
use Rattle.entries.specs.declared.form.Form.{Form}
use Rattle.entries.specs.Values.{limits_by}
use Rattle.entries.specs.Tables.{shown_field}
use Rattle.header.specs.Calls.{CallsShow}
use Rattle.lookup.specs.Fields.{value_of, cut_of, parts_at, field_apart}
use Rattle.lookup.specs.Claims.{FieldTold, ShownAs}
use Rattle.lookup.proofs.Fields.{bare_is, quoted_is}

-- A field as it was read

-- its key has no `=`, and its value begins with `"` exactly where it is quoted
pub record Legal (f : Field) : Type 0 where
  pub key : any (is 61) f.key ≡ false
  pub value : begins 34 (written f.value) ≡ is_quoted f.value

abbrev Begun : Value × Bytes → Type 0
Begun p = begins 34 (written p.0) ≡ is_quoted p.0

not_begun : (t r : Bytes) → begins 34 (t ++ r) ≡ false → begins 34 t ≡ false
unfolding begins
not_begun [] r e = refl
not_begun (b ∷ t) r e = e

value_begun : (m : Bool) (bs : Bytes) → OnSome Begun (read_value m bs)
unfolding read_value written begins
value_begun m bs = elim (test (begins 34 bs)) [
  | pass e ↦ rw (read_value, e) (in_quotes_lem (quoted_text false (tail bs)))
  | fail e ↦ unquoted e (read_value m bs) (value_in_lem m bs)
]
  where
    in_quotes_lem : (x : Option (Bytes × Bytes)) → OnSome Begun (in_quotes x)
    in_quotes_lem None = tt
    in_quotes_lem (Some p) = refl

    unquoted : begins 34 bs ≡ false → (x : Option (Value × Bytes)) → OnSome (ValueIn bs) x → OnSome Begun x
    unquoted e None h = tt
    unquoted e (Some (quoted t, r)) h = refl
    unquoted e (Some (bare t, r)) h = not_begun t r (sym (ap (begins 34) h) ∙ e)

field_legal : (m : Bool) (bs : Bytes) → OnSome (λ (p : Field × Bytes). Legal p.0) (read_field m bs)
unfolding read_field
field_legal m bs = with_key_lem (read_key bs) (key_in bs)
  where
    with_value_lem : (p : Bytes × Bytes) → KeyIn bs p → (a : Option (Value × Bytes)) → OnSome Begun a → OnSome (λ (p : Field × Bytes). Legal p.0) (with_value p.0 a)
    with_value_lem p k None h = tt
    with_value_lem p k (Some q) h = record { key = k.plain; value = h }

    with_key_lem : (a : Option (Bytes × Bytes)) → OnSome (KeyIn bs) a → OnSome (λ (p : Field × Bytes). Legal p.0) (with_key m a)
    with_key_lem None h = tt
    with_key_lem (Some p) h = with_value_lem p h (read_value (may_bracket m p.0) p.1) (value_begun (may_bracket m p.0) p.1)

scan_legal : (n : ℕ) (m : Bool) (bs : Bytes) → All Legal (scan n m bs).0
unfolding scan
scan_legal zero m bs = tt
scan_legal (suc n) m bs = elim (see_field (read_field m bs)) [
  | no_field e ↦ rw (scan, e) tt
  | a_field p e ↦ let d = on_some (λ (p : Field × Bytes). Legal p.0) (field_legal m bs) e in
      elim (see_after (after p.1)) [
        | was_more r a ↦ rw (scan, e, a) (d, scan_legal n m r)
        | was_done a ↦ rw (scan, e, a) (d, tt)
        | was_wrong a ↦ rw (scan, e, a) (d, tt)
      ]
]

-- Its cut

module _ (f : Field) (g : Legal f) where
  abbrev w : Bytes
  w = written f.value

  key_cut : before (is 61) (written_field f) ≡ f.key
  unfolding written_field
  key_cut = before_stop (is 61) f.key 61 w g.key refl

  value_cut : value_of (written_field f) ≡ w
  unfolding written_field
  value_cut = ap tail (from_stop (is 61) f.key 61 w g.key refl)

  value_place : length (written_field f) - length w ≡ length f.key + 1
  unfolding written_field
  value_place = let n = length-append f.key (61 ∷ w) in omega arith

-- of a field with this key and value
cut_value : (k : Bytes) (v : Value) (g : Legal (record { key = k; value = v })) → cut_of (written_field (record { key = k; value = v }))
    ≡ record { key_length = length k; start = (text_at (length k + 1) v).start; length = length (text_of v); quoted = is_quoted v }
unfolding written
cut_value k (quoted t) g =
    let f : Field = record { key = k; value = quoted t } in
    let n = length-append t (34 ∷ []) in
    let c = value_cut f g in
    let l : length (34 ∷ t ++ 34 ∷ []) - 2 ≡ length t = omega arith in
    quoted_is (written_field f) (ap (begins 34) c ∙ g.value) ∙ rw (key_cut f g, c, value_place f g, l)
cut_value k (bare t) g =
    let f : Field = record { key = k; value = bare t } in
    let c = value_cut f g in
    bare_is (written_field f) (ap (begins 34) c ∙ g.value) ∙ rw (key_cut f g, c, value_place f g)

-- In the header

text_placed : (h : Bytes) (a k : ℕ) (v : Value) → (part h (text_at (a + k + 1) v).start (text_at (a + k + 1) v).end ≡ text_of v)
    → part h (a + (text_at (k + 1) v).start) (a + (text_at (k + 1) v).start + length (text_of v)) ≡ text_of v
text_placed h a k (quoted t) e = let z : a + (k + 1 + 1) ≡ a + k + 1 + 1 = omega arith in rw z e
text_placed h a k (bare t) e = let z : a + (k + 1) ≡ a + k + 1 = omega arith in rw z e

by_text : (q : Bool) (x : Bytes) (v : Value) → value_by q x ≡ v → x ≡ text_of v
by_text q x v e = sym (text_by q x) ∙ ap text_of e

field_told : (h : Bytes) (f : Field) (g : Legal f) (p : Part) → part h p.0 p.1 ≡ written_field f → FieldTold h f (parts_at p.0 (cut_of (part h p.0 p.1)))
unfolding written_field
field_told h f g p e =
    let a = p.0 in
    let k = f.key in
    let v = f.value in
    let rest = drop (p.1 - a) (drop a h) in
    let d : drop a h ≡ k ++ 61 ∷ (written v ++ rest) = sym (take-append-drop (p.1 - a) (drop a h)) ∙ ap (◌++ rest) e ∙ append_assoc k (61 ∷ written v) rest in
    let there = text_here h a k (61 ∷ (written v ++ rest)) d in
    let n = sym (length-drop a h) ∙ ap length d ∙ length-append k (61 ∷ (written v ++ rest)) in
    let t = text_of_value h (a + length k + 1) v rest (sym (drop-drop 1 (a + length k) h) ∙ ap tail there.1) (omega arith) in
    let x = text_at (a + length k + 1) v in
    rw (e, cut_value k v g) (record {
      key = there.0;
      quoted = refl;
      text = text_placed h a (length k) v (by_text x.quoted (part h x.start x.end) v t.value);
    })

nth_legal : (fs : List Field) (i : ℕ) → All Legal fs → (f : Field) → nth fs i ≡ Some f → Legal f
nth_legal [] i a f e = none_not e
nth_legal (x ∷ fs) zero a f e = subst Legal (some_is e) a.0
nth_legal (x ∷ fs) (suc i) a f e = nth_legal fs i a.1 f e

shown_as_lem : (h : Bytes) (x : Option Field) → ((f : Field) → x ≡ Some f → Legal f) → (y : Option Part) → PartOf h x y → ShownAs h x (field_apart h y)
shown_as_lem h None g None b = tt
shown_as_lem h None g (Some p) b = b
shown_as_lem h (Some f) g None b = b
shown_as_lem h (Some f) g (Some p) b = field_told h f (g f refl) p b.0

-- field i of a map of an accepted header, as the calls show it under n: its key and its value apart
pub field_shown : {form : Form} {h : Bytes} {v : Version} {t : List ℕ} {n : ℕ} {k : Bytes} {fs : List Field} → CallsShow form h v t n (fields k fs)
    → (i : ℕ) → ShownAs h (nth fs i) (field_apart h (shown_field form h t n v i))
field_shown {form} {h} {v} {t} {n} {k} {fs} s i =
    let r = on_ok (Scanned v s.line) (record_scanned v s.line) s.read in
    let legal = subst (All Legal) (fields_read (is_meta v k) (always_map k) s.line (fields_start k) r) (scan_legal (length (drop (fields_start k) s.line)) (is_meta v k) (drop (fields_start k) s.line)) in
    shown_as_lem h (nth fs i) (nth_legal fs i legal) (shown_field form h t n v i)
    (subst (λ (o : Option Entry). PartOf h (nth fs i) (entry_field_part (limits_by form).counted h v i o)) (sym s.found) (s.shows.field i))
