-- What was read stands where the places say: the bridge between the readers on bytes and the code's answers by place. Assumes nothing.
use Prim.Native.Nat.{ℕ, suc, ◌+◌, ◌≤◌, ◌<◌}
use native.Mathlib.Omega.{arith}
use mathlib.Core.Path.{◌≡◌, refl, sym, ap, ◌∙◌}
use mathlib.Core.Bool.{Bool, true, false}
use mathlib.Core.List.{[], ◌∷◌, ◌++◌, tail, append_assoc}
use Rattle.std.specs.Prelude.{Option, None, Some}
use lib.ListN.{length, drop, length-append, length-drop}
use lib.Seq.{drop-drop}
use borrow.Author.Tests.{eqb-true}
use Rattle.values.specs.Bytes.{Bytes, is, begins, any, before, from, part}
use Rattle.values.specs.Value.{Value, quoted, bare, text_of, written, prepend, is_escapable, quoted_text, in_quotes, is_stop, is_bracketed, read_values, read_unquoted, read_value}
use Rattle.values.specs.Field.{Field, written_field, is_key, read_key, with_value, may_bracket, with_key, read_field}
use Rattle.values.specs.Places.{cursor_at, text_at, field_placed, field_at}
use Rattle.values.specs.declared.cursor.Cursor.{Cursor}
use Rattle.values.specs.declared.string.Text.{Text}
use Rattle.values.proofs.Tests.{pass, fail, test, and_r, never}
use Rattle.values.proofs.Lists.{OnSome, on_some, before_from, from_is, some_three, none_not}
use Rattle.values.proofs.Values.{bracketed_is, bracketed_not}
use Rattle.values.proofs.Fields.{KeyIn, key_in, text_here, text_inside, tail_is}

-- a quoted text stands before its closing quote
abbrev pub QuotedIn : Bytes → Bytes × Bytes → Type 0
QuotedIn bs p = bs ≡ p.0 ++ 34 ∷ p.1

put_in : (b : ℕ) (bs : Bytes) (a : Option (Bytes × Bytes)) → OnSome (QuotedIn bs) a → OnSome (QuotedIn (b ∷ bs)) (prepend b a)
put_in b bs None h = tt
put_in b bs (Some p) h = ap (b ∷◌) h

pub quoted_in : (e : Bool) (bs : Bytes) → OnSome (QuotedIn bs) (quoted_text e bs)
unfolding quoted_text
quoted_in e [] = tt
quoted_in true (b ∷ bs) = elim (test (is_escapable b)) [
  | pass w ↦ rw (quoted_text, w) (put_in b bs (quoted_text false bs) (quoted_in false bs))
  | fail w ↦ rw (quoted_text, w) tt
]
quoted_in false (b ∷ bs) = elim (test (is 34 b)) [
  | pass w ↦ rw (quoted_text, w) (rw (eqb-true b 34 w))
  | fail w ↦ rw (quoted_text, w) (put_in b bs (quoted_text (is 92 b) bs) (quoted_in (is 92 b) bs))
]

-- a value stands as it is written
abbrev pub ValueIn : Bytes → Value × Bytes → Type 0
ValueIn bs p = bs ≡ written p.0 ++ p.1

in_quotes_lem : (bs : Bytes) (a : Option (Bytes × Bytes)) → OnSome (QuotedIn bs) a → OnSome (ValueIn (34 ∷ bs)) (in_quotes a)
unfolding written
in_quotes_lem bs None h = tt
in_quotes_lem bs (Some p) h = rw (h, append_assoc)

values_in : (bs : Bytes) → OnSome (ValueIn bs) (read_values bs)
unfolding written
values_in bs = elim (test (is_bracketed bs)) [
  | pass e ↦ rw (bracketed_is bs e) (
      sym (before_from (is 93) bs)
      ∙ ap (before (is 93) bs ++◌) (from_is 93 bs (and_r (begins 91 bs) _ e))
      ∙ sym (append_assoc (before (is 93) bs) (93 ∷ []) (tail (from (is 93) bs))))
  | fail e ↦ rw (bracketed_not bs e) (sym (before_from is_stop bs))
]

unquoted_in : (m : Bool) (bs : Bytes) → OnSome (ValueIn bs) (read_unquoted m bs)
unfolding written
unquoted_in true bs = values_in bs
unquoted_in false bs = sym (before_from is_stop bs)

pub value_in_lem : (m : Bool) (bs : Bytes) → OnSome (ValueIn bs) (read_value m bs)
unfolding read_value
value_in_lem m bs = elim (test (begins 34 bs)) [
  | pass e ↦ rw (read_value, e) (rw (tail_is 34 bs e) (in_quotes_lem (tail bs) (quoted_text false (tail bs)) (quoted_in false (tail bs))))
  | fail e ↦ rw (read_value, e) (unquoted_in m bs)
]

-- a field stands as it is written, and what its key is
pub record FieldIn (m : Bool) (bs : Bytes) (p : Field × Bytes) : Type 0 where
  pub text : bs ≡ written_field p.0 ++ p.1
  pub legal : is_key p.0.key ≡ true
  pub plain : any (is 61) p.0.key ≡ false

pub field_in : (m : Bool) (bs : Bytes) → OnSome (FieldIn m bs) (read_field m bs)
unfolding read_field written_field
field_in m bs = with_key_lem (read_key bs) (key_in bs)
  where
    with_value_lem : (p : Bytes × Bytes) → KeyIn bs p → (a : Option (Value × Bytes)) → OnSome (ValueIn p.1) a → OnSome (FieldIn m bs) (with_value p.0 a)
    with_value_lem p k None h = tt
    with_value_lem p k (Some q) h = record {
      text = k.text ∙ ap (λ (t : Bytes). p.0 ++ 61 ∷ t) h ∙ sym (append_assoc p.0 (61 ∷ written q.0) q.1);
      legal = k.legal;
      plain = k.plain;
    }

    with_key_lem : (a : Option (Bytes × Bytes)) → OnSome (KeyIn bs) a → OnSome (FieldIn m bs) (with_key m a)
    with_key_lem None h = tt
    with_key_lem (Some p) h = with_value_lem p h (read_value (may_bracket m p.0) p.1) (value_in_lem (may_bracket m p.0) p.1)

-- the value whose text stands at a place
abbrev pub value_by : Bool → Bytes → Value
value_by true t = quoted t
value_by false t = bare t

pub text_by : (q : Bool) (t : Bytes) → text_of (value_by q t) ≡ t
text_by true t = refl
text_by false t = refl

abbrev pub value_in : Bytes → Text → Value
value_in s t = value_by t.quoted (part s t.start t.end)

-- the places of a value that stands at j
pub record TextHere (s : Bytes) (j : ℕ) (v : Value) (n : ℕ) : Type 0 where
  pub value : value_in s (text_at j v) ≡ v
  pub begun : j ≤ (text_at j v).start
  pub ordered : (text_at j v).start ≤ (text_at j v).end
  pub ended : (text_at j v).end ≤ n
  pub inside : n ≤ length s

pub text_of_value : (s : Bytes) (j : ℕ) (v : Value) (r : Bytes) → drop j s ≡ written v ++ r → j ≤ length s → TextHere s j v (j + length (written v))
unfolding written
text_of_value s j (quoted t) r e h =
    let f : drop (j + 1) s ≡ t ++ 34 ∷ r = sym (drop-drop 1 j s) ∙ ap tail e ∙ append_assoc t (34 ∷ []) r in
    let n = length-append t (34 ∷ []) in
    let l = sym (length-drop j s) ∙ ap length e ∙ ap suc (length-append (t ++ 34 ∷ []) r) in
    record {
      value = ap quoted (text_here s (j + 1) t (34 ∷ r) f).0;
      begun = omega arith;
      ordered = omega arith;
      ended = omega arith;
      inside = omega arith;
    }
text_of_value s j (bare t) r e h =
    let l = sym (length-drop j s) ∙ ap length e ∙ length-append t r in
    record { value = ap bare (text_here s j t r e).0; begun = omega arith; ordered = omega arith; ended = omega arith; inside = omega arith }

-- a field that the code was told of, and where its parts stand
pub record FieldHere (m : Bool) (s : Bytes) (i e : ℕ) (t : Text) (n : Cursor) : Type 0 where
  pub field : Field
  pub read : read_field m (drop i s) ≡ Some (field, drop n.at s)
  pub equals : e ≡ i + length (field).key
  pub text : t ≡ text_at (i + length (field).key + 1) (field).value
  pub next : n.at ≡ i + length (written_field field)
  pub key : part s i e ≡ (field).key
  pub value : value_in s t ≡ (field).value
  pub keyed : i < e
  pub begun : e < t.start
  pub ordered : t.start ≤ t.end
  pub ended : t.end ≤ n.at
  pub inside : n.at ≤ length s

key_some : (k : Bytes) → is_key k ≡ true → 0 < length k
key_some [] e = never cc
key_some (b ∷ k) e = omega arith

pub field_here : (m : Bool) (s : Bytes) (i : ℕ) {e : ℕ} {t : Text} {n : Cursor} → field_at m s i ≡ Some (e, t, n) → FieldHere m s i e t n
unfolding field_at written_field
field_here m s i {e} {t} {n} q = go (read_field m (drop i s)) refl q
  where
    go : (x : Option (Field × Bytes)) → read_field m (drop i s) ≡ x → field_placed i x ≡ Some (e, t, n) → FieldHere m s i e t n
    go None a f = none_not f
    go (Some p) a f =
        let parts = some_three f in
        let k = p.0.key in
        let v = p.0.value in
        let j = i + length k + 1 in
        let we : i + length k ≡ e = parts.0 in
        let wt : text_at j v ≡ t = parts.1 in
        let wn : cursor_at (i + length (k ++ 61 ∷ written v)) ≡ n = parts.2 in
        let h = on_some (FieldIn m (drop i s)) (field_in m (drop i s)) a in
        let x : drop i s ≡ k ++ 61 ∷ (written v ++ p.1) = h.text ∙ append_assoc k (61 ∷ written v) p.1 in
        let kh = text_here s i k (61 ∷ written v ++ p.1) x in
        let vh = text_of_value s j v p.1 (sym (drop-drop 1 (i + length k) s) ∙ ap tail kh.1) (omega (arith, text_inside s i k 61 (written v ++ p.1) x)) in
        let whole = text_here s i (k ++ 61 ∷ written v) p.1 h.text in
        let size : i + length (k ++ 61 ∷ written v) ≡ j + length (written v) = rw (length-append k (61 ∷ written v)) (omega arith) in
        rw (← we, ← wt, ← wn) (record {
          field = p.0;
          read = a ∙ rw whole.1;
          equals = refl;
          text = refl;
          next = refl;
          key = kh.0;
          value = vh.value;
          keyed = omega (arith, key_some k h.legal);
          begun = omega (arith, vh.begun);
          ordered = vh.ordered;
          ended = rw size vh.ended;
          inside = rw size vh.inside;
        })
