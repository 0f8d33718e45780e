-- One field: its key, and its value as a text or a number. Assumes nothing.
use Rattle.std.specs.Prelude.{Option, Some, None}
use Prim.Native.Nat.{ℕ, zero, suc, ◌-◌}
use mathlib.Core.Path.{◌≡◌, refl, sym, subst, ◌∙◌}
use mathlib.Core.Bool.{Bool, true, false}
use mathlib.Core.List.{[], ◌∷◌, ◌++◌, append_assoc}
use lib.ListN.{take, drop}
use borrow.Author.Tests.{eqb-true}
use Rattle.values.specs.Bytes.{Bytes, ascii, is, begins, any, same}
use Rattle.values.specs.Integer.{is_digit, is_no_digit, u64_read, decimal}
use Rattle.values.specs.Value.{written, is_stop, meaning, value_of, write_value}
use Rattle.values.specs.Field.{written_field}
use Rattle.values.specs.Written.{Puts}
use Rattle.values.specs.declared.sink.Sink.{Sink}
use Rattle.values.specs.declared.string.Text.{Text}
use Rattle.values.proofs.Tests.{pass, fail, test, or_l, and_off}
use Rattle.values.proofs.Lists.{any_less}
use Rattle.values.proofs.Decimals.{decimal_digits, decimal_lacks}
use Rattle.values.proofs.Outputs.{then}
use Rattle.rules.specs.Meaning.{number_or_word}
use Rattle.rules.specs.House.{name_of_tag, write_known}
use Rattle.records.specs.Fields.{meaning_in}
use Rattle.forms.specs.Forms.{quotes, field_by, PutsNumber}

module _ {given out : Bytes} {at : Sink} (key : Bytes) {r : Sink} {o : Bytes} (w : Puts given out at (key ++ 61 ∷ []) r o) where
  keyed_value : (meta : Bool) (t : Bytes) {r' : Sink} {o' : Bytes} → Puts given o r (written (value_of (quotes meta key t) t)) r' o' → Puts given out at (written_field (field_by meta key t)) r' o'
  unfolding written_field
  keyed_value meta t w' = rw (← append_assoc key (61 ∷ []) (written (value_of (quotes meta key t) t))) (then w w')

  pub field_written : (meta : Bool) (t : Bytes) {q : Bool} → q ≡ quotes meta key t → {r' : Sink} {o' : Bytes} → Puts given o r (write_value q t) r' o' → Puts given out at (written_field (field_by meta key t)) r' o'
  field_written meta t a w' = keyed_value meta t (rw a at w')

-- a number's digits need no quotes
begins_lacks : (c : ℕ) (x : Bytes) → any (is c) x ≡ false → begins c x ≡ false
unfolding begins any
begins_lacks c [] h = refl
begins_lacks c (b ∷ x) h = or_l (is c b) (any (is c) x) h

decimal_begins : (c n : ℕ) → is_digit c ≡ false → begins c (decimal n) ≡ false
decimal_begins c n h = begins_lacks c (decimal n) (decimal_lacks c n h)

stop_other : (b : ℕ) → is_stop b ≡ true → is_no_digit b ≡ true
stop_other b e = elim (test (is 44 b)) [
  | pass q ↦ rw (eqb-true b 44 q)
  | fail q ↦ rw (eqb-true b 62 (rw q at e))
]

pub bare_number : (meta : Bool) (key : Bytes) (n : ℕ) → same key (ascii "Description") ≡ false → quotes meta key (decimal n) ≡ false
unfolding quotes
bare_number meta key n e =
    rw (
      quotes,
      e,
      decimal_begins 91 n refl,
      and_off (same key (ascii "Values")) {b = false} refl,
      and_off meta {b = false} refl,
      decimal_begins 34 n refl,
      any_less is_stop is_no_digit stop_other (decimal n) (decimal_digits n),
    )

-- r is what the code read of the text s
module _ (meta : Bool) (key s : Bytes) (q : Bool) {i : Option (ℕ × Bool)} (a : i ≡ u64_read s) {given out : Bytes} {at : Sink} where
  pub number_unread : i ≡ None → {r : Sink} {o : Bytes} → Puts given out at (written_field (field_by meta key (meaning q s))) r o → PutsNumber meta key s q given out at r o
  number_unread e {r} {o} w = record { is = λ d raw. subst (λ (x : Option (ℕ × Bool)). Puts given out at (written_field (field_by meta key (write_known (number_or_word (meaning q s) x)))) r o) (sym (raw ∙ sym a ∙ e)) w }

  pub number_read : {n : ℕ} {p : Bool} → i ≡ Some (n, p) → {r : Sink} {o : Bytes} → Puts given out at (key ++ 61 ∷ []) r o → {r' : Sink} {o' : Bytes} → Puts given o r (decimal n) r' o' → PutsNumber meta key s q given out at r' o'
  unfolding written
  number_read {n} e w {r'} {o'} w' = record {
    is = λ d raw. subst (λ (x : Option (ℕ × Bool)). Puts given out at (written_field (field_by meta key (write_known (number_or_word (meaning q s) x)))) r' o') (sym (raw ∙ sym a ∙ e))
        (keyed_value key w meta (decimal n) (rw (bare_number meta key n d) w'));
  }

-- the ID's key by its tag
module _ (meta : Bool) (s : Bytes) (id : Text) (tag : ℕ) {p : Bytes} (a : p ≡ take (id.end - id.start) (drop id.start s)) {given out : Bytes} {at r : Sink} {o : Bytes} where
  named_by : {key : Bytes} → key ≡ name_of_tag tag → Puts given out at (written_field (field_by meta key (meaning id.quoted p))) r o → Puts given out at (written_field (field_by meta (name_of_tag tag) (meaning_in s id))) r o
  named_by e w = rw (← e, ← a) w

  pub id_plain : tag ≡ 0 → Puts given out at (written_field (field_by meta (ascii "ID") (meaning id.quoted p))) r o → Puts given out at (written_field (field_by meta (name_of_tag tag) (meaning_in s id))) r o
  id_plain e w = named_by (rw e) w

  module _ (z : tag ≡ 0 → ⊥) where
    pub id_child : tag ≡ 1 → Puts given out at (written_field (field_by meta (ascii "Child") (meaning id.quoted p))) r o → Puts given out at (written_field (field_by meta (name_of_tag tag) (meaning_in s id))) r o
    id_child e w = named_by (rw e) w

    pub id_derived : (tag ≡ 1 → ⊥) → Puts given out at (written_field (field_by meta (ascii "Derived") (meaning id.quoted p))) r o → Puts given out at (written_field (field_by meta (name_of_tag tag) (meaning_in s id))) r o
    id_derived n w = named_by (derived tag z n) w
      where
        derived : (t : ℕ) → (t ≡ 0 → ⊥) → (t ≡ 1 → ⊥) → ascii "Derived" ≡ name_of_tag t
        derived zero z n = absurd (z refl)
        derived (suc zero) z n = absurd (n refl)
        derived (suc (suc t)) z n = refl

pub ruleset ids = (id_plain, id_child, id_derived)

pub ruleset numbers = (number_unread, number_read)
