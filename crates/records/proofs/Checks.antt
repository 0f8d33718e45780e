-- 11 to 13: what the rules ask of a field's value is what the code checks of its bytes. Assumes nothing.
use Prim.Native.Nat.{◌^◌, ◌-◌, ℕ}
use mathlib.Core.Path.{◌≡◌, refl, ap, ◌∙◌}
use mathlib.Core.Bool.{Bool, true, ◌||◌}
use mathlib.Core.List.{List}
use Rattle.std.specs.Prelude.{Option, None, Some}
use Rattle.values.specs.Bytes.{Bytes}
use Rattle.values.specs.Integer.{u64_read}
use Rattle.values.specs.Value.{Value, is_quoted, text_of, meaning_of}
use Rattle.values.proofs.Tests.{pass, fail, test}
use Rattle.values.proofs.Raws.{Raw}
use Rattle.rules.specs.Answer.{unless}
use Rattle.rules.specs.Version.{Version}
use Rattle.rules.specs.Known.{Kind, Reads, KnownField, any_text, a_number, a_type, an_integer, is_in, letters, count_or, letter_in, read_number}
use Rattle.rules.specs.Map.{is_some, is_value, misread, value_refusal}
use Rattle.rules.specs.Spelling.{is_odd, odd_read, odd_value}
use Rattle.records.specs.Maps.{misread_raw, raw_refusal}

-- a Number is a count or one of the letters
number_some : (ls : List Bytes) (t : Bytes) (r : Option (ℕ × Bool)) → is_some (count_or (letter_in ls t) r) ≡ (is_value r || is_in t ls)
number_some ls t (Some (n, p)) = refl
number_some ls t None = elim (test (is_in t ls)) [ pass e ↦ rw (letter_in, e) | fail e ↦ rw (letter_in, e) ]

module _ (v : Version) (kind : Kind) (value : Value) (raw : Raw true (2 ^ 64 - 1) value) where
  read_checked : (r : Reads) → misread v kind (meaning_of value) r ≡ misread_raw v kind (text_of value) (is_quoted value) r
  unfolding read_number
  read_checked any_text = refl
  read_checked a_number = ap (λ (b : Bool). unless b 11) (
      number_some (letters v kind) (meaning_of value) (u64_read (meaning_of value))
      ∙ ap (λ (i : Option (ℕ × Bool)). is_value i || is_in (meaning_of value) (letters v kind)) raw)
  read_checked a_type = refl
  read_checked an_integer = ap (λ (i : Option (ℕ × Bool)). unless (is_value i) 13) raw

  read_spelled : (r : Reads) → odd_read (meaning_of value) r ≡ odd_read (text_of value) r
  read_spelled any_text = refl
  read_spelled a_number = ap is_odd raw
  read_spelled a_type = refl
  read_spelled an_integer = ap is_odd raw

  pub value_spelled : (o : Option KnownField) → odd_value (meaning_of value) o ≡ odd_value (text_of value) o
  value_spelled None = refl
  value_spelled (Some r) = read_spelled r.reads

  pub value_checked : (o : Option KnownField) → value_refusal v kind (meaning_of value) o ≡ raw_refusal v kind (text_of value) (is_quoted value) o
  value_checked None = refl
  value_checked (Some r) = read_checked r.reads
