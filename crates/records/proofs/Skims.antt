-- A field that is split without a branch on the bytes of its name. Assumes nothing.
use Rattle.std.specs.Prelude.{Option, Some, None}
use Prim.Native.Nat.{ℕ, zero, suc, ◌/◌, ◌%◌, ◌^◌, ◌≤◌, ◌<◌}
use native.Mathlib.Omega.{arith}
use mathlib.Core.Path.{◌≡◌, refl, sym, ◌∙◌}
use mathlib.Core.Bool.{Bool, true, false, not, ◌&&◌}
use lib.Dec.{eqb, ltb}
use lib.ListN.{drop}
use borrow.Author.Tests.{eqb-true, eqb-false, ltb-true, ltb-false, ne_eqb, le-ltb}
use Rattle.values.specs.Bytes.{Bytes, part}
use Rattle.values.specs.Field.{ends_key}
use Rattle.values.specs.Places.{byte_at, value_placed, key_at, field_at}
use Rattle.values.specs.declared.cursor.Cursor.{Cursor}
use Rattle.values.specs.Value.{read_bare}
use Rattle.values.specs.declared.string.Text.{Text}
use Rattle.values.proofs.Tests.{pass, fail, test, and_l, and_r, not_true}
use Rattle.values.proofs.Scans.{last_key_byte}
use Rattle.records.specs.Names.{ReadsBare}
use Rattle.values.proofs.Values.{value_raw}
use Rattle.values.proofs.Fields.{no_bracket, field_keyless, field_whole}

-- what answers the needs of `ends_name`: below 64 by trial, and no byte from there on ends a name

abbrev name_ends : ℕ
name_ends = 8070468141613842432

abbrev told : ℕ → Bool
told b = ltb (b / 64) (name_ends / 2 ^ (b % 64) % 2)

abbrev alike : Bool → Bool → Bool
alike true q = q
alike false q = not q

alike_is : (p q : Bool) → alike p q ≡ true → p ≡ q
alike_is true q e = sym e
alike_is false q e = sym (not_true q e)

abbrev all_below : (ℕ → Bool) → ℕ → Bool
all_below t zero = true
all_below t (suc n) = t n && all_below t n

each_below : (t : ℕ → Bool) (n : ℕ) → all_below t n ≡ true → (b : ℕ) → b < n → t b ≡ true
each_below t zero e b l = absurd (omega arith)
each_below t (suc n) e b l = elim (test (eqb b n)) [
  | pass f ↦ rw (eqb-true b n f) (and_l (t n) (all_below t n) e)
  | fail f ↦ each_below t n (and_r (t n) (all_below t n) e) b (omega (arith, eqb-false b n f))
]

above : (b x : ℕ) → 64 ≤ b → x % 2 ≤ b / 64
above b x h = omega arith

pub name_ends_lem : (b : ℕ) → ltb (b / 64) (8070468141613842432 / 2 ^ (b % 64) % 2) ≡ ends_key b
name_ends_lem b = elim (test (ltb b 64)) [
  | pass l ↦ alike_is (told b) (ends_key b) (each_below (λ (i : ℕ). alike (told i) (ends_key i)) 64 refl b (ltb-true b 64 l))
  | fail h ↦
      let k = ltb-false b 64 h in
      le-ltb (b / 64) (name_ends / 2 ^ (b % 64) % 2) (above b (name_ends / 2 ^ (b % 64)) k)
      ∙ sym (ne_eqb b 34 (λ e. omega arith))
      ∙ last_key_byte b (λ e. omega arith) (λ e. omega arith) (λ e. omega arith) (λ e. omega arith)
]

-- what answers the needs of `parse_bare`
pub bare_none : (s : Bytes) (i : ℕ) → ReadsBare s i None
bare_none s i = record { is = λ e. cc }

pub bare_is : (s : Bytes) (i : ℕ) {r : Option (ℕ × Cursor)} → r ≡ byte_at s i → {b : ℕ} {c : Cursor} → r ≡ Some (b, c) → (b ≡ 34 → ⊥) → {v : Option (Text × Cursor)} → v ≡ value_placed i (read_bare (drop i s)) → ReadsBare s i v
bare_is s i a e ne f = record { is = λ g. value_raw false s i a e ne refl f }

pub ruleset bares = (bare_none, bare_is)

-- what answers the needs of `split`
module _ (m : Bool) (s : Bytes) (i : ℕ) {r : Option (ℕ × Cursor)} (a : r ≡ key_at s i) {e : ℕ} {c : Cursor} (b : r ≡ Some (e, c)) (no : m ≡ false) {v : Option (Text × Cursor)} (f : ReadsBare s c.at v) where
  pub skim_whole : {t : Text} {n : Cursor} → v ≡ Some (t, n) → Some (e, t, n) ≡ field_at m s i
  skim_whole g = field_whole m s i a b (no_bracket m (part s i e) (rw no)) (f.is g) g

pub ruleset skims = (field_keyless, skim_whole)
