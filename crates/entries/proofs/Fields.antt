-- The fields of a line, one after the other: a turn of `nth_field`'s loop. Assumes nothing.
use Prim.Native.Nat.{ℕ, zero, suc, ◌+◌, ◌-◌, ◌≤◌, ◌<◌}
use native.Mathlib.Omega.{arith}
use mathlib.Core.Path.{◌≡◌, refl, sym, ap, ◌∙◌}
use mathlib.Core.Bool.{Bool}
use mathlib.Core.List.{List, [], ◌∷◌}
use Rattle.std.specs.Prelude.{Option, None, Some}
use lib.ListN.{length, drop}
use Rattle.values.specs.Bytes.{Bytes}
use Rattle.values.specs.Field.{Field, written_field}
use Rattle.values.specs.Places.{field_at, separator_at}
use Rattle.values.specs.declared.cursor.Cursor.{Cursor}
use Rattle.values.specs.declared.string.Text.{Text}
use Rattle.values.proofs.Places.{FieldHere}
use Rattle.rules.specs.Map.{read_fields, fields_at}
use Rattle.rules.specs.Shown.{Part as RulePart, nth_field_part}
use Rattle.rules.proofs.Scans.{Left, left_all, left_unread, left_told, left_first, left_last, left_past, left_next, fields_read}
use Rattle.rules.proofs.Shows.{shifted, shift_part}
use Rattle.entries.specs.Shown.{answered, or_refused, shown_as, Inside, moved_by}
use Rattle.entries.proofs.Calls.{refused_inside, answer_is}

-- The turns of the loop

-- k of the fields were stepped over, the rest stand from i on
pub record Stepping (m : Bool) (s : Bytes) (at n i k : ℕ) : Type 0 where
  pub fs : List Field
  pub ahead : Left m s i fs
  pub still : nth_field_part at (fields_at m s at) n ≡ nth_field_part i fs (n - k)

pub step_all : (m : Bool) (s : Bytes) (at n : ℕ) → Stepping m s at n at 0
step_all m s at n = record { fs = fields_at m s at; ahead = left_all m s at; still = let z : n - 0 ≡ n = omega arith in rw z }

part_none : (i : ℕ) (left : ℕ) → nth_field_part i [] left ≡ None
unfolding nth_field_part
part_none i left = refl

part_first : (i : ℕ) (f : Field) (fs : List Field) (left : ℕ) → left ≡ 0 → nth_field_part i (f ∷ fs) left ≡ Some (i, i + length (written_field f))
unfolding nth_field_part
part_first i f fs zero e = refl
part_first i f fs (suc left) e = absurd (omega arith)

part_later : (i : ℕ) (f : Field) (fs : List Field) (left : ℕ) → (left ≡ 0 → ⊥) → nth_field_part i (f ∷ fs) left ≡ nth_field_part (i + length (written_field f) + 1) fs (left - 1)
unfolding nth_field_part
part_later i f fs zero n = absurd (n refl)
part_later i f fs (suc left) n = let e : suc left - 1 ≡ left = omega arith in rw e

module _ {m : Bool} {s : Bytes} {at n i k : ℕ} (g : Stepping m s at n i k) {r : Option (ℕ × Text × Cursor)} (a : r ≡ field_at m s i) where
  pub step_unread : r ≡ None → answered None ≡ or_refused (nth_field_part at (fields_at m s at) n)
  step_unread e = rw (g.still, left_unread g.ahead a e, part_none i (n - k))

  module _ {e : ℕ} {t : Text} {x : Cursor} (b : r ≡ Some (e, t, x)) where
    abbrev here : FieldHere m s i e t x
    here = left_told g.ahead a b

    pub step_found : n ≤ k → answered (Some (i, x.at)) ≡ or_refused (nth_field_part at (fields_at m s at) n)
    step_found l =
        let f = left_first g.ahead a b in
        let z : n - k ≡ 0 = omega arith in
        ap (λ (j : ℕ). answered (Some (i, j))) here.next ∙ sym (ap or_refused (g.still ∙ ap (λ (fs : List Field). nth_field_part i fs (n - k)) f.1 ∙ part_first i here.field f.0 (n - k) z))

    pub found_inside : Inside (length s) (Some (i, x.at))
    found_inside =
        let u = here.keyed in
        let v = here.begun in
        let w = here.ordered in
        let y = here.ended in
        (omega arith, here.inside)

    module _ (l : k < n) {c : Option Cursor} (d : c ≡ separator_at s x.at) where
      some_left : n - k ≡ 0 → ⊥
      some_left z = omega arith

      pub step_last : c ≡ None → answered None ≡ or_refused (nth_field_part at (fields_at m s at) n)
      step_last o = rw (g.still, left_last g.ahead a b d o, part_later i here.field [] (n - k) some_left, part_none (i + length (written_field here.field) + 1) (n - k - 1))

      pub step_next : {y : Cursor} → c ≡ Some y → Stepping m s at n y.at (k + 1)
      step_next {y} o = let p = left_next g.ahead a b d o in let z : n - k - 1 ≡ n - (k + 1) = omega arith in record {
        fs = p.0;
        ahead = p.2;
        still = g.still ∙ ap (λ (fs : List Field). nth_field_part i fs (n - k)) p.1
            ∙ part_later i here.field p.0 (n - k) some_left
            ∙ ap (λ (j : ℕ). nth_field_part j p.0 (n - k - 1)) (sym (left_past g.ahead a b d o))
            ∙ ap (nth_field_part y.at p.0) z;
      }

pub ruleset steps = (step_all, step_unread, step_found, step_last, step_next, found_inside, refused_inside)

-- A field's part in the line, and in a header in which the line stands at `start`
pub moved_part : (start at : ℕ) (fs : List Field) (n : ℕ) → shown_as (nth_field_part (start + at) fs n) ≡ moved_by start (shown_as (nth_field_part at fs n))
moved_part start at fs n = ap shown_as (shift_part start at fs n) ∙ go (nth_field_part at fs n)
  where
    go : (o : Option RulePart) → shown_as (shifted start o) ≡ moved_by start (shown_as o)
    go None = refl
    go (Some p) = refl

-- what a caller of `nth_field` learns of its answer r
pub nth_read : (m : Bool) (s : Bytes) (at n : ℕ) {r : Option (ℕ × ℕ)} → answered r ≡ or_refused (nth_field_part at (fields_at m s at) n)
    → (needed : Bool) {fs : List Field} → read_fields m needed (drop at s) ≡ (fs, 0) → r ≡ shown_as (nth_field_part at fs n)
nth_read m s at n {r} a needed e =
    answer_is r (nth_field_part at (fields_at m s at) n) a ∙ ap (λ (x : List Field). shown_as (nth_field_part at x n)) (fields_read m needed s at e)
