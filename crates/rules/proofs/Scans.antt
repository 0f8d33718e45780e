-- The fields of a line one after the other: their scan, and what is left of it at each field that the code was told of. Assumes nothing.
use Prim.Native.Nat.{ℕ, zero, suc, ◌+◌, ◌-◌, ◌≤◌, ◌<◌}
use native.Mathlib.Omega.{arith}
use mathlib.Core.Path.{◌≡◌, refl, sym, ap, ◌∙◌}
use mathlib.Core.Bool.{Bool, true, not, ◌||◌, ◌&&◌}
use mathlib.Core.List.{List, [], ◌∷◌, tail}
use Rattle.std.specs.Prelude.{None, Some, Option}
use lib.ListN.{length, drop, length-append}
use lib.Seq.{drop-drop}
use borrow.Author.Tests.{eqb-true}
use Rattle.values.specs.Bytes.{Bytes, empty, begins, any, before}
use Rattle.values.specs.Value.{written}
use Rattle.values.specs.Field.{Field, written_field, read_key, read_field}
use Rattle.values.specs.Places.{field_at, separator_at}
use Rattle.values.specs.declared.cursor.Cursor.{Cursor}
use Rattle.values.specs.declared.string.Text.{Text}
use Rattle.values.proofs.Tests.{pass, fail, test, never, and_r}
use Rattle.values.proofs.Lists.{on_some}
use Rattle.values.proofs.Fields.{tail_is, placed_comma, placed_other}
use Rattle.values.proofs.Places.{FieldIn, field_in, FieldHere, field_here}
use Rattle.rules.specs.Map.{more, done, wrong, after, Scan, scan, read_fields, fields_at}
use Rattle.rules.proofs.Fields.{after_in, SeenAfter, was_more, was_done, was_wrong, see_after, no_field, a_field, see_field}

-- The scan

pub scan_none : (fuel : ℕ) (m : Bool) (bs : Bytes) → read_field m bs ≡ None → scan fuel m bs ≡ ([], 9)
unfolding scan
scan_none zero m bs e = refl
scan_none (suc n) m bs e = rw (scan, e)

-- a field that was read has bytes
field_long : (m : Bool) (bs : Bytes) {f : Field} {r : Bytes} → read_field m bs ≡ Some (f, r) → length r < length bs
unfolding written_field
field_long m bs {f} {r} e =
    let t = ap length (on_some (FieldIn m bs) (field_in m bs) e).text ∙ length-append (written_field f) r in
    let n = length-append f.key (61 ∷ written f.value) in
    omega arith

pub after_more : (r : Bytes) {t : Bytes} → after r ≡ more t → r ≡ 44 ∷ t
after_more r e = rw e at (after_in r)

some_fuel : (fuel : ℕ) → 0 < fuel → (n : ℕ) × (fuel ≡ suc n)
some_fuel zero h = absurd (omega arith)
some_fuel (suc n) h = (n, refl)

module _ (m : Bool) (bs : Bytes) {f : Field} {r : Bytes} (e : read_field m bs ≡ Some (f, r)) (fuel : ℕ) (h : length bs ≤ fuel) where
  fuelled : (n : ℕ) × (fuel ≡ suc n)
  fuelled = some_fuel fuel (omega (arith, field_long m bs e))

  pub scan_wrong : after r ≡ wrong → scan fuel m bs ≡ (f ∷ [], 8)
  unfolding scan
  scan_wrong w = let d = fuelled in rw (d.1, scan, e, w)

  pub scan_done : after r ≡ done → scan fuel m bs ≡ (f ∷ [], 0)
  unfolding scan
  scan_done w = let d = fuelled in rw (d.1, scan, e, w)

  pub scan_more : {t : Bytes} → after r ≡ more t → (n : ℕ) × (length t ≤ n) × (scan fuel m bs ≡ (f ∷ (scan n m t).0, (scan n m t).1))
  unfolding scan
  scan_more {t} w = go fuelled
    where
      go : (n : ℕ) × (fuel ≡ suc n) → (n : ℕ) × (length t ≤ n) × (scan fuel m bs ≡ (f ∷ (scan n m t).0, (scan n m t).1))
      go d = let a = field_long m bs e in let c = ap length (after_more r w) in (d.0, omega (arith, d.1), rw (d.1, scan, e, w))

  -- whatever follows, the field comes first
  pub scan_first : (rest : List Field) × ((scan fuel m bs).0 ≡ f ∷ rest)
  scan_first = elim (see_after (after r)) [
    | was_more t w ↦ let x = scan_more w in ((scan x.0 m t).0, ap (λ (y : Scan). y.0) x.2)
    | was_done w ↦ ([], ap (λ (y : Scan). y.0) (scan_done w))
    | was_wrong w ↦ ([], ap (λ (y : Scan). y.0) (scan_wrong w))
  ]

-- What is left

-- fs are the fields from i on
pub record Left (m : Bool) (s : Bytes) (i : ℕ) (fs : List Field) : Type 0 where
  pub fuel : ℕ
  pub enough : length (drop i s) ≤ fuel
  pub are : fs ≡ (scan fuel m (drop i s)).0

pub left_all : (m : Bool) (s : Bytes) (at : ℕ) → Left m s at (fields_at m s at)
left_all m s at = record { fuel = length (drop at s); enough = omega arith; are = refl }

module _ {m : Bool} {s : Bytes} {i : ℕ} {fs : List Field} (g : Left m s i fs) {r : Option (ℕ × Text × Cursor)} (a : r ≡ field_at m s i) where
  pub left_unread : r ≡ None → fs ≡ []
  unfolding field_at
  left_unread e = elim (see_field (read_field m (drop i s))) [
    | no_field f ↦ g.are ∙ ap (λ (x : Scan). x.0) (scan_none g.fuel m (drop i s) f)
    | a_field p f ↦ let z = rw f at (sym a ∙ e) in never cc
  ]

  module _ {e : ℕ} {t : Text} {n : Cursor} (b : r ≡ Some (e, t, n)) where
    pub left_told : FieldHere m s i e t n
    left_told = field_here m s i (sym a ∙ b)

    pub left_first : (rest : List Field) × (fs ≡ left_told.field ∷ rest)
    left_first = let f = scan_first m (drop i s) left_told.read g.fuel g.enough in (f.0, g.are ∙ f.1)

    module _ {x : Option Cursor} (d : x ≡ separator_at s n.at) where
      pub left_last : x ≡ None → fs ≡ left_told.field ∷ []
      unfolding separator_at begins
      left_last o = g.are ∙ go (see_after (after (drop n.at s)))
        where
          go : SeenAfter (after (drop n.at s)) → (scan g.fuel m (drop i s)).0 ≡ left_told.field ∷ []
          go (was_more y w) =
              let q = placed_other n.at (begins 44 (drop n.at s)) (sym d ∙ o) in
              let z = rw (after_more (drop n.at s) w) at q in
              never cc
          go (was_done w) = ap (λ (x : Scan). x.0) (scan_done m (drop i s) left_told.read g.fuel g.enough w)
          go (was_wrong w) = ap (λ (x : Scan). x.0) (scan_wrong m (drop i s) left_told.read g.fuel g.enough w)

      module _ {y : Cursor} (o : x ≡ Some y) where
        comma : (begins 44 (drop n.at s) ≡ true) × (y.at ≡ n.at + 1)
        unfolding separator_at
        comma = let q = placed_comma n.at (begins 44 (drop n.at s)) (sym d ∙ o) in (q.0, sym (ap (λ (c : Cursor). c.at) q.1))

        -- the next stands after the field and its `,`
        pub left_past : y.at ≡ i + length (written_field left_told.field) + 1
        left_past = comma.1 ∙ ap (◌+ 1) left_told.next

        pub left_next : (rest : List Field) × (fs ≡ left_told.field ∷ rest) × Left m s y.at rest
        unfolding after
        left_next =
            let c = comma in
            let p : drop y.at s ≡ tail (drop n.at s) = rw c.1 (sym (drop-drop 1 n.at s)) in
            let w : after (drop n.at s) ≡ more (tail (drop n.at s)) = rw (tail_is 44 (drop n.at s) c.0, after) in
            let k = scan_more m (drop i s) left_told.read g.fuel g.enough w in
            ((scan k.0 m (tail (drop n.at s))).0, g.are ∙ ap (λ (x : Scan). x.0) k.2, record { fuel = k.0; enough = rw p k.1; are = rw p })

        pub left_less : length s - y.at < length s - i
        left_less =
            let c = comma in
            let k = left_told.keyed in
            let u = left_told.begun in
            let v = left_told.ordered in
            let w = left_told.ended in
            let z = left_told.inside in
            omega (arith, c.1)

-- Which fields those are

-- no field begins with `>`, or with nothing
closed_unread : (m : Bool) (bs : Bytes) → empty bs || begins 62 bs ≡ true → read_field m bs ≡ None
unfolding read_field read_key before any begins
closed_unread m [] e = refl
closed_unread m (b ∷ x) e = let f : b ≡ 62 = eqb-true b 62 e in rw f

pub fields_read : (m needed : Bool) (s : Bytes) (at : ℕ) {fs : List Field} → read_fields m needed (drop at s) ≡ (fs, 0) → fields_at m s at ≡ fs
unfolding read_fields
fields_read m needed s at {fs} e = elim (test (not needed && (empty (drop at s) || begins 62 (drop at s)))) [
  | pass q ↦
      let u = closed_unread m (drop at s) (and_r (not needed) _ q) in
      ap (λ (x : Scan). x.0) (scan_none (length (drop at s)) m (drop at s) u) ∙ ap (λ (x : Scan). x.0) (rw (read_fields, q) at e)
  | fail q ↦ ap (λ (x : Scan). x.0) (rw (read_fields, q) at e)
]
