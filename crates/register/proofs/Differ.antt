-- The comparison of two registers, a turn of its loop on plain values. Assumes nothing.
use Prim.Native.Nat.{ℕ, suc, ◌+◌, ◌≤◌, ◌<◌}
use native.Mathlib.Omega.{arith}
use mathlib.Core.Path.{◌≡◌, refl, sym, ap, ap₂, ◌∙◌}
use mathlib.Core.List.{List, [], ◌∷◌, map}
use lib.ListN.{length, get_or, set, length-set, drop, replicate, length-replicate}
use lib.Seq.{sets}
use borrow.Author.Tests.{eq-eqb, ne_eqb}
use Rattle.values.proofs.Lists.{here, drop_past}
use Rattle.register.specs.Compare.{Difference, differing}
use Rattle.register.specs.Wells.{filled}
use Rattle.register.specs.Compared.{listed_in_arrays}
use Rattle.register.specs.declared.compare.Differences.{Differences}

-- what is left to compare from number w on
abbrev left : List ℕ → List ℕ → ℕ → List Difference
left old new w = differing (w + 1) (drop w old) (drop w new)

-- a list whose first `count` numbers stand, and the rest to come
pub record Part (f : Difference → ℕ) (old new xs : List ℕ) (count w : ℕ) : Type 0 where
  pub size : length xs ≡ 40
  pub whole : sets xs count (map f (left old new w)) ≡ filled (map f (differing 1 old new))

pub record Compares (old new wells before after : List ℕ) (count w : ℕ) : Type 0 where
  pub long : length old ≡ 40
  pub long_too : length new ≡ 40
  pub within : w ≤ 40
  pub few : count ≤ w
  pub total : count + length (left old new w) ≡ length (differing 1 old new)
  pub wells_are : Part (λ d. d.well) old new wells count w
  pub old_are : Part (λ d. d.old) old new before count w
  pub new_are : Part (λ d. d.new) old new after count w

part_start : (f : Difference → ℕ) (old new : List ℕ) → Part f old new (replicate 40 0) 0 0
part_start f old new = record { size = length-replicate {0} {A = ℕ} 40 0; whole = refl }

pub compare_start : {old new : List ℕ} → length old ≡ 40 → length new ≡ 40 → Compares old new (replicate 40 0) (replicate 40 0) (replicate 40 0) 0 0
compare_start {old} {new} l m = record {
  long = l;
  long_too = m;
  within = omega arith;
  few = omega arith;
  total = omega arith;
  wells_are = part_start (λ d. d.well) old new;
  old_are = part_start (λ d. d.old) old new;
  new_are = part_start (λ d. d.new) old new;
}

module _ {old new wells before after : List ℕ} {count w : ℕ} (g : Compares old new wells before after count w) where
  module _ (l : w < 40) where
    abbrev a : ℕ
    a = get_or old w 0

    abbrev b : ℕ
    b = get_or new w 0

    pairs : left old new w ≡ differing (w + 1) (a ∷ drop (w + 1) old) (b ∷ drop (w + 1) new)
    pairs = ap₂ (λ (x y : List ℕ). differing (w + 1) x y) (here old w (omega (arith, g.long))) (here new w (omega (arith, g.long_too)))

    one_more : (a ≡ b → ⊥) → left old new w ≡ record { well = w + 1; old = a; new = b } ∷ left old new (w + 1)
    unfolding differing
    one_more n = pairs ∙ rw (ne_eqb a b n, differing)

    no_more : a ≡ b → left old new w ≡ left old new (w + 1)
    unfolding differing
    no_more e = pairs ∙ rw (eq-eqb a b e, differing)

    part_more : (f : Difference → ℕ) (xs : List ℕ) → (a ≡ b → ⊥) → Part f old new xs count w → Part f old new (set xs count (f (record { well = w + 1; old = a; new = b }))) (count + 1) (w + 1)
    part_more f xs n p =
        let i : count + 1 ≡ suc count = omega arith in
        record {
          size = length-set xs count _ ∙ p.size;
          whole = ap (λ (k : ℕ). sets (set xs count (f (record { well = w + 1; old = a; new = b }))) k (map f (left old new (w + 1)))) i ∙ sym (ap (λ (ds : List Difference). sets xs count (map f ds)) (one_more n)) ∙ p.whole;
        }

    part_same : (f : Difference → ℕ) (xs : List ℕ) → a ≡ b → Part f old new xs count w → Part f old new xs count (w + 1)
    part_same f xs e p = record { size = p.size; whole = sym (ap (λ (ds : List Difference). sets xs count (map f ds)) (no_more e)) ∙ p.whole }

    pub compare_more : (a ≡ b → ⊥) → Compares old new (set wells count (w + 1)) (set before count a) (set after count b) (count + 1) (w + 1)
    compare_more n = record {
      long = g.long;
      long_too = g.long_too;
      within = omega arith;
      few = omega (arith, g.few);
      total = let t = sym (ap length (one_more n)) in omega (arith, g.total, t);
      wells_are = part_more (λ d. d.well) wells n g.wells_are;
      old_are = part_more (λ d. d.old) before n g.old_are;
      new_are = part_more (λ d. d.new) after n g.new_are;
    }

    pub compare_same : a ≡ b → Compares old new wells before after count (w + 1)
    compare_same e = record {
      long = g.long;
      long_too = g.long_too;
      within = omega arith;
      few = omega (arith, g.few);
      total = let t = sym (ap length (no_more e)) in omega (arith, g.total, t);
      wells_are = part_same (λ d. d.well) wells e g.wells_are;
      old_are = part_same (λ d. d.old) before e g.old_are;
      new_are = part_same (λ d. d.new) after e g.new_are;
    }

  pub compare_end : 40 ≤ w → ◌≡◌ {A = Differences} (record { count = count; wells = wells; old = before; new = after }) (listed_in_arrays (differing 1 old new))
  unfolding differing
  compare_end l =
      let n : left old new w ≡ [] = rw (drop_past old w (omega (arith, g.long))) in
      let c : count ≡ length (differing 1 old new) = let t = ap length n in omega (arith, g.total, t) in
      let x : wells ≡ filled (map (λ (d : Difference). d.well) (differing 1 old new)) = rw n at g.wells_are.whole in
      let y : before ≡ filled (map (λ (d : Difference). d.old) (differing 1 old new)) = rw n at g.old_are.whole in
      let z : after ≡ filled (map (λ (d : Difference). d.new) (differing 1 old new)) = rw n at g.new_are.whole in
      rw (c, x, y, z)

pub ruleset compares = (compare_start, compare_more, compare_same, compare_end)
