-- The open places of an index: filling one takes one away, wherever the places are tried from. Assumes nothing.
use Prim.Native.Nat.{ℕ, zero, suc, ◌+◌, ◌-◌, ◌≤◌, ◌<◌}
use native.Mathlib.Omega.{arith}
use mathlib.Core.Path.{◌≡◌, refl, sym, ap, ap₂, ◌∙◌}
use mathlib.Core.Bool.{true, false}
use mathlib.Core.List.{List, [], ◌∷◌, ◌++◌, append_assoc}
use lib.Dec.{eqb}
use lib.ListN.{length, take, drop, replicate, take-append-drop}
use borrow.Author.Tests.{ne_eqb, eqb-true}
use Rattle.values.proofs.Tests.{pass, fail, test}
use Rattle.index.specs.Index.{in_turn, fill, placed}
use Rattle.index.proofs.Places.{turn_length, turn_back, turn_forth}

-- how many places are open
unfoldable pub opens : List ℕ → ℕ
opens [] = 0
opens (w ∷ ws) = elim (eqb w 0) [ true ↦ suc (opens ws) | false ↦ opens ws ]

pub opens_append : (xs ys : List ℕ) → opens (xs ++ ys) ≡ opens xs + opens ys
unfolding opens
opens_append [] ys = omega arith
opens_append (x ∷ xs) ys = elim (test (eqb x 0)) [
  | pass e ↦ rw (opens, e) (ap suc (opens_append xs ys) ∙ omega arith)
  | fail e ↦ rw (opens, e) (opens_append xs ys)
]

pub opens_most : (ws : List ℕ) → opens ws ≤ length ws
unfolding opens
opens_most [] = omega arith
opens_most (w ∷ ws) = elim (test (eqb w 0)) [
  | pass e ↦ rw (opens, e) (omega (arith, opens_most ws))
  | fail e ↦ rw (opens, e) (omega (arith, opens_most ws))
]

pub opens_all : (n : ℕ) → opens (replicate n 0) ≡ n
unfolding opens
opens_all zero = refl
opens_all (suc n) = ap suc (opens_all n)

pub opens_turned : (p : ℕ) (ws : List ℕ) → opens (in_turn p ws) ≡ opens ws
unfolding in_turn
opens_turned p ws = opens_append (drop p ws) (take p ws) ∙ omega (arith, opens_append (take p ws) (drop p ws), ap opens (take-append-drop p ws))

-- a list but for one place, and what stands there
pub record Around : Type 0 where
  pub before : List ℕ
  pub behind : List ℕ

abbrev pub with : Around → ℕ → List ℕ
with a w = a.before ++ w ∷ a.behind

-- where a list is cut, this place is in one of the parts
data Cut (p : ℕ) (xs ys : List ℕ) : Type 0 where
  in_front : (a : Around) (rest : List ℕ) → ((w : ℕ) → take p (xs ++ w ∷ ys) ≡ with a w) → ((w : ℕ) → drop p (xs ++ w ∷ ys) ≡ rest) → Cut p xs ys
  at_back : (a : Around) (rest : List ℕ) → ((w : ℕ) → take p (xs ++ w ∷ ys) ≡ rest) → ((w : ℕ) → drop p (xs ++ w ∷ ys) ≡ with a w) → Cut p xs ys

cut : (p : ℕ) (xs ys : List ℕ) → Cut p xs ys
cut zero xs ys = at_back (record { before = xs; behind = ys }) [] (λ w. refl) (λ w. refl)
cut (suc p) [] ys = in_front (record { before = []; behind = take p ys }) (drop p ys) (λ w. refl) (λ w. refl)
cut (suc p) (x ∷ xs) ys = one (cut p xs ys)
  where
    one : Cut p xs ys → Cut (suc p) (x ∷ xs) ys
    one (in_front a rest f g) = in_front (record { before = x ∷ a.before; behind = a.behind }) rest (λ w. ap (x ∷◌) (f w)) g
    one (at_back a rest f g) = at_back a (x ∷ rest) (λ w. ap (x ∷◌) (f w)) g

-- turned, it is one place still
pub record Turned (p : ℕ) (a : Around) : Type 0 where
  pub around : Around
  pub is : (w : ℕ) → in_turn p (with a w) ≡ with around w

pub turned : (p : ℕ) (a : Around) → Turned p a
unfolding in_turn
turned p a = go (cut p a.before a.behind)
  where
    go : Cut p a.before a.behind → Turned p a
    go (in_front b rest f g) = record { around = record { before = rest ++ b.before; behind = b.behind }; is = λ w. ap₂ ◌++◌ (g w) (f w) ∙ sym (append_assoc rest b.before (w ∷ b.behind)) }
    go (at_back b rest f g) = record { around = record { before = b.before; behind = b.behind ++ rest }; is = λ w. ap₂ ◌++◌ (g w) (f w) ∙ append_assoc b.before (w ∷ b.behind) rest }

-- an open place that is filled
pub record Filled (w : ℕ) (ws ws' : List ℕ) : Type 0 where
  pub around : Around
  pub was : ws ≡ with around 0
  pub now : ws' ≡ with around w

pub filled_turned : (p : ℕ) {w : ℕ} {ws ws' : List ℕ} → Filled w ws ws' → Filled w (in_turn p ws) (in_turn p ws')
filled_turned p {w} f =
    let t = turned p f.around in
    record { around = t.around; was = ap (in_turn p) f.was ∙ t.is 0; now = ap (in_turn p) f.now ∙ t.is w }

pub filled_one : (w : ℕ) {ws ws' : List ℕ} → (w ≡ 0 → ⊥) → Filled w ws ws' → opens ws ≡ suc (opens ws')
unfolding opens
filled_one w n f =
    let a = f.around in
    rw (f.was, f.now, opens_append a.before (0 ∷ a.behind), opens_append a.before (w ∷ a.behind)) (rw (opens, ne_eqb w 0 n) (omega arith))

fill_filled : (w : ℕ) (ws : List ℕ) → 0 < opens ws → Filled w ws (fill w ws)
unfolding opens fill
fill_filled w [] h = absurd (omega arith)
fill_filled w (x ∷ xs) h = elim (test (eqb x 0)) [
  | pass e ↦ record { around = record { before = []; behind = xs }; was = ap (◌∷ xs) (eqb-true x 0 e); now = rw (fill, e) }
  | fail e ↦
      let f = fill_filled w xs (rw (opens, e) at h) in
      record { around = record { before = x ∷ f.around.before; behind = f.around.behind }; was = ap (x ∷◌) f.was; now = rw (fill, e) (ap (x ∷◌) f.now) }
]

pub fill_length : (w : ℕ) (ws : List ℕ) → length (fill w ws) ≡ length ws
unfolding fill
fill_length w [] = refl
fill_length w (x ∷ xs) = elim (test (eqb x 0)) [ pass e ↦ rw (fill, e) | fail e ↦ rw (fill, e) (ap suc (fill_length w xs)) ]

pub placed_length : (p w : ℕ) (ws : List ℕ) → length (placed p w ws) ≡ length ws
unfolding placed
placed_length p w ws = turn_length (length ws - p) (fill w (in_turn p ws)) ∙ fill_length w (in_turn p ws) ∙ turn_length p ws

-- tried from p on, the first open place is filled
pub turn_placed : (p w : ℕ) (ws : List ℕ) → p ≤ length ws → in_turn p (placed p w ws) ≡ fill w (in_turn p ws)
unfolding placed
turn_placed p w ws h =
    let l : length (fill w (in_turn p ws)) ≡ length ws = fill_length w (in_turn p ws) ∙ turn_length p ws in
    rw l at (turn_forth p (fill w (in_turn p ws)) (rw l h))

-- an entry that is placed fills one open place
pub placed_filled : (p w : ℕ) (ws : List ℕ) → p ≤ length ws → 0 < opens ws → Filled w ws (placed p w ws)
unfolding placed
placed_filled p w ws h o = rw (turn_back p ws h) at (filled_turned (length ws - p) (fill_filled w (in_turn p ws) (rw (opens_turned p ws) o)))
