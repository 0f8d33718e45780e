-- The places of an index in turn: how long the walk may be, where a place stands in it, and how it is turned back. Assumes nothing.
use Prim.Native.Nat.{ℕ, suc, ◌+◌, ◌-◌, ◌%◌, ◌≤◌, ◌<◌}
use native.Mathlib.Nat.{mod-lt}
use native.Mathlib.Omega.{arith}
use mathlib.Core.Path.{◌≡◌, sym, ap, ap₂, ◌∙◌}
use mathlib.Core.Bool.{false}
use mathlib.Core.List.{List, [], ◌∷◌, ◌++◌}
use lib.Dec.{eqb, leb}
use lib.ListN.{length, take, drop, get_or, set, length-append, length-take, length-drop, take-append-drop, get_or-append}
use lib.Seq.{take_at, drop_at, get_or-append-add, get_or-drop, get_or-take, set-append_left, take-set-le, take-set-lt, drop-set-lt, drop-set-add}
use borrow.Author.Tests.{eq-eqb, ne_eqb, le-leb, lt-leb, eqb-true, eqb-false}
use Rattle.values.specs.Bytes.{Bytes}
use Rattle.values.specs.Hash.{hash_of}
use Rattle.values.proofs.Tests.{pass, fail, test}
use Rattle.index.specs.Index.{is_indexed, first_place, in_turn, next_place}

-- What answers the needs of the functions of `place`

module _ (k : ℕ) where
  pub kind_low : k < 2 → false ≡ is_indexed k
  kind_low h = rw (lt-leb 2 k h)

  pub kind_not_low : 2 ≤ k → leb k 6 ≡ is_indexed k
  kind_not_low h = rw (le-leb 2 k h)

pub ruleset kinds = (kind_low, kind_not_low)

module _ (places kind : ℕ) (id : Bytes) {x : ℕ} (e : x ≡ hash_of kind id) where
  pub first_is : x % places ≡ first_place places kind id
  unfolding first_place
  first_is = rw e

pub ruleset firsts = (first_is, mod-lt)

module _ (places at : ℕ) where
  pub next_wraps : at + 1 ≡ places → 0 ≡ next_place places at
  next_wraps e = rw (eq-eqb (at + 1) places e, next_place)

  pub next_on : (at + 1 ≡ places → ⊥) → at + 1 ≡ next_place places at
  next_on n = rw (ne_eqb (at + 1) places n, next_place)

  pub next_inside : at < places → (at + 1 ≡ places → ⊥) → at + 1 < places
  next_inside l n = omega (arith, ne_eqb (at + 1) places n, eqb-false (at + 1) places)

pub ruleset nexts = (next_wraps, next_on, next_inside)

-- The places in turn

pub turn_length : (p : ℕ) (ws : List ℕ) → length (in_turn p ws) ≡ length ws
unfolding in_turn
turn_length p ws = length-append (drop p ws) (take p ws) ∙ omega (arith, length-drop p ws, length-take p ws)

pub turn_back : (p : ℕ) (ws : List ℕ) → p ≤ length ws → in_turn (length ws - p) (in_turn p ws) ≡ ws
unfolding in_turn
turn_back p ws h =
    let l = length-drop p ws in
    ap₂ ◌++◌ (drop_at (drop p ws) (take p ws) (length ws - p) l) (take_at (drop p ws) (take p ws) (length ws - p) l) ∙ take-append-drop p ws

pub turn_forth : (p : ℕ) (ws : List ℕ) → p ≤ length ws → in_turn p (in_turn (length ws - p) ws) ≡ ws
turn_forth p ws h =
    let e : length ws - (length ws - p) ≡ p = omega arith in
    rw e at (turn_back (length ws - p) ws (omega arith))

-- the place that is tried after k others, from p on
pub data Tried (places p k at : ℕ) : Type 0 where
  straight : at ≡ p + k → Tried places p k at
  wrapped : at + places ≡ p + k → Tried places p k at

pub record Trying (places p k at : ℕ) : Type 0 where
  pub from : p < places
  pub inside : at < places
  pub few : k ≤ places
  pub tried : Tried places p k at

pub try_first : {places p : ℕ} → p < places → Trying places p 0 p
try_first h = record { from = h; inside = h; few = omega arith; tried = straight (omega arith) }

pub try_next : {places p k at : ℕ} → Trying places p k at → k < places → {at' : ℕ} → at' ≡ next_place places at → at' < places → Trying places p (k + 1) at'
try_next {places} {p} {k} {at} g h {at'} e i = record {
  from = g.from;
  inside = i;
  few = omega arith;
  tried = elim (test (eqb (at + 1) places)) [
    | pass q ↦ wraps g.tried (eqb-true (at + 1) places q) (e ∙ rw (q, next_place))
    | fail q ↦ goes g.tried (e ∙ rw (q, next_place))
  ];
}
  where
    wraps : Tried places p k at → at + 1 ≡ places → at' ≡ 0 → Tried places p (k + 1) at'
    wraps (straight f) l z = wrapped (omega arith)
    wraps (wrapped f) l z = let n = g.from in absurd (omega arith)

    goes : Tried places p k at → at' ≡ at + 1 → Tried places p (k + 1) at'
    goes (straight f) z = straight (omega arith)
    goes (wrapped f) z = wrapped (omega arith)

set_append_add : (xs ys : List ℕ) (i w : ℕ) → set (xs ++ ys) (length xs + i) w ≡ xs ++ set ys i w
set_append_add [] ys i w = let e : 0 + i ≡ i = omega arith in rw e
set_append_add (x ∷ xs) ys i w =
    let e : suc (length xs) + i ≡ suc (length xs + i) = omega arith in
    rw e (ap (x ∷◌) (set_append_add xs ys i w))

module _ (p : ℕ) (ws : List ℕ) {k at : ℕ} (g : Trying (length ws) p k at) (h : k < length ws) where
  pub turn_holds : get_or (in_turn p ws) k 0 ≡ get_or ws at 0
  unfolding in_turn
  turn_holds = go g.tried
    where
      go : Tried (length ws) p k at → get_or (drop p ws ++ take p ws) k 0 ≡ get_or ws at 0
      go (straight e) = let i = g.inside in get_or-append (drop p ws) (take p ws) 0 k (omega (arith, length-drop p ws)) ∙ get_or-drop p ws k 0 ∙ ap (λ (x : ℕ). get_or ws x 0) (sym e)
      go (wrapped e) =
          let f = g.from in
          let z : k ≡ length (drop p ws) + at = omega (arith, length-drop p ws) in
          ap (λ (x : ℕ). get_or (drop p ws ++ take p ws) x 0) z ∙ get_or-append-add (drop p ws) (take p ws) at 0 ∙ get_or-take p ws at 0 (omega arith)

  pub turn_set : (w : ℕ) → set (in_turn p ws) k w ≡ in_turn p (set ws at w)
  unfolding in_turn
  turn_set w = go g.tried
    where
      go : Tried (length ws) p k at → set (drop p ws ++ take p ws) k w ≡ drop p (set ws at w) ++ take p (set ws at w)
      go (straight e) =
          let i = g.inside in
          rw e (set-append_left (drop p ws) (take p ws) k w (omega (arith, length-drop p ws)) ∙ sym (ap₂ ◌++◌ (drop-set-add p ws k w) (take-set-le p ws (p + k) w (omega arith))))
      go (wrapped e) =
          let f = g.from in
          let z : k ≡ length (drop p ws) + at = omega (arith, length-drop p ws) in
          rw z (set_append_add (drop p ws) (take p ws) at w ∙ sym (ap₂ ◌++◌ (drop-set-lt p ws at w (omega arith)) (take-set-lt p ws at w (omega arith))))
