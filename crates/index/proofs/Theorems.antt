-- Document 02, §7: in an index built from its table a search finds the first entry with that kind and ID, and nothing where there is none; no more places are looked at than there are. Assumes nothing.
use Prim.Native.Nat.{ℕ, zero, suc, ◌+◌, ◌-◌, ◌≤◌, ◌<◌}
use native.Mathlib.Nat.{mod-lt}
use native.Mathlib.Omega.{arith}
use mathlib.Core.Path.{◌≡◌, refl, sym, ap, ap₂, ◌∙◌}
use mathlib.Core.Bool.{Bool, true, false}
use mathlib.Core.List.{List, [], ◌∷◌, ◌++◌}
use Rattle.std.specs.Prelude.{Option, None, Some, Ok}
use lib.Dec.{eqb, leb, ltb}
use lib.ListN.{length, replicate, length-replicate}
use borrow.Author.Tests.{eq-eqb, ne_eqb, eqb-true, eqb-false, leb-true, ltb-true}
use Rattle.values.specs.Bytes.{Bytes, same}
use Rattle.values.specs.Hash.{hash_of}
use Rattle.values.proofs.Tests.{pass, fail, test, and_l, and_r, both, never}
use Rattle.values.proofs.Lists.{some_is}
use Rattle.values.proofs.Sames.{same_sound, same_self}
use Rattle.rules.specs.Entry.{Entry}
use Rattle.rules.specs.Shown.{id_meaning}
use Rattle.entries.specs.declared.form.Form.{Form}
use Rattle.entries.specs.Tables.{room, entry_in, words_clear, entry_at}
use Rattle.entries.proofs.Calls.{found_at}
use Rattle.index.specs.Index.{is_indexed, first_place, in_turn, has_name, is_named, searched, past, walk, find_in, fill, placed, entry_placed, all_placed, indexed_from, indexed_in, all_fit, enough, build_answer, index_by, built_index, first_from, first_named}
use Rattle.index.proofs.Places.{turn_length}
use Rattle.index.proofs.Holes.{with, opens, opens_most, opens_all, opens_turned, Filled, filled_turned, filled_one, placed_length, turn_placed, placed_filled}
use Rattle.index.proofs.Building.{numbers_of}

-- The count

walk_most : (hit : ℕ → Bool) (ws : List ℕ) → (walk hit ws).looked ≤ length ws
unfolding walk
walk_most hit [] = omega arith
walk_most hit (w ∷ ws) = elim (test (eqb w 0)) [
  | pass e ↦ rw (walk, e) (omega arith)
  | fail e ↦ elim (test (hit (w - 1))) [
    | pass f ↦ rw (walk, e, f) (omega arith)
    | fail f ↦ rw (walk, e, f) (omega (arith, walk_most hit ws))
  ]
]

-- whatever the index and the table hold
pub looked_most : (form : Form) (h : Bytes) (t index : List ℕ) (kind : ℕ) (id : Bytes) → (find_in form h t index kind id).looked ≤ length index
unfolding find_in
looked_most form h t index kind id = elim (test (is_indexed kind)) [
  | pass e ↦ rw (find_in, e) (rw (turn_length (first_place (length index) kind id) index) at (walk_most (is_named form h t kind id) (in_turn (first_place (length index) kind id) index)))
  | fail e ↦ rw (find_in, e) (omega arith)
]

-- What a walk finds where it stops at no 0

-- the first hit of all places
unfoldable scan : (ℕ → Bool) → List ℕ → Option ℕ
scan hit [] = None
scan hit (w ∷ ws) = elim (eqb w 0) [ true ↦ scan hit ws | false ↦ elim (hit (w - 1)) [ true ↦ Some (w - 1) | false ↦ scan hit ws ] ]

abbrev or_else : Option ℕ → Option ℕ → Option ℕ
or_else (Some n) x = Some n
or_else None x = x

-- One place of a walk, and of filling

module _ (hit : ℕ → Bool) (w : ℕ) (ws : List ℕ) where
  walk_zero : eqb w 0 ≡ true → walk hit (w ∷ ws) ≡ searched None 1
  unfolding walk
  walk_zero e = rw (walk, e)

  walk_here : eqb w 0 ≡ false → hit (w - 1) ≡ true → walk hit (w ∷ ws) ≡ searched (Some (w - 1)) 1
  unfolding walk
  walk_here e f = rw (walk, e, f)

  walk_past : eqb w 0 ≡ false → hit (w - 1) ≡ false → walk hit (w ∷ ws) ≡ past (walk hit ws)
  unfolding walk
  walk_past e f = rw (walk, e, f)

fill_zero : (w x : ℕ) (xs : List ℕ) → eqb x 0 ≡ true → fill w (x ∷ xs) ≡ w ∷ xs
unfolding fill
fill_zero w x xs e = rw (fill, e)

fill_past : (w x : ℕ) (xs : List ℕ) → eqb x 0 ≡ false → fill w (x ∷ xs) ≡ x ∷ fill w xs
unfolding fill
fill_past w x xs e = rw (fill, e)

-- the walk finds the first hit of all: none stands behind a 0
record Settled (hit : ℕ → Bool) (ws : List ℕ) (f : Option ℕ) : Type 0 where
  walked : (walk hit ws).found ≡ f
  scanned : scan hit ws ≡ f

module _ (hit : ℕ → Bool) where
  scan_none : (ws : List ℕ) → scan hit ws ≡ None → (walk hit ws).found ≡ None
  unfolding scan walk
  scan_none [] e = refl
  scan_none (w ∷ ws) e = elim (test (eqb w 0)) [
    | pass z ↦ rw (walk, z)
    | fail z ↦ elim (test (hit (w - 1))) [
      | pass f ↦ let y = rw (scan, z, f) at e in never cc
      | fail f ↦ rw (walk, z, f) (scan_none ws (rw (scan, z, f) at e))
    ]
  ]

  -- where all places are open
  scan_open : (ws : List ℕ) → opens ws ≡ length ws → scan hit ws ≡ None
  unfolding scan opens
  scan_open [] e = refl
  scan_open (w ∷ ws) e = elim (test (eqb w 0)) [
    | pass z ↦ rw (scan, z) (scan_open ws (let y = rw (opens, z) at e in omega arith))
    | fail z ↦ let y = rw (opens, z) at e in absurd (omega (arith, opens_most ws))
  ]

  -- An open place that is filled with an entry that is no hit

  module _ (n : ℕ) (m : hit n ≡ false) where
    scan_miss : (xs ys : List ℕ) → scan hit (xs ++ (n + 1) ∷ ys) ≡ scan hit (xs ++ 0 ∷ ys)
    unfolding scan
    scan_miss [] ys = let z : n + 1 - 1 ≡ n = omega arith in rw (scan, ne_eqb (n + 1) 0 (λ e. omega arith), z, m)
    scan_miss (x ∷ xs) ys = elim (test (eqb x 0)) [
      | pass e ↦ rw (scan, e) (scan_miss xs ys)
      | fail e ↦ elim (test (hit (x - 1))) [
        | pass f ↦ rw (scan, e, f)
        | fail f ↦ rw (scan, e, f) (scan_miss xs ys)
      ]
    ]

    walk_miss : (xs ys : List ℕ) → (walk hit (xs ++ 0 ∷ ys)).found ≡ scan hit (xs ++ 0 ∷ ys) → (walk hit (xs ++ (n + 1) ∷ ys)).found ≡ scan hit (xs ++ 0 ∷ ys)
    unfolding scan walk
    walk_miss [] ys e = let z : n + 1 - 1 ≡ n = omega arith in rw (walk, ne_eqb (n + 1) 0 (λ e. omega arith), z, m) (scan_none ys (sym e) ∙ e)
    walk_miss (x ∷ xs) ys e = elim (test (eqb x 0)) [
      | pass z ↦ rw (walk, z) (rw (walk, z) at e)
      | fail z ↦ elim (test (hit (x - 1))) [
        | pass f ↦ rw (walk, scan, z, f)
        | fail f ↦ rw (walk, scan, z, f) (walk_miss xs ys (rw (walk, scan, z, f) at e))
      ]
    ]

    settled_miss : {ws ws' : List ℕ} {f : Option ℕ} → Settled hit ws f → Filled (n + 1) ws ws' → Settled hit ws' f
    settled_miss {ws} {ws'} {f} s p =
        let a = p.around in
        let w₀ : (walk hit (with a 0)).found ≡ f = rw p.was at s.walked in
        let s₀ : scan hit (with a 0) ≡ f = rw p.was at s.scanned in
        record {
          walked = rw p.now (walk_miss a.before a.behind (w₀ ∙ sym s₀) ∙ s₀);
          scanned = rw p.now (scan_miss a.before a.behind ∙ s₀);
        }

  -- The first open place filled with a hit

  module _ (n : ℕ) (m : hit n ≡ true) where
    one_less : n + 1 - 1 ≡ n
    one_less = omega arith

    some_one : eqb (n + 1) 0 ≡ false
    some_one = ne_eqb (n + 1) 0 (λ e. omega arith)

    at_one : hit (n + 1 - 1) ≡ true
    at_one = rw one_less m

    walk_fill : (ws : List ℕ) → 0 < opens ws → (walk hit (fill (n + 1) ws)).found ≡ or_else (walk hit ws).found (Some n)
    unfolding opens
    walk_fill [] o = absurd (omega arith)
    walk_fill (x ∷ xs) o = elim (test (eqb x 0)) [
      | pass e ↦ rw (fill_zero (n + 1) x xs e, walk_zero hit x xs e, walk_here hit (n + 1) xs some_one at_one) (ap Some one_less)
      | fail e ↦ elim (test (hit (x - 1))) [
        | pass f ↦ rw (fill_past (n + 1) x xs e, walk_here hit x (fill (n + 1) xs) e f, walk_here hit x xs e f)
        | fail f ↦ rw (fill_past (n + 1) x xs e, walk_past hit x (fill (n + 1) xs) e f, walk_past hit x xs e f) (walk_fill xs (rw (opens, e) at o))
      ]
    ]

    scan_fill : (ws : List ℕ) → 0 < opens ws → scan hit (fill (n + 1) ws) ≡ or_else (walk hit ws).found (Some n)
    unfolding opens scan
    scan_fill [] o = absurd (omega arith)
    scan_fill (x ∷ xs) o = elim (test (eqb x 0)) [
      | pass e ↦ rw (fill_zero (n + 1) x xs e, walk_zero hit x xs e) (rw (scan, some_one, at_one) (ap Some one_less))
      | fail e ↦ elim (test (hit (x - 1))) [
        | pass f ↦ rw (fill_past (n + 1) x xs e, walk_here hit x xs e f) (rw (scan, e, f))
        | fail f ↦ rw (fill_past (n + 1) x xs e, walk_past hit x xs e f) (rw (scan, e, f) (scan_fill xs (rw (opens, e) at o)))
      ]
    ]

    settled_hit : {ws : List ℕ} {f : Option ℕ} → Settled hit ws f → 0 < opens ws → Settled hit (fill (n + 1) ws) (or_else f (Some n))
    settled_hit {ws} {f} s o = record { walked = walk_fill ws o ∙ ap (λ (x : Option ℕ). or_else x (Some n)) s.walked; scanned = scan_fill ws o ∙ ap (λ (x : Option ℕ). or_else x (Some n)) s.walked }

-- Placing all

-- the first hit among these numbers
unfoldable first_among : (ℕ → Bool) → List ℕ → Option ℕ
first_among hit [] = None
first_among hit (n ∷ ns) = elim (hit n) [ true ↦ Some n | false ↦ first_among hit ns ]

or_else_twice : (f : Option ℕ) (n : ℕ) (x : Option ℕ) → or_else (or_else f (Some n)) x ≡ or_else f (Some n)
or_else_twice (Some m) n x = refl
or_else_twice None n x = refl

or_else_none : (f : Option ℕ) → or_else f None ≡ f
or_else_none (Some m) = refl
or_else_none None = refl

module _ (form : Form) (h : Bytes) (t : List ℕ) (kind : ℕ) (id : Bytes) where
  abbrev hit : ℕ → Bool
  hit = is_named form h t kind id

  -- an entry that is named so
  pub record Named (n : ℕ) : Type 0 where
    pub entry : Entry
    pub there : entry_at form h t n ≡ Some entry
    pub kind_is : entry.kind ≡ kind
    pub id_is : id_meaning h entry ≡ id

  pub named : (n : ℕ) → hit n ≡ true → Named n
  unfolding is_named
  named n e = go (entry_at form h t n) refl e
    where
      go : (o : Option Entry) → entry_at form h t n ≡ o → has_name h kind id o ≡ true → Named n
      go None a e = both e refl
      go (Some x) a e = record {
        entry = x;
        there = a;
        kind_is = eqb-true x.kind kind (and_l (eqb x.kind kind) (same (id_meaning h x) id) e);
        id_is = same_sound (id_meaning h x) id (and_r (eqb x.kind kind) (same (id_meaning h x) id) e);
      }

  pub is_named_lem : {n : ℕ} → Named n → hit n ≡ true
  unfolding is_named
  is_named_lem {n} m = rw (m.there, eq-eqb m.entry.kind kind m.kind_is, m.id_is) (same_self id)

  -- and so its first place is that of the search
  same_place : (places n : ℕ) → hit n ≡ true → first_place places (entry_in form t n).kind (id_meaning h (entry_in form t n)) ≡ first_place places kind id
  same_place places n e =
      let m = named n e in
      ap (λ (x : Entry). first_place places x.kind (id_meaning h x)) (found_at form h t n m.there).held ∙ ap₂ (first_place places) m.kind_is m.id_is

  first_inside : (places kind : ℕ) (id : Bytes) → 0 < places → first_place places kind id ≤ places
  unfolding first_place
  first_inside places kind id l = omega (arith, mod-lt (hash_of kind id) l)

  -- one entry more
  module _ (index : List ℕ) (o : 0 < opens index) {f : Option ℕ} (s : Settled hit (in_turn (first_place (length index) kind id) index) f) (n : ℕ) where
    abbrev p : ℕ
    p = first_place (length index) kind id

    abbrev q : ℕ
    q = first_place (length index) (entry_in form t n).kind (id_meaning h (entry_in form t n))

    abbrev index' : List ℕ
    index' = placed q (n + 1) index

    some_places : 0 < length index
    some_places = omega (arith, opens_most index)

    one_filled : Filled (n + 1) index index'
    one_filled = placed_filled q (n + 1) index (first_inside (length index) (entry_in form t n).kind (id_meaning h (entry_in form t n)) some_places) o

    one_miss : hit n ≡ false → Settled hit (in_turn p index') f
    one_miss m = settled_miss hit n m s (filled_turned p one_filled)

    one_hit : hit n ≡ true → Settled hit (in_turn p index') (or_else f (Some n))
    one_hit m =
        let i = first_inside (length index) kind id some_places in
        rw (same_place (length index) n m, turn_placed p (n + 1) index i) (settled_hit hit n m s (rw (opens_turned p index) o))

  all_settled : (ns index : List ℕ) {f : Option ℕ} → length ns ≤ opens index → Settled hit (in_turn (first_place (length index) kind id) index) f
      → Settled hit (in_turn (first_place (length index) kind id) (all_placed form h t ns index)) (or_else f (first_among hit ns))
  unfolding all_placed first_among entry_placed
  all_settled [] index {f} l s = rw (or_else_none f) s
  all_settled (n ∷ ns) index {f} l s =
      let o : 0 < opens index = omega arith in
      let q = first_place (length index) (entry_in form t n).kind (id_meaning h (entry_in form t n)) in
      let z = placed_length q (n + 1) index in
      let e = filled_one (n + 1) (λ e. omega arith) (one_filled index o s n) in
      let p = first_place (length index) kind id in
      let index' = placed q (n + 1) index in
      let on : (g : Option ℕ) → Settled hit (in_turn p index') g → Settled hit (in_turn p (all_placed form h t ns index')) (or_else g (first_among hit ns)) = λ g r. rw z at (all_settled ns index' {f = g} (omega (arith, e)) (rw z r)) in
      elim (test (hit n)) [
        | pass m ↦ rw (first_among, m) (rw (or_else_twice f n (first_among hit ns)) at (on (or_else f (Some n)) (one_hit index o s n m)))
        | fail m ↦ rw (first_among, m) (on f (one_miss index o s n m))
      ]

  -- a cleared index
  settled_start : (p n : ℕ) → Settled hit (in_turn p (replicate n 0)) None
  settled_start p n =
      let s = scan_open hit (in_turn p (replicate n 0)) (opens_turned p (replicate n 0) ∙ opens_all n ∙ sym (turn_length p (replicate n 0) ∙ length-replicate n 0)) in
      record { walked = scan_none hit (in_turn p (replicate n 0)) s; scanned = s }

  module _ (k : is_indexed kind ≡ true) where
    covered : (n : ℕ) {x : Entry} → entry_at form h t n ≡ Some x → is_indexed x.kind ≡ false → hit n ≡ false
    covered n {x} a e = elim (test (hit n)) [
      | pass f ↦
          let m = named n f in
          let i : x.kind ≡ kind = ap (λ (y : Entry). y.kind) (some_is (sym a ∙ m.there)) ∙ m.kind_is in
          both k (rw i at e)
      | fail f ↦ f
    ]

    -- the first hit of the entries to place is the first of all
    among_from : (n more : ℕ) {ns : List ℕ} → indexed_from form h t n more ≡ Some ns → first_among hit ns ≡ first_from hit n more
    unfolding indexed_from first_among first_from
    among_from n zero e = rw (sym (some_is e))
    among_from n (suc more) {ns} e =
        let x = numbers_of n (entry_at form h t n) (indexed_from form h t (n + 1) more) e in
        let on = among_from (n + 1) more x.others in
        elim (test (is_indexed x.entry.kind)) [
          | pass q ↦
              let i : ns ≡ n ∷ x.rest = x.numbers ∙ rw q in
              elim (test (hit n)) [ pass f ↦ rw (i, first_among, first_from, f) | fail f ↦ rw (i, first_among, first_from, f) on ]
          | fail q ↦
              let i : ns ≡ x.rest = x.numbers ∙ rw q in
              rw (i, first_from, covered n x.there q) on
        ]

    -- an index into which all were placed
    placed_finds : (places : ℕ) {ns : List ℕ} → indexed_in form h t ≡ Some ns → length ns ≤ places
        → (walk hit (in_turn (first_place places kind id) (all_placed form h t ns (replicate places 0)))).found ≡ first_named form h t kind id
    placed_finds places {ns} e l =
        let z = length-replicate {A = ℕ} places 0 in
        let s = settled_start (first_place places kind id) places in
        let w = rw z at (all_settled ns (replicate places 0) {f = None} (rw (opens_all places) l) (rw z s)) in
        w.walked ∙ among_from 0 (room form t) e

  all_length : (ns index : List ℕ) → length (all_placed form h t ns index) ≡ length index
  unfolding all_placed entry_placed
  all_length [] index = refl
  all_length (n ∷ ns) index =
      let q = first_place (length index) (entry_in form t n).kind (id_meaning h (entry_in form t n)) in
      all_length ns (placed q (n + 1) index) ∙ placed_length q (n + 1) index

-- What the first of entries is

past_named : (form : Form) (h : Bytes) (t : List ℕ) (kind : ℕ) (id : Bytes) (n : ℕ) → ltb n (room form t) ≡ false → is_named form h t kind id n ≡ false
unfolding is_named entry_at words_clear
past_named form h t kind id n l = rw (entry_at, l)

first_none : (hit : ℕ → Bool) (n more : ℕ) → first_from hit n more ≡ None → (m : ℕ) → n ≤ m → m < n + more → hit m ≡ false
unfolding first_from
first_none hit n zero e m l u = absurd (omega arith)
first_none hit n (suc more) e m l u = elim (test (hit n)) [
  | pass f ↦ let z = rw (first_from, f) at e in never cc
  | fail f ↦ elim (test (eqb n m)) [
    | pass i ↦ rw (sym (eqb-true n m i)) f
    | fail i ↦ first_none hit (n + 1) more (rw (first_from, f) at e) m (omega (arith, l, eqb-false n m i)) (omega arith)
  ]
]

first_is : (hit : ℕ → Bool) (n more : ℕ) {k : ℕ} → first_from hit n more ≡ Some k → (hit k ≡ true) × ((m : ℕ) → n ≤ m → m < k → hit m ≡ false)
unfolding first_from
first_is hit n zero e = never cc
first_is hit n (suc more) {k} e = elim (test (hit n)) [
  | pass f ↦ let z = rw (first_from, f) at e in let i : n ≡ k = cc in (rw (sym i) f, λ m l u. absurd (omega arith))
  | fail f ↦
      let r = first_is hit (n + 1) more (rw (first_from, f) at e) in (
        r.0,
        λ m l u. elim (test (eqb n m)) [
          | pass i ↦ rw (sym (eqb-true n m i)) f
          | fail i ↦ r.1 m (omega (arith, l, eqb-false n m i)) u
        ],
      )
]

-- what a build that is not refused was given
record Given (places : ℕ) (o : Option (List ℕ)) : Type 0 where
  numbers : List ℕ
  are : o ≡ Some numbers
  enough_of : enough places numbers ≡ true

given : (places : ℕ) (o : Option (List ℕ)) → (build_answer places o).outcome ≡ Ok tt → Given places o
given places None e = never cc
given places (Some ns) e = elim (test (enough places ns)) [
  | pass f ↦ record { numbers = ns; are = refl; enough_of = f }
  | fail f ↦ let z = rw (build_answer, f) at e in never cc
]

module _ (form : Form) (h : Bytes) (t index : List ℕ) (kind : ℕ) (k : is_indexed kind ≡ true) (id : Bytes) where
  enough_finds : {ns : List ℕ} → indexed_in form h t ≡ Some ns → enough (length index) ns ≡ true → (find_in form h t (built_index form h t index) kind id).found ≡ first_named form h t kind id
  unfolding find_in
  enough_finds {ns} e f =
      let made = all_placed form h t ns (replicate (length index) 0) in
      let i : built_index form h t index ≡ made = rw (e, index_by, f) in
      let l : length made ≡ length index = all_length form h t kind id ns (replicate (length index) 0) ∙ length-replicate {A = ℕ} (length index) 0 in
      let o : length ns ≤ length index = leb-true (length ns) (length index) (and_l (leb (length ns) (length index)) (all_fit ns) f) in
      ap (λ (x : List ℕ). (find_in form h t x kind id).found) i ∙ rw (find_in, k, l) (placed_finds form h t kind id k (length index) e o)

  module _ (b : (build_answer (length index) (indexed_in form h t)).outcome ≡ Ok tt) where
    -- in an index built from its table: the first entry of the table with that kind and ID
    pub built_finds : (find_in form h t (built_index form h t index) kind id).found ≡ first_named form h t kind id
    built_finds = let g = given (length index) (indexed_in form h t) b in enough_finds g.are g.enough_of

    -- where nothing is found, no entry has them
    pub built_none : (find_in form h t (built_index form h t index) kind id).found ≡ None → (n : ℕ) → is_named form h t kind id n ≡ false
    built_none e n = elim (test (ltb n (room form t))) [
      | pass l ↦ first_none (is_named form h t kind id) 0 (room form t) (sym built_finds ∙ e) n (omega arith) (omega (arith, ltb-true n (room form t) l))
      | fail l ↦ past_named form h t kind id n l
    ]

    -- what is found has them, and none before it does
    pub built_first : {n : ℕ} → (find_in form h t (built_index form h t index) kind id).found ≡ Some n
        → Named form h t kind id n × ((m : ℕ) → m < n → is_named form h t kind id m ≡ false)
    built_first {n} e =
        let r = first_is (is_named form h t kind id) 0 (room form t) (sym built_finds ∙ e) in
        (named form h t kind id n r.0, λ m l. r.1 m (omega arith) l)

    -- so an entry that the table holds is found, by its first
    pub built_found : {n : ℕ} → Named form h t kind id n → (m : ℕ) × ((find_in form h t (built_index form h t index) kind id).found ≡ Some m)
    built_found {n} a = go (find_in form h t (built_index form h t index) kind id).found refl
      where
        go : (f : Option ℕ) → (find_in form h t (built_index form h t index) kind id).found ≡ f → (m : ℕ) × ((find_in form h t (built_index form h t index) kind id).found ≡ Some m)
        go (Some m) e = (m, e)
        go None e = both (is_named_lem form h t kind id a) (built_none e n)
