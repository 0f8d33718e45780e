-- Finding: whether an entry is named so, a turn of the walk, and the call. Assumes nothing.
use Prim.Native.Nat.{ℕ, suc, ◌+◌, ◌*◌, ◌-◌, ◌^◌, ◌≤◌, ◌<◌}
use native.Mathlib.Omega.{arith}
use mathlib.Core.Path.{◌≡◌, refl, sym, ap, ap₂, subst, ◌∙◌}
use mathlib.Core.Bool.{Bool, true, false, not, ◌||◌, ◌&&◌, and-true, and-false}
use Rattle.std.specs.Prelude.{None, Some}
use mathlib.Core.List.{List, [], ◌∷◌}
use lib.Dec.{eqb, leb}
use lib.ListN.{length, take, drop, get_or, drop_of_length-le}
use lib.Seq.{take-nil, drop-nil}
use borrow.Author.Tests.{eq-eqb, ne_eqb, le-leb, lt-leb, leb-true}
use mir.Syntax.{w64}
use mir.Val.{Fits}
use Rattle.values.specs.Bytes.{Bytes, same}
use Rattle.values.specs.Value.{meaning}
use Rattle.values.proofs.Tests.{and_l, and_r, not_true, not_false}
use Rattle.values.proofs.Lists.{here}
use Rattle.values.proofs.Sames.{lengths_differ}
use Rattle.rules.specs.Entry.{Entry as RuleEntry}
use Rattle.rules.specs.Shown.{counts_in_place, well_formed, id_in}
use Rattle.entries.specs.declared.entry.Entry.{Entry}
use Rattle.entries.specs.declared.form.Form.{Form}
use Rattle.entries.specs.Values.{entry_of}
use Rattle.entries.specs.Tables.{entry_in, words_clear, entry_at}
use Rattle.entries.proofs.Calls.{begins_inside}
use Rattle.index.specs.Index.{is_indexed, first_place, in_turn, next_place, has_name, is_named, searched, walk, find_in, is_inside}
use Rattle.index.specs.declared.find.Search.{Search}
use Rattle.index.proofs.Places.{Trying, try_first, try_next, turn_length, turn_holds}

-- Equal bytes: those before i were looked at

pub record Comparing (a b : Bytes) (alike : Bool) (i : ℕ) : Type 0 where
  pub long : length a ≡ length b
  pub still : same a b ≡ alike && same (drop i a) (drop i b)

pub compare_start : (a b : Bytes) → length a ≡ length b → Comparing a b true 0
compare_start a b e = record { long = e; still = refl }

module _ {a b : Bytes} {alike : Bool} {i : ℕ} (g : Comparing a b alike i) where
  pub compare_next : i < length a → Comparing a b (alike && eqb (get_or a i 0) (get_or b i 0)) (i + 1)
  unfolding same
  compare_next h = record {
    long = g.long;
    still = g.still ∙ rw (here a i h, here b i (omega (arith, g.long)), same) (one alike (eqb (get_or a i 0) (get_or b i 0)) (same (drop (i + 1) a) (drop (i + 1) b)));
  }
    where
      one : (x y z : Bool) → x && elim y [ true ↦ z | false ↦ false ] ≡ (x && y) && z
      one true true z = refl
      one true false z = refl
      one false y z = refl

  pub compare_end : length a ≤ i → alike ≡ same a b
  unfolding same
  compare_end h = sym (g.still ∙ rw (drop_of_length-le a {i = i} h, drop_of_length-le b {i = i} (omega (arith, g.long))) (and-true alike))

pub ruleset compares = (lengths_differ, compare_start, compare_next, compare_end)

-- An entry

module _ (size : ℕ) (e : Entry) where
  pub inside_tagged : (e.tag ≡ 0 → ⊥) → false ≡ is_inside size (entry_of e)
  inside_tagged n = rw (ne_eqb e.tag 0 n)

  module _ (z : e.tag ≡ 0) where
    pub starts_outside : size < e.start → false ≡ is_inside size (entry_of e)
    starts_outside l = rw (eq-eqb e.tag 0 z, lt-leb (e.start + e.length) size (omega arith))

    module _ (l : e.start ≤ size) where
      pub ends_outside : size - e.start < e.length → false ≡ is_inside size (entry_of e)
      ends_outside o = rw (eq-eqb e.tag 0 z, lt-leb (e.start + e.length) size (omega arith))

      module _ (o : e.length ≤ size - e.start) where
        line_inside : leb (e.start + e.length) size ≡ true
        line_inside = le-leb (e.start + e.length) size (omega arith)

        pub id_outside : e.length < e.offset → false ≡ is_inside size (entry_of e)
        id_outside u = rw (eq-eqb e.tag 0 z, line_inside, lt-leb (e.offset + e.id_length) e.length (omega arith))

        pub id_inside : e.offset ≤ e.length → leb e.id_length (e.length - e.offset) ≡ is_inside size (entry_of e)
        id_inside u = rw (eq-eqb e.tag 0 z, line_inside) (begins_inside e.length e.offset e.id_length u)

pub ruleset insides = (inside_tagged, starts_outside, ends_outside, id_outside, id_inside)

-- of a kind that an index covers that is all that is left of well formed
well_covered : (size : ℕ) (e : RuleEntry) → is_indexed e.kind ≡ true → well_formed size e ≡ is_inside size e
unfolding well_formed counts_in_place
well_covered size e k =
    let low = leb-true 2 e.kind (and_l (leb 2 e.kind) (leb e.kind 6) k) in
    let high = leb-true e.kind 6 (and_r (leb 2 e.kind) (leb e.kind 6) k) in
    rw (le-leb 1 e.kind (omega arith), le-leb e.kind 10 (omega arith), le-leb 2 e.kind low, le-leb e.kind 7 (omega arith), le-leb e.kind 8 (omega arith), ne_eqb e.kind 7 (λ z. omega arith))
    (by (eqb e.tag 0) (leb (e.start + e.length) size) (leb (e.offset + e.id_length) e.length))
  where
    by : (a b c : Bool) → (a || false) && (b && (c && true)) ≡ a && (b && c)
    by true b true = refl
    by true true false = refl
    by true false false = refl
    by false b c = refl

module _ (form : Form) (h : Bytes) (t : List ℕ) (kind : ℕ) (k : is_indexed kind ≡ true) (id : Bytes) (n : ℕ) {e : Entry} (a : entry_of e ≡ entry_in form t n) where
  -- what it is of an entry that the words hold
  abbrev NamedBy : RuleEntry → Type 0
  NamedBy x = is_named form h t kind id n ≡ (words_clear form t n && well_formed (length h) x) && has_name h kind id (Some x)

  named_in : NamedBy (entry_in form t n)
  unfolding is_named entry_at
  named_in = by (words_clear form t n && well_formed (length h) (entry_in form t n))
    where
      by : (b : Bool) → has_name h kind id (elim b [ true ↦ Some (entry_in form t n) | false ↦ None ]) ≡ b && has_name h kind id (Some (entry_in form t n))
      by true = refl
      by false = refl

  named_by : NamedBy (entry_of e)
  named_by = subst NamedBy (sym a) named_in

  pub named_else : (e.kind ≡ kind → ⊥) → false ≡ is_named form h t kind id n
  named_else f = sym (named_by ∙ rw (ne_eqb e.kind kind f) (and-false (words_clear form t n && well_formed (length h) (entry_of e))))

  module _ (f : e.kind ≡ kind) {p : Bool} (i : p ≡ is_inside (length h) (entry_of e)) where
    well : well_formed (length h) (entry_of e) ≡ p
    well = well_covered (length h) (entry_of e) (rw f k) ∙ sym i

    pub named_outside : not p ≡ true → false ≡ is_named form h t kind id n
    named_outside g = sym (named_by ∙ rw (well, not_true p g, and-false (words_clear form t n)))

    module _ (on : not p ≡ false) where
      within : (e.start + e.length ≤ length h) × (e.offset + e.id_length ≤ e.length)
      within =
          let w = sym i ∙ not_false p on in
          let u = and_r (eqb e.tag 0) (leb (e.start + e.length) (length h) && leb (e.offset + e.id_length) e.length) w in (
            leb-true (e.start + e.length) (length h) (and_l (leb (e.start + e.length) (length h)) (leb (e.offset + e.id_length) e.length) u),
            leb-true (e.offset + e.id_length) e.length (and_r (leb (e.start + e.length) (length h)) (leb (e.offset + e.id_length) e.length) u),
          )

      pub named_ends : e.start + e.offset + e.id_length ≤ length h
      named_ends = let w = within in omega (arith, w.0, w.1)

      module _ (few : length h * 1 < 2 ^ 63) where
        pub start_fits : Fits w64 (e.start + e.offset)
        start_fits = let w = within in record { fits = omega (arith, w.0, w.1) }

        pub end_fits : Fits w64 (e.start + e.offset + e.id_length)
        end_fits = let w = within in record { fits = omega (arith, w.0, w.1) }

      module _ {c : Bool} (d : c ≡ words_clear form t n) where
        pub named_unclear : not c ≡ true → false ≡ is_named form h t kind id n
        named_unclear g = sym (named_by ∙ rw (sym d ∙ not_true c g))

        module _ (clear : not c ≡ false) where
          abbrev text : Bytes
          text = take (e.start + e.offset + e.id_length - (e.start + e.offset)) (drop (e.start + e.offset) h)

          text_is : text ≡ id_in h (entry_of e)
          unfolding id_in
          text_is = let z : e.start + e.offset + e.id_length - (e.start + e.offset) ≡ e.id_length = omega arith in rw z

          named_as : {q : Bool} → e.quoted ≡ q → is_named form h t kind id n ≡ same (meaning q text) id
          named_as g =
              named_by ∙ rw (well, not_false p on, sym d ∙ not_false c clear, eq-eqb e.kind kind f)
              (ap₂ (λ (b : Bool) (y : Bytes). same (meaning b y) id) g (sym text_is))

          pub named_quoted : e.quoted ≡ true → {q : Bool} → q ≡ same (meaning true text) id → q ≡ is_named form h t kind id n
          named_quoted g s = s ∙ sym (named_as g)

          pub named_bare : e.quoted ≡ false → {q : Bool} → q ≡ same text id → q ≡ is_named form h t kind id n
          named_bare g s = s ∙ sym (named_as g)

pub ruleset names = (named_else, named_outside, named_unclear, named_ends, start_fits, end_fits, named_quoted, named_bare)

-- The walk: after k places the rest of it gives the whole

abbrev after : ℕ → Search → Search
after k s = searched s.found (k + s.looked)

pub record Walking (hit : ℕ → Bool) (index : List ℕ) (p at k : ℕ) : Type 0 where
  pub trying : Trying (length index) p k at
  pub still : walk hit (in_turn p index) ≡ after k (walk hit (drop k (in_turn p index)))

pub walk_start : (hit : ℕ → Bool) (index : List ℕ) {p : ℕ} → p < length index → Walking hit index p p 0
walk_start hit index {p} h = record { trying = try_first h; still = let z : 0 + (walk hit (in_turn p index)).looked ≡ (walk hit (in_turn p index)).looked = omega arith in ap (searched (walk hit (in_turn p index)).found) (sym z) }

module _ {hit : ℕ → Bool} {index : List ℕ} {p at k : ℕ} (g : Walking hit index p at k) where
  pub walk_end : length index ≤ k → k ≤ length index → searched None (length index) ≡ walk hit (in_turn p index)
  unfolding walk
  walk_end h m = let e : length index ≡ k = omega arith in rw e (sym (g.still ∙ rw (drop_of_length-le (in_turn p index) {i = k} (rw (turn_length p index) h)) (let z : k + 0 ≡ k = omega arith in rw z)))

  pub walk_inside : at < length index
  walk_inside = g.trying.inside

  module _ (h : k < length index) {w : ℕ} (v : w ≡ get_or index at 0) where
    left : drop k (in_turn p index) ≡ w ∷ drop (k + 1) (in_turn p index)
    left = here (in_turn p index) k (rw (turn_length p index) h) ∙ ap (◌∷ drop (k + 1) (in_turn p index)) (turn_holds p index g.trying h ∙ sym v)

    pub walk_open : w ≡ 0 → searched None (k + 1) ≡ walk hit (in_turn p index)
    unfolding walk
    walk_open e = sym (g.still ∙ rw (left, walk, eq-eqb w 0 e))

    module _ (n : w ≡ 0 → ⊥) {q : Bool} (a : q ≡ hit (w - 1)) where
      pub walk_hit : q ≡ true → searched (Some (w - 1)) (k + 1) ≡ walk hit (in_turn p index)
      unfolding walk
      walk_hit e = sym (g.still ∙ rw (left, walk, ne_eqb w 0 n, sym a ∙ e))

      pub walk_on : q ≡ false → {at' : ℕ} → at' ≡ next_place (length index) at → at' < length index → Walking hit index p at' (k + 1)
      unfolding walk
      walk_on e f i = record {
        trying = try_next g.trying h f i;
        still =
            let s = walk hit (drop (k + 1) (in_turn p index)) in
            let z : k + suc s.looked ≡ k + 1 + s.looked = omega arith in
            g.still ∙ rw (left, walk, ne_eqb w 0 n, sym a ∙ e) (ap (searched s.found) z);
      }

pub ruleset walks = (walk_start, walk_end, walk_open, walk_hit, walk_on, walk_inside)

-- The call

pub no_places : (ws : List ℕ) → length ws ≡ 0 → ws ≡ []
no_places [] e = refl
no_places (w ∷ ws) e = absurd (omega arith)

walk_none : (hit : ℕ → Bool) (p : ℕ) → walk hit (in_turn p []) ≡ searched None 0
unfolding in_turn walk
walk_none hit p = rw (drop-nil {A = ℕ} p, take-nil {A = ℕ} p)

module _ (form : Form) (h : Bytes) (t index : List ℕ) (kind : ℕ) (id : Bytes) {q : Bool} (a : q ≡ is_indexed kind) where
  pub find_other : not q ≡ true → searched None 0 ≡ find_in form h t index kind id
  unfolding find_in
  find_other e = rw (find_in, sym a ∙ not_true q e)

  module _ (on : not q ≡ false) where
    pub find_none : length index ≡ 0 → searched None 0 ≡ find_in form h t index kind id
    unfolding find_in
    find_none e = rw (find_in, sym a ∙ not_false q on, no_places index e) (sym (walk_none (is_named form h t kind id) (first_place 0 kind id)))

    pub find_walk : {p : ℕ} → p ≡ first_place (length index) kind id → {r : Search} → r ≡ walk (is_named form h t kind id) (in_turn p index) → r ≡ find_in form h t index kind id
    unfolding find_in
    find_walk e f = f ∙ rw (e, find_in, sym a ∙ not_false q on)

    pub kind_covered : is_indexed kind ≡ true
    kind_covered = sym a ∙ not_false q on

    pub kind_small : kind < 256
    kind_small = let l = leb-true kind 6 (and_r (leb 2 kind) (leb kind 6) (sym a ∙ not_false q on)) in omega arith

pub ruleset finds = (find_other, find_none, find_walk, kind_covered, kind_small)
