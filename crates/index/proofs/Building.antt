-- Building: counting, clearing, placing one entry and all, and the call. Assumes nothing.
use Prim.Native.Nat.{ℕ, suc, ◌+◌, ◌-◌, ◌%◌, ◌^◌, ◌≤◌, ◌<◌}
use native.Mathlib.Nat.{mod-eq_of_lt}
use native.Mathlib.Omega.{arith}
use native.Mathlib.Numerals.{add-one}
use mathlib.Core.Path.{◌≡◌, refl, sym, ap, subst, ◌∙◌}
use mathlib.Core.Bool.{Bool, true, false, ◌&&◌, and-true, and-false}
use mathlib.Core.List.{List, [], ◌∷◌, ◌++◌, append-nil, append_assoc}
use Rattle.std.specs.Prelude.{Option, None, Some, Ok, Err}
use lib.Dec.{leb, ltb}
use lib.ListN.{length, take, drop, get_or, set, replicate, length-append, length-set, drop_of_length-le}
use lib.Seq.{take-nil, drop-nil, take_all, take-suc, set_split}
use borrow.Author.Tests.{eq-eqb, ne_eqb, le-leb, lt-leb, lt-ltb, le-ltb, ltb-true}
use Rattle.values.specs.Bytes.{Bytes}
use Rattle.values.specs.Value.{meaning}
use Rattle.values.proofs.Tests.{pass, fail, test, and_l, and_r, and_off}
use Rattle.values.proofs.Lists.{here, some_is, none_not}
use Rattle.rules.specs.Entry.{Entry as RuleEntry}
use Rattle.rules.specs.Shown.{id_in}
use Rattle.entries.specs.declared.entry.Entry.{Entry}
use Rattle.entries.specs.declared.form.Form.{Form}
use Rattle.entries.specs.Values.{entry_of}
use Rattle.entries.specs.Shown.{entry_meant}
use Rattle.entries.specs.Tables.{room, entry_in, entry_at}
use Rattle.entries.proofs.Calls.{found_at}
use Rattle.index.specs.Index.{is_indexed, first_place, in_turn, next_place, fill, placed, entry_placed, all_placed, numbered, indexed_from, indexed_in, all_fit, enough, answer_of, build_answer, built_index, index_by, TallyIs, Tallies, PlacesAll}
use Rattle.index.specs.declared.build.BuildAnswer.{BuildAnswer}
use Rattle.index.specs.declared.build.BuildRefusal.TheVariants.{NotWellFormed, TooFewPlaces}
use Rattle.index.proofs.Places.{Trying, try_first, try_next, turn_length, turn_back, turn_holds, turn_set}
use Rattle.index.proofs.Finding.{no_places}

-- Placing one: the places before the k-th are taken

pub record Putting (index₀ index : List ℕ) (p w at k : ℕ) : Type 0 where
  pub same : index ≡ index₀
  pub long : length index ≡ length index₀
  pub trying : Trying (length index) p k at
  pub still : fill w (in_turn p index) ≡ take k (in_turn p index) ++ fill w (drop k (in_turn p index))

pub put_start : (index : List ℕ) (w : ℕ) {p : ℕ} → p < length index → Putting index index p w p 0
put_start index w h = record { same = refl; long = refl; trying = try_first h; still = refl }

module _ {index₀ index : List ℕ} {p w at k : ℕ} (g : Putting index₀ index p w at k) where
  abbrev turned : List ℕ
  turned = in_turn p index

  -- turned back
  back : (v : List ℕ) → fill w turned ≡ in_turn p v → length v ≡ length index → v ≡ placed p w index₀
  unfolding placed
  back v e l = let f = g.trying.from in rw (← g.same) (sym (rw (e, ← l) (turn_back p v (omega arith))))

  pub put_end : length index₀ ≤ k → index ≡ placed p w index₀
  unfolding fill
  put_end m = let h : length index ≤ k = omega (arith, m, g.long) in back index (g.still ∙ rw (drop_of_length-le turned {i = k} (rw (turn_length p index) h), take_all k turned (rw (turn_length p index) h)) (append-nil turned)) refl

  module _ (h : k < length index) where
    left : drop k turned ≡ get_or index at 0 ∷ drop (k + 1) turned
    left = here turned k (rw (turn_length p index) h) ∙ ap (◌∷ drop (k + 1) turned) (turn_holds p index g.trying h)

    pub put_open : get_or index at 0 ≡ 0 → set index at w ≡ placed p w index₀
    unfolding fill
    put_open e = back (set index at w)
        (g.still ∙ rw (left, fill, eq-eqb (get_or index at 0) 0 e, add-one k) (sym (set_split turned k w (rw (turn_length p index) h))) ∙ turn_set p index g.trying h w)
        (length-set index at w)

    pub put_on : (get_or index at 0 ≡ 0 → ⊥) → {at' : ℕ} → at' ≡ next_place (length index) at → at' < length index → Putting index₀ index p w at' (k + 1)
    unfolding fill
    put_on n f i = record {
      same = g.same;
      long = g.long;
      trying = try_next g.trying h f i;
      still =
          let l : k < length turned = rw (turn_length p index) h in
          g.still ∙ rw (left, fill, ne_eqb (get_or index at 0) 0 n) (sym (rw (add-one k, take-suc turned k 0 l, turn_holds p index g.trying h) (append_assoc (take k turned) (get_or index at 0 ∷ []) (fill w (drop (suc k) turned)))));
    }

pub ruleset puts = (put_start, put_end, put_open, put_on)

turn_nil : (p : ℕ) → in_turn p [] ≡ []
unfolding in_turn
turn_nil p = rw (drop-nil {A = ℕ} p, take-nil {A = ℕ} p)

placed_nil : (p w : ℕ) → placed p w [] ≡ []
unfolding placed fill
placed_nil p w = rw (turn_nil p) (turn_nil (0 - p))

module _ (h : Bytes) (e : Entry) (index : List ℕ) (w : ℕ) where
  pub entry_nowhere : length index ≡ 0 → index ≡ entry_placed h (entry_of e) w index
  unfolding entry_placed
  entry_nowhere z = rw (no_places index z) (sym (placed_nil (first_place 0 e.kind (meaning e.quoted (id_in h (entry_of e)))) w))

  pub entry_put : {x : Bytes} → x ≡ id_in h (entry_of e) → {p : ℕ} → p ≡ first_place (length index) e.kind (meaning e.quoted x) → {index' : List ℕ} → index' ≡ placed p w index
      → index' ≡ entry_placed h (entry_of e) w index
  unfolding entry_placed
  entry_put a b c = c ∙ rw (b, a)

pub ruleset put_entries = (entry_nowhere, entry_put)

-- Counting: the entries before n were passed, those to place are `done`

-- these numbers in front of the rest
abbrev onto : List ℕ → Option (List ℕ) → Option (List ℕ)
onto ds None = None
onto ds (Some ns) = Some (ds ++ ns)

onto_nothing : (o : Option (List ℕ)) → onto [] o ≡ o
onto_nothing None = refl
onto_nothing (Some ns) = refl

onto_one : (ds : List ℕ) (n : ℕ) (e : RuleEntry) (o : Option (List ℕ)) → is_indexed e.kind ≡ true → onto ds (numbered n (Some e) o) ≡ onto (ds ++ n ∷ []) o
onto_one ds n e None q = refl
onto_one ds n e (Some ns) q = rw q (ap Some (sym (append_assoc ds (n ∷ []) ns)))

onto_other : (ds : List ℕ) (n : ℕ) (e : RuleEntry) (o : Option (List ℕ)) → is_indexed e.kind ≡ false → onto ds (numbered n (Some e) o) ≡ onto ds o
onto_other ds n e None q = refl
onto_other ds n e (Some ns) q = rw q

fit_more : (ds : List ℕ) (n : ℕ) → all_fit (ds ++ n ∷ []) ≡ all_fit ds && ltb (n + 1) (2 ^ 32)
unfolding all_fit
fit_more [] n = and-true (ltb (n + 1) (2 ^ 32))
fit_more (d ∷ ds) n = rw (fit_more ds n) (grouped (ltb (d + 1) (2 ^ 32)))
  where
    grouped : (a : Bool) → a && (all_fit ds && ltb (n + 1) (2 ^ 32)) ≡ (a && all_fit ds) && ltb (n + 1) (2 ^ 32)
    grouped true = refl
    grouped false = refl

pub record Tallying (form : Form) (h : Bytes) (t : List ℕ) (n count last : ℕ) : Type 0 where
  pub inside : n ≤ room form t
  pub few : count ≤ n
  pub low : last ≤ n
  pub done : List ℕ
  pub size : length done ≡ count
  pub fits : all_fit done ≡ ltb last (2 ^ 32)
  pub whole : indexed_in form h t ≡ onto done (indexed_from form h t n (room form t - n))

pub tally_start : (form : Form) (h : Bytes) (t : List ℕ) → Tallying form h t 0 0 0
unfolding all_fit
tally_start form h t = record {
  inside = omega arith;
  few = omega arith;
  low = omega arith;
  done = [];
  size = refl;
  fits = refl;
  whole = let z : room form t - 0 ≡ room form t = omega arith in rw z (sym (onto_nothing (indexed_in form h t)));
}

module _ {form : Form} {h : Bytes} {t : List ℕ} {n count last : ℕ} (g : Tallying form h t n count last) {m : ℕ} (all : m ≡ room form t) where
  pub tally_end : m ≤ n → Tallies (indexed_in form h t) (Some (count, last))
  unfolding indexed_from
  tally_end l =
      let z : room form t - n ≡ 0 = omega (arith, l, all) in
      record { is = (g.done, g.whole ∙ rw z (ap Some (append-nil g.done)), sym g.size, g.fits) }

  pub tally_less : n < m → m - (n + 1) < m - n
  tally_less l = omega (arith, l)

  module _ (l : n < m) (r : Option Entry) (a : entry_meant r ≡ entry_at form h t n) where
    more : (o : Option RuleEntry) → entry_at form h t n ≡ o → indexed_in form h t ≡ onto g.done (numbered n o (indexed_from form h t (n + 1) (room form t - (n + 1))))
    unfolding indexed_from
    more o e = let z : room form t - n ≡ suc (room form t - (n + 1)) = omega (arith, l, all) in g.whole ∙ rw (z, indexed_from, e)

    pub tally_refused : r ≡ None → Tallies (indexed_in form h t) None
    tally_refused e = record { is = more None (sym a ∙ ap entry_meant e) }

    module _ {e : Entry} (b : r ≡ Some e) {q : Bool} (d : q ≡ is_indexed e.kind) where
      abbrev rest : Option (List ℕ)
      rest = indexed_from form h t (n + 1) (room form t - (n + 1))

      here_is : indexed_in form h t ≡ onto g.done (numbered n (Some (entry_of e)) rest)
      here_is = more (Some (entry_of e)) (sym a ∙ ap entry_meant b)

      pub tally_other : q ≡ false → Tallying form h t (n + 1) count last
      tally_other f = record {
        inside = omega (arith, l, all);
        few = omega (arith, g.few);
        low = omega (arith, g.low);
        done = g.done;
        size = g.size;
        fits = g.fits;
        whole = here_is ∙ onto_other g.done n (entry_of e) rest (sym d ∙ f);
      }

      fits_more : all_fit (g.done ++ n ∷ []) ≡ ltb (n + 1) (2 ^ 32)
      fits_more = fit_more g.done n ∙ elim (test (ltb (n + 1) (2 ^ 32))) [
        | pass f ↦ rw (f, g.fits ∙ lt-ltb last (2 ^ 32) (omega (arith, ltb-true (n + 1) (2 ^ 32) f, g.low)))
        | fail f ↦ rw f (and-false (all_fit g.done))
      ]

      pub tally_one : q ≡ true → Tallying form h t (n + 1) (count + 1) (n + 1)
      tally_one f = record {
        inside = omega (arith, l, all);
        few = omega (arith, g.few);
        low = omega arith;
        done = g.done ++ n ∷ [];
        size = length-append g.done (n ∷ []) ∙ ap (◌+ 1) g.size;
        fits = fits_more;
        whole = here_is ∙ onto_one g.done n (entry_of e) rest (sym d ∙ f);
      }

pub ruleset tallies = (tally_start, tally_end, tally_less, tally_refused, tally_other, tally_one)

-- Placing all: what is left, placed from here, gives the whole

-- the numbers from an entry on: it is well formed, and so are those after it
pub record Numbers (n : ℕ) (o : Option RuleEntry) (os : Option (List ℕ)) (ms : List ℕ) : Type 0 where
  pub entry : RuleEntry
  pub rest : List ℕ
  pub there : o ≡ Some entry
  pub others : os ≡ Some rest
  pub numbers : ms ≡ elim (is_indexed entry.kind) [ true ↦ n ∷ rest | false ↦ rest ]

pub numbers_of : (n : ℕ) (o : Option RuleEntry) (os : Option (List ℕ)) {ms : List ℕ} → numbered n o os ≡ Some ms → Numbers n o os ms
numbers_of n None os e = none_not e
numbers_of n (Some x) None e = none_not e
numbers_of n (Some x) (Some ns) e = record { entry = x; rest = ns; there = refl; others = refl; numbers = sym (some_is e) }

pub record Left (form : Form) (h : Bytes) (t index₀ index ns : List ℕ) (n : ℕ) : Type 0 where
  pub numbers : List ℕ
  pub are : indexed_from form h t n (room form t - n) ≡ Some numbers
  pub fit : all_fit numbers ≡ true
  pub still : all_placed form h t ns index₀ ≡ all_placed form h t numbers index

pub record Placing (form : Form) (h : Bytes) (t index₀ index : List ℕ) (n : ℕ) : Type 0 where
  pub inside : n ≤ room form t
  pub long : length index ≡ length index₀
  pub left : (ns : List ℕ) → indexed_in form h t ≡ Some ns → all_fit ns ≡ true → Left form h t index₀ index ns n

pub place_start : (form : Form) (h : Bytes) (t index : List ℕ) → Placing form h t index index 0
place_start form h t index = record {
  inside = omega arith;
  long = refl;
  left = λ ns e f. let z : room form t - 0 ≡ room form t = omega arith in record { numbers = ns; are = rw z e; fit = f; still = refl };
}

module _ {form : Form} {h : Bytes} {t index₀ index : List ℕ} {n : ℕ} (g : Placing form h t index₀ index n) {m : ℕ} (all : m ≡ room form t) where
  pub place_end : m ≤ n → PlacesAll form h t index₀ index
  unfolding indexed_from all_placed
  place_end l = record {
    is = λ ns e f.
        let w = g.left ns e f in
        let z : room form t - n ≡ 0 = omega (arith, l, all) in
        let i : w.numbers ≡ [] = sym (some_is (rw z at w.are)) in
        sym (w.still ∙ rw i);
  }

  module _ (l : n < m) {e : Entry} (a : entry_of e ≡ entry_in form t n) {q : Bool} (d : q ≡ is_indexed e.kind) where
    -- the numbers that are left, one entry on
    next : (ms : List ℕ) → indexed_from form h t n (room form t - n) ≡ Some ms → Numbers n (entry_at form h t n) (indexed_from form h t (n + 1) (room form t - (n + 1))) ms
    unfolding indexed_from
    next ms e = let z : room form t - n ≡ suc (room form t - (n + 1)) = omega (arith, l, all) in numbers_of n (entry_at form h t n) (indexed_from form h t (n + 1) (room form t - (n + 1))) (rw z at e)

    kind_is : {x : RuleEntry} → entry_at form h t n ≡ Some x → is_indexed x.kind ≡ q
    kind_is f = ap (λ (y : RuleEntry). is_indexed y.kind) (sym (found_at form h t n f).held ∙ sym a) ∙ sym d

    pub place_other : q ≡ false → Placing form h t index₀ index (n + 1)
    place_other f = record {
      inside = omega (arith, l, all);
      long = g.long;
      left = λ ns e k.
          let w = g.left ns e k in
          let x = next w.numbers w.are in
          let i : w.numbers ≡ x.rest = x.numbers ∙ rw (kind_is x.there ∙ f) in
          record { numbers = x.rest; are = x.others; fit = rw i at w.fit; still = rw i at w.still };
    }

    pub place_one : q ≡ true → {index' : List ℕ} → index' ≡ entry_placed h (entry_of e) ((n + 1) % 4294967296) index → length index' ≡ length index → Placing form h t index₀ index' (n + 1)
    unfolding all_fit all_placed
    place_one f {index'} p s = record {
      inside = omega (arith, l, all);
      long = s ∙ g.long;
      left = λ ns e k.
          let w = g.left ns e k in
          let x = next w.numbers w.are in
          let i : w.numbers ≡ n ∷ x.rest = x.numbers ∙ rw (kind_is x.there ∙ f) in
          let fs = rw i at w.fit in
          let small = ltb-true (n + 1) (2 ^ 32) (and_l (ltb (n + 1) (2 ^ 32)) (all_fit x.rest) fs) in
          let is : index' ≡ entry_placed h (entry_in form t n) (n + 1) index = p ∙ rw (a, mod-eq_of_lt small) in
          record {
            numbers = x.rest;
            are = x.others;
            fit = and_r (ltb (n + 1) (2 ^ 32)) (all_fit x.rest) fs;
            still = rw i at w.still ∙ ap (all_placed form h t x.rest) (sym is);
          };
    }

pub ruleset places = (place_start, place_end, place_other, place_one)

-- The call

module _ (form : Form) (h : Bytes) (t index : List ℕ) {r : Option (ℕ × ℕ)} (c : Tallies (indexed_in form h t) r) where
  as_tallied : {x : Option (ℕ × ℕ)} → r ≡ x → TallyIs (indexed_in form h t) x
  as_tallied e = subst (TallyIs (indexed_in form h t)) e c.is

  module _ (e : r ≡ None) where
    pub build_refused : {x : BuildAnswer} → x ≡ answer_of (Err NotWellFormed) 0 → x ≡ build_answer (length index) (indexed_in form h t)
    build_refused f = f ∙ rw (as_tallied e)

    pub kept_refused : index ≡ built_index form h t index
    kept_refused = rw (as_tallied e)

  module _ {count last : ℕ} (e : r ≡ Some (count, last)) where
    abbrev ns : List ℕ
    ns = (as_tallied e).0

    are : indexed_in form h t ≡ Some ns
    are = (as_tallied e).1

    many : count ≡ length ns
    many = (as_tallied e).2

    fitting : all_fit ns ≡ ltb last (2 ^ 32)
    fitting = (as_tallied e).3

    answer_by_lem : {b : Bool} → enough (length index) ns ≡ b → build_answer (length index) (indexed_in form h t) ≡ elim b [ true ↦ answer_of (Ok tt) (length ns) | false ↦ answer_of (Err TooFewPlaces) 0 ]
    answer_by_lem f = rw (are, build_answer, f)

    index_by_lem : {b : Bool} → enough (length index) ns ≡ b → built_index form h t index ≡ elim b [ true ↦ all_placed form h t ns (replicate (length index) 0) | false ↦ index ]
    index_by_lem f = rw (are, index_by, f)

    module _ (l : length index < count) where
      few_places : enough (length index) ns ≡ false
      few_places = rw (lt-leb (length ns) (length index) (omega (arith, l, many)))

      pub build_few : {x : BuildAnswer} → x ≡ answer_of (Err TooFewPlaces) 0 → x ≡ build_answer (length index) (indexed_in form h t)
      build_few f = f ∙ sym (answer_by_lem few_places)

      pub kept_few : index ≡ built_index form h t index
      kept_few = sym (index_by_lem few_places)

    module _ (l : 4294967295 < last) where
      too_far : enough (length index) ns ≡ false
      too_far = and_off (leb (length ns) (length index)) (fitting ∙ le-ltb last (2 ^ 32) (omega (arith, l)))

      pub build_far : {x : BuildAnswer} → x ≡ answer_of (Err TooFewPlaces) 0 → x ≡ build_answer (length index) (indexed_in form h t)
      build_far f = f ∙ sym (answer_by_lem too_far)

      pub kept_far : index ≡ built_index form h t index
      kept_far = sym (index_by_lem too_far)

    module _ (l : count ≤ length index) (s : last ≤ 4294967295) where
      all_fit_lem : all_fit ns ≡ true
      all_fit_lem = fitting ∙ lt-ltb last (2 ^ 32) (omega (arith, s))

      places_enough : enough (length index) ns ≡ true
      places_enough = rw (le-leb (length ns) (length index) (omega (arith, l, many)), all_fit_lem)

      pub build_whole : answer_of (Ok tt) count ≡ build_answer (length index) (indexed_in form h t)
      build_whole = ap (answer_of (Ok tt)) many ∙ sym (answer_by_lem places_enough)

      pub index_whole : {cleared : List ℕ} → cleared ≡ replicate (length index) 0 → {index' : List ℕ} → PlacesAll form h t cleared index' → index' ≡ built_index form h t index
      index_whole z p = p.is ns are all_fit_lem ∙ ap (all_placed form h t ns) z ∙ sym (index_by_lem places_enough)

pub ruleset builds = (build_refused, kept_refused, build_few, kept_few, build_far, kept_far, build_whole, index_whole)
