-- Whether a name was met, how many names there are, and which are in doubt: a turn of each loop on plain values. Assumes nothing.
use Rattle.std.specs.Prelude.{Ok, Err}
use Prim.Native.Nat.{ℕ, ◌+◌, ◌-◌, ◌≤◌, ◌<◌}
use native.Mathlib.Omega.{arith}
use mathlib.Core.Path.{◌≡◌, refl, sym, ap, ◌∙◌}
use mathlib.Core.Bool.{Bool, true, false, not, ◌||◌, ◌&&◌, false≢true}
use mathlib.Core.List.{List, [], ◌∷◌, ◌++◌}
use lib.ListN.{length, drop, take, length-append, take-append-drop}
use lib.Seq.{drop-drop}
use Rattle.values.specs.Bytes.{Bytes, is, before, same, TAB}
use Rattle.values.specs.Hash.{wide_step, wide_of}
use Rattle.values.specs.Marks.{is_met, meet, is_marked}
use Rattle.values.proofs.Tests.{pass, fail, test, both, and_l, and_r, and_off, not_true, not_false}
use Rattle.values.proofs.Lists.{there, past, stands, before_none}
use Rattle.values.proofs.Sames.{same_sound}
use Rattle.values.proofs.Markings.{meet_own, sure}
use Rattle.rules.specs.Known.{is_in}
use Rattle.rules.specs.Columns.{split}
use Rattle.rules.specs.Entry.{sample_kind}
use Rattle.columns.specs.declared.header_line.ColumnsRefusal.TheVariants as read
use Rattle.columns.specs.HeaderLines.{samples_read, ended, is_of, again, is_doubted, is_clear, is_sure, distinct_of, mark_if, doubt_if, is_repeated, mark_of, Doubts}
use Rattle.columns.proofs.Classes.{if_length, if_kept, in_append, distinct_twice, distinct_more, distinct_fewer, sure_less}
use Rattle.columns.proofs.Splits.{name_part, part_tab, split_last, split_more, ended_none, ended_more, ended_names, names_more}

-- the name that stands at `at`
abbrev name_at : Bytes → ℕ → Bytes
name_at s at = before (is TAB) (drop at s)

-- the names before `at` are others
pub record Looking (names name : Bytes) (at : ℕ) : Type 0 where
  pub still : is_in name (ended names) ≡ is_in name (ended (drop at names))

pub look_all : (names name : Bytes) → Looking names name 0
look_all names name = record { still = refl }

module _ {names name : Bytes} {at : ℕ} (g : Looking names name at) {end : ℕ} (a : end ≡ at + length (name_at names at)) where
  pub names_ended : length names ≤ end → false ≡ is_in name (ended names)
  unfolding is_in
  names_ended h = sym (g.still ∙ rw (ended_none names at a h))

  -- q tells whether the one at `at` is the name
  module _ (h : end < length names) {p : Bytes} (b : p ≡ take (end - at) (drop at names)) {q : Bool} (c : q ≡ same p name) where
    turn : is_in name (ended names) ≡ (q || is_in name (ended (drop (end + 1) names)))
    unfolding is_in
    turn = g.still ∙ rw (ended_more names at a h, c, b, name_part names at a)

    pub name_found : q ≡ true → true ≡ is_in name (ended names)
    name_found e = sym (turn ∙ rw e)

    pub name_next : q ≡ false → Looking names name (end + 1)
    name_next e = record { still = turn ∙ rw e }

pub name_less : (s : Bytes) (at : ℕ) {stop : ℕ} → stop ≡ at + length (name_at s at) → stop < length s → length s - (stop + 1) < length s - at
name_less s at a h = omega arith

pub ruleset looks = (look_all, names_ended, name_found, name_next, name_less)

-- what answers the needs of `is_repeated`
module _ (ds names ms name : Bytes) {h : ℕ} (eh : h ≡ wide_of sample_kind name) {i : ℕ} (ei : i ≡ wide_step h 1) {d : Bool} (ed : d ≡ is_met ds i) where
  doubt_is : is_doubted ds name ≡ d
  unfolding is_doubted
  doubt_is = sym (ed ∙ rw (ei, eh))

  pub name_clear : not d ≡ true → false ≡ is_repeated ds names ms name
  unfolding is_repeated
  name_clear f = rw (doubt_is, not_true d f)

  pub clear_marks : not d ≡ true → ms ≡ mark_of ds ms name
  clear_marks f = rw (doubt_is, not_true d f)

  module _ (t : not d ≡ false) where
    pub doubted_marks : {ns : Bytes} → ns ≡ meet ms h → ns ≡ mark_of ds ms name
    doubted_marks e = e ∙ rw (doubt_is, not_false d t, eh)

    module _ {q : Bool} (eq : q ≡ is_met ms h) where
      pub name_unmarked : not q ≡ true → false ≡ is_repeated ds names ms name
      unfolding is_repeated is_marked
      name_unmarked f = rw (doubt_is, not_false d t, ← eh, ← eq, not_true q f)

      pub name_looked : not q ≡ false → {r : Bool} → r ≡ is_in name (ended names) → r ≡ is_repeated ds names ms name
      unfolding is_repeated is_marked
      name_looked f e = e ∙ rw (doubt_is, not_false d t, ← eh, ← eq, not_false q f)

pub ruleset repeats = (name_clear, clear_marks, doubted_marks, name_unmarked, name_looked)

-- Names one after the other

-- the names before `at`: such are marked, and none that is sure stands twice
pub record Walked (such sure : Bytes → Bool) (s ms₀ ms : Bytes) (at : ℕ) : Type 0 where
  pub begun : 46 ≤ at
  pub long : length ms ≡ length ms₀
  pub names : List Bytes
  pub stand : (t : Bytes) → split (take (at - 46) (drop 46 s) ++ t) ≡ names ++ split t
  pub marked : (x : Bytes) → such x ≡ true → is_in x names ≡ true → is_met ms (wide_of sample_kind x) ≡ true
  pub fresh : distinct_of sure names ≡ true

walk_start : (such sure : Bytes → Bool) (s ms : Bytes) → Walked such sure s ms ms 46
unfolding distinct_of is_in
walk_start such sure s ms = record {
  begun = omega arith;
  long = refl;
  names = [];
  stand = λ t. refl;
  marked = λ x o e. absurd (false≢true e);
  fresh = refl;
}

module _ {such sure : Bytes → Bool} {s ms₀ ms : Bytes} {at : ℕ} (g : Walked such sure s ms₀ ms at) where
  pub walk_length : length ms ≡ length ms₀
  walk_length = g.long

  walk_all : split (drop 46 s) ≡ g.names ++ split (drop at s)
  walk_all =
      let n : 46 + (at - 46) ≡ at = omega (arith, g.begun) in
      let d : drop (at - 46) (drop 46 s) ≡ drop at s = drop-drop (at - 46) 46 s ∙ rw n in
      ap split (sym (take-append-drop (at - 46) (drop 46 s)) ∙ ap (take (at - 46) (drop 46 s) ++◌) d) ∙ g.stand (drop at s)

  module _ {end : ℕ} (a : end ≡ at + length (name_at s at)) where
    walk_last : length s ≤ end → split (drop 46 s) ≡ g.names ++ name_at s at ∷ []
    walk_last h = walk_all ∙ ap (g.names ++◌) (split_last s at a h)

    -- a name more, which is new if it is to be sure then
    module _ (sure' : Bytes → Bool) (less : (x : Bytes) → sure' x ≡ true → sure x ≡ true) (new : (sure' (name_at s at) && is_in (name_at s at) g.names) ≡ false) where
      walk_fresh : distinct_of sure' (g.names ++ name_at s at ∷ []) ≡ true
      walk_fresh = distinct_more sure' g.names (name_at s at) (distinct_fewer sure' sure less g.names g.fresh) new

      walk_next : end < length s → {name : Bytes} → name ≡ take (end - at) (drop at s) → {ns : Bytes} → ns ≡ mark_if (such name) ms name → Walked such sure' s ms₀ ns (end + 1)
      unfolding is_in
      walk_next h {name} b m = record {
        begun = omega (arith, g.begun);
        long = ap length m ∙ if_length ms (wide_of sample_kind name) (such name) ∙ g.long;
        names = g.names ++ name_at s at ∷ [];
        stand = λ t. ap (λ (x : Bytes). split (x ++ t)) (part_tab s at a 46 g.begun h)
            ∙ names_more (take (at - 46) (drop 46 s)) g.names g.stand (name_at s at) (before_none (is TAB) (drop at s)) t;
        marked = λ x o i. rw (m, b, name_part s at a) (still x o i);
        fresh = walk_fresh;
      }
        where
          still : (x : Bytes) → such x ≡ true → is_in x (g.names ++ name_at s at ∷ []) ≡ true → is_met (mark_if (such (name_at s at)) ms (name_at s at)) (wide_of sample_kind x) ≡ true
          still x o i = elim (test (is_in x g.names)) [
            | pass f ↦ if_kept ms (wide_of sample_kind (name_at s at)) (such (name_at s at)) (wide_of sample_kind x) (g.marked x o f)
            | fail f ↦ elim (test (same (name_at s at) x)) [
              | pass l ↦ rw (same_sound (name_at s at) x l, o) (meet_own ms (wide_of sample_kind x))
              | fail l ↦ both i (in_append x g.names (name_at s at ∷ []) ∙ rw (f, l))
            ]
          ]

-- n names were counted, of which those in doubt are marked
pub record Counting (ds s ms₀ : Bytes) (at n : ℕ) (ms : Bytes) : Type 0 where
  pub walked : Walked (is_doubted ds) (is_doubted ds) s ms₀ ms at
  pub few : n ≤ at
  pub inside : n ≤ length s
  pub count : length walked.names ≡ n

pub count_start : (ds s ms : Bytes) → Counting ds s ms 46 0 ms
unfolding walk_start
count_start ds s ms = record { walked = walk_start (is_doubted ds) (is_doubted ds) s ms; few = omega arith; inside = omega arith; count = refl }

-- q tells whether the name was met
module _ {ds s ms₀ : Bytes} {at n : ℕ} {ms : Bytes} (g : Counting ds s ms₀ at n ms) {end : ℕ} (a : end ≡ at + length (name_at s at))
    {name : Bytes} (b : name ≡ take (end - at) (drop at s)) {p : Bytes} (d : p ≡ take (at - 46) (drop 46 s)) {q : Bool} (r : q ≡ is_repeated ds p ms name) where
  abbrev w : Walked (is_doubted ds) (is_doubted ds) s ms₀ ms at
  w = g.walked

  met : q ≡ (is_doubted ds (name_at s at) && is_in (name_at s at) w.names)
  unfolding is_repeated is_marked
  met = r ∙ rw (b, name_part s at a, d, ended_names (take (at - 46) (drop 46 s)) w.names w.stand)
      (sure_of (is_doubted ds (name_at s at)) (is_met ms (wide_of sample_kind (name_at s at))) (is_in (name_at s at) w.names) (w.marked (name_at s at)))
    where
      -- a test that is sure where the first one holds
      sure_of : (o m t : Bool) → (o ≡ true → t ≡ true → m ≡ true) → (o && (m && t)) ≡ (o && t)
      sure_of true m t f = sure m t (f refl)
      sure_of false m t f = refl

  pub count_twice : q ≡ true → Err read.DuplicateSample ≡ samples_read (distinct_of (is_doubted ds) (split (drop 46 s))) (length (split (drop 46 s)))
  count_twice e =
      let o = and_l (is_doubted ds (name_at s at)) (is_in (name_at s at) w.names) (sym met ∙ e) in
      let i = and_r (is_doubted ds (name_at s at)) (is_in (name_at s at) w.names) (sym met ∙ e) in
      elim (stands s end) [
        | there h ↦ rw (walk_all w, split_more s at a h, distinct_twice (is_doubted ds) w.names (name_at s at) (split (drop (end + 1) s)) o i)
        | past h ↦ rw (walk_last w a h, distinct_twice (is_doubted ds) w.names (name_at s at) [] o i)
      ]

  module _ (e : q ≡ false) where
    longer : length (w.names ++ name_at s at ∷ []) ≡ n + 1
    longer = length-append w.names (name_at s at ∷ []) ∙ ap (◌+ 1) g.count

    pub count_last : length s ≤ end → Ok (true, n + 1) ≡ samples_read (distinct_of (is_doubted ds) (split (drop 46 s))) (length (split (drop 46 s)))
    count_last h = rw (walk_last w a h, walk_fresh w a (is_doubted ds) (λ x o. o) (sym met ∙ e), longer)

    pub count_next : end < length s → {ns : Bytes} → ns ≡ mark_of ds ms name → Counting ds s ms₀ (end + 1) (n + 1) ns
    unfolding walk_next
    count_next h m = record {
      walked = walk_next w a (is_doubted ds) (λ x o. o) (sym met ∙ e) h b m;
      few = omega (arith, g.few);
      inside = omega (arith, g.few);
      count = longer;
    }

pub ruleset counts = (count_start, walk_length, count_twice, count_last, count_next, name_less)

-- the names of class k of n are marked, and those that may have been met in doubt
pub record Doubting (n k : ℕ) (s ms₀ ds₀ : Bytes) (at : ℕ) (ms ds : Bytes) : Type 0 where
  pub walked : Walked (is_of n k) (is_sure n k ds) s ms₀ ms at
  pub long : length ds ≡ length ds₀
  pub kept : (x : Bytes) → is_doubted ds₀ x ≡ true → is_doubted ds x ≡ true

pub doubt_start : (n k : ℕ) (s ms ds : Bytes) → Doubting n k s ms ds 46 ms ds
doubt_start n k s ms ds = record { walked = walk_start (is_of n k) (is_sure n k ds) s ms; long = refl; kept = λ x o. o }

module _ {n k : ℕ} {s ms₀ ds₀ : Bytes} {at : ℕ} {ms ds : Bytes} (g : Doubting n k s ms₀ ds₀ at ms ds) where
  pub doubt_length : length ds ≡ length ds₀
  doubt_length = g.long

  module _ {end : ℕ} (a : end ≡ at + length (name_at s at)) {name : Bytes} (b : name ≡ take (end - at) (drop at s))
      {es : Bytes} (d : es ≡ doubt_if (is_of n k name && is_marked ms sample_kind name) ds name) where
    stays : (x : Bytes) → is_doubted ds x ≡ true → is_doubted es x ≡ true
    unfolding is_doubted
    stays x o = rw d (if_kept ds (again name) (is_of n k name && is_marked ms sample_kind name) (again x) o)

    -- a name of the class that stands again was marked, so that it is in doubt
    sure_new : (is_sure n k es (name_at s at) && is_in (name_at s at) g.walked.names) ≡ false
    unfolding is_sure is_clear is_doubted is_marked
    sure_new = elim (test (is_of n k (name_at s at))) [
      | fail o ↦ rw o
      | pass o ↦ elim (test (is_in (name_at s at) g.walked.names)) [
        | fail i ↦ and_off (is_sure n k es (name_at s at)) i
        | pass i ↦ rw (d, b, name_part s at a, o, g.walked.marked (name_at s at) o i, meet_own ds (again (name_at s at)))
      ]
    ]

    pub doubt_last : length s ≤ end → Doubts n k (split (drop 46 s)) ds₀ es
    doubt_last h = record {
      kept = λ x o. stays x (g.kept x o);
      fresh = ap (distinct_of (is_sure n k es)) (walk_last g.walked a h) ∙ walk_fresh g.walked a (is_sure n k es) (sure_less n k ds es stays) sure_new;
    }

    pub doubt_next : end < length s → {ns : Bytes} → ns ≡ mark_if (is_of n k name) ms name → Doubting n k s ms₀ ds₀ (end + 1) ns es
    doubt_next h m = record {
      walked = walk_next g.walked a (is_sure n k es) (sure_less n k ds es stays) sure_new h b m;
      long = ap length d ∙ if_length ds (again name) (is_of n k name && is_marked ms sample_kind name) ∙ g.long;
      kept = λ x o. stays x (g.kept x o);
    }

pub ruleset doubts = (doubt_start, walk_length, doubt_length, doubt_last, doubt_next, name_less)
