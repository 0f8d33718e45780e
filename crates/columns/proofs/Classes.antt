-- Names that are such: what their marks tell, and that names are distinct where each is one of some that are. Assumes nothing.
use Rattle.std.specs.Prelude.{Result}
use Prim.Native.Nat.{ℕ, ◌+◌, ◌%◌, ◌^◌, ◌≤◌, ◌<◌}
use native.Mathlib.Omega.{arith}
use native.Mathlib.Nat.{mod-lt}
use mathlib.Core.Path.{◌≡◌, refl, sym, ap, ◌∙◌}
use mathlib.Core.Bool.{Bool, true, false, not, ◌||◌, ◌&&◌, false≢true}
use mathlib.Core.List.{List, [], ◌∷◌, ◌++◌}
use lib.Dec.{ltb}
use lib.ListN.{length, drop}
use borrow.Author.Tests.{eq-eqb, ne_eqb, ltb-true, ltb-false}
use Rattle.values.specs.Bytes.{Bytes, same}
use Rattle.values.specs.Hash.{wide_basis, wide_step, wide_from, wide_of}
use Rattle.values.specs.Marks.{is_met, meet, is_marked}
use Rattle.values.proofs.Tests.{pass, fail, test, both, or_r, or_on, and_l, and_r, and_off, not_true, not_false}
use Rattle.values.proofs.Sames.{same_sound, same_sym}
use Rattle.values.proofs.Markings.{none_met, meet_length, meet_kept}
use Rattle.rules.specs.Known.{is_in}
use Rattle.rules.specs.Columns.{split, distinct}
use Rattle.rules.specs.Entry.{sample_kind}
use Rattle.columns.specs.declared.header_line.ColumnsRefusal.{ColumnsRefusal}
use Rattle.columns.specs.HeaderLines.{samples_read, is_of, again, is_doubted, is_clear, is_sure, distinct_of, meet_if, mark_if, doubt_if, Doubts}

-- what answers the need of `name_hash`
pub own_hash : (name : Bytes) {x : ℕ} → x ≡ wide_step wide_basis 10 → {y : ℕ} → y ≡ wide_from x name → y ≡ wide_of sample_kind name
unfolding wide_of
own_hash name a b = rw (b, a)

-- what is marked stays so
module _ (ms : List ℕ) (hash : ℕ) where
  pub if_length : (b : Bool) → length (meet_if b ms hash) ≡ length ms
  if_length true = meet_length ms hash
  if_length false = refl

  pub if_kept : (b : Bool) (other : ℕ) → is_met ms other ≡ true → is_met (meet_if b ms hash) other ≡ true
  if_kept true other a = meet_kept ms hash other a
  if_kept false other a = a

-- what answers the needs of `doubt_name`
module _ (n k : ℕ) (ms ds : List ℕ) (name : Bytes) {h : ℕ} (eh : h ≡ wide_of sample_kind name) where
  module _ (ne : h % 4294967296 % n ≡ k → ⊥) where
    not_of : is_of n k name ≡ false
    unfolding is_of
    not_of = rw (← eh) (ne_eqb (h % 4294967296 % n) k ne)

    pub other_marks : ms ≡ mark_if (is_of n k name) ms name
    other_marks = rw not_of

    pub other_doubts : ds ≡ doubt_if (is_of n k name && is_marked ms sample_kind name) ds name
    other_doubts = rw not_of

  module _ (e : h % 4294967296 % n ≡ k) where
    of_class : is_of n k name ≡ true
    unfolding is_of
    of_class = rw (← eh) (eq-eqb (h % 4294967296 % n) k e)

    pub own_marks : {ns : List ℕ} → ns ≡ meet ms h → ns ≡ mark_if (is_of n k name) ms name
    own_marks i = i ∙ rw (of_class, eh)

    module _ {q : Bool} (eq : q ≡ is_met ms h) where
      met_is : is_marked ms sample_kind name ≡ q
      unfolding is_marked
      met_is = ap (is_met ms) (sym eh) ∙ sym eq

      pub no_doubts : not q ≡ true → ds ≡ doubt_if (is_of n k name && is_marked ms sample_kind name) ds name
      no_doubts f = rw (of_class, met_is ∙ not_true q f)

      pub own_doubts : not q ≡ false → {i : ℕ} → i ≡ wide_step h 1 → {es : List ℕ} → es ≡ meet ds i → es ≡ doubt_if (is_of n k name && is_marked ms sample_kind name) ds name
      own_doubts t ei j = j ∙ rw (of_class, met_is ∙ not_false q t, ei, eh)

pub ruleset doubted = (other_marks, other_doubts, own_marks, no_doubts, own_doubts, meet_length)

-- One name more

pub in_append : (x : Bytes) (xs ys : List Bytes) → is_in x (xs ++ ys) ≡ (is_in x xs || is_in x ys)
unfolding is_in
in_append x [] ys = refl
in_append x (y ∷ xs) ys = elim (test (same y x)) [
  | pass e ↦ rw e
  | fail e ↦ rw e (in_append x xs ys)
]

module _ (such : Bytes → Bool) where
  pub distinct_twice : (xs : List Bytes) (y : Bytes) (ys : List Bytes) → such y ≡ true → is_in y xs ≡ true → distinct_of such (xs ++ y ∷ ys) ≡ false
  unfolding is_in distinct_of
  distinct_twice [] y ys o e = absurd (false≢true e)
  distinct_twice (x ∷ xs) y ys o e = elim (test (same x y)) [
    | pass f ↦
        let own : such x ≡ true = ap such (same_sound x y f) ∙ o in
        rw (own, in_append x xs (y ∷ ys), is_in, same_sym y x, f, or_on (is_in x xs) {b = true} refl)
    | fail f ↦ and_off (not (such x && is_in x (xs ++ y ∷ ys))) (distinct_twice xs y ys o (rw f at e))
  ]

  pub distinct_more : (xs : List Bytes) (y : Bytes) → distinct_of such xs ≡ true → (such y && is_in y xs) ≡ false → distinct_of such (xs ++ y ∷ []) ≡ true
  unfolding is_in distinct_of
  distinct_more [] y d e = rw (and_off (such y) {b = false} refl)
  distinct_more (x ∷ xs) y d e =
      let c : distinct_of such (xs ++ y ∷ []) ≡ true
      = distinct_more xs y (and_r (not (such x && is_in x xs)) (distinct_of such xs) d) (and_later (such y) (same x y) (is_in y xs) e) in
      elim (test (such x)) [
        | fail f ↦ rw (f, c)
        | pass f ↦
            let a : is_in x xs ≡ false = not_true (is_in x xs) (rw f at (and_l (not (such x && is_in x xs)) (distinct_of such xs) d)) in
            elim (test (same y x)) [
              | fail g ↦ rw (f, in_append x xs (y ∷ []), a, g, c)
              | pass g ↦
                  let own : such y ≡ true = ap such (same_sound y x g) ∙ f in
                  let here : same x y ≡ true = same_sym x y ∙ g in absurd (false≢true (sym e ∙ rw (own, here)))
            ]
      ]
    where
      and_later : (o a b : Bool) → (o && (a || b)) ≡ false → (o && b) ≡ false
      and_later true a b h = or_r a b h
      and_later false a b h = refl

-- Names are distinct where each is one of some that are

distinct_each : (such : Bytes → Bool) (xs : List Bytes) → ((x : Bytes) → such x ≡ true → (some : Bytes → Bool) × (some x ≡ true) × (distinct_of some xs ≡ true))
    → distinct_of such xs ≡ true
unfolding distinct_of
distinct_each such [] f = refl
distinct_each such (x ∷ xs) f =
    let rest : distinct_of such xs ≡ true
    = distinct_each such xs (λ y o. let r = f y o in (r.0, r.1, and_r (not (r.0 x && is_in x xs)) (distinct_of r.0 xs) r.2)) in
    elim (test (such x)) [
      | fail e ↦ rw (e, rest)
      | pass e ↦
          let r = f x e in
          let a : is_in x xs ≡ false = not_true (is_in x xs) (rw r.1 at (and_l (not (r.0 x && is_in x xs)) (distinct_of r.0 xs) r.2)) in
          rw (e, a, rest)
    ]

pub distinct_fewer : (such some : Bytes → Bool) → ((x : Bytes) → such x ≡ true → some x ≡ true) → (xs : List Bytes) → distinct_of some xs ≡ true → distinct_of such xs ≡ true
distinct_fewer such some f xs d = distinct_each such xs (λ x o. (some, f x o, d))

all_classes : (n : ℕ) → 0 < n → (ds : List ℕ) (xs : List Bytes) → ((k : ℕ) → k < n → distinct_of (is_sure n k ds) xs ≡ true) → distinct_of (is_clear ds) xs ≡ true
unfolding is_sure is_of
all_classes n l ds xs f = distinct_each (is_clear ds) xs (λ x o.
    let h = wide_of sample_kind x % 2 ^ 32 in
    (is_sure n (h % n) ds, rw (eq-eqb (h % n) (h % n) refl) o, f (h % n) (mod-lt h l)))

-- where no clear name stands twice, only those in doubt may
clear_and_doubted : (ds : List ℕ) (xs : List Bytes) → distinct_of (is_clear ds) xs ≡ true → distinct_of (is_doubted ds) xs ≡ distinct xs
unfolding is_clear distinct_of distinct
clear_and_doubted ds xs c = elim (test (distinct_of (is_doubted ds) xs)) [
  | pass d ↦ d ∙ sym (sym (each xs) ∙ distinct_each (λ (x : Bytes). true) xs (λ x o. elim (test (is_doubted ds x)) [ pass e ↦ (is_doubted ds, e, d) | fail e ↦ (is_clear ds, rw e, c) ]))
  | fail d ↦ elim (test (distinct xs)) [
    | pass e ↦ both (distinct_fewer (is_doubted ds) (λ (x : Bytes). true) (λ x o. refl) xs (each xs ∙ e)) d
    | fail e ↦ d ∙ sym e
  ]
]
  where
    each : (xs : List Bytes) → distinct_of (λ (x : Bytes). true) xs ≡ distinct xs
    each [] = refl
    each (x ∷ xs) = rw (each xs)

-- what answers the needs of those that count: where there are no doubts, no name is clear
pub none_clear : (ds : List ℕ) (xs : List Bytes) → length ds ≡ 0 → distinct_of (is_clear ds) xs ≡ true
unfolding is_clear is_doubted
none_clear ds xs e = distinct_each (is_clear ds) xs (λ x o. both (sym (none_met ds (again x) e)) (not_true (is_met ds (again x)) o))

pub count_doubted : (ds s : Bytes) {r : Result (Bool × ℕ) ColumnsRefusal} → r ≡ samples_read (distinct_of (is_doubted ds) (split (drop 46 s))) (length (split (drop 46 s)))
    → distinct_of (is_clear ds) (split (drop 46 s)) ≡ true → r ≡ samples_read (distinct (split (drop 46 s))) (length (split (drop 46 s)))
count_doubted ds s e c = e ∙ ap (λ (d : Bool). samples_read d (length (split (drop 46 s)))) (clear_and_doubted ds (split (drop 46 s)) c)

pub ruleset counted = (none_clear, count_doubted)

-- Class by class

pub sure_less : (n k : ℕ) (ds es : List ℕ) → ((x : Bytes) → is_doubted ds x ≡ true → is_doubted es x ≡ true) → (x : Bytes) → is_sure n k es x ≡ true → is_sure n k ds x ≡ true
unfolding is_sure is_clear
sure_less n k ds es up x o = elim (test (is_doubted ds x)) [
  | pass e ↦ both (up x e) (not_true (is_doubted es x) (and_r (is_of n k x) (not (is_doubted es x)) o))
  | fail e ↦ rw (and_l (is_of n k x) (not (is_doubted es x)) o, e)
]

-- what answers the needs of `doubt_classes`: no clear name of a class before k stands twice
pub record Classing (s : Bytes) (n k : ℕ) (ds₀ ds : List ℕ) : Type 0 where
  pub some : 0 < n
  pub long : length ds ≡ length ds₀
  pub fresh : (j : ℕ) → j < k → distinct_of (is_sure n j ds) (split (drop 46 s)) ≡ true

pub class_start : (s : Bytes) (n : ℕ) (ds : List ℕ) → Classing s (n + 1) 0 ds ds
class_start s n ds = record { some = omega arith; long = refl; fresh = λ j l. absurd (omega arith) }

module _ {s : Bytes} {n k : ℕ} {ds₀ ds : List ℕ} (g : Classing s n k ds₀ ds) where
  pub class_some : 0 < n
  class_some = g.some

  pub class_long : length ds ≡ length ds₀
  class_long = g.long

  pub class_next : {es : List ℕ} → Doubts n k (split (drop 46 s)) ds es → length es ≡ length ds → Classing s n (k + 1) ds₀ es
  class_next {es} d el = record {
    some = g.some;
    long = el ∙ g.long;
    fresh = λ j l. elim (test (ltb j k)) [
      | pass q ↦ distinct_fewer (is_sure n j es) (is_sure n j ds) (sure_less n j ds es d.kept) (split (drop 46 s)) (g.fresh j (ltb-true j k q))
      | fail q ↦ let z : j ≡ k = omega (arith, ltb-false j k q) in rw z d.fresh
    ];
  }

  pub class_last : n ≤ k → distinct_of (is_clear ds) (split (drop 46 s)) ≡ true
  class_last l = all_classes n g.some ds (split (drop 46 s)) (λ j i. g.fresh j (omega arith))

pub ruleset classings = (class_start, class_some, class_long, class_next, class_last)
