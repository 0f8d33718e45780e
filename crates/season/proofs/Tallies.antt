-- What one header adds to the totals, by their places. Assumes nothing.
use Prim.Native.Nat.{ℕ, zero, suc, ◌+◌, ◌-◌, ◌≤◌, ◌<◌}
use native.Mathlib.Omega.{arith}
use native.Mathlib.Decide.{dec_le, ℕ_discrete}
use mathlib.Core.Path.{◌≡◌, refl, sym, ap, ◌∙◌}
use mathlib.Core.Bool.{Bool}
use mathlib.Core.List.{List, [], ◌++◌, map}
use lib.Dec.{eqb}
use lib.ListN.{length, get_or, set, length-set, drop, replicate, length-replicate, get_or-replicate, get_or-append}
use lib.Seq.{ext_get_or, get_or-append-add, get_or-set_same, get_or-set_other}
use borrow.Author.Tests.{eq-eqb, ne_eqb}
use Rattle.rules.specs.Entry.{Entry}
use Rattle.records.specs.Refusals.{number}
use Rattle.records.specs.declared.refusal.Refusal.{Refusal}
use Rattle.entries.specs.declared.form.Form.{Form}
use Rattle.entries.specs.declared.entry.Entry.{Entry as CodeEntry}
use Rattle.entries.specs.Values.{entry_of}
use Rattle.entries.specs.Tables.{room, entry_in, entries_in}
use Rattle.entries.proofs.Stored.{entries_here, entries_past}
use Rattle.season.specs.Sheet.{numbers, once, of_kind, tally_of}
use Rattle.season.specs.Answers.{KindsTold}

map_at : (f : ℕ → ℕ) (n k i : ℕ) → i < k → get_or (map f (numbers n k)) i 0 ≡ f (n + i)
unfolding numbers
map_at f n zero i l = absurd (omega arith)
map_at f n (suc k) zero l = let z : n ≡ n + 0 = omega arith in ap f z
map_at f n (suc k) (suc i) l = let z : n + 1 + i ≡ n + suc i = omega arith in map_at f (n + 1) k i (omega arith) ∙ ap f z

module _ (m : ℕ) (es : List Entry) where
  abbrev by_number : List ℕ
  by_number = map (λ n. once (eqb m n)) (numbers 0 28)

  abbrev by_kind : List ℕ
  by_kind = map (λ k. of_kind k es) (numbers 1 10)

  numbered : length by_number ≡ 28
  unfolding numbers
  numbered = refl

  pub tally_length : length (tally_of m es) ≡ 39
  unfolding tally_of numbers
  tally_length = refl

  pub tally_first : get_or (tally_of m es) 0 0 ≡ 1
  unfolding tally_of
  tally_first = refl

  tally_number : (q : ℕ) → q ≤ 27 → get_or (tally_of m es) (suc q) 0 ≡ once (eqb m q)
  unfolding tally_of
  tally_number q l = let z : 0 + q ≡ q = omega arith in get_or-append by_number by_kind 0 q (omega (arith, numbered)) ∙ map_at (λ n. once (eqb m n)) 0 28 q (omega arith) ∙ ap (λ (n : ℕ). once (eqb m n)) z

  tally_kind : (k : ℕ) → k ≤ 9 → get_or (tally_of m es) (suc (28 + k)) 0 ≡ of_kind (1 + k) es
  unfolding tally_of
  tally_kind k l = let z : 28 + k ≡ length by_number + k = omega (arith, numbered) in ap (λ (i : ℕ). get_or (by_number ++ by_kind) i 0) z ∙ get_or-append-add by_number by_kind k 0 ∙ map_at (λ k. of_kind k es) 1 10 k (omega arith)

  -- the totals by their places make the tally
  tally_is : (l : List ℕ) → length l ≡ 39 → get_or l 0 0 ≡ 1 → ((q : ℕ) → q ≤ 27 → get_or l (suc q) 0 ≡ once (eqb m q)) → ((k : ℕ) → 1 ≤ k → k ≤ 10 → get_or l (28 + k) 0 ≡ of_kind k es) → l ≡ tally_of m es
  unfolding tally_of
  tally_is l e first numbers-are kinds-are = ext_get_or 0 l (tally_of m es) (e ∙ sym tally_length) each
    where
      later : (q : ℕ) → q < 38 → Dec (q ≤ 27) → get_or l (suc q) 0 ≡ get_or (tally_of m es) (suc q) 0
      later q b (yes h) = numbers-are q h ∙ sym (tally_number q h)
      later q b (no h) =
          let z : q ≡ 28 + (q - 28) = omega arith in
          let y : suc (28 + (q - 28)) ≡ 28 + (1 + (q - 28)) = omega arith in
          rw z (ap (λ (i : ℕ). get_or l i 0) y ∙ kinds-are (1 + (q - 28)) (omega arith) (omega arith) ∙ sym (tally_kind (q - 28) (omega arith)))

      each : (i : ℕ) → i < length l → get_or l i 0 ≡ get_or (tally_of m es) i 0
      each zero b = first
      each (suc q) b = later q (omega (arith, e)) (dec_le q 27)

-- What answers the needs of `kinds`: the entries before number n are counted

pub record Counting (form : Form) (t l : List ℕ) (n : ℕ) : Type 0 where
  pub long : length l ≡ 39
  pub rest : (p : ℕ) → p < 29 → get_or l p 0 ≡ 0
  pub each : (k : ℕ) → 1 ≤ k → k ≤ 10 → get_or l (28 + k) 0 + of_kind k (drop n (entries_in form t)) ≡ of_kind k (entries_in form t)
  pub small : (k : ℕ) → 1 ≤ k → k ≤ 10 → get_or l (28 + k) 0 ≤ n

pub count_start : (form : Form) (t : List ℕ) → Counting form t (replicate 39 0) 0
count_start form t = record {
  long = length-replicate {0} {A = ℕ} 39 0;
  rest = λ p b. get_or-replicate {0} {A = ℕ} 39 p 0 0 (omega arith);
  each = λ k b c. ap (◌+ of_kind k (entries_in form t)) (get_or-replicate {0} {A = ℕ} 39 (28 + k) 0 0 (omega arith)) ∙ omega arith;
  small = λ k b c. let z = get_or-replicate {0} {A = ℕ} 39 (28 + k) 0 0 (omega arith) in omega (arith, z);
}

module _ {form : Form} {t l : List ℕ} {n : ℕ} (g : Counting form t l n) {m : ℕ} (all : m ≡ room form t) where
  pub count_end : m ≤ n → KindsTold (entries_in form t) l
  unfolding of_kind
  count_end h = record {
    long = g.long;
    rest = g.rest;
    each = λ k b c. let z = rw (entries_past form t n (rw (← all) h)) at (g.each k b c) in omega (arith, z);
  }

  module _ (h : n < m) (e : CodeEntry) (a : entry_of e ≡ entry_in form t n) where
    here_counted : (k : ℕ) → of_kind k (drop n (entries_in form t)) ≡ once (eqb e.kind k) + of_kind k (drop (n + 1) (entries_in form t))
    unfolding of_kind
    here_counted k = rw (entries_here form t n (omega (arith, h, all)), ← a)

    passed : ((k : ℕ) → 1 ≤ k → k ≤ 10 → e.kind ≡ k → ⊥) → Counting form t l (n + 1)
    passed no_kind = record {
      long = g.long;
      rest = g.rest;
      each = λ k b c. let z = here_counted k ∙ ap (λ (q : Bool). once q + of_kind k (drop (n + 1) (entries_in form t))) (ne_eqb e.kind k (no_kind k b c)) in omega (arith, z, g.each k b c);
      small = λ k b c. omega (arith, g.small k b c);
    }

    pub count_low : e.kind < 1 → Counting form t l (n + 1)
    count_low b = passed (λ k c d f. omega (arith, f))

    pub count_high : 10 < e.kind → Counting form t l (n + 1)
    count_high b = passed (λ k c d f. omega (arith, f))

    module _ (low : 1 ≤ e.kind) (high : e.kind ≤ 10) where
      pub count_more : Counting form t (set l (28 + e.kind) (get_or l (28 + e.kind) 0 + 1)) (n + 1)
      count_more = record {
        long = length-set l (28 + e.kind) (get_or l (28 + e.kind) 0 + 1) ∙ g.long;
        rest = λ p b. get_or-set_other l (28 + e.kind) p (get_or l (28 + e.kind) 0 + 1) 0 (λ f. omega (arith, f)) ∙ g.rest p b;
        each = λ k b c. by_kind_lem k b c (ℕ_discrete k e.kind);
        small = λ k b c. at_most k b c (ℕ_discrete k e.kind);
      }
        where
          same : get_or (set l (28 + e.kind) (get_or l (28 + e.kind) 0 + 1)) (28 + e.kind) 0 ≡ get_or l (28 + e.kind) 0 + 1
          same = get_or-set_same l (28 + e.kind) (get_or l (28 + e.kind) 0 + 1) 0 (omega (arith, g.long))

          differs : (k : ℕ) → (k ≡ e.kind → ⊥) → get_or (set l (28 + e.kind) (get_or l (28 + e.kind) 0 + 1)) (28 + k) 0 ≡ get_or l (28 + k) 0
          differs k f = get_or-set_other l (28 + e.kind) (28 + k) (get_or l (28 + e.kind) 0 + 1) 0 (λ z. f (omega (arith, z)))

          by_kind_lem : (k : ℕ) → 1 ≤ k → k ≤ 10 → Dec (k ≡ e.kind) → get_or (set l (28 + e.kind) (get_or l (28 + e.kind) 0 + 1)) (28 + k) 0 + of_kind k (drop (n + 1) (entries_in form t)) ≡ of_kind k (entries_in form t)
          by_kind_lem k b c (yes f) =
              let z = here_counted e.kind ∙ ap (λ (q : Bool). once q + of_kind e.kind (drop (n + 1) (entries_in form t))) (eq-eqb e.kind e.kind refl) in
              rw f (omega (arith, z, same, g.each e.kind low high))
          by_kind_lem k b c (no f) =
              let z = here_counted k ∙ ap (λ (q : Bool). once q + of_kind k (drop (n + 1) (entries_in form t))) (ne_eqb e.kind k (λ y. f (sym y))) in
              omega (arith, z, differs k f, g.each k b c)

          at_most : (k : ℕ) → 1 ≤ k → k ≤ 10 → Dec (k ≡ e.kind) → get_or (set l (28 + e.kind) (get_or l (28 + e.kind) 0 + 1)) (28 + k) 0 ≤ n + 1
          at_most k b c (yes f) = rw f (omega (arith, same, g.small e.kind low high))
          at_most k b c (no f) = omega (arith, differs k f, g.small k b c)

pub ruleset counts = (count_start, count_end, count_low, count_high, count_more)

-- What answers the needs of `accepted`

pub accepted_tally : {es : List Entry} {l : List ℕ} → KindsTold es l → set (set l 0 1) 1 1 ≡ tally_of 0 es
accepted_tally {es} {l} g = tally_is 0 es (set (set l 0 1) 1 1) (length-set (set l 0 1) 1 1 ∙ length-set l 0 1 ∙ g.long) first by_number_lem by_kind_lem
  where
    later : (p : ℕ) → 2 ≤ p → get_or (set (set l 0 1) 1 1) p 0 ≡ get_or l p 0
    later p b = get_or-set_other (set l 0 1) 1 p 1 0 (λ f. omega (arith, f)) ∙ get_or-set_other l 0 p 1 0 (λ f. omega (arith, f))

    first : get_or (set (set l 0 1) 1 1) 0 0 ≡ 1
    first = get_or-set_other (set l 0 1) 1 0 1 0 (λ f. omega (arith, f)) ∙ get_or-set_same l 0 1 0 (omega (arith, g.long))

    by_number_lem : (q : ℕ) → q ≤ 27 → get_or (set (set l 0 1) 1 1) (suc q) 0 ≡ once (eqb 0 q)
    by_number_lem zero b = get_or-set_same (set l 0 1) 1 1 0 (omega (arith, g.long, length-set l 0 1))
    by_number_lem (suc q) b = later (suc (suc q)) (omega arith) ∙ g.rest (suc (suc q)) (omega arith) ∙ sym (ap once (ne_eqb 0 (suc q) (λ f. omega (arith, f))))

    by_kind_lem : (k : ℕ) → 1 ≤ k → k ≤ 10 → get_or (set (set l 0 1) 1 1) (28 + k) 0 ≡ of_kind k es
    by_kind_lem k b c = later (28 + k) (omega arith) ∙ g.each k b c

-- What answers the needs of `refused`

-- a sheet with one header read, and all others 0
abbrev one : List ℕ
one = set (replicate 39 0) 0 1

one_length : length one ≡ 39
one_length = length-set {A = ℕ} (replicate 39 0) 0 1 ∙ length-replicate {0} {A = ℕ} 39 0

one_later : (p : ℕ) → 1 ≤ p → p < 39 → get_or one p 0 ≡ 0
one_later p b c = get_or-set_other {A = ℕ} (replicate 39 0) 0 p 1 0 (λ f. omega (arith, f)) ∙ get_or-replicate {0} {A = ℕ} 39 p 0 0 c

module _ (x : Refusal) {n : ℕ} (e : n ≡ number x) where
  pub refused_other : 27 < n → one ≡ tally_of (number x) []
  unfolding of_kind
  refused_other h = rw (← e) (tally_is n [] one one_length refl
      (λ q b. one_later (suc q) (omega arith) (omega arith) ∙ sym (ap once (ne_eqb n q (λ f. omega (arith, f)))))
      (λ k b c. one_later (28 + k) (omega arith) (omega arith)))

  pub refused_tally : n ≤ 27 → set one (n + 1) 1 ≡ tally_of (number x) []
  unfolding of_kind
  refused_tally h = rw (← e) (tally_is n [] (set one (n + 1) 1) (length-set one (n + 1) 1 ∙ one_length) (get_or-set_other one (n + 1) 0 1 0 (λ f. omega (arith, f))) by_number_lem
      (λ k b c. get_or-set_other one (n + 1) (28 + k) 1 0 (λ f. omega (arith, f)) ∙ one_later (28 + k) (omega arith) (omega arith)))
    where
      at : (q : ℕ) → q ≤ 27 → Dec (q ≡ n) → get_or (set one (n + 1) 1) (suc q) 0 ≡ once (eqb n q)
      at q b (yes f) = let z : suc q ≡ n + 1 = omega (arith, f) in ap (λ (i : ℕ). get_or (set one (n + 1) 1) i 0) z ∙ get_or-set_same one (n + 1) 1 0 (omega (arith, one_length)) ∙ sym (ap once (eq-eqb n q (sym f)))
      at q b (no f) = get_or-set_other one (n + 1) (suc q) 1 0 (λ z. f (omega (arith, z))) ∙ one_later (suc q) (omega arith) (omega arith) ∙ sym (ap once (ne_eqb n q (λ z. f (sym z))))

      by_number_lem : (q : ℕ) → q ≤ 27 → get_or (set one (n + 1) 1) (suc q) 0 ≡ once (eqb n q)
      by_number_lem q b = at q b (ℕ_discrete q n)

pub ruleset refusals = (refused_other, refused_tally)
