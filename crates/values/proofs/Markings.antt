-- Marks: a word and its bits, and what stays marked. Assumes nothing.
use Prim.Native.Nat.{ℕ, ◌-◌, ◌*◌, ◌/◌, ◌%◌, ◌^◌, ◌≤◌, ◌<◌, min, max}
use native.Mathlib.Omega.{arith}
use native.Mathlib.Nat.{mod-lt, mul-le-mul, div-lt_iff_lt-mul, min-le_left, min-eq_left, min-eq_right}
use mathlib.Core.Path.{◌≡◌, refl, sym, ap, ◌∙◌}
use mathlib.Core.Bool.{Bool, true, false, ◌||◌, ◌&&◌}
use mathlib.Core.List.{List, [], ◌∷◌}
use lib.Arith.{bin_ind}
use lib.Bits.{bit_and, bit_or, and_step, or_step, or_comm, and_self, and_le_r}
use lib.Dec.{ltb, eqb}
use lib.ListN.{length, get_or, set, length-set}
use lib.Pow.{pow-lt}
use lib.Seq.{get_or-set_same, get_or-set_other}
use borrow.Author.Tests.{lt-ltb, le-ltb, eq-eqb, ne_eqb, eqb-true, eqb-false}
use Rattle.values.specs.Bytes.{Bytes}
use Rattle.values.specs.Hash.{wide_step, wide_of}
use Rattle.values.specs.Marks.{ended, mark_word, mark_bit, mark_bits, has_bits, is_set, set_bits, set_all, is_few, second, is_met, meet, is_marked, mark, is_noted, note}
use Rattle.values.proofs.Tests.{pass, fail, test, and_l, and_r, and_on, or_on}
use Rattle.values.proofs.Hashes.{product_fits}

-- Bits: what `or` adds takes none away

bits_kept : (x y z : ℕ) → bit_and x z ≤ bit_and (bit_or x y) z
bits_kept = bin_ind (λ (x : ℕ). (y z : ℕ) → bit_and x z ≤ bit_and (bit_or x y) z) (λ y z. omega arith) step
  where
    step : (x : ℕ) → ((y z : ℕ) → bit_and (x / 2) z ≤ bit_and (bit_or (x / 2) y) z) → (y z : ℕ) → bit_and x z ≤ bit_and (bit_or x y) z
    step x ih y z =
        let o = or_step x y in
        let half : bit_or x y / 2 ≡ bit_or (x / 2) (y / 2) = omega arith in
        let odd : bit_or x y % 2 ≡ max (x % 2) (y % 2) = omega arith in
        rw (and_step x z, and_step (bit_or x y) z, half, odd) (omega (arith, ih (y / 2) (z / 2)))

-- what has all bits of a mask gives the mask back
bits_had : (x z : ℕ) → z ≤ bit_and x z → has_bits x z ≡ true
unfolding has_bits
bits_had x z h = eq-eqb (bit_and x z) z (omega (arith, and_le_r x z))

bits_set : (word bits : ℕ) → has_bits (bit_or word bits) bits ≡ true
bits_set word bits = bits_had (bit_or word bits) bits (omega (arith, rw (and_self bits, or_comm bits word) at (bits_kept bits word bits)))

bits_stay : (word bits other : ℕ) → has_bits word bits ≡ true → has_bits (bit_or word other) bits ≡ true
unfolding has_bits
bits_stay word bits other a = bits_had (bit_or word other) bits (omega (arith, eqb-true (bit_and word bits) bits a, bits_kept word other bits))

-- A word of the marks

pub word_inside : (n hash : ℕ) → 0 < n → mark_word n hash < n
unfolding mark_word
word_inside n hash h =
    (div-lt_iff_lt-mul {k = 2 ^ 32} (omega arith)).1
    (omega (arith, mul-le-mul {n₁ = hash % 2 ^ 32} {m₁ = min n (2 ^ 32 - 1)} {n₂ = 2 ^ 32 - 1} {m₂ = n} (omega arith) (min-le_left n (2 ^ 32 - 1))))

-- what answers the needs of `word_of` and `bit_of`
module _ (n hash : ℕ) where
  pub word_of_few : n < 2 ^ 32 - 1 → hash % 2 ^ 32 * n / 2 ^ 32 ≡ mark_word n hash
  unfolding mark_word
  word_of_few h = rw (min-eq_left {n = n} {m = 2 ^ 32 - 1} (omega arith))

  pub word_of_many : 2 ^ 32 - 1 ≤ n → hash % 2 ^ 32 * (2 ^ 32 - 1) / 2 ^ 32 ≡ mark_word n hash
  unfolding mark_word
  word_of_many h = rw (min-eq_right {n = 2 ^ 32 - 1} {m = n} h)

  pub few_fit : n < 2 ^ 32 - 1 → hash % 2 ^ 32 * n < 2 ^ 64
  few_fit h = product_fits (hash % 2 ^ 32) n (mod-lt hash (omega arith)) (omega arith)

pub ruleset words = (word_of_few, word_of_many, few_fit)

pub bit_is : (n : ℕ) → 1 * 2 ^ (n % 64) % 2 ^ 64 ≡ mark_bit n
unfolding mark_bit
bit_is n = omega (arith, pow-lt {i = n % 64} {j = 64} (mod-lt n (omega arith)))

pub bits_are : (hash : ℕ) {a b c d : ℕ} → a ≡ mark_bit (hash / 2 ^ 32) → b ≡ mark_bit (hash / 2 ^ 38) → c ≡ mark_bit (hash / 2 ^ 44) → d ≡ mark_bit (hash / 2 ^ 50)
    → bit_or (bit_or (bit_or a b) c) d ≡ mark_bits hash
unfolding mark_bits
bits_are hash ea eb ec ed = rw (ea, eb, ec, ed)

-- where there are no words, none is set
no_words : (ms : List ℕ) (bits : ℕ) (at : List ℕ → ℕ) → length ms ≡ 0 → ms ≡ set_bits ms (at ms) bits
no_words [] bits at e = refl
no_words (m ∷ ms) bits at e = absurd (omega arith)

module _ (ms : List ℕ) (hash : ℕ) where
  pub none_set : length ms ≡ 0 → true ≡ is_set ms hash
  unfolding is_set
  none_set e = rw e

  pub none_to_set : length ms ≡ 0 → ms ≡ set_all ms hash
  unfolding set_all
  none_to_set e = no_words ms (mark_bits hash) (λ ns. mark_word (length ns) hash) e

  -- what the code computed
  module _ {at : ℕ} (ea : at ≡ mark_word (length ms) hash) where
    pub word_here : (length ms ≡ 0 → ⊥) → at < length ms
    word_here some = rw ea (word_inside (length ms) hash (omega (arith, some)))

    module _ {bits : ℕ} (eb : bits ≡ mark_bits hash) where
      pub looked_up : (length ms ≡ 0 → ⊥) → eqb (bit_and (get_or ms at 0) bits) bits ≡ is_set ms hash
      unfolding is_set has_bits
      looked_up some = rw (ea, eb, ne_eqb (length ms) 0 some)

      pub set_is : set ms at (bit_or (get_or ms at 0) bits) ≡ set_all ms hash
      unfolding set_all
      set_is = rw (ea, eb)

-- what answers the needs of `is_set` and `set_all`
pub ruleset looks = (none_set, none_to_set, word_here, looked_up, set_is)

-- by one bit
module _ (ms : List ℕ) (n : ℕ) where
  pub none_noted : length ms ≡ 0 → true ≡ is_noted ms n
  unfolding is_noted
  none_noted e = rw e

  pub none_to_note : length ms ≡ 0 → ms ≡ note ms n
  unfolding note
  none_to_note e = no_words ms (mark_bit (n / 2 ^ 32)) (λ ns. mark_word (length ns) n) e

  module _ {at : ℕ} (ea : at ≡ mark_word (length ms) n) where
    pub note_here : (length ms ≡ 0 → ⊥) → at < length ms
    note_here some = rw ea (word_inside (length ms) n (omega (arith, some)))

    module _ {bit : ℕ} (eb : bit ≡ mark_bit (n / 2 ^ 32)) where
      pub note_looked : (length ms ≡ 0 → ⊥) → eqb (bit_and (get_or ms at 0) bit) bit ≡ is_noted ms n
      unfolding is_noted has_bits
      note_looked some = rw (ea, eb, ne_eqb (length ms) 0 some)

      pub noted_is : set ms at (bit_or (get_or ms at 0) bit) ≡ note ms n
      unfolding note
      noted_is = rw (ea, eb)

pub ruleset notes = (none_noted, none_to_note, note_here, note_looked, noted_is)

-- What is marked stays so

-- at is a place of the marks
module _ (ms : List ℕ) (at bits : ℕ) where
  own_bits : at < length ms → has_bits (get_or (set_bits ms at bits) at 0) bits ≡ true
  own_bits l = rw (get_or-set_same ms at (bit_or (get_or ms at 0) bits) 0 l) (bits_set (get_or ms at 0) bits)

  other_bits : at < length ms → (place other : ℕ) → has_bits (get_or ms place 0) other ≡ true → has_bits (get_or (set_bits ms at bits) place 0) other ≡ true
  other_bits l place other a = elim (test (eqb place at)) [
    | pass f ↦
        let e = eqb-true place at f in
        rw (e, get_or-set_same ms at (bit_or (get_or ms at 0) bits) 0 l) (bits_stay (get_or ms at 0) other bits (rw e at a))
    | fail f ↦ rw (get_or-set_other ms at place (bit_or (get_or ms at 0) bits) 0 (eqb-false place at f)) a
  ]

module _ (ms : List ℕ) (hash : ℕ) where
  abbrev at : ℕ
  at = mark_word (length ms) hash

  inside : eqb (length ms) 0 ≡ false → at < length ms
  inside e = word_inside (length ms) hash (omega (arith, eqb-false (length ms) 0 e))

  pub set_length : length (set_all ms hash) ≡ length ms
  unfolding set_all
  set_length = length-set ms _ _

  set_own : is_set (set_all ms hash) hash ≡ true
  unfolding is_set set_all
  set_own = elim (test (eqb (length ms) 0)) [
    | pass e ↦ rw (length-set ms at _, e)
    | fail e ↦ rw (length-set ms at _, e) (own_bits ms at (mark_bits hash) (inside e))
  ]

  set_kept : (other : ℕ) → is_set ms other ≡ true → is_set (set_all ms hash) other ≡ true
  unfolding is_set set_all
  set_kept other a = elim (test (eqb (length ms) 0)) [
    | pass e ↦ rw (length-set ms at _, e)
    | fail e ↦ rw (length-set ms at _, e) (other_bits ms at (mark_bits hash) (inside e) (mark_word (length ms) other) (mark_bits other) (rw e at a))
  ]

-- A text, by one word or two

few_still : (ms : List ℕ) (hash : ℕ) → is_few (set_all ms hash) ≡ is_few ms
unfolding is_few
few_still ms hash = rw (set_length ms hash)

module _ (ms : List ℕ) (hash : ℕ) where
  abbrev one : List ℕ
  one = set_all ms (ended hash)

  pub none_met : length ms ≡ 0 → true ≡ is_met ms hash
  unfolding is_met is_few
  none_met e = rw (← none_set ms (ended hash) e, e)

  few_is : is_few ms ≡ true → meet ms hash ≡ one
  unfolding meet
  few_is e = rw (meet, e)

  many_is : is_few ms ≡ false → meet ms hash ≡ set_all one (second hash)
  unfolding meet
  many_is e = rw (meet, e)

  -- what answers the needs of `is_met` and `meet_hash`
  module _ {end : ℕ} (ee : end ≡ wide_step hash 0) where
    pub not_met : {q : Bool} → q ≡ is_set ms end → q ≡ false → q ≡ is_met ms hash
    unfolding is_met
    not_met {q} e n = n ∙ rw (← ee, ← e, n)

    pub met_once : {q : Bool} → q ≡ is_set ms end → q ≡ true → length ms < 65536 → ltb (length ms) 65536 ≡ is_met ms hash
    unfolding is_met is_few
    met_once {q} e n l = lt-ltb (length ms) 65536 l ∙ rw (← ee, ← e, n, lt-ltb (length ms) 65536 l)

    pub met_again : {q : Bool} → q ≡ is_set ms end → q ≡ true → 65536 ≤ length ms → {other : ℕ} → other ≡ wide_step end 1 → {r : Bool} → r ≡ is_set ms other → r ≡ is_met ms hash
    unfolding is_met is_few
    met_again {q} e n l eo f = f ∙ rw (eo, ← ee, ← e, n, le-ltb (length ms) 65536 l)

    pub few_met : length ms < 65536 → {q : Bool} → q ≡ is_set ms end → q ≡ is_met ms hash
    unfolding is_met is_few
    few_met l e = e ∙ sym (rw (← ee, lt-ltb (length ms) 65536 l) (and_on (is_set ms end)))

    pub few_marked : length ms < 65536 → {new : List ℕ} → new ≡ set_all ms end → new ≡ meet ms hash
    unfolding is_few
    few_marked l e = e ∙ ap (set_all ms) ee ∙ sym (few_is (lt-ltb (length ms) 65536 l))

    module _ (l : 65536 ≤ length ms) {other : ℕ} (eo : other ≡ wide_step end 1) where
      pub many_met : {q : Bool} → q ≡ is_set ms end → {r : Bool} → r ≡ is_set ms other → (q && r) ≡ is_met ms hash
      unfolding is_met is_few
      many_met e f = rw (e, f, eo, ← ee, le-ltb (length ms) 65536 l)

      pub many_marked : {mid : List ℕ} → mid ≡ set_all ms end → {new : List ℕ} → new ≡ set_all mid other → new ≡ meet ms hash
      unfolding is_few
      many_marked d e = e ∙ rw (d, eo, ee) (sym (many_is (le-ltb (length ms) 65536 l)))

  pub meet_length : length (meet ms hash) ≡ length ms
  meet_length = elim (test (is_few ms)) [
    | pass e ↦ rw (few_is e) (set_length ms (ended hash))
    | fail e ↦ rw (many_is e) (set_length one (second hash) ∙ set_length ms (ended hash))
  ]

  pub meet_own : is_met (meet ms hash) hash ≡ true
  unfolding is_met
  meet_own = elim (test (is_few ms)) [
    | pass e ↦ rw (few_is e, set_own ms (ended hash), few_still ms (ended hash), e)
    | fail e ↦ rw (many_is e, set_kept one (second hash) (ended hash) (set_own ms (ended hash)), set_own one (second hash)) (or_on (is_few (set_all one (second hash))) refl)
  ]

  -- bits that were set still are
  bits_kept_on : (other : ℕ) → is_set ms other ≡ true → is_set (meet ms hash) other ≡ true
  bits_kept_on other a = elim (test (is_few ms)) [
    | pass e ↦ rw (few_is e) (set_kept ms (ended hash) other a)
    | fail e ↦ rw (many_is e) (set_kept one (second hash) other (set_kept ms (ended hash) other a))
  ]

  few_met_still : is_few (meet ms hash) ≡ is_few ms
  unfolding is_few
  few_met_still = rw meet_length

  pub meet_kept : (other : ℕ) → is_met ms other ≡ true → is_met (meet ms hash) other ≡ true
  unfolding is_met
  meet_kept other a =
      let first = bits_kept_on (ended other) (and_l (is_set ms (ended other)) (is_few ms || is_set ms (second other)) a) in
      let rest = and_r (is_set ms (ended other)) (is_few ms || is_set ms (second other)) a in
      elim (test (is_few ms)) [
        | pass e ↦ rw (first, few_met_still, e)
        | fail e ↦ rw (first, few_met_still, e) (bits_kept_on (second other) (rw e at rest))
      ]

pub ruleset meets = (not_met, met_once, met_again, few_met, few_marked, many_met, many_marked, set_length)

module _ (ms : List ℕ) (n : ℕ) where
  abbrev place : ℕ
  place = mark_word (length ms) n

  placed : eqb (length ms) 0 ≡ false → place < length ms
  placed e = word_inside (length ms) n (omega (arith, eqb-false (length ms) 0 e))

  pub note_length : length (note ms n) ≡ length ms
  unfolding note
  note_length = length-set ms _ _

  pub note_own : is_noted (note ms n) n ≡ true
  unfolding is_noted note
  note_own = elim (test (eqb (length ms) 0)) [
    | pass e ↦ rw (length-set ms place _, e)
    | fail e ↦ rw (length-set ms place _, e) (own_bits ms place (mark_bit (n / 2 ^ 32)) (placed e))
  ]

  pub note_kept : (other : ℕ) → is_noted ms other ≡ true → is_noted (note ms n) other ≡ true
  unfolding is_noted note
  note_kept other a = elim (test (eqb (length ms) 0)) [
    | pass e ↦ rw (length-set ms place _, e)
    | fail e ↦ rw (length-set ms place _, e) (other_bits ms place (mark_bit (n / 2 ^ 32)) (placed e) (mark_word (length ms) other) (mark_bit (other / 2 ^ 32)) (rw e at a))
  ]

module _ (ms : List ℕ) (kind : ℕ) (text : Bytes) where
  pub mark_length : length (mark ms kind text) ≡ length ms
  unfolding mark
  mark_length = meet_length ms (wide_of kind text)

  pub mark_own : is_marked (mark ms kind text) kind text ≡ true
  unfolding is_marked mark
  mark_own = meet_own ms (wide_of kind text)

  pub mark_kept : (j : ℕ) (t : Bytes) → is_marked ms j t ≡ true → is_marked (mark ms kind text) j t ≡ true
  unfolding is_marked mark
  mark_kept j t a = meet_kept ms (wide_of kind text) (wide_of j t) a

-- where all that is there is marked, nothing is lost by not looking for what is not
pub sure : (q t : Bool) → (t ≡ true → q ≡ true) → (q && t) ≡ t
sure true t f = refl
sure false true f = f refl
sure false false f = refl
