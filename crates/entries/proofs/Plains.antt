-- Entries that are looked at several at once, on plain values: what sums of their numbers tell. Assumes nothing.
use Prim.Native.Nat.{ℕ, zero, suc, ◌+◌, ◌-◌, ◌*◌, ◌/◌, ◌%◌, ◌^◌, ◌≤◌, ◌<◌}
use native.Mathlib.Omega.{arith}
use mathlib.Core.Path.{◌≡◌, refl, sym, ap, ◌∙◌}
use mathlib.Core.Bool.{Bool, true, false, not, ◌&&◌, false≢true}
use mathlib.Core.List.{List, [], ◌∷◌}
use lib.Bits.{bit_or, or_add_and, and_le_r, or_comm}
use lib.Dec.{ltb}
use lib.ListN.{length, get_or, take, drop}
use lib.Seq.{get_or-take, get_or-drop}
use borrow.Author.Tests.{eq-eqb, le-leb, lt-ltb, ltb-true, ltb-false}
use Rattle.values.proofs.Tests.{pass, fail, test, not_true, not_false}
use Rattle.rules.specs.Shown.{counts_in_place, well_formed}
use Rattle.entries.specs.declared.form.Form.{Form}
use Rattle.entries.specs.declared.form.Form.TheVariants.{First}
use Rattle.entries.specs.Words.{unpacked, is_clear, strays, excess}
use Rattle.entries.specs.Tables.{room, words_at, entry_in, words_clear, entry_at, is_found, all_formed, ArePlain}

-- neither of two numbers is above both of their bits
or_left : (a b : ℕ) → a ≤ bit_or a b
or_left a b = omega (arith, or_add_and a b, and_le_r a b)

or_right : (a b : ℕ) → b ≤ bit_or a b
or_right a b = rw (or_comm a b) (or_left b a)

-- One entry

module _ (size w x : ℕ) where
  abbrev start : ℕ
  start = w / 2 ^ 40 % 2 ^ 20

  abbrev size_of : ℕ
  size_of = w / 2 ^ 24 % 2 ^ 16

  abbrev line : ℕ
  line = start + size_of + (2 ^ 63 - 1 - size)

  abbrev id : ℕ
  id = x / 2 ^ 48 % 2 ^ 16 + x / 2 ^ 32 % 2 ^ 16 + (2 ^ 63 - 1) - size_of

  abbrev low : ℕ
  low = 2 ^ 63 + 2 ^ 61 - 1 - w % 2 ^ 63

  module _ (few : size < 2 ^ 32) (s : strays w x ≡ 0) (e : excess (2 ^ 63 - 1 - size) w x < 2 ^ 63) where
    clear_one : w % 2 ^ 24 ≡ 0
    unfolding strays
    clear_one = omega (arith, s, or_left (w % 2 ^ 24) (x % 2 ^ 31))

    clear_two : x % 2 ^ 31 ≡ 0
    unfolding strays
    clear_two = omega (arith, s, or_right (w % 2 ^ 24) (x % 2 ^ 31))

    rest_two : bit_or (bit_or w line) id < 2 ^ 63
    unfolding excess
    rest_two = omega (arith, e, or_left (bit_or (bit_or w line) id) low)

    low_small : low < 2 ^ 63
    unfolding excess
    low_small = omega (arith, e, or_right (bit_or (bit_or w line) id) low)

    rest_one : bit_or w line < 2 ^ 63
    rest_one = omega (arith, rest_two, or_left (bit_or w line) id)

    id_small : id < 2 ^ 63
    id_small = omega (arith, rest_two, or_right (bit_or w line) id)

    w_small : w < 2 ^ 63
    w_small = omega (arith, rest_one, or_left w line)

    line_small : line < 2 ^ 63
    line_small = omega (arith, rest_one, or_right w line)

    kind_least : 2 ≤ w / 2 ^ 60 % 2 ^ 4
    kind_least = omega (arith, w_small, low_small)

    kind_most : w / 2 ^ 60 % 2 ^ 4 ≤ 7
    kind_most = omega (arith, w_small)

    line_in_lem : start + size_of ≤ size
    line_in_lem = omega (arith, line_small, few)

    id_in_lem : x / 2 ^ 48 % 2 ^ 16 + x / 2 ^ 32 % 2 ^ 16 ≤ size_of
    id_in_lem = omega (arith, id_small)

    no_tag : x / 2 ^ 29 % 2 ^ 2 ≡ 0
    no_tag = omega (arith, clear_two)

    pub plain_clear : is_clear First (w ∷ x ∷ []) ≡ true
    unfolding is_clear
    plain_clear = rw (eq-eqb (w / 2 ^ 0 % 2 ^ 24) 0 (omega (arith, clear_one)), eq-eqb (x / 2 ^ 0 % 2 ^ 29) 0 (omega (arith, clear_two)))

    pub plain_formed : well_formed size (unpacked First (w ∷ x ∷ [])) ≡ true
    unfolding well_formed unpacked counts_in_place
    plain_formed =
        let k = w / 2 ^ 60 % 2 ^ 4 in
        rw (
          le-leb 1 k (omega (arith, kind_least)),
          le-leb k 10 (omega (arith, kind_most)),
          eq-eqb (x / 2 ^ 29 % 2 ^ 2) 0 no_tag,
          le-leb 2 k kind_least,
          le-leb k 7 kind_most,
          le-leb (start + size_of) size line_in_lem,
          le-leb (x / 2 ^ 48 % 2 ^ 16 + x / 2 ^ 32 % 2 ^ 16) size_of id_in_lem,
          le-leb k 8 (omega (arith, kind_most)),
        )

-- what answers the needs of `strays` and `excess`
pub strays_is : (w x : ℕ) → bit_or (w % 16777216) (x % 2147483648) ≡ strays w x
unfolding strays
strays_is w x = refl

pub excess_is : (r w x : ℕ)
    → bit_or (bit_or (bit_or w (w / 1099511627776 % 1048576 + w / 16777216 % 65536 + r)) (x / 281474976710656 % 65536 + x / 4294967296 % 65536 + 9223372036854775807 - w / 16777216 % 65536))
    (11529215046068469759 - w % 9223372036854775808)
    ≡ excess r w x
unfolding excess
excess_is r w x = refl

pub ruleset faults = (strays_is, excess_is)

-- Several entries: those from one number up to n of a table, of which the bits are collected

abbrev one : List ℕ → ℕ → ℕ
one t n = get_or t (2 * n) 0

abbrev two : List ℕ → ℕ → ℕ
two t n = get_or t (2 * n + 1) 0

pub record Plaining (size : ℕ) (t : List ℕ) (from to r s x n : ℕ) : Type 0 where
  pub few : size < 2 ^ 32
  pub inside : to ≤ length t / 2
  pub rest : r ≡ 2 ^ 63 - 1 - size
  pub stray : (i : ℕ) → from ≤ i → i < n → strays (one t i) (two t i) ≤ s
  pub over : (i : ℕ) → from ≤ i → i < n → excess r (one t i) (two t i) ≤ x

pub plain_start : {size : ℕ} {t : List ℕ} {from to : ℕ} → to ≤ length t / 2 → size ≤ 4294967295 → Plaining size t from to (9223372036854775807 - size) 0 0 from
plain_start l m = record { few = omega arith; inside = l; rest = refl; stray = λ i a b. absurd (omega arith); over = λ i a b. absurd (omega arith) }

-- the entry of two words of the table
module _ (t : List ℕ) (n : ℕ) (l : n < length t / 2) where
  in_table : n < room First t
  unfolding room
  in_table = l

  words_are : words_at First t n ≡ take 2 (drop (2 * n) t)
  unfolding words_at
  words_are = rw (words_at, lt-ltb n (room First t) in_table)

  word_at : (i : ℕ) → i < 2 → get_or (words_at First t n) i 0 ≡ get_or t (2 * n + i) 0
  word_at i m = ap (λ (s : List ℕ). get_or s i 0) words_are ∙ get_or-take 2 (drop (2 * n) t) i 0 m ∙ get_or-drop (2 * n) t i 0

  first_is : get_or (words_at First t n) 0 0 ≡ one t n
  first_is = let z : 2 * n + 0 ≡ 2 * n = omega arith in word_at 0 (omega arith) ∙ ap (λ (k : ℕ). get_or t k 0) z

  pub entry_clear : is_clear First (one t n ∷ two t n ∷ []) ≡ true → words_clear First t n ≡ true
  unfolding words_clear is_clear
  entry_clear e = rw (lt-ltb n (room First t) in_table, first_is, word_at 1 (omega arith)) e

  pub entry_told : entry_in First t n ≡ unpacked First (one t n ∷ two t n ∷ [])
  unfolding entry_in unpacked
  entry_told = rw (first_is, word_at 1 (omega arith))

module _ {size : ℕ} {t : List ℕ} {from to r s x n : ℕ} (g : Plaining size t from to r s x n) where
  pub plain_words : n < to → 2 * n + 1 < length t
  plain_words l = omega (arith, g.inside)

  pub plain_room : r < 2 ^ 63
  plain_room = omega (arith, g.rest)

  pub plain_next : {a : ℕ} → a ≡ strays (one t n) (two t n) → {b : ℕ} → b ≡ excess r (one t n) (two t n) → Plaining size t from to r (bit_or s a) (bit_or x b) (n + 1)
  plain_next {a} ea {b} eb = record {
    few = g.few;
    inside = g.inside;
    rest = g.rest;
    stray = λ i f l. elim (test (ltb i n)) [
      | pass e ↦ omega (arith, g.stray i f (ltb-true i n e), or_left s a)
      | fail e ↦ let z : i ≡ n = omega (arith, ltb-false i n e) in rw (z, ← ea) (or_right s a)
    ];
    over = λ i f l. elim (test (ltb i n)) [
      | pass e ↦ omega (arith, g.over i f (ltb-true i n e), or_left x b)
      | fail e ↦ let z : i ≡ n = omega (arith, ltb-false i n e) in rw (z, ← eb) (or_right x b)
    ];
  }

  pub plain_all : to ≤ n → s ≡ 0 → ArePlain size t from to (ltb x 9223372036854775808)
  plain_all l z = record {
    is = λ e i f b.
        let inside : i < length t / 2 = omega (arith, g.inside) in
        let st : strays (one t i) (two t i) ≡ 0 = omega (arith, g.stray i f (omega arith)) in
        let ex : excess (2 ^ 63 - 1 - size) (one t i) (two t i) < 2 ^ 63 = rw (← g.rest) (omega (arith, g.over i f (omega arith), ltb-true x 9223372036854775808 e)) in
        rw (entry_clear t i inside (plain_clear size (one t i) (two t i) g.few st ex), entry_told t i inside, plain_formed size (one t i) (two t i) g.few st ex);
  }

pub plain_none : {size : ℕ} {t : List ℕ} {from to : ℕ} → ArePlain size t from to false
plain_none = record { is = λ e. absurd (false≢true e) }

pub ruleset plains = (plain_start, plain_words, plain_room, plain_next, plain_all, plain_none)

-- Entries one by one, and block by block

module _ (form : Form) (h t : List ℕ) where
  abbrev ok : ℕ → Bool
  ok n = words_clear form t n && well_formed (length h) (entry_in form t n)

  found_by_lem : (n : ℕ) → is_found (entry_at form h t n) ≡ ok n
  unfolding entry_at
  found_by_lem n = elim (test (ok n)) [ pass f ↦ rw (entry_at, f) | fail f ↦ rw (entry_at, f) ]

  pub formed_each : (n k : ℕ) → ((i : ℕ) → n ≤ i → i < n + k → ok i ≡ true) → all_formed form h t n k ≡ true
  unfolding all_formed
  formed_each n zero f = refl
  formed_each n (suc k) f = rw (found_by_lem n, f n (omega arith) (omega arith)) (formed_each (n + 1) k (λ i a b. f i (omega arith) (omega arith)))

  formed_split : (n k m : ℕ) → all_formed form h t n (k + m) ≡ (all_formed form h t n k && all_formed form h t (n + k) m)
  unfolding all_formed
  formed_split n zero m = let z : n ≡ n + 0 = omega arith in let y : 0 + m ≡ m = omega arith in ap (all_formed form h t n) y ∙ ap (λ (k : ℕ). all_formed form h t k m) z
  formed_split n (suc k) m = elim (test (is_found (entry_at form h t n))) [
    | pass e ↦ let z : n + 1 + k ≡ n + suc k = omega arith in let y : suc k + m ≡ suc (k + m) = omega arith in rw (y, e, ← z) (formed_split (n + 1) k m)
    | fail e ↦ let y : suc k + m ≡ suc (k + m) = omega arith in rw (y, e)
  ]

-- those from one number up to n are well formed
pub record Forming (form : Form) (h t : List ℕ) (from to n : ℕ) : Type 0 where
  pub still : all_formed form h t from (to - from) ≡ all_formed form h t n (to - n)

pub forming_start : (form : Form) (h t : List ℕ) (from to : ℕ) → Forming form h t from to from
forming_start form h t from to = record { still = refl }

pub forming_plain : (form : Form) (h t : List ℕ) (from to : ℕ) → form ≡ First → {q : Bool} → ArePlain (length h) t from to q → q ≡ true → true ≡ all_formed form h t from (to - from)
forming_plain form h t from to e p f = sym (formed_each form h t from (to - from) (λ i a b. rw e (p.is f i a (omega arith))))

module _ {form : Form} {h t : List ℕ} {from to n : ℕ} (g : Forming form h t from to n) where
  pub forming_end : to ≤ n → true ≡ all_formed form h t from (to - from)
  unfolding all_formed
  forming_end l = let z : to - n ≡ 0 = omega arith in sym (g.still ∙ rw z)

  module _ (l : n < to) {q : Bool} (e : q ≡ (words_clear form t n && well_formed (length h) (entry_in form t n))) where
    turn : all_formed form h t from (to - from) ≡ (q && all_formed form h t (n + 1) (to - (n + 1)))
    unfolding all_formed
    turn = let z : to - n ≡ suc (to - (n + 1)) = omega arith in g.still ∙ rw (z, found_by_lem form h t n, ← e)

    pub forming_fails : not q ≡ true → false ≡ all_formed form h t from (to - from)
    forming_fails f = sym (turn ∙ rw (not_true q f))

    pub forming_next : not q ≡ false → Forming form h t from to (n + 1)
    forming_next f = record { still = turn ∙ rw (not_false q f) }

pub ruleset formings = (forming_start, forming_plain, forming_end, forming_fails, forming_next)

-- those of whole blocks before number n
pub record Blocking (form : Form) (h t : List ℕ) (count n : ℕ) : Type 0 where
  pub inside : n ≤ count
  pub still : all_formed form h t 0 count ≡ all_formed form h t n (count - n)

pub blocking_start : (form : Form) (h t : List ℕ) (count : ℕ) → Blocking form h t count 0
blocking_start form h t count = record { inside = omega arith; still = let z : count - 0 ≡ count = omega arith in rw z }

module _ {form : Form} {h t : List ℕ} {count n : ℕ} (g : Blocking form h t count n) where
  pub blocking_end : count ≤ n → true ≡ all_formed form h t 0 count
  unfolding all_formed
  blocking_end l = let z : count - n ≡ 0 = omega arith in sym (g.still ∙ rw z)

  module _ {end : ℕ} (a : n < end) (b : end ≤ count) {q : Bool} (e : q ≡ all_formed form h t n (end - n)) where
    block : all_formed form h t 0 count ≡ (q && all_formed form h t end (count - end))
    block =
        let z : count - n ≡ end - n + (count - end) = omega (arith, g.inside) in
        let y : n + (end - n) ≡ end = omega arith in
        g.still ∙ ap (all_formed form h t n) z ∙ formed_split form h t n (end - n) (count - end) ∙ rw (y, e)

    pub block_fails : not q ≡ true → false ≡ all_formed form h t 0 count
    block_fails f = sym (block ∙ rw (not_true q f))

    pub block_next : not q ≡ false → Blocking form h t count end
    block_next f = record { inside = b; still = block ∙ rw (not_false q f) }

pub ruleset blockings = (blocking_start, blocking_end, block_fails, block_next)
