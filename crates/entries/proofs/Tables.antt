-- The lent table: what its functions answer. Assumes nothing.
use Prim.Native.Nat.{ℕ, suc, ◌+◌, ◌*◌, ◌/◌, ◌-◌, ◌^◌, ◌≤◌, ◌<◌}
use native.Mathlib.Numerals.{add-one}
use native.Mathlib.Nat.{add-sub_cancel_left}
use native.Mathlib.Omega.{arith}
use mathlib.Core.Path.{◌≡◌, sym, ap, ◌∙◌}
use mathlib.Core.Bool.{Bool, true, false, not, false≢true}
use mathlib.Core.List.{List, [], ◌∷◌}
use lib.Dec.{ltb}
use lib.ListN.{length, get_or, take, drop, set, length-take, length-drop}
use lib.Seq.{take_all}
use borrow.Author.Tests.{lt-ltb, le-ltb, ltb-true}
use Rattle.values.proofs.Tests.{pass, fail, test, never, not_false}
use Rattle.rules.specs.Entry.{Entry}
use Rattle.entries.specs.declared.form.Form.{Form}
use Rattle.entries.specs.declared.form.Form.TheVariants.{First, Second}
use Rattle.entries.specs.Words.{word_count, word_one, word_two, word_three, unpacked, is_clear}
use Rattle.entries.specs.Tables.{room, words, stored, put, NextFits, first_entries, words_at, entry_in, words_clear}

-- How many entries so many words have room for

pub some_words : (form : Form) → 2 ≤ word_count form
some_words First = omega arith
some_words Second = omega arith

pub room_small : (form : Form) (t : List ℕ) → 2 * room form t ≤ length t
unfolding room
room_small First t = omega arith
room_small Second t = omega arith

-- the words of n entries
pub entries_fit : (form : Form) (t : List ℕ) (n : ℕ) → n ≤ room form t → word_count form * n ≤ length t
unfolding room
entries_fit First t n h = omega arith
entries_fit Second t n h = omega arith

pub entry_fits : (form : Form) (t : List ℕ) (n : ℕ) → n < room form t → word_count form * n + word_count form ≤ length t
unfolding room
entry_fits First t n h = omega arith
entry_fits Second t n h = omega arith

-- more than those that there is room for
pub kept_over : (form : Form) (t : List ℕ) (n : ℕ) → room form t < n → length t ≤ word_count form * n
unfolding room
kept_over First t n h = omega arith
kept_over Second t n h = omega arith

pub room_of : (form : Form) (t : List ℕ) (n : ℕ) → length t ≡ word_count form * n → room form t ≡ n
unfolding room
room_of First t n e = omega arith
room_of Second t n e = omega arith

-- the words from one entry to a later one
pub words_between : (form : Form) (i n : ℕ) → i < n → word_count form ≤ word_count form * n - word_count form * i
words_between First i n h = omega arith
words_between Second i n h = omega arith

-- What answers the needs of the table's functions

pub count_first : (form : Form) (t : List ℕ) → form ≡ First → length t / 2 ≡ room form t
unfolding room
count_first form t e = rw e

pub count_second : (form : Form) (t : List ℕ) → form ≡ Second → length t / 3 ≡ room form t
unfolding room
count_second form t e = rw e

pub ruleset counted = (count_first, count_second)

-- by what `count` and `words` answered
module _ (form : Form) (t : List ℕ) (n : ℕ) {k : ℕ} (a : k ≡ room form t) where
  pub words_inside : {w : ℕ} → w ≡ word_count form → n < k → w * n + w ≤ length t
  words_inside e h = rw e (entry_fits form t n (omega arith))

  pub third_inside : {w : ℕ} → w ≡ word_count form → n < k → form ≡ Second → w * n + 2 < length t
  third_inside e h f = let i = words_inside e h in let c : word_count form ≡ 3 = ap word_count f in omega arith

  pub kept_inside : {w : ℕ} → w ≡ word_count form → n ≤ k → w * n ≤ length t
  kept_inside e h = rw e (entries_fit form t n (omega arith))

  pub kept_all : k < n → t ≡ first_entries form t n
  unfolding first_entries
  kept_all h = sym (take_all (word_count form * n) t (kept_over form t n (omega arith)))

  pub kept_some : {w : ℕ} → w ≡ word_count form → take (w * n) t ≡ first_entries form t n
  unfolding first_entries
  kept_some e = rw e

  past : k ≤ n → ltb n (room form t) ≡ false
  past h = le-ltb n (room form t) (omega arith)

  inside : n < k → ltb n (room form t) ≡ true
  inside h = lt-ltb n (room form t) (omega arith)

  pub none_there : k ≤ n → take 0 (drop 0 t) ≡ words_at form t n
  unfolding words_at
  none_there h = rw (past h, words_at)

  pub words_there : n < k → {w : ℕ} → w ≡ word_count form → take (w * n + w - w * n) (drop (w * n) t) ≡ words_at form t n
  unfolding words_at
  words_there h {w} e = rw (inside h, words_at, ← e, add-sub_cancel_left (w * n) w)

  pub no_room : k ≤ n → false ≡ ltb n (room form t)
  no_room h = sym (past h)

  pub some_room : n < k → true ≡ ltb n (room form t)
  some_room h = sym (inside h)

  pub nothing_put : (e : Entry) → k ≤ n → t ≡ put form t n e
  unfolding put
  nothing_put e h = rw (past h, put)

  module _ (e : Entry) (h : n < k) {s : ℕ} (z : s ≡ word_count form) {w x : ℕ} (b : w ≡ word_one form e) (d : x ≡ word_two form e) where
    pub two_put : form ≡ First → set (set t (s * n) w) (s * n + 1) x ≡ put form t n e
    unfolding put stored words
    two_put f = rw (z, b, d) (two form f (inside h))
      where
        two : (form : Form) → form ≡ First → ltb n (room form t) ≡ true → set (set t (word_count form * n) (word_one form e)) (word_count form * n + 1) (word_two form e) ≡ put form t n e
        two First f l = rw (l, put, add-one)
        two Second f l = never cc

    pub three_put : form ≡ Second → {y : ℕ} → y ≡ word_three Second e → set (set (set t (s * n) w) (s * n + 1) x) (s * n + 2) y ≡ put form t n e
    unfolding put stored words
    three_put f g = rw (z, b, d, g) (three form f (inside h))
      where
        three : (form : Form) → form ≡ Second → ltb n (room form t) ≡ true
            → set (set (set t (word_count form * n) (word_one form e)) (word_count form * n + 1) (word_two form e)) (word_count form * n + 2) (word_three Second e) ≡ put form t n e
        three First f l = never cc
        three Second f l = let i : 3 * n + 2 ≡ suc (suc (3 * n)) = omega arith in rw (l, put, add-one, i)

pub ruleset counts = (kept_all, kept_some, none_there, words_there)

-- the words that were found
module _ (form : Form) (t : List ℕ) (n : ℕ) {ws : List ℕ} (a : ws ≡ words_at form t n) where
  there : 2 ≤ length ws → ltb n (room form t) ≡ true
  unfolding words_at
  there h = elim (test (ltb n (room form t))) [
    | pass e ↦ e
    | fail e ↦ let z : length ws ≡ 0 = ap length a ∙ rw (e, words_at) in absurd (omega arith)
  ]

  missing : length ws < 2 → ltb n (room form t) ≡ false
  unfolding words_at
  missing h = elim (test (ltb n (room form t))) [
    | pass e ↦
        let f = entry_fits form t n (ltb-true n (room form t) e) in
        let z : length ws ≡ word_count form = ap length a ∙ rw (e, words_at) (simp (length-take, length-drop) (omega arith)) in
        absurd (omega (arith, some_words form))
    | fail e ↦ e
  ]

  pub none_got : {e : Entry} → length ws < 2 → e ≡ unpacked form (0 ∷ 0 ∷ 0 ∷ []) → e ≡ entry_in form t n
  unfolding entry_in words_at unpacked
  none_got h b = b ∙ rw (missing h, words_at)

  pub got : {y : ℕ} → y ≡ get_or ws 2 0 → {e : Entry} → e ≡ unpacked form (get_or ws 0 0 ∷ get_or ws 1 0 ∷ y ∷ []) → e ≡ entry_in form t n
  unfolding entry_in unpacked
  got z b = b ∙ rw (z, a)

  pub none_clear : length ws < 2 → false ≡ words_clear form t n
  unfolding words_clear
  none_clear h = rw (missing h)

  pub clear_there : 2 ≤ length ws → {y : ℕ} → y ≡ get_or ws 2 0 → {q : Bool} → q ≡ is_clear form (get_or ws 0 0 ∷ get_or ws 1 0 ∷ y ∷ []) → q ≡ words_clear form t n
  unfolding words_clear is_clear
  clear_there h z b = rw (there h, ← a) (rw z at b)

pub ruleset gets = (none_got, got, none_clear, clear_there)

pub none_next : (n : ℕ) → NextFits n false
none_next n = record { is = λ e. absurd (false≢true e) }

pub some_next : (n : ℕ) → n + 1 < 2 ^ 64 → NextFits n true
some_next n h = record { is = λ e. h }

-- for callers
pub next_fits : {n : ℕ} {q : Bool} → NextFits n q → not q ≡ false → n + 1 < 2 ^ 64
next_fits {q = q} f e = f.is (not_false q e)

pub ruleset puts = (none_next, some_next, no_room, some_room, nothing_put, two_put, three_put)
