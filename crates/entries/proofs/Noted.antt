-- Notes in a table: they change no entry, each is found again, and taking them away gives the table without them. Assumes nothing.
use Prim.Native.Nat.{ℕ, zero, suc, ◌+◌, ◌*◌, ◌/◌, ◌%◌, ◌^◌, ◌≤◌, ◌<◌}
use native.Mathlib.Numerals.{add-one}
use native.Mathlib.Nat.{mul-div_cancel, div-div-eq-div-mul}
use native.Mathlib.Omega.{arith}
use mathlib.Core.Path.{◌≡◌, refl, sym, ap, ap₂, ◌∙◌}
use mathlib.Core.List.{List, [], ◌∷◌, ◌++◌, map-append, append_assoc, append-nil}
use lib.Dec.{ltb}
use lib.ListN.{length, get_or, take, drop, set, length-set, length-map, get_or-map, drop_of_length-le}
use lib.Pow.{pow-add}
use lib.Seq.{take_all, take-suc-set, drop-set-lt, map-set_same, get_or-set_same, get_or-set_other}
use borrow.Author.Tests.{lt-ltb, le-ltb}
use Rattle.values.proofs.Tests.{pass, fail, test}
use Rattle.values.proofs.Lists.{here}
use Rattle.rules.specs.Entry.{Entry}
use Rattle.entries.specs.declared.form.Form.{Form}
use Rattle.entries.specs.declared.form.Form.TheVariants.{First, Second}
use Rattle.entries.specs.Words.{word_count, word_one, word_two, word_three, words_of, unpacked}
use Rattle.entries.specs.Tables.{room, words, stored, put_all, first_entries, words_at, entry_in, entries_in}
use Rattle.entries.specs.Notes.{with_note, bare_word, bare, one_at, two_at, note_at, noted}
use Rattle.entries.proofs.Tables.{entry_fits, some_words}
use Rattle.entries.proofs.Stored.{from_same, first_some, first_put}

-- A table without notes

pub bare_length : (t : List ℕ) → length (bare t) ≡ length t
unfolding bare
bare_length t = length-map t bare_word

bare_word_lem : (t : List ℕ) (i : ℕ) → get_or (bare t) i 0 ≡ bare_word (get_or t i 0)
unfolding bare
bare_word_lem t i = get_or-map bare_word t i 0

bare_take : (n : ℕ) (t : List ℕ) → bare (take n t) ≡ take n (bare t)
unfolding bare
bare_take zero t = refl
bare_take (suc n) [] = refl
bare_take (suc n) (w ∷ t) = ap (bare_word w ∷◌) (bare_take n t)

bare_drop : (n : ℕ) (t : List ℕ) → bare (drop n t) ≡ drop n (bare t)
unfolding bare
bare_drop zero t = refl
bare_drop (suc n) [] = refl
bare_drop (suc n) (w ∷ t) = bare_drop n t

-- Tables that are the same without notes

module _ (form : Form) (t t' : List ℕ) (e : bare t ≡ bare t') where
  same_length : length t ≡ length t'
  same_length = sym (bare_length t) ∙ ap length e ∙ bare_length t'

  pub same_room : room form t ≡ room form t'
  unfolding room
  same_room = ap (λ (n : ℕ). n / word_count form) same_length

  same_words : (n : ℕ) → bare (words_at form t n) ≡ bare (words_at form t' n)
  unfolding words_at
  same_words n = elim (test (ltb n (room form t'))) [
    | pass l ↦ rw (same_room, l, words_at) (cut t ∙ ap (λ (u : List ℕ). take c (drop (c * n) u)) e ∙ sym (cut t'))
    | fail l ↦ rw (same_room, l, words_at)
  ]
    where
      c : ℕ
      c = word_count form

      cut : (u : List ℕ) → bare (take c (drop (c * n) u)) ≡ take c (drop (c * n) (bare u))
      cut u = bare_take c (drop (c * n) u) ∙ ap (take c) (bare_drop (c * n) u)

-- the bits of a word above the note
above : (w k : ℕ) → bare_word w / 2 ^ (12 + k) ≡ w / 2 ^ (12 + k)
above w k =
    rw (pow-add 2 12 k)
    (sym (div-div-eq-div-mul (bare_word w) 4096 (2 ^ k)) ∙ ap (λ (x : ℕ). x / 2 ^ k) (mul-div_cancel (w / 4096) (omega arith)) ∙ div-div-eq-div-mul w 4096 (2 ^ k))

-- an entry's numbers stand there
bare_unpacked : (form : Form) (ws : List ℕ) → unpacked form (bare ws) ≡ unpacked form ws
unfolding unpacked
bare_unpacked First ws =
    let w = get_or ws 0 0 in
    let x = get_or ws 1 0 in
    rw (bare_word_lem ws 0, bare_word_lem ws 1) (rw (above w 48, above w 28, above w 12, above x 36, above x 20, above x 19, above x 17))
bare_unpacked Second ws =
    let w = get_or ws 0 0 in
    let x = get_or ws 1 0 in
    let y = get_or ws 2 0 in
    rw (bare_word_lem ws 0, bare_word_lem ws 1, bare_word_lem ws 2)
    (rw (above w 48, above w 24, above w 0, above x 28, above x 4, above x 3, above x 1, above y 28, above y 4))

module _ (form : Form) (t t' : List ℕ) (e : bare t ≡ bare t') where
  pub same_entry : (n : ℕ) → entry_in form t n ≡ entry_in form t' n
  unfolding entry_in
  same_entry n = sym (bare_unpacked form (words_at form t n)) ∙ ap (unpacked form) (same_words form t t' e n) ∙ bare_unpacked form (words_at form t' n)

  pub same_entries : entries_in form t ≡ entries_in form t'
  unfolding entries_in
  same_entries = rw (same_room form t t' e) (from_same form t t' 0 (room form t') (λ i l. same_entry i))

-- A note

module _ (form : Form) (t : List ℕ) (n x : ℕ) where
  abbrev at : ℕ
  at = word_count form * n

  abbrev one : ℕ
  one = with_note (one_at form t n) (x / 4096)

  abbrev two : ℕ
  two = with_note (two_at form t n) x

  noted_is : n < room form t → noted form t n x ≡ set (set t at one) (at + 1) two
  unfolding noted
  noted_is h = rw (lt-ltb n (room form t) h, noted)

  pub noted_past : room form t ≤ n → noted form t n x ≡ t
  unfolding noted
  noted_past h = rw (le-ltb n (room form t) h, noted)

  pub noted_length : length (noted form t n x) ≡ length t
  unfolding noted
  noted_length = elim (test (ltb n (room form t))) [
    | pass e ↦ rw (e, noted) (length-set (set t at one) (at + 1) two ∙ length-set t at one)
    | fail e ↦ rw (e, noted)
  ]

  -- the other words stay
  noted_else : (j : ℕ) → (j ≡ at → ⊥) → (j ≡ at + 1 → ⊥) → get_or (noted form t n x) j 0 ≡ get_or t j 0
  unfolding noted
  noted_else j a b = elim (test (ltb n (room form t))) [
    | pass e ↦ rw (e, noted) (get_or-set_other (set t at one) (at + 1) j two 0 b ∙ get_or-set_other t at j one 0 a)
    | fail e ↦ rw (e, noted)
  ]

  second_stays : get_or (set t at one) (at + 1) 0 ≡ two_at form t n
  second_stays = get_or-set_other t at (at + 1) one 0 (λ q. omega arith)

  -- it changes nothing but notes
  pub noted_bare : bare (noted form t n x) ≡ bare t
  unfolding noted bare
  noted_bare = elim (test (ltb n (room form t))) [
    | pass e ↦ rw (e, noted) (map-set_same bare_word (set t at one) (at + 1) two 0 (rw second_stays (omega arith)) ∙ map-set_same bare_word t at one 0 (omega arith))
    | fail e ↦ rw (e, noted)
  ]

  pub noted_room : room form (noted form t n x) ≡ room form t
  noted_room = same_room form (noted form t n x) t noted_bare

  -- it is found again
  pub noted_own : n < room form t → x < 2 ^ 24 → note_at form (noted form t n x) n ≡ x
  unfolding note_at
  noted_own h l =
      let f = entry_fits form t n h in
      let c = some_words form in
      let a : get_or (noted form t n x) at 0 ≡ one
      = rw (noted_is h) (get_or-set_other (set t at one) (at + 1) at two 0 (λ q. omega arith) ∙ get_or-set_same t at one 0 (omega arith)) in
      let b : get_or (noted form t n x) (at + 1) 0 ≡ two
      = rw (noted_is h) (get_or-set_same (set t at one) (at + 1) two 0 (rw (length-set t at one) (omega arith))) in
      rw (noted_room, lt-ltb n (room form t) h, note_at) (rw (a, b) (omega arith))

-- the first two words of an entry are no other's
apart : (form : Form) (m n i j : ℕ) → i < 2 → j < 2 → word_count form * m + i ≡ word_count form * n + j → m ≡ n
apart First m n i j a b e = omega arith
apart Second m n i j a b e = omega arith

pub noted_other : (form : Form) (t : List ℕ) (n x : ℕ) {m : ℕ} → (m ≡ n → ⊥) → note_at form (noted form t n x) m ≡ note_at form t m
unfolding note_at
noted_other form t n x {m} ne =
    let at = word_count form * m in
    let a : get_or (noted form t n x) at 0 ≡ get_or t at 0
    = noted_else form t n x at (λ q. ne (apart form m n 0 0 (omega arith) (omega arith) (omega arith))) (λ q. ne (apart form m n 0 1 (omega arith) (omega arith) (omega arith))) in
    let b : get_or (noted form t n x) (at + 1) 0 ≡ get_or t (at + 1) 0
    = noted_else form t n x (at + 1) (λ q. ne (apart form m n 1 0 (omega arith) (omega arith) (omega arith))) (λ q. ne (apart form m n 1 1 (omega arith) (omega arith) q)) in
    elim (test (ltb m (room form t))) [
      | pass e ↦ rw (noted_room form t n x, e, note_at, a, b)
      | fail e ↦ rw (noted_room form t n x, e, note_at)
    ]

pub bare_notes : (form : Form) (t : List ℕ) (n : ℕ) → note_at form (bare t) n ≡ 0
unfolding note_at
bare_notes form t n = elim (test (ltb n (room form (bare t)))) [
  | pass e ↦ rw (e, note_at) (rw (bare_word_lem t (word_count form * n), bare_word_lem t (word_count form * n + 1)) (omega arith))
  | fail e ↦ rw (e, note_at)
]

-- Stored entries have no notes

bare_entry : (form : Form) (e : Entry) → bare (words_of form e) ≡ words_of form e
unfolding bare word_one word_two word_three
bare_entry First e = ap₂ (λ (w x : ℕ). w ∷ x ∷ []) (omega arith) (omega arith)
bare_entry Second e = ap₂ (λ (w : ℕ) (ws : List ℕ). w ∷ ws) (omega arith) (ap₂ (λ (w x : ℕ). w ∷ x ∷ []) (omega arith) (omega arith))

bare_words : (form : Form) (es : List Entry) → bare (words form es) ≡ words form es
unfolding bare words
bare_words form [] = refl
bare_words form (e ∷ es) = map-append bare_word (words_of form e) (words form es) ∙ ap₂ ◌++◌ (bare_entry form e) (bare_words form es)

pub stored_bare : (form : Form) (es : List Entry) {kept : List ℕ} → kept ≡ words form es → bare kept ≡ kept
stored_bare form es w = ap bare w ∙ bare_words form es ∙ sym w

-- those that a call stored and kept
module _ (form : Form) (t : List ℕ) (es : List Entry) (n : ℕ) (h : n ≤ length es) (l : n ≤ room form t) {kept : List ℕ} where
  pub kept_bare : kept ≡ first_entries form (stored form t 0 es) n → bare kept ≡ kept
  kept_bare k = stored_bare form (take n es) (k ∙ first_some form t es n h l)

  pub put_bare : kept ≡ first_entries form (put_all form t 0 es) n → bare kept ≡ kept
  put_bare k = stored_bare form (take n es) (k ∙ first_put form t es n h l)

-- What answers the needs of `get` and `set`, by what `count` and `words` answered

module _ (form : Form) (t : List ℕ) (n : ℕ) {k : ℕ} (a : k ≡ room form t) where
  pub no_note : k ≤ n → 0 ≡ note_at form t n
  unfolding note_at
  no_note h = rw (le-ltb n (room form t) (omega arith), note_at)

  pub not_noted : (x : ℕ) → k ≤ n → t ≡ noted form t n x
  not_noted x h = sym (noted_past form t n x (omega arith))

  module _ {c : ℕ} (w : c ≡ word_count form) (h : n < k) where
    pub second_inside : c * n + 1 < length t
    second_inside = rw w (omega (arith, entry_fits form t n (omega arith), some_words form))

    pub first_inside : c * n < length t
    first_inside = omega (arith, second_inside)

    -- a table has fewer than 2 ^ 63 bytes
    module _ (z : length t * 8 < 2 ^ 63) where
      pub first_fits : c * n < 2 ^ 64
      first_fits = omega (arith, first_inside)

      pub second_fits : c * n + 1 < 2 ^ 64
      second_fits = omega (arith, second_inside)

    pub note_got : get_or t (c * n) 0 % 4096 * 4096 + get_or t (c * n + 1) 0 % 4096 ≡ note_at form t n
    unfolding note_at
    note_got = rw (w, lt-ltb n (room form t) (omega arith), note_at)

    pub note_set : (x : ℕ) {v : ℕ} → v ≡ with_note (get_or t (c * n) 0) (x / 4096) → {u : ℕ} → u ≡ with_note (get_or t (c * n + 1) 0) x → set (set t (c * n) v) (c * n + 1) u ≡ noted form t n x
    note_set x e f = rw (e, f, w) (sym (noted_is form t n x (omega arith)))

pub ruleset notings = (no_note, not_noted, first_inside, second_inside, first_fits, second_fits, note_got, note_set)

-- What answers the needs of `clear`: the words before i have no notes

pub record Clearing (t₀ t : List ℕ) (i : ℕ) : Type 0 where
  pub size : length t ≡ length t₀
  pub left : take i t ++ bare (drop i t) ≡ bare t₀

pub clear_start : (t : List ℕ) → Clearing t t 0
clear_start t = record { size = refl; left = refl }

module _ {t₀ t : List ℕ} {i : ℕ} (g : Clearing t₀ t i) where
  pub clear_next : i < length t → {v : ℕ} → v ≡ with_note (get_or t i 0) 0 → Clearing t₀ (set t i v) (i + 1)
  unfolding bare
  clear_next h {v} e =
      let b : bare_word (get_or t i 0) ≡ v = omega arith in
      record {
        size = length-set t i v ∙ g.size;
        left = rw (add-one, take-suc-set t i v h, drop-set-lt (suc i) t i v (omega arith)) (append_assoc (take i t) (v ∷ []) (bare (drop (suc i) t)) ∙ rw (here t i h, add-one, b) at g.left);
      }

  pub clear_end : length t ≤ i → t ≡ bare t₀
  unfolding bare
  clear_end h = rw (take_all i t h, drop_of_length-le t {i = i} h, append-nil t) at g.left

pub ruleset clearings = (clear_start, clear_next, clear_end)
