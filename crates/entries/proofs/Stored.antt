-- Entries in a table: stored one after the other, kept, and read again. Assumes nothing.
use Prim.Native.Nat.{ℕ, zero, suc, ◌+◌, ◌*◌, ◌-◌, ◌≤◌, ◌<◌}
use native.Mathlib.Nat.{mul-le-mul_left}
use native.Mathlib.Omega.{arith}
use mathlib.Core.Path.{◌≡◌, refl, sym, ap, ap₂, subst, ◌∙◌}
use mathlib.Core.Bool.{Bool, true, false, not, ◌&&◌}
use mathlib.Core.List.{List, [], ◌∷◌, ◌++◌, append_assoc}
use Rattle.std.specs.Prelude.{Option, None, Some}
use lib.Dec.{leb, ltb}
use lib.ListN.{length, take, drop, set, drop_of_length-le, length-append, length-take, length-drop, take-append-drop}
use lib.Seq.{sets, length-sets, sets-eq, length-take-le, take-nil, take-append_seam, take-set-le, take_all, take-take, take-add, take_at, drop-drop, drop-append-add}
use borrow.Author.Tests.{lt-ltb, ltb-true, ltb-false, leb-true, leb-false}
use Rattle.values.specs.Bytes.{Bytes}
use Rattle.values.proofs.Tests.{pass, fail, test, and_r, not_true, not_false}
use Rattle.values.proofs.Lists.{some_is, none_not}
use Rattle.values.proofs.Outputs.{sets_append}
use Rattle.rules.specs.Entry.{Entry}
use Rattle.rules.specs.Shown.{well_formed}
use Rattle.rules.proofs.Alls.{all_map, all_take, all_drop}
use Rattle.rules.proofs.Stands.{Stands}
use Rattle.rules.proofs.Shows.{drop_take}
use Rattle.entries.specs.declared.form.Form.{Form}
use Rattle.entries.specs.declared.form.Form.TheVariants.{First, Second}
use Rattle.entries.specs.Values.{limits_by}
use Rattle.entries.specs.Words.{word_count, words_of, unpacked, is_clear}
use Rattle.entries.specs.Tables.{room, words, stored, put, put_all, first_entries, words_at, entry_in, entries_from, entries_in, words_clear, entry_at}
use Rattle.entries.proofs.Words.{Storable, storable_within, unpacked_words, words_clear_lem, Word, repacked}
use Rattle.entries.proofs.Tables.{entries_fit, entry_fits, kept_over, room_of, words_between}
use Rattle.entries.proofs.Calls.{formed}
use Rattle.rules.specs.Claims.{All, nth}

module _ (form : Form) where
  -- The entries of a table, one after the other

  from_here : (t : List ℕ) (a k n : ℕ) → n < k → drop n (entries_from form t a k) ≡ entry_in form t (a + n) ∷ drop (n + 1) (entries_from form t a k)
  unfolding entries_from
  from_here t a zero n h = absurd (omega arith)
  from_here t a (suc k) zero h = let e : a + 0 ≡ a = omega arith in rw e
  from_here t a (suc k) (suc n) h =
      let e : a + suc n ≡ a + 1 + n = omega arith in
      let f : suc n + 1 ≡ suc (n + 1) = omega arith in
      rw (e, f) (from_here t (a + 1) k n (omega arith))

  from_count : (t : List ℕ) (a k : ℕ) → length (entries_from form t a k) ≡ k
  unfolding entries_from
  from_count t a zero = refl
  from_count t a (suc k) = ap suc (from_count t (a + 1) k)

  -- the same where the entries are
  pub from_same : (t u : List ℕ) (a k : ℕ) → ((i : ℕ) → i < a + k → entry_in form t i ≡ entry_in form u i) → entries_from form t a k ≡ entries_from form u a k
  unfolding entries_from
  from_same t u a zero h = refl
  from_same t u a (suc k) h = rw (h a (omega arith), from_same t u (a + 1) k (λ i l. h i (omega arith)))

  from_take : (t : List ℕ) (a k n : ℕ) → n ≤ k → take n (entries_from form t a k) ≡ entries_from form t a n
  unfolding entries_from
  from_take t a k zero h = refl
  from_take t a zero (suc n) h = absurd (omega arith)
  from_take t a (suc k) (suc n) h = ap (entry_in form t a ∷◌) (from_take t (a + 1) k n (omega arith))

  from_append : (t : List ℕ) (a k n : ℕ) → entries_from form t a (k + n) ≡ entries_from form t a k ++ entries_from form t (a + k) n
  unfolding entries_from
  from_append t a zero n = let e : a + 0 ≡ a = omega arith in let z : 0 + n ≡ n = omega arith in rw (e, z)
  from_append t a (suc k) n = let e : a + suc k ≡ a + 1 + k = omega arith in let f : suc k + n ≡ suc (k + n) = omega arith in rw (f, e) (ap (entry_in form t a ∷◌) (from_append t (a + 1) k n))

  from_nth : (t : List ℕ) (a : ℕ) (es : List Entry) → ((n : ℕ) (e : Entry) → nth es n ≡ Some e → entry_in form t (a + n) ≡ e) → entries_from form t a (length es) ≡ es
  unfolding entries_from
  from_nth t a [] h = refl
  from_nth t a (e ∷ es) h =
      let z : a + 0 ≡ a = omega arith in
      rw (from_nth t (a + 1) es (λ n f l. let s : a + 1 + n ≡ a + suc n = omega arith in rw s (h (suc n) f l))) (ap (◌∷ es) (rw z at (h 0 e refl)))

  pub entries_here : (t : List ℕ) (n : ℕ) → n < room form t → drop n (entries_in form t) ≡ entry_in form t n ∷ drop (n + 1) (entries_in form t)
  unfolding entries_in
  entries_here t n h = let e : 0 + n ≡ n = omega arith in rw e at (from_here t 0 (room form t) n h)

  pub entries_count : (t : List ℕ) → length (entries_in form t) ≡ room form t
  unfolding entries_in
  entries_count t = from_count t 0 (room form t)

  pub entries_past : (t : List ℕ) (n : ℕ) → room form t ≤ n → drop n (entries_in form t) ≡ []
  entries_past t n h = drop_of_length-le (entries_in form t) {i = n} (rw (entries_count t) h)

  -- the entries of the table's first words
  pub first_room : (t : List ℕ) (n : ℕ) → n ≤ room form t → room form (first_entries form t n) ≡ n
  unfolding first_entries
  first_room t n h =
      let f = entries_fit form t n h in
      room_of form (take (word_count form * n) t) n (simp length-take (omega arith))

  words_first : (t : List ℕ) (n i : ℕ) → n ≤ room form t → i < n → words_at form (first_entries form t n) i ≡ words_at form t i
  unfolding words_at first_entries
  words_first t n i h l =
      let c = word_count form in
      rw (first_room t n h, words_at, lt-ltb i n l, lt-ltb i (room form t) (omega arith))
      (ap (take c) (drop_take (c * i) (c * n) t) ∙ take-take c (c * n - c * i) (drop (c * i) t) (words_between form i n l))

  entry_first : (t : List ℕ) (n i : ℕ) → n ≤ room form t → i < n → entry_in form (first_entries form t n) i ≡ entry_in form t i
  unfolding entry_in
  entry_first t n i h l = ap (unpacked form) (words_first t n i h l)

  pub first_entries_lem : (t : List ℕ) (n : ℕ) → entries_in form (first_entries form t n) ≡ take n (entries_in form t)
  unfolding entries_in first_entries
  first_entries_lem t n = elim (test (leb n (room form t))) [
    | pass e ↦
        let h = leb-true n (room form t) e in
        rw (first_room t n h, from_take t 0 (room form t) n h)
        (from_same (first_entries form t n) t 0 n (λ i l. entry_first t n i h (omega arith)))
    | fail e ↦
        let h = leb-false n (room form t) e in
        rw (take_all (word_count form * n) t (kept_over form t n (omega arith)))
        (sym (take_all n (entries_from form t 0 (room form t)) (rw (from_count t 0 (room form t)) (omega arith))))
  ]

  -- Words

  words_size : (e : Entry) → length (words_of form e) ≡ word_count form
  words_size e = size form
    where
      size : (form : Form) → length (words_of form e) ≡ word_count form
      size First = refl
      size Second = refl

  words_count : (es : List Entry) → length (words form es) ≡ word_count form * length es
  unfolding words
  words_count [] = omega arith
  words_count (e ∷ es) = simp length-append (omega (arith, words_size e, words_count es))

  words_append : (es fs : List Entry) → words form (es ++ fs) ≡ words form es ++ words form fs
  unfolding words
  words_append [] fs = refl
  words_append (e ∷ es) fs = ap (words_of form e ++◌) (words_append es fs) ∙ sym (append_assoc (words_of form e) (words form es) (words form fs))

  -- the words of one of several entries, whatever stands after them
  words_nth : (es : List Entry) (rest : List ℕ) (n : ℕ) {e : Entry} → nth es n ≡ Some e
      → (n < length es) × (take (word_count form) (drop (word_count form * n) (words form es ++ rest)) ≡ words_of form e)
  unfolding words
  words_nth [] rest n h = none_not h
  words_nth (e ∷ es) rest zero h =
      let z : word_count form * 0 ≡ 0 = omega arith in
      (omega arith, rw (z, append_assoc (words_of form e) (words form es) rest) (take_at (words_of form e) (words form es ++ rest) (word_count form) (words_size e) ∙ ap (words_of form) (some_is h)))
  words_nth (e ∷ es) rest (suc n) h =
      let d = words_nth es rest n h in
      let z : word_count form * suc n ≡ length (words_of form e) + word_count form * n = omega (arith, words_size e) in
      (omega (arith, d.0), rw (z, append_assoc (words_of form e) (words form es) rest, drop-append-add (words_of form e) (words form es ++ rest) (word_count form * n)) d.1)

  -- Stored entries

  pub stored_room : (t : List ℕ) (n : ℕ) (es : List Entry) → room form (stored form t n es) ≡ room form t
  unfolding room stored
  stored_room t n es = rw (length-sets t (word_count form * n) (words form es))

  pub stored_length : (t : List ℕ) (n : ℕ) (es : List Entry) → length (stored form t n es) ≡ length t
  unfolding stored
  stored_length t n es = length-sets t (word_count form * n) (words form es)

  pub stored_none : (t : List ℕ) (n : ℕ) → stored form t n [] ≡ t
  unfolding stored words
  stored_none t n = refl

  -- entries after those before them
  pub stored_more : (t : List ℕ) (n : ℕ) (es fs : List Entry) {m : ℕ} → m ≡ n + length es → stored form (stored form t n es) m fs ≡ stored form t n (es ++ fs)
  unfolding stored
  stored_more t n es fs {m} e =
      let i : word_count form * m ≡ word_count form * n + length (words form es) = rw (e, words_count es) (omega arith) in
      rw i (sets_append t (word_count form * n) (words form es) (words form fs) ∙ ap (sets t (word_count form * n)) (sym (words_append es fs)))

  take_before : (t : List ℕ) (i j : ℕ) (ws : List ℕ) → i ≤ j → take i (sets t j ws) ≡ take i t
  take_before t i j [] l = refl
  take_before t i j (w ∷ ws) l = take_before (set t j w) i (suc j) ws (omega arith) ∙ take-set-le i t j w l

  -- what stands before them stays
  pub first_stays : (t : List ℕ) (n m : ℕ) (es : List Entry) → n ≤ m → first_entries form (stored form t m es) n ≡ first_entries form t n
  unfolding first_entries stored
  first_stays t n m es l = take_before t (word_count form * n) (word_count form * m) (words form es) (mul-le-mul_left (word_count form) l)

  pub put_fits : (t : List ℕ) (n : ℕ) (e : Entry) → n < room form t → put form t n e ≡ stored form t n (e ∷ [])
  unfolding put
  put_fits t n e h = rw (lt-ltb n (room form t) h, put)

  -- one entry of several, by what the code's store of it answered
  module _ (t : List ℕ) (n : ℕ) (e : Entry) (es : List Entry) {q : Bool} (a : q ≡ ltb n (room form t)) {t' : List ℕ} (b : t' ≡ put form t n e) where
    pub put_none : not q ≡ true → t' ≡ put_all form t n (e ∷ es)
    unfolding put put_all
    put_none f = b ∙ rw (put, put_all, ← a, not_true q f)

    pub put_one : not q ≡ false → put_all form t' (n + 1) es ≡ put_all form t n (e ∷ es)
    unfolding put put_all
    put_one f = rw b (rw (put, put_all, ← a, not_false q f))

  -- where there is room for all, all are stored
  pub put_roomy : (t : List ℕ) (n : ℕ) (es : List Entry) → n + length es ≤ room form t → put_all form t n es ≡ stored form t n es
  unfolding put_all
  put_roomy t n [] l = sym (stored_none t n)
  put_roomy t n (e ∷ es) l =
      rw (lt-ltb n (room form t) (omega arith), put_all)
      (put_roomy (stored form t n (e ∷ [])) (n + 1) es (rw (stored_room t n (e ∷ [])) (omega arith)) ∙ stored_more t n (e ∷ []) es refl)

  -- the words of an entry that was stored
  words_stored : (t : List ℕ) (m : ℕ) (es : List Entry) (n : ℕ) {e : Entry} → m + length es ≤ room form t → nth es n ≡ Some e
      → (m + n < room form (stored form t m es)) × (words_at form (stored form t m es) (m + n) ≡ words_of form e)
  unfolding stored words_at
  words_stored t m es n l a =
      let c = word_count form in
      let ws = words form es in
      let d = words_nth es (drop (c * m + length ws) t) n a in
      let f = entries_fit form t (m + length es) l in
      let g : c * m + length ws ≤ length t = rw (words_count es) (omega arith) in
      let before : length (take (c * m) t) ≡ c * m = simp length-take (omega arith) in
      let s : sets t (c * m) ws ≡ take (c * m) t ++ (ws ++ drop (c * m + length ws) t) = sets-eq ws t (c * m) g ∙ append_assoc (take (c * m) t) ws (drop (c * m + length ws) t) in
      let i : m + n < room form (sets t (c * m) ws) = rw (stored_room t m es) (omega (arith, d.0)) in
      let z : c * (m + n) ≡ length (take (c * m) t) + c * n = rw before (omega arith) in (
        i,
        rw (lt-ltb (m + n) (room form (sets t (c * m) ws)) i, words_at)
            (ap (λ (x : List ℕ). take c (drop (c * (m + n)) x)) s ∙ rw (z, drop-append-add (take (c * m) t) (ws ++ drop (c * m + length ws) t) (c * n)) d.1),
      )

  entry_back : (t : List ℕ) (m : ℕ) (es : List Entry) (n : ℕ) {e : Entry} → m + length es ≤ room form t → nth es n ≡ Some e → Storable form e → entry_in form (stored form t m es) (m + n) ≡ e
  unfolding entry_in
  entry_back t m es n {e} l a s = ap (unpacked form) (words_stored t m es n l a).1 ∙ unpacked_words form e s

  -- the calls find it
  pub entry_stored : (t : List ℕ) (es : List Entry) (n : ℕ) {e : Entry} → length es ≤ room form t → nth es n ≡ Some e
      → (h : Bytes) → Storable form e → well_formed (length h) e ≡ true → entry_at form h (stored form t 0 es) n ≡ Some e
  unfolding entry_at words_clear
  entry_stored t es n {e} l a h s w =
      let z : 0 + n ≡ n = omega arith in
      let d = rw z at (words_stored t 0 es n (omega arith) a) in
      let b = rw z at (entry_back t 0 es n (omega arith) a s) in
      rw (lt-ltb n (room form (stored form t 0 es)) d.0, d.1, words_clear_lem form e s, b, w, entry_at) (ap Some b)

  storable_nth : (es : List Entry) (n : ℕ) {e : Entry} → All (Storable form) es → nth es n ≡ Some e → Storable form e
  storable_nth [] n a h = none_not h
  storable_nth (x ∷ es) zero a h = subst (Storable form) (some_is h) a.0
  storable_nth (x ∷ es) (suc n) a h = storable_nth es n a.1 h

pub storable : (form : Form) {size : ℕ} → size ≤ (limits_by form).header → (e : Entry) → Stands (limits_by form) size e → Storable form e
storable form {size} h e s =
    let f = formed size e s.formed in
    let l = s.short in
    let k = s.key in
    let n = s.fields in
    storable_within form e f.high f.tag (omega arith) l (omega arith) (omega arith) (omega arith) (omega arith) s.uncounted

-- the entries that stood before those that were stored, these, and no others
pub entries_more : (form : Form) (t : List ℕ) (m : ℕ) (es : List Entry) {n : ℕ} → n ≡ m + length es → n ≤ room form t → All (Storable form) es
    → entries_in form (first_entries form (stored form t m es) n) ≡ entries_in form (first_entries form t m) ++ es
unfolding entries_in
entries_more form t m es {n} e l a =
    let s = stored form t m es in
    let z : 0 + m ≡ m = omega arith in
    let before : entries_from form s 0 m ≡ entries_in form (first_entries form t m)
    = from_same form s t 0 m (λ i h. sym (entry_first form s m i (rw (stored_room form t m es) (omega (arith, e))) (omega arith)) ∙ ap (λ (x : List ℕ). entry_in form x i) (first_stays form t m m es (omega arith)) ∙ entry_first form t m i (omega (arith, e)) (omega arith))
    ∙ sym (from_take form t 0 (room form t) m (omega (arith, e))) ∙ sym (first_entries_lem form t m) in
    let after : entries_from form s (0 + m) (length es) ≡ es = rw z (from_nth form s m es (λ i x q. entry_back form t m es i (omega (arith, e)) q (storable_nth form es i a q))) in
    first_entries_lem form s n
    ∙ from_take form s 0 (room form s) n (rw (stored_room form t m es) l)
    ∙ ap (entries_from form s 0) e
    ∙ from_append form s 0 m (length es)
    ∙ rw (before, after)

pub entries_kept : (form : Form) (t : List ℕ) (es : List Entry) {n : ℕ} → length es ≡ n → n ≤ room form t → All (Storable form) es → entries_in form (first_entries form (stored form t 0 es) n) ≡ es
entries_kept form t es {n} e l a =
    let z : n ≡ 0 + length es = omega (arith, e) in
    entries_more form t 0 es z l a ∙ ap (◌++ es) (first_entries_lem form t 0)

-- those of a reading
pub entries_stored : (form : Form) {size : ℕ} → size ≤ (limits_by form).header → (t : List ℕ) (es : List Entry) {n : ℕ} → length es ≡ n → n ≤ room form t → All (Stands (limits_by form) size) es
    → entries_in form (first_entries form (stored form t 0 es) n) ≡ es
entries_stored form {size} h t es e l a = entries_kept form t es e l (all_map (Stands (limits_by form) size) (Storable form) es (storable form h) a)

module _ (form : Form) where
  -- their words
  pub first_stored : (t : List ℕ) (es : List Entry) {n : ℕ} → length es ≡ n → n ≤ room form t → first_entries form (stored form t 0 es) n ≡ words form es
  unfolding first_entries stored
  first_stored t es {n} e l =
      let z : word_count form * 0 ≡ 0 = omega arith in
      let i : word_count form * n ≡ length (words form es) = rw (← e) (sym (words_count form es)) in
      let f = entries_fit form t n l in
      rw (i, z, sets-eq (words form es) t 0 (omega (arith, i))) (take-append_seam (words form es) (drop (0 + length (words form es)) t))

  -- of some of them
  pub first_some : (t : List ℕ) (es : List Entry) (n : ℕ) → n ≤ length es → n ≤ room form t → first_entries form (stored form t 0 es) n ≡ words form (take n es)
  first_some t es n h l =
      let k : length (take n es) ≡ n = length-take-le n es h in
      let parts : stored form t 0 es ≡ stored form (stored form t 0 (take n es)) n (drop n es)
      = ap (stored form t 0) (sym (take-append-drop n es)) ∙ sym (stored_more form t 0 (take n es) (drop n es) (omega (arith, k))) in
      ap (λ (u : List ℕ). first_entries form u n) parts
      ∙ first_stays form (stored form t 0 (take n es)) n n (drop n es) (omega arith)
      ∙ first_stored t (take n es) k l

  -- where there is no room for all, the first are stored
  put_stored : (t : List ℕ) (m : ℕ) (es : List Entry) → put_all form t m es ≡ stored form t m (take (room form t - m) es)
  unfolding put_all
  put_stored t m [] = sym (ap (stored form t m) (take-nil (room form t - m)) ∙ stored_none form t m)
  put_stored t m (e ∷ es) = elim (test (ltb m (room form t))) [
    | pass q ↦
        let l = ltb-true m (room form t) q in
        let z : room form t - m ≡ suc (room form t - (m + 1)) = omega arith in
        rw (q, put_all, z)
        (put_stored (stored form t m (e ∷ [])) (m + 1) es
        ∙ rw (stored_room form t m (e ∷ [])) (stored_more form t m (e ∷ []) (take (room form t - (m + 1)) es) refl))
    | fail q ↦
        let l = ltb-false m (room form t) q in
        let z : room form t - m ≡ 0 = omega arith in
        rw (q, put_all, z) (sym (stored_none form t m))
  ]

  pub first_put : (t : List ℕ) (es : List Entry) (n : ℕ) → n ≤ length es → n ≤ room form t → first_entries form (put_all form t 0 es) n ≡ words form (take n es)
  first_put t es n h l =
      let fs = take (room form t - 0) es in
      ap (λ (u : List ℕ). first_entries form u n) (put_stored t 0 es)
      ∙ first_some t fs n (simp length-take (omega arith)) l
      ∙ ap (words form) (take-take n (room form t - 0) es (omega arith))

  -- the calls find the same in a table's first words
  pub entry_at_first : (h : Bytes) (t : List ℕ) (n i : ℕ) → n ≤ room form t → i < n → entry_at form h (first_entries form t n) i ≡ entry_at form h t i
  unfolding entry_at words_clear
  entry_at_first h t n i l m = ap₂ found clear (entry_first form t n i l m)
    where
      found : Bool → Entry → Option Entry
      found b e = elim (b && well_formed (length h) e) [ true ↦ Some e | false ↦ None ]

      clear : words_clear form (first_entries form t n) i ≡ words_clear form t i
      clear = rw (first_room form t n l, lt-ltb i n m, lt-ltb i (room form t) (omega arith), words_first form t n i l m)

  words_at_is : (t : List ℕ) (n : ℕ) → n < room form t → words_at form t n ≡ take (word_count form) (drop (word_count form * n) t)
  unfolding words_at
  words_at_is t n l = rw (lt-ltb n (room form t) l, words_at)

  -- entries that are stored as they stood
  from_words : (t : List ℕ) (n k : ℕ) → n + k ≤ room form t → ((i : ℕ) → i < room form t → words_of form (entry_in form t i) ≡ words_at form t i)
      → words form (entries_from form t n k) ≡ take (word_count form * k) (drop (word_count form * n) t)
  unfolding entries_from words
  from_words t n zero l h = let z : word_count form * 0 ≡ 0 = omega arith in rw z
  from_words t n (suc k) l h =
      let c = word_count form in
      let z : c * suc k ≡ c + c * k = omega arith in
      let y : c * (n + 1) ≡ c * n + c = omega arith in
      ap₂ ◌++◌ (h n (omega arith) ∙ words_at_is t n (omega arith)) (from_words t (n + 1) k (omega arith) h)
      ∙ rw (z, y, take-add c (c * k) (drop (c * n) t), drop-drop c (c * n) t)

  words_in : (t : List ℕ) (n : ℕ) → All Word t → All Word (words_at form t n)
  unfolding words_at
  words_in t n a = elim (test (ltb n (room form t))) [
    | pass e ↦ rw (e, words_at) (all_take Word (word_count form) (drop (word_count form * n) t) (all_drop Word (word_count form * n) t a))
    | fail e ↦ rw (e, words_at) tt
  ]

  -- a table of words whose entries have no bits but their numbers': stored again, they are its first words
  pub words_again : (t : List ℕ) → All Word t → ((i : ℕ) → i < room form t → words_clear form t i ≡ true) → words form (entries_in form t) ≡ first_entries form t (room form t)
  unfolding entries_in first_entries entry_in words_clear
  words_again t a c =
      let z : word_count form * 0 ≡ 0 = omega arith in
      from_words t 0 (room form t) (omega arith) (λ i l. repacked form (words_at form t i) (size i l) (words_in t i a) (and_r (ltb i (room form t)) (is_clear form (words_at form t i)) (c i l))) ∙ rw z
    where
      size : (i : ℕ) → i < room form t → length (words_at form t i) ≡ word_count form
      size i l = let f = entry_fits form t i l in ap length (words_at_is t i l) ∙ simp (length-take, length-drop) (omega arith)
