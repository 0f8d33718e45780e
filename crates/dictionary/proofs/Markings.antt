-- Marks: the bits that are set for each line, for each class and for all, and what they tell of a line. Assumes nothing.
use Prim.Native.Nat.{ℕ, zero, suc, ◌+◌, ◌-◌, ◌*◌, ◌/◌, ◌%◌, ◌<◌, ◌≤◌}
use native.Mathlib.Omega.{arith}
use mathlib.Core.Path.{◌≡◌, refl, sym, ap, subst, ◌∙◌}
use mathlib.Core.Bool.{Bool, true, false, ◌&&◌, ◌||◌, true≢false, false≢true, or_comm, or_assoc, or-false}
use mathlib.Core.List.{List, [], ◌∷◌, ◌++◌}
use Rattle.std.specs.Prelude.{Option, None, Some}
use lib.Dec.{eqb, ltb}
use lib.ListN.{length, get_or, take, drop, length-append, length-drop}
use lib.Seq.{get_or-drop, take_at, drop_at, length-take-le, length_front}
use borrow.Author.Tests.{eqb-true, eqb-false, eq-eqb, ne_eqb, lt-ltb, le-ltb, ltb-true, ltb-false}
use Rattle.values.specs.Bytes.{Bytes}
use Rattle.values.specs.Bits.{bit_at, set_bit}
use Rattle.values.proofs.WordBits.{bit_set, set_length, word_open}
use Rattle.values.proofs.Tests.{pass, fail, test, and_off, never}
use Rattle.rules.specs.Entry.{Entry}
use Rattle.rules.specs.Shown.{id_meaning}
use Rattle.entries.specs.declared.entry.Entry.{Entry as CodeEntry}
use Rattle.entries.specs.declared.form.Form.{Form}
use Rattle.entries.specs.Values.{entry_of}
use Rattle.entries.specs.Tables.{room, entry_in}
use Rattle.dictionary.specs.Pairs.{carried_by}
use Rattle.dictionary.specs.Lines.{holds, entry_idx, entry_lines, table_lines, lines_before, ordinal, id_at, idx_at, idx_meant}
use Rattle.dictionary.specs.Slots.{is_named, is_numbered, line_at, class_of, id_hash, number_hash, id_slot, number_slot, AllOpen, HeldAt, StandsAt}
use Rattle.dictionary.specs.Places.{implied_clash, idx_named, earlier_meant, number_seen}
use Rattle.dictionary.specs.Marks.{Sets, is_again, id_bit, asked_of, bad_at, bit_for, class_for, in_class, met_bits, line_number, line_bits, is_line, told_of, class_bits, sought_bits, told_bit, all_bits, Tells, behind, HeldFor}
use Rattle.dictionary.specs.declared.line.Dictionary.{Dictionary}
use Rattle.dictionary.specs.declared.numbering.Carried.{Carried}
use Rattle.dictionary.specs.declared.slots.Class.{Class}
use Rattle.dictionary.specs.declared.place.Asked.{Asked}
use Rattle.dictionary.specs.declared.marking.Sought.{Sought}
use Rattle.dictionary.specs.declared.marking.Sought.TheVariants.{Ids, Numbers}
use Rattle.dictionary.proofs.Left.{before_skip, before_all, ordinal_next, ordinal_below, ordinal_entry}
use Rattle.dictionary.proofs.Slotting.{held_start, held_skip, class_below}

-- Any bits

sets_none : {ms : List ℕ} {p : ℕ → Bool} → ((j : ℕ) → p j ≡ false) → Sets ms ms p
sets_none {ms} f = record { size = refl; is = λ j l. rw (f j) (sym (or-false (bit_at ms j))) }

sets_one : {ms ms' : List ℕ} (n : ℕ) → ms' ≡ set_bit ms n → {p : ℕ → Bool} → ((j : ℕ) → p j ≡ eqb j n) → Sets ms ms' p
sets_one {ms} n e f = record { size = ap length e ∙ set_length ms n; is = λ j l. ap (λ (xs : List ℕ). bit_at xs j) e ∙ bit_set ms n j l ∙ or_comm (eqb j n) (bit_at ms j) ∙ rw (f j) }

sets_as : {ms ms' : List ℕ} {p q : ℕ → Bool} → Sets ms ms' p → ((j : ℕ) → q j ≡ p j) → Sets ms ms' q
sets_as x f = record { size = x.size; is = λ j l. x.is j l ∙ rw (f j) }

sets_then : {a b c : List ℕ} {p q r : ℕ → Bool} → Sets a b p → Sets b c q → ((j : ℕ) → r j ≡ (p j || q j)) → Sets a c r
sets_then {a} {b} {c} {p} {q} x y f = record {
  size = y.size ∙ x.size;
  is = λ j l. y.is j (rw x.size l) ∙ ap (λ (z : Bool). z || q j) (x.is j l) ∙ or_assoc (bit_at a j) (p j) (q j) ∙ rw (f j);
}

position : (j k b : ℕ) → b < 2 → (eqb (j / 2) k && eqb (j % 2) b) ≡ eqb j (2 * k + b)
position j k b l = elim (test (eqb (j / 2) k)) [
  | fail e ↦ rw e (sym (ne_eqb j (2 * k + b) (λ i. eqb-false (j / 2) k e (omega arith))))
  | pass e ↦ elim (test (eqb (j % 2) b)) [
    | pass f ↦ rw (e, f) (sym (eq-eqb j (2 * k + b) (omega (arith, eqb-true (j / 2) k e, eqb-true (j % 2) b f))))
    | fail f ↦ rw (e, f) (sym (ne_eqb j (2 * k + b) (λ i. eqb-false (j % 2) b f (omega arith))))
  ]
]

-- what answers the needs of `mark_met`
module _ (h : Bytes) (indexed : Bool) (bad : ℕ → Bool) (e : CodeEntry) (k : ℕ) {o : Option CodeEntry} {ms : List ℕ} where
  pub met_none : o ≡ None → Sets ms ms (met_bits indexed bad (idx_at h e) (earlier_meant h o) k)
  unfolding met_bits
  met_none eo = sets_none (λ j. rw eo (and_off (eqb (j / 2) k) refl))

  module _ {x : CodeEntry} (eo : o ≡ Some x) {q : Bool} (eq : q ≡ is_again indexed bad (idx_at h e) (idx_at h x)) {ms' : List ℕ} where
    pub met_same : q ≡ true → ms' ≡ set_bit ms (2 * k) → Sets ms ms' (met_bits indexed bad (idx_at h e) (earlier_meant h o) k)
    unfolding met_bits
    met_same f em = let z : 2 * k ≡ 2 * k + 0 = omega arith in sets_one (2 * k + 0) (em ∙ ap (set_bit ms) z) (λ j. rw (eo, ← eq, f) (position j k 0 (omega arith)))

    pub met_other : q ≡ false → ms' ≡ set_bit ms (2 * k + 1) → Sets ms ms' (met_bits indexed bad (idx_at h e) (earlier_meant h o) k)
    unfolding met_bits
    met_other f em = sets_one (2 * k + 1) em (λ j. rw (eo, ← eq, f) (position j k 1 (omega arith)))

pub ruleset mets = (met_none, met_same, met_other)

-- of `mark_id` and `mark_number`
module _ (a : Asked) (h : Bytes) {t : List ℕ} {k : ℕ} {e : CodeEntry} (s : StandsAt a.dictionary a.form t k e) {n : ℕ} (en : n ≡ line_number a h t k) (c : Class) where
  id_bit_lem : (b : ℕ) → bit_for Ids a h t k b ≡ id_bit a.indexed (implied_clash a.dictionary (id_at h e)) (idx_at h e) (idx_named (id_at h e) (lines_before a.dictionary a.form h t k)) b
  id_bit_lem b =
      ap (λ (x : Entry). id_bit a.indexed (implied_clash a.dictionary (id_meaning h x)) (entry_idx h x) (idx_named (id_meaning h x) (lines_before a.dictionary a.form h t k)) b)
      (sym s.is)

  module _ {x : ℕ} (ex : x ≡ id_hash (id_at h e)) {q : Bool} (eq : q ≡ eqb (class_of c.of x) c.at) where
    pub id_out : q ≡ false → {ms : List ℕ} → Sets ms ms (line_bits Ids a h t c k)
    unfolding line_bits
    id_out f =
        let i : in_class Ids a h t c k ≡ false = rw (← s.is, ← ex, ← eq, f) in
        sets_none (λ j. rw i (and_off (eqb (j / 2) (line_number a h t k)) refl))

    pub id_bits : q ≡ true → (o : Option CodeEntry) → earlier_meant h o ≡ idx_named (id_at h e) (lines_before a.dictionary a.form h t k) → {ms ms' : List ℕ}
        → Sets ms ms' (met_bits a.indexed (implied_clash a.dictionary (id_at h e)) (idx_at h e) (earlier_meant h o) n) → Sets ms ms' (line_bits Ids a h t c k)
    unfolding line_bits met_bits
    id_bits f o eo w =
        let i : in_class Ids a h t c k ≡ true = rw (← s.is, ← ex, ← eq, f) in
        sets_as w (λ j. rw (i, eo, ← en) (ap (λ (z : Bool). eqb (j / 2) n && z) (id_bit_lem (j % 2))))

  module _ {r : Option ℕ} (er : idx_meant r ≡ idx_at h e) where
    module _ (i : r ≡ None) {q : Bool} (eq : q ≡ eqb (class_of c.of 0) c.at) where
      bare : (line_at a.form h t k).idx ≡ None
      bare = rw (← s.is, ← er, i)

      pub bare_out : q ≡ false → {ms : List ℕ} → Sets ms ms (line_bits Numbers a h t c k)
      unfolding line_bits
      bare_out f = sets_none (λ j. rw (bare, ← eq, f) (and_off (eqb (j / 2) (line_number a h t k)) refl))

      pub bare_bits : q ≡ true → {ms ms' : List ℕ} → ms' ≡ set_bit ms (2 * n + 1) → Sets ms ms' (line_bits Numbers a h t c k)
      unfolding line_bits
      bare_bits f es = sets_one (2 * n + 1) es (λ j. rw (bare, ← eq, f, ← en) (position j n 1 (omega arith)))

    module _ {y : ℕ} (i : r ≡ Some y) {x : ℕ} (ex : x ≡ number_hash y) {q : Bool} (eq : q ≡ eqb (class_of c.of x) c.at) where
      here : (line_at a.form h t k).idx ≡ Some y
      here = rw (← s.is, ← er, i)

      pub number_out : q ≡ false → {ms : List ℕ} → Sets ms ms (line_bits Numbers a h t c k)
      unfolding line_bits
      number_out f = sets_none (λ j. rw (here, ← ex, ← eq, f) (and_off (eqb (j / 2) (line_number a h t k)) refl))

      module _ (f : q ≡ true) {m : Bool} (em : m ≡ number_seen y (lines_before a.dictionary a.form h t k)) where
        pub number_bits : m ≡ true → {ms ms' : List ℕ} → ms' ≡ set_bit ms (2 * n + 1) → Sets ms ms' (line_bits Numbers a h t c k)
        unfolding line_bits
        number_bits g es = sets_one (2 * n + 1) es (λ j. rw (here, ← ex, ← eq, f, ← em, g, ← en) (position j n 1 (omega arith)))

        module _ (g : m ≡ false) {b : Bool} (eb : b ≡ implied_clash a.dictionary (id_at h e) y) where
          bad_here : bad_at a h t k y ≡ b
          bad_here = sym (eb ∙ rw (← s.is))

          pub number_free : b ≡ false → {ms : List ℕ} → Sets ms ms (line_bits Numbers a h t c k)
          unfolding line_bits
          number_free z = sets_none (λ j. rw (here, ← ex, ← eq, f, ← em, g, bad_here, z) (and_off (eqb (j / 2) (line_number a h t k)) refl))

          pub number_bad : b ≡ true → {ms ms' : List ℕ} → ms' ≡ set_bit ms (2 * n + 1) → Sets ms ms' (line_bits Numbers a h t c k)
          unfolding line_bits
          number_bad z es = sets_one (2 * n + 1) es (λ j. rw (here, ← ex, ← eq, f, ← em, g, bad_here, z, ← en) (position j n 1 (omega arith)))

pub ruleset lines = (id_out, id_bits, bare_out, bare_bits, number_out, number_bits, number_free, number_bad)

-- of `mark_line`
module _ {s : Sought} {c : Class} {a : Asked} {h : Bytes} {t : List ℕ} {k : ℕ} {slots : List ℕ} where
  pub held_ids : s ≡ Ids → HeldFor s c a h t k slots → HeldAt is_named id_slot id_hash c a.dictionary a.form h t k slots
  held_ids e g = g.ids e

  pub held_numbers : s ≡ Numbers → HeldFor s c a h t k slots → HeldAt is_numbered number_slot number_hash c a.dictionary a.form h t k slots
  held_numbers e g = g.numbers e

  pub for_ids : s ≡ Ids → HeldAt is_named id_slot id_hash c a.dictionary a.form h t k slots → HeldFor s c a h t k slots
  for_ids e g = record { ids = λ i. g; numbers = λ i. never (let z : Ids ≡ Numbers = sym e ∙ i in cc) }

  pub for_numbers : s ≡ Numbers → HeldAt is_numbered number_slot number_hash c a.dictionary a.form h t k slots → HeldFor s c a h t k slots
  for_numbers e g = record { ids = λ i. never (let z : Ids ≡ Numbers = sym i ∙ e in cc); numbers = λ i. g }

module _ {s : Sought} (c : Class) (a : Asked) (h : Bytes) (t : List ℕ) (k : ℕ) where
  pub sets_ids : s ≡ Ids → {ms ms' : List ℕ} → Sets ms ms' (line_bits Ids a h t c k) → Sets ms ms' (line_bits s a h t c k)
  sets_ids e w = rw e w

  pub sets_numbers : s ≡ Numbers → {ms ms' : List ℕ} → Sets ms ms' (line_bits Numbers a h t c k) → Sets ms ms' (line_bits s a h t c k)
  sets_numbers e w = rw e w

pub ruleset soughts = (held_ids, held_numbers, for_ids, for_numbers, sets_ids, sets_numbers)

-- The loop over the lines: the bits of those before entry k are set

pub record Marked (s : Sought) (c : Class) (a : Asked) (h : Bytes) (t ms₀ ms slots₀ slots : List ℕ) (lines k : ℕ) : Type 0 where
  pub inside : k ≤ room a.form t
  pub all : lines ≡ line_number a h t k
  pub few : lines ≤ k
  pub size : length slots ≡ length slots₀
  pub bits : Sets ms₀ ms (class_bits s a h t c k)
  pub held : HeldFor s c a h t k slots

pub marked_start : (s : Sought) (c : Class) (a : Asked) (h : Bytes) (t ms : List ℕ) {slots : List ℕ} → AllOpen slots → Marked s c a h t ms ms slots slots 0 0
unfolding class_bits entry_lines
marked_start s c a h t ms o = record {
  inside = omega arith;
  all = refl;
  few = omega arith;
  size = refl;
  bits = sets_none (λ j. rw (le-ltb (j / 2) 0 (omega arith)));
  held = record {
    ids = λ e. held_start is_named id_slot id_hash c a.dictionary a.form h t o;
    numbers = λ e. held_start is_numbered number_slot number_hash c a.dictionary a.form h t o;
  };
}

module _ {s : Sought} {c : Class} {a : Asked} {h : Bytes} {t ms₀ ms slots₀ slots : List ℕ} {lines k : ℕ} (g : Marked s c a h t ms₀ ms slots₀ slots lines k) {n : ℕ}
    (en : n ≡ room a.form t) where
  pub marked_end : n ≤ k → Sets ms₀ ms (class_bits s a h t c (room a.form t))
  marked_end l = let e : k ≡ room a.form t = omega (arith, g.inside, en) in rw (← e) g.bits

  module _ (l : k < n) {e : CodeEntry} (ee : entry_of e ≡ entry_in a.form t k) {q : Bool} (eq : q ≡ holds a.dictionary e.kind) where
    pub marked_skip : q ≡ false → Marked s c a h t ms₀ ms slots₀ slots lines (k + 1)
    unfolding class_bits
    marked_skip f =
        let b : lines_before a.dictionary a.form h t (k + 1) ≡ lines_before a.dictionary a.form h t k = before_skip a.dictionary a.form h t k (rw (← en) l) ee eq f in
        record {
          inside = omega (arith, l, en);
          all = g.all ∙ rw b;
          few = omega (arith, g.few);
          size = g.size;
          bits = sets_as g.bits (λ j. rw b);
          held = record { ids = λ i. held_skip b (g.held.ids i); numbers = λ i. held_skip b (g.held.numbers i) };
        }

    module _ (f : q ≡ true) where
      is_line_lem : is_line a t k ≡ true
      is_line_lem = rw (← ee, ← eq) f

      one_more : line_number a h t (k + 1) ≡ line_number a h t k + 1
      one_more = ordinal_next a.dictionary a.form h t k (rw (← en) l) is_line_lem

      next_bits : (j : ℕ) → class_bits s a h t c (k + 1) j ≡ (class_bits s a h t c k j || line_bits s a h t c k j)
      unfolding class_bits line_bits
      next_bits j = rw one_more (elim (test (eqb (j / 2) (line_number a h t k))) [
        | pass i ↦
            let o = line_number a h t k in
            rw (eqb-true (j / 2) o i, lt-ltb o (o + 1) (omega arith), le-ltb o o (omega arith), eq-eqb o o refl, ordinal_entry a.dictionary a.form h t k (rw (← en) l) is_line_lem)
        | fail i ↦
            let o = line_number a h t k in
            let d = eqb-false (j / 2) o i in
            elim (test (ltb (j / 2) o)) [
              | pass u ↦
                  rw (i, u, lt-ltb (j / 2) (o + 1) (omega (arith, ltb-true (j / 2) o u)))
                  (sym (or-false (in_class s a h t c (told_of a h t (j / 2)) && bit_for s a h t (told_of a h t (j / 2)) (j % 2))))
              | fail u ↦ rw (i, u, le-ltb (j / 2) (o + 1) (omega (arith, ltb-false (j / 2) o u, d)))
            ]
      ])

      pub marked_next : {ms' : List ℕ} → Sets ms ms' (line_bits s a h t c k) → {slots' : List ℕ} → HeldFor s c a h t (k + 1) slots' → length slots' ≡ length slots
          → Marked s c a h t ms₀ ms' slots₀ slots' (lines + 1) (k + 1)
      marked_next w u z = record {
        inside = omega (arith, l, en);
        all = omega (arith, g.all, one_more);
        few = omega (arith, g.few);
        size = z ∙ g.size;
        bits = sets_then g.bits w next_bits;
        held = u;
      }

      pub marked_stands : StandsAt a.dictionary a.form t k e
      marked_stands = record { inside = rw (← en) l; held = sym eq ∙ f; is = ee }

module _ {s : Sought} {c : Class} {a : Asked} {h : Bytes} {t ms₀ ms slots₀ slots : List ℕ} {lines k : ℕ} (g : Marked s c a h t ms₀ ms slots₀ slots lines k) where
  pub marked_held : HeldFor s c a h t k slots
  marked_held = g.held

  pub marked_lines : lines ≡ line_number a h t k
  marked_lines = g.all

pub ruleset markeds = (marked_start, marked_end, marked_skip, marked_next, marked_stands, marked_held, marked_lines)

-- The loop over the classes

pub record Passed (s : Sought) (a : Asked) (h : Bytes) (t ms₀ ms : List ℕ) (of at : ℕ) : Type 0 where
  pub inside : at ≤ of
  pub bits : Sets ms₀ ms (sought_bits s a h t of at)

pub passed_start : (s : Sought) (a : Asked) (h : Bytes) (t ms : List ℕ) (of : ℕ) → Passed s a h t ms ms of 0
unfolding sought_bits
passed_start s a h t ms of = record {
  inside = omega arith;
  bits = sets_none (λ j. let x = class_for s of (line_at a.form h t (told_of a h t (j / 2))) in rw (le-ltb x 0 (omega arith)) (and_off (ltb (j / 2) (line_number a h t (room a.form t))) refl));
}

module _ {s : Sought} {a : Asked} {h : Bytes} {t ms₀ ms : List ℕ} {of at : ℕ} (g : Passed s a h t ms₀ ms of at) where
  pub passed_end : of ≤ at → Sets ms₀ ms (sought_bits s a h t of of)
  passed_end l = let e : at ≡ of = omega (arith, g.inside) in subst (λ (x : ℕ). Sets ms₀ ms (sought_bits s a h t of x)) e g.bits

  pub passed_next : at < of → {ms' : List ℕ} → Sets ms ms' (class_bits s a h t (record { of = of; at = at }) (room a.form t)) → Passed s a h t ms₀ ms' of (at + 1)
  unfolding sought_bits class_bits
  passed_next l w = record {
    inside = omega arith;
    bits = sets_then g.bits w (λ j. let k = told_of a h t (j / 2) in go (ltb (j / 2) (line_number a h t (room a.form t))) (class_for s of (line_at a.form h t k)) (bit_for s a h t k (j % 2)));
  }
    where
      go : (p : Bool) (x : ℕ) (b : Bool) → (p && (ltb x (at + 1) && b)) ≡ ((p && (ltb x at && b)) || (p && (eqb x at && b)))
      go false x b = refl
      go true x b = elim (test (ltb x at)) [
        | pass f ↦ rw (f, lt-ltb x (at + 1) (omega (arith, ltb-true x at f)), ne_eqb x at (λ e. omega (arith, ltb-true x at f))) (sym (or-false b))
        | fail f ↦ elim (test (eqb x at)) [
          | pass e ↦ rw (f, e, lt-ltb x (at + 1) (omega (arith, eqb-true x at e)))
          | fail e ↦ rw (f, e, le-ltb x (at + 1) (omega (arith, ltb-false x at f, eqb-false x at e)))
        ]
      ]

pub ruleset passeds = (passed_start, passed_end, passed_next)

-- what answers the needs of `mark`
module _ (a : Asked) (h : Bytes) (t : List ℕ) {ms ms' : List ℕ} (of : ℕ) (l : 0 < of) (w : Sets ms ms' (sought_bits Ids a h t of of)) where
  below : (s : Sought) (k : ℕ) → ltb (class_for s of (line_at a.form h t k)) of ≡ true
  below Ids k = lt-ltb _ of (class_below of (id_hash (line_at a.form h t k).id) l)
  below Numbers k = go (line_at a.form h t k).idx
    where
      go : (o : Option ℕ) → ltb (class_for Numbers of (record { entry = k; id = (line_at a.form h t k).id; idx = o })) of ≡ true
      go None = lt-ltb _ of (class_below of 0 l)
      go (Some n) = lt-ltb _ of (class_below of (number_hash n) l)

  only : (i p x y : Bool) → i ≡ false → (p && (x || (i && y))) ≡ (p && x)
  only true p x y e = absurd (true≢false e)
  only false p x y e = ap (λ (z : Bool). p && z) (or-false x)

  either : (i p x y : Bool) → i ≡ true → (p && (x || (i && y))) ≡ ((p && x) || (p && y))
  either false p x y e = absurd (false≢true e)
  either true false x y e = refl
  either true true x y e = refl

  abbrev within : ℕ → Bool
  within j = ltb (j / 2) (line_number a h t (room a.form t))

  abbrev bit : Sought → ℕ → Bool
  bit s j = bit_for s a h t (told_of a h t (j / 2)) (j % 2)

  pub all_ids : a.indexed ≡ false → Sets ms ms' (all_bits a h t)
  unfolding all_bits sought_bits
  all_ids f = sets_as w (λ j. rw (below Ids (told_of a h t (j / 2))) (only a.indexed (within j) (bit Ids j) (bit Numbers j) f))

  pub all_both : a.indexed ≡ true → {ms'' : List ℕ} → Sets ms' ms'' (sought_bits Numbers a h t of of) → Sets ms ms'' (all_bits a h t)
  unfolding all_bits sought_bits
  all_both f u = sets_then w u (λ j. rw (below Ids (told_of a h t (j / 2)), below Numbers (told_of a h t (j / 2))) (either a.indexed (within j) (bit Ids j) (bit Numbers j) f))

pub some_classes : (n : ℕ) → 0 < n / 98304 + 1
some_classes n = omega arith

pub ruleset alls = (all_ids, all_both, some_classes)

-- what answers the needs of `mark_any`
module _ (d : Dictionary) (form : Form) (h : Bytes) (t : List ℕ) (x : Carried) where
  pub tells_none : x ≡ carried_by (table_lines d form h t) → x.lines ≡ 0 → (ms : List ℕ) → Tells (asked_of form d x) h t ms
  tells_none e z ms = record { is = λ k b l f s v. absurd (omega (arith, ordinal_below d form h t k l f, sym (ap (λ (y : Carried). y.lines) e) ∙ z)) }

  module _ {ms ms' : List ℕ} (o : AllOpen ms) (w : Sets ms ms' (all_bits (asked_of form d x) h t)) where
    here_bits : (k b : ℕ) → k < room form t → holds d (entry_in form t k).kind ≡ true → b < 2 → all_bits (asked_of form d x) h t (2 * ordinal d form h t k + b) ≡ told_bit (asked_of form d x) h t k b
    unfolding all_bits
    here_bits k b l f s =
        let n = ordinal d form h t k in
        let q : (2 * n + b) / 2 ≡ n = omega arith in
        let m : (2 * n + b) % 2 ≡ b = omega arith in
        let i : n < ordinal d form h t (room form t) = rw (before_all d form h t (room form t) (omega arith) (omega arith)) (ordinal_below d form h t k l f) in
        rw (q, m, lt-ltb n (ordinal d form h t (room form t)) i, ordinal_entry d form h t k l f)

    pub tells_marked : Tells (asked_of form d x) h t ms'
    tells_marked = record {
      is = λ k b l f s v.
          let j = 2 * ordinal d form h t k + b in
          w.is j (omega (arith, v, w.size)) ∙ rw (word_open ms j (o.is (j / 64)), here_bits k b l f s);
    }

pub ruleset telling = (tells_none, tells_marked)

-- Words of marks in two parts, of which each is lent and comes back: e is what came back

open_take : (n : ℕ) (ms : List ℕ) (q : ℕ) → get_or ms q 0 ≡ 0 → get_or (take n ms) q 0 ≡ 0
open_take zero ms q e = refl
open_take (suc n) [] q e = refl
open_take (suc n) (m ∷ ms) zero e = e
open_take (suc n) (m ∷ ms) (suc q) e = open_take n ms q e

module _ (n : ℕ) (ms : List ℕ) where
  pub front_open : AllOpen ms → AllOpen (take n ms)
  front_open o = record { is = λ q. open_take n ms q (o.is q) }

  pub behind_open : {xs : List ℕ} → xs ≡ behind n ms → AllOpen ms → AllOpen xs
  behind_open e o = record { is = λ q. ap (λ (ys : List ℕ). get_or ys q 0) e ∙ open_take (length ms - n) (drop n ms) q (get_or-drop n ms q 0 ∙ o.is (n + q)) }

pub tells_as : {a : Asked} {h : Bytes} {t ms ms' : List ℕ} → ms' ≡ ms → Tells a h t ms → Tells a h t ms'
tells_as e w = rw e w

module _ (n : ℕ) (ms : List ℕ) (l : n ≤ length ms) (e : List ℕ) where
  module _ (z : length e ≡ length (take n ms)) where
    size : length e ≡ n
    size = z ∙ length-take-le n ms l

    pub front_marked : {a : Asked} {h : Bytes} {t : List ℕ} → Tells a h t e → Tells a h t (take n (e ++ drop n ms))
    front_marked w = tells_as (take_at e (drop n ms) n size) w

    pub front_others : behind n (e ++ drop n ms) ≡ behind n ms
    front_others =
        let d : drop n (e ++ drop n ms) ≡ drop n ms = drop_at e (drop n ms) n size in
        let s : length (e ++ drop n ms) ≡ length ms = length_front ms e n z in
        rw (d, s)

  abbrev post : List ℕ
  post = drop (length ms - n) (drop n ms)

  pub behind_others : take n (take n ms ++ (e ++ post)) ≡ take n ms
  behind_others = take_at (take n ms) (e ++ post) n (length-take-le n ms l)

  pub behind_marked : length e ≡ length (behind n ms) → {a : Asked} {h : Bytes} {t : List ℕ} → Tells a h t e → Tells a h t (behind n (take n ms ++ (e ++ post)))
  behind_marked z w =
      let f = length-take-le n ms l in
      let d : drop n (take n ms ++ (e ++ post)) ≡ e ++ post = drop_at (take n ms) (e ++ post) n f in
      let rest = length-drop n ms in
      let own : length e ≡ length ms - n = z ∙ length-take-le (length ms - n) (drop n ms) (omega (arith, rest)) in
      let None : length post ≡ 0 = omega (arith, rest, length-drop (length ms - n) (drop n ms)) in
      let m : length (take n ms ++ (e ++ post)) ≡ length ms = omega (arith, f, own, None, l, length-append (take n ms) (e ++ post), length-append e post) in
      tells_as (rw (d, m) (take_at e post (length ms - n) own)) w

pub ruleset parts = (front_open, behind_open, tells_as)

pub ruleset lent = (length-take-le, front_open, front_marked, front_others, behind_others, behind_marked)
