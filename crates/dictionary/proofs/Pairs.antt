-- The loops over a dictionary's entries, a turn of each on plain values. Assumes nothing.
use Rattle.std.specs.Prelude.{Option, Some, None}
use Prim.Native.Nat.{ℕ, suc, ◌+◌, ◌-◌, ◌*◌, ◌/◌, ◌^◌, ◌<◌, ◌≤◌}
use native.Mathlib.Omega.{arith}
use native.Mathlib.Numerals.{add-one}
use mathlib.Core.Path.{◌≡◌, refl, sym, ap, subst, ◌∙◌}
use mathlib.Core.Bool.{Bool, true, false, ◌||◌, true≢false, or-false}
use mathlib.Core.List.{List, [], ◌∷◌, ◌++◌}
use lib.Dec.{ltb}
use lib.ListN.{length, set, length-set, length-append}
use lib.Seq.{sets, length-sets}
use borrow.Author.Tests.{lt-ltb, le-ltb}
use Rattle.values.specs.Bytes.{Bytes}
use Rattle.values.proofs.Tests.{pass, fail, test}
use Rattle.rules.specs.Known.{is_in}
use Rattle.entries.specs.declared.entry.Entry.{Entry as CodeEntry}
use Rattle.entries.specs.Values.{entry_of}
use Rattle.entries.specs.Tables.{room, entry_in}
use Rattle.entries.proofs.Tables.{room_small}
use Rattle.dictionary.specs.Dictionary.{Line, any_of, carries, lacks, first_lines, id_number, pair_words, pairs}
use Rattle.dictionary.specs.Lines.{holds, idx_meant, line_of_entry, entry_lines, table_lines, lines_before, ordinal, idx_at}
use Rattle.dictionary.specs.Places.{place_if, place_at}
use Rattle.dictionary.specs.Slots.{StandsAt}
use Rattle.dictionary.specs.Pairs.{carried_by, EndsLines, put_pair, first_number, Counts, turn_of, turn_out, Uniform, numbering_of, NumbersLines}
use Rattle.dictionary.specs.declared.line.Dictionary.{Dictionary}
use Rattle.dictionary.specs.declared.line.Dictionary.TheVariants.{Strings, Contigs}
use Rattle.dictionary.specs.declared.place.Placed.{Placed}
use Rattle.dictionary.specs.declared.place.Placed.TheVariants.{Numbered as Given, Due, Again, Clash}
use Rattle.dictionary.specs.declared.numbering.Carried.{Carried}
use Rattle.dictionary.specs.declared.numbering.Count.{Count}
use Rattle.dictionary.proofs.Firsts.{ids, first_new, first_old, onto, in_onto, onto_append}
use Rattle.dictionary.proofs.Left.{left, left_end, left_skip, left_take, split_at, before_skip, before_take, before_all}
use Rattle.dictionary.proofs.Verdicts.{Mode, VerdictIs, verdict, mode_start, mode_end}
use Rattle.entries.specs.declared.form.Form.{Form}

-- Whether lines carry IDX: what was seen before entry k, and what is left

pub record Carrying (d : Dictionary) (form : Form) (h : Bytes) (t : List ℕ) (given missing : Bool) (lines k : ℕ) : Type 0 where
  pub with_idx : any_of carries (table_lines d form h t) ≡ given || any_of carries (left d form h t k)
  pub without : any_of lacks (table_lines d form h t) ≡ missing || any_of lacks (left d form h t k)
  pub all : length (table_lines d form h t) ≡ lines + length (left d form h t k)
  pub few : lines ≤ k

pub carry_start : {d : Dictionary} {form : Form} {h : Bytes} {t : List ℕ} → Carrying d form h t false false 0 0
carry_start = record { with_idx = refl; without = refl; all = omega arith; few = omega arith }

on : (a b : Bool) → (a || (true || b)) ≡ (true || b)
on true b = refl
on false b = refl

module _ {d : Dictionary} {form : Form} {h : Bytes} {t : List ℕ} {given missing : Bool} {lines k : ℕ} (g : Carrying d form h t given missing lines k) {n : ℕ} (en : n ≡ room form t) where
  pub carry_end : n ≤ k → ◌≡◌ {A = Carried} (record { given = given; missing = missing; lines = lines }) (carried_by (table_lines d form h t))
  unfolding any_of
  carry_end l =
      let e = left_end d form h t k en l in
      let m : lines + 0 ≡ lines = omega arith in
      rw (g.with_idx, g.without, g.all, e, or-false given, or-false missing, m)

  module _ (l : k < n) {e : CodeEntry} (ee : entry_of e ≡ entry_in form t k) {q : Bool} (eq : q ≡ holds d e.kind) where
    pub carry_fits : length t < 18446744073709551616 → lines + 1 < 18446744073709551616
    carry_fits small = omega (arith, room_small form t, g.few, en)

    pub carry_skip : q ≡ false → Carrying d form h t given missing lines (k + 1)
    carry_skip f = let s = left_skip d form h t k en l ee eq f in record { with_idx = g.with_idx ∙ rw s; without = g.without ∙ rw s; all = g.all ∙ rw s; few = omega (arith, g.few) }

    one_more : q ≡ true → length (table_lines d form h t) ≡ lines + 1 + length (left d form h t (k + 1))
    one_more f = omega (arith, g.all ∙ ap (λ (ls : List Line). lines + length ls) (left_take d form h t k en l ee eq f))

    module _ (f : q ≡ true) {r : Option ℕ} (er : idx_meant r ≡ idx_at h e) where
      pub carry_given : {m : ℕ} → r ≡ Some m → Carrying d form h t true missing (lines + 1) (k + 1)
      unfolding any_of
      carry_given {m} i = let s = left_take d form h t k en l ee eq f in record {
        with_idx = g.with_idx ∙ rw (s, ← er, i) (on given (any_of carries (left d form h t (k + 1))));
        without = g.without ∙ rw (s, ← er, i);
        all = one_more f;
        few = omega (arith, g.few);
      }

      pub carry_missing : r ≡ None → Carrying d form h t given true (lines + 1) (k + 1)
      unfolding any_of
      carry_missing i = let s = left_take d form h t k en l ee eq f in record {
        with_idx = g.with_idx ∙ rw (s, ← er, i);
        without = g.without ∙ rw (s, ← er, i) (on missing (any_of lacks (left d form h t (k + 1))));
        all = one_more f;
        few = omega (arith, g.few);
      }

pub ruleset carried = (carry_start, carry_end, carry_fits, carry_skip, carry_given, carry_missing)

-- The last line, from behind: none of the entries from entry n on is one

pub record Ending (form : Form) (t : List ℕ) (n : ℕ) : Type 0 where
  pub inside : n ≤ room form t
  pub ends : EndsLines form t n

pub end_start : (form : Form) (t : List ℕ) {n : ℕ} → n ≡ room form t → Ending form t n
end_start form t {n} e = record { inside = omega (arith, e); ends = record { is = λ d h. before_all d form h t n (omega (arith, e)) (omega (arith, e)) } }

pub end_here : {form : Form} {t : List ℕ} {n : ℕ} → Ending form t n → EndsLines form t n
end_here g = g.ends

pub end_none : {form : Form} {t : List ℕ} {n : ℕ} → Ending form t n → n ≤ 0 → EndsLines form t 0
end_none {form} {t} {n} g l = let e : n ≡ 0 = omega (arith, l) in subst (EndsLines form t) e g.ends

module _ {form : Form} {t : List ℕ} {n : ℕ} (g : Ending form t n) (l : 0 < n) {e : CodeEntry} (ee : entry_of e ≡ entry_in form t (n - 1)) where
  pub end_before : {p : Bool} → p ≡ holds Strings e.kind → p ≡ false → {q : Bool} → q ≡ holds Contigs e.kind → q ≡ false → Ending form t (n - 1)
  end_before ep fp eq fq =
      let k : n - 1 + 1 ≡ n = omega (arith, l) in
      let i : n - 1 < room form t = omega (arith, l, g.inside) in
      record {
        inside = omega (arith, i);
        ends = record {
          is = λ d h. elim d as (λ k. lines_before k form h t (n - 1) ≡ table_lines k form h t) [
            | Strings ↦ sym (before_skip Strings form h t (n - 1) i ee ep fp) ∙ rw k (g.ends.is Strings h)
            | Contigs ↦ sym (before_skip Contigs form h t (n - 1) i ee eq fq) ∙ rw k (g.ends.is Contigs h)
          ];
        };
      }

pub ruleset endings = (end_start, end_here, end_none, end_before)

-- what answers the needs of `put_pair`
module _ (out : List ℕ) (pair entry number : ℕ) where
  pub pair_lost : length out / 2 ≤ pair → out ≡ put_pair out pair entry number
  unfolding put_pair
  pair_lost h = rw (put_pair, le-ltb pair (length out / 2) h)

  pub pair_put : pair < length out / 2 → set (set out (2 * pair) entry) (2 * pair + 1) number ≡ put_pair out pair entry number
  unfolding put_pair
  pair_put h = rw (put_pair, lt-ltb pair (length out / 2) h, add-one)

pub second_inside : (out : List ℕ) (pair entry : ℕ) → pair < length out / 2 → 2 * pair + 1 < length (set out (2 * pair) entry)
second_inside out pair entry h = rw (length-set out (2 * pair) entry) (omega arith)

pub ruleset putting = (pair_lost, pair_put, second_inside)

put_length : (out : List ℕ) (pair entry number : ℕ) → length (put_pair out pair entry number) ≡ length out
unfolding put_pair
put_length out pair entry number = elim (test (ltb pair (length out / 2))) [
  | pass e ↦ rw (put_pair, e) (length-sets out (2 * pair) (entry ∷ number ∷ []))
  | fail e ↦ rw (put_pair, e)
]

-- What is numbered of the lines before, and what is left to do

pub record Going (d : Dictionary) (indexed : Bool) (ls before left : List Line) (out₀ out : List ℕ) (n next : ℕ) : Type 0 where
  pub counted : length (first_lines [] ls) ≡ n + length (first_lines (onto before []) left)
  pub written : length (pairs d ls) ≤ length out₀ → sets out₀ 0 (pairs d ls) ≡ sets out (2 * n) (pair_words (id_number d ls) (first_lines (onto before []) left))
  pub mode : Mode indexed d ls before left next

pub words_length : (f : Line → ℕ) (ls : List Line) → length (pair_words f ls) ≡ 2 * length ls
unfolding pair_words
words_length f [] = refl
words_length f (l ∷ ls) = let ih = words_length f ls in omega arith

module _ {d : Dictionary} {indexed : Bool} {ls before : List Line} (l : Line) {left : List Line} {out₀ out : List ℕ} {n next : ℕ}
    (g : Going d indexed ls before (l ∷ left) out₀ out n next) (next' : ℕ) (mode' : Mode indexed d ls (before ++ l ∷ []) left next') where
  onto_more : onto (before ++ l ∷ []) [] ≡ l.id ∷ onto before []
  onto_more = onto_append before (l ∷ []) []

  in_before : is_in l.id (onto before []) ≡ is_in l.id (ids before)
  unfolding is_in
  in_before = in_onto l.id before [] ∙ or-false (is_in l.id (ids before))

  going_again : is_in l.id (ids before) ≡ true → Going d indexed ls (before ++ l ∷ []) left out₀ out n next'
  going_again i =
      let f : first_lines (onto before []) (l ∷ left) ≡ first_lines (onto (before ++ l ∷ []) []) left = first_old (onto before []) l left (in_before ∙ i) ∙ rw onto_more in
      record {
        counted = g.counted ∙ rw f;
        written = λ r. g.written r ∙ rw f;
        mode = mode';
      }

  going_first : is_in l.id (ids before) ≡ false → {number : ℕ} → number ≡ id_number d ls l → length out ≡ length out₀
      → Going d indexed ls (before ++ l ∷ []) left out₀ (put_pair out n l.entry number) (n + 1) next'
  unfolding pair_words pairs put_pair
  going_first i {number} e size =
      let rest = first_lines (onto (before ++ l ∷ []) []) left in
      let f : first_lines (onto before []) (l ∷ left) ≡ l ∷ rest = first_new (onto before []) l left (in_before ∙ i) ∙ rw onto_more in
      let c : length (first_lines [] ls) ≡ n + suc (length rest) = g.counted ∙ rw f in
      record {
        counted = omega arith;
        written = λ r.
            let fits : n < length out / 2 = omega (arith, words_length (id_number d ls) (first_lines [] ls)) in
            let two : 2 * (n + 1) ≡ suc (suc (2 * n)) = omega arith in
            g.written r ∙ rw (f, two, put_pair, lt-ltb n (length out / 2) fits, e);
        mode = mode';
      }

-- what answers the needs of `take_place`
module _ (c : Count) (out : List ℕ) (entry : ℕ) (p : Placed) where
  pub turn_given : {x : ℕ} → p ≡ Given x → Some (record { pairs = c.pairs + 1; next = c.next }) ≡ turn_of c p
  turn_given i = rw i

  pub turn_due : p ≡ Due → Some (record { pairs = c.pairs + 1; next = c.next + 1 }) ≡ turn_of c p
  turn_due i = rw i

  pub turn_again : p ≡ Again → Some (record { pairs = c.pairs; next = c.next }) ≡ turn_of c p
  turn_again i = rw i

  pub turn_clash : p ≡ Clash → None ≡ turn_of c p
  turn_clash i = rw i

  pub out_given : {x : ℕ} → p ≡ Given x → {o : List ℕ} → o ≡ put_pair out c.pairs entry x → o ≡ turn_out out entry c p
  out_given i eo = eo ∙ rw i

  pub out_due : p ≡ Due → {o : List ℕ} → o ≡ put_pair out c.pairs entry c.next → o ≡ turn_out out entry c p
  out_due i eo = eo ∙ rw i

  pub out_again : p ≡ Again → out ≡ turn_out out entry c p
  out_again i = rw i

  pub out_clash : p ≡ Clash → out ≡ turn_out out entry c p
  out_clash i = rw i

pub ruleset turns = (turn_given, turn_due, turn_again, turn_clash, out_given, out_due, out_again, out_clash)

-- and of `number_line`: a number that has no room is not needed
same_turn : (c : Count) (needed : Bool) (p : Placed) → turn_of c (place_if needed p) ≡ turn_of c p
same_turn c true p = refl
same_turn c false (Given n) = refl
same_turn c false Due = refl
same_turn c false Again = refl
same_turn c false Clash = refl

no_room : (out : List ℕ) (pair entry number : ℕ) → ltb pair (length out / 2) ≡ false → put_pair out pair entry number ≡ out
unfolding put_pair
no_room out pair entry number f = rw (put_pair, f)

same_out : (out : List ℕ) (entry : ℕ) (c : Count) (needed : Bool) → needed ≡ ltb c.pairs (length out / 2) → (p : Placed) → turn_out out entry c (place_if needed p) ≡ turn_out out entry c p
same_out out entry c true e p = refl
same_out out entry c false e (Given n) = no_room out c.pairs entry 0 (sym e) ∙ sym (no_room out c.pairs entry n (sym e))
same_out out entry c false e Due = refl
same_out out entry c false e Again = refl
same_out out entry c false e Clash = refl

module _ (c : Count) (needed : Bool) (p : Placed) {r : Placed} (er : r ≡ place_if needed p) where
  pub placed_turn : {x : Option Count} → x ≡ turn_of c r → x ≡ turn_of c p
  placed_turn e = e ∙ ap (turn_of c) er ∙ same_turn c needed p

  pub placed_out : (out : List ℕ) (entry : ℕ) → needed ≡ ltb c.pairs (length out / 2) → {o : List ℕ} → o ≡ turn_out out entry c r → o ≡ turn_out out entry c p
  placed_out out entry en e = e ∙ ap (turn_out out entry c) er ∙ same_out out entry c needed en p

pub ruleset placings = (placed_turn, placed_out)

-- The loop: the lines before entry k are numbered

pub record Progress (d : Dictionary) (indexed : Bool) (form : Form) (h : Bytes) (t out₀ out : List ℕ) (c : Count) (lines k : ℕ) : Type 0 where
  pub all : lines ≡ ordinal d form h t k
  pub few_lines : lines ≤ k
  pub size : length out ≡ length out₀
  pub few : c.pairs ≤ k
  pub due : c.next ≤ k + 1
  pub is : Uniform indexed (table_lines d form h t) → Going d indexed (table_lines d form h t) (lines_before d form h t k) (left d form h t k) out₀ out c.pairs c.next

pub stands_here : (d : Dictionary) (form : Form) (t : List ℕ) (k : ℕ) {n : ℕ} → n ≡ room form t → k < n → {e : CodeEntry} → entry_of e ≡ entry_in form t k → {q : Bool} → q ≡ holds d e.kind → q ≡ true
    → StandsAt d form t k e
stands_here d form t k en l ee eq f = record { inside = rw (← en) l; held = sym eq ∙ f; is = ee }

first_small : (d : Dictionary) → first_number d ≤ 1
first_small Strings = omega arith
first_small Contigs = omega arith

pub progress_start : (d : Dictionary) (indexed : Bool) (form : Form) (h : Bytes) (t out : List ℕ) {next : ℕ} → next ≡ first_number d
    → Progress d indexed form h t out out (record { pairs = 0; next = next }) 0 0
unfolding entry_lines is_in pairs
progress_start d indexed form h t out e = record {
  all = refl;
  few_lines = omega arith;
  size = refl;
  few = omega arith;
  due = omega (arith, first_small d);
  is = λ u. record {
    counted = omega arith;
    written = λ r. refl;
    mode = rw e (mode_start indexed d (table_lines d form h t));
  };
}

module _ {d : Dictionary} {indexed : Bool} {form : Form} {h : Bytes} {t out₀ out : List ℕ} {c : Count} {lines k : ℕ} (g : Progress d indexed form h t out₀ out c lines k) {n : ℕ} (en : n ≡ room form t) where
  abbrev ls : List Line
  ls = table_lines d form h t

  abbrev Goes : List Line → List Line → List ℕ → ℕ → ℕ → Type 0
  Goes bs rs o m' next' = Going d indexed ls bs rs out₀ o m' next'

  pub progress_end : n ≤ k → NumbersLines d indexed ls out₀ (Some c.pairs) out
  unfolding numbering_of first_lines pair_words
  progress_end l =
      let e = left_end d form h t k en l in
      record {
        is = λ u.
            let x = subst (λ (rs : List Line). Goes (lines_before d form h t k) rs out c.pairs c.next) e (g.is u) in
            let m : length (first_lines [] ls) ≡ c.pairs = omega (arith, x.counted) in
            rw (mode_end indexed d ls (lines_before d form h t k) c.next u x.mode, m);
        output = λ u f r. sym ((subst (λ (rs : List Line). Goes (lines_before d form h t k) rs out c.pairs c.next) e (g.is u)).written r);
      }

  module _ (l : k < n) where
    pub progress_fits : length t < 18446744073709551616 → lines + 1 < 18446744073709551616
    progress_fits small = omega (arith, room_small form t, g.few_lines, en)

    pub counts_few : length t < 2 ^ 64 → Counts c
    counts_few small = let r = room_small form t in record { pairs_small = omega (arith, g.few, en); next_small = omega (arith, g.due, en) }

    module _ {e : CodeEntry} (ee : entry_of e ≡ entry_in form t k) {q : Bool} (eq : q ≡ holds d e.kind) where
      pub progress_skip : q ≡ false → Progress d indexed form h t out₀ out c lines (k + 1)
      progress_skip f =
          let b : lines_before d form h t (k + 1) ≡ lines_before d form h t k = before_skip d form h t k (rw (← en) l) ee eq f in
          record {
            all = g.all ∙ rw b;
            few_lines = omega (arith, g.few_lines);
            size = g.size;
            few = omega (arith, g.few);
            due = omega (arith, g.due);
            is = λ u. rw (b, ← left_skip d form h t k en l ee eq f) (g.is u);
          }

      module _ (f : q ≡ true) where
        abbrev line : Line
        line = line_of_entry h k (entry_of e)

        abbrev placed : Placed
        placed = place_at indexed d form h t k e

        before_more : lines_before d form h t (k + 1) ≡ lines_before d form h t k ++ line ∷ []
        before_more = before_take d form h t k (rw (← en) l) ee eq f

        left_is : left d form h t k ≡ line ∷ left d form h t (k + 1)
        left_is = left_take d form h t k en l ee eq f

        module _ (u : Uniform indexed ls) where
          going : Goes (lines_before d form h t k) (line ∷ left d form h t (k + 1)) out c.pairs c.next
          going = subst (λ (rs : List Line). Goes (lines_before d form h t k) rs out c.pairs c.next) left_is (g.is u)

          split : ls ≡ lines_before d form h t k ++ line ∷ left d form h t (k + 1)
          split = split_at d form h t k (rw (← en) (omega arith)) ∙ rw left_is

          told : VerdictIs indexed d ls (lines_before d form h t k) line (left d form h t (k + 1)) c.next placed
          told = verdict d ls (lines_before d form h t k) line (left d form h t (k + 1)) indexed u split c.next going.mode

        -- what the turn leaves, by the line's place
        abbrev Leaves : Placed → Option Count → List ℕ → Type 0
        Leaves p (Some c') o = Progress d indexed form h t out₀ o c' (lines + 1) (k + 1)
        Leaves p None o = NumbersLines d indexed ls out₀ None o

        all_more : lines + 1 ≡ ordinal d form h t (k + 1)
        all_more = omega (arith, g.all, ap length before_more ∙ length-append (lines_before d form h t k) (line ∷ []))

        leaves : (p : Placed) → placed ≡ p → Leaves p (turn_of c p) (turn_out out k c p)
        unfolding numbering_of
        leaves (Given x) i = record {
          all = all_more;
          few_lines = omega (arith, g.few_lines);
          size = put_length out c.pairs k x ∙ g.size;
          few = omega (arith, g.few);
          due = omega (arith, g.due);
          is = λ w. let v = rw i at (told w) in rw before_more (going_first line (going w) c.next v.2 v.0 v.1 g.size);
        }
        leaves Due i = record {
          all = all_more;
          few_lines = omega (arith, g.few_lines);
          size = put_length out c.pairs k c.next ∙ g.size;
          few = omega (arith, g.few);
          due = omega (arith, g.due);
          is = λ w. let v = rw i at (told w) in rw before_more (going_first line (going w) (c.next + 1) v.2 v.0 v.1 g.size);
        }
        leaves Again i = record {
          all = all_more;
          few_lines = omega (arith, g.few_lines);
          size = g.size;
          few = omega (arith, g.few);
          due = omega (arith, g.due);
          is = λ w. let v = rw i at (told w) in rw before_more (going_again line (going w) c.next v.1 v.0);
        }
        leaves Clash i = record { is = λ w. let v = rw i at (told w) in rw v; output = λ w z. let v = rw i at (told w) in absurd (true≢false (sym v ∙ z)) }

        -- r and o are what it was left with
        module _ {r : Option Count} (er : r ≡ turn_of c placed) {o : List ℕ} (eo : o ≡ turn_out out k c placed) where
          left_with : Leaves placed r o
          left_with = rw (er, eo) (leaves placed refl)

          pub progress_clash : r ≡ None → NumbersLines d indexed ls out₀ None o
          progress_clash i = rw i at left_with

          pub progress_next : {c' : Count} → r ≡ Some c' → Progress d indexed form h t out₀ o c' (lines + 1) (k + 1)
          progress_next i = rw i at left_with

pub progress_lines : {d : Dictionary} {indexed : Bool} {form : Form} {h : Bytes} {t out₀ out : List ℕ} {c : Count} {lines k : ℕ} → Progress d indexed form h t out₀ out c lines k → lines ≡ ordinal d form h t k
progress_lines g = g.all

pub ruleset progresses = (progress_start, progress_end, progress_lines, progress_fits, counts_few, progress_skip, stands_here, progress_clash, progress_next)
