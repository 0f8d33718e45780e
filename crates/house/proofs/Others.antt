-- The keys that are not typed, by first appearance: a turn of each loop on plain values. Assumes nothing.
use Prim.Native.Nat.{ℕ, zero, suc, ◌+◌, ◌-◌, ◌≤◌, ◌<◌}
use native.Mathlib.Omega.{arith}
use mathlib.Core.Path.{◌≡◌, refl, sym, ap, subst, ◌∙◌}
use mathlib.Core.Bool.{Bool, true, false, not}
use mathlib.Core.List.{List, [], ◌∷◌, ◌++◌, append_assoc, append-nil}
use lib.Dec.{eqb, ltb}
use lib.ListN.{length, get_or, take, drop, take-append-drop}
use lib.Seq.{take_all, take-add}
use borrow.Author.Tests.{lt-ltb, le-ltb, eqb-true, eqb-false, ltb-true, ltb-false}
use Rattle.values.specs.Bytes.{Bytes, is, before, starts}
use Rattle.values.specs.Written.{last}
use Rattle.values.proofs.Tests.{pass, fail, test, and_l, and_off, not_true, not_false}
use Rattle.values.proofs.Sames.{same_self}
use Rattle.rules.specs.Version.{Version}
use Rattle.rules.specs.Known.{is_typed}
use Rattle.rules.specs.Entry.{Entry}
use Rattle.rules.specs.Shown.{line_in}
use Rattle.entries.specs.declared.entry.Entry.{Entry as CodeEntry}
use Rattle.entries.specs.declared.form.Form.{Form}
use Rattle.entries.specs.Values.{entry_of}
use Rattle.entries.specs.Tables.{room, entries_in, entry_in}
use Rattle.entries.proofs.Tables.{room_small}
use Rattle.entries.proofs.Stored.{entries_here, entries_past}
use Rattle.forms.specs.Lines.{house_line}
use Rattle.house.specs.declared.progress.Progress.{Progress}
use Rattle.house.specs.Writes.{WroteLines, PutsEntry, PutsRun}
use Rattle.house.specs.Keys.{is_record, is_under, picked, Listed, AllListed, is_other_record, prefix_in, seen_under, is_first, lines_if, other_lines, PutsOthers}
use Rattle.house.specs.Links.{slot_of, slot_in, link_of, Links, NextIs, PassesOther, Linked, SeesKey, PutsLinked, PutsFirst, SkipsUnder, SkipsSame, PutsOthersBy}
use Rattle.house.proofs.Writes.{wrote_no_lines, then_lines}
use Rattle.house.proofs.Picks.{listed_on, picked_yes, picked_no}
use Rattle.house.specs.Runs.{FindsRun}
use Rattle.house.specs.declared.run.Run.{Run}
use Rattle.house.proofs.Runs.{run_here, run_count, run_under, run_put, text_here}
use Rattle.house.proofs.Looks.{listed_at, listed_nth, own_key, other_record}
use Rattle.house.proofs.Linkings.{listed_in, slot_is, before_head, passed_over, picked_skip, unseen_picked, seen_none, seen_some}

-- what answers the needs of `prefix_part`
module _ (h : Bytes) (e : CodeEntry) {line : Bytes} (el : line ≡ line_in h (entry_of e)) {end : ℕ} (f : end ≡ 0 + length (before (is 61) (drop 0 line))) where
  ends_at : length (before (is 61) (line_in h (entry_of e))) ≡ end
  ends_at = rw (← el) (omega (arith, f))

  pub prefix_whole : length line ≤ end → line ≡ prefix_in h (entry_of e)
  unfolding prefix_in
  prefix_whole l = rw (ends_at, ← el) (sym (take_all (end + 1) line (omega arith)))

  pub prefix_cut : {p : Bytes} → p ≡ take (end + 1 - 0) (drop 0 line) → p ≡ prefix_in h (entry_of e)
  unfolding prefix_in
  prefix_cut q = q ∙ rw (ends_at, ← el) (let n : end + 1 - 0 ≡ end + 1 = omega arith in rw n)

pub ruleset prefixes = (prefix_whole, prefix_cut)

-- what answers the needs of `is_other`
module _ (e : CodeEntry) where
  pub other_low : e.kind < 7 → false ≡ is_other_record (entry_of e)
  other_low l = rw (le-ltb 6 e.kind (omega arith))

  pub other_high : 8 < e.kind → false ≡ is_other_record (entry_of e)
  other_high l = rw (le-ltb e.kind 9 (omega arith), and_off (ltb 6 e.kind) refl)

  pub other_is : 7 ≤ e.kind → e.kind ≤ 8 → true ≡ is_other_record (entry_of e)
  other_is a b = rw (lt-ltb 6 e.kind (omega arith), lt-ltb e.kind 9 (omega arith))

pub ruleset kinds = (other_low, other_high, other_is)

-- The scan for a key: no entry before number k is under it

pub record Seeing (form : Form) (h t prefix : Bytes) (slot : ℕ) (heads links : List ℕ) (k : ℕ) : Type 0 where
  pub is : (f : Bool) (v : Version) → Linked form v f h t prefix slot heads links → (m : ℕ) → m < k → m < room form t → is_under h prefix (entry_in form t m) ≡ false

pub see_start : {form : Form} {h t prefix : Bytes} {slot : ℕ} {heads links : List ℕ} {k : ℕ} → k ≡ get_or heads slot 0 → Seeing form h t prefix slot heads links k
see_start e = record { is = λ f v g m a b. before_head g m (rw (← e) a) b }

module _ {form : Form} {h t prefix : Bytes} {slot : ℕ} {heads links : List ℕ} {k : ℕ} (g : Seeing form h t prefix slot heads links k) where
  pub see_end : {end : ℕ} → end ≤ k → SeesKey form h t prefix slot heads links end false
  see_end {end} l = record { is = λ f v x b. sym (seen_none form h t prefix end b (λ m a. g.is f v x m (omega arith) (omega arith))) }

  module _ {e : CodeEntry} (ee : entry_of e ≡ entry_in form t k) {q : Bool} (u : q ≡ is_under h prefix (entry_of e)) where
    pub see_here : {end : ℕ} → k < end → q ≡ true → SeesKey form h t prefix slot heads links end true
    see_here {end} l o = record { is = λ f v x b. sym (seen_some form h t prefix end k l b (ap (is_under h prefix) (sym ee) ∙ sym u ∙ o)) }

    pub see_more : q ≡ false → {r : ℕ} → PassesOther h (entry_of e) slot heads links (k + 1) r → Seeing form h t prefix slot heads links r
    see_more o {r} p = record {
      is = λ f v x m a b. elim (test (ltb m k)) [
        | pass y ↦ g.is f v x m (ltb-true m k y) b
        | fail y ↦ elim (test (eqb m k)) [
          | pass z ↦ rw (eqb-true m k z, ← ee) (sym u ∙ o)
          | fail z ↦ let w = eqb-false m k z in let d = ltb-false m k y in passed_over x k r (rw (← ee) p.is) m (omega (arith, w)) a b
        ]
      ];
    }

pub one_less : {slot : ℕ} {heads links : List ℕ} {k r end : ℕ} → k < end → NextIs slot heads links (k + 1) r → end - r < end - k
one_less l p = let b = p.back in omega arith

pub see_less : {h : Bytes} {e : Entry} {slot : ℕ} {heads links : List ℕ} {k r end : ℕ} → k < end → PassesOther h e slot heads links (k + 1) r → end - r < end - k
see_less l p = let b = p.back in omega arith

pub next_less : {form : Form} {f : Bool} {h t prefix : Bytes} {limit k : ℕ} {run : Run} → FindsRun form f h t prefix limit k run → {slot : ℕ} {heads links : List ℕ} {r end : ℕ} → k < end → NextIs slot heads links run.end r → end - r < end - k
next_less g l p = let a = g.ahead in let b = p.back in omega arith

pub ruleset sees = (see_start, see_end, see_here, see_more, see_less)

-- The loop over the entries of a key: the lines of those before number k are written

pub record Putting (form : Form) (v : Version) (h t prefix : Bytes) (slot : ℕ) (heads links : List ℕ) (first : ℕ) (given old : Bytes) (s₀ : Progress) (new : Bytes) (s : Progress) (k : ℕ) : Type 0 where
  pub size : length new ≡ length old
  pub is : Linked form v s₀.formed h t prefix slot heads links → (ls : List Bytes) × ((picked v h prefix (drop first (entries_in form t)) ≡ ls ++ picked v h prefix (drop k (entries_in form t))) × WroteLines given old s₀ ls s new)

pub put_start : (form : Form) (v : Version) (h t prefix : Bytes) (slot : ℕ) (heads links : List ℕ) (first : ℕ) (given old : Bytes) (s : Progress) → s.next.at ≤ last → s.lines ≤ last → length old ≤ last
    → Putting form v h t prefix slot heads links first given old s old s first
put_start form v h t prefix slot heads links first given old s a b d = record { size = refl; is = λ g. ([], (refl, wrote_no_lines given old s a b d)) }

module _ {form : Form} {v : Version} {h t prefix : Bytes} {slot : ℕ} {heads links : List ℕ} {first : ℕ} {given old : Bytes} {s₀ : Progress} {new : Bytes} {s : Progress} {k : ℕ}
    (g : Putting form v h t prefix slot heads links first given old s₀ new s k) {n : ℕ} (en : n ≡ room form t) where
  module _ (l : k < n) {e : CodeEntry} (ee : entry_of e ≡ entry_in form t k) {q : Bool} (u : q ≡ is_under h prefix (entry_of e)) where
    inside : k < room form t
    inside = rw (← en) l

    -- the entries that are passed over, after entry number j
    skipped : Linked form v s₀.formed h t prefix slot heads links → (j r : ℕ) → j + 1 ≤ r
        → ((m : ℕ) → j + 1 ≤ m → (slot_in h (length heads) (entry_in form t j) ≡ slot → slot < length heads → link_of links (j + 1) ≤ m) → r ≤ m)
        → picked v h prefix (drop (j + 1) (entries_in form t)) ≡ picked v h prefix (drop r (entries_in form t))
    skipped x j r b p =
        let z : j + 1 + (r - (j + 1)) ≡ r = omega arith in
        picked_skip form h t prefix v (r - (j + 1)) (j + 1) (λ m a c d. passed_over x j r p m (omega arith) (rw z at c) d) ∙ ap (λ (i : ℕ). picked v h prefix (drop i (entries_in form t))) z

    pub put_more : q ≡ true → {run : Run} → FindsRun form s.formed h t prefix s.limit k run → {text : Bytes} → text ≡ take (run.stop - e.start) (drop e.start h)
        → {p : Progress} {o : Bytes} → PutsRun v text (run.end - k) given new s p o → length o ≡ length new → {r : ℕ} → NextIs slot heads links run.end r
        → Putting form v h t prefix slot heads links first given old s₀ o p r
    put_more f {run} y i {p} {o} a m {r} b = record {
      size = m ∙ g.size;
      is = λ x.
          let d = g.is x in
          let w : is_under h prefix (entry_in form t k) ≡ true = ap (is_under h prefix) (sym ee) ∙ sym u ∙ f in
          let c = run_put x.listed w d.1.1.formed y (text_here form h t k ee run.stop i) a in (
            d.0 ++ c.0,
            (
              d.1.0 ∙ ap (d.0 ++◌) (c.1.0 ∙ ap (c.0 ++◌) (onward x w)) ∙ sym (append_assoc d.0 c.0 (picked v h prefix (drop r (entries_in form t)))),
              then_lines d.1.1 c.1.1,
            ),
          );
    }
      where
        onward : Linked form v s₀.formed h t prefix slot heads links → is_under h prefix (entry_in form t k) ≡ true → picked v h prefix (drop run.end (entries_in form t)) ≡ picked v h prefix (drop r (entries_in form t))
        onward x w =
            let l = y.ahead in
            let z : run.end - 1 + 1 ≡ run.end = omega arith in
            let under = run_under y w (run.end - 1) (omega arith) (omega arith) in
            let n = y.within in
            rw (← z) (skipped x (run.end - 1) r (rw z b.back) (λ j c d. b.is j (rw z at c) (rw z at (d (slot_is x (run.end - 1) (omega arith) under)))))

    pub put_one : q ≡ true → {line : Bytes} → line ≡ line_in h (entry_of e) → {p : Progress} {o : Bytes} → PutsEntry v line given new s p o → length o ≡ length new → {r : ℕ} → NextIs slot heads links (k + 1) r
        → Putting form v h t prefix slot heads links first given old s₀ o p r
    unfolding is_under
    put_one f {line} i {p} {o} a m {r} b = record {
      size = m ∙ g.size;
      is = λ x.
          let d = g.is x in
          let w : is_under h prefix (entry_in form t k) ≡ true = ap (is_under h prefix) (sym ee) ∙ sym u ∙ f in
          let l = line_in h (entry_in form t k) in
          let y = subst (λ (z : Bytes). PutsEntry v z given new s p o) (i ∙ ap (line_in h) ee) a in
          let z = listed_in x k inside (and_l (is_record (entry_in form t k)) (starts prefix l) w) in
          let j : picked v h prefix (drop k (entries_in form t)) ≡ house_line v l ∷ picked v h prefix (drop r (entries_in form t))
          = ap (picked v h prefix) (entries_here form t k inside) ∙ picked_yes v h prefix (entry_in form t k) (drop (k + 1) (entries_in form t)) w
          ∙ ap (house_line v l ∷◌) (skipped x k r b.back (λ i c d. b.is i c (d (slot_is x k inside w)))) in (
            d.0 ++ house_line v l ∷ [],
            (
              d.1.0 ∙ ap (d.0 ++◌) j ∙ sym (append_assoc d.0 (house_line v l ∷ []) (picked v h prefix (drop r (entries_in form t)))),
              then_lines d.1.1 (y.is z.readable (λ c. z.copied (sym d.1.1.formed ∙ c))),
            ),
          );
    }

    pub put_other : q ≡ false → {r : ℕ} → PassesOther h (entry_of e) slot heads links (k + 1) r → Putting form v h t prefix slot heads links first given old s₀ new s r
    put_other f {r} b = record {
      size = g.size;
      is = λ x.
          let d = g.is x in
          let w : is_under h prefix (entry_in form t k) ≡ false = ap (is_under h prefix) (sym ee) ∙ sym u ∙ f in (
            d.0,
            (
              d.1.0 ∙ ap (d.0 ++◌) (ap (picked v h prefix) (entries_here form t k inside) ∙ picked_no v h prefix (entry_in form t k) (drop (k + 1) (entries_in form t)) w ∙ skipped x k r b.back (rw (← ee) b.is)),
              d.1.1,
            ),
          );
    }

  pub put_end : n ≤ k → PutsLinked form v h t prefix slot heads links first given old s₀ s new
  unfolding picked
  put_end l = record {
    is = λ x.
        let d = g.is x in
        subst (λ (ls : List Bytes). WroteLines given old s₀ ls s new) (sym (d.1.0 ∙ ap (d.0 ++◌) (rw (entries_past form t k (rw (← en) l))) ∙ append-nil d.0)) d.1.1;
  }

pub ruleset puttings = (put_more, put_one, put_other, put_end, see_less, one_less, next_less, run_here, run_count)

-- what answers the needs of `put_if_first`
module _ {form : Form} (v : Version) {h : Bytes} {t heads links : List ℕ} {k : ℕ} {e : CodeEntry} (ee : entry_of e ≡ entry_in form t k) {q : Bool} (o : q ≡ is_other_record (entry_of e)) where
  pub first_typed : not q ≡ true → (given old : Bytes) (s : Progress) → PutsFirst form v h t heads links k given old s s old
  unfolding is_first
  first_typed n given old s = record { is = λ x y l out b ls w. rw (← ee, ← o, not_true q n, append-nil ls) w }

  module _ (n : not q ≡ false) {p : Bytes} (i : p ≡ prefix_in h (entry_of e)) {slot : ℕ} (z : slot ≡ slot_of (length heads) p) where
    linked_here : (f : Bool) → AllListed f v h (entries_in form t) → Links form h t heads links 0 → k < room form t → Linked form v f h t p slot heads links
    linked_here f x y l =
        let other : is_other_record (entry_of e) ≡ true = sym o ∙ not_false q n in
        let g : Listed f v h (entry_in form t k) = listed_at f v h (take k (entries_in form t)) (entry_in form t k) (drop (k + 1) (entries_in form t))
        (subst (AllListed f v h) (sym (take-append-drop k (entries_in form t)) ∙ ap (take k (entries_in form t) ++◌) (entries_here form t k l)) x)
        (other_record (entry_in form t k) (ap is_other_record (sym ee) ∙ other)) in
        record {
          listed = x;
          chain = y;
          key = record {
            key = g.key;
            plain = g.plain;
            untyped = not_true (is_typed g.key) (sym g.other ∙ ap is_other_record (sym ee) ∙ other);
            is = i ∙ ap (prefix_in h) ee ∙ g.prefix;
          };
          place = z;
        }

    module _ {r : Bool} (w : SeesKey form h t p slot heads links k r) where
      first_is : (f : Bool) → AllListed f v h (entries_in form t) → Links form h t heads links 0 → k < room form t → is_first h (take k (entries_in form t)) (entry_in form t k) ≡ not r
      unfolding is_first
      first_is f x y l = rw (← ee, ← o, not_false q n, ← i, ← w.is f v (linked_here f x y l) (omega arith))

      pub first_seen : r ≡ true → (given old : Bytes) (s : Progress) → PutsFirst form v h t heads links k given old s s old
      first_seen c given old s = record { is = λ x y l out b ls u. rw (first_is s.formed x y l, c, append-nil ls) u }

      pub first_put : r ≡ false → {given old : Bytes} {s u : Progress} {new : Bytes} → PutsLinked form v h t p slot heads links k given old s u new → PutsFirst form v h t heads links k given old s u new
      first_put c {given} {old} {s} {u} {new} a = record {
        is = λ x y l out b ls d.
            let j = linked_here s.formed x y l in
            let none : seen_under h p (take k (entries_in form t)) ≡ false = sym (w.is s.formed v j (omega arith)) ∙ c in
            let all : picked v h p (entries_in form t) ≡ picked v h p (drop k (entries_in form t))
            = ap (picked v h p) (sym (take-append-drop k (entries_in form t))) ∙ unseen_picked v h p (take k (entries_in form t)) (drop k (entries_in form t)) none in
            rw (first_is s.formed x y l, c, ← ee, ← i, all) (then_lines d (a.is j));
      }

pub ruleset firsts = (first_typed, first_seen, first_put)

pub other_turn : (v : Version) (h : Bytes) (es : List Entry) (k : ℕ) (e : Entry) → drop k es ≡ e ∷ drop (k + 1) es → {q : Bool} → q ≡ is_first h (take k es) e
    → other_lines v h es (take k es) (drop k es) ≡ lines_if q (picked v h (prefix_in h e) es) ++ other_lines v h es (take (k + 1) es) (drop (k + 1) es)
unfolding other_lines
other_turn v h es k e here first = let more : take (k + 1) es ≡ take k es ++ e ∷ [] = take-add k 1 es ∙ rw here in rw (here, ← first, more)

-- The loop past the entries of one key: those from number `start` on and before number k are under it

pub skip_start : (form : Form) (h : Bytes) (t : List ℕ) (prefix : Bytes) (start : ℕ) → SkipsUnder form h t prefix start start
skip_start form h t prefix start = record { back = omega arith; within = λ l. l; under = λ m a b. absurd (omega arith) }

pub skip_more : {form : Form} {h : Bytes} {t : List ℕ} {prefix : Bytes} {start k : ℕ} → SkipsUnder form h t prefix start k → {n : ℕ} → n ≡ room form t → k < n → {e : CodeEntry} → entry_of e ≡ entry_in form t k
    → {q : Bool} → q ≡ is_under h prefix (entry_of e) → not q ≡ false → SkipsUnder form h t prefix start (k + 1)
skip_more {k = k} g en l ee {q} u o = record {
  back = let a = g.back in omega arith;
  within = λ a. rw (← en) (omega arith);
  under = λ m a b. elim (test (eqb m k)) [
    | pass f ↦ rw (eqb-true m k f, ← ee) (sym u ∙ not_false q o)
    | fail f ↦ let w = eqb-false m k f in g.under m a (omega (arith, w))
  ];
}

pub ruleset passes = (skip_start, skip_more)

-- what answers the needs of `skip_same`
module _ (form : Form) (h : Bytes) (t : List ℕ) (k : ℕ) where
  pub skip_typed : SkipsSame form h t k (k + 1)
  skip_typed = record { ahead = omega arith; within = λ l. omega arith; under = λ m a b. absurd (omega arith) }

  pub skip_same : {e : CodeEntry} → entry_of e ≡ entry_in form t k → {q : Bool} → q ≡ is_other_record (entry_of e) → not q ≡ false → {p : Bytes} → p ≡ prefix_in h (entry_of e) → {r : ℕ} → SkipsUnder form h t p (k + 1) r → SkipsSame form h t k r
  skip_same ee {q} u o i g = record {
    ahead = let a = g.back in omega arith;
    within = λ l. g.within (omega arith);
    under = λ m a b. (ap is_other_record (sym ee) ∙ sym u ∙ not_false q o, ap (λ (p : Bytes). is_under h p (entry_in form t m)) (sym (i ∙ ap (prefix_in h) ee)) ∙ g.under m (omega arith) b);
  }

pub ruleset skips = (skip_typed, skip_same)

pub skip_less : {form : Form} {h : Bytes} {t : List ℕ} {k r n : ℕ} → SkipsSame form h t k r → k < n → n - r < n - k
skip_less g l = let a = g.ahead in omega arith

-- none of them is the first of a key
module _ (form : Form) (f : Bool) (v : Version) (h : Bytes) (t : List ℕ) (x : AllListed f v h (entries_in form t)) where
  not_first : (k m : ℕ) → k < m → m < room form t → is_other_record (entry_in form t k) ≡ true → is_under h (prefix_in h (entry_in form t k)) (entry_in form t m) ≡ true
      → is_first h (take m (entries_in form t)) (entry_in form t m) ≡ false
  unfolding is_first
  not_first k m a b o u =
      let g = listed_nth form f v h t x k (omega arith) (other_record (entry_in form t k) o) in
      let w = own_key f v h (entry_in form t m) (listed_nth form f v h t x m b) g.key g.plain (not_true (is_typed g.key) (sym g.other ∙ o)) (ap (λ (p : Bytes). is_under h p (entry_in form t m)) (sym g.prefix) ∙ u) in
      let here : is_under h (prefix_in h (entry_in form t m)) (entry_in form t k) ≡ true = rw w.1 (g.under g.key g.plain ∙ same_self g.key) in
      rw (w.0, seen_some form h t (prefix_in h (entry_in form t m)) m k a (omega arith) here)

  lines_skipped : (d i : ℕ) → i + d ≤ room form t → ((m : ℕ) → i ≤ m → m < i + d → is_first h (take m (entries_in form t)) (entry_in form t m) ≡ false)
      → other_lines v h (entries_in form t) (take i (entries_in form t)) (drop i (entries_in form t)) ≡ other_lines v h (entries_in form t) (take (i + d) (entries_in form t)) (drop (i + d) (entries_in form t))
  lines_skipped zero i l n = let z : i + 0 ≡ i = omega arith in rw z
  lines_skipped (suc d) i l n =
      let z : i + 1 + d ≡ i + suc d = omega arith in
      other_turn v h (entries_in form t) i (entry_in form t i) (entries_here form t i (omega arith)) (sym (n i (omega arith) (omega arith)))
      ∙ rw (← z) (lines_skipped d (i + 1) (omega arith) (λ m a b. n m (omega arith) (omega arith)))

  same_skipped : {k r : ℕ} → k < room form t → SkipsSame form h t k r
      → other_lines v h (entries_in form t) (take (k + 1) (entries_in form t)) (drop (k + 1) (entries_in form t)) ≡ other_lines v h (entries_in form t) (take r (entries_in form t)) (drop r (entries_in form t))
  same_skipped {k} {r} l g =
      let a = g.ahead in
      let b = g.within l in
      let z : k + 1 + (r - (k + 1)) ≡ r = omega arith in
      lines_skipped (r - (k + 1)) (k + 1) (omega arith) (λ m c d. let w = g.under m (omega arith) (omega arith) in not_first k m (omega arith) (omega arith) w.0 w.1)
      ∙ ap (λ (i : ℕ). other_lines v h (entries_in form t) (take i (entries_in form t)) (drop i (entries_in form t))) z

-- The loop over the keys: the lines of those that appear before number k are written

pub record Othering (form : Form) (v : Version) (h : Bytes) (t heads links : List ℕ) (given old : Bytes) (s₀ : Progress) (new : Bytes) (s : Progress) (k : ℕ) : Type 0 where
  pub size : length new ≡ length old
  pub is : AllListed s₀.formed v h (entries_in form t) → Links form h t heads links 0
      → (ls : List Bytes) × ((other_lines v h (entries_in form t) [] (entries_in form t) ≡ ls ++ other_lines v h (entries_in form t) (take k (entries_in form t)) (drop k (entries_in form t))) × WroteLines given old s₀ ls s new)

pub other_start : (form : Form) (v : Version) (h : Bytes) (t heads links : List ℕ) (given old : Bytes) (s : Progress) → s.next.at ≤ last → s.lines ≤ last → length old ≤ last
    → Othering form v h t heads links given old s old s 0
other_start form v h t heads links given old s a b d = record { size = refl; is = λ g j. ([], (refl, wrote_no_lines given old s a b d)) }

module _ {form : Form} {v : Version} {h : Bytes} {t heads links : List ℕ} {given old : Bytes} {s₀ : Progress} {new : Bytes} {s : Progress} {k : ℕ} (g : Othering form v h t heads links given old s₀ new s k) {n : ℕ} (en : n ≡ room form t) where
  abbrev es : List Entry
  es = entries_in form t

  pub other_more : k < n → {r : Progress} {o : Bytes} → PutsFirst form v h t heads links k given new s r o → length o ≡ length new → {i : ℕ} → SkipsSame form h t k i
      → Othering form v h t heads links given old s₀ o r i
  other_more l {r} {o} a m {i} z = record {
    size = m ∙ g.size;
    is = λ x j.
        let d = g.is x j in
        let e = entry_in form t k in
        let ls = lines_if (is_first h (take k es) e) (picked v h (prefix_in h e) es) in (
          d.0 ++ ls,
          (
            d.1.0 ∙ ap (d.0 ++◌) (other_turn v h es k e (entries_here form t k (rw (← en) l)) refl ∙ ap (ls ++◌) (same_skipped form s₀.formed v h t x (rw (← en) l) z)) ∙ sym (append_assoc d.0 ls (other_lines v h es (take i es) (drop i es))),
            a.is (listed_on d.1.1 v h es x) j (rw (← en) l) old s₀ d.0 d.1.1,
          ),
        );
  }

  pub other_end : n ≤ k → PutsOthersBy form v h t heads links given old s₀ s new
  unfolding other_lines
  other_end l = record {
    is = λ x j.
        let d = g.is x j in
        subst (λ (ls : List Bytes). WroteLines given old s₀ ls s new) (sym (d.1.0 ∙ ap (d.0 ++◌) (rw (entries_past form t k (rw (← en) l))) ∙ append-nil d.0)) d.1.1;
  }

pub place_inside : (form : Form) (t : List ℕ) {k n : ℕ} → n ≡ room form t → k < n → k < length t
place_inside form t en l = omega (arith, en, room_small form t)

pub ruleset others = (other_more, other_end, skip_less)

-- what answers the needs of `put_others_linked` and `put_others_few`
module _ {form : Form} {v : Version} {h : Bytes} {t heads links : List ℕ} {given old : Bytes} {s r : Progress} {new : Bytes} (p : PutsOthersBy form v h t heads links given old s r new) where
  pub others_linked : Links form h t heads links 0 → PutsOthers v h (entries_in form t) given old s r new
  others_linked m = record { is = λ a. p.is a m }

  -- where there are no heads, nothing is linked
  pub others_unlinked : length heads ≡ 0 → PutsOthers v h (entries_in form t) given old s r new
  others_unlinked z = others_linked (record { first = λ m a b c. absurd (omega arith); next = λ j m a b c d e. absurd (omega arith) })
