-- Runs of entries of one key: a turn of the loop that finds one, and what was put of one. Assumes nothing.
use Prim.Native.Nat.{ℕ, zero, suc, ◌+◌, ◌-◌, ◌≤◌, ◌<◌, min}
use native.Mathlib.Omega.{arith}
use mathlib.Core.Path.{◌≡◌, refl, sym, ap, subst, ◌∙◌}
use mathlib.Core.Bool.{Bool, true, false, not}
use mathlib.Core.List.{List, [], ◌∷◌, ◌++◌, append_assoc, append-nil}
use Rattle.std.specs.Option.{option_or}
use Rattle.std.specs.Prelude.{}
use lib.Dec.{eqb}
use lib.ListN.{length, get_or, take, drop, length-take, length-drop}
use lib.Seq.{take-add, drop-drop}
use borrow.Author.Tests.{eqb-true, eqb-false, le-leb}
use Rattle.values.specs.Bytes.{Bytes, LF, starts}
use Rattle.values.proofs.Lists.{here}
use Rattle.values.proofs.Tests.{pass, fail, test, and_l, not_true, not_false, never}
use Rattle.rules.specs.Version.{Version}
use Rattle.rules.specs.Lines.{ends as ends_in, write_line, write_lines}
use Rattle.rules.specs.Entry.{Entry}
use Rattle.rules.specs.Shown.{line_in}
use Rattle.rules.specs.House.{too_long}
use Rattle.entries.specs.declared.entry.Entry.{Entry as CodeEntry}
use Rattle.entries.specs.declared.form.Form.{Form}
use Rattle.entries.specs.Values.{entry_of}
use Rattle.entries.specs.Tables.{room, entries_in, entry_in}
use Rattle.entries.proofs.Stored.{entries_here}
use Rattle.forms.specs.Lines.{house_line}
use Rattle.house.specs.declared.progress.Progress.{Progress}
use Rattle.house.specs.declared.run.Run.{Run}
use Rattle.house.specs.Writes.{WroteLines, PutsEntry, PutsRun}
use Rattle.house.specs.Keys.{is_record, is_under, picked, AllListed}
use Rattle.house.specs.Runs.{line_end, Short, IsShort, Next, IsNext, lines_at, run_text, OneAfterAnother, FindsRun}
use Rattle.house.proofs.Writes.{then_lines, lines_append, too_long_append}
use Rattle.house.proofs.Picks.{Picking, picked_yes}
use Rattle.house.proofs.Looks.{listed_nth}

-- what answers the needs of `is_short` and `is_next`
pub short_not : (limit : ℕ) (l : Bytes) → IsShort limit l false
short_not limit l = record { is = λ e. never cc }

pub short_is : (limit : ℕ) {l : Bytes} → length l ≤ limit → {q : Bool} → q ≡ ends_in 13 l → IsShort limit l (not q)
short_is limit n {q} e = record { is = λ o. record { size = n; ending = sym e ∙ not_true q o } }

pub ruleset shorts = (short_not, short_is)

module _ (h prefix : Bytes) (limit stop : ℕ) (e : CodeEntry) where
  pub next_not : IsNext h prefix limit stop (entry_of e) false
  next_not = record { is = λ q. never cc }

  pub next_is : stop < length h → e.start ≡ stop + 1 → get_or h stop 0 ≡ 10 → {u : Bool} → u ≡ is_under h prefix (entry_of e) → not u ≡ false
      → {p : Bytes} → p ≡ line_in h (entry_of e) → {r : Bool} → IsShort limit p r → IsNext h prefix limit stop (entry_of e) r
  next_is a b d {u} f o i z = record { is = λ q. record { inside = a; start = b; ended = d; under = sym f ∙ not_false u o; short = subst (Short limit) i (z.is q) } }

pub ruleset nexts = (next_not, next_is)

-- Lines one after another

take_again : (n : ℕ) (xs : Bytes) → take (length (take n xs)) xs ≡ take n xs
take_again zero xs = refl
take_again (suc n) [] = refl
take_again (suc n) (x ∷ xs) = ap (x ∷◌) (take_again n xs)

short_line : {limit : ℕ} {l : Bytes} → Short limit l → write_line l ≡ l ++ LF ∷ []
unfolding write_line
short_line s = rw (write_line, s.ending)

module _ (form : Form) (h : Bytes) (t : List ℕ) where
  abbrev at : ℕ → Entry
  at k = entry_in form t k

  lines_count : (n k : ℕ) → length (lines_at form h t k n) ≡ n
  unfolding lines_at
  lines_count zero k = refl
  lines_count (suc n) k = ap suc (lines_count n (k + 1))

  lines_snoc : (n k : ℕ) → lines_at form h t k (suc n) ≡ lines_at form h t k n ++ line_in h (at (k + n)) ∷ []
  unfolding lines_at
  lines_snoc zero k = let z : k + 0 ≡ k = omega arith in rw z
  lines_snoc (suc n) k = let z : k + suc n ≡ k + 1 + n = omega arith in rw z (ap (line_in h (at k) ∷◌) (lines_snoc n (k + 1)))

  -- the line of an entry, from its start on
  line_taken : (k : ℕ) → run_text form h t k ((at k).start + length (line_in h (at k))) ≡ line_in h (at k)
  unfolding line_in
  line_taken k =
      let z : (at k).start + length (line_in h (at k)) - (at k).start ≡ length (line_in h (at k)) = omega arith in
      rw z (take_again (at k).length (drop (at k).start h))

-- what answers the needs of `line_end`
module _ (h : Bytes) (e : CodeEntry) where
  line_size_lem : length (line_in h (entry_of e)) ≡ min e.length (length h - e.start)
  unfolding line_in
  line_size_lem = length-take e.length (drop e.start h) ∙ ap (min e.length) (length-drop e.start h)

  pub end_past : length h ≤ e.start → e.start ≡ line_end h (entry_of e)
  unfolding line_end
  end_past l = omega (arith, line_size_lem)

  pub end_cut : e.start < length h → length h - e.start < e.length → length h ≡ line_end h (entry_of e)
  unfolding line_end
  end_cut a l = omega (arith, line_size_lem)

  pub end_whole : e.length ≤ length h - e.start → e.start + e.length ≡ line_end h (entry_of e)
  unfolding line_end
  end_whole l = omega (arith, line_size_lem)

pub ruleset ends = (end_past, end_cut, end_whole)

-- The loop that finds a run: the lines of the entries from number k up to `end` follow one another

pub record Running (form : Form) (h : Bytes) (t : List ℕ) (prefix : Bytes) (limit k end stop : ℕ) : Type 0 where
  pub low : (entry_in form t k).start ≤ stop
  pub found : FindsRun form true h t prefix limit k (record { end = end; stop = stop })
  pub lines : OneAfterAnother form h t limit k end stop

module _ (form : Form) (h t prefix : Bytes) (limit k : ℕ) (l : k < room form t) {e : CodeEntry} (ee : entry_of e ≡ entry_in form t k) {stop : ℕ} (z : stop ≡ line_end h (entry_of e)) where
  stop_is : stop ≡ (entry_in form t k).start + length (line_in h (entry_in form t k))
  unfolding line_end
  stop_is = z ∙ ap (line_end h) ee

  pub run_alone : {f : Bool} → FindsRun form f h t prefix limit k (record { end = k + 1; stop = stop })
  run_alone = record {
    ahead = omega arith;
    within = omega arith;
    under = λ m a b. absurd (omega arith);
    one = λ o. ap (run_text form h t k) stop_is ∙ line_taken form h t k;
    more = λ o. absurd (omega arith);
  }

  module _ {line : Bytes} (i : line ≡ line_in h (entry_of e)) {q : Bool} (s : IsShort limit line q) where
    pub run_start : not q ≡ false → Running form h t prefix limit k (k + 1) stop
    unfolding lines_at write_lines too_long
    run_start o =
        let b = subst (Short limit) (i ∙ ap (line_in h) ee) (s.is (not_false q o)) in
        let n : k + 1 - k ≡ suc zero = omega arith in
        let x = line_in h (entry_in form t k) in
        record {
          low = rw stop_is (omega arith);
          found = run_alone;
          lines = record {
            text = rw (n, stop_is, line_taken form h t k) (append-nil (write_line x) ∙ short_line b);
            short = λ m a. rw (n, too_long, le-leb (length x) limit b.size);
          };
        }

module _ {form : Form} {h t prefix : Bytes} {limit k end stop : ℕ} (g : Running form h t prefix limit k end stop) where
  pub run_end : {f : Bool} → not f ≡ false → FindsRun form f h t prefix limit k (record { end = end; stop = stop })
  run_end {f} o = rw (not_false f o) g.found

  module _ {n : ℕ} (en : n ≡ room form t) (l : end < n) {e : CodeEntry} (ee : entry_of e ≡ entry_in form t end) {q : Bool} (x : IsNext h prefix limit stop (entry_of e) q) (o : not q ≡ false) {p : ℕ} (i : p ≡ line_end h (entry_of e)) where
    abbrev next : Next h prefix limit stop (entry_in form t end)
    next = subst (Next h prefix limit stop) ee (x.is (not_false q o))

    abbrev line : Bytes
    line = line_in h (entry_in form t end)

    abbrev start : ℕ
    start = (entry_in form t k).start

    stop_on : p ≡ stop + 1 + length line
    unfolding line_end
    stop_on = i ∙ ap (line_end h) ee ∙ ap (λ (y : ℕ). y + length line) next.start

    -- one line more
    text_on : run_text form h t k (stop + 1 + length line) ≡ run_text form h t k stop ++ LF ∷ line
    unfolding line_in
    text_on =
        let low = g.low in
        let z : stop + 1 + length line - start ≡ (stop - start) + suc (length line) = omega arith in
        let y : start + (stop - start) ≡ stop = omega arith in
        rw (z, take-add (stop - start) (suc (length line)) (drop start h), drop-drop (stop - start) start h, y, here h stop next.inside, next.ended)
        (ap (λ (b : Bytes). take (stop - start) (drop start h) ++ LF ∷ b) (ap (λ (j : ℕ). take (length line) (drop j h)) (sym next.start) ∙ take_again (entry_in form t end).length (drop (entry_in form t end).start h)))

    lines_on : lines_at form h t k (end + 1 - k) ≡ lines_at form h t k (end - k) ++ line ∷ []
    lines_on =
        let a = g.found.ahead in
        let z : end + 1 - k ≡ suc (end - k) = omega arith in
        let y : k + (end - k) ≡ end = omega arith in
        rw z (lines_snoc form h t (end - k) k ∙ rw y)

    pub run_more : Running form h t prefix limit k (end + 1) p
    unfolding write_lines too_long
    run_more =
        let low = g.low in
        let a = g.found.ahead in
        let s = next.short in
        record {
          low = rw stop_on (omega arith);
          found = record {
            ahead = omega arith;
            within = rw (← en) (omega arith);
            under = λ m b c. elim (test (eqb m end)) [
              | pass w ↦ rw (eqb-true m end w) next.under
              | fail w ↦ let y = eqb-false m end w in g.found.under m b (omega (arith, y))
            ];
            one = λ b. absurd (omega arith);
            more = λ b. (refl, all);
          };
          lines = all;
        }
      where
        all : OneAfterAnother form h t limit k (end + 1) p
        all = record {
          text = rw (lines_on, lines_append (lines_at form h t k (end - k)) (line ∷ []), g.lines.text, stop_on, text_on, append-nil (write_line line), short_line next.short)
              (append_assoc (run_text form h t k stop) (LF ∷ []) (line ++ LF ∷ []) ∙ sym (append_assoc (run_text form h t k stop) (LF ∷ line) (LF ∷ [])));
          short = λ m a. ap (too_long limit m a) lines_on ∙ too_long_append limit m a (lines_at form h t k (end - k)) (line ∷ []) ∙ rw (g.lines.short m a) (rw (too_long, le-leb (length line) limit next.short.size));
        }

pub ruleset findings = (run_alone, run_start, run_end, run_more)

pub run_here : (form : Form) (t : List ℕ) {k n : ℕ} → n ≡ room form t → k < n → k < room form t
run_here form t en l = rw (← en) l

module _ {form : Form} {f : Bool} {h t prefix : Bytes} {limit k : ℕ} {run : Run} (g : FindsRun form f h t prefix limit k run) where
  pub run_count : k ≤ run.end
  run_count = let a = g.ahead in omega arith

  pub run_under : is_under h prefix (entry_in form t k) ≡ true → (m : ℕ) → k ≤ m → m < run.end → is_under h prefix (entry_in form t m) ≡ true
  run_under u m b c = elim (test (eqb m k)) [
    | pass w ↦ rw (eqb-true m k w) u
    | fail w ↦ let y = eqb-false m k w in g.under m (omega (arith, y)) c
  ]

  pub run_less : {n : ℕ} → k < n → n - run.end < n - k
  run_less l = let a = g.ahead in omega arith

-- What was put of a run

module _ (form : Form) (v : Version) (h t prefix : Bytes) where
  abbrev es : List Entry
  es = entries_in form t

  -- the lines of entries under the key whose lines stand in form
  run_picked : (n k : ℕ) → k + n ≤ room form t → ((m : ℕ) → k ≤ m → m < k + n → (is_under h prefix (entry_in form t m) ≡ true) × (house_line v (line_in h (entry_in form t m)) ≡ line_in h (entry_in form t m)))
      → picked v h prefix (drop k es) ≡ lines_at form h t k n ++ picked v h prefix (drop (k + n) es)
  unfolding lines_at
  run_picked zero k l u = let z : k + 0 ≡ k = omega arith in rw z
  run_picked (suc n) k l u =
      let w = u k (omega arith) (omega arith) in
      let z : k + suc n ≡ k + 1 + n = omega arith in
      ap (picked v h prefix) (entries_here form t k (omega arith)) ∙ picked_yes v h prefix (entry_in form t k) (drop (k + 1) es) w.0
      ∙ rw (w.1, z) (ap (line_in h (entry_in form t k) ∷◌) (run_picked n (k + 1) (omega arith) (λ m a b. u m (omega arith) (omega arith))))

module _ {form : Form} {v : Version} {h t prefix : Bytes} {f : Bool} (a : AllListed f v h (entries_in form t)) {k : ℕ} (u : is_under h prefix (entry_in form t k) ≡ true) {s : Progress} (sf : s.formed ≡ f)
    {run : Run} (g : FindsRun form s.formed h t prefix s.limit k run) {text : Bytes} (x : text ≡ run_text form h t k run.stop) {given old : Bytes} {r : Progress} {new : Bytes} (p : PutsRun v text (run.end - k) given old s r new) where
  abbrev RunPut : Type 0
  RunPut = (ls : List Bytes) × ((picked v h prefix (drop k (entries_in form t)) ≡ ls ++ picked v h prefix (drop run.end (entries_in form t))) × WroteLines given old s ls r new)

  record_at : (m : ℕ) → k ≤ m → m < run.end → is_record (entry_in form t m) ≡ true
  unfolding is_under
  record_at m b c = and_l (is_record (entry_in form t m)) (starts prefix (line_in h (entry_in form t m))) (run_under g u m b c)

  one_put : run.end - k ≡ 1 → RunPut
  one_put o =
      let l = g.ahead in
      let w = g.within in
      let e : run.end ≡ k + 1 = omega arith in
      let line = line_in h (entry_in form t k) in
      let z = listed_nth form f v h t a k (omega arith) (record_at k (omega arith) (omega arith)) in
      let i : text ≡ line = x ∙ g.one e in
      let d : PutsEntry v line given old s r new = subst (λ (b : Bytes). PutsEntry v b given old s r new) i (p.one o) in (
        house_line v line ∷ [],
        (
          rw e (ap (picked v h prefix) (entries_here form t k (omega arith)) ∙ picked_yes v h prefix (entry_in form t k) (drop (k + 1) (entries_in form t)) u),
          d.is z.readable (λ q. z.copied (sym sf ∙ q)),
        ),
      )

  more_put : (run.end - k ≡ 1 → ⊥) → RunPut
  more_put o =
      let l = g.ahead in
      let w = g.within in
      let b = g.more (omega (arith, o)) in
      let c = b.1 in
      let z : k + (run.end - k) ≡ run.end = omega arith in (
        lines_at form h t k (run.end - k),
        (
          run_picked form v h t prefix (run.end - k) k (omega arith) (λ m y d. (
            run_under g u m y (omega arith),
            (listed_nth form f v h t a m (omega arith) (record_at m y (omega arith))).copied (sym sf ∙ b.0),
          )) ∙ rw z,
          (p.more o).is (lines_at form h t k (run.end - k)) (lines_count form h t (run.end - k) k) (rw x c.text) c.short,
        ),
      )

  pub run_put : RunPut
  run_put = elim (test (eqb (run.end - k) 1)) [ pass q ↦ one_put (eqb-true (run.end - k) 1 q) | fail q ↦ more_put (eqb-false (run.end - k) 1 q) ]

-- the code has the run's text in hand
pub text_here : (form : Form) (h t : Bytes) (k : ℕ) {e : CodeEntry} → entry_of e ≡ entry_in form t k → (stop : ℕ) {text : Bytes} → text ≡ take (stop - e.start) (drop e.start h) → text ≡ run_text form h t k stop
text_here form h t k ee stop x = x ∙ ap (λ (y : Entry). take (stop - y.start) (drop y.start h)) ee

-- the run that begins with an entry under the key was put
module _ {form : Form} {v : Version} {h : Bytes} {t : List ℕ} {prefix given old : Bytes} {s₀ : Progress} {new : Bytes} {s : Progress} {k : ℕ} (g : Picking form v h t prefix given old s₀ new s k)
    {e : CodeEntry} (ee : entry_of e ≡ entry_in form t k) {q : Bool} (u : q ≡ is_under h prefix (entry_of e)) (o : q ≡ true) where
  pub pick_run : {run : Run} → FindsRun form s.formed h t prefix s.limit k run → {text : Bytes} → text ≡ take (run.stop - e.start) (drop e.start h)
      → {r : Progress} {new' : Bytes} → PutsRun v text (run.end - k) given new s r new' → length new' ≡ length new → Picking form v h t prefix given old s₀ new' r run.end
  pick_run {run} x y p m = record {
    size = m ∙ g.size;
    is = λ a.
        let d = g.is a in
        let w = run_put a (ap (is_under h prefix) (sym ee) ∙ sym u ∙ o) d.1.1.formed x (text_here form h t k ee run.stop y) p in (
          d.0 ++ w.0,
          (d.1.0 ∙ ap (d.0 ++◌) w.1.0 ∙ sym (append_assoc d.0 w.0 (picked v h prefix (drop run.end (entries_in form t)))), then_lines d.1.1 w.1.1),
        );
  }

pub ruleset runs = (run_here, run_count, run_less, pick_run)
