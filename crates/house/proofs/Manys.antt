-- The other keys of a header of very many entries: a turn of each loop on plain values. Assumes nothing.
use Prim.Native.Nat.{ℕ, zero, suc, ◌+◌, ◌-◌, ◌%◌, ◌^◌, ◌≤◌, ◌<◌}
use native.Mathlib.Omega.{arith}
use native.Mathlib.Nat.{mod-lt}
use mathlib.Core.Path.{◌≡◌, refl, sym, ap, subst, ◌∙◌}
use mathlib.Core.Bool.{Bool, true, false, not, ◌||◌, ◌&&◌}
use mathlib.Core.List.{List, [], ◌∷◌, ◌++◌, append_assoc, append-nil}
use lib.Dec.{eqb, leb, ltb}
use lib.ListN.{length, take, drop, take-append-drop}
use borrow.Author.Tests.{lt-ltb, le-ltb, le-leb, eqb-true, eqb-false, ltb-true, ltb-false}
use Rattle.values.specs.Bytes.{Bytes, starts}
use Rattle.values.specs.Hash.{wide_basis, wide_step, wide_from}
use Rattle.values.specs.Written.{last}
use Rattle.values.proofs.Tests.{pass, fail, test, and_l, and_off, or_on, not_true, not_false, both}
use Rattle.values.proofs.Sames.{same_self}
use Rattle.rules.specs.Version.{Version}
use Rattle.rules.specs.Known.{is_typed}
use Rattle.rules.specs.Entry.{Entry}
use Rattle.rules.specs.Shown.{line_in}
use Rattle.entries.specs.declared.entry.Entry.{Entry as CodeEntry}
use Rattle.entries.specs.declared.form.Form.{Form}
use Rattle.entries.specs.Values.{entry_of}
use Rattle.entries.specs.Tables.{room, entries_in, entry_in}
use Rattle.entries.specs.Notes.{bare, note_at}
use Rattle.entries.proofs.Stored.{entries_here, entries_past}
use Rattle.entries.proofs.Noted.{bare_length, same_room, same_entry, same_entries, noted_bare, noted_own, noted_other}
use Rattle.forms.specs.Lines.{house_line}
use Rattle.house.specs.declared.progress.Progress.{Progress}
use Rattle.house.specs.Writes.{WroteLines, PutsEntry}
use Rattle.house.specs.Keys.{is_record, is_under, picked, Listed, AllListed, is_other_record, prefix_in, seen_under, is_first, other_lines, PutsOthers}
use Rattle.house.specs.Links.{slot_of, slot_in}
use Rattle.house.specs.Chains.{link_at, is_written, written_at, next_at, slot_at, FirstFrom, Linked, LinksAll}
use Rattle.house.specs.Many.{Ways, PutsAll, Done, Stage, PutsNew, PutsEach}
use Rattle.house.proofs.Writes.{wrote_no_lines, then_lines}
use Rattle.house.proofs.Picks.{listed_on, picked_yes, picked_no}
use Rattle.house.proofs.Looks.{listed_at, other_record, own_key}
use Rattle.house.proofs.Linkings.{picked_skip, take_one, unseen_picked}
use Rattle.house.proofs.Others.{other_turn}

or_none : (x : Bool) → (x || false) ≡ x
or_none true = refl
or_none false = refl

pub same_size : (d t : List ℕ) → bare d ≡ bare t → length d ≡ length t
same_size d t e = sym (bare_length d) ∙ ap length e ∙ bare_length t

-- An entry noted as written: its link stays, and so does all of the others

module _ (form : Form) (t : List ℕ) (n : ℕ) where
  written_same : bare (written_at form t n) ≡ bare t
  unfolding written_at
  written_same = noted_bare form t n (link_at form t n + 2 ^ 23)

  note_other : {m : ℕ} → (m ≡ n → ⊥) → note_at form (written_at form t n) m ≡ note_at form t m
  unfolding written_at
  note_other ne = noted_other form t n (link_at form t n + 2 ^ 23) ne

  written_other : {m : ℕ} → (m ≡ n → ⊥) → is_written form (written_at form t n) m ≡ is_written form t m
  unfolding is_written
  written_other ne = ap (leb (2 ^ 23)) (note_other ne)

  module _ (l : n < room form t) where
    note_own : note_at form (written_at form t n) n ≡ note_at form t n % 2 ^ 23 + 2 ^ 23
    unfolding written_at link_at
    note_own = noted_own form t n (note_at form t n % 2 ^ 23 + 2 ^ 23) l (omega arith)

    written_own : is_written form (written_at form t n) n ≡ true
    unfolding is_written
    written_own = rw note_own (le-leb (2 ^ 23) (note_at form t n % 2 ^ 23 + 2 ^ 23) (omega arith))

    written_link : (m : ℕ) → link_at form (written_at form t n) m ≡ link_at form t m
    unfolding link_at
    written_link m = elim (test (eqb m n)) [
      | pass q ↦ rw (eqb-true m n q, note_own) (omega arith)
      | fail q ↦ ap (λ (x : ℕ). x % 2 ^ 23) (note_other (eqb-false m n q))
    ]

-- entries are linked as before where all links are
linked_on : {form : Form} {h : Bytes} {t t' : List ℕ} → bare t' ≡ bare t → ((m : ℕ) → link_at form t' m ≡ link_at form t m) → Linked form h t → Linked form h t'
linked_on {form} {h} {t} {t'} e f g =
    let n = g.slots in
    let size = same_room form t' t e in
    let slot : (m : ℕ) → slot_at form h t' n m ≡ slot_at form h t n m = λ m. ap (slot_in h n) (same_entry form t' t e m) in
    record {
      slots = n;
      some = g.some;
      next = λ m l s.
          let c = g.next m (omega (arith, size)) (rw (slot m) at s) in
          record {
            back = rw (f m) c.back;
            own = λ a. slot (link_at form t' m) ∙ ap (slot_at form h t n) (f m) ∙ c.own (omega (arith, size, f m)) ∙ sym (slot m);
            none = λ j a b i o. c.none j a (omega (arith, f m)) (omega (arith, size)) (sym (slot j) ∙ o ∙ slot m);
          };
    }

listed_here : (f : Bool) (v : Version) (h : Bytes) (form : Form) (t : List ℕ) → AllListed f v h (entries_in form t) → (m : ℕ) → m < room form t → is_record (entry_in form t m) ≡ true → Listed f v h (entry_in form t m)
listed_here f v h form t a m l = listed_at f v h (take m (entries_in form t)) (entry_in form t m) (drop (m + 1) (entries_in form t))
    (subst (AllListed f v h) (sym (take-append-drop m (entries_in form t)) ∙ ap (take m (entries_in form t) ++◌) (entries_here form t m l)) a)

-- The loop over the entries of a key: those before number k are written; d is the table t with the notes of now

pub record Walking (form : Form) (v : Version) (h : Bytes) (t : List ℕ) (prefix : Bytes) (first end : ℕ) (given old : Bytes) (s₀ : Progress) (d : List ℕ) (new : Bytes) (s : Progress) (k : ℕ) : Type 0 where
  pub size : length new ≡ length old
  pub all : end ≡ room form t
  pub same : bare d ≡ bare t
  pub links : (m : ℕ) → link_at form d m ≡ link_at form t m
  pub low : first ≤ k
  pub leads : (w : Ways form h t prefix first) → k < room form t → slot_at form h t w.linked.slots k ≡ slot_at form h t w.linked.slots first
  pub lines : AllListed s₀.formed v h (entries_in form t) → Ways form h t prefix first
      → (ls : List Bytes) × ((picked v h prefix (drop first (entries_in form t)) ≡ ls ++ picked v h prefix (drop k (entries_in form t))) × WroteLines given old s₀ ls s new)
  pub written : Ways form h t prefix first → (m : ℕ) → first ≤ m → m < room form t → is_written form d m ≡ (is_written form t m || (ltb m k && is_under h prefix (entry_in form t m)))

pub walk_start : (form : Form) (v : Version) (h : Bytes) (t : List ℕ) (prefix : Bytes) (first : ℕ) {end : ℕ} (given old : Bytes) (s : Progress)
    → end ≡ room form t → s.next.at ≤ last → s.lines ≤ last → length old ≤ last → Walking form v h t prefix first end given old s t old s first
walk_start form v h t prefix first given old s e a b c = record {
  size = refl;
  all = e;
  same = refl;
  links = λ m. refl;
  low = omega arith;
  leads = λ w i. refl;
  lines = λ x w. ([], (refl, wrote_no_lines given old s a b c));
  written = λ w m i j. rw (le-ltb m first i) (sym (or_none (is_written form t m)));
}

module _ {form : Form} {v : Version} {h : Bytes} {t : List ℕ} {prefix : Bytes} {first end : ℕ} {given old : Bytes} {s₀ : Progress} {d : List ℕ} {new : Bytes} {s : Progress} {k : ℕ}
    (g : Walking form v h t prefix first end given old s₀ d new s k) where
  abbrev es : List Entry
  es = entries_in form t

  abbrev under : ℕ → Bool
  under m = is_under h prefix (entry_in form t m)

  module _ (l : k < end) {r : ℕ} (p : r ≡ next_at form d k end) where
    inside : k < room form t
    inside = omega (arith, g.all)

    ahead : k < r
    unfolding next_at
    ahead = elim (test (ltb k (link_at form d k))) [
      | pass q ↦ rw (p, next_at, q) (ltb-true k (link_at form d k) q)
      | fail q ↦ rw (p, next_at, q) l
    ]

    link_is : k < link_at form t k → r ≡ link_at form t k
    unfolding next_at
    link_is a = p ∙ rw (next_at, g.links k, lt-ltb k (link_at form t k) a) (g.links k)

    chain : (w : Ways form h t prefix first) → FirstFrom (slot_at form h t w.linked.slots) (room form t) (slot_at form h t w.linked.slots first) (k + 1) r
    chain w =
        let slot = slot_at form h t w.linked.slots in
        let o = g.leads w inside in
        let c = w.linked.next k inside (rw o w.own) in
        let e : r ≡ link_at form t k = link_is (omega (arith, c.back)) in
        subst (λ (x : ℕ). FirstFrom slot (room form t) (slot first) (k + 1) x) (sym e) (subst (λ (x : ℕ). FirstFrom slot (room form t) x (k + 1) (link_at form t k)) o c)

    -- no entry under the prefix is passed over
    passed : Ways form h t prefix first → (m : ℕ) → k < m → m < r → m < room form t → under m ≡ false
    passed w m a b c = elim (test (under m)) [
      | fail q ↦ q
      | pass q ↦ absurd ((chain w).none m (omega arith) b c (w.caught m (omega (arith, g.low)) c q))
    ]

    skipped : Ways form h t prefix first → picked v h prefix (drop (k + 1) es) ≡ picked v h prefix (drop r es)
    skipped w =
        let z : k + 1 + (r - (k + 1)) ≡ r = omega (arith, ahead) in
        picked_skip form h t prefix v (r - (k + 1)) (k + 1) (λ m a c i. passed w m (omega arith) (rw z at c) i) ∙ ap (λ (i : ℕ). picked v h prefix (drop i es)) z

    -- what is passed over changes nothing
    written_on : Ways form h t prefix first → (m : ℕ) → m < room form t → (m ≡ k → under m ≡ false) → (ltb m k && under m) ≡ (ltb m r && under m)
    written_on w m a c = elim (test (ltb m k)) [
      | pass q ↦ rw (q, lt-ltb m r (omega (arith, ahead, ltb-true m k q)))
      | fail q ↦ elim (test (under m)) [
        | fail u ↦ and_off (ltb m k) u ∙ sym (and_off (ltb m r) u)
        | pass u ↦
            let i : k < m = elim (test (eqb m k)) [
              | pass e ↦ both u (c (eqb-true m k e))
              | fail e ↦ omega (arith, ltb-false m k q, eqb-false m k e)
            ] in
            elim (test (ltb m r)) [
              | pass b ↦ both u (passed w m i (ltb-true m r b) a)
              | fail b ↦ rw (q, b)
            ]
      ]
    ]

    module _ {e : CodeEntry} (ee : entry_of e ≡ entry_in form d k) {q : Bool} (u : q ≡ is_under h prefix (entry_of e)) where
      entry_here : entry_of e ≡ entry_in form t k
      entry_here = ee ∙ same_entry form d t g.same k

      under_here : under k ≡ q
      under_here = ap (is_under h prefix) (sym entry_here) ∙ sym u

      pub walk_more : q ≡ true → {line : Bytes} → line ≡ line_in h (entry_of e) → {p' : Progress} {o : Bytes} → PutsEntry v line given new s p' o → length o ≡ length new → {d' : List ℕ} → d' ≡ written_at form d k
          → Walking form v h t prefix first end given old s₀ d' o p' r
      unfolding is_under
      walk_more f {line} n {p'} {o} a z {d'} y =
          let on : under k ≡ true = under_here ∙ f in
          let own : k < room form d = omega (arith, inside, same_room form d t g.same) in
          let line_is : line ≡ line_in h (entry_in form t k) = n ∙ ap (line_in h) entry_here in
          record {
            size = z ∙ g.size;
            all = g.all;
            same = ap bare y ∙ written_same form d k ∙ g.same;
            links = λ m. rw y (written_link form d k own m) ∙ g.links m;
            low = omega (arith, g.low, ahead);
            leads = λ w i. (chain w).own i;
            lines = λ x w.
                let c = g.lines x w in
                let j : Listed s₀.formed v h (entry_in form t k) = listed_here s₀.formed v h form t x k inside (and_l (is_record (entry_in form t k)) (starts prefix (line_in h (entry_in form t k))) on) in
                let put = subst (λ (b : Bytes). PutsEntry v b given new s p' o) line_is a in
                let text = house_line v (line_in h (entry_in form t k)) in
                let here : picked v h prefix (drop k es) ≡ text ∷ picked v h prefix (drop r es)
                = ap (picked v h prefix) (entries_here form t k inside) ∙ picked_yes v h prefix (entry_in form t k) (drop (k + 1) es) on ∙ ap (text ∷◌) (skipped w) in (
                  c.0 ++ text ∷ [],
                  (
                    c.1.0 ∙ ap (c.0 ++◌) here ∙ sym (append_assoc c.0 (text ∷ []) (picked v h prefix (drop r es))),
                    then_lines c.1.1 (put.is j.readable (λ m. j.copied (sym c.1.1.formed ∙ m))),
                  ),
                );
            written = λ w m i j. ap (λ (b : List ℕ). is_written form b m) y ∙ elim (test (eqb m k)) [
              | pass b ↦ rw (eqb-true m k b, written_own form d k own, lt-ltb k r ahead, on) (sym (or_on (is_written form t k) refl))
              | fail b ↦
                  let ne = eqb-false m k b in
                  written_other form d k ne ∙ g.written w m i j ∙ ap (is_written form t m ||◌) (written_on w m j (λ c. absurd (ne c)))
            ];
          }

      pub walk_other : q ≡ false → Walking form v h t prefix first end given old s₀ d new s r
      walk_other f = record {
        size = g.size;
        all = g.all;
        same = g.same;
        links = g.links;
        low = omega (arith, g.low, ahead);
        leads = λ w i. (chain w).own i;
        lines = λ x w.
            let c = g.lines x w in (
              c.0,
              (
                c.1.0 ∙ ap (c.0 ++◌) (ap (picked v h prefix) (entries_here form t k inside) ∙ picked_no v h prefix (entry_in form t k) (drop (k + 1) es) (under_here ∙ f) ∙ skipped w),
                c.1.1,
              ),
            );
        written = λ w m i j. g.written w m i j ∙ ap (is_written form t m ||◌) (written_on w m j (λ c. ap under c ∙ under_here ∙ f));
      }

    pub walk_less : end - r < end - k
    walk_less = omega (arith, ahead)

  pub walk_end : end ≤ k → PutsAll form v h t prefix first given old s₀ s new d
  unfolding picked
  walk_end l = record {
    same = g.same;
    links = g.links;
    lines = λ x w.
        let c = g.lines x w in
        let rest : picked v h prefix (drop k es) ≡ [] = ap (picked v h prefix) (entries_past form t k (omega (arith, g.all))) in
        subst (λ (ls : List Bytes). WroteLines given old s₀ ls s new) (sym (c.1.0 ∙ ap (c.0 ++◌) rest ∙ append-nil c.0)) c.1.1;
    written = λ w m i j. g.written w m i j ∙ rw (lt-ltb m k (omega (arith, g.all)));
  }

pub ruleset walks = (walk_other, walk_less, walk_end)

-- Entries of one key

module _ (f : Bool) (v : Version) (h : Bytes) (form : Form) (t : List ℕ) (a : AllListed f v h (entries_in form t)) where
  abbrev entry : ℕ → Entry
  entry m = entry_in form t m

  abbrev prefix_at : ℕ → Bytes
  prefix_at m = prefix_in h (entry_in form t m)

  under_self : (m : ℕ) → m < room form t → is_other_record (entry m) ≡ true → is_under h (prefix_at m) (entry m) ≡ true
  under_self m l o =
      let g = listed_here f v h form t a m l (other_record (entry m) o) in
      ap (λ (p : Bytes). is_under h p (entry m)) g.prefix ∙ g.under g.key g.plain ∙ same_self g.key

  under_other : (k m : ℕ) → k < room form t → m < room form t → is_other_record (entry k) ≡ true → is_under h (prefix_at k) (entry m) ≡ true → (is_other_record (entry m) ≡ true) × (prefix_at m ≡ prefix_at k)
  under_other k m lk lm o u =
      let g = listed_here f v h form t a k lk (other_record (entry k) o) in
      let y = own_key f v h (entry m) (listed_here f v h form t a m lm) g.key g.plain (not_true (is_typed g.key) (sym g.other ∙ o)) (ap (λ (p : Bytes). is_under h p (entry m)) (sym g.prefix) ∙ u) in
      (y.0, y.1 ∙ sym g.prefix)

  under_both : (k m : ℕ) → k < room form t → m < room form t → is_other_record (entry k) ≡ true → is_other_record (entry m) ≡ true → is_under h (prefix_at k) (entry m) ≡ is_under h (prefix_at m) (entry k)
  under_both k m lk lm ok om = elim (test (is_under h (prefix_at k) (entry m))) [
    | pass u ↦ u ∙ sym (ap (λ (p : Bytes). is_under h p (entry k)) (under_other k m lk lm ok u).1 ∙ under_self k lk ok)
    | fail u ↦ elim (test (is_under h (prefix_at m) (entry k))) [
      | fail w ↦ u ∙ sym w
      | pass w ↦ both (ap (λ (p : Bytes). is_under h p (entry m)) (under_other m k lm lk om w).1 ∙ under_self m lm om) u
    ]
  ]

-- they have one slot

slot_small : (n : ℕ) (p : Bytes) → 0 < n → slot_of n p < n
unfolding slot_of
slot_small zero p l = absurd (omega arith)
slot_small (suc n) p l = mod-lt (wide_step (wide_from wide_basis p) 0) {m = suc n} l

slot_inside : (h : Bytes) (n : ℕ) (e : Entry) → 0 < n → is_other_record e ≡ true → slot_in h n e < n
unfolding slot_in
slot_inside h n e l o = rw (slot_in, o) (slot_small n (prefix_in h e) l)

slot_same : (h : Bytes) (n : ℕ) (d e : Entry) → is_other_record d ≡ true → is_other_record e ≡ true → prefix_in h d ≡ prefix_in h e → slot_in h n d ≡ slot_in h n e
unfolding slot_in
slot_same h n d e a b c = rw (slot_in, a, b, c)

-- so that all are found by links
ways : (f : Bool) (v : Version) (h : Bytes) (form : Form) (t : List ℕ) → AllListed f v h (entries_in form t) → Linked form h t → (k : ℕ) → k < room form t → is_other_record (entry_in form t k) ≡ true
    → Ways form h t (prefix_in h (entry_in form t k)) k
ways f v h form t a g k l o = record {
  linked = g;
  own = slot_inside h g.slots (entry_in form t k) g.some o;
  caught = λ m i j u. let y = under_other f v h form t a k m l j o u in slot_same h g.slots (entry_in form t m) (entry_in form t k) y.0 o y.1;
}

done_on : {form : Form} {h : Bytes} {t d : List ℕ} {k : ℕ} → Done form h t d k → k < room form t → {d' : List ℕ}
    → ((m : ℕ) → k < m → m < room form t → is_other_record (entry_in form t m) ≡ true → is_written form d' m ≡ (is_written form d m || is_under h (prefix_in h (entry_in form t m)) (entry_in form t k)))
    → Done form h t d' (k + 1)
done_on {form} {h} {t} {d} {k} g l f = record {
  is = λ m a b o.
      let p = prefix_in h (entry_in form t m) in
      f m (omega arith) b o ∙ ap (◌|| is_under h p (entry_in form t k)) (g.is m (omega arith) b o) ∙ sym (take_one form h t p k l);
}

-- what answers the needs of `put_if_new`
module _ {form : Form} {v : Version} {h : Bytes} {d : List ℕ} {k : ℕ} {given old : Bytes} {s : Progress} where
  -- nothing is written at number k
  skips : ((t : List ℕ) (f : Bool) → bare d ≡ bare t → AllListed f v h (entries_in form t) → Done form h t d k → k < room form t → (is_first h (take k (entries_in form t)) (entry_in form t k) ≡ false)
      × ((m : ℕ) → k < m → m < room form t → is_other_record (entry_in form t m) ≡ true → is_under h (prefix_in h (entry_in form t m)) (entry_in form t k) ≡ true → is_written form d m ≡ true))
      → PutsNew form v h d k given old s s old d
  skips f = record {
    same = refl;
    is = λ l t out b st.
        let i : k < room form t = omega (arith, same_room form d t st.same) in
        let es = entries_in form t in
        let y = f t b.formed st.same st.listed st.marked i in
        record {
          listed = st.listed;
          same = st.same;
          linked = st.linked;
          marked = done_on st.marked i (λ m c j o. elim (test (is_under h (prefix_in h (entry_in form t m)) (entry_in form t k))) [
            | fail u ↦ rw u (sym (or_none (is_written form d m)))
            | pass u ↦ rw (y.1 m c j o u)
          ]);
          ls = st.ls;
          lines = st.lines ∙ ap (st.ls ++◌) (other_turn v h es k (entry_in form t k) (entries_here form t k i) (sym y.0));
          wrote = st.wrote;
        };
  }

  pub new_done : {q : Bool} → q ≡ is_written form d k → q ≡ true → PutsNew form v h d k given old s s old d
  unfolding is_first
  new_done {q} b c = skips (λ t f e a g i. (
    elim (test (is_other_record (entry_in form t k))) [
      | fail o ↦ rw o
      | pass o ↦ rw (o, ← g.is k (omega arith) i o, ← b, c)
    ],
    λ m j l o u.
        let y = under_other f v h form t a m k l i o u in
        g.is m (omega arith) l o ∙ ap (λ (p : Bytes). seen_under h p (take k (entries_in form t))) (sym y.1) ∙ sym (g.is k (omega arith) i y.0) ∙ sym b ∙ c,
  ))

  module _ {e : CodeEntry} (ee : entry_of e ≡ entry_in form d k) {q : Bool} (o : q ≡ is_other_record (entry_of e)) where
    pub new_typed : not q ≡ true → PutsNew form v h d k given old s s old d
    unfolding is_first
    new_typed n = skips (λ t f same a g i.
        let typed : is_other_record (entry_in form t k) ≡ false = ap is_other_record (sym (ee ∙ same_entry form d t same k)) ∙ sym o ∙ not_true q n in
        (rw typed, λ m j l c u. both (under_other f v h form t a m k l i c u).0 typed))

    pub new_put : {w : Bool} → w ≡ is_written form d k → w ≡ false → not q ≡ false → {p : Bytes} → p ≡ prefix_in h (entry_of e)
        → {r : Progress} {new : Bytes} {d' : List ℕ} → PutsAll form v h d p k given old s r new d' → PutsNew form v h d k given old s r new d'
    unfolding is_first
    new_put {w} b c n {p} i {r} {new} {d'} a = record {
      same = a.same;
      is = λ l t out x st.
          let es = entries_in form t in
          let here = entry_in form t k in
          let key = prefix_in h here in
          let size = same_room form d t st.same in
          let all : entries_in form d ≡ es = same_entries form d t st.same in
          let inside : k < room form t = omega (arith, size) in
          let own : is_other_record (entry_in form d k) ≡ true = ap is_other_record (sym ee) ∙ sym o ∙ not_false q n in
          let other : is_other_record here ≡ true = ap is_other_record (sym (same_entry form d t st.same k)) ∙ own in
          let key_is : prefix_in h (entry_in form d k) ≡ key = ap (prefix_in h) (same_entry form d t st.same k) in
          let unseen : seen_under h key (take k es) ≡ false = sym (st.marked.is k (omega arith) inside other) ∙ sym b ∙ c in
          let way : Ways form h d key k = subst (λ (y : Bytes). Ways form h d y k) key_is (ways x.formed v h form d (rw all st.listed) st.linked k l own) in
          let put : PutsAll form v h d key k given old s r new d' = subst (λ (y : Bytes). PutsAll form v h d y k given old s r new d') (i ∙ ap (prefix_in h) ee ∙ key_is) a in
          let wrote : WroteLines given old s (picked v h key (drop k es)) r new
          = subst (λ (y : List Entry). WroteLines given old s (picked v h key (drop k y)) r new) all (put.lines (rw all (listed_on st.wrote v h es st.listed)) way) in
          let whole : picked v h key es ≡ picked v h key (drop k es)
          = ap (picked v h key) (sym (take-append-drop k es)) ∙ unseen_picked v h key (take k es) (drop k es) unseen in
          let first : true ≡ is_first h (take k es) here = rw (other, unseen) in
          record {
            listed = st.listed;
            same = a.same ∙ st.same;
            linked = linked_on a.same a.links st.linked;
            marked = done_on st.marked inside (λ m j f om. put.written way m (omega arith) (omega (arith, size))
                ∙ ap (is_written form d m ||◌) (ap (is_under h key) (same_entry form d t st.same m) ∙ under_both x.formed v h form t st.listed k m inside f other om));
            ls = st.ls ++ picked v h key es;
            lines = st.lines ∙ ap (st.ls ++◌) (other_turn v h es k here (entries_here form t k inside) first) ∙ sym (append_assoc st.ls (picked v h key es) (other_lines v h es (take (k + 1) es) (drop (k + 1) es)));
            wrote = subst (λ (y : List Bytes). WroteLines given out x (st.ls ++ y) r new) (sym whole) (then_lines st.wrote wrote);
          };
    }

pub ruleset news = (new_done, new_typed, new_put)

-- The loop over all entries: the lines of the keys that appear before number k are written

pub record Stepping (form : Form) (v : Version) (h : Bytes) (t : List ℕ) (given old : Bytes) (s₀ : Progress) (d : List ℕ) (new : Bytes) (s : Progress) (k : ℕ) : Type 0 where
  pub size : length new ≡ length old
  pub same : bare d ≡ bare t
  pub is : AllListed s₀.formed v h (entries_in form t) → Linked form h t → ((m : ℕ) → is_written form t m ≡ false) → Stage form v h t given old s₀ new s d k

pub step_start : (form : Form) (v : Version) (h : Bytes) (t : List ℕ) (given old : Bytes) (s : Progress) → s.next.at ≤ last → s.lines ≤ last → length old ≤ last → Stepping form v h t given old s t old s 0
unfolding seen_under
step_start form v h t given old s a b c = record {
  size = refl;
  same = refl;
  is = λ x g n. record { listed = x; same = refl; linked = g; marked = record { is = λ m i j o. n m }; ls = []; lines = refl; wrote = wrote_no_lines given old s a b c };
}

module _ {form : Form} {v : Version} {h : Bytes} {t : List ℕ} {given old : Bytes} {s₀ : Progress} {d : List ℕ} {new : Bytes} {s : Progress} {k : ℕ} (g : Stepping form v h t given old s₀ d new s k) {n : ℕ} (c : n ≡ room form t) where
  module _ (l : k < n) where
    pub step_more : {r : Progress} {o : Bytes} {d' : List ℕ} → PutsNew form v h d k given new s r o d' → length o ≡ length new → Stepping form v h t given old s₀ d' o r (k + 1)
    step_more p a = record { size = a ∙ g.size; same = p.same ∙ g.same; is = λ x f z. p.is (omega (arith, same_room form d t g.same)) t old s₀ (g.is x f z) }

  pub step_end : n ≤ k → PutsEach form v h t given old s₀ s new d
  unfolding other_lines
  step_end l = record {
    same = g.same;
    is = λ f z. record {
      is = λ x.
          let st = g.is x f z in
          let es = entries_in form t in
          let rest : other_lines v h es (take k es) (drop k es) ≡ [] = ap (other_lines v h es (take k es)) (entries_past form t k (omega (arith, same_room form d t g.same))) in
          subst (λ (ls : List Bytes). WroteLines given old s₀ ls s new) (sym (st.lines ∙ ap (st.ls ++◌) rest ∙ append-nil st.ls)) st.wrote;
    };
  }

pub ruleset steps = (step_more, step_end)

-- what answers the needs of `put_linked`
module _ {form : Form} {v : Version} {h : Bytes} {t t' t'' : List ℕ} {given old : Bytes} {s r : Progress} {new : Bytes} (b : bare t ≡ t) (l : LinksAll form h t t') (p : PutsEach form v h t' given old s r new t'') where
  pub linked_lines : PutsOthers v h (entries_in form t) given old s r new
  linked_lines = subst (λ (es : List Entry). PutsOthers v h es given old s r new) (same_entries form t' t l.same) (p.is l.linked (l.fresh b))

  pub linked_table : {u : List ℕ} → u ≡ bare t'' → u ≡ t
  linked_table e = e ∙ p.same ∙ l.same ∙ b

pub ruleset linkeds = (linked_lines, linked_table)
