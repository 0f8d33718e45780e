-- The code that turns entries: what each way of it answers. Assumes nothing.
use Prim.Native.Nat.{ℕ, zero, suc, ◌+◌, ◌-◌, ◌≤◌, ◌<◌}
use native.Mathlib.Omega.{arith}
use mathlib.Core.Path.{◌≡◌, refl, sym, ap, subst, ◌∙◌}
use mathlib.Core.Bool.{Bool, true, false, not, ◌&&◌}
use mathlib.Core.List.{List, [], ◌∷◌}
use Rattle.std.specs.Prelude.{Option, None, Some, Ok, Err}
use lib.Dec.{leb, ltb}
use lib.ListN.{length}
use borrow.Author.Tests.{le-leb, lt-leb}
use Rattle.values.specs.Bytes.{Bytes}
use Rattle.values.proofs.Tests.{never}
use Rattle.values.proofs.Lists.{some_is, none_not}
use Rattle.rules.specs.Version.{Version}
use Rattle.rules.specs.Record.{Record, fields, key_of}
use Rattle.rules.specs.Entry.{Entry as RuleEntry, no_counts, fields_of, counts_of, with_counts}
use Rattle.rules.specs.Shown.{line_in, read_alone}
use Rattle.rules.specs.Claims.{key_in}
use Rattle.records.specs.declared.map.Tally.{Tally}
use Rattle.records.specs.declared.record.MapRecord.{MapRecord}
use Rattle.alone.specs.Alones.{AloneIs, ReadsAlone}
use Rattle.alone.specs.declared.read.Alone.{Alone}
use Rattle.alone.specs.declared.read.Alone.TheVariants as alone
use Rattle.entries.specs.declared.form.Form.{Form}
use Rattle.entries.specs.declared.entry.Entry.{Entry}
use Rattle.entries.specs.Values.{entry_of}
use Rattle.entries.specs.Shown.{entry_meant}
use Rattle.entries.specs.Tables.{room, stored, put, put_all}
use Rattle.entries.proofs.Stored.{put_none, put_one, put_roomy}
use Rattle.turning.specs.Turning.{Way, target_of, source_of, with_record, raised, turned_at, with, turned_from, turned_in, fits_in, all_fit, table_of, turn_answer, turn_table, judged_by, judged_of, judged_as, Copies}
use Rattle.turning.specs.declared.turn.TurnAnswer.{TurnAnswer}
use Rattle.turning.specs.declared.turn.TurnRefusal.TheVariants.{NotWellFormed, TooLarge, TableFull}
use Rattle.turning.specs.declared.turn.Judged.{Judged}
use Rattle.turning.specs.declared.turn.Judged.TheVariants.{Fit, Unfit, Malformed}

-- One entry

module _ (h : Bytes) (v : Version) (e : Entry) where
  raised_by : {q : Bool} → leb e.kind 8 ≡ q
      → raised h v (entry_of e) ≡ elim q [ true ↦ with_record (entry_of e) (read_alone v e.kind (line_in h (entry_of e))) | false ↦ Some (with_counts no_counts (entry_of e)) ]
  unfolding raised
  raised_by f = ap (λ (q : Bool). elim q [ true ↦ with_record (entry_of e) (read_alone v e.kind (line_in h (entry_of e))) | false ↦ Some (with_counts no_counts (entry_of e)) ]) f

  pub raised_plain : 8 < e.kind → {x : Entry} → entry_of x ≡ with_counts no_counts (entry_of e) → Some (entry_of x) ≡ raised h v (entry_of e)
  raised_plain f g = ap Some g ∙ sym (raised_by (lt-leb e.kind 8 f))

  module _ (f : e.kind ≤ 8) {l : Bytes} (a : l ≡ line_in h (entry_of e)) {x : Option Alone} (b : ReadsAlone v e.kind l x) where
    told : {y : Option Alone} → x ≡ y → AloneIs v (line_in h (entry_of e)) (read_alone v e.kind (line_in h (entry_of e))) y
    told {y} q = subst (λ (l : Bytes). AloneIs v l (read_alone v e.kind l) y) a (subst (AloneIs v l (read_alone v e.kind l)) q b.is)

    raised_as : {o : Option Record} → read_alone v e.kind (line_in h (entry_of e)) ≡ o → raised h v (entry_of e) ≡ with_record (entry_of e) o
    raised_as q = raised_by (le-leb e.kind 8 f) ∙ ap (with_record (entry_of e)) q

    pub raised_refused : x ≡ None → None ≡ raised h v (entry_of e)
    raised_refused q = sym (raised_as (told q))

    counts_as : (r : Record) {k n : ℕ} → k ≡ length (key_of r) → n ≡ length (fields_of r) → with_counts (record { key_length = k; field_count = n }) (entry_of e) ≡ with_counts (counts_of true r) (entry_of e)
    unfolding counts_of
    counts_as r a b = rw (a, b)

    pub raised_without : {n : ℕ} → x ≡ Some (alone.Plain n) → {y : Entry} → entry_of y ≡ with_counts (record { key_length = n; field_count = 0 }) (entry_of e) → Some (entry_of y) ≡ raised h v (entry_of e)
    raised_without q g = let t = told q in ap Some (g ∙ counts_as t.0 t.3 (sym (ap length t.2))) ∙ sym (raised_as t.1)

    pub raised_map : {m : MapRecord} → x ≡ Some (alone.Map m) → {k : ℕ} → k ≡ m.value - 3
        → {y : Entry} → entry_of y ≡ with_counts (record { key_length = k; field_count = m.tally.fields }) (entry_of e) → Some (entry_of y) ≡ raised h v (entry_of e)
    raised_map {m} q {k} c g =
        let t = told q in
        let r = fields (key_in (line_in h (entry_of e))) t.0 in
        let n : k ≡ length (key_of r) = omega (arith, c, t.2.value) in
        ap Some (g ∙ counts_as r n (ap (λ (y : Tally). y.fields) t.2.tally)) ∙ sym (raised_as t.1)

pub ruleset raisings = (raised_plain, raised_refused, raised_without, raised_map)

-- The loop over all entries: `fit` says whether those before number n fit, and what is left decides the rest

pub record Judging (w : Way) (h : Bytes) (s : List ℕ) (fit : Bool) (n : ℕ) : Type 0 where
  pub inside : n ≤ room (source_of w) s
  pub left : judged_of (target_of w) fit (turned_from w h s n (room (source_of w) s - n)) ≡ judged_as w h s

pub judge_start : (w : Way) (h : Bytes) (s : List ℕ) → Judging w h s true 0
judge_start w h s = let z : room (source_of w) s - 0 ≡ room (source_of w) s = omega arith in record { inside = omega arith; left = rw z }

-- an entry goes with what is known of those before it
judged_with : (to : Form) (fit q : Bool) (e : RuleEntry) → q ≡ fits_in to e → (o : Option (List RuleEntry)) → judged_of to fit (with (Some e) o) ≡ judged_of to (fit && q) o
unfolding all_fit
judged_with to fit q e d None = refl
judged_with to fit q e d (Some es) = rw (← d) (ap judged_by (go fit))
  where
    go : (b : Bool) → (b && (q && all_fit to es)) ≡ ((b && q) && all_fit to es)
    go true = refl
    go false = refl

counted_all : (w : Way) (s : List ℕ) {from : Form} → from ≡ source_of w → {m : ℕ} → m ≡ room from s → m ≡ room (source_of w) s
counted_all w s u c = c ∙ ap (λ (f : Form). room f s) u

from_here : (w : Way) (h : Bytes) (s : List ℕ) (n : ℕ) {o : Option RuleEntry} → n < room (source_of w) s → o ≡ turned_at w h s n
    → turned_from w h s n (room (source_of w) s - n) ≡ with o (turned_from w h s (n + 1) (room (source_of w) s - (n + 1)))
unfolding turned_from
from_here w h s n l e = let z : room (source_of w) s - n ≡ suc (room (source_of w) s - (n + 1)) = omega (arith, l) in rw (z, ← e)

module _ {w : Way} {h : Bytes} {s : List ℕ} {fit : Bool} {n : ℕ} (g : Judging w h s fit n) {from : Form} (u : from ≡ source_of w) {m : ℕ} (count : m ≡ room from s) where
  abbrev all : m ≡ room (source_of w) s
  all = counted_all w s u count

  module _ (l : n < m) (r : Option Entry) (a : entry_meant r ≡ turned_at w h s n) where
    here : {x : Option Entry} → r ≡ x → turned_from w h s n (room (source_of w) s - n) ≡ with (entry_meant x) (turned_from w h s (n + 1) (room (source_of w) s - (n + 1)))
    here e = from_here w h s n (omega (arith, l, all)) (sym (ap entry_meant e) ∙ a)

    pub judge_malformed : r ≡ None → Malformed ≡ judged_as w h s
    judge_malformed e = ap (judged_of (target_of w) fit) (sym (here e)) ∙ g.left

    module _ {x : Entry} (b : r ≡ Some x) where
      next : {q : Bool} → q ≡ fits_in (target_of w) (entry_of x) → {p : Bool} → fit && q ≡ p → Judging w h s p (n + 1)
      next {q} d {p} f = record {
        inside = omega (arith, l, all);
        left =
            ap (λ (p : Bool). judged_of (target_of w) p (turned_from w h s (n + 1) (room (source_of w) s - (n + 1)))) (sym f)
            ∙ sym (judged_with (target_of w) fit q (entry_of x) d (turned_from w h s (n + 1) (room (source_of w) s - (n + 1))))
            ∙ ap (judged_of (target_of w) fit) (sym (here b)) ∙ g.left;
      }

      pub judge_next : fit ≡ true → {to : Form} → to ≡ target_of w → {q : Bool} → q ≡ fits_in to (entry_of x) → Judging w h s q (n + 1)
      judge_next f v d = next (d ∙ ap (λ (f : Form). fits_in f (entry_of x)) v) (rw f)

      pub judge_unfit : fit ≡ false → Judging w h s fit (n + 1)
      judge_unfit f = next {q = fits_in (target_of w) (entry_of x)} refl (rw f)

  module _ (l : m ≤ n) where
    at_end_lem : {b : Bool} → fit ≡ b → judged_by b ≡ judged_as w h s
    unfolding turned_from all_fit
    at_end_lem {b} e = let z : room (source_of w) s - n ≡ 0 = omega (arith, l, all) in go b ∙ ap (λ (b : Bool). judged_of (target_of w) b (Some [])) (sym e) ∙ rw z at g.left
      where
        go : (b : Bool) → judged_by b ≡ judged_of (target_of w) b (Some [])
        go true = refl
        go false = refl

    pub judged_fit : fit ≡ true → Fit ≡ judged_as w h s
    judged_fit e = at_end_lem e

    pub judged_unfit : fit ≡ false → Unfit ≡ judged_as w h s
    judged_unfit e = at_end_lem e

pub ruleset judges = (judge_start, judge_malformed, judge_unfit, judge_next, judged_fit, judged_unfit)

-- The loop that copies: where none is refused, those that are left, put from number n on, give the whole

pub record Copying (w : Way) (h : Bytes) (s t₀ t : List ℕ) (n : ℕ) : Type 0 where
  pub size : length t ≡ length t₀
  pub still : (all : List RuleEntry) → turned_in w h s ≡ Some all
      → (es : List RuleEntry) × (turned_from w h s n (room (source_of w) s - n) ≡ Some es) × (put_all (target_of w) t n es ≡ put_all (target_of w) t₀ 0 all)

pub copy_start : (w : Way) (h : Bytes) (s t : List ℕ) → Copying w h s t t 0
copy_start w h s t = let z : room (source_of w) s - 0 ≡ room (source_of w) s = omega arith in record { size = refl; still = λ all e. (all, rw z e, refl) }

-- what stands in front of others
pub parts : (o : Option RuleEntry) (r : Option (List RuleEntry)) {es : List RuleEntry} → with o r ≡ Some es
    → (e : RuleEntry) × (fs : List RuleEntry) × (o ≡ Some e) × (r ≡ Some fs) × (es ≡ e ∷ fs)
parts None r e = none_not e
parts (Some x) None e = none_not e
parts (Some x) (Some fs) e = (x, fs, refl, refl, sym (some_is e))

module _ {w : Way} {h : Bytes} {s t₀ t : List ℕ} {n : ℕ} (g : Copying w h s t₀ t n) {from : Form} (u : from ≡ source_of w) {m : ℕ} (count : m ≡ room from s) where
  abbrev all_there : m ≡ room (source_of w) s
  all_there = counted_all w s u count

  pub copy_end : m ≤ n → Copies w h s t₀ t
  unfolding put_all turned_from
  copy_end l = record {
    is = λ es e.
        let z : room (source_of w) s - n ≡ 0 = omega (arith, l, all_there) in
        let k = g.still es e in
        let none_left : k.0 ≡ [] = sym (some_is (rw z at k.1)) in
        rw none_left at k.2;
  }

  module _ (l : n < m) where
    turned_here : {o : Option RuleEntry} → o ≡ turned_at w h s n → {es : List RuleEntry} → turned_from w h s n (room (source_of w) s - n) ≡ Some es
        → (e : RuleEntry) × (fs : List RuleEntry) × (o ≡ Some e) × (turned_from w h s (n + 1) (room (source_of w) s - (n + 1)) ≡ Some fs) × (es ≡ e ∷ fs)
    turned_here {o} e q = parts o (turned_from w h s (n + 1) (room (source_of w) s - (n + 1))) (sym (from_here w h s n (omega (arith, l, all_there)) e) ∙ q)

    pub copy_missing : (r : Option Entry) → entry_meant r ≡ turned_at w h s n → r ≡ None → Copies w h s t₀ t
    copy_missing r a e = record { is = λ es q. none_not (turned_here (sym (ap entry_meant e) ∙ a) (g.still es q).1).2 }

    module _ {x : Entry} (b : Some (entry_of x) ≡ turned_at w h s n) {form : Form} (to : form ≡ target_of w) {q : Bool} (d : q ≡ ltb n (room form t)) {t' : List ℕ} (p : t' ≡ put form t n (entry_of x)) where
      left : {e : RuleEntry} {fs es : List RuleEntry} → Some (entry_of x) ≡ Some e → es ≡ e ∷ fs → put_all form t n (entry_of x ∷ fs) ≡ put_all (target_of w) t n es
      left {e} {fs} u v = ap (λ (f : Form). put_all f t n (entry_of x ∷ fs)) to ∙ ap (λ (y : RuleEntry). put_all (target_of w) t n (y ∷ fs)) (some_is u) ∙ ap (put_all (target_of w) t n) (sym v)

      pub copy_full : not q ≡ true → Copies w h s t₀ t'
      copy_full f = record {
        is = λ es k.
            let j = g.still es k in
            let i = turned_here b j.1 in
            put_none form t n (entry_of x) i.1 d p f ∙ left i.2 i.4 ∙ j.2;
      }

      pub copy_next : not q ≡ false → length t' ≡ length t → Copying w h s t₀ t' (n + 1)
      copy_next f z = record {
        size = z ∙ g.size;
        still = λ es k.
            let j = g.still es k in
            let i = turned_here b j.1 in
            (i.1, i.3, ap (λ (f : Form). put_all f t' (n + 1) i.1) (sym to) ∙ put_one form t n (entry_of x) i.1 d p f ∙ left i.2 i.4 ∙ j.2);
      }

-- an entry that was told
pub met : {o : Option RuleEntry} (r : Option Entry) → entry_meant r ≡ o → {x : Entry} → r ≡ Some x → Some (entry_of x) ≡ o
met r a b = sym (ap entry_meant b) ∙ a

pub ruleset copies = (copy_start, copy_end, copy_missing, copy_full, copy_next, met)

-- The whole call

pub turned_count : (w : Way) (h : Bytes) (s : List ℕ) (n k : ℕ) {es : List RuleEntry} → turned_from w h s n k ≡ Some es → length es ≡ k
unfolding turned_from
turned_count w h s n zero e = ap length (sym (some_is e))
turned_count w h s n (suc k) e =
    let p = parts (turned_at w h s n) (turned_from w h s (n + 1) k) e in
    ap length p.4 ∙ ap suc (turned_count w h s (n + 1) k p.3)

whole_table : (to : Form) (t : List ℕ) {o : Option (List RuleEntry)} {es : List RuleEntry} → o ≡ Some es → all_fit to es ≡ true → leb (length es) (room to t) ≡ true → stored to t 0 es ≡ table_of to t o
whole_table to t e f r = rw (e, f, r)

module _ (w : Way) (h : Bytes) (s t : List ℕ) {r : Judged} (a : r ≡ judged_as w h s) where
  malformed : (o : Option (List RuleEntry)) → judged_of (target_of w) true o ≡ Malformed → o ≡ None
  malformed None e = refl
  malformed (Some es) e = go (all_fit (target_of w) es) e
    where
      go : (b : Bool) → judged_by b ≡ Malformed → Some es ≡ None
      go true e = never cc
      go false e = never cc

  judged : (b : Bool) (o : Option (List RuleEntry)) → judged_of (target_of w) true o ≡ judged_by b → (es : List RuleEntry) × (o ≡ Some es) × (all_fit (target_of w) es ≡ b)
  judged true None e = never cc
  judged false None e = never cc
  judged b (Some es) e = (es, refl, go (all_fit (target_of w) es) b e)
    where
      go : (a b : Bool) → judged_by a ≡ judged_by b → a ≡ b
      go true true e = refl
      go true false e = never cc
      go false true e = never cc
      go false false e = refl

  pub turn_malformed : r ≡ Malformed → {x : TurnAnswer} → x ≡ record { outcome = (Err NotWellFormed); entries = 0 } → x ≡ turn_answer w h s t
  turn_malformed e q = q ∙ rw (malformed (turned_in w h s) (sym a ∙ e))

  pub kept_malformed : r ≡ Malformed → t ≡ turn_table w h s t
  kept_malformed e = rw (malformed (turned_in w h s) (sym a ∙ e))

  pub turn_unfit : r ≡ Unfit → {x : TurnAnswer} → x ≡ record { outcome = (Err TooLarge); entries = 0 } → x ≡ turn_answer w h s t
  turn_unfit e q = let f = judged false (turned_in w h s) (sym a ∙ e) in q ∙ rw (f.1, f.2)

  pub kept_unfit : r ≡ Unfit → t ≡ turn_table w h s t
  kept_unfit e = let f = judged false (turned_in w h s) (sym a ∙ e) in rw (f.1, f.2)

  module _ (e : r ≡ Fit) {from to : Form} (u : from ≡ source_of w) (x : to ≡ target_of w) {n : ℕ} (c : n ≡ room from s) {m : ℕ} (d : m ≡ room to t) where
    abbrev f : (es : List RuleEntry) × (turned_in w h s ≡ Some es) × (all_fit (target_of w) es ≡ true)
    f = judged true (turned_in w h s) (sym a ∙ e)

    sizes : (length f.0 ≡ n) × (m ≡ room (target_of w) t)
    sizes = (turned_count w h s 0 (room (source_of w) s) f.1 ∙ rw (← u) (sym c), d ∙ ap (λ (f : Form). room f t) x)

    module _ (l : m < n) where
      short : leb (length f.0) (room (target_of w) t) ≡ false
      short = let z = sizes in lt-leb (length f.0) (room (target_of w) t) (omega (arith, l, z.0, z.1))

      pub turn_full : {x : TurnAnswer} → x ≡ record { outcome = (Err TableFull); entries = 0 } → x ≡ turn_answer w h s t
      turn_full q = let z = f in q ∙ rw (z.1, z.2, short)

      pub kept_full : t ≡ turn_table w h s t
      kept_full = let z = f in rw (z.1, z.2, short)

    module _ (l : n ≤ m) where
      enough : leb (length f.0) (room (target_of w) t) ≡ true
      enough = let z = sizes in le-leb (length f.0) (room (target_of w) t) (omega (arith, l, z.0, z.1))

      pub turn_whole : ◌≡◌ {A = TurnAnswer} (record { outcome = (Ok tt); entries = n }) (turn_answer w h s t)
      turn_whole = let z = f in rw (z.1, z.2, enough, c, u)

      pub turned_table : {t' : List ℕ} → Copies w h s t t' → t' ≡ turn_table w h s t
      turned_table q =
          let z = f in
          let y = sizes in
          q.is z.0 z.1 ∙ put_roomy (target_of w) t 0 z.0 (omega (arith, l, y.0, y.1)) ∙ whole_table (target_of w) t z.1 z.2 enough

pub ruleset turns = (turn_malformed, kept_malformed, turn_unfit, kept_unfit, turn_full, kept_full, turn_whole, turned_table)
