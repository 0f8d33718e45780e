-- Headers in pieces, as C has them: the ways of the code's tests and answers, on plain values. Assumes nothing.
use Prim.Native.Nat.{ℕ}
use mathlib.Core.Path.{◌≡◌, refl, sym, ap, ap₂, subst, subst₂, ◌∙◌}
use mathlib.Core.Bool.{Bool, true, false, not}
use mathlib.Core.List.{List}
use Rattle.std.specs.Prelude.{Option, Some, None}
use borrow.Author.Tests.{eq-eqb, ne_eqb}
use Rattle.values.proofs.Tests.{not_true, not_false}
use Rattle.rules.specs.Version.{Version}
use Rattle.records.specs.Formats.{version_of}
use Rattle.records.specs.declared.file_format.FileFormat.{FileFormat}
use Rattle.entries.specs.declared.form.Form.{Form}
use Rattle.header.specs.Steps.{body, ending}
use Rattle.header.specs.Verdicts.{imposed_of, stage_of}
use Rattle.header.specs.Parsers.{outcome_number}
use Rattle.header.specs.declared.phase.Phase.{Phase}
use Rattle.header.specs.declared.phase.Phase.TheVariants as phases
use Rattle.header.specs.declared.parser.ReadAnswer.{ReadAnswer}
use Rattle.feed.specs.Feeding.{Feeding, Fed, start_of, is_sound, feed_of, close_of}
use Rattle.feed.specs.Calls.{feed_number, ended_means, state_means, feed_means, Leaves, Closes}
use Rattle.feed.specs.declared.cable.FeedState.{FeedState}
use Rattle.feed.specs.declared.cable.FeedAnswer.{FeedAnswer}
use Rattle.capi.specs.Answers.{imposed_by}
use Rattle.capi.specs.Feeds.{stage_by, phase_meant, open_by, imposed_in, phase_in, end_in, feed_as, fed_as, broken_in, over_in, FedInC, fed_by, in_phase, stage_in, feed_in_c, close_in_c, LeavesInC, ClosesInC}
use Rattle.capi.specs.declared.feeds.ImposedParts.{ImposedParts}
use Rattle.capi.specs.declared.feeds.PhaseParts.{PhaseParts}
use Rattle.capi.specs.declared.feeds.EndParts.{EndParts}
use Rattle.capi.specs.declared.feeds.VcfhFeed.{VcfhFeed}
use Rattle.capi.specs.declared.feeds.VcfhFed.{VcfhFed}

-- Parts of a state

pub none_imposed : (i : Option FileFormat) → i ≡ None → record { imposed = 0; major = 0; minor = 0 } ≡ imposed_in (imposed_of i)
none_imposed i e = rw e

pub some_imposed : (i : Option FileFormat) {f : FileFormat} → i ≡ Some f → record { imposed = 1; major = f.major; minor = f.minor } ≡ imposed_in (imposed_of i)
some_imposed i e = rw e

module _ (p : Phase) where
  pub phase_empty : p ≡ phases.Empty → record { phase = 0; major = 0; minor = 0; samples = 0 } ≡ phase_in (stage_of p)
  phase_empty e = rw e

  pub phase_ready : {f : FileFormat} → p ≡ phases.Ready f → record { phase = 1; major = f.major; minor = f.minor; samples = 0 } ≡ phase_in (stage_of p)
  phase_ready e = rw e

  pub phase_done : {f : FileFormat} {n : ℕ} → p ≡ phases.Done f n → record { phase = 2; major = f.major; minor = f.minor; samples = n } ≡ phase_in (stage_of p)
  phase_done e = rw e

module _ (x : Option ReadAnswer) where
  pub end_none : x ≡ None → record { over = 0; number = 0; line = 0; start = 0; entries = 0 } ≡ end_in (ended_means x)
  end_none e = rw e

  pub end_some : {a : ReadAnswer} → x ≡ Some a → {n : ℕ} → n ≡ outcome_number a.outcome → record { over = 1; number = n; line = a.line; start = a.start; entries = a.entries } ≡ end_in (ended_means x)
  end_some e f = rw (e, f)

pub ruleset parts = (none_imposed, some_imposed, phase_empty, phase_ready, phase_done, end_none, end_some)

-- From C

module _ (n major minor samples : ℕ) {f : FileFormat} (ef : f ≡ record { major = major; minor = minor }) where
  pub by_empty : n ≡ 0 → phase_meant (Some phases.Empty) ≡ stage_by n major minor samples
  by_empty e = rw (stage_by, eq-eqb n 0 e)

  module _ (a : n ≡ 0 → ⊥) where
    pub by_ready : n ≡ 1 → phase_meant (Some (phases.Ready f)) ≡ stage_by n major minor samples
    by_ready e = rw (stage_by, ne_eqb n 0 a, eq-eqb n 1 e) (ap (λ (v : FileFormat). Some (body (version_of v))) ef)

    module _ (b : n ≡ 1 → ⊥) where
      pub by_done : n ≡ 2 → phase_meant (Some (phases.Done f samples)) ≡ stage_by n major minor samples
      by_done e = rw (stage_by, ne_eqb n 0 a, ne_eqb n 1 b, eq-eqb n 2 e) (ap (λ (v : FileFormat). Some (ending (version_of v) samples)) ef)

      pub by_none : (n ≡ 2 → ⊥) → phase_meant None ≡ stage_by n major minor samples
      by_none e = rw (stage_by, ne_eqb n 0 a, ne_eqb n 1 b, ne_eqb n 2 e)

pub opens : (c : VcfhFeed) (p : Phase) (i : Option FileFormat) → imposed_of i ≡ imposed_by c.imposed c.imposed_major c.imposed_minor
    → state_means (record { imposed = i; parser = record { phase = p; line = c.lines; at = c.at; count = c.kept }; held = c.held; ended = None }) ≡ open_by c (stage_of p)
opens c p i e = rw e

pub ruleset froms = (by_empty, by_ready, by_done, by_none, opens)

-- To C

pub state_is : (s : FeedState) {i : ImposedParts} → i ≡ imposed_in (imposed_of s.imposed) → {p : PhaseParts} → p ≡ phase_in (stage_of s.parser.phase) → {e : EndParts} → e ≡ end_in (ended_means s.ended)
    → record {
      imposed = i.imposed;
      imposed_major = i.major;
      imposed_minor = i.minor;
      phase = p.phase;
      major = p.major;
      minor = p.minor;
      samples = p.samples;
      held = s.held;
      at = s.parser.at;
      lines = s.parser.line;
      kept = s.parser.count;
      over = e.over;
      number = e.number;
      line = e.line;
      start = e.start;
      entries = e.entries;
    } ≡ feed_as (state_means s)
state_is s a b c = rw (a, b, c)

pub fed_is : (r : FeedAnswer) {n : ℕ} → n ≡ feed_number r.outcome → {c : VcfhFeed} → c ≡ feed_as (state_means r.state)
    → record { number = n; line = r.line; start = r.start; entries = r.entries; state = c } ≡ fed_as (feed_means r)
fed_is r e f = rw (e, f)

pub broken_is : (c : VcfhFeed) {n : ℕ} → n ≡ 29 → record { number = n; line = 0; start = 0; entries = 0; state = c } ≡ broken_in c
broken_is c e = rw e

module _ (c : VcfhFeed) (form : Form) (s : Feeding) (b t : List ℕ) {q : Bool} (e : q ≡ is_sound form s b t) where
  pub over_broken : not q ≡ true → {r : VcfhFed} → r ≡ broken_in c → r ≡ over_in c form s b t
  over_broken n f = f ∙ rw (over_in, ← e, not_true q n)

  pub over_same : not q ≡ false → record { number = c.number; line = c.line; start = c.start; entries = c.entries; state = c } ≡ over_in c form s b t
  over_same n = rw (over_in, ← e, not_false q n)

pub starts : {i v : Option Version} → i ≡ v → (s : FeedState) → state_means s ≡ start_of i → {c : VcfhFeed} → c ≡ feed_as (state_means s) → c ≡ feed_as (start_of v)
starts k s e f = f ∙ (ap feed_as e ∙ ap (λ (j : Option Version). feed_as (start_of j)) k)

pub ruleset tos = (state_is, fed_is, broken_is, over_broken, over_same, starts)

-- The calls: what the number of the phase and `over` say of any of them

leaves_by : {x y : FedInC} → x ≡ y → {r : VcfhFed} {b' t' : List ℕ} → LeavesInC x r b' t' → LeavesInC y r b' t'
leaves_by e {r} {b'} {t'} l = subst (λ (z : FedInC). LeavesInC z r b' t') e l

closes_by : {x y : FedInC} → x ≡ y → {r : VcfhFed} {t' : List ℕ} → ClosesInC x r t' → ClosesInC y r t'
closes_by e {r} {t'} l = subst (λ (z : FedInC). ClosesInC z r t') e l

over_by : (c : VcfhFeed) (b t : List ℕ) {f form : Form} → f ≡ form → {s s' : Feeding} → s ≡ s' → over_in c f s b t ≡ over_in c form s' b t
over_by c b t k is = ap₂ (λ (g : Form) (y : Feeding). over_in c g y b t) k is

module _ (c : VcfhFeed) (form : Form) (b t : List ℕ) (call : Feeding → Fed) {q : Option Phase} (e : phase_meant q ≡ stage_in c) where
  no_phase : q ≡ None → record { answer = broken_in c; buffer = b; table = t } ≡ in_phase c form b t call (stage_in c)
  no_phase u = ap (in_phase c form b t call) (sym (ap phase_meant u) ∙ e)

  module _ {p : Phase} (u : q ≡ Some p) where
    in_phase_lem : in_phase c form b t call (Some (stage_of p)) ≡ in_phase c form b t call (stage_in c)
    in_phase_lem = ap (in_phase c form b t call) (sym (ap phase_meant u) ∙ e)

    over_is : (c.over ≡ 0 → ⊥) → record { answer = over_in c form (open_by c (stage_of p)) b t; buffer = b; table = t } ≡ in_phase c form b t call (Some (stage_of p))
    over_is n = rw (in_phase, ne_eqb c.over 0 n)

    open_is : c.over ≡ 0 → fed_by (call (open_by c (stage_of p))) ≡ in_phase c form b t call (Some (stage_of p))
    open_is z = rw (in_phase, eq-eqb c.over 0 z)

    when_over : (c.over ≡ 0 → ⊥) → record { answer = over_in c form (open_by c (stage_of p)) b t; buffer = b; table = t } ≡ in_phase c form b t call (stage_in c)
    when_over n = over_is n ∙ in_phase_lem

    when_open : c.over ≡ 0 → fed_by (call (open_by c (stage_of p))) ≡ in_phase c form b t call (stage_in c)
    when_open z = open_is z ∙ in_phase_lem

module _ (c : VcfhFeed) {f form : Form} (k : f ≡ form) (x b t : List ℕ) {q : Option Phase} (e : phase_meant q ≡ stage_in c) where
  pub feed_unknown : q ≡ None → {r : VcfhFed} → r ≡ broken_in c → LeavesInC (feed_in_c c form x b t) r b t
  feed_unknown u a = leaves_by (no_phase c form b t (λ s. feed_of form s x b t) e u) (record { answer = a; buffer = refl; table = refl })

  module _ {p : Phase} (u : q ≡ Some p) (s : FeedState) (is : state_means s ≡ open_by c (stage_of p)) where
    pub feed_over : (c.over ≡ 0 → ⊥) → {r : VcfhFed} → r ≡ over_in c f (state_means s) b t → LeavesInC (feed_in_c c form x b t) r b t
    feed_over n a = leaves_by (when_over c form b t (λ y. feed_of form y x b t) e u n) (record { answer = a ∙ over_by c b t k is; buffer = refl; table = refl })

    pub feed_open : c.over ≡ 0 → (a : FeedAnswer) {b' t' : List ℕ} → Leaves (feed_of f (state_means s) x b t) a b' t' → {r : VcfhFed} → r ≡ fed_as (feed_means a)
        → LeavesInC (feed_in_c c form x b t) r b' t'
    feed_open z a {b'} {t'} l m =
        let w = subst₂ (λ (g : Form) (y : Feeding). Leaves (feed_of g y x b t) a b' t') k is l in
        leaves_by (when_open c form b t (λ y. feed_of form y x b t) e u z) (record { answer = m ∙ ap fed_as w.answer; buffer = w.buffer; table = w.table })

module _ (c : VcfhFeed) {f form : Form} (k : f ≡ form) (b t : List ℕ) {q : Option Phase} (e : phase_meant q ≡ stage_in c) where
  pub close_unknown : q ≡ None → {r : VcfhFed} → r ≡ broken_in c → ClosesInC (close_in_c c form b t) r t
  close_unknown u a = closes_by (no_phase c form b t (λ s. close_of form s b t) e u) (record { answer = a; table = refl })

  module _ {p : Phase} (u : q ≡ Some p) (s : FeedState) (is : state_means s ≡ open_by c (stage_of p)) where
    pub close_over : (c.over ≡ 0 → ⊥) → {r : VcfhFed} → r ≡ over_in c f (state_means s) b t → ClosesInC (close_in_c c form b t) r t
    close_over n a = closes_by (when_over c form b t (λ y. close_of form y b t) e u n) (record { answer = a ∙ over_by c b t k is; table = refl })

    pub close_open : c.over ≡ 0 → (a : FeedAnswer) {t' : List ℕ} → Closes (close_of f (state_means s) b t) a t' → {r : VcfhFed} → r ≡ fed_as (feed_means a)
        → ClosesInC (close_in_c c form b t) r t'
    close_open z a {t'} l m =
        let w = subst₂ (λ (g : Form) (y : Feeding). Closes (close_of g y b t) a t') k is l in
        closes_by (when_open c form b t (λ y. close_of form y b t) e u z) (record { answer = m ∙ ap fed_as w.answer; table = w.table })

pub ruleset feeds = (feed_unknown, feed_over, feed_open)

pub ruleset closes = (close_unknown, close_over, close_open)
