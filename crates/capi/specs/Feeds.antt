-- Headers in pieces, as C has them: the state is a struct of numbers. Assumes nothing.
use Rattle.std.specs.Prelude.{ℕ, ◌≡◌, true, false, List, eqb, Option, Some, None}
use Rattle.values.specs.Bytes.{Bytes}
use Rattle.rules.specs.Version.{Version, version}
use Rattle.entries.specs.declared.form.Form.{Form}
use Rattle.header.specs.Steps.{Stage, opening, body, ending}
use Rattle.header.specs.Verdicts.{stage_of}
use Rattle.header.specs.declared.phase.Phase.{Phase}
use Rattle.header.specs.Parsers.{AnswerMeaning}
use Rattle.feed.specs.Feeding.{Feeding, Fed, is_sound, open_state, feed_of, close_of}
use Rattle.feed.specs.Calls.{Answered, told}
use Rattle.capi.specs.Answers.{imposed_by}
use Rattle.capi.specs.declared.feeds.ImposedParts.{ImposedParts}
use Rattle.capi.specs.declared.feeds.PhaseParts.{PhaseParts}
use Rattle.capi.specs.declared.feeds.EndParts.{EndParts}
use Rattle.capi.specs.declared.feeds.VcfhFeed.{VcfhFeed}
use Rattle.capi.specs.declared.feeds.VcfhFed.{VcfhFed}

-- From C

-- the phase; none where the number is no phase's
abbrev pub stage_by : ℕ → ℕ → ℕ → ℕ → Option Stage
stage_by phase major minor samples = elim (eqb phase 0) [
  | true ↦ Some opening
  | false ↦ elim (eqb phase 1) [
    | true ↦ Some (body (version major minor))
    | false ↦ elim (eqb phase 2) [ true ↦ Some (ending (version major minor) samples) | false ↦ None ]
  ]
]

abbrev pub phase_meant : Option Phase → Option Stage
phase_meant (Some p) = Some (stage_of p)
phase_meant None = None

-- the state without its final answer
abbrev pub open_by : VcfhFeed → Stage → Feeding
open_by c g = open_state (imposed_by c.imposed c.imposed_major c.imposed_minor) (record { stage = g; line = c.lines; at = c.at; count = c.kept }) c.held

-- To C

abbrev pub imposed_in : Option Version → ImposedParts
imposed_in None = record { imposed = 0; major = 0; minor = 0 }
imposed_in (Some v) = record { imposed = 1; major = v.major; minor = v.minor }

abbrev pub phase_in : Stage → PhaseParts
phase_in opening = record { phase = 0; major = 0; minor = 0; samples = 0 }
phase_in (body v) = record { phase = 1; major = v.major; minor = v.minor; samples = 0 }
phase_in (ending v n) = record { phase = 2; major = v.major; minor = v.minor; samples = n }

abbrev pub end_in : Option AnswerMeaning → EndParts
end_in None = record { over = 0; number = 0; line = 0; start = 0; entries = 0 }
end_in (Some a) = record { over = 1; number = a.number; line = a.line; start = a.start; entries = a.entries }

abbrev pub feed_as : Feeding → VcfhFeed
feed_as s = record {
  imposed = (imposed_in s.imposed).imposed;
  imposed_major = (imposed_in s.imposed).major;
  imposed_minor = (imposed_in s.imposed).minor;
  phase = (phase_in s.spot.stage).phase;
  major = (phase_in s.spot.stage).major;
  minor = (phase_in s.spot.stage).minor;
  samples = (phase_in s.spot.stage).samples;
  held = s.held;
  at = s.spot.at;
  lines = s.spot.line;
  kept = s.spot.count;
  over = (end_in s.ended).over;
  number = (end_in s.ended).number;
  line = (end_in s.ended).line;
  start = (end_in s.ended).start;
  entries = (end_in s.ended).entries;
}

abbrev pub fed_as : Answered → VcfhFed
fed_as x = record { number = x.answer.number; line = x.answer.line; start = x.answer.start; entries = x.answer.entries; state = feed_as x.state }

-- 29, with the state as it was given
abbrev pub broken_in : VcfhFeed → VcfhFed
broken_in c = record { number = 29; line = 0; start = 0; entries = 0; state = c }

-- the answer that the state ended with
abbrev pub over_in : VcfhFeed → Form → Feeding → Bytes → List ℕ → VcfhFed
over_in c form s b t = elim (is_sound form s b t) [
  | true ↦ record { number = c.number; line = c.line; start = c.start; entries = c.entries; state = c }
  | false ↦ broken_in c
]

pub record FedInC : Type 0 where
  pub answer : VcfhFed
  pub buffer : Bytes
  pub table : List ℕ

abbrev pub fed_by : Fed → FedInC
fed_by x = record { answer = fed_as (told x.state x.answer); buffer = x.buffer; table = x.table }

-- a phase that isn't one, a state that has ended, or any other, in which the call is as it is in Rattle
abbrev pub in_phase : VcfhFeed → Form → Bytes → List ℕ → (Feeding → Fed) → Option Stage → FedInC
in_phase c form b t call None = record { answer = broken_in c; buffer = b; table = t }
in_phase c form b t call (Some g) = elim (eqb c.over 0) [
  | true ↦ fed_by (call (open_by c g))
  | false ↦ record { answer = over_in c form (open_by c g) b t; buffer = b; table = t }
]

abbrev pub stage_in : VcfhFeed → Option Stage
stage_in c = stage_by c.phase c.major c.minor c.samples

abbrev pub feed_in_c : VcfhFeed → Form → Bytes → Bytes → List ℕ → FedInC
feed_in_c c form piece b t = in_phase c form b t (λ s. feed_of form s piece b t) (stage_in c)

abbrev pub close_in_c : VcfhFeed → Form → Bytes → List ℕ → FedInC
close_in_c c form b t = in_phase c form b t (λ s. close_of form s b t) (stage_in c)

-- what a call promises to leave
pub record LeavesInC (x : FedInC) (r : VcfhFed) (b' : Bytes) (t' : List ℕ) : Type 0 where
  pub answer : r ≡ x.answer
  pub buffer : b' ≡ x.buffer
  pub table : t' ≡ x.table

-- a close leaves the buffer alone
pub record ClosesInC (x : FedInC) (r : VcfhFed) (t' : List ℕ) : Type 0 where
  pub answer : r ≡ x.answer
  pub table : t' ≡ x.table
