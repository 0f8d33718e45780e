-- What a call promises is one outcome: a state and an answer that tell the same are the same. Assumes nothing.
use Prim.Native.Nat.{ℕ}
use native.Mathlib.Omega.{arith}
use mathlib.Core.Path.{◌≡◌, refl, sym, ap, ap₂}
use Rattle.std.specs.Prelude.{Option, None, Some, Result, Ok, Err}
use Rattle.values.proofs.Lists.{some_is, none_not}
use Rattle.rules.specs.Version.{Version}
use Rattle.records.specs.Formats.{format_of}
use Rattle.records.proofs.Refusals.{number_injective, number_suc}
use Rattle.header.specs.Steps.{Stage, opening, body, ending, Spot}
use Rattle.header.specs.Verdicts.{imposed_of, stage_of}
use Rattle.header.specs.Parsers.{spot_in}
use Rattle.header.specs.declared.phase.Phase.{Phase}
use Rattle.header.specs.declared.phase.Phase.TheVariants as phase
use Rattle.header.specs.declared.parser.Parser.{Parser}
use Rattle.header.proofs.Answers.{answer_injective}
use Rattle.feed.specs.Feeding.{Feeding}
use Rattle.feed.specs.Calls.{feed_number, feed_says, ended_means, state_means, Answered, feed_means}
use Rattle.feed.specs.declared.cable.FeedState.{FeedState}
use Rattle.feed.specs.declared.cable.FeedAnswer.{FeedAnswer}
use Rattle.records.specs.declared.file_format.FileFormat.{FileFormat}
use Rattle.header.specs.declared.parser.ReadAnswer.{ReadAnswer}
use Rattle.records.specs.declared.refusal.Refusal.{Refusal}

imposed_is : (a b : Option FileFormat) → imposed_of a ≡ imposed_of b → a ≡ b
imposed_is None None e = refl
imposed_is None (Some g) e = none_not e
imposed_is (Some f) None e = none_not (sym e)
imposed_is (Some f) (Some g) e = let v : f ≡ g = ap format_of (some_is e) in ap Some v

-- the version and the number that a stage has
version_in : Stage → Option (Version × ℕ)
version_in opening = None
version_in (body v) = Some (v, 0)
version_in (ending v n) = Some (v, n)

phase_is : (a b : Phase) → stage_of a ≡ stage_of b → a ≡ b
unfolding version_in
phase_is phase.Empty phase.Empty e = refl
phase_is phase.Empty (phase.Ready g) e = none_not (ap version_in e)
phase_is phase.Empty (phase.Done g n) e = none_not (ap version_in e)
phase_is (phase.Ready f) phase.Empty e = none_not (sym (ap version_in e))
phase_is (phase.Ready f) (phase.Ready g) e =
    let v : f ≡ g = ap (λ (q : Version × ℕ). format_of q.0) (some_is (ap version_in e)) in
    ap phase.Ready v
phase_is (phase.Ready f) (phase.Done g n) e = let z : ◌≡◌ {A = ℕ} 0 1 = cc in absurd (omega arith)
phase_is (phase.Done f m) phase.Empty e = none_not (sym (ap version_in e))
phase_is (phase.Done f m) (phase.Ready g) e = let z : ◌≡◌ {A = ℕ} 0 1 = cc in absurd (omega arith)
phase_is (phase.Done f m) (phase.Done g n) e =
    let p = some_is (ap version_in e) in
    let v : f ≡ g = ap (λ (q : Version × ℕ). format_of q.0) p in
    let c : m ≡ n = ap (λ (q : Version × ℕ). q.1) p in
    ap₂ phase.Done v c

parser_is : (a b : Parser) → spot_in a ≡ spot_in b → a ≡ b
parser_is a b e =
    let p = phase_is a.phase b.phase (ap (λ (s : Spot). s.stage) e) in
    let l = ap (λ (s : Spot). s.line) e in
    let i = ap (λ (s : Spot). s.at) e in
    let n = ap (λ (s : Spot). s.count) e in
    rw (p, l, i, n)

ended_is : (a b : Option ReadAnswer) → ended_means a ≡ ended_means b → a ≡ b
ended_is None None e = refl
ended_is None (Some y) e = none_not e
ended_is (Some x) None e = none_not (sym e)
ended_is (Some x) (Some y) e = ap Some (answer_injective x y (some_is e))

pub state_injective : (a b : FeedState) → state_means a ≡ state_means b → a ≡ b
state_injective a b e =
    let i = imposed_is a.imposed b.imposed (ap (λ (s : Feeding). s.imposed) e) in
    let p = parser_is a.parser b.parser (ap (λ (s : Feeding). s.spot) e) in
    let h = ap (λ (s : Feeding). s.held) e in
    let d = ended_is a.ended b.ended (ap (λ (s : Feeding). s.ended) e) in
    rw (i, p, h, d)

outcome_is : (x y : Option (Result (FileFormat × ℕ) Refusal)) → feed_number x ≡ feed_number y → feed_says x ≡ feed_says y → x ≡ y
outcome_is None None e s = refl
outcome_is None (Some (Ok (g, n))) e s = none_not s
outcome_is None (Some (Err y)) e s = let z = number_suc y in absurd (omega (arith, z.1, e))
outcome_is (Some (Ok (f, m))) None e s = none_not (sym s)
outcome_is (Some (Ok (f, m))) (Some (Ok (g, n))) e s =
    let p = some_is s in
    let v : f ≡ g = ap (λ (q : Version × ℕ). format_of q.0) p in
    let c : m ≡ n = ap (λ (q : Version × ℕ). q.1) p in
    ap₂ (λ (a : FileFormat) (b : ℕ). Some (Ok (a, b))) v c
outcome_is (Some (Ok (f, m))) (Some (Err y)) e s = none_not (sym s)
outcome_is (Some (Err x)) None e s = let z = number_suc x in absurd (omega (arith, z.1, e))
outcome_is (Some (Err x)) (Some (Ok (g, n))) e s = none_not s
outcome_is (Some (Err x)) (Some (Err y)) e s = ap (λ (z : Refusal). Some (Err z)) (number_injective x y e)

-- so `feed` and `close` promise one answer and one state
pub feed_injective : (a b : FeedAnswer) → feed_means a ≡ feed_means b → a ≡ b
feed_injective a b e =
    let t = state_injective a.state b.state (ap (λ (x : Answered). x.state) e) in
    let o = outcome_is a.outcome b.outcome (ap (λ (x : Answered). x.answer.number) e) (ap (λ (x : Answered). x.answer.accepted) e) in
    let l = ap (λ (x : Answered). x.answer.line) e in
    let s = ap (λ (x : Answered). x.answer.start) e in
    let n = ap (λ (x : Answered). x.answer.entries) e in
    rw (t, o, l, s, n)
