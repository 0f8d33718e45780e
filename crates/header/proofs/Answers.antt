-- What a reading tells determines its answer. Assumes nothing.
use Rattle.std.specs.Prelude.{Result, Ok, Err}
use Prim.Native.Nat.{ℕ}
use mathlib.Core.Path.{◌≡◌, sym, ap, ap₂}
use Rattle.values.proofs.Lists.{some_is, none_not}
use Rattle.rules.specs.Version.{Version}
use Rattle.records.specs.Formats.{format_of}
use Rattle.records.proofs.Refusals.{number_injective}
use Rattle.header.specs.Parsers.{AnswerMeaning, outcome_number, outcome_says, answer_means}
use Rattle.header.specs.declared.parser.ReadAnswer.{ReadAnswer}
use Rattle.records.specs.declared.file_format.FileFormat.{FileFormat}
use Rattle.records.specs.declared.refusal.Refusal.{Refusal}

outcome_is : (x y : Result (FileFormat × ℕ) Refusal) → outcome_number x ≡ outcome_number y → outcome_says x ≡ outcome_says y → x ≡ y
outcome_is (Ok (f, m)) (Ok (g, n)) e s =
    let p = some_is s in
    let v : f ≡ g = ap (λ (q : Version × ℕ). format_of q.0) p in
    let c : m ≡ n = ap (λ (q : Version × ℕ). q.1) p in
    ap₂ (λ (a : FileFormat) (b : ℕ). Ok (a, b)) v c
outcome_is (Ok (f, m)) (Err y) e s = none_not (sym s)
outcome_is (Err x) (Ok (g, n)) e s = none_not s
outcome_is (Err x) (Err y) e s = ap Err (number_injective x y e)

-- two answers that tell the same are the same, so what `read` promises is one answer
pub answer_injective : (a b : ReadAnswer) → answer_means a ≡ answer_means b → a ≡ b
answer_injective a b e =
    let o = outcome_is a.outcome b.outcome (ap (λ (t : AnswerMeaning). t.number) e) (ap (λ (t : AnswerMeaning). t.accepted) e) in
    let l = ap (λ (t : AnswerMeaning). t.line) e in
    let s = ap (λ (t : AnswerMeaning). t.start) e in
    let n = ap (λ (t : AnswerMeaning). t.entries) e in
    rw (o, l, s, n)
