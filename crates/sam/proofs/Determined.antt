-- What a call promises leaves one outcome. Assumes nothing.
use Rattle.std.specs.Prelude.{Result, Ok, Err, ⊤}
use Prim.Native.Nat.{ℕ}
use mathlib.Core.Path.{◌≡◌, refl, sym, ap, ◌∙◌}
use mathlib.Core.Bool.{true, false}
use lib.Dec.{eqb}
use Rattle.values.specs.Bytes.{Bytes}
use Rattle.sam.specs.Answers.{contigs_number, ContigsMeaning, contigs_answer_means, ContigsCall}
use Rattle.sam.specs.declared.refusal.SamRefusal.TheVariants.{LineTooLong, InvalidUtf8, InvalidTag, InvalidSequence, DuplicateSequence, OutputTooSmall}
use Rattle.sam.specs.declared.contigs.ContigsAnswer.{ContigsAnswer}
use Rattle.sam.specs.declared.refusal.SamRefusal.{SamRefusal}

-- the outcome of a number
abbrev outcome_of : ℕ → Result ⊤ SamRefusal
outcome_of n = elim (eqb n 0) [
  | true ↦ Ok tt
  | false ↦ elim (eqb n 2) [
    | true ↦ Err LineTooLong
    | false ↦ elim (eqb n 3) [
      | true ↦ Err InvalidUtf8
      | false ↦ elim (eqb n 41) [
        | true ↦ Err InvalidTag
        | false ↦ elim (eqb n 42) [ true ↦ Err InvalidSequence | false ↦ elim (eqb n 43) [ true ↦ Err DuplicateSequence | false ↦ Err OutputTooSmall ] ]
      ]
    ]
  ]
]

outcome_back : (x : Result ⊤ SamRefusal) → outcome_of (contigs_number x) ≡ x
outcome_back (Ok tt) = refl
outcome_back (Err LineTooLong) = refl
outcome_back (Err InvalidUtf8) = refl
outcome_back (Err InvalidTag) = refl
outcome_back (Err InvalidSequence) = refl
outcome_back (Err DuplicateSequence) = refl
outcome_back (Err OutputTooSmall) = refl

-- two answers that tell the same are the same
pub told_injective : (a b : ContigsAnswer) → contigs_answer_means a ≡ contigs_answer_means b → a ≡ b
told_injective a b e =
    let o : a.outcome ≡ b.outcome = sym (outcome_back a.outcome) ∙ ap (λ (t : ContigsMeaning). outcome_of t.number) e ∙ outcome_back b.outcome in
    let l = ap (λ (t : ContigsMeaning). t.line) e in
    let s = ap (λ (t : ContigsMeaning). t.start) e in
    let n = ap (λ (t : ContigsMeaning). t.contigs) e in
    let x = ap (λ (t : ContigsMeaning). t.size) e in
    rw (o, l, s, n, x)

pub one_outcome : (sam out : Bytes) {r s : ContigsAnswer} {o p : Bytes} → ContigsCall sam out r o → ContigsCall sam out s p → (r ≡ s) × (o ≡ p)
one_outcome sam out {r} {s} c d = (told_injective r s (c.answer ∙ sym d.answer), c.output ∙ sym d.output)
