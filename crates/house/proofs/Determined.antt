-- What a house-form call tells determines its answer. Assumes nothing.
use mathlib.Core.Path.{◌≡◌, ap}
use Rattle.header.specs.declared.parser.ReadAnswer.{ReadAnswer}
use Rattle.header.proofs.Answers.{answer_injective}
use Rattle.house.specs.Answers.{FormMeaning, form_answer_means}
use Rattle.house.specs.declared.form.HouseAnswer.{HouseAnswer}

-- without the form's length
abbrev reads : HouseAnswer → ReadAnswer
reads a = record { outcome = a.outcome; line = a.line; start = a.start; entries = a.entries }

-- two answers that tell the same are the same, so what `house_form` promises is one answer
pub form_injective : (a b : HouseAnswer) → form_answer_means a ≡ form_answer_means b → a ≡ b
form_injective a b e =
    let r = answer_injective (reads a) (reads b)
    (ap (λ (t : FormMeaning). record { number = t.number; line = t.line; start = t.start; entries = t.entries; accepted = t.accepted }) e) in
    let o = ap (λ (x : ReadAnswer). x.outcome) r in
    let l = ap (λ (t : FormMeaning). t.line) e in
    let s = ap (λ (t : FormMeaning). t.start) e in
    let n = ap (λ (t : FormMeaning). t.entries) e in
    let z = ap (λ (t : FormMeaning). t.size) e in
    rw (o, l, s, n, z)
