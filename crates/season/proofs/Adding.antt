-- A header added to a sheet: what each way of the code answers, and that it is one answer. Assumes nothing.
use Rattle.season.specs.declared.merge.SeasonRefusal.{SeasonRefusal}
use Rattle.season.specs.declared.merge.SeasonRefusal.TheVariants as merging
use Prim.Native.Nat.{ℕ}
use mathlib.Core.Path.{◌≡◌, refl, sym, ap, ap₂, ◌∙◌}
use mathlib.Core.Bool.{Bool, true, false, true≢false, false≢true}
use mathlib.Core.List.{List, []}
use Rattle.std.specs.Prelude.{Option, None, Ok, Err, Result}
use Rattle.values.specs.Bytes.{Bytes}
use Rattle.rules.specs.Version.{Version}
use Rattle.rules.specs.Reading.{Reading}
use Rattle.records.specs.Refusals.{number}
use Rattle.records.specs.declared.refusal.Refusal.{Refusal}
use Rattle.records.specs.declared.file_format.FileFormat.{FileFormat}
use Rattle.records.proofs.Refusals.{number_suc}
use Rattle.entries.specs.declared.form.Form.{Form}
use Rattle.entries.specs.Tables.{first_entries, entries_in}
use Rattle.header.proofs.Answers.{answer_injective}
use Rattle.header.proofs.Callers.{read_refused, read_accepted, read_kept}
use Rattle.header.specs.declared.parser.ReadAnswer.{ReadAnswer}
use Rattle.header.specs.Parsers.{AnswerMeaning, read_into, ReadCall}
use Rattle.season.specs.declared.merge.MergeAnswer.{MergeAnswer}
use Rattle.season.specs.declared.add.AddAnswer.{AddAnswer}
use Rattle.season.specs.Sheet.{accepted_entries, tally_of, tally, sums, passes}
use Rattle.season.specs.Answers.{merge_answer, merged_by, merge_outcome, add_number, add_says, is_added, AddMeaning, add_answer_means, add_means_by, AddCall, answer_by}

-- what answers the needs of `add`
module _ {form : Form} {imposed : Option Version} {h : Bytes} {t₀ : List ℕ} {a : ReadAnswer} {t : List ℕ} (call : ReadCall form imposed h t₀ a t) where
  abbrev read : Reading
  read = read_into form imposed t₀ h

  answers_by : (over : Bool) (s : List ℕ) → add_answer_means (answer_by a (merge_outcome over) (merged_by over s (tally read)).sheet) ≡ add_means_by over s read
  answers_by true s = ap (λ (x : AnswerMeaning). record { number = 30; line = 0; start = 0; entries = x.entries; accepted = None; added = false; sheet = s }) call.answer
  answers_by false s = ap (λ (x : AnswerMeaning). record { number = x.number; line = x.line; start = x.start; entries = x.entries; accepted = x.accepted; added = true; sheet = sums s (tally read) }) call.answer

  answers : (s : List ℕ) {n : List ℕ} → n ≡ tally read → {m : MergeAnswer} → m ≡ merge_answer s n → {r : AddAnswer} → r ≡ answer_by a m.outcome m.sheet → AddCall form imposed h t₀ s r t
  answers s {n} e {m} f q = record {
    answer = ap add_answer_means (q ∙ ap (λ (x : MergeAnswer). answer_by a x.outcome x.sheet) (f ∙ ap (merge_answer s) e)) ∙ answers_by (passes (sums s (tally read))) s;
    table = call.table;
  }

  pub add_refused : (s : List ℕ) {x : Refusal} → a.outcome ≡ Err x → {n : List ℕ} → n ≡ tally_of (number x) [] → {m : MergeAnswer} → m ≡ merge_answer s n → {r : AddAnswer} → r ≡ answer_by a m.outcome m.sheet → AddCall form imposed h t₀ s r t
  add_refused s {x} o e = answers s (e ∙ refused_tally)
    where
      refused_tally : tally_of (number x) [] ≡ tally read
      refused_tally =
          let k = number_suc x in
          ap (tally_of (number x)) (sym (ap (λ (i : ℕ). accepted_entries i read.entries) k.1))
          ∙ sym (ap (λ (i : ℕ). tally_of i (accepted_entries i read.entries)) (read_refused call o))

  pub add_accepted : (s : List ℕ) {f : FileFormat} {i : ℕ} → a.outcome ≡ Ok (f, i) → {kept : List ℕ} → kept ≡ first_entries form t a.entries → {n : List ℕ} → n ≡ tally_of 0 (entries_in form kept) → {m : MergeAnswer} → m ≡ merge_answer s n → {r : AddAnswer} → r ≡ answer_by a m.outcome m.sheet → AddCall form imposed h t₀ s r t
  add_accepted s o k e = answers s (e ∙ ap (tally_of 0) (read_kept call o k) ∙ sym (ap (λ (i : ℕ). tally_of i (accepted_entries i read.entries)) (read_accepted call o)))

pub ruleset adds = (add_refused, add_accepted)

-- One answer

outcome_one : (x y : Result (Result (FileFormat × ℕ) Refusal) SeasonRefusal) → add_number x ≡ add_number y → add_says x ≡ add_says y → is_added x ≡ is_added y → x ≡ y
outcome_one (Ok o) (Ok p) e f g =
    let a = answer_injective (record { outcome = o; line = 0; start = 0; entries = 0 }) (record { outcome = p; line = 0; start = 0; entries = 0 }) (ap₂ (λ (n : ℕ) (v : Option (Version × ℕ)). record { number = n; line = 0; start = 0; entries = 0; accepted = v }) e f) in
    ap (λ (x : ReadAnswer). Ok x.outcome) a
outcome_one (Ok o) (Err merging.TotalTooLarge) e f g = absurd (true≢false g)
outcome_one (Err merging.TotalTooLarge) (Ok p) e f g = absurd (false≢true g)
outcome_one (Err merging.TotalTooLarge) (Err merging.TotalTooLarge) e f g = refl

-- two answers that tell the same are the same, so what `add` promises is one answer
pub told_add_injective : (a b : AddAnswer) → add_answer_means a ≡ add_answer_means b → a ≡ b
told_add_injective a b e =
    let o = outcome_one a.outcome b.outcome (ap (λ (x : AddMeaning). x.number) e) (ap (λ (x : AddMeaning). x.accepted) e) (ap (λ (x : AddMeaning). x.added) e) in
    let l = ap (λ (x : AddMeaning). x.line) e in
    let s = ap (λ (x : AddMeaning). x.start) e in
    let n = ap (λ (x : AddMeaning). x.entries) e in
    let k = ap (λ (x : AddMeaning). x.sheet) e in
    rw (o, l, s, n, k)
