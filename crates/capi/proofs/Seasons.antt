-- What the library answers of a season's sheet. Assumes nothing.
use Prim.Native.Nat.{ℕ}
use mathlib.Core.Path.{◌≡◌, ap, subst₂, ◌∙◌}
use mathlib.Core.List.{List}
use Rattle.std.specs.Prelude.{Option}
use Rattle.rules.specs.Version.{Version}
use Rattle.entries.specs.declared.form.Form.{Form}
use Rattle.entries.specs.Tables.{stored}
use Rattle.header.specs.Parsers.{read_into}
use Rattle.season.specs.Answers.{merge_number, merge_answer, add_number, add_means, AddCall}
use Rattle.season.specs.declared.add.AddAnswer.{AddAnswer}
use Rattle.season.specs.declared.merge.MergeAnswer.{MergeAnswer}
use Rattle.capi.specs.Seasons.{added_in_c, merged_in_c}

module _ {f form : Form} (k : f ≡ form) {imposed wanted : Option Version} (e : imposed ≡ wanted) {h t s : List ℕ} (a : AddAnswer) {t' : List ℕ} (call : AddCall f imposed h t s a t') where
  asked_add : AddCall form wanted h t s a t'
  asked_add = subst₂ (λ (x : Form) (i : Option Version). AddCall x i h t s a t') k e call

  pub add_answers : {n : ℕ} → n ≡ add_number a.outcome
      → record { number = n; line = a.line; start = a.start; entries = a.entries; sheet = record { totals = a.sheet } } ≡ added_in_c (add_means s (read_into form wanted t h))
  add_answers c = ap (λ k. record { number = k; line = a.line; start = a.start; entries = a.entries; sheet = record { totals = a.sheet } }) c ∙ ap added_in_c asked_add.answer

  pub add_stored : t' ≡ stored form t 0 (read_into form wanted t h).entries
  add_stored = asked_add.table

pub merged_answers : (s n : List ℕ) {a : MergeAnswer} → a ≡ merge_answer s n → {m : ℕ} → m ≡ merge_number a.outcome → record { number = m; sheet = record { totals = a.sheet } } ≡ merged_in_c (merge_answer s n)
merged_answers s n {a} e c = ap (λ k. record { number = k; sheet = record { totals = a.sheet } }) c ∙ ap merged_in_c e
