-- The verdict on a header as numbers. Assumes nothing.
use Prim.Native.Nat.{ℕ}
use mathlib.Core.Path.{◌≡◌, ap, ap₂, ◌∙◌, subst₂}
use mathlib.Core.List.{List}
use Rattle.std.specs.Prelude.{Option}
use Rattle.rules.specs.Version.{Version}
use Rattle.entries.specs.Tables.{room, stored}
use Rattle.entries.specs.Values.{limits_by}
use Rattle.entries.specs.declared.form.Form.{Form}
use Rattle.header.specs.Parsers.{outcome_number, read_into}
use Rattle.house.specs.IsHouse.{is_house}
use Rattle.house.specs.Verdicts.{VerdictMeaning, IsHouseCall}
use Rattle.house.specs.declared.form.IsHouseAnswer.{IsHouseAnswer}
use Rattle.capi.specs.Answers.{flag}
use Rattle.capi.specs.Verdicts.{verdict_in_c}
use Rattle.capi.specs.declared.VcfhVerdict.{VcfhVerdict}

abbrev verdict_numbers : VerdictMeaning → VcfhVerdict
verdict_numbers t = record { number = t.number; line = t.line; start = t.start; entries = t.entries; house = flag t.holds; differs = t.place }

-- a call with the form and the version that were asked for
module _ {f form : Form} (k : f ≡ form) {imposed wanted : Option Version} (e : imposed ≡ wanted) {h t : List ℕ} (a : IsHouseAnswer) {t' : List ℕ} (call : IsHouseCall f imposed h t a t') where
  asked : IsHouseCall form wanted h t a t'
  asked = subst₂ (λ (x : Form) (i : Option Version). IsHouseCall x i h t a t') k e call

  pub verdict_answers : {n : ℕ} → n ≡ outcome_number a.outcome → {b : ℕ} → b ≡ flag a.holds → record { number = n; line = a.line; start = a.start; entries = a.entries; house = b; differs = a.differs }
      ≡ verdict_in_c (read_into form wanted t h) (is_house (limits_by form) wanted (room form t) h)
  verdict_answers c d = ap₂ (λ (n b : ℕ). record { number = n; line = a.line; start = a.start; entries = a.entries; house = b; differs = a.differs }) c d ∙ ap verdict_numbers asked.answer

  pub verdict_stored : t' ≡ stored form t 0 (read_into form wanted t h).entries
  verdict_stored = asked.table
