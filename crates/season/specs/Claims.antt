-- What the theorems say of a season. Assumes nothing.
use Rattle.std.specs.Prelude.{ℕ, ◌+◌, ◌≡◌, Bool, true, false, List, [], ◌∷◌, ◌++◌, length, take, drop, Option, Ok, Err}
use Rattle.values.specs.Bytes.{Bytes}
use Rattle.rules.specs.Version.{Version}
use Rattle.entries.specs.declared.form.Form.{Form}
use Rattle.entries.specs.Values.{limits_by}
use Rattle.entries.specs.Tables.{room}
use Rattle.season.specs.declared.merge.MergeAnswer.{MergeAnswer}
use Rattle.season.specs.declared.merge.SeasonRefusal.TheVariants.{TotalTooLarge}
use Rattle.season.specs.declared.add.AddAnswer.{AddAnswer}
use Rattle.season.specs.Sheet.{passes, Given, sheet_of}
use Rattle.season.specs.Answers.{AddCall}

-- 39 totals of 64 bits
pub record IsSheet (s : List ℕ) : Type 0 where
  pub long : length s ≡ 39
  pub within : passes s ≡ false

-- the same headers in another order
pub data Reordered : List Given → List Given → Type 0 where
  nothing : Reordered [] []
  also : (x : Given) {xs ys : List Given} → Reordered xs ys → Reordered (x ∷ xs) (x ∷ ys)
  exchanged : (x y : Given) (xs : List Given) → Reordered (x ∷ y ∷ xs) (y ∷ x ∷ xs)
  further : {xs ys zs : List Given} → Reordered xs ys → Reordered ys zs → Reordered xs zs

-- a header with the version and the table of its call
abbrev pub given_in : Form → Option Version → Bytes → List ℕ → Given
given_in form imposed h t = record { limits = limits_by form; imposed = imposed; room = room form t; bytes = h }

-- calls of `add` with these headers, one after the other, from the sheet s on
pub data Calls (s : List ℕ) : List Given → List ℕ → Type 0 where
  no_call : Calls s [] s
  one_more : {xs : List Given} {s₁ : List ℕ} → Calls s xs s₁ → {form : Form} {imposed : Option Version} {h : Bytes} {t : List ℕ} {r : AddAnswer} {t' : List ℕ} → AddCall form imposed h t s₁ r t'
      → Calls s (xs ++ given_in form imposed h t ∷ []) r.sheet

-- what is merged of the sheets of two lists of headers: the sheet of both, or 30 and the first one as it was
abbrev pub both_by : Bool → List Given → List Given → MergeAnswer
both_by true xs ys = record { outcome = (Err TotalTooLarge); sheet = sheet_of xs }
both_by false xs ys = record { outcome = (Ok tt); sheet = sheet_of (xs ++ ys) }

unfoldable pub total : List ℕ → ℕ
total [] = 0
total (n ∷ ns) = n + total ns

-- the totals of headers by their number: those accepted, and those refused by 1 to 27
abbrev pub by_number : List ℕ → List ℕ
by_number s = take 28 (drop 1 s)
