-- Document 02, §4: the list of the entries that carry an oddly spelled number, in table order. Assumes nothing.
use Rattle.std.specs.Prelude.{ℕ, zero, suc, ◌+◌, ◌≡◌, Bool, true, false, List, [], ◌∷◌, leb, length, Option, None, Some, Result, Ok, Err, ⊤}
use Rattle.std.proofs.lemmas.List.Edits.{sets}
use Rattle.values.specs.Bytes.{Bytes}
use Rattle.rules.specs.Version.{Version}
use Rattle.rules.specs.Spelling.{entry_odd}
use Rattle.entries.specs.declared.form.Form.{Form}
use Rattle.entries.specs.Values.{limits_by}
use Rattle.entries.specs.Tables.{room, entry_at}
use Rattle.spelling.specs.declared.odd.OddRefusal.{OddRefusal}
use Rattle.spelling.specs.declared.odd.OddRefusal.TheVariants.{NotWellFormed, ListTooShort}
use Rattle.spelling.specs.declared.odd.OddAnswer.{OddAnswer}

-- an entry's number in front of those after it, if it carries an oddly spelled number; none if it or one after it is refused
abbrev pub listing : ℕ → Option Bool → Option (List ℕ) → Option (List ℕ)
listing n None ns = None
listing n (Some odd) None = None
listing n (Some odd) (Some ns) = Some (elim odd [ true ↦ n ∷ ns | false ↦ ns ])

-- of so many entries from number n on
unfoldable pub odd_from : Form → Bytes → List ℕ → Version → ℕ → ℕ → Option (List ℕ)
odd_from form h t v n zero = Some []
odd_from form h t v n (suc more) = listing n (entry_odd (limits_by form).counted h v (entry_at form h t n)) (odd_from form h t v (n + 1) more)

-- of all entries of a table; none is refusal 29
abbrev pub odd_in : Form → Bytes → List ℕ → Version → Option (List ℕ)
odd_in form h t v = odd_from form h t v 0 (room form t)

-- document 02's number
abbrev pub outcome_number : Result ⊤ OddRefusal → ℕ
outcome_number (Ok tt) = 0
outcome_number (Err NotWellFormed) = 29
outcome_number (Err ListTooShort) = 31

abbrev pub answer_of : Result ⊤ OddRefusal → ℕ → OddAnswer
answer_of outcome n = record { outcome = outcome; listed = n }

-- 29, then 31: a list of `size` words is too short
abbrev pub odd_answer : ℕ → Option (List ℕ) → OddAnswer
odd_answer size None = answer_of (Err NotWellFormed) 0
odd_answer size (Some ns) = elim (leb (length ns) size) [ true ↦ answer_of (Ok tt) (length ns) | false ↦ answer_of (Err ListTooShort) 0 ]

-- the list after the call
abbrev pub odd_list : List ℕ → Option (List ℕ) → List ℕ
odd_list list None = list
odd_list list (Some ns) = elim (leb (length ns) (length list)) [ true ↦ sets list 0 ns | false ↦ list ]

-- What the code finds on its way

abbrev pub spelling_means : Option Bool → Option Bool
spelling_means (Some false) = Some false
spelling_means (Some true) = Some true
spelling_means None = None

abbrev pub CountIs : Option (List ℕ) → Option ℕ → Type 0
CountIs o (Some n) = (ns : List ℕ) × (o ≡ Some ns) × (n ≡ length ns)
CountIs o None = o ≡ None

-- the entries to list were counted
pub record Counts (o : Option (List ℕ)) (r : Option ℕ) : Type 0 where
  pub is : CountIs o r

-- and listed, unless one is refused
pub record Walks (o : Option (List ℕ)) (list : List ℕ) (r : Option ℕ) (list' : List ℕ) : Type 0 where
  pub counts : CountIs o r
  pub lists : (ns : List ℕ) → o ≡ Some ns → list' ≡ sets list 0 ns
