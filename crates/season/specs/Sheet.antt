-- Document 02, §1: the sheet of a season, a list of 39 totals. Assumes nothing.
use Rattle.std.specs.Prelude.{ℕ, zero, suc, ◌+◌, Bool, true, false, ◌||◌, List, [], ◌∷◌, ◌++◌, map, eqb, ltb, replicate, Option}
use Rattle.values.specs.Bytes.{Bytes}
use Rattle.rules.specs.Sizes.{Limits}
use Rattle.rules.specs.Version.{Version}
use Rattle.rules.specs.Entry.{Entry}
use Rattle.rules.specs.Reading.{Reading, reading}

-- so many numbers from n on
unfoldable pub numbers : ℕ → ℕ → List ℕ
numbers n zero = []
numbers n (suc k) = n ∷ numbers (n + 1) k

abbrev pub once : Bool → ℕ
once true = 1
once false = 0

-- how many entries are of a kind
unfoldable pub of_kind : ℕ → List Entry → ℕ
of_kind k [] = 0
of_kind k (e ∷ es) = once (eqb e.kind k) + of_kind k es

-- what is added to each total: headers read; accepted (number 0) and refused by each of 1 to 27; entries of each kind, 1 to 10
unfoldable pub tally_of : ℕ → List Entry → List ℕ
tally_of number es = 1 ∷ (map (λ n. once (eqb number n)) (numbers 0 28) ++ map (λ k. of_kind k es) (numbers 1 10))

-- entries are counted of accepted headers alone
abbrev pub accepted_entries : ℕ → List Entry → List Entry
accepted_entries zero es = es
accepted_entries (suc n) es = []

-- what a reading adds
abbrev pub tally : Reading → List ℕ
tally r = tally_of r.number (accepted_entries r.number r.entries)

-- total by total
unfoldable pub sums : List ℕ → List ℕ → List ℕ
sums [] bs = []
sums (a ∷ as') [] = []
sums (a ∷ as') (b ∷ bs) = (a + b) ∷ sums as' bs

-- a total is past 64 bits
unfoldable pub passes : List ℕ → Bool
passes [] = false
passes (n ∷ ns) = ltb 18446744073709551615 n || passes ns

-- the sheet s after what is added to it; if a total would overflow, it stays
abbrev pub added_by : Bool → List ℕ → List ℕ → List ℕ
added_by true s n = s
added_by false s n = sums s n

abbrev pub after_adding : List ℕ → List ℕ → List ℕ
after_adding s n = added_by (passes (sums s n)) s n

-- The season

-- a header as it is added: by which limits, its own version, the entries that its table has room for, and its bytes
pub record Given : Type 0 where
  pub limits : Limits
  pub imposed : Option Version
  pub room : ℕ
  pub bytes : Bytes

abbrev pub tally_in : Given → List ℕ
tally_in x = tally (reading x.limits x.imposed x.room x.bytes)

abbrev pub blank : List ℕ
blank = replicate 39 0

-- the sheet of headers: the sums of what each adds
unfoldable pub sheet_of : List Given → List ℕ
sheet_of [] = blank
sheet_of (x ∷ xs) = sums (tally_in x) (sheet_of xs)

-- the sheet s after headers that are read in turn
unfoldable pub season : List ℕ → List Given → List ℕ
season s [] = s
season s (x ∷ xs) = season (after_adding s (tally_in x)) xs

-- those among them that are added; the others are 30
unfoldable pub added : List ℕ → List Given → List Given
added s [] = []
added s (x ∷ xs) = elim (passes (sums s (tally_in x))) [ true ↦ added s xs | false ↦ x ∷ added (sums s (tally_in x)) xs ]
