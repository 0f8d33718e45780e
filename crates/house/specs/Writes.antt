-- Lines of the form, one after another: how far it is written, and which line was the first that is too long. Assumes nothing.
use Rattle.std.specs.Option.{option_or}
use Rattle.std.specs.Prelude.{ℕ, zero, suc, ◌+◌, ◌-◌, ◌≤◌, ◌≡◌, Bool, true, false, ◌&&◌, List, [], ◌∷◌, ◌++◌, eqb, ltb, length, Option, None, Some}
use Rattle.values.specs.Bytes.{Bytes, LF}
use Rattle.values.specs.Written.{last, onward, Puts}
use Rattle.values.specs.declared.sink.Sink.{Sink}
use Rattle.rules.specs.Answer.{ok}
use Rattle.rules.specs.Version.{Version}
use Rattle.rules.specs.Lines.{write_lines}
use Rattle.rules.specs.Record.{Record, read_record}
use Rattle.rules.specs.House.{too_long}
use Rattle.forms.specs.Lines.{IsEntry, house_line}
use Rattle.house.specs.declared.progress.Progress.{Progress}

-- the first line that was too long
abbrev pub long_in : Progress → Option (ℕ × ℕ)
long_in s = elim s.long [ zero ↦ None | suc n ↦ Some (suc n, s.start) ]

-- a line that ends at `end` is the first that is too long
abbrev pub is_long : Progress → ℕ → Bool
is_long s end = eqb s.long 0 && ltb s.limit (end - s.next.at)

-- one line more, whose text ends at `end`; `next` stands after its ending
unfoldable pub noted : Progress → ℕ → Sink → Progress
noted s end next = elim (is_long s end) [
  | true ↦ record { limit = s.limit; next = next; lines = onward s.lines 1; long = onward s.lines 1; start = s.next.at; formed = s.formed }
  | false ↦ record { limit = s.limit; next = next; lines = onward s.lines 1; long = s.long; start = s.start; formed = s.formed }
]

-- these lines were written; where no number was too large, the first that is too long is that of the rules
pub record WroteLines (given old : Bytes) (s : Progress) (ls : List Bytes) (r : Progress) (new : Bytes) : Type 0 where
  pub limit : r.limit ≡ s.limit
  pub formed : r.formed ≡ s.formed
  pub text : Puts given old s.next (write_lines ls) r.next new
  pub count : r.lines ≡ onward s.lines (length ls)
  pub long : s.next.at + length (write_lines ls) ≤ last → s.lines + length ls ≤ last → long_in r ≡ option_or (long_in s) (too_long s.limit s.lines s.next.at ls)

-- a line that is read as a map or a text
pub record Readable (v : Version) (l : Bytes) : Type 0 where
  pub line : Record
  pub read : read_record v l ≡ ok line
  pub entry : IsEntry line

pub record PutsEntry (v : Version) (l given old : Bytes) (s r : Progress) (new : Bytes) : Type 0 where
  pub is : Readable v l → (s.formed ≡ true → house_line v l ≡ l) → WroteLines given old s (house_line v l ∷ []) r new

-- lines of which none is too long were written, which are this text and an LF
pub record PutsLines (text : Bytes) (count : ℕ) (given old : Bytes) (s r : Progress) (new : Bytes) : Type 0 where
  pub is : (ls : List Bytes) → length ls ≡ count → write_lines ls ≡ text ++ LF ∷ [] → ((n start : ℕ) → too_long s.limit n start ls ≡ None) → WroteLines given old s ls r new

-- one line, which may not stand in form, or several such ones
pub record PutsRun (v : Version) (text : Bytes) (count : ℕ) (given old : Bytes) (s r : Progress) (new : Bytes) : Type 0 where
  pub one : count ≡ 1 → PutsEntry v text given old s r new
  pub more : (count ≡ 1 → ⊥) → PutsLines text count given old s r new
