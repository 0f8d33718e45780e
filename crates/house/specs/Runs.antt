-- Runs of entries of one key, whose lines follow one another in the header as they do in the form. Assumes nothing.
use Rattle.std.specs.Prelude.{ℕ, zero, suc, ◌+◌, ◌-◌, ◌≤◌, ◌<◌, ◌≡◌, Bool, true, false, List, [], ◌∷◌, ◌++◌, length, get_or, take, drop, None}
use Rattle.values.specs.Bytes.{Bytes, CR, LF}
use Rattle.rules.specs.Lines.{ends, write_lines}
use Rattle.rules.specs.Entry.{Entry}
use Rattle.rules.specs.Shown.{line_in}
use Rattle.rules.specs.House.{too_long}
use Rattle.entries.specs.declared.form.Form.{Form}
use Rattle.entries.specs.Tables.{room, entry_in}
use Rattle.house.specs.declared.run.Run.{Run}
use Rattle.house.specs.Keys.{is_under}

-- where the line of an entry ends
unfoldable pub line_end : Bytes → Entry → ℕ
line_end h e = e.start + length (line_in h e)

-- a line that is not too long, and ends in LF alone
pub record Short (limit : ℕ) (l : Bytes) : Type 0 where
  pub size : length l ≤ limit
  pub ending : ends CR l ≡ false

pub record IsShort (limit : ℕ) (l : Bytes) (r : Bool) : Type 0 where
  pub is : r ≡ true → Short limit l

-- an entry under the key, whose line is such a one and stands past the LF at `stop`
pub record Next (h prefix : Bytes) (limit stop : ℕ) (e : Entry) : Type 0 where
  pub inside : stop < length h
  pub start : e.start ≡ stop + 1
  pub ended : get_or h stop 0 ≡ LF
  pub under : is_under h prefix e ≡ true
  pub short : Short limit (line_in h e)

pub record IsNext (h prefix : Bytes) (limit stop : ℕ) (e : Entry) (r : Bool) : Type 0 where
  pub is : r ≡ true → Next h prefix limit stop e

-- the lines of n entries, from number k on
unfoldable pub lines_at : Form → Bytes → List ℕ → ℕ → ℕ → List Bytes
lines_at form h t k zero = []
lines_at form h t k (suc n) = line_in h (entry_in form t k) ∷ lines_at form h t (k + 1) n

-- the header from the line of entry number k up to a place
abbrev pub run_text : Form → Bytes → List ℕ → ℕ → ℕ → Bytes
run_text form h t k stop = take (stop - (entry_in form t k).start) (drop (entry_in form t k).start h)

-- the lines of the entries from number k up to `end` are what stands in the header up to `stop`, and an LF
pub record OneAfterAnother (form : Form) (h : Bytes) (t : List ℕ) (limit k end stop : ℕ) : Type 0 where
  pub text : write_lines (lines_at form h t k (end - k)) ≡ run_text form h t k stop ++ LF ∷ []
  pub short : (n start : ℕ) → too_long limit n start (lines_at form h t k (end - k)) ≡ None

-- the entries from number k on are under the key if the first one is
pub record FindsRun (form : Form) (formed : Bool) (h : Bytes) (t : List ℕ) (prefix : Bytes) (limit k : ℕ) (r : Run) : Type 0 where
  pub ahead : k < r.end
  pub within : r.end ≤ room form t
  pub under : (m : ℕ) → k < m → m < r.end → is_under h prefix (entry_in form t m) ≡ true
  pub one : r.end ≡ k + 1 → run_text form h t k r.stop ≡ line_in h (entry_in form t k)
  pub more : k + 1 < r.end → (formed ≡ true) × OneAfterAnother form h t limit k r.end r.stop
