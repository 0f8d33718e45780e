-- A long header in parts: what the entries before a part have to be. Assumes nothing.
use Rattle.std.specs.Prelude.{ℕ, ◌≤◌, ◌≡◌, Bool, true, List, length, take}
use Rattle.values.specs.Bytes.{Bytes}
use Rattle.entries.specs.declared.form.Form.{Form}
use Rattle.entries.specs.Tables.{all_formed}
use Rattle.header.specs.Steps.{Spot, fits}

-- where the lines before `end` can be read in parts from a spot on: the entries kept are well formed in the bytes before it
pub record BeginsParts (form : Form) (h : Bytes) (end : ℕ) (t : List ℕ) (s : Spot) : Type 0 where
  pub fit : fits form (length h) t s ≡ true
  pub formed : all_formed form (take s.at h) t 0 s.count ≡ true
  pub ahead : s.at ≤ end
  pub inside : end ≤ length h

-- r: they are read so
pub record MayPart (form : Form) (h : Bytes) (end : ℕ) (t : List ℕ) (s : Spot) (r : Bool) : Type 0 where
  pub is : r ≡ true → BeginsParts form h end t s
