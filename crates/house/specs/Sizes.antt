-- The size of a form: a sum over the lines, in any order. Assumes nothing.
use Rattle.std.specs.Prelude.{ℕ, ◌≡◌, true, false, List, [], ◌∷◌, ◌++◌, leb, length}
use Rattle.values.specs.Bytes.{Bytes}
use Rattle.values.specs.Written.{last, onward}
use Rattle.rules.specs.Version.{Version}
use Rattle.rules.specs.Lines.{write_line}
use Rattle.rules.specs.Record.{fileformat}
use Rattle.rules.specs.Entry.{Entry}
use Rattle.rules.specs.Shown.{line_in}
use Rattle.rules.specs.House.{write_record}
use Rattle.forms.specs.Lines.{house_line}
use Rattle.house.specs.declared.sizes.Sum.{Sum}
use Rattle.house.specs.Writes.{Readable}
use Rattle.house.specs.Keys.{is_record, pick, AllListed, AreFormed}

-- a line's bytes with its ending
abbrev pub line_size : Bytes → ℕ
line_size l = length (write_line l)

-- a size and that of a line more; the largest number stands for no size
unfoldable pub with_line : ℕ → ℕ → Bytes → ℕ
with_line limit size l = elim (leb (length l) limit) [ true ↦ onward size (line_size l) | false ↦ last ]

-- the size of lines of which none is too long
unfoldable pub size_of : ℕ → List Bytes → ℕ
size_of limit [] = 0
size_of limit (l ∷ ls) = with_line limit (size_of limit ls) l

-- the form's lines of the records, in the header's order
unfoldable pub listed_lines : Version → Bytes → List Entry → List Bytes
listed_lines v h [] = []
listed_lines v h (e ∷ es) = pick (is_record e) (house_line v (line_in h e)) (listed_lines v h es)

-- the form's line of l more
pub record AddsPut (limit : ℕ) (v : Version) (size : ℕ) (l : Bytes) (r : ℕ) : Type 0 where
  pub is : Readable v l → r ≡ with_line limit size (house_line v l)

-- the same, and all lines stand in form only if this one does too
pub record AddsRecord (limit : ℕ) (v : Version) (s : Sum) (l : Bytes) (r : Sum) : Type 0 where
  pub formed : r.formed ≡ true → (s.formed ≡ true) × (Readable v l → house_line v l ≡ l)
  pub size : Readable v l → r.size ≡ with_line limit s.size (house_line v l)

pub record SumsLines (limit : ℕ) (v : Version) (h : Bytes) (es : List Entry) (r : Sum) : Type 0 where
  pub formed : AreFormed v h es r.formed
  pub size : AllListed false v h es → r.size ≡ size_of limit (listed_lines v h es)

-- the form's lines without the records'
abbrev pub outer_lines : Version → Bytes → List Bytes
outer_lines v columns = write_record (fileformat v) ∷ columns ∷ []

-- these lines, and others that take so many bytes
pub record SizesForm (limit : ℕ) (v : Version) (columns : Bytes) (records r : ℕ) : Type 0 where
  pub is : (ls : List Bytes) → records ≡ size_of limit ls → r ≡ size_of limit (outer_lines v columns ++ ls)
