-- Where the header of a whole VCF ends. Assumes nothing.
use Rattle.std.specs.Prelude.{ℕ, ◌+◌, true, false, List, [], ◌∷◌, length}
use Rattle.values.specs.Bytes.{Bytes, ascii, starts}
use Rattle.rules.specs.Lines.{line_of}

-- past the first line that begins with `#CHROM`; all bytes where none does
unfoldable pub header_end : List Bytes → ℕ
header_end [] = 0
header_end (p ∷ ps) = elim (starts (ascii "#CHROM") (line_of p)) [ true ↦ length p | false ↦ length p + header_end ps ]
