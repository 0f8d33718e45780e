-- What the theorems say of contig lines in a VCF header. Assumes nothing.
use Rattle.std.specs.Prelude.{ℕ, ◌+◌, ◌≤◌, ◌≡◌, true, false, List, [], ◌∷◌, ◌++◌, map, length}
use Rattle.values.specs.Bytes.{Bytes, LF, is, any}
use Rattle.values.specs.Utf8.{is_utf8}
use Rattle.rules.specs.Answer.{ok}
use Rattle.rules.specs.Sizes.{Limits}
use Rattle.rules.specs.Lines.{write_line}
use Rattle.rules.specs.Version.{v4_5}
use Rattle.rules.specs.Record.{Record, fileformat}
use Rattle.rules.specs.Columns.{Columns, read_columns}
use Rattle.rules.specs.House.{write_record}
use Rattle.rules.specs.Claims.{All}
use Rattle.sam.specs.Contigs.{Contig, contig_record, contig_line, contig_lines}

abbrev pub records : List Contig → List Record
records cs = map (λ (c : Contig). contig_record c) cs

abbrev pub format_line : Bytes
format_line = write_record (fileformat v4_5)

-- these lines, after a 4.5 fileformat line and before the line l
abbrev pub between : Bytes → Bytes → Bytes
between l lines = write_line format_line ++ (lines ++ write_line l)

-- l is a column line
pub record IsColumnLine (l : Bytes) (c : Columns) : Type 0 where
  pub utf8 : is_utf8 l ≡ true
  pub line : any (is LF) l ≡ false
  pub read : read_columns l ≡ ok c

-- the header, each of its lines and its entries are within the limits and the table's room
pub record FitsBetween (lim : Limits) (room : ℕ) (l : Bytes) (c : Columns) (cs : List Contig) : Type 0 where
  pub header : length (between l (contig_lines cs)) ≤ lim.header
  pub lines : All (λ x. length x ≤ lim.line) (format_line ∷ (map (λ (c : Contig). contig_line c) cs ++ l ∷ []))
  pub table : 2 + length cs + length c.samples ≤ room
