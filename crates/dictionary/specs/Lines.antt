-- A dictionary's lines, as a header's bytes and its entries tell them. Assumes nothing.
use Rattle.std.specs.Prelude.{ℕ, zero, suc, ◌+◌, Bool, true, false, ◌&&◌, List, [], ◌∷◌, eqb, leb, length, take, Option, None, Some}
use Rattle.values.specs.Bytes.{Bytes, ascii}
use Rattle.rules.specs.Known.{is_in}
use Rattle.rules.specs.Entry.{Entry}
use Rattle.rules.specs.Shown.{line_in, id_meaning}
use Rattle.entries.specs.declared.form.Form.{Form}
use Rattle.entries.specs.Tables.{entries_in}
use Rattle.entries.specs.Values.{entry_of}
use Rattle.entries.specs.declared.entry.Entry.{Entry as CodeEntry}
use Rattle.dictionary.specs.Dictionary.{Line, idx_of, line_if, implied}
use Rattle.dictionary.specs.declared.line.Dictionary.{Dictionary}
use Rattle.dictionary.specs.declared.line.Dictionary.TheVariants.{Strings, Contigs}
use Rattle.rules.specs.Map.{field_keyed, fields_at}

-- the kinds of a dictionary's entries: INFO 2, FILTER 3 and FORMAT 4; contig 6
abbrev pub holds : Dictionary → ℕ → Bool
holds Strings kind = leb 2 kind && leb kind 4
holds Contigs kind = eqb kind 6

-- where the first field of such an entry's line stands: after `##INFO=<`, or a prefix of ten bytes
abbrev pub fields_place : ℕ → ℕ
fields_place kind = elim (eqb kind 2) [ true ↦ 8 | false ↦ 10 ]

abbrev pub idx_meant : Option ℕ → Option ℕ
idx_meant (Some n) = Some n
idx_meant None = None

unfoldable pub entry_idx : Bytes → Entry → Option ℕ
entry_idx h e = idx_of (field_keyed (ascii "IDX") (fields_at false (line_in h e) (fields_place e.kind)))

-- the ID stands in the dictionary unwritten
unfoldable pub is_implied : Bytes → Dictionary → Entry → Bool
is_implied h d e = is_in (id_meaning h e) (implied d)

abbrev pub line_of_entry : Bytes → ℕ → Entry → Line
line_of_entry h n e = record { entry = n; id = id_meaning h e; idx = entry_idx h e }

-- n is the first entry's number
unfoldable pub entry_lines : Dictionary → Bytes → ℕ → List Entry → List Line
entry_lines d h n [] = []
entry_lines d h n (e ∷ es) = line_if (holds d e.kind) (line_of_entry h n e) (entry_lines d h (n + 1) es)

-- the lines of the entries in a table
abbrev pub table_lines : Dictionary → Form → Bytes → List ℕ → List Line
table_lines d form h t = entry_lines d h 0 (entries_in form t)

-- what the code's entry says
abbrev pub id_at : Bytes → CodeEntry → Bytes
id_at h e = id_meaning h (entry_of e)

abbrev pub idx_at : Bytes → CodeEntry → Option ℕ
idx_at h e = entry_idx h (entry_of e)

abbrev pub is_idx : ℕ → Option ℕ → Bool
is_idx n None = false
is_idx n (Some m) = eqb m n

-- the lines before entry k
abbrev pub lines_before : Dictionary → Form → Bytes → List ℕ → ℕ → List Line
lines_before d form h t k = entry_lines d h 0 (take k (entries_in form t))

-- the number of the line of entry k among the dictionary's, from 0
abbrev pub ordinal : Dictionary → Form → Bytes → List ℕ → ℕ → ℕ
ordinal d form h t k = length (lines_before d form h t k)

-- the number of the entry of line n; 0 where there is no such line
unfoldable pub entry_of_line : List Line → ℕ → ℕ
entry_of_line [] n = 0
entry_of_line (l ∷ ls) zero = l.entry
entry_of_line (l ∷ ls) (suc n) = entry_of_line ls n

-- both dictionaries of the entries in a table
abbrev pub string_lines : Form → Bytes → List ℕ → List Line
string_lines form h t = table_lines Strings form h t

abbrev pub contig_lines : Form → Bytes → List ℕ → List Line
contig_lines form h t = table_lines Contigs form h t
