-- Document 02, §14: the contigs of a SAM header, and the lines that are written of them. Assumes nothing.
use Rattle.std.specs.Prelude.{ℕ, zero, suc, ◌+◌, true, false, not, List, [], ◌∷◌, ◌++◌, map, leb, length, Option, None, Some, Bool}
use Rattle.values.specs.Bytes.{Bytes, ascii}
use Rattle.values.specs.Utf8.{is_utf8}
use Rattle.values.specs.Integer.{integer_read}
use Rattle.rules.specs.Answer.{Answer, ok, refuse, ◌>>=◌, unless, first, judged}
use Rattle.rules.specs.Sizes.{limits}
use Rattle.rules.specs.Lines.{pieces, line_of, write_lines}
use Rattle.rules.specs.Version.{v4_5}
use Rattle.rules.specs.Known.{is_in}
use Rattle.rules.specs.Record.{Record}
use Rattle.rules.specs.Meaning.{Known, number, word, Saying, lists}
use Rattle.rules.specs.House.{record_of, write_record}
use Rattle.sam.specs.Tags.{tags_of, tagged, are_tags}

-- SN, LN, M5 and UR
pub record Contig : Type 0 where
  pub id : Bytes
  pub size : ℕ
  pub md5 : Option Bytes
  pub url : Option Bytes

-- LN: decimal digits only, from 1 to 2147483647
abbrev pub size_from : Option (ℕ × Bool) → Option ℕ
size_from (Some (zero, p)) = None
size_from (Some (suc n, p)) = Some (suc n)
size_from None = None

abbrev pub size_read : Option Bytes → Option ℕ
size_read None = None
size_read (Some t) = size_from (integer_read false 2147483647 t)

-- 42: SN or LN missing or out of range; M5 and UR are optional
abbrev pub contig_from : Option Bytes → Option ℕ → Option Bytes → Option Bytes → Answer Contig
contig_from None n m5 ur = refuse 42
contig_from (Some sn) None m5 ur = refuse 42
contig_from (Some sn) (Some n) m5 ur = ok (record { id = sn; size = n; md5 = m5; url = ur })

unfoldable pub contig_of : List Bytes → Answer Contig
contig_of ts = contig_from (tagged (ascii "SN") ts) (size_read (tagged (ascii "LN") ts)) (tagged (ascii "M5") ts) (tagged (ascii "UR") ts)

-- an `@SQ` line with these tags: 2, 3, 41, then 42
unfoldable pub read_sequence : Bytes → List Bytes → Answer Contig
read_sequence l ts = judged (first (unless (leb (length l) limits.line) 2 ∷ unless (is_utf8 l) 3 ∷ unless (are_tags ts) 41 ∷ [])) ts >>= contig_of

abbrev pub ids : List Contig → List Bytes
ids cs = map (λ (c : Contig). c.id) cs

-- 43: SN twice, byte for byte
abbrev pub add_contig : List Contig → Contig → Answer (List Contig)
add_contig cs c = judged (unless (not (is_in c.id (ids cs))) 43) (cs ++ c ∷ [])

-- one more line; every line but an `@SQ` line is skipped unread
unfoldable pub read_line : List Contig → Bytes → Answer (List Contig)
read_line cs l = elim (tags_of l) [ None ↦ ok cs | Some ts ↦ read_sequence l ts >>= add_contig cs ]

-- number, 0 if accepted; line from 1; start; the contigs in file order, none if refused
pub record Contigs : Type 0 where
  pub number : ℕ
  pub line : ℕ
  pub start : ℕ
  pub contigs : List Contig

abbrev pub refused : ℕ → ℕ → ℕ → Contigs
refused m line start = record { number = m; line = line; start = start; contigs = [] }

-- the pieces after n lines, `start` bytes and these contigs
unfoldable pub read_lines : ℕ → ℕ → List Contig → List Bytes → Contigs
read_lines n start cs [] = record { number = 0; line = n; start = start; contigs = cs }
read_lines n start cs (p ∷ ps) = elim (read_line cs (line_of p)) [
  | refuse m ↦ refused m (suc n) start
  | ok ds ↦ read_lines (suc n) (start + length p) ds ps
]

unfoldable pub read_contigs : Bytes → Contigs
read_contigs sam = read_lines 0 0 [] (pieces sam)

abbrev pub word_of : Option Bytes → Option Known
word_of None = None
word_of (Some t) = Some (word t)

-- a contig line has ID, length, md5 and URL, and no IDX
abbrev pub contig_says : Contig → Saying
contig_says c = lists 0 (Some (word c.id) ∷ Some (number c.size) ∷ word_of c.md5 ∷ word_of c.url ∷ None ∷ []) []

-- in house form
unfoldable pub contig_record : Contig → Record
contig_record c = record_of v4_5 (ascii "contig") (contig_says c)

abbrev pub contig_line : Contig → Bytes
contig_line c = write_record (contig_record c)

unfoldable pub contig_lines : List Contig → Bytes
contig_lines cs = write_lines (map (λ (c : Contig). contig_line c) cs)

-- 28 at the end: the lines are longer than the output, which has `room` bytes
unfoldable pub contigs_fitting : ℕ → Bytes → Contigs
contigs_fitting room sam = elim (leb (length (contig_lines (read_contigs sam).contigs)) room) [
  | true ↦ read_contigs sam
  | false ↦ refused 28 0 0
]
