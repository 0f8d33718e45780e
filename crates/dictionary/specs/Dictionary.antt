-- Document 02, §9: the two dictionaries of BCF, from the records of an accepted header. Assumes nothing.
use Rattle.std.specs.Prelude.{ℕ, zero, suc, ◌+◌, Bool, true, false, not, ◌||◌, ◌&&◌, List, [], ◌∷◌, ◌++◌, map, eqb, leb, length, Option, None, Some}
use Rattle.values.specs.Bytes.{Bytes, ascii, same}
use Rattle.values.specs.Integer.{u64_read}
use Rattle.values.specs.Value.{meaning_of}
use Rattle.values.specs.Field.{Field}
use Rattle.rules.specs.Answer.{unless, first}
use Rattle.rules.specs.Sizes.{Limits}
use Rattle.rules.specs.Version.{Version}
use Rattle.rules.specs.Known.{Kind, INFO, FILTER, FORMAT, ALT, contig, other, kind_of, is_in}
use Rattle.rules.specs.Map.{field_named, is_some}
use Rattle.rules.specs.Record.{Record, fileformat, fields, text}
use Rattle.rules.specs.Reading.{id_of, State, empty, ready, done, Reading, reading}
use Rattle.dictionary.specs.declared.line.Dictionary.{Dictionary}
use Rattle.dictionary.specs.declared.line.Dictionary.TheVariants.{Strings, Contigs}

-- FILTER, INFO and FORMAT share one dictionary, contigs have another
abbrev pub belongs : Dictionary → Kind → Bool
belongs Strings INFO = true
belongs Strings FILTER = true
belongs Strings FORMAT = true
belongs Strings ALT = false
belongs Strings contig = false
belongs Strings other = false
belongs Contigs INFO = false
belongs Contigs FILTER = false
belongs Contigs FORMAT = false
belongs Contigs ALT = false
belongs Contigs contig = true
belongs Contigs other = false

-- a line of a dictionary: the number of its entry, its ID by meaning, and the IDX that it carries
pub record Line : Type 0 where
  pub entry : ℕ
  pub id : Bytes
  pub idx : Option ℕ

abbrev pub integer_in : Option (ℕ × Bool) → Option ℕ
integer_in (Some (n, plain)) = Some n
integer_in None = None

abbrev pub idx_of : Option Field → Option ℕ
idx_of None = None
idx_of (Some f) = integer_in (u64_read (meaning_of f.value))

abbrev pub idx_in : Version → Record → Option ℕ
idx_in v (fileformat w) = None
idx_in v (fields k fs) = idx_of (field_named v k (ascii "IDX") fs)
idx_in v (text k t) = None

abbrev pub is_of : Dictionary → Record → Bool
is_of d (fileformat v) = false
is_of d (fields k fs) = belongs d (kind_of k)
is_of d (text k t) = false

abbrev pub line_if : Bool → Line → List Line → List Line
line_if true l ls = l ∷ ls
line_if false l ls = ls

-- the lines of a dictionary, in table order; n is the number of the first record's entry
unfoldable pub lines_of : Dictionary → Version → ℕ → List Record → List Line
lines_of d v n [] = []
lines_of d v n (r ∷ rs) = line_if (is_of d r) (record { entry = n; id = id_of v r; idx = idx_in v r }) (lines_of d v (n + 1) rs)

-- one of these passes the test
unfoldable pub any_of : {A : Type 0} → (A → Bool) → List A → Bool
any_of t [] = false
any_of t (x ∷ xs) = t x || any_of t xs

abbrev pub carries : Line → Bool
carries l = is_some l.idx

abbrev pub lacks : Line → Bool
lacks l = not (is_some l.idx)

-- 34: IDX on some lines only
abbrev pub mixed_idx : List Line → Bool
mixed_idx ls = any_of carries ls && any_of lacks ls

-- PASS is the first string, written or not
abbrev pub implied : Dictionary → List Bytes
implied Strings = ascii "PASS" ∷ []
implied Contigs = []

-- the first line of each ID that is not among `seen`
unfoldable pub first_lines : List Bytes → List Line → List Line
first_lines seen [] = []
first_lines seen (l ∷ ls) = line_if (not (is_in l.id seen)) l (first_lines (l.id ∷ seen) ls)

-- the IDs of a dictionary, each once, by first appearance
abbrev pub ids_of : Dictionary → List Line → List Bytes
ids_of d ls = implied d ++ map (λ (l : Line). l.id) (first_lines (implied d) ls)

-- where an ID stands among these, from 0
unfoldable pub place : Bytes → List Bytes → ℕ
place x [] = 0
place x (y ∷ ys) = elim (same y x) [ true ↦ 0 | false ↦ suc (place x ys) ]

-- the number of a line's ID: the IDX, or else its place
abbrev pub placed_by : ℕ → Option ℕ → ℕ
placed_by p None = p
placed_by p (Some n) = n

unfoldable pub id_number : Dictionary → List Line → Line → ℕ
id_number d ls l = placed_by (place l.id (ids_of d ls)) l.idx

-- an ID and a number
abbrev pub Numbered : Type 0
Numbered = Bytes × ℕ

-- PASS is 0
abbrev pub implied_numbers : Dictionary → List Numbered
implied_numbers Strings = (ascii "PASS", 0) ∷ []
implied_numbers Contigs = []

abbrev pub differ : Bool → Bool → Bool
differ true b = not b
differ false b = b

-- one ID with two numbers, or one number for two IDs
abbrev pub clashes : Numbered → Numbered → Bool
clashes p q = differ (same p.0 q.0) (eqb p.1 q.1)

-- one of these clashes with one of `seen`, or with one before it
unfoldable pub clashed : List Numbered → List Numbered → Bool
clashed seen [] = false
clashed seen (p ∷ ps) = any_of (clashes p) seen || clashed (p ∷ seen) ps

abbrev pub numbered_lines : Dictionary → List Line → List Line → List Numbered
numbered_lines d ls ms = map (λ (l : Line). (l.id, id_number d ls l)) ms

-- 35
unfoldable pub dictionary_clash : Dictionary → List Line → Bool
dictionary_clash d ls = clashed (implied_numbers d) (numbered_lines d ls ls)

-- entry number and ID number, one pair after the other
unfoldable pub pair_words : (Line → ℕ) → List Line → List ℕ
pair_words number [] = []
pair_words number (l ∷ ls) = l.entry ∷ number l ∷ pair_words number ls

-- the whole dictionary: each ID with its number, PASS too where it is unwritten
abbrev pub dictionary : Dictionary → List Line → List Numbered
dictionary d ls = implied_numbers d ++ numbered_lines d ls (first_lines (implied d) ls)

-- the pairs of a dictionary: each ID at its first line, in table order
unfoldable pub pairs : Dictionary → List Line → List ℕ
pairs d ls = pair_words (id_number d ls) (first_lines [] ls)

-- 34 of either dictionary, 35 of either, 36: a slice too small; `s` and `c` are the words that there are for strings and contigs
unfoldable pub refusal : ℕ → ℕ → List Line → List Line → ℕ
refusal s c strings contigs = first (
    unless (not (mixed_idx strings || mixed_idx contigs)) 34
    ∷ unless (not (dictionary_clash Strings strings || dictionary_clash Contigs contigs)) 35
    ∷ unless (leb (length (pairs Strings strings)) s && leb (length (pairs Contigs contigs)) c) 36
    ∷ []
    )

-- what a call answers: number, line and start, and the pairs, none if refused
pub record Dictionaries : Type 0 where
  pub number : ℕ
  pub line : ℕ
  pub start : ℕ
  pub strings : List ℕ
  pub contigs : List ℕ

abbrev pub refused_by : ℕ → ℕ → ℕ → Dictionaries
refused_by n l s = record { number = n; line = l; start = s; strings = []; contigs = [] }

abbrev pub judged_by : ℕ → Dictionaries → Dictionaries
judged_by zero x = x
judged_by (suc n) x = refused_by (suc n) 0 0

-- after an accepted reading; the fileformat line is entry 0
unfoldable pub numbering : ℕ → ℕ → Reading → List Line → List Line → Dictionaries
numbering s c r strings contigs = judged_by (refusal s c strings contigs) (record {
  number = 0;
  line = r.line;
  start = r.start;
  strings = pairs Strings strings;
  contigs = pairs Contigs contigs;
})

abbrev pub dictionaries_of : ℕ → ℕ → Reading → State → Dictionaries
dictionaries_of s c r empty = refused_by r.number r.line r.start
dictionaries_of s c r (ready v rs) = refused_by r.number r.line r.start
dictionaries_of s c r (done v rs x) = elim r.number [
  | zero ↦ numbering s c r (lines_of Strings v 1 rs) (lines_of Contigs v 1 rs)
  | suc n ↦ refused_by r.number r.line r.start
]

-- the call on a header, with a table of so many entries and slices of so many words
unfoldable pub dictionaries : Limits → Option Version → ℕ → ℕ → ℕ → Bytes → Dictionaries
dictionaries lim imposed room s c h = let r = reading lim imposed room h in dictionaries_of s c r r.state
