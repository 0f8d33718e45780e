-- What a dictionary call answers. Assumes nothing.
use Rattle.std.specs.Prelude.{ℕ, ◌/◌, ◌≡◌, Bool, true, false, ◌||◌, ◌&&◌, List, [], leb, length, Option, None, Some, Result, Ok, Err}
use Rattle.std.proofs.lemmas.List.Edits.{sets}
use Rattle.values.specs.Bytes.{Bytes}
use Rattle.rules.specs.Version.{Version}
use Rattle.rules.specs.Reading.{Reading}
use Rattle.records.specs.Formats.{version_of}
use Rattle.records.specs.Refusals.{number}
use Rattle.records.specs.declared.file_format.FileFormat.{FileFormat}
use Rattle.entries.specs.declared.form.Form.{Form}
use Rattle.entries.specs.Values.{limits_by}
use Rattle.entries.specs.Tables.{room, stored}
use Rattle.header.specs.declared.parser.ReadAnswer.{ReadAnswer}
use Rattle.header.specs.Parsers.{accepted_in, read_into}
use Rattle.dictionary.specs.Dictionary.{Line, mixed_idx, first_lines, dictionary_clash, pairs, Dictionaries, dictionaries}
use Rattle.dictionary.specs.Lines.{string_lines, contig_lines}
use Rattle.dictionary.specs.Pairs.{carried_by, Uniform, numbering_of}
use Rattle.dictionary.specs.declared.line.Dictionary.{Dictionary}
use Rattle.dictionary.specs.declared.line.Dictionary.TheVariants.{Strings, Contigs}
use Rattle.dictionary.specs.declared.numbering.Carried.{Carried}
use Rattle.dictionary.specs.declared.string_maps.Judged.{Judged}
use Rattle.dictionary.specs.declared.string_maps.Judged.TheVariants as judged
use Rattle.dictionary.specs.declared.string_maps.DictionaryRefusal.{DictionaryRefusal}
use Rattle.dictionary.specs.declared.string_maps.DictionaryRefusal.TheVariants as outcome
use Rattle.dictionary.specs.declared.string_maps.DictionaryAnswer.{DictionaryAnswer}
use Rattle.rules.specs.Claims.{Sized}

-- document 02's number of an outcome, and of an accepted header the version in force and the number of samples
abbrev pub dictionary_number : Result (FileFormat × ℕ) DictionaryRefusal → ℕ
dictionary_number (Ok (f, n)) = 0
dictionary_number (Err (outcome.Unread x)) = number x
dictionary_number (Err outcome.PartlyIndexed) = 34
dictionary_number (Err outcome.NumberClash) = 35
dictionary_number (Err outcome.SliceTooSmall) = 36

abbrev pub dictionary_says : Result (FileFormat × ℕ) DictionaryRefusal → Option (Version × ℕ)
dictionary_says (Ok (f, n)) = Some (version_of f, n)
dictionary_says (Err (outcome.Unread x)) = None
dictionary_says (Err outcome.PartlyIndexed) = None
dictionary_says (Err outcome.NumberClash) = None
dictionary_says (Err outcome.SliceTooSmall) = None

-- the number, the place, the number of entries, the pairs of strings and of contigs
pub record DictionariesMeaning : Type 0 where
  pub number : ℕ
  pub line : ℕ
  pub start : ℕ
  pub entries : ℕ
  pub strings : ℕ
  pub contigs : ℕ
  pub accepted : Option (Version × ℕ)

abbrev pub dictionary_answer_means : DictionaryAnswer → DictionariesMeaning
dictionary_answer_means a = record {
  number = dictionary_number a.outcome;
  line = a.line;
  start = a.start;
  entries = a.entries;
  strings = a.strings;
  contigs = a.contigs;
  accepted = dictionary_says a.outcome;
}

-- the same of a reading and the dictionaries of what was read
abbrev pub dictionaries_mean : Reading → Dictionaries → DictionariesMeaning
dictionaries_mean r d = record {
  number = d.number;
  line = d.line;
  start = d.start;
  entries = length r.entries;
  strings = length d.strings / 2;
  contigs = length d.contigs / 2;
  accepted = accepted_in d.number r.state;
}

-- what `dictionaries` promises of a call: the version imposed, the header, the table and the slices for strings and contigs; the answer, and what was lent after it
pub record DictionaryCall (form : Form) (imposed : Option Version) (h : Bytes) (t s c : List ℕ) (r : DictionaryAnswer) (t' s' c' : List ℕ) : Type 0 where
  pub answer : dictionary_answer_means r ≡ dictionaries_mean (read_into form imposed t h) (dictionaries (limits_by form) imposed (room form t) (length s) (length c) h)
  pub table : t' ≡ stored form t 0 (read_into form imposed t h).entries
  pub strings : s' ≡ sets s 0 (dictionaries (limits_by form) imposed (room form t) (length s) (length c) h).strings
  pub contigs : c' ≡ sets c 0 (dictionaries (limits_by form) imposed (room form t) (length s) (length c) h).contigs

-- How the code comes to it

-- what becomes of both dictionaries, with slices of so many words
unfoldable pub judged_of : ℕ → ℕ → List Line → List Line → Judged
judged_of s c strings contigs = elim (mixed_idx strings || mixed_idx contigs) [
  | true ↦ judged.PartlyIndexed
  | false ↦ elim (dictionary_clash Strings strings || dictionary_clash Contigs contigs) [
    | true ↦ judged.NumberClash
    | false ↦ elim (leb (length (pairs Strings strings)) s && leb (length (pairs Contigs contigs)) c) [
      | true ↦ judged.Whole (length (first_lines [] strings)) (length (first_lines [] contigs))
      | false ↦ judged.SliceTooSmall
    ]
  ]
]

-- the words that are written
abbrev pub pairs_written : Judged → List ℕ → List ℕ
pairs_written (judged.Whole n m) ws = ws
pairs_written judged.PartlyIndexed ws = []
pairs_written judged.NumberClash ws = []
pairs_written judged.SliceTooSmall ws = []

pub record CountsPairs (d : Dictionary) (indexed : Bool) (ls : List Line) (r : Option ℕ) : Type 0 where
  pub is : Uniform indexed ls → r ≡ numbering_of d ls

-- x and y tell which lines carry IDX
pub record Judges (form : Form) (x y : Carried) (h : Bytes) (t : List ℕ) (s c : ℕ) (r : Judged) : Type 0 where
  pub is : x ≡ carried_by (string_lines form h t) → y ≡ carried_by (contig_lines form h t) → r ≡ judged_of s c (string_lines form h t) (contig_lines form h t)

pub record NumbersBoth (form : Form) (h : Bytes) (t s c : List ℕ) (r : Judged) (s' c' : List ℕ) : Type 0 where
  pub is : r ≡ judged_of (length s) (length c) (string_lines form h t) (contig_lines form h t)
  pub strings_are : s' ≡ sets s 0 (pairs_written r (pairs Strings (string_lines form h t)))
  pub contigs_are : c' ≡ sets c 0 (pairs_written r (pairs Contigs (contig_lines form h t)))

abbrev pub dictionary_refused_as : Result (FileFormat × ℕ) DictionaryRefusal → ℕ → ℕ → ℕ → DictionaryAnswer
dictionary_refused_as x line start entries = record { outcome = x; line = line; start = start; entries = entries; strings = 0; contigs = 0 }

-- after an accepted reading, with the version in force and the number of samples
abbrev pub answer_of : ReadAnswer → FileFormat → ℕ → Judged → DictionaryAnswer
answer_of a f k (judged.Whole n m) = record { outcome = Ok (f, k); line = a.line; start = a.start; entries = a.entries; strings = n; contigs = m }
answer_of a f k judged.PartlyIndexed = dictionary_refused_as (Err outcome.PartlyIndexed) 0 0 a.entries
answer_of a f k judged.NumberClash = dictionary_refused_as (Err outcome.NumberClash) 0 0 a.entries
answer_of a f k judged.SliceTooSmall = dictionary_refused_as (Err outcome.SliceTooSmall) 0 0 a.entries

pub record AnswersBoth (form : Form) (a : ReadAnswer) (f : FileFormat) (k : ℕ) (h : Bytes) (t s c : List ℕ) (r : DictionaryAnswer) (s' c' : List ℕ) : Type 0 where
  pub judgement : Judged
  pub numbers : NumbersBoth form h t s c judgement s' c'
  pub answers : r ≡ answer_of a f k judgement
  pub sized : Sized (version_of f)
