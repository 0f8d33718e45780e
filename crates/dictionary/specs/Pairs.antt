-- The pairs of a dictionary, as the code counts and writes them. Assumes nothing.
use Rattle.std.specs.Prelude.{ℕ, ◌+◌, ◌*◌, ◌/◌, ◌^◌, ◌<◌, ◌≤◌, ◌≡◌, Bool, true, false, List, [], ◌∷◌, ltb, length, Option, Some, None}
use Rattle.std.proofs.lemmas.List.Edits.{sets}
use Rattle.values.specs.Bytes.{Bytes}
use Rattle.entries.specs.declared.form.Form.{Form}
use Rattle.dictionary.specs.Dictionary.{Line, any_of, carries, lacks, first_lines, dictionary_clash, pairs}
use Rattle.dictionary.specs.Lines.{table_lines, lines_before}
use Rattle.dictionary.specs.declared.line.Dictionary.{Dictionary}
use Rattle.dictionary.specs.declared.line.Dictionary.TheVariants.{Strings, Contigs}
use Rattle.dictionary.specs.declared.place.Placed.{Placed}
use Rattle.dictionary.specs.declared.place.Placed.TheVariants as place
use Rattle.dictionary.specs.declared.numbering.Carried.{Carried}
use Rattle.dictionary.specs.declared.numbering.Count.{Count}

abbrev pub carried_by : List Line → Carried
carried_by ls = record { given = any_of carries ls; missing = any_of lacks ls; lines = length ls }

-- the lines are all among the first n entries
pub record EndsLines (form : Form) (t : List ℕ) (n : ℕ) : Type 0 where
  pub is : (d : Dictionary) (h : Bytes) → lines_before d form h t n ≡ table_lines d form h t

-- the pair of this number is written, if there is room for it
unfoldable pub put_pair : List ℕ → ℕ → ℕ → ℕ → List ℕ
put_pair out pair entry number = elim (ltb pair (length out / 2)) [ true ↦ sets out (2 * pair) (entry ∷ number ∷ []) | false ↦ out ]

-- the number of the first ID that is not implied
abbrev pub first_number : Dictionary → ℕ
first_number Strings = 1
first_number Contigs = 0

-- the counts of fewer lines than any number has
pub record Counts (c : Count) : Type 0 where
  pub pairs_small : c.pairs < 2 ^ 63
  pub next_small : c.next < 2 ^ 63

-- what the place of a line does to the counts and to the pairs
abbrev pub turn_of : Count → Placed → Option Count
turn_of c (place.Numbered n) = Some (record { pairs = c.pairs + 1; next = c.next })
turn_of c place.Due = Some (record { pairs = c.pairs + 1; next = c.next + 1 })
turn_of c place.Again = Some (record { pairs = c.pairs; next = c.next })
turn_of c place.Clash = None

abbrev pub turn_out : List ℕ → ℕ → Count → Placed → List ℕ
turn_out out entry c (place.Numbered n) = put_pair out c.pairs entry n
turn_out out entry c place.Due = put_pair out c.pairs entry c.next
turn_out out entry c place.Again = out
turn_out out entry c place.Clash = out

-- all lines carry IDX, or none does
abbrev pub Uniform : Bool → List Line → Type 0
Uniform true ls = any_of lacks ls ≡ false
Uniform false ls = any_of carries ls ≡ false

abbrev pub count_or_none : Bool → ℕ → Option ℕ
count_or_none true n = None
count_or_none false n = Some n

unfoldable pub numbering_of : Dictionary → List Line → Option ℕ
numbering_of d ls = count_or_none (dictionary_clash d ls) (length (first_lines [] ls))

-- the lines were counted, and the pairs written where they have room
pub record NumbersLines (d : Dictionary) (indexed : Bool) (ls : List Line) (out : List ℕ) (r : Option ℕ) (out' : List ℕ) : Type 0 where
  pub is : Uniform indexed ls → r ≡ numbering_of d ls
  pub output : Uniform indexed ls → dictionary_clash d ls ≡ false → length (pairs d ls) ≤ length out → out' ≡ sets out 0 (pairs d ls)
