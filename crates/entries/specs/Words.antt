-- Document 01, "Entries, most significant bit first", and document 02, §5 and §10: how an entry is stored, in two words or three. Assumes nothing.
use Rattle.std.specs.Prelude.{ℕ, ◌+◌, ◌-◌, ◌*◌, ◌/◌, ◌%◌, ◌^◌, Bool, true, false, ◌&&◌, List, [], ◌∷◌, eqb, get_or, take}
use Rattle.std.specs.Int.Bits.{bit_or}
use Rattle.rules.specs.Entry.{Entry}
use Rattle.entries.specs.declared.form.Form.{Form}
use Rattle.entries.specs.declared.form.Form.TheVariants.{First, Second}

-- Numbers side by side in a word, most significant first, each with so many bits

abbrev pub width : List ℕ → ℕ
width [] = 0
width (n ∷ ns) = n + width ns

-- a number too large for its bits loses its upper ones
abbrev pub packed : List ℕ → List ℕ → ℕ
packed [] xs = 0
packed (n ∷ ns) [] = 0
packed (n ∷ ns) (x ∷ xs) = x % 2 ^ n * 2 ^ width ns + packed ns xs

-- the numbers that a word holds
abbrev pub numbers_in : List ℕ → ℕ → List ℕ
numbers_in [] w = []
numbers_in (n ∷ ns) w = w / 2 ^ width ns % 2 ^ n ∷ numbers_in ns w

-- The words of an entry

abbrev pub word_count : Form → ℕ
word_count First = 2
word_count Second = 3

-- kind, start, length, zero
abbrev pub bits_one : Form → List ℕ
bits_one First = 4 ∷ 20 ∷ 16 ∷ 24 ∷ []
bits_one Second = 4 ∷ 24 ∷ 24 ∷ 12 ∷ []

abbrev pub numbers_one : Entry → List ℕ
numbers_one e = e.kind ∷ e.start ∷ e.length ∷ 0 ∷ []

abbrev pub bit : Bool → ℕ
bit true = 1
bit false = 0

-- ID offset in the line, ID length, quoted, ID tag, zero
abbrev pub bits_two : Form → List ℕ
bits_two First = 16 ∷ 16 ∷ 1 ∷ 2 ∷ 29 ∷ []
bits_two Second = 24 ∷ 24 ∷ 1 ∷ 2 ∷ 13 ∷ []

abbrev pub numbers_two : Entry → List ℕ
numbers_two e = e.offset ∷ e.id_length ∷ bit e.quoted ∷ e.tag ∷ 0 ∷ []

-- key length, field count, zero
abbrev pub bits_three : Form → List ℕ
bits_three First = []
bits_three Second = 24 ∷ 24 ∷ 16 ∷ []

abbrev pub numbers_three : Entry → List ℕ
numbers_three e = e.key_length ∷ e.field_count ∷ 0 ∷ []

unfoldable pub word_one : Form → Entry → ℕ
word_one form e = packed (bits_one form) (numbers_one e)

unfoldable pub word_two : Form → Entry → ℕ
word_two form e = packed (bits_two form) (numbers_two e)

unfoldable pub word_three : Form → Entry → ℕ
word_three form e = packed (bits_three form) (numbers_three e)

abbrev pub words_of : Form → Entry → List ℕ
words_of form e = take (word_count form) (word_one form e ∷ word_two form e ∷ word_three form e ∷ [])

-- the entry that the numbers of its words tell
abbrev pub told : List ℕ → List ℕ → List ℕ → Entry
told ns ms ks = record {
  kind = get_or ns 0 0;
  start = get_or ns 1 0;
  length = get_or ns 2 0;
  offset = get_or ms 0 0;
  id_length = get_or ms 1 0;
  quoted = eqb (get_or ms 2 0) 1;
  tag = get_or ms 3 0;
  key_length = get_or ks 0 0;
  field_count = get_or ks 1 0;
}

-- the entry that these words hold
unfoldable pub unpacked : Form → List ℕ → Entry
unpacked form ws = told (numbers_in (bits_one form) (get_or ws 0 0)) (numbers_in (bits_two form) (get_or ws 1 0)) (numbers_in (bits_three form) (get_or ws 2 0))

-- the bits that no number has are 0
unfoldable pub is_clear : Form → List ℕ → Bool
is_clear form ws =
    eqb (get_or (numbers_in (bits_one form) (get_or ws 0 0)) 3 0) 0
    && (eqb (get_or (numbers_in (bits_two form) (get_or ws 1 0)) 4 0) 0 && eqb (get_or (numbers_in (bits_three form) (get_or ws 2 0)) 2 0) 0)

-- Many entries of the first form at once

-- the bits that are 0 in an entry without a tag
unfoldable pub strays : ℕ → ℕ → ℕ
strays w x = bit_or (w % 2 ^ 24) (x % 2 ^ 31)

-- the kind is below 8, the line ends early enough, the ID lies in the line, and the kind is 2 or more: each where a number is below 2 ^ 63
unfoldable pub excess : ℕ → ℕ → ℕ → ℕ
excess room w x =
    bit_or (bit_or (bit_or w (w / 2 ^ 40 % 2 ^ 20 + w / 2 ^ 24 % 2 ^ 16 + room)) (x / 2 ^ 48 % 2 ^ 16 + x / 2 ^ 32 % 2 ^ 16 + (2 ^ 63 - 1) - w / 2 ^ 24 % 2 ^ 16)) (2 ^ 63 + 2 ^ 61 - 1 - w % 2 ^ 63)
