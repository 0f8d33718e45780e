-- What the code finds in an `@SQ` line and in the lines before it. Bytes by their numbers: `,` 44, `0` 48, `A` 65. Assumes nothing.
use Rattle.std.specs.Prelude.{ℕ, ◌+◌, ◌-◌, ◌*◌, ◌≡◌, Bool, true, false, not, ◌&&◌, List, [], ◌∷◌, ◌++◌, leb, length, get_or, drop, Option, None, Some, Result, Ok, Err}
use Rattle.values.specs.Bytes.{Bytes, ascii}
use Rattle.values.specs.Integer.{integer_read, decimal}
use Rattle.values.specs.Field.{written_field}
use Rattle.values.specs.Hash.{wide_basis, wide_step, wide_from}
use Rattle.values.specs.Marks.{is_met, meet}
use Rattle.rules.specs.Answer.{Answer, ok, refuse, ◌>>=◌, unless, judged}
use Rattle.rules.specs.Lines.{pieces, line_of}
use Rattle.rules.specs.Known.{is_in}
use Rattle.rules.specs.Columns.{split}
use Rattle.forms.specs.Forms.{field_by}
use Rattle.sam.specs.Tags.{tags_of, tagged}
use Rattle.sam.specs.Contigs.{Contig, read_sequence}
use Rattle.sam.specs.declared.refusal.SamRefusal.{SamRefusal}
use Rattle.sam.specs.declared.refusal.SamRefusal.TheVariants.{LineTooLong, InvalidUtf8, InvalidTag, InvalidSequence, DuplicateSequence, OutputTooSmall}

-- the number of documents 01 and 02 for each case
abbrev pub sam_number : SamRefusal → ℕ
sam_number LineTooLong = 2
sam_number InvalidUtf8 = 3
sam_number InvalidTag = 41
sam_number InvalidSequence = 42
sam_number DuplicateSequence = 43
sam_number OutputTooSmall = 28

-- the tags that stand at a place of the line, tab-parted; the tags of an `@SQ` line stand at 4
unfoldable pub tags_at : Bytes → ℕ → List Bytes
tags_at l at = elim (leb at (length l)) [ true ↦ split (drop at l) | false ↦ [] ]

-- a number of its own for each name that a tag can have
unfoldable pub name_number : Bytes → ℕ
name_number t = (get_or t 0 0 - 65) * 75 + (get_or t 1 0 - 48)

abbrev pub or_nothing : Option Bytes → Bytes
or_nothing None = []
or_nothing (Some t) = t

-- a value that is there: a tag's has one byte or more
abbrev pub given : Bytes → Option Bytes
given [] = None
given (b ∷ bs) = Some (b ∷ bs)

-- the value of the tag of this name, no bytes if there is none
unfoldable pub value_in : Bytes → Bytes → Bytes
value_in name l = or_nothing (tagged name (tags_at l 4))

unfoldable pub size_in : Bytes → Option (ℕ × Bool)
size_in l = integer_read false 2147483647 (value_in (ascii "LN") l)

-- the contig of an `@SQ` line whose LN is n
unfoldable pub contig_in : Bytes → ℕ → Contig
contig_in l n = record { id = value_in (ascii "SN") l; size = n; md5 = given (value_in (ascii "M5") l); url = given (value_in (ascii "UR") l) }

abbrev pub sequence_means : Bytes → Result ℕ SamRefusal → Answer Contig
sequence_means l (Ok n) = ok (contig_in l n)
sequence_means l (Err x) = refuse (sam_number x)

-- the SN of each `@SQ` line
unfoldable pub names : List Bytes → List Bytes
names [] = []
names (p ∷ ps) = elim (tags_of (line_of p)) [ None ↦ names ps | Some ts ↦ or_nothing (tagged (ascii "SN") ts) ∷ names ps ]

abbrev pub names_in : Bytes → List Bytes
names_in sam = names (pieces sam)

abbrev pub name_hash : Bytes → ℕ
name_hash name = wide_from wide_basis name

-- another hash of it
abbrev pub again : Bytes → ℕ
again name = wide_step (name_hash name) 1

-- a hash is marked if this holds
abbrev pub mark_if : Bool → List ℕ → ℕ → List ℕ
mark_if true ms hash = meet ms hash
mark_if false ms hash = ms

-- names in turn: each is marked, and put in doubt if it may have been met
unfoldable pub doubts_of : List ℕ → List ℕ → List Bytes → List ℕ
doubts_of ms ds [] = ds
doubts_of ms ds (x ∷ xs) = doubts_of (meet ms (name_hash x)) (mark_if (is_met ms (name_hash x)) ds (name_hash x)) xs

-- a name that stands twice is in doubt
pub record Doubted (sam : Bytes) (ds : List ℕ) : Type 0 where
  pub twice : (xs : List Bytes) (x : Bytes) (ys : List Bytes) → names_in sam ≡ xs ++ x ∷ ys → is_in x xs ≡ true → is_met ds (name_hash x) ≡ true

-- a name in doubt is marked
abbrev pub mark_again : List ℕ → List ℕ → Bytes → List ℕ
mark_again ds ms name = mark_if (is_met ds (name_hash name)) ms (again name)

-- a name is not looked for where the doubts or the marks tell that it isn't there
unfoldable pub is_repeated : Bytes → List ℕ → List ℕ → Bytes → Bool
is_repeated earlier ds ms name = is_met ds (name_hash name) && (is_met ms (again name) && is_in name (names_in earlier))

-- an `@SQ` line was read, held against the earlier ones, and its SN was marked
pub record ReadsNamed (earlier : Bytes) (ds ms : List ℕ) (l : Bytes) (r : Result ℕ SamRefusal) (ms' : List ℕ) : Type 0 where
  pub alone : (s : Result ℕ SamRefusal) × (sequence_means l s ≡ read_sequence l (tags_at l 4))
  pub is : sequence_means l r ≡ (read_sequence l (tags_at l 4) >>= λ c. judged (unless (not (is_repeated earlier ds ms c.id)) 43) c)
  pub marks : (n : ℕ) → r ≡ Ok n → ms' ≡ mark_again ds ms (value_in (ascii "SN") l)

-- a contig line up to its length
unfoldable pub opened_text : Bytes → ℕ → Bytes
opened_text id n = ascii "##contig=<" ++ (written_field (field_by false (ascii "ID") id) ++ (ascii ",length=" ++ decimal n))

-- a field after a `,`, if there is a value
unfoldable pub optional_text : Bytes → Bytes → Bytes
optional_text key [] = []
optional_text key (b ∷ bs) = 44 ∷ written_field (field_by false key (b ∷ bs))

-- md5 and URL of an `@SQ` line
unfoldable pub optionals_text : Bytes → Bytes
optionals_text l = optional_text (ascii "md5") (value_in (ascii "M5") l) ++ optional_text (ascii "URL") (value_in (ascii "UR") l)
