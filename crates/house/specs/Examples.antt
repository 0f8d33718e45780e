-- Document 02, §13: verdicts of every sort, computed by the checker. Assumes nothing.
use Rattle.std.specs.Prelude.{ℕ, ◌≡◌, refl, Bool, true, false, [], ◌∷◌, ◌++◌, map, None}
use Rattle.values.specs.Bytes.{Bytes, ascii}
use Rattle.values.specs.Hash.{wide_step, wide_from}
use Rattle.rules.specs.Sizes.{Limits, limits}
use Rattle.rules.specs.Examples.{opened as rules}
use Rattle.house.specs.Links.{slot_of, cell_of}
use Rattle.house.specs.IsHouse.{first_difference, IsHouse, is_house}

unfoldable pub opened : Unit {0}
unfolding rules first_difference is_house
opened = tt

-- the same text, a byte that differs, a text that ends, no text
differences : map (λ (t : Bytes). first_difference (ascii "abc") t) (ascii "abc" ∷ ascii "abd" ∷ ascii "ab" ∷ ascii "abcd" ∷ ascii "b" ∷ [] ∷ [])
    ≡ 3 ∷ 2 ∷ 2 ∷ 3 ∷ 0 ∷ 0 ∷ []
unfolding opened
differences = refl

-- number, line, start, the verdict and the place
abbrev pub Answer : Type 0
Answer = ℕ × ℕ × ℕ × Bool × ℕ

abbrev pub answer : IsHouse → Answer
answer r = (r.number, r.line, r.start, r.holds, r.place)

abbrev pub asked : Bytes → Answer
asked h = answer (is_house limits None 64 h)

abbrev pub columns : Bytes
columns = ascii "#CHROM\tPOS\tID\tREF\tALT\tQUAL\tFILTER\tINFO"

-- a header of one line between the first and the column line, whose ending is `end`
abbrev pub header : Bytes → Bytes → Bytes
header line end = ascii "##fileformat=VCFv4.3\n" ++ (line ++ (ascii "\n" ++ (columns ++ end)))

verdicts : map (λ (h : Bytes). asked h) (
    header (ascii "##cell=<ID=W07,K=0.98>") (ascii "\n")
    ∷ header (ascii "##cell=<K=0.98,ID=W07>") (ascii "\n")
    ∷ header (ascii "##cell=<ID=W07,K=0.98>") []
    ∷ header (ascii "##cell=<ID=W07,K=0.98>") (ascii "\r\n")
    ∷ header (ascii "##contig=<ID=a,length=05>") (ascii "\n")
    ∷ header (ascii "x") (ascii "\n")
    ∷ []
    ) ≡ (0, 3, 83, true, 0) ∷ (0, 3, 83, false, 29) ∷ (0, 3, 82, false, 82) ∷ (0, 3, 84, false, 82) ∷ (0, 3, 86, false, 43) ∷ (6, 2, 21, false, 0) ∷ []
unfolding opened
verdicts = refl

-- a form that is longer than a header may be, or that has a line that is, whatever differs before
abbrev pub few : Limits
few = record { header = 90; line = 60; counted = false }

refusals : map (λ (h : Bytes). answer (is_house few None 64 h)) (
    header (ascii "##ALT=<ID=x,Description=aaaaa>") []
    ∷ header (ascii "##ALT=<ID=x,Description=>") (ascii "\n")
    ∷ []
    ) ≡ (27, 0, 0, false, 0) ∷ (0, 3, 86, false, 45) ∷ []
unfolding opened
refusals = refl

-- where links are kept that are more than there is room for
remainders : map (cell_of 3) (1 ∷ 2 ∷ 3 ∷ 7 ∷ []) ≡ 1 ∷ 2 ∷ 0 ∷ 1 ∷ []
unfolding cell_of
remainders = refl

-- a key's slot among 8, by its hash
slotted : slot_of 8 (ascii "##cell=") ≡ 5
unfolding slot_of wide_step wide_from
slotted = refl
