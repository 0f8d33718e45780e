-- Document 02, §9: dictionaries that the checker computes, every refusal among them. Assumes nothing.
use Rattle.std.specs.Prelude.{ℕ, ◌≡◌, refl, List, [], ◌∷◌, ◌++◌, map, None, Some}
use Prim.Native.String.{String}
use Rattle.values.specs.Bytes.{Bytes, ascii}
use Rattle.values.specs.Hash.{wide_step, wide_from}
use Rattle.rules.specs.Sizes.{limits}
use Rattle.rules.specs.Examples.{opened}
use Rattle.dictionary.specs.Dictionary.{Line, lines_of, any_of, first_lines, place, id_number, clashed, dictionary_clash, pair_words, pairs, refusal, numbering, dictionaries}
use Rattle.dictionary.specs.Slots.{idx_first, is_named, is_numbered, slot_by, id_hash, number_hash, id_slot, number_slot}

-- Lines, by their ID and what stands after the required fields

abbrev pub filter : String → String → Bytes
filter id more = ascii "##FILTER=<ID=" ++ ascii id ++ ascii ",Description=x" ++ ascii more ++ ascii ">\n"

abbrev pub info : String → String → Bytes
info id more = ascii "##INFO=<ID=" ++ ascii id ++ ascii ",Number=1,Type=Integer,Description=x" ++ ascii more ++ ascii ">\n"

abbrev pub format : String → String → Bytes
format id more = ascii "##FORMAT=<ID=" ++ ascii id ++ ascii ",Number=1,Type=Integer,Description=x" ++ ascii more ++ ascii ">\n"

abbrev pub contig : String → String → Bytes
contig id more = ascii "##contig=<ID=" ++ ascii id ++ ascii more ++ ascii ">\n"

-- the lines between the fileformat line and the column line
abbrev pub header : List Bytes → Bytes
header [] = ascii "#CHROM\tPOS\tID\tREF\tALT\tQUAL\tFILTER\tINFO\n"
header (l ∷ ls) = l ++ header ls

-- the words that there are for strings and contigs, and the lines
abbrev pub Case : Type 0
Case = ℕ × (ℕ × List Bytes)

-- number, strings and contigs
abbrev pub Answer : Type 0
Answer = ℕ × (List ℕ × List ℕ)

abbrev pub answer : Case → Answer
answer c =
    let d = dictionaries limits None 64 c.0 c.1.0 (ascii "##fileformat=VCFv4.3\n" ++ header c.1.1) in
    (d.number, (d.strings, d.contigs))

-- what the definitions need to compute
unfoldable pub numbered : Unit {0}
unfolding opened lines_of any_of first_lines place id_number clashed dictionary_clash pair_words pairs refusal numbering dictionaries
numbered = tt

abbrev pub refused : ℕ → Answer
refused n = (n, ([], []))

abbrev pub accepted : List ℕ → List ℕ → Answer
accepted s c = (0, (s, c))

-- slices with room for all
abbrev pub roomy : List Bytes → Case
roomy ls = (64, (64, ls))

abbrev pub cases : List (Case × Answer)
cases =
    -- PASS unwritten; one ID in two kinds; contigs from 0, and PASS is one like others
    (roomy (filter "q" "" ∷ contig "c1" "" ∷ info "DP" "" ∷ format "\"q\"" "" ∷ contig "PASS" "" ∷ []), accepted (1 ∷ 1 ∷ 3 ∷ 2 ∷ []) (2 ∷ 0 ∷ 5 ∷ 1 ∷ []))
    -- PASS first, and last
    ∷ (roomy (filter "PASS" "" ∷ filter "q" "" ∷ info "DP" "" ∷ []), accepted (1 ∷ 0 ∷ 2 ∷ 1 ∷ 3 ∷ 2 ∷ []) [])
    ∷ (roomy (filter "q" "" ∷ info "DP" "" ∷ filter "PASS" "" ∷ []), accepted (1 ∷ 1 ∷ 2 ∷ 2 ∷ 3 ∷ 0 ∷ []) [])
    -- IDX on all, out of order, with a gap and up to the largest; one ID with one IDX in two kinds
    ∷ (
      roomy (filter "q" ",IDX=7" ∷ filter "PASS" ",IDX=0" ∷ info "DP" ",IDX=18446744073709551615" ∷ format "q" ",IDX=+007" ∷ []),
      accepted (1 ∷ 7 ∷ 2 ∷ 0 ∷ 3 ∷ 18446744073709551615 ∷ []) [],
    )
    ∷ (roomy (contig "a" ",IDX=3" ∷ contig "b" ",IDX=0" ∷ []), accepted [] (1 ∷ 3 ∷ 2 ∷ 0 ∷ []))
    -- 34: IDX on some lines only; it comes before 35 of the other dictionary
    ∷ (roomy (filter "PASS" ",IDX=0" ∷ filter "q" "" ∷ []), refused 34)
    ∷ (roomy (filter "q" ",IDX=0" ∷ contig "a" ",IDX=1" ∷ contig "b" "" ∷ []), refused 34)
    -- 35: one ID with two numbers, one number for two IDs, PASS with another number, 0 for another string; it comes before 36
    ∷ (roomy (filter "q" ",IDX=1" ∷ info "q" ",IDX=2" ∷ []), refused 35)
    ∷ (roomy (filter "q" ",IDX=1" ∷ filter "r" ",IDX=1" ∷ []), refused 35)
    ∷ (roomy (contig "a" ",IDX=1" ∷ contig "b" ",IDX=1" ∷ []), refused 35)
    ∷ (roomy (filter "PASS" ",IDX=1" ∷ []), refused 35)
    ∷ ((0, (0, filter "q" ",IDX=0" ∷ [])), refused 35)
    -- 36: a slice too small by one word
    ∷ ((3, (2, filter "q" "" ∷ filter "r" "" ∷ contig "a" "" ∷ [])), refused 36)
    ∷ ((4, (1, filter "q" "" ∷ filter "r" "" ∷ contig "a" "" ∷ [])), refused 36)
    ∷ ((4, (2, filter "q" "" ∷ filter "r" "" ∷ contig "a" "" ∷ [])), accepted (1 ∷ 1 ∷ 2 ∷ 2 ∷ []) (3 ∷ 0 ∷ []))
    ∷ []

computed : map (λ (c : Case × Answer). answer c.0) cases ≡ map (λ (c : Case × Answer). c.1) cases
unfolding numbered
computed = refl

-- of 1,024 slots: numbers below a sixteenth of them have their own, and numbers that are 65,536 apart do not share one
number_slots : map (number_slot 1024) (0 ∷ 63 ∷ 64 ∷ 65536 ∷ 131072 ∷ []) ≡ (0 ∷ 63 ∷ 573 ∷ 981 ∷ 953 ∷ [])
unfolding slot_by number_slot number_hash wide_step
number_slots = refl

id_slots : (id_slot 1024 (ascii "DP") ∷ id_slot 1024 (ascii "AF") ∷ id_slot 0 (ascii "DP") ∷ []) ≡ (863 ∷ 29 ∷ 0 ∷ [])
unfolding slot_by id_slot id_hash wide_step wide_from
id_slots = refl

-- the IDX of the first line of an ID, or of a number
abbrev pub lines : List Line
lines = record { entry = 1; id = ascii "q"; idx = Some 7 } ∷ record { entry = 2; id = ascii "DP"; idx = Some 2 } ∷ record { entry = 4; id = ascii "q"; idx = Some 2 } ∷ []

firsts : (idx_first (is_named (ascii "q")) lines ∷ idx_first (is_named (ascii "r")) lines ∷ idx_first (is_numbered 2) lines ∷ idx_first (is_numbered 3) lines ∷ [])
    ≡ (Some (Some 7) ∷ None ∷ Some (Some 2) ∷ None ∷ [])
unfolding opened idx_first
firsts = refl
