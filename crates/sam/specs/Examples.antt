-- Document 02, §14: what is written of a SAM header, and each refusal, computed by the checker. Assumes nothing.
use Rattle.std.specs.Prelude.{ℕ, ◌≡◌, refl, true, false, [], ◌∷◌, ◌++◌, map, length}
use Prim.Native.String.{String}
use Rattle.values.specs.Bytes.{Bytes, ascii}
use Rattle.rules.specs.Examples.{opened as rules}
use Rattle.sam.specs.Tags.{tags_of, is_letter, is_letter_or_digit, is_tag, tagged, are_tags}
use Rattle.sam.specs.Contigs.{Contigs, contig_of, read_sequence, read_line, read_lines, read_contigs, contig_record, contig_lines, contigs_fitting}

unfoldable pub opened : Unit {0}
unfolding rules tags_of is_letter is_letter_or_digit is_tag tagged are_tags contig_of read_sequence read_line read_lines read_contigs contig_record contig_lines contigs_fitting
opened = tt

-- number, line, start, how many contigs, and the lines
abbrev pub Answer : Type 0
Answer = ℕ × ℕ × ℕ × ℕ × Bytes

abbrev pub answer : Contigs → Answer
answer r = (r.number, r.line, r.start, length r.contigs, contig_lines r.contigs)

abbrev pub asked : Bytes → Answer
asked sam = answer (contigs_fitting 1000 sam)

abbrev pub sam : Bytes
sam = ascii "@HD\tVN:1.6\n@SQ\tSN:chr1\tLN:248956422\n@CO\tSN:chr1\n@SQ\tUR:f.fa\tLN:007\tM5:d3\tAS:x\tSN:HLA:a,b\r\n"

-- other lines and tags are skipped; the fields stand in the form's order; a value with `,` is quoted
whole : asked sam ≡ (0, 4, length sam, 2, ascii "##contig=<ID=chr1,length=248956422>\n##contig=<ID=\"HLA:a,b\",length=7,md5=d3,URL=f.fa>\n")
unfolding opened
whole = refl

tags : map (λ (s : String). is_tag (ascii s)) ("SN:x" ∷ "x1:y" ∷ "S:xy" ∷ "1S:x" ∷ "S-:x" ∷ "SN=x" ∷ "SN:" ∷ "SN" ∷ "" ∷ [])
    ≡ true ∷ true ∷ false ∷ false ∷ false ∷ false ∷ false ∷ false ∷ false ∷ []
unfolding opened
tags = refl

-- the number of the answer to one line
abbrev pub number : String → ℕ
number s = (contigs_fitting 1000 (ascii s)).number

-- 41: a tag twice, skipped ones too, or none after a tab; 42: SN or LN missing or out of range
refusals : map (λ (s : String). number s) (
    "@SQ\tSN:a\tLN:1\tSN:b"
    ∷ "@SQ\tSN:a\tLN:0\tAS:x\tAS:y"
    ∷ "@SQ\t"
    ∷ "@SQ"
    ∷ "@SQ\tLN:1"
    ∷ "@SQ\tSN:a"
    ∷ "@SQ\tSN:a\tLN:0"
    ∷ "@SQ\tSN:a\tLN:2147483647"
    ∷ "@SQ\tSN:a\tLN:2147483648"
    ∷ "@SQ\tSN:a\tLN:+1"
    ∷ "@SQ\r\n"
    ∷ "@SQ\r"
    ∷ "@SQX\tSN"
    ∷ " @SQ\tSN"
    ∷ ""
    ∷ []
    ) ≡ 41 ∷ 41 ∷ 41 ∷ 42 ∷ 42 ∷ 42 ∷ 42 ∷ 0 ∷ 42 ∷ 42 ∷ 42 ∷ 0 ∷ 0 ∷ 0 ∷ 0 ∷ []
unfolding opened
refusals = refl

-- 3 before 41, and 43 by line: the place is the line's
twice : asked (ascii "@CO\n@SQ\tSN:a\tLN:1\n@SQ\tSN:b\tLN:1\n@SQ\tLN:2\tSN:a\n@SQ\n") ≡ (43, 4, 32, 0, [])
unfolding opened
twice = refl

bytes : asked (ascii "@CO" ++ (255 ∷ ascii "\n@SQ\tS" ++ (255 ∷ []))) ≡ (3, 2, 5, 0, [])
unfolding opened
bytes = refl

-- 28: one byte short; then all of it
short : map (λ (n : ℕ). answer (contigs_fitting n (ascii "@SQ\tSN:a\tLN:1\n"))) (24 ∷ 25 ∷ []) ≡ (28, 0, 0, 0, []) ∷ (0, 1, 14, 1, ascii "##contig=<ID=a,length=1>\n") ∷ []
unfolding opened
short = refl
