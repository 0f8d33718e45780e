-- Document 01, "Refusal numbers": for each number the smallest header that is refused by it, with its place, computed by the checker. Assumes nothing.
use Rattle.std.specs.Prelude.{ℕ, ◌≡◌, refl, Bool, true, false, List, [], ◌∷◌, ◌++◌, map, None}
use Prim.Native.String.{String}
use Rattle.values.specs.Bytes.{Bytes, ascii, same}
use Rattle.rules.specs.Sizes.{Limits, limits}
use Rattle.rules.specs.Lines.{line_of}
use Rattle.rules.specs.House.{HouseReading, house}
use Rattle.rules.specs.Claims.{may_change, joined, Exchanged}
use Rattle.rules.specs.Examples.{opened, F, COLS, filters}

-- a house-form call without a version imposed: the limits, the entries and the bytes that there is room for, and the header
pub record Call : Type 0 where
  pub limits : Limits
  pub entries : ℕ
  pub output : ℕ
  pub header : Bytes

abbrev pub on_header : Bytes → Call
on_header h = record { limits = limits; entries = 9; output = 999; header = h }

-- after the fileformat line
abbrev pub second : String → Call
second l = on_header (F ++ ascii l)

-- number, line and start
abbrev pub Place : Type 0
Place = ℕ × ℕ × ℕ

abbrev pub placed : HouseReading → Place
placed r = (r.number, r.line, r.start)

abbrev pub place_of : Call → Place
place_of c = placed (house c.limits None c.entries c.output c.header)

abbrev pub numbered : List (Call × Place)
numbered =
    (on_header (F ++ COLS ++ ascii "\n"), (1, 3, 60))
    ∷ (record { limits = record { header = 99; line = 20; counted = false }; entries = 9; output = 999; header = F ++ ascii "##a=45678901234567890" }, (2, 2, 21))
    ∷ (on_header (F ++ 0xFF ∷ []), (3, 2, 21))
    ∷ (on_header (ascii "##a=b"), (4, 1, 0))
    ∷ (on_header (F ++ F), (5, 2, 21))
    ∷ (second "#", (6, 2, 21))
    ∷ (second "##=x", (6, 2, 21))
    ∷ (second "##a", (6, 2, 21))
    ∷ (on_header (ascii "##fileformat=VCFv4."), (7, 1, 0))
    ∷ (second "##INFO=", (8, 2, 21))
    ∷ (second "##a=<ID=x", (8, 2, 21))
    ∷ (second "##a=<x>", (9, 2, 21))
    ∷ (second "##a=<K=,K=>", (10, 2, 21))
    ∷ (second "##INFO=<Number=Q>", (11, 2, 21))
    ∷ (on_header (ascii "##fileformat=VCFv4.4\n##FORMAT=<Number=LA>"), (11, 2, 21))
    ∷ (second "##INFO=<Type=Q>", (12, 2, 21))
    ∷ (second "##FORMAT=<Type=Flag>", (12, 2, 21))
    ∷ (second "##FILTER=<IDX=->", (13, 2, 21))
    ∷ (second "##contig=<length=->", (13, 2, 21))
    ∷ (second "##a=<>", (14, 2, 21))
    ∷ (second "##INFO=<ID=x>", (15, 2, 21))
    ∷ (second "##INFO=<ID=x,Number=1>", (16, 2, 21))
    ∷ (second "##ALT=<ID=x>", (17, 2, 21))
    ∷ (second "##FORMAT=<ID=GT,Number=2,Type=String,Description=>", (18, 2, 21))
    ∷ (on_header filters, (19, 3, 51))
    ∷ (second "##a=\n##a=<ID=x>", (20, 3, 26))
    ∷ (second "##a=<ID=x>\n##a=", (20, 3, 32))
    ∷ (second "##a=<ID=x>\n##a=<ID=x>", (21, 3, 32))
    ∷ (second "#CHROM", (22, 2, 21))
    ∷ (second "#CHROM\tPOS\tID\tREF\tALT\tQUAL\tFILTER\tINFO\tFORMAT\t\t", (23, 2, 21))
    ∷ (record { limits = limits; entries = 1; output = 999; header = F ++ COLS }, (24, 2, 21))
    ∷ (on_header [], (25, 0, 0))
    ∷ (on_header F, (26, 1, 21))
    ∷ (record { limits = record { header = 20; line = 20; counted = false }; entries = 9; output = 999; header = F }, (27, 0, 0))
    ∷ (record { limits = limits; entries = 9; output = 59; header = F ++ COLS }, (28, 0, 0))
    ∷ []

pub numbered_cases : map (λ (c : Call × Place). place_of c.0) numbered ≡ map (λ (c : Call × Place). c.1) numbered
unfolding opened
numbered_cases = refl

-- a description that the form puts into quotes: two bytes more than the header
abbrev pub quoting : Bytes
quoting = F ++ ascii "##ALT=<ID=x,Description=y234567890123>\n" ++ COLS

-- 27 and 2 of the form, where the header itself keeps the limits; 27 and 2 come before 28
abbrev pub overlong : List (Call × Place)
overlong =
    (record { limits = record { header = 100; line = 99; counted = false }; entries = 9; output = 0; header = quoting }, (27, 0, 0))
    ∷ (record { limits = record { header = 999; line = 39; counted = false }; entries = 9; output = 0; header = quoting }, (2, 2, 21))
    ∷ []

pub overlong_cases : map (λ (c : Call × Place). place_of c.0) overlong ≡ map (λ (c : Call × Place). c.1) overlong
unfolding opened
overlong_cases = refl

-- an accepted header between its fileformat line and its column line, and the form's lines between these
abbrev pub between : String → String → Bytes
between version lines = ascii version ++ ascii lines ++ COLS

abbrev pub formed : List (Bytes × Bytes)
formed =
    -- FORMAT has five more letters from 4.5
    (
      between "##fileformat=VCFv4.5\n" "##FORMAT=<ID=a,Number=LA,Type=String,Description=>\n##FORMAT=<ID=b,Number=LR,Type=String,Description=>\n##FORMAT=<ID=c,Number=LG,Type=String,Description=>\n##FORMAT=<ID=d,Number=P,Type=String,Description=>\n##FORMAT=<ID=e,Number=M,Type=String,Description=>\n",
      between "##fileformat=VCFv4.5\n" "##FORMAT=<ID=a,Number=LA,Type=String,Description=\"\">\n##FORMAT=<ID=b,Number=LR,Type=String,Description=\"\">\n##FORMAT=<ID=c,Number=LG,Type=String,Description=\"\">\n##FORMAT=<ID=d,Number=P,Type=String,Description=\"\">\n##FORMAT=<ID=e,Number=M,Type=String,Description=\"\">\n",
    )
    -- Child names the ID before 4.3, is kept as its tag, and stands first
    ∷ (between "##fileformat=VCFv4.2\n" "##PEDIGREE=<K=1,Child=x>\n", between "##fileformat=VCFv4.2\n" "##PEDIGREE=<Child=x,K=1>\n")
    -- the order of known fields, and integers without sign or zeros
    ∷ (
      between "##fileformat=VCFv4.3\n" "##contig=<IDX=+1,URL=u,K=v,md5=m,length=007,ID=c>\n",
      between "##fileformat=VCFv4.3\n" "##contig=<ID=c,length=7,md5=m,URL=u,IDX=1,K=v>\n",
    )
    -- typed kinds first, then other keys by first appearance, each with its lines in order
    ∷ (
      between "##fileformat=VCFv4.3\n" "##b=1\n##a=2\n##contig=<ID=c>\n##b=1\n##FILTER=<ID=q,Description=x>\n",
      between "##fileformat=VCFv4.3\n" "##FILTER=<ID=q,Description=\"x\">\n##contig=<ID=c>\n##b=1\n##b=1\n##a=2\n",
    )
    -- a value that has to be quoted, and one that need not be
    ∷ (
      between "##fileformat=VCFv4.3\n" "##a=<ID=\"x\",K=\"\\\\\",L=\"<\",M=\"a>\",N=\"\\\"\">\n",
      between "##fileformat=VCFv4.3\n" "##a=<ID=x,K=\\,L=<,M=\"a>\",N=\"\\\"\">\n",
    )
    ∷ []

pub formed_cases : map (λ (c : Bytes × Bytes). (house limits None 9 999 c.0).form) formed ≡ map (λ (c : Bytes × Bytes). c.1) formed
unfolding opened
formed_cases = refl

-- a line under a version, and the number of its refusal; 26, since no column line follows, where it is accepted
abbrev pub versioned : List (String × String × ℕ)
versioned =
    -- SVLEN before 4.3, in 4.3, from 4.4 on, and in versions that are not listed
    ("##fileformat=VCFv4.2\n", "##INFO=<ID=SVLEN,Number=2,Type=Float,Description=>", 26)
    ∷ ("##fileformat=VCFv4.3\n", "##INFO=<ID=SVLEN,Number=.,Type=Integer,Description=>", 26)
    ∷ ("##fileformat=VCFv4.3\n", "##INFO=<ID=SVLEN,Number=A,Type=Integer,Description=>", 18)
    ∷ ("##fileformat=VCFv4.4\n", "##INFO=<ID=SVLEN,Number=.,Type=Integer,Description=>", 18)
    ∷ ("##fileformat=VCFv4.4\n", "##INFO=<ID=SVLEN,Number=A,Type=Integer,Description=>", 26)
    ∷ ("##fileformat=VCFv4.10\n", "##INFO=<ID=SVLEN,Number=.,Type=Integer,Description=>", 18)
    ∷ ("##fileformat=VCFv5.0\n", "##INFO=<ID=SVLEN,Number=A,Type=Integer,Description=>", 26)
    -- a row that a version drops, and one that a version adds
    ∷ ("##fileformat=VCFv4.3\n", "##INFO=<ID=DPADJ,Number=1,Type=Integer,Description=>", 18)
    ∷ ("##fileformat=VCFv4.4\n", "##INFO=<ID=DPADJ,Number=1,Type=Integer,Description=>", 26)
    ∷ ("##fileformat=VCFv4.4\n", "##FORMAT=<ID=LAA,Number=1,Type=Integer,Description=>", 26)
    ∷ ("##fileformat=VCFv4.5\n", "##FORMAT=<ID=LAA,Number=1,Type=Integer,Description=>", 18)
    -- the row is that of the line's kind
    ∷ ("##fileformat=VCFv4.5\n", "##FORMAT=<ID=CN,Number=1,Type=Float,Description=>", 26)
    ∷ ("##fileformat=VCFv4.5\n", "##INFO=<ID=CN,Number=1,Type=Float,Description=>", 18)
    -- P from 4.4, LA, LR, LG and M from 4.5, in FORMAT alone
    ∷ ("##fileformat=VCFv4.3\n", "##FORMAT=<Number=P,Type=Q>", 11)
    ∷ ("##fileformat=VCFv4.4\n", "##FORMAT=<Number=P,Type=Q>", 12)
    ∷ ("##fileformat=VCFv4.4\n", "##FORMAT=<Number=M,Type=Q>", 11)
    ∷ ("##fileformat=VCFv4.5\n", "##FORMAT=<Number=M,Type=Q>", 12)
    ∷ ("##fileformat=VCFv4.5\n", "##INFO=<Number=P,Type=Q>", 11)
    ∷ []

pub versioned_cases : map (λ (c : String × String × ℕ). (place_of (on_header (ascii c.0 ++ ascii c.1))).0) versioned
    ≡ map (λ (c : String × String × ℕ). c.2) versioned
unfolding opened
versioned_cases = refl

-- Document 02, §12: two lines with their endings; whether they may change places, and whether the form stays when they do
abbrev pub neighbours : List ((String × String) × (Bool × Bool))
neighbours =
    -- two different typed kinds, one of them with an ending of its own
    (("##contig=<ID=c>\n", "##INFO=<ID=x,Number=1,Type=Float,Description=>\n"), (true, true))
    ∷ (("##FILTER=<ID=x,Description=>\r\n", "##FORMAT=<ID=x,Number=1,Type=Float,Description=>\n"), (true, true))
    -- one is typed and the other isn't: a text, another map, META
    ∷ (("##a=b\n", "##ALT=<ID=x,Description=>\n"), (true, true))
    ∷ (("##contig=<ID=c>\n", "##a=<ID=c>\n"), (true, true))
    ∷ (("##META=<ID=x>\n", "##contig=<ID=x>\n"), (true, true))
    -- one typed kind: the order of its lines is part of the meaning
    ∷ (("##contig=<ID=c>\n", "##contig=<ID=d>\n"), (false, false))
    -- two other keys: their first appearance is part of the meaning
    ∷ (("##a=b\n", "##b=a\n"), (false, false))
    ∷ (("##META=<ID=x>\n", "##PEDIGREE=<ID=x>\n"), (false, false))
    -- nothing is claimed of one other key, even where the form stays
    ∷ (("##a=b\n", "##a=b\n"), (false, true))
    ∷ []

-- between a fileformat line and a column line
abbrev pub with_lines : Bytes → Bytes → Bytes
with_lines p q = joined (F ∷ p ∷ q ∷ COLS ∷ [])

abbrev pub may_and_stays : Bytes → Bytes → Bool × Bool
may_and_stays p q =
    (may_change (line_of p) (line_of q), same (house limits None 9 999 (with_lines p q)).form (house limits None 9 999 (with_lines q p)).form)

pub neighbours_cases : map (λ (c : (String × String) × (Bool × Bool)). may_and_stays (ascii c.0.0) (ascii c.0.1)) neighbours ≡ map (λ (c : (String × String) × (Bool × Bool)). c.1) neighbours
unfolding opened may_change joined
neighbours_cases = refl

-- a contig above an INFO line, and below it
pub contig_moved : Exchanged (with_lines (ascii "##contig=<ID=c>\n") (ascii "##INFO=<ID=x>\n")) (with_lines (ascii "##INFO=<ID=x>\n") (ascii "##contig=<ID=c>\n"))
unfolding opened may_change joined
contig_moved = record {
  first = F;
  above = [];
  upper = ascii "##contig=<ID=c>\n";
  lower = ascii "##INFO=<ID=x>\n";
  below = [];
  last = COLS;
  was = refl;
  becomes = refl;
  may = refl;
}
