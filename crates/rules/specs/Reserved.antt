-- Document 02, §2: the Number and Type that each version's text gives to its reserved IDs of INFO and FORMAT. Assumes nothing.
use Prim.Native.String.{String}
use Rattle.std.specs.Prelude.{Bool, true, false, ◌&&◌, List, [], ◌∷◌, ◌++◌, map, eqb, Option, None, Some}
use Rattle.values.specs.Bytes.{Bytes, ascii, same}
use Rattle.rules.specs.Version.{Version, v4_3, v4_4, v4_5, at_version}
use Rattle.rules.specs.Known.{Kind, INFO, FILTER, FORMAT, ALT, contig, other, Number, count, letter}

pub record ReservedRow : Type 0 where
  pub id : Bytes
  pub number : Number
  pub type : Bytes

-- a row for each of these IDs
abbrev pub reserve : List String → Number → String → List ReservedRow
reserve ids n t = map (λ (id : String). record { id = ascii id; number = n; type = ascii t }) ids

-- INFO: what all versions from 4.3 on have
abbrev pub info_rows : List ReservedRow
info_rows =
    reserve ("AC" ∷ []) (letter (ascii "A")) "Integer"
    ++ reserve ("CIGAR" ∷ []) (letter (ascii "A")) "String"
    ++ reserve ("AF" ∷ []) (letter (ascii "A")) "Float"
    ++ reserve ("AD" ∷ "ADF" ∷ "ADR" ∷ []) (letter (ascii "R")) "Integer"
    ++ reserve ("AA" ∷ []) (count 1) "String"
    ++ reserve ("AN" ∷ "DP" ∷ "END" ∷ "MQ0" ∷ "NS" ∷ []) (count 1) "Integer"
    ++ reserve ("BQ" ∷ "MQ" ∷ []) (count 1) "Float"
    ++ reserve ("SB" ∷ []) (count 4) "Integer"
    ++ reserve ("DB" ∷ "H2" ∷ "H3" ∷ "SOMATIC" ∷ "VALIDATED" ∷ "1000G" ∷ []) (count 0) "Flag"
    ++ reserve ("IMPRECISE" ∷ "NOVEL" ∷ []) (count 0) "Flag"
    ++ reserve ("SVTYPE" ∷ []) (count 1) "String"

-- and what 4.3 has beside
abbrev pub info_rows4_3 : List ReservedRow
info_rows4_3 =
    reserve ("SVLEN" ∷ "HOMLEN" ∷ "DPADJ" ∷ "CNADJ" ∷ "CICNADJ" ∷ []) (letter (ascii ".")) "Integer"
    ++ reserve ("CIPOS" ∷ "CIEND" ∷ "CILEN" ∷ "CICN" ∷ []) (count 2) "Integer"
    ++ reserve ("HOMSEQ" ∷ "BKPTID" ∷ "MATEID" ∷ []) (letter (ascii ".")) "String"
    ++ reserve ("MEINFO" ∷ "METRANS" ∷ []) (count 4) "String"
    ++ reserve ("DGVID" ∷ "DBVARID" ∷ "DBRIPID" ∷ "PARID" ∷ "EVENT" ∷ []) (count 1) "String"
    ++ reserve ("CN" ∷ []) (count 1) "Integer"

-- and 4.4; 4.5 has the same
abbrev pub info_rows4_4 : List ReservedRow
info_rows4_4 =
    reserve ("SVLEN" ∷ "HOMLEN" ∷ "RN" ∷ []) (letter (ascii "A")) "Integer"
    ++ reserve ("CIPOS" ∷ "CIEND" ∷ "CILEN" ∷ "RUL" ∷ "RB" ∷ "CIRB" ∷ "RUB" ∷ []) (letter (ascii ".")) "Integer"
    ++ reserve ("HOMSEQ" ∷ "BKPTID" ∷ "DGVID" ∷ "DBVARID" ∷ "DBRIPID" ∷ "MATEID" ∷ "PARID" ∷ "EVENT" ∷ "EVENTTYPE" ∷ "SVCLAIM" ∷ []) (letter (ascii "A")) "String"
    ++ reserve ("MEINFO" ∷ "METRANS" ∷ "RUS" ∷ []) (letter (ascii ".")) "String"
    ++ reserve ("CN" ∷ []) (letter (ascii "A")) "Float"
    ++ reserve ("CICN" ∷ "RUC" ∷ "CIRUC" ∷ []) (letter (ascii ".")) "Float"

-- FORMAT likewise
abbrev pub format_rows : List ReservedRow
format_rows =
    reserve ("AD" ∷ "ADF" ∷ "ADR" ∷ []) (letter (ascii "R")) "Integer"
    ++ reserve ("EC" ∷ []) (letter (ascii "A")) "Integer"
    ++ reserve ("DP" ∷ "GQ" ∷ "MQ" ∷ "PQ" ∷ "PS" ∷ []) (count 1) "Integer"
    ++ reserve ("FT" ∷ "GT" ∷ []) (count 1) "String"
    ++ reserve ("HQ" ∷ []) (count 2) "Integer"
    ++ reserve ("GL" ∷ "GP" ∷ []) (letter (ascii "G")) "Float"
    ++ reserve ("PL" ∷ "PP" ∷ []) (letter (ascii "G")) "Integer"
    ++ reserve ("CNQ" ∷ []) (count 1) "Float"
    ++ reserve ("CNL" ∷ "CNP" ∷ []) (letter (ascii "G")) "Float"
    ++ reserve ("NQ" ∷ "HAP" ∷ "AHAP" ∷ []) (count 1) "Integer"

abbrev pub format_rows4_3 : List ReservedRow
format_rows4_3 =
    reserve ("CN" ∷ []) (count 1) "Integer"

abbrev pub format_rows4_4 : List ReservedRow
format_rows4_4 =
    reserve ("CN" ∷ []) (count 1) "Float"
    ++ reserve ("CICN" ∷ []) (count 2) "Float"
    ++ reserve ("PSL" ∷ []) (letter (ascii "P")) "String"
    ++ reserve ("PSO" ∷ "PSQ" ∷ []) (letter (ascii "P")) "Integer"

-- 4.5 has those of 4.4 too
abbrev pub format_rows4_5 : List ReservedRow
format_rows4_5 =
    reserve ("LEN" ∷ []) (count 1) "Integer"
    ++ reserve ("LAA" ∷ []) (letter (ascii ".")) "Integer"
    ++ reserve ("LAD" ∷ "LADF" ∷ "LADR" ∷ []) (letter (ascii "LR")) "Integer"
    ++ reserve ("LEC" ∷ []) (letter (ascii "LA")) "Integer"
    ++ reserve ("LGL" ∷ "LGP" ∷ []) (letter (ascii "LG")) "Float"
    ++ reserve ("LPL" ∷ "LPP" ∷ []) (letter (ascii "LG")) "Integer"

-- the tables of a kind, each from its version on
abbrev pub reserved_pages : Kind → List (Version × List ReservedRow)
reserved_pages INFO =
    (v4_5, info_rows ++ info_rows4_4)
    ∷ (v4_4, info_rows ++ info_rows4_4)
    ∷ (v4_3, info_rows ++ info_rows4_3)
    ∷ []
reserved_pages FORMAT =
    (v4_5, format_rows ++ format_rows4_4 ++ format_rows4_5)
    ∷ (v4_4, format_rows ++ format_rows4_4)
    ∷ (v4_3, format_rows ++ format_rows4_3)
    ∷ []
reserved_pages FILTER = []
reserved_pages ALT = []
reserved_pages contig = []
reserved_pages other = []

-- the table of a version and a kind; before 4.3 there is none
abbrev pub reserved_rows : Version → Kind → List ReservedRow
reserved_rows v kind = at_version [] (reserved_pages kind) v

unfoldable pub look_row : Bytes → List ReservedRow → Option ReservedRow
look_row id [] = None
look_row id (r ∷ rs) = elim (same r.id id) [ true ↦ Some r | false ↦ look_row id rs ]

-- the row of an ID, if it has one
unfoldable pub reserved : Version → Kind → Bytes → Option ReservedRow
reserved v kind id = look_row id (reserved_rows v kind)

abbrev pub same_number : Number → Number → Bool
same_number (count a) (count b) = eqb a b
same_number (count a) (letter t) = false
same_number (letter s) (count b) = false
same_number (letter s) (letter t) = same s t

abbrev pub is_number : Number → Option Number → Bool
is_number n None = false
is_number n (Some m) = same_number n m

-- what a definition asks; without a definition, nothing
abbrev pub declares : Option ReservedRow → Option Number → Bytes → Bool
declares None n t = true
declares (Some r) n t = is_number r.number n && same r.type t
