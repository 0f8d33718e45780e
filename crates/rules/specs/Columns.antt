-- Document 01, "Records": the column line and its sample names. Assumes nothing.
use Rattle.std.specs.Prelude.{Bool, true, false, not, ◌&&◌, List, [], ◌∷◌, Option, None, Some}
use Rattle.values.specs.Bytes.{Bytes, ascii, is, same, TAB}
use Rattle.rules.specs.Answer.{Answer, ok, refuse, unless, judged}
use Rattle.rules.specs.Lines.{push}
use Rattle.rules.specs.Known.{is_in}

-- whether FORMAT stood, and the sample names
pub record Columns : Type 0 where
  pub format : Bool
  pub samples : List Bytes

-- tab-parted
unfoldable pub split : Bytes → List Bytes
split [] = [] ∷ []
split (b ∷ bs) = elim (is TAB b) [ true ↦ [] ∷ split bs | false ↦ push b (split bs) ]

abbrev pub column_names : List Bytes
column_names = ascii "#CHROM" ∷ ascii "POS" ∷ ascii "ID" ∷ ascii "REF" ∷ ascii "ALT" ∷ ascii "QUAL" ∷ ascii "FILTER" ∷ ascii "INFO" ∷ []

-- what follows these columns, if they stand first
unfoldable pub after_columns : List Bytes → List Bytes → Option (List Bytes)
after_columns [] xs = Some xs
after_columns (n ∷ ns) [] = None
after_columns (n ∷ ns) (x ∷ xs) = elim (same x n) [ true ↦ after_columns ns xs | false ↦ None ]

unfoldable pub distinct : List Bytes → Bool
distinct [] = true
distinct (x ∷ xs) = not (is_in x xs) && distinct xs

-- a ninth column is FORMAT; what follows are sample names
abbrev pub formatted : Option (List Bytes) → Answer Columns
formatted None = refuse 22
formatted (Some []) = ok (record { format = false; samples = [] })
formatted (Some (x ∷ xs)) = elim (same x (ascii "FORMAT")) [
  | true ↦ judged (unless (distinct xs) 23) (record { format = true; samples = xs })
  | false ↦ refuse 22
]

unfoldable pub read_columns : Bytes → Answer Columns
read_columns l = formatted (after_columns column_names (split l))
