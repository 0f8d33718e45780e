-- Document 02, §1: sheets of a few headers, computed by the checker. Assumes nothing.
use Rattle.std.specs.Prelude.{ℕ, ◌≡◌, refl, false, List, [], ◌∷◌, ◌++◌, replicate, Option, None, Some, Ok, Err}
use Rattle.values.specs.Bytes.{Bytes, ascii}
use Rattle.rules.specs.Examples.{opened as rules_opened, F, COLS, cell, filters}
use Rattle.rules.specs.Sizes.{limits}
use Rattle.rules.specs.Version.{Version, version}
use Rattle.rules.specs.Reading.{reading}
use Rattle.season.specs.Sheet.{numbers, of_kind, tally_of, sums, passes, after_adding, Given, tally_in, blank, sheet_of, season, added}
use Rattle.season.specs.Answers.{add_means, merge_answer}
use Rattle.season.specs.declared.merge.SeasonRefusal.TheVariants.{TotalTooLarge}

unfoldable pub opened : Unit {0}
unfolding rules_opened numbers of_kind tally_of sums passes sheet_of season added
opened = tt

-- a header with the version imposed and the entries that its table has room for
abbrev pub given : Option Version → ℕ → Bytes → Given
given imposed room h = record { limits = limits; imposed = imposed; room = room; bytes = h }

-- two contigs and two samples
abbrev pub pair : Bytes
pair = F ++ ascii "##contig=<ID=a>\n##contig=<ID=b>\n#CHROM\tPOS\tID\tREF\tALT\tQUAL\tFILTER\tINFO\tFORMAT\tx\ty\n"

-- the sheet as parts: read, accepted, refused by 1 to 27, entries of the kinds 1 to 10
abbrev pub page : ℕ → ℕ → List ℕ → List ℕ → List ℕ
page read accepted refused kinds = read ∷ accepted ∷ (refused ++ kinds)

-- which has no refused header
abbrev pub none_refused : List ℕ
none_refused = replicate 27 0

-- the 83 bytes and two contigs, in either order
counted : season blank (given None 9 cell ∷ given None 9 pair ∷ []) ≡ page 2 2 none_refused (2 ∷ 0 ∷ 0 ∷ 0 ∷ 0 ∷ 2 ∷ 1 ∷ 0 ∷ 2 ∷ 2 ∷ [])
unfolding opened
counted = refl

exchanged : season blank (given None 9 pair ∷ given None 9 cell ∷ []) ≡ season blank (given None 9 cell ∷ given None 9 pair ∷ [])
unfolding opened
exchanged = refl

-- refused ones are counted by their number, and none of their entries is: an ID twice (19), no room for the samples (24), nothing (25), no column line (26)
refused : season blank (given None 9 filters ∷ given None 5 pair ∷ given None 9 [] ∷ given None 9 F ∷ given None 9 cell ∷ []) ≡ page 5 1 (replicate 18 0 ++ 1 ∷ 0 ∷ 0 ∷ 0 ∷ 0 ∷ 1 ∷ 1 ∷ 1 ∷ 0 ∷ []) (1 ∷ 0 ∷ 0 ∷ 0 ∷ 0 ∷ 0 ∷ 1 ∷ 0 ∷ 1 ∷ 0 ∷ [])
unfolding opened
refused = refl

-- each with its own version: a `##cell` line without an ID is a text under 4.2, and 14 under 4.3
versions : season blank (given (Some (version 4 2)) 9 (F ++ (ascii "##cell=<K=1>\n" ++ COLS)) ∷ given None 9 (F ++ (ascii "##cell=<K=1>\n" ++ COLS)) ∷ []) ≡ page 2 1 (replicate 13 0 ++ 1 ∷ replicate 13 0) (1 ∷ 0 ∷ 0 ∷ 0 ∷ 0 ∷ 0 ∷ 0 ∷ 1 ∷ 1 ∷ 0 ∷ [])
unfolding opened
versions = refl

-- the largest total
abbrev pub top : ℕ
top = 18446744073709551615

-- one kind's total, up to which two contigs fit and past which they don't
abbrev pub nearly : ℕ → List ℕ
nearly contigs = page 7 7 none_refused (7 ∷ 0 ∷ 0 ∷ 0 ∷ 0 ∷ contigs ∷ 0 ∷ 0 ∷ 7 ∷ 0 ∷ [])

full : after_adding (nearly top) (tally_in (given None 9 cell)) ≡ page 8 8 none_refused (8 ∷ 0 ∷ 0 ∷ 0 ∷ 0 ∷ top ∷ 1 ∷ 0 ∷ 8 ∷ 0 ∷ [])
unfolding opened
full = refl

over : add_means (nearly 18446744073709551614) (reading limits None 9 pair) ≡ record { number = 30; line = 0; start = 0; entries = 6; accepted = None; added = false; sheet = nearly 18446744073709551614 }
unfolding opened
over = refl

fits : (add_means (nearly 18446744073709551613) (reading limits None 9 pair)).sheet ≡ page 8 8 none_refused (8 ∷ 0 ∷ 0 ∷ 0 ∷ 0 ∷ top ∷ 0 ∷ 0 ∷ 8 ∷ 2 ∷ [])
unfolding opened
fits = refl

-- which of them are added; the one that would overflow changes nothing
passed_over : added (nearly 18446744073709551614) (given None 9 cell ∷ given None 9 pair ∷ given None 9 [] ∷ []) ≡ given None 9 cell ∷ given None 9 [] ∷ []
unfolding opened
passed_over = refl

merged : merge_answer (season blank (given None 9 cell ∷ [])) (season blank (given None 9 pair ∷ [])) ≡ record { outcome = (Ok tt); sheet = season blank (given None 9 cell ∷ given None 9 pair ∷ []) }
unfolding opened
merged = refl

unmerged : merge_answer (nearly top) (nearly 1) ≡ record { outcome = (Err TotalTooLarge); sheet = nearly top }
unfolding opened
unmerged = refl
