-- Entries, fields and values by name, computed by the checker. Assumes nothing.
use Rattle.std.specs.Prelude.{ℕ, ◌≡◌, refl, Bool, true, false, List, [], ◌∷◌, Option, Some, None}
use Prim.Native.String.{String}
use Rattle.values.specs.Bytes.{Bytes, ascii}
use Rattle.values.specs.Value.{meaning}
use Rattle.rules.specs.Version.{version}
use Rattle.rules.specs.Lines.{pieces}
use Rattle.rules.specs.Examples.{opened as rules}
use Rattle.rules.specs.Shown.{says_no_id, counts_in_place, well_formed, line_in, id_in, read_alone, tells, entry_record, nth_field_part}
use Rattle.records.specs.Fields.{text_keyed}
use Rattle.entries.specs.declared.form.Form.TheVariants.{First}
use Rattle.entries.specs.Words.{unpacked, is_clear}
use Rattle.entries.specs.Tables.{room, words_at, entry_in, words_clear, entry_at, shown_field}
use Rattle.index.specs.Index.{first_from}
use Rattle.lookup.specs.End.{header_end}
use Rattle.lookup.specs.Entries.{entry_key, described_in, is_under, first_under}
use Rattle.lookup.specs.Fields.{cut_of, field_apart, text_under}
use Rattle.lookup.specs.Meanings.{fitting, written_as}
use Rattle.values.specs.declared.string.Text.{Text}

unfoldable pub opened : Unit {0}
unfolding rules says_no_id counts_in_place well_formed line_in id_in read_alone tells entry_record nth_field_part text_keyed unpacked is_clear room words_at entry_in words_clear entry_at first_from header_end entry_key is_under cut_of fitting written_as
opened = tt

-- two cells, of which the first has quotes and an escape; the entries of its lines, of which the first three words are document 01's
abbrev pub header : Bytes
header = ascii "##fileformat=VCFv4.3\n##cell=<K=\"0\\\"98\",ID=\"W07\">\n##cell=<ID=W08,K=1>\n"

abbrev pub table : List ℕ
table = 0x1000000014000000 ∷ 0 ∷ 0x700015001b000000 ∷ 0x0016000380000000 ∷ 0x7000310013000000 ∷ 0x000b000300000000 ∷ []

abbrev under : String → String → ℕ × Bool
under key id = elim (first_under First header table (ascii key) (ascii id)) [ Some n ↦ (n, true) | None ↦ (0, false) ]

finds : (under "cell" "W07" ∷ under "cell" "W08" ∷ under "cell" "W09" ∷ under "cel" "W07" ∷ under "fileformat" "" ∷ [])
    ≡ (1, true) ∷ (2, true) ∷ (0, false) ∷ (0, false) ∷ (0, false) ∷ []
unfolding opened
finds = refl

abbrev value : String → String → Option Text
value id field = text_under First header table (version 4 3) (ascii field) (first_under First header table (ascii "cell") (ascii id))

values : (value "W07" "K" ∷ value "W07" "ID" ∷ value "W08" "K" ∷ value "W08" "L" ∷ value "W09" "K" ∷ [])
    ≡ Some (record { start = 32; end = 37; quoted = true })
    ∷ Some (record { start = 43; end = 46; quoted = true })
    ∷ Some (record { start = 66; end = 67; quoted = false })
    ∷ None
    ∷ None
    ∷ []
unfolding opened
values = refl

-- field 0 of the first cell, key and value apart; and there is no field 2
apart : field_apart header (shown_field First header table 1 (version 4 3) 0) ≡ Some (record { key_start = 29; key_length = 1; start = 32; length = 5; quoted = true })
unfolding opened
apart = refl

no_more : field_apart header (shown_field First header table 1 (version 4 3) 2) ≡ None
unfolding opened
no_more = refl

tells_whole : described_in header (entry_at First header table 1) ≡ Some (record {
  kind = 7;
  start = 21;
  length = 27;
  key_start = 23;
  key_length = 4;
  has_id = true;
  id_start = 43;
  id_length = 3;
  quoted = true;
})
unfolding opened
tells_whole = refl

meanings : (written_as 4 (meaning true (ascii "0\\\"98")) ≡ Some 4) × (fitting 4 (meaning true (ascii "0\\\"98")) ≡ ascii "0\"98")
    × (written_as 3 (meaning true (ascii "0\\\"98")) ≡ None) × (fitting 3 (meaning true (ascii "0\\\"98")) ≡ [])
unfolding opened
meanings = (refl, refl, refl, refl)

-- past the column line, whatever follows; and all bytes where there is none
ends : (header_end (pieces (ascii "##a=b\n#CHROM\nx\n#CHROM\n")) ∷ header_end (pieces (ascii "##a=#CHROM\n#CHROM")) ∷ header_end (pieces (ascii "##a=b\nx\n")) ∷ header_end (pieces []) ∷ [])
    ≡ 13 ∷ 17 ∷ 8 ∷ 0 ∷ []
unfolding opened
ends = refl
