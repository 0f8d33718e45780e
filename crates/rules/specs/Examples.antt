-- Document 01, "Lines on both sides": the starred cases as one table, computed by the checker. Assumes nothing.
use Rattle.std.specs.Prelude.{ℕ, ◌≡◌, refl, Bool, true, false, List, [], ◌∷◌, ◌++◌, map, Option, None, Some}
use Prim.Native.String.{String}
use Rattle.values.specs.Bytes.{Bytes, LF, ascii, begins, any, before, from, same, starts}
use Rattle.values.specs.Utf8.{completes, followers}
use Rattle.values.specs.Integer.{unsigned_read, without_sign, number_of, decimal, digits_of}
use Rattle.values.specs.Value.{written, unescaped, quoted_text, read_values, read_value, escape}
use Rattle.values.specs.Field.{written_field, read_key, read_field}
use Rattle.rules.specs.Answer.{first}
use Rattle.rules.specs.Sizes.{Limits, limits, raised_limits}
use Rattle.rules.specs.Lines.{pieces, ends, drop_end, line_of, write_line, write_lines}
use Rattle.rules.specs.Version.{Version, version, earlier, at_version, read_parts, read_version, write_version}
use Rattle.rules.specs.Known.{INFO, FILTER, ALT, contig, other, is_in, is_typed, kind_of, always_map, row_named, names_id, name_of, letters, types, read_number}
use Rattle.rules.specs.Reserved.{look_row, reserved}
use Rattle.rules.specs.Map.{after, scan, read_fields, check_fields, field_named, missing, misdeclared, map_refusal, read_map}
use Rattle.rules.specs.Record.{looks_map, read_record_value, read_keyed, read_record}
use Rattle.rules.specs.Columns.{split, after_columns, distinct, read_columns}
use Rattle.rules.specs.Entry.{Entry, format_kind, map_kind, text_kind, columns_kind, sample_kind, plain_entry, text_named, line_entry, counts_of, record_entry, tabbed, samples_start, sample_entries, column_entries}
use Rattle.rules.specs.Reading.{beside, clash, step_text, step, run, reading}
use Rattle.rules.specs.Meaning.{known_value, others, saying, under, without, other_keys, groups, header_meaning}
use Rattle.rules.specs.House.{closes, is_written_quoted, known_fields, other_fields, record_of, records_of, write_more, write_fields, write_record, parted, write_columns, house_lines, house_form, too_long, form_answer, house}
use Rattle.rules.specs.Report.{report}

-- what the definitions need to compute
unfoldable pub opened : Unit {0}
unfolding begins any before from same completes followers unsigned_read without_sign number_of decimal digits_of written unescaped quoted_text read_values read_value escape written_field read_key read_field first pieces ends drop_end line_of write_line write_lines earlier starts read_parts read_version write_version is_in is_typed kind_of always_map names_id name_of at_version letters types read_number look_row reserved after scan read_fields row_named check_fields field_named missing misdeclared map_refusal read_map looks_map read_record_value read_keyed read_record split after_columns distinct read_columns text_named line_entry counts_of record_entry tabbed samples_start sample_entries column_entries beside clash step_text step run reading known_value others saying under without other_keys groups header_meaning closes is_written_quoted known_fields other_fields record_of records_of write_more write_fields write_record parted write_columns house_lines house_form too_long form_answer house report
opened = tt

-- a header, the version imposed, the entries that the table has room for and the output's bytes
pub record Case : Type 0 where
  pub header : Bytes
  pub imposed : Option Version
  pub room : ℕ
  pub output : ℕ

-- number, line, start, the entries kept, the form, and what the program prints
pub record Expected : Type 0 where
  pub number : ℕ
  pub line : ℕ
  pub start : ℕ
  pub entries : List Entry
  pub form : Bytes
  pub printed : Bytes

-- a house-form call on a case, with the entries of its reading and what the program prints of it
abbrev pub answer : Case → Expected
answer c =
    let h = house limits c.imposed c.room c.output c.header in
    let r = reading limits c.imposed c.room c.header in
    record { number = h.number; line = h.line; start = h.start; entries = r.entries; form = h.form; printed = report r }

-- as document 01 has them: no version imposed, and the program's table and buffer
abbrev pub given : Bytes → Case
given h = record { header = h; imposed = None; room = 4096; output = 65536 }

-- refused, with what the program prints
abbrev pub refused : ℕ → ℕ → ℕ → List Entry → String → Expected
refused n l s es p = record { number = n; line = l; start = s; entries = es; form = []; printed = ascii p ++ LF ∷ [] }

abbrev pub accepted : ℕ → ℕ → List Entry → Bytes → String → Expected
accepted l s es f p = record { number = 0; line = l; start = s; entries = es; form = f; printed = ascii p ++ LF ∷ [] }

-- an entry with its ID's text, bare or quoted, at an offset of its line
abbrev pub identified : Bool → ℕ → ℕ → ℕ → ℕ → ℕ → Entry
identified q kind start len offset n = record { kind = kind; start = start; length = len; offset = offset; id_length = n; quoted = q; tag = 0; key_length = 0; field_count = 0 }

abbrev pub bare_id : ℕ → ℕ → ℕ → ℕ → ℕ → Entry
bare_id = identified false

abbrev pub quoted_id : ℕ → ℕ → ℕ → ℕ → ℕ → Entry
quoted_id = identified true

abbrev pub F : Bytes
F = ascii "##fileformat=VCFv4.3\n"

abbrev pub F2 : Bytes
F2 = ascii "##fileformat=VCFv4.2\n"

abbrev pub COLS : Bytes
COLS = ascii "#CHROM\tPOS\tID\tREF\tALT\tQUAL\tFILTER\tINFO\n"

-- the fileformat line's entry
abbrev pub W : List Entry
W = plain_entry format_kind 0 20 ∷ []

-- the 83 bytes
abbrev pub cell : Bytes
cell = F ++ (ascii "##cell=<ID=W07,K=0.98>\n" ++ COLS)

-- the FILTER lines with one ID, spelled in two ways
abbrev pub filters : Bytes
filters = F ++ ascii "##FILTER=<ID=q,Description=x>\n##FILTER=<ID=\"q\",Description=x>\n"

abbrev pub starred : List (Case × Expected)
starred =
    (given [], refused 25 0 0 [] "refused 25 line=0 offset=0")
    ∷ (given F, refused 26 1 21 W "refused 26 line=1 offset=21")
    ∷ (given cell, accepted 3 83 (W ++ bare_id (map_kind other) 21 22 11 3 ∷ plain_entry columns_kind 44 38 ∷ []) cell "ok version=4.3 entries=3 samples=0")
    ∷ (
      given (F ++ (ascii "##cell=<K=\"0.98\",ID=\"W07\">\n" ++ COLS)),
      accepted 3 87 (W ++ quoted_id (map_kind other) 21 26 21 3 ∷ plain_entry columns_kind 48 38 ∷ []) cell "ok version=4.3 entries=3 samples=0",
    )
    ∷ (
      given (F ++ (ascii "##contig=<ID=c,IDX=+5>\n" ++ COLS)),
      accepted 3 83 (W ++ bare_id (map_kind contig) 21 22 13 1 ∷ plain_entry columns_kind 44 38 ∷ []) (F ++ (ascii "##contig=<ID=c,IDX=5>\n" ++ COLS)) "ok version=4.3 entries=3 samples=0",
    )
    ∷ (given (F ++ (ascii "##contig=<ID=c,IDX=-0>\n" ++ COLS)), refused 13 2 21 W "refused 13 line=2 offset=21")
    ∷ (given (F ++ ascii "#CHROM\tPOS\tID\tREF\tALT\tQUAL\tFILTER\tINFO\tFORMAT\ta\ta\n"), refused 23 2 21 W "refused 23 line=2 offset=21")
    ∷ (
      given (F ++ ascii "#CHROM\tPOS\tID\tREF\tALT\tQUAL\tFILTER\tINFO\tFORMAT\n"),
      accepted 2 67 (W ++ plain_entry columns_kind 21 45 ∷ []) (F ++ ascii "#CHROM\tPOS\tID\tREF\tALT\tQUAL\tFILTER\tINFO\tFORMAT\n") "ok version=4.3 entries=2 samples=0",
    )
    ∷ (given (F ++ ascii "#CHROM\tPOS\tID\tREF\tALT\tQUAL\tFILTER\tINFO\t\n"), refused 22 2 21 W "refused 22 line=2 offset=21")
    ∷ (
      given (F ++ (ascii "##META=<ID=x,Values=[a,b]>\n" ++ COLS)),
      accepted 3 87 (W ++ bare_id (map_kind other) 21 26 11 1 ∷ plain_entry columns_kind 48 38 ∷ []) (F ++ (ascii "##META=<ID=x,Values=[a,b]>\n" ++ COLS)) "ok version=4.3 entries=3 samples=0",
    )
    ∷ (given (F2 ++ (ascii "##META=<ID=x,Values=[a,b]>\n" ++ COLS)), refused 9 2 21 W "refused 9 line=2 offset=21")
    ∷ (given (F2 ++ (ascii "##PEDIGREE=<Child=x,Derived=y>\n" ++ COLS)), refused 10 2 21 W "refused 10 line=2 offset=21")
    ∷ (given (F ++ (ascii "##PEDIGREE=<Child=x,Derived=y>\n" ++ COLS)), refused 14 2 21 W "refused 14 line=2 offset=21")
    ∷ (given filters, refused 19 3 51 (W ++ bare_id (map_kind FILTER) 21 29 13 1 ∷ []) "refused 19 line=3 offset=51")
    ∷ []

pub starred_cases : map (λ (e : Case × Expected). answer e.0) starred ≡ map (λ (e : Case × Expected). e.1) starred
unfolding opened
starred_cases = refl

-- Cases that pin what no theorem does: the order of refusals, their places, and single rules

abbrev pub at2 : Bytes → Case
at2 l = given (F ++ l)

abbrev pub pinned : List (Case × Expected)
pinned =
    -- a bad Number before the missing separator behind it; a second ID too; a missing separator before what follows it
    (at2 (ascii "##INFO=<Number=\"Q\"z>\n"), refused 11 2 21 W "refused 11 line=2 offset=21")
    ∷ (at2 (ascii "##a=<ID=x,ID=\"y\"z>\n"), refused 10 2 21 W "refused 10 line=2 offset=21")
    ∷ (at2 (ascii "##INFO=<ID=\"x\"y,Number=Q>\n"), refused 8 2 21 W "refused 8 line=2 offset=21")
    -- a META needs a field, another map does not
    ∷ (at2 (ascii "##META=<>\n"), refused 9 2 21 W "refused 9 line=2 offset=21")
    -- a line that is not UTF-8 before its grammar, and before the column line's
    ∷ (at2 (0xFF ∷ LF ∷ []), refused 3 2 21 W "refused 3 line=2 offset=21")
    -- the first line is a record under 4.5: a reserved ID declared otherwise is 18 and not 4
    ∷ (given (ascii "##INFO=<ID=DP,Number=2,Type=Integer,Description=x>\n"), refused 18 1 0 [] "refused 18 line=1 offset=0")
    -- before 4.3 reserved IDs are unchecked
    ∷ (
      given (F2 ++ ascii "##INFO=<ID=DP,Number=2,Type=Integer,Description=x>\n"),
      refused 26 2 72 (W ++ bare_id (map_kind INFO) 21 50 11 2 ∷ []) "refused 26 line=2 offset=72",
    )
    -- IDs are compared by meaning
    ∷ (
      at2 (ascii "##a=<ID=x\\y>\n##a=<ID=\"x\\\\y\">\n"),
      refused 21 3 34 (W ++ bare_id (map_kind other) 21 12 8 3 ∷ []) "refused 21 line=3 offset=34",
    )
    -- room for one entry: the line's own check comes first, then 24
    ∷ (record { header = F ++ COLS; imposed = None; room = 1; output = 0 }, refused 24 2 21 W "refused 24 line=2 offset=21")
    -- an imposed version is in force, and the file's own is no part of the meaning
    ∷ (
      record { header = F2 ++ COLS; imposed = Some (version 4 10); room = 2; output = 99 },
      accepted 2 60 (W ++ plain_entry columns_kind 21 38 ∷ []) (ascii "##fileformat=VCFv4.10\n" ++ COLS) "ok version=4.10 entries=2 samples=0",
    )
    -- a form that the output cannot hold
    ∷ (
      record { header = cell; imposed = None; room = 3; output = 82 },
      record { number = 28; line = 0; start = 0; entries = W ++ bare_id (map_kind other) 21 22 11 3 ∷ plain_entry columns_kind 44 38 ∷ []; form = []; printed = ascii "ok version=4.3 entries=3 samples=0\n" },
    )
    -- the form's order, quotes, Values, and a text that ends in CR
    ∷ (
      given (F ++ (ascii "##META=<Values=\"[a\",K=\"]\",ID=x>\n##n=t\r\r\n##ALT=<Description=d,ID=\"a,b\">\n#CHROM\tPOS\tID\tREF\tALT\tQUAL\tFILTER\tINFO\tFORMAT\ts")),
      accepted 5 139 (W ++ bare_id (map_kind other) 21 31 29 1 ∷ plain_entry text_kind 53 6 ∷ quoted_id (map_kind ALT) 61 30 25 3
          ∷ plain_entry columns_kind 92 47 ∷ plain_entry sample_kind 138 1 ∷ [])
          (F ++ ascii "##ALT=<ID=\"a,b\",Description=\"d\">\n##META=<ID=x,Values=\"[a\",K=]>\n##n=t\r\r\n#CHROM\tPOS\tID\tREF\tALT\tQUAL\tFILTER\tINFO\tFORMAT\ts\n") "ok version=4.3 entries=6 samples=1",
    )
    ∷ []

pub pinned_cases : map (λ (e : Case × Expected). answer e.0) pinned ≡ map (λ (e : Case × Expected). e.1) pinned
unfolding opened
pinned_cases = refl

-- Document 02, §10: the length of each entry's key and the number of its fields, in the second form and in the first

abbrev pub counts_in : Limits → Bytes → List (ℕ × ℕ)
counts_in lim h = map (λ (e : Entry). (e.key_length, e.field_count)) (reading lim None 99 h).entries

abbrev pub keyed : Bytes
keyed =
    F ++ ascii "##META=<ID=x,Values=[a,K=b]>\n##n=t\n##FILTER=<ID=a,Description=\"b,c\">\n##z=<ID=y,A=1,B=2>\n#CHROM\tPOS\tID\tREF\tALT\tQUAL\tFILTER\tINFO\tFORMAT\ts"

pub counted_cases : (counts_in raised_limits keyed ≡ (10, 0) ∷ (4, 2) ∷ (1, 0) ∷ (6, 2) ∷ (1, 3) ∷ (0, 0) ∷ (0, 0) ∷ [])
    × (counts_in limits keyed ≡ (0, 0) ∷ (0, 0) ∷ (0, 0) ∷ (0, 0) ∷ (0, 0) ∷ (0, 0) ∷ (0, 0) ∷ [])
unfolding opened
counted_cases = (refl, refl)
