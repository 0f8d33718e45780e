-- Document 01, "Sizes": the check program as a whole. Its buffer has 65,536 bytes and its table 8,192 words, two for each entry; a longer
-- input prints as 27. Assumes nothing.
use Rattle.std.specs.Prelude.{ℕ, ◌/◌, true, false, [], ◌∷◌, ◌++◌, leb, length, None, Some}
use Rattle.values.specs.Bytes.{Bytes, LF, ascii}
use Rattle.values.specs.Integer.{decimal}
use Rattle.rules.specs.Sizes.{limits}
use Rattle.rules.specs.Version.{Version}
use Rattle.rules.specs.Reading.{reading}
use Rattle.rules.specs.Report.{accepted_line, refused_line, report}
use Rattle.header.specs.Parsers.{AnswerMeaning}

abbrev pub buffer : ℕ
buffer = 65536

abbrev pub table_words : ℕ
table_words = 8192

unfoldable pub printed : Bytes → Bytes
printed input = elim (leb (length input) buffer) [
  | true ↦ report (reading limits None (table_words / 2) input)
  | false ↦ refused_line 27 0 0
]

-- the line of what an answer says
abbrev pub answer_line : AnswerMeaning → Bytes
answer_line t = elim t.accepted [ None ↦ refused_line t.number t.line t.start | Some p ↦ accepted_line p.0 t.entries p.1 ]

-- its parts
abbrev pub version_text : Version → Bytes
version_text v = decimal v.major ++ 46 ∷ decimal v.minor

abbrev pub counts_text : ℕ → ℕ → Bytes
counts_text entries samples = ascii " entries=" ++ (decimal entries ++ (ascii " samples=" ++ (decimal samples ++ LF ∷ [])))
