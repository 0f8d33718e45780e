use Rattle.header.proofs.Parsers.{line_parsed}
use Rattle.std.proofs.Common.{rules}
use Rattle.header.proofs.parser.Parser.parse_partial.Goals as goal

pub next_line-found-requires : goal.next_line-found-requires
next_line-found-requires c = search (line_parsed, rules)

pub kept-requires : goal.kept-requires
kept-requires c = search (line_parsed, rules)

pub judge_line-verdict-requires : goal.judge_line-verdict-requires
judge_line-verdict-requires c = search (line_parsed, rules)

pub keep-requires : goal.keep-requires
keep-requires c = search (line_parsed, rules)

pub shape_of-marks : goal.shape_of-marks
shape_of-marks c = search (line_parsed, rules)

pub shape_of-table : goal.shape_of-table
shape_of-table c = search (line_parsed, rules)

pub returns : goal.returns
returns c = search (line_parsed, rules)
