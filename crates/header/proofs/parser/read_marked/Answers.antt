use Rattle.header.proofs.Parsers.{ons}
use Rattle.std.proofs.Common.{rules}
use Rattle.header.proofs.parser.read_marked.Goals as goal

pub kept-kept-requires : goal.kept-kept-requires
kept-kept-requires c = search (ons, rules)

pub mark_ahead-requires : goal.mark_ahead-requires
mark_ahead-requires c = search (ons, rules)

pub read_lines-requires : goal.read_lines-requires
read_lines-requires c = search (ons, rules)

pub shape_of-table : goal.shape_of-table
shape_of-table c = search (ons, rules)

pub shape_of-marks : goal.shape_of-marks
shape_of-marks c = search (ons, rules)

pub returns : goal.returns
returns c = search (ons, rules)
