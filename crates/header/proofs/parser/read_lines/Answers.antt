use Rattle.std.proofs.Common.{rules}
use Rattle.header.proofs.Parsers.{goings}
use Rattle.header.proofs.parser.read_lines.Goals as goal

pub loop-parser-init : goal.loop-parser-init
loop-parser-init c = search (goings, rules)

pub shape_of-table-then-header-parser : goal.shape_of-table-then-header-parser
shape_of-table-then-header-parser c = search (goings, rules)

pub shape_of-marks-then-header-parser : goal.shape_of-marks-then-header-parser
shape_of-marks-then-header-parser c = search (goings, rules)

pub returns-then-header-parser : goal.returns-then-header-parser
returns-then-header-parser c = search (goings, rules)

pub parse_partial-requires : goal.parse_partial-requires
parse_partial-requires c = search (goings, rules)

pub enum_known-next : goal.enum_known-next
enum_known-next c = search (goings, rules)

pub loop-parser-smaller : goal.loop-parser-smaller
loop-parser-smaller c = search (goings, rules)

pub loop-parser-preserved : goal.loop-parser-preserved
loop-parser-preserved c = search (goings, rules)

pub enum_known-x : goal.enum_known-x
enum_known-x c = search (goings, rules)

pub shape_of-table : goal.shape_of-table
shape_of-table c = search (goings, rules)

pub shape_of-marks : goal.shape_of-marks
shape_of-marks c = search (goings, rules)

pub returns : goal.returns
returns c = search (goings, rules)

pub returns-in-Err : goal.returns-in-Err
returns-in-Err c = search (goings, rules)
