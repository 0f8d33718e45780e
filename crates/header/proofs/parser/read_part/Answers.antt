use Rattle.std.proofs.Common.{rules}
use Rattle.header.proofs.Parsers.{ons}
use Rattle.header.proofs.parser.read_part.Goals as goal

pub slice_bounds-is_ascii-count : goal.slice_bounds-is_ascii-count
slice_bounds-is_ascii-count c = search (ons, rules)

pub slice_bounds-is_ascii-start : goal.slice_bounds-is_ascii-start
slice_bounds-is_ascii-start c = search (ons, rules)

pub overflow_sub-header : goal.overflow_sub-header
overflow_sub-header c = search (ons, rules)

pub read_lines-requires : goal.read_lines-requires
read_lines-requires c = search (ons, rules)

pub read_sized-requires : goal.read_sized-requires
read_sized-requires c = search (ons, rules)
