use Rattle.header.proofs.Verdicts.{all_lines}
use Rattle.std.proofs.Common.{rules}
use Rattle.header.proofs.verdict.judge_line.Goals as goal

pub limits-limits-requires : goal.limits-limits-requires
limits-limits-requires c = search (all_lines, rules)

pub is_done-requires : goal.is_done-requires
is_done-requires c = search (all_lines, rules)

pub returns-then-is_done : goal.returns-then-is_done
returns-then-is_done c = search (all_lines, rules)

pub part-l-requires : goal.part-l-requires
part-l-requires c = search (all_lines, rules)

pub returns-then-limits-l : goal.returns-then-limits-l
returns-then-limits-l c = search (all_lines, rules)

pub is_utf8-requires : goal.is_utf8-requires
is_utf8-requires c = search (all_lines, rules)

pub returns-then-not-is_utf8 : goal.returns-then-not-is_utf8
returns-then-not-is_utf8 c = search (all_lines, rules)

pub judge_text-requires : goal.judge_text-requires
judge_text-requires c = search (all_lines, rules)

pub shape_of-marks : goal.shape_of-marks
shape_of-marks c = search (all_lines, rules)

pub returns : goal.returns
returns c = search (all_lines, rules)
