use Rattle.header.proofs.Verdicts.{texts}
use Rattle.std.proofs.Common.{rules}
use Rattle.header.proofs.verdict.judge_text.Goals as goal

pub part-l-requires : goal.part-l-requires
part-l-requires c = search (texts, rules)

pub enum_told-1 : goal.enum_told-1
enum_told-1 c = search (texts, rules)

pub judge_first-requires : goal.judge_first-requires
judge_first-requires c = search (texts, rules)

pub enum_known-phase : goal.enum_known-phase
enum_known-phase c = search (texts, rules)

pub starts_with-requires : goal.starts_with-requires
starts_with-requires c = search (texts, rules)

pub judge_columns-requires : goal.judge_columns-requires
judge_columns-requires c = search (texts, rules)

pub returns-then-starts_with : goal.returns-then-starts_with
returns-then-starts_with c = search (texts, rules)

pub judge_record-requires : goal.judge_record-requires
judge_record-requires c = search (texts, rules)

pub enum_told-in-Done : goal.enum_told-in-Done
enum_told-in-Done c = search (texts, rules)

pub returns-in-Empty : goal.returns-in-Empty
returns-in-Empty c = search (texts, rules)

pub shape_of-marks : goal.shape_of-marks
shape_of-marks c = search (texts, rules)

pub returns-else-starts_with : goal.returns-else-starts_with
returns-else-starts_with c = search (texts, rules)

pub returns-in-Done : goal.returns-in-Done
returns-in-Done c = search (texts, rules)
