use Rattle.header.proofs.Verdicts.{records}
use Rattle.std.proofs.Common.{rules}
use Rattle.header.proofs.verdict.judge_record.Goals as goal

pub part-l-requires : goal.part-l-requires
part-l-requires c = search (records, rules)

pub read_record-requires : goal.read_record-requires
read_record-requires c = search (records, rules)

pub meet_read-requires : goal.meet_read-requires
meet_read-requires c = search (records, rules)

pub part-requires : goal.part-requires
part-requires c = search (records, rules)

pub judge_id-requires : goal.judge_id-requires
judge_id-requires c = search (records, rules)

pub shape_of-marks : goal.shape_of-marks
shape_of-marks c = search (records, rules)

pub returns-in-Ok : goal.returns-in-Ok
returns-in-Ok c = search (records, rules)

pub returns-in-Err : goal.returns-in-Err
returns-in-Err c = search (records, rules)
