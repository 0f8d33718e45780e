use lib.Seq.{length-take-le}
use Rattle.house.proofs.Answers.{lent}
use Rattle.house.proofs.Verdicts.{is_houses}
use Rattle.std.proofs.Common.{rules}
use Rattle.house.proofs.form.is_house.Goals as goal

pub overflow_mul-n : goal.overflow_mul-n
overflow_mul-n c = search (lent, rules)

pub slice_bounds-judge_accepted-end : goal.slice_bounds-judge_accepted-end
slice_bounds-judge_accepted-end c = search (lent, rules)

pub judge_accepted-requires : goal.judge_accepted-requires
judge_accepted-requires c = search (lent, rules)

pub slice_bounds-judge_accepted-end-in-Ok : goal.slice_bounds-judge_accepted-end-in-Ok
slice_bounds-judge_accepted-end-in-Ok c = search (lent, rules)

pub returns-in-Err : goal.returns-in-Err
returns-in-Err c = search (is_houses, rules)

pub returns-in-Ok : goal.returns-in-Ok
returns-in-Ok c = search (is_houses, lent, rules)
