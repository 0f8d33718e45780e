use lib.Seq.{length-take-le}
use Rattle.house.proofs.Answers.{lent, houses}
use Rattle.std.proofs.Common.{rules}
use Rattle.house.proofs.form.house_form.Goals as goal

pub overflow_mul-n : goal.overflow_mul-n
overflow_mul-n c = search (lent, rules)

pub slice_bounds-answer_accepted-end : goal.slice_bounds-answer_accepted-end
slice_bounds-answer_accepted-end c = search (lent, rules)

pub answer_accepted-requires : goal.answer_accepted-requires
answer_accepted-requires c = search (lent, rules)

pub slice_bounds-answer_accepted-end-in-Ok : goal.slice_bounds-answer_accepted-end-in-Ok
slice_bounds-answer_accepted-end-in-Ok c = search (lent, rules)

pub returns-in-Err : goal.returns-in-Err
returns-in-Err c = search (houses, rules)

pub returns-in-Ok : goal.returns-in-Ok
returns-in-Ok c = search (houses, lent, rules)
