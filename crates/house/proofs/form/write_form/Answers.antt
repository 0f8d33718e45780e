use Rattle.house.proofs.Weights.{sum_writes}
use Rattle.std.proofs.Common.{rules}
use Rattle.house.proofs.form.write_form.Goals as goal

pub limits-limits-requires : goal.limits-limits-requires
limits-limits-requires c = search (sum_writes, rules)

pub sum_lines-sum-requires : goal.sum_lines-sum-requires
sum_lines-sum-requires c = search (sum_writes, rules)

pub column_line-columns-requires : goal.column_line-columns-requires
column_line-columns-requires c = search (sum_writes, rules)

pub size_form-size-requires : goal.size_form-size-requires
size_form-size-requires c = search (sum_writes, rules)

pub compare_form-compared-requires : goal.compare_form-compared-requires
compare_form-compared-requires c = search (sum_writes, rules)

pub shape_of-kept-then-limits-size : goal.shape_of-kept-then-limits-size
shape_of-kept-then-limits-size c = search (sum_writes, rules)

pub returns-then-limits-size : goal.returns-then-limits-size
returns-then-limits-size c = search (sum_writes, rules)

pub shape_of-kept-then-out-size : goal.shape_of-kept-then-out-size
shape_of-kept-then-out-size c = search (sum_writes, rules)

pub returns-then-out-size : goal.returns-then-out-size
returns-then-out-size c = search (sum_writes, rules)

pub put_form-requires : goal.put_form-requires
put_form-requires c = search (sum_writes, rules)

pub shape_of-kept : goal.shape_of-kept
shape_of-kept c = search (sum_writes, rules)

pub shape_of-out : goal.shape_of-out
shape_of-out c = search (sum_writes, rules)

pub returns : goal.returns
returns c = search (sum_writes, rules)
