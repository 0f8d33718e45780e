use Rattle.values.proofs.Fields.{splits}
use Rattle.std.proofs.Common.{rules}
use Rattle.values.proofs.cursor.Cursor.split_field.Goals as goal

pub slice_bounds-may_bracket-count : goal.slice_bounds-may_bracket-count
slice_bounds-may_bracket-count c = search (splits, rules)

pub slice_bounds-may_bracket-start : goal.slice_bounds-may_bracket-start
slice_bounds-may_bracket-start c = search (splits, rules)

pub slice_bounds-may_bracket-end : goal.slice_bounds-may_bracket-end
slice_bounds-may_bracket-end c = search (splits, rules)

pub returns : goal.returns
returns c = search (splits, rules)

pub returns-in_err-equals : goal.returns-in_err-equals
returns-in_err-equals c = search (splits, rules)

pub returns-in_err-text : goal.returns-in_err-text
returns-in_err-text c = search (splits, rules)
