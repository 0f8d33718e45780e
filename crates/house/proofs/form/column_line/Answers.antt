use Rattle.house.proofs.Forms.{columns}
use Rattle.std.proofs.Common.{rules}
use Rattle.house.proofs.form.column_line.Goals as goal

pub loop-k-init : goal.loop-k-init
loop-k-init c = search (columns, rules)

pub get-e-requires : goal.get-e-requires
get-e-requires c = search (columns, rules)

pub line_part-requires : goal.line_part-requires
line_part-requires c = search (columns, rules)

pub returns-then-e-eq-COLUMNS : goal.returns-then-e-eq-COLUMNS
returns-then-e-eq-COLUMNS c = search (columns, rules)

pub loop-k-smaller : goal.loop-k-smaller
loop-k-smaller c = search (columns, rules)

pub loop-k-preserved : goal.loop-k-preserved
loop-k-preserved c = search (columns, rules)

pub slice_bounds-result-end : goal.slice_bounds-result-end
slice_bounds-result-end c = search (columns, rules)

pub returns : goal.returns
returns c = search (columns, rules)
