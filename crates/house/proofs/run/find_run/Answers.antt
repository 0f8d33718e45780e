use Rattle.std.proofs.Common.{rules}
use Rattle.house.proofs.Runs.{findings}
use Rattle.house.proofs.run.find_run.Goals as goal

pub count-count-requires : goal.count-count-requires
count-count-requires c = search (findings, rules)

pub get-first-requires : goal.get-first-requires
get-first-requires c = search (findings, rules)

pub line_end-stop-requires : goal.line_end-stop-requires
line_end-stop-requires c = search (findings, rules)

pub returns-then-not-formed : goal.returns-then-not-formed
returns-then-not-formed c = search (findings, rules)

pub line_part-requires : goal.line_part-requires
line_part-requires c = search (findings, rules)

pub is_short-requires : goal.is_short-requires
is_short-requires c = search (findings, rules)

pub loop-end-init : goal.loop-end-init
loop-end-init c = search (findings, rules)

pub get-e-requires : goal.get-e-requires
get-e-requires c = search (findings, rules)

pub is_next-requires : goal.is_next-requires
is_next-requires c = search (findings, rules)

pub returns-then-not-is_next : goal.returns-then-not-is_next
returns-then-not-is_next c = search (findings, rules)

pub line_end-stop-requires-in-loop-end : goal.line_end-stop-requires-in-loop-end
line_end-stop-requires-in-loop-end c = search (findings, rules)

pub loop-end-smaller : goal.loop-end-smaller
loop-end-smaller c = search (findings, rules)

pub loop-end-preserved : goal.loop-end-preserved
loop-end-preserved c = search (findings, rules)

pub returns : goal.returns
returns c = search (findings, rules)
