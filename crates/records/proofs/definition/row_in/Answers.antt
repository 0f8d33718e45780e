use Rattle.std.proofs.Common.{refl, rules}
use Rattle.records.proofs.Definitions.{looking, look_ended, look_hit}
use Rattle.records.proofs.definition.row_in.Goals as goal

pub loop-row-init : goal.loop-row-init
loop-row-init c = search (looking, rules)

pub loop-row-preserved : goal.loop-row-preserved
loop-row-preserved c = search (looking, rules)

pub returns-then-same : goal.returns-then-same
returns-then-same c =
    look_hit c.loop-row.invariant c.in-Some.row.now _ c.in-Some.ensures.steps.1.0 c.in-Some.ensures.steps.1.1 refl c.same.ensures c.if-same.true c.number_coded.ensures c.type_coded.ensures

pub returns : goal.returns
returns c = look_ended c.loop-row.invariant c.in-None.ensures.steps.1.0
