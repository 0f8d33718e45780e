use Rattle.std.proofs.Common.{rules}
use Rattle.sam.proofs.Names.{doubting_skip, doubting_next, doubtings}
use Rattle.sam.proofs.name.doubt_names.Goals as goal

pub loop-at-preserved-then-is_sequence : goal.loop-at-preserved-then-is_sequence
loop-at-preserved-then-is_sequence c = doubting_next c.loop-at.invariant c.loop-at-test.true c.next_line-found.ensures c.part-text.ensures c.is_sequence.ensures c.if-is_sequence.true c.name_of.ensures c.doubt_name.ensures.marks c.doubt_name.ensures.doubts

pub loop-at-preserved : goal.loop-at-preserved
loop-at-preserved c = doubting_skip c.loop-at.invariant c.loop-at-test.true c.next_line-found.ensures c.part-text.ensures c.is_sequence.ensures c.if-is_sequence.false

pub returns : goal.returns
returns c = search (doubtings, rules)
