use Rattle.records.proofs.Distincts.{classings}
use Rattle.std.proofs.Common.{rules}
use Rattle.records.proofs.distinct.doubt_classes.Goals as goal

pub count-requires : goal.count-requires
count-requires c = search (classings, rules)

pub count-requires-2 : goal.count-requires-2
count-requires-2 c = search (classings, rules)

pub overflow_add-classes : goal.overflow_add-classes
overflow_add-classes c = search (classings, rules)

pub loop-class-init : goal.loop-class-init
loop-class-init c = search (classings, rules)

pub doubt_class-end-requires : goal.doubt_class-end-requires
doubt_class-end-requires c = search (classings, rules)

pub loop-class-preserved : goal.loop-class-preserved
loop-class-preserved c = search (classings, rules)

pub shape_of-doubts : goal.shape_of-doubts
shape_of-doubts c = search (classings, rules)

pub returns : goal.returns
returns c = search (classings, rules)
