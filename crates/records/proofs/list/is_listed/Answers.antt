use Rattle.std.proofs.Common.{rules}
use Rattle.records.proofs.Lists.{lists}
use Rattle.records.proofs.list.is_listed.Goals as goal

pub loop-quoted-init : goal.loop-quoted-init
loop-quoted-init c = search (lists, rules)

pub find-end-requires : goal.find-end-requires
find-end-requires c = search (lists, rules)

pub part-requires : goal.part-requires
part-requires c = search (lists, rules)

pub same_meaning-requires : goal.same_meaning-requires
same_meaning-requires c = search (lists, rules)

pub returns-then-same_meaning : goal.returns-then-same_meaning
returns-then-same_meaning c = search (lists, rules)

pub returns-then-list-end : goal.returns-then-list-end
returns-then-list-end c = search (lists, rules)

pub overflow_add-start : goal.overflow_add-start
overflow_add-start c = search (lists, rules)

pub loop-quoted-smaller : goal.loop-quoted-smaller
loop-quoted-smaller c = search (lists, rules)

pub loop-quoted-preserved : goal.loop-quoted-preserved
loop-quoted-preserved c = search (lists, rules)
