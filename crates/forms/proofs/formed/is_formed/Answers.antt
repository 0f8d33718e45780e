use Rattle.forms.proofs.Asis.{formeds}
use Rattle.std.proofs.Common.{rules}
use Rattle.forms.proofs.formed.is_formed.Goals as goal

pub find-end-requires : goal.find-end-requires
find-end-requires c = search (formeds, rules)

pub part-name-requires : goal.part-name-requires
part-name-requires c = search (formeds, rules)

pub same-requires : goal.same-requires
same-requires c = search (formeds, rules)

pub returns-then-same : goal.returns-then-same
returns-then-same c = search (formeds, rules)

pub overflow_add-value : goal.overflow_add-value
overflow_add-value c = search (formeds, rules)

pub returns-then-s-value : goal.returns-then-s-value
returns-then-s-value c = search (formeds, rules)

pub bounds-s-value : goal.bounds-s-value
bounds-s-value c = search (formeds, rules)

pub map_key_of-key-requires : goal.map_key_of-key-requires
map_key_of-key-requires c = search (formeds, rules)

pub overflow_add-value-2 : goal.overflow_add-value-2
overflow_add-value-2 c = search (formeds, rules)

pub context-requires : goal.context-requires
context-requires c = search (formeds, rules)

pub is_formed_map-requires : goal.is_formed_map-requires
is_formed_map-requires c = search (formeds, rules)

pub returns : goal.returns
returns c = search (formeds, rules)
