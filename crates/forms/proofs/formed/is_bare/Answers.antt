use Rattle.forms.proofs.Bares.{bares}
use Rattle.std.proofs.Common.{rules}
use Rattle.forms.proofs.formed.is_bare.Goals as goal

pub is_other-requires : goal.is_other-requires
is_other-requires c = search (bares, rules)

pub part-fields-requires : goal.part-fields-requires
part-fields-requires c = search (bares, rules)

pub starts_with-requires : goal.starts_with-requires
starts_with-requires c = search (bares, rules)

pub has_telling-requires : goal.has_telling-requires
has_telling-requires c = search (bares, rules)

pub returns-then-starts_with : goal.returns-then-starts_with
returns-then-starts_with c = search (bares, rules)
