use Rattle.std.proofs.Common.{rules}
use Rattle.forms.proofs.Bares.{looks}
use Rattle.forms.proofs.formed.has_telling.Goals as goal

pub is_telling-requires : goal.is_telling-requires
is_telling-requires c = search (looks, rules)

pub returns-then-is_telling : goal.returns-then-is_telling
returns-then-is_telling c = search (looks, rules)

pub returns : goal.returns
returns c = search (looks, rules)

pub loop-b-preserved : goal.loop-b-preserved
loop-b-preserved c = search (looks, rules)
