use Rattle.forms.proofs.Stands.{tabled}
use Rattle.std.proofs.Common.{rules}
use Rattle.forms.proofs.formed.pass_filter.Goals as goal

pub pass_next-a-requires : goal.pass_next-a-requires
pass_next-a-requires c = search (tabled, rules)

pub pass_next-requires : goal.pass_next-requires
pass_next-requires c = search (tabled, rules)

pub returns : goal.returns
returns c = search (tabled, rules)
