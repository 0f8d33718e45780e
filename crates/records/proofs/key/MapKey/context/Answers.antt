use Rattle.records.proofs.Keys.{context_of_lem}
use Rattle.std.proofs.Common.{rules}
use Rattle.records.proofs.key.MapKey.context.Goals as goal

pub has_brackets-brackets-requires : goal.has_brackets-brackets-requires
has_brackets-brackets-requires c = search (context_of_lem, rules)

pub returns : goal.returns
returns c = search (context_of_lem, rules)
