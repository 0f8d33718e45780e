use Rattle.values.proofs.Meanings.{quotes}
use Rattle.std.proofs.Common.{rules}
use Rattle.values.proofs.string.put_value.Goals as goal

pub returns-then-not-quote : goal.returns-then-not-quote
returns-then-not-quote c = search (quotes, rules)

pub returns : goal.returns
returns c = search (quotes, rules)
