use Rattle.lookup.proofs.Entries.{seeks}
use Rattle.std.proofs.Common.{rules}
use Rattle.lookup.proofs.find.find_entry.Goals as goal

pub returns-then-is_under : goal.returns-then-is_under
returns-then-is_under c = search (seeks, rules)

pub loop-n-preserved : goal.loop-n-preserved
loop-n-preserved c = search (seeks, rules)

pub returns : goal.returns
returns c = search (seeks, rules)
