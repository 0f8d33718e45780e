use Rattle.records.proofs.Distincts.{clear_and_sought}
use Rattle.std.proofs.Common.{rules}
use Rattle.records.proofs.distinct.find_longer.Goals as goal

pub returns : goal.returns
returns c = search (clear_and_sought, rules)
