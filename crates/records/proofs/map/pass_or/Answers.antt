use Rattle.std.proofs.Common.{rules}
use Rattle.records.proofs.Maps.{checks}
use Rattle.records.proofs.map.pass_or.Goals as goal

pub returns-then-passed : goal.returns-then-passed
returns-then-passed c = search (checks, rules)

pub returns : goal.returns
returns c = search (checks, rules)
