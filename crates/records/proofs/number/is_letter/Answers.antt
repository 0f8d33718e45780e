use Rattle.records.proofs.Numbers.{letterings}
use Rattle.std.proofs.Common.{rules}
use Rattle.records.proofs.number.is_letter.Goals as goal

pub returns-then-b-eq32 : goal.returns-then-b-eq32
returns-then-b-eq32 c = search (letterings, rules)

pub returns : goal.returns
returns c = search (letterings, rules)
