use Rattle.records.proofs.Declares.{reserved_asked}
use Rattle.std.proofs.Common.{rules}
use Rattle.records.proofs.value.validate_definition.Goals as goal

pub returns : goal.returns
returns c = search (reserved_asked, rules)
