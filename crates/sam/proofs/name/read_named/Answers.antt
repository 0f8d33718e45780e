use Rattle.sam.proofs.Names.{namings}
use Rattle.std.proofs.Common.{rules}
use Rattle.sam.proofs.name.read_named.Goals as goal

pub returns-then-is_repeated : goal.returns-then-is_repeated
returns-then-is_repeated c = search (namings, rules)

pub returns-else-is_repeated : goal.returns-else-is_repeated
returns-else-is_repeated c = search (namings, rules)
