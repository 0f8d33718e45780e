use Rattle.forms.proofs.Spellings.{plains}
use Rattle.std.proofs.Common.{rules}
use Rattle.forms.proofs.formed.is_plain.Goals as goal

pub parse_u64-requires : goal.parse_u64-requires
parse_u64-requires c = search (plains, rules)

pub returns-in-Some : goal.returns-in-Some
returns-in-Some c = search (plains, rules)
