use Rattle.columns.proofs.Classes.{own_hash}
use Rattle.std.proofs.Common.{rules}
use Rattle.columns.proofs.header_line.name_hash.Goals as goal

pub returns : goal.returns
returns c = search (own_hash, rules)
