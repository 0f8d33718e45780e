use Rattle.records.proofs.Quickly.{plainness}
use Rattle.std.proofs.Common.{rules}
use Rattle.records.proofs.quick.is_plainly.Goals as goal

pub parse_u64-requires : goal.parse_u64-requires
parse_u64-requires c = search (plainness, rules)
