use Rattle.sam.proofs.Names.{all_doubted}
use Rattle.std.proofs.Common.{rules}
use Rattle.sam.proofs.contigs.contigs.Goals as goal

pub write_doubted-requires : goal.write_doubted-requires
write_doubted-requires c = search (all_doubted, rules)
