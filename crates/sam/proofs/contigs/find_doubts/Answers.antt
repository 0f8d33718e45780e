use Rattle.sam.proofs.Names.{doubts_found}
use Rattle.std.proofs.Common.{rules}
use Rattle.sam.proofs.contigs.find_doubts.Goals as goal

pub returns : goal.returns
returns c = search (doubts_found, rules)
