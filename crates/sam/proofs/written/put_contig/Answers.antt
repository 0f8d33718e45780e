use Rattle.sam.proofs.ContigLines.{contig_put}
use Rattle.std.proofs.Common.{rules}
use Rattle.sam.proofs.written.put_contig.Goals as goal

pub returns : goal.returns
returns c = search (contig_put, rules)
