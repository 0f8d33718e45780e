use Rattle.sam.proofs.ContigLines.{opened_put}
use Rattle.std.proofs.Common.{rules}
use Rattle.sam.proofs.written.put_opened.Goals as goal

pub returns : goal.returns
returns c = search (opened_put, rules)
