use Rattle.sam.proofs.ContigLines.{optionals_put}
use Rattle.std.proofs.Common.{rules}
use Rattle.sam.proofs.written.put_optionals.Goals as goal

pub returns : goal.returns
returns c = search (optionals_put, rules)
