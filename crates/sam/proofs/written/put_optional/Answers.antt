use Rattle.sam.proofs.ContigLines.{optional_none, optional_put}
use Rattle.std.proofs.Common.{rules}
use Rattle.sam.proofs.written.put_optional.Goals as goal

pub returns-then-value-eq0 : goal.returns-then-value-eq0
returns-then-value-eq0 c = optional_none _ _ c.if-value-eq0.true (search rules) (search rules)

pub returns : goal.returns
returns c = search (optional_put, rules)
