use Rattle.header.proofs.Verdicts.{utf8s}
use Rattle.std.proofs.Common.{rules}
use Rattle.header.proofs.verdict.is_utf8.Goals as goal

pub returns-then-ascii : goal.returns-then-ascii
returns-then-ascii c = search (utf8s, rules)

pub utf8-requires : goal.utf8-requires
utf8-requires c = search (utf8s, rules)

pub returns-else-ascii : goal.returns-else-ascii
returns-else-ascii c = search (utf8s, rules)
