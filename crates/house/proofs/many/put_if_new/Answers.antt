use Rattle.std.proofs.Common.{rules}
use Rattle.house.proofs.Manys.{news}
use Rattle.house.proofs.many.put_if_new.Goals as goal

pub returns-then-is_written : goal.returns-then-is_written
returns-then-is_written c = search (news, rules)

pub returns-then-not-is_other : goal.returns-then-not-is_other
returns-then-not-is_other c = search (news, rules)

pub returns : goal.returns
returns c = search (news, rules)
