use Rattle.header.proofs.Verdicts.{ids}
use Rattle.std.proofs.Common.{rules}
use Rattle.header.proofs.verdict.judge_id.Goals as goal

pub find_clash-requires : goal.find_clash-requires
find_clash-requires c = search (ids, rules)

pub returns-in-None : goal.returns-in-None
returns-in-None c = search (ids, rules)

pub returns-in-Some-TypedId : goal.returns-in-Some-TypedId
returns-in-Some-TypedId c = let e = rw c.in-Some-TypedId.field-0-is at c.in-Some-TypedId.is in search (ids, e, rules)

pub returns-in-Some-Mixed : goal.returns-in-Some-Mixed
returns-in-Some-Mixed c = let e = rw c.in-Some-Mixed.field-0-is at c.in-Some-Mixed.is in search (ids, e, rules)

pub returns-in-Some-OtherId : goal.returns-in-Some-OtherId
returns-in-Some-OtherId c = let e = rw c.in-Some-OtherId.field-0-is at c.in-Some-OtherId.is in search (ids, e, rules)
