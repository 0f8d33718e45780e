use Rattle.columns.proofs.Classes.{doubted}
use Rattle.std.proofs.Common.{rules}
use Rattle.columns.proofs.header_line.doubt_name.Goals as goal

pub returns-then-hash-classes : goal.returns-then-hash-classes
returns-then-hash-classes c = search (doubted, rules)

pub returns-then-not-meet_hash : goal.returns-then-not-meet_hash
returns-then-not-meet_hash c = search (doubted, rules)

pub returns : goal.returns
returns c = search (doubted, rules)
