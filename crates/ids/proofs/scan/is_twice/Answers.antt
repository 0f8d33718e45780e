use Rattle.ids.proofs.Seen.{twices}
use Rattle.std.proofs.Common.{rules}
use Rattle.ids.proofs.scan.is_twice.Goals as goal

pub returns-then-new-le-OTHER_MAP-clause-found : goal.returns-then-new-le-OTHER_MAP-clause-found
returns-then-new-le-OTHER_MAP-clause-found c = search (twices, rules)

pub returns-then-new-le-OTHER_MAP-clause-marks : goal.returns-then-new-le-OTHER_MAP-clause-marks
returns-then-new-le-OTHER_MAP-clause-marks c = search (twices, rules)

pub returns-else-new-le-OTHER_MAP-clause-found : goal.returns-else-new-le-OTHER_MAP-clause-found
returns-else-new-le-OTHER_MAP-clause-found c = search (twices, rules)

pub returns-else-new-le-OTHER_MAP-clause-marks : goal.returns-else-new-le-OTHER_MAP-clause-marks
returns-else-new-le-OTHER_MAP-clause-marks c = search (twices, rules)
