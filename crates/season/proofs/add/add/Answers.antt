use Rattle.season.proofs.Adding.{adds}
use Rattle.std.proofs.Common.{rules}
use Rattle.season.proofs.add.add.Goals as goal

pub returns-in-Ok : goal.returns-in-Ok
returns-in-Ok c = search (adds, rules)
