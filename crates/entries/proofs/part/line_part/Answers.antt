use Rattle.rules.specs.Shown.{line_in}
use Rattle.std.proofs.Common.{rules}
use Rattle.entries.proofs.part.line_part.Goals as goal

pub returns : goal.returns
unfolding line_in
returns c = search rules
