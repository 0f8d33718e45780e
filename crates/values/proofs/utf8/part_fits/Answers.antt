use Rattle.std.proofs.Common.{rules}
use Rattle.values.proofs.Blocks.{parts}
use Rattle.values.proofs.utf8.part_fits.Goals as goal

pub returns-then-is_due-is_ascii : goal.returns-then-is_due-is_ascii
returns-then-is_due-is_ascii c = search (parts, rules)

pub returns : goal.returns
returns c = search (parts, rules)
