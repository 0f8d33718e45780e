use Rattle.std.proofs.Common.{rules}
use Rattle.dictionary.proofs.Markings.{telling}
use Rattle.dictionary.proofs.string_maps.mark_any.Goals as goal

pub returns-then-carried-ne0 : goal.returns-then-carried-ne0
returns-then-carried-ne0 c = search (telling, rules)

pub returns-else-carried-ne0 : goal.returns-else-carried-ne0
returns-else-carried-ne0 c = search (telling, rules)
