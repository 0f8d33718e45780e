use Rattle.std.proofs.Common.{rules}
use Rattle.dictionary.proofs.Markings.{mets}
use Rattle.dictionary.proofs.marking.mark_met.Goals as goal

pub returns-in_default : goal.returns-in_default
returns-in_default c = search (mets, rules)

pub returns-then-is_again : goal.returns-then-is_again
returns-then-is_again c = search (mets, rules)

pub returns-else-is_again : goal.returns-else-is_again
returns-else-is_again c = search (mets, rules)
