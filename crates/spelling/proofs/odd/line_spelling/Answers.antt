use Rattle.spelling.proofs.Listing.{lines}
use Rattle.std.proofs.Common.{rules}
use Rattle.spelling.proofs.odd.line_spelling.Goals as goal

pub returns-in-Some-Plain : goal.returns-in-Some-Plain
returns-in-Some-Plain c = search (lines, rules)
