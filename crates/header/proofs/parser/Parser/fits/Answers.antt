use Rattle.header.specs.Steps.{fits}
use Rattle.header.proofs.Parsers.{fit_laws}
use Rattle.std.proofs.Common.{rules}
use Rattle.header.proofs.parser.Parser.fits.Goals as goal

pub limits-limits-requires : goal.limits-limits-requires
limits-limits-requires c = search (fit_laws, rules)

pub count-requires : goal.count-requires
count-requires c = search (fit_laws, rules)

pub returns-else-self-size : goal.returns-else-self-size
unfolding fits
returns-else-self-size c = search (fit_laws, rules)

pub returns-then-self-size : goal.returns-then-self-size
unfolding fits
returns-then-self-size c = search (fit_laws, rules)
