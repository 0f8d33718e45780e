use Rattle.std.proofs.Common.{rules}
use Rattle.values.proofs.Blocks.{fits_by}
use Rattle.values.proofs.utf8.fits.Goals as goal

pub returns : goal.returns
returns c = search (fits_by, rules)
