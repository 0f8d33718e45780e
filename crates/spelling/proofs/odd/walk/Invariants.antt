use Rattle.records.specs.Formats.{version_of}
use Rattle.spelling.proofs.Listing.{Walking}
use Rattle.spelling.proofs.odd.walk.Given as goal

abbrev pub invariant-loop-n : goal.invariant-loop-n
invariant-loop-n l = Walking l.form l.h l.table (version_of l.version) l.initial.list l.list l.n l.found
