use Prim.Native.Nat.{◌*◌}
use Rattle.house.specs.Chains.{LinksBelow}
use Rattle.house.proofs.chains.link_all.Given as goal

abbrev pub invariant-loop-quarter : goal.invariant-loop-quarter
invariant-loop-quarter l = LinksBelow l.form l.h 786432 (196608 * l.quarter) l.initial.kept l.kept
