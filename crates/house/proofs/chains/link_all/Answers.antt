use Prim.Native.Nat.{◌+◌, ◌*◌}
use native.Mathlib.Omega.{arith}
use mathlib.Core.Path.{◌≡◌}
use Rattle.std.proofs.Common.{rules}
use Rattle.house.proofs.Chainings.{all_ranges, ranges}
use Rattle.house.proofs.chains.link_all.Goals as goal

pub link_range-used-requires : goal.link_range-used-requires
link_range-used-requires c = search (ranges, rules)

pub link_range-requires : goal.link_range-requires
link_range-requires c = search (ranges, rules)

pub shape_of-kept-then-used-lt24576 : goal.shape_of-kept-then-used-lt24576
shape_of-kept-then-used-lt24576 c = search (ranges, rules)

pub returns-then-used-lt24576 : goal.returns-then-used-lt24576
returns-then-used-lt24576 c = search (ranges, rules)

pub shape_of-kept : goal.shape_of-kept
shape_of-kept c = search (ranges, rules)

pub returns : goal.returns
returns c = all_ranges _ _ c.loop-quarter.invariant (search rules) (omega arith)

pub loop-quarter-preserved : goal.loop-quarter-preserved
loop-quarter-preserved c =
    let e : 196608 * (c.loop-quarter.quarter + 1) ≡ 196608 * c.loop-quarter.quarter + 196608 = omega arith in
    rw e (search (ranges, rules))
