use Rattle.std.proofs.Common.{rules}
use Rattle.house.proofs.Chainings.{headless, ranged}
use Rattle.house.proofs.chains.link_range.Goals as goal

pub slice_bounds-link_by-end : goal.slice_bounds-link_by-end
slice_bounds-link_by-end c = search (ranged, rules)

pub link_by-requires-clause-headless : goal.link_by-requires-clause-headless
link_by-requires-clause-headless c = search headless

pub slice_bounds-count_used-end : goal.slice_bounds-count_used-end
slice_bounds-count_used-end c = search (ranged, rules)

pub count_used-requires : goal.count_used-requires
count_used-requires c = search (ranged, rules)

pub shape_of-kept : goal.shape_of-kept
shape_of-kept c = search (ranged, rules)

pub returns : goal.returns
returns c = search (ranged, rules)
