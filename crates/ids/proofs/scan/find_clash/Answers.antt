use Rattle.ids.proofs.Seen.{founds}
use Rattle.std.proofs.Common.{rules}
use Rattle.ids.proofs.scan.find_clash.Goals as goal

pub prefix_hash-key-requires : goal.prefix_hash-key-requires
prefix_hash-key-requires c = search (founds, rules)

pub is_mixed-mixed-requires : goal.is_mixed-mixed-requires
is_mixed-mixed-requires c = search (founds, rules)

pub is_twice-twice-requires : goal.is_twice-twice-requires
is_twice-twice-requires c = search (founds, rules)

pub meet_key-requires : goal.meet_key-requires
meet_key-requires c = search (founds, rules)

pub clash_of-requires : goal.clash_of-requires
clash_of-requires c = search (founds, rules)

pub shape_of-marks : goal.shape_of-marks
shape_of-marks c = search (founds, rules)

pub returns : goal.returns
returns c = search (founds, rules)
