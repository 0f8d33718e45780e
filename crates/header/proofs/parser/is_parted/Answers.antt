use Rattle.std.proofs.Common.{rules}
use Rattle.header.proofs.Parts.{May-part}
use Rattle.header.proofs.parser.is_parted.Goals as goal

pub slice_bounds-all_formed-end : goal.slice_bounds-all_formed-end
slice_bounds-all_formed-end c = search (May-part, rules)

pub returns-else-end-at-ge1179648 : goal.returns-else-end-at-ge1179648
returns-else-end-at-ge1179648 c = search (May-part, rules)

pub returns-then-end-at-ge1179648 : goal.returns-then-end-at-ge1179648
returns-then-end-at-ge1179648 c = search (May-part, rules)
