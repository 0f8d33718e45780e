use Rattle.ids.proofs.Markings.{hashes}
use Rattle.std.proofs.Common.{rules}
use Rattle.ids.proofs.names.key_hash.Goals as goal

pub returns-then-e-lt-OTHER_MAP : goal.returns-then-e-lt-OTHER_MAP
returns-then-e-lt-OTHER_MAP c = search (hashes, rules)

pub line_part-line-requires : goal.line_part-line-requires
line_part-line-requires c = search (hashes, rules)

pub find-end-requires : goal.find-end-requires
find-end-requires c = search (hashes, rules)

pub part-requires : goal.part-requires
part-requires c = search (hashes, rules)

pub wide_from-requires : goal.wide_from-requires
wide_from-requires c = search (hashes, rules)

pub returns : goal.returns
returns c = search (hashes, rules)
