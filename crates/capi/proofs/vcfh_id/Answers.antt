use Rattle.capi.proofs.Answers.{parts}
use Rattle.std.proofs.Common.{rules}
use Rattle.capi.proofs.vcfh_id.Goals as goal

pub part_of-requires : goal.part_of-requires
part_of-requires c = search (parts, rules)

pub returns : goal.returns
returns c = search (parts, rules)
