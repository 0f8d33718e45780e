use Rattle.capi.proofs.Answers.{keys}
use Rattle.std.proofs.Common.{rules}
use Rattle.capi.proofs.vcfh_key.Goals as goal

pub key_of-requires : goal.key_of-requires
key_of-requires c = search (keys, rules)

pub returns : goal.returns
returns c = search (keys, rules)
