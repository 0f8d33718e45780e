use Rattle.header.proofs.Verdicts.{made_entry}
use Rattle.std.proofs.Common.{rules}
use Rattle.header.proofs.verdict.map_entry.Goals as goal

pub part-name-requires : goal.part-name-requires
part-name-requires c = search (made_entry, rules)

pub kind-requires : goal.kind-requires
kind-requires c = search (made_entry, rules)

pub key_length-requires : goal.key_length-requires
key_length-requires c = search (made_entry, rules)

pub counted-requires : goal.counted-requires
counted-requires c = search (made_entry, rules)

pub counted-requires-2 : goal.counted-requires-2
counted-requires-2 c = search (made_entry, rules)

pub returns : goal.returns
returns c = search (made_entry, rules)
