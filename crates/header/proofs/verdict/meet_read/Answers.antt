use Rattle.header.proofs.Verdicts.{mets}
use Rattle.std.proofs.Common.{rules}
use Rattle.header.proofs.verdict.meet_read.Goals as goal

pub enum_known-read : goal.enum_known-read
enum_known-read c = search (mets, rules)

pub map_entry-requires : goal.map_entry-requires
map_entry-requires c = search (mets, rules)

pub key_length-requires : goal.key_length-requires
key_length-requires c = search (mets, rules)

pub counted-key_length-requires : goal.counted-key_length-requires
counted-key_length-requires c = search (mets, rules)

pub keyed-new-requires : goal.keyed-new-requires
keyed-new-requires c = search (mets, rules)

pub returns-in-Ok-Map : goal.returns-in-Ok-Map
returns-in-Ok-Map c = search (mets, rules)

pub returns-in-Ok-Text : goal.returns-in-Ok-Text
returns-in-Ok-Text c = search (mets, rules)
