use Rattle.entries.proofs.Calls.{id_text}
use Rattle.std.proofs.Common.{rules}
use Rattle.entries.proofs.part.id_part.Goals as goal

pub piece-requires : goal.piece-requires
piece-requires c = search (id_text, rules)

pub piece-requires-2 : goal.piece-requires-2
piece-requires-2 c = search (id_text, rules)

pub returns : goal.returns
returns c = search (id_text, rules)
