use Rattle.dictionary.proofs.Lines.{idxs}
use Rattle.std.proofs.Common.{rules}
use Rattle.dictionary.proofs.line.line_idx.Goals as goal

pub returns-in_default : goal.returns-in_default
returns-in_default c = search (idxs, rules)

pub returns-in_default-parse_u64 : goal.returns-in_default-parse_u64
returns-in_default-parse_u64 c = search (idxs, rules)

pub returns : goal.returns
returns c = search (idxs, rules)
