use Rattle.sam.proofs.Sequences.{sequence_lines}
use Rattle.std.proofs.Common.{rules}
use Rattle.sam.proofs.sequence.is_sequence.Goals as goal

pub returns-then-line-lt-TAGS_START : goal.returns-then-line-lt-TAGS_START
returns-then-line-lt-TAGS_START c = search (sequence_lines, rules)

pub returns : goal.returns
returns c = search (sequence_lines, rules)
