use Rattle.std.proofs.Common.{rules}
use Rattle.values.proofs.Outputs.{compares}
use Rattle.values.proofs.sink.Sink.compare.Goals.{else-at-given-via-then-at-given+else-given-at, else-at-given-via-else-at-given}
use Rattle.values.proofs.sink.Sink.compare.Goals as goal

pub returns-then-differs-at : goal.returns-then-differs-at
returns-then-differs-at c = search (compares, rules)

pub returns-then-given-at : goal.returns-then-given-at
returns-then-given-at c = search (compares, rules)

pub returns : goal.returns
returns c = elim c.else-at-given.branch [
  | else-at-given-via-then-at-given+else-given-at w ↦ search (compares, rules)
  | else-at-given-via-else-at-given w ↦ search (compares, rules)
]
