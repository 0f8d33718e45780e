use Rattle.register.proofs.Answers.{accepteds}
use Rattle.std.proofs.Common.{rules}
use Rattle.register.proofs.probe.answer_accepted.Goals as goal

pub returns-then-lt : goal.returns-then-lt
returns-then-lt c = search (accepteds, rules)

pub returns-then-unknown-gt0 : goal.returns-then-unknown-gt0
returns-then-unknown-gt0 c = search (accepteds, rules)

pub returns : goal.returns
returns c = search (accepteds, rules)
