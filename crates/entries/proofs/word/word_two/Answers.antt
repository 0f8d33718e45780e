use native.Mathlib.Omega.{arith}
use Rattle.entries.specs.Words.{word_two}
use Rattle.entries.proofs.word.word_two.Goals as goal

pub returns-in-First : goal.returns-in-First
unfolding word_two
returns-in-First c = rw c.in-First.is (omega arith)

pub returns-in-Second : goal.returns-in-Second
unfolding word_two
returns-in-Second c = rw c.in-Second.is (omega arith)
