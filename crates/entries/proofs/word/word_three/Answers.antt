use native.Mathlib.Omega.{arith}
use Rattle.entries.specs.Words.{word_three}
use Rattle.entries.proofs.word.word_three.Goals as goal

pub returns : goal.returns
unfolding word_three
returns c = omega arith
