use Rattle.entries.specs.Words.{unpacked}
use Rattle.entries.proofs.word.unpack.Goals as goal

pub returns-in-First : goal.returns-in-First
unfolding unpacked
returns-in-First c = rw c.in-First.is

pub returns-in-Second : goal.returns-in-Second
unfolding unpacked
returns-in-Second c = rw c.in-Second.is
