use Rattle.header.proofs.Verdicts.{forces}
use Rattle.std.proofs.Common.{rules}
use Rattle.header.proofs.verdict.in_force.Goals as goal

pub enum_told-1 : goal.enum_told-1
enum_told-1 c = search (forces, rules)

pub enum_known-imposed : goal.enum_known-imposed
enum_known-imposed c = search (forces, rules)

pub returns-in-None : goal.returns-in-None
returns-in-None c = search (forces, rules)

pub returns-in-Some : goal.returns-in-Some
returns-in-Some c = search (forces, rules)
