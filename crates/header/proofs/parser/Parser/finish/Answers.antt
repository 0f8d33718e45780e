use Rattle.header.proofs.Parsers.{finishes}
use Rattle.std.proofs.Common.{rules}
use Rattle.header.proofs.parser.Parser.finish.Goals as goal

pub enum_told-1 : goal.enum_told-1
enum_told-1 c = search (finishes, rules)

pub enum_told-in-Ready : goal.enum_told-in-Ready
enum_told-in-Ready c = search (finishes, rules)

pub enum_known-phase : goal.enum_known-phase
enum_known-phase c = search (finishes, rules)

pub returns-in-Empty : goal.returns-in-Empty
returns-in-Empty c = search (finishes, rules)

pub returns-in-Ready : goal.returns-in-Ready
returns-in-Ready c = search (finishes, rules)

pub returns-in-Done : goal.returns-in-Done
returns-in-Done c = search (finishes, rules)
