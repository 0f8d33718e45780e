use Rattle.house.proofs.Verdicts.{judges}
use Rattle.std.proofs.Common.{rules}
use Rattle.house.proofs.form.judge.Goals as goal

pub enum_told-1 : goal.enum_told-1
enum_told-1 c = search (judges, rules)

pub enum_told-in_default : goal.enum_told-in_default
enum_told-in_default c = search (judges, rules)

pub told-requires : goal.told-requires
told-requires c = search (judges, rules)

pub returns-in_default : goal.returns-in_default
returns-in_default c = search (judges, rules)

pub told-requires-then-differs-length : goal.told-requires-then-differs-length
told-requires-then-differs-length c = search (judges, rules)

pub returns-then-differs-length : goal.returns-then-differs-length
returns-then-differs-length c = search (judges, rules)

pub told-requires-then-length-size : goal.told-requires-then-length-size
told-requires-then-length-size c = search (judges, rules)

pub returns-then-length-size : goal.returns-then-length-size
returns-then-length-size c = search (judges, rules)

pub told-requires-2 : goal.told-requires-2
told-requires-2 c = search (judges, rules)

pub returns : goal.returns
returns c = search (judges, rules)
