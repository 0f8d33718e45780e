use Rattle.forms.proofs.Stands.{follows}
use Rattle.std.proofs.Common.{rules}
use Rattle.forms.proofs.formed.pass_optional.Goals as goal

pub pass-requires : goal.pass-requires
pass-requires c = search (follows, rules)

pub enum_known-d : goal.enum_known-d
enum_known-d c = search (follows, rules)

pub enum_told-1 : goal.enum_told-1
enum_told-1 c = search (follows, rules)

pub enum_told-in-Other : goal.enum_told-in-Other
enum_told-in-Other c = search (follows, rules)

pub enum_told-in-Failed : goal.enum_told-in-Failed
enum_told-in-Failed c = search (follows, rules)

pub returns-in-More : goal.returns-in-More
returns-in-More c = search (follows, rules)

pub returns-in-Done : goal.returns-in-Done
returns-in-Done c = search (follows, rules)

pub returns-in-Other : goal.returns-in-Other
returns-in-Other c = search (follows, rules)

pub returns-in-Failed : goal.returns-in-Failed
returns-in-Failed c = search (follows, rules)
