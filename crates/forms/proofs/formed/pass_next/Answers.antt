use Rattle.forms.proofs.Stands.{follows_told, follows}
use Rattle.std.proofs.Common.{rules}
use Rattle.forms.proofs.formed.pass_next.Goals as goal

pub enum_known-p : goal.enum_known-p
enum_known-p c = search (follows_told, follows, rules)

pub pass_optional-requires : goal.pass_optional-requires
pass_optional-requires c = search (follows_told, follows, rules)

pub enum_told-1 : goal.enum_told-1
enum_told-1 c = search (follows_told, follows, rules)

pub returns-in-More : goal.returns-in-More
returns-in-More c = search (follows_told, follows, rules)

pub returns-in-Done : goal.returns-in-Done
returns-in-Done c = search (follows_told, follows, rules)

pub returns-in-Other : goal.returns-in-Other
returns-in-Other c = search (follows_told, follows, rules)
