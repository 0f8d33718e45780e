use Rattle.forms.proofs.Bares.{kinds}
use Rattle.std.proofs.Common.{rules}
use Rattle.forms.proofs.formed.is_other.Goals as goal

pub enum_told-1 : goal.enum_told-1
enum_told-1 c = search (kinds, rules)

pub returns-in-Other : goal.returns-in-Other
returns-in-Other c = search (kinds, rules)
