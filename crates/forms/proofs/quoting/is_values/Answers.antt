use Rattle.forms.proofs.Quotes.{brackets}
use Rattle.std.proofs.Common.{rules}
use Rattle.forms.proofs.quoting.is_values.Goals as goal

pub same-requires : goal.same-requires
same-requires c = search (brackets, rules)

pub begins_with-requires : goal.begins_with-requires
begins_with-requires c = search (brackets, rules)
