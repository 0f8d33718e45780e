use Rattle.records.proofs.Declares.{lettering}
use Rattle.std.proofs.Common.{rules}
use Rattle.records.proofs.key.MapKey.letters.Goals as goal

pub returns-then-not-is_format : goal.returns-then-not-is_format
returns-then-not-is_format c = search (lettering, rules)

pub returns-then-lt-2 : goal.returns-then-lt-2
returns-then-lt-2 c = search (lettering, rules)

pub returns : goal.returns
returns c = search (lettering, rules)
