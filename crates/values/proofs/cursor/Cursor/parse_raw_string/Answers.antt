use Rattle.values.proofs.Values.{bare_placed}
use Rattle.std.proofs.Common.{rules}
use Rattle.values.proofs.cursor.Cursor.parse_raw_string.Goals as goal

pub returns : goal.returns
returns c = search (bare_placed, rules)
