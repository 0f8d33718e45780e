use Rattle.values.proofs.Outputs.{byte_inside, byte_counted, byte_capped}
use Rattle.std.proofs.Common.{rules}
use Rattle.values.proofs.sink.put_byte.Goals as goal

pub returns-then-at-out : goal.returns-then-at-out
returns-then-at-out c = byte_inside _ (search rules) (search rules) (search rules)

pub returns-then-at-lt18446744073709551615 : goal.returns-then-at-lt18446744073709551615
returns-then-at-lt18446744073709551615 c = byte_counted _ (search rules) (search rules) (search rules) (search rules)

pub returns : goal.returns
returns c = byte_capped _ (search rules) (search rules) (search rules) (search rules)
