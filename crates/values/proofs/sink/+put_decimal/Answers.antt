use Rattle.values.proofs.Outputs.{small_number, large_number}
use Rattle.values.proofs.sink.+put_decimal.Goals as goal

pub returns-then-n-lt10 : goal.returns-then-n-lt10
returns-then-n-lt10 t c = search small_number

pub returns : goal.returns
returns t c = search large_number
