use Rattle.std.proofs.Common.{rules}
use Rattle.values.proofs.Meanings.{told_less}
use Rattle.vcfh.proofs.numbers.say_id.Goals as goal

pub loop-b-smaller : goal.loop-b-smaller
loop-b-smaller c = search (told_less, rules)
