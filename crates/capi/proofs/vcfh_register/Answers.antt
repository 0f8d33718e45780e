use Rattle.capi.proofs.Answers.{register_answers, register_stored}
use Rattle.capi.proofs.vcfh_register.Goals as goal

pub returns : goal.returns
returns c = record { answer = search (register_answers); table = search (register_stored) }
