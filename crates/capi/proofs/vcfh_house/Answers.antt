use Rattle.capi.proofs.Answers.{form_answers, form_stored, written}
use Rattle.capi.proofs.vcfh_house.Goals as goal

pub returns : goal.returns
returns c = record { answer = search (form_answers); table = search (form_stored); output = search (written) }
