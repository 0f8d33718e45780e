use Rattle.capi.proofs.Verdicts.{verdict_answers, verdict_stored}
use Rattle.capi.proofs.vcfh_is_house.Goals as goal

pub returns : goal.returns
returns c = record { answer = search (verdict_answers); table = search (verdict_stored) }
