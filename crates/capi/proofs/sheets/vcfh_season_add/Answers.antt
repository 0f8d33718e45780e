use Rattle.capi.proofs.Seasons.{add_answers, add_stored}
use Rattle.capi.proofs.sheets.vcfh_season_add.Goals as goal

pub returns : goal.returns
returns c = record { answer = search (add_answers); table = search (add_stored) }
