use Rattle.capi.proofs.Seasons.{merged_answers}
use Rattle.std.proofs.Common.{rules}
use Rattle.capi.proofs.sheets.vcfh_season_merge.Goals as goal

pub returns : goal.returns
returns c = search (merged_answers, rules)
