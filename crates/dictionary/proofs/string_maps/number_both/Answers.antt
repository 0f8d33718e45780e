use Rattle.dictionary.proofs.Judging.{both_used}
use Rattle.std.proofs.Common.{rules}
use Rattle.dictionary.proofs.string_maps.number_both.Goals as goal

pub returns : goal.returns
returns c = search (both_used, rules)
