use Rattle.std.proofs.Common.{rules}
use Rattle.dictionary.specs.Answers.{judged_of}
use Rattle.dictionary.proofs.Judging.{boths}
use Rattle.dictionary.proofs.string_maps.number_marked.Goals as goal

pub returns-in-Whole : goal.returns-in-Whole
unfolding judged_of
returns-in-Whole c = search (boths, rules)
