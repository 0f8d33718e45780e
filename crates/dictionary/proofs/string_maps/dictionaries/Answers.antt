use Rattle.dictionary.proofs.Answers.{calls}
use Rattle.std.proofs.Common.{rules}
use Rattle.dictionary.proofs.string_maps.dictionaries.Goals as goal

pub returns-in-Err : goal.returns-in-Err
returns-in-Err c = search (calls, rules)

pub returns-in-Ok : goal.returns-in-Ok
returns-in-Ok c = search (calls, rules)
