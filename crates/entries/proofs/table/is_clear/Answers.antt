use Rattle.entries.proofs.Tables.{gets}
use Rattle.std.proofs.Common.{rules}
use Rattle.entries.proofs.table.is_clear.Goals as goal

pub words_at-words-requires : goal.words_at-words-requires
words_at-words-requires c = search (gets, rules)

pub returns-then-words-lt2 : goal.returns-then-words-lt2
returns-then-words-lt2 c = search (gets, rules)

pub bounds-words-0 : goal.bounds-words-0
bounds-words-0 c = search (gets, rules)

pub bounds-words-1 : goal.bounds-words-1
bounds-words-1 c = search (gets, rules)

pub third-requires : goal.third-requires
third-requires c = search (gets, rules)

pub is_clear-requires : goal.is_clear-requires
is_clear-requires c = search (gets, rules)

pub returns : goal.returns
returns c = search (gets, rules)
