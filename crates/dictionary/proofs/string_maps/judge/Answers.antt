use Rattle.std.proofs.Common.{rules}
use Rattle.dictionary.proofs.Judging.{judges}
use Rattle.dictionary.proofs.string_maps.judge.Goals as goal
use Rattle.dictionary.proofs.string_maps.judge.Goals.{then-strings-n-via-then-strings-n, then-strings-n-via-else-strings-n+then-contigs-m}

pub returns-then-is_mixed : goal.returns-then-is_mixed
returns-then-is_mixed c = search (judges, rules)

pub returns-in_default : goal.returns-in_default
returns-in_default c = search (judges, rules)

pub returns-in_default-count_pairs : goal.returns-in_default-count_pairs
returns-in_default-count_pairs c = search (judges, rules)

pub returns-then-strings-n : goal.returns-then-strings-n
returns-then-strings-n c =
    elim c.then-strings-n.branch [
      | then-strings-n-via-then-strings-n w ↦ search (judges, rules)
      | then-strings-n-via-else-strings-n+then-contigs-m w ↦ search (judges, rules)
    ]

pub returns : goal.returns
returns c = search (judges, rules)
