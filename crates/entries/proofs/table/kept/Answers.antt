use native.Mathlib.Omega.{arith}
use mathlib.Core.Path.{sym}
use lib.ListN.{length-take}
use Rattle.entries.proofs.Tables.{counts, kept_inside}
use Rattle.std.proofs.Common.{rules}
use Rattle.entries.proofs.table.kept.Goals as goal

pub returns-then-count-n : goal.returns-then-count-n
returns-then-count-n c = search (counts, rules)

pub overflow_mul-result : goal.overflow_mul-result
overflow_mul-result c = let i = kept_inside _ _ _ c.count.ensures c.words.ensures c.if-count-n.false in omega arith

pub slice_bounds-result-end : goal.slice_bounds-result-end
slice_bounds-result-end c = let i = kept_inside _ _ _ c.count.ensures c.words.ensures c.if-count-n.false in sym (simp length-take (omega arith))

pub returns : goal.returns
returns c = search (counts, rules)
