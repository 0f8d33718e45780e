use mathlib.Core.Bool.{true≢false}
use Rattle.sam.proofs.Names.{repeats}
use Rattle.std.proofs.Common.{rules, sym, ◌∙◌}
use Rattle.sam.proofs.name.is_repeated.Goals as goal
use Rattle.sam.proofs.name.is_repeated.Goals.{then-is_met, else-is_met}

pub returns-then-meet_hash-clause-repeated : goal.returns-then-meet_hash-clause-repeated
returns-then-meet_hash-clause-repeated c =
    elim c.if-is_met.branch [
      | then-is_met w ↦ let last = sym w.value-is ∙ c.if-meet_hash.true in search (repeats, rules)
      | else-is_met w ↦ absurd (true≢false (sym c.if-meet_hash.true ∙ w.value-is ∙ w.if-is_met.false))
    ]

pub returns-else-meet_hash-clause-repeated : goal.returns-else-meet_hash-clause-repeated
returns-else-meet_hash-clause-repeated c =
    elim c.if-is_met.branch [
      | then-is_met w ↦ let last = sym w.value-is ∙ c.if-meet_hash.false in rw w.value-is (search (repeats, rules))
      | else-is_met w ↦ rw w.value-is (search (repeats, rules))
    ]
