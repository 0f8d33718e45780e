use mathlib.Core.Bool.{true≢false}
use Rattle.sam.proofs.Tags.{tag_bytes}
use Rattle.std.proofs.Common.{rules, sym, ◌∙◌}
use Rattle.sam.proofs.tag.is_tag.Goals as goal
use Rattle.sam.proofs.tag.is_tag.Goals.{then-is_ascii_alphabetic, else-is_ascii_alphabetic}

pub returns-then-is_ascii_alphanumeric : goal.returns-then-is_ascii_alphanumeric
returns-then-is_ascii_alphanumeric c =
    elim c.if-is_ascii_alphabetic.branch [
      | then-is_ascii_alphabetic w ↦ let last = sym w.value-is ∙ c.if-is_ascii_alphanumeric.true in search (tag_bytes, rules)
      | else-is_ascii_alphabetic w ↦ absurd (true≢false (sym c.if-is_ascii_alphanumeric.true ∙ w.value-is ∙ w.if-is_ascii_alphabetic.false))
    ]

pub returns-else-is_ascii_alphanumeric : goal.returns-else-is_ascii_alphanumeric
returns-else-is_ascii_alphanumeric c =
    elim c.if-is_ascii_alphabetic.branch [
      | then-is_ascii_alphabetic w ↦ let last = sym w.value-is ∙ c.if-is_ascii_alphanumeric.false in rw w.value-is (search (tag_bytes, rules))
      | else-is_ascii_alphabetic w ↦ rw w.value-is (search (tag_bytes, rules))
    ]

pub returns-in_default : goal.returns-in_default
returns-in_default c = search (tag_bytes, rules)
