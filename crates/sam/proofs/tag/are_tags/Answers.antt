use Rattle.sam.proofs.Tags.{checks}
use Rattle.std.proofs.Common.{rules}
use Rattle.sam.proofs.tag.are_tags.Goals as goal

pub returns-then-line-lt-TAGS_START : goal.returns-then-line-lt-TAGS_START
returns-then-line-lt-TAGS_START c = search (checks, rules)

pub loop-tag-init : goal.loop-tag-init
loop-tag-init c = search (checks, rules)

pub returns-then-not-is_tag : goal.returns-then-not-is_tag
returns-then-not-is_tag c = search (checks, rules)

pub returns-then-is_set : goal.returns-then-is_set
returns-then-is_set c = search (checks, rules)

pub returns-then-line-end : goal.returns-then-line-end
returns-then-line-end c = search (checks, rules)

pub loop-tag-preserved : goal.loop-tag-preserved
loop-tag-preserved c = search (checks, rules)
