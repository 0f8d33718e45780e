use Rattle.index.proofs.Building.{put_entries}
use Rattle.std.proofs.Common.{rules}
use Rattle.index.proofs.build.put_entry.Goals as goal

pub returns-then-places-eq0 : goal.returns-then-places-eq0
returns-then-places-eq0 c = search (put_entries, rules)

pub id_part-requires : goal.id_part-requires
id_part-requires c = search (put_entries, rules)

pub first_place-first-requires : goal.first_place-first-requires
first_place-first-requires c = search (put_entries, rules)

pub put-requires : goal.put-requires
put-requires c = search (put_entries, rules)

pub shape_of-index : goal.shape_of-index
shape_of-index c = search (put_entries, rules)

pub returns : goal.returns
returns c = search (put_entries, rules)
