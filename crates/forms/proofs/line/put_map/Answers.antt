use Rattle.forms.proofs.Lines.{map_put}
use Rattle.std.proofs.Common.{rules}
use Rattle.forms.proofs.line.put_map.Goals as goal

pub part-requires : goal.part-requires
part-requires c = search (map_put, rules)

pub put_bytes-opened-requires : goal.put_bytes-opened-requires
put_bytes-opened-requires c = search (map_put, rules)

pub put_fields-filled-requires : goal.put_fields-filled-requires
put_fields-filled-requires c = search (map_put, rules)

pub put_byte-requires : goal.put_byte-requires
put_byte-requires c = search (map_put, rules)

pub shape_of-out : goal.shape_of-out
shape_of-out c = search (map_put, rules)

pub returns : goal.returns
returns c = search (map_put, rules)
