use Rattle.house.proofs.Writes.{format_put}
use Rattle.std.proofs.Common.{rules}
use Rattle.house.proofs.progress.put_format.Goals as goal

pub put_bytes-named-requires : goal.put_bytes-named-requires
put_bytes-named-requires c = search (format_put, rules)

pub overflow_cast-version : goal.overflow_cast-version
overflow_cast-version c = search (format_put, rules)

pub put_decimal-major-requires : goal.put_decimal-major-requires
put_decimal-major-requires c = search (format_put, rules)

pub put_byte-point-requires : goal.put_byte-point-requires
put_byte-point-requires c = search (format_put, rules)

pub overflow_cast-version-2 : goal.overflow_cast-version-2
overflow_cast-version-2 c = search (format_put, rules)

pub put_decimal-requires : goal.put_decimal-requires
put_decimal-requires c = search (format_put, rules)

pub shape_of-out : goal.shape_of-out
shape_of-out c = search (format_put, rules)

pub returns : goal.returns
returns c = search (format_put, rules)
