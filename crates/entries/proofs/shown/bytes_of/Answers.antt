use Rattle.entries.proofs.Calls.{shown_bytes}
use Rattle.std.proofs.Common.{rules}
use Rattle.entries.proofs.shown.bytes_of.Goals as goal

pub enum_known-shown : goal.enum_known-shown
enum_known-shown c = search (shown_bytes, rules)

pub part-requires : goal.part-requires
part-requires c = search (shown_bytes, rules)

pub slice_bounds-result-end : goal.slice_bounds-result-end
slice_bounds-result-end c = search (shown_bytes, rules)
