use Rattle.records.proofs.Quickly.{lasts}
use Rattle.std.proofs.Common.{rules}
use Rattle.records.proofs.quick.is_last.Goals as goal

pub plain_field-requires : goal.plain_field-requires
plain_field-requires c = search (lasts, rules)

pub returns-in_default : goal.returns-in_default
returns-in_default c = search (lasts, rules)

pub consume_suffix-requires : goal.consume_suffix-requires
consume_suffix-requires c = search (lasts, rules)

pub returns-then-not-consume_suffix : goal.returns-then-not-consume_suffix
returns-then-not-consume_suffix c = search (lasts, rules)

pub part-name-requires : goal.part-name-requires
part-name-requires c = search (lasts, rules)

pub same-requires : goal.same-requires
same-requires c = search (lasts, rules)

pub returns-then-same : goal.returns-then-same
returns-then-same c = search (lasts, rules)

pub returns-then-not-contig : goal.returns-then-not-contig
returns-then-not-contig c = search (lasts, rules)

pub overflow_add-equals : goal.overflow_add-equals
overflow_add-equals c = search (lasts, rules)

pub part-requires : goal.part-requires
part-requires c = search (lasts, rules)

pub fits_contig-requires : goal.fits_contig-requires
fits_contig-requires c = search (lasts, rules)

pub returns : goal.returns
returns c = search (lasts, rules)
