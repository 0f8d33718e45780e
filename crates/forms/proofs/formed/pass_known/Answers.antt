use mathlib.Core.Path.{refl}
use Rattle.forms.proofs.Stands.{tabled}
use Rattle.std.proofs.Common.{rules}
use Rattle.forms.proofs.formed.pass_known.Goals as goal

pub enum_told-1 : goal.enum_told-1
enum_told-1 c = search (tabled, refl, rules)

pub pass_typed-requires : goal.pass_typed-requires
pass_typed-requires c = search (tabled, refl, rules)

pub pass_filter-requires : goal.pass_filter-requires
pass_filter-requires c = search (tabled, refl, rules)

pub enum_told-in-AlternativeAllele : goal.enum_told-in-AlternativeAllele
enum_told-in-AlternativeAllele c = search (tabled, refl, rules)

pub pass_next-requires : goal.pass_next-requires
pass_next-requires c = search (tabled, refl, rules)

pub enum_told-in-Contig : goal.enum_told-in-Contig
enum_told-in-Contig c = search (tabled, refl, rules)

pub pass_contig-requires : goal.pass_contig-requires
pass_contig-requires c = search (tabled, refl, rules)

pub returns-in-Info : goal.returns-in-Info
returns-in-Info c = search (tabled, refl, rules)

pub returns-in-Filter : goal.returns-in-Filter
returns-in-Filter c = search (tabled, refl, rules)

pub returns-in-AlternativeAllele : goal.returns-in-AlternativeAllele
returns-in-AlternativeAllele c = search (tabled, refl, rules)

pub returns-in-Contig : goal.returns-in-Contig
returns-in-Contig c = search (tabled, refl, rules)

pub returns-in-Meta : goal.returns-in-Meta
returns-in-Meta c = search (tabled, refl, rules)
