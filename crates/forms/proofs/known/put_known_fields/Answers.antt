use mathlib.Core.Logic.{inl, inr}
use Rattle.forms.proofs.Rows.{no_rows, tables}
use mathlib.Core.Path.{refl}
use Rattle.std.proofs.Common.{rules}
use Rattle.forms.proofs.known.put_known_fields.Goals as goal

pub put_typed-requires : goal.put_typed-requires
put_typed-requires c = search (tables, rules)

pub put_filter-requires : goal.put_filter-requires
put_filter-requires c = search (tables, rules)

pub put_known-requires : goal.put_known-requires
put_known-requires c = search (tables, rules)

pub put_contig-requires : goal.put_contig-requires
put_contig-requires c = search (tables, rules)

pub shape_of-out-in-Info : goal.shape_of-out-in-Info
shape_of-out-in-Info c = search (tables, rules)

pub returns-in-Info : goal.returns-in-Info
returns-in-Info c = search (tables, rules)

pub shape_of-out-in-Filter : goal.shape_of-out-in-Filter
shape_of-out-in-Filter c = search (tables, rules)

pub returns-in-Filter : goal.returns-in-Filter
returns-in-Filter c = search (tables, rules)

pub shape_of-out-in-AlternativeAllele : goal.shape_of-out-in-AlternativeAllele
shape_of-out-in-AlternativeAllele c = search (tables, rules)

pub returns-in-AlternativeAllele : goal.returns-in-AlternativeAllele
returns-in-AlternativeAllele c = search (tables, rules)

pub shape_of-out-in-Contig : goal.shape_of-out-in-Contig
shape_of-out-in-Contig c = search (tables, rules)

pub returns-in-Contig : goal.returns-in-Contig
returns-in-Contig c = search (tables, rules)

pub returns-in-Meta : goal.returns-in-Meta
returns-in-Meta c = elim c.in-Meta.is [
  | inl e ↦ no_rows _ _ _ e refl (search rules) (search rules)
  | inr o ↦ elim o [
    | inl e ↦ no_rows _ _ _ e refl (search rules) (search rules)
    | inr e ↦ no_rows _ _ _ e refl (search rules) (search rules)
  ]
]
