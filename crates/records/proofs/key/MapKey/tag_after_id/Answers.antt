use Rattle.records.proofs.Tags.{told}
use Rattle.std.proofs.Common.{rules}
use Rattle.records.proofs.key.MapKey.tag_after_id.Goals as goal

pub enum_told-1 : goal.enum_told-1
enum_told-1 c = search (told, rules)

pub typed_tag-requires : goal.typed_tag-requires
typed_tag-requires c = search (told, rules)

pub filter_tag-requires : goal.filter_tag-requires
filter_tag-requires c = search (told, rules)

pub enum_told-in-AlternativeAllele : goal.enum_told-in-AlternativeAllele
enum_told-in-AlternativeAllele c = search (told, rules)

pub alternative_allele_tag-requires : goal.alternative_allele_tag-requires
alternative_allele_tag-requires c = search (told, rules)

pub enum_told-in-Contig : goal.enum_told-in-Contig
enum_told-in-Contig c = search (told, rules)

pub contig_tag-requires : goal.contig_tag-requires
contig_tag-requires c = search (told, rules)

pub returns-in-Info : goal.returns-in-Info
returns-in-Info c = search (told, rules)

pub returns-in-Filter : goal.returns-in-Filter
returns-in-Filter c = search (told, rules)

pub returns-in-AlternativeAllele : goal.returns-in-AlternativeAllele
returns-in-AlternativeAllele c = search (told, rules)

pub returns-in-Contig : goal.returns-in-Contig
returns-in-Contig c = search (told, rules)

pub returns-in-Meta : goal.returns-in-Meta
returns-in-Meta c = search (told, rules)
