use Rattle.records.proofs.Quickly.{contigs}
use Rattle.std.proofs.Common.{rules}
use Rattle.records.proofs.quick.fits_contig.Goals as goal

pub contig_tag-requires : goal.contig_tag-requires
contig_tag-requires c = search (contigs, rules)

pub is_plainly-requires : goal.is_plainly-requires
is_plainly-requires c = search (contigs, rules)

pub returns-in-Id : goal.returns-in-Id
returns-in-Id c = search (contigs, rules)

pub returns-in-Length : goal.returns-in-Length
returns-in-Length c = search (contigs, rules)

pub returns-in-Md5 : goal.returns-in-Md5
returns-in-Md5 c = search (contigs, rules)
