use Rattle.capi.proofs.Contigs.{contigs_answer, lines_written}
use Rattle.capi.proofs.vcfh_contigs.Goals as goal

pub returns : goal.returns
returns c = record { answer = search contigs_answer; output = search lines_written }
