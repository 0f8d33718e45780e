use Rattle.capi.proofs.Dictionaries.{dictionary_answers, dictionary_stored, strings_written, contigs_written}
use Rattle.capi.proofs.vcfh_dictionaries.Goals as goal

pub returns : goal.returns
returns c = record { answer = search dictionary_answers; table = search dictionary_stored; strings = search strings_written; contigs = search contigs_written }
