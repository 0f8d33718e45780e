-- The sheet of a season, as the library has it. Assumes nothing.
use Rattle.season.specs.Answers.{AddMeaning, merge_number}
use Rattle.season.specs.declared.merge.MergeAnswer.{MergeAnswer}
use Rattle.capi.specs.declared.sheets.VcfhAdded.{VcfhAdded}
use Rattle.capi.specs.declared.sheets.VcfhMerged.{VcfhMerged}

abbrev pub added_in_c : AddMeaning → VcfhAdded
added_in_c m = record { number = m.number; line = m.line; start = m.start; entries = m.entries; sheet = record { totals = m.sheet } }

abbrev pub merged_in_c : MergeAnswer → VcfhMerged
merged_in_c a = record { number = merge_number a.outcome; sheet = record { totals = a.sheet } }
