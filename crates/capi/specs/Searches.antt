-- What the calls of an index answer, as structs of numbers. Assumes nothing.
use Rattle.std.specs.Prelude.{ℕ, Option, Some, None}
use Rattle.index.specs.Index.{build_number}
use Rattle.index.specs.declared.build.BuildAnswer.{BuildAnswer}
use Rattle.index.specs.declared.find.Search.{Search}
use Rattle.capi.specs.declared.indexes.VcfhIndexed.{VcfhIndexed}
use Rattle.capi.specs.declared.indexes.VcfhFound.{VcfhFound}

abbrev pub indexed_as : BuildAnswer → VcfhIndexed
indexed_as a = record { number = build_number a.outcome; placed = a.placed }

abbrev pub found_by : Option ℕ → ℕ → VcfhFound
found_by (Some n) looked = record { found = 1; entry = n; looked = looked }
found_by None looked = record { found = 0; entry = 0; looked = looked }

abbrev pub found_as : Search → VcfhFound
found_as s = found_by s.found s.looked
