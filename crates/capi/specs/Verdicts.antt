-- The verdict on a header as a struct of numbers. Assumes nothing.
use Rattle.std.specs.Prelude.{length}
use Rattle.rules.specs.Reading.{Reading}
use Rattle.house.specs.IsHouse.{IsHouse}
use Rattle.capi.specs.Answers.{flag}
use Rattle.capi.specs.declared.VcfhVerdict.{VcfhVerdict}

-- of a reading, and of the verdict on what was read
abbrev pub verdict_in_c : Reading → IsHouse → VcfhVerdict
verdict_in_c r f = record { number = f.number; line = f.line; start = f.start; entries = length r.entries; house = flag f.holds; differs = f.place }
