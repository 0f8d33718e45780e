-- What a comparison answers. Assumes nothing.
use Rattle.std.specs.Prelude.{List, map, length}
use Rattle.register.specs.Compare.{Difference}
use Rattle.register.specs.Wells.{filled}
use Rattle.register.specs.declared.compare.Differences.{Differences}

abbrev pub listed_in_arrays : List Difference → Differences
listed_in_arrays ds = record {
  count = length ds;
  wells = filled (map (λ (d : Difference). d.well) ds);
  old = filled (map (λ (d : Difference). d.old) ds);
  new = filled (map (λ (d : Difference). d.new) ds);
}
