-- Document 01, "Lines on both sides": the line that is printed of a reading; the check program whole is `report` `Printed.printed`. Assumes nothing.
use Rattle.std.specs.Prelude.{ℕ, zero, suc, [], ◌∷◌, ◌++◌, length}
use Rattle.values.specs.Bytes.{Bytes, LF, ascii, POINT}
use Rattle.values.specs.Integer.{decimal}
use Rattle.rules.specs.Version.{Version}
use Rattle.rules.specs.Reading.{State, empty, ready, done, Reading}

abbrev pub accepted_line : Version → ℕ → ℕ → Bytes
accepted_line v entries samples =
    ascii "ok version=" ++ (decimal v.major ++ POINT ∷ (decimal v.minor ++ (ascii " entries=" ++ (decimal entries ++ (ascii " samples=" ++ (decimal samples ++ LF ∷ []))))))

abbrev pub refused_line : ℕ → ℕ → ℕ → Bytes
refused_line number line start =
    ascii "refused " ++ (decimal number ++ (ascii " line=" ++ (decimal line ++ (ascii " offset=" ++ (decimal start ++ LF ∷ [])))))

abbrev pub reported : Reading → State → Bytes
reported r empty = refused_line r.number r.line r.start
reported r (ready v rs) = refused_line r.number r.line r.start
reported r (done v rs c) = elim r.number [
  | zero ↦ accepted_line v (length r.entries) (length c.samples)
  | suc n ↦ refused_line r.number r.line r.start
]

unfoldable pub report : Reading → Bytes
report r = reported r r.state
