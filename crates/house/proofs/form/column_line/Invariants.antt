use Rattle.house.proofs.Forms.{Columns}
use Rattle.house.proofs.form.column_line.Given as goal

abbrev pub invariant-loop-k : goal.invariant-loop-k
invariant-loop-k l = Columns l.form l.h l.kept l.k
