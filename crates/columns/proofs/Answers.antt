-- What callers go by: the answer of a column line, and the room that its entries take. Assumes nothing.
use Rattle.std.specs.Prelude.{Result, Ok, Err}
use Prim.Native.Nat.{ℕ, ◌+◌}
use native.Mathlib.Omega.{arith}
use mathlib.Core.Path.{◌≡◌, subst}
use mathlib.Core.Bool.{Bool}
use lib.ListN.{length}
use Rattle.values.specs.Bytes.{Bytes}
use Rattle.rules.specs.Answer.{ok, refuse}
use Rattle.rules.specs.Columns.{Columns, read_columns}
use Rattle.rules.specs.Entry.{samples_start, column_entries}
use Rattle.rules.proofs.Sound.{samples_count}
use Rattle.columns.specs.declared.header_line.ColumnsRefusal.{ColumnsRefusal}
use Rattle.columns.specs.declared.header_line.ColumnsRefusal.TheVariants as read
use Rattle.columns.specs.HeaderLines.{HeaderRead}

module _ (s : Bytes) {r : Result (Bool × ℕ) ColumnsRefusal} (h : HeaderRead s r) where
  pub columns_read : {format : Bool} {n : ℕ} → r ≡ Ok (format, n) → (c : Columns) × (read_columns s ≡ ok c) × (c.format ≡ format) × (length c.samples ≡ n)
  unfolding HeaderRead
  columns_read e = subst (HeaderRead s) e h

  pub column_wrong : r ≡ Err read.WrongColumn → read_columns s ≡ refuse 22
  unfolding HeaderRead
  column_wrong e = subst (HeaderRead s) e h

  pub sample_twice : r ≡ Err read.DuplicateSample → read_columns s ≡ refuse 23
  unfolding HeaderRead
  sample_twice e = subst (HeaderRead s) e h

pub columns_room : (start : ℕ) (s : Bytes) (c : Columns) → length (column_entries start s c) ≡ 1 + length c.samples
unfolding column_entries
columns_room start s c = omega (arith, samples_count (start + samples_start) c.samples)
