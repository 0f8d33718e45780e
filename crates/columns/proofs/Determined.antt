-- The promise of `parse_header` leaves one answer. Assumes nothing.
use Rattle.std.specs.Prelude.{Result, Ok, Err, Bool, ℕ}
use mathlib.Core.Path.{◌≡◌, refl}
use Rattle.values.specs.Bytes.{Bytes}
use Rattle.values.proofs.Tests.{never}
use Rattle.columns.specs.HeaderLines.{HeaderRead}
use Rattle.columns.specs.declared.header_line.ColumnsRefusal.{ColumnsRefusal}
use Rattle.columns.specs.declared.header_line.ColumnsRefusal.TheVariants as read

pub header_determined : (s : Bytes) (a b : Result (Bool × ℕ) ColumnsRefusal) → HeaderRead s a → HeaderRead s b → a ≡ b
unfolding HeaderRead
header_determined s (Ok (f, m)) (Ok (g, n)) p q = cc
header_determined s (Ok (f, m)) (Err read.WrongColumn) p q = never cc
header_determined s (Ok (f, m)) (Err read.DuplicateSample) p q = never cc
header_determined s (Err read.WrongColumn) (Ok (g, n)) p q = never cc
header_determined s (Err read.WrongColumn) (Err read.WrongColumn) p q = refl
header_determined s (Err read.WrongColumn) (Err read.DuplicateSample) p q = never cc
header_determined s (Err read.DuplicateSample) (Ok (g, n)) p q = never cc
header_determined s (Err read.DuplicateSample) (Err read.WrongColumn) p q = never cc
header_determined s (Err read.DuplicateSample) (Err read.DuplicateSample) p q = refl
