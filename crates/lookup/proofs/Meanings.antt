-- A meaning in a lent output: counted first, then written. Assumes nothing.
use Rattle.std.specs.Prelude.{Some, None}
use Prim.Native.Nat.{ℕ, ◌*◌, ◌^◌, ◌≤◌, ◌<◌, min}
use native.Mathlib.Omega.{arith}
use mathlib.Core.Path.{◌≡◌, sym, ap, ◌∙◌}
use mathlib.Core.Bool.{Bool, true, false}
use mathlib.Core.List.{[]}
use lib.Dec.{leb}
use lib.ListN.{length}
use lib.Seq.{sets}
use borrow.Author.Tests.{le-leb, lt-leb}
use Rattle.values.specs.Bytes.{Bytes}
use Rattle.values.specs.Value.{meaning, write_value, written as written_value}
use Rattle.values.specs.Written.{last, onward, Puts, plain, Wrote}
use Rattle.values.specs.declared.sink.Sink.{Sink}
use Rattle.values.proofs.Outputs.{only_written}
use Rattle.lookup.specs.Meanings.{fitting, written_as}

-- a bare value is its meaning
pub puts_bare : {out : Bytes} (s : Bytes) (q : Bool) {next : Sink} {left : Bytes} → Puts [] out (plain 0) (write_value false (meaning q s)) next left → Wrote out 0 (meaning q s) next.at left
unfolding written_value
puts_bare s q w = only_written w

pub counts : {out t : Bytes} {n : ℕ} {left : Bytes} → Wrote out 0 t n left → n ≡ onward 0 (length t)
counts w = w.place

module _ (out t : Bytes) {size : ℕ} (a : size ≡ onward 0 (length t)) (room : length out * 1 < 2 ^ 63) where
  counted : size ≡ min (length t) last
  unfolding onward
  counted = a ∙ omega arith

  module _ (l : length out < size) where
    too_long : leb (length t) (length out) ≡ false
    too_long = let c = counted in lt-leb (length t) (length out) (omega arith)

    pub no_room : None ≡ written_as (length out) t
    unfolding written_as
    no_room = rw (written_as, too_long)

    pub nothing_written : out ≡ sets out 0 (fitting (length out) t)
    unfolding fitting
    nothing_written = ap (λ (x : Bytes). sets out 0 x) (sym none_fits)
      where
        none_fits : fitting (length out) t ≡ []
        none_fits = rw (fitting, too_long)

  module _ (l : size ≤ length out) where
    fits : (leb (length t) (length out) ≡ true) × (size ≡ length t)
    fits = let c = counted in (le-leb (length t) (length out) (omega arith), omega arith)

    pub all_counted : Some size ≡ written_as (length out) t
    unfolding written_as
    all_counted = let f = fits in rw (written_as, f.0, f.1)

    pub all_written : {n : ℕ} {left : Bytes} → Wrote out 0 t n left → left ≡ sets out 0 (fitting (length out) t)
    unfolding fitting
    all_written w = w.output ∙ ap (λ (x : Bytes). sets out 0 x) (sym fitted)
      where
        fitted : fitting (length out) t ≡ t
        fitted = rw (fitting, fits.0)

pub ruleset meanings = (puts_bare, counts, no_room, nothing_written, all_counted, all_written)
