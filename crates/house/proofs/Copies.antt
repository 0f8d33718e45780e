-- Texts that are put at once. Assumes nothing.
use Prim.Native.Nat.{ℕ, zero, suc, ◌+◌, ◌-◌, ◌≤◌, ◌<◌, min}
use native.Mathlib.Omega.{arith}
use mathlib.Core.Path.{◌≡◌, refl, sym, ap, ◌∙◌}
use mathlib.Core.Bool.{Bool, true}
use mathlib.Core.List.{[]}
use Rattle.std.specs.Prelude.{None}
use lib.ListN.{length, get_or, take, drop, set, length-set}
use lib.Dec.{eqb}
use lib.Pointwise.{pointwise, bytes_decides}
use lib.Seq.{sets}
use borrow.Author.Tests.{lt-ltb, eq-eqb}
use Rattle.values.specs.Bytes.{Bytes}
use Rattle.values.specs.Written.{last, onward, differing, sooner, Puts}
use Rattle.values.specs.declared.sink.Sink.{Sink}
use Rattle.values.proofs.Lists.{here, drop_past, Stands, there, past, stands}
use Rattle.values.proofs.Outputs.{counts_past}

-- The loop that copies: the bytes before number i are written
pub record Copying (out₀ text out : Bytes) (at i : ℕ) : Type 0 where
  pub size : length out ≡ length out₀
  pub still : sets out (at + i) (drop i text) ≡ sets out₀ at text

pub copy_start : (out text : Bytes) (at : ℕ) → Copying out text out at 0
copy_start out text at = let e : at + 0 ≡ at = omega arith in record { size = refl; still = rw e }

module _ {out₀ text out : Bytes} {at i : ℕ} (g : Copying out₀ text out at i) where
  pub copy_more : i < length text → Copying out₀ text (set out (at + i) (get_or text i 0)) at (i + 1)
  copy_more l =
      let e : at + (i + 1) ≡ suc (at + i) = omega arith in
      record { size = length-set out (at + i) (get_or text i 0) ∙ g.size; still = rw e (sym (ap (sets out (at + i)) (here text i l)) ∙ g.still) }

  pub copy_end : length text ≤ i → out ≡ sets out₀ at text
  copy_end l = sym (ap (sets out (at + i)) (drop_past text i l)) ∙ g.still

pub ruleset copyings = (copy_start, copy_more, copy_end)

-- What was put

-- a part of what is given does not differ from it
part_same : (n : ℕ) (given : Bytes) (at : ℕ) → length given ≤ last → differing given at (take n (drop at given)) ≡ None
unfolding differing onward
part_same zero given at l = refl
part_same (suc n) given at l = go (stands given at) (part_same n given (at + 1) l)
  where
    go : Stands given at → differing given (at + 1) (take n (drop (at + 1) given)) ≡ None → differing given at (take (suc n) (drop at given)) ≡ None
    go (there h) more =
        let e : min (at + 1) last ≡ at + 1 = omega arith in
        let b = get_or given at 0 in
        rw (here given at h, differing, lt-ltb at (length given) h, eq-eqb b b refl, e) more
    go (past h) more = rw (drop_past given at h)

module _ (given out : Bytes) (s : Sink) (text : Bytes) where
  nothing_sooner : s.at ≤ last → s.differs ≤ s.at → s.differs ≡ sooner s.differs (differing given s.at text)
  nothing_sooner l d = (counts_past {given = given} {out = []} {s = s} text {n = onward s.at (length text)} refl l (omega arith) d).differs

  pub text_written_lem : s.differs ≤ s.at → s.at < length out → length text ≤ length out - s.at → length out ≤ last → {o : Bytes} → o ≡ sets out s.at text
      → Puts given out s text (record { at = s.at + length text; differs = s.differs }) o
  unfolding onward
  text_written_lem d a l f e = record { place = omega arith; differs = nothing_sooner (omega arith) d; output = e; fits = f; capped = omega arith }

  pub text_same : length out ≤ s.at → s.at < length given → length text ≤ length given - s.at → {q : Bool} → q ≡ pointwise eqb (take (s.at + length text - s.at) (drop s.at given)) text → q ≡ true → length given ≤ last
      → Puts given out s text (record { at = s.at + length text; differs = s.differs }) out
  unfolding onward
  text_same h a b f o l =
      let n : s.at + length text - s.at ≡ length text = omega arith in
      let e : take (length text) (drop s.at given) ≡ text = rw n at ((bytes_decides (take (s.at + length text - s.at) (drop s.at given)) text).0 (sym f ∙ o)) in
      let d : differing given s.at text ≡ None = ap (differing given s.at) (sym e) ∙ part_same (length text) given s.at l in
      let w = counts_past {given = given} {out = out} {s = record { at = s.at; differs = 0 }} text {n = onward s.at (length text)} refl (omega arith) h (omega arith) in
      record { place = omega arith; differs = rw d; output = w.output; fits = w.fits; capped = omega arith }
