-- Room: 24 is the only thing that less room changes. Assumes nothing.
use Prim.Native.Nat.{ℕ, suc, ◌+◌, ◌≤◌}
use native.Mathlib.Omega.{arith}
use mathlib.Core.Path.{◌≡◌, refl, sym, ap, ◌∙◌}
use mathlib.Core.Bool.{true}
use mathlib.Core.List.{List, [], ◌∷◌}
use Rattle.std.specs.Prelude.{Option}
use mathlib.Core.Logic.{◌⊎◌, inl, inr, ⊎_elim}
use lib.Dec.{leb}
use lib.ListN.{length}
use borrow.Author.Tests.{leb-true, le-leb}
use Rattle.values.specs.Bytes.{Bytes}
use Rattle.values.proofs.Tests.{pass, fail, test}
use Rattle.rules.specs.Sizes.{Limits}
use Rattle.rules.specs.Lines.{pieces, line_of}
use Rattle.rules.specs.Version.{Version}
use Rattle.rules.specs.Reading.{State, empty, step, Reading, following, run, reading}
use Rattle.rules.proofs.Firsts.{was, not_read, see}
use Rattle.rules.proofs.Sound.{run_refused, run_full, run_more}

run_rooms : (lim : Limits) (imposed : Option Version) (less more n start count : ℕ) (s : State) (ps : List Bytes) → less ≤ more
    → ((run lim imposed less n start count s ps).number ≡ 24) ⊎ (run lim imposed more n start count s ps ≡ run lim imposed less n start count s ps)
unfolding run
run_rooms lim imposed less more n start count s [] h = inr refl
run_rooms lim imposed less more n start count s (p ∷ ps) h = elim (see (step lim imposed start s (line_of p))) [
  | not_read m a ↦ inr (run_refused lim imposed more n start count s p ps a ∙ sym (run_refused lim imposed less n start count s p ps a))
  | was q a ↦ elim (test (leb (count + length q.1) less)) [
    | fail t ↦ inl (ap (λ (r : Reading). r.number) (run_full lim imposed less n start count s p ps a t))
    | pass t ↦
        let u : leb (count + length q.1) more ≡ true = le-leb _ more (omega (arith, leb-true (count + length q.1) less t)) in
        let l = run_more lim imposed less n start count s p ps a t in
        let m = run_more lim imposed more n start count s p ps a u in
        ⊎_elim (λ e. inl (ap (λ (r : Reading). r.number) l ∙ e)) (λ e. inr (m ∙ ap (following q.1) e ∙ sym l))
        (run_rooms lim imposed less more (suc n) (start + length p) (count + length q.1) q.0 ps h)
  ]
]

-- with more room a reading is the same, unless it was refused for want of room
pub rooms : (lim : Limits) (imposed : Option Version) (less more : ℕ) (h : Bytes) → less ≤ more
    → ((reading lim imposed less h).number ≡ 24) ⊎ (reading lim imposed more h ≡ reading lim imposed less h)
unfolding reading
rooms lim imposed less more h r = elim (test (leb (length h) lim.header)) [
  | pass e ↦ rw (e, reading) (run_rooms lim imposed less more 0 0 0 empty (pieces h) r)
  | fail e ↦ rw (e, reading) (inr refl)
]

-- an accepted reading is the same with more room
pub roomier : (lim : Limits) (imposed : Option Version) (less more : ℕ) (h : Bytes) → less ≤ more → (reading lim imposed less h).number ≡ 0
    → reading lim imposed more h ≡ reading lim imposed less h
roomier lim imposed less more h r z = ⊎_elim (λ e. absurd (omega (arith, z, e))) (λ e. e) (rooms lim imposed less more h r)
