-- The last LF of a header: the code's way to it, and the lines before it, which are complete. Assumes nothing.
use Prim.Native.Nat.{ℕ, zero, suc, ◌+◌, ◌-◌, ◌≤◌, ◌<◌}
use native.Mathlib.Omega.{arith}
use mathlib.Core.Path.{◌≡◌, refl, sym, ap, ap₂, subst, ◌∙◌}
use mathlib.Core.Bool.{Bool, true, false, not, ◌||◌}
use mathlib.Core.List.{List, [], ◌∷◌, ◌++◌, tail, append_assoc}
use lib.ListN.{length, get_or, take, drop, length-append, length-take, length-drop, take-append-drop}
use lib.Seq.{take_all, take-take, drop-append-le, drop-append_seam, drop-drop}
use borrow.Author.Tests.{ne_eqb}
use Rattle.values.specs.Bytes.{Bytes, LF, is, any, before, from}
use Rattle.values.proofs.Tests.{pass, fail, test, not_true, or_r, or_on}
use Rattle.values.proofs.Lists.{here, drop_past, any_append, before_from, before_none, from_is}
use Rattle.rules.specs.Lines.{pieces}
use Rattle.rules.proofs.Pieces.{pieces_line}
use Rattle.lines.specs.Lines.{end_of, last_end}

-- The last LF

end_none : (x : Bytes) → any (is LF) x ≡ false → end_of x ≡ 0
unfolding end_of
end_none [] e = refl
end_none (b ∷ x) e = rw (end_of, e)

any_hit : (t : ℕ → Bool) (x : Bytes) (c : ℕ) (y : Bytes) → t c ≡ true → any t (x ++ c ∷ y) ≡ true
unfolding any
any_hit t [] c y e = rw e
any_hit t (b ∷ x) c y e = rw (any_hit t x c y e) (or_on (t b) refl)

end_hit : (x y : Bytes) → any (is LF) y ≡ false → end_of (x ++ LF ∷ y) ≡ length x + 1
unfolding end_of
end_hit [] y e = rw (end_of, any_hit (is LF) [] LF y refl, end_none y e)
end_hit (b ∷ x) y e = let z : suc (length x) + 1 ≡ suc (length x + 1) = omega arith in rw (end_of, any_hit (is LF) (b ∷ x) LF y refl, end_hit x y e, z)

any_later : (n : ℕ) (x : Bytes) → any (is LF) x ≡ false → any (is LF) (drop n x) ≡ false
unfolding any
any_later zero x e = e
any_later (suc n) [] e = e
any_later (suc n) (b ∷ x) e = any_later n x (or_r (is LF b) (any (is LF) x) e)

module _ (h : Bytes) (at : ℕ) where
  none_left : any (is LF) (drop at h) ≡ false → at ≡ last_end h at
  none_left e = omega (arith, end_none (drop at h) e)

  pub end_past : length h ≤ at → at ≡ last_end h at
  unfolding any
  end_past l = none_left (rw (drop_past h at l))

  pub end_unmet : at < length h → {q : Bool} → q ≡ any (is LF) (take (length h - at) (drop at h)) → not q ≡ true → at ≡ last_end h at
  end_unmet l {q} e n = none_left (rw (← take_all (length h - at) (drop at h) (rw (length-drop at h) (omega arith))) (sym e ∙ not_true q n))

-- no LF stands from the place `end` on
pub record Seeking (h : Bytes) (end : ℕ) : Type 0 where
  pub inside : end ≤ length h
  pub clean : any (is LF) (drop end h) ≡ false

pub seek_start : (h : Bytes) → Seeking h (length h)
unfolding any
seek_start h = record { inside = omega arith; clean = rw (drop_past h (length h) (omega arith)) }

module _ {h : Bytes} {end : ℕ} (g : Seeking h end) (at : ℕ) where
  pub seek_end : end ≤ at → at ≡ last_end h at
  seek_end l =
      let d : drop (at - end) (drop end h) ≡ drop at h = drop-drop (at - end) end h ∙ (let z : end + (at - end) ≡ at = omega arith in rw z) in
      none_left h at (subst (λ (x : Bytes). any (is LF) x ≡ false) d (any_later (at - end) (drop end h) g.clean))

  pub seek_hit : at < end → get_or h (end - 1) 0 ≡ LF → end ≡ last_end h at
  seek_hit l e =
      let n = end - 1 - at in
      let x = take n (drop at h) in
      let i : at + n ≡ end - 1 = omega arith in
      let j : end - 1 + 1 ≡ end = omega arith in
      let rest : drop n (drop at h) ≡ LF ∷ drop end h = drop-drop n at h ∙ rw (i, here h (end - 1) (omega (arith, g.inside)), e, j) in
      let whole : drop at h ≡ x ++ LF ∷ drop end h = sym (take-append-drop n (drop at h)) ∙ ap (x ++◌) rest in
      let long : length x ≡ n = length-take n (drop at h) ∙ (let d = length-drop at h in omega (arith, d, g.inside)) in
      let z : end_of (drop at h) ≡ length x + 1 = ap end_of whole ∙ end_hit x (drop end h) g.clean in
      omega (arith, z, long)

pub seek_next : {h : Bytes} {end : ℕ} → Seeking h end → {at : ℕ} → at < end → (get_or h (end - 1) 0 ≡ LF → ⊥) → Seeking h (end - 1)
unfolding any
seek_next {h} {end} g l ne =
    let j : end - 1 + 1 ≡ end = omega arith in
    record { inside = omega (arith, g.inside); clean = rw (here h (end - 1) (omega (arith, g.inside)), ne_eqb (get_or h (end - 1) 0) LF ne, j) g.clean }

pub ruleset seeks = (end_past, end_unmet, seek_start, seek_end, seek_hit, seek_next)

-- How far it is

end_split : (u r : Bytes) → end_of (u ++ LF ∷ r) ≡ length u + (1 + end_of r)
unfolding end_of
end_split [] r = let z : 0 + (1 + end_of r) ≡ suc (end_of r) = omega arith in rw (end_of, any_hit (is LF) [] LF r refl, z)
end_split (b ∷ u) r = let z : suc (length u) + (1 + end_of r) ≡ suc (length u + (1 + end_of r)) = omega arith in rw (end_of, any_hit (is LF) (b ∷ u) LF r refl, end_split u r, z)

pub end_length : (y : Bytes) → end_of y ≤ length y
unfolding end_of
end_length [] = omega arith
end_length (b ∷ y) = elim (test (any (is LF) (b ∷ y))) [
  | pass e ↦ rw (end_of, e) (omega (arith, end_length y))
  | fail e ↦ rw (end_of, e) (omega arith)
]

pub end_drop : (n : ℕ) (y : Bytes) → n ≤ end_of y → end_of y ≡ n + end_of (drop n y)
unfolding end_of
end_drop zero y l = omega arith
end_drop (suc n) [] l = absurd (omega arith)
end_drop (suc n) (b ∷ y) l = elim (test (any (is LF) (b ∷ y))) [
  | pass e ↦
      let z : end_of (b ∷ y) ≡ suc (end_of y) = rw (end_of, e) in
      let i = end_drop n y (omega (arith, z)) in
      omega (arith, z, i)
  | fail e ↦ let z : end_of (b ∷ y) ≡ 0 = rw (end_of, e) in absurd (omega (arith, z))
]

end_some : (n : ℕ) (y : Bytes) → n < end_of y → any (is LF) (drop n y) ≡ true
unfolding end_of
end_some zero [] l = absurd (omega arith)
end_some zero (b ∷ y) l = elim (test (any (is LF) (b ∷ y))) [
  | pass e ↦ e
  | fail e ↦ let z : end_of (b ∷ y) ≡ 0 = rw (end_of, e) in absurd (omega (arith, z))
]
end_some (suc n) [] l = absurd (omega arith)
end_some (suc n) (b ∷ y) l = elim (test (any (is LF) (b ∷ y))) [
  | pass e ↦ let z : end_of (b ∷ y) ≡ suc (end_of y) = rw (end_of, e) in end_some n y (omega (arith, z))
  | fail e ↦ let z : end_of (b ∷ y) ≡ 0 = rw (end_of, e) in absurd (omega (arith, z))
]

pub end_more : (y x : Bytes) → end_of y ≤ end_of (y ++ x)
unfolding end_of
end_more [] x = omega arith
end_more (b ∷ y) x = elim (test (any (is LF) (b ∷ y))) [
  | fail e ↦ let z : end_of (b ∷ y) ≡ 0 = rw (end_of, e) in omega (arith, z)
  | pass e ↦
      let f : any (is LF) (b ∷ (y ++ x)) ≡ true = any_append (is LF) (b ∷ y) x ∙ rw e in
      let z : end_of (b ∷ y) ≡ suc (end_of y) = rw (end_of, e) in
      let w : end_of (b ∷ (y ++ x)) ≡ suc (end_of (y ++ x)) = rw (end_of, f) in
      omega (arith, z, w, end_more y x)
]

-- what stands up to the last LF ends by it

any_kept : (y : Bytes) → any (is LF) y ≡ true → any (is LF) (take (end_of y) y) ≡ true
unfolding end_of any
any_kept [] e = e
any_kept (b ∷ y) e =
    let z : end_of (b ∷ y) ≡ suc (end_of y) = rw (end_of, e) in
    rw z (elim (test (is LF b)) [
      | pass f ↦ rw f
      | fail f ↦ rw f (any_kept y (sym (ap (λ (q : Bool). q || any (is LF) y) f) ∙ e))
    ])

end_kept : (y : Bytes) → end_of (take (end_of y) y) ≡ end_of y
unfolding end_of
end_kept [] = refl
end_kept (b ∷ y) = elim (test (any (is LF) (b ∷ y))) [
  | fail e ↦ let z : end_of (b ∷ y) ≡ 0 = rw (end_of, e) in rw z
  | pass e ↦
      let z : end_of (b ∷ y) ≡ suc (end_of y) = rw (end_of, e) in
      let k : any (is LF) (b ∷ take (end_of y) y) ≡ true = rw z at (any_kept (b ∷ y) e) in
      rw (z, end_of, k, end_kept y)
]

end_there : (n : ℕ) (y : Bytes) → 0 < end_of (drop n y) → end_of (take (n + end_of (drop n y)) y) ≡ n + end_of (drop n y)
unfolding end_of any
end_there zero y l = let z : 0 + end_of y ≡ end_of y = omega arith in rw z (end_kept y)
end_there (suc n) [] l = absurd (omega arith)
end_there (suc n) (b ∷ y) l =
    let m = n + end_of (drop n y) in
    let z : suc n + end_of (drop n y) ≡ suc m = omega arith in
    let i : end_of (take m y) ≡ m = end_there n y l in
    let f : any (is LF) (take m y) ≡ true = end_some 0 (take m y) (omega (arith, i)) in
    let k : any (is LF) (b ∷ take m y) ≡ true = rw f (or_on (is LF b) refl) in
    rw (z, end_of, k, i)

module _ (h : Bytes) (ahead at : ℕ) (l : at ≤ ahead) (m : ahead ≤ length h) {cut : ℕ} (e : cut ≡ last_end (take ahead h) at) where
  long : length (take ahead h) ≡ ahead
  long = simp length-take (omega arith)

  pub cut_inside : cut ≤ ahead
  cut_inside = let d = length-drop at (take ahead h) in omega (arith, e, end_length (drop at (take ahead h)), d, long)

  pub cut_later : at ≤ cut
  cut_later = omega (arith, e)

  pub cut_ends : (cut ≡ at → ⊥) → end_of (take cut h) ≡ cut
  cut_ends n =
      let some : 0 < end_of (drop at (take ahead h)) = omega (arith, e, n) in
      ap end_of (sym (take-take cut ahead h cut_inside)) ∙ ap (λ (k : ℕ). end_of (take k (take ahead h))) e ∙ end_there at (take ahead h) some ∙ sym e

-- a line that begins before the last LF is complete: it is a piece whatever follows
pub record Complete (h x : Bytes) (at : ℕ) (p : Bytes) : Type 0 where
  pub piece : pieces (drop at (h ++ x)) ≡ p ∷ pieces (drop (at + length p) (h ++ x))
  pub before_end : at + length p ≤ end_of h

pub complete : (h x : Bytes) (at : ℕ) (p : Bytes) (ps : List Bytes) → pieces (drop at h) ≡ p ∷ ps → at < end_of h → Complete h x at p
complete h x at p ps e l =
    let y = drop at h in
    let u = before (is LF) y in
    let r = tail (from (is LF) y) in
    let cut : y ≡ u ++ LF ∷ r = sym (before_from (is LF) y) ∙ ap (u ++◌) (from_is LF y (end_some at h l)) in
    let clean = before_none (is LF) y in
    let first : pieces y ≡ (u ++ LF ∷ []) ∷ pieces r = ap pieces cut ∙ pieces_line u r clean in
    let z : (u ++ LF ∷ []) ∷ pieces r ≡ p ∷ ps = sym first ∙ e in
    let is-p : u ++ LF ∷ [] ≡ p = cc in
    let long = end_length h in
    let whole : drop at (h ++ x) ≡ u ++ LF ∷ (r ++ x) = drop-append-le at h x (omega arith) ∙ ap (◌++ x) cut ∙ append_assoc u (LF ∷ r) x in
    let rest : drop (at + length p) (h ++ x) ≡ r ++ x
    = sym (drop-drop (length p) at (h ++ x)) ∙ ap (drop (length p)) (whole ∙ sym (append_assoc u (LF ∷ []) (r ++ x)) ∙ ap (◌++ (r ++ x)) is-p) ∙ drop-append_seam p (r ++ x) in
    let size : length p ≡ length u + 1 = sym (ap length is-p) ∙ length-append u (LF ∷ []) in
    let at_end_lem : end_of h ≡ at + end_of y = end_drop at h (omega arith) in
    let by : end_of y ≡ length u + (1 + end_of r) = ap end_of cut ∙ end_split u r in
    record { piece = ap pieces whole ∙ pieces_line u (r ++ x) clean ∙ ap₂ (λ (a : Bytes) (b : List Bytes). a ∷ b) is-p (ap pieces (sym rest)); before_end = omega (arith, size, at_end_lem, by) }
