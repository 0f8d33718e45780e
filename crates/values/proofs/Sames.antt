-- Equal runs of bytes, and how the code compares them. Assumes nothing.
use Prim.Native.Nat.{ℕ, ◌+◌, ◌-◌, ◌≤◌, ◌<◌}
use native.Mathlib.Omega.{arith}
use mathlib.Core.Path.{◌≡◌, refl, sym, ap, ap₂, ◌∙◌}
use mathlib.Core.Bool.{Bool, true, false}
use mathlib.Core.List.{[], ◌∷◌}
use lib.Dec.{eqb}
use lib.Pointwise.{pointwise}
use lib.ListN.{length, get_or, drop, take, length-drop, drop_of_length-le}
use lib.Seq.{take_all, take-nil}
use borrow.Author.Tests.{eqb-true, eq-eqb, ne_eqb}
use Rattle.values.specs.Bytes.{Bytes, starts, same}
use Rattle.values.proofs.Tests.{pass, fail, test, both}
use Rattle.values.proofs.Lists.{here}

pub same_hit : (x y : ℕ) (xs ys : Bytes) → x ≡ y → same (x ∷ xs) (y ∷ ys) ≡ same xs ys
unfolding same
same_hit x y xs ys e = rw (eq-eqb x y e, same)

pub same_miss : (x y : ℕ) (xs ys : Bytes) → (x ≡ y → ⊥) → same (x ∷ xs) (y ∷ ys) ≡ false
unfolding same
same_miss x y xs ys ne = rw (ne_eqb x y ne, same)

pub same_sound : (xs ys : Bytes) → same xs ys ≡ true → xs ≡ ys
unfolding same
same_sound [] [] e = refl
same_sound [] (y ∷ ys) e = cc
same_sound (x ∷ xs) [] e = cc
same_sound (x ∷ xs) (y ∷ ys) e = elim (test (eqb x y)) [
  | pass q ↦ ap₂ ◌∷◌ (eqb-true x y q) (same_sound xs ys (rw (same, q) at e))
  | fail q ↦ let z = rw (same, q) at e in cc
]

pub same_self : (xs : Bytes) → same xs xs ≡ true
unfolding same
same_self [] = refl
same_self (x ∷ xs) = rw (same, eq-eqb x x refl) (same_self xs)

pub same_sym : (xs ys : Bytes) → same xs ys ≡ same ys xs
same_sym xs ys = elim (test (same xs ys)) [
  | pass e ↦ rw (same_sound xs ys e)
  | fail e ↦ elim (test (same ys xs)) [
    | pass f ↦ both (rw (same_sound ys xs f) (same_self xs)) e
    | fail f ↦ e ∙ sym f
  ]
]

pub differ : (xs ys : Bytes) → (xs ≡ ys → ⊥) → same xs ys ≡ false
differ xs ys n = elim (test (same xs ys)) [ pass e ↦ absurd (n (same_sound xs ys e)) | fail e ↦ e ]

-- the bytes from i on are the same
pub record Ending (a b : Bytes) (i : ℕ) : Type 0 where
  pub long : length a ≡ length b
  pub inside : i ≤ length a
  pub still : same (drop i a) (drop i b) ≡ true

pub lengths_differ : (a b : Bytes) → (length a ≡ length b → ⊥) → false ≡ same a b
lengths_differ a b n = sym (differ a b (λ e. n (ap length e)))

pub end_same : (a b : Bytes) → length a ≡ length b → Ending a b (length a)
end_same a b e = record {
  long = e;
  inside = omega arith;
  still = rw (drop_of_length-le a {i = length a} (omega arith), drop_of_length-le b {i = length a} (omega arith)) (same_self []);
}

module _ {a b : Bytes} {i : ℕ} (g : Ending a b i) where
  pub bytes_differ : 0 < i → (get_or a (i - 1) 0 ≡ get_or b (i - 1) 0 → ⊥) → false ≡ same a b
  bytes_differ h n = sym (differ a b (λ e. n (ap (λ (x : Bytes). get_or x (i - 1) 0) e)))

  pub bytes_agree : 0 < i → get_or a (i - 1) 0 ≡ get_or b (i - 1) 0 → Ending a b (i - 1)
  bytes_agree h e =
      let n : i - 1 + 1 ≡ i = omega arith in
      let l = g.long in
      let s = g.inside in
      record {
        long = l;
        inside = omega arith;
        still = rw (here a (i - 1) (omega arith), here b (i - 1) (omega arith), same_hit (get_or a (i - 1) 0) (get_or b (i - 1) 0) (drop (i - 1 + 1) a) (drop (i - 1 + 1) b) e, n) g.still;
      }

  pub all_agree : i ≤ 0 → true ≡ same a b
  all_agree h = let z : i ≡ 0 = omega arith in sym (rw z at g.still)

pub ruleset sames = (lengths_differ, end_same, bytes_differ, bytes_agree, all_agree)

-- the library's test of a prefix is that of the rules
starts_pointwise : (p s : Bytes) → pointwise eqb p (take (length p) s) ≡ starts p s
unfolding starts
starts_pointwise [] s = refl
starts_pointwise (c ∷ p) [] = refl
starts_pointwise (c ∷ p) (b ∷ s) = elim (test (eqb b c)) [
  | pass e ↦ rw (starts, e, eqb-true b c e, eq-eqb c c refl) (starts_pointwise p s)
  | fail e ↦ rw (starts, e, ne_eqb c b (λ z. both (eq-eqb b c (sym z)) e))
]

-- what answers the needs of `starts_with`
pub starts_by : (p s : Bytes) {q : Bool} → q ≡ pointwise eqb p (take (length p) s) → q ≡ starts p s
starts_by p s e = e ∙ starts_pointwise p s

-- A part of a slice, as far as there is any

module _ (s : Bytes) (start n : ℕ) where
  pub piece_past : length s ≤ start → take 0 s ≡ take n (drop start s)
  piece_past h = rw (drop_of_length-le s h, take-nil n)

  pub piece_rest : length s - start < n → take (length s - start) (drop start s) ≡ take n (drop start s)
  piece_rest h =
      let l = length-drop start s in
      take_all (length s - start) (drop start s) (omega arith) ∙ sym (take_all n (drop start s) (omega arith))

  pub piece_whole : take (start + n - start) (drop start s) ≡ take n (drop start s)
  piece_whole = let e : start + n - start ≡ n = omega arith in rw e

pub ruleset pieces = (piece_past, piece_rest, piece_whole)

module _ (s : Bytes) (start end : ℕ) where
  pub part_past : length s ≤ start → take 0 s ≡ take (end - start) (drop start s)
  part_past h = piece_past s start (end - start) h

  pub part_none : end ≤ start → take 0 s ≡ take (end - start) (drop start s)
  part_none h = let z : end - start ≡ 0 = omega arith in rw z

  pub part_rest : length s < end → take (length s - start) (drop start s) ≡ take (end - start) (drop start s)
  part_rest h =
      let l = length-drop start s in
      take_all (length s - start) (drop start s) (omega arith) ∙ sym (take_all (end - start) (drop start s) (omega arith))

pub ruleset parts = (part_past, part_none, part_rest)
