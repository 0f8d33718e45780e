-- Tab-parted names: the first one, and those after it. Assumes nothing.
use Prim.Native.Nat.{ℕ, ◌+◌, ◌-◌, ◌≤◌, ◌<◌}
use native.Mathlib.Omega.{arith}
use mathlib.Core.Path.{◌≡◌, refl, sym, ap, ◌∙◌}
use mathlib.Core.Bool.{false}
use mathlib.Core.List.{List, [], ◌∷◌, ◌++◌, append_assoc, append-nil}
use lib.ListN.{length, get_or, drop, take, drop_of_length-le}
use lib.Seq.{take-add, take-append-add, drop-drop}
use borrow.Author.Tests.{eqb-true}
use Rattle.values.specs.Bytes.{Bytes, is, any, before, from, TAB}
use Rattle.values.proofs.Tests.{pass, fail, test, or_l, or_r}
use Rattle.values.proofs.Lists.{here, before_from, from_at, from_first}
use Rattle.values.proofs.Fields.{text_here}
use Rattle.rules.specs.Columns.{split}
use Rattle.columns.specs.HeaderLines.{but_last, ended}

-- the names after a tab
abbrev pub following : Bytes → List Bytes
following [] = []
following (b ∷ bs) = split bs

split_first : (bs : Bytes) → split bs ≡ before (is TAB) bs ∷ following (from (is TAB) bs)
unfolding split before from
split_first [] = refl
split_first (b ∷ bs) = elim (test (is TAB b)) [
  | pass e ↦ rw (split, before, from, e)
  | fail e ↦ rw (split, before, from, e, split_first bs)
]

-- a run without a tab belongs to the first name
pub split_append : (x r : Bytes) → any (is TAB) x ≡ false → split (x ++ r) ≡ (x ++ before (is TAB) r) ∷ following (from (is TAB) r)
unfolding any split
split_append [] r h = split_first r
split_append (b ∷ x) r h = rw (split, or_l (is TAB b) _ h, split_append x r (or_r (is TAB b) _ h))

-- the name that stands at `at`, up to `end`
module _ (s : Bytes) (at : ℕ) {end : ℕ} (a : end ≡ at + length (before (is TAB) (drop at s))) where
  pub name_part : take (end - at) (drop at s) ≡ before (is TAB) (drop at s)
  name_part = rw a (text_here s at (before (is TAB) (drop at s)) (from (is TAB) (drop at s)) (sym (before_from (is TAB) (drop at s)))).0

  split_at : split (drop at s) ≡ before (is TAB) (drop at s) ∷ following (drop end s)
  split_at = split_first (drop at s) ∙ ap (λ (r : Bytes). before (is TAB) (drop at s) ∷ following r) (from_at (is TAB) s at ∙ ap (λ (i : ℕ). drop i s) (sym a))

  pub split_last : length s ≤ end → split (drop at s) ≡ before (is TAB) (drop at s) ∷ []
  split_last h = split_at ∙ rw (drop_of_length-le s h)

  pub split_more : end < length s → split (drop at s) ≡ before (is TAB) (drop at s) ∷ split (drop (end + 1) s)
  split_more h = split_at ∙ rw (here s end h)

  -- its tab follows it
  name_tab : end < length s → drop at s ≡ before (is TAB) (drop at s) ++ TAB ∷ drop (end + 1) s
  name_tab h =
      let f : from (is TAB) (drop at s) ≡ get_or s end 0 ∷ drop (end + 1) s = from_at (is TAB) s at ∙ ap (λ (i : ℕ). drop i s) (sym a) ∙ here s end h in
      let t : get_or s end 0 ≡ TAB = eqb-true (get_or s end 0) TAB (from_first (is TAB) (drop at s) f) in
      sym (before_from (is TAB) (drop at s)) ∙ ap (before (is TAB) (drop at s) ++◌) (f ∙ ap (◌∷ drop (end + 1) s) t)

  -- what stands from k on, up to past its tab
  pub part_tab : (k : ℕ) → k ≤ at → end < length s → take (end + 1 - k) (drop k s) ≡ take (at - k) (drop k s) ++ (before (is TAB) (drop at s) ++ TAB ∷ [])
  part_tab k l h =
      let x = before (is TAB) (drop at s) in
      let n : end + 1 - k ≡ (at - k) + (length x + 1) = omega arith in
      let m : k + (at - k) ≡ at = omega arith in
      let d : drop (at - k) (drop k s) ≡ drop at s = drop-drop (at - k) k s ∙ ap (λ (i : ℕ). drop i s) m in
      rw n (take-add (at - k) (length x + 1) (drop k s))
      ∙ ap (take (at - k) (drop k s) ++◌) (ap (take (length x + 1)) (d ∙ name_tab h) ∙ take-append-add x (TAB ∷ drop (end + 1) s) 1)

  pub ended_none : length s ≤ end → ended (drop at s) ≡ []
  unfolding ended
  ended_none h = rw (split_last h)

  pub ended_more : end < length s → ended (drop at s) ≡ before (is TAB) (drop at s) ∷ ended (drop (end + 1) s)
  unfolding ended
  ended_more h = rw (split_more h, split_first (drop (end + 1) s))

-- where the names in p end, others may follow
pub ended_names : (p : Bytes) (xs : List Bytes) → ((t : Bytes) → split (p ++ t) ≡ xs ++ split t) → ended p ≡ xs
unfolding ended split
ended_names p xs e = ap but_last (ap split (sym (append-nil p)) ∙ e []) ∙ go xs
  where
    go : (xs : List Bytes) → but_last (xs ++ [] ∷ []) ≡ xs
    go [] = refl
    go (x ∷ []) = refl
    go (x ∷ y ∷ xs) = ap (x ∷◌) (go (y ∷ xs))

-- one more name, and its tab
pub names_more : (p : Bytes) (xs : List Bytes) → ((t : Bytes) → split (p ++ t) ≡ xs ++ split t) → (x : Bytes) → any (is TAB) x ≡ false
    → (t : Bytes) → split ((p ++ (x ++ TAB ∷ [])) ++ t) ≡ (xs ++ x ∷ []) ++ split t
unfolding before from
names_more p xs e x h t =
    let one : split (x ++ TAB ∷ t) ≡ x ∷ split t = split_append x (TAB ∷ t) h ∙ ap (◌∷ split t) (append-nil x) in
    ap split (append_assoc p (x ++ TAB ∷ []) t ∙ ap (p ++◌) (append_assoc x (TAB ∷ []) t))
    ∙ e (x ++ TAB ∷ t) ∙ ap (xs ++◌) one ∙ sym (append_assoc xs (x ∷ []) (split t))
