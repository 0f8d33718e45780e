-- Columns that stand first, against the bytes that they are written with. Assumes nothing.
use native.Mathlib.Omega.{arith}
use mathlib.Core.Path.{◌≡◌, refl, sym, ap, ◌∙◌, subst}
use mathlib.Core.Bool.{true, false}
use mathlib.Core.List.{List, [], ◌∷◌, ◌++◌, append_assoc, append-nil}
use Rattle.std.specs.Prelude.{Option, None, Some}
use lib.ListN.{length, length-append}
use borrow.Author.Tests.{eq-eqb}
use Rattle.values.specs.Bytes.{Bytes, is, any, before, from, starts, same, TAB}
use Rattle.values.proofs.Tests.{pass, fail, test, both}
use Rattle.values.proofs.Lists.{before_hit, before_miss, from_hit}
use Rattle.values.proofs.Sames.{same_self, same_sound, differ}
use Rattle.rules.specs.Columns.{split, after_columns}
use Rattle.rules.specs.House.{parted}
use Rattle.rules.proofs.Samples.{columns, split_in}
use Rattle.columns.proofs.Splits.{split_append}
use Rattle.rules.specs.Claims.{All}

pub starts_both : (p q l : Bytes) → starts (p ++ q) (p ++ l) ≡ starts q l
unfolding starts
starts_both [] q l = refl
starts_both (b ∷ p) q l = rw (starts, eq-eqb b b refl) (starts_both p q l)

pub starts_self : (p l : Bytes) → starts p (p ++ l) ≡ true
unfolding starts
starts_self [] l = refl
starts_self (b ∷ p) l = rw (starts, eq-eqb b b refl) (starts_self p l)

-- what stands right after the last of these columns: nothing, or a tab and more columns
abbrev pub after_last : Bytes → Option (List Bytes)
after_last [] = Some []
after_last (b ∷ r) = elim (is TAB b) [ true ↦ Some (split r) | false ↦ None ]

after_hit : (n x : Bytes) (ns xs : List Bytes) → x ≡ n → after_columns (n ∷ ns) (x ∷ xs) ≡ after_columns ns xs
unfolding after_columns
after_hit n x ns xs e = rw (e, after_columns, same_self n)

after_miss : (n x : Bytes) (ns xs : List Bytes) → same x n ≡ false → after_columns (n ∷ ns) (x ∷ xs) ≡ None
unfolding after_columns
after_miss n x ns xs e = rw (after_columns, e)

one_column : (n r : Bytes) → any (is TAB) n ≡ false → after_columns (n ∷ []) (split (n ++ r)) ≡ after_last r
unfolding after_columns before from
one_column n [] h = rw (split_append n [] h) (after_hit n (n ++ []) [] [] (append-nil n))
one_column n (b ∷ r) h = elim (test (is TAB b)) [
  | pass e ↦ rw (split_append n (b ∷ r) h, before_hit (is TAB) b r e, from_hit (is TAB) b r e, after_last, e) (after_hit n (n ++ []) [] (split r) (append-nil n))
  | fail e ↦ rw (split_append n (b ∷ r) h, before_miss (is TAB) b r e, after_last, e)
      (after_miss n (n ++ b ∷ before (is TAB) r) [] _ (differ (n ++ b ∷ before (is TAB) r) n (λ q.
      let z = sym (length-append n (b ∷ before (is TAB) r)) ∙ ap length q in absurd (omega arith))))
]

pub columns_stand : (n : Bytes) (ns : List Bytes) (r : Bytes) → All (λ x. any (is TAB) x ≡ false) (n ∷ ns)
    → after_columns (n ∷ ns) (split (parted (n ∷ ns) ++ r)) ≡ after_last r
unfolding parted before from
columns_stand n [] r h = one_column n r h.0
columns_stand n (m ∷ ns) r h =
    let l = parted (m ∷ ns) ++ r in
    rw (append_assoc n (TAB ∷ parted (m ∷ ns)) r, split_append n (TAB ∷ l) h.0)
    (after_hit n (n ++ []) (m ∷ ns) (split l) (append-nil n) ∙ columns_stand m ns r h.1)

starts_first : (n : Bytes) (xs : List Bytes) → starts n (parted (n ∷ xs)) ≡ true
unfolding parted
starts_first n [] = ap (starts n) (sym (append-nil n)) ∙ starts_self n []
starts_first n (y ∷ xs) = starts_self n (TAB ∷ parted (y ∷ xs))

columns_differ : (n : Bytes) (ns : List Bytes) (x : Bytes) (xs : List Bytes) → starts (parted (n ∷ ns)) (parted (x ∷ xs)) ≡ false → after_columns (n ∷ ns) (x ∷ xs) ≡ None
unfolding parted starts after_columns
columns_differ n [] x xs h = elim (test (same x n)) [
  | pass e ↦ both (starts_first n xs) (subst (λ z. starts (parted (n ∷ [])) (parted (z ∷ xs)) ≡ false) (same_sound x n e) h)
  | fail e ↦ after_miss n x [] xs e
]
columns_differ n (m ∷ ns) x [] h = elim (test (same x n)) [
  | pass e ↦ after_hit n x (m ∷ ns) [] (same_sound x n e)
  | fail e ↦ after_miss n x (m ∷ ns) [] e
]
columns_differ n (m ∷ ns) x (y ∷ xs) h = elim (test (same x n)) [
  | pass e ↦ after_hit n x (m ∷ ns) (y ∷ xs) (same_sound x n e)
      ∙ columns_differ m ns y xs (sym (starts_both n (TAB ∷ parted (m ∷ ns)) (TAB ∷ parted (y ∷ xs))) ∙ (rw (same_sound x n e) at h))
  | fail e ↦ after_miss n x (m ∷ ns) (y ∷ xs) e
]

pub no_columns : (n : Bytes) (ns : List Bytes) (l : Bytes) → starts (parted (n ∷ ns)) l ≡ false → after_columns (n ∷ ns) (split l) ≡ None
no_columns n ns l h = elim (split_in l) [ columns x xs q p ↦ rw q (columns_differ n ns x xs (rw p h)) ]
