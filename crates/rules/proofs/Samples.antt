-- The column line: what is read of it is good, and what is written is read back. Assumes nothing.
use Prim.Native.Nat.{ℕ}
use native.Mathlib.Omega.{arith}
use mathlib.Core.Path.{◌≡◌, refl, sym, ap, ap₂, ◌∙◌}
use mathlib.Core.Bool.{Bool, true, false, not, ◌&&◌, true≢false}
use mathlib.Core.List.{List, [], ◌∷◌, ◌++◌, append_assoc, append-nil}
use Rattle.std.specs.Prelude.{Option, None, Some}
use borrow.Author.Tests.{eqb-true}
use Rattle.values.specs.Bytes.{Bytes, LF, ascii, is, any, same, starts, TAB}
use Rattle.values.specs.Utf8.{completes, followers, is_utf8}
use Rattle.values.proofs.Tests.{pass, fail, test, or_l, or_r, and_l, and_r, not_true}
use Rattle.values.proofs.Lists.{OnSome, any_append}
use Rattle.rules.specs.Answer.{ok, unless}
use Rattle.rules.specs.Columns.{Columns, split, column_names, after_columns, distinct, formatted, read_columns}
use Rattle.rules.specs.House.{parted, write_columns}
use Rattle.rules.proofs.Firsts.{OnOk, judged_ok, zero_unless}
use Rattle.values.proofs.Sames.{same_sound}
use Rattle.rules.proofs.Alls.{all_map, all_append}
use Rattle.rules.proofs.Pure.{Pure, pure_nil, Plain, pure_join, pure_split}
use Rattle.rules.specs.Claims.{All}
use Rattle.rules.specs.Lines.{push}

-- a column: no tab
pub record GoodName (x : Bytes) : Type 0 where
  pub tabless : any (is TAB) x ≡ false
  pub pure : Pure x

split_tab : (b : ℕ) (bs : Bytes) → is TAB b ≡ true → split (b ∷ bs) ≡ [] ∷ split bs
unfolding split
split_tab b bs e = rw (e, split)

split_add : (b : ℕ) (bs : Bytes) → is TAB b ≡ false → split (b ∷ bs) ≡ push b (split bs)
unfolding split
split_add b bs e = rw (e, split)

split_one : (x : Bytes) → any (is TAB) x ≡ false → split x ≡ x ∷ []
unfolding any split
split_one [] h = refl
split_one (b ∷ x) h = split_add b x (or_l (is TAB b) _ h) ∙ ap (push b) (split_one x (or_r (is TAB b) _ h))

split_more : (x r : Bytes) → any (is TAB) x ≡ false → split (x ++ TAB ∷ r) ≡ x ∷ split r
unfolding any
split_more [] r h = split_tab TAB r refl
split_more (b ∷ x) r h = split_add b (x ++ TAB ∷ r) (or_l (is TAB b) _ h) ∙ ap (push b) (split_more x r (or_r (is TAB b) _ h))

-- what is parted by tabs is split into the same
split_parted : (x : Bytes) (xs : List Bytes) → All (λ y. any (is TAB) y ≡ false) (x ∷ xs) → split (parted (x ∷ xs)) ≡ x ∷ xs
unfolding parted
split_parted x [] h = split_one x h.0
split_parted x (y ∷ xs) h = split_more x (parted (y ∷ xs)) h.0 ∙ ap (x ∷◌) (split_parted y xs h.1)

tab_plain : Plain TAB
tab_plain = record { ascii = omega arith; other = refl }

pure_parted : (xs : List Bytes) → All Pure xs → Pure (parted xs)
unfolding parted
pure_parted [] h = pure_nil
pure_parted (x ∷ []) h = h.0
pure_parted (x ∷ y ∷ xs) h = pure_join tab_plain h.0 (pure_parted (y ∷ xs) h.1)

-- the columns of a line are good: p stands before the rest of the first one
abbrev prefix : Bytes → List Bytes → List Bytes
prefix p [] = p ∷ []
prefix p (x ∷ xs) = (p ++ x) ∷ xs

prefix_add : (p : Bytes) (b : ℕ) (xs : List Bytes) → prefix p (push b xs) ≡ prefix (p ++ b ∷ []) xs
prefix_add p b [] = refl
prefix_add p b (x ∷ xs) = ap (◌∷ xs) (sym (append_assoc p (b ∷ []) x))

unprefix : (xs : List Bytes) → All GoodName (prefix [] xs) → All GoodName xs
unprefix [] k = tt
unprefix (x ∷ xs) k = k

split_good : (p bs : Bytes) → any (is TAB) p ≡ false → Pure (p ++ bs) → All GoodName (prefix p (split bs))
unfolding split any
split_good p [] h g = (record { tabless = rw (append-nil p) h; pure = g }, tt)
split_good p (b ∷ bs) h g = elim (test (is TAB b)) [
  | pass e ↦
      let d = pure_split p b bs (omega (arith, eqb-true b TAB e)) g in
      rw (split_tab b bs e) (record { tabless = rw (append-nil p) h; pure = rw (append-nil p) d.0 }, unprefix (split bs) (split_good [] bs refl d.1))
  | fail e ↦ rw (split_add b bs e, prefix_add p b (split bs))
      (split_good (p ++ b ∷ []) bs (any_append (is TAB) p (b ∷ []) ∙ rw (h, e)) (rw (append_assoc p (b ∷ []) bs) g))
]

-- FORMAT stands where there are samples, and no two are the same
pub record GoodColumns (c : Columns) : Type 0 where
  pub names : All GoodName c.samples
  pub once : distinct c.samples ≡ true
  pub formatted : c.format ≡ false → c.samples ≡ []

after_good : (ns xs : List Bytes) → All GoodName xs → OnSome (All GoodName) (after_columns ns xs)
unfolding after_columns
after_good [] xs h = h
after_good (n ∷ ns) [] h = tt
after_good (n ∷ ns) (x ∷ xs) h = elim (test (same x n)) [
  | pass e ↦ rw (after_columns, e) (after_good ns xs h.1)
  | fail e ↦ rw (after_columns, e) tt
]

formatted_good : (a : Option (List Bytes)) → OnSome (All GoodName) a → OnOk GoodColumns (formatted a)
unfolding distinct
formatted_good None h = tt
formatted_good (Some []) h = record { names = tt; once = refl; formatted = λ e. refl }
formatted_good (Some (x ∷ xs)) h = elim (test (same x (ascii "FORMAT"))) [
  | pass e ↦ rw (formatted, e) (judged_ok GoodColumns (unless (distinct xs) 23) _ (λ z. record { names = h.1; once = zero_unless (distinct xs) 22 z; formatted = λ q. absurd (true≢false q) }))
  | fail e ↦ rw (formatted, e) tt
]

pub columns_good : (l : Bytes) → Pure l → OnOk GoodColumns (read_columns l)
unfolding read_columns any
columns_good l g = formatted_good (after_columns column_names (split l)) (after_good column_names (split l) (unprefix (split l) (split_good [] l refl g)))

-- What is written is read back

abbrev is_name : Bytes → Bool
is_name x = not (any (is TAB) x) && (is_utf8 x && not (any (is LF) x))

abbrev are_names : List Bytes → Bool
are_names [] = true
are_names (x ∷ xs) = is_name x && are_names xs

all_names : (xs : List Bytes) → are_names xs ≡ true → All GoodName xs
all_names [] h = tt
all_names (x ∷ xs) h =
    let n = and_l (is_name x) (are_names xs) h in
    let p = and_r (not (any (is TAB) x)) (is_utf8 x && not (any (is LF) x)) n in (
      record {
        tabless = not_true (any (is TAB) x) (and_l (not (any (is TAB) x)) _ n);
        pure = record { utf8 = and_l (is_utf8 x) _ p; line = not_true (any (is LF) x) (and_r (is_utf8 x) _ p) };
      },
      all_names xs (and_r (is_name x) (are_names xs) h),
    )

-- the columns of a line that is written
abbrev pub columns_of : Bool → List Bytes → List Bytes
columns_of format samples = column_names ++ elim format [ true ↦ ascii "FORMAT" ∷ samples | false ↦ [] ]

written_names : (format : Bool) (samples : List Bytes) → All GoodName samples → All GoodName (columns_of format samples)
unfolding any completes followers
written_names true samples h = all_append GoodName column_names (ascii "FORMAT" ∷ samples) (all_names column_names refl) ((all_names (ascii "FORMAT" ∷ []) refl).0, h)
written_names false samples h = all_names column_names refl

pub columns_pure : (c : Columns) → GoodColumns c → Pure (write_columns c.format c.samples)
unfolding write_columns
columns_pure c g = pure_parted (columns_of c.format c.samples) (all_map GoodName Pure (columns_of c.format c.samples) (λ x h. h.pure) (written_names c.format c.samples g.names))

pub columns_back : (c : Columns) → GoodColumns c → read_columns (write_columns c.format c.samples) ≡ ok c
unfolding read_columns write_columns after_columns same
columns_back c g = rw (split_parted (ascii "#CHROM") _ tabless) (go c.format c.samples g.once g.formatted)
  where
    tabless : All (λ y. any (is TAB) y ≡ false) (columns_of c.format c.samples)
    tabless = all_map GoodName (λ y. any (is TAB) y ≡ false) (columns_of c.format c.samples) (λ x h. h.tabless) (written_names c.format c.samples g.names)

    go : (format : Bool) (samples : List Bytes) → distinct samples ≡ true → (format ≡ false → samples ≡ [])
        → formatted (after_columns column_names (columns_of format samples)) ≡ ok (record { format = format; samples = samples })
    go true samples d n = rw d
    go false samples d n = rw (n refl)

pub columns_start : (format : Bool) (samples : List Bytes) → starts (ascii "#CHROM") (write_columns format samples) ≡ true
unfolding starts write_columns parted
columns_start true samples = refl
columns_start false samples = refl

-- A column line that was read is the one that would be written

parted_add : (b : ℕ) (x : Bytes) (xs : List Bytes) → parted (push b (x ∷ xs)) ≡ b ∷ parted (x ∷ xs)
unfolding parted
parted_add b x [] = refl
parted_add b x (y ∷ xs) = refl

-- a line is split into one column or more
pub data Split (l : Bytes) : Type 0 where
  columns : (x : Bytes) (xs : List Bytes) → split l ≡ x ∷ xs → parted (x ∷ xs) ≡ l → Split l

pub split_in : (l : Bytes) → Split l
unfolding split parted
split_in [] = columns [] [] refl refl
split_in (b ∷ l) = elim (test (is TAB b)) [
  | pass e ↦ elim (split_in l) [ columns x xs q p ↦ columns [] (x ∷ xs) (split_tab b l e ∙ ap ([] ∷◌) q) (ap₂ ◌∷◌ (sym (eqb-true b TAB e)) p) ]
  | fail e ↦ elim (split_in l) [ columns x xs q p ↦ columns (b ∷ x) xs (split_add b l e ∙ ap (push b) q) (parted_add b x xs ∙ ap (b ∷◌) p) ]
]

after_in : (ns xs : List Bytes) → OnSome (λ r. xs ≡ ns ++ r) (after_columns ns xs)
unfolding after_columns
after_in [] xs = refl
after_in (n ∷ ns) [] = tt
after_in (n ∷ ns) (x ∷ xs) = elim (test (same x n)) [
  | pass e ↦ rw (after_columns, e) (more (after_columns ns xs) (after_in ns xs) (same_sound x n e))
  | fail e ↦ rw (after_columns, e) tt
]
  where
    more : (a : Option (List Bytes)) → OnSome (λ r. xs ≡ ns ++ r) a → x ≡ n → OnSome (λ r. x ∷ xs ≡ n ∷ ns ++ r) a
    more None h e = tt
    more (Some r) h e = ap₂ ◌∷◌ e h

pub columns_in : (l : Bytes) → OnOk (λ c. write_columns c.format c.samples ≡ l) (read_columns l)
unfolding read_columns write_columns
columns_in l = elim (split_in l) [ columns x xs q p ↦ rw q (go x xs p (after_columns column_names (x ∷ xs)) (after_in column_names (x ∷ xs))) ]
  where
    go : (x : Bytes) (xs : List Bytes) → parted (x ∷ xs) ≡ l → (a : Option (List Bytes)) → OnSome (λ r. x ∷ xs ≡ column_names ++ r) a
        → OnOk (λ c. parted (columns_of c.format c.samples) ≡ l) (formatted a)
    go x xs p None h = tt
    go x xs p (Some []) h = sym (ap parted h) ∙ p
    go x xs p (Some (y ∷ ys)) h = elim (test (same y (ascii "FORMAT"))) [
      | pass e ↦ rw (formatted, e) (judged_ok (λ c. parted (columns_of c.format c.samples) ≡ l) (unless (distinct ys) 23) _
          (λ z. ap (λ (w : Bytes). parted (column_names ++ w ∷ ys)) (sym (same_sound y (ascii "FORMAT") e)) ∙ sym (ap parted h) ∙ p))
      | fail e ↦ rw (formatted, e) tt
    ]
