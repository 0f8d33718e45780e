-- The column line by its constant beginning: no FORMAT, FORMAT alone, or names after it. Assumes nothing.
use Rattle.std.specs.Prelude.{Result, Ok, Err}
use Prim.Native.Nat.{◌-◌, ◌≤◌, ◌<◌, ℕ}
use native.Mathlib.Omega.{arith}
use mathlib.Core.Path.{◌≡◌, refl, sym, ap, subst, ◌∙◌}
use mathlib.Core.Bool.{Bool, true, false, not}
use mathlib.Core.List.{List, [], ◌∷◌, ◌++◌}
use lib.ListN.{length, drop, take, length-drop, drop_of_length-le}
use lib.Seq.{drop-drop}
use borrow.Author.Tests.{eqb-true}
use Rattle.values.specs.Bytes.{Bytes, ascii, is, any, before, from, starts, same, TAB}
use Rattle.values.proofs.Tests.{Test, pass, fail, test, both, not_true, not_false, never}
use Rattle.values.proofs.Lists.{rest}
use Rattle.values.proofs.Sames.{same_self, same_sound}
use Rattle.rules.specs.Answer.{ok, refuse, unless, judged}
use Rattle.rules.specs.Columns.{Columns, split, distinct, formatted, read_columns}
use Rattle.rules.specs.House.{parted}
use Rattle.rules.proofs.Records.{starts_is}
use Rattle.rules.proofs.Samples.{columns, split_in}
use Rattle.columns.specs.declared.header_line.ColumnsRefusal.{ColumnsRefusal}
use Rattle.columns.specs.declared.header_line.ColumnsRefusal.TheVariants as read
use Rattle.columns.specs.HeaderLines.{HeaderRead, samples_read}
use Rattle.columns.proofs.Splits.{split_append}
use Rattle.columns.proofs.Prefixes.{starts_self, after_last, columns_stand, no_columns}

abbrev pub fixed : Bytes
fixed = ascii "#CHROM\tPOS\tID\tREF\tALT\tQUAL\tFILTER\tINFO"

abbrev pub FORMAT-alone : Bytes
FORMAT-alone = ascii "\tFORMAT"

abbrev pub FORMAT-names : Bytes
FORMAT-names = ascii "\tFORMAT\t"

pub no_fixed : (s : Bytes) → starts fixed s ≡ false → read_columns s ≡ refuse 22
unfolding read_columns parted
no_fixed s h = rw (no_columns (ascii "#CHROM") _ s h)

pub fixed_stand : (s : Bytes) → starts fixed s ≡ true → read_columns s ≡ formatted (after_last (drop 38 s))
unfolding read_columns parted any
fixed_stand s h = ap read_columns (starts_is fixed s h) ∙ ap formatted (columns_stand (ascii "#CHROM") _ (drop 38 s) (refl, (refl, (refl, (refl, (refl, (refl, (refl, (refl, tt)))))))))

abbrev pub named : List Bytes → Columns
named xs = record { format = true; samples = xs }

-- what stands after the fixed columns
pub data Ending (r : Bytes) : Type 0 where
  no_format : r ≡ [] → Ending r
  alone : r ≡ FORMAT-alone → Ending r
  names : (t : Bytes) → r ≡ FORMAT-names ++ t → Ending r
  wrong : formatted (after_last r) ≡ refuse 22 → Ending r

pub ending : (r : Bytes) → Ending r
unfolding parted
ending [] = no_format refl
ending (b ∷ r) = elim (test (is TAB b)) [
  | pass e ↦ elim (split_in r) [ columns x xs q p ↦ go x xs (eqb-true b TAB e) q p (test (same x (ascii "FORMAT"))) ]
  | fail e ↦ wrong (rw (after_last, e))
]
  where
    go : (x : Bytes) (xs : List Bytes) → b ≡ TAB → split r ≡ x ∷ xs → parted (x ∷ xs) ≡ r → Test (same x (ascii "FORMAT")) → Ending (b ∷ r)
    go x xs h q p (fail f) = wrong (rw (h, q) (rw (formatted, f)))
    go x [] h q p (pass f) = alone (rw (h, ← p, same_sound x (ascii "FORMAT") f))
    go x (y ∷ xs) h q p (pass f) = names (parted (y ∷ xs)) (rw (h, ← p, same_sound x (ascii "FORMAT") f))

pub names_stand : (t : Bytes) → formatted (after_last (FORMAT-names ++ t)) ≡ judged (unless (distinct (split t)) 23) (named (split t))
unfolding any same before from
names_stand t = rw (split_append (ascii "FORMAT") (TAB ∷ t) refl)

judged_line : (s : Bytes) (xs : List Bytes) → read_columns s ≡ judged (unless (distinct xs) 23) (named xs) → HeaderRead s (samples_read (distinct xs) (length xs))
unfolding HeaderRead
judged_line s xs e = elim (test (distinct xs)) [
  | pass d ↦ rw d (named xs, e ∙ rw d, refl, refl)
  | fail d ↦ rw d (e ∙ rw d)
]

-- the answers of the code, by its tests
module _ (s : Bytes) {q : Bool} (a : q ≡ starts fixed s) where
  pub wrong_start : not q ≡ true → HeaderRead s (Err read.WrongColumn)
  unfolding HeaderRead
  wrong_start e = no_fixed s (sym a ∙ not_true q e)

  module _ (e : not q ≡ false) {r : Bytes} (b : r ≡ take (length s - 38) (drop 38 s)) where
    whole : read_columns s ≡ formatted (after_last r)
    whole = fixed_stand s (sym a ∙ not_false q e) ∙ ap (λ (x : Bytes). formatted (after_last x)) (sym (b ∙ rest s 38))

    pub bare_line : length r ≡ 0 → HeaderRead s (Ok (false, 0))
    unfolding HeaderRead
    bare_line h = (record { format = false; samples = [] }, whole ∙ rw (drop_of_length-le r {i = 0} (omega arith)), refl, refl)

    -- f tells whether nothing follows FORMAT
    module _ {f : Bool} (c : f ≡ same r FORMAT-alone) where
      pub format_line_lem : f ≡ true → HeaderRead s (Ok (true, 0))
      unfolding HeaderRead split same distinct
      format_line_lem h = (named [], whole ∙ rw (same_sound r FORMAT-alone (sym c ∙ h)), refl, refl)

      -- g tells whether names do
      module _ {g : Bool} (d : g ≡ starts FORMAT-names r) where
        pub wrong_format : (length r ≡ 0 → ⊥) → f ≡ false → not g ≡ true → HeaderRead s (Err read.WrongColumn)
        unfolding HeaderRead
        wrong_format n h k = elim (ending r) [
          | no_format z ↦ absurd (n (ap length z))
          | alone z ↦ both (rw z (same_self FORMAT-alone)) (sym c ∙ h)
          | names t z ↦ both (rw z (starts_self FORMAT-names t)) (sym d ∙ not_true g k)
          | wrong z ↦ whole ∙ z
        ]

        pub names_line : not g ≡ false → (x : Result (Bool × ℕ) ColumnsRefusal) → x ≡ samples_read (distinct (split (drop 46 s))) (length (split (drop 46 s))) → HeaderRead s x
        names_line h x k = subst (HeaderRead s) (sym k) (judged_line s (split (drop 46 s))
            (whole ∙ rw (starts_is FORMAT-names r (sym d ∙ not_false g h), names_stand (drop 8 r), b, rest s 38, drop-drop 8 38 s)))

pub ruleset lines = (wrong_start, bare_line, format_line_lem, names_line, wrong_format)

-- An accepted line tells by its length whether it has names

pub data Accepted (s : Bytes) (c : Columns) : Type 0 where
  nameless : length s < 46 → c.samples ≡ [] → Accepted s c
  with_names : 46 ≤ length s → c.samples ≡ split (drop 46 s) → Accepted s c

judged_names : (xs : List Bytes) (c : Columns) → judged (unless (distinct xs) 23) (named xs) ≡ ok c → c.samples ≡ xs
judged_names xs c e = elim (test (distinct xs)) [
  | pass d ↦ cc (rw d at e)
  | fail d ↦ never (cc (rw d at e))
]

pub accepted : (s : Bytes) (c : Columns) → read_columns s ≡ ok c → Accepted s c
unfolding split same distinct
accepted s c e = elim (test (starts fixed s)) [
  | fail h ↦ never (cc (no_fixed s h))
  | pass h ↦
      let f = sym (fixed_stand s h) ∙ e in
      let l = length-drop 38 s in
      elim (ending (drop 38 s)) [
        | no_format z ↦ let n = ap length z in nameless (omega arith) (cc (rw z at f))
        | alone z ↦ let n = ap length z in nameless (omega arith) (cc (rw z at f))
        | names t z ↦
            let n = ap length z in
            let d = sym (drop-drop 8 38 s) ∙ ap (drop 8) z in
            with_names (omega arith) (rw d (judged_names (split t) c (sym (names_stand t) ∙ (rw z at f))))
        | wrong z ↦ never cc
      ]
]
