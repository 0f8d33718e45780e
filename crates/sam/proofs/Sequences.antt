-- What the code tells of an `@SQ` line, on plain values. Assumes nothing.
use Prim.Native.Nat.{ℕ, zero, suc, ◌≤◌, ◌<◌}
use native.Mathlib.Omega.{arith}
use mathlib.Core.Path.{◌≡◌, refl, sym, ap, ◌∙◌}
use mathlib.Core.Bool.{Bool, true, false, not, false≢true}
use mathlib.Core.List.{[], ◌∷◌, ◌++◌}
use Rattle.std.specs.Prelude.{None, Some, Option, Ok, Err}
use lib.ListN.{length, drop}
use borrow.Author.Tests.{le-leb, lt-leb}
use Rattle.values.specs.Bytes.{Bytes, ascii, is, starts, same, any, TAB}
use Rattle.values.specs.Utf8.{is_utf8}
use Rattle.values.specs.Integer.{unsigned_read, without_sign, integer_read}
use Rattle.values.proofs.Tests.{pass, fail, test, both, not_true, not_false}
use Rattle.values.proofs.Sames.{same_self, differ}
use Rattle.rules.specs.Answer.{first, refuse}
use Rattle.rules.specs.Map.{is_some}
use Rattle.rules.specs.House.{parted}
use Rattle.rules.proofs.Records.{starts_is}
use Rattle.columns.proofs.Prefixes.{starts_self, after_last, columns_stand, no_columns}
use Rattle.sam.specs.Tags.{tags_of, tagged, are_tags}
use Rattle.sam.specs.Contigs.{size_from, size_read, contig_from, contig_of, read_sequence}
use Rattle.sam.specs.Lines.{tags_at, or_nothing, given, value_in, size_in, contig_in, sequence_means}
use Rattle.sam.specs.declared.refusal.SamRefusal.TheVariants.{LineTooLong, InvalidUtf8, InvalidTag, InvalidSequence}
use Rattle.sam.proofs.Tags.{tags_there, tags_past, tagged_full}

-- Which lines are read

abbrev SQ : Bytes
SQ = ascii "@SQ"

after_sq : (r : Bytes) → tags_of (SQ ++ r) ≡ after_last r
unfolding tags_of parted any
after_sq r = columns_stand SQ [] r (refl, tt)

not_sq : (l : Bytes) → starts SQ l ≡ false → tags_of l ≡ None
unfolding tags_of parted
not_sq l h = no_columns SQ [] l h

-- where a line begins `@SQ`, its tags are those at 4
data Begun (l : Bytes) : Type 0 where
  another : starts SQ l ≡ false → Begun l
  bare : l ≡ SQ → Begun l
  longer : (b : ℕ) (r : Bytes) → l ≡ SQ ++ b ∷ r → Begun l

begun : (l : Bytes) → Begun l
begun l = elim (test (starts SQ l)) [
  | pass e ↦ go (drop 3 l) (starts_is SQ l e)
  | fail e ↦ another e
]
  where
    go : (r : Bytes) → l ≡ SQ ++ r → Begun l
    go [] e = bare e
    go (b ∷ r) e = longer b r e

module _ (l : Bytes) where
  starts_less : (r : Bytes) → starts SQ l ≡ false → starts (SQ ++ r) l ≡ false
  starts_less r h = elim (test (starts (SQ ++ r) l)) [
    | pass e ↦ let w = starts_is (SQ ++ r) l e in both (rw w (starts_self SQ (r ++ drop (length (SQ ++ r)) l))) h
    | fail e ↦ e
  ]

  pub short_line : length l < 4 → {q : Bool} → q ≡ same l SQ → q ≡ is_some (tags_of l)
  short_line h a = a ∙ elim (begun l) [
    | another e ↦ rw (not_sq l e) (differ l SQ (λ k. both (rw k (starts_self SQ [])) e))
    | bare e ↦ rw (e, after_sq []) (same_self SQ)
    | longer b r e ↦ let z = ap length e in absurd (omega arith)
  ]

  pub long_line : 4 ≤ length l → {q : Bool} → q ≡ starts (ascii "@SQ\t") l → q ≡ is_some (tags_of l)
  unfolding starts
  long_line h a = a ∙ elim (begun l) [
    | another e ↦ rw (not_sq l e) (starts_less (TAB ∷ []) e)
    | bare e ↦ let z = ap length e in absurd (omega arith)
    | longer b r e ↦ elim (test (is TAB b)) [
      | pass k ↦ rw (e, after_sq (b ∷ r), after_last, starts, k)
      | fail k ↦ rw (e, after_sq (b ∷ r), after_last, starts, k)
    ]
  ]

pub ruleset sequence_lines = (short_line, long_line)

-- the tags of an `@SQ` line
pub tags_stand : (l : Bytes) → is_some (tags_of l) ≡ true → tags_of l ≡ Some (tags_at l 4)
tags_stand l h = elim (begun l) [
  | another e ↦ absurd (false≢true (rw (not_sq l e) at h))
  | bare e ↦ rw (e, after_sq []) (ap Some (sym (tags_past SQ 4 (omega arith))))
  | longer b r e ↦ elim (test (is TAB b)) [
    | pass k ↦ rw (e, after_sq (b ∷ r), after_last, k) (ap Some (sym (tags_there (SQ ++ b ∷ r) 4 (omega arith))))
    | fail k ↦ absurd (false≢true (rw (e, after_sq (b ∷ r), after_last, k) at h))
  ]
]

-- What is read of one

pub value_found : (name l : Bytes) {v : Bytes} → v ≡ or_nothing (tagged name (tags_at l 4)) → v ≡ value_in name l
unfolding value_in
value_found name l e = e

pub size_told : (l : Bytes) {v : Bytes} → v ≡ or_nothing (tagged (ascii "LN") (tags_at l 4)) → {r : Option (ℕ × Bool)} → r ≡ integer_read false 2147483647 v → r ≡ size_in l
unfolding size_in value_in without_sign
size_told l e f = f ∙ ap (integer_read false 2147483647) e

-- a value without bytes is no number
size_given : (v : Bytes) → size_read (given v) ≡ size_from (integer_read false 2147483647 v)
unfolding unsigned_read without_sign
size_given [] = refl
size_given (b ∷ v) = refl

module _ (l : Bytes) where
  pub line_long : 65535 < length l → sequence_means l (Err LineTooLong) ≡ read_sequence l (tags_at l 4)
  unfolding read_sequence first
  line_long h = rw (read_sequence, lt-leb (length l) 65535 h)

  module _ (h : length l ≤ 65535) {q : Bool} (a : q ≡ is_utf8 l) where
    pub line_bytes : not q ≡ true → sequence_means l (Err InvalidUtf8) ≡ read_sequence l (tags_at l 4)
    unfolding read_sequence first
    line_bytes e = rw (read_sequence, le-leb (length l) 65535 h, ← a, not_true q e)

    module _ (e : not q ≡ false) {p : Bool} (b : p ≡ are_tags (tags_at l 4)) where
      pub line_tags : not p ≡ true → sequence_means l (Err InvalidTag) ≡ read_sequence l (tags_at l 4)
      unfolding read_sequence first
      line_tags f = rw (read_sequence, le-leb (length l) 65535 h, ← a, not_false q e, ← b, not_true p f)

      module _ (f : not p ≡ false) where
        good : read_sequence l (tags_at l 4) ≡ contig_of (tags_at l 4)
        unfolding read_sequence first
        good = rw (read_sequence, le-leb (length l) 65535 h, ← a, not_false q e, ← b, not_false p f)

        there : (name : Bytes) → tagged name (tags_at l 4) ≡ given (value_in name l)
        unfolding value_in
        there name = sym (tagged_full name (tags_at l 4) (sym b ∙ not_false p f))

        by_values : read_sequence l (tags_at l 4)
            ≡ contig_from (given (value_in (ascii "SN") l)) (size_from (size_in l)) (given (value_in (ascii "M5") l)) (given (value_in (ascii "UR") l))
        unfolding contig_of size_in
        by_values = good ∙ rw (contig_of, there (ascii "SN"), there (ascii "LN"), there (ascii "M5"), there (ascii "UR"), size_given (value_in (ascii "LN") l))

        module _ {v : Bytes} (c : v ≡ value_in (ascii "SN") l) where
          pub name_missing : length v ≡ 0 → sequence_means l (Err InvalidSequence) ≡ read_sequence l (tags_at l 4)
          name_missing z = sym (by_values ∙ go (value_in (ascii "SN") l) (ap length (sym c) ∙ z))
            where
              go : (x : Bytes) → length x ≡ 0 → contig_from (given x) (size_from (size_in l)) (given (value_in (ascii "M5") l)) (given (value_in (ascii "UR") l)) ≡ refuse 42
              go [] z = refl
              go (y ∷ x) z = absurd (omega arith)

          module _ (z : length v ≡ 0 → ⊥) {r : Option (ℕ × Bool)} (d : r ≡ size_in l) where
            -- by the size that was read
            named : (s : Option (ℕ × Bool)) → size_in l ≡ s
                → (x : Bytes) → value_in (ascii "SN") l ≡ x → (length x ≡ 0 → ⊥)
                → read_sequence l (tags_at l 4) ≡ contig_from (Some x) (size_from s) (given (value_in (ascii "M5") l)) (given (value_in (ascii "UR") l))
            named s i [] k n = absurd (n refl)
            named s i (y ∷ x) k n = by_values ∙ rw (k, i)

            told : (s : Option (ℕ × Bool)) → r ≡ s
                → read_sequence l (tags_at l 4) ≡ contig_from (Some (value_in (ascii "SN") l)) (size_from s) (given (value_in (ascii "M5") l)) (given (value_in (ascii "UR") l))
            told s i = named s (sym d ∙ i) (value_in (ascii "SN") l) refl (λ k. z (ap length c ∙ k))

            pub size_refused : r ≡ None → sequence_means l (Err InvalidSequence) ≡ read_sequence l (tags_at l 4)
            size_refused i = sym (told None i)

            pub size_zero : {n : ℕ} {p : Bool} → r ≡ Some (n, p) → n ≡ 0 → sequence_means l (Err InvalidSequence) ≡ read_sequence l (tags_at l 4)
            size_zero {n} {p} i k = sym (told (Some (0, p)) (i ∙ ap (λ (m : ℕ). Some (m, p)) k))

            pub contig_read : {n : ℕ} {p : Bool} → r ≡ Some (n, p) → (n ≡ 0 → ⊥) → sequence_means l (Ok n) ≡ read_sequence l (tags_at l 4)
            unfolding contig_in
            contig_read {n} {p} i k = go n i k
              where
                go : (n : ℕ) → r ≡ Some (n, p) → (n ≡ 0 → ⊥) → sequence_means l (Ok n) ≡ read_sequence l (tags_at l 4)
                go zero i k = absurd (k refl)
                go (suc n) i k = sym (told (Some (suc n, p)) i)

pub ruleset readings = (line_long, line_bytes, line_tags, name_missing, size_refused, size_zero, contig_read)
