-- Versions: compared and read. Assumes nothing.
use Rattle.std.specs.Prelude.{Option, Some, None}
use Prim.Native.Nat.{ℕ, ◌+◌, ◌-◌, ◌^◌, ◌≤◌, ◌<◌}
use native.Mathlib.Omega.{arith}
use mathlib.Core.Path.{◌≡◌, sym, ap, ap₂, ◌∙◌}
use mathlib.Core.Bool.{Bool, true, false, not}
use mathlib.Core.List.{tail}
use lib.Dec.{ltb}
use lib.ListN.{length, drop, take, drop_of_length-le}
use borrow.Author.Tests.{lt-ltb, le-ltb, eq-eqb, ne_eqb}
use Rattle.values.specs.Bytes.{Bytes, ascii, is, begins, before, from, starts}
use Rattle.values.specs.Integer.{u32_read}
use Rattle.values.proofs.Tests.{not_true, not_false}
use Rattle.values.proofs.Lists.{here, rest, from_at, from_begins}
use Rattle.values.proofs.Fields.{before_part}
use Rattle.values.proofs.Integers.{read_bound}
use Rattle.rules.specs.Version.{version, earlier, version_from, read_parts, read_version}
use Rattle.records.specs.Formats.{format_of, format_read}
use Rattle.records.specs.Formats.{version_of as version_in}
use Rattle.records.specs.declared.file_format.FileFormat.{FileFormat}

pub earlier_major : (a b : FileFormat) → a.major < b.major → true ≡ earlier (version_in a) (version_in b)
unfolding earlier
earlier_major a b h = rw (earlier, lt-ltb a.major b.major h)

pub later_major : (a b : FileFormat) → b.major < a.major → false ≡ earlier (version_in a) (version_in b)
unfolding earlier
later_major a b h = rw (earlier, le-ltb a.major b.major (omega arith), ne_eqb a.major b.major (λ e. absurd (omega arith)))

pub same_major : (a b : FileFormat) → b.major ≤ a.major → a.major ≤ b.major → ltb a.minor b.minor ≡ earlier (version_in a) (version_in b)
unfolding earlier
same_major a b h g = rw (earlier, le-ltb a.major b.major h, eq-eqb a.major b.major (omega arith))

pub ruleset compares = (earlier_major, later_major, same_major)

-- Reading

pub no_prefix : (s : Bytes) {q : Bool} → q ≡ starts (ascii "VCFv") s → not q ≡ true → None ≡ format_read (read_version s)
unfolding read_version
no_prefix s {q} a e = rw (read_version, sym a ∙ not_true q e)

module _ (s : Bytes) {q : Bool} (a : q ≡ starts (ascii "VCFv") s) (e : not q ≡ false) {p : ℕ} (f : p ≡ 4 + length (before (is 46) (drop 4 s))) where
  parts : read_version s ≡ read_parts (drop 4 s)
  unfolding read_version
  parts = rw (read_version, sym a ∙ not_false q e)

  point : from (is 46) (drop 4 s) ≡ drop p s
  point = from_at (is 46) s 4 ∙ ap (λ (i : ℕ). drop i s) (sym f)

  pub no_point : length s ≤ p → None ≡ format_read (read_version s)
  unfolding read_parts begins
  no_point h = rw (parts, read_parts, point, drop_of_length-le s h)

  module _ (h : p < length s) where
    both_parts : read_parts (drop 4 s) ≡ version_from (u32_read (take (p - 4) (drop 4 s))) (u32_read (take (length s - (p + 1)) (drop (p + 1) s)))
    unfolding read_parts begins
    both_parts =
        let d = point ∙ here s p h in
        let x = before (is 46) (drop 4 s) in
        let k : x ≡ take (p - 4) (drop 4 s) = sym (before_part (is 46) s 4 f) in
        rw (read_parts, from_begins 46 (drop 4 s) d) (ap₂ (λ (a b : Bytes). version_from (u32_read a) (u32_read b)) k (ap tail d ∙ sym (rest s (p + 1))))

    pub bad_major : {m : Option (ℕ × Bool)} → m ≡ u32_read (take (p - 4) (drop 4 s)) → m ≡ None → None ≡ format_read (read_version s)
    bad_major i r = rw (parts, both_parts, sym i ∙ r)

    module _ {m : Option (ℕ × Bool)} (i : m ≡ u32_read (take (p - 4) (drop 4 s))) {major : ℕ} {plain : Bool} (r : m ≡ Some (major, plain)) where
      pub major_small : major < 2 ^ 32
      major_small = let b = read_bound false (2 ^ 32 - 1) (take (p - 4) (drop 4 s)) (sym i ∙ r) in omega arith

      module _ {n : Option (ℕ × Bool)} (j : n ≡ u32_read (take (length s - (p + 1)) (drop (p + 1) s))) where
        pub bad_minor : n ≡ None → None ≡ format_read (read_version s)
        bad_minor w = rw (parts, both_parts, sym i ∙ r, sym j ∙ w)

        module _ {minor : ℕ} {plain' : Bool} (w : n ≡ Some (minor, plain')) where
          pub minor_small : minor < 2 ^ 32
          minor_small = let b = read_bound false (2 ^ 32 - 1) (take (length s - (p + 1)) (drop (p + 1) s)) (sym j ∙ w) in omega arith

          pub good_version : {x : FileFormat} → x ≡ format_of (version major minor) → Some x ≡ format_read (read_version s)
          good_version g = rw (parts, both_parts, sym i ∙ r, sym j ∙ w, g)

pub ruleset reads = (no_prefix, no_point, bad_major, major_small, bad_minor, minor_small, good_version)
