-- Versions: what is read is 32-bit, and what is written is read back. Assumes nothing.
use Prim.Native.Nat.{ℕ, ◌-◌, ◌^◌, ◌≤◌}
use native.Mathlib.Omega.{arith}
use mathlib.Core.Path.{◌≡◌, refl}
use mathlib.Core.Bool.{Bool, false}
use mathlib.Core.List.{◌∷◌, ◌++◌, tail}
use Rattle.std.specs.Prelude.{Option, None, Some}
use lib.ListN.{drop}
use Rattle.values.specs.Bytes.{Bytes, ascii, is, begins, any, before, from, starts}
use Rattle.values.specs.Utf8.{completes, followers}
use Rattle.values.specs.Integer.{u32_read, decimal}
use Rattle.values.proofs.Tests.{pass, fail, test}
use Rattle.values.proofs.Lists.{OnSome, before_stop, from_stop}
use Rattle.values.proofs.Integers.{read_bound}
use Rattle.values.proofs.Decimals.{decimal_lacks, integer_decimal}
use Rattle.rules.specs.Version.{Version, in_force, version_from, read_parts, read_version, write_version}
use Rattle.rules.proofs.Pure.{Pure, pure_append, pure_join, pure_decimal}
use Rattle.rules.specs.Claims.{Sized, SizedOption}

version_of : (a b : Option (ℕ × Bool)) → ((n : ℕ) (p : Bool) → a ≡ Some (n, p) → n ≤ 2 ^ 32 - 1) → ((n : ℕ) (p : Bool) → b ≡ Some (n, p) → n ≤ 2 ^ 32 - 1) → OnSome Sized (version_from a b)
version_of (Some (a, p)) (Some (b, q)) h k = record { major = h a p refl; minor = k b q refl }
version_of (Some (a, p)) None h k = tt
version_of None b h k = tt

parts_sized : (bs : Bytes) → OnSome Sized (read_parts bs)
unfolding read_parts
parts_sized bs = elim (test (begins 46 (from (is 46) bs))) [
  | pass e ↦ let a = before (is 46) bs in let b = tail (from (is 46) bs) in
      rw (read_parts, e) (version_of (u32_read a) (u32_read b) (λ n p q. read_bound false (2 ^ 32 - 1) a q) (λ n p q. read_bound false (2 ^ 32 - 1) b q))
  | fail e ↦ rw (read_parts, e) tt
]

pub version_sized : (bs : Bytes) → OnSome Sized (read_version bs)
unfolding read_version
version_sized bs = elim (test (starts (ascii "VCFv") bs)) [
  | pass e ↦ rw (read_version, e) (parts_sized (drop 4 bs))
  | fail e ↦ rw (read_version, e) tt
]

pub force_sized : (imposed : Option Version) (v : Version) → SizedOption imposed → Sized v → Sized (in_force imposed v)
force_sized None v h k = k
force_sized (Some w) v h k = h

parts_back : (v : Version) → Sized v → read_parts (decimal v.major ++ 46 ∷ decimal v.minor) ≡ Some v
unfolding read_parts begins
parts_back v h =
    let lacks = decimal_lacks 46 v.major refl in
    rw (
      from_stop (is 46) (decimal v.major) 46 (decimal v.minor) lacks refl,
      read_parts,
      before_stop (is 46) (decimal v.major) 46 (decimal v.minor) lacks refl,
      from_stop (is 46) (decimal v.major) 46 (decimal v.minor) lacks refl,
      integer_decimal false (2 ^ 32 - 1) v.major h.major,
      integer_decimal false (2 ^ 32 - 1) v.minor h.minor,
    )

pub version_back : (v : Version) → Sized v → read_version (write_version v) ≡ Some v
unfolding read_version write_version starts
version_back v h = parts_back v h

pub version_pure : (v : Version) → Pure (write_version v)
unfolding write_version completes followers any
version_pure v =
    pure_append {xs = ascii "VCFv"} (record { utf8 = refl; line = refl })
    (pure_join (record { ascii = omega arith; other = refl }) (pure_decimal v.major) (pure_decimal v.minor))
