-- A map's key and its kind's number. Assumes nothing.
use Prim.Native.Nat.{ℕ, ◌<◌, ◌≤◌}
use native.Mathlib.Omega.{arith}
use mathlib.Core.Path.{◌≡◌, sym, ap, ◌∙◌}
use mathlib.Core.Bool.{true, false}
use lib.Dec.{eqb, ltb}
use borrow.Author.Tests.{ltb-false}
use Rattle.values.specs.Bytes.{Bytes, ascii, same}
use Rattle.values.proofs.Tests.{pass, fail, test}
use Rattle.values.proofs.Sames.{same_sound, same_sym}
use Rattle.rules.specs.Known.{Kind, INFO, FILTER, FORMAT, ALT, contig, other, is_in, is_typed, kind_of}
use Rattle.rules.specs.Entry.{map_kind}

-- a key is a typed one or an other one
data Key (k : Bytes) : Type 0 where
  info : k ≡ ascii "INFO" → Key k
  filter : k ≡ ascii "FILTER" → Key k
  format : k ≡ ascii "FORMAT" → Key k
  alt : k ≡ ascii "ALT" → Key k
  sequence : k ≡ ascii "contig" → Key k
  untyped : is_typed k ≡ false → kind_of k ≡ other → Key k

key : (k : Bytes) → Key k
unfolding is_typed is_in kind_of
key k = elim (test (same k (ascii "INFO"))) [
  | pass a ↦ info (same_sound k (ascii "INFO") a)
  | fail a ↦ elim (test (same k (ascii "FILTER"))) [
    | pass b ↦ filter (same_sound k (ascii "FILTER") b)
    | fail b ↦ elim (test (same k (ascii "FORMAT"))) [
      | pass c ↦ format (same_sound k (ascii "FORMAT") c)
      | fail c ↦ elim (test (same k (ascii "ALT"))) [
        | pass d ↦ alt (same_sound k (ascii "ALT") d)
        | fail d ↦ elim (test (same k (ascii "contig"))) [
          | pass e ↦ sequence (same_sound k (ascii "contig") e)
          | fail e ↦ untyped
              (rw (same_sym (ascii "INFO") k, same_sym (ascii "FILTER") k, same_sym (ascii "FORMAT") k, same_sym (ascii "ALT") k, same_sym (ascii "contig") k, a, b, c, d, e))
              (rw (kind_of, a, b, c, d, e))
        ]
      ]
    ]
  ]
]

-- the typed keys are those of the kinds below 7
pub typed_below : (k : Bytes) → is_typed k ≡ ltb (map_kind (kind_of k)) 7
unfolding is_typed is_in kind_of same
typed_below k = go (key k)
  where
    go : Key k → is_typed k ≡ ltb (map_kind (kind_of k)) 7
    go (info e) = rw e
    go (filter e) = rw e
    go (format e) = rw e
    go (alt e) = rw e
    go (sequence e) = rw e
    go (untyped e o) = e ∙ rw o

pub number_small : (kind : Kind) → (2 ≤ map_kind kind) × (map_kind kind ≤ 7)
number_small INFO = (omega arith, omega arith)
number_small FILTER = (omega arith, omega arith)
number_small FORMAT = (omega arith, omega arith)
number_small ALT = (omega arith, omega arith)
number_small contig = (omega arith, omega arith)
number_small other = (omega arith, omega arith)

pub untyped_number : (k : Bytes) → is_typed k ≡ false → map_kind (kind_of k) ≡ 7
untyped_number k e = omega (arith, (number_small (kind_of k)).1, ltb-false (map_kind (kind_of k)) 7 (sym (typed_below k) ∙ e))

-- the key of a typed kind's number
unfoldable key_numbered : ℕ → Bytes
key_numbered n = elim (eqb n 2) [
  | true ↦ ascii "INFO"
  | false ↦ elim (eqb n 3) [
    | true ↦ ascii "FILTER"
    | false ↦ elim (eqb n 4) [ true ↦ ascii "FORMAT" | false ↦ elim (eqb n 5) [ true ↦ ascii "ALT" | false ↦ ascii "contig" ] ]
  ]
]

key_numbered_lem : (k : Bytes) → map_kind (kind_of k) < 7 → k ≡ key_numbered (map_kind (kind_of k))
unfolding kind_of same key_numbered
key_numbered_lem k l = go (key k)
  where
    go : Key k → k ≡ key_numbered (map_kind (kind_of k))
    go (info e) = rw e
    go (filter e) = rw e
    go (format e) = rw e
    go (alt e) = rw e
    go (sequence e) = rw e
    go (untyped e o) = absurd (omega (arith, ap map_kind o))

pub one_key : (j k : Bytes) → map_kind (kind_of j) ≡ map_kind (kind_of k) → map_kind (kind_of k) < 7 → j ≡ k
one_key j k e l = key_numbered_lem j (omega arith) ∙ ap key_numbered e ∙ sym (key_numbered_lem k l)
