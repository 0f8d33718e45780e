-- The values that are read of a SAM header may stand in a line of VCF. Assumes nothing.
use Prim.Native.Nat.{ℕ, zero, suc, ◌≤◌, ◌<◌}
use native.Mathlib.Omega.{arith}
use mathlib.Core.Path.{◌≡◌, refl}
use mathlib.Core.Bool.{Bool, true, false, false≢true}
use mathlib.Core.List.{List, [], ◌∷◌}
use Rattle.std.specs.Prelude.{Option, None, Some}
use lib.Dec.{leb}
use lib.ListN.{length}
use borrow.Author.Tests.{eqb-true, leb-true, leb-false, lt-leb}
use Rattle.values.specs.Bytes.{Bytes, ascii, is, any, same, LF, TAB}
use Rattle.values.specs.Utf8.{is_utf8}
use Rattle.values.specs.Integer.{integer_read}
use Rattle.values.proofs.Tests.{pass, fail, test, both, and_l, and_r, and_off}
use Rattle.values.proofs.Lists.{OnSome, on_some}
use Rattle.values.proofs.Integers.{read_bound}
use Rattle.rules.specs.Answer.{unless, first, judged}
use Rattle.rules.specs.Sizes.{limits}
use Rattle.rules.specs.Columns.{after_columns}
use Rattle.rules.specs.House.{parted}
use Rattle.rules.specs.Claims.{All}
use Rattle.rules.proofs.Firsts.{OnOk, bind_ok, judged_ok, first_zero, zero_unless}
use Rattle.rules.proofs.Pure.{Pure, pure_split, pure_tail}
use Rattle.rules.proofs.Samples.{columns, split_in}
use Rattle.sam.specs.Tags.{COLON, tags_of, is_letter, is_letter_or_digit, is_tag, tagged, tag_name, tag_value, are_tags}
use Rattle.sam.specs.Contigs.{Contig, size_from, size_read, contig_from, contig_of, read_sequence}
use Rattle.sam.proofs.Tags.{tagged_hit, tagged_miss, good_tag}

abbrev Pures : List Bytes → Type 0
Pures = All (λ x. Pure x)

-- Tags

parted_pure : (x : Bytes) (xs : List Bytes) → Pure (parted (x ∷ xs)) → Pures (x ∷ xs)
unfolding parted
parted_pure x [] h = (h, tt)
parted_pure x (y ∷ xs) h = let d = pure_split x TAB (parted (y ∷ xs)) (omega arith) h in (d.0, parted_pure y xs d.1)

tags_pure : (l : Bytes) → Pure l → OnSome Pures (tags_of l)
unfolding tags_of after_columns
tags_pure l h = elim (split_in l) [
  | columns x xs q p ↦ elim (test (same x (ascii "@SQ"))) [
    | pass e ↦ rw (q, after_columns, e) (parted_pure x xs (rw p h)).1
    | fail e ↦ rw (q, after_columns, e) tt
  ]
]

letter_low : (b : ℕ) → is_letter b ≡ true → b < 128
unfolding is_letter
letter_low b h = elim (test (leb b 122)) [
  | pass e ↦ omega (arith, leb-true b 122 e)
  | fail e ↦
      let l = lt-leb b 90 (omega (arith, leb-false b 122 e)) in
      both h (rw (is_letter, l, e, and_off (leb 65 b) {b = false} refl) (and_off (leb 97 b) {b = false} refl))
]

either_low : (b : ℕ) → is_letter_or_digit b ≡ true → b < 128
unfolding is_letter_or_digit
either_low b h = elim (test (is_letter b)) [
  | pass e ↦ letter_low b e
  | fail e ↦ omega (arith, leb-true b 57 (and_r (leb 48 b) (leb b 57) (rw (is_letter_or_digit, e) at h)))
]

-- the bytes before a tag's value are ASCII
tag_pure : (t : Bytes) → is_tag t ≡ true → Pure t → Pure (tag_value t)
unfolding is_tag
tag_pure [] h p = absurd (false≢true h)
tag_pure (a ∷ []) h p = absurd (false≢true h)
tag_pure (a ∷ b ∷ []) h p = absurd (false≢true h)
tag_pure (a ∷ b ∷ c ∷ []) h p = absurd (false≢true h)
tag_pure (a ∷ b ∷ c ∷ d ∷ v) h p =
    let k = and_r (is_letter a) _ h in
    let e = eqb-true c COLON (and_r (is_letter_or_digit b) (is COLON c) k) in
    pure_tail c (d ∷ v) (omega arith) (pure_tail b (c ∷ d ∷ v) (either_low b (and_l (is_letter_or_digit b) _ k)) (pure_tail a (b ∷ c ∷ d ∷ v) (letter_low a (and_l (is_letter a) _ h)) p))

tagged_pure : (name : Bytes) (ts : List Bytes) → are_tags ts ≡ true → Pures ts → OnSome (λ t. Pure t) (tagged name ts)
unfolding tagged
tagged_pure name [] a p = tt
tagged_pure name (t ∷ ts) a p = elim (test (same (tag_name t) name)) [
  | pass e ↦ rw (tagged_hit name t ts e) (tag_pure t (good_tag t ts a).0 p.0)
  | fail e ↦ rw (tagged_miss name t ts e) (tagged_pure name ts (good_tag t ts a).1 p.1)
]

-- A contig

pub record GoodContig (c : Contig) : Type 0 where
  pub id : Pure c.id
  pub size : c.size ≤ 2147483647
  pub md5 : OnSome (λ t. Pure t) c.md5
  pub url : OnSome (λ t. Pure t) c.url

from_good : (sn : Option Bytes) (n : Option ℕ) (m u : Option Bytes) → OnSome (λ t. Pure t) sn → OnSome (λ k. k ≤ 2147483647) n → OnSome (λ t. Pure t) m → OnSome (λ t. Pure t) u
    → OnOk (λ c. GoodContig c) (contig_from sn n m u)
from_good None n m u a b c d = tt
from_good (Some sn) None m u a b c d = tt
from_good (Some sn) (Some n) m u a b c d = record { id = a; size = b; md5 = c; url = d }

size_small : (x : Option Bytes) → OnSome (λ k. k ≤ 2147483647) (size_read x)
size_small None = tt
size_small (Some t) = go (integer_read false 2147483647 t) (λ n p e. read_bound false 2147483647 t e)
  where
    go : (r : Option (ℕ × Bool)) → ((n : ℕ) (p : Bool) → r ≡ Some (n, p) → n ≤ 2147483647) → OnSome (λ k. k ≤ 2147483647) (size_from r)
    go (Some (zero, p)) f = tt
    go (Some (suc n, p)) f = f (suc n) p refl
    go None f = tt

contig_good : (ts : List Bytes) → are_tags ts ≡ true → Pures ts → OnOk (λ c. GoodContig c) (contig_of ts)
unfolding contig_of
contig_good ts a p =
    from_good (tagged (ascii "SN") ts) (size_read (tagged (ascii "LN") ts)) (tagged (ascii "M5") ts) (tagged (ascii "UR") ts)
    (tagged_pure (ascii "SN") ts a p) (size_small (tagged (ascii "LN") ts)) (tagged_pure (ascii "M5") ts a p) (tagged_pure (ascii "UR") ts a p)

abbrev GoodTags : List Bytes → Type 0
GoodTags ts = (are_tags ts ≡ true) × Pures ts

pub sequence_good : (l : Bytes) (ts : List Bytes) → any (is LF) l ≡ false → tags_of l ≡ Some ts → OnOk (λ c. GoodContig c) (read_sequence l ts)
unfolding read_sequence
sequence_good l ts n e =
    bind_ok GoodTags (λ c. GoodContig c) (judged verdict ts) contig_of (judged_ok GoodTags verdict ts given) (λ ts h. contig_good ts h.0 h.1)
  where
    verdict : ℕ
    verdict = first (unless (leb (length l) limits.line) 2 ∷ unless (is_utf8 l) 3 ∷ unless (are_tags ts) 41 ∷ [])

    given : verdict ≡ 0 → GoodTags ts
    given z =
        let a = (first_zero (unless (leb (length l) limits.line) 2) _ z).1 in
        let b = first_zero (unless (is_utf8 l) 3) _ a in
        let c = (first_zero (unless (are_tags ts) 41) [] b.1).0 in
        (zero_unless (are_tags ts) 40 c, on_some Pures (tags_pure l (record { utf8 = zero_unless (is_utf8 l) 2 b.0; line = n })) e)
