-- Tags: the bytes of one, and a turn of each loop over those of a line, on plain values. Assumes nothing.
use Prim.Native.Nat.{ℕ, ◌+◌, ◌-◌, ◌*◌, ◌^◌, ◌≤◌, ◌<◌}
use native.Mathlib.Omega.{arith}
use mathlib.Core.Path.{◌≡◌, refl, sym, ap, ap₂, ◌∙◌}
use mathlib.Core.Bool.{Bool, true, false, not, ◌||◌, ◌&&◌, false≢true}
use mathlib.Core.List.{List, [], ◌∷◌}
use Rattle.std.specs.Prelude.{None, Some}
use lib.Dec.{eqb, leb}
use lib.ListN.{length, get_or, drop, take, replicate, length-replicate}
use borrow.Author.Tests.{le-leb, lt-leb, leb-true, eqb-true, eqb-false}
use Rattle.std.specs.Char.{is_ascii_alphabetic, is_ascii_alphanumeric}
use Rattle.values.specs.Bytes.{Bytes, is, before, same, TAB}
use Rattle.values.proofs.Tests.{pass, fail, test, both, and_l, and_r, and_on, not_true, not_false}
use Rattle.values.specs.Bits.{bit_at, set_bit}
use Rattle.values.proofs.Lists.{there, past, stands, rest}
use Rattle.values.proofs.Sames.{same_self, differ}
use Rattle.values.proofs.WordBits.{set_length, bit_set, none_set}
use Rattle.rules.specs.Map.{is_some}
use Rattle.rules.specs.Columns.{split}
use Rattle.columns.proofs.Splits.{name_part, split_last, split_more}
use Rattle.sam.specs.Tags.{is_letter, is_letter_or_digit, is_tag, tagged, tag_name, tag_value, are_tags}
use Rattle.sam.specs.Lines.{tags_at, name_number, or_nothing, given}

-- Letters and digits

module _ (b : ℕ) where
  letter_is : is_ascii_alphabetic b ≡ is_letter b
  unfolding is_letter
  letter_is = refl

  letter_or_digit_is : is_ascii_alphanumeric b ≡ is_letter_or_digit b
  unfolding is_letter_or_digit is_letter
  letter_or_digit_is = turned (leb 48 b && leb b 57) (leb 65 b && leb b 90) (leb 97 b && leb b 122)
    where
      turned : (x y z : Bool) → ((x || y) || z) ≡ ((y || z) || x)
      turned true true z = refl
      turned true false true = refl
      turned true false false = refl
      turned false true z = refl
      turned false false true = refl
      turned false false false = refl

-- One tag

pub tag_short : (t : Bytes) → length t < 4 → false ≡ is_tag t
unfolding is_tag
tag_short [] h = refl
tag_short (a ∷ []) h = refl
tag_short (a ∷ b ∷ []) h = refl
tag_short (a ∷ b ∷ c ∷ []) h = refl
tag_short (a ∷ b ∷ c ∷ d ∷ v) h = absurd (omega arith)

module _ (t : Bytes) (long : 4 ≤ length t) where
  parts : is_tag t ≡ (is_letter (get_or t 0 0) && (is_letter_or_digit (get_or t 1 0) && eqb (get_or t 2 0) 58))
  unfolding is_tag
  parts = go t long
    where
      go : (t : Bytes) → 4 ≤ length t → is_tag t ≡ (is_letter (get_or t 0 0) && (is_letter_or_digit (get_or t 1 0) && eqb (get_or t 2 0) 58))
      go [] h = absurd (omega arith)
      go (a ∷ []) h = absurd (omega arith)
      go (a ∷ b ∷ []) h = absurd (omega arith)
      go (a ∷ b ∷ c ∷ []) h = absurd (omega arith)
      go (a ∷ b ∷ c ∷ d ∷ v) h = refl

  module _ {q : Bool} (a : q ≡ is_ascii_alphabetic (get_or t 0 0)) where
    pub tag_first : q ≡ false → q ≡ is_tag t
    tag_first e = sym (parts ∙ rw (← letter_is (get_or t 0 0), ← a, e))

    module _ (e : q ≡ true) {p : Bool} (b : p ≡ is_ascii_alphanumeric (get_or t 1 0)) where
      pub tag_second : p ≡ false → p ≡ is_tag t
      tag_second f = sym (parts ∙ rw (← letter_is (get_or t 0 0), ← a, e, ← letter_or_digit_is (get_or t 1 0), ← b, f))

      pub tag_third : p ≡ true → eqb (get_or t 2 0) 58 ≡ is_tag t
      tag_third f = sym (parts ∙ rw (← letter_is (get_or t 0 0), ← a, e, ← letter_or_digit_is (get_or t 1 0), ← b, f))

pub ruleset tag_bytes = (tag_short, tag_first, tag_second, tag_third)

-- The tags of a line

pub tags_there : (l : Bytes) (at : ℕ) → at ≤ length l → tags_at l at ≡ split (drop at l)
unfolding tags_at
tags_there l at h = rw (tags_at, le-leb at (length l) h)

pub tags_past : (l : Bytes) (at : ℕ) → length l < at → tags_at l at ≡ []
unfolding tags_at
tags_past l at h = rw (tags_at, lt-leb at (length l) h)

module _ (l : Bytes) (at : ℕ) {end : ℕ} (a : end ≡ at + length (before (is TAB) (drop at l))) (i : at ≤ length l) where
  tags_last : length l ≤ end → tags_at l at ≡ before (is TAB) (drop at l) ∷ []
  tags_last h = tags_there l at i ∙ split_last l at a h

  tags_more : end < length l → tags_at l at ≡ before (is TAB) (drop at l) ∷ tags_at l (end + 1)
  tags_more h = tags_there l at i ∙ split_more l at a h ∙ ap (before (is TAB) (drop at l) ∷◌) (sym (tags_there l (end + 1) (omega arith)))

  tags_first : (ts : List Bytes) × (tags_at l at ≡ before (is TAB) (drop at l) ∷ ts)
  tags_first = elim (stands l end) [ there h ↦ (tags_at l (end + 1), tags_more h) | past h ↦ ([], tags_last h) ]

pub tagged_hit : (name t : Bytes) (ts : List Bytes) → same (tag_name t) name ≡ true → tagged name (t ∷ ts) ≡ Some (tag_value t)
unfolding tagged
tagged_hit name t ts e = rw (tagged, e)

pub tagged_miss : (name t : Bytes) (ts : List Bytes) → same (tag_name t) name ≡ false → tagged name (t ∷ ts) ≡ tagged name ts
unfolding tagged
tagged_miss name t ts e = rw (tagged, e)

-- the tags before `at` have other names
pub record Looking (l name : Bytes) (start at : ℕ) : Type 0 where
  pub inside : at ≤ length l
  pub still : tagged name (tags_at l start) ≡ tagged name (tags_at l at)

pub look_none : (l name : Bytes) (start : ℕ) → length l < start → take 0 l ≡ or_nothing (tagged name (tags_at l start))
unfolding tagged
look_none l name start h = rw (tags_past l start h)

pub look_all : (l name : Bytes) (start : ℕ) → start ≤ length l → Looking l name start start
look_all l name start h = record { inside = h; still = refl }

module _ {l name : Bytes} {start at : ℕ} (g : Looking l name start at) {end : ℕ} (a : end ≡ at + length (before (is TAB) (drop at l)))
    {t : Bytes} (b : t ≡ take (end - at) (drop at l)) {n : Bytes} (c : n ≡ take 2 (drop 0 t)) {q : Bool} (d : q ≡ same n name) where
  is_here : t ≡ before (is TAB) (drop at l)
  is_here = b ∙ name_part l at a

  named : same (tag_name (before (is TAB) (drop at l))) name ≡ q
  named = rw (← is_here, ← c) (sym d)

  pub look_found : q ≡ true → {v : Bytes} → v ≡ take (length t - 3) (drop 3 t) → v ≡ or_nothing (tagged name (tags_at l start))
  look_found e f =
      let w = tags_first l at a g.inside in
      let k : tagged name (tags_at l at) ≡ Some (tag_value (before (is TAB) (drop at l))) = rw w.1 (tagged_hit name _ w.0 (named ∙ e)) in
      f ∙ rest t 3 ∙ ap tag_value is_here ∙ ap or_nothing (sym (g.still ∙ k))

  pub look_ended : q ≡ false → length l ≤ end → take 0 l ≡ or_nothing (tagged name (tags_at l start))
  unfolding tagged
  look_ended e h =
      let k : tagged name (tags_at l at) ≡ None = rw (tags_last l at a g.inside h) (tagged_miss name (before (is TAB) (drop at l)) [] (named ∙ e)) in
      ap or_nothing (sym (g.still ∙ k))

  pub look_next : q ≡ false → end < length l → Looking l name start (end + 1)
  look_next e h = record { inside = omega arith; still = g.still ∙ rw (tags_more l at a g.inside h) (tagged_miss name _ (tags_at l (end + 1)) (named ∙ e)) }

pub tag_less : (l : Bytes) (at : ℕ) {end : ℕ} → end ≡ at + length (before (is TAB) (drop at l)) → end < length l → length l - (end + 1) < length l - at
tag_less l at a h = omega arith

pub ruleset looks = (look_none, look_all, look_found, look_ended, look_next, tag_less)

-- Good tags

-- a tag's value has a byte
tag_full : (t : Bytes) → is_tag t ≡ true → given (tag_value t) ≡ Some (tag_value t)
unfolding is_tag
tag_full [] h = absurd (false≢true h)
tag_full (a ∷ []) h = absurd (false≢true h)
tag_full (a ∷ b ∷ []) h = absurd (false≢true h)
tag_full (a ∷ b ∷ c ∷ []) h = absurd (false≢true h)
tag_full (a ∷ b ∷ c ∷ d ∷ v) h = refl

pub good_tag : (t : Bytes) (ts : List Bytes) → are_tags (t ∷ ts) ≡ true → (is_tag t ≡ true) × (are_tags ts ≡ true)
unfolding are_tags
good_tag t ts h = (and_l (is_tag t) _ h, and_r (not (is_some (tagged (tag_name t) ts))) (are_tags ts) (and_r (is_tag t) _ h))

-- so that no bytes tell that there is none
pub tagged_full : (name : Bytes) (ts : List Bytes) → are_tags ts ≡ true → given (or_nothing (tagged name ts)) ≡ tagged name ts
unfolding tagged
tagged_full name [] h = refl
tagged_full name (t ∷ ts) h = elim (test (same (tag_name t) name)) [
  | pass e ↦ rw (tagged_hit name t ts e) (tag_full t (good_tag t ts h).0)
  | fail e ↦ rw (tagged_miss name t ts e) (tagged_full name ts (good_tag t ts h).1)
]

-- Numbers of names

letter_from : (b : ℕ) → is_letter b ≡ true → (65 ≤ b) × (b ≤ 122)
unfolding is_letter
letter_from b h = elim (test (leb 65 b && leb b 90)) [
  | pass e ↦ (leb-true 65 b (and_l (leb 65 b) _ e), omega (arith, leb-true b 90 (and_r (leb 65 b) _ e)))
  | fail e ↦ let s : (leb 97 b && leb b 122) ≡ true = rw e at h in (omega (arith, leb-true 97 b (and_l (leb 97 b) _ s)), leb-true b 122 (and_r (leb 97 b) _ s))
]

character_from : (b : ℕ) → is_letter_or_digit b ≡ true → (48 ≤ b) × (b ≤ 122)
unfolding is_letter_or_digit
character_from b h = elim (test (is_letter b)) [
  | pass e ↦ let l = letter_from b e in (omega (arith, l.0), l.1)
  | fail e ↦ let s : (leb 48 b && leb b 57) ≡ true = rw e at h in (leb-true 48 b (and_l (leb 48 b) _ s), omega (arith, leb-true b 57 (and_r (leb 48 b) _ s)))
]

-- the ranges of a tag's two first bytes
record Ranges (t : Bytes) : Type 0 where
  long : 4 ≤ length t
  a_from : 65 ≤ get_or t 0 0
  a_to : get_or t 0 0 ≤ 122
  b_from : 48 ≤ get_or t 1 0
  b_to : get_or t 1 0 ≤ 122

ranges : (t : Bytes) → is_tag t ≡ true → Ranges t
ranges t h = elim (stands t 3) [
  | past s ↦ both h (sym (tag_short t (omega arith)))
  | there l ↦
      let p = sym (parts t l) ∙ h in
      let x = letter_from (get_or t 0 0) (and_l (is_letter (get_or t 0 0)) _ p) in
      let y = character_from (get_or t 1 0) (and_l (is_letter_or_digit (get_or t 1 0)) _ (and_r (is_letter (get_or t 0 0)) _ p)) in
      record { long = l; a_from = x.0; a_to = x.1; b_from = y.0; b_to = y.1 }
]

number_below : (t : Bytes) → is_tag t ≡ true → name_number t < 64 * 68
unfolding name_number
number_below t h = let n = ranges t h in omega (arith, n.a_to, n.b_to)

number_named : (t : Bytes) → name_number t ≡ name_number (tag_name t)
unfolding name_number
number_named [] = refl
number_named (a ∷ []) = refl
number_named (a ∷ b ∷ t) = refl

name_bytes : (t : Bytes) → 4 ≤ length t → tag_name t ≡ get_or t 0 0 ∷ get_or t 1 0 ∷ []
name_bytes [] h = absurd (omega arith)
name_bytes (a ∷ []) h = absurd (omega arith)
name_bytes (a ∷ b ∷ t) h = refl

-- tags have the same number where they have the same name
module _ (t u : Bytes) (h : is_tag t ≡ true) (k : is_tag u ≡ true) where
  name_by : name_number u ≡ name_number t → tag_name u ≡ tag_name t
  unfolding name_number
  name_by i =
      let n = ranges t h in
      let m = ranges u k in
      let ea : get_or u 0 0 ≡ get_or t 0 0 = omega (arith, n.a_from, m.a_from, n.b_from, m.b_from, n.b_to, m.b_to) in
      let eb : get_or u 1 0 ≡ get_or t 1 0 = omega (arith, n.b_from, m.b_from) in
      name_bytes u m.long ∙ ap₂ (λ (a b : ℕ). a ∷ b ∷ []) ea eb ∙ sym (name_bytes t n.long)

  same_number : eqb (name_number u) (name_number t) ≡ same (tag_name u) (tag_name t)
  same_number = elim (test (eqb (name_number u) (name_number t))) [
    | pass e ↦ e ∙ sym (rw (name_by (eqb-true (name_number u) (name_number t) e)) (same_self (tag_name t)))
    | fail e ↦ e ∙ sym (differ (tag_name u) (tag_name t) (λ i. eqb-false (name_number u) (name_number t) e (number_named u ∙ ap name_number i ∙ sym (number_named t))))
  ]

-- what answers the needs of `name_number`
module _ (t : Bytes) (h : is_tag t ≡ true) where
  pub name_first : 0 < length t
  name_first = omega (arith, (ranges t h).long)

  pub name_second : 1 < length t
  name_second = omega (arith, (ranges t h).long)

  pub first_from_lem : 65 ≤ get_or t 0 0
  first_from_lem = (ranges t h).a_from

  pub second_from : 48 ≤ get_or t 1 0
  second_from = (ranges t h).b_from

  pub first_fits : get_or t 0 0 - 65 < 2 ^ 64
  first_fits = omega (arith, (ranges t h).a_to)

  pub second_fits : get_or t 1 0 - 48 < 2 ^ 64
  second_fits = omega (arith, (ranges t h).b_to)

  pub scaled_fits : (get_or t 0 0 - 65) * 75 < 2 ^ 64
  scaled_fits = omega (arith, (ranges t h).a_to)

  pub number_fits : (get_or t 0 0 - 65) * 75 + (get_or t 1 0 - 48) < 2 ^ 64
  number_fits = omega (arith, (ranges t h).a_to, (ranges t h).b_to)

  pub number_is : (get_or t 0 0 - 65) * 75 + (get_or t 1 0 - 48) ≡ name_number t
  unfolding name_number
  number_is = refl

pub ruleset numbers = (name_first, name_second, first_from_lem, second_from, first_fits, second_fits, scaled_fits, number_fits, number_is)

-- Tags by their numbers

-- no tag's number is among these
abbrev clear : List ℕ → List Bytes → Bool
clear ms [] = true
clear ms (t ∷ ts) = not (bit_at ms (name_number t)) && clear ms ts

-- each is a tag whose number is not among those met
unfoldable pub checked : List ℕ → List Bytes → Bool
checked ms [] = true
checked ms (t ∷ ts) = is_tag t && (not (bit_at ms (name_number t)) && checked (set_bit ms (name_number t)) ts)

swap : (a b c : Bool) → (a && (b && c)) ≡ (b && (a && c))
swap true b c = refl
swap false true c = refl
swap false false c = refl

-- after a tag, those are clear whose names are others too
clear_more : (ms : List ℕ) → length ms ≡ 68 → (t : Bytes) → is_tag t ≡ true → (ts : List Bytes) → are_tags ts ≡ true
    → clear (set_bit ms (name_number t)) ts ≡ (not (is_some (tagged (tag_name t) ts)) && clear ms ts)
unfolding tagged
clear_more ms l t h [] k = refl
clear_more ms l t h (u ∷ us) k =
    let g = good_tag u us k in
    let b : bit_at (set_bit ms (name_number t)) (name_number u) ≡ (same (tag_name u) (tag_name t) || bit_at ms (name_number u))
    = bit_set ms (name_number t) (name_number u) (rw l (number_below u g.0)) ∙ ap (◌|| bit_at ms (name_number u)) (same_number t u h g.0) in
    elim (test (same (tag_name u) (tag_name t))) [
      | pass e ↦ rw (tagged_hit (tag_name t) u us e, b, e)
      | fail e ↦ rw (tagged_miss (tag_name t) u us e, b, e, clear_more ms l t h us g.1) (swap (not (bit_at ms (name_number u))) (not (is_some (tagged (tag_name t) us))) (clear ms us))
    ]

checked_by : (ms : List ℕ) → length ms ≡ 68 → (ts : List Bytes) → checked ms ts ≡ (are_tags ts && clear ms ts)
unfolding are_tags checked
checked_by ms l [] = refl
checked_by ms l (t ∷ ts) =
    let n = name_number t in
    together (is_tag t) (bit_at ms n) (is_some (tagged (tag_name t) ts)) (are_tags ts) (clear ms ts) (clear (set_bit ms n) ts) (checked_by (set_bit ms n) (set_length ms n ∙ l) ts) (λ h k. clear_more ms l t h ts k)
  where
    together : (a b s r c d : Bool) {x : Bool} → x ≡ (r && d) → (a ≡ true → r ≡ true → d ≡ (not s && c)) → (a && (not b && x)) ≡ ((a && (not s && r)) && (not b && c))
    together false b s r c d i f = refl
    together true true true r c d i f = refl
    together true true false true c d i f = refl
    together true true false false c d i f = refl
    together true false true true c d i f = i ∙ f refl refl
    together true false true false c d i f = i
    together true false false true c d i f = i ∙ f refl refl
    together true false false false c d i f = i

none_clear : (ts : List Bytes) → clear (replicate 68 0) ts ≡ true
none_clear [] = refl
none_clear (t ∷ ts) = rw (none_set 68 (name_number t)) (none_clear ts)

all_checked : (ts : List Bytes) → are_tags ts ≡ checked (replicate 68 0) ts
all_checked ts = sym (checked_by (replicate 68 0) (length-replicate {0} {A = ℕ} 68 0) ts ∙ rw (none_clear ts) (and_on (are_tags ts)))

checked_more : (ms : List ℕ) (t : Bytes) (ts : List Bytes) → checked ms (t ∷ ts) ≡ (is_tag t && (not (bit_at ms (name_number t)) && checked (set_bit ms (name_number t)) ts))
unfolding checked
checked_more ms t ts = refl

-- the tags before `at` are good, and these are their numbers
pub record Checking (l : Bytes) (met : List ℕ) (at : ℕ) : Type 0 where
  pub inside : at ≤ length l
  pub size : length met ≡ 68
  pub still : are_tags (tags_at l 4) ≡ checked met (tags_at l at)

pub check_none : (l : Bytes) → length l < 4 → true ≡ are_tags (tags_at l 4)
unfolding are_tags
check_none l h = rw (tags_past l 4 h)

pub check_all : (l : Bytes) → 4 ≤ length l → Checking l (replicate 68 0) 4
check_all l h = record { inside = h; size = length-replicate {0} {A = ℕ} 68 0; still = all_checked (tags_at l 4) }

pub is_tagged : (t : Bytes) {q : Bool} → q ≡ is_tag t → not q ≡ false → is_tag t ≡ true
is_tagged t {q} d e = sym d ∙ not_false q e

module _ {l : Bytes} {met : List ℕ} {at : ℕ} (g : Checking l met at) {end : ℕ} (a : end ≡ at + length (before (is TAB) (drop at l)))
    {t : Bytes} (b : t ≡ take (end - at) (drop at l)) {q : Bool} (d : q ≡ is_tag t) where
  here : t ≡ before (is TAB) (drop at l)
  here = b ∙ name_part l at a

  pub check_bad : not q ≡ true → false ≡ are_tags (tags_at l 4)
  check_bad e =
      let w = tags_first l at a g.inside in
      sym (g.still ∙ rw (w.1, checked_more met (before (is TAB) (drop at l)) w.0, ← here, ← d, not_true q e))

  module _ (e : not q ≡ false) {n : ℕ} (c : n ≡ name_number t) {p : Bool} (f : p ≡ bit_at met n) where
    turn : (ts : List Bytes) → tags_at l at ≡ before (is TAB) (drop at l) ∷ ts → are_tags (tags_at l 4) ≡ (not p && checked (set_bit met n) ts)
    turn ts w = g.still ∙ rw (w, checked_more met (before (is TAB) (drop at l)) ts, ← here, ← d, not_false q e, ← c, ← f)

    pub check_twice : p ≡ true → false ≡ are_tags (tags_at l 4)
    check_twice y = let w = tags_first l at a g.inside in sym (turn w.0 w.1 ∙ rw y)

    pub check_last : p ≡ false → length l ≤ end → true ≡ are_tags (tags_at l 4)
    unfolding checked
    check_last y h = sym (turn [] (tags_last l at a g.inside h) ∙ rw y)

    pub check_next : p ≡ false → end < length l → {met' : List ℕ} → met' ≡ set_bit met n → Checking l met' (end + 1)
    check_next y h m = record {
      inside = omega arith;
      size = ap length m ∙ set_length met n ∙ g.size;
      still = turn (tags_at l (end + 1)) (tags_more l at a g.inside h) ∙ rw (y, m);
    }

pub ruleset checks = (check_none, check_all, is_tagged, check_bad, check_twice, check_last, check_next, tag_less)
