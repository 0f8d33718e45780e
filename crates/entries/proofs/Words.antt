-- The words of an entry hold it. Assumes nothing.
use Prim.Native.Nat.{ℕ, zero, suc, ◌+◌, ◌/◌, ◌%◌, ◌^◌, ◌≤◌, ◌<◌}
use native.Mathlib.Omega.{arith}
use native.Mathlib.Nat.{mod-eq_of_lt}
use lib.ListN.{length, get_or}
use lib.Pow.{pow_pos}
use mathlib.Core.Path.{◌≡◌, refl, sym, ap, ◌∙◌}
use mathlib.Core.Bool.{Bool, true, false, ◌&&◌, and-true}
use mathlib.Core.List.{List, [], ◌∷◌}
use lib.Dec.{eqb}
use borrow.Author.Tests.{eq-eqb, ne_eqb, eqb-true}
use Rattle.values.proofs.Tests.{and_l, and_r}
use Rattle.rules.specs.Claims.{All}
use Rattle.rules.specs.Entry.{Entry}
use Rattle.entries.specs.declared.form.Form.{Form}
use Rattle.entries.specs.declared.form.Form.TheVariants.{First, Second}
use Rattle.entries.specs.Values.{limits_by}
use Rattle.entries.specs.Words.{width, packed, numbers_in, told, word_count, bit, bits_one, bits_two, bits_three, numbers_one, numbers_two, numbers_three, word_one, word_two, word_three, words_of, unpacked, is_clear}
use Rattle.entries.proofs.Packing.{Fit, numbers_back, numbers_fit, packed_back}

-- of every form
pub limits_small : (form : Form) → (limits_by form).header < 2 ^ 24
limits_small First = omega arith
limits_small Second = omega arith

-- number i of the third word, as it was stored
abbrev thirds : Form → Entry → ℕ → ℕ
thirds form e i = get_or (numbers_in (bits_three form) (packed (bits_three form) (numbers_three e))) i 0

-- what the third word of a form can hold
pub record Third (form : Form) (e : Entry) : Type 0 where
  pub key : thirds form e 0 ≡ e.key_length
  pub fields : thirds form e 1 ≡ e.field_count
  pub zero : thirds form e 2 ≡ 0

no_third : (e : Entry) → e.key_length ≡ 0 → e.field_count ≡ 0 → Third First e
no_third e k f = record { key = sym k; fields = sym f; zero = refl }

a_third : (e : Entry) → e.key_length < 2 ^ 24 → e.field_count < 2 ^ 24 → Third Second e
a_third e k f =
    let b = numbers_back (24 ∷ 24 ∷ 16 ∷ []) (numbers_three e) (k, (f, (pow_pos 16, tt))) in
    record { key = ap (λ (x : List ℕ). get_or x 0 0) b; fields = ap (λ (x : List ℕ). get_or x 1 0) b; zero = ap (λ (x : List ℕ). get_or x 2 0) b }

-- numbers that their bits can hold
pub record Storable (form : Form) (e : Entry) : Type 0 where
  pub one : Fit (bits_one form) (numbers_one e)
  pub two : Fit (bits_two form) (numbers_two e)
  pub three : Third form e

bit_back : (q : Bool) → eqb (bit q) 1 ≡ q
bit_back true = refl
bit_back false = refl

bit_small : (q : Bool) → bit q < 2 ^ 1
bit_small true = omega arith
bit_small false = omega arith

fits : (s l x y : ℕ) (e : Entry) → e.kind < 2 ^ 4 → e.start < 2 ^ s → e.length < 2 ^ l → e.offset < 2 ^ l → e.id_length < 2 ^ l → e.tag < 2 ^ 2
    → Fit (4 ∷ s ∷ l ∷ x ∷ []) (numbers_one e) × Fit (l ∷ l ∷ 1 ∷ 2 ∷ y ∷ []) (numbers_two e)
fits s l x y e k a b c d t = ((k, (a, (b, (pow_pos x, tt)))), (c, (d, (bit_small e.quoted, (t, (pow_pos y, tt))))))

-- an entry within the limits of a form can be stored in it
pub storable_within : (form : Form) (e : Entry) → e.kind ≤ 10 → e.tag ≤ 2 → e.start ≤ (limits_by form).header → e.length ≤ (limits_by form).line → e.offset ≤ (limits_by form).line
    → e.id_length ≤ (limits_by form).line → e.key_length ≤ (limits_by form).line → e.field_count ≤ (limits_by form).line
    → ((limits_by form).counted ≡ false → (e.key_length ≡ 0) × (e.field_count ≡ 0)) → Storable form e
storable_within First e k t a b c d m n z = let g = fits 20 16 24 29 e (omega arith) (omega arith) (omega arith) (omega arith) (omega arith) (omega arith) in record { one = g.0; two = g.1; three = no_third e (z refl).0 (z refl).1 }
storable_within Second e k t a b c d m n z = let g = fits 24 24 12 13 e (omega arith) (omega arith) (omega arith) (omega arith) (omega arith) (omega arith) in record { one = g.0; two = g.1; three = a_third e (omega arith) (omega arith) }

-- the words of an entry, one by one
words_one : (form : Form) (e : Entry) → get_or (words_of form e) 0 0 ≡ word_one form e
words_one First e = refl
words_one Second e = refl

words_two : (form : Form) (e : Entry) → get_or (words_of form e) 1 0 ≡ word_two form e
words_two First e = refl
words_two Second e = refl

words_three : (form : Form) (e : Entry) → numbers_in (bits_three form) (get_or (words_of form e) 2 0) ≡ numbers_in (bits_three form) (packed (bits_three form) (numbers_three e))
unfolding word_three
words_three First e = refl
words_three Second e = refl

module _ (form : Form) (e : Entry) (s : Storable form e) where
  first_back : numbers_in (bits_one form) (get_or (words_of form e) 0 0) ≡ numbers_one e
  unfolding word_one
  first_back = rw (words_one form e) (numbers_back (bits_one form) (numbers_one e) s.one)

  second_back : numbers_in (bits_two form) (get_or (words_of form e) 1 0) ≡ numbers_two e
  unfolding word_two
  second_back = rw (words_two form e) (numbers_back (bits_two form) (numbers_two e) s.two)

  -- what was stored is read again
  pub unpacked_words : unpacked form (words_of form e) ≡ e
  unfolding unpacked
  unpacked_words = rw (first_back, second_back, words_three form e, bit_back e.quoted, s.three.key, s.three.fields)

  pub words_clear_lem : is_clear form (words_of form e) ≡ true
  unfolding is_clear
  words_clear_lem = rw (first_back, second_back, words_three form e, s.three.zero)

-- Words that are no entry's yet

clear : (a b c : ℕ) → eqb a 0 && (eqb b 0 && eqb c 0) ≡ true → (a ≡ 0) × (b ≡ 0) × (c ≡ 0)
clear a b c e =
    let f = and_r (eqb a 0) (eqb b 0 && eqb c 0) e in
    (eqb-true a 0 (and_l (eqb a 0) (eqb b 0 && eqb c 0) e), eqb-true b 0 (and_l (eqb b 0) (eqb c 0) f), eqb-true c 0 (and_r (eqb b 0) (eqb c 0) f))

-- a word of a table
abbrev pub Word : ℕ → Type 0
Word w = w < 2 ^ 64

bit_of : (x : ℕ) → x < 2 ^ 1 → bit (eqb x 1) ≡ x
bit_of zero h = refl
bit_of (suc zero) h = refl
bit_of (suc (suc x)) h = absurd (omega arith)

-- the numbers of a word with these widths
abbrev ones : ℕ → ℕ → ℕ → List ℕ
ones s l x = 4 ∷ s ∷ l ∷ x ∷ []

abbrev twos : ℕ → ℕ → List ℕ
twos l y = l ∷ l ∷ 1 ∷ 2 ∷ y ∷ []

-- with any numbers of a third word
module _ (s l x y v w : ℕ) (ks : List ℕ) where
  abbrev e : Entry
  e = told (numbers_in (ones s l x) v) (numbers_in (twos l y) w) ks

  held_fits : Fit (ones s l x) (numbers_one e) × Fit (twos l y) (numbers_two e)
  held_fits =
      let f = numbers_fit (ones s l x) v in
      let g = numbers_fit (twos l y) w in
      fits s l x y e f.0 f.1.0 f.1.1.0 g.0 g.1.0 g.1.1.1.0

  one_back : 2 ^ width (ones s l x) ≡ 2 ^ 64 → Word v → v / 2 ^ 0 % 2 ^ x ≡ 0 → packed (ones s l x) (numbers_one e) ≡ v
  one_back t h z =
      ap (λ (n : ℕ). packed (ones s l x) (e.kind ∷ e.start ∷ e.length ∷ n ∷ [])) (sym z) ∙ packed_back (ones s l x) v ∙ rw t (mod-eq_of_lt h)

  two_back : 2 ^ width (twos l y) ≡ 2 ^ 64 → Word w → w / 2 ^ 0 % 2 ^ y ≡ 0 → packed (twos l y) (numbers_two e) ≡ w
  two_back t h z =
      let q = (numbers_fit (twos l y) w).1.1.0 in
      ap (λ (n : ℕ). packed (twos l y) (e.offset ∷ e.id_length ∷ bit e.quoted ∷ e.tag ∷ n ∷ [])) (sym z)
      ∙ ap (λ (n : ℕ). packed (twos l y) (e.offset ∷ e.id_length ∷ n ∷ e.tag ∷ w / 2 ^ 0 % 2 ^ y ∷ [])) (bit_of (w / 2 ^ (2 + (y + 0)) % 2 ^ 1) q)
      ∙ packed_back (twos l y) w
      ∙ rw t (mod-eq_of_lt h)

three_back : (v : ℕ) → Word v → v / 2 ^ 0 % 2 ^ 16 ≡ 0 → packed (24 ∷ 24 ∷ 16 ∷ []) (v / 2 ^ 40 % 2 ^ 24 ∷ v / 2 ^ 16 % 2 ^ 24 ∷ 0 ∷ []) ≡ v
three_back v h z = ap (λ (n : ℕ). packed (24 ∷ 24 ∷ 16 ∷ []) (v / 2 ^ 40 % 2 ^ 24 ∷ v / 2 ^ 16 % 2 ^ 24 ∷ n ∷ [])) (sym z) ∙ packed_back (24 ∷ 24 ∷ 16 ∷ []) v ∙ mod-eq_of_lt h

-- the entry that words hold can be stored again
pub unpacked_storable : (form : Form) (ws : List ℕ) → Storable form (unpacked form ws)
unfolding unpacked
unpacked_storable First ws = let f = held_fits 20 16 24 29 (get_or ws 0 0) (get_or ws 1 0) [] in record { one = f.0; two = f.1; three = no_third _ refl refl }
unpacked_storable Second ws =
    let k = numbers_fit (24 ∷ 24 ∷ 16 ∷ []) (get_or ws 2 0) in
    let f = held_fits 24 24 12 13 (get_or ws 0 0) (get_or ws 1 0) (numbers_in (24 ∷ 24 ∷ 16 ∷ []) (get_or ws 2 0)) in
    record { one = f.0; two = f.1; three = a_third _ k.0 k.1.0 }

-- and is stored as they are, where the bits that no number has are 0
pub repacked : (form : Form) (ws : List ℕ) → length ws ≡ word_count form → All Word ws → is_clear form ws ≡ true → words_of form (unpacked form ws) ≡ ws
unfolding unpacked is_clear word_one word_two word_three
repacked First (v ∷ w ∷ []) n a c =
    let z = clear (v / 2 ^ 0 % 2 ^ 24) (w / 2 ^ 0 % 2 ^ 29) 0 c in
    rw (one_back 20 16 24 29 v w [] refl a.0 z.0, two_back 20 16 24 29 v w [] refl a.1.0 z.1)
repacked Second (v ∷ w ∷ x ∷ []) n a c =
    let z = clear (v / 2 ^ 0 % 2 ^ 12) (w / 2 ^ 0 % 2 ^ 13) (x / 2 ^ 0 % 2 ^ 16) c in
    let ks = numbers_in (24 ∷ 24 ∷ 16 ∷ []) x in
    rw (one_back 24 24 12 13 v w ks refl a.0 z.0, two_back 24 24 12 13 v w ks refl a.1.0 z.1, three_back x a.1.1.0 z.2)
repacked First [] n a c = absurd (omega arith)
repacked First (v ∷ []) n a c = absurd (omega arith)
repacked First (v ∷ w ∷ x ∷ ws) n a c = absurd (omega arith)
repacked Second [] n a c = absurd (omega arith)
repacked Second (v ∷ []) n a c = absurd (omega arith)
repacked Second (v ∷ w ∷ []) n a c = absurd (omega arith)
repacked Second (v ∷ w ∷ x ∷ y ∷ ws) n a c = absurd (omega arith)

-- What answers the needs of `is_clear`

module _ {form : Form} (w x y : ℕ) where
  module _ (e : form ≡ First) where
    pub first_set : (w % 16777216 ≡ 0 → ⊥) → false ≡ is_clear form (w ∷ x ∷ y ∷ [])
    unfolding is_clear
    first_set n = rw (e, ne_eqb (w / 1 % 16777216) 0 (λ z. n (omega arith)))

    pub first_clear : w % 16777216 ≡ 0 → eqb (x % 536870912) 0 ≡ is_clear form (w ∷ x ∷ y ∷ [])
    unfolding is_clear
    first_clear z = let f : x / 1 ≡ x = omega arith in rw (e, eq-eqb (w / 1 % 16777216) 0 (omega arith), f) (sym (and-true (eqb (x % 536870912) 0)))

  module _ (e : form ≡ Second) where
    pub second_set : (w % 4096 ≡ 0 → ⊥) → false ≡ is_clear form (w ∷ x ∷ y ∷ [])
    unfolding is_clear
    second_set n = rw (e, ne_eqb (w / 1 % 4096) 0 (λ z. n (omega arith)))

    module _ (z : w % 4096 ≡ 0) where
      pub third_unasked : (x % 8192 ≡ 0 → ⊥) → false ≡ is_clear form (w ∷ x ∷ y ∷ [])
      unfolding is_clear
      third_unasked n = rw (e, eq-eqb (w / 1 % 4096) 0 (omega arith), ne_eqb (x / 1 % 8192) 0 (λ t. n (omega arith)))

      pub third_clear : x % 8192 ≡ 0 → eqb (y % 65536) 0 ≡ is_clear form (w ∷ x ∷ y ∷ [])
      unfolding is_clear
      third_clear t = let f : y / 1 ≡ y = omega arith in rw (e, eq-eqb (w / 1 % 4096) 0 (omega arith), eq-eqb (x / 1 % 8192) 0 (omega arith), f)

pub ruleset clears = (first_set, first_clear, second_set, third_unasked, third_clear)
