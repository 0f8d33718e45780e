-- Reserved IDs: rows of one length are looked through one after the other, and are those of the rules' table. Assumes nothing.
use Prim.Native.Nat.{ℕ, zero, suc, ◌+◌, ◌-◌, ◌≤◌, ◌<◌}
use native.Mathlib.Omega.{arith}
use mathlib.Core.Path.{◌≡◌, refl, sym, ap, ap₂, ◌∙◌}
use mathlib.Core.Bool.{Bool, true, false, not, ◌||◌, ◌&&◌, false≢true}
use mathlib.Core.List.{List, [], ◌∷◌, ◌++◌}
use Rattle.std.specs.Prelude.{Option, None, Some}
use lib.Dec.{eqb}
use lib.ListN.{length, get_or, drop, take, length-append, get_or-append}
use lib.Seq.{drop-append_seam}
use Rattle.std.proofs.lemmas.List.{take-append-le}
use borrow.Author.Tests.{eq-eqb, ne_eqb, lt-ltb, le-ltb}
use Rattle.values.specs.Bytes.{Bytes, any, same}
use Rattle.values.specs.Value.{is_escapable, meaning}
use Rattle.values.proofs.Tests.{pass, fail, test, and_l, and_r, not_true}
use Rattle.values.proofs.Sames.{same_sound, same_sym}
use Rattle.values.proofs.Plains.{same_raw}
use Rattle.rules.specs.Known.{Number as Asked}
use Rattle.rules.specs.Reserved.{ReservedRow, look_row}
use Rattle.records.specs.Definitions.{asked, outline, number_coded, type_coded, row_coded, rows_in}
use Rattle.records.specs.Numbers.{type_name}
use Rattle.records.specs.declared.number.Number.{Number}
use Rattle.records.specs.declared.number.Number.TheVariants.{Count, Letter}
use Rattle.records.specs.declared.number.ValueType.{ValueType}
use Rattle.records.specs.declared.number.ValueType.TheVariants.{Integer, Float, Flag, String}

-- what a byte stands for

pub letter_below : (a b : ℕ) → a < 48 → Letter a b ≡ number_coded a b
letter_below a b h = rw (number_coded, lt-ltb a 48 h)

pub letter_above : (a b : ℕ) → 57 < a → Letter a b ≡ number_coded a b
letter_above a b h = rw (number_coded, le-ltb a 48 (omega (arith, h)), lt-ltb 57 a h)

pub digit_between : (a b : ℕ) → 48 ≤ a → a ≤ 57 → Count (a - 48) ≡ number_coded a b
digit_between a b g h = rw (number_coded, le-ltb a 48 g, le-ltb 57 a h)

pub ruleset digits = (letter_below, letter_above, digit_between)

module _ (t : ℕ) where
  pub type_i : t ≡ 73 → Integer ≡ type_coded t
  type_i e = rw e

  pub type_float : t ≡ 70 → Float ≡ type_coded t
  type_float e = rw e

  pub type_flag : t ≡ 102 → Flag ≡ type_coded t
  type_flag e = rw e

  pub type_other : (t ≡ 73 → ⊥) → (t ≡ 70 → ⊥) → (t ≡ 102 → ⊥) → String ≡ type_coded t
  type_other a b c = rw (type_coded, ne_eqb t 73 a, ne_eqb t 70 b, ne_eqb t 102 c)

pub ruleset typed = (type_i, type_float, type_flag, type_other)

-- the rows before `at` are others
pub record Looking (rows id : Bytes) (size : ℕ) (rest : Bytes) : Type 0 where
  pub sized : size ≡ length id + 3
  pub most : ℕ
  pub enough : length rest ≤ most
  pub still : look_row id (rows_in (length rows) (length id) rows) ≡ look_row id (rows_in most (length id) rest)

abbrev pub Found : Bytes → Bytes → Option (Asked × Bytes) → Type 0
Found rows id o = o ≡ outline (look_row id (rows_in (length rows) (length id) rows))

pub look_start : {rows id rest : Bytes} {size : ℕ} → rest ≡ rows → size ≡ length id + 3 → Looking rows id size rest
look_start {rows} {id} e n = record { sized = n; most = length rows; enough = rw e (omega arith); still = rw e refl }

-- too little for a row
rows_none : (most n : ℕ) (bs : Bytes) → length bs < n + 3 → rows_in most n bs ≡ []
unfolding rows_in
rows_none zero n bs h = refl
rows_none (suc most) n bs h = rw (rows_in, lt-ltb (length bs) (n + 3) h)

rows_some : (most n : ℕ) (bs : Bytes) → n + 3 ≤ length bs → length bs ≤ most → (less : ℕ) × (length bs ≤ less + 1) × (rows_in most n bs ≡ row_coded n bs ∷ rows_in less n (drop (n + 3) bs))
unfolding rows_in
rows_some zero n bs h e = absurd (omega (arith, h, e))
rows_some (suc most) n bs h e = (most, omega (arith, e), rw (rows_in, le-ltb (length bs) (n + 3) h))

row_front : (n : ℕ) (row more : Bytes) → n + 3 ≡ length row → row_coded n (row ++ more) ≡ row_coded n row
row_front n row more w =
    rw (take-append-le n row more (omega (arith, w)), get_or-append row more 0 n (omega (arith, w)), get_or-append row more 0 (n + 1) (omega (arith, w)), get_or-append row more 0 (n + 2) (omega (arith, w)))

module _ {rows id rest : Bytes} {size : ℕ} (g : Looking rows id size rest) where
  pub look_sized : size ≡ length id + 3
  look_sized = g.sized

  pub look_ended : length rest < size → Found rows id None
  unfolding look_row
  look_ended h = sym (ap outline (g.still ∙ ap (look_row id) (rows_none g.most (length id) rest (omega (arith, h, g.sized)))))

  module _ (row more : Bytes) (a : rest ≡ row ++ more) (l : length row ≡ size) where
    long : length rest ≡ length id + 3 + length more
    long = ap length a ∙ length-append row more ∙ ap (◌+ length more) (l ∙ g.sized)

    step : (less : ℕ) × (length rest ≤ less + 1) × (look_row id (rows_in (length rows) (length id) rows) ≡ look_row id (row_coded (length id) row ∷ rows_in less (length id) more))
    step =
        let s = rows_some g.most (length id) rest (omega (arith, long)) g.enough in
        let w : length id + 3 ≡ length row = sym (l ∙ g.sized) in (
          s.0,
          s.1,
          g.still ∙ ap (look_row id) (s.2 ∙ ap₂ (λ (r : ReservedRow) (rs : List ReservedRow). r ∷ rs) (ap (row_coded (length id)) a ∙ row_front (length id) row more w)
              (ap (rows_in s.0 (length id)) (ap₂ (λ (k : ℕ) (bs : Bytes). drop k bs) w a ∙ drop-append_seam row more))),
        )

    module _ {p : Bytes} (b : p ≡ take (length id) row) {q : Bool} (c : q ≡ same p id) where
      name_is : q ≡ same (take (length id) row) id
      name_is = c ∙ ap (λ (x : Bytes). same x id) b

      pub look_hit : q ≡ true → {x : Number} → x ≡ number_coded (get_or row (length id) 0) (get_or row (length id + 1) 0) → {y : ValueType}
          → y ≡ type_coded (get_or row (length id + 2) 0) → Found rows id (Some (asked x, type_name y))
      unfolding look_row
      look_hit e {x} f {y} h =
          let found : look_row id (row_coded (length id) row ∷ rows_in step.0 (length id) more) ≡ Some (row_coded (length id) row) = rw (look_row, sym name_is ∙ e) in
          sym (ap outline (step.2 ∙ found) ∙ rw (f, h))

      pub look_next : q ≡ false → Looking rows id size more
      unfolding look_row
      look_next e =
          let s = step in
          record { sized = g.sized; most = s.0; enough = omega (arith, s.1, long); still = s.2 ∙ rw (look_row, sym name_is ∙ e) }

pub ruleset looking = (look_start, look_sized, look_ended, look_hit, look_next)

-- The rows of one length

-- those whose ID has n bytes
abbrev pub of_length : ℕ → List ReservedRow → List ReservedRow
of_length n [] = []
of_length n (r ∷ rs) = elim (eqb (length r.id) n) [ true ↦ r ∷ of_length n rs | false ↦ of_length n rs ]

look_length : (id : Bytes) (rs : List ReservedRow) → look_row id rs ≡ look_row id (of_length (length id) rs)
unfolding look_row
look_length id [] = refl
look_length id (r ∷ rs) = elim (test (eqb (length r.id) (length id))) [
  | pass e ↦ rw (e, of_length, look_row) (ap (λ (o : Option ReservedRow). elim (same r.id id) [ true ↦ Some r | false ↦ o ]) (look_length id rs))
  | fail e ↦ elim (test (same r.id id)) [
    | pass f ↦ absurd (false≢true (sym e ∙ eq-eqb (length r.id) (length id) (ap length (same_sound r.id id f))))
    | fail f ↦ rw (look_row, of_length, e, f) (look_length id rs)
  ]
]

-- the text of a length has the table's rows of that length
pub length_told : (rs : List ReservedRow) (text : Bytes) (n : ℕ) → rows_in (length text) n text ≡ of_length n rs → (id : Bytes) → length id ≡ n
    → {o : Option (Asked × Bytes)} → Found text id o → o ≡ outline (look_row id rs)
length_told rs text n t id e f = f ∙ ap outline (ap (look_row id) (rw e t) ∙ sym (look_length id rs))

-- no row has an ID of another length than these
abbrev pub Without : ℕ → List ℕ → Type 0
Without n [] = Unit {0}
Without n (m ∷ ms) = (n ≡ m → ⊥) × Without n ms

abbrev pub is_among : ℕ → List ℕ → Bool
is_among n [] = false
is_among n (m ∷ ms) = eqb n m || is_among n ms

not_among : (n : ℕ) (ms : List ℕ) → Without n ms → is_among n ms ≡ false
not_among n [] w = refl
not_among n (m ∷ ms) w = rw (ne_eqb n m w.0) (not_among n ms w.1)

abbrev pub lengths_in : List ℕ → List ReservedRow → Bool
lengths_in ms [] = true
lengths_in ms (r ∷ rs) = is_among (length r.id) ms && lengths_in ms rs

pub length_none : (rs : List ReservedRow) (ms : List ℕ) → lengths_in ms rs ≡ true → (id : Bytes) → Without (length id) ms → None ≡ outline (look_row id rs)
unfolding look_row
length_none [] ms t id w = refl
length_none (r ∷ rs) ms t id w = elim (test (same r.id id)) [
  | pass f ↦ absurd (false≢true (sym (not_among (length id) ms w) ∙ rw (← same_sound r.id id f) (and_l (is_among (length r.id) ms) (lengths_in ms rs) t)))
  | fail f ↦ rw (look_row, f) (length_none rs ms (and_r (is_among (length r.id) ms) (lengths_in ms rs) t) id w)
]

-- Rows without escapes are found as the bytes stand

abbrev pub plain_rows : List ReservedRow → Bool
plain_rows [] = true
plain_rows (r ∷ rs) = not (any is_escapable r.id) && plain_rows rs

pub look_raw : (rs : List ReservedRow) → plain_rows rs ≡ true → (q : Bool) (id : Bytes) → look_row (meaning q id) rs ≡ look_row id rs
unfolding look_row
look_raw rs t false id = refl
look_raw rs t true id = go rs t
  where
    go : (rs : List ReservedRow) → plain_rows rs ≡ true → look_row (meaning true id) rs ≡ look_row id rs
    go [] t = refl
    go (r ∷ rs) t =
        let alike : same r.id (meaning true id) ≡ same r.id id
        = same_sym r.id (meaning true id) ∙ same_raw id r.id (not_true (any is_escapable r.id) (and_l (not (any is_escapable r.id)) (plain_rows rs) t)) ∙ same_sym id r.id in
        elim (test (same r.id id)) [
          | pass f ↦ rw (look_row, alike, f)
          | fail f ↦ rw (look_row, alike, f) (go rs (and_r (not (any is_escapable r.id)) (plain_rows rs) t))
        ]
