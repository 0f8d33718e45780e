-- Number and Type: the code's tests. Assumes nothing.
use Rattle.std.specs.Prelude.{Option, Some, None}
use Prim.Native.Nat.{ℕ}
use mathlib.Core.Path.{◌≡◌, refl, sym, ap, ◌∙◌}
use mathlib.Core.Bool.{Bool, true, false}
use mathlib.Core.List.{[], ◌∷◌}
use lib.Dec.{eqb}
use borrow.Author.Tests.{eq-eqb, ne_eqb}
use Rattle.values.specs.Bytes.{Bytes, ascii, same}
use Rattle.values.specs.Integer.{u64_read}
use Rattle.values.specs.Value.{meaning}
use Rattle.rules.specs.Known.{is_in}
use Rattle.records.specs.Lists.{listed_row}
use Rattle.records.specs.Numbers.{letters_of, types_of, lettered, is_number_of, type_name}
use Rattle.records.specs.declared.number.Number.{Number}
use Rattle.records.specs.declared.number.Number.TheVariants.{Count, Letter}
use Rattle.records.specs.declared.number.Letters.{Letters}
use Rattle.records.specs.declared.number.Letters.TheVariants.{Common, Phased, Local}
use Rattle.records.specs.declared.number.ValueType.{ValueType}

module _ (s : Bytes) (quoted : Bool) (ls : Letters) where
  -- `text` lists the letters of this case
  lettered_by : {which : Letters} (text : Bytes) → listed_row text ≡ letters_of which → ls ≡ which → {q : Bool} → q ≡ is_in (meaning quoted s) (listed_row text) → q ≡ is_in (meaning quoted s) (letters_of ls)
  lettered_by text t l d = rw l (d ∙ ap (is_in (meaning quoted s)) t)

  pub letter_common : ls ≡ Common → {q : Bool} → q ≡ is_in (meaning quoted s) (listed_row (ascii "A,R,G,.")) → q ≡ is_in (meaning quoted s) (letters_of ls)
  unfolding listed_row
  letter_common l d = lettered_by (ascii "A,R,G,.") refl l d

  pub letter_phased : ls ≡ Phased → {q : Bool} → q ≡ is_in (meaning quoted s) (listed_row (ascii "A,R,G,.,P")) → q ≡ is_in (meaning quoted s) (letters_of ls)
  unfolding listed_row
  letter_phased l d = lettered_by (ascii "A,R,G,.,P") refl l d

  pub letter_local : ls ≡ Local → {q : Bool} → q ≡ is_in (meaning quoted s) (listed_row (ascii "A,R,G,.,P,LA,LR,LG,M")) → q ≡ is_in (meaning quoted s) (letters_of ls)
  unfolding listed_row
  letter_local l d = lettered_by (ascii "A,R,G,.,P,LA,LR,LG,M") refl l d

module _ (s : Bytes) (quoted : Bool) {r : Option (ℕ × Bool)} (a : r ≡ u64_read s) where
  pub same_count : {x : Number} {n : ℕ} → x ≡ Count n → {m : ℕ} {p : Bool} → r ≡ Some (m, p) → eqb m n ≡ is_number_of x s quoted
  same_count e f = rw (e, sym a ∙ f)

  pub no_count : {x : Number} {n : ℕ} → x ≡ Count n → r ≡ None → false ≡ is_number_of x s quoted
  no_count e f = rw (e, sym a ∙ f)

module _ (s : Bytes) (quoted : Bool) where
  pub flag_type : (flag : Bool) → flag ≡ true → {q : Bool} → q ≡ is_in (meaning quoted s) (listed_row (ascii "Integer,Float,Character,String,Flag")) → q ≡ is_in (meaning quoted s) (types_of flag)
  unfolding listed_row
  flag_type flag e c = rw e c

  pub plain_type : (flag : Bool) → flag ≡ false → {q : Bool} → q ≡ is_in (meaning quoted s) (listed_row (ascii "Integer,Float,Character,String")) → q ≡ is_in (meaning quoted s) (types_of flag)
  unfolding listed_row
  plain_type flag e c = rw e c

  pub type_named : (x : ValueType) {y : ValueType} → x ≡ y → {q : Bool} → q ≡ same (type_name y) (meaning quoted s) → q ≡ same (type_name x) (meaning quoted s)
  type_named x e c = rw e c

  pub letter_asked : (x : Number) {a b : ℕ} → x ≡ Letter a b → {q : Bool} → q ≡ same (lettered a b) (meaning quoted s) → q ≡ is_number_of x s quoted
  letter_asked x e c = rw e c

  pub one_letter : (a b : ℕ) → b ≡ 32 → {q : Bool} → q ≡ same (a ∷ []) (meaning quoted s) → q ≡ same (lettered a b) (meaning quoted s)
  one_letter a b e c = rw (lettered, eq-eqb b 32 e) c

  pub two_letters : (a b : ℕ) → (b ≡ 32 → ⊥) → {q : Bool} → q ≡ same (a ∷ b ∷ []) (meaning quoted s) → q ≡ same (lettered a b) (meaning quoted s)
  two_letters a b e c = rw (lettered, ne_eqb b 32 e) c

pub ruleset letters = (letter_common, letter_phased, letter_local)

pub ruleset types = (flag_type, plain_type)

pub ruleset numbers = (same_count, no_count, letter_asked)

pub ruleset letterings = (one_letter, two_letters)
