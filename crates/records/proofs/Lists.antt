-- Lists of names: one name after the other. Assumes nothing.
use Prim.Native.Nat.{ℕ, ◌+◌, ◌-◌, ◌≤◌, ◌<◌}
use native.Mathlib.Omega.{arith}
use mathlib.Core.Path.{◌≡◌, refl, sym, ap, ◌∙◌}
use mathlib.Core.Bool.{Bool, true, false, ◌||◌}
use mathlib.Core.List.{List, [], ◌∷◌}
use lib.ListN.{length, drop, take, drop_of_length-le}
use Rattle.values.specs.Bytes.{Bytes, is, before, from, same}
use Rattle.values.specs.Value.{meaning}
use Rattle.values.proofs.Tests.{pass, fail, test}
use Rattle.values.proofs.Lists.{here, from_at}
use Rattle.values.proofs.Fields.{before_part}
use Rattle.rules.specs.Known.{is_in}
use Rattle.records.specs.Lists.{listed_row}

-- the first name, and those after it
abbrev following : Bytes → List Bytes
following [] = []
following (b ∷ bs) = listed_row bs

listed_first : (bs : Bytes) → listed_row bs ≡ before (is 44) bs ∷ following (from (is 44) bs)
unfolding listed_row before from
listed_first [] = refl
listed_first (b ∷ bs) = elim (test (is 44 b)) [
  | pass e ↦ rw (listed_row, before, from, e)
  | fail e ↦ rw (listed_row, before, from, e, listed_first bs)
]

-- the names before `start` are others
pub record Listing (list : Bytes) (s : Bytes) (quoted : Bool) (start : ℕ) : Type 0 where
  pub inside : start ≤ length list
  pub still : is_in (meaning quoted s) (listed_row list) ≡ is_in (meaning quoted s) (listed_row (drop start list))

pub list_all : (list s : Bytes) (quoted : Bool) → Listing list s quoted 0
list_all list s quoted = record { inside = omega arith; still = refl }

module _ {list s : Bytes} {quoted : Bool} {start : ℕ} (g : Listing list s quoted start) {end : ℕ} (a : end ≡ start + length (before (is 44) (drop start list))) {p : Bytes} (b : p ≡ take (end - start) (drop start list))
    {q : Bool} (c : q ≡ same p (meaning quoted s)) where
  name_is : p ≡ before (is 44) (drop start list)
  name_is = b ∙ before_part (is 44) list start a

  rest_is : from (is 44) (drop start list) ≡ drop end list
  rest_is = from_at (is 44) list start ∙ ap (λ (i : ℕ). drop i list) (sym a)

  opened : is_in (meaning quoted s) (listed_row list) ≡ (q || is_in (meaning quoted s) (following (drop end list)))
  unfolding is_in
  opened = g.still ∙ rw (listed_first (drop start list), rest_is, c, name_is)

  pub name_found : q ≡ true → true ≡ is_in (meaning quoted s) (listed_row list)
  name_found e = sym (opened ∙ rw e)

  pub list_ended : q ≡ false → length list ≤ end → false ≡ is_in (meaning quoted s) (listed_row list)
  unfolding is_in
  list_ended e h = sym (opened ∙ rw (e, drop_of_length-le list h))

  pub name_next : q ≡ false → end < length list → Listing list s quoted (end + 1)
  name_next e h = record { inside = omega arith; still = opened ∙ rw (e, here list end h) }

  pub name_less : end < length list → length list - (end + 1) < length list - start
  name_less h = omega arith

pub ruleset lists = (list_all, name_found, list_ended, name_next, name_less)
