-- The names of fields: what a field key names, and names that are fresh, each none of those before. Assumes nothing.
use mathlib.Core.Path.{◌≡◌, refl, sym, ap, ◌∙◌}
use mathlib.Core.Bool.{true, false, ◌||◌}
use mathlib.Core.List.{List, [], ◌∷◌}
use Rattle.std.specs.Prelude.{Some}
use Rattle.values.specs.Bytes.{Bytes, ascii, same}
use Rattle.values.proofs.Tests.{pass, fail, test, never, or_l, or_r, and_r, and_off, both}
use Rattle.values.proofs.Lists.{some_is}
use Rattle.rules.specs.Version.{Version, v4_3, earlier}
use Rattle.rules.specs.Known.{is_in, KnownField, names, row_named, names_id, name_of, tag_of}
use Rattle.rules.specs.Map.{is_some}
use Rattle.rules.specs.House.{name_of_tag}
use Rattle.values.proofs.Sames.{same_sound, same_self}
use Rattle.rules.specs.Claims.{All}

pub name_id : (v : Version) (k field : Bytes) → names_id v k field ≡ true → name_of v k field ≡ ascii "ID"
unfolding name_of
name_id v k field e = rw (e, name_of)

pub name_other : (v : Version) (k field : Bytes) → names_id v k field ≡ false → name_of v k field ≡ field
unfolding name_of
name_other v k field e = rw (e, name_of)

-- no name but Child and Derived also names the ID
pub name_plain : (v : Version) (k field : Bytes) → same field (ascii "Child") || same field (ascii "Derived") ≡ false → name_of v k field ≡ field
unfolding names_id
name_plain v k field e = name_other v k field (and_off (same k (ascii "PEDIGREE")) (and_off (earlier v v4_3) e))

pub name_is : (v : Version) (k field n : Bytes) → name_of v k field ≡ n → same n (ascii "ID") ≡ false → field ≡ n
name_is v k field n e d = elim (test (names_id v k field)) [
  | pass q ↦ both (rw (← e) (rw (name_id v k field q) (same_self (ascii "ID")))) d
  | fail q ↦ sym (name_other v k field q) ∙ e
]

-- a field that names the ID has its tag's name
pub id_key : (v : Version) (k field : Bytes) → name_of v k field ≡ ascii "ID" → name_of_tag (tag_of field) ≡ field
unfolding names_id same
id_key v k field e = elim (test (names_id v k field)) [
  | pass q ↦ tag (and_r (earlier v v4_3) (same field (ascii "Child") || same field (ascii "Derived")) (and_r (same k (ascii "PEDIGREE")) _ q))
  | fail q ↦ let f : field ≡ ascii "ID" = sym (name_other v k field q) ∙ e in rw f
]
  where
    tag : same field (ascii "Child") || same field (ascii "Derived") ≡ true → name_of_tag (tag_of field) ≡ field
    tag h = elim (test (same field (ascii "Child"))) [
      | pass e ↦ rw (same_sound field (ascii "Child") e)
      | fail e ↦ rw (same_sound field (ascii "Derived") (rw e at h))
    ]

-- Rows of the table of known fields

pub row_is : (name : Bytes) (rs : List KnownField) {r : KnownField} → row_named name rs ≡ Some r → r.name ≡ name
unfolding row_named
row_is name [] e = never cc
row_is name (x ∷ rs) e = elim (test (same x.name name)) [
  | pass q ↦ sym (ap (λ (r : KnownField). r.name) (some_is (rw (row_named, q) at e))) ∙ same_sound x.name name q
  | fail q ↦ row_is name rs (rw (row_named, q) at e)
]

-- a name is known exactly where it has a row
pub row_known : (name : Bytes) (rs : List KnownField) → is_in name (names rs) ≡ is_some (row_named name rs)
unfolding row_named is_in
row_known name [] = refl
row_known name (r ∷ rs) = elim (test (same r.name name)) [ pass q ↦ rw (row_named, q) | fail q ↦ rw (row_named, q) (row_known name rs) ]

-- each is none of those before it
abbrev pub Fresh : List Bytes → List Bytes → Type 0
Fresh seen [] = Unit {0}
Fresh seen (n ∷ ns) = (is_in n seen ≡ false) × Fresh (n ∷ seen) ns

-- what is in none of the lists s and a is not in t
abbrev pub Within : List Bytes → List Bytes → List Bytes → Type 0
Within s a t = (n : Bytes) → is_in n s ≡ false → is_in n a ≡ false → is_in n t ≡ false

within_more : (m : Bytes) (s a t : List Bytes) → Within s a t → Within (m ∷ s) a (m ∷ t)
unfolding is_in
within_more m s a t w n h k = rw (or_l (same m n) (is_in n s) h) (w n (or_r (same m n) (is_in n s) h) k)

pub fresh_less : (s a t ns : List Bytes) → Within s a t → All (λ n. is_in n a ≡ false) ns → Fresh s ns → Fresh t ns
fresh_less s a t [] w h f = tt
fresh_less s a t (n ∷ ns) w h f = (w n f.0 h.0, fresh_less (n ∷ s) a (n ∷ t) ns (within_more n s a t w) h.1 f.1)
