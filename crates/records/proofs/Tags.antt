-- The table of known fields: the code's tests of a field's key, and what its tag says of its name. Assumes nothing.
use Prim.Native.Nat.{ℕ}
use mathlib.Core.Path.{◌≡◌, refl, sym, ap, ◌∙◌, ap₂}
use mathlib.Core.Bool.{Bool, true, false, not, ◌||◌, ◌&&◌, and_assoc, false≢true}
use mathlib.Core.List.{List, [], ◌∷◌}
use Rattle.std.specs.Prelude.{Option, None, Some}
use lib.Dec.{eqb}
use Rattle.values.specs.Bytes.{Bytes, ascii, same}
use Rattle.values.proofs.Tests.{pass, fail, test, both}
use Rattle.values.proofs.Sames.{same_sound, same_self}
use Rattle.rules.specs.Version.{Version, v4_3, earlier}
use Rattle.rules.specs.Known.{Kind, INFO, FILTER, FORMAT, ALT, contig, other, KnownField, id_field, rows, row_named, kind_of, names_id, name_of, tag_of}
use Rattle.rules.specs.Map.{known_named}
use Rattle.rules.proofs.Names.{name_id, name_other, row_is}
use Rattle.records.specs.Keys.{case_bytes, kind_by}
use Rattle.records.specs.Tags.{tag_row, name_in, tag_name, is_required, is_kept, after_id}
use Rattle.records.specs.declared.key.MapKey.{MapKey}
use Rattle.records.specs.declared.tag.Tag.{Tag}
use Rattle.records.specs.declared.tag.Tag.TheVariants.{Id, Number, ValueType, Description, Length, Md5, Url, Idx, Other}
use Rattle.records.proofs.Keys.{kind_by_case}

-- the rows are tried one after the other; q is what the code's test answered
module _ (r : KnownField) (rs : List KnownField) (field : Bytes) {q : Bool} (a : q ≡ same r.name field) where
  pub row_here : q ≡ true → Some r ≡ row_named field (r ∷ rs)
  unfolding row_named
  row_here e = rw (row_named, sym a ∙ e)

  pub row_later : q ≡ false → {o : Option KnownField} → o ≡ row_named field rs → o ≡ row_named field (r ∷ rs)
  unfolding row_named
  row_later e f = rw (row_named, sym a ∙ e) f

pub row_none : (field : Bytes) → None ≡ row_named field []
unfolding row_named
row_none field = refl

-- by the case of the map's key
pub row_told : (key : MapKey) (field : Bytes) {j : MapKey} → key ≡ j → {o : Option KnownField} → o ≡ row_named field (after_id (kind_by j)) → o ≡ row_named field (after_id (kind_by key))
row_told key field e f = rw e f

pub ruleset tried = (row_here, row_later, row_none)

pub ruleset told = (row_told, row_none)

module _ (field : Bytes) {c : Bool} (a : c ≡ same field (ascii "Child")) where
  pub tag_child : c ≡ true → 1 ≡ tag_of field
  tag_child e = rw (tag_of, sym a ∙ e)

  module _ (e : c ≡ false) {d : Bool} (b : d ≡ same field (ascii "Derived")) where
    pub tag_derived : d ≡ true → 2 ≡ tag_of field
    tag_derived f = rw (tag_of, sym a ∙ e) (rw (sym b ∙ f))

    pub tag_id : d ≡ false → 0 ≡ tag_of field
    tag_id f = rw (tag_of, sym a ∙ e) (rw (sym b ∙ f))

pub ruleset id_tags = (tag_child, tag_derived, tag_id)

-- The ID's names

lineage_tag : (field : Bytes) → not (eqb (tag_of field) 0) ≡ same field (ascii "Child") || same field (ascii "Derived")
lineage_tag field = elim (test (same field (ascii "Child"))) [
  | pass e ↦ rw (tag_of, e)
  | fail e ↦ elim (test (same field (ascii "Derived"))) [ pass f ↦ rw (tag_of, e, f) | fail f ↦ rw (tag_of, e, f) ]
]

module _ (v : Version) (k field : Bytes) {q : Bool} (a : q ≡ same (ascii "ID") field) where
  pub id_itself : q ≡ true → true ≡ same (ascii "ID") (name_of v k field)
  id_itself e = elim (test (names_id v k field)) [
    | pass f ↦ rw (name_id v k field f) (sym (same_self (ascii "ID")))
    | fail f ↦ rw (name_other v k field f) (sym (sym a ∙ e))
  ]

  own_name : q ≡ false → same (ascii "ID") (name_of v k field) ≡ names_id v k field
  own_name e = elim (test (names_id v k field)) [
    | pass f ↦ rw (name_id v k field f, f) (same_self (ascii "ID"))
    | fail f ↦ rw (name_other v k field f, f) (sym a ∙ e)
  ]

  module _ (e : q ≡ false) {l : Bool} (b : l ≡ (same k (ascii "PEDIGREE") && earlier v v4_3)) where
    by_name : {x : Bool} → l ≡ x → same (ascii "ID") (name_of v k field) ≡ (x && (same field (ascii "Child") || same field (ascii "Derived")))
    unfolding names_id
    by_name f =
        own_name e ∙ sym (and_assoc (same k (ascii "PEDIGREE")) (earlier v v4_3) (same field (ascii "Child") || same field (ascii "Derived")))
        ∙ ap (◌&& (same field (ascii "Child") || same field (ascii "Derived"))) (sym b ∙ f)

    pub no_lineage : l ≡ false → false ≡ same (ascii "ID") (name_of v k field)
    no_lineage f = sym (by_name f)

    pub by_lineage : l ≡ true → {t : ℕ} → t ≡ tag_of field → not (eqb t 0) ≡ same (ascii "ID") (name_of v k field)
    by_lineage f c = ap (λ (t : ℕ). not (eqb t 0)) c ∙ lineage_tag field ∙ sym (by_name f)

pub ruleset id_names = (id_itself, no_lineage, by_lineage)

-- the ID stands first in each kind's rows
id_first : (kind : Kind) → rows kind ≡ id_field ∷ after_id kind
id_first INFO = refl
id_first FILTER = refl
id_first FORMAT = refl
id_first ALT = refl
id_first contig = refl
id_first other = refl

pub id_row : (kind : Kind) → row_named (ascii "ID") (rows kind) ≡ Some id_field
unfolding row_named
id_row kind = rw (id_first kind, row_named, same_self (ascii "ID"))

module _ (v : Version) (key : MapKey) (field : Bytes) {q : Bool} (a : q ≡ same (ascii "ID") (name_of v (case_bytes key) field)) where
  pub tag_named_id : q ≡ true → Some id_field ≡ known_named v (case_bytes key) field
  tag_named_id e = rw (← same_sound (ascii "ID") (name_of v (case_bytes key) field) (sym a ∙ e)) (sym (id_row (kind_of (case_bytes key))))

  pub tag_after_id : q ≡ false → {o : Option KnownField} → o ≡ row_named field (after_id (kind_by key)) → o ≡ known_named v (case_bytes key) field
  unfolding row_named same
  tag_after_id e f =
      let n : name_of v (case_bytes key) field ≡ field = elim (test (names_id v (case_bytes key) field)) [
        | pass g ↦ both (same_self (ascii "ID")) (rw (name_id v (case_bytes key) field g) at (sym a ∙ e))
        | fail g ↦ name_other v (case_bytes key) field g
      ] in
      let skip : row_named field (id_field ∷ after_id (kind_by key)) ≡ row_named field (after_id (kind_by key)) = rw (rw n at (sym a ∙ e)) in
      f ∙ sym (ap₂ row_named n (ap rows (kind_by_case key) ∙ id_first (kind_by key)) ∙ skip)

pub ruleset names = (tag_named_id, tag_after_id)

-- What a tag says of its field's name

row_name : (name : Bytes) (rs : List KnownField) (o : Option KnownField) → o ≡ row_named name rs → is_required o ≡ true → name_in o ≡ name
row_name name rs None e f = absurd (false≢true f)
row_name name rs (Some r) e f = row_is name rs (sym e)

-- a row that was found has a known name exactly where it was looked for by it
row_same : (name n : Bytes) (rs : List KnownField) → is_required (row_named n rs) ≡ true → same [] n ≡ false → same (name_in (row_named name rs)) n ≡ same name n
row_same name n rs f p = elim (test (same name n)) [
  | pass e ↦ let q = same_sound name n e in rw (q, row_name n rs (row_named n rs) refl f)
  | fail e ↦ go (row_named name rs) refl e
]
  where
    go : (o : Option KnownField) → row_named name rs ≡ o → same name n ≡ false → same (name_in o) n ≡ same name n
    go None g e = p ∙ sym e
    go (Some r) g e = rw (row_is name rs g)

kept_named : (t : Tag) → is_kept t ≡ true → same [] (tag_name t) ≡ false
unfolding same
kept_named Id e = refl
kept_named Number e = refl
kept_named ValueType e = refl
kept_named Description e = refl
kept_named Length e = cc
kept_named Md5 e = cc
kept_named Url e = cc
kept_named Idx e = cc
kept_named Other e = cc

module _ (v : Version) (k field : Bytes) (t : Tag) (a : tag_row t ≡ known_named v k field) where
  pub kept_name : is_kept t ≡ true → name_of v k field ≡ tag_name t
  kept_name e = sym (row_name (name_of v k field) (rows (kind_of k)) (tag_row t) a e)

  pub kept_known : is_kept t ≡ true → row_named (tag_name t) (rows (kind_of k)) ≡ tag_row t
  kept_known e = rw (← kept_name e) (sym a)

  pub name_same : (u : Tag) → is_kept u ≡ true → row_named (tag_name u) (rows (kind_of k)) ≡ tag_row u → same (tag_name t) (tag_name u) ≡ same (name_of v k field) (tag_name u)
  name_same u e f = ap (λ (o : Option KnownField). same (name_in o) (tag_name u)) a ∙ row_same (name_of v k field) (tag_name u) (rows (kind_of k)) (rw f e) (kept_named u e)

  -- a field that is not kept goes by its own key, which is not the ID's
  pub other_lineage : is_kept t ≡ false → names_id v k field ≡ false
  other_lineage e = elim (test (names_id v k field)) [
    | pass f ↦ both (ap is_required (a ∙ ap (λ (n : Bytes). row_named n (rows (kind_of k))) (name_id v k field f) ∙ id_row (kind_of k))) e
    | fail f ↦ f
  ]

  pub other_id : is_kept t ≡ false → same (ascii "ID") field ≡ false
  other_id e = elim (test (same (ascii "ID") field)) [
    | pass f ↦
        let n : name_of v k field ≡ ascii "ID" = name_other v k field (other_lineage e) ∙ sym (same_sound (ascii "ID") field f) in
        both (ap is_required (a ∙ ap (λ (n : Bytes). row_named n (rows (kind_of k))) n ∙ id_row (kind_of k))) e
    | fail f ↦ f
  ]
