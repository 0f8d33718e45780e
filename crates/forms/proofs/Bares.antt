-- Maps in which no value is quoted or has to be: a look at each byte tells that they stand as the form writes them. Assumes nothing.
use Prim.Native.Nat.{ℕ, zero, suc, ◌+◌, ◌-◌, ◌≤◌, ◌<◌}
use mathlib.Core.Path.{◌≡◌, refl, sym, ap, ap₂, subst, ◌∙◌}
use mathlib.Core.Bool.{Bool, true, false, not, ◌||◌, ◌&&◌, true≢false}
use mathlib.Core.List.{List, [], ◌∷◌, ◌++◌}
use Rattle.std.specs.Prelude.{None, Some}
use lib.Dec.{eqb}
use lib.ListN.{length, get_or, take, drop}
use borrow.Author.Tests.{eq-eqb, ne_eqb}
use Rattle.values.specs.Bytes.{Bytes, ascii, is, begins, any, before, from, same, starts}
use Rattle.values.specs.Value.{Value, quoted, bare, is_quoted, text_of, meaning_of, written, is_stop, read_value}
use Rattle.values.specs.Field.{Field, written_field, read_key, read_field}
use Rattle.values.proofs.Tests.{pass, fail, test, or_l, or_r, not_true, not_false, both, never}
use Rattle.values.proofs.Lists.{here, drop_past, rest, on_some}
use Rattle.values.proofs.Sames.{same_sound, same_sym}
use Rattle.rules.specs.Version.{Version}
use Rattle.rules.specs.Known.{Kind, other, kind_of, id_field, rows, row_named, names_id, name_of}
use Rattle.rules.specs.Map.{is_some, after, scan, known_named}
use Rattle.values.proofs.Places.{FieldIn, field_in}
use Rattle.rules.proofs.Fields.{see_after, was_more, was_done, was_wrong, no_field, a_field, see_field}
use Rattle.rules.proofs.Scans.{after_more}
use Rattle.rules.proofs.Records.{starts_is}
use Rattle.records.specs.Keys.{case_bytes, kind_by, version_in, key_bytes}
use Rattle.records.specs.Tags.{after_id}
use Rattle.records.specs.declared.key.MapContext.{MapContext}
use Rattle.records.specs.declared.key.MapKey.{MapKey}
use Rattle.records.specs.declared.key.MapKey.TheVariants as key
use Rattle.forms.specs.Formed.{Clean, form_value, Stands, InForm, IdFirst, is_telling, telling, BareMap}
use Rattle.forms.proofs.Spellings.{clean, spells_bare}
use Rattle.forms.proofs.Stands.{in_form_none, in_form_other}

-- what answers the needs of `is_other`
module _ (k : MapKey) where
  pub other_is : k ≡ key.Other → true ≡ true → k ≡ key.Other
  other_is e q = e

  pub other_not : false ≡ true → k ≡ key.Other
  other_not q = never cc

pub ruleset kinds = (other_is, other_not)

-- what answers the needs of `is_telling`
module _ (comma : Bool) (b : ℕ) where
  pub tell_quote : b ≡ 34 → true ≡ is_telling comma b
  tell_quote e = rw (eq-eqb b 34 e)

  module _ (n : b ≡ 34 → ⊥) where
    pub tell_none : not comma ≡ true → false ≡ is_telling comma b
    tell_none e = rw (ne_eqb b 34 n, not_true comma e)

    module _ (c : not comma ≡ false) where
      pub tell_first : b ≡ 68 → true ≡ is_telling comma b
      tell_first e = rw (ne_eqb b 34 n, not_false comma c, eq-eqb b 68 e)

      pub tell_second : (b ≡ 68 → ⊥) → eqb b 73 ≡ is_telling comma b
      tell_second e = rw (ne_eqb b 34 n, not_false comma c, ne_eqb b 68 e)

pub ruleset tells = (tell_quote, tell_none, tell_first, tell_second)

-- The look at each byte: none before number k is such a one

pub record Looking (s : Bytes) (comma : Bool) (k : ℕ) : Type 0 where
  pub still : telling false s ≡ telling comma (drop k s)

pub look_start : (s : Bytes) → Looking s false 0
look_start s = record { still = refl }

module _ {s : Bytes} {comma : Bool} {k : ℕ} (g : Looking s comma k) where
  pub look_end : length s ≤ k → false ≡ telling false s
  unfolding telling
  look_end l = sym (g.still ∙ rw (drop_past s k l))

  module _ (l : k < length s) {q : Bool} (a : q ≡ is_telling comma (get_or s k 0)) where
    look_turn : telling false s ≡ (q || telling (eqb (get_or s k 0) 44) (drop (k + 1) s))
    unfolding telling
    look_turn = g.still ∙ rw (here s k l, ← a)

    pub look_here : q ≡ true → true ≡ telling false s
    look_here e = sym (look_turn ∙ rw e)

    pub look_more : q ≡ false → Looking s (eqb (get_or s k 0) 44) (k + 1)
    look_more e = record { still = look_turn ∙ rw e }

pub ruleset looks = (look_start, look_end, look_here, look_more)

-- Bytes of which none is such a one

weaken : (c : Bool) (bs : Bytes) → telling c bs ≡ false → telling false bs ≡ false
unfolding telling
weaken c [] h = refl
weaken c (b ∷ bs) h =
    let q = or_l (is 34 b) (c && (is 68 b || is 73 b)) (or_l (is_telling c b) (telling (is 44 b) bs) h) in
    rw (q, or_r (is_telling c b) (telling (is 44 b) bs) h)

apart : (c : Bool) (xs ys : Bytes) → telling c (xs ++ ys) ≡ false → (telling c xs ≡ false) × (telling false ys ≡ false)
unfolding telling
apart c [] ys h = (refl, weaken c ys h)
apart c (x ∷ xs) ys h =
    let a = or_l (is_telling c x) (telling (is 44 x) (xs ++ ys)) h in
    let d = apart (is 44 x) xs ys (or_r (is_telling c x) (telling (is 44 x) (xs ++ ys)) h) in
    (rw (a, d.0), d.1)

no_quote : (c : Bool) (bs : Bytes) → telling c bs ≡ false → begins 34 bs ≡ false
unfolding telling begins
no_quote c [] h = refl
no_quote c (b ∷ bs) h = or_l (is 34 b) (c && (is 68 b || is 73 b)) (or_l (is_telling c b) (telling (is 44 b) bs) h)

no_name : (key : Bytes) → telling true key ≡ false → (name : Bytes) → telling true name ≡ true → same key name ≡ false
no_name key h name t = elim (test (same key name)) [
  | pass q ↦ both t (ap (telling true) (sym (same_sound key name q)) ∙ h)
  | fail q ↦ q
]

not_quoted : (w : Value) → telling false (61 ∷ written w) ≡ false → is_quoted w ≡ false
unfolding telling written
not_quoted (quoted t) h = absurd (true≢false h)
not_quoted (bare t) h = refl

value_stands : (name : Bytes) (w : Value) → is_quoted w ≡ false → same name (ascii "Description") ≡ false → Clean (is_quoted w) (text_of w) → form_value name false (meaning_of w) ≡ w
value_stands name (quoted t) b d c = absurd (true≢false b)
value_stands name (bare t) b d c = (spells_bare name t false false refl {d = false} (sym d) refl refl).is refl c

-- a field that was read from such bytes
module _ (bs : Bytes) {f : Field} {r : Bytes} (e : read_field false bs ≡ Some (f, r)) (h : telling true bs ≡ false) where
  parts : (telling true (written_field f) ≡ false) × (telling false r ≡ false)
  parts = apart true (written_field f) r (subst (λ (b : Bytes). telling true b ≡ false) (on_some (FieldIn false bs) (field_in false bs) e).text h)

  own_parts : (telling true f.key ≡ false) × (telling false (61 ∷ written f.value) ≡ false)
  unfolding written_field
  own_parts = apart true f.key (61 ∷ written f.value) parts.0

  field_stands : Stands f.key false f
  unfolding telling
  field_stands = record { key = refl; value = value_stands f.key f.value (not_quoted f.value own_parts.1) (no_name f.key own_parts.0 (ascii "Description") refl) (clean bs e) }

after_comma : {r t : Bytes} → r ≡ 44 ∷ t → telling false r ≡ false → telling true t ≡ false
unfolding telling
after_comma e h = rw e at h

id_read : (r : Bytes) → begins 34 r ≡ false → read_field false (73 ∷ 68 ∷ 61 ∷ r) ≡ Some (record { key = ascii "ID"; value = bare (before is_stop r) }, from is_stop r)
unfolding read_field read_key read_value before from any begins
id_read r b = rw (read_value, b)

-- the only known field of a map whose key is none of those that the rules name
row_other : (name : Bytes) → same id_field.name name ≡ false → row_named name (id_field ∷ []) ≡ None
unfolding row_named
row_other name e = rw (e, row_named)

name_self : (v : Version) (name : Bytes) → name_of v [] name ≡ name
unfolding name_of names_id same
name_self v name = refl

kind_none : kind_of [] ≡ other
unfolding kind_of same
kind_none = refl

module _ (x : MapContext) (o : x.key ≡ key.Other) (m : x.brackets ≡ false) where
  unknown : (name : Bytes) → same (ascii "ID") name ≡ false → is_some (known_named (version_in x) (key_bytes x) name) ≡ false
  unknown name e = subst (λ (j : MapKey). is_some (known_named (version_in x) (case_bytes j) name) ≡ false) (sym o)
      (ap is_some (ap₂ (λ (n : Bytes) (k : Kind). row_named n (rows k)) (name_self (version_in x) name) kind_none ∙ row_other name e))

  -- the fields after a `,`
  all_bare : (n : ℕ) (bs : Bytes) → telling true bs ≡ false → InForm x [] (scan n false bs).0
  unfolding scan telling
  all_bare zero bs h = in_form_none x []
  all_bare (suc n) bs h = elim (see_field (read_field false bs)) [
    | no_field e ↦ rw (scan, e) (in_form_none x [])
    | a_field p e ↦
        let k = unknown p.0.key (same_sym (ascii "ID") p.0.key ∙ no_name p.0.key (own_parts bs e h).0 (ascii "ID") refl) in
        let w = field_stands bs e h in
        elim (see_after (after p.1)) [
          | was_more r a ↦ rw (scan, e, a) (in_form_other x m p.0 (scan n false r).0 k w (all_bare n r (after_comma (after_more p.1 a) (parts bs e h).1)))
          | was_done a ↦ rw (scan, e, a) (in_form_other x m p.0 [] k w (in_form_none x []))
          | was_wrong a ↦ rw (scan, e, a) (in_form_other x m p.0 [] k w (in_form_none x []))
        ]
  ]

  no_rows : {fs : List Field} → InForm x [] fs → InForm x (after_id (kind_by x.key)) fs
  no_rows {fs} g = subst (λ (j : MapKey). InForm x (after_id (kind_by j)) fs) (sym o) g

  id_first : (n : ℕ) (r : Bytes) → telling false (73 ∷ 68 ∷ 61 ∷ r) ≡ false → IdFirst x (scan (suc n) false (73 ∷ 68 ∷ 61 ∷ r)).0
  unfolding scan telling same
  id_first n r h =
      let bs : Bytes = 73 ∷ 68 ∷ 61 ∷ r in
      let f : Field = record { key = ascii "ID"; value = bare (before is_stop r) } in
      let e = id_read r (no_quote false r h) in
      let t = (apart false (written_field f) (from is_stop r) (subst (λ (b : Bytes). telling false b ≡ false) (on_some (FieldIn false bs) (field_in false bs) e).text h)).1 in
      let w : Stands (ascii "ID") false f = record { key = refl; value = value_stands (ascii "ID") (bare (before is_stop r)) refl refl (clean bs e) } in
      elim (see_after (after (from is_stop r))) [
        | was_more q a ↦ record { id = f; rest = (scan n false q).0; are = rw (scan, e, a); stands = w; follow = no_rows (all_bare n q (after_comma (after_more (from is_stop r) a) t)) }
        | was_done a ↦ record { id = f; rest = []; are = rw (scan, e, a); stands = w; follow = no_rows (in_form_none x []) }
        | was_wrong a ↦ record { id = f; rest = []; are = rw (scan, e, a); stands = w; follow = no_rows (in_form_none x []) }
      ]

-- what answers the needs of `is_bare`
module _ (x : MapContext) (s : Bytes) where
  pub bare_not : BareMap x s false
  bare_not = record { is = λ e. never cc }

  pub bare_map : {q : Bool} → (q ≡ true → x.key ≡ key.Other) → q ≡ true → {fs : Bytes} → fs ≡ take (length s - x.start) (drop x.start s) → {u : Bool} → u ≡ starts (ascii "ID=") fs → u ≡ true
      → {r : Bool} → r ≡ telling false fs → BareMap x s (not r)
  bare_map {q} o n {fs} c {u} b i {r} t = record {
    is = λ e m.
        let w = starts_is (ascii "ID=") fs (sym b ∙ i) in
        let y = drop 3 fs in
        subst (λ (z : Bytes). IdFirst x (scan (length z) false z).0) (sym w ∙ c ∙ rest s x.start)
        (id_first x (o n) m (suc (suc (length y))) y (subst (λ (z : Bytes). telling false z ≡ false) w (sym t ∙ not_true r e)));
  }

pub ruleset bares = (bare_not, bare_map)
