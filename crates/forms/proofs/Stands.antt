-- Fields that stand as the form writes them: one after the other, and all of a map. Assumes nothing.
use Prim.Native.Nat.{ℕ, zero, suc, ◌-◌, ◌<◌}
use native.Mathlib.Omega.{arith}
use mathlib.Core.Path.{◌≡◌, refl, sym, ap, ap₂, subst, ◌∙◌}
use mathlib.Core.Bool.{Bool, true, false, not}
use mathlib.Core.List.{List, [], ◌∷◌, ◌++◌, tail, append_assoc}
use Rattle.std.specs.Prelude.{Option, Some, None}
use lib.ListN.{length, take, drop}
use Rattle.values.specs.Bytes.{Bytes, ascii, same}
use Rattle.values.specs.Value.{Value, is_quoted, text_of, meaning_of}
use Rattle.values.specs.Field.{Field, written_field}
use Rattle.values.specs.Places.{field_at, separator_at}
use Rattle.values.specs.declared.cursor.Cursor.{Cursor}
use Rattle.values.specs.declared.string.Text.{Text}
use Rattle.values.proofs.Tests.{pass, fail, test, or_l, or_r, not_false, both, never}
use Rattle.values.proofs.Lists.{some_is}
use Rattle.values.proofs.Sames.{same_sound, same_self, same_sym}
use Rattle.values.proofs.Places.{value_in, FieldHere}
use Rattle.rules.specs.Version.{Version}
use Rattle.rules.specs.Known.{Kind, INFO, FILTER, FORMAT, ALT, contig, other, kind_of, KnownField, id_field, number_field, type_field, description_field, length_field, md5_field, url_field, idx_field, is_numeric, is_in, names, rows, row_named, names_id, name_of, tag_of}
use Rattle.rules.specs.Map.{is_some, fields_at, field_keyed, known_named}
use Rattle.rules.specs.House.{name_of_tag, write_more, write_fields}
use Rattle.rules.specs.Claims.{All}
use Rattle.rules.proofs.Names.{name_plain}
use Rattle.rules.proofs.Scans.{Left, left_all, left_unread, left_told, left_last, left_next, left_less}
use Rattle.records.specs.Keys.{case_bytes, kind_by, version_in, key_bytes}
use Rattle.records.specs.Tags.{tag_row, after_id}
use Rattle.records.specs.declared.key.MapContext.{MapContext}
use Rattle.records.specs.declared.key.MapKey.{MapKey}
use Rattle.records.specs.declared.key.MapKey.TheVariants as key
use Rattle.records.specs.declared.tag.Tag.{Tag}
use Rattle.forms.specs.Forms.{field_by, shown_value, known_text, listed_fields, other_text, others_text}
use Rattle.forms.specs.Formed.{value_by, Clean, form_value, Spells, Stands, PassesIs, Passes, IsKnown, InForm, Rest, Follows, FollowsRows, InFormFrom, IdFirst, BareMap, FormedMap}
use Rattle.forms.specs.declared.formed.Passed.{Passed}
use Rattle.forms.specs.declared.formed.Passed.TheVariants.{More, Done, Other, Failed}
use Rattle.forms.proofs.Spellings.{clean}

-- Fields in form

keyed_yes : (name : Bytes) (f : Field) (fs : List Field) → f.key ≡ name → field_keyed name (f ∷ fs) ≡ Some f
unfolding field_keyed
keyed_yes name f fs e = let q : same f.key name ≡ true = rw e (same_self name) in rw (q, field_keyed)

keyed_no : (name : Bytes) (f : Field) (fs : List Field) → same f.key name ≡ false → field_keyed name (f ∷ fs) ≡ field_keyed name fs
unfolding field_keyed
keyed_no name f fs e = rw (e, field_keyed)

-- a field under none of the rows' names
listed_past : (f : Field) (fs : List Field) (rs : List KnownField) → is_in f.key (names rs) ≡ false → listed_fields false (f ∷ fs) rs ≡ listed_fields false fs rs
unfolding listed_fields is_in
listed_past f fs [] h = refl
listed_past f fs (r ∷ rs) h =
    ap₂ (λ (o : Option Field) (t : Bytes). known_text false r.name (is_numeric r.reads) o ++ t)
    (keyed_no r.name f fs (same_sym f.key r.name ∙ or_l (same r.name f.key) (is_in f.key (names rs)) h))
    (listed_past f fs rs (or_r (same r.name f.key) (is_in f.key (names rs)) h))

listed_none : (rs : List KnownField) → listed_fields false [] rs ≡ []
unfolding listed_fields field_keyed
listed_none [] = refl
listed_none (r ∷ rs) = listed_none rs

pub in_form_none : (x : MapContext) (rs : List KnownField) → InForm x rs []
unfolding others_text write_more field_keyed
in_form_none x rs = record { text = ap (◌++ []) (listed_none rs); only = λ name h k. refl }

module _ (x : MapContext) (m : x.brackets ≡ false) where
  -- the field as the form writes it
  formed_field : (name : Bytes) (number : Bool) (f : Field) → Stands name number f → field_by false name (shown_value number (meaning_of f.value)) ≡ f
  formed_field name number f s = ap₂ (λ (k : Bytes) (w : Value). record { key = k; value = w }) (sym s.key) s.value

  in_form_row : (row : KnownField) (rs : List KnownField) (f : Field) (fs : List Field) → IsKnown x row.name → is_in row.name (names rs) ≡ false
      → Stands row.name (is_numeric row.reads) f → InForm x rs fs → InForm x (row ∷ rs) (f ∷ fs)
  unfolding listed_fields others_text other_text write_more is_in
  in_form_row row rs f fs k n s g = record {
    text =
        let o : other_text x f.key (meaning_of f.value) ≡ [] = rw (s.key, other_text, k) in
        let p : listed_fields false (f ∷ fs) rs ≡ listed_fields false fs rs = listed_past f fs rs (rw s.key n) in
        rw (listed_fields, keyed_yes row.name f fs s.key, p, formed_field row.name (is_numeric row.reads) f s, others_text, o)
        (ap (44 ∷◌) (append_assoc (written_field f) (listed_fields false fs rs) (others_text x fs)) ∙ ap (λ (t : Bytes). 44 ∷ (written_field f ++ t)) g.text);
    only = λ name h q. keyed_no name f fs (rw s.key (or_l (same row.name name) (is_in name (names rs)) h)) ∙ g.only name (or_r (same row.name name) (is_in name (names rs)) h) q;
  }

  in_form_past : (row : KnownField) (rs : List KnownField) (fs : List Field) → IsKnown x row.name → is_in row.name (names rs) ≡ false → InForm x rs fs → InForm x (row ∷ rs) fs
  unfolding listed_fields is_in
  in_form_past row rs fs k n g = record {
    text = rw (listed_fields, g.only row.name n k) g.text;
    only = λ name h q. g.only name (or_r (same row.name name) (is_in name (names rs)) h) q;
  }

  pub in_form_other : (f : Field) (fs : List Field) → is_some (known_named (version_in x) (key_bytes x) f.key) ≡ false → Stands f.key false f → InForm x [] fs → InForm x [] (f ∷ fs)
  unfolding listed_fields others_text other_text write_more
  in_form_other f fs k s g = record {
    text =
        let o : other_text x f.key (meaning_of f.value) ≡ 44 ∷ written_field f
        = rw (other_text, k) (ap (λ (b : Bool). 44 ∷ written_field (field_by b f.key (meaning_of f.value))) m ∙ ap (λ (y : Field). 44 ∷ written_field y) (formed_field f.key false f s)) in
        ap (◌++ others_text x fs) o ∙ ap (λ (t : Bytes). 44 ∷ (written_field f ++ t)) g.text;
    only = λ name h q. elim (test (same f.key name)) [
      | pass e ↦ both (rw (same_sound f.key name e) q) k
      | fail e ↦ keyed_no name f fs e ∙ g.only name h q
    ];
  }

-- Fields where the code was told of them

told_one : {m : Bool} {s : Bytes} {i : ℕ} {fs gs : List Field} (g : Left m s i fs) (h : Left m s i gs) {r : Option (ℕ × Text × Cursor)} (a : r ≡ field_at m s i) {e : ℕ} {t : Text} {c : Cursor} (b : r ≡ Some (e, t, c))
    → (left_told g a b).field ≡ (left_told h a b).field
told_one g h a b = ap (λ (p : Field × Bytes). p.0) (some_is (sym (left_told g a b).read ∙ (left_told h a b).read))

abbrev Agree : Bool → Bytes → ℕ → Type 0
Agree m s n = (j : ℕ) → length s - j < n → (rs ss : List Field) → Left m s j rs → Left m s j ss → rs ≡ ss

-- what is left at a place are the fields that stand there
left_one : (n : ℕ) {m : Bool} {s : Bytes} {i : ℕ} {fs gs : List Field} → Left m s i fs → Left m s i gs → length s - i < n → fs ≡ gs
left_one zero g h l = absurd (omega arith)
left_one (suc n) {m} {s} {i} {fs} {gs} g h l = go (field_at m s i) refl (λ j k rs ss a b. left_one n a b k)
  where
    parted : (e : ℕ) (t : Text) (c : Cursor) → Some (e, t, c) ≡ field_at m s i → Agree m s n → (x : Option Cursor) → x ≡ separator_at s c.at → fs ≡ gs
    parted e t c a ih None d = left_last g a refl d refl ∙ ap (◌∷ []) (told_one g h a refl) ∙ sym (left_last h a refl d refl)
    parted e t c a ih (Some y) d =
        let p = left_next g a refl d refl in
        let q = left_next h a refl d refl in
        let z = left_less g a refl d refl in
        p.1 ∙ ap₂ ◌∷◌ (told_one g h a refl) (ih y.at (omega arith) p.0 q.0 p.2 q.2) ∙ sym q.1

    go : (r : Option (ℕ × Text × Cursor)) → r ≡ field_at m s i → Agree m s n → fs ≡ gs
    go None a ih = left_unread g a refl ∙ sym (left_unread h a refl)
    go (Some (e, t, c)) a ih = parted e t c a ih (separator_at s c.at) refl

left_here : {m : Bool} {s : Bytes} {i : ℕ} {fs : List Field} → Left m s i fs → fs ≡ fields_at m s i
left_here {m} {s} {i} g = left_one (suc (length s - i)) g (left_all m s i) (omega arith)

-- a value as the code was told of it
pub stands_value : (name : Bytes) (number q : Bool) (t : Bytes) (w : Value) → value_by q t ≡ w → Clean (is_quoted w) (text_of w) → Spells name number q t true → form_value name number (meaning_of w) ≡ w
stands_value name number true t w e = subst (λ (u : Value). Clean (is_quoted u) (text_of u) → Spells name number true t true → form_value name number (meaning_of u) ≡ u) e (λ c s. s.is refl c)
stands_value name number false t w e = subst (λ (u : Value). Clean (is_quoted u) (text_of u) → Spells name number false t true → form_value name number (meaning_of u) ≡ u) e (λ c s. s.is refl c)

value_by_lem : (q : Bool) (s : Bytes) (t : Text) → t.quoted ≡ q → value_in s t ≡ value_by q (take (t.end - t.start) (drop t.start s))
value_by_lem true s t e = rw e
value_by_lem false s t e = rw e

-- the field at a place, of which the code was told, has this name, and is spelled so
module _ (s : Bytes) (i : ℕ) {r : Option (ℕ × Text × Cursor)} (a : r ≡ field_at false s i) {e : ℕ} {t : Text} {n : Cursor} (b : r ≡ Some (e, t, n)) {p : Bytes} (c : p ≡ take (e - i) (drop i s))
    {val : Bytes} (d : val ≡ take (t.end - t.start) (drop t.start s)) (name : Bytes) (number : Bool) {z : Bool} (y : Spells name number t.quoted val z) (o : not z ≡ false) where
  abbrev all : Left false s i (fields_at false s i)
  all = left_all false s i

  abbrev here : FieldHere false s i e t n
  here = left_told all a b

  field_stands : p ≡ name → Stands name number here.field
  field_stands k = record {
    key = sym here.key ∙ sym c ∙ k;
    value = stands_value name number t.quoted val here.field.value
        (ap (value_by t.quoted) d ∙ sym (value_by_lem t.quoted s t refl) ∙ here.value)
        (clean (drop i s) here.read) (rw (not_false z o) at y);
  }

  module _ {x : Option Cursor} (f : x ≡ separator_at s n.at) where
    fields_last : x ≡ None → fields_at false s i ≡ here.field ∷ []
    fields_last g = left_last all a b f g

    fields_next : {h : Cursor} → x ≡ Some h → fields_at false s i ≡ here.field ∷ fields_at false s h.at
    fields_next g = let l = left_next all a b f g in l.1 ∙ ap (here.field ∷◌) (left_here l.2)

    module _ {q : Bool} (j : q ≡ same p name) (k : not q ≡ false) where
      named : p ≡ name
      named = same_sound p name (sym j ∙ not_false q k)

      pub passed_last : x ≡ None → Passes name number s i Done
      passed_last g = record { is = (here.field, fields_last g, field_stands named) }

      pub passed_more : {h : Cursor} → x ≡ Some h → Passes name number s i (More h)
      passed_more g = record { is = (here.field, fields_next g, field_stands named) }

pub ruleset passes = (passed_last, passed_more)

-- A row that may have a field

module _ (name : Bytes) (number : Bool) (s : Bytes) (c : Cursor) {p : Passed} (g : Passes name number s c.at p) where
  row_stands : (row : KnownField) → row.name ≡ name → is_numeric row.reads ≡ number → {f : Field} → Stands name number f → Stands row.name (is_numeric row.reads) f
  row_stands row e n w = rw (e, n) w

  pub follows_more : {d : Cursor} → p ≡ More d → Follows name number s (More c) (More d)
  follows_more {d} e = let h = rw e at g.is in record {
    is = λ x m k row a n rs q i. subst (InForm x (row ∷ rs)) (sym h.1) (in_form_row x m row rs h.0 (fields_at false s d.at) (rw a k) (rw a q) (row_stands row a n h.2) i);
  }

  pub follows_done : p ≡ Done → Follows name number s (More c) Done
  follows_done e = let h = rw e at g.is in record {
    is = λ x m k row a n rs q i. subst (InForm x (row ∷ rs)) (sym h.1) (in_form_row x m row rs h.0 [] (rw a k) (rw a q) (row_stands row a n h.2) (in_form_none x rs));
  }

pub follows_other : (name : Bytes) (number : Bool) (s : Bytes) (c : Cursor) → Follows name number s (More c) (More c)
follows_other name number s c = record { is = λ x m k row a n rs q i. in_form_past x m row rs (fields_at false s c.at) (rw a k) (rw a q) i }

pub follows_failed : (name : Bytes) (number : Bool) (s : Bytes) (p : Passed) → Follows name number s p Failed
follows_failed name number s p = record { is = λ x m k row a n rs q i. absurd i }

pub follows_end : (name : Bytes) (number : Bool) (s : Bytes) → Follows name number s Done Done
follows_end name number s = record { is = λ x m k row a n rs q i. tt }

pub ruleset follows = (follows_more, follows_done, follows_other, follows_failed, follows_end)

pub follows_told : (name : Bytes) (number : Bool) (s : Bytes) (p : Passed) {q r : Passed} → p ≡ q → Follows name number s q r → Follows name number s p r
follows_told name number s p e f = rw e f

-- The rows of a kind

module _ (s : Bytes) {p : Passed} where
  pub filter_follows : {a r : Passed} → Follows (ascii "Description") false s p a → Follows (ascii "IDX") true s a r → FollowsRows (after_id FILTER) s p r
  unfolding same is_in
  filter_follows f g = record { is = λ x m k i. f.is x m k.0 description_field refl refl (idx_field ∷ []) refl (g.is x m k.1.0 idx_field refl refl [] refl i) }

  pub typed_follows : {a b d r : Passed} → Follows (ascii "Number") true s p a → Follows (ascii "Type") false s a b → Follows (ascii "Description") false s b d → Follows (ascii "IDX") true s d r
      → FollowsRows (after_id INFO) s p r
  unfolding same is_in
  typed_follows f g h j = record {
    is = λ x m k i. f.is x m k.0 number_field refl refl (type_field ∷ description_field ∷ idx_field ∷ []) refl
        (g.is x m k.1.0 type_field refl refl (description_field ∷ idx_field ∷ []) refl
        (h.is x m k.1.1.0 description_field refl refl (idx_field ∷ []) refl (j.is x m k.1.1.1.0 idx_field refl refl [] refl i)));
  }

  pub contig_follows : {a b d r : Passed} → Follows (ascii "length") true s p a → Follows (ascii "md5") false s a b → Follows (ascii "URL") false s b d → Follows (ascii "IDX") true s d r
      → FollowsRows (after_id contig) s p r
  unfolding same is_in
  contig_follows f g h j = record {
    is = λ x m k i. f.is x m k.0 length_field refl refl (md5_field ∷ url_field ∷ idx_field ∷ []) refl
        (g.is x m k.1.0 md5_field refl refl (url_field ∷ idx_field ∷ []) refl
        (h.is x m k.1.1.0 url_field refl refl (idx_field ∷ []) refl (j.is x m k.1.1.1.0 idx_field refl refl [] refl i)));
  }

  -- by the case of the map's key
  module _ (key : MapKey) {j : MapKey} (e : key ≡ j) where
    pub follows_rows : {r : Passed} → FollowsRows (after_id (kind_by j)) s p r → FollowsRows (after_id (kind_by key)) s p r
    follows_rows f = rw e f

    pub follows_row : after_id (kind_by j) ≡ description_field ∷ [] → {r : Passed} → Follows (ascii "Description") false s p r → FollowsRows (after_id (kind_by key)) s p r
    unfolding is_in
    follows_row d f = rw (e, d) (record { is = λ x m k i. f.is x m k.0 description_field refl refl [] refl i })

    pub follows_none : after_id (kind_by j) ≡ [] → FollowsRows (after_id (kind_by key)) s p p
    follows_none d = rw (e, d) (record { is = λ x m k i. i })

pub ruleset tabled = (filter_follows, typed_follows, contig_follows, follows_rows, follows_row, follows_none)

-- The other fields

-- if what is left is in form, so are all from the start on
pub record Passing (x : MapContext) (s : Bytes) (start i : ℕ) : Type 0 where
  pub still : x.brackets ≡ false → InForm x [] (fields_at false s i) → InForm x [] (fields_at false s start)

pub pass_all : (x : MapContext) (s : Bytes) (start : ℕ) → Passing x s start start
pass_all x s start = record { still = λ m g. g }

pub others_failed : (x : MapContext) (s : Bytes) (start : ℕ) → InFormFrom x s start false
others_failed x s start = record { is = λ o m. never cc }

module _ {x : MapContext} {s : Bytes} {start i : ℕ} (g : Passing x s start i) {r : Option (ℕ × Text × Cursor)} (a : r ≡ field_at false s i) {e : ℕ} {t : Text} {n : Cursor} (b : r ≡ Some (e, t, n)) {p : Bytes}
    (c : p ≡ take (e - i) (drop i s)) (k : Tag) (h : tag_row k ≡ known_named (version_in x) (key_bytes x) p) {w : Bool} (j : w ≡ is_some (tag_row k)) (u : w ≡ false)
    {val : Bytes} (d : val ≡ take (t.end - t.start) (drop t.start s)) {z : Bool} (y : Spells p false t.quoted val z) (o : not z ≡ false) {v : Option Cursor} (f : v ≡ separator_at s n.at) where
  abbrev it : Field
  it = (left_told (left_all false s i) a b).field

  unknown : is_some (known_named (version_in x) (key_bytes x) it.key) ≡ false
  unknown = let q = field_stands s i a b c d p false y o refl in rw (q.key, ← h, ← j) u

  stands_so : Stands it.key false it
  stands_so = let q = field_stands s i a b c d p false y o refl in subst (λ (name : Bytes). Stands name false it) (sym q.key) q

  pub others_last : v ≡ None → InFormFrom x s start true
  others_last q = record {
    is = λ l m. g.still m (subst (InForm x []) (sym (fields_last s i a b c d p false y o f q)) (in_form_other x m it [] unknown stands_so (in_form_none x [])));
  }

  pub others_more : {l : Cursor} → v ≡ Some l → Passing x s start l.at
  others_more {l} q = record {
    still = λ m w. g.still m (subst (InForm x []) (sym (fields_next s i a b c d p false y o f q)) (in_form_other x m it (fields_at false s l.at) unknown stands_so w));
  }

pub others_less : (s : Bytes) (i : ℕ) {r : Option (ℕ × Text × Cursor)} → r ≡ field_at false s i → {e : ℕ} {t : Text} {n : Cursor} → r ≡ Some (e, t, n) → {v : Option Cursor} → v ≡ separator_at s n.at → {l : Cursor} → v ≡ Some l
    → length s - l.at < length s - i
others_less s i a b f q = left_less (left_all false s i) a b f q

pub ruleset passings = (pass_all, others_failed, others_last, others_more, others_less)

-- A map

id_first : (x : MapContext) (rs : List KnownField) (s : Bytes) (at : ℕ) (p : Passed) → PassesIs (ascii "ID") false s at p → Rest x rs s p
    → (f : Field) × (rest : List Field) × (fields_at false s at ≡ f ∷ rest) × Stands (ascii "ID") false f × InForm x rs rest
id_first x rs s at (More d) g r = (g.0, fields_at false s d.at, g.1, g.2, r)
id_first x rs s at Done g r = (g.0, [], g.1, g.2, in_form_none x rs)
id_first x rs s at Other g r = absurd r
id_first x rs s at Failed g r = absurd r

pub unformed : (x : MapContext) (s : Bytes) → FormedMap x s false
unformed x s = record { is = λ o. never cc }

module _ (x : MapContext) (s : Bytes) (m : x.brackets ≡ false) {p : Passed} (a : Passes (ascii "ID") false s x.start p) {q : Passed} (b : FollowsRows (after_id (kind_by x.key)) s p q) where
  first_in : All (λ (row : KnownField). IsKnown x row.name) (after_id (kind_by x.key)) → Rest x [] s q → IdFirst x (fields_at false s x.start)
  first_in k r = let f = id_first x (after_id (kind_by x.key)) s x.start p a.is (b.is x m k r) in record { id = f.0; rest = f.1; are = f.2; stands = f.3; follow = f.4 }

  pub formed_done : q ≡ Done → FormedMap x s true
  formed_done e = record { is = λ o. (m, λ k. first_in k (subst (Rest x [] s) (sym e) tt)) }

  pub formed_more : {c : Cursor} → q ≡ More c → {r : Bool} → InFormFrom x s c.at r → FormedMap x s r
  formed_more e g = record { is = λ o. (m, λ k. first_in k (subst (Rest x [] s) (sym e) (g.is o m))) }

pub formed_bare : (x : MapContext) (s : Bytes) → x.brackets ≡ false → {q : Bool} → BareMap x s q → q ≡ true → FormedMap x s true
formed_bare x s m b e = record { is = λ o. (m, λ k. b.is e m) }

pub ruleset maps = (unformed, formed_bare, formed_done, formed_more)

-- the names of the table are known ones
pub known_rows : (v : Version) (key : MapKey) → All (λ (row : KnownField). is_some (known_named v (case_bytes key) row.name) ≡ true) (after_id (kind_by key))
unfolding same row_named name_of names_id kind_of
known_rows v key.Info = (refl, (refl, (refl, (refl, tt))))
known_rows v key.Filter = (refl, (refl, tt))
known_rows v key.Format = (refl, (refl, (refl, (refl, tt))))
known_rows v key.AlternativeAllele = (refl, tt)
known_rows v key.Contig = (refl, (refl, (refl, (refl, tt))))
known_rows v key.Meta = tt
known_rows v key.Pedigree = tt
known_rows v key.Other = tt

known_id : (v : Version) (j : MapKey) → is_some (known_named v (case_bytes j) (ascii "ID")) ≡ true
unfolding same row_named kind_of
known_id v j = rw (name_plain v (case_bytes j) (ascii "ID") refl) (go j)
  where
    go : (j : MapKey) → is_some (row_named (ascii "ID") (rows (kind_of (case_bytes j)))) ≡ true
    go key.Info = refl
    go key.Filter = refl
    go key.Format = refl
    go key.AlternativeAllele = refl
    go key.Contig = refl
    go key.Meta = refl
    go key.Pedigree = refl
    go key.Other = refl

id_row : (kind : Kind) → is_in (ascii "ID") (names (after_id kind)) ≡ false
unfolding same is_in
id_row INFO = refl
id_row FILTER = refl
id_row FORMAT = refl
id_row ALT = refl
id_row contig = refl
id_row other = refl

-- all of them are as the form has them
pub all_stand : (x : MapContext) → x.brackets ≡ false → (f : Field) (fs : List Field) → Stands (ascii "ID") false f → InForm x (after_id (kind_by x.key)) fs
    → written_field (field_by false (name_of_tag (tag_of f.key)) (meaning_of f.value)) ++ (listed_fields false (f ∷ fs) (after_id (kind_by x.key)) ++ others_text x (f ∷ fs)) ≡ write_fields (f ∷ fs)
unfolding listed_fields write_more write_fields same
all_stand x m f fs s g =
    let w = (in_form_row x m id_field (after_id (kind_by x.key)) f fs (known_id (version_in x) x.key) (id_row (kind_by x.key)) s g).text in
    let e = rw (keyed_yes (ascii "ID") f fs s.key) at w in
    let t = ap tail e in
    let r = listed_fields false (f ∷ fs) (after_id (kind_by x.key)) in
    ap (λ (k : Bytes). written_field (field_by false (name_of_tag (tag_of k)) (meaning_of f.value)) ++ (r ++ others_text x (f ∷ fs))) s.key
    ∙ sym (append_assoc (written_field (field_by false (ascii "ID") (meaning_of f.value))) r (others_text x (f ∷ fs)))
    ∙ t
