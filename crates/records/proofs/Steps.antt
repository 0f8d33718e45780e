-- One field of a map: whether its name stood before, and what it adds. Assumes nothing.
use Prim.Native.Nat.{ℕ, suc, ◌+◌, ◌-◌, ◌^◌, ◌<◌}
use native.Mathlib.Omega.{arith}
use mathlib.Core.Path.{◌≡◌, refl, sym, ap, ap₂, subst, ◌∙◌}
use mathlib.Core.Bool.{Bool, true, false, ◌||◌, ◌&&◌, and_assoc, or_assoc, false≢true}
use mathlib.Core.List.{List, [], ◌∷◌, ◌++◌, append-nil, tail}
use Rattle.std.specs.Prelude.{Option, None, Some, Result, Ok, Err}
use lib.ListN.{length, drop, take, length-drop}
use lib.Seq.{drop-drop}
use Rattle.values.specs.Bytes.{Bytes, ascii, same, part}
use Rattle.values.specs.Value.{Value, is_quoted, text_of, meaning_of}
use Rattle.values.specs.Field.{Field, read_field}
use Rattle.values.specs.Places.{cursor_at, text_at, field_at}
use Rattle.values.specs.declared.cursor.Cursor.{Cursor}
use Rattle.values.specs.declared.string.Text.{Text}
use Rattle.values.proofs.Tests.{Test, pass, fail, test, and_l, and_r, both, never}
use Rattle.values.proofs.Sames.{same_sound, differ}
use Rattle.values.proofs.Lists.{on_some}
use Rattle.values.proofs.Places.{value_by, FieldHere, field_here}
use Rattle.values.proofs.Raws.{Raw, field_raw}
use Rattle.rules.specs.Answer.{first}
use Rattle.rules.specs.Version.{Version}
use Rattle.rules.specs.Known.{is_in, rows, row_named, kind_of, names_id, name_of, tag_of}
use Rattle.rules.specs.Map.{more, done, wrong, after, scan, is_some, known_named, value_refusal, check_fields}
use Rattle.rules.specs.Entry.{text_named}
use Rattle.rules.specs.Spelling.{odd_value, is_odd_field, has_odd}
use Rattle.rules.proofs.Names.{name_id, name_other}
use Rattle.rules.proofs.Fields.{SeenAfter, was_more, was_done, was_wrong, see_after, SeenField, no_field, a_field, see_field}
use Rattle.rules.proofs.Scans.{after_more, scan_none, scan_wrong, scan_done, scan_first}
use Rattle.records.specs.Keys.{kind_by, version_in, key_bytes}
use Rattle.records.specs.Tags.{tag_row, tag_name, is_required, is_kept}
use Rattle.records.specs.Maps.{raw_refusal, check_number, OddIs, Checked, filled_as, get, put_slot, slotted, FieldsFrom, keys_of, names_of, HasKey, Distinct, Held, all_kept, Walk, Repeats, scan_refusal, scanned_from, RefusedFrom, Taken, TakenIs, TakenMoves, TakesField, ReadsField, after_at}
use Rattle.records.specs.declared.key.MapContext.{MapContext}
use Rattle.records.specs.declared.refusal.Refusal.{Refusal}
use Rattle.records.specs.declared.refusal.Refusal.TheVariants.{InvalidField, DuplicateTag, InvalidMap}
use Rattle.records.specs.declared.tag.Tag.{Tag}
use Rattle.records.specs.declared.tag.Tag.TheVariants.{Id, Number, ValueType, Description, Length, Md5, Url, Idx, Other}
use Rattle.records.specs.declared.map.Slots.{Slots}
use Rattle.records.specs.declared.map.After.{After as AfterRead}
use Rattle.records.specs.declared.map.After.TheVariants as afters
use Rattle.records.specs.declared.map.FieldStep.TheVariants as step
use Rattle.records.proofs.Refusals.{number_suc}
use Rattle.records.proofs.Keys.{kind_by_case}
use Rattle.records.proofs.Tags.{kept_name, kept_known, name_same, other_lineage, other_id}
use Rattle.records.proofs.Checks.{value_checked, value_spelled}
use Rattle.records.proofs.Walks.{value_refused, name_refused, field_fine, or_else, text_snoc, text_in, first_suc, fields_snoc}

-- Fields that are not kept

module _ (v : Version) (k field : Bytes) (t : Tag) (a : tag_row t ≡ known_named v k field) (e : is_kept t ≡ false) where
  other_key : (f : Bytes) → same f field ≡ same (name_of v k f) field
  other_key f = elim (test (names_id v k f)) [
    | pass q ↦ rw (name_id v k f q, other_id v k field t a e) (differ f field (λ z. both (rw z at q) (other_lineage v k field t a e)))
    | fail q ↦ rw (name_other v k f q)
  ]

  other_keys : (fs : List Field) → is_in field (keys_of fs) ≡ is_in (name_of v k field) (names_of v k fs)
  unfolding is_in
  other_keys [] = refl
  other_keys (f ∷ fs) = ap₂ ◌||◌ (other_key f.key ∙ ap (same (name_of v k f.key)) (sym (name_other v k field (other_lineage v k field t a e)))) (other_keys fs)

  -- a tag goes by the key: among fields that are kept none has the key of one that is not
  unkept_key : (fs : List Field) → all_kept v k fs ≡ true → is_in field (keys_of fs) ≡ false
  unfolding is_in
  unkept_key [] h = refl
  unkept_key (f ∷ fs) h = rw (
    differ f.key field (λ z. both (and_l _ _ h) (ap (λ (x : Bytes). is_required (known_named v k x)) z ∙ sym (ap is_required a) ∙ e)),
    unkept_key fs (and_r (is_required (known_named v k f.key)) _ h),
  )

filled_some : (o : Option (Bytes × Text)) {x : Text} {g : ℕ} → slotted o ≡ Some (x, g) → is_some o ≡ true
filled_some None e = never cc
filled_some (Some p) e = refl

empty_none : (o : Option (Bytes × Text)) → slotted o ≡ None → o ≡ None
empty_none None e = refl
empty_none (Some p) e = never cc

module _ (x : MapContext) (s : Bytes) (at : ℕ) (field : Bytes) (t : Tag) (slots : Slots) {q : Bool} (a : q ≡ is_kept t) where
  held_in : q ≡ true → {y : Option (Text × ℕ)} → y ≡ get t slots → (before : List Field) → tag_row t ≡ known_named (version_in x) (key_bytes x) field → Walk x s before at slots
      → (y ≡ slotted (text_named (version_in x) (key_bytes x) (tag_name t) x.start before)) × (is_some (text_named (version_in x) (key_bytes x) (tag_name t) x.start before) ≡ is_in (name_of (version_in x) (key_bytes x) field) (names_of (version_in x) (key_bytes x) before))
  held_in e g before b w =
      let i = sym a ∙ e in (
        g ∙ w.held.each t i (kept_known (version_in x) (key_bytes x) field t b i),
        text_in (version_in x) (key_bytes x) (tag_name t) x.start before ∙ rw (kept_name (version_in x) (key_bytes x) field t b i),
      )

  pub kept_filled : q ≡ true → {y : Option (Text × ℕ)} → y ≡ get t slots → {z : Text} {g : ℕ} → y ≡ Some (z, g) → Repeats x s at field t slots true
  kept_filled e g f = record {
    is = λ before b w f' rest rd kf. let h = held_in e g before b w in sym (sym h.1 ∙ filled_some (text_named (version_in x) (key_bytes x) (tag_name t) x.start before) (sym h.0 ∙ f));
  }

  pub kept_empty : q ≡ true → {y : Option (Text × ℕ)} → y ≡ get t slots → y ≡ None → Repeats x s at field t slots false
  kept_empty e g f = record {
    is = λ before b w f' rest rd kf. let h = held_in e g before b w in sym (sym h.1 ∙ rw (empty_none (text_named (version_in x) (key_bytes x) (tag_name t) x.start before) (sym h.0 ∙ f)));
  }

  pub looked_for : q ≡ false → {r : Bool} → HasKey x.brackets s x.start at field r → Repeats x s at field t slots r
  looked_for e g = record { is = λ before b w f' rest rd kf. g.among before w.fields ∙ other_keys (version_in x) (key_bytes x) field t b (sym a ∙ e) before }

  pub all_kept_lem : q ≡ false → slots.plain ≡ true → Repeats x s at field t slots false
  all_kept_lem e p = record {
    is = λ before b w f' rest rd kf.
        let i = sym a ∙ e in
        sym (sym (other_keys (version_in x) (key_bytes x) field t b i before) ∙ unkept_key (version_in x) (key_bytes x) field t b i before (sym w.held.plainly ∙ p));
  }

  pub known_apart : q ≡ false → {d : ℕ} → Distinct x s d → at < d → Repeats x s at field t slots false
  known_apart e k l = record {
    is = λ before b w f' rest rd kf.
        sym (sym (other_keys (version_in x) (key_bytes x) field t b (sym a ∙ e) before) ∙ ap (λ (y : Bytes). is_in y (keys_of before)) kf ∙ k.apart before at w.fields f' rest rd l);
  }

pub ruleset repeats = (kept_filled, kept_empty, looked_for, all_kept_lem, known_apart)

-- What a field adds to the texts that are kept

abbrev pick : {A : Type 0} → Bool → A → A → A
pick true x y = x
pick false x y = y

put_each : (g : Tag) (x : Option (Text × ℕ)) (o : Bool) (slots : Slots) → put_slot g x o slots ≡ record {
  id = pick (same (tag_name g) (ascii "ID")) x slots.id;
  number = pick (same (tag_name g) (ascii "Number")) x slots.number;
  kind = pick (same (tag_name g) (ascii "Type")) x slots.kind;
  description = pick (same (tag_name g) (ascii "Description")) x slots.description;
  plain = pick (is_kept g) slots.plain false;
  odd = o;
}
unfolding same
put_each Id x o slots = refl
put_each Number x o slots = refl
put_each ValueType x o slots = refl
put_each Description x o slots = refl
put_each Length x o slots = refl
put_each Md5 x o slots = refl
put_each Url x o slots = refl
put_each Idx x o slots = refl
put_each Other x o slots = refl

get_put : (g u : Tag) (x : Option (Text × ℕ)) (o : Bool) (slots : Slots) → is_kept u ≡ true → get u (put_slot g x o slots) ≡ pick (same (tag_name g) (tag_name u)) x (get u slots)
get_put g Id x o slots e = rw (put_each g x o slots)
get_put g Number x o slots e = rw (put_each g x o slots)
get_put g ValueType x o slots e = rw (put_each g x o slots)
get_put g Description x o slots e = rw (put_each g x o slots)
get_put g Length x o slots e = absurd (false≢true e)
get_put g Md5 x o slots e = absurd (false≢true e)
get_put g Url x o slots e = absurd (false≢true e)
get_put g Idx x o slots e = absurd (false≢true e)
get_put g Other x o slots e = absurd (false≢true e)

plain_put : (g : Tag) (x : Option (Text × ℕ)) (o : Bool) (slots : Slots) → (put_slot g x o slots).plain ≡ (slots.plain && is_kept g)
plain_put g x o slots = rw (put_each g x o slots) (go (is_kept g) slots.plain)
  where
    go : (b p : Bool) → pick b p false ≡ (p && b)
    go true true = refl
    go true false = refl
    go false true = refl
    go false false = refl

odd_put : (g : Tag) (x : Option (Text × ℕ)) (o : Bool) (slots : Slots) → (put_slot g x o slots).odd ≡ o
odd_put g x o slots = rw (put_each g x o slots)

none_some : (o : Option (Bytes × Text)) → is_some o ≡ false → o ≡ None
none_some None e = refl
none_some (Some p) e = cc

or_none : (o : Option (Bytes × Text)) → or_else o None ≡ o
or_none None = refl
or_none (Some p) = refl

kept_snoc : (v : Version) (k : Bytes) (before : List Field) (f : Field) → all_kept v k (before ++ f ∷ []) ≡ (all_kept v k before && is_required (known_named v k f.key))
kept_snoc v k [] f = and-true (is_required (known_named v k f.key))
  where
    and-true : (b : Bool) → b && true ≡ b
    and-true true = refl
    and-true false = refl
kept_snoc v k (g ∷ gs) f = rw (kept_snoc v k gs f) (sym (and_assoc (is_required (known_named v k g.key)) (all_kept v k gs) (is_required (known_named v k f.key))))

odd_snoc : (v : Version) (k : Bytes) (before : List Field) (f : Field) → has_odd v k (before ++ f ∷ []) ≡ (has_odd v k before || is_odd_field v k f)
unfolding has_odd
odd_snoc v k [] f = or-false (is_odd_field v k f)
  where
    or-false : (b : Bool) → b || false ≡ b
    or-false true = refl
    or-false false = refl
odd_snoc v k (g ∷ gs) f = rw (odd_snoc v k gs f) (sym (or_assoc (is_odd_field v k g) (has_odd v k gs) (is_odd_field v k f)))

module _ (v : Version) (k : Bytes) (m : Bool) (s : Bytes) (start : ℕ) (before : List Field) (at : ℕ) (slots : Slots) (f : Field) (g : Tag) (tag : tag_row g ≡ known_named v k f.key)
    (fields : FieldsFrom m s start before at) (held : Held v k start before slots) (fresh : is_in (name_of v k f.key) (names_of v k before) ≡ false) {o : Bool} (spelled : o ≡ (slots.odd || is_odd_field v k f)) where
  abbrev filled : Option (Text × ℕ)
  filled = Some (text_at (at + length f.key + 1) f.value, tag_of f.key)

  put_held : Held v k start (before ++ f ∷ []) (put_slot g filled o slots)
  unfolding text_named
  put_held = record {
    each = λ u e i. get_put g u filled o slots e ∙ go u e i (test (same (name_of v k f.key) (tag_name u)));
    plainly = plain_put g filled o slots ∙ ap₂ ◌&&◌ held.plainly (ap is_required tag) ∙ sym (kept_snoc v k before f);
    spelling = odd_put g filled o slots ∙ spelled ∙ ap (λ (b : Bool). b || is_odd_field v k f) held.spelling ∙ sym (odd_snoc v k before f);
  }
    where
      go : (u : Tag) → is_kept u ≡ true → row_named (tag_name u) (rows (kind_of k)) ≡ tag_row u → Test (same (name_of v k f.key) (tag_name u))
          → pick (same (tag_name g) (tag_name u)) filled (get u slots) ≡ slotted (text_named v k (tag_name u) start (before ++ f ∷ []))
      go u e i (pass q) =
          let z = none_some (text_named v k (tag_name u) start before) (text_in v k (tag_name u) start before ∙ rw (same_sound (name_of v k f.key) (tag_name u) q) at fresh) in
          rw (name_same v k f.key g tag u e i, q, text_snoc v k (tag_name u) m s start before at f fields, z, text_named, q)
      go u e i (fail q) =
          rw (name_same v k f.key g tag u e i, q, text_snoc v k (tag_name u) m s start before at f fields, text_named, q)
          (held.each u e i ∙ ap slotted (sym (or_none (text_named v k (tag_name u) start before))))

value_text : (q : Bool) (x : Bytes) {value : Value} → value_by q x ≡ value → (x ≡ text_of value) × (q ≡ is_quoted value)
value_text true x e = (ap text_of e, ap is_quoted e)
value_text false x e = (ap text_of e, ap is_quoted e)

-- One field more

more_is : {c d : Cursor} → afters.More c ≡ afters.More d → c ≡ d
more_is e = cc

comma_here : (s : Bytes) (i : ℕ) (t : Bytes) → after (drop i s) ≡ more t → drop i s ≡ 44 ∷ drop (i + 1) s
comma_here s i t e = let d = after_more (drop i s) e in d ∙ ap (44 ∷◌) (sym (ap tail d) ∙ drop-drop 1 i s)

module _ (x : MapContext) (s : Bytes) (at : ℕ) (slots : Slots) {r : Option (ℕ × Text × Cursor)} (a : r ≡ field_at x.brackets s at) where
  pub field_unread : r ≡ None → TakesField x s at slots (Err InvalidField)
  unfolding field_at first
  field_unread e = record { moves = tt; is = λ before w fuel h. go before w (see_field (read_field x.brackets (drop at s))) fuel }
    where
      go : (before : List Field) → Walk x s before at slots → SeenField (read_field x.brackets (drop at s)) → (fuel : ℕ) → scan_refusal (version_in x) (key_bytes x) (scanned_from x.brackets s before at fuel) ≡ 9
      go before w (no_field u) fuel = rw (scan_none fuel x.brackets (drop at s) u, append-nil before, w.fine)
      go before w (a_field p u) fuel = let z = rw u at (sym a ∙ e) in never cc

  module _ {e : ℕ} {t : Text} {n : Cursor} (b : r ≡ Some (e, t, n)) {p : Bytes} (c : p ≡ take (e - at) (drop at s)) (g : Tag) (d : tag_row g ≡ known_named (version_in x) (key_bytes x) p)
      {w : Bytes} (i : w ≡ take (t.end - t.start) (drop t.start s)) (y : Result Bool Refusal) (j : Checked y (raw_refusal (version_in x) (kind_by x.key) w t.quoted (tag_row g)) (odd_value w (tag_row g))) where
    told : FieldHere x.brackets s at e t n
    told = field_here x.brackets s at (sym a ∙ b)

    abbrev f : Field
    f = told.field

    key_is : p ≡ f.key
    key_is = c ∙ told.key

    tag_is : tag_row g ≡ known_named (version_in x) (key_bytes x) f.key
    tag_is = d ∙ ap (known_named (version_in x) (key_bytes x)) key_is

    refusal_is : value_refusal (version_in x) (kind_of (key_bytes x)) (meaning_of f.value) (known_named (version_in x) (key_bytes x) f.key) ≡ check_number y
    refusal_is =
        let vt = value_text t.quoted (part s t.start t.end) told.value in
        value_checked (version_in x) (kind_of (key_bytes x)) f.value (on_some (λ (z : Field × Bytes). Raw true (2 ^ 64 - 1) z.0.value) (field_raw true (2 ^ 64 - 1) x.brackets (drop at s)) told.read)
        (known_named (version_in x) (key_bytes x) f.key)
        ∙ rw (← tag_is, kind_by_case x.key, ← vt.0, ← vt.1, ← i) (sym j.refusal)

    odd_is : {o : Bool} → y ≡ Ok o → o ≡ is_odd_field (version_in x) (key_bytes x) f
    odd_is u =
        let vt = value_text t.quoted (part s t.start t.end) told.value in
        subst (OddIs (odd_value w (tag_row g))) u j.spelled
        ∙ sym (value_spelled (version_in x) (kind_of (key_bytes x)) f.value (on_some (λ (z : Field × Bytes). Raw true (2 ^ 64 - 1) z.0.value) (field_raw true (2 ^ 64 - 1) x.brackets (drop at s)) told.read)
        (known_named (version_in x) (key_bytes x) f.key)
        ∙ rw (← tag_is, ← vt.0, ← i))

    -- a field that is refused for itself, whatever follows it
    refused_at_lem : (before : List Field) {z : ℕ} → ((ys : List Field) → check_fields (version_in x) (key_bytes x) [] (before ++ f ∷ ys) ≡ suc z) → RefusedFrom x s before at (suc z)
    refused_at_lem before {z} h fuel l =
        let u = scan_first x.brackets (drop at s) told.read fuel l in
        rw (u.1, h u.0) (first_suc z ((scan fuel x.brackets (drop at s)).1 ∷ []))

    pub field_checked : {q : Refusal} → y ≡ Err q → TakesField x s at slots (Err q)
    field_checked {q} u = record {
      moves = tt;
      is = λ before l.
          let o = number_suc q in
          λ fuel h. refused_at_lem before (value_refused (version_in x) (key_bytes x) before l.fine f (refusal_is ∙ ap check_number u ∙ o.1)) fuel h ∙ sym o.1;
    }

    module _ {odd : Bool} (u : y ≡ Ok odd) {q : Bool} (rep : Repeats x s at p g slots q) where
      passes : value_refusal (version_in x) (kind_of (key_bytes x)) (meaning_of f.value) (known_named (version_in x) (key_bytes x) f.key) ≡ 0
      passes = refusal_is ∙ ap check_number u

      repeated : (before : List Field) → Walk x s before at slots → q ≡ is_in (name_of (version_in x) (key_bytes x) f.key) (names_of (version_in x) (key_bytes x) before)
      repeated before l = rw key_is at (rep.is before d l f (drop n.at s) told.read key_is)

      pub field_repeated : q ≡ true → TakesField x s at slots (Err DuplicateTag)
      field_repeated h = record { moves = tt; is = λ before l. refused_at_lem before (name_refused (version_in x) (key_bytes x) before l.fine f passes (sym (repeated before l) ∙ h)) }

      pub field_taken : q ≡ false → {tag : ℕ} → tag ≡ tag_of p → {o : Bool} → o ≡ (slots.odd || odd) → TakesField x s at slots (Ok (g, t.start, t.end, t.quoted, tag, o, n))
      field_taken h {tag} tg {o} od =
          let b' = told.begun in
          let o' = told.ordered in
          let e' = told.ended in
          let k' = told.keyed in
          record {
            moves = (omega arith, told.inside);
            is = λ before l.
                let fresh = sym (repeated before l) ∙ h in
                record {
                  field = f;
                  read = told.read;
                  size = told.next;
                  fine = field_fine (version_in x) (key_bytes x) before l.fine f passes fresh;
                  held =
                      subst (λ (z : Option (Text × ℕ)). Held (version_in x) (key_bytes x) x.start (before ++ f ∷ []) (put_slot g z o slots)) (sym (ap₂ (λ (a : Text) (b : ℕ). Some (a, b)) told.text (tg ∙ ap tag_of key_is)))
                      (put_held (version_in x) (key_bytes x) x.brackets s x.start before at slots f g tag_is l.fields l.held fresh (od ∙ ap (λ (b : Bool). slots.odd || b) (odd_is u)));
                };
          }

pub ruleset takes = (field_unread, field_checked, field_repeated, field_taken)

-- What follows it

module _ (x : MapContext) (s : Bytes) (at : ℕ) (slots : Slots) (r : Result (Tag × ℕ × ℕ × Bool × ℕ × Bool × Cursor) Refusal) (a : TakesField x s at slots r) where
  pub step_refused : {y : Refusal} → r ≡ Err y → ReadsField x s at slots (Err y)
  step_refused e = record { moves = tt; is = λ before l. subst (TakenIs x s before at slots) e (a.is before l) }

  module _ {g : Tag} {b d : ℕ} {q : Bool} {m : ℕ} {o : Bool} {n : Cursor} (e : r ≡ Ok (g, b, d, q, m, o, n)) {z : AfterRead} (af : z ≡ after_at s n.at) where
    took : (before : List Field) → Walk x s before at slots → Taken x s before at slots g (filled_as b d q m) o n.at
    took before l = subst (TakenIs x s before at slots) e (a.is before l)

    pub step_next : {y : Cursor} → z ≡ afters.More y → ReadsField x s at slots (Ok (step.Next y g b d q m o))
    step_next {y} c = go (see_after (after (drop n.at s)))
      where
        go : SeenAfter (after (drop n.at s)) → ReadsField x s at slots (Ok (step.Next y g b d q m o))
        go (was_more rest w) =
            let u : cursor_at (n.at + 1) ≡ y = more_is (sym (rw w at af) ∙ c) in
            let comma = comma_here s n.at rest w in
            let moved = subst (TakenMoves s at) e a.moves in
            let size = sym (length-drop n.at s) ∙ ap length comma in
            rw (← u) (record {
              moves = (omega arith, omega arith);
              is = λ before l.
                  let f = took before l in
                  let then = f.read ∙ ap (λ (r : Bytes). Some (f.field, r)) (comma ∙ ap (λ (i : ℕ). 44 ∷ drop (i + 1) s) f.size) in (
                    f.field,
                    record {
                      fields = subst (FieldsFrom x.brackets s x.start (before ++ f.field ∷ [])) (ap (λ (i : ℕ). i + 1) (sym f.size)) (fields_snoc x.brackets s x.start before at f.field l.fields then);
                      fine = f.fine;
                      held = f.held;
                    },
                  );
            })
        go (was_done w) = let q' = sym (rw w at af) ∙ c in never cc
        go (was_wrong w) = let q' = sym (rw w at af) ∙ c in never cc

    pub step_last : z ≡ afters.Closed → {k : Option (Text × ℕ)} → k ≡ filled_as b d q m → {left : Slots} → left ≡ put_slot g k o slots → ReadsField x s at slots (Ok (step.Last left))
    step_last c {k} w {left} p = record {
      moves = tt;
      is = λ before l. let f = took before l in (f.field, rw (p, w) f.held, f.fine, λ fuel h. scan_done x.brackets (drop at s) f.read fuel h (go (see_after (after (drop n.at s)))));
    }
      where
        go : SeenAfter (after (drop n.at s)) → after (drop n.at s) ≡ done
        go (was_done w) = w
        go (was_more q w) = let q' = sym (rw w at af) ∙ c in never cc
        go (was_wrong w) = let q' = sym (rw w at af) ∙ c in never cc

    pub step_wrong : z ≡ afters.Other → ReadsField x s at slots (Err InvalidMap)
    unfolding first
    step_wrong c = record {
      moves = tt;
      is = λ before l fuel h.
          let f = took before l in
          rw (scan_wrong x.brackets (drop at s) f.read fuel h (go (see_after (after (drop n.at s)))), f.fine);
    }
      where
        go : SeenAfter (after (drop n.at s)) → after (drop n.at s) ≡ wrong
        go (was_wrong w) = w
        go (was_more q w) = let q' = sym (rw w at af) ∙ c in never cc
        go (was_done w) = let q' = sym (rw w at af) ∙ c in never cc

pub ruleset steps = (step_refused, step_next, step_last, step_wrong)
