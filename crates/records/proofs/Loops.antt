-- The fields of a map, one after the other. Assumes nothing.
use Rattle.std.specs.Prelude.{Option, None, Result, Ok, Err}
use Prim.Native.Nat.{ℕ, ◌+◌, ◌*◌, ◌-◌, ◌^◌, ◌≤◌, ◌<◌}
use native.Mathlib.Omega.{arith}
use mathlib.Core.Path.{◌≡◌, refl, sym, ap, ap₂, subst, ◌∙◌}
use mathlib.Core.Bool.{Bool, true, false, not, ◌||◌}
use mathlib.Core.List.{List, [], ◌∷◌, ◌++◌}
use lib.Dec.{eqb}
use lib.ListN.{length, drop, get_or, drop_of_length-le, length-append}
use borrow.Author.Tests.{eqb-true}
use mir.Syntax.{w64}
use mir.Val.{Fits}
use Rattle.values.specs.Bytes.{Bytes, empty, begins}
use Rattle.values.specs.Field.{Field}
use Rattle.values.specs.declared.cursor.Cursor.{Cursor}
use Rattle.values.proofs.Tests.{and_r, not_true, not_false}
use Rattle.values.proofs.Lists.{here}
use Rattle.rules.specs.Answer.{unless, first}
use Rattle.rules.specs.Version.{Version}
use Rattle.rules.specs.Known.{always_map}
use Rattle.rules.specs.Map.{done, wrong, after, closing_refusal, Scan, scan, read_fields, check_fields}
use Rattle.rules.specs.Entry.{text_named}
use Rattle.records.specs.Formats.{version_of}
use Rattle.records.specs.Keys.{case_bytes, context_of, version_in, key_bytes}
use Rattle.rules.specs.Spelling.{has_odd}
use Rattle.records.specs.Maps.{slots_of, filled_as, fields_of, get, put_slot, no_slots, closes_as_map, closes_at, bare_at, Distinct, Held, Walk, tallied, scanned_from, StepIs, StepMoves, ReadsField, WalksFields, fields_after, ReadsFields}
use Rattle.records.specs.declared.file_format.FileFormat.{FileFormat}
use Rattle.records.specs.declared.key.MapKey.{MapKey}
use Rattle.records.specs.declared.key.MapContext.{MapContext}
use Rattle.records.specs.declared.refusal.Refusal.{Refusal}
use Rattle.records.specs.declared.refusal.Refusal.TheVariants.{InvalidMap}
use Rattle.records.specs.declared.tag.Tag.{Tag}
use Rattle.records.specs.declared.tag.Tag.TheVariants.{Id, Number, ValueType, Description, Length, Md5, Url, Idx, Other}
use Rattle.records.specs.declared.map.Slots.{Slots}
use Rattle.records.specs.declared.map.FieldStep.{FieldStep}
use Rattle.records.specs.declared.map.FieldStep.TheVariants as step
use Rattle.records.proofs.Walks.{walk_scan, few_fields}
use Rattle.records.proofs.Distincts.{none_distinct}
use Rattle.values.specs.declared.string.Text.{Text}
use Rattle.records.specs.declared.map.Tally.{Tally}

no_slot : (t : Tag) → get t no_slots ≡ None
no_slot Id = refl
no_slot Number = refl
no_slot ValueType = refl
no_slot Description = refl
no_slot Length = refl
no_slot Md5 = refl
no_slot Url = refl
no_slot Idx = refl
no_slot Other = refl

none_held : (v : Version) (k : Bytes) (start : ℕ) → Held v k start [] no_slots
unfolding text_named has_odd
none_held v k start = record { each = λ t e i. no_slot t; plainly = refl; spelling = refl }

-- the fields before the cursor, and the number of the one at it; no name stands twice before d
pub record Walking (x : MapContext) (s : Bytes) (at : ℕ) (slots : Slots) (fields d : ℕ) : Type 0 where
  pub known : Distinct x s d
  pub before : List Field
  pub walk : Walk x s before at slots
  pub count : fields ≡ length before + 1

pub walk_start : (x : MapContext) (s : Bytes) → Walking x s x.start no_slots 1 0
unfolding check_fields
walk_start x s = record { known = none_distinct x s; before = []; walk = record { fields = refl; fine = refl; held = none_held (version_in x) (key_bytes x) x.start }; count = refl }

module _ {x : MapContext} {s : Bytes} {at : ℕ} {id number kind description : Option (Text × ℕ)} {plain odd : Bool} {n d : ℕ} (g : Walking x s at (slots_of id number kind description plain odd) n d)
    {slots : Slots} (w : slots ≡ slots_of id number kind description plain odd) {r : Result FieldStep Refusal} (a : ReadsField x s at slots r) where
  stepped : {y : Result FieldStep Refusal} → r ≡ y → StepIs x s g.before at slots y
  stepped e = subst (StepIs x s g.before at slots) e (a.is g.before (rw w g.walk))

  scanned : (j : ℕ) × (length (drop at s) ≤ j) × (scan (length (drop x.start s)) x.brackets (drop x.start s) ≡ scanned_from x.brackets s g.before at j)
  scanned = walk_scan x.brackets s x.start g.before at (length (drop x.start s)) g.walk.fields (omega arith)

  pub walk_refused : {y : Refusal} → r ≡ Err y → WalksFields x s (Err y)
  walk_refused e = record { is = let z = scanned in rw z.2 (stepped e z.0 z.1) }

  pub walk_last : {kept : Slots} → r ≡ Ok (step.Last kept) → {y : Result (Slots × Tally) Refusal} → y ≡ fields_of kept n → WalksFields x s y
  unfolding first
  walk_last e i = rw i (record {
    is =
        let z = scanned in
        let y = stepped e in
        let w = y.3 z.0 z.1 in
        let c : n ≡ length (g.before ++ y.0 ∷ []) = g.count ∙ sym (length-append g.before (y.0 ∷ [])) in
        rw (z.2, w) (rw y.2, y.1, ap₂ tallied y.1.spelling c);
  })

  -- one field more, of tag t
  module _ {c : Cursor} {t : Tag} {b e : ℕ} {q : Bool} {m : ℕ} {o : Bool} (u : r ≡ Ok (step.Next c t b e q m o)) where
    pub walk_counts : length s * 1 < 2 ^ 63 → Fits w64 (n + 1)
    walk_counts few =
        let y = subst (StepMoves s at) u a.moves in
        let b = few_fields x.brackets s x.start g.before at g.walk.fields in
        omega (arith, y, b, g.count)

    pub walk_less : length s - c.at < length s - at
    walk_less = let y = subst (StepMoves s at) u a.moves in omega arith

    module _ {i : ℕ} (k : Distinct x s i) where
      walk_on : (t' : Tag) → t ≡ t' → Walking x s c.at (put_slot t' (filled_as b e q m) o (slots_of id number kind description plain odd)) (n + 1) i
      walk_on t' f =
          let y = stepped u in
          record { known = k; before = g.before ++ y.0 ∷ []; walk = rw (← f, ← w) y.1; count = ap (◌+ 1) (g.count ∙ sym (length-append g.before (y.0 ∷ []))) }

      module _ {z : Option (Text × ℕ)} (v : z ≡ filled_as b e q m) where
        pub walk_id : t ≡ Id → Walking x s c.at (slots_of z number kind description plain o) (n + 1) i
        walk_id f = rw v (walk_on Id f)

        pub walk_number : t ≡ Number → Walking x s c.at (slots_of id z kind description plain o) (n + 1) i
        walk_number f = rw v (walk_on Number f)

        pub walk_type : t ≡ ValueType → Walking x s c.at (slots_of id number z description plain o) (n + 1) i
        walk_type f = rw v (walk_on ValueType f)

        pub walk_description : t ≡ Description → Walking x s c.at (slots_of id number kind z plain o) (n + 1) i
        walk_description f = rw v (walk_on Description f)

      pub walk_unkept : (t ≡ Id → ⊥) → (t ≡ Number → ⊥) → (t ≡ ValueType → ⊥) → (t ≡ Description → ⊥) → Walking x s c.at (slots_of id number kind description false o) (n + 1) i
      walk_unkept no_id no_number no_type no_description = go t refl
        where
          go : (u : Tag) → t ≡ u → Walking x s c.at (slots_of id number kind description false o) (n + 1) i
          go Id f = absurd (no_id f)
          go Number f = absurd (no_number f)
          go ValueType f = absurd (no_type f)
          go Description f = absurd (no_description f)
          go Length f = walk_on Length f
          go Md5 f = walk_on Md5 f
          go Url f = walk_on Url f
          go Idx f = walk_on Idx f
          go Other f = walk_on Other f

pub walk_known : {x : MapContext} {s : Bytes} {at : ℕ} {slots : Slots} {n d : ℕ} → Walking x s at slots n d → Distinct x s d
walk_known g = g.known

pub ruleset walks = (walk_start, walk_known, walk_counts, walk_less, walk_refused, walk_last)

-- No field at all

module _ (s : Bytes) (c : Cursor) (key : MapKey) {q : Bool} (a : q ≡ always_map (case_bytes key)) where
  pub bare_never : q ≡ true → false ≡ bare_at s c.at (always_map (case_bytes key))
  bare_never e = rw (sym a ∙ e)

  pub bare_end : q ≡ false → length s ≤ c.at → true ≡ bare_at s c.at (always_map (case_bytes key))
  bare_end e h = rw (sym a ∙ e, drop_of_length-le s h)

  pub bare_byte : q ≡ false → c.at < length s → eqb (get_or s c.at 0) 62 ≡ bare_at s c.at (always_map (case_bytes key))
  unfolding begins
  bare_byte e h = rw (sym a ∙ e, here s c.at h)

pub ruleset bares = (bare_never, bare_end, bare_byte)

abbrev no_field : ℕ → Scan
no_field n = ([], n)

closed_after : (x : Bytes) → empty x || begins 62 x ≡ true → closing_refusal (after x) ≡ unless (closes_as_map x) 8
unfolding after begins
closed_after [] e = refl
closed_after (b ∷ x) e = rw (eqb-true b 62 e) (go (empty x))
  where
    go : (q : Bool) → closing_refusal (elim q [ true ↦ done | false ↦ wrong ]) ≡ unless q 8
    go true = refl
    go false = refl

module _ (version : FileFormat) (key : MapKey) (s : Bytes) (c : Cursor) {q : Bool} (a : q ≡ bare_at s c.at (always_map (case_bytes key))) where
  pub fields_read : not q ≡ true → {x : MapContext} → x ≡ context_of key version c.at → {r : Result (Slots × Tally) Refusal} → WalksFields x s r → ReadsFields (version_of version) key s c.at r
  unfolding read_fields
  fields_read e f {r} h = record {
    is =
        let y = (subst (λ (x : MapContext). WalksFields x s r) f h).is in
        let b = sym a ∙ not_true q e in
        rw (read_fields, b) y;
  }

  module _ (e : not q ≡ false) where
    bare : fields_after (version_of version) (case_bytes key) s c.at ≡ ([], unless (closes_as_map (drop c.at s)) 8)
    unfolding read_fields
    bare =
        let b = sym a ∙ not_false q e in
        rw (read_fields, b) (ap no_field (closed_after (drop c.at s) (and_r (not (always_map (case_bytes key))) _ b)))

    pub fields_none : {x : Bool} → x ≡ closes_at s c.at → x ≡ true → {slots : Slots} → slots ≡ no_slots → ReadsFields (version_of version) key s c.at (Ok (slots, tallied false 0))
    unfolding first check_fields has_odd
    fields_none f g h = record { is = rw (bare, sym f ∙ g) (refl, rw h (none_held (version_of version) (case_bytes key) c.at), refl) }

    pub fields_unclosed : {x : Bool} → x ≡ closes_at s c.at → x ≡ false → ReadsFields (version_of version) key s c.at (Err InvalidMap)
    unfolding first check_fields
    fields_unclosed f g = record { is = rw (bare, sym f ∙ g) }

pub ruleset all_fields = (fields_read, fields_none, fields_unclosed)
