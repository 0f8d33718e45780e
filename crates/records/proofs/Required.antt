-- Maps by what their kind requires. Assumes nothing.
use Prim.Native.Nat.{ℕ, zero, suc, ◌+◌, ◌-◌, ◌^◌, ◌≤◌}
use native.Mathlib.Omega.{arith}
use mathlib.Core.Path.{◌≡◌, refl, sym, ap, subst, ◌∙◌}
use mathlib.Core.Bool.{Bool, true, false, not, ◌||◌, ◌&&◌, false≢true}
use mathlib.Core.List.{List, [], ◌∷◌, ◌++◌, map}
use Rattle.std.specs.Prelude.{Option, None, Some, Result, Ok, Err}
use lib.ListN.{length, drop}
use lib.Seq.{drop-drop}
use Rattle.values.specs.Bytes.{Bytes, ascii, empty, begins, same}
use Rattle.values.specs.Field.{Field, written_field, read_field}
use Rattle.values.specs.declared.cursor.Cursor.{Cursor}
use Rattle.values.specs.declared.string.Text.{Text}
use Rattle.values.proofs.Tests.{pass, fail, test, never}
use Rattle.rules.specs.Answer.{refuse, unless, first, judged}
use Rattle.rules.specs.Version.{Version}
use Rattle.rules.specs.Known.{kind_of, KnownField, id_field, rows, row_named, name_of, required, always_map}
use Rattle.rules.specs.Reserved.{reserved_pages}
use Rattle.rules.proofs.Fits.{reserved_none}
use Rattle.rules.specs.Map.{Scan, after, scan, read_fields, is_meta, check_fields, is_some, field_named, value_named, missing, misdeclared, map_refusal, read_map}
use Rattle.rules.specs.Entry.{text_named}
use Rattle.rules.specs.House.{write_fields}
use Rattle.rules.proofs.Fields.{was_more, was_done, was_wrong, see_after, no_field, a_field, see_field}
use Rattle.rules.proofs.Texts.{fields_in}
use Rattle.rules.proofs.Shows.{AnyAt}
use Rattle.values.proofs.Lists.{on_some}
use Rattle.values.proofs.Raws.{Raw, field_raw}
use Rattle.records.specs.Keys.{case_bytes}
use Rattle.records.specs.Tags.{tag_row, is_kept, tag_name}
use Rattle.records.specs.Maps.{get, slotted, opened, opens_at, Held, scan_refusal, tally_of, ScanIs, fields_after, ReadsFields, OpenIs, OpensMap, ParsesMap, Identified, Described}
use Rattle.records.specs.declared.map.Tally.{Tally}
use Rattle.records.specs.declared.key.MapKey.{MapKey}
use Rattle.records.specs.declared.refusal.Refusal.{Refusal}
use Rattle.records.specs.declared.refusal.Refusal.TheVariants.{InvalidMap, MissingId, MissingDescription}
use Rattle.records.specs.declared.tag.Tag.{Tag}
use Rattle.records.specs.declared.tag.Tag.TheVariants.{Id, Description}
use Rattle.records.specs.declared.map.Slots.{Slots}
use Rattle.records.proofs.Refusals.{number_suc}
use Rattle.records.proofs.Tags.{id_row}
use Rattle.records.proofs.Walks.{first_alone}
use Rattle.rules.specs.Claims.{All}

-- The opening of a map

no_open : (at : ℕ) (q : Bool) → opened at q ≡ None → q ≡ false
no_open at true e = never cc
no_open at false e = refl

is_open : (at : ℕ) (q : Bool) {d : Cursor} → opened at q ≡ Some d → (q ≡ true) × (at + 1 ≡ d.at)
is_open at true e = (refl, cc)
is_open at false e = never cc

-- a map with its `<`
map_read : (v : Version) (k : Bytes) (s : Bytes) (at : ℕ) → begins 60 (drop at s) ≡ true
    → read_map v k (drop at s) ≡ (let x = read_fields (is_meta v k) (always_map k) (drop (at + 1) s) in judged (map_refusal v k x) x.0)
unfolding read_map
map_read v k s at e = rw (read_map, e) (ap (λ (t : Bytes). let x = read_fields (is_meta v k) (always_map k) t in judged (map_refusal v k x) x.0) (drop-drop 1 at s))

-- a refusal among the fields comes before what is required
scan_first : (a b c d m : ℕ) → first (a ∷ b ∷ []) ≡ suc m → first (a ∷ b ∷ c ∷ d ∷ []) ≡ suc m
unfolding first
scan_first zero zero c d m e = absurd (omega arith)
scan_first zero (suc b) c d m e = e
scan_first (suc a) b c d m e = e

judged_suc : {A : Type 0} {n : ℕ} {m : ℕ} (x : A) → n ≡ suc m → judged n x ≡ refuse (suc m)
judged_suc x e = rw e

scan_refused : (v : Version) (k : Bytes) (z : Scan) {m : ℕ} → scan_refusal v k z ≡ suc m → map_refusal v k z ≡ suc m
unfolding map_refusal
scan_refused v k z {m} e = scan_first (check_fields v k [] z.0) z.1 (missing v k z.0) (misdeclared v k z.0) m e

module _ (v : Version) (key : MapKey) (s : Bytes) (c : Cursor) {r : Option Cursor} (a : r ≡ opens_at s c.at) where
  pub map_unopened : r ≡ None → OpensMap v key s c.at (Err InvalidMap)
  unfolding read_map
  map_unopened e = record { is = rw (read_map, no_open c.at (begins 60 (drop c.at s)) (sym a ∙ e)) }

  pub map_opened : {d : Cursor} → r ≡ Some d → (x : Result (Slots × Tally) Refusal) → ReadsFields v key s d.at x → OpensMap v key s c.at x
  map_opened {d} e x f = record { is = go x (subst (λ (i : ℕ). ScanIs v (case_bytes key) i (fields_after v (case_bytes key) s i) x) (sym o.1) f.is) }
    where
      o : (begins 60 (drop c.at s) ≡ true) × (c.at + 1 ≡ d.at)
      o = is_open c.at (begins 60 (drop c.at s)) (sym a ∙ e)

      go : (x : Result (Slots × Tally) Refusal) → ScanIs v (case_bytes key) (c.at + 1) (fields_after v (case_bytes key) s (c.at + 1)) x → OpenIs v (case_bytes key) s c.at x
      go (Ok (slots, tally)) h = (o.0, h)
      go (Err y) h =
          let z = fields_after v (case_bytes key) s (c.at + 1) in
          let m = number_suc y in
          map_read v (case_bytes key) s c.at o.0 ∙ judged_suc z.0 (scan_refused v (case_bytes key) z (h ∙ m.1)) ∙ ap refuse (sym m.1)

pub ruleset openings = (map_unopened, map_opened)

-- What is required

abbrev pub is_filled : Option (Text × ℕ) → Bool
is_filled None = false
is_filled (Some (t, g)) = true

filled_some : (o : Option (Bytes × Text)) → is_filled (slotted o) ≡ is_some o
filled_some None = refl
filled_some (Some p) = refl

text_some : (v : Version) (k name : Bytes) (at : ℕ) (fs : List Field) → is_some (text_named v k name at fs) ≡ is_some (field_named v k name fs)
unfolding text_named field_named
text_some v k name at [] = refl
text_some v k name at (f ∷ fs) = elim (test (same (name_of v k f.key) name)) [
  | pass e ↦ rw (text_named, field_named, e)
  | fail e ↦ rw (text_named, field_named, e) (text_some v k name (at + length (written_field f) + 1) fs)
]

-- the first that is missing
abbrev pub asks : Version → Bytes → List Field → KnownField → ℕ
asks v k fs r = unless (is_some (field_named v k r.name fs)) r.missing

pub asked_first : (b : Bool) (m : ℕ) (ns : List ℕ) → b ≡ false → first (unless b (suc m) ∷ ns) ≡ suc m
unfolding first
asked_first b m ns e = rw e

pub asked_later : (b : Bool) (m : ℕ) (ns : List ℕ) → b ≡ true → first (unless b m ∷ ns) ≡ first ns
unfolding first
asked_later b m ns e = rw e

missing_of : (v : Version) (k : Bytes) (fs : List Field) {rs : List KnownField} → required (kind_of k) ≡ rs → missing v k fs ≡ first (map (asks v k fs) rs)
unfolding missing
missing_of v k fs e = rw e

first_pair : (a b : ℕ) → first (a ∷ b ∷ []) ≡ 0 → (a ≡ 0) × (b ≡ 0)
unfolding first
first_pair zero zero e = (refl, refl)
first_pair zero (suc b) e = absurd (omega arith)
first_pair (suc a) b e = absurd (omega arith)

-- nothing reserved, nothing declared otherwise
misdeclared_not : (v : Version) (k : Bytes) (fs : List Field) → reserved_pages (kind_of k) ≡ [] → misdeclared v k fs ≡ 0
unfolding misdeclared
misdeclared_not v k fs e = rw (misdeclared, reserved_none v (kind_of k) (value_named v k (ascii "ID") fs) e)

judged_first : (v : Version) (k : Bytes) (z : Scan) → scan_refusal v k z ≡ 0 → map_refusal v k z ≡ first (missing v k z.0 ∷ misdeclared v k z.0 ∷ [])
unfolding map_refusal first
judged_first v k z e = let p = first_pair (check_fields v k [] z.0) z.1 e in rw (p.0, p.1)

first_front : (m : ℕ) (ns : List ℕ) {n : ℕ} → n ≡ suc m → first (n ∷ ns) ≡ suc m
unfolding first
first_front m ns e = rw e

first_after : (ns : List ℕ) {n : ℕ} → n ≡ 0 → first (n ∷ ns) ≡ first ns
unfolding first
first_after ns e = rw e

-- integers may be read from the bytes of a field as they stand
abbrev pub RawField : Field → Type 0
RawField f = Raw true (2 ^ 64 - 1) f.value

scan_raw : (n : ℕ) (m : Bool) (bs : Bytes) → All RawField (scan n m bs).0
unfolding scan
scan_raw zero m bs = tt
scan_raw (suc n) m bs = elim (see_field (read_field m bs)) [
  | no_field e ↦ rw (scan, e) tt
  | a_field p e ↦ let h = on_some (λ (z : Field × Bytes). RawField z.0) (field_raw true (2 ^ 64 - 1) m bs) e in
      elim (see_after (after p.1)) [
        | was_more r a ↦ rw (scan, e, a) (h, scan_raw n m r)
        | was_done a ↦ rw (scan, e, a) (h, tt)
        | was_wrong a ↦ rw (scan, e, a) (h, tt)
      ]
]

fields_raw : (m needed : Bool) (bs : Bytes) → All RawField (read_fields m needed bs).0
unfolding read_fields
fields_raw m needed bs = elim (test (not needed && (empty bs || begins 62 bs))) [ pass e ↦ rw (read_fields, e) tt | fail e ↦ rw (read_fields, e) (scan_raw (length bs) m bs) ]

any_at : (s : Bytes) (at : ℕ) (fs : List Field) → drop at s ≡ write_fields fs ++ 62 ∷ [] → at ≤ length s → AnyAt s at fs
any_at s at [] e l = tt
any_at s at (f ∷ fs) e l = (e, l)

begins_inside : (c : ℕ) (s : Bytes) (at : ℕ) → begins c (drop at s) ≡ true → at + 1 ≤ length s
unfolding begins
begins_inside c [] zero e = absurd (false≢true e)
begins_inside c [] (suc at) e = absurd (false≢true e)
begins_inside c (b ∷ s) zero e = omega arith
begins_inside c (b ∷ s) (suc at) e = let h = begins_inside c s at e in omega arith

-- a map whose fields were read
pub record Fielded (v : Version) (k s : Bytes) (at : ℕ) (slots : Slots) (tally : Tally) : Type 0 where
  pub fs : List Field
  pub read : read_map v k (drop at s) ≡ judged (first (missing v k fs ∷ misdeclared v k fs ∷ [])) fs
  pub held : Held v k (at + 1) fs slots
  pub tallied : tally ≡ tally_of v k fs
  pub stand : AnyAt s (at + 1) fs
  pub raw : All RawField fs

module _ (v : Version) (k s : Bytes) (at : ℕ) (slots : Slots) (tally : Tally) where
  pub fielded : OpenIs v k s at (Ok (slots, tally)) → Fielded v k s at slots tally
  fielded o =
      let z = fields_after v k s (at + 1) in
      record {
        fs = z.0;
        read = map_read v k s at o.0 ∙ ap (λ (n : ℕ). judged n z.0) (judged_first v k z o.1.0);
        held = o.1.1;
        tallied = o.1.2;
        stand = any_at s (at + 1) z.0 (fields_in (is_meta v k) (always_map k) (drop (at + 1) s) (first_pair (check_fields v k [] z.0) z.1 o.1.0).1) (begins_inside 60 s at o.0);
        raw = fields_raw (is_meta v k) (always_map k) (drop (at + 1) s);
      }

-- a field that the kind has and that is kept
abbrev pub Keeps : Bytes → Tag → Type 0
Keeps k t = (is_kept t ≡ true) × (row_named (tag_name t) (rows (kind_of k)) ≡ tag_row t)

module _ {v : Version} {k s : Bytes} {at : ℕ} {slots : Slots} {tally : Tally} (f : Fielded v k s at slots tally) where
  pub holds : (t : Tag) → Keeps k t → {x : Option (Text × ℕ)} → get t slots ≡ x → slotted (text_named v k (tag_name t) (at + 1) f.fs) ≡ x
  holds t a e = sym (f.held.each t a.0 a.1) ∙ e

  pub has : (t : Tag) → Keeps k t → {x : Option (Text × ℕ)} → get t slots ≡ x → is_some (field_named v k (tag_name t) f.fs) ≡ is_filled x
  has t a {x} e =
      sym (text_some v k (tag_name t) (at + 1) f.fs)
      ∙ sym (filled_some (text_named v k (tag_name t) (at + 1) f.fs))
      ∙ ap is_filled (holds t a e)

  pub lacks : {m : ℕ} → missing v k f.fs ≡ suc m → read_map v k (drop at s) ≡ refuse (suc m)
  lacks {m} e = f.read ∙ judged_suc f.fs (first_front m (misdeclared v k f.fs ∷ []) e)

  pub whole : missing v k f.fs ≡ 0 → read_map v k (drop at s) ≡ judged (misdeclared v k f.fs) f.fs
  whole e = f.read ∙ ap (λ (n : ℕ). judged n f.fs) (first_after (misdeclared v k f.fs ∷ []) e ∙ first_alone (misdeclared v k f.fs))

  pub asks_of : {rs : List KnownField} → required (kind_of k) ≡ rs → missing v k f.fs ≡ first (map (asks v k f.fs) rs)
  asks_of q = missing_of v k f.fs q

-- every kind has the ID
pub keeps_id : (k : Bytes) → Keeps k Id
keeps_id k = (refl, id_row (kind_of k))

-- Maps with an ID, and maps with an ID and a Description

module _ (v : Version) (key : MapKey) (s : Bytes) (c : Cursor) {r : Result (Slots × Tally) Refusal} (o : OpensMap v key s c.at r) where
  pub map_refused : {x : Refusal} → r ≡ Err x → ParsesMap v key s c.at (Err x)
  map_refused e = record { is = subst (OpenIs v (case_bytes key) s c.at) e o.is }

  module _ {slots : Slots} {tally : Tally} (e : r ≡ Ok (slots, tally)) where
    abbrev f : Fielded v (case_bytes key) s c.at slots tally
    f = fielded v (case_bytes key) s c.at slots tally (subst (OpenIs v (case_bytes key) s c.at) e o.is)

    no_id : slots.id ≡ None → {rs : List KnownField} → required (kind_of (case_bytes key)) ≡ id_field ∷ rs → ParsesMap v key s c.at (Err MissingId)
    no_id i {rs} q = record { is = lacks f (asks_of f q ∙ asked_first (is_some (field_named v (case_bytes key) (ascii "ID") f.fs)) 13 _ (has f Id (keeps_id (case_bytes key)) i)) }

    pub id_missing : slots.id ≡ None → Identified key → ParsesMap v key s c.at (Err MissingId)
    id_missing i d = no_id i d.needs

    pub id_missing_too : slots.id ≡ None → Described key → ParsesMap v key s c.at (Err MissingId)
    id_missing_too i d = no_id i d.needs

    module _ {id : Text} {g : ℕ} (i : slots.id ≡ Some (id, g)) where
      past_id : {rs : List KnownField} → required (kind_of (case_bytes key)) ≡ id_field ∷ rs → missing v (case_bytes key) f.fs ≡ first (map (asks v (case_bytes key) f.fs) rs)
      past_id q = asks_of f q ∙ asked_later (is_some (field_named v (case_bytes key) (ascii "ID") f.fs)) 14 _ (has f Id (keeps_id (case_bytes key)) i)

      given : missing v (case_bytes key) f.fs ≡ 0 → reserved_pages (kind_of (case_bytes key)) ≡ [] → ParsesMap v key s c.at (Ok (id, g, tally))
      given m t = record {
        is = (f.fs, whole f m ∙ ap (λ (n : ℕ). judged n f.fs) (misdeclared_not v (case_bytes key) f.fs t), holds f Id (keeps_id (case_bytes key)) i, f.tallied);
      }

      pub id_given : Identified key → ParsesMap v key s c.at (Ok (id, g, tally))
      unfolding first
      id_given d = given (past_id d.needs) d.free

      pub description_missing : slots.description ≡ None → Described key → ParsesMap v key s c.at (Err MissingDescription)
      description_missing x d = record {
        is = lacks f (past_id d.needs ∙ asked_first (is_some (field_named v (case_bytes key) (ascii "Description") f.fs)) 16 [] (has f Description (refl, d.known) x));
      }

      pub description_given : {t : Text} {h : ℕ} → slots.description ≡ Some (t, h) → Described key → ParsesMap v key s c.at (Ok (id, g, tally))
      unfolding first
      description_given x d =
          given (past_id d.needs ∙ asked_later (is_some (field_named v (case_bytes key) (ascii "Description") f.fs)) 17 [] (has f Description (refl, d.known) x)) d.free

pub ruleset identified = (map_refused, id_missing, id_given)

pub ruleset described = (map_refused, id_missing_too, description_missing, description_given)
