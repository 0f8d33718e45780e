-- Records of one or two bare fields: what the quick reader saw is what the rules read. Assumes nothing.
use Rattle.std.specs.Prelude.{Option, Some, None, Ok}
use Prim.Native.Nat.{ℕ, ◌+◌, ◌*◌, ◌-◌, ◌^◌, ◌≤◌, ◌<◌}
use mir.Syntax.{w64}
use mir.Val.{Fits}
use native.Mathlib.Omega.{arith}
use mathlib.Core.Path.{◌≡◌, refl, sym, ap, subst, ◌∙◌}
use mathlib.Core.Bool.{Bool, true, false, not, ◌||◌, false≢true}
use mathlib.Core.List.{[], ◌∷◌}
use lib.ListN.{length, take, drop, get_or, length-drop}
use lib.Seq.{drop-drop}
use borrow.Author.Tests.{eqb-true, ne_eqb}
use Rattle.values.specs.Bytes.{Bytes, ascii, is, empty, begins, any, before, from, starts, same, part}
use Rattle.values.specs.Integer.{u64_read}
use Rattle.values.specs.Value.{is_stop}
use Rattle.values.specs.Field.{read_key}
use Rattle.values.specs.Places.{cursor_at, key_placed, key_at, field_at}
use Rattle.values.specs.declared.cursor.Cursor.{Cursor}
use Rattle.values.proofs.Tests.{pass, fail, test, and_l, not_true, not_false}
use Rattle.values.proofs.Sames.{same_self}
use Rattle.values.proofs.Lists.{here, rest}
use Rattle.values.proofs.Fields.{bare_field}
use Rattle.values.proofs.Scans.{stop_of}
use Rattle.rules.specs.Answer.{unless}
use Rattle.rules.specs.Spelling.{is_odd, odd_value}
use Rattle.records.specs.Numbers.{is_count}
use Rattle.rules.specs.Version.{Version, v4_3, since}
use Rattle.rules.specs.Known.{contig, other, is_in, row_named, tag_of, always_map, is_typed}
use Rattle.rules.specs.Map.{after, is_meta}
use Rattle.rules.specs.Record.{looks_map, is_map}
use Rattle.rules.specs.Claims.{key_in}
use Rattle.rules.proofs.Records.{starts_is}
use Rattle.records.specs.Formats.{version_of}
use Rattle.records.specs.Keys.{case_bytes, kind_by, key_named}
use Rattle.records.specs.Tags.{tag_row, is_kept, after_id}
use Rattle.records.specs.Maps.{raw_refusal, Checked, after_placed, closes_as_map, closes_at, after_at, no_slots, slots_of, filled_as, fields_of, put_slot, TakesField, WalksFields, tallied, Identified, bare_at, opens_at}
use Rattle.records.specs.Records.{ParsesValue, KeyedIs, ParsesRecord}
use Rattle.records.specs.Quick.{quick_key, quick_context, is_plainly, PlainIs, ReadsPlain, Follows, FitsContig, LastRead, IsLast, IsFollowed, id_from, MapQuick, ReadsQuickMap, KeyQuick, ReadsQuickKey, RecordQuick, ReadsQuick}
use Rattle.records.specs.declared.file_format.FileFormat.{FileFormat}
use Rattle.records.specs.declared.key.MapKey.{MapKey}
use Rattle.records.specs.declared.key.MapKey.TheVariants as case
use Rattle.records.specs.declared.key.MapContext.{MapContext}
use Rattle.records.specs.declared.tag.Tag.{Tag}
use Rattle.records.specs.declared.tag.Tag.TheVariants.{Id, Number, ValueType, Description, Length, Md5, Url, Idx, Other}
use Rattle.records.specs.declared.map.After.TheVariants as afters
use Rattle.records.specs.declared.map.Slots.{Slots}
use Rattle.records.specs.declared.record.RecordKey.TheVariants as key
use Rattle.records.specs.declared.record.Record.TheVariants as read
use Rattle.records.proofs.Tags.{row_none, id_itself, no_lineage, tag_named_id, tag_after_id}
use Rattle.records.proofs.Maps.{integer_passed, idx_checked, length_checked, id_unread, md5_unread, url_unread, other_unread}
use Rattle.records.proofs.Distincts.{none_distinct}
use Rattle.records.proofs.Steps.{kept_empty, all_kept_lem, field_taken, step_next, step_last}
use Rattle.records.proofs.Loops.{Walking, walk_start, walk_last, walk_id, fields_read}
use Rattle.records.proofs.Required.{map_opened, id_given}
use Rattle.records.proofs.Needed.{identified_contig, identified_other}
use Rattle.records.proofs.Records.{map_given, record_map}
use Rattle.records.proofs.Records as records
use Rattle.values.specs.declared.string.Text.{Text}

-- The key

pub key_contig : (b : Bool) → b ≡ true → case.Contig ≡ quick_key b
key_contig b e = rw e

pub key_other : (b : Bool) → b ≡ false → case.Other ≡ quick_key b
key_other b e = rw e

pub ruleset cases = (key_contig, key_other)

quick_identified : (b : Bool) → Identified (quick_key b)
quick_identified true = identified_contig
quick_identified false = identified_other

no_brackets : (b : Bool) (v : Version) → is_meta v (case_bytes (quick_key b)) ≡ false
unfolding same
no_brackets true v = refl
no_brackets false v = refl

no_pedigree : (b : Bool) → same (case_bytes (quick_key b)) (ascii "PEDIGREE") ≡ false
unfolding same
no_pedigree true = refl
no_pedigree false = refl

not_always : (b : Bool) → always_map (case_bytes (quick_key b)) ≡ false
unfolding always_map same
not_always true = refl
not_always false = refl

-- A field behind the ID

pub plainly_value : (s : Bytes) {i : Option (ℕ × Bool)} → i ≡ u64_read s → {n : ℕ} {p : Bool} → i ≡ Some (n, p) → p ≡ is_plainly (u64_read s)
plainly_value s a e = rw (sym a ∙ e)

pub plainly_refused : (s : Bytes) {i : Option (ℕ × Bool)} → i ≡ u64_read s → i ≡ None → false ≡ is_plainly (u64_read s)
plainly_refused s a e = rw (sym a ∙ e)

pub ruleset plainness = (plainly_value, plainly_refused)

pub plain_unusual : (s : Bytes) (i : ℕ) → ReadsPlain s i None
plain_unusual s i = record { is = tt }

pub plain_found : (s : Bytes) (i : ℕ) {r : Option (ℕ × Cursor)} → r ≡ key_at s i → {e : ℕ} {c : Cursor} → r ≡ Some (e, c) → c.at < length s → (get_or s c.at 0 ≡ 34 → ⊥)
    → {n : ℕ} → n ≡ stop_of is_stop s c.at → ReadsPlain s i (Some (e, n))
plain_found s i a b h ne f = record { is = bare_field s i a b h ne f }

pub ruleset plains = (plain_unusual, plain_found)

-- t is the tag that the code found
module _ (name text : Bytes) (t : Tag) (a : tag_row t ≡ row_named name (after_id contig)) where
  pub contig_not : FitsContig name text false
  contig_not = record { is = λ e. absurd (false≢true e) }

  abbrev Passes : Tag → Type 0
  Passes g = (v : Version) → Checked (Ok false) (raw_refusal v contig text false (tag_row g)) (odd_value text (tag_row g))

  contig_fits : (g : Tag) → t ≡ g → is_kept g ≡ false → {q : Bool} → (q ≡ true → Passes g) → FitsContig name text q
  contig_fits g e k p = record { is = λ q. record { tag = g; named = ap tag_row (sym e) ∙ a; unkept = k; passes = p q } }

  numbered : (q : Bool) → q ≡ is_plainly (u64_read text) → q ≡ true → Checked (Ok false) (unless (is_count text) 13) (is_odd (u64_read text))
  numbered q b e = go (u64_read text) refl (sym b ∙ e)
    where
      go : (i : Option (ℕ × Bool)) → i ≡ u64_read text → is_plainly i ≡ true → Checked (Ok false) (unless (is_count text) 13) (is_odd (u64_read text))
      go (Some (n, p)) c d = subst (λ (x : Bool). Checked (Ok (not x)) (unless (is_count text) 13) (is_odd (u64_read text))) d (integer_passed text c refl)
      go None c d = absurd (false≢true d)

  pub contig_length : t ≡ Length → {q : Bool} → q ≡ is_plainly (u64_read text) → FitsContig name text q
  contig_length e {q} b = contig_fits Length e refl (λ f v. length_checked v contig Length text false refl (numbered q b f))

  pub contig_idx : t ≡ Idx → {q : Bool} → q ≡ is_plainly (u64_read text) → FitsContig name text q
  contig_idx e {q} b = contig_fits Idx e refl (λ f v. idx_checked v contig Idx text false refl (numbered q b f))

  pub contig_md5 : t ≡ Md5 → FitsContig name text true
  contig_md5 e = contig_fits Md5 e refl (λ f v. md5_unread v contig Md5 text false refl)

  pub contig_url : t ≡ Url → FitsContig name text true
  contig_url e = contig_fits Url e refl (λ f v. url_unread v contig Url text false refl)

  pub contig_other : t ≡ Other → FitsContig name text true
  contig_other e = contig_fits Other e refl (λ f v. other_unread v contig Other text false refl)

pub ruleset contigs = (contig_not, contig_length, contig_idx, contig_md5, contig_url, contig_other)

other_follows : (name text : Bytes) → Follows false name text
other_follows name text = record { tag = Other; named = row_none name; unkept = refl; passes = λ v. other_unread v other Other text false refl }

-- The last field

unkept_id : (g : Tag) (z : Option (Text × ℕ)) (o : Bool) (x : Slots) → is_kept g ≡ false → (put_slot g z o x).id ≡ x.id
unkept_id Id z o x e = absurd (false≢true (sym e))
unkept_id Number z o x e = absurd (false≢true (sym e))
unkept_id ValueType z o x e = absurd (false≢true (sym e))
unkept_id Description z o x e = absurd (false≢true (sym e))
unkept_id Length z o x e = refl
unkept_id Md5 z o x e = refl
unkept_id Url z o x e = refl
unkept_id Idx z o x e = refl
unkept_id Other z o x e = refl

put_odd : (g : Tag) (z : Option (Text × ℕ)) (o : Bool) (x : Slots) → (put_slot g z o x).odd ≡ o
put_odd Id z o x = refl
put_odd Number z o x = refl
put_odd ValueType z o x = refl
put_odd Description z o x = refl
put_odd Length z o x = refl
put_odd Md5 z o x = refl
put_odd Url z o x = refl
put_odd Idx z o x = refl
put_odd Other z o x = refl

closed_after : (at : ℕ) (y : Bytes) → closes_as_map y ≡ true → afters.Closed ≡ after_placed at (after y)
unfolding after
closed_after at [] e = absurd (false≢true e)
closed_after at (b ∷ y) e =
    let w = eqb-true b 62 (and_l (is 62 b) (empty y) e) in
    rw (after, ne_eqb b 44 (λ z. omega (arith, w)), e)

either_none : (o : Bool) → o ≡ false → false ≡ (o || false)
either_none o e = rw e

module _ (b : Bool) (s : Bytes) (at : ℕ) {r : Option (ℕ × ℕ)} (a : ReadsPlain s at r) {e n : ℕ} (c : r ≡ Some (e, n)) where
  told : PlainIs s at (Some (e, n))
  told = subst (PlainIs s at) c a.is

  last_read : closes_at s n ≡ true → {name : Bytes} → name ≡ part s at e → same (ascii "ID") name ≡ false → {text : Bytes} → text ≡ part s (e + 1) n → Follows b name text
      → (f : FileFormat) (start : ℕ) (slots : Slots) → slots.plain ≡ true → slots.odd ≡ false → LastRead (quick_context b f start) s at slots
  last_read closed {name} en id {text} et w f start slots plain odd =
      let x = quick_context b f start in
      let v = version_of f in
      let g = w.tag in
      let there : Some (e, record { start = e + 1; end = n; quoted = false }, cursor_at n) ≡ field_at x.brackets s at
      = sym told.0 ∙ ap (λ (m : Bool). field_at m s at) (sym (no_brackets b v)) in
      let lineage = no_lineage v (case_bytes (quick_key b)) name refl id refl (rw (no_pedigree b)) in
      let tagged = tag_after_id v (quick_key b) name lineage refl w.named in
      let t = field_taken x s at slots there refl en g tagged et (Ok false) (w.passes v) refl (all_kept_lem x s at name g slots (sym w.unkept) refl plain) refl {tag = tag_of name} refl {o = false} (either_none slots.odd odd) in
      record {
        kept = put_slot g (filled_as (e + 1) n false (tag_of name)) false slots;
        id = unkept_id g (filled_as (e + 1) n false (tag_of name)) false slots w.unkept;
        odd = put_odd g (filled_as (e + 1) n false (tag_of name)) false slots;
        read = step_last x s at slots (Ok (g, e + 1, n, false, tag_of name, false, cursor_at n)) t refl (closed_after n (drop n s) closed) refl refl refl;
      }

  module _ {q : Bool} (d : q ≡ closes_at s n) where
    pub last_open : not q ≡ true → IsLast b s at false
    last_open h = record { is = λ w. absurd (false≢true w) }

    module _ (h : not q ≡ false) {name : Bytes} (en : name ≡ part s at e) {i : Bool} (ei : i ≡ same (ascii "ID") name) where
      pub last_id : i ≡ true → IsLast b s at false
      last_id w = record { is = λ z. absurd (false≢true z) }

      pub last_other : i ≡ false → not b ≡ true → IsLast b s at true
      last_other j w = record { is = λ u. last_read (sym d ∙ not_false q h) en (sym ei ∙ j) refl (subst (λ (y : Bool). Follows y name (part s (e + 1) n)) (sym (not_true b w)) (other_follows name (part s (e + 1) n))) }

      pub last_contig : i ≡ false → not b ≡ false → {text : Bytes} → text ≡ part s (e + 1) n → {r : Bool} → FitsContig name text r → IsLast b s at r
      last_contig j w {text} et f = record { is = λ u. last_read (sym d ∙ not_false q h) en (sym ei ∙ j) et (subst (λ (y : Bool). Follows y name text) (sym (not_false b w)) (f.is u)) }

  pub last_fits : length s * 1 < 2 ^ 63 → Fits w64 (e + 1)
  last_fits few = let i = told.1 in omega arith

pub last_not : (b : Bool) (s : Bytes) (at : ℕ) → IsLast b s at false
last_not b s at = record { is = λ w. absurd (false≢true w) }

pub ruleset lasts = (last_not, last_open, last_id, last_other, last_contig, last_fits)

pub not_followed : (b : Bool) (s : Bytes) (end : ℕ) → IsFollowed b s end false
not_followed b s end = record { is = λ w. absurd (false≢true w) }

pub followed : (b : Bool) (s : Bytes) (end : ℕ) → end < length s → get_or s end 0 ≡ 44 → {r : Bool} → IsLast b s (end + 1) r → IsFollowed b s end r
followed b s end l e a = record { is = λ w. record { inside = l; comma = e; last = a.is w } }

pub ruleset follows = (not_followed, followed)

-- The ID

looks_map_lem : (v : Version) (r : Bytes) → looks_map v (60 ∷ 73 ∷ 68 ∷ 61 ∷ r) ≡ true
unfolding looks_map begins starts
looks_map_lem v r = elim (test (since v4_3 v)) [ pass e ↦ rw (looks_map, e) | fail e ↦ rw (looks_map, e) ]

is_map_lem : (b : Bool) (v : Version) (y : Bytes) → looks_map v y ≡ true → true ≡ is_map v (case_bytes (quick_key b)) y
unfolding is_typed is_in same
is_map_lem true v y e = refl
is_map_lem false v y e = rw (not_always false, e)

key_read : (i : ℕ) (r : Bytes) → key_placed i (read_key (73 ∷ 68 ∷ 61 ∷ r)) ≡ Some (i + 2, cursor_at (i + 2 + 1))
unfolding read_key before from begins any
key_read i r = refl

id_itself_is : 0 ≡ tag_of (ascii "ID")
unfolding same
id_itself_is = refl

comma_after : (at : ℕ) (y : Bytes) → afters.More (cursor_at (at + 1)) ≡ after_placed at (after (44 ∷ y))
unfolding after
comma_after at y = refl

module _ (b : Bool) (s : Bytes) (at : ℕ) {p : Bytes} (ep : p ≡ take (length s - at) (drop at s)) {q : Bool} (eq : q ≡ starts (ascii "<ID=") p) (op : not q ≡ false) where
  begun : drop at s ≡ 60 ∷ 73 ∷ 68 ∷ 61 ∷ drop (at + 4) s
  begun =
      let w : starts (ascii "<ID=") (drop at s) ≡ true = ap (starts (ascii "<ID=")) (sym (ep ∙ rest s at)) ∙ sym eq ∙ not_false q op in
      starts_is (ascii "<ID=") (drop at s) w ∙ ap (λ (y : Bytes). 60 ∷ 73 ∷ 68 ∷ 61 ∷ y) (drop-drop 4 at s)

  first_field : drop (at + 1) s ≡ 73 ∷ 68 ∷ 61 ∷ drop (at + 4) s
  first_field = sym (drop-drop 1 at s) ∙ ap (drop 1) begun

  long : at + 4 ≤ length s
  long = let n = sym (length-drop at s) ∙ ap length begun in omega arith

  pub map_fits : length s * 1 < 2 ^ 63 → Fits w64 (at + 4)
  map_fits few = let n = long in omega arith

  id_key : key_at s (at + 1) ≡ Some (at + 3, cursor_at (at + 4))
  unfolding key_at
  id_key =
      let m : at + 1 + 2 ≡ at + 3 = omega arith in
      let n : at + 3 + 1 ≡ at + 4 = omega arith in
      ap (λ (y : Bytes). key_placed (at + 1) (read_key y)) first_field ∙ key_read (at + 1) (drop (at + 4) s) ∙ rw (m, n)

  id_name : ascii "ID" ≡ part s (at + 1) (at + 3)
  id_name = let m : at + 3 - (at + 1) ≡ 2 = omega arith in rw (m, first_field)

  module _ (l : at + 4 < length s) (ne : get_or s (at + 4) 0 ≡ 34 → ⊥) {end : ℕ} (ee : end ≡ stop_of is_stop s (at + 4)) (f : FileFormat) where
    abbrev x : MapContext
    x = quick_context b f (at + 1)

    abbrev kept : Option (Text × ℕ)
    kept = filled_as (at + 4) end false 0

    id_there : Some (at + 3, id_from at end, cursor_at end) ≡ field_at x.brackets s (at + 1)
    id_there =
        let n : at + 3 + 1 ≡ at + 4 = omega arith in
        let w = (bare_field s (at + 1) (sym id_key) refl l ne ee).0 in
        sym (rw n at w) ∙ ap (λ (m : Bool). field_at m s (at + 1)) (sym (no_brackets b (version_of f)))

    id_taken : TakesField x s (at + 1) no_slots (Ok (Id, at + 4, end, false, 0, false, cursor_at end))
    id_taken =
        let v = version_of f in
        let named = id_itself v (case_bytes (quick_key b)) (ascii "ID") (sym (same_self (ascii "ID"))) refl in
        let tagged = tag_named_id v (quick_key b) (ascii "ID") named refl in
        field_taken x s (at + 1) no_slots id_there refl id_name Id tagged refl (Ok false) (id_unread v (kind_by (quick_key b)) Id (part s (at + 4) end) false refl) refl
        (kept_empty x s (at + 1) (ascii "ID") Id no_slots refl refl refl refl) refl id_itself_is refl

    walked_one : closes_at s end ≡ true → WalksFields x s (fields_of (slots_of kept None None None true false) 1)
    walked_one e =
        walk_last (walk_start x s) refl (step_last x s (at + 1) no_slots (Ok (Id, at + 4, end, false, 0, false, cursor_at end)) id_taken refl (closed_after end (drop end s) e) refl refl refl) refl refl

    walking_two : end < length s → get_or s end 0 ≡ 44 → Walking x s (end + 1) (slots_of kept None None None true false) 2 0
    walking_two m e =
        let w : afters.More (cursor_at (end + 1)) ≡ after_at s end = comma_after end (drop (end + 1) s) ∙ ap (λ (y : Bytes). after_placed end (after y)) (sym (here s end m ∙ rw e)) in
        walk_id (walk_start x s) refl (step_next x s (at + 1) no_slots (Ok (Id, at + 4, end, false, 0, false, cursor_at end)) id_taken refl w refl) refl (none_distinct x s) refl refl

    parsed : (slots : Slots) → slots.id ≡ kept → slots.odd ≡ false → (n : ℕ) → WalksFields x s (fields_of slots n) → ParsesValue (version_of f) (quick_key b) s at (Ok (Some (id_from at end, 0, tallied false n)))
    unfolding begins
    parsed slots i o n w =
        let v = version_of f in
        let bare : false ≡ bare_at s (at + 1) (always_map (case_bytes (quick_key b))) = rw (not_always b, first_field) in
        let opens : Some (cursor_at (at + 1)) ≡ opens_at s at = rw begun in
        let read = fields_read f (quick_key b) s (cursor_at (at + 1)) bare refl refl w in
        let opened = map_opened v (quick_key b) s (cursor_at at) opens refl (fields_of slots n) read in
        let map = id_given v (quick_key b) s (cursor_at at) opened refl i (quick_identified b) in
        let y = map_given v (quick_key b) s (cursor_at at) (is_map_lem b v (drop at s) (rw begun (looks_map_lem v (drop (at + 4) s)))) refl map refl in
        subst (λ (z : Bool). ParsesValue v (quick_key b) s at (Ok (Some (id_from at end, 0, tallied z n)))) o y

  -- the code's answers
  module _ (l : at + 4 < length s) (ne : get_or s (at + 4) 0 ≡ 34 → ⊥) {end : ℕ} (ee : end ≡ stop_of is_stop s (at + 4)) {c : Bool} (ec : c ≡ closes_at s end) where
    pub map_one : c ≡ true → ReadsQuickMap b s at (Some (end, 1))
    map_one e = record {
      is = (long, λ f. parsed l ne ee f (slots_of (filled_as (at + 4) end false 0) None None None true false) refl refl 1 (walked_one l ne ee f (sym ec ∙ e)));
    }

    pub map_two : {y : Bool} → IsFollowed b s end y → y ≡ true → ReadsQuickMap b s at (Some (end, 2))
    map_two {y} a t = record {
      is = (
        long,
        λ f.
            let kept = slots_of (filled_as (at + 4) end false 0) None None None true false in
            let w = a.is t in
            let r = w.last f (at + 1) kept refl refl in
            parsed l ne ee f r.kept r.id r.odd 2 (walk_last (walking_two l ne ee f w.inside w.comma) refl r.read refl refl),
      );
    }

pub map_usual : (b : Bool) (s : Bytes) (at : ℕ) → ReadsQuickMap b s at None
map_usual b s at = record { is = tt }

pub ruleset maps_quickly = (map_usual, map_fits, map_one, map_two)

-- The record

pub key_usual : (s : Bytes) → ReadsQuickKey s None
key_usual s = record { is = λ h. tt }

module _ (s : Bytes) {end : ℕ} (f : end ≡ 2 + length (key_in s)) (ne : end ≡ 2 → ⊥) (l : end < length s) {p : Bytes} (b : p ≡ take (end - 2) (drop 2 s)) {q : Bool} (t : q ≡ same p (ascii "fileformat")) (e : q ≡ false)
    {j : MapKey} (i : j ≡ key_named p) where
  key_so : (c : Bool) → j ≡ quick_key c → ReadsQuickKey s (Some (c, end + 1))
  key_so c w = record { is = λ h. subst (λ (y : MapKey). KeyedIs s (Some (key.Map y (cursor_at (end + 1))))) w (records.a_key s f ne l b t refl e i h) }

  pub key_contig_read : j ≡ case.Contig → ReadsQuickKey s (Some (true, end + 1))
  key_contig_read w = key_so true w

  pub key_other_read : j ≡ case.Other → ReadsQuickKey s (Some (false, end + 1))
  key_other_read w = key_so false w

pub ruleset keys_quickly = (key_usual, key_contig_read, key_other_read)

pub quick_usual : (s : Bytes) → ReadsQuick s None
quick_usual s = record { is = tt }

pub quick_read : (s : Bytes) {q : Bool} → q ≡ starts (ascii "##") s → not q ≡ false → {x : Option (Bool × ℕ)} → ReadsQuickKey s x → {contig : Bool} {at : ℕ} → x ≡ Some (contig, at)
    → {y : Option (ℕ × ℕ)} → ReadsQuickMap contig s at y → {end n : ℕ} → y ≡ Some (end, n) → ReadsQuick s (Some (contig, at, end, n))
quick_read s {q} a h {x} k {contig} {at} e {y} m {end} {n} g =
    let w = sym a ∙ not_false q h in
    let z = subst (MapQuick contig s at) g m.is in
    record {
      is = (z.0, λ f. record_map (version_of f) s a h (Some (key.Map (quick_key contig) (cursor_at at))) (λ u. subst (KeyQuick s) e (k.is w)) refl (z.1 f) refl);
    }

pub ruleset quickly = (quick_usual, quick_read)

module _ (s : Bytes) {r : Option (Bool × ℕ × ℕ × ℕ)} (a : ReadsQuick s r) {contig : Bool} {at end n : ℕ} (e : r ≡ Some (contig, at, end, n)) where
  pub record_fits : length s * 1 < 2 ^ 63 → Fits w64 (at + 4)
  record_fits few = let z = (subst (RecordQuick s) e a.is).0 in omega arith

  pub record_quick : (f : FileFormat) {j : MapKey} → j ≡ quick_key contig
      → ParsesRecord (version_of f) s (Ok (read.Map (record { key = j; value = at; id = record { start = at + 4; end = end; quoted = false }; tag = 0; tally = record { odd = false; fields = n } })))
  record_quick f i = rw i ((subst (RecordQuick s) e a.is).1 f)

pub ruleset records_quickly = (record_fits, record_quick)
