-- The field call: the ways of the code's tests and answers, on plain values. Assumes nothing.
use Prim.Native.Nat.{ℕ, ◌+◌, ◌-◌, ◌*◌, ◌^◌, ◌≤◌, ◌<◌}
use native.Mathlib.Omega.{arith}
use mathlib.Core.Path.{◌≡◌, refl, sym, ap, subst, ◌∙◌}
use mathlib.Core.Bool.{Bool, true, false, not, ◌&&◌}
use mathlib.Core.List.{List, []}
use Rattle.std.specs.Prelude.{Option, None, Some}
use lib.ListN.{length, drop, length-append, length-take, length-drop}
use mir.Syntax.{w64}
use mir.Val.{Fits}
use Rattle.values.specs.Bytes.{Bytes, is, before, from}
use Rattle.values.proofs.Tests.{not_true, not_false}
use Rattle.values.proofs.Lists.{before_from}
use Rattle.rules.specs.Version.{Version, v4_3, since}
use Rattle.rules.specs.Known.{always_map}
use Rattle.rules.specs.Map.{is_meta, read_fields, fields_at}
use Rattle.rules.specs.Record.{Record, fileformat, fields, text}
use Rattle.rules.specs.Entry.{Entry as RuleEntry, fields_start, fields_of}
use Rattle.rules.specs.Shown.{has_id, line_in, entry_record, nth_field_part, record_field_part, entry_field_part}
use Rattle.rules.proofs.Firsts.{on_ok}
use Rattle.rules.proofs.Texts.{Scanned, record_scanned}
use Rattle.records.specs.Keys.{case_bytes}
use Rattle.rules.specs.Claims.{key_in}
use Rattle.records.specs.declared.record.MapRecord.{MapRecord}
use Rattle.entries.specs.declared.entry.Entry.{Entry as CodeEntry}
use Rattle.entries.specs.Values.{entry_of, limits_by}
use Rattle.entries.specs.declared.form.Form.{Form}
use Rattle.entries.specs.Tables.{entry_at, shown_field}
use Rattle.entries.specs.Shown.{answered, or_refused, shown_as, entry_meant, Inside, moved_by}
use Rattle.entries.proofs.Calls.{found_inside, refused_inside, answer_says}
use Rattle.entries.proofs.Fields.{moved_part, nth_read}
use Rattle.alone.specs.Alones.{AloneIs, ReadsEntry}
use Rattle.alone.specs.declared.read.Alone.{Alone}
use Rattle.alone.specs.declared.read.Alone.TheVariants as alone
use Rattle.header.specs.Fields.{field_in, FieldAt}

-- A line

-- a record without fields has none to show
no_fields : (start i : ℕ) (r : Record) → fields_of r ≡ [] → record_field_part start i (Some r) ≡ None
unfolding nth_field_part
no_fields start i (fileformat v) e = refl
no_fields start i (fields k fs) e = rw e
no_fields start i (text k t) e = refl

module _ (counted : Bool) (h : Bytes) (v : Version) (e : RuleEntry) (i : ℕ) {x : Option Alone} (a : ReadsEntry counted v h e x) where
  told : {y : Option Alone} → x ≡ y → AloneIs v (line_in h e) (entry_record counted h v e) y
  told q = subst (AloneIs v (line_in h e) (entry_record counted h v e)) q a.is

  pub line_refused : x ≡ None → None ≡ shown_as (field_in counted h v e i)
  line_refused q = sym (ap (λ (o : Option Record). shown_as (record_field_part 0 i o)) (told q))

  pub line_plain : {n : ℕ} → x ≡ Some (alone.Plain n) → None ≡ shown_as (field_in counted h v e i)
  line_plain q = let t = told q in sym (ap (λ (o : Option Record). shown_as (record_field_part 0 i o)) t.1 ∙ ap shown_as (no_fields 0 i t.0 t.2))

  module _ {m : MapRecord} (q : x ≡ Some (alone.Map m)) {l : Bytes} (el : l ≡ line_in h e) where
    -- of the line that the code looks at
    here : AloneIs v l (entry_record counted h v e) (Some (alone.Map m))
    here = subst (λ (y : Bytes). AloneIs v y (entry_record counted h v e) (Some (alone.Map m))) (sym el) (told q)

    pub value_fits : length l * 1 < 2 ^ 63 → Fits w64 (m.value + 1)
    value_fits p =
        let f = ap length (before_from (is 61) (drop 2 l)) in
        let n = length-append (before (is 61) (drop 2 l)) (from (is 61) (drop 2 l)) in
        let d = length-drop 2 l in
        let s = here.2.value in
        record { fits = omega arith }

    pub line_field : {b : Bool} → b ≡ is_meta v (case_bytes m.key) → {r : Option (ℕ × ℕ)} → answered r ≡ or_refused (nth_field_part (m.value + 1) (fields_at b l (m.value + 1)) i)
        → r ≡ shown_as (field_in counted h v e i)
    line_field {b} c f =
        let t = here in
        let s = on_ok (Scanned v l) (record_scanned v l) t.2.read in
        let p : m.value + 1 ≡ fields_start (key_in l) = let s = t.2.value in omega arith in
        let o : 0 + fields_start (key_in l) ≡ fields_start (key_in l) = omega arith in
        let w : b ≡ is_meta v (key_in l) = c ∙ ap (λ (b : Bool). b && since v4_3 v) (sym t.2.named.meta) in
        let z : read_fields b (always_map (key_in l)) (drop (m.value + 1) l) ≡ (t.0, 0) = rw (w, p) s in
        nth_read b l (m.value + 1) i f (always_map (key_in l)) z
        ∙ sym (ap (λ (y : Option Record). shown_as (record_field_part 0 i y)) t.1 ∙ rw (o, ← p))

    pub field_in_line : (r : Option (ℕ × ℕ)) → Inside (length l) r → Inside (length (line_in h e)) r
    field_in_line r t = subst (λ (y : Bytes). Inside (length y) r) el t

pub ruleset line_fields = (line_refused, line_plain, value_fits, line_field, field_in_line, refused_inside)

-- The line in the header

module _ (counted : Bool) (h : Bytes) (v : Version) (e : RuleEntry) (i : ℕ) {y : Option (ℕ × ℕ)} (b : y ≡ shown_as (field_in counted h v e i)) where
  pub part_refused : y ≡ None → FieldAt counted h v e i None
  part_refused q = record { shown = ap (moved_by e.start) (sym q ∙ b); inside = λ z. tt }

  module _ (t : Inside (length (line_in h e)) y) {s f : ℕ} (c : y ≡ Some (s, f)) where
    near : (s ≤ f) × (f ≤ length h - e.start)
    unfolding line_in
    near =
        let p = subst (Inside (length (line_in h e))) c t in
        let n = length-take e.length (drop e.start h) in
        let d = length-drop e.start h in
        (p.0, omega (arith, p.1))

    pub part_shown : FieldAt counted h v e i (Some (e.start + s, e.start + f))
    part_shown = record {
      shown = ap (moved_by e.start) (sym c ∙ b);
      inside = λ z. let p = near in (omega (arith, p.0), omega (arith, p.1));
    }

    module _ {a : ℕ} (w : a ≡ e.start) (g : Fits w64 a) (k : length h * 1 < 2 ^ 63) where
      pub start_fits : Fits w64 (a + s)
      start_fits = let p = near in let q = g.fits in record { fits = omega (arith, p.0, p.1) }

      pub end_fits : Fits w64 (a + f)
      end_fits = let p = near in let q = g.fits in record { fits = omega (arith, p.1) }

pub ruleset parts = (part_refused, part_shown, start_fits, end_fits)

-- An entry

-- a part of the line, moved to where the line stands
fields_moved : (start i : ℕ) (o : Option Record) → shown_as (record_field_part start i o) ≡ moved_by start (shown_as (record_field_part 0 i o))
fields_moved start i None = refl
fields_moved start i (Some (fileformat v)) = refl
fields_moved start i (Some (text k t)) = refl
fields_moved start i (Some (fields k fs)) = let e : 0 + fields_start k ≡ fields_start k = omega arith in rw e (moved_part start (fields_start k) fs i)

module _ (form : Form) (h : Bytes) (table : List ℕ) (n : ℕ) (v : Version) (i : ℕ) {r : Option CodeEntry} (a : entry_meant r ≡ entry_at form h table n) where
  pub field_unshown : r ≡ None → answered None ≡ or_refused (shown_field form h table n v i)
  field_unshown e = ap (λ (x : Option RuleEntry). or_refused (entry_field_part (limits_by form).counted h v i x)) (sym (ap entry_meant e) ∙ a)

  module _ {x : CodeEntry} (b : r ≡ Some x) {q : Bool} (d : q ≡ has_id x.kind) where
    shown_by : {q : Bool} → has_id x.kind ≡ q → shown_as (shown_field form h table n v i)
        ≡ shown_as (elim q [ true ↦ record_field_part x.start i (entry_record (limits_by form).counted h v (entry_of x)) | false ↦ None ])
    shown_by e =
        ap (λ (y : Option RuleEntry). shown_as (entry_field_part (limits_by form).counted h v i y)) (sym a ∙ ap entry_meant b)
        ∙ ap (λ (q : Bool). shown_as (elim q [ true ↦ record_field_part x.start i (entry_record (limits_by form).counted h v (entry_of x)) | false ↦ None ])) e

    pub field_not_due : not q ≡ true → answered None ≡ or_refused (shown_field form h table n v i)
    field_not_due e = answer_says (shown_field form h table n v i) (sym (shown_by (sym d ∙ not_true q e)))

    module _ (on : not q ≡ false) {y : Option (ℕ × ℕ)} (o : FieldAt (limits_by form).counted h v (entry_of x) i y) where
      pub field_shown : answered y ≡ or_refused (shown_field form h table n v i)
      field_shown =
          answer_says (shown_field form h table n v i)
          (o.shown ∙ sym (fields_moved x.start i (entry_record (limits_by form).counted h v (entry_of x))) ∙ sym (shown_by (sym d ∙ not_false q on)))

      pub field_inside : Inside (length h) y
      field_inside = let z = found_inside form h table n a b in o.inside (omega arith)

pub ruleset all_fields = (field_unshown, field_not_due, field_shown, field_inside, found_inside, refused_inside)
