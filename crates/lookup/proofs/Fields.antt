-- A field apart, and a value by its field's key: the ways of the code, on plain values. Assumes nothing.
use Prim.Native.Nat.{ℕ, ◌+◌, ◌-◌, ◌*◌, ◌^◌, ◌≤◌, ◌<◌}
use native.Mathlib.Omega.{arith}
use mathlib.Core.Path.{◌≡◌, refl, sym, ap, ap₂, subst, ◌∙◌}
use mathlib.Core.Bool.{Bool, true, false, not, ◌&&◌}
use mathlib.Core.List.{List, [], ◌∷◌, tail}
use Rattle.std.specs.Prelude.{Option, None, Some}
use lib.ListN.{length, take, drop, get_or, length-take, length-drop, length-append}
use lib.Seq.{take_all, drop-drop}
use borrow.Author.Tests.{eq-eqb, ne_eqb}
use mir.Syntax.{w64}
use mir.Val.{Fits}
use Rattle.values.specs.Bytes.{Bytes, ascii, is, begins, before, from, same}
use Rattle.values.specs.Value.{Value, quoted, bare}
use Rattle.values.specs.Field.{Field, written_field}
use Rattle.values.specs.Places.{text_at}
use Rattle.values.specs.declared.string.Text.{Text}
use Rattle.values.proofs.Tests.{pass, fail, test, not_true, not_false, never}
use Rattle.values.proofs.Lists.{from_at, before_from}
use Rattle.rules.specs.Version.{Version, v4_3, since}
use Rattle.rules.specs.Known.{always_map, name_of, names_id}
use Rattle.rules.specs.Map.{is_meta, read_fields, field_named}
use Rattle.rules.specs.Record.{Record, fileformat, fields, text}
use Rattle.rules.specs.Entry.{Entry as RuleEntry, fields_start, fields_of, text_named}
use Rattle.rules.specs.Shown.{Part as RulePart, has_id, line_in, entry_record}
use Rattle.rules.specs.House.{write_record}
use Rattle.rules.specs.Claims.{key_in}
use Rattle.rules.proofs.Firsts.{on_ok}
use Rattle.rules.proofs.Texts.{LineOf, record_in, Scanned, record_scanned}
use Rattle.rules.proofs.Scans.{fields_read}
use Rattle.rules.proofs.Shows.{Both, AnyAt, named_text, line_fields}
use Rattle.records.specs.Keys.{case_bytes}
use Rattle.records.specs.Fields.{text_keyed, FindsField}
use Rattle.records.specs.declared.record.MapRecord.{MapRecord}
use Rattle.entries.specs.declared.entry.Entry.{Entry}
use Rattle.entries.specs.declared.form.Form.{Form}
use Rattle.entries.specs.Values.{entry_of, limits_by}
use Rattle.entries.specs.Shown.{answered, or_refused, shown_as, entry_meant, Inside}
use Rattle.entries.specs.Tables.{entry_at}
use Rattle.entries.proofs.Calls.{answer_is, found_inside}
use Rattle.alone.specs.Alones.{AloneIs, ReadsEntry}
use Rattle.alone.specs.declared.read.Alone.{Alone}
use Rattle.alone.specs.declared.read.Alone.TheVariants as alone
use Rattle.header.proofs.Fields.{value_fits}
use Rattle.lookup.specs.Fields.{value_of, cut_of, CutInside, parts_at, field_apart, record_text, entry_text, text_under, TextInside, moved_by, TextAt}
use Rattle.lookup.specs.declared.field.Cut.{Cut}

-- A field as it is written

abbrev start_of : Option (ℕ × ℕ) → ℕ
start_of (Some (start, end)) = start
start_of None = 0

abbrev end_of : Option (ℕ × ℕ) → ℕ
end_of (Some (start, end)) = end
end_of None = 0

first_byte : (c : ℕ) (v : Bytes) → (length v ≡ 0 → ⊥) → begins c v ≡ is c (get_or v 0 0)
unfolding begins
first_byte c [] n = absurd (n refl)
first_byte c (b ∷ v) n = refl

no_byte : (c : ℕ) (v : Bytes) → length v ≡ 0 → begins c v ≡ false
unfolding begins
no_byte c [] n = refl
no_byte c (b ∷ v) n = absurd (omega arith)

module _ (w : Bytes) where
  pub bare_is : begins 34 (value_of w) ≡ false
      → cut_of w ≡ record { key_length = length (before (is 61) w); start = length w - length (value_of w); length = length (value_of w); quoted = false }
  unfolding cut_of
  bare_is e = rw (cut_of, e)

  pub quoted_is : begins 34 (value_of w) ≡ true
      → cut_of w ≡ record { key_length = length (before (is 61) w); start = length w - length (value_of w) + 1; length = length (value_of w) - 2; quoted = true }
  unfolding cut_of
  quoted_is e = rw (cut_of, e)

module _ (w : Bytes) {k : ℕ} (a : k ≡ 0 + length (before (is 61) (drop 0 w))) where
  key_is : k ≡ length (before (is 61) w)
  key_is = omega arith

  key_short : k ≤ length w
  key_short =
      let e = ap length (before_from (is 61) w) in
      let n = length-append (before (is 61) w) (from (is 61) w) in
      let s = key_is in
      omega arith

  pub after_fits : length w * 1 < 2 ^ 63 → Fits w64 (k + 1)
  after_fits h = let s = key_short in record { fits = omega arith }

  module _ {v : Bytes} (b : v ≡ take (length w - (k + 1)) (drop (k + 1) w)) where
    value_is : v ≡ value_of w
    value_is =
        let d = length-drop (k + 1) w in
        let z : 0 + length (before (is 61) (drop 0 w)) ≡ length (before (is 61) w) = omega arith in
        let f : from (is 61) w ≡ drop k w = rw (key_is, ← z) (from_at (is 61) w 0) in
        b ∙ take_all (length w - (k + 1)) (drop (k + 1) w) (omega arith) ∙ sym (ap tail f ∙ drop-drop 1 k w)

    pub value_short : length v ≤ length w
    value_short =
        let d = length-drop (k + 1) w in
        let t = ap length b ∙ length-take (length w - (k + 1)) (drop (k + 1) w) in
        omega arith

    module _ (e : begins 34 v ≡ false) where
      bare_cut : record { key_length = k; start = length w - length v; length = length v; quoted = false } ≡ cut_of w
      bare_cut = rw (key_is, value_is) (sym (bare_is w (ap (begins 34) (sym value_is) ∙ e)))

    pub bare_inside : CutInside (length w) (record { key_length = k; start = length w - length v; length = length v; quoted = false })
    bare_inside = let s = key_short in let u = value_short in record { key = s; text = omega arith }

    module _ (z : length v ≡ 0) where
      pub cut_none : record { key_length = k; start = length w - length v; length = length v; quoted = false } ≡ cut_of w
      cut_none = bare_cut (no_byte 34 v z)

    module _ (some_bytes : length v ≡ 0 → ⊥) where
      pub cut_bare : (get_or v 0 0 ≡ 34 → ⊥) → record { key_length = k; start = length w - length v; length = length v; quoted = false } ≡ cut_of w
      cut_bare n = bare_cut (first_byte 34 v some_bytes ∙ ne_eqb (get_or v 0 0) 34 n)

      module _ (q : get_or v 0 0 ≡ 34) {t : Bytes} (d : t ≡ take (length v - 1 - 1) (drop 1 v)) where
        text_length : length t ≡ length v - 2
        text_length = let n = length-drop 1 v in let m = ap length d ∙ length-take (length v - 1 - 1) (drop 1 v) in omega arith

        pub cut_quoted : record { key_length = k; start = length w - length v + 1; length = length t; quoted = true } ≡ cut_of w
        cut_quoted =
            rw (key_is, text_length, value_is)
            (sym (quoted_is w (ap (begins 34) (sym value_is) ∙ first_byte 34 v some_bytes ∙ eq-eqb (get_or v 0 0) 34 q)))

        pub quoted_inside : CutInside (length w) (record { key_length = k; start = length w - length v + 1; length = length t; quoted = true })
        quoted_inside = let s = key_short in let u = value_short in let n = text_length in record { key = s; text = omega (arith, some_bytes) }

pub ruleset cuts = (after_fits, value_short, cut_none, cut_bare, bare_inside, cut_quoted, quoted_inside)

-- A field by its number

module _ (h : Bytes) (o : Option RulePart) {r : Option (ℕ × ℕ)} (a : answered r ≡ or_refused o) where
  pub parts_refused : r ≡ None → None ≡ field_apart h o
  parts_refused e = go o (sym e ∙ answer_is r o a)
    where
      go : (x : Option RulePart) → None ≡ shown_as x → None ≡ field_apart h x
      go None q = refl
      go (Some p) q = never cc

  module _ {start end : ℕ} (e : r ≡ Some (start, end)) where
    pub part_ordered : Inside (length h) r → start ≤ end
    part_ordered i = (subst (Inside (length h)) e i).0

    pub part_ends : Inside (length h) r → end ≤ length h
    part_ends i = (subst (Inside (length h)) e i).1

    module _ {c : Cut} (b : c ≡ cut_of (take (end - start) (drop start h))) where
      pub parts_shown : Some (record { key_start = start; key_length = c.key_length; start = start + c.start; length = c.length; quoted = c.quoted }) ≡ field_apart h o
      parts_shown = go o (sym e ∙ answer_is r o a)
        where
          go : (x : Option RulePart) → Some (start, end) ≡ shown_as x
              → Some (record { key_start = start; key_length = c.key_length; start = start + c.start; length = c.length; quoted = c.quoted }) ≡ field_apart h x
          go None q = never cc
          go (Some p) q =
              let s : start ≡ p.0 = ap start_of q in
              let f : end ≡ p.1 = ap end_of q in
              ap (λ (y : Cut). Some (parts_at start y)) b ∙ rw (s, f)

      pub text_fits : Inside (length h) r → CutInside (length (take (end - start) (drop start h))) c → length h * 1 < 2 ^ 63 → Fits w64 (start + c.start)
      text_fits i j m =
          let n = length-take (end - start) (drop start h) in
          let u = part_ordered i in
          let v = part_ends i in
          let t = j.text in
          record { fits = omega arith }

pub ruleset parts = (parts_refused, part_ordered, part_ends, parts_shown, text_fits)

-- A value by its field's key

abbrev pub found_by : Option (Bytes × Text) → Option Text
found_by None = None
found_by (Some p) = Some p.1

-- under the key `cell` a field's name is its key
pub keyed_named : (v : Version) (key : Bytes) (at : ℕ) (fs : List Field) → text_keyed key at fs ≡ found_by (text_named v (ascii "cell") key at fs)
unfolding text_keyed text_named name_of names_id same
keyed_named v key at [] = refl
keyed_named v key at (f ∷ fs) = elim (test (same f.key key)) [
  | pass e ↦ rw (text_keyed, text_named, e)
  | fail e ↦ rw (text_keyed, text_named, e) (keyed_named v key (at + length (written_field f) + 1) fs)
]

both_inside : (l : Bytes) (x : Option Field) (y : Option (Bytes × Text)) → Both l x y → TextInside (length l) (found_by y)
both_inside l None None b = tt
both_inside l None (Some p) b = absurd b
both_inside l (Some f) None b = absurd b
both_inside l (Some f) (Some p) b = (b.ordered, b.inside)

keyed_inside : (v : Version) (key l : Bytes) (at : ℕ) (fs : List Field) → AnyAt l at fs → TextInside (length l) (text_keyed key at fs)
keyed_inside v key l at fs h =
    rw (keyed_named v key at fs) (both_inside l (field_named v (ascii "cell") key fs) (text_named v (ascii "cell") key at fs) (named_text v (ascii "cell") key l at fs h))

-- a record without fields has none to find
no_fields : (key : Bytes) (start : ℕ) (r : Record) → fields_of r ≡ [] → record_text key start (Some r) ≡ None
unfolding text_keyed
no_fields key start (fileformat v) e = refl
no_fields key start (fields k fs) e = rw e
no_fields key start (text k t) e = refl

module _ (counted : Bool) (h : Bytes) (v : Version) (e : RuleEntry) (key : Bytes) {x : Option Alone} (a : ReadsEntry counted v h e x) where
  told : {y : Option Alone} → x ≡ y → AloneIs v (line_in h e) (entry_record counted h v e) y
  told q = subst (AloneIs v (line_in h e) (entry_record counted h v e)) q a.is

  pub text_refused : x ≡ None → None ≡ record_text key 0 (entry_record counted h v e)
  text_refused q = sym (ap (record_text key 0) (told q))

  pub text_plain : {n : ℕ} → x ≡ Some (alone.Plain n) → None ≡ record_text key 0 (entry_record counted h v e)
  text_plain q = let t = told q in sym (ap (record_text key 0) t.1 ∙ no_fields key 0 t.0 t.2)

  module _ {m : MapRecord} (q : x ≡ Some (alone.Map m)) {l : Bytes} (el : l ≡ line_in h e) where
    here : AloneIs v l (entry_record counted h v e) (Some (alone.Map m))
    here = subst (λ (y : Bytes). AloneIs v y (entry_record counted h v e) (Some (alone.Map m))) (sym el) (told q)

    pub start_fits : length l * 1 < 2 ^ 63 → Fits w64 (m.value + 1)
    start_fits = value_fits counted h v e 0 a q el

    module _ {b : Bool} (c : b ≡ is_meta v (case_bytes m.key)) {r : Option Text} (f : FindsField b l (m.value + 1) key r) where
      start_is : m.value + 1 ≡ fields_start (key_in l)
      start_is = let s = here.2.value in omega arith

      found_text : r ≡ text_keyed key (fields_start (key_in l)) here.0
      found_text =
          let t = here in
          let w : b ≡ is_meta v (key_in l) = c ∙ ap (λ (b : Bool). b && since v4_3 v) (sym t.2.named.meta) in
          let z : read_fields b (always_map (key_in l)) (drop (m.value + 1) l) ≡ (t.0, 0) = rw (w, start_is) (on_ok (Scanned v l) (record_scanned v l) t.2.read) in
          f.place ∙ ap₂ (text_keyed key) start_is (fields_read b (always_map (key_in l)) l (m.value + 1) z)

      pub line_text : r ≡ record_text key 0 (entry_record counted h v e)
      line_text =
          let o : 0 + fields_start (key_in l) ≡ fields_start (key_in l) = omega arith in
          found_text ∙ sym (ap (record_text key 0) here.1 ∙ rw o)

      pub text_in_line : TextInside (length (line_in h e)) r
      text_in_line =
          let t = here in
          let w : l ≡ write_record (fields (key_in l) t.0) = on_ok (LineOf l) (record_in v l) t.2.read in
          let i : AnyAt l (fields_start (key_in l)) t.0 = subst (λ (y : Bytes). AnyAt y (fields_start (key_in l)) t.0) (sym w) (line_fields (key_in l) t.0) in
          subst (λ (y : Bytes). TextInside (length y) r) el (subst (TextInside (length l)) (sym found_text) (keyed_inside v key l (fields_start (key_in l)) t.0 i))

pub none_inside_line : (size : ℕ) → TextInside size None
none_inside_line size = tt

pub ruleset line_texts = (text_refused, text_plain, start_fits, line_text, text_in_line, none_inside_line)

-- The line in the header

module _ (h : Bytes) (e : RuleEntry) (key : Bytes) (o : Option Record) {y : Option Text} (b : y ≡ record_text key 0 o) where
  pub text_missing : y ≡ None → TextAt h e key o None
  text_missing q = record { found = ap (moved_by e.start) (sym q ∙ b); inside = λ z. tt }

  module _ (t : TextInside (length (line_in h e)) y) {x : Text} (c : y ≡ Some x) where
    near : (x.start ≤ x.end) × (x.end ≤ length h - e.start)
    unfolding line_in
    near =
        let p = subst (TextInside (length (line_in h e))) c t in
        let n = length-take e.length (drop e.start h) in
        let d = length-drop e.start h in
        (p.0, omega (arith, p.1))

    pub text_moved : {a : ℕ} → a ≡ e.start → TextAt h e key o (Some (record { start = a + x.start; end = a + x.end; quoted = x.quoted }))
    text_moved {a} w = rw w (record {
      found = ap (moved_by e.start) (sym c ∙ b);
      inside = λ z. let p = near in (omega (arith, p.0), omega (arith, p.1));
    })

    module _ {a : ℕ} (w : a ≡ e.start) (g : Fits w64 a) (k : length h * 1 < 2 ^ 63) where
      pub moved_start_fits : Fits w64 (a + x.start)
      moved_start_fits = let p = near in let q = g.fits in record { fits = omega (arith, p.0, p.1) }

      pub moved_end_fits : Fits w64 (a + x.end)
      moved_end_fits = let p = near in let q = g.fits in record { fits = omega (arith, p.1) }

pub ruleset moved_texts = (text_missing, text_moved, moved_start_fits, moved_end_fits)

-- An entry

text_shift : (by at : ℕ) (x : Value) → Some (text_at (by + at) x) ≡ moved_by by (Some (text_at at x))
text_shift by at (quoted t) =
    let i : by + at + 1 ≡ by + (at + 1) = omega arith in
    let j : by + (at + 1) + length t ≡ by + (at + 1 + length t) = omega arith in
    rw (i, j)
text_shift by at (bare t) = let j : by + at + length t ≡ by + (at + length t) = omega arith in rw j

shift_keyed : (by : ℕ) (key : Bytes) (at : ℕ) (fs : List Field) → text_keyed key (by + at) fs ≡ moved_by by (text_keyed key at fs)
unfolding text_keyed
shift_keyed by key at [] = refl
shift_keyed by key at (f ∷ fs) = elim (test (same f.key key)) [
  | pass e ↦ let z : by + at + length f.key + 1 ≡ by + (at + length f.key + 1) = omega arith in rw (text_keyed, e, z) (text_shift by (at + length f.key + 1) f.value)
  | fail e ↦
      let z : by + at + length (written_field f) + 1 ≡ by + (at + length (written_field f) + 1) = omega arith in
      rw (text_keyed, e, z) (shift_keyed by key (at + length (written_field f) + 1) fs)
]

pub texts_moved : (start : ℕ) (key : Bytes) (o : Option Record) → record_text key start o ≡ moved_by start (record_text key 0 o)
texts_moved start key None = refl
texts_moved start key (Some (fileformat v)) = refl
texts_moved start key (Some (text k t)) = refl
texts_moved start key (Some (fields k fs)) = let e : 0 + fields_start k ≡ fields_start k = omega arith in rw e (shift_keyed start key (fields_start k) fs)

module _ (form : Form) (h : Bytes) (table : List ℕ) (n : ℕ) (v : Version) (key : Bytes) {r : Option Entry} (a : entry_meant r ≡ entry_at form h table n) where
  pub value_nowhere : r ≡ None → None ≡ entry_text (limits_by form).counted h v key (entry_at form h table n)
  value_nowhere e = ap (entry_text (limits_by form).counted h v key) (sym (ap entry_meant e) ∙ a)

  module _ {x : Entry} (b : r ≡ Some x) {q : Bool} (d : q ≡ has_id x.kind) where
    value_by_lem : {p : Bool} → has_id x.kind ≡ p
        → entry_text (limits_by form).counted h v key (entry_at form h table n) ≡ elim p [ true ↦ record_text key x.start (entry_record (limits_by form).counted h v (entry_of x)) | false ↦ None ]
    value_by_lem e = ap (entry_text (limits_by form).counted h v key) (sym a ∙ ap entry_meant b) ∙ ap (λ (p : Bool). elim p [ true ↦ record_text key x.start (entry_record (limits_by form).counted h v (entry_of x)) | false ↦ None ]) e

    pub value_not_due : not q ≡ true → None ≡ entry_text (limits_by form).counted h v key (entry_at form h table n)
    value_not_due e = sym (value_by_lem (sym d ∙ not_true q e))

    module _ {y : Option Text} (o : TextAt h (entry_of x) key (entry_record (limits_by form).counted h v (entry_of x)) y) where
      pub value_there : not q ≡ false → y ≡ entry_text (limits_by form).counted h v key (entry_at form h table n)
      value_there on = o.found ∙ sym (texts_moved x.start key (entry_record (limits_by form).counted h v (entry_of x))) ∙ sym (value_by_lem (sym d ∙ not_false q on))

      pub value_inside : TextInside (length h) y
      value_inside = let z = found_inside form h table n a b in o.inside (omega arith)

pub ruleset values = (value_nowhere, value_not_due, value_there, value_inside, found_inside, none_inside_line)

-- An entry that was looked for

module _ (form : Form) (h : Bytes) (table : List ℕ) (v : Version) (key : Bytes) {f g : Option ℕ} (a : f ≡ g) where
  pub nothing_under : f ≡ None → None ≡ text_under form h table v key g
  nothing_under e = ap (text_under form h table v key) (sym e ∙ a)

  pub value_under : {n : ℕ} → f ≡ Some n → {y : Option Text} → y ≡ entry_text (limits_by form).counted h v key (entry_at form h table n) → y ≡ text_under form h table v key g
  value_under e b = b ∙ ap (text_under form h table v key) (sym e ∙ a)

pub ruleset found_values = (nothing_under, value_under, none_inside_line)
