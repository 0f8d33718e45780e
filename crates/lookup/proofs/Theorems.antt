-- What the calls by name show of an accepted header's records: fields apart, values by key, entries by key and ID. Assumes nothing.
use Prim.Native.Nat.{ℕ, ◌+◌, ◌-◌}
use native.Mathlib.Omega.{arith}
use mathlib.Core.Path.{◌≡◌, refl, sym, ap, subst, ◌∙◌}
use mathlib.Core.Bool.{Bool, true, false, ◌&&◌}
use mathlib.Core.List.{List, [], ◌∷◌}
use Rattle.std.specs.Prelude.{Option, None, Some}
use lib.ListN.{length, take, drop, length-take, length-drop}
use lib.Dec.{leb}
use Rattle.values.specs.Bytes.{Bytes, ascii, part, same, starts}
use Rattle.values.specs.Value.{is_quoted, text_of}
use Rattle.values.specs.Field.{Field}
use Rattle.values.specs.declared.string.Text.{Text}
use Rattle.values.proofs.Tests.{pass, fail, test}
use Rattle.values.proofs.Places.{value_by, text_by}
use Rattle.rules.specs.Version.{Version}
use Rattle.rules.specs.Known.{kind_of, name_of, names_id}
use Rattle.rules.specs.Map.{field_named, field_keyed, value_named}
use Rattle.rules.specs.Record.{Record, fields, key_of as key_of_record}
use Rattle.rules.specs.Entry.{Entry, fields_start, text_named}
use Rattle.rules.specs.Shown.{has_id, line_in, id_meaning}
use Rattle.rules.specs.House.{write_record}
use Rattle.rules.specs.Claims.{key_in}
use Rattle.rules.proofs.Firsts.{on_ok}
use Rattle.rules.proofs.Texts.{LineOf, record_in, record_key}
use Rattle.rules.proofs.Shows.{Both, AnyAt, named_text, line_fields, map_kind_lem, part_part}
use Rattle.entries.specs.declared.form.Form.{Form}
use Rattle.entries.specs.Values.{limits_by}
use Rattle.entries.specs.Tables.{entry_at}
use Rattle.entries.proofs.Calls.{entry_inside}
use Rattle.header.specs.Calls.{CallsShow}
use Rattle.lookup.specs.Entries.{entry_key, has_key_and_id, is_under}
use Rattle.lookup.specs.Fields.{entry_text, moved_by}
use Rattle.lookup.specs.Claims.{FoundAs}
use Rattle.lookup.proofs.Fields.{found_by, keyed_named, texts_moved}

-- the field of a key, and that of a name under the key `cell`
keyed_field : (v : Version) (key : Bytes) (fs : List Field) → field_keyed key fs ≡ field_named v (ascii "cell") key fs
unfolding field_keyed field_named name_of names_id same
keyed_field v key [] = refl
keyed_field v key (f ∷ fs) = elim (test (same f.key key)) [
  | pass e ↦ rw (field_keyed, field_named, e)
  | fail e ↦ rw (field_keyed, field_named, e) (keyed_field v key fs)
]

by_quotes : (q : Bool) (t : Bytes) → is_quoted (value_by q t) ≡ q
by_quotes true t = refl
by_quotes false t = refl

-- a text of the line, where its line stands
text_there : (h : Bytes) (start : ℕ) (l : Bytes) → part h start (start + length l) ≡ l → (x : Option Field) (y : Option (Bytes × Text)) → Both l x y → FoundAs h x (moved_by start (found_by y))
text_there h start l p None None b = tt
text_there h start l p None (Some y) b = b
text_there h start l p (Some f) None b = b
text_there h start l p (Some f) (Some y) b =
    let t = y.1 in (
      sym (by_quotes t.quoted (part l t.start t.end)) ∙ ap is_quoted b.value,
      part_part h start l t.start t.end p b.inside ∙ sym (text_by t.quoted (part l t.start t.end)) ∙ ap text_of b.value,
    )

marked_key : (h : Bytes) (e : Entry) (k l : Bytes) → leb e.kind 8 ≡ true → line_in h e ≡ l → starts (ascii "##") l ≡ true → key_in l ≡ k → entry_key h e ≡ k
unfolding entry_key
marked_key h e k l a b c d = rw (entry_key, a, b, c) (ap key_in b ∙ d)

under_by : (h key id k i : Bytes) (e : Entry) → has_id e.kind ≡ true → entry_key h e ≡ k → id_meaning h e ≡ i → has_key_and_id h key id (Some e) ≡ same k key && same i id
under_by h key id k i e a b c = rw (a, b, c)

-- a map of an accepted header, as the calls show it under n
module _ {form : Form} {h : Bytes} {v : Version} {t : List ℕ} {n : ℕ} {k : Bytes} {fs : List Field} (s : CallsShow form h v t n (fields k fs)) where
  abbrev e : Entry
  e = s.entry

  has_id_lem : has_id e.kind ≡ true
  has_id_lem = ap has_id s.shows.kind ∙ (map_kind_lem (kind_of k)).0

  line_is : s.line ≡ write_record (fields k fs)
  line_is = on_ok (LineOf s.line) (record_in v s.line) s.read

  line_there : part h e.start (e.start + length s.line) ≡ s.line
  unfolding line_in
  line_there =
      let i = entry_inside form h t n s.found in
      let w : take e.length (drop e.start h) ≡ s.line = s.shows.line in
      let m = sym (ap length w) ∙ length-take e.length (drop e.start h) in
      let d = length-drop e.start h in
      let z : e.start + length s.line - e.start ≡ e.length = omega (arith, i.line) in
      rw z w

  key_is : entry_key h e ≡ k
  unfolding write_record starts
  key_is =
      let m : starts (ascii "##") s.line ≡ true = ap (starts (ascii "##")) line_is in
      let r = on_ok (λ (x : Record). key_of_record x ≡ key_in s.line) (record_key v s.line) s.read in
      marked_key h e k s.line (ap (λ (i : ℕ). leb i 8) s.shows.kind ∙ (map_kind_lem (kind_of k)).2) s.shows.line m (sym r)

  -- it is found exactly under its key and its ID
  pub found_under : (key id : Bytes) → is_under form h t key id n ≡ same k key && same (value_named v k (ascii "ID") fs) id
  unfolding is_under
  found_under key id = ap (has_key_and_id h key id) s.found ∙ under_by h key id k (value_named v k (ascii "ID") fs) e has_id_lem key_is s.shows.id

  -- the value of a key is that of the first field with this key
  pub value_shown : (key : Bytes) → FoundAs h (field_keyed key fs) (entry_text (limits_by form).counted h v key (entry_at form h t n))
  value_shown key =
      let b = named_text v (ascii "cell") key s.line (fields_start k) fs (subst (λ (l : Bytes). AnyAt l (fields_start k) fs) (sym line_is) (line_fields k fs)) in
      let z : 0 + fields_start k ≡ fields_start k = omega arith in
      let m : entry_text (limits_by form).counted h v key (entry_at form h t n) ≡ moved_by e.start (found_by (text_named v (ascii "cell") key (fields_start k) fs)) =
      rw (s.found, entry_text, has_id_lem, s.tells.again) (texts_moved e.start key (Some (fields k fs)) ∙ rw z (ap (moved_by e.start) (keyed_named v key (fields_start k) fs))) in
      rw (m, keyed_field v key fs) (text_there h e.start s.line line_there (field_named v (ascii "cell") key fs) (text_named v (ascii "cell") key (fields_start k) fs) b)
