-- A whole line: a map or a text as it was read, as the house form writes it, and its ending. Assumes nothing.
use Prim.Native.Nat.{ℕ, suc, ◌+◌, ◌-◌, ◌≤◌}
use native.Mathlib.Omega.{arith}
use mathlib.Core.Path.{◌≡◌, refl, sym, ap, ap₂, subst, ◌∙◌}
use mathlib.Core.Bool.{Bool, true, false, ◌&&◌}
use mathlib.Core.List.{List, [], ◌∷◌, ◌++◌, append_assoc}
use Rattle.std.specs.Prelude.{Option, None, Some, Result, Ok, Err}
use lib.Dec.{eqb}
use lib.Pointwise.{pointwise}
use borrow.Author.Tests.{eqb-true, eqb-false, ne_eqb}
use lib.ListN.{length, take, drop, length-append}
use lib.Seq.{take_at}
use Rattle.values.specs.Bytes.{Bytes, ascii, is}
use Rattle.values.specs.Value.{meaning_of}
use Rattle.values.specs.Field.{Field, written_field}
use Rattle.values.specs.Written.{last, onward, Puts}
use Rattle.values.specs.declared.sink.Sink.{Sink}
use Rattle.values.specs.declared.string.Text.{Text}
use Rattle.values.proofs.Tests.{pass, fail, test, never}
use Rattle.values.proofs.Outputs.{puts_nothing, then}
use Rattle.rules.specs.Answer.{ok}
use Rattle.rules.specs.Lines.{ends, write_line}
use Rattle.rules.specs.Version.{Version, v4_3, since}
use Rattle.rules.specs.Known.{always_map, tag_of}
use Rattle.rules.specs.Map.{is_meta, field_named}
use Rattle.rules.specs.Record.{Record, fileformat, fields, text, read_record}
use Rattle.rules.specs.Entry.{fields_start, text_named}
use Rattle.rules.specs.Meaning.{saying}
use Rattle.rules.specs.House.{name_of_tag, record_of, write_fields, write_record}
use Rattle.rules.proofs.Firsts.{on_ok}
use Rattle.rules.proofs.Pieces.{ends_more}
use Rattle.rules.proofs.Texts.{LineOf, record_in, Scanned, record_scanned}
use Rattle.rules.proofs.Tidy.{tidy, tidied_fields}
use Rattle.rules.proofs.Shows.{Both, named_text, line_fields, value_means}
use Rattle.records.specs.Formats.{version_of}
use Rattle.records.specs.Keys.{case_bytes, Named, kind_by, context_of}
use Rattle.records.specs.Tags.{after_id}
use Rattle.records.specs.Fields.{meaning_in}
use Rattle.records.specs.Maps.{slotted}
use Rattle.rules.specs.Claims.{key_in}
use Rattle.records.specs.Records.{RecordIs, ParsesRecord}
use Rattle.records.specs.declared.key.MapKey.{MapKey}
use Rattle.records.specs.declared.key.MapContext.{MapContext}
use Rattle.records.specs.declared.record.MapRecord.{MapRecord}
use Rattle.records.specs.declared.file_format.FileFormat.{FileFormat}
use Rattle.records.specs.declared.refusal.Refusal.{Refusal}
use Rattle.records.specs.declared.record.Record.{Record as LineRecord}
use Rattle.records.specs.declared.record.Record.TheVariants as read
use Rattle.records.proofs.Determined.{filled_one}
use Rattle.rules.proofs.Scans.{fields_read}
use Rattle.forms.specs.declared.line.LineWritten.{LineWritten}
use Rattle.forms.specs.Forms.{fields_in, field_by, listed_fields, others_text}
use Rattle.forms.specs.Lines.{fields_text, map_text, record_line, IsEntry, entry_line, house_line, ending, WroteEnded}
use Rattle.forms.proofs.Forms.{fields_as}

-- The pieces of a map's line

module _ (x : MapContext) (s : Bytes) (id : Text) (tag : ℕ) {given out : Bytes} {at r₁ r₂ r₃ : Sink} {o₁ o₂ o₃ : Bytes} where
  pub fields_put : Puts given out at (written_field (field_by x.brackets (name_of_tag tag) (meaning_in s id))) r₁ o₁ → Puts given o₁ r₁ (listed_fields x.brackets (fields_in x s) (after_id (kind_by x.key))) r₂ o₂
      → Puts given o₂ r₂ (others_text x (fields_in x s)) r₃ o₃ → Puts given out at (fields_text x s id tag) r₃ o₃
  unfolding fields_text
  fields_put w₁ w₂ w₃ = then w₁ (then w₂ w₃)

  pub map_put : {p : Bytes} → p ≡ take (x.start - 0) (drop 0 s) → Puts given out at p r₁ o₁ → Puts given o₁ r₁ (fields_text x s id tag) r₂ o₂
      → Puts given o₂ r₂ (62 ∷ []) r₃ o₃ → Puts given out at (map_text x s id tag) r₃ o₃
  map_put {p} b w₁ w₂ w₃ =
      let z : x.start - 0 ≡ x.start = omega arith in
      let q : p ≡ take x.start s = b ∙ ap (λ (i : ℕ). take i s) z in
      rw (← q) (then w₁ (then w₂ w₃))

-- The ID of a map

-- the ID's field, its value where the code was told, and its tag
pub record Identity (v : Version) (k : Bytes) (fs : List Field) (s : Bytes) (id : Text) (tag : ℕ) : Type 0 where
  pub field : Field
  pub named : field_named v k (ascii "ID") fs ≡ Some field
  pub means : meaning_in s id ≡ meaning_of field.value
  pub tagged : tag ≡ tag_of field.key

identity : (v : Version) (k : Bytes) (fs : List Field) (s : Bytes) (id : Text) (tag : ℕ) → s ≡ write_record (fields k fs)
    → slotted (text_named v k (ascii "ID") (fields_start k) fs) ≡ Some (id, tag) → Identity v k fs s id tag
identity v k fs s id tag e h = go (field_named v k (ascii "ID") fs) refl (text_named v k (ascii "ID") (fields_start k) fs) h
    (named_text v k (ascii "ID") s (fields_start k) fs (rw e (line_fields k fs)))
  where
    go : (x : Option Field) → field_named v k (ascii "ID") fs ≡ x → (y : Option (Bytes × Text)) → slotted y ≡ Some (id, tag) → Both s x y → Identity v k fs s id tag
    go None f None q b = never cc
    go None f (Some p) q b = absurd b
    go (Some x) f None q b = absurd b
    go (Some x) f (Some p) q b = let w = filled_one q in record {
      field = x;
      named = f;
      means = ap (meaning_in s) (sym w.0) ∙ value_means s p.1 x.value b.value;
      tagged = sym w.1 ∙ ap tag_of b.key;
    }

-- A map's line

-- `##`, the key, `=` and `<`
abbrev pub opening : Bytes → Bytes
opening k = ascii "##" ++ (k ++ 61 ∷ 60 ∷ [])

pub opening_long : (k : Bytes) → length (opening k) ≡ fields_start k
opening_long k = omega (arith, length-append k (61 ∷ 60 ∷ []))

pub map_opened : (k : Bytes) (fs : List Field) → write_record (fields k fs) ≡ opening k ++ (write_fields fs ++ 62 ∷ [])
unfolding write_record
map_opened k fs = ap (ascii "##" ++◌) (sym (append_assoc k (61 ∷ 60 ∷ []) (write_fields fs ++ 62 ∷ [])))

opened_take : (k : Bytes) (fs : List Field) (s : Bytes) → s ≡ write_record (fields k fs) → take (fields_start k) s ≡ opening k
opened_take k fs s e = rw (e, map_opened k fs) (take_at (opening k) (write_fields fs ++ 62 ∷ []) (fields_start k) (opening_long k))

module _ (version : FileFormat) (k : Bytes) (fs : List Field) (key : MapKey) (s : Bytes) (start : ℕ) (n : Named k key) (r : read_record (version_of version) s ≡ ok (fields k fs))
    (l : start ≡ fields_start k) where
  pub line_is : s ≡ write_record (fields k fs)
  line_is = on_ok (LineOf s) (record_in (version_of version) s) r

  pub meta_is : is_meta (version_of version) (case_bytes key) ≡ is_meta (version_of version) k
  meta_is = ap (λ (b : Bool). b && since v4_3 (version_of version)) (sym n.meta)

  pub fields_are : fields_in (context_of key version start) s ≡ fs
  fields_are = rw (meta_is, l) (fields_read (is_meta (version_of version) k) (always_map k) s (fields_start k) (on_ok (Scanned (version_of version) s) (record_scanned (version_of version) s) r))

  fields_text_lem : (id : Text) (f : Field) → field_named (version_of version) k (ascii "ID") fs ≡ Some f → meaning_in s id ≡ meaning_of f.value
      → fields_text (context_of key version start) s id (tag_of f.key) ≡ write_fields (tidy (version_of version) k fs)
  unfolding fields_text
  fields_text_lem id f q m = rw (fields_are, m) (sym (fields_as (version_of version) k (context_of key version start) n refl meta_is fs q))

  map_text_lem : (id : Text) (tag : ℕ) → slotted (text_named (version_of version) k (ascii "ID") (fields_start k) fs) ≡ Some (id, tag)
      → map_text (context_of key version start) s id tag ≡ record_line (version_of version) (fields k fs)
  map_text_lem id tag h =
      let i = identity (version_of version) k fs s id tag line_is h in
      ap (map_text (context_of key version start) s id) i.tagged
      ∙ ap₂ (λ (x y : Bytes). x ++ (y ++ 62 ∷ [])) (ap (λ (g : ℕ). take g s) l ∙ opened_take k fs s line_is) (fields_text_lem id i.field i.named i.means)
      ∙ sym (map_opened k (tidy (version_of version) k fs))
      ∙ sym (ap write_record (tidied_fields (version_of version) k fs))

-- A record

module _ (version : FileFormat) (s : Bytes) {r : Result LineRecord Refusal} (a : ParsesRecord (version_of version) s r) where
  told : {x : Result LineRecord Refusal} → r ≡ x → RecordIs (version_of version) s x
  told e = subst (RecordIs (version_of version) s) e a.is

  -- a line is one record
  alone : {y : Record} → read_record (version_of version) s ≡ ok y → {given out : Bytes} {at n : Sink} {o : Bytes} → Puts given out at (entry_line (version_of version) y) n o → Puts given out at (house_line (version_of version) s) n o
  unfolding house_line
  alone e w = rw (house_line, e) w

  pub version_left : {w : FileFormat} → r ≡ Ok (read.FileFormat w) → {given out : Bytes} {at : Sink} → at.at ≤ last → length out ≤ last → Puts given out at (house_line (version_of version) s) at out
  version_left e {given} {out} {at} h l = alone (told e) (puts_nothing given out at h l)

  pub refused_left : {w : Refusal} → r ≡ Err w → {given out : Bytes} {at : Sink} → at.at ≤ last → length out ≤ last → Puts given out at (house_line (version_of version) s) at out
  unfolding house_line
  refused_left e {given} {out} {at} h l = rw (house_line, told e) (puts_nothing given out at h l)

  pub text_put : {i : ℕ} → r ≡ Ok (read.Text i) → {given out : Bytes} {at n : Sink} {o : Bytes} → Puts given out at s n o → Puts given out at (house_line (version_of version) s) n o
  unfolding saying record_of
  text_put {i} e {given} {out} {at} {n} {o} w = let f = (told e).1 in alone f (subst (λ (l : Bytes). Puts given out at l n o) (on_ok (LineOf s) (record_in (version_of version) s) f) w)

  module _ {m : MapRecord} (e : r ≡ Ok (read.Map m)) where
    abbrev is_map_lem : RecordIs (version_of version) s (Ok (read.Map m))
    is_map_lem = told e

    pub map_short : length s ≤ m.value → {given out : Bytes} {at : Sink} → Puts given out at (house_line (version_of version) s) at out
    map_short l =
        let k = key_in s in
        let q : s ≡ opening k ++ (write_fields is_map_lem.0 ++ 62 ∷ []) = on_ok (LineOf s) (record_in (version_of version) s) is_map_lem.3 ∙ map_opened k is_map_lem.0 in
        let m = ap length q ∙ length-append (opening k) (write_fields is_map_lem.0 ++ 62 ∷ []) in
        let n = opening_long k in
        let p = is_map_lem.2 in
        absurd (omega arith)

    pub map_put_in : {x : MapContext} → x ≡ context_of m.key version (m.value + 1) → {given out : Bytes} {at n : Sink} {o : Bytes} → Puts given out at (map_text x s m.id m.tag) n o
        → Puts given out at (house_line (version_of version) s) n o
    map_put_in f {given} {out} {at} {n} {o} w = alone is_map_lem.3 (subst (λ (l : Bytes). Puts given out at l n o)
        (ap (λ (x : MapContext). map_text x s m.id m.tag) f
        ∙ map_text_lem version (key_in s) is_map_lem.0 m.key s (m.value + 1) is_map_lem.1 is_map_lem.3 (omega (arith, is_map_lem.2)) m.id m.tag is_map_lem.4) w)

pub ruleset records = (version_left, refused_left, text_put, map_short, map_put_in)

-- The ending

-- a map's line ends in `>`
map_ends : (c : ℕ) (k : Bytes) (fs : List Field) → ends c (write_record (fields k fs)) ≡ is c 62
unfolding ends write_record
map_ends c k fs = ends_more c (ascii "##" ++ k) 61 (60 ∷ (write_fields fs ++ 62 ∷ [])) ∙ ends_more c (60 ∷ write_fields fs) 62 []

-- a line and what the house form writes of it end in CR both, or neither does
pub same_ending : (v : Version) (s : Bytes) (x : Record) → read_record v s ≡ ok x → IsEntry x → ends 13 s ≡ ends 13 (record_line v x)
unfolding saying record_of
same_ending v s (fileformat w) e h = absurd h
same_ending v s (fields k fs) e h = ap (ends 13) (on_ok (LineOf s) (record_in v s) e) ∙ map_ends 13 k fs ∙ sym (map_ends 13 k (tidy v k fs)) ∙ sym (ap (λ (r : Record). ends 13 (write_record r)) (tidied_fields v k fs))
same_ending v s (text k t) e h = ap (ends 13) (on_ok (LineOf s) (record_in v s) e)

-- the library's test of the last byte
pub ends_last : (s : Bytes) → pointwise eqb (13 ∷ []) (drop (length s - 1) s) ≡ ends 13 s
unfolding ends
ends_last [] = refl
ends_last (b ∷ []) = elim (test (eqb b 13)) [
  | pass e ↦ rw (eqb-true b 13 e)
  | fail e ↦ rw (e, ne_eqb 13 b (λ f. eqb-false b 13 e (sym f)))
]
ends_last (b ∷ d ∷ s) = let z : suc (suc (length s)) - 1 ≡ suc (suc (length s) - 1) = omega arith in rw z (ends_last (d ∷ s))

module _ (cr : Bool) {given out : Bytes} {at r : Sink} {o : Bytes} where
  pub end_lf : cr ≡ false → Puts given out at (10 ∷ []) r o → Puts given out at (ending cr) r o
  end_lf e w = rw e w

  pub end_cr : cr ≡ true → Puts given out at (13 ∷ []) r o → {r' : Sink} {o' : Bytes} → Puts given o r (10 ∷ []) r' o' → Puts given out at (ending cr) r' o'
  end_cr e w w' = rw e (then w w')

pub ruleset endings = (end_lf, end_cr)

-- any line and its ending
ended_line : (line : Bytes) → line ++ ending (ends 13 line) ≡ write_line line
unfolding write_line
ended_line line = go (ends 13 line)
  where
    go : (b : Bool) → line ++ ending b ≡ elim b [ true ↦ line ++ 13 ∷ 10 ∷ [] | false ↦ line ++ 10 ∷ [] ]
    go true = refl
    go false = refl

pub line_ended : (line : Bytes) {cr : Bool} → cr ≡ ends 13 line → {given out : Bytes} {at r : Sink} {o : Bytes} → Puts given out at line r o → {r' : Sink} {o' : Bytes} → Puts given o r (ending cr) r' o'
    → Puts given out at (write_line line) r' o'
line_ended line e {given} {out} {at} w {r'} {o'} w' = subst (λ (t : Bytes). Puts given out at t r' o') (ended_line line) (then w (rw e at w'))

-- what answers the needs of `put_line`
pub line_put : (line : Bytes) {given out : Bytes} {at r : Sink} {o : Bytes} → Puts given out at line r o → {cr b : Bool} → cr ≡ b → {r' : Sink} {o' : Bytes} → Puts given o r (ending cr) r' o'
    → WroteEnded given out at line b (record { end = r.at; next = r' }) o'
line_put line w e w' = record { place = w.place; text = then w (rw e at w') }

-- of a map or a text it is the house form's line, with its own ending
pub entry_is : (v : Version) (s : Bytes) (x : Record) → read_record v s ≡ ok x → IsEntry x → house_line v s ≡ record_line v x
unfolding house_line
entry_is v s (fileformat w) e h = absurd h
entry_is v s (fields k fs) e h = rw (house_line, e)
entry_is v s (text k t) e h = rw (house_line, e)

pub entry_ended : (v : Version) (s : Bytes) (x : Record) → read_record v s ≡ ok x → IsEntry x → {given out : Bytes} {at : Sink} {r : LineWritten} {o : Bytes}
    → WroteEnded given out at (house_line v s) (ends 13 s) r o → (r.end ≡ onward at.at (length (record_line v x))) × Puts given out at (write_line (record_line v x)) r.next o
entry_ended v s x e h {given} {out} {at} {r} {o} w =
    let l = entry_is v s x e h in (
      rw l at w.place,
      subst (λ (t : Bytes). Puts given out at t r.next o) (rw (l, same_ending v s x e h) (ended_line (record_line v x))) w.text,
    )
