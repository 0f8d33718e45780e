-- A line that is its own line of the form. Assumes nothing.
use Prim.Native.Nat.{ℕ, ◌+◌, ◌-◌, ◌≤◌}
use native.Mathlib.Omega.{arith}
use mathlib.Core.Path.{◌≡◌, refl, sym, ap, ap₂, subst, ◌∙◌}
use mathlib.Core.Bool.{Bool, true, false}
use mathlib.Core.List.{List, [], ◌∷◌, ◌++◌, append_assoc}
use lib.ListN.{length, get_or, take, drop, length-append, get_or-eq_default}
use lib.Seq.{get_or_at}
use Rattle.values.specs.Bytes.{Bytes, ascii, is, same}
use Rattle.values.specs.Value.{meaning_of}
use Rattle.values.specs.Field.{Field, written_field}
use Rattle.values.proofs.Tests.{never}
use Rattle.values.proofs.Fields.{before_part}
use Rattle.values.proofs.Sames.{same_self}
use Rattle.rules.specs.Answer.{ok}
use Rattle.rules.specs.Version.{Version}
use Rattle.rules.specs.Entry.{fields_start}
use Rattle.rules.specs.Map.{field_named, fields_at}
use Rattle.rules.specs.Meaning.{saying}
use Rattle.rules.specs.Known.{tag_of}
use Rattle.rules.specs.House.{name_of_tag, record_of, write_fields, write_record}
use Rattle.rules.specs.Record.{Record, fileformat, fields, text, key_of, read_record}
use Rattle.rules.specs.Claims.{key_in}
use Rattle.rules.proofs.Firsts.{on_ok}
use Rattle.rules.proofs.Names.{name_plain}
use Rattle.rules.proofs.Checks.{named_yes}
use Rattle.rules.proofs.Texts.{LineOf, record_in, record_key}
use Rattle.rules.proofs.Tidy.{tidy, tidied_fields}
use Rattle.records.specs.Formats.{version_of}
use Rattle.records.specs.Keys.{Named, key_named, kind_by, context_of}
use Rattle.records.specs.Tags.{after_id}
use Rattle.records.specs.declared.file_format.FileFormat.{FileFormat}
use Rattle.records.specs.declared.key.MapKey.{MapKey}
use Rattle.records.specs.declared.key.MapContext.{MapContext}
use Rattle.records.proofs.Keys.{named}
use Rattle.forms.specs.Forms.{field_by, listed_fields, others_text}
use Rattle.forms.specs.Lines.{IsEntry, house_line}
use Rattle.forms.specs.Formed.{IdFirst, FormedMap, FormedLine}
use Rattle.forms.proofs.Forms.{fields_as}
use Rattle.forms.proofs.Lines.{line_is, meta_is, fields_are, entry_is}
use Rattle.forms.proofs.Stands.{known_rows, all_stand}

pub formed_not : (v : Version) (s : Bytes) → FormedLine v s false
formed_not v s = record { is = λ o. never cc }

text_is : (v : Version) (s k t : Bytes) → read_record v s ≡ ok (text k t) → house_line v s ≡ s
unfolding saying record_of
text_is v s k t e = entry_is v s (text k t) e tt ∙ sym (on_ok (LineOf s) (record_in v s) e)

-- a map's value begins with `<`
opens : (k : Bytes) (fs : List Field) (s : Bytes) → s ≡ write_record (fields k fs) → get_or s (2 + length k + 1) 0 ≡ 60
unfolding write_record
opens k fs s e =
    let t : s ≡ (ascii "##" ++ (k ++ 61 ∷ [])) ++ 60 ∷ (write_fields fs ++ 62 ∷ []) = e ∙ ap (ascii "##" ++◌) (sym (append_assoc k (61 ∷ []) (60 ∷ (write_fields fs ++ 62 ∷ [])))) in
    rw t (get_or_at (ascii "##" ++ (k ++ 61 ∷ [])) 60 (write_fields fs ++ 62 ∷ []) 0 (2 + length k + 1) (omega (arith, length-append k (61 ∷ []))))

module _ (version : FileFormat) (s : Bytes) {end : ℕ} (f : end ≡ 2 + length (key_in s)) where
  key_is : (k : Bytes) (fs : List Field) → read_record (version_of version) s ≡ ok (fields k fs) → k ≡ key_in s
  key_is k fs e = on_ok (λ (r : Record). key_of r ≡ key_in s) (record_key (version_of version) s) e

  pub formed_text : (get_or s (end + 1) 0 ≡ 60 → ⊥) → FormedLine (version_of version) s true
  formed_text n = record { is = λ o y e i. go y e i }
    where
      go : (y : Record) → read_record (version_of version) s ≡ ok y → IsEntry y → house_line (version_of version) s ≡ s
      go (fileformat w) e i = absurd i
      go (text k t) e i = text_is (version_of version) s k t e
      go (fields k fs) e i =
          let q = opens k fs s (on_ok (LineOf s) (record_in (version_of version) s) e) in
          let z : 2 + length k + 1 ≡ end + 1 = rw (key_is k fs e) (omega arith) in
          absurd (n (ap (λ (j : ℕ). get_or s j 0) (sym z) ∙ q))

  -- nothing stands after the `=`
  pub formed_empty : length s ≤ end + 1 → FormedLine (version_of version) s true
  formed_empty l = formed_text (λ e. let z = get_or-eq_default s 0 l in absurd (omega (arith, z, e)))

  module _ {p : Bytes} (b : p ≡ take (end - 2) (drop 2 s)) {q : Bool} (t : q ≡ same p (ascii "fileformat")) (u : q ≡ false) {j : MapKey} (d : j ≡ key_named p) {x : MapContext} (c : x ≡ context_of j version (end + 1 + 1)) where
    map_named : (k : Bytes) → k ≡ key_in s → Named k j
    map_named k e =
        let w : p ≡ k = b ∙ before_part (is 61) s 2 f ∙ sym e in
        subst (Named k) (sym (d ∙ ap key_named w)) (named k (ap (λ (y : Bytes). same y (ascii "fileformat")) (sym w) ∙ sym t ∙ u))

    map_is : (k : Bytes) (fs : List Field) → read_record (version_of version) s ≡ ok (fields k fs) → x.brackets ≡ false → IdFirst x fs → house_line (version_of version) s ≡ s
    unfolding write_record same
    map_is k fs e m i =
        let v = version_of version in
        let n = map_named k (key_is k fs e) in
        let l : end + 1 + 1 ≡ fields_start k = rw (key_is k fs e) (omega arith) in
        let a = fields_as v k x (subst (λ (y : MapContext). Named k y.key) (sym c) n) (ap (λ (y : MapContext). version_of y.version) c) (ap (λ (y : MapContext). y.brackets) c ∙ meta_is version k fs j s (end + 1 + 1) n e l) fs
        (ap (field_named v k (ascii "ID")) i.are ∙ named_yes v k (ascii "ID") i.id i.rest (rw (i.stands.key, name_plain v k (ascii "ID") refl) (same_self (ascii "ID")))) in
        let w : write_fields (tidy v k fs) ≡ write_fields fs = a
        ∙ ap₂ (λ (b : Bool) (gs : List Field). written_field (field_by b (name_of_tag (tag_of i.id.key)) (meaning_of i.id.value)) ++ (listed_fields b gs (after_id (kind_by x.key)) ++ others_text x gs)) m i.are
        ∙ all_stand x m i.id i.rest i.stands i.follow ∙ ap write_fields (sym i.are) in
        entry_is v s (fields k fs) e tt ∙ ap write_record (tidied_fields v k fs) ∙ ap (λ (y : Bytes). ascii "##" ++ (k ++ 61 ∷ 60 ∷ (y ++ 62 ∷ []))) w ∙ sym (line_is version k fs j s (end + 1 + 1) n e l)

    pub formed_map : {r : Bool} → FormedMap x s r → FormedLine (version_of version) s r
    formed_map g = record { is = λ o y e i. go (g.is o).0 ((g.is o).1 (known_rows (version_of x.version) x.key)) y e i }
      where
        go : x.brackets ≡ false → IdFirst x (fields_at false s x.start) → (y : Record) → read_record (version_of version) s ≡ ok y → IsEntry y → house_line (version_of version) s ≡ s
        go m h (fileformat w) e i = absurd i
        go m h (text k t) e i = text_is (version_of version) s k t e
        go m h (fields k fs) e i =
            let n = map_named k (key_is k fs e) in
            let l : end + 1 + 1 ≡ fields_start k = rw (key_is k fs e) (omega arith) in
            let a = ap (λ (y : MapContext). fields_at y.brackets s y.start) c ∙ fields_are version k fs j s (end + 1 + 1) n e l in
            map_is k fs e m (subst (IdFirst x) (ap (λ (z : Bool). fields_at z s x.start) (sym m) ∙ a) h)

pub ruleset formeds = (formed_not, formed_text, formed_empty, formed_map)
