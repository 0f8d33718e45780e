-- A record that was read is its line: `##`, the key, `=`, and the text or the fields as they stand and are scanned. Assumes nothing.
use Prim.Native.Nat.{ℕ, zero, suc, ◌+◌}
use native.Mathlib.Omega.{arith}
use mathlib.Core.Path.{◌≡◌, refl, sym, ap, ◌∙◌}
use mathlib.Core.Bool.{Bool, true, not, ◌||◌, ◌&&◌}
use mathlib.Core.List.{List, [], ◌∷◌, ◌++◌, tail, append_assoc}
use Rattle.std.specs.Prelude.{Option, None, Some}
use lib.ListN.{length, drop}
use lib.Seq.{drop-drop}
use Rattle.values.specs.Bytes.{Bytes, ascii, is, empty, begins, before, from, same, starts}
use Rattle.values.specs.Field.{Field, written_field, read_field}
use Rattle.values.proofs.Tests.{pass, fail, test, and_r}
use Rattle.values.proofs.Lists.{on_some, before_from}
use Rattle.values.proofs.Sames.{same_sound}
use Rattle.values.proofs.Fields.{tail_is, text_here}
use Rattle.values.proofs.Places.{FieldIn, field_in}
use Rattle.rules.specs.Answer.{Answer, ok, refuse}
use Rattle.rules.specs.Version.{Version, read_version}
use Rattle.rules.specs.Known.{always_map}
use Rattle.rules.specs.Map.{After, more, done, wrong, after, Scan, scan, closing_refusal, read_fields, is_meta, map_refusal, read_map}
use Rattle.rules.specs.Record.{Record, fileformat, fields, text, is_map, fileformat_read, read_record_value, read_keyed, read_record, key_of}
use Rattle.rules.specs.Entry.{fields_start}
use Rattle.rules.specs.House.{write_more, write_fields, write_record}
use Rattle.rules.proofs.Firsts.{OnOk, map_ok, bind_ok, judged_ok}
use Rattle.rules.proofs.Checks.{fine}
use Rattle.rules.proofs.Fields.{AfterIn, after_in, was_more, was_done, was_wrong, see_after, no_field, a_field, see_field}
use Rattle.rules.proofs.Records.{starts_is}
use Rattle.rules.specs.Claims.{key_in}

-- fields that end with nothing refused
abbrev ScanIn : Bytes → Scan → Type 0
ScanIn bs s = s.1 ≡ 0 → (f : Field) × (fs : List Field) × (s.0 ≡ f ∷ fs) × (bs ≡ written_field f ++ (write_more fs ++ 62 ∷ []))

scan_in : (n : ℕ) (m : Bool) (bs : Bytes) → ScanIn bs (scan n m bs)
unfolding scan write_more
scan_in zero m bs = λ z. absurd (omega arith)
scan_in (suc n) m bs = elim (see_field (read_field m bs)) [
  | no_field e ↦ rw (scan, e) (λ z. absurd (omega arith))
  | a_field p e ↦ let t = (on_some (FieldIn m bs) (field_in m bs) e).text in
      elim (see_after (after p.1)) [
        | was_more r a ↦ rw (scan, e, a) (λ z. let d = scan_in n m r z in
            let b : p.1 ≡ 44 ∷ r = rw a at (after_in p.1) in (
              p.0,
              (scan n m r).0,
              refl,
              t ∙ ap (written_field p.0 ++◌) (
                  b
                  ∙ ap (44 ∷◌) (d.3 ∙ sym (append_assoc (written_field d.0) (write_more d.1) (62 ∷ [])))
                  ∙ sym (ap (λ (gs : List Field). write_more gs ++ 62 ∷ []) d.2)),
            ))
        | was_done a ↦ rw (scan, e, a) (λ z. (p.0, [], refl, t ∙ ap (written_field p.0 ++◌) (rw a at (after_in p.1))))
        | was_wrong a ↦ rw (scan, e, a) (λ z. absurd (omega arith))
      ]
]

-- the fields of a map with nothing refused, and its `>`
pub fields_in : (m needed : Bool) (bs : Bytes) → (read_fields m needed bs).1 ≡ 0 → bs ≡ write_fields (read_fields m needed bs).0 ++ 62 ∷ []
unfolding read_fields write_fields
fields_in m needed bs = elim (test (not needed && (empty bs || begins 62 bs))) [
  | pass e ↦ rw (read_fields, e) (λ z. closed (after bs) (after_in bs) z)
  | fail e ↦ rw (read_fields, e) (λ z. let d = scan_in (length bs) m bs z in d.3 ∙ rw d.2 (sym (append_assoc (written_field d.0) (write_more d.1) (62 ∷ []))))
]
  where
    closed : (a : After) → AfterIn bs a → closing_refusal a ≡ 0 → bs ≡ 62 ∷ []
    closed (more r) h z = absurd (omega arith)
    closed done h z = h
    closed wrong h z = absurd (omega arith)

-- a record that is no fileformat line is its line
abbrev pub LineOf : Bytes → Record → Type 0
LineOf l (fileformat w) = Unit {0}
LineOf l (fields k fs) = l ≡ write_record (fields k fs)
LineOf l (text k t) = l ≡ write_record (text k t)

-- what was read of a map's line are the fields that stand in it
abbrev pub Scanned : Version → Bytes → Record → Type 0
Scanned v l (fileformat w) = Unit {0}
Scanned v l (fields k fs) = read_fields (is_meta v k) (always_map k) (drop (fields_start k) l) ≡ (fs, 0)
Scanned v l (text k t) = Unit {0}

abbrev MapIn : Version → Bytes → Bytes → List Field → Type 0
MapIn v k x fs = (x ≡ 60 ∷ (write_fields fs ++ 62 ∷ [])) × (read_fields (is_meta v k) (always_map k) (drop 1 x) ≡ (fs, 0))

map_in : (v : Version) (k x : Bytes) → OnOk (MapIn v k x) (read_map v k x)
unfolding read_map
map_in v k x = elim (test (begins 60 x)) [
  | pass e ↦ let s = read_fields (is_meta v k) (always_map k) (tail x) in
      rw (read_map, e) (judged_ok (MapIn v k x) (map_refusal v k s) s.0 (λ z. let f = (fine v k s z).1 in
      (tail_is 60 x e ∙ ap (60 ∷◌) (fields_in (is_meta v k) (always_map k) (tail x) f), ap {B = Scan} (λ (n : ℕ). (s.0, n)) f)))
  | fail e ↦ rw (read_map, e) tt
]

-- the value's bytes after its first
past_value : (k x l : Bytes) → l ≡ ascii "##" ++ (k ++ 61 ∷ x) → drop (fields_start k) l ≡ drop 1 x
past_value k x l e = sym (drop-drop 2 (2 + length k) l) ∙ ap (λ (y : Bytes). drop 2 y) (text_here l 2 k (61 ∷ x) (ap (drop 2) e)).1

-- a line begins with `##`, the record's key and `=`
abbrev pub Keyed : Bytes → Record → Type 0
Keyed l r = (x : Bytes) × (l ≡ ascii "##" ++ (key_of r ++ 61 ∷ x))

-- what is read of a line with the key k
abbrev RecordIn : Version → Bytes → Bytes → Record → Type 0
RecordIn v k l r = LineOf l r × Scanned v l r × (key_of r ≡ k) × Keyed l r

value_in_lem : (v : Version) (k x l : Bytes) → l ≡ ascii "##" ++ (k ++ 61 ∷ x) → OnOk (RecordIn v k l) (read_record_value v k x)
unfolding read_record_value write_record
value_in_lem v k x l h = elim (test (same k (ascii "fileformat"))) [
  | pass e ↦ rw (read_record_value, e) (format (read_version x) e)
  | fail e ↦ elim (test (is_map v k x)) [
    | pass m ↦ rw (read_record_value, e, m) (bind_ok (MapIn v k x) (RecordIn v k l) (read_map v k x) _ (map_in v k x) (λ fs q. (h ∙ rw q.0, rw (past_value k x l h) q.1, refl, (x, h))))
    | fail m ↦ rw (read_record_value, e, m) (h, tt, refl, (x, h))
  ]
]
  where
    format : (a : Option Version) → same k (ascii "fileformat") ≡ true → OnOk (RecordIn v k l) (fileformat_read a)
    format None e = tt
    format (Some w) e = let n = same_sound k (ascii "fileformat") e in (tt, tt, sym n, (x, h ∙ ap (λ (y : Bytes). ascii "##" ++ (y ++ 61 ∷ x)) n))

line_in_lem : (v : Version) (l : Bytes) → OnOk (RecordIn v (key_in l) l) (read_record v l)
unfolding read_record read_keyed
line_in_lem v l = elim (test (starts (ascii "##") l)) [
  | pass e ↦ let b = before (is 61) (drop 2 l) in let f = from (is 61) (drop 2 l) in
      elim (test (not (empty b) && begins 61 f)) [
        | pass q ↦ rw (read_record, e, read_keyed, q) (value_in_lem v b (tail f) l
            (starts_is (ascii "##") l e ∙ ap (ascii "##" ++◌) (sym (before_from (is 61) (drop 2 l)) ∙ ap (b ++◌) (tail_is 61 f (and_r (not (empty b)) (begins 61 f) q)))))
        | fail q ↦ rw (read_record, e, read_keyed, q) tt
      ]
  | fail e ↦ rw (read_record, e) tt
]

pub record_in : (v : Version) (l : Bytes) → OnOk (LineOf l) (read_record v l)
record_in v l = map_ok (RecordIn v (key_in l) l) (LineOf l) (read_record v l) (λ r h. h.0) (line_in_lem v l)

pub record_scanned : (v : Version) (l : Bytes) → OnOk (Scanned v l) (read_record v l)
record_scanned v l = map_ok (RecordIn v (key_in l) l) (Scanned v l) (read_record v l) (λ r h. h.1) (line_in_lem v l)

-- a fileformat line is the same record under every version
abbrev pub FormatIs : Answer Record → Record → Type 0
FormatIs a (fileformat w) = a ≡ ok (fileformat w)
FormatIs a (fields k fs) = Unit {0}
FormatIs a (text k t) = Unit {0}

pub format_any : (u v : Version) (l : Bytes) → OnOk (FormatIs (read_record v l)) (read_record u l)
unfolding read_record read_keyed read_record_value
format_any u v l = elim (test (starts (ascii "##") l)) [
  | pass e ↦ let k = before (is 61) (drop 2 l) in let f = from (is 61) (drop 2 l) in
      elim (test (not (empty k) && begins 61 f)) [
        | pass q ↦ elim (test (same k (ascii "fileformat"))) [
          | pass s ↦ rw (read_record, e, read_keyed, q, read_record_value, s) (format (read_version (tail f)))
          | fail s ↦ elim (test (is_map u k (tail f))) [
            | pass m ↦ rw (read_record, e, read_keyed, q, read_record_value, s, m) (bind_ok (λ fs. Unit {0}) (FormatIs _) (read_map u k (tail f)) _ (any_ok (read_map u k (tail f))) (λ fs t. tt))
            | fail m ↦ rw (read_record, e, read_keyed, q, read_record_value, s, m) tt
          ]
        ]
        | fail q ↦ rw (read_record, e, read_keyed, q) tt
      ]
  | fail e ↦ rw (read_record, e) tt
]
  where
    format : (a : Option Version) → OnOk (FormatIs (fileformat_read a)) (fileformat_read a)
    format None = tt
    format (Some w) = refl

    any_ok : (a : Answer (List Field)) → OnOk (λ fs. Unit {0}) a
    any_ok (ok fs) = tt
    any_ok (refuse n) = tt

-- and its key is the line's
pub record_key : (v : Version) (l : Bytes) → OnOk (λ r. key_of r ≡ key_in l) (read_record v l)
record_key v l = map_ok (RecordIn v (key_in l) l) (λ r. key_of r ≡ key_in l) (read_record v l) (λ r h. h.2) (line_in_lem v l)

pub record_keyed : (v : Version) (l : Bytes) → OnOk (Keyed l) (read_record v l)
record_keyed v l = map_ok (RecordIn v (key_in l) l) (Keyed l) (read_record v l) (λ r h. h.3) (line_in_lem v l)
