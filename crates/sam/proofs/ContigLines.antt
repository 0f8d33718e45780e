-- The contig line of an `@SQ` line, one part after another. Assumes nothing.
use Prim.Native.Nat.{ℕ, ◌≤◌}
use native.Mathlib.Omega.{arith}
use mathlib.Core.Path.{◌≡◌, refl, sym, ap, ap₂, ◌∙◌}
use mathlib.Core.Bool.{false}
use mathlib.Core.List.{List, [], ◌∷◌, ◌++◌, map, append_assoc, append-nil, map-append}
use Rattle.std.specs.Prelude.{Option, None}
use lib.ListN.{length}
use Rattle.values.specs.Bytes.{Bytes, ascii, same, CR, LF}
use Rattle.values.specs.Integer.{decimal}
use Rattle.values.specs.Value.{written}
use Rattle.values.specs.Field.{Field, written_field}
use Rattle.values.specs.Written.{last, Wrote}
use Rattle.values.proofs.Outputs.{wrote_nothing, then}
use Rattle.rules.specs.Lines.{ends, write_line, write_lines}
use Rattle.rules.specs.Version.{v4_5}
use Rattle.rules.specs.Known.{kind_of}
use Rattle.rules.specs.Record.{fields}
use Rattle.rules.specs.Meaning.{Known}
use Rattle.rules.specs.House.{is_written_quoted, write_field, key_written, known_fields, other_fields, record_of, write_more, write_fields, write_record}
use Rattle.rules.proofs.Pieces.{ends_snoc}
use Rattle.forms.specs.Forms.{quotes, field_by}
use Rattle.forms.proofs.Fields.{bare_number}
use Rattle.sam.specs.Tags.{tagged}
use Rattle.sam.specs.Contigs.{Contig, word_of, contig_record, contig_line, contig_lines}
use Rattle.sam.specs.Lines.{tags_at, or_nothing, given, value_in, contig_in, opened_text, optional_text, optionals_text}

-- One part

module _ (key v : Bytes) {out : Bytes} {at : ℕ} where
  pub optional_none : length v ≡ 0 → at ≤ last → length out ≤ last → Wrote out at (optional_text key v) at out
  unfolding optional_text
  optional_none z h l = go v z
    where
      go : (v : Bytes) → length v ≡ 0 → Wrote out at (optional_text key v) at out
      go [] z = wrote_nothing out at h l
      go (b ∷ v) z = absurd (omega arith)

  pub optional_put : (length v ≡ 0 → ⊥) → {r : ℕ} {o : Bytes} → Wrote out at (44 ∷ []) r o → {r' : ℕ} {o' : Bytes} → Wrote o r (written_field (field_by false key v)) r' o'
      → Wrote out at (optional_text key v) r' o'
  unfolding optional_text
  optional_put n {r} {o} w {r'} {o'} w' = go v n w'
    where
      go : (v : Bytes) → (length v ≡ 0 → ⊥) → Wrote o r (written_field (field_by false key v)) r' o' → Wrote out at (optional_text key v) r' o'
      go [] n w' = absurd (n refl)
      go (b ∷ v) n w' = then w w'

pub opened_put : (id : Bytes) (n : ℕ) {out : Bytes} {at r : ℕ} {o : Bytes} → Wrote out at (ascii "##contig=<") r o
    → {r₁ : ℕ} {o₁ : Bytes} → Wrote o r (written_field (field_by false (ascii "ID") id)) r₁ o₁ → {r₂ : ℕ} {o₂ : Bytes} → Wrote o₁ r₁ (ascii ",length=") r₂ o₂
    → {r₃ : ℕ} {o₃ : Bytes} → Wrote o₂ r₂ (decimal n) r₃ o₃ → Wrote out at (opened_text id n) r₃ o₃
unfolding opened_text
opened_put id n a b c d = then a (then b (then c d))

-- The whole line

abbrev KEY : Bytes
KEY = ascii "contig"

-- no field of a contig line is a META's
plain_field : (key t : Bytes) → write_field v4_5 KEY key t ≡ field_by false key t
unfolding is_written_quoted quotes same
plain_field key t = refl

-- a field that is there or not
optional_more : (name : Bytes) → key_written 0 name ≡ name → (t : Bytes) (ns : List Bytes) (xs : List (Option Known))
    → write_more (known_fields v4_5 KEY 0 (name ∷ ns) (word_of (given t) ∷ xs)) ≡ optional_text name t ++ write_more (known_fields v4_5 KEY 0 ns xs)
unfolding known_fields write_more optional_text
optional_more name h [] ns xs = refl
optional_more name h (b ∷ t) ns xs =
    ap (λ (f : Field). 44 ∷ written_field f ++ write_more (known_fields v4_5 KEY 0 ns xs)) (ap (λ (k : Bytes). write_field v4_5 KEY k (b ∷ t)) h ∙ plain_field name (b ∷ t))

size_field : (n : ℕ) → written_field (write_field v4_5 KEY (ascii "length") (decimal n)) ≡ ascii "length=" ++ decimal n
unfolding written_field written same
size_field n = ap written_field (plain_field (ascii "length") (decimal n)) ∙ go
  where
    go : written_field (field_by false (ascii "length") (decimal n)) ≡ ascii "length=" ++ decimal n
    go = rw (bare_number false (ascii "length") n refl)

line_other : (l : Bytes) → ends CR l ≡ false → write_line l ≡ l ++ LF ∷ []
unfolding write_line
line_other l e = rw (e, write_line)

module _ (id : Bytes) (n : ℕ) (m u : Bytes) where
  abbrev optional : List Field
  optional = known_fields v4_5 KEY 0 (ascii "md5" ∷ ascii "URL" ∷ ascii "IDX" ∷ []) (word_of (given m) ∷ word_of (given u) ∷ None ∷ [])

  abbrev these : List Field
  these = write_field v4_5 KEY (ascii "ID") id ∷ write_field v4_5 KEY (ascii "length") (decimal n) ∷ optional

  -- the text of the fields
  abbrev texts : Bytes
  texts = written_field (field_by false (ascii "ID") id) ++ (44 ∷ ((ascii "length=" ++ decimal n) ++ (optional_text (ascii "md5") m ++ optional_text (ascii "URL") u)))

  optional_text_lem : write_more optional ≡ optional_text (ascii "md5") m ++ optional_text (ascii "URL") u
  unfolding same known_fields write_more
  optional_text_lem =
      optional_more (ascii "md5") refl m (ascii "URL" ∷ ascii "IDX" ∷ []) (word_of (given u) ∷ None ∷ [])
      ∙ ap (optional_text (ascii "md5") m ++◌) (optional_more (ascii "URL") refl u (ascii "IDX" ∷ []) (None ∷ []) ∙ append-nil (optional_text (ascii "URL") u))

  fields_text_lem : write_fields these ≡ texts
  unfolding write_fields write_more
  fields_text_lem = ap₂ ◌++◌ (ap written_field (plain_field (ascii "ID") id)) (ap (44 ∷◌) (ap₂ ◌++◌ (size_field n) optional_text_lem))

  record_is : contig_record (record { id = id; size = n; md5 = given m; url = given u }) ≡ fields KEY these
  unfolding contig_record record_of known_fields other_fields kind_of same
  record_is = ap (fields KEY) (append-nil these)

  -- as it is written, with its ending
  line_is : contig_line (record { id = id; size = n; md5 = given m; url = given u }) ≡ ascii "##contig=<" ++ (texts ++ 62 ∷ [])
  unfolding write_record
  line_is = ap write_record record_is ∙ ap (λ (t : Bytes). ascii "##contig=<" ++ (t ++ 62 ∷ [])) fields_text_lem

  line_text : write_line (contig_line (record { id = id; size = n; md5 = given m; url = given u }))
      ≡ opened_text id n ++ ((optional_text (ascii "md5") m ++ optional_text (ascii "URL") u) ++ 62 ∷ 10 ∷ [])
  unfolding opened_text
  line_text =
      ap write_line line_is ∙ line_other (ascii "##contig=<" ++ (texts ++ 62 ∷ [])) (ends_snoc CR (ascii "##contig=<" ++ texts) 62)
      ∙ ap (ascii "##contig=<" ++◌) (simp append_assoc)

module _ (l : Bytes) where
  pub optionals_put : {m u : Bytes} → m ≡ or_nothing (tagged (ascii "M5") (tags_at l 4)) → u ≡ or_nothing (tagged (ascii "UR") (tags_at l 4))
      → {out : Bytes} {at r : ℕ} {o : Bytes} → Wrote out at (optional_text (ascii "md5") m) r o → {r' : ℕ} {o' : Bytes} → Wrote o r (optional_text (ascii "URL") u) r' o'
      → Wrote out at (optionals_text l) r' o'
  unfolding optionals_text value_in
  optionals_put e f a b = rw (← e, ← f) (then a b)

  pub contig_put : (n : ℕ) {id : Bytes} → id ≡ value_in (ascii "SN") l → {out : Bytes} {at r : ℕ} {o : Bytes} → Wrote out at (opened_text id n) r o
      → {r₁ : ℕ} {o₁ : Bytes} → Wrote o r (optionals_text l) r₁ o₁ → {r₂ : ℕ} {o₂ : Bytes} → Wrote o₁ r₁ (62 ∷ 10 ∷ []) r₂ o₂
      → Wrote out at (write_line (contig_line (contig_in l n))) r₂ o₂
  unfolding contig_in optionals_text
  contig_put n e a b c = rw (← e, line_text) (then a (then b c))

-- Several lines

pub lines_append : (xs : List Bytes) (l : Bytes) → write_lines (xs ++ l ∷ []) ≡ write_lines xs ++ write_line l
unfolding write_lines
lines_append [] l = append-nil (write_line l)
lines_append (x ∷ xs) l = ap (write_line x ++◌) (lines_append xs l) ∙ sym (append_assoc (write_line x) (write_lines xs) (write_line l))

pub lines_snoc : (cs : List Contig) (c : Contig) → contig_lines (cs ++ c ∷ []) ≡ contig_lines cs ++ write_line (contig_line c)
unfolding contig_lines
lines_snoc cs c =
    ap write_lines (map-append (λ (c : Contig). contig_line c) cs (c ∷ [])) ∙ lines_append (map (λ (c : Contig). contig_line c) cs) (contig_line c)
