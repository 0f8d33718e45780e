-- Document 02, §14: what was written, between a 4.5 fileformat line and a column line, is accepted, and its contigs are those of the SAM lines.
-- Assumes nothing.
use Prim.Native.Nat.{ℕ, suc, ◌+◌, ◌-◌, ◌^◌, ◌≤◌}
use native.Mathlib.Omega.{arith}
use mathlib.Core.Path.{◌≡◌, refl, sym, ap, ap₂, subst, ◌∙◌}
use mathlib.Core.Bool.{Bool, true, false, not}
use mathlib.Core.List.{List, [], ◌∷◌, ◌++◌, map, map-append}
use Rattle.std.specs.Prelude.{Option, None, Some, Ok}
use lib.Dec.{leb}
use lib.ListN.{length, drop, take, length-map}
use lib.Seq.{sets, sets-eq, take-append_seam}
use borrow.Author.Tests.{leb-true}
use Rattle.values.specs.Bytes.{Bytes, ascii, is, any, same, LF}
use Rattle.values.specs.Utf8.{completes, followers, is_utf8}
use Rattle.values.specs.Integer.{decimal}
use Rattle.values.specs.Value.{meaning_of}
use Rattle.values.specs.Field.{Field, is_key}
use Rattle.values.proofs.Tests.{pass, fail, test, or_l, or_r, not_true}
use Rattle.values.proofs.Lists.{OnSome}
use Rattle.values.proofs.Decimals.{integer_decimal}
use Rattle.rules.specs.Answer.{Answer, ok, refuse, ◌>>=◌, unless, first}
use Rattle.rules.specs.Sizes.{Limits}
use Rattle.rules.specs.Lines.{pieces, line_of, write_line, write_lines}
use Rattle.rules.specs.Version.{v4_5, earlier, at_version}
use Rattle.rules.specs.Known.{contig, is_in, is_typed, kind_of, row_named, names_id, name_of, known, numeric}
use Rattle.rules.specs.Reserved.{look_row, reserved}
use Rattle.rules.specs.Map.{value_refusal, known_named, field_named, missing, misdeclared}
use Rattle.rules.specs.Record.{Record, fields}
use Rattle.rules.specs.Columns.{Columns}
use Rattle.rules.specs.Reading.{beside_of, beside, clash, id_of, reading}
use Rattle.rules.specs.Meaning.{Known, number, word, Saying, lists, known_value, others, saying}
use Rattle.rules.specs.House.{is_written_quoted, write_field, known_fields, other_fields, record_of, write_record}
use Rattle.rules.specs.Claims.{All, Accepted}
use Rattle.rules.proofs.Alls.{all_append}
use Rattle.rules.proofs.Firsts.{OnOk, on_ok, bind_ok, judged_ok, zero_first, first_nil, zero_unless}
use Rattle.rules.proofs.Pure.{Pure, pure_decimal}
use Rattle.rules.proofs.Pieces.{Pieces, pieces_fine, piece_line}
use Rattle.rules.proofs.Names.{Fresh}
use Rattle.rules.proofs.Checks.{names_of, Passes}
use Rattle.rules.proofs.Fields.{GoodField, meaning_back}
use Rattle.rules.proofs.Fits.{Fit, fit_good, fit_passes}
use Rattle.rules.proofs.Samples.{GoodColumns, columns_good, columns_in}
use Rattle.rules.proofs.Records.{GoodMap, Entered}
use Rattle.rules.proofs.Tidy.{tidied, units}
use Rattle.rules.proofs.Groups.{Apart, apart_snoc, apart_tidied, clear}
use Rattle.rules.proofs.Back.{column_line, lines_back}
use Rattle.rules.proofs.House.{lines_fit}
use Rattle.sam.specs.Tags.{tags_of}
use Rattle.sam.specs.Contigs.{Contig, read_sequence, ids, add_contig, read_line, Contigs, read_lines, read_contigs, word_of, contig_says, contig_record, contig_line, contig_lines, contigs_fitting}
use Rattle.sam.specs.Answers.{contigs_number, ContigsMeaning, ContigsCall}
use Rattle.sam.specs.declared.contigs.ContigsAnswer.{ContigsAnswer}
use Rattle.sam.specs.Claims.{records, format_line, between, IsColumnLine, FitsBetween}
use Rattle.sam.proofs.ContigLines.{lines_append}
use Rattle.sam.proofs.Pure.{GoodContig, sequence_good}

-- A contig's record

abbrev KEY : Bytes
KEY = ascii "contig"

abbrev fields_of : Bytes → ℕ → Option Bytes → Option Bytes → List Field
fields_of id n m u = known_fields v4_5 KEY 0 (known contig) (Some (word id) ∷ Some (number n) ∷ word_of m ∷ word_of u ∷ None ∷ []) ++ other_fields v4_5 KEY []

-- keys and values, each as a field is written
abbrev Fits : Bytes × Bytes → Type 0
Fits p = Fit v4_5 KEY p.0 p.1

abbrev written_as : List (Bytes × Bytes) → List Field
written_as ps = map (λ (p : Bytes × Bytes). write_field v4_5 KEY p.0 p.1) ps

all_written : (P : Field → Type 0) → ((key t : Bytes) → Fit v4_5 KEY key t → P (write_field v4_5 KEY key t)) → (ps : List (Bytes × Bytes)) → All Fits ps → All P (written_as ps)
all_written P f [] h = tt
all_written P f (p ∷ ps) h = (f p.0 p.1 h.0, all_written P f ps h.1)

made : (ps : List (Bytes × Bytes)) → All Fits ps → Fresh [] (names_of v4_5 KEY (written_as ps)) → missing v4_5 KEY (written_as ps) ≡ 0 → misdeclared v4_5 KEY (written_as ps) ≡ 0
    → GoodMap v4_5 KEY (written_as ps)
unfolding any completes followers same
made ps h f m d = record {
  key = record { full = refl; plain = refl; pure = record { utf8 = refl; line = refl }; other = refl };
  good = all_written (λ f. GoodField f) (fit_good v4_5 KEY) ps h;
  fine = record { passes = all_written (Passes v4_5 KEY) (fit_passes v4_5 KEY) ps h; fresh = f; whole = m; declared = d };
}

fits_key : (key t : Bytes) → value_refusal v4_5 (kind_of KEY) t (known_named v4_5 KEY key) ≡ 0 → is_key key ≡ true → any (is 61) key ≡ false → is_utf8 key ≡ true → any (is LF) key ≡ false
    → Pure t → Fit v4_5 KEY key t
fits_key key t a b c d e h = record { passes = a; legal = b; plain = c; pure_key = record { utf8 = d; line = e }; pure_text = h }

good_map : (id : Bytes) (n : ℕ) (m u : Option Bytes) → Pure id → n ≤ 2147483647 → OnSome (λ t. Pure t) m → OnSome (λ t. Pure t) u → GoodMap v4_5 KEY (fields_of id n m u)
unfolding any completes followers same is_in row_named names_id name_of kind_of known_fields other_fields field_named missing misdeclared reserved at_version look_row earlier first
good_map id n m u p small = go m u
  where
    ID : Fits (ascii "ID", id)
    ID = fits_key (ascii "ID") id refl refl refl refl refl p

    size : Fits (ascii "length", decimal n)
    size = fits_key (ascii "length") (decimal n) (rw (integer_decimal true (2 ^ 64 - 1) n (omega arith))) refl refl refl refl (pure_decimal n)

    md5 : (t : Bytes) → Pure t → Fits (ascii "md5", t)
    md5 t h = fits_key (ascii "md5") t refl refl refl refl refl h

    URL : (t : Bytes) → Pure t → Fits (ascii "URL", t)
    URL t h = fits_key (ascii "URL") t refl refl refl refl refl h

    go : (m u : Option Bytes) → OnSome (λ t. Pure t) m → OnSome (λ t. Pure t) u → GoodMap v4_5 KEY (fields_of id n m u)
    go None None a b = made ((ascii "ID", id) ∷ (ascii "length", decimal n) ∷ []) (ID, (size, tt)) (refl, (refl, tt)) refl refl
    go None (Some u) a b = made ((ascii "ID", id) ∷ (ascii "length", decimal n) ∷ (ascii "URL", u) ∷ []) (ID, (size, (URL u b, tt))) (refl, (refl, (refl, tt))) refl refl
    go (Some m) None a b = made ((ascii "ID", id) ∷ (ascii "length", decimal n) ∷ (ascii "md5", m) ∷ []) (ID, (size, (md5 m a, tt))) (refl, (refl, (refl, tt))) refl refl
    go (Some m) (Some u) a b =
        made ((ascii "ID", id) ∷ (ascii "length", decimal n) ∷ (ascii "md5", m) ∷ (ascii "URL", u) ∷ []) (ID, (size, (md5 m a, (URL u b, tt)))) (refl, (refl, (refl, (refl, tt)))) refl refl

-- its record is one that may be entered
contig_entered : (c : Contig) → GoodContig c → Entered v4_5 (contig_record c)
unfolding contig_record record_of kind_of same
contig_entered c g = good_map c.id c.size c.md5 c.url g.id g.size g.md5 g.url

-- What it means

-- a value as it is written and known again
word_back : (name : Bytes) → is_in name (numeric contig) ≡ false → (t : Bytes) → known_value contig name (meaning_of (write_field v4_5 KEY name t).value) ≡ word t
unfolding known_value
word_back name h t = ap (known_value contig name) (meaning_back (is_written_quoted v4_5 KEY name t) t) ∙ rw (known_value, h)

size_back : (n : ℕ) → n ≤ 2147483647 → known_value contig (ascii "length") (meaning_of (write_field v4_5 KEY (ascii "length") (decimal n)).value) ≡ number n
unfolding known_value is_in same
size_back n h =
    ap (known_value contig (ascii "length")) (meaning_back (is_written_quoted v4_5 KEY (ascii "length") (decimal n)) (decimal n))
    ∙ rw (known_value, integer_decimal true (2 ^ 64 - 1) n (omega arith))

-- the known values of a contig line without IDX
abbrev says : Known → Known → Option Known → Option Known → Saying
says a b x y = lists 0 (Some a ∷ Some b ∷ x ∷ y ∷ None ∷ []) []

alike : {a a' b b' : Known} {x x' y y' : Option Known} → a ≡ a' → b ≡ b' → x ≡ x' → y ≡ y' → says a b x y ≡ says a' b' x' y'
alike e f g h = rw (e, f, g, h)

says_as : (id : Bytes) (n : ℕ) → n ≤ 2147483647 → (m u : Option Bytes) → saying v4_5 (fields KEY (fields_of id n m u)) ≡ says (word id) (number n) (word_of m) (word_of u)
unfolding same is_in names_id name_of kind_of known_fields other_fields field_named others saying
says_as id n small None None = alike (word_back (ascii "ID") refl id) (size_back n small) refl refl
says_as id n small None (Some u) = alike (word_back (ascii "ID") refl id) (size_back n small) refl (ap Some (word_back (ascii "URL") refl u))
says_as id n small (Some m) None = alike (word_back (ascii "ID") refl id) (size_back n small) (ap Some (word_back (ascii "md5") refl m)) refl
says_as id n small (Some m) (Some u) =
    alike (word_back (ascii "ID") refl id) (size_back n small) (ap Some (word_back (ascii "md5") refl m)) (ap Some (word_back (ascii "URL") refl u))

contig_says_lem : (c : Contig) → GoodContig c → saying v4_5 (contig_record c) ≡ contig_says c
unfolding contig_record record_of kind_of same
contig_says_lem c g = says_as c.id c.size g.size c.md5 c.url

contig_tidied : (c : Contig) → GoodContig c → tidied v4_5 (contig_record c) ≡ contig_record c
unfolding contig_record record_of kind_of same
contig_tidied c g = ap (record_of v4_5 KEY) (contig_says_lem c g)

contig_id : (c : Contig) → id_of v4_5 (contig_record c) ≡ c.id
unfolding contig_record record_of kind_of same known_fields other_fields field_named names_id name_of
contig_id c = meaning_back (is_written_quoted v4_5 KEY (ascii "ID") c.id) c.id

-- All of them

-- contigs that were read: each may be written, and no two have one ID
record Sound (cs : List Contig) : Type 0 where
  good : All (λ c. GoodContig c) cs
  apart : Apart v4_5 (records cs)

beside_other : (c d : Contig) → same d.id c.id ≡ false → beside v4_5 (contig_record c) (contig_record d) ≡ 0
unfolding beside contig_record record_of kind_of same
beside_other c d h = ap (λ (q : Bool). beside_of true true true q (is_typed KEY)) (ap₂ same (contig_id d) (contig_id c) ∙ h)

no_clash : (c : Contig) (cs : List Contig) → is_in c.id (ids cs) ≡ false → clash v4_5 (contig_record c) (records cs) ≡ 0
unfolding clash is_in
no_clash c [] h = refl
no_clash c (d ∷ cs) h =
    zero_first (beside v4_5 (contig_record c) (contig_record d)) _ (beside_other c d (or_l (same d.id c.id) _ h))
    (zero_first (clash v4_5 (contig_record c) (records cs)) [] (no_clash c cs (or_r (same d.id c.id) _ h)) first_nil)

sound_more : (cs : List Contig) (c : Contig) → Sound cs → GoodContig c → is_in c.id (ids cs) ≡ false → Sound (cs ++ c ∷ [])
sound_more cs c s g h = record {
  good = all_append (λ c. GoodContig c) cs (c ∷ []) s.good (g, tt);
  apart = rw (map-append (λ (c : Contig). contig_record c) cs (c ∷ [])) (apart_snoc v4_5 (records cs) (contig_record c) s.apart (no_clash c cs h));
}

line_sound : (cs : List Contig) (l : Bytes) → any (is LF) l ≡ false → Sound cs → OnOk (λ cs. Sound cs) (read_line cs l)
unfolding read_line
line_sound cs l n s = go (tags_of l) refl
  where
    go : (x : Option (List Bytes)) → tags_of l ≡ x → OnOk (λ cs. Sound cs) (elim x [ None ↦ ok cs | Some ts ↦ read_sequence l ts >>= add_contig cs ])
    go None e = s
    go (Some ts) e =
        bind_ok (λ c. GoodContig c) (λ cs. Sound cs) (read_sequence l ts) (add_contig cs) (sequence_good l ts n e)
        (λ c g. judged_ok (λ cs. Sound cs) (unless (not (is_in c.id (ids cs))) 43) (cs ++ c ∷ [])
        (λ z. sound_more cs c s g (not_true (is_in c.id (ids cs)) (zero_unless (not (is_in c.id (ids cs))) 42 z))))

lines_sound : (n start : ℕ) (cs : List Contig) (ps : List Bytes) → Pieces ps → Sound cs → Sound (read_lines n start cs ps).contigs
unfolding read_lines
lines_sound n start cs [] f s = s
lines_sound n start cs (p ∷ ps) f s =
    go (read_line cs (line_of p)) refl (line_sound cs (line_of p) (piece_line p f.0) s) (λ ds. lines_sound (suc n) (start + length p) ds ps f.1)
  where
    go : (x : Answer (List Contig)) → read_line cs (line_of p) ≡ x → OnOk (λ cs. Sound cs) x → ((ds : List Contig) → Sound ds → Sound (read_lines (suc n) (start + length p) ds ps).contigs)
        → Sound (read_lines n start cs (p ∷ ps)).contigs
    go (ok ds) e h more = rw (read_lines, e) (more ds h)
    go (refuse m) e h more = rw (read_lines, e) (record { good = tt; apart = tt })

sound : (sam : Bytes) → Sound (read_contigs sam).contigs
unfolding read_contigs
sound sam = lines_sound 0 0 [] (pieces sam) (pieces_fine sam) (record { good = tt; apart = tt })

-- Between a fileformat line and a column line

tidied_all : (cs : List Contig) → All (λ c. GoodContig c) cs → map (tidied v4_5) (records cs) ≡ records cs
tidied_all [] h = refl
tidied_all (c ∷ cs) h = ap₂ ◌∷◌ (contig_tidied c h.0) (tidied_all cs h.1)

entered_all : (cs : List Contig) → All (λ c. GoodContig c) cs → All (Entered v4_5) (records cs)
entered_all [] h = tt
entered_all (c ∷ cs) h = (contig_entered c h.0, entered_all cs h.1)

lines_of : (cs : List Contig) → map write_record (records cs) ≡ map (λ (c : Contig). contig_line c) cs
lines_of [] = refl
lines_of (c ∷ cs) = ap (contig_line c ∷◌) (lines_of cs)

module _ (lim : Limits) (room : ℕ) {l : Bytes} {c : Columns} (k : IsColumnLine l c) (sam : Bytes) (f : FitsBetween lim room l c (read_contigs sam).contigs) where
  abbrev cs : List Contig
  cs = (read_contigs sam).contigs

  abbrev text : List Bytes
  text = format_line ∷ (map write_record (map (tidied v4_5) (records cs)) ++ column_line c ∷ [])

  columns_fine : GoodColumns c
  columns_fine = on_ok (λ c. GoodColumns c) (columns_good l (record { utf8 = k.utf8; line = k.line })) k.read

  these : map write_record (map (tidied v4_5) (records cs)) ++ column_line c ∷ [] ≡ map (λ (c : Contig). contig_line c) cs ++ l ∷ []
  these = ap₂ (λ (ls : List Bytes) (x : Bytes). ls ++ x ∷ []) (ap (map write_record) (tidied_all cs (sound sam).good) ∙ lines_of cs) (on_ok _ (columns_in l) k.read)

  whole : write_lines text ≡ between l (contig_lines cs)
  unfolding write_lines contig_lines
  whole = ap (λ (ls : List Bytes). write_line format_line ++ write_lines ls) these ∙ ap (write_line format_line ++◌) (lines_append (map (λ (c : Contig). contig_line c) cs) l)

  -- it is accepted, with a record for each contig in file order
  pub contigs_accepted : Accepted v4_5 (records cs) c (reading lim None room (between l (contig_lines cs)))
  contigs_accepted =
      let e = entered_all cs (sound sam).good in
      let n : length (records cs) ≡ length cs = length-map cs (λ (c : Contig). contig_record c) in
      subst (λ (h : Bytes). Accepted v4_5 (records cs) c (reading lim None room h)) whole
      (subst (λ (rs : List Record). Accepted v4_5 rs c (reading lim None room (write_lines text))) (tidied_all cs (sound sam).good)
      (lines_back lim room v4_5 c columns_fine (records cs) (record { major = omega arith; minor = omega arith }) e
      (clear v4_5 [] (map (tidied v4_5) (records cs)) (apart_tidied v4_5 (records cs) (sound sam).apart) (units (map (tidied v4_5) (records cs))))
      (lines_fit lim v4_5 (records cs) c e columns_fine (rw these f.lines)) (rw whole f.header) (rw n f.table)))

-- and each record says ID, length, md5 and URL of its SAM line
pub contigs_kept : (sam : Bytes) → map (saying v4_5) (records (read_contigs sam).contigs) ≡ map (λ (c : Contig). contig_says c) (read_contigs sam).contigs
contigs_kept sam = go (read_contigs sam).contigs (sound sam).good
  where
    go : (cs : List Contig) → All (λ c. GoodContig c) cs → map (saying v4_5) (records cs) ≡ map (λ (c : Contig). contig_says c) cs
    go [] h = refl
    go (c ∷ cs) h = ap₂ ◌∷◌ (contig_says_lem c h.0) (go cs h.1)

-- The same of a call

-- an accepted call wrote these lines
pub lines_written : (sam out : Bytes) {r : ContigsAnswer} {out' : Bytes} → ContigsCall sam out r out' → r.outcome ≡ Ok tt
    → take r.length out' ≡ contig_lines (read_contigs sam).contigs
unfolding contigs_fitting
lines_written sam out {r} {out'} call a = elim (test (leb (length lines) (length out))) [
  | pass e ↦
      let f : contigs_fitting (length out) sam ≡ read_contigs sam = rw (contigs_fitting, e) in
      let n : r.length ≡ length lines = ap (λ (m : ContigsMeaning). m.size) call.answer ∙ ap (λ (y : Contigs). length (contig_lines y.contigs)) f in
      let o : out' ≡ sets out 0 lines = call.output ∙ ap (λ (y : Contigs). sets out 0 (contig_lines y.contigs)) f in
      let l : 0 + length lines ≤ length out = omega (arith, leb-true (length lines) (length out) e) in
      rw (n, o, sets-eq lines out 0 l) (take-append_seam lines (drop (0 + length lines) out))
  | fail e ↦
      let f : (contigs_fitting (length out) sam).number ≡ 28 = rw (contigs_fitting, e) in
      let z : ◌≡◌ {A = ℕ} 0 28 = ap contigs_number (sym a) ∙ ap (λ (m : ContigsMeaning). m.number) call.answer ∙ f in
      absurd (omega arith)
]
  where
    lines : Bytes
    lines = contig_lines (read_contigs sam).contigs

-- so that what it wrote is accepted between a fileformat line and a column line
pub written_accepted : (lim : Limits) (room : ℕ) {l : Bytes} {c : Columns} → IsColumnLine l c → (sam out : Bytes) {r : ContigsAnswer} {out' : Bytes} → ContigsCall sam out r out'
    → r.outcome ≡ Ok tt → FitsBetween lim room l c (read_contigs sam).contigs
    → Accepted v4_5 (records (read_contigs sam).contigs) c (reading lim None room (between l (take r.length out')))
written_accepted lim room k sam out call a f = rw (lines_written sam out call a) (contigs_accepted lim room k sam f)
