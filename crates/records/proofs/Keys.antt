-- Keys by their case. Assumes nothing.
use Prim.Native.Nat.{ℕ, ◌+◌}
use mathlib.Core.Path.{◌≡◌, refl, sym, ap, ap₂, ◌∙◌}
use mathlib.Core.Bool.{Bool, true, false, not, ◌||◌, ◌&&◌}
use mathlib.Core.List.{List, [], ◌∷◌, map, tail}
use Rattle.std.specs.Prelude.{Option, Some}
use lib.Dec.{eqb}
use lib.ListN.{length}
use Rattle.values.specs.Bytes.{Bytes, ascii, begins, same}
use Rattle.values.specs.Field.{Field, written_field}
use Rattle.values.specs.Places.{text_at}
use Rattle.values.specs.declared.string.Text.{Text}
use Rattle.values.proofs.Tests.{pass, fail, test, not_true, not_false}
use Rattle.values.proofs.Sames.{same_sound, same_sym}
use Rattle.rules.specs.Answer.{unless, first, judged}
use Rattle.rules.specs.Version.{Version, v4_3, v4_5, earlier, since}
use Rattle.rules.specs.Known.{Kind, INFO, FILTER, FORMAT, ALT, contig, other, KnownField, required, is_in, kind_of, is_info, is_format, is_typed, always_map, names_id, name_of}
use Rattle.rules.specs.Map.{Scan, is_meta, is_some, read_fields, check_fields, field_named, missing, misdeclared, map_refusal, read_map}
use Rattle.rules.specs.Record.{looks_map, is_map}
use Rattle.rules.specs.Entry.{map_kind, text_named}
use Rattle.rules.specs.Spelling.{has_odd}
use Rattle.records.specs.Keys.{case_bytes, keys, among, key_named, Named, kind_by, is_meta_key, is_pedigree_key, context_of}
use Rattle.records.specs.Formats.{version_of}
use Rattle.records.specs.declared.file_format.FileFormat.{FileFormat}
use Rattle.records.specs.declared.key.MapContext.{MapContext}
use Rattle.records.specs.declared.key.MapKey.{MapKey}
use Rattle.records.specs.declared.key.MapKey.TheVariants.{Info, Filter, Format, AlternativeAllele, Contig, Meta, Pedigree, Other}

-- the keys are tried one after the other; q is what the code's test answered
pub key_here : (j : MapKey) (js : List MapKey) (k : Bytes) {q : Bool} → q ≡ same k (case_bytes j) → q ≡ true → j ≡ among (j ∷ js) k
unfolding among
key_here j js k a e = rw (among, sym a ∙ e)

pub key_later : (j : MapKey) (js : List MapKey) (k : Bytes) {q : Bool} → q ≡ same k (case_bytes j) → q ≡ false → {x : MapKey} → x ≡ among js k → x ≡ among (j ∷ js) k
unfolding among
key_later j js k a e f = rw (among, sym a ∙ e) f

pub key_none : (k : Bytes) → Other ≡ among [] k
unfolding among
key_none k = refl

pub ruleset tried = (key_here, key_later, key_none)

meta_case : (key : MapKey) → is_meta_key key ≡ same (case_bytes key) (ascii "META")
unfolding same
meta_case Info = refl
meta_case Filter = refl
meta_case Format = refl
meta_case AlternativeAllele = refl
meta_case Contig = refl
meta_case Meta = refl
meta_case Pedigree = refl
meta_case Other = refl

pedigree_case : (key : MapKey) → is_pedigree_key key ≡ same (case_bytes key) (ascii "PEDIGREE")
unfolding same
pedigree_case Info = refl
pedigree_case Filter = refl
pedigree_case Format = refl
pedigree_case AlternativeAllele = refl
pedigree_case Contig = refl
pedigree_case Meta = refl
pedigree_case Pedigree = refl
pedigree_case Other = refl

module _ (key : MapKey) {q : Bool} (a : q ≡ is_meta_key key) where
  is_meta_lem : {x : Bool} → q ≡ x → same (case_bytes key) (ascii "META") ≡ x
  is_meta_lem e = sym (meta_case key) ∙ sym a ∙ e

  pub meta_always : q ≡ true → true ≡ always_map (case_bytes key)
  unfolding always_map
  meta_always e = rw (is_meta_lem e)

  pub pedigree_always : q ≡ false → {p : Bool} → p ≡ is_pedigree_key key → p ≡ always_map (case_bytes key)
  unfolding always_map
  pedigree_always e b = rw (is_meta_lem e) (b ∙ pedigree_case key)

  pub no_brackets : (v : Version) → q ≡ false → false ≡ is_meta v (case_bytes key)
  no_brackets v e = rw (is_meta_lem e)

  pub meta_brackets : (v : Version) → q ≡ true → {e : Bool} → e ≡ earlier v v4_3 → not e ≡ is_meta v (case_bytes key)
  meta_brackets v e b = rw (is_meta_lem e, b)

module _ (key : MapKey) (v : Version) {q : Bool} (a : q ≡ is_pedigree_key key) where
  pub not_pedigree : q ≡ false → false ≡ (same (case_bytes key) (ascii "PEDIGREE") && earlier v v4_3)
  not_pedigree e = rw (← pedigree_case key, ← a, e)

  pub pedigree_lineage : q ≡ true → {e : Bool} → e ≡ earlier v v4_3 → e ≡ (same (case_bytes key) (ascii "PEDIGREE") && earlier v v4_3)
  pedigree_lineage e b = rw (← pedigree_case key, ← a, e) b

pub context_of_lem : (key : MapKey) (version : FileFormat) (start : ℕ) {b : Bool} → b ≡ is_meta (version_of version) (case_bytes key)
    → ◌≡◌ {A = MapContext} (record { key = key; version = version; brackets = b; start = start }) (context_of key version start)
context_of_lem key version start e = ap (λ (b : Bool). record { key = key; version = version; brackets = b; start = start }) e

pub ruleset always = (meta_always, pedigree_always)

pub ruleset brackets = (no_brackets, meta_brackets)

pub ruleset lineages = (not_pedigree, pedigree_lineage)

pub kind_by_case : (key : MapKey) → kind_of (case_bytes key) ≡ kind_by key
unfolding kind_of same
kind_by_case Info = refl
kind_by_case Filter = refl
kind_by_case Format = refl
kind_by_case AlternativeAllele = refl
kind_by_case Contig = refl
kind_by_case Meta = refl
kind_by_case Pedigree = refl
kind_by_case Other = refl

typed_kind : (key : MapKey) → not (eqb (map_kind (kind_by key)) 7) ≡ is_typed (case_bytes key)
unfolding is_typed is_in same
typed_kind Info = refl
typed_kind Filter = refl
typed_kind Format = refl
typed_kind AlternativeAllele = refl
typed_kind Contig = refl
typed_kind Meta = refl
typed_kind Pedigree = refl
typed_kind Other = refl

info_kind : (kind : Kind) → eqb (map_kind kind) 2 ≡ is_info kind
info_kind INFO = refl
info_kind FILTER = refl
info_kind FORMAT = refl
info_kind ALT = refl
info_kind contig = refl
info_kind other = refl

format_kind_lem : (kind : Kind) → eqb (map_kind kind) 4 ≡ is_format kind
format_kind_lem INFO = refl
format_kind_lem FILTER = refl
format_kind_lem FORMAT = refl
format_kind_lem ALT = refl
format_kind_lem contig = refl
format_kind_lem other = refl

-- the typed keys are those whose maps have a kind of their own
pub typed_by_kind : (key : MapKey) {n : ℕ} → n ≡ map_kind (kind_by key) → not (eqb n 7) ≡ is_typed (case_bytes key)
typed_by_kind key e = rw e (typed_kind key)

pub info_by_kind : (key : MapKey) {n : ℕ} → n ≡ map_kind (kind_by key) → eqb n 2 ≡ is_info (kind_by key)
info_by_kind key e = rw e (info_kind (kind_by key))

pub format_by_kind : (key : MapKey) {n : ℕ} → n ≡ map_kind (kind_by key) → eqb n 4 ≡ is_format (kind_by key)
format_by_kind key e = rw e (format_kind_lem (kind_by key))

module _ (kind : Kind) (v : Version) {q : Bool} (a : q ≡ is_format kind) where
  pub not_format : not q ≡ true → false ≡ (is_format kind && since v4_5 v)
  not_format h = rw (← a, not_true q h)

  pub format_since : not q ≡ false → {e : Bool} → e ≡ earlier v v4_5 → not e ≡ (is_format kind && since v4_5 v)
  format_since h b = rw (← a, not_false q h, b)

pub ruleset kinds = (info_by_kind, format_by_kind)

pub ruleset locals = (not_format, format_since)

-- a key, and its case
unformatted : (key : MapKey) → same (case_bytes key) (ascii "fileformat") ≡ false
unfolding same
unformatted Info = refl
unformatted Filter = refl
unformatted Format = refl
unformatted AlternativeAllele = refl
unformatted Contig = refl
unformatted Meta = refl
unformatted Pedigree = refl
unformatted Other = refl

known_key : (key : MapKey) (k : Bytes) → same k (case_bytes key) ≡ true → Named k key
known_key key k e = rw (same_sound k (case_bytes key) e) (record { kind = refl; typed = refl; always = refl; meta = refl; pedigree = refl; format = unformatted key })

pub record Unnamed (k : Bytes) : Type 0 where
  pub info : same k (ascii "INFO") ≡ false
  pub format : same k (ascii "FORMAT") ≡ false
  pub contig : same k (ascii "contig") ≡ false
  pub filter : same k (ascii "FILTER") ≡ false
  pub alt : same k (ascii "ALT") ≡ false
  pub meta : same k (ascii "META") ≡ false
  pub pedigree : same k (ascii "PEDIGREE") ≡ false
  pub fileformat : same k (ascii "fileformat") ≡ false

other_kind : (k : Bytes) → Unnamed k → kind_of k ≡ kind_of []
unfolding kind_of same
other_kind k u = rw (kind_of, u.info, u.filter, u.format, u.alt, u.contig)

other_typed : (k : Bytes) → Unnamed k → is_typed k ≡ is_typed []
unfolding is_typed is_in same
other_typed k u =
    rw (same_sym (ascii "INFO") k, same_sym (ascii "FILTER") k, same_sym (ascii "FORMAT") k, same_sym (ascii "ALT") k, same_sym (ascii "contig") k, u.info, u.filter, u.format, u.alt, u.contig)

other_always : (k : Bytes) → Unnamed k → always_map k ≡ always_map []
unfolding always_map same
other_always k u = rw (u.meta, u.pedigree)

named_other : (k : Bytes) → Unnamed k → Named k Other
unfolding same
named_other k u = record { kind = other_kind k u; typed = other_typed k u; always = other_always k u; meta = u.meta; pedigree = u.pedigree; format = u.fileformat }

-- none of these
abbrev NoneOf : List MapKey → Bytes → Type 0
NoneOf [] k = Unit {0}
NoneOf (j ∷ js) k = (same k (case_bytes j) ≡ false) × NoneOf js k

among_named : (js : List MapKey) (k : Bytes) → (NoneOf js k → Named k Other) → Named k (among js k)
unfolding among
among_named [] k f = f tt
among_named (j ∷ js) k f = elim (test (same k (case_bytes j))) [
  | pass e ↦ rw (among, e) (known_key j k e)
  | fail e ↦ rw (among, e) (among_named js k (λ a. f (e, a)))
]

-- a key has what its case has
pub named : (k : Bytes) → same k (ascii "fileformat") ≡ false → Named k (key_named k)
named k e = among_named keys k (λ a. named_other k (record {
  info = a.0;
  format = a.1.0;
  contig = a.1.1.0;
  filter = a.1.1.1.0;
  alt = a.1.1.1.1.0;
  meta = a.1.1.1.1.1.0;
  pedigree = a.1.1.1.1.1.1.0;
  fileformat = e;
}))

-- What the rules read of a map goes by the case of its key

module _ (v : Version) (k : Bytes) (key : MapKey) (n : Named k key) where
  pub name_by_case : (field : Bytes) → name_of v k field ≡ name_of v (case_bytes key) field
  unfolding name_of names_id
  name_by_case field = rw (name_of, names_id, n.pedigree)

  check_by_case : (seen : List Bytes) (fs : List Field) → check_fields v k seen fs ≡ check_fields v (case_bytes key) seen fs
  unfolding check_fields
  check_by_case seen [] = refl
  check_by_case seen (f ∷ fs) = rw (name_by_case f.key, n.kind, check_by_case (name_of v (case_bytes key) f.key ∷ seen) fs)

  field_by_case : (name : Bytes) (fs : List Field) → field_named v k name fs ≡ field_named v (case_bytes key) name fs
  unfolding field_named
  field_by_case name [] = refl
  field_by_case name (f ∷ fs) =
      ap₂ (λ (b : Bool) (o : Option Field). elim b [ true ↦ Some f | false ↦ o ]) (ap (λ (x : Bytes). same x name) (name_by_case f.key)) (field_by_case name fs)

  pub text_by_case : (name : Bytes) (at : ℕ) (fs : List Field) → text_named v k name at fs ≡ text_named v (case_bytes key) name at fs
  unfolding text_named
  text_by_case name at [] = refl
  text_by_case name at (f ∷ fs) =
      ap₂ (λ (b : Bool) (o : Option (Bytes × Text)). elim b [ true ↦ Some (f.key, text_at (at + length f.key + 1) f.value) | false ↦ o ])
      (ap (λ (x : Bytes). same x name) (name_by_case f.key)) (text_by_case name (at + length (written_field f) + 1) fs)

  pub odd_by_case : (fs : List Field) → has_odd v k fs ≡ has_odd v (case_bytes key) fs
  unfolding has_odd
  odd_by_case [] = refl
  odd_by_case (f ∷ fs) = rw (name_by_case f.key, n.kind, odd_by_case fs)

  asks_by_case : (fs : List Field) (rs : List KnownField) → map (λ (r : KnownField). unless (is_some (field_named v k r.name fs)) r.missing) rs
      ≡ map (λ (r : KnownField). unless (is_some (field_named v (case_bytes key) r.name fs)) r.missing) rs
  asks_by_case fs [] = refl
  asks_by_case fs (r ∷ rs) = ap₂ ◌∷◌ (ap (λ (o : Option Field). unless (is_some o) r.missing) (field_by_case r.name fs)) (asks_by_case fs rs)

  missing_by_case : (fs : List Field) → missing v k fs ≡ missing v (case_bytes key) fs
  unfolding missing
  missing_by_case fs = rw n.kind (ap first (asks_by_case fs (required (kind_of (case_bytes key)))))

  misdeclared_by_case : (fs : List Field) → misdeclared v k fs ≡ misdeclared v (case_bytes key) fs
  unfolding misdeclared
  misdeclared_by_case fs = rw (n.kind, field_by_case (ascii "ID") fs, field_by_case (ascii "Number") fs, field_by_case (ascii "Type") fs)

  refusal_by_case : (x : Scan) → map_refusal v k x ≡ map_refusal v (case_bytes key) x
  unfolding map_refusal
  refusal_by_case x = rw (check_by_case [] x.0, missing_by_case x.0, misdeclared_by_case x.0)

  pub map_by_case : (x : Bytes) → read_map v k x ≡ read_map v (case_bytes key) x
  unfolding read_map
  map_by_case x = elim (test (begins 60 x)) [
    | pass e ↦ rw (read_map, e, n.meta, n.always) (
        let s = read_fields (is_meta v (case_bytes key)) (always_map (case_bytes key)) (tail x) in
        ap (λ (m : ℕ). judged m s.0) (refusal_by_case s))
    | fail e ↦ rw (read_map, e)
  ]

  pub looks_by_case : (x : Bytes) → is_map v k x ≡ is_map v (case_bytes key) x
  looks_by_case x = ap₂ (λ (t a : Bool). t || (a || looks_map v x)) n.typed n.always
