-- Records: what is read of a line is good, and what the house form writes of it is read back. Assumes nothing.
use Prim.Native.Nat.{ℕ, ◌<◌}
use native.Mathlib.Omega.{arith}
use mathlib.Core.Path.{◌≡◌, refl, sym, ap, ap₂, ◌∙◌}
use mathlib.Core.Bool.{true, false, not, ◌&&◌, false≢true}
use mathlib.Core.List.{List, [], ◌∷◌, ◌++◌, tail, map}
use Rattle.std.specs.Prelude.{Option, None, Some}
use lib.Dec.{eqb}
use lib.ListN.{length, drop}
use borrow.Author.Tests.{eqb-true}
use Rattle.values.specs.Bytes.{Bytes, LF, ascii, is, empty, begins, any, before, from, same, starts}
use Rattle.values.specs.Utf8.{completes, followers}
use Rattle.values.specs.Value.{Value, quoted, bare, text_of, written, meaning_of}
use Rattle.values.specs.Field.{Field, written_field}
use Rattle.values.proofs.Tests.{pass, fail, test, or_r, and_l, and_r, not_true}
use Rattle.values.proofs.Lists.{OnSome, before_none, before_stop, from_stop}
use Rattle.values.proofs.Fields.{tail_is}
use Rattle.rules.specs.Answer.{ok}
use Rattle.rules.specs.Version.{Version, v4_3, since, read_version}
use Rattle.rules.specs.Known.{Kind, INFO, FILTER, FORMAT, ALT, contig, other, kind_of, is_typed, always_map, id_field, required, known, name_of, names_id}
use Rattle.rules.specs.Map.{is_some, is_meta, read_fields, field_named, missing, map_refusal, read_map}
use Rattle.rules.specs.Record.{Record, fileformat, fields, text, looks_map, is_map, fileformat_read, read_record_value, read_keyed, read_record}
use Rattle.rules.specs.Meaning.{known_value, known_of, tag_in, others, saying}
use Rattle.rules.specs.House.{write_field, write_known, name_of_tag, known_fields, other_fields, record_of, write_more, write_fields, write_record}
use Rattle.rules.proofs.Firsts.{OnOk, bind_ok, judged_ok, judged_zero, first_zero, zero_unless}
use Rattle.rules.proofs.Pure.{Pure, pure_nil, Plain, pure_cons, pure_append, pure_join, pure_rest, pure_tail, pure_cut}
use Rattle.rules.proofs.Versions.{version_sized, version_back, version_pure}
use Rattle.rules.proofs.Names.{name_other}
use Rattle.rules.proofs.Fields.{GoodField, StableField, fields_good, fields_back}
use Rattle.rules.proofs.Checks.{Fine, fine, not_refused, on_named}
use Rattle.rules.proofs.Tidy.{tag, known_in, tidy, tidied, units}
use Rattle.rules.proofs.Fits.{fit_stable, fit_good, tidy_all, fine_tidy}
use Rattle.rules.specs.Claims.{All, Sized}

pub record GoodKey (k : Bytes) : Type 0 where
  pub full : empty k ≡ false
  pub plain : any (is 61) k ≡ false
  pub pure : Pure k
  pub other : same k (ascii "fileformat") ≡ false

pub record GoodMap (v : Version) (k : Bytes) (fs : List Field) : Type 0 where
  pub key : GoodKey k
  pub good : All GoodField fs
  pub fine : Fine v k fs

pub record GoodText (v : Version) (k t : Bytes) : Type 0 where
  pub key : GoodKey k
  pub pure : Pure t
  pub no_map : is_map v k t ≡ false

abbrev pub GoodRecord : Version → Record → Type 0
GoodRecord v (fileformat w) = Sized w
GoodRecord v (fields k fs) = GoodMap v k fs
GoodRecord v (text k t) = GoodText v k t

-- What is read

format_good : (v : Version) (a : Option Version) → OnSome Sized a → OnOk (GoodRecord v) (fileformat_read a)
format_good v None h = tt
format_good v (Some w) h = h

map_good : (v : Version) (k x : Bytes) → GoodKey k → Pure x → OnOk (GoodMap v k) (read_map v k x)
unfolding read_map
map_good v k x g p = elim (test (begins 60 x)) [
  | pass e ↦
      let s = read_fields (is_meta v k) (always_map k) (tail x) in
      rw (read_map, e) (judged_ok (GoodMap v k) (map_refusal v k s) s.0
      (λ z. record { key = g; good = fields_good (is_meta v k) (always_map k) (tail x) (pure_tail 60 (tail x) (omega arith) (rw (tail_is 60 x e) at p)); fine = (fine v k s z).0 }))
  | fail e ↦ rw (read_map, e) tt
]

value_good : (v : Version) (k x : Bytes) → empty k ≡ false → any (is 61) k ≡ false → Pure k → Pure x → OnOk (GoodRecord v) (read_record_value v k x)
unfolding read_record_value
value_good v k x f n p q = elim (test (same k (ascii "fileformat"))) [
  | pass e ↦ rw (read_record_value, e) (format_good v (read_version x) (version_sized x))
  | fail e ↦ let g : GoodKey k = record { full = f; plain = n; pure = p; other = e } in
      elim (test (is_map v k x)) [
        | pass m ↦ rw (read_record_value, e, m) (bind_ok (GoodMap v k) (GoodRecord v) (read_map v k x) _ (map_good v k x g q) (λ fs h. h))
        | fail m ↦ rw (read_record_value, e, m) (record { key = g; pure = q; no_map = m })
      ]
]

keyed_good : (v : Version) (k r : Bytes) → any (is 61) k ≡ false → Pure k → Pure r → OnOk (GoodRecord v) (read_keyed v k r)
unfolding read_keyed
keyed_good v k r n p q = elim (test (not (empty k) && begins 61 r)) [
  | pass e ↦ rw (read_keyed, e) (value_good v k (tail r) (not_true (empty k) (and_l (not (empty k)) (begins 61 r) e)) n p
      (pure_tail 61 (tail r) (omega arith) (rw (tail_is 61 r (and_r (not (empty k)) (begins 61 r) e)) at q)))
  | fail e ↦ rw (read_keyed, e) tt
]

-- what begins with p is p and the rest
pub starts_is : (p l : Bytes) → starts p l ≡ true → l ≡ p ++ drop (length p) l
unfolding starts
starts_is [] l e = refl
starts_is (c ∷ p) [] e = absurd (false≢true e)
starts_is (c ∷ p) (b ∷ l) e = elim (test (eqb b c)) [
  | pass q ↦ ap₂ ◌∷◌ (eqb-true b c q) (starts_is p l (rw (starts, q) at e))
  | fail q ↦ absurd (false≢true (rw (starts, q) at e))
]

after_hashes : (l : Bytes) → starts (ascii "##") l ≡ true → Pure l → Pure (drop 2 l)
unfolding completes followers any
after_hashes l e h = pure_rest {xs = ascii "##"} (record { utf8 = refl; line = refl }) (rw (starts_is (ascii "##") l e) at h)

pub record_good : (v : Version) (l : Bytes) → Pure l → OnOk (GoodRecord v) (read_record v l)
unfolding read_record
record_good v l h = elim (test (starts (ascii "##") l)) [
  | pass e ↦ let d = pure_cut (is 61) (λ b q. omega (arith, eqb-true b 61 q)) (drop 2 l) (after_hashes l e h) in
      rw (read_record, e) (keyed_good v (before (is 61) (drop 2 l)) (from (is 61) (drop 2 l)) (before_none (is 61) (drop 2 l)) d.0 d.1)
  | fail e ↦ rw (read_record, e) tt
]

-- What is written

-- the ID comes first
known_first : (kind : Kind) → known kind ≡ ascii "ID" ∷ tail (known kind)
known_first INFO = refl
known_first FILTER = refl
known_first FORMAT = refl
known_first ALT = refl
known_first contig = refl
known_first other = refl

required_first : (kind : Kind) → required kind ≡ id_field ∷ tail (required kind)
required_first INFO = refl
required_first FILTER = refl
required_first FORMAT = refl
required_first ALT = refl
required_first contig = refl
required_first other = refl

pub id_given : (v : Version) (k : Bytes) (fs : List Field) → missing v k fs ≡ 0 → is_some (field_named v k (ascii "ID") fs) ≡ true
unfolding missing
id_given v k fs h = zero_unless (is_some (field_named v k (ascii "ID") fs)) 13 (first_zero _ _ (rw (required_first (kind_of k)) at h)).0

-- a map as written: its ID, then the rest
record First (v : Version) (k : Bytes) (fs : List Field) : Type 0 where
  id : Bytes
  rest : List Field
  is : tidy v k fs ≡ write_field v k (name_of_tag (tag v k fs)) id ∷ rest

first_field : (v : Version) (k : Bytes) (fs : List Field) → missing v k fs ≡ 0 → First v k fs
unfolding known_fields same
first_field v k fs h = go (field_named v k (ascii "ID") fs) refl (id_given v k fs h)
  where
    go : (x : Option Field) → field_named v k (ascii "ID") fs ≡ x → is_some x ≡ true → First v k fs
    go None e s = absurd (false≢true s)
    go (Some f) e s = record {
      id = write_known (known_value (kind_of k) (ascii "ID") (meaning_of f.value));
      rest = known_fields v k (tag v k fs) (tail (known (kind_of k))) (map (known_in v k fs) (tail (known (kind_of k)))) ++ other_fields v k (others v k fs);
      is =
          ap (λ (ns : List Bytes). known_fields v k (tag v k fs) ns (map (known_in v k fs) ns) ++ other_fields v k (others v k fs)) (known_first (kind_of k))
          ∙ ap (λ (x : Option Field). known_fields v k (tag v k fs) (ascii "ID" ∷ tail (known (kind_of k))) (known_of (kind_of k) (ascii "ID") x ∷ map (known_in v k fs) (tail (known (kind_of k)))) ++ other_fields v k (others v k fs)) e;
    }

-- a key that is no PEDIGREE has the ID under its own name
pub tag_none : (v : Version) (k : Bytes) (fs : List Field) → always_map k ≡ false → tag v k fs ≡ 0
unfolding always_map names_id same
tag_none v k fs h = go (field_named v k (ascii "ID") fs) (on_named (λ f. Unit {0}) v k (ascii "ID") fs (units fs))
  where
    go : (x : Option Field) → OnSome (λ f. Unit {0} × (name_of v k f.key ≡ ascii "ID")) x → tag_in x ≡ 0
    go None p = refl
    go (Some f) p =
        let e = sym (name_other v k f.key (rw (or_r (same k (ascii "META")) (same k (ascii "PEDIGREE")) h))) ∙ p.1 in
        rw e

-- what a map's value begins with
looks_map_lem : (v : Version) (k : Bytes) (fs : List Field) → missing v k fs ≡ 0 → is_map v k (60 ∷ (write_fields (tidy v k fs) ++ 62 ∷ [])) ≡ true
unfolding looks_map begins write_fields written_field starts
looks_map_lem v k fs h = elim (test (is_typed k)) [
  | pass e ↦ rw e
  | fail e ↦ elim (test (always_map k)) [
    | pass f ↦ rw (e, f)
    | fail f ↦ let d = first_field v k fs h in
        elim (test (since v4_3 v)) [
          | pass q ↦ rw (e, f, looks_map, q)
          | fail q ↦ rw (e, f, looks_map, q, d.is, tag_none v k fs f)
        ]
  ]
]

key_read : (v : Version) (k r : Bytes) → GoodKey k → read_record v (ascii "##" ++ (k ++ 61 ∷ r)) ≡ read_record_value v k r
unfolding read_record starts read_keyed begins
key_read v k r g =
    let b = before_stop (is 61) k 61 r g.plain refl in
    let f = from_stop (is 61) k 61 r g.plain refl in
    rw (b, f) (rw (g.full, read_keyed))

map_read : (v : Version) (k : Bytes) (gs : List Field) → Fine v k gs → read_fields (is_meta v k) (always_map k) (write_fields gs ++ 62 ∷ []) ≡ (gs, 0)
    → read_map v k (60 ∷ (write_fields gs ++ 62 ∷ [])) ≡ ok gs
unfolding read_map begins
map_read v k gs g e = rw e (judged_zero gs (not_refused v k gs g))

value_map : (v : Version) (k x : Bytes) (gs : List Field) → same k (ascii "fileformat") ≡ false → is_map v k x ≡ true → read_map v k x ≡ ok gs → read_record_value v k x ≡ ok (fields k gs)
unfolding read_record_value
value_map v k x gs e m r = rw (read_record_value, e, m, r)

value_text : (v : Version) (k x : Bytes) → same k (ascii "fileformat") ≡ false → is_map v k x ≡ false → read_record_value v k x ≡ ok (text k x)
unfolding read_record_value
value_text v k x e m = rw (read_record_value, e, m)

map_back : (v : Version) (k : Bytes) (fs : List Field) → GoodMap v k fs → read_record v (write_record (fields k (tidy v k fs))) ≡ ok (fields k (tidy v k fs))
unfolding write_record
map_back v k fs g =
    let d = first_field v k fs g.fine.whole in
    let s = tidy_all v k fs g.good g.fine (StableField (is_meta v k)) (fit_stable v k) in
    let b : read_fields (is_meta v k) (always_map k) (write_fields (tidy v k fs) ++ 62 ∷ []) ≡ (tidy v k fs, 0)
    = rw d.is (fields_back (is_meta v k) (always_map k) (write_field v k (name_of_tag (tag v k fs)) d.id) d.rest (rw d.is at s)) in
    key_read v k (60 ∷ (write_fields (tidy v k fs) ++ 62 ∷ [])) g.key
    ∙ value_map v k (60 ∷ (write_fields (tidy v k fs) ++ 62 ∷ [])) (tidy v k fs) g.key.other (looks_map_lem v k fs g.fine.whole)
    (map_read v k (tidy v k fs) (fine_tidy v k fs g.good g.fine) b)

-- a record after the fileformat line
abbrev pub Entered : Version → Record → Type 0
Entered v (fileformat w) = ⊥
Entered v (fields k fs) = GoodMap v k fs
Entered v (text k t) = GoodText v k t

pub record_back : (v : Version) (r : Record) → Entered v r → read_record v (write_record (tidied v r)) ≡ ok (tidied v r)
unfolding saying record_of write_record
record_back v (fileformat w) g = absurd g
record_back v (fields k fs) g = map_back v k fs g
record_back v (text k t) g = key_read v k t g.key ∙ value_text v k t g.key.other g.no_map

pub format_back : (v w : Version) → Sized w → read_record v (write_record (fileformat w)) ≡ ok (fileformat w)
unfolding read_record starts read_keyed begins read_record_value write_record any before from same
format_back v w g = rw (version_back w g)

-- it holds only what may stand in a line
plain : {c : ℕ} → c < 128 → eqb c LF ≡ false → Plain c
plain l o = record { ascii = l; other = o }

value_pure : (x : Value) → Pure (text_of x) → Pure (written x)
unfolding written
value_pure (quoted t) h = pure_cons (plain (omega arith) refl) (pure_join (plain (omega arith) refl) h pure_nil)
value_pure (bare t) h = h

field_pure : (f : Field) → GoodField f → Pure (written_field f)
unfolding written_field
field_pure f g = pure_join (plain (omega arith) refl) g.key (value_pure f.value g.text)

more_pure : (fs : List Field) → All GoodField fs → Pure (write_more fs)
unfolding write_more
more_pure [] h = pure_nil
more_pure (f ∷ fs) h = pure_cons (plain (omega arith) refl) (pure_append (field_pure f h.0) (more_pure fs h.1))

fields_pure : (fs : List Field) → All GoodField fs → Pure (write_fields fs)
unfolding write_fields
fields_pure [] h = pure_nil
fields_pure (f ∷ fs) h = pure_append (field_pure f h.0) (more_pure fs h.1)

hashes : Pure (ascii "##")
unfolding completes followers any
hashes = record { utf8 = refl; line = refl }

pub record_pure : (v : Version) (r : Record) → Entered v r → Pure (write_record (tidied v r))
unfolding saying record_of write_record
record_pure v (fileformat w) g = absurd g
record_pure v (fields k fs) g =
    pure_append hashes (pure_join (plain (omega arith) refl) g.key.pure (pure_cons (plain (omega arith) refl)
    (pure_join (plain (omega arith) refl) (fields_pure (tidy v k fs) (tidy_all v k fs g.good g.fine GoodField (fit_good v k))) pure_nil)))
record_pure v (text k t) g = pure_append hashes (pure_join (plain (omega arith) refl) g.key.pure g.pure)

pub format_pure : (w : Version) → Pure (write_record (fileformat w))
unfolding write_record completes followers any
format_pure w = pure_append {xs = ascii "##fileformat="} (record { utf8 = refl; line = refl }) (version_pure w)

pub not_column : (v : Version) (r : Record) → starts (ascii "#CHROM") (write_record (tidied v r)) ≡ false
unfolding saying record_of write_record starts
not_column v (fileformat w) = refl
not_column v (fields k fs) = refl
not_column v (text k t) = refl
