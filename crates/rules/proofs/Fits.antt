-- A fine map's fields as written are fine, and are read back. Assumes nothing.
use Prim.Native.Nat.{ℕ}
use mathlib.Core.Path.{◌≡◌, refl, sym, ap, ◌∙◌}
use mathlib.Core.Bool.{Bool, true, false, ◌&&◌, false≢true, and_assoc}
use mathlib.Core.List.{List, [], ◌∷◌, ◌++◌, map}
use Rattle.std.specs.Prelude.{Option, None, Some}
use Rattle.values.specs.Bytes.{Bytes, ascii, is, begins, any, same}
use Rattle.values.specs.Value.{Value, quoted, bare, text_of, meaning_of, value_of}
use Rattle.values.specs.Field.{Field, is_key, may_bracket}
use Rattle.values.specs.Integer.{u64_read, decimal}
use Rattle.values.proofs.Tests.{pass, fail, test, or_l, or_r, and_l, and_r, not_false, both}
use Rattle.values.proofs.Lists.{OnSome}
use Rattle.rules.specs.Answer.{unless, first}
use Rattle.rules.specs.Version.{Version, at_version}
use Rattle.rules.specs.Known.{Kind, INFO, FILTER, FORMAT, ALT, contig, other, kind_of, is_in, Reads, KnownField, any_text, a_number, a_type, an_integer, rows, required, known, numeric, row_named, name_of, read_number, count}
use Rattle.rules.specs.Reserved.{reserved_pages, look_row, reserved}
use Rattle.rules.specs.Map.{is_some, is_meta, misread, value_refusal, known_named, field_named, meaning_of_field as value_in, value_named, missing, misdeclared}
use Rattle.rules.specs.Meaning.{Known, known_value, known_of, others}
use Rattle.rules.specs.House.{closes, is_values, is_written_quoted, write_field, write_known, key_written, known_fields, other_fields}
use Rattle.values.proofs.Sames.{same_sound}
use Rattle.rules.proofs.Alls.{all_map, all_append, map_same, all_in}
use Rattle.rules.proofs.Pure.{Pure, pure_unescaped, pure_escape, pure_decimal}
use Rattle.rules.proofs.Names.{Fresh, Within, fresh_less, name_is, id_key}
use Rattle.rules.proofs.Fields.{GoodField, Stable, StableField, quoted_stable, bare_stable, brackets_stable, meaning_back}
use Rattle.rules.proofs.Checks.{names_of, Passes, Fine, on_named}
use Rattle.rules.proofs.Tidy.{as_number, as_word, see_known, Named, Other, written_as, others_yes, others_no, others_other, known_fresh, known_named_lem, id_known, tag, known_in, tidy, tag_named, find_tidy}
use Rattle.rules.specs.Claims.{All}

-- a key and a value's meaning that may stand in a map under k
pub record Fit (v : Version) (k key t : Bytes) : Type 0 where
  pub passes : value_refusal v (kind_of k) t (known_named v k key) ≡ 0
  pub legal : is_key key ≡ true
  pub plain : any (is 61) key ≡ false
  pub pure_key : Pure key
  pub pure_text : Pure t

meaning_pure : (x : Value) → Pure (text_of x) → Pure (meaning_of x)
meaning_pure (quoted t) h = pure_unescaped h
meaning_pure (bare t) h = h

pub fit_of : (v : Version) (k : Bytes) (f : Field) → GoodField f → Passes v k f → Fit v k f.key (meaning_of f.value)
fit_of v k f g p = record { passes = p; legal = g.legal; plain = g.plain; pure_key = g.key; pure_text = meaning_pure f.value g.text }

-- The house form's quotes

choice : (v : Version) (k key t : Bytes) → (q : Bool) → is_written_quoted v k key t ≡ q → Stable (may_bracket (is_meta v k) key) (value_of q t)
unfolding is_written_quoted
choice v k key t true e = quoted_stable (may_bracket (is_meta v k) key) t
choice v k key t false e = elim (test (is_values v k key t)) [
  | pass f ↦
      let c = not_false (closes 93 t) (rw f at (or_r (same key (ascii "Description")) _ e)) in
      let m = and_l (is_meta v k) (same key (ascii "Values") && begins 91 t) f in
      let w = and_r (is_meta v k) (same key (ascii "Values") && begins 91 t) f in
      rw (m, and_l (same key (ascii "Values")) (begins 91 t) w) (brackets_stable t (and_r (same key (ascii "Values")) (begins 91 t) w) c)
  | fail f ↦ bare_stable (may_bracket (is_meta v k) key) t (rw f at (or_r (same key (ascii "Description")) _ e)) (and_assoc (is_meta v k) _ _ ∙ f)
]

pub fit_stable : (v : Version) (k key t : Bytes) → Fit v k key t → StableField (is_meta v k) (write_field v k key t)
fit_stable v k key t h = record { legal = h.legal; plain = h.plain; value = choice v k key t (is_written_quoted v k key t) refl }

pub fit_passes : (v : Version) (k key t : Bytes) → Fit v k key t → Passes v k (write_field v k key t)
fit_passes v k key t h = rw (meaning_back (is_written_quoted v k key t) t) h.passes

spelled_pure : (q : Bool) (t : Bytes) → Pure t → Pure (text_of (value_of q t))
spelled_pure true t h = pure_escape h
spelled_pure false t h = h

pub fit_good : (v : Version) (k key t : Bytes) → Fit v k key t → GoodField (write_field v k key t)
fit_good v k key t h = record { legal = h.legal; plain = h.plain; key = h.pure_key; text = spelled_pure (is_written_quoted v k key t) t h.pure_text }

-- A number in the place of its spelling

all_member : (P : Bytes → Type 0) (n : Bytes) (ns : List Bytes) → All P ns → is_in n ns ≡ true → P n
unfolding is_in
all_member P n [] h e = absurd (false≢true e)
all_member P n (m ∷ ns) h e = elim (test (same m n)) [
  | pass q ↦ rw (same_sound m n q) at h.0
  | fail q ↦ all_member P n ns h.1 (rw q at e)
]

numeric_names : (kind : Kind) → All (λ n. same n (ascii "Type") ≡ false) (numeric kind)
unfolding same
numeric_names INFO = (refl, (refl, tt))
numeric_names FILTER = (refl, tt)
numeric_names FORMAT = (refl, (refl, tt))
numeric_names ALT = tt
numeric_names contig = (refl, (refl, tt))
numeric_names other = tt

pub number_count : (v : Version) (kind : Kind) (t : Bytes) {n : ℕ} {p : Bool} → u64_read t ≡ Some (n, p) → read_number v kind t ≡ Some (count n)
unfolding read_number
number_count v kind t e = rw e

abbrev is_type : Reads → Bool
is_type any_text = false
is_type a_number = false
is_type a_type = true
is_type an_integer = false

type_rows : (kind : Kind) → All (λ r. is_type r.reads ≡ same r.name (ascii "Type")) (rows kind)
unfolding same
type_rows INFO = (refl, (refl, (refl, (refl, (refl, tt)))))
type_rows FILTER = (refl, (refl, (refl, tt)))
type_rows FORMAT = (refl, (refl, (refl, (refl, (refl, tt)))))
type_rows ALT = (refl, (refl, tt))
type_rows contig = (refl, (refl, (refl, (refl, (refl, tt)))))
type_rows other = (refl, tt)

number_passes : (v : Version) (kind : Kind) (name : Bytes) (n : ℕ) {p : Bool} → same name (ascii "Type") ≡ false → u64_read (decimal n) ≡ Some (n, p)
    → (rs : List KnownField) → All (λ r. is_type r.reads ≡ same r.name (ascii "Type")) rs → value_refusal v kind (decimal n) (row_named name rs) ≡ 0
unfolding row_named
number_passes v kind name n d e [] h = refl
number_passes v kind name n d e (r ∷ rs) h = elim (test (same r.name name)) [
  | pass q ↦ rw (row_named, q) (go r.reads (h.0 ∙ rw (same_sound r.name name q) d))
  | fail q ↦ rw (row_named, q) (number_passes v kind name n d e rs h.1)
]
  where
    go : (x : Reads) → is_type x ≡ false → misread v kind (decimal n) x ≡ 0
    go any_text f = refl
    go a_number f = rw (number_count v kind (decimal n) e)
    go a_type f = absurd (false≢true (sym f))
    go an_integer f = rw e

-- a known value written anew fits under its own key
fit_known : (v : Version) (k key n t : Bytes) → Fit v k key t → name_of v k key ≡ n → Fit v k key (write_known (known_value (kind_of k) n t))
fit_known v k key n t h s = elim (see_known (kind_of k) n t) [
  | as_word a ↦ rw a h
  | as_number m p e q a b ↦
      let d = all_member (λ n. same n (ascii "Type") ≡ false) n (numeric (kind_of k)) (numeric_names (kind_of k)) e in
      rw a (record {
        passes = rw s (number_passes v (kind_of k) n m d b (rows (kind_of k)) (type_rows (kind_of k)));
        legal = h.legal;
        plain = h.plain;
        pure_key = h.pure_key;
        pure_text = pure_decimal m;
      })
]

-- A whole map

-- what each known field has, as it is written
known_all : (P : Field → Type 0) (v : Version) (k : Bytes) (tag : ℕ) (g : Bytes → Option Known) (ns : List Bytes)
    → All (λ n. OnSome (λ x. P (write_field v k (key_written tag n) (write_known x))) (g n)) ns → All P (known_fields v k tag ns (map g ns))
unfolding known_fields
known_all P v k tag g [] h = tt
known_all P v k tag g (n ∷ ns) h = go (g n) h.0 (known_all P v k tag g ns h.1)
  where
    go : (x : Option Known) → OnSome (λ x. P (write_field v k (key_written tag n) (write_known x))) x → All P (known_fields v k tag ns (map g ns))
        → All P (known_fields v k tag (n ∷ ns) (x ∷ map g ns))
    go None q r = r
    go (Some x) q r = (q, r)

-- what each other field has
others_all : (Q : Bytes → Bytes → Type 0) (v : Version) (k : Bytes) (fs : List Field) → All (λ f. Q f.key (meaning_of f.value)) fs → All (λ p. Q p.0 p.1) (others v k fs)
unfolding others
others_all Q v k [] h = tt
others_all Q v k (f ∷ fs) h = elim (test (is_in (name_of v k f.key) (known (kind_of k)))) [
  | pass e ↦ rw (others_yes v k 0 f fs e) (others_all Q v k fs h.1)
  | fail e ↦ rw (others_no v k 0 f fs e) (h.0, others_all Q v k fs h.1)
]

other_all : (P : Field → Type 0) (v : Version) (k : Bytes) (ps : List (Bytes × Bytes)) → All (λ p. P (write_field v k p.0 p.1)) ps → All P (other_fields v k ps)
unfolding other_fields
other_all P v k [] h = tt
other_all P v k (p ∷ ps) h = (h.0, other_all P v k ps h.1)

required_known : (kind : Kind) → All (λ r. is_in r.name (known kind) ≡ true) (required kind)
unfolding is_in same
required_known INFO = (refl, (refl, (refl, (refl, tt))))
required_known FILTER = (refl, (refl, tt))
required_known FORMAT = (refl, (refl, (refl, (refl, tt))))
required_known ALT = (refl, (refl, tt))
required_known contig = (refl, tt)
required_known other = (refl, tt)

pub reserved_none : (v : Version) (kind : Kind) (id : Bytes) → reserved_pages kind ≡ [] → reserved v kind id ≡ None
unfolding reserved look_row at_version
reserved_none v kind id e = rw (reserved, e)

-- The values of known names

module _ (v : Version) (k : Bytes) (fs : List Field) where
  given_tidy : (n : Bytes) → is_in n (known (kind_of k)) ≡ true → is_some (field_named v k n (tidy v k fs)) ≡ is_some (field_named v k n fs)
  given_tidy n h = rw (find_tidy v k fs n h) (go (field_named v k n fs))
    where
      go : (x : Option Field) → is_some (written_as v k (tag v k fs) n (known_of (kind_of k) n x)) ≡ is_some x
      go None = refl
      go (Some f) = refl

  pub missing_tidy : missing v k (tidy v k fs) ≡ missing v k fs
  unfolding missing
  missing_tidy = ap first (map_same _ _ (required (kind_of k)) (all_map (λ r. is_in r.name (known (kind_of k)) ≡ true) _ (required (kind_of k))
      (λ r h. ap (λ (b : Bool). unless b r.missing) (given_tidy r.name h)) (required_known (kind_of k))))

  -- a value of a known name is written as it is known
  value_tidy : (n : Bytes) → is_in n (known (kind_of k)) ≡ true → (Q : Bytes → Bytes → Type 0) → Q [] [] → ((t : Bytes) → Q (write_known (known_value (kind_of k) n t)) t)
      → Q (value_named v k n (tidy v k fs)) (value_named v k n fs)
  value_tidy n h Q z s = rw (find_tidy v k fs n h) (go (field_named v k n fs))
    where
      go : (x : Option Field) → Q (value_in (written_as v k (tag v k fs) n (known_of (kind_of k) n x))) (value_in x)
      go None = z
      go (Some f) =
          let t = write_known (known_value (kind_of k) n (meaning_of f.value)) in
          rw (meaning_back (is_written_quoted v k (key_written (tag v k fs) n) t) t) (s (meaning_of f.value))

  word_tidy : (n : Bytes) → is_in n (known (kind_of k)) ≡ true → is_in n (numeric (kind_of k)) ≡ false → value_named v k n (tidy v k fs) ≡ value_named v k n fs
  word_tidy n h d = value_tidy n h (λ a b. a ≡ b) refl (λ t. elim (see_known (kind_of k) n t) [ as_word a ↦ rw a | as_number m p e q a b ↦ both e d ])

  number_tidy : is_in (ascii "Number") (known (kind_of k)) ≡ true
      → read_number v (kind_of k) (value_named v k (ascii "Number") (tidy v k fs)) ≡ read_number v (kind_of k) (value_named v k (ascii "Number") fs)
  number_tidy h = value_tidy (ascii "Number") h (λ a b. read_number v (kind_of k) a ≡ read_number v (kind_of k) b) refl
      (λ t. elim (see_known (kind_of k) (ascii "Number") t) [
        | as_word a ↦ rw a
        | as_number m p e q a b ↦ rw a (number_count v (kind_of k) (decimal m) b ∙ sym (number_count v (kind_of k) t q))
      ])

  pub declared_tidy : misdeclared v k fs ≡ 0 → misdeclared v k (tidy v k fs) ≡ 0
  unfolding misdeclared is_in same
  declared_tidy h = go (kind_of k) refl
    where
      tableless : (kind : Kind) → kind_of k ≡ kind → reserved_pages kind ≡ [] → misdeclared v k (tidy v k fs) ≡ 0
      tableless kind e t = rw (reserved_none v (kind_of k) (value_named v k (ascii "ID") (tidy v k fs)) (ap reserved_pages e ∙ t))

      tabled : (kind : Kind) → kind_of k ≡ kind → is_in (ascii "ID") (known kind) ≡ true → is_in (ascii "Number") (known kind) ≡ true → is_in (ascii "Type") (known kind) ≡ true
          → is_in (ascii "ID") (numeric kind) ≡ false → is_in (ascii "Type") (numeric kind) ≡ false → misdeclared v k (tidy v k fs) ≡ 0
      tabled kind e a b c d f = rw (word_tidy (ascii "ID") (rw e a) (rw e d), number_tidy (rw e b), word_tidy (ascii "Type") (rw e c) (rw e f)) h

      go : (kind : Kind) → kind_of k ≡ kind → misdeclared v k (tidy v k fs) ≡ 0
      go INFO e = tabled INFO e refl refl refl refl refl
      go FILTER e = tableless FILTER e refl
      go FORMAT e = tabled FORMAT e refl refl refl refl refl
      go ALT e = tableless ALT e refl
      go contig e = tableless contig e refl
      go other e = tableless other e refl

  -- the ID is kept
  pub id_tidy : value_named v k (ascii "ID") (tidy v k fs) ≡ value_named v k (ascii "ID") fs
  unfolding is_in same
  id_tidy = word_tidy (ascii "ID") (id_known (kind_of k)) (go (kind_of k))
    where
      go : (kind : Kind) → is_in (ascii "ID") (numeric kind) ≡ false
      go INFO = refl
      go FILTER = refl
      go FORMAT = refl
      go ALT = refl
      go contig = refl
      go other = refl

module _ (v : Version) (k : Bytes) (fs : List Field) (good : All GoodField fs) (h : Fine v k fs) where
  abbrev kind : Kind
  kind = kind_of k

  abbrev T : ℕ
  T = tag v k fs

  fits : (gs : List Field) → All GoodField gs → All (Passes v k) gs → All (λ f. Fit v k f.key (meaning_of f.value)) gs
  fits [] g p = tt
  fits (f ∷ gs) g p = (fit_of v k f g.0 p.0, fits gs g.1 p.1)

  -- a known field stands under the key that it stood under
  key_kept : (n : Bytes) (f : Field) → field_named v k n fs ≡ Some f → name_of v k f.key ≡ n → key_written T n ≡ f.key
  key_kept n f e q = elim (test (same n (ascii "ID"))) [
    | pass w ↦
        let i : n ≡ ascii "ID" = same_sound n (ascii "ID") w in
        rw (key_written, w, ← i, e) (id_key v k f.key (q ∙ i))
    | fail w ↦ rw (key_written, w) (sym (name_is v k f.key n q w))
  ]

  known_fits : (n : Bytes) → OnSome (λ x. Fit v k (key_written T n) (write_known x)) (known_in v k fs n)
  known_fits n = go (field_named v k n fs) refl (on_named (λ f. Fit v k f.key (meaning_of f.value)) v k n fs (fits fs good h.passes))
    where
      go : (x : Option Field) → field_named v k n fs ≡ x → OnSome (λ f. Fit v k f.key (meaning_of f.value) × (name_of v k f.key ≡ n)) x
          → OnSome (λ x. Fit v k (key_written T n) (write_known x)) (known_of kind n x)
      go None e p = tt
      go (Some f) e p = rw (key_kept n f e p.1) (fit_known v k f.key n (meaning_of f.value) p.0 p.1)

  -- what every fit field has, every field as written has
  pub tidy_all : (P : Field → Type 0) → ((key t : Bytes) → Fit v k key t → P (write_field v k key t)) → All P (tidy v k fs)
  tidy_all P f =
      all_append P (known_fields v k T (known kind) (map (known_in v k fs) (known kind))) (other_fields v k (others v k fs))
      (known_all P v k T (known_in v k fs) (known kind) (all_in _ (known kind) (λ n _. lift n (known_in v k fs n) (known_fits n))))
      (other_all P v k (others v k fs) (all_map (λ (p : Bytes × Bytes). Fit v k p.0 p.1) (λ p. P (write_field v k p.0 p.1)) (others v k fs) (λ p q. f p.0 p.1 q)
      (others_all (Fit v k) v k fs (fits fs good h.passes))))
    where
      lift : (n : Bytes) (x : Option Known) → OnSome (λ x. Fit v k (key_written T n) (write_known x)) x → OnSome (λ x. P (write_field v k (key_written T n) (write_known x))) x
      lift n None q = tt
      lift n (Some x) q = f (key_written T n) (write_known x) q

  -- the names of the others are fresh among themselves
  fresh_others : (gs : List Field) (seen t : List Bytes) → Within seen [] t → Fresh seen (names_of v k gs) → Fresh t (names_of v k (other_fields v k (others v k gs)))
  unfolding others other_fields is_in
  fresh_others [] seen t w f = tt
  fresh_others (g ∷ gs) seen t w f = elim (test (is_in (name_of v k g.key) (known kind))) [
    | pass e ↦ rw (others_yes v k 0 g gs e) (fresh_others gs (name_of v k g.key ∷ seen) t (λ n p q. w n (or_r (same (name_of v k g.key) n) (is_in n seen) p) q) f.1)
    | fail e ↦ rw (others_no v k 0 g gs e) (
      w _ f.0 refl,
      fresh_others gs (name_of v k g.key ∷ seen) (name_of v k g.key ∷ t)
          (λ n p q. let m = name_of v k g.key in rw (or_l (same m n) (is_in n seen) p) (w n (or_r (same m n) (is_in n seen) p) q)) f.1,
    )
  ]

  others_apart : (gs : List Field) → All (λ n. is_in n (known kind) ≡ false) (names_of v k (other_fields v k (others v k gs)))
  unfolding other_fields
  others_apart gs = go (others v k gs) (others_other v k gs)
    where
      go : (ps : List (Bytes × Bytes)) → All (Other v k 0 (known kind)) ps → All (λ n. is_in n (known kind) ≡ false) (names_of v k (other_fields v k ps))
      go [] o = tt
      go (p ∷ ps) o = (o.0, go ps o.1)

  -- known names, some of them, then names that are none of them
  fresh_known : (ns : List Bytes) (xs : List (Option Known)) (seen t : List Bytes) (rest : List Field) → Fresh seen ns → All (Named v k T) ns → Within seen [] t
      → ((t' : List Bytes) → Within t ns t' → Fresh t' (names_of v k rest)) → Fresh t (names_of v k (known_fields v k T ns xs ++ rest))
  unfolding known_fields is_in
  fresh_known [] xs seen t rest f a w c = c t (λ n p q. p)
  fresh_known (n ∷ ns) [] seen t rest f a w c = c t (λ n p q. p)
  fresh_known (n ∷ ns) (None ∷ xs) seen t rest f a w c =
      fresh_known ns xs (n ∷ seen) t rest f.1 a.1 (λ m p q. w m (or_r (same n m) (is_in m seen) p) q)
      (λ t' u. c t' (λ m p q. u m p (or_r (same n m) (is_in m ns) q)))
  fresh_known (n ∷ ns) (Some x ∷ xs) seen t rest f a w c =
      rw a.0 (
        w n f.0 refl,
        fresh_known ns xs (n ∷ seen) (n ∷ t) rest f.1 a.1 (λ m p q. rw (or_l (same n m) (is_in m seen) p) (w m (or_r (same n m) (is_in m seen) p) q))
            (λ t' u. c t' (λ m p q. u m (rw (or_l (same n m) (is_in m ns) q) p) (or_r (same n m) (is_in m ns) q))),
      )

  fresh_tidy : Fresh [] (names_of v k (tidy v k fs))
  unfolding is_in
  fresh_tidy =
      fresh_known (known kind) (map (known_in v k fs) (known kind)) [] [] (other_fields v k (others v k fs)) (known_fresh kind) (known_named_lem v k T (tag_named v k fs) kind) (λ n p q. p)
      (λ t' u. fresh_less [] (known kind) t' (names_of v k (other_fields v k (others v k fs))) u (others_apart fs) (fresh_others fs [] [] (λ n p q. p) h.fresh))

  -- the map as written is fine
  pub fine_tidy : Fine v k (tidy v k fs)
  fine_tidy = record {
    passes = tidy_all (Passes v k) (fit_passes v k);
    fresh = fresh_tidy;
    whole = missing_tidy v k fs ∙ h.whole;
    declared = declared_tidy v k fs h.declared;
  }
