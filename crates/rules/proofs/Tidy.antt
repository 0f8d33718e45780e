-- A record as the house form writes it: it says the same, and is fine where the record as read is. Assumes nothing.
use Prim.Native.Nat.{ℕ, ◌-◌, ◌^◌}
use mathlib.Core.Path.{◌≡◌, refl, ap, ap₂, ◌∙◌}
use mathlib.Core.Bool.{Bool, true, false, false≢true}
use mathlib.Core.List.{List, [], ◌∷◌, ◌++◌, map}
use Rattle.std.specs.Prelude.{Option, None, Some}
use Rattle.values.specs.Bytes.{Bytes, ascii, same}
use Rattle.values.specs.Value.{meaning_of}
use Rattle.values.specs.Field.{Field}
use Rattle.values.specs.Integer.{is_plain, u64_read, decimal}
use Rattle.values.proofs.Tests.{pass, fail, test, or_l, or_r, or_on, both}
use Rattle.values.proofs.Lists.{OnSome}
use Rattle.values.proofs.Integers.{read_bound}
use Rattle.values.proofs.Decimals.{integer_decimal}
use Rattle.rules.specs.Version.{Version}
use Rattle.rules.specs.Known.{Kind, INFO, FILTER, FORMAT, ALT, contig, other, kind_of, is_in, known, numeric, name_of, tag_of}
use Rattle.rules.specs.Map.{field_named}
use Rattle.rules.specs.Record.{Record, fileformat, fields, text, key_of}
use Rattle.rules.specs.Meaning.{Known, number, word, known_value, known_of, tag_in, others, saying}
use Rattle.rules.specs.House.{is_written_quoted, write_field, write_known, name_of_tag, key_written, known_fields, other_fields, record_of}
use Rattle.values.proofs.Sames.{same_sound}
use Rattle.rules.proofs.Alls.{map_same, all_in}
use Rattle.rules.proofs.Names.{Fresh, name_plain, id_key}
use Rattle.rules.proofs.Checks.{named_yes, named_no, on_named}
use Rattle.rules.proofs.Fields.{meaning_back}
use Rattle.rules.specs.Claims.{All}

-- the first of two that there is
unfoldable or_else : {A : Type 0} → Option A → Option A → Option A
or_else None y = y
or_else (Some x) y = Some x

-- What is known of a value, written and known again

data SeenInteger (r : Option (ℕ × Bool)) : Type 0 where
  was_value : (n : ℕ) (p : Bool) → r ≡ Some (n, p) → SeenInteger r
  was_refused : r ≡ None → SeenInteger r

see_integer : (r : Option (ℕ × Bool)) → SeenInteger r
see_integer (Some (n, p)) = was_value n p refl
see_integer None = was_refused refl

-- a value that is kept as it stands, or the number that it spells
pub data SeenKnown (kind : Kind) (name t : Bytes) : Type 0 where
  as_number : (n : ℕ) (p : Bool) → is_in name (numeric kind) ≡ true → u64_read t ≡ Some (n, p) → known_value kind name t ≡ number n → u64_read (decimal n) ≡ Some (n, is_plain (decimal n)) → SeenKnown kind name t
  as_word : known_value kind name t ≡ word t → SeenKnown kind name t

pub see_known : (kind : Kind) (name t : Bytes) → SeenKnown kind name t
unfolding known_value
see_known kind name t = elim (test (is_in name (numeric kind))) [
  | pass e ↦ elim (see_integer (u64_read t)) [
    | was_value n p q ↦ as_number n p e q (rw (known_value, e, q)) (integer_decimal true (2 ^ 64 - 1) n (read_bound true (2 ^ 64 - 1) t q))
    | was_refused q ↦ as_word (rw (known_value, e, q))
  ]
  | fail e ↦ as_word (rw (known_value, e))
]

known_number : (kind : Kind) (name t : Bytes) (n : ℕ) {p : Bool} → is_in name (numeric kind) ≡ true → u64_read t ≡ Some (n, p) → known_value kind name t ≡ number n
unfolding known_value
known_number kind name t n e q = rw (known_value, e, q)

pub known_back : (kind : Kind) (name t : Bytes) → known_value kind name (write_known (known_value kind name t)) ≡ known_value kind name t
known_back kind name t = elim (see_known kind name t) [
  | as_number n p e q a b ↦ rw a (known_number kind name (decimal n) n e b)
  | as_word a ↦ rw a a
]

-- The fields of a map as written

module _ (v : Version) (k : Bytes) (tag : ℕ) where
  -- a known field's written key names it
  abbrev pub Named : Bytes → Type 0
  Named n = name_of v k (key_written tag n) ≡ n

  abbrev pub written_as : Bytes → Option Known → Option Field
  written_as n None = None
  written_as n (Some x) = Some (write_field v k (key_written tag n) (write_known x))

  find_absent : (n : Bytes) (ns : List Bytes) (xs : List (Option Known)) (rest : List Field) → is_in n ns ≡ false → All Named ns
      → field_named v k n (known_fields v k tag ns xs ++ rest) ≡ field_named v k n rest
  unfolding known_fields is_in
  find_absent n [] xs rest h a = refl
  find_absent n (m ∷ ns) [] rest h a = refl
  find_absent n (m ∷ ns) (None ∷ xs) rest h a = find_absent n ns xs rest (or_r (same m n) (is_in n ns) h) a.1
  find_absent n (m ∷ ns) (Some x ∷ xs) rest h a =
      named_no v k n _ _ (rw a.0 (or_l (same m n) (is_in n ns) h)) ∙ find_absent n ns xs rest (or_r (same m n) (is_in n ns) h) a.1

  fresh_notin : (m : Bytes) (seen ns : List Bytes) → is_in m seen ≡ true → Fresh seen ns → is_in m ns ≡ false
  unfolding is_in
  fresh_notin m seen [] h f = refl
  fresh_notin m seen (n ∷ ns) h f = elim (test (same n m)) [
    | pass e ↦ both h (rw (same_sound n m e) at f.0)
    | fail e ↦ rw e (fresh_notin m (n ∷ seen) ns (or_on (same n m) h) f.1)
  ]

  find_present : (g : Bytes → Option Known) (n : Bytes) (seen ns : List Bytes) (rest : List Field) → is_in n ns ≡ true → Fresh seen ns → All Named ns
      → field_named v k n (known_fields v k tag ns (map g ns) ++ rest) ≡ or_else (written_as n (g n)) (field_named v k n rest)
  unfolding known_fields is_in or_else
  find_present g n seen [] rest h f a = absurd (false≢true h)
  find_present g n seen (m ∷ ns) rest h f a = elim (test (same m n)) [
    | pass e ↦ here (g m) (ap g (same_sound m n e)) e
    | fail e ↦ later (g m) e (find_present g n (m ∷ seen) ns rest (rw e at h) f.1 a.1)
  ]
    where
      here : (x : Option Known) → x ≡ g n → same m n ≡ true → field_named v k n (known_fields v k tag (m ∷ ns) (x ∷ map g ns) ++ rest) ≡ or_else (written_as n (g n)) (field_named v k n rest)
      here None q e = find_absent n ns (map g ns) rest (fresh_notin n (m ∷ seen) ns (rw e) f.1) a.1 ∙ rw (← q)
      here (Some x) q e = named_yes v k n _ _ (rw a.0 e) ∙ rw (← q, same_sound m n e)

      later : (x : Option Known) → same m n ≡ false → field_named v k n (known_fields v k tag ns (map g ns) ++ rest) ≡ or_else (written_as n (g n)) (field_named v k n rest)
          → field_named v k n (known_fields v k tag (m ∷ ns) (x ∷ map g ns) ++ rest) ≡ or_else (written_as n (g n)) (field_named v k n rest)
      later None e ih = ih
      later (Some x) e ih = named_no v k n _ _ (rw a.0 e) ∙ ih

  -- a field that no known one is
  abbrev pub Other : List Bytes → Bytes × Bytes → Type 0
  Other ns p = is_in (name_of v k p.0) ns ≡ false

  find_other : (n : Bytes) (ns : List Bytes) (ps : List (Bytes × Bytes)) → is_in n ns ≡ true → All (Other ns) ps → field_named v k n (other_fields v k ps) ≡ None
  unfolding other_fields field_named
  find_other n ns [] h a = refl
  find_other n ns (p ∷ ps) h a = elim (test (same (name_of v k p.0) n)) [
    | pass e ↦ both h (rw (same_sound (name_of v k p.0) n e) at a.0)
    | fail e ↦ named_no v k n (write_field v k p.0 p.1) (other_fields v k ps) e ∙ find_other n ns ps h a.1
  ]

  -- the field of a known name is the one that was written for it
  pub find_known : (g : Bytes → Option Known) (n : Bytes) (ns : List Bytes) (ps : List (Bytes × Bytes)) → is_in n ns ≡ true → Fresh [] ns → All Named ns → All (Other ns) ps
      → field_named v k n (known_fields v k tag ns (map g ns) ++ other_fields v k ps) ≡ written_as n (g n)
  unfolding or_else
  find_known g n ns ps h f a o = find_present g n [] ns (other_fields v k ps) h f a ∙ rw (find_other n ns ps h o) (none_else (written_as n (g n)))
    where
      none_else : (x : Option Field) → or_else x None ≡ x
      none_else None = refl
      none_else (Some x) = refl

  pub others_yes : (f : Field) (fs : List Field) → is_in (name_of v k f.key) (known (kind_of k)) ≡ true → others v k (f ∷ fs) ≡ others v k fs
  unfolding others
  others_yes f fs e = rw (e, others)

  pub others_no : (f : Field) (fs : List Field) → is_in (name_of v k f.key) (known (kind_of k)) ≡ false → others v k (f ∷ fs) ≡ (f.key, meaning_of f.value) ∷ others v k fs
  unfolding others
  others_no f fs e = rw (e, others)

  -- known fields are none of the others
  others_known : (ns : List Bytes) (xs : List (Option Known)) (rest : List Field) → All Named ns → All (λ n. is_in n (known (kind_of k)) ≡ true) ns
      → others v k (known_fields v k tag ns xs ++ rest) ≡ others v k rest
  unfolding known_fields
  others_known [] xs rest a h = refl
  others_known (n ∷ ns) [] rest a h = refl
  others_known (n ∷ ns) (None ∷ xs) rest a h = others_known ns xs rest a.1 h.1
  others_known (n ∷ ns) (Some x ∷ xs) rest a h = others_yes _ _ (rw a.0 h.0) ∙ others_known ns xs rest a.1 h.1

  others_back : (ps : List (Bytes × Bytes)) → All (Other (known (kind_of k))) ps → others v k (other_fields v k ps) ≡ ps
  unfolding other_fields others
  others_back [] h = refl
  others_back (p ∷ ps) h =
      others_no (write_field v k p.0 p.1) (other_fields v k ps) h.0
      ∙ ap₂ ◌∷◌ (ap {B = Bytes × Bytes} (λ t. (p.0, t)) (meaning_back (is_written_quoted v k p.0 p.1) p.1)) (others_back ps h.1)

-- the fields that no known one is, are none
pub others_other : (v : Version) (k : Bytes) (fs : List Field) → All (Other v k 0 (known (kind_of k))) (others v k fs)
unfolding others
others_other v k [] = tt
others_other v k (f ∷ fs) = elim (test (is_in (name_of v k f.key) (known (kind_of k)))) [
  | pass e ↦ rw (others_yes v k 0 f fs e) (others_other v k fs)
  | fail e ↦ rw (others_no v k 0 f fs e) (e, others_other v k fs)
]

-- The names of each kind

pub known_fresh : (kind : Kind) → Fresh [] (known kind)
unfolding is_in same
known_fresh INFO = (refl, (refl, (refl, (refl, (refl, tt)))))
known_fresh FILTER = (refl, (refl, (refl, tt)))
known_fresh FORMAT = (refl, (refl, (refl, (refl, (refl, tt)))))
known_fresh ALT = (refl, (refl, tt))
known_fresh contig = (refl, (refl, (refl, (refl, (refl, tt)))))
known_fresh other = (refl, tt)

-- the tag's name names the ID, and every other known name itself
pub known_named_lem : (v : Version) (k : Bytes) (tag : ℕ) → name_of v k (name_of_tag tag) ≡ ascii "ID" → (kind : Kind) → All (Named v k tag) (known kind)
unfolding is_in same
known_named_lem v k tag h INFO = (h, (name_plain v k (ascii "Number") refl, (name_plain v k (ascii "Type") refl, (name_plain v k (ascii "Description") refl, (name_plain v k (ascii "IDX") refl, tt)))))
known_named_lem v k tag h FILTER = (h, (name_plain v k (ascii "Description") refl, (name_plain v k (ascii "IDX") refl, tt)))
known_named_lem v k tag h FORMAT = (h, (name_plain v k (ascii "Number") refl, (name_plain v k (ascii "Type") refl, (name_plain v k (ascii "Description") refl, (name_plain v k (ascii "IDX") refl, tt)))))
known_named_lem v k tag h ALT = (h, (name_plain v k (ascii "Description") refl, tt))
known_named_lem v k tag h contig = (h, (name_plain v k (ascii "length") refl, (name_plain v k (ascii "md5") refl, (name_plain v k (ascii "URL") refl, (name_plain v k (ascii "IDX") refl, tt)))))
known_named_lem v k tag h other = (h, tt)

pub id_known : (kind : Kind) → is_in (ascii "ID") (known kind) ≡ true
unfolding is_in same
id_known INFO = refl
id_known FILTER = refl
id_known FORMAT = refl
id_known ALT = refl
id_known contig = refl
id_known other = refl

pub units : {A : Type 0} (xs : List A) → All (λ x. Unit {0}) xs
units [] = tt
units (x ∷ xs) = (tt, units xs)

-- A map

module _ (v : Version) (k : Bytes) (fs : List Field) where
  abbrev kind : Kind
  kind = kind_of k

  abbrev pub tag : ℕ
  tag = tag_in (field_named v k (ascii "ID") fs)

  abbrev pub known_in : Bytes → Option Known
  known_in n = known_of kind n (field_named v k n fs)

  abbrev pub tidy : List Field
  tidy = known_fields v k tag (known kind) (map known_in (known kind)) ++ other_fields v k (others v k fs)

  pub tag_named : name_of v k (name_of_tag tag) ≡ ascii "ID"
  unfolding same
  tag_named = go (field_named v k (ascii "ID") fs) (on_named (λ f. Unit {0}) v k (ascii "ID") fs (units fs))
    where
      go : (x : Option Field) → OnSome (λ f. Unit {0} × (name_of v k f.key ≡ ascii "ID")) x → name_of v k (name_of_tag (tag_in x)) ≡ ascii "ID"
      go None h = name_plain v k (ascii "ID") refl
      go (Some f) h = rw (id_key v k f.key h.1) h.1

  -- the known field of a name, as it is written
  pub find_tidy : (n : Bytes) → is_in n (known kind) ≡ true → field_named v k n tidy ≡ written_as v k tag n (known_in n)
  find_tidy n h = find_known v k tag known_in n (known kind) (others v k fs) h (known_fresh kind) (known_named_lem v k tag tag_named kind) (others_other v k fs)

  pub others_tidy : others v k tidy ≡ others v k fs
  others_tidy =
      others_known v k tag (known kind) (map known_in (known kind)) (other_fields v k (others v k fs)) (known_named_lem v k tag tag_named kind) (all_in _ (known kind) (λ n h. h))
      ∙ others_back v k tag (others v k fs) (others_other v k fs)

  -- it is known as it was
  known_tidy : (n : Bytes) → is_in n (known kind) ≡ true → known_of kind n (field_named v k n tidy) ≡ known_in n
  known_tidy n h = rw (find_tidy n h) (go (field_named v k n fs))
    where
      go : (x : Option Field) → known_of kind n (written_as v k tag n (known_of kind n x)) ≡ known_of kind n x
      go None = refl
      go (Some f) =
          let t = write_known (known_value kind n (meaning_of f.value)) in
          ap Some (ap (known_value kind n) (meaning_back (is_written_quoted v k (key_written tag n) t) t) ∙ known_back kind n (meaning_of f.value))

  pub tag_tidy : tag_in (field_named v k (ascii "ID") tidy) ≡ tag
  unfolding same
  tag_tidy = rw (find_tidy (ascii "ID") (id_known kind)) (go (field_named v k (ascii "ID") fs) (on_named (λ f. Unit {0}) v k (ascii "ID") fs (units fs)))
    where
      go : (x : Option Field) → OnSome (λ f. Unit {0} × (name_of v k f.key ≡ ascii "ID")) x → tag_in (written_as v k (tag_in x) (ascii "ID") (known_of kind (ascii "ID") x)) ≡ tag_in x
      go None h = refl
      go (Some f) h = ap tag_of (id_key v k f.key h.1)

-- a record as the house form writes it
abbrev pub tidied : Version → Record → Record
tidied v r = record_of v (key_of r) (saying v r)

pub tidied_fields : (v : Version) (k : Bytes) (fs : List Field) → tidied v (fields k fs) ≡ fields k (tidy v k fs)
unfolding saying record_of
tidied_fields v k fs = refl

-- it says the same
pub saying_tidied : (v : Version) (r : Record) → saying v (tidied v r) ≡ saying v r
unfolding saying record_of
saying_tidied v (fileformat w) = refl
saying_tidied v (fields k fs) =
    rw (
      tag_tidy v k fs,
      others_tidy v k fs,
      map_same (λ n. known_of (kind_of k) n (field_named v k n (tidy v k fs))) (known_in v k fs) (known (kind_of k)) (all_in _ (known (kind_of k)) (known_tidy v k fs)),
    )
saying_tidied v (text k t) = refl
