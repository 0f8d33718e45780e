-- Records put together by key: the same records, none beside another that it clashes with, and the same groups. Assumes nothing.
use Prim.Native.Nat.{◌+◌}
use native.Mathlib.Omega.{arith}
use mathlib.Core.Path.{◌≡◌, refl, sym, ap, ap₂, ◌∙◌}
use mathlib.Core.Bool.{true, false, ◌||◌, false≢true}
use mathlib.Core.List.{List, [], ◌∷◌, ◌++◌, map, append_assoc, append-nil, map-append}
use lib.ListN.{length, length-append, length-map}
use Rattle.values.specs.Bytes.{Bytes, same}
use Rattle.values.proofs.Tests.{pass, fail, test, or_l, or_r, or_on, both}
use Rattle.rules.specs.Version.{Version}
use Rattle.rules.specs.Known.{is_in, is_typed, typed_keys}
use Rattle.rules.specs.Record.{Record, fileformat, fields, text, key_of}
use Rattle.rules.specs.Reading.{id_of, is_fields, beside, clash}
use Rattle.rules.specs.Meaning.{saying, under, without, other_keys, groups}
use Rattle.rules.specs.House.{record_of, records_of}
use Rattle.rules.proofs.Firsts.{first_zero, zero_first, first_nil}
use Rattle.values.proofs.Sames.{same_sound, same_self, same_sym}
use Rattle.rules.proofs.Alls.{all_map, all_append, all_in, in_append}
use Rattle.rules.proofs.Tidy.{tidied, saying_tidied}
use Rattle.rules.proofs.Fits.{id_tidy}
use Rattle.rules.specs.Claims.{All}

-- the records of each of the keys
unfoldable pub arrange : List Bytes → List Record → List Record
arrange [] rs = []
arrange (k ∷ ks) rs = under k rs ++ arrange ks rs

pub under_yes : (k : Bytes) (r : Record) (rs : List Record) → same (key_of r) k ≡ true → under k (r ∷ rs) ≡ r ∷ under k rs
unfolding under
under_yes k r rs e = rw (e, under)

pub under_no : (k : Bytes) (r : Record) (rs : List Record) → same (key_of r) k ≡ false → under k (r ∷ rs) ≡ under k rs
unfolding under
under_no k r rs e = rw (e, under)

under_append : (k : Bytes) (xs ys : List Record) → under k (xs ++ ys) ≡ under k xs ++ under k ys
unfolding under
under_append k [] ys = refl
under_append k (r ∷ xs) ys = elim (test (same (key_of r) k)) [
  | pass e ↦ rw (under_yes k r (xs ++ ys) e, under_yes k r xs e, under_append k xs ys)
  | fail e ↦ rw (under_no k r (xs ++ ys) e, under_no k r xs e, under_append k xs ys)
]

-- each has the key
under_key : (k : Bytes) (rs : List Record) → All (λ r. key_of r ≡ k) (under k rs)
unfolding under
under_key k [] = tt
under_key k (r ∷ rs) = elim (test (same (key_of r) k)) [
  | pass e ↦ rw (under_yes k r rs e) (same_sound (key_of r) k e, under_key k rs)
  | fail e ↦ rw (under_no k r rs e) (under_key k rs)
]

under_all : (P : Record → Type 0) (k : Bytes) (rs : List Record) → All P rs → All P (under k rs)
unfolding under
under_all P k [] h = tt
under_all P k (r ∷ rs) h = elim (test (same (key_of r) k)) [
  | pass e ↦ rw (under_yes k r rs e) (h.0, under_all P k rs h.1)
  | fail e ↦ rw (under_no k r rs e) (under_all P k rs h.1)
]

-- what is under one key is all under it, and none under another
under_same : (k : Bytes) (xs : List Record) → All (λ r. key_of r ≡ k) xs → under k xs ≡ xs
unfolding under
under_same k [] h = refl
under_same k (r ∷ xs) h = under_yes k r xs (rw h.0 (same_self k)) ∙ ap (r ∷◌) (under_same k xs h.1)

under_other : (j k : Bytes) (xs : List Record) → same j k ≡ false → All (λ r. key_of r ≡ j) xs → under k xs ≡ []
unfolding under
under_other j k [] d h = refl
under_other j k (r ∷ xs) d h = under_no k r xs (rw h.0 d) ∙ under_other j k xs d h.1

-- each is none of those after it
abbrev pub Distinct : List Bytes → Type 0
Distinct [] = Unit {0}
Distinct (k ∷ ks) = (is_in k ks ≡ false) × Distinct ks

arrange_none : (k : Bytes) (ks : List Bytes) (rs : List Record) → is_in k ks ≡ false → under k (arrange ks rs) ≡ []
unfolding arrange is_in under
arrange_none k [] rs h = refl
arrange_none k (j ∷ ks) rs h =
    rw (under_append k (under j rs) (arrange ks rs), under_other j k (under j rs) (or_l (same j k) (is_in k ks) h) (under_key j rs))
    (arrange_none k ks rs (or_r (same j k) (is_in k ks) h))

-- every key has the records that it had
arrange_under : (k : Bytes) (ks : List Bytes) (rs : List Record) → Distinct ks → is_in k ks ≡ true → under k (arrange ks rs) ≡ under k rs
unfolding arrange is_in
arrange_under k [] rs d h = absurd (false≢true h)
arrange_under k (j ∷ ks) rs d h = elim (test (same j k)) [
  | pass e ↦
      let q = same_sound j k e in
      rw (under_append k (under j rs) (arrange ks rs), ← q, under_same j (under j rs) (under_key j rs), arrange_none j ks rs d.0) (append-nil (under j rs))
  | fail e ↦
      rw (under_append k (under j rs) (arrange ks rs), under_other j k (under j rs) e (under_key j rs)) (arrange_under k ks rs d.1 (rw e at h))
]

pub arrange_all : (P : Record → Type 0) (ks : List Bytes) (rs : List Record) → All P rs → All P (arrange ks rs)
unfolding arrange
arrange_all P [] rs h = tt
arrange_all P (k ∷ ks) rs h = all_append P (under k rs) (arrange ks rs) (under_all P k rs h) (arrange_all P ks rs h)

-- Tidied records

pub tidied_key : (v : Version) (r : Record) → key_of (tidied v r) ≡ key_of r
unfolding saying record_of
tidied_key v (fileformat w) = refl
tidied_key v (fields k fs) = refl
tidied_key v (text k t) = refl

tidied_fields? : (v : Version) (r : Record) → is_fields (tidied v r) ≡ is_fields r
unfolding saying record_of
tidied_fields? v (fileformat w) = refl
tidied_fields? v (fields k fs) = refl
tidied_fields? v (text k t) = refl

tidied_id : (v : Version) (r : Record) → id_of v (tidied v r) ≡ id_of v r
unfolding saying record_of
tidied_id v (fileformat w) = refl
tidied_id v (fields k fs) = id_tidy v k fs
tidied_id v (text k t) = refl

tidied_beside : (v : Version) (r s : Record) → beside v (tidied v r) (tidied v s) ≡ beside v r s
unfolding beside
tidied_beside v r s = rw (tidied_key v r, tidied_key v s, tidied_fields? v r, tidied_fields? v s, tidied_id v r, tidied_id v s)

under_tidied : (v : Version) (k : Bytes) (rs : List Record) → under k (map (tidied v) rs) ≡ map (tidied v) (under k rs)
unfolding under
under_tidied v k [] = refl
under_tidied v k (r ∷ rs) = elim (test (same (key_of r) k)) [
  | pass e ↦ under_yes k (tidied v r) (map (tidied v) rs) (rw (tidied_key v r) e) ∙ rw (under_tidied v k rs, under_yes k r rs e)
  | fail e ↦ under_no k (tidied v r) (map (tidied v) rs) (rw (tidied_key v r) e) ∙ rw (under_tidied v k rs, under_no k r rs e)
]

sayings_tidied : (v : Version) (rs : List Record) → map (saying v) (map (tidied v) rs) ≡ map (saying v) rs
sayings_tidied v [] = refl
sayings_tidied v (r ∷ rs) = ap₂ ◌∷◌ (saying_tidied v r) (sayings_tidied v rs)

-- the records that the house form writes
pub records_arranged : (v : Version) (ks : List Bytes) (rs : List Record) → records_of v (groups v ks rs) ≡ map (tidied v) (arrange ks rs)
unfolding records_of groups arrange
records_arranged v [] rs = refl
records_arranged v (k ∷ ks) rs = rw (records_arranged v ks rs, group (under k rs) (under_key k rs)) (sym (map-append (tidied v) (under k rs) (arrange ks rs)))
  where
    group : (xs : List Record) → All (λ r. key_of r ≡ k) xs → map (record_of v k) (map (saying v) xs) ≡ map (tidied v) xs
    group [] h = refl
    group (x ∷ xs) h = ap₂ ◌∷◌ (rw h.0) (group xs h.1)

-- they have the same groups
groups_arranged : (v : Version) (js ks : List Bytes) (rs : List Record) → Distinct ks → All (λ j. is_in j ks ≡ true) js
    → groups v js (map (tidied v) (arrange ks rs)) ≡ groups v js rs
unfolding groups
groups_arranged v [] ks rs d h = refl
groups_arranged v (j ∷ js) ks rs d h =
    rw (under_tidied v j (arrange ks rs), arrange_under j ks rs d h.0, sayings_tidied v (under j rs), groups_arranged v js ks rs d h.1)

-- The keys

pub without_yes : (k j : Bytes) (js : List Bytes) → same j k ≡ true → without k (j ∷ js) ≡ without k js
unfolding without
without_yes k j js e = rw (e, without)

pub without_no : (k j : Bytes) (js : List Bytes) → same j k ≡ false → without k (j ∷ js) ≡ j ∷ without k js
unfolding without
without_no k j js e = rw (e, without)

without_lacks : (k : Bytes) (ks : List Bytes) → is_in k (without k ks) ≡ false
unfolding without is_in
without_lacks k [] = refl
without_lacks k (j ∷ ks) = elim (test (same j k)) [
  | pass e ↦ rw (without_yes k j ks e) (without_lacks k ks)
  | fail e ↦ rw (without_no k j ks e, e) (without_lacks k ks)
]

without_same : (k : Bytes) (ks : List Bytes) → is_in k ks ≡ false → without k ks ≡ ks
unfolding without is_in
without_same k [] h = refl
without_same k (j ∷ ks) h = without_no k j ks (or_l (same j k) (is_in k ks) h) ∙ ap (j ∷◌) (without_same k ks (or_r (same j k) (is_in k ks) h))

without_less : (k j : Bytes) (ks : List Bytes) → is_in j ks ≡ false → is_in j (without k ks) ≡ false
unfolding without is_in
without_less k j [] h = refl
without_less k j (i ∷ ks) h = elim (test (same i k)) [
  | pass e ↦ rw (without_yes k i ks e) (without_less k j ks (or_r (same i j) (is_in j ks) h))
  | fail e ↦ rw (without_no k i ks e, or_l (same i j) (is_in j ks) h) (without_less k j ks (or_r (same i j) (is_in j ks) h))
]

distinct_without : (k : Bytes) (ks : List Bytes) → Distinct ks → Distinct (without k ks)
unfolding without
distinct_without k [] h = tt
distinct_without k (j ∷ ks) h = elim (test (same j k)) [
  | pass e ↦ rw (without_yes k j ks e) (distinct_without k ks h.1)
  | fail e ↦ rw (without_no k j ks e) (without_less k j ks h.0, distinct_without k ks h.1)
]

all_without : (P : Bytes → Type 0) (k : Bytes) (ks : List Bytes) → All P ks → All P (without k ks)
unfolding without
all_without P k [] h = tt
all_without P k (j ∷ ks) h = elim (test (same j k)) [
  | pass e ↦ rw (without_yes k j ks e) (all_without P k ks h.1)
  | fail e ↦ rw (without_no k j ks e) (h.0, all_without P k ks h.1)
]

pub keys_typed : (r : Record) (rs : List Record) → is_typed (key_of r) ≡ true → other_keys (r ∷ rs) ≡ other_keys rs
unfolding other_keys
keys_typed r rs e = rw (e, other_keys)

pub keys_other : (r : Record) (rs : List Record) → is_typed (key_of r) ≡ false → other_keys (r ∷ rs) ≡ key_of r ∷ without (key_of r) (other_keys rs)
unfolding other_keys
keys_other r rs e = rw (e, other_keys)

-- each has a record, and is not typed
abbrev Present : List Record → Bytes → Type 0
Present rs k = (r : Record) × (l : List Record) × (under k rs ≡ r ∷ l)

present_more : (r : Record) (rs : List Record) (k : Bytes) → Present rs k → Present (r ∷ rs) k
present_more r rs k p = elim (test (same (key_of r) k)) [
  | pass e ↦ (r, under k rs, under_yes k r rs e)
  | fail e ↦ (p.0, p.1, under_no k r rs e ∙ p.2)
]

keys_present : (rs : List Record) → All (λ k. Present rs k × (is_typed k ≡ false)) (other_keys rs)
unfolding other_keys
keys_present [] = tt
keys_present (r ∷ rs) =
    let more = all_map (λ k. Present rs k × (is_typed k ≡ false)) (λ k. Present (r ∷ rs) k × (is_typed k ≡ false)) (other_keys rs) (λ k p. (present_more r rs k p.0, p.1)) (keys_present rs) in
    elim (test (is_typed (key_of r))) [
      | pass e ↦ rw (keys_typed r rs e) more
      | fail e ↦ rw (keys_other r rs e) (((r, under (key_of r) rs, under_yes (key_of r) r rs (same_self (key_of r))), e), all_without (λ k. Present (r ∷ rs) k × (is_typed k ≡ false)) (key_of r) (other_keys rs) more)
    ]

keys_distinct : (rs : List Record) → Distinct (other_keys rs)
unfolding other_keys
keys_distinct [] = tt
keys_distinct (r ∷ rs) = elim (test (is_typed (key_of r))) [
  | pass e ↦ rw (keys_typed r rs e) (keys_distinct rs)
  | fail e ↦ rw (keys_other r rs e) (without_lacks (key_of r) (other_keys rs), distinct_without (key_of r) (other_keys rs) (keys_distinct rs))
]

-- the typed keys, then the others: each once
abbrev pub all_keys : List Record → List Bytes
all_keys rs = typed_keys ++ other_keys rs

distinct_append : (xs ys : List Bytes) → Distinct xs → Distinct ys → All (λ x. is_in x ys ≡ false) xs → Distinct (xs ++ ys)
distinct_append [] ys h k a = k
distinct_append (x ∷ xs) ys h k a = (in_append x xs ys ∙ rw h.0 a.0, distinct_append xs ys h.1 k a.1)

typed_apart : (k : Bytes) (ks : List Bytes) → is_typed k ≡ true → All (λ j. is_typed j ≡ false) ks → is_in k ks ≡ false
unfolding is_in
typed_apart k [] e h = refl
typed_apart k (j ∷ ks) e h = elim (test (same j k)) [
  | pass q ↦ both e (rw (same_sound j k q) at h.0)
  | fail q ↦ rw q (typed_apart k ks e h.1)
]

pub keys_apart : (rs : List Record) → Distinct (all_keys rs)
unfolding is_in same is_typed
keys_apart rs =
    let o = all_map (λ k. Present rs k × (is_typed k ≡ false)) (λ k. is_typed k ≡ false) (other_keys rs) (λ k p. p.1) (keys_present rs) in
    distinct_append typed_keys (other_keys rs) (refl, (refl, (refl, (refl, (refl, tt))))) (keys_distinct rs)
    (all_in (λ k. is_in k (other_keys rs) ≡ false) typed_keys (λ k h. typed_apart k (other_keys rs) h o))

-- the keys of records of one key, then others
keys_run : (k : Bytes) (r : Record) (xs ys : List Record) → is_typed k ≡ false → key_of r ≡ k → All (λ r. key_of r ≡ k) xs
    → other_keys (r ∷ xs ++ ys) ≡ k ∷ without k (other_keys ys)
keys_run k r [] ys t e h = keys_other r ys (rw e t) ∙ rw e
keys_run k r (s ∷ xs) ys t e h =
    let w = without k (other_keys ys) in
    keys_other r (s ∷ xs ++ ys) (rw e t) ∙ rw (e, keys_run k s xs ys t h.0 h.1) (ap (k ∷◌) (without_yes k k w (same_self k) ∙ without_same k w (without_lacks k (other_keys ys))))

keys_arrange : (ks : List Bytes) (rs : List Record) → Distinct ks → All (λ k. Present rs k × (is_typed k ≡ false)) ks → other_keys (arrange ks rs) ≡ ks
unfolding arrange other_keys
keys_arrange [] rs d p = refl
keys_arrange (k ∷ ks) rs d p =
    let a = rw p.0.0.2 at (under_key k rs) in
    rw p.0.0.2 (keys_run k p.0.0.0 p.0.0.1 (arrange ks rs) p.0.1 a.0 a.1
    ∙ rw (keys_arrange ks rs d.1 p.1) (ap (k ∷◌) (without_same k ks d.0)))

keys_typed_all : (xs ys : List Record) → All (λ r. is_typed (key_of r) ≡ true) xs → other_keys (xs ++ ys) ≡ other_keys ys
keys_typed_all [] ys h = refl
keys_typed_all (x ∷ xs) ys h = keys_typed x (xs ++ ys) h.0 ∙ keys_typed_all xs ys h.1

arrange_append : (js ks : List Bytes) (rs : List Record) → arrange (js ++ ks) rs ≡ arrange js rs ++ arrange ks rs
unfolding arrange
arrange_append [] ks rs = refl
arrange_append (j ∷ js) ks rs = rw (arrange_append js ks rs) (sym (append_assoc (under j rs) (arrange js rs) (arrange ks rs)))

arrange_typed : (ks : List Bytes) (rs : List Record) → All (λ k. is_typed k ≡ true) ks → All (λ r. is_typed (key_of r) ≡ true) (arrange ks rs)
unfolding arrange
arrange_typed [] rs h = tt
arrange_typed (k ∷ ks) rs h =
    all_append (λ r. is_typed (key_of r) ≡ true) (under k rs) (arrange ks rs)
    (all_map (λ r. key_of r ≡ k) (λ r. is_typed (key_of r) ≡ true) (under k rs) (λ r e. rw e h.0) (under_key k rs)) (arrange_typed ks rs h.1)

keys_tidied : (v : Version) (rs : List Record) → other_keys (map (tidied v) rs) ≡ other_keys rs
unfolding other_keys
keys_tidied v [] = refl
keys_tidied v (r ∷ rs) = elim (test (is_typed (key_of r))) [
  | pass e ↦ keys_typed (tidied v r) (map (tidied v) rs) (rw (tidied_key v r) e) ∙ keys_tidied v rs ∙ sym (keys_typed r rs e)
  | fail e ↦ keys_other (tidied v r) (map (tidied v) rs) (rw (tidied_key v r) e) ∙ rw (tidied_key v r, keys_tidied v rs) (sym (keys_other r rs e))
]

house_keys : (v : Version) (rs : List Record) → other_keys (map (tidied v) (arrange (all_keys rs) rs)) ≡ other_keys rs
unfolding is_typed
house_keys v rs =
    keys_tidied v (arrange (all_keys rs) rs)
    ∙ ap other_keys (arrange_append typed_keys (other_keys rs) rs)
    ∙ keys_typed_all (arrange typed_keys rs) (arrange (other_keys rs) rs) (arrange_typed typed_keys rs (all_in (λ k. is_typed k ≡ true) typed_keys (λ k h. h)))
    ∙ keys_arrange (other_keys rs) rs (keys_distinct rs) (keys_present rs)

-- the groups of the records that the house form writes
pub house_groups : (v : Version) (rs : List Record) → groups v (all_keys (map (tidied v) (arrange (all_keys rs) rs))) (map (tidied v) (arrange (all_keys rs) rs)) ≡ groups v (all_keys rs) rs
house_groups v rs = rw (house_keys v rs) (groups_arranged v (all_keys rs) (all_keys rs) rs (keys_apart rs) (all_in _ (all_keys rs) (λ n h. h)))

-- None clashes

-- no later record beside an earlier one
abbrev pub Apart : Version → List Record → Type 0
Apart v [] = Unit {0}
Apart v (r ∷ rs) = All (λ s. beside v s r ≡ 0) rs × Apart v rs

-- what the reader checks, one after another
abbrev pub Clear : Version → List Record → List Record → Type 0
Clear v seen [] = Unit {0}
Clear v seen (r ∷ rs) = (clash v r seen ≡ 0) × Clear v (seen ++ r ∷ []) rs

pub clash_all : (v : Version) (r : Record) (seen : List Record) → clash v r seen ≡ 0 → All (λ s. beside v r s ≡ 0) seen
unfolding clash
clash_all v r [] h = tt
clash_all v r (s ∷ seen) h = let z = first_zero (beside v r s) _ h in (z.0, clash_all v r seen (first_zero (clash v r seen) [] z.1).0)

pub all_clash : (v : Version) (r : Record) (seen : List Record) → All (λ s. beside v r s ≡ 0) seen → clash v r seen ≡ 0
unfolding clash
all_clash v r [] h = refl
all_clash v r (s ∷ seen) h = zero_first (beside v r s) _ h.0 (zero_first (clash v r seen) [] (all_clash v r seen h.1) first_nil)

pub all_split : {A : Type 0} (P : A → Type 0) (xs ys : List A) → All P (xs ++ ys) → All P xs × All P ys
all_split P [] ys h = (tt, h)
all_split P (x ∷ xs) ys h = let d = all_split P xs ys h.1 in ((h.0, d.0), d.1)

-- a record that goes with all before it, at the end
pub apart_snoc : (v : Version) (rs : List Record) (r : Record) → Apart v rs → clash v r rs ≡ 0 → Apart v (rs ++ r ∷ [])
apart_snoc v rs r a c = go rs a (clash_all v r rs c)
  where
    go : (xs : List Record) → Apart v xs → All (λ s. beside v r s ≡ 0) xs → Apart v (xs ++ r ∷ [])
    go [] a h = (tt, tt)
    go (x ∷ xs) a h = (all_append (λ s. beside v s x ≡ 0) xs (r ∷ []) a.0 (h.0, tt), go xs a.1 h.1)

pub clear : (v : Version) (seen rs : List Record) → Apart v rs → All (λ r. All (λ s. beside v r s ≡ 0) seen) rs → Clear v seen rs
clear v seen [] a h = tt
clear v seen (r ∷ rs) a h = (all_clash v r seen h.0, clear v (seen ++ r ∷ []) rs a.1 (add rs a.0 h.1))
  where
    add : (xs : List Record) → All (λ s. beside v s r ≡ 0) xs → All (λ x. All (λ s. beside v x s ≡ 0) seen) xs → All (λ x. All (λ s. beside v x s ≡ 0) (seen ++ r ∷ [])) xs
    add [] p q = tt
    add (x ∷ xs) p q = (all_append (λ s. beside v x s ≡ 0) seen (r ∷ []) q.0 (p.0, tt), add xs p.1 q.1)

pub beside_other : (v : Version) (r s : Record) → same (key_of s) (key_of r) ≡ false → beside v r s ≡ 0
unfolding beside
beside_other v r s e = rw e

apart_under : (v : Version) (k : Bytes) (rs : List Record) → Apart v rs → Apart v (under k rs)
unfolding under
apart_under v k [] a = tt
apart_under v k (r ∷ rs) a = elim (test (same (key_of r) k)) [
  | pass e ↦ rw (under_yes k r rs e) (under_all (λ s. beside v s r ≡ 0) k rs a.0, apart_under v k rs a.1)
  | fail e ↦ rw (under_no k r rs e) (apart_under v k rs a.1)
]

apart_append : (v : Version) (xs ys : List Record) → Apart v xs → Apart v ys → All (λ x. All (λ y. beside v y x ≡ 0) ys) xs → Apart v (xs ++ ys)
apart_append v [] ys a b h = b
apart_append v (x ∷ xs) ys a b h = (all_append (λ s. beside v s x ≡ 0) xs ys a.0 h.0, apart_append v xs ys a.1 b h.1)

-- no key of the records is k
arrange_keys : (ks : List Bytes) (rs : List Record) → All (λ r. is_in (key_of r) ks ≡ true) (arrange ks rs)
unfolding arrange is_in
arrange_keys [] rs = tt
arrange_keys (k ∷ ks) rs =
    all_append (λ r. is_in (key_of r) (k ∷ ks) ≡ true) (under k rs) (arrange ks rs)
    (all_map (λ r. key_of r ≡ k) (λ r. is_in (key_of r) (k ∷ ks) ≡ true) (under k rs) (λ r e. rw (e, same_self k)) (under_key k rs))
    (all_map (λ r. is_in (key_of r) ks ≡ true) (λ r. is_in (key_of r) (k ∷ ks) ≡ true) (arrange ks rs) (λ r h. or_on (same k (key_of r)) h) (arrange_keys ks rs))

pub apart_arrange : (v : Version) (ks : List Bytes) (rs : List Record) → Distinct ks → Apart v rs → Apart v (arrange ks rs)
unfolding arrange
apart_arrange v [] rs d a = tt
apart_arrange v (k ∷ ks) rs d a =
    apart_append v (under k rs) (arrange ks rs) (apart_under v k rs a) (apart_arrange v ks rs d.1 a)
    (all_map (λ r. key_of r ≡ k) (λ r. All (λ s. beside v s r ≡ 0) (arrange ks rs)) (under k rs)
    (λ r e. all_map (λ s. is_in (key_of s) ks ≡ true) (λ s. beside v s r ≡ 0) (arrange ks rs) (λ s h. beside_other v s r (rw e (other s h))) (arrange_keys ks rs))
    (under_key k rs))
  where
    other : (s : Record) → is_in (key_of s) ks ≡ true → same k (key_of s) ≡ false
    other s h = elim (test (same k (key_of s))) [
      | pass e ↦ both h (rw (same_sound k (key_of s) e) at d.0)
      | fail e ↦ e
    ]

pub apart_tidied : (v : Version) (rs : List Record) → Apart v rs → Apart v (map (tidied v) rs)
apart_tidied v [] a = tt
apart_tidied v (r ∷ rs) a = (go rs a.0, apart_tidied v rs a.1)
  where
    go : (xs : List Record) → All (λ s. beside v s r ≡ 0) xs → All (λ s. beside v s (tidied v r) ≡ 0) (map (tidied v) xs)
    go [] h = tt
    go (x ∷ xs) h = (tidied_beside v x r ∙ h.0, go xs h.1)

-- As many

-- the records under other keys
unfoldable over : Bytes → List Record → List Record
over k [] = []
over k (r ∷ rs) = elim (same (key_of r) k) [ true ↦ over k rs | false ↦ r ∷ over k rs ]

over_yes : (k : Bytes) (r : Record) (rs : List Record) → same (key_of r) k ≡ true → over k (r ∷ rs) ≡ over k rs
unfolding over
over_yes k r rs e = rw (e, over)

over_no : (k : Bytes) (r : Record) (rs : List Record) → same (key_of r) k ≡ false → over k (r ∷ rs) ≡ r ∷ over k rs
unfolding over
over_no k r rs e = rw (e, over)

count_parts : (k : Bytes) (rs : List Record) → length (under k rs) + length (over k rs) ≡ length rs
unfolding under over
count_parts k [] = refl
count_parts k (r ∷ rs) = elim (test (same (key_of r) k)) [
  | pass e ↦ rw (under_yes k r rs e, over_yes k r rs e) (omega (arith, count_parts k rs))
  | fail e ↦ rw (under_no k r rs e, over_no k r rs e) (omega (arith, count_parts k rs))
]

under_over : (j k : Bytes) (rs : List Record) → same k j ≡ false → under j (over k rs) ≡ under j rs
unfolding under over
under_over j k [] d = refl
under_over j k (r ∷ rs) d = elim (test (same (key_of r) k)) [
  | pass e ↦
      let n : same (key_of r) j ≡ false = rw (same_sound (key_of r) k e) d in
      rw (over_yes k r rs e) (under_over j k rs d ∙ sym (under_no j r rs n))
  | fail e ↦ elim (test (same (key_of r) j)) [
    | pass f ↦ rw (over_no k r rs e) (under_yes j r (over k rs) f ∙ ap (r ∷◌) (under_over j k rs d) ∙ sym (under_yes j r rs f))
    | fail f ↦ rw (over_no k r rs e) (under_no j r (over k rs) f ∙ under_over j k rs d ∙ sym (under_no j r rs f))
  ]
]

arrange_over : (ks : List Bytes) (k : Bytes) (rs : List Record) → is_in k ks ≡ false → arrange ks (over k rs) ≡ arrange ks rs
unfolding arrange is_in
arrange_over [] k rs h = refl
arrange_over (j ∷ ks) k rs h =
    ap₂ ◌++◌ (under_over j k rs (same_sym k j ∙ or_l (same j k) (is_in k ks) h)) (arrange_over ks k rs (or_r (same j k) (is_in k ks) h))

over_keys : (ks : List Bytes) (k : Bytes) (rs : List Record) → All (λ r. is_in (key_of r) (k ∷ ks) ≡ true) rs → All (λ r. is_in (key_of r) ks ≡ true) (over k rs)
unfolding over is_in
over_keys ks k [] h = tt
over_keys ks k (r ∷ rs) h = elim (test (same (key_of r) k)) [
  | pass e ↦ rw (over_yes k r rs e) (over_keys ks k rs h.1)
  | fail e ↦ rw (over_no k r rs e) (rw (same_sym k (key_of r) ∙ e) at h.0, over_keys ks k rs h.1)
]

count_arrange : (ks : List Bytes) (rs : List Record) → Distinct ks → All (λ r. is_in (key_of r) ks ≡ true) rs → length (arrange ks rs) ≡ length rs
unfolding arrange is_in
count_arrange [] [] d h = refl
count_arrange [] (r ∷ rs) d h = absurd (false≢true h.0)
count_arrange (k ∷ ks) rs d h =
    let c = count_arrange ks (over k rs) d.1 (over_keys ks k rs h) in
    let e : length (arrange ks rs) ≡ length (over k rs) = sym (ap length (arrange_over ks k rs d.0)) ∙ c in
    length-append (under k rs) (arrange ks rs) ∙ rw e (count_parts k rs)

in_without : (k j : Bytes) (ks : List Bytes) → same k j ≡ false → is_in j ks ≡ true → is_in j (without k ks) ≡ true
unfolding without is_in
in_without k j [] d h = h
in_without k j (i ∷ ks) d h = elim (test (same i k)) [
  | pass e ↦ rw (without_yes k i ks e) (in_without k j ks d (rw (same_sound i k e, d) at h))
  | fail e ↦ elim (test (same i j)) [
    | pass f ↦ rw (without_no k i ks e, f)
    | fail f ↦ rw (without_no k i ks e, f) (in_without k j ks d (rw f at h))
  ]
]

-- a key of an earlier list of records is one of a longer list's
key_later : (r : Record) (rs : List Record) (j : Bytes) → is_in j (other_keys rs) ≡ true → is_in j (other_keys (r ∷ rs)) ≡ true
unfolding is_in
key_later r rs j h = elim (test (is_typed (key_of r))) [
  | pass e ↦ rw (keys_typed r rs e) h
  | fail e ↦ elim (test (same (key_of r) j)) [
    | pass f ↦ rw (keys_other r rs e, f)
    | fail f ↦ rw (keys_other r rs e, f) (in_without (key_of r) j (other_keys rs) f h)
  ]
]

covered : (rs : List Record) → All (λ r. is_typed (key_of r) || is_in (key_of r) (other_keys rs) ≡ true) rs
unfolding is_in
covered [] = tt
covered (r ∷ rs) = (first, all_map (λ s. is_typed (key_of s) || is_in (key_of s) (other_keys rs) ≡ true) _ rs later (covered rs))
  where
    first : is_typed (key_of r) || is_in (key_of r) (other_keys (r ∷ rs)) ≡ true
    first = elim (test (is_typed (key_of r))) [
      | pass e ↦ rw e
      | fail e ↦ rw (e, keys_other r rs e, same_self (key_of r))
    ]

    later : (s : Record) → is_typed (key_of s) || is_in (key_of s) (other_keys rs) ≡ true → is_typed (key_of s) || is_in (key_of s) (other_keys (r ∷ rs)) ≡ true
    later s h = elim (test (is_typed (key_of s))) [
      | pass e ↦ rw e
      | fail e ↦ rw e (key_later r rs (key_of s) (rw e at h))
    ]

keys_cover : (rs : List Record) → All (λ r. is_in (key_of r) (all_keys rs) ≡ true) rs
unfolding is_typed
keys_cover rs = all_map (λ r. is_typed (key_of r) || is_in (key_of r) (other_keys rs) ≡ true) (λ r. is_in (key_of r) (all_keys rs) ≡ true) rs (λ r h. in_append (key_of r) typed_keys (other_keys rs) ∙ h) (covered rs)

pub house_count : (v : Version) (rs : List Record) → length (map (tidied v) (arrange (all_keys rs) rs)) ≡ length rs
house_count v rs = length-map (arrange (all_keys rs) rs) (tidied v) ∙ count_arrange (all_keys rs) rs (keys_apart rs) (keys_cover rs)
