-- Marks: what they tell of the entries. Assumes nothing.
use Prim.Native.Nat.{ℕ, zero, suc, ◌+◌, ◌-◌, ◌*◌, ◌^◌, ◌≤◌, ◌<◌, max}
use native.Mathlib.Omega.{arith}
use mathlib.Core.Path.{◌≡◌, refl, sym, ap, subst, ◌∙◌}
use mathlib.Core.Bool.{Bool, true, false, not, ◌&&◌, false≢true, true≢false}
use mathlib.Core.List.{List, [], ◌∷◌, ◌++◌, append_assoc}
use lib.Dec.{eqb, leb, ltb}
use lib.ListN.{length, get_or, drop, take, length-append, length-drop, length-take}
use lib.Seq.{take_at, get_or-take, get_or-drop}
use borrow.Author.Tests.{eqb-true, eqb-false, ltb-true, ltb-false, leb-true, leb-false, lt-leb, le-leb, lt-ltb, le-ltb, ne_eqb, eq-eqb}
use mir.Syntax.{w64}
use mir.Val.{Fits}
use Rattle.values.specs.Bytes.{Bytes, is, any, before, starts, same}
use Rattle.values.specs.Value.{meaning}
use Rattle.values.specs.Hash.{wide_basis, wide_step, wide_from}
use Rattle.values.specs.Marks.{is_met, meet, is_noted}
use Rattle.values.proofs.Tests.{pass, fail, test, and_l, and_r, not_true, not_false}
use Rattle.values.proofs.Sames.{same_sound}
use Rattle.values.proofs.Lists.{before_none, before_stop}
use Rattle.values.proofs.Fields.{before_part}
use Rattle.values.proofs.Markings.{meet_length, meet_own, meet_kept, sure, none_met}
use Rattle.rules.specs.Known.{other}
use Rattle.rules.specs.Entry.{Entry, map_kind, text_kind}
use Rattle.rules.specs.Shown.{line_in, id_in, id_meaning}
use Rattle.entries.specs.declared.entry.Entry.{Entry as CodeEntry}
use Rattle.entries.specs.Values.{entry_of}
use Rattle.entries.specs.declared.form.Form.{Form}
use Rattle.entries.specs.Tables.{room, entries_in, entry_in}
use Rattle.entries.proofs.Stored.{entries_here, entries_past}
use Rattle.ids.specs.Clashes.{prefix_of, Prefixes, has_key, key_seen, is_of_key, is_of_id, id_seen, clash_by, clash_in}
use Rattle.ids.specs.Names.{key_hash, prefix_hash, under_hash, id_hash, other_sort, id_end, four_at, tail_hash}
use Rattle.ids.specs.Ahead.{hash_noted, quoted_noted, text_near, sort_noted, IdNamed, KeyNamed, Named}
use Rattle.ids.specs.Marks.{mark_under, mark_entry, Marked, id_noted, key_noted, MarkedFor, IdSpared, KeySpared, Spared, NextNear, mark_id, mark_key, mark_names, mark_noted, key_found, id_found, clash_found}
use Rattle.ids.proofs.Seen.{met_by}
use Rattle.rules.specs.Claims.{All, key_in}
use Rattle.rules.proofs.Records.{starts_is}

-- What is marked stays so

pub under_length : (h : Bytes) (key : ℕ) (e : Entry) (ms : List ℕ) → length (mark_under h key e ms) ≡ length ms
unfolding mark_under
under_length h key e ms = elim (test (ltb e.kind 7)) [
  | pass l ↦ rw (mark_under, l) (meet_length ms _)
  | fail l ↦ elim (test (eqb e.kind 7)) [
    | pass k ↦ rw (mark_under, l, k) (meet_length (meet ms (id_hash key e.kind (id_meaning h e))) _ ∙ meet_length ms _)
    | fail k ↦ rw (mark_under, l, k) (meet_length ms _)
  ]
]

-- the new entry is marked
pub entry_own : (h : Bytes) (e : Entry) (ms : List ℕ) → Marked h (mark_entry h e ms) e
unfolding mark_under
entry_own h e ms =
    let i = id_hash (key_hash h e) e.kind (id_meaning h e) in
    let u = under_hash (key_hash h e) e.kind in
    elim (test (ltb e.kind 7)) [
      | pass l ↦ rw (mark_under, l) (record { id = λ a b. meet_own ms i; key = λ a b. absurd (omega (arith, ltb-true e.kind 7 l)) })
      | fail l ↦ elim (test (eqb e.kind 7)) [
        | pass k ↦ rw (mark_under, l, k) (record { id = λ a b. meet_kept (meet ms i) u i (meet_own ms i); key = λ a b. meet_own (meet ms i) u })
        | fail k ↦
            let ne = eqb-false e.kind 7 k in
            rw (mark_under, l, k) (record { id = λ a b. absurd (ne (omega (arith, ltb-false e.kind 7 l))); key = λ a b. meet_own ms u })
      ]
    ]

one_kept : (h : Bytes) (key : ℕ) (e : Entry) (ms : List ℕ) (hash : ℕ) → is_met ms hash ≡ true → is_met (mark_under h key e ms) hash ≡ true
unfolding mark_under
one_kept h key e ms hash a =
    let i = id_hash key e.kind (id_meaning h e) in
    let u = under_hash key e.kind in
    elim (test (ltb e.kind 7)) [
      | pass l ↦ rw (mark_under, l) (meet_kept ms i hash a)
      | fail l ↦ elim (test (eqb e.kind 7)) [
        | pass k ↦ rw (mark_under, l, k) (meet_kept (meet ms i) u hash (meet_kept ms i hash a))
        | fail k ↦ rw (mark_under, l, k) (meet_kept ms u hash a)
      ]
    ]

-- what is marked is so whatever was noted
pub marked_for : (h : Bytes) (ns ms : List ℕ) (e : Entry) → Marked h ms e → MarkedFor h ns ms e
marked_for h ns ms e m = record { id = λ a b n. m.id a b; key = λ a b n. m.key a b }

-- where all that was met is so still
kept_for : (h : Bytes) (ns ms ms' : List ℕ) → ((hash : ℕ) → is_met ms hash ≡ true → is_met ms' hash ≡ true) → (es : List Entry) → All (MarkedFor h ns ms) es → All (MarkedFor h ns ms') es
kept_for h ns ms ms' f [] a = tt
kept_for h ns ms ms' f (x ∷ es) a = (record { id = λ b c n. f _ (a.0.id b c n); key = λ b c n. f _ (a.0.key b c n) }, kept_for h ns ms ms' f es a.1)

pub under_kept : (h : Bytes) (ns : List ℕ) (key : ℕ) (e : Entry) (ms : List ℕ) (es : List Entry) → All (MarkedFor h ns ms) es → All (MarkedFor h ns (mark_under h key e ms)) es
under_kept h ns key e ms = kept_for h ns ms (mark_under h key e ms) (one_kept h key e ms)

-- where there are no marks, all may have been met
pub unmarked_all : (h : Bytes) (ns : List ℕ) (es : List Entry) (ms : Bytes) → length ms ≡ 0 → All (MarkedFor h ns ms) es
unmarked_all h ns [] ms z = tt
unmarked_all h ns (e ∷ es) ms z = (record { id = λ a b n. sym (none_met ms _ z); key = λ a b n. sym (none_met ms _ z) }, unmarked_all h ns es ms z)

-- What the scans find is marked

-- under a key that holds no `=`, a line that begins with its prefix has the key
key_own : (k l : Bytes) → any (is 61) k ≡ false → starts (prefix_of k) l ≡ true → key_in l ≡ k
key_own k l n e =
    let r = drop (length (prefix_of k)) l in
    let d : drop 2 l ≡ k ++ 61 ∷ r = ap (drop 2) (starts_is (prefix_of k) l e) ∙ append_assoc k (61 ∷ []) r in
    ap (before (is 61)) d ∙ before_stop (is 61) k 61 r n refl

module _ (h : Bytes) (e : Entry) where
  hash_typed : e.kind < 7 → wide_basis ≡ key_hash h e
  unfolding key_hash
  hash_typed l = rw (key_hash, lt-ltb e.kind 7 l)

  hash_other : 7 ≤ e.kind → wide_from wide_basis (key_in (line_in h e)) ≡ key_hash h e
  unfolding key_hash
  hash_other l = rw (key_hash, le-ltb e.kind 7 l)

-- the hash by a line's `##key=` is that of its key
pub prefix_own : (h prefix : Bytes) (e : Entry) → prefix ≡ prefix_of (key_in (line_in h e)) → prefix_hash prefix e.kind ≡ key_hash h e
unfolding prefix_hash key_hash
prefix_own h prefix e own = elim (test (ltb e.kind 7)) [
  | pass l ↦ rw (prefix_hash, key_hash, l)
  | fail l ↦
      let k = key_in (line_in h e) in
      let n : length prefix ≡ 2 + length k + 1 = ap length own ∙ rw (length-append k (61 ∷ [])) (omega arith) in
      let m : length prefix - 1 - 2 ≡ length k = omega arith in
      rw (prefix_hash, key_hash, l, le-ltb (length prefix) 3 (omega arith), m, own) (ap (wide_from wide_basis) (take_at k (61 ∷ []) (length k) refl))
]

sort_small : (kind : ℕ) → (7 ≤ other_sort kind) × (other_sort kind ≤ 8)
unfolding other_sort
sort_small kind = elim (test (eqb kind 7)) [ pass k ↦ rw (other_sort, k) (omega arith, omega arith) | fail k ↦ rw (other_sort, k) (omega arith, omega arith) ]

-- e is the new entry, whose line begins with the prefix
module _ (h : Bytes) (ns ms : List ℕ) (prefix : Bytes) (e : Entry) (own : prefix ≡ prefix_of (key_in (line_in h e))) where
  key_is : (x : Entry) → starts prefix (line_in h x) ≡ true → key_in (line_in h x) ≡ key_in (line_in h e)
  key_is x s = key_own (key_in (line_in h e)) (line_in h x) (before_none (is 61) (drop 2 (line_in h e))) (ap (λ (p : Bytes). starts p (line_in h x)) (sym own) ∙ s)

  same_key : 7 ≤ e.kind → (x : Entry) → 7 ≤ x.kind → starts prefix (line_in h x) ≡ true → key_hash h x ≡ key_hash h e
  same_key l x m s = sym (hash_other h x m) ∙ ap (wide_from wide_basis) (key_is x s) ∙ hash_other h e l

  same_id_key : (x : Entry) → x.kind ≡ e.kind → is_of_key h prefix e.kind x ≡ true → key_hash h x ≡ key_hash h e
  unfolding is_of_key
  same_id_key x k u = elim (test (ltb e.kind 7)) [
    | pass l ↦ let t = ltb-true e.kind 7 l in sym (hash_typed h x (omega arith)) ∙ hash_typed h e t
    | fail l ↦ let t = ltb-false e.kind 7 l in same_key t x (omega arith) (rw l at u)
  ]

  key_marked : 7 ≤ e.kind → (kind : ℕ) → sort_noted ns kind ≡ true → hash_noted ns (under_hash (key_hash h e) kind) ≡ true → 7 ≤ kind → kind ≤ 8 → (es : List Entry) → All (MarkedFor h ns ms) es
      → key_seen h prefix kind es ≡ true → is_met ms (under_hash (key_hash h e) kind) ≡ true
  unfolding key_seen has_key
  key_marked o kind v w l m [] a f = absurd (false≢true f)
  key_marked o kind v w l m (x ∷ es) a f = elim (test (has_key h prefix kind x)) [
    | pass g ↦
        let k = eqb-true x.kind kind (and_l (eqb x.kind kind) (starts prefix (line_in h x)) g) in
        let s = and_r (eqb x.kind kind) (starts prefix (line_in h x)) g in
        let c = same_key o x (omega arith) s in
        subst (λ (c : ℕ). is_met ms (under_hash c kind) ≡ true) c
        (subst (λ (n : ℕ). is_met ms (under_hash (key_hash h x) n) ≡ true) k (a.0.key (omega arith) (omega arith) (rw (c, k, v, w))))
    | fail g ↦ key_marked o kind v w l m es a.1 (rw g at f)
  ]

  id_marked : 2 ≤ e.kind → e.kind ≤ 7 → IdNamed h ns e → (es : List Entry) → All (MarkedFor h ns ms) es → id_seen h prefix e.kind (id_meaning h e) es ≡ true
      → is_met ms (id_hash (key_hash h e) e.kind (id_meaning h e)) ≡ true
  unfolding id_seen is_of_id
  id_marked n l v [] a f = absurd (false≢true f)
  id_marked n l v (x ∷ es) a f = elim (test (is_of_id h prefix e.kind (id_meaning h e) x)) [
    | pass g ↦
        let k = eqb-true x.kind e.kind (and_l (eqb x.kind e.kind) (is_of_key h prefix e.kind x && same (id_meaning h x) (id_meaning h e)) g) in
        let r = and_r (eqb x.kind e.kind) (is_of_key h prefix e.kind x && same (id_meaning h x) (id_meaning h e)) g in
        let b = same_id_key x k (and_l (is_of_key h prefix e.kind x) (same (id_meaning h x) (id_meaning h e)) r) in
        let i = same_sound (id_meaning h x) (id_meaning h e) (and_r (is_of_key h prefix e.kind x) (same (id_meaning h x) (id_meaning h e)) r) in
        let hash : id_hash (key_hash h x) x.kind (id_meaning h x) ≡ id_hash (key_hash h e) e.kind (id_meaning h e) = rw (b, i, k) in
        let noted : id_noted h ns x ≡ true = rw (v.near x.quoted (id_in h x) i) (ap (hash_noted ns) hash ∙ v.hash) in
        subst (λ (n : ℕ). is_met ms n ≡ true) hash (a.0.id (omega arith) (omega arith) noted)
    | fail g ↦ id_marked n l v es a.1 (rw g at f)
  ]

  key_sure : 7 ≤ e.kind → KeyNamed h ns e → (es : List Entry) → All (MarkedFor h ns ms) es → key_found h es ms prefix (key_hash h e) (other_sort e.kind) ≡ key_seen h prefix (other_sort e.kind) es
  unfolding key_found
  key_sure o v es a =
      let s = sort_small e.kind in
      sure (is_met ms (under_hash (key_hash h e) (other_sort e.kind))) (key_seen h prefix (other_sort e.kind) es) (λ f. key_marked o (other_sort e.kind) v.sort v.hash s.0 s.1 es a f)

  id_sure : 2 ≤ e.kind → e.kind ≤ 7 → IdNamed h ns e → (es : List Entry) → All (MarkedFor h ns ms) es → id_found h es ms prefix (key_hash h e) e ≡ id_seen h prefix e.kind (id_meaning h e) es
  unfolding id_found
  id_sure n l v es a = sure (is_met ms (id_hash (key_hash h e) e.kind (id_meaning h e))) (id_seen h prefix e.kind (id_meaning h e) es) (λ f. id_marked n l v es a f)

-- of a typed kind no key is asked for
typed_only : (kind : ℕ) (i m n x y : Bool) → kind < 7 → clash_by kind i m x ≡ clash_by kind i n y
unfolding clash_by
typed_only kind i m n x y l = rw (clash_by, lt-ltb kind 7 l)

-- of a map only whether there are texts
map_only : (kind : ℕ) (i t x y : Bool) → kind ≡ 7 → clash_by kind i t x ≡ clash_by kind i t y
unfolding clash_by
map_only kind i t x y k = rw (clash_by, le-ltb kind 7 (omega arith), eq-eqb kind 7 k)

-- and past the maps no ID, and whether there are maps
other_clash : (kind : ℕ) (i j t s m : Bool) → 7 < kind → clash_by kind i t m ≡ clash_by kind j s m
unfolding clash_by
other_clash kind i j t s m l = rw (clash_by, le-ltb kind 7 (omega arith), ne_eqb kind 7 (λ k. omega arith))

-- where all entries are marked of which a name was noted, and its names were, what is not marked is not among them
pub clash_sure : (h : Bytes) (ns : List ℕ) (es : List Entry) (ms : List ℕ) (prefix : Bytes) (e : Entry) → Prefixes prefix (line_in h e) → 2 ≤ e.kind
    → Named h ns e → All (MarkedFor h ns ms) es → clash_found h es ms prefix e ≡ clash_in h es prefix e
unfolding other_sort
clash_sure h ns es ms prefix e own n v a =
    elim (test (ltb e.kind 7)) [
      | pass l ↦ let t = ltb-true e.kind 7 l in rw (id_sure h ns ms prefix e own.key n (omega arith) (v.id (omega arith)) es a) (typed_only e.kind _ _ _ _ _ t)
      | fail l ↦
          let t = ltb-false e.kind 7 l in
          let u = key_sure h ns ms prefix e own.key t (v.key t) es a in
          elim (test (eqb e.kind 7)) [
            | pass q ↦
                let k = eqb-true e.kind 7 q in
                let s : other_sort e.kind ≡ text_kind = rw (other_sort, q) in
                rw (id_sure h ns ms prefix e own.key n (omega arith) (v.id (omega arith)) es a, rw s at u) (map_only e.kind _ _ _ _ k)
            | fail q ↦
                let s : other_sort e.kind ≡ map_kind other = rw (other_sort, q) in
                rw (rw s at u) (other_clash e.kind _ _ _ _ _ (omega (arith, eqb-false e.kind 7 q)))
          ]
    ]

-- The last bytes of an ID

-- those of an ID that lies in the header are the ones that stand there
module _ (h : Bytes) (a n : ℕ) (long : 8 ≤ n) (inside : a + n ≤ length h) where
  here_length : length (take n (drop a h)) ≡ n
  here_length = length-take n (drop a h) ∙ omega (arith, length-drop a h)

  byte_here : (i : ℕ) → i < n → get_or (take n (drop a h)) i 0 ≡ get_or h (a + i) 0
  byte_here i l = get_or-take n (drop a h) i 0 l ∙ get_or-drop a h i 0

  four_here : (m : ℕ) → m + 4 ≤ n → four_at (take n (drop a h)) m ≡ four_at h (a + m)
  unfolding four_at
  four_here m l =
      let place : (i : ℕ) → a + m + i ≡ a + (m + i) = λ i. omega arith in
      rw (place 1, place 2, place 3, byte_here m (omega arith), byte_here (m + 1) (omega arith), byte_here (m + 2) (omega arith), byte_here (m + 3) (omega arith))

  tail_here : tail_hash (take n (drop a h)) (length (take n (drop a h))) ≡ tail_hash h (a + n)
  unfolding tail_hash
  tail_here =
      let far : a + n - 8 ≡ a + (n - 8) = omega arith in
      let near : a + n - 4 ≡ a + (n - 4) = omega arith in
      rw (here_length, far, near, four_here (n - 8) (omega arith), four_here (n - 4) (omega arith))

module _ (h : Bytes) (at : ℕ) {a b c d : ℕ} (ea : a ≡ get_or h at 0) (eb : b ≡ get_or h (at + 1) 0) (ec : c ≡ get_or h (at + 2) 0) (ed : d ≡ get_or h (at + 3) 0) where
  pub four_is : a + b * 256 + c * 65536 + d * 16777216 ≡ four_at h at
  unfolding four_at
  four_is = rw (ea, eb, ec, ed)

pub four_small : {a b c d : ℕ} → a ≤ 255 → b ≤ 255 → c ≤ 255 → d ≤ 255 → a + b * 256 + c * 65536 + d * 16777216 < 2 ^ 32
four_small f g i j = omega arith

pub ruleset fours = (four_is, four_small)

pub hash_is : (h : Bytes) (end : ℕ) {a : ℕ} → a ≡ four_at h (end - 8) → {b : ℕ} → b ≡ four_at h (end - 4) → (a + b * 33) * 39084873 ≡ tail_hash h end
unfolding tail_hash
hash_is h end e f = rw (e, f)

-- What the code computes

module _ (h : Bytes) (x : CodeEntry) where
  pub key_typed : x.kind < 7 → wide_basis ≡ key_hash h (entry_of x)
  key_typed l = hash_typed h (entry_of x) l

  pub key_other : 7 ≤ x.kind → {l : Bytes} → l ≡ line_in h (entry_of x) → {end : ℕ} → end ≡ 2 + length (before (is 61) (drop 2 l)) → {p : Bytes} → p ≡ take (end - 2) (drop 2 l)
      → {r : ℕ} → r ≡ wide_from wide_basis p → r ≡ key_hash h (entry_of x)
  key_other k {l} el ee ep er = er ∙ ap (wide_from wide_basis) (ep ∙ before_part (is 61) l 2 ee ∙ ap key_in el) ∙ hash_other h (entry_of x) k

  pub id_hashed : (key : ℕ) {u : ℕ} → u ≡ under_hash key x.kind → {p : Bytes} → p ≡ id_in h (entry_of x) → {r : ℕ} → r ≡ wide_from u (meaning x.quoted p)
      → r ≡ id_hash key x.kind (id_meaning h (entry_of x))
  unfolding id_hash
  id_hashed key eu ep er = er ∙ rw (eu, ep)

pub under_hashed : (key kind : ℕ) {r : ℕ} → r ≡ wide_step key kind → r ≡ under_hash key kind
unfolding under_hash
under_hashed key kind e = e

pub ruleset hashes = (key_typed, key_other, id_hashed, under_hashed)

-- m is what the marks answered
module _ (h : Bytes) (es : List Entry) (ms : List ℕ) (prefix : Bytes) (key kind : ℕ) {hash : ℕ} (eh : hash ≡ under_hash key kind) {m : Bool} (e : m ≡ is_met ms hash) where
  pub key_unmarked : m ≡ false → false ≡ key_found h es ms prefix key kind
  unfolding key_found
  key_unmarked f = rw (← eh, ← e, f)

  pub key_looked : m ≡ true → {r : Bool} → r ≡ key_seen h prefix kind es → r ≡ key_found h es ms prefix key kind
  unfolding key_found
  key_looked f g = g ∙ rw (← eh, ← e, f)

module _ (h : Bytes) (es : List Entry) (ms : List ℕ) (prefix : Bytes) (key : ℕ) (x : CodeEntry) {hash : ℕ} (eh : hash ≡ id_hash key x.kind (id_meaning h (entry_of x))) {m : Bool} (e : m ≡ is_met ms hash) where
  pub id_unmarked : m ≡ false → false ≡ id_found h es ms prefix key (entry_of x)
  unfolding id_found
  id_unmarked f = rw (← eh, ← e, f)

  -- the code holds the new entry's ID in p
  pub id_looked : m ≡ true → {p : Bytes} → p ≡ id_in h (entry_of x) → {r : Bool} → r ≡ id_seen h prefix x.kind (meaning x.quoted p) es → r ≡ id_found h es ms prefix key (entry_of x)
  unfolding id_found
  id_looked f ep g = g ∙ rw (← eh, ← e, f, ep)

-- no new line clashes with the fileformat line
pub unmarked : (h ms : Bytes) (e : Entry) → e.kind < 2 → Marked h ms e
unmarked h ms e l = record { id = λ a b. absurd (omega arith); key = λ a b. absurd (omega arith) }

-- nor with a column line or a sample
pub unmarked_last : (h ms : Bytes) (e : Entry) → 8 < e.kind → Marked h ms e
unmarked_last h ms e l = record { id = λ a b. absurd (omega arith); key = λ a b. absurd (omega arith) }

-- What was noted is marked

module _ (h : Bytes) (ns : List ℕ) (e : Entry) (ms : List ℕ) where
  id_length_lem : length (mark_id h ns e ms) ≡ length ms
  unfolding mark_id
  id_length_lem = elim (test (id_noted h ns e)) [ pass f ↦ rw (mark_id, f) (meet_length ms _) | fail f ↦ rw (mark_id, f) ]

  key_length_lem : length (mark_key h ns e ms) ≡ length ms
  unfolding mark_key
  key_length_lem = elim (test (key_noted h ns e)) [ pass f ↦ rw (mark_key, f) (meet_length ms _) | fail f ↦ rw (mark_key, f) ]

  id_kept : (hash : ℕ) → is_met ms hash ≡ true → is_met (mark_id h ns e ms) hash ≡ true
  unfolding mark_id
  id_kept hash a = elim (test (id_noted h ns e)) [ pass f ↦ rw (mark_id, f) (meet_kept ms _ hash a) | fail f ↦ rw (mark_id, f) a ]

  key_kept : (hash : ℕ) → is_met ms hash ≡ true → is_met (mark_key h ns e ms) hash ≡ true
  unfolding mark_key
  key_kept hash a = elim (test (key_noted h ns e)) [ pass f ↦ rw (mark_key, f) (meet_kept ms _ hash a) | fail f ↦ rw (mark_key, f) a ]

  id_met : id_noted h ns e ≡ true → is_met (mark_id h ns e ms) (id_hash (key_hash h e) e.kind (id_meaning h e)) ≡ true
  unfolding mark_id
  id_met f = rw (mark_id, f) (meet_own ms _)

  key_met : key_noted h ns e ≡ true → is_met (mark_key h ns e ms) (under_hash (key_hash h e) e.kind) ≡ true
  unfolding mark_key
  key_met f = rw (mark_key, f) (meet_own ms _)

module _ (h : Bytes) (ns : List ℕ) (e : Entry) (ms : List ℕ) where
  names_length : length (mark_names h ns e ms) ≡ length ms
  unfolding mark_names
  names_length = elim (test (ltb e.kind 7)) [
    | pass l ↦ rw (mark_names, l) (id_length_lem h ns e ms)
    | fail l ↦ elim (test (eqb e.kind 7)) [
      | pass k ↦ rw (mark_names, l, k) (id_length_lem h ns e (mark_key h ns e ms) ∙ key_length_lem h ns e ms)
      | fail k ↦ rw (mark_names, l, k) (key_length_lem h ns e ms)
    ]
  ]

  names_kept : (hash : ℕ) → is_met ms hash ≡ true → is_met (mark_names h ns e ms) hash ≡ true
  unfolding mark_names
  names_kept hash a = elim (test (ltb e.kind 7)) [
    | pass l ↦ rw (mark_names, l) (id_kept h ns e ms hash a)
    | fail l ↦ elim (test (eqb e.kind 7)) [
      | pass k ↦ rw (mark_names, l, k) (id_kept h ns e (mark_key h ns e ms) hash (key_kept h ns e ms hash a))
      | fail k ↦ rw (mark_names, l, k) (key_kept h ns e ms hash a)
    ]
  ]

  names_marked : MarkedFor h ns (mark_names h ns e ms) e
  unfolding mark_names
  names_marked = elim (test (ltb e.kind 7)) [
    | pass l ↦ rw (mark_names, l) (record { id = λ a b f. id_met h ns e ms f; key = λ a b f. absurd (omega (arith, ltb-true e.kind 7 l)) })
    | fail l ↦ elim (test (eqb e.kind 7)) [
      | pass k ↦ rw (mark_names, l, k) (record { id = λ a b f. id_met h ns e (mark_key h ns e ms) f; key = λ a b f. id_kept h ns e (mark_key h ns e ms) _ (key_met h ns e ms f) })
      | fail k ↦
          let ne = eqb-false e.kind 7 k in
          rw (mark_names, l, k) (record { id = λ a b f. absurd (ne (omega (arith, ltb-false e.kind 7 l))); key = λ a b f. key_met h ns e ms f })
    ]
  ]

-- what the code's tests answered
module _ (h : Bytes) (ns : List ℕ) (x : CodeEntry) (ms : List ℕ) where
  module _ {p : Bytes} (ep : p ≡ id_in h (entry_of x)) {q : Bool} (a : q ≡ text_near ns x.quoted p) where
    pub id_far : not q ≡ true → ms ≡ mark_id h ns (entry_of x) ms
    unfolding mark_id
    id_far n = rw (mark_id, ← ep, ← a, not_true q n)

    module _ (n : not q ≡ false) {key : ℕ} (ek : key ≡ key_hash h (entry_of x)) {hash : ℕ} (eh : hash ≡ id_hash key x.kind (id_meaning h (entry_of x))) {b : Bool} (f : b ≡ hash_noted ns hash) where
      is_id : hash ≡ id_hash (key_hash h (entry_of x)) x.kind (meaning x.quoted p)
      is_id = eh ∙ rw (ek, ep)

      pub id_spared : not b ≡ true → ms ≡ mark_id h ns (entry_of x) ms
      unfolding mark_id
      id_spared m = rw (mark_id, ← ep, ← a, not_false q n, ← is_id, ← f, not_true b m)

      pub id_noted_lem : not b ≡ false → {ms' : List ℕ} → ms' ≡ meet ms hash → ms' ≡ mark_id h ns (entry_of x) ms
      unfolding mark_id
      id_noted_lem m g = g ∙ rw (mark_id, ← ep, ← a, not_false q n, ← is_id, ← f, not_false b m) (ap (meet ms) (eh ∙ rw ek))

  module _ {q : Bool} (a : q ≡ sort_noted ns x.kind) where
    pub key_far : not q ≡ true → ms ≡ mark_key h ns (entry_of x) ms
    unfolding mark_key
    key_far n = rw (mark_key, ← a, not_true q n)

    module _ (n : not q ≡ false) {key : ℕ} (ek : key ≡ key_hash h (entry_of x)) {hash : ℕ} (eh : hash ≡ under_hash key x.kind) {b : Bool} (f : b ≡ hash_noted ns hash) where
      is_key : hash ≡ under_hash (key_hash h (entry_of x)) x.kind
      is_key = eh ∙ rw ek

      pub key_spared : not b ≡ true → ms ≡ mark_key h ns (entry_of x) ms
      unfolding mark_key
      key_spared m = rw (mark_key, ← a, not_false q n, ← is_key, ← f, not_true b m)

      pub key_noted_lem : not b ≡ false → {ms' : List ℕ} → ms' ≡ meet ms hash → ms' ≡ mark_key h ns (entry_of x) ms
      unfolding mark_key
      key_noted_lem m g = g ∙ rw (mark_key, ← a, not_false q n, ← is_key, ← f, not_false b m) (ap (meet ms) is_key)

  pub names_typed : x.kind < 7 → {ms' : List ℕ} → ms' ≡ mark_id h ns (entry_of x) ms → ms' ≡ mark_names h ns (entry_of x) ms
  unfolding mark_names
  names_typed l f = f ∙ rw (mark_names, lt-ltb x.kind 7 l)

  module _ (l : 7 ≤ x.kind) {ms' : List ℕ} (f : ms' ≡ mark_key h ns (entry_of x) ms) where
    pub names_map : x.kind ≡ 7 → {ms'' : List ℕ} → ms'' ≡ mark_id h ns (entry_of x) ms' → ms'' ≡ mark_names h ns (entry_of x) ms
    unfolding mark_names
    names_map k g = g ∙ rw (f, mark_names, le-ltb x.kind 7 l, eq-eqb x.kind 7 k)

    pub names_text : (x.kind ≡ 7 → ⊥) → ms' ≡ mark_names h ns (entry_of x) ms
    unfolding mark_names
    names_text n = f ∙ rw (mark_names, le-ltb x.kind 7 l, ne_eqb x.kind 7 n)

pub ruleset namings = (id_far, id_spared, id_noted_lem, key_far, key_spared, key_noted_lem, names_typed, names_map, names_text)

-- Entries that are passed over

-- whether an entry's ID lies in the header
module _ (h : Bytes) (x : CodeEntry) where
  pub starts_outside : length h < x.start → false ≡ leb (id_end (entry_of x)) (length h)
  starts_outside l = sym (lt-leb (id_end (entry_of x)) (length h) (omega arith))

  pub begins_outside : x.start ≤ length h → length h - x.start < x.offset → false ≡ leb (id_end (entry_of x)) (length h)
  begins_outside l m = sym (lt-leb (id_end (entry_of x)) (length h) (omega arith))

  pub ends_inside : x.start ≤ length h → x.offset ≤ length h - x.start → leb x.id_length (length h - x.start - x.offset) ≡ leb (id_end (entry_of x)) (length h)
  ends_inside l m = elim (test (leb x.id_length (length h - x.start - x.offset))) [
    | pass e ↦ e ∙ sym (le-leb (id_end (entry_of x)) (length h) (omega (arith, leb-true x.id_length (length h - x.start - x.offset) e)))
    | fail e ↦ e ∙ sym (lt-leb (id_end (entry_of x)) (length h) (omega (arith, leb-false x.id_length (length h - x.start - x.offset) e)))
  ]

pub ruleset insides = (starts_outside, begins_outside, ends_inside)

module _ (h : Bytes) (ns : List ℕ) (x : CodeEntry) where
  pub id_any : IdSpared h ns (entry_of x) true
  id_any = record { is = λ a f. absurd (true≢false f) }

  module _ {b : Bool} (eb : b ≡ leb (id_end (entry_of x)) (length h)) (i : not b ≡ false) where
    pub id_inside : x.start + x.offset + x.id_length ≤ length h
    id_inside = leb-true (id_end (entry_of x)) (length h) (sym eb ∙ not_false b i)

    module _ (few : length h * 1 < 2 ^ 63) where
      pub id_start_fits : Fits w64 (x.start + x.offset)
      id_start_fits = record { fits = omega (arith, id_inside) }

      pub id_end_fits : Fits w64 (x.start + x.offset + x.id_length)
      id_end_fits = record { fits = omega (arith, id_inside) }

    pub id_by_tail : x.quoted ≡ false → 8 ≤ x.id_length → {hash : ℕ} → hash ≡ tail_hash h (x.start + x.offset + x.id_length) → {r : Bool} → r ≡ is_noted ns hash → IdSpared h ns (entry_of x) r
    unfolding text_near id_in
    id_by_tail q l eh er = record {
      is = λ a f.
          let n = here_length h (x.start + x.offset) x.id_length l id_inside in
          let t = tail_here h (x.start + x.offset) x.id_length l id_inside in
          rw (q, le-ltb (length (take x.id_length (drop (x.start + x.offset) h))) 8 (rw n l), a, t, ← eh, ← er) f;
    }

  pub key_typed_spared : x.kind < 7 → KeySpared ns (entry_of x) false
  key_typed_spared l = record { is = λ f m. absurd (omega arith) }

  pub key_by_sort : {r : Bool} → r ≡ sort_noted ns x.kind → KeySpared ns (entry_of x) r
  key_by_sort e = record { is = λ f m. sym e ∙ f }

  pub near_any : Spared h ns (entry_of x) true
  near_any = record { id = λ a f l. absurd (true≢false f); key = λ f l. absurd (true≢false f) }

  module _ {b : Bool} (c : KeySpared ns (entry_of x) b) (f : b ≡ false) where
    pub near_text : 7 < x.kind → Spared h ns (entry_of x) false
    near_text l = record { id = λ a g m. absurd (omega arith); key = λ g m. c.is f m }

    pub near_id : {r : Bool} → IdSpared h ns (entry_of x) r → Spared h ns (entry_of x) r
    near_id d = record { id = λ a g m. d.is a g; key = λ g m. c.is f m }

pub ruleset nears = (id_any, id_inside, id_start_fits, id_end_fits, id_by_tail, key_typed_spared, key_by_sort, near_any, near_text, near_id)

spared_same : (h : Bytes) (ns : List ℕ) (e : Entry) (ms : List ℕ) → quoted_noted ns ≡ false → {r : Bool} → Spared h ns e r → r ≡ false → mark_names h ns e ms ≡ ms
unfolding mark_names mark_id mark_key
spared_same h ns e ms a s f = elim (test (ltb e.kind 7)) [
  | pass l ↦ rw (mark_names, l, mark_id, s.id a f (omega (arith, ltb-true e.kind 7 l)))
  | fail l ↦ elim (test (eqb e.kind 7)) [
    | pass k ↦ rw (mark_names, l, k, mark_id, s.id a f (omega (arith, eqb-true e.kind 7 k)), mark_key, s.key f (ltb-false e.kind 7 l))
    | fail k ↦ rw (mark_names, l, k, mark_key, s.key f (ltb-false e.kind 7 l))
  ]
]

-- those from the first on up to k need not be marked
pub record Nexting (h : Bytes) (form : Form) (t ns : List ℕ) (first k : ℕ) : Type 0 where
  pub bare : quoted_noted ns ≡ false
  pub later : first ≤ k
  pub spared : (n : ℕ) → first ≤ n → n < k → (ms : List ℕ) → mark_names h ns (entry_in form t n) ms ≡ ms

module _ (h : Bytes) (form : Form) (t ns : List ℕ) (k : ℕ) {q : Bool} (e : q ≡ quoted_noted ns) where
  pub next_any : NextNear h form t ns k k
  next_any = record { later = omega arith; spared = λ n a b. absurd (omega arith) }

  pub next_start : q ≡ false → Nexting h form t ns k k
  next_start f = record { bare = sym e ∙ f; later = omega arith; spared = λ n a b. absurd (omega arith) }

module _ {h : Bytes} {form : Form} {t ns : List ℕ} {first k : ℕ} (g : Nexting h form t ns first k) where
  pub next_found : NextNear h form t ns first k
  next_found = record { later = g.later; spared = g.spared }

  pub next_away : {e : CodeEntry} → entry_of e ≡ entry_in form t k → {q : Bool} → Spared h ns (entry_of e) q → q ≡ false → Nexting h form t ns first (k + 1)
  next_away ee s f = record {
    bare = g.bare;
    later = omega (arith, g.later);
    spared = λ n a b ms. elim (test (eqb n k)) [
      | pass i ↦ rw (eqb-true n k i, ← ee) (spared_same h ns _ ms g.bare s f)
      | fail i ↦ g.spared n a (omega (arith, eqb-false n k i)) ms
    ];
  }

  -- none is left, up to the last one
  pub next_end : {m : ℕ} → m ≤ k → NextNear h form t ns first (max m first)
  next_end {m} l = record { later = omega arith; spared = λ n a b. g.spared n a (omega arith) }

pub ruleset nexts = (next_any, next_start, next_found, next_away, next_end)

passed_over : (h : Bytes) (ns : List ℕ) (form : Form) (t ms : List ℕ) (k d : ℕ) → ((n : ℕ) → k ≤ n → n < k + d → (ms : List ℕ) → mark_names h ns (entry_in form t n) ms ≡ ms)
    → mark_noted h ns (drop k (entries_in form t)) ms ≡ mark_noted h ns (drop (k + d) (entries_in form t)) ms
unfolding mark_noted
passed_over h ns form t ms k zero f = let i : k + 0 ≡ k = omega arith in rw i
passed_over h ns form t ms k (suc d) f = elim (test (ltb k (room form t))) [
  | pass l ↦
      let i : k + suc d ≡ k + 1 + d = omega arith in
      rw (i, entries_here form t k (ltb-true k (room form t) l), mark_noted, f k (omega arith) (omega arith) ms) (passed_over h ns form t ms (k + 1) d (λ n a b. f n (omega arith) (omega arith)))
  | fail l ↦
      let m = ltb-false k (room form t) l in
      rw (entries_past form t k m, entries_past form t (k + suc d) (omega arith))
]

module _ (h : Bytes) (ns : List ℕ) where
  noted_kept : (es fs : List Entry) (ms : List ℕ) → All (MarkedFor h ns ms) fs → All (MarkedFor h ns (mark_noted h ns es ms)) fs
  unfolding mark_noted
  noted_kept [] fs ms a = a
  noted_kept (e ∷ es) fs ms a = noted_kept es fs (mark_names h ns e ms) (kept_for h ns ms (mark_names h ns e ms) (names_kept h ns e ms) fs a)

  pub noted_all : (es : List Entry) (ms : List ℕ) → All (MarkedFor h ns (mark_noted h ns es ms)) es
  unfolding mark_noted
  noted_all [] ms = tt
  noted_all (e ∷ es) ms = ((noted_kept es (e ∷ []) (mark_names h ns e ms) (names_marked h ns e ms, tt)).0, noted_all es (mark_names h ns e ms))

-- What is left to mark by the notes, from number k on

pub record Noting (h : Bytes) (form : Form) (t ns ms₀ ms : List ℕ) (k : ℕ) : Type 0 where
  pub long : length ms ≡ length ms₀
  pub still : mark_noted h ns (entries_in form t) ms₀ ≡ mark_noted h ns (drop k (entries_in form t)) ms

pub noting_start : (h : Bytes) (form : Form) (t ns ms : List ℕ) → Noting h form t ns ms ms 0
noting_start h form t ns ms = record { long = refl; still = refl }

module _ {h : Bytes} {form : Form} {t ns ms₀ ms : List ℕ} {k : ℕ} (g : Noting h form t ns ms₀ ms k) {r : ℕ} (a : NextNear h form t ns k r) where
  up_to : mark_noted h ns (entries_in form t) ms₀ ≡ mark_noted h ns (drop r (entries_in form t)) ms
  up_to =
      let i : k + (r - k) ≡ r = omega (arith, a.later) in
      g.still ∙ passed_over h ns form t ms k (r - k) (λ n b c. a.spared n b (omega (arith, a.later))) ∙ ap (λ (n : ℕ). mark_noted h ns (drop n (entries_in form t)) ms) i

  module _ {m : ℕ} (em : m ≡ room form t) where
    pub noting_end : m ≤ r → ms ≡ mark_noted h ns (entries_in form t) ms₀
    unfolding mark_noted
    noting_end l = sym (up_to ∙ rw (entries_past form t r (rw (← em) l)))

    module _ (l : r < m) where
      pub noting_next : {e : CodeEntry} → entry_of e ≡ entry_in form t r → {ms' : List ℕ} → ms' ≡ mark_names h ns (entry_of e) ms → Noting h form t ns ms₀ ms' (r + 1)
      unfolding mark_noted
      noting_next {e} ee f = record {
        long = ap length f ∙ names_length h ns (entry_of e) ms ∙ g.long;
        still = up_to ∙ rw (entries_here form t r (rw (← em) l), mark_noted, ← ee, ← f);
      }

      pub noting_less : room form t - (r + 1) < room form t - k
      noting_less = omega (arith, em, a.later)

pub noting_long : {h : Bytes} {form : Form} {t ns ms₀ ms : List ℕ} {k : ℕ} → Noting h form t ns ms₀ ms k → length ms ≡ length ms₀
noting_long g = g.long

pub ruleset notings = (noting_start, noting_end, noting_next, noting_less, noting_long)

pub ruleset scans = (key_unmarked, key_looked, id_unmarked, id_looked, met_by)
