-- The scans of the entries, a turn of each on plain values. Assumes nothing.
use Rattle.std.specs.Prelude.{Option, Some, None}
use Prim.Native.Nat.{ℕ, ◌+◌, ◌-◌, ◌<◌, ◌≤◌}
use native.Mathlib.Omega.{arith}
use mathlib.Core.Path.{◌≡◌, refl, sym, ap, ◌∙◌}
use mathlib.Core.Bool.{Bool, true, false, not, ◌||◌, ◌&&◌, true≢false, false≢true}
use mathlib.Core.List.{List}
use lib.Dec.{eqb, ltb}
use lib.ListN.{length, get_or, take, drop}
use borrow.Author.Tests.{eq-eqb, ne_eqb, eqb-true, eqb-false, ltb-true, ltb-false, lt-ltb, le-ltb}
use Rattle.values.specs.Bytes.{Bytes, starts, same}
use Rattle.values.specs.Value.{meaning}
use Rattle.values.specs.Hash.{wide_basis, wide_from}
use Rattle.values.specs.Marks.{meet}
use Rattle.values.proofs.Tests.{pass, fail, test, not_true, not_false, and_off}
use Rattle.values.proofs.Sames.{differ}
use Rattle.rules.specs.Known.{other}
use Rattle.rules.specs.Entry.{Entry, text_kind, map_kind}
use Rattle.rules.specs.Shown.{line_in, id_in, id_meaning}
use Rattle.entries.specs.declared.entry.Entry.{Entry as CodeEntry}
use Rattle.entries.specs.Values.{entry_of}
use Rattle.entries.specs.declared.form.Form.{Form}
use Rattle.entries.specs.Tables.{room, entries_in, entry_in}
use Rattle.entries.proofs.Stored.{entries_here, entries_past}
use Rattle.ids.specs.Clashes.{has_key, key_seen, is_of_key, is_of_id, id_seen, map_clash, clash_by, last_of, MayEqual, Candidate}
use Rattle.ids.specs.Names.{prefix_hash, under_hash, id_hash, other_sort}
use Rattle.ids.specs.Marks.{mark_under, meet_id, meet_key, key_found, id_found, mixed_found, twice_found, clash_of, clash_under}
use Rattle.ids.specs.declared.scan.Clash.{Clash}
use Rattle.ids.specs.declared.scan.Clash.TheVariants.{TypedId, Mixed, OtherId}

-- what answers the needs of `is_under`
module _ (h prefix : Bytes) (kind : ℕ) (e : Entry) where
  pub typed_under : kind < 7 → true ≡ is_of_key h prefix kind e
  unfolding is_of_key
  typed_under l = rw (lt-ltb kind 7 l)

  pub other_under : 7 ≤ kind → {p : Bytes} → p ≡ line_in h e → {r : Bool} → r ≡ starts prefix p → r ≡ is_of_key h prefix kind e
  unfolding is_of_key
  other_under l a b = b ∙ rw (le-ltb kind 7 l, a)

pub ruleset unders = (typed_under, other_under)

-- what answers the needs of `may_equal`
pub may : {h : Bytes} {e : Entry} {id : Bytes} {last : ℕ} {quoted : Bool} → MayEqual h e id last quoted true
may = record { other = λ a f. absurd (true≢false f) }

both_mean : (p q : Bool) (a b : Bytes) → p ≡ false → q ≡ false → same (meaning p a) (meaning q b) ≡ same a b
both_mean p q a b e f = rw (e, f)

-- both IDs are bare
module _ (h : Bytes) (e : Entry) (id : Bytes) (quoted : Bool) (eq : quoted ≡ false) (bare : e.quoted ≡ false) {p : Bytes} (ep : p ≡ id_in h e) where
  unlike : (p ≡ id → ⊥) → same (id_meaning h e) (meaning quoted id) ≡ false
  unlike ne = both_mean e.quoted quoted (id_in h e) id bare eq ∙ differ (id_in h e) id (λ i. ne (ep ∙ i))

  pub other_length : {last : ℕ} → (length p ≡ length id → ⊥) → MayEqual h e id last quoted false
  other_length ne = record { other = λ a f. unlike (λ i. ne (ap length i)) }

  pub other_last : {last : ℕ} → length p ≡ length id → (length p ≡ 0 → ⊥) → MayEqual h e id last quoted (eqb (get_or p (length p - 1) 0) last)
  other_last {last} l some = record {
    other = λ a f. unlike (λ i. eqb-false (get_or p (length p - 1) 0) last f (rw (l, a) (ap (λ (y : Bytes). get_or y (length id - 1) 0) i)));
  }

pub ruleset mays = (may, other_length, other_last)

-- what answers the needs of `is_candidate`; t and u are what the code's tests answered
module _ {h : Bytes} (e : Entry) {prefix : Bytes} {kind : ℕ} {id : Bytes} {last : ℕ} {quoted : Bool} where
  pub other_kind : (e.kind ≡ kind → ⊥) → Candidate h e prefix kind id last quoted false
  unfolding is_of_id
  other_kind ne = record { passed = λ f. absurd (false≢true f); failed = λ l f. rw (ne_eqb e.kind kind ne) }

  module _ (ek : e.kind ≡ kind) {t : Bool} (m : MayEqual h e id last quoted t) where
    pub unequal : t ≡ false → Candidate h e prefix kind id last quoted false
    unfolding is_of_id
    unequal n = record {
      passed = λ f. absurd (false≢true f);
      failed = λ l f. rw (eq-eqb e.kind kind ek, m.other l n) (and_off (is_of_key h prefix kind e) refl);
    }

    pub candidate : {u : Bool} → u ≡ is_of_key h prefix kind e → Candidate h e prefix kind id last quoted u
    unfolding is_of_id
    candidate eu = record {
      passed = λ f. rw (eq-eqb e.kind kind ek, ← eu, f);
      failed = λ l f. rw (eq-eqb e.kind kind ek, ← eu, f);
    }

pub ruleset candidates = (other_kind, unequal, candidate)

-- The scan for a key: no entry before number k has it

pub record Keys (h prefix : Bytes) (kind : ℕ) (form : Form) (t : List ℕ) (k : ℕ) : Type 0 where
  pub still : key_seen h prefix kind (entries_in form t) ≡ key_seen h prefix kind (drop k (entries_in form t))

pub keys_start : {h prefix : Bytes} {kind : ℕ} {form : Form} {t : List ℕ} → Keys h prefix kind form t 0
keys_start = record { still = refl }

module _ {h prefix : Bytes} {kind : ℕ} {form : Form} {t : List ℕ} {k : ℕ} (g : Keys h prefix kind form t k) {n : ℕ} (en : n ≡ room form t) where
  pub keys_end : n ≤ k → false ≡ key_seen h prefix kind (entries_in form t)
  unfolding key_seen
  keys_end l = sym (g.still ∙ rw (entries_past form t k (rw (← en) l)))

  -- e is the entry that the code got
  module _ (l : k < n) {e : CodeEntry} (ee : entry_of e ≡ entry_in form t k) where
    keys_turn : key_seen h prefix kind (entries_in form t) ≡ (has_key h prefix kind (entry_of e) || key_seen h prefix kind (drop (k + 1) (entries_in form t)))
    unfolding key_seen
    keys_turn = g.still ∙ rw (entries_here form t k (rw (← en) l), ← ee)

    keys_next : has_key h prefix kind (entry_of e) ≡ false → Keys h prefix kind form t (k + 1)
    keys_next f = record { still = keys_turn ∙ rw f }

    pub keys_other : (e.kind ≡ kind → ⊥) → Keys h prefix kind form t (k + 1)
    unfolding has_key
    keys_other ne = keys_next (rw (ne_eqb e.kind kind ne))

    -- q is what the code's test of the line answered
    module _ (ek : e.kind ≡ kind) {p : Bytes} (ep : p ≡ line_in h (entry_of e)) {q : Bool} (eq : q ≡ starts prefix p) where
      has_key_lem : has_key h prefix kind (entry_of e) ≡ q
      unfolding has_key
      has_key_lem = rw (eq-eqb e.kind kind ek, ← ep) (sym eq)

      pub keys_miss : q ≡ false → Keys h prefix kind form t (k + 1)
      keys_miss f = keys_next (has_key_lem ∙ f)

      pub keys_hit : q ≡ true → true ≡ key_seen h prefix kind (entries_in form t)
      keys_hit f = sym (keys_turn ∙ rw (has_key_lem, f))

pub ruleset keys = (keys_start, keys_end, keys_other, keys_miss, keys_hit)

-- The scan for an ID: no entry before number k has it

pub record Ids (h prefix : Bytes) (kind : ℕ) (id : Bytes) (quoted : Bool) (form : Form) (t : List ℕ) (k : ℕ) : Type 0 where
  pub still : id_seen h prefix kind (meaning quoted id) (entries_in form t) ≡ id_seen h prefix kind (meaning quoted id) (drop k (entries_in form t))

pub ids_start : {h prefix : Bytes} {kind : ℕ} {id : Bytes} {quoted : Bool} {form : Form} {t : List ℕ} → Ids h prefix kind id quoted form t 0
ids_start = record { still = refl }

module _ {h prefix : Bytes} {kind : ℕ} {id : Bytes} {quoted : Bool} {form : Form} {t : List ℕ} {k : ℕ} (g : Ids h prefix kind id quoted form t k) {n : ℕ} (en : n ≡ room form t) where
  pub ids_end : n ≤ k → false ≡ id_seen h prefix kind (meaning quoted id) (entries_in form t)
  unfolding id_seen
  ids_end l = sym (g.still ∙ rw (entries_past form t k (rw (← en) l)))

  module _ (l : k < n) {e : CodeEntry} (ee : entry_of e ≡ entry_in form t k) where
    ids_turn : id_seen h prefix kind (meaning quoted id) (entries_in form t)
        ≡ (is_of_id h prefix kind (meaning quoted id) (entry_of e) || id_seen h prefix kind (meaning quoted id) (drop (k + 1) (entries_in form t)))
    unfolding id_seen
    ids_turn = g.still ∙ rw (entries_here form t k (rw (← en) l), ← ee)

    ids_next : is_of_id h prefix kind (meaning quoted id) (entry_of e) ≡ false → Ids h prefix kind id quoted form t (k + 1)
    ids_next f = record { still = ids_turn ∙ rw f }

    module _ {last : ℕ} {q : Bool} (m : Candidate h (entry_of e) prefix kind id last quoted q) where
      pub ids_other : last ≡ last_of id → q ≡ false → Ids h prefix kind id quoted form t (k + 1)
      ids_other el f = ids_next (m.failed el f)

      -- the code holds the entry's ID in p; same-as is what it answered of the two
      module _ (f : q ≡ true) {p : Bytes} (ep : p ≡ id_in h (entry_of e)) {same_as : Bool} (es : same_as ≡ same (meaning e.quoted p) (meaning quoted id)) where
        has_id_lem : is_of_id h prefix kind (meaning quoted id) (entry_of e) ≡ same_as
        has_id_lem = m.passed f ∙ rw (← ep) (sym es)

        pub ids_miss : same_as ≡ false → Ids h prefix kind id quoted form t (k + 1)
        ids_miss i = ids_next (has_id_lem ∙ i)

        pub ids_hit : same_as ≡ true → true ≡ id_seen h prefix kind (meaning quoted id) (entries_in form t)
        ids_hit i = sym (ids_turn ∙ rw (has_id_lem, i))

pub ruleset ids = (ids_start, ids_end, ids_other, ids_miss, ids_hit)

-- What is answered of the two scans, by the code's tests

pub prefix_typed : (prefix : Bytes) (kind : ℕ) → kind < 7 → wide_basis ≡ prefix_hash prefix kind
unfolding prefix_hash
prefix_typed prefix kind l = rw (prefix_hash, lt-ltb kind 7 l)

pub prefix_short : (prefix : Bytes) (kind : ℕ) → 7 ≤ kind → length prefix < 3 → wide_basis ≡ prefix_hash prefix kind
unfolding prefix_hash
prefix_short prefix kind l s = rw (prefix_hash, le-ltb kind 7 l, lt-ltb (length prefix) 3 s)

pub prefix_key : (prefix : Bytes) (kind : ℕ) → 7 ≤ kind → 3 ≤ length prefix → {r : ℕ} → r ≡ wide_from wide_basis (take (length prefix - 1 - 2) (drop 2 prefix)) → r ≡ prefix_hash prefix kind
unfolding prefix_hash
prefix_key prefix kind l s e = e ∙ rw (prefix_hash, le-ltb kind 7 l, le-ltb (length prefix) 3 s)

pub ruleset prefixes = (prefix_typed, prefix_short, prefix_key)

pub sort_text : (kind : ℕ) → kind ≡ 7 → 8 ≡ other_sort kind
unfolding other_sort
sort_text kind e = rw (other_sort, eq-eqb kind 7 e)

pub sort_map : (kind : ℕ) → (kind ≡ 7 → ⊥) → 7 ≡ other_sort kind
unfolding other_sort
sort_map kind ne = rw (other_sort, ne_eqb kind 7 ne)

pub ruleset sorts = (sort_text, sort_map)

module _ (h : Bytes) (es : List Entry) (ms : List ℕ) (prefix : Bytes) (key : ℕ) where
  module _ (e : Entry) where
    pub unmixed : e.kind < 7 → false ≡ mixed_found h es ms prefix key e
    unfolding mixed_found
    unmixed l = rw (mixed_found, lt-ltb e.kind 7 l)

    pub mixed_by : 7 ≤ e.kind → {o : ℕ} → o ≡ other_sort e.kind → {r : Bool} → r ≡ key_found h es ms prefix key o → r ≡ mixed_found h es ms prefix key e
    unfolding mixed_found
    mixed_by l a b = b ∙ rw (mixed_found, le-ltb e.kind 7 l, a)

    pub never_twice : 7 < e.kind → false ≡ twice_found h es ms prefix key e
    unfolding twice_found
    never_twice l = rw (twice_found, lt-ltb 7 e.kind l)

    pub twice_by : e.kind ≤ 7 → {r : Bool} → r ≡ id_found h es ms prefix key e → r ≡ twice_found h es ms prefix key e
    unfolding twice_found
    twice_by l a = a ∙ rw (twice_found, le-ltb 7 e.kind l)

module _ (h : Bytes) (key : ℕ) (e : Entry) (ms : List ℕ) where
  pub never_marked : 7 < e.kind → ms ≡ meet_id h key e ms
  unfolding meet_id
  never_marked l = rw (meet_id, lt-ltb 7 e.kind l)

  pub marked_by : e.kind ≤ 7 → {ns : List ℕ} → ns ≡ meet ms (id_hash key e.kind (id_meaning h e)) → ns ≡ meet_id h key e ms
  unfolding meet_id
  marked_by l a = a ∙ rw (meet_id, le-ltb 7 e.kind l)

pub ruleset mixes = (unmixed, mixed_by)

pub ruleset twices = (never_twice, twice_by, never_marked, marked_by)

pub key_unmarked : (key kind : ℕ) (ms : List ℕ) → kind < 7 → ms ≡ meet_key key kind ms
unfolding meet_key
key_unmarked key kind ms l = rw (meet_key, lt-ltb kind 7 l)

pub key_marked : (key kind : ℕ) (ms : List ℕ) → 7 ≤ kind → {hash : ℕ} → hash ≡ under_hash key kind → {ns : List ℕ} → ns ≡ meet ms hash → ns ≡ meet_key key kind ms
unfolding meet_key
key_marked key kind ms l a b = b ∙ rw (meet_key, le-ltb kind 7 l, a)

pub ruleset keys_marked = (key_unmarked, key_marked)

module _ (kind : ℕ) (twice mixed : Bool) where
  pub of_mixed : mixed ≡ true → Some Mixed ≡ clash_of kind twice mixed
  unfolding clash_of
  of_mixed e = rw (clash_of, e)

  module _ (e : mixed ≡ false) where
    pub of_free : not twice ≡ true → None ≡ clash_of kind twice mixed
    unfolding clash_of
    of_free f = rw (clash_of, e, not_true twice f)

    pub of_typed : not twice ≡ false → kind < 7 → Some TypedId ≡ clash_of kind twice mixed
    unfolding clash_of
    of_typed f l = rw (clash_of, e, not_false twice f, lt-ltb kind 7 l)

    pub of_other : not twice ≡ false → 7 ≤ kind → Some OtherId ≡ clash_of kind twice mixed
    unfolding clash_of
    of_other f l = rw (clash_of, e, not_false twice f, le-ltb kind 7 l)

pub ruleset all_clashes = (of_mixed, of_free, of_typed, of_other)

-- a typed kind has no other sort; a map's is a text, a text's a map, and a text has no ID
by_tests : (l n k i t m : Bool) → (l ≡ true → n ≡ false) → (k ≡ true → n ≡ false) → (l ≡ false → k ≡ false → n ≡ true)
    → ◌≡◌ {A = Option Clash} (elim (not l && elim k [ true ↦ t | false ↦ m ]) [ true ↦ Some Mixed | false ↦ elim (not n && i) [ true ↦ elim l [ true ↦ Some TypedId | false ↦ Some OtherId ] | false ↦ None ] ])
    (elim l [ true ↦ elim i [ true ↦ Some TypedId | false ↦ None ] | false ↦ elim k [ true ↦ map_clash t i | false ↦ elim m [ true ↦ Some Mixed | false ↦ None ] ] ])
by_tests true true k i t m a b c = absurd (true≢false (a refl))
by_tests true false k true t m a b c = refl
by_tests true false k false t m a b c = refl
by_tests false true true i t m a b c = absurd (true≢false (b refl))
by_tests false false true i true m a b c = refl
by_tests false false true true false m a b c = refl
by_tests false false true false false m a b c = refl
by_tests false false false i t m a b c = absurd (false≢true (c refl refl))
by_tests false true false i t true a b c = refl
by_tests false true false i t false a b c = refl

by_sort : (kind : ℕ) (i t m : Bool) → clash_of kind (not (ltb 7 kind) && i) (not (ltb kind 7) && elim (eqb kind 7) [ true ↦ t | false ↦ m ]) ≡ clash_by kind i t m
unfolding clash_of clash_by
by_sort kind i t m =
    by_tests (ltb kind 7) (ltb 7 kind) (eqb kind 7) i t m (λ l. le-ltb 7 kind (omega (arith, ltb-true kind 7 l))) (λ e. le-ltb 7 kind (omega (arith, eqb-true kind 7 e)))
    (λ l e. lt-ltb 7 kind (omega (arith, ltb-false kind 7 l, eqb-false kind 7 e)))

-- What is marked

-- a mark by a hash that the code computed
pub met_by : (ms : List ℕ) {hash is : ℕ} → hash ≡ is → {ns : List ℕ} → ns ≡ meet ms hash → ns ≡ meet ms is
met_by ms e f = f ∙ rw e

both_marked : (h : Bytes) (key : ℕ) (e : Entry) (ms : List ℕ) → meet_key key e.kind (meet_id h key e ms) ≡ mark_under h key e ms
unfolding meet_key meet_id mark_under
both_marked h key e ms = elim (test (ltb e.kind 7)) [
  | pass l ↦ let n = le-ltb 7 e.kind (omega (arith, ltb-true e.kind 7 l)) in rw (meet_key, meet_id, mark_under, l, n)
  | fail l ↦ elim (test (eqb e.kind 7)) [
    | pass k ↦ let n = le-ltb 7 e.kind (omega (arith, eqb-true e.kind 7 k)) in rw (meet_key, meet_id, mark_under, l, k, n)
    | fail k ↦ let n = lt-ltb 7 e.kind (omega (arith, ltb-false e.kind 7 l, eqb-false e.kind 7 k)) in rw (meet_key, meet_id, mark_under, l, k, n)
  ]
]

-- what answers the needs of `find_clash`; key is the hash that the code computed
module _ (h prefix : Bytes) (new : CodeEntry) {key : ℕ} (ek : key ≡ prefix_hash prefix new.kind) (ms : List ℕ) where
  by_key : (es : List Entry) (kind : ℕ)
      → key_found h es ms prefix key (other_sort kind) ≡ elim (eqb kind 7) [ true ↦ key_found h es ms prefix key text_kind | false ↦ key_found h es ms prefix key (map_kind other) ]
  unfolding other_sort
  by_key es kind = elim (test (eqb kind 7)) [ pass k ↦ rw (other_sort, k) | fail k ↦ rw (other_sort, k) ]

  pub clash_found_lem : (es : List Entry) {mixed : Bool} → mixed ≡ mixed_found h es ms prefix key (entry_of new) → {twice : Bool} → twice ≡ twice_found h es ms prefix key (entry_of new)
      → {r : Option Clash} → r ≡ clash_of new.kind twice mixed → r ≡ clash_under h es ms prefix (prefix_hash prefix new.kind) (entry_of new)
  unfolding mixed_found twice_found
  clash_found_lem es a b c =
      c ∙ rw (a, b, by_key es new.kind) (by_sort new.kind (id_found h es ms prefix key (entry_of new)) (key_found h es ms prefix key text_kind) (key_found h es ms prefix key (map_kind other)))
      ∙ ap (λ (k : ℕ). clash_under h es ms prefix k (entry_of new)) ek

  pub clash_marked : {a : List ℕ} → a ≡ meet_id h key (entry_of new) ms → {b : List ℕ} → b ≡ meet_key key new.kind a → b ≡ mark_under h (prefix_hash prefix new.kind) (entry_of new) ms
  clash_marked f g = g ∙ ap (meet_key key new.kind) f ∙ both_marked h key (entry_of new) ms ∙ ap (λ (k : ℕ). mark_under h k (entry_of new) ms) ek

pub ruleset founds = (clash_found_lem, clash_marked)
