-- Heads and links, on plain values: they are made from the last entry to the first, and no entry of a key is passed over by them. Assumes nothing.
use Prim.Native.Nat.{ℕ, zero, suc, ◌+◌, ◌-◌, ◌%◌, ◌≤◌, ◌<◌}
use native.Mathlib.Omega.{arith}
use native.Mathlib.Nat.{mod-eq_of_lt}
use mathlib.Core.Path.{◌≡◌, refl, sym, ap, subst, ◌∙◌}
use mathlib.Core.Bool.{Bool, true, false, not, ◌||◌}
use mathlib.Core.List.{List, [], ◌∷◌, ◌++◌}
use lib.Dec.{eqb, ltb}
use lib.ListN.{length, get_or, set, take, drop, length-set, get_or-eq_default}
use lib.Seq.{take-add, get_or-set_same, get_or-set_other}
use borrow.Author.Tests.{eqb-true, eqb-false, ltb-true, ltb-false}
use Rattle.values.specs.Bytes.{Bytes}
use Rattle.values.specs.Hash.{wide_basis, wide_step, wide_from}
use Rattle.values.proofs.Tests.{pass, fail, test, or_l, or_r, not_true, not_false}
use Rattle.rules.specs.Version.{Version}
use Rattle.rules.specs.Entry.{Entry}
use Rattle.entries.specs.declared.entry.Entry.{Entry as CodeEntry}
use Rattle.entries.specs.declared.form.Form.{Form}
use Rattle.entries.specs.Values.{entry_of}
use Rattle.entries.specs.Tables.{room, entry_in, entries_in}
use Rattle.entries.proofs.Stored.{entries_here, entries_past}
use Rattle.house.specs.Keys.{is_under, is_record, picked, Listed, is_other_record, prefix_in, seen_under}
use Rattle.house.specs.Links.{slot_of, slot_in, cell_of, link_of, TakesPlace, Lowers, Links, NextIs, PassesOther, Linked}
use Rattle.house.proofs.Picks.{picked_no}
use Rattle.house.proofs.Looks.{listed_nth, own_key}

-- what answers the needs of `slot_of`, `slot_in` and `number_at`
pub slot_none : (n : ℕ) (p : Bytes) → n ≡ 0 → 0 ≡ slot_of n p
unfolding slot_of
slot_none zero p e = refl
slot_none (suc n) p e = absurd (omega arith)

pub slot_some : (n : ℕ) (p : Bytes) → (n ≡ 0 → ⊥) → {x : ℕ} → x ≡ wide_from wide_basis p → {y : ℕ} → y ≡ wide_step x 0 → y % n ≡ slot_of n p
unfolding slot_of
slot_some zero p f a d = absurd (f refl)
slot_some (suc n) p f a d = rw (d, a)

module _ (h : Bytes) (n : ℕ) (e : Entry) {q : Bool} (o : q ≡ is_other_record e) where
  pub slot_typed : not q ≡ true → n ≡ slot_in h n e
  unfolding slot_in
  slot_typed c = rw (slot_in, ← o, not_true q c)

  pub slot_other : not q ≡ false → {p : Bytes} → p ≡ prefix_in h e → {s : ℕ} → s ≡ slot_of n p → s ≡ slot_in h n e
  unfolding slot_in
  slot_other c i z = rw (slot_in, ← o, not_false q c, ← i, z)

pub number_past : (ns : List ℕ) (at : ℕ) → length ns ≤ at → 0 ≡ get_or ns at 0
number_past ns at l = sym (get_or-eq_default ns 0 l)

pub ruleset slots = (slot_none, slot_some, slot_typed, slot_other, number_past)

-- what answers the needs of `take_place`
module _ (h : Bytes) (e : Entry) (k : ℕ) (heads : List ℕ) where
  place_none : {slot : ℕ} → slot ≡ slot_in h (length heads) e → length heads ≤ slot → {r : ℕ} → TakesPlace h e k heads r heads
  place_none z l = record { size = refl; link = λ f. absurd (omega (arith, z)); kept = λ s m a b. a; own = λ f. absurd (omega (arith, z)) }

  module _ {q : Bool} (o : q ≡ is_other_record e) where
    pub place_typed : not q ≡ true → {r : ℕ} → TakesPlace h e k heads r heads
    place_typed n = place_none (slot_typed h (length heads) e o n) (omega arith)

    module _ (n : not q ≡ false) {p : Bytes} (i : p ≡ prefix_in h e) {slot : ℕ} (z : slot ≡ slot_of (length heads) p) where
      pub place_past : length heads ≤ slot → {r : ℕ} → TakesPlace h e k heads r heads
      place_past l = place_none (slot_other h (length heads) e o n i z) l

      pub place_taken : slot < length heads → {x : ℕ} → x ≤ k → TakesPlace h e k heads (get_or heads slot 0) (set heads slot x)
      place_taken l {x} c =
          let y = slot_other h (length heads) e o n i z in
          record {
            size = length-set heads slot x;
            link = λ f. rw (← y) (omega arith);
            kept = λ s m a b. elim (test (eqb s slot)) [
              | pass f ↦ rw (eqb-true s slot f, get_or-set_same heads slot x 0 l) (omega arith)
              | fail f ↦ rw (get_or-set_other heads slot s x 0 (eqb-false s slot f)) a
            ];
            own = λ f. rw (← y, get_or-set_same heads slot x 0 l) c;
          }

pub ruleset places = (place_typed, place_past, place_taken)

-- what answers the needs of `cell_of` and `lower`
pub cell_own : (n k : ℕ) → k < n → k ≡ cell_of n k
unfolding cell_of
cell_own zero k l = absurd (omega arith)
cell_own (suc n) k l = sym (mod-eq_of_lt l)

pub cell_none : (n k : ℕ) → n ≡ 0 → 0 ≡ cell_of n k
unfolding cell_of
cell_none zero k e = refl
cell_none (suc n) k e = absurd (omega arith)

pub cell_shared : (n k : ℕ) → (n ≡ 0 → ⊥) → k % n ≡ cell_of n k
unfolding cell_of
cell_shared zero k f = absurd (f refl)
cell_shared (suc n) k f = refl

module _ (links : List ℕ) (k next : ℕ) {cell : ℕ} (z : cell ≡ cell_of (length links) k) where
  pub lower_none : length links ≤ cell → Lowers links k next links
  lower_none l = record { size = refl; kept = λ i. omega arith; own = rw (← z, ← number_past links cell l) (omega arith) }

  pub lower_small : get_or links cell 0 ≤ next → Lowers links k next links
  lower_small l = record { size = refl; kept = λ i. omega arith; own = rw (← z) l }

  pub lower_set : cell < length links → next < get_or links cell 0 → Lowers links k next (set links cell next)
  lower_set l a = record {
    size = length-set links cell next;
    kept = λ i. rw (length-set links cell next) (elim (test (eqb (cell_of (length links) i) cell)) [
      | pass f ↦ rw (eqb-true (cell_of (length links) i) cell f, get_or-set_same links cell next 0 l) (omega arith)
      | fail f ↦ rw (get_or-set_other links cell (cell_of (length links) i) next 0 (eqb-false (cell_of (length links) i) cell f)) (omega arith)
    ]);
    own = rw (length-set links cell next, ← z, get_or-set_same links cell next 0 l) (omega arith);
  }

pub ruleset cells = (cell_own, cell_none, cell_shared, lower_none, lower_small, lower_set)

-- The loop that links: the entries from number k on

pub record Linking (form : Form) (h : Bytes) (t heads₀ links₀ heads links : List ℕ) (k : ℕ) : Type 0 where
  pub heads_size : length heads ≡ length heads₀
  pub links_size : length links ≡ length links₀
  pub is : Links form h t heads links k

pub link_start : (form : Form) (h : Bytes) (t heads links : List ℕ) {k : ℕ} → k ≡ room form t → Linking form h t heads links heads links k
link_start form h t heads links e = record {
  heads_size = refl;
  links_size = refl;
  is = record { first = λ m a b o. absurd (omega arith); next = λ j m a b c o s. absurd (omega arith) };
}

module _ {form : Form} {h : Bytes} {t heads₀ links₀ heads links : List ℕ} {k : ℕ} (g : Linking form h t heads₀ links₀ heads links k) where
  pub link_end : k ≤ 0 → Links form h t heads links 0
  link_end l = let z : k ≡ 0 = omega arith in subst (Links form h t heads links) z g.is

  module _ (l : 0 < k) {e : CodeEntry} (ee : entry_of e ≡ entry_in form t (k - 1)) {r : ℕ} {heads' : List ℕ} (p : TakesPlace h (entry_of e) (k - 1) heads r heads')
      {links' : List ℕ} (w : Lowers links k r links') where
    abbrev slot : ℕ → ℕ
    slot m = slot_in h (length heads) (entry_in form t m)

    own_slot : (m : ℕ) → m ≡ k - 1 → slot_in h (length heads) (entry_of e) ≡ slot m
    own_slot m f = rw (ee, f)

    first_one : (m : ℕ) → k - 1 ≤ m → m < room form t → slot m < length heads → get_or heads' (slot m) 0 ≤ m
    first_one m a b o = elim (test (eqb m (k - 1))) [
      | pass f ↦
          let z = own_slot m (eqb-true m (k - 1) f) in
          let y : get_or heads' (slot m) 0 ≤ k - 1 = rw (← z) (p.own (rw z o)) in omega (arith, eqb-true m (k - 1) f)
      | fail f ↦
          let y : k ≤ m = omega (arith, eqb-false m (k - 1) f) in p.kept (slot m) m (g.is.first m y b o) a
    ]

    next_one : (j m : ℕ) → k - 1 ≤ j → j < m → m < room form t → slot m < length heads → slot m ≡ slot j → link_of links' (j + 1) ≤ m
    next_one j m a b c o s = elim (test (eqb j (k - 1))) [
      | pass f ↦
          let y : j + 1 ≡ k = omega (arith, eqb-true j (k - 1) f) in
          let z = own_slot j (eqb-true j (k - 1) f) in
          let x : get_or heads (slot m) 0 ≤ m = g.is.first m (omega arith) c o in
          let u : r ≤ get_or heads (slot m) 0 = rw (s, ← z) (p.link (rw (z, ← s) o)) in
          rw y (omega (arith, w.own, u, x))
      | fail f ↦
          let y : k ≤ j = omega (arith, eqb-false j (k - 1) f) in omega (arith, w.kept (j + 1), g.is.next j m y b c o s)
    ]

    pub link_more : Linking form h t heads₀ links₀ heads' links' (k - 1)
    link_more = record {
      heads_size = p.size ∙ g.heads_size;
      links_size = w.size ∙ g.links_size;
      is = record { first = rw p.size first_one; next = rw p.size next_one };
    }

pub ruleset linkings = (link_start, link_end, link_more)

-- what answers the needs of `next_of` and `pass_other`
module _ {slot : ℕ} {heads links : List ℕ} {k : ℕ} where
  pub next_here : NextIs slot heads links k k
  next_here = record { back = omega arith; is = λ m a b. a }

  pub next_on : slot < length heads → {c : ℕ} → c ≡ cell_of (length links) k → {r : ℕ} → r ≡ get_or links c 0 → k ≤ r → NextIs slot heads links k r
  next_on f {c} i e l = record { back = l; is = λ m a b. rw (e, i) (b f) }

pub ruleset nexts = (next_here, next_on)

module _ {h : Bytes} {e : Entry} {slot : ℕ} {heads links : List ℕ} {k : ℕ} where
  pub pass_here : PassesOther h e slot heads links k k
  pass_here = record { back = omega arith; is = λ m a b. a }

  pub pass_on : {s : ℕ} → s ≡ slot_in h (length heads) e → s ≡ slot → {r : ℕ} → NextIs slot heads links k r → PassesOther h e slot heads links k r
  pass_on a b n = record { back = n.back; is = λ m c d. n.is m c (d (sym a ∙ b)) }

pub ruleset passings = (pass_here, pass_on)

-- Where the walk goes on, no entry of the key was passed over

module _ {form : Form} {v : Version} {f : Bool} {h t prefix : Bytes} {slot : ℕ} {heads links : List ℕ} (g : Linked form v f h t prefix slot heads links) where
  pub listed_in : (m : ℕ) → m < room form t → is_record (entry_in form t m) ≡ true → Listed f v h (entry_in form t m)
  listed_in m l = listed_nth form f v h t g.listed m l

  -- an entry under the prefix has the key
  pub own_is : (m : ℕ) → m < room form t → is_under h prefix (entry_in form t m) ≡ true → (is_other_record (entry_in form t m) ≡ true) × (prefix_in h (entry_in form t m) ≡ prefix)
  own_is m l u =
      let k = g.key in
      let o = own_key f v h (entry_in form t m) (listed_in m l) k.key k.plain k.untyped (ap (λ (p : Bytes). is_under h p (entry_in form t m)) (sym k.is) ∙ u) in
      (o.0, o.1 ∙ sym k.is)

  -- and so its slot
  pub slot_is : (m : ℕ) → m < room form t → is_under h prefix (entry_in form t m) ≡ true → slot_in h (length heads) (entry_in form t m) ≡ slot
  unfolding slot_in
  slot_is m l u = let o = own_is m l u in rw (slot_in, o.0, o.1) (sym g.place)

  pub before_head : (m : ℕ) → m < get_or heads slot 0 → m < room form t → is_under h prefix (entry_in form t m) ≡ false
  before_head m a l = elim (test (is_under h prefix (entry_in form t m))) [
    | fail q ↦ q
    | pass q ↦ elim (test (ltb slot (length heads))) [
      | pass c ↦
          let o = slot_is m l q in
          let y = g.chain.first m (omega arith) l (rw o (ltb-true slot (length heads) c)) in let z : get_or heads slot 0 ≤ m = rw (← o) y in absurd (omega arith)
      | fail c ↦ let z = number_past heads slot (ltb-false slot (length heads) c) in absurd (omega arith)
    ]
  ]

  pub passed_over : (j r : ℕ) → ((m : ℕ) → j + 1 ≤ m → (slot_in h (length heads) (entry_in form t j) ≡ slot → slot < length heads → link_of links (j + 1) ≤ m) → r ≤ m)
      → (m : ℕ) → j < m → m < r → m < room form t → is_under h prefix (entry_in form t m) ≡ false
  passed_over j r n m a b l = elim (test (is_under h prefix (entry_in form t m))) [
    | fail q ↦ q
    | pass q ↦
        let o = slot_is m l q in
        let y = n m (omega arith) (λ s c. g.chain.next j m (omega arith) a l (rw o c) (o ∙ sym s)) in absurd (omega arith)
  ]

-- From numbers to lists

module _ (form : Form) (h : Bytes) (t prefix : Bytes) where
  abbrev es : List Entry
  es = entries_in form t

  abbrev under : ℕ → Bool
  under m = is_under h prefix (entry_in form t m)

  pub picked_skip : (v : Version) (d i : ℕ) → ((m : ℕ) → i ≤ m → m < i + d → m < room form t → under m ≡ false) → picked v h prefix (drop i es) ≡ picked v h prefix (drop (i + d) es)
  picked_skip v zero i n = let z : i + 0 ≡ i = omega arith in rw z
  picked_skip v (suc d) i n = elim (test (ltb i (room form t))) [
    | pass f ↦
        let l = ltb-true i (room form t) f in
        let z : i + 1 + d ≡ i + suc d = omega arith in
        ap (picked v h prefix) (entries_here form t i l) ∙ picked_no v h prefix (entry_in form t i) (drop (i + 1) es) (n i (omega arith) (omega arith) l)
        ∙ rw (← z) (picked_skip v d (i + 1) (λ m a b c. n m (omega arith) (omega arith) c))
    | fail f ↦ let l = ltb-false i (room form t) f in rw (entries_past form t i l, entries_past form t (i + suc d) (omega arith))
  ]

  seen_snoc : (xs : List Entry) (e : Entry) → seen_under h prefix (xs ++ e ∷ []) ≡ (seen_under h prefix xs || is_under h prefix e)
  unfolding seen_under
  seen_snoc [] e = elim (test (is_under h prefix e)) [ pass q ↦ rw q | fail q ↦ rw q ]
  seen_snoc (x ∷ xs) e = elim (test (is_under h prefix x)) [
    | pass q ↦ rw q
    | fail q ↦ rw q (seen_snoc xs e)
  ]

  pub take_one : (k : ℕ) → k < room form t → seen_under h prefix (take (k + 1) es) ≡ (seen_under h prefix (take k es) || under k)
  take_one k l = ap (seen_under h prefix) (take-add k 1 es ∙ rw (entries_here form t k l)) ∙ seen_snoc (take k es) (entry_in form t k)

  pub seen_none : (k : ℕ) → k ≤ room form t → ((m : ℕ) → m < k → under m ≡ false) → seen_under h prefix (take k es) ≡ false
  unfolding seen_under
  seen_none zero l n = refl
  seen_none (suc k) l n = let z : suc k ≡ k + 1 = omega arith in rw (z, take_one k (omega arith), seen_none k (omega arith) (λ m a. n m (omega arith)), n k (omega arith))

  pub seen_some : (k m : ℕ) → m < k → k ≤ room form t → under m ≡ true → seen_under h prefix (take k es) ≡ true
  seen_some zero m a l u = absurd (omega arith)
  seen_some (suc k) m a l u =
      let z : suc k ≡ k + 1 = omega arith in
      elim (test (eqb m k)) [
        | pass f ↦ rw (z, take_one k (omega arith), ← eqb-true m k f, u) (or_on (seen_under h prefix (take m es)))
        | fail f ↦ let w = eqb-false m k f in rw (z, take_one k (omega arith), seen_some k m (omega (arith, w)) (omega arith) u)
      ]
    where
      or_on : (b : Bool) → (b || true) ≡ true
      or_on true = refl
      or_on false = refl

-- the entries before number k have no line under a prefix that none of them has
pub unseen_picked : (v : Version) (h p : Bytes) (xs ys : List Entry) → seen_under h p xs ≡ false → picked v h p (xs ++ ys) ≡ picked v h p ys
unfolding seen_under
unseen_picked v h p [] ys n = refl
unseen_picked v h p (x ∷ xs) ys n = picked_no v h p x (xs ++ ys) (or_l (is_under h p x) (seen_under h p xs) n) ∙ unseen_picked v h p xs ys (or_r (is_under h p x) (seen_under h p xs) n)
