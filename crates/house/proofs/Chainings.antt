-- The links of entries, on plain values: they are made from the last entry to the first, for some slots after others. Assumes nothing.
use Prim.Native.Nat.{ℕ, ◌+◌, ◌-◌, ◌%◌, ◌^◌, ◌≤◌, ◌<◌}
use native.Mathlib.Omega.{arith}
use mathlib.Core.Path.{◌≡◌, refl, sym, ap, subst, ◌∙◌}
use mathlib.Core.Bool.{false}
use mathlib.Core.List.{List}
use lib.Dec.{eqb, leb, ltb}
use lib.ListN.{length, get_or, set, replicate, length-set, length-replicate, get_or-replicate}
use lib.Seq.{get_or-set_same, get_or-set_other}
use borrow.Author.Tests.{eqb-true, eqb-false, ltb-true, ltb-false, lt-ltb, le-ltb, lt-leb}
use Rattle.values.specs.Bytes.{Bytes}
use Rattle.values.proofs.Tests.{pass, fail, test}
use Rattle.entries.specs.declared.entry.Entry.{Entry as CodeEntry}
use Rattle.entries.specs.declared.form.Form.{Form}
use Rattle.entries.specs.Values.{entry_of}
use Rattle.entries.specs.Tables.{room, entry_in}
use Rattle.entries.specs.Notes.{bare, note_at, noted}
use Rattle.entries.proofs.Noted.{bare_length, same_room, same_entry, noted_bare, noted_own, noted_other, bare_notes}
use Rattle.house.specs.Links.{slot_in}
use Rattle.house.specs.Chains.{link_at, is_written, written_at, next_at, slot_at, FirstFrom, Nexts, LinkedFrom, Headless, Relinks, LinksEntry, LinksRange, LinksBelow, LinksAll}

-- what answers the needs of `next_of`, `is_written` and `mark_written`

module _ (form : Form) (t : List ℕ) (k : ℕ) {n : ℕ} (e : n ≡ note_at form t k) where
  link_is : n % 8388608 ≡ link_at form t k
  unfolding link_at
  link_is = ap (◌% 8388608) e

  pub next_there : (end : ℕ) → k < n % 8388608 → n % 8388608 ≡ next_at form t k end
  unfolding next_at
  next_there end l = let z = link_is in rw (next_at, lt-ltb k (link_at form t k) (omega arith)) z

  pub next_none : (end : ℕ) → n % 8388608 ≤ k → end ≡ next_at form t k end
  unfolding next_at
  next_none end l = let z = link_is in rw (next_at, le-ltb k (link_at form t k) (omega arith))

  pub written_is : leb 8388608 n ≡ is_written form t k
  unfolding is_written
  written_is = ap (leb 8388608) e

  pub written_set : {t' : List ℕ} → t' ≡ noted form t k (n % 8388608 + 8388608) → t' ≡ written_at form t k
  unfolding written_at
  written_set f = f ∙ ap (λ (x : ℕ). noted form t k (x + 8388608)) link_is

pub ruleset tellings = (next_there, next_none, written_is, written_set)

-- The first one of a slot, from number k on

module _ {slot : ℕ → ℕ} {end s k : ℕ} where
  first_own : slot k ≡ s → FirstFrom slot end s k k
  first_own e = record { back = omega arith; own = λ l. e; none = λ m a b. absurd (omega arith) }

  first_past : end ≤ k → {r : ℕ} → k ≤ r → FirstFrom slot end s k r
  first_past l b = record { back = b; own = λ c. absurd (omega arith); none = λ m a c d. absurd (omega arith) }

  first_other : (slot k ≡ s → ⊥) → {r : ℕ} → FirstFrom slot end s (k + 1) r → FirstFrom slot end s k r
  first_other f g = record {
    back = omega (arith, g.back);
    own = g.own;
    none = λ m a b c e. elim (test (eqb m k)) [
      | pass x ↦ f (ap slot (sym (eqb-true m k x)) ∙ e)
      | fail x ↦ g.none m (omega (arith, eqb-false m k x)) b c e
    ];
  }

-- What is linked from number k on

-- the link of number k changes, if it is of one of these slots
nexts_step : {slot link link' : ℕ → ℕ} {end from n k : ℕ} → Nexts slot link end from n (k + 1) → ((m : ℕ) → (m ≡ k → ⊥) → link' m ≡ link m)
    → (from ≤ slot k → slot k < from + n → FirstFrom slot end (slot k) (k + 1) (link' k)) → Nexts slot link' end from n k
nexts_step {slot} {link} {link'} {end} {from} {n} {k} g f o = record {
  is = λ m a b c d. elim (test (eqb m k)) [
    | pass x ↦
        let z = sym (eqb-true m k x) in
        subst (λ (i : ℕ). FirstFrom slot end (slot i) (i + 1) (link' i)) z (o (rw z c) (rw z d))
    | fail x ↦
        let z = eqb-false m k x in
        subst (FirstFrom slot end (slot m) (m + 1)) (sym (f m z)) (g.is m (omega (arith, z)) b c d)
  ];
}

-- slots below number `from`, and n more
nexts_join : {slot link link' : ℕ → ℕ} {end from n : ℕ} → Nexts slot link end 0 from 0 → ((m : ℕ) → (from ≤ slot m → slot m < from + n → ⊥) → link' m ≡ link m) → Nexts slot link' end from n 0
    → Nexts slot link' end 0 (from + n) 0
nexts_join {slot} {link} {link'} {end} {from} {n} a f b = record {
  is = λ m c d i j. elim (test (ltb (slot m) from)) [
    | pass x ↦
        let l = ltb-true (slot m) from x in
        subst (FirstFrom slot end (slot m) (m + 1)) (sym (f m (λ u v. omega arith))) (a.is m c d i (omega arith))
    | fail x ↦ b.is m c d (ltb-false (slot m) from x) (omega arith)
  ];
}

-- the same by other words for the slots and the end
nexts_as : {slot slot' link : ℕ → ℕ} {end end' from n k : ℕ} → ((m : ℕ) → slot m ≡ slot' m) → end ≡ end' → Nexts slot link end from n k → Nexts slot' link end' from n k
nexts_as {slot} {slot'} {link} {end} {end'} {from} {n} {k} e f g = record {
  is = λ m a b c d.
      let x = g.is m a (rw f b) (rw (e m) c) (rw (e m) d) in
      record {
        back = x.back;
        own = λ l. sym (e (link m)) ∙ x.own (rw f l) ∙ e m;
        none = λ i p q r s. x.none i p q (rw f r) (e i ∙ s ∙ sym (e m));
      };
}

-- Tables after tables

pub same_size : (t t' : List ℕ) → bare t' ≡ bare t → length t' ≡ length t
same_size t t' e = sym (bare_length t') ∙ ap length e ∙ bare_length t

module _ (form : Form) (slot : ℕ → ℕ) (from n : ℕ) where
  relinks_none : (t : List ℕ) → Relinks form slot from n t t
  relinks_none t = record { same = refl; kept = λ m f. refl; fresh = λ m f. f }

  relinks_then : {t t' t'' : List ℕ} → Relinks form slot from n t t' → Relinks form slot from n t' t'' → Relinks form slot from n t t''
  relinks_then a b = record { same = b.same ∙ a.same; kept = λ m f. b.kept m f ∙ a.kept m f; fresh = λ m f. b.fresh m (a.fresh m f) }

-- what answers the needs of `link_entry`

module _ (form : Form) (h : Bytes) (slots from k : ℕ) (heads t : List ℕ) where
  entry_skipped : ((t₀ : List ℕ) → bare t ≡ bare t₀ → from ≤ slot_at form h t₀ slots k → slot_at form h t₀ slots k < from + length heads → ⊥) → LinksEntry form h slots from k heads t heads t
  entry_skipped f = record {
    is = λ t₀ e l g. (
      relinks_none form (slot_at form h t₀ slots) from (length heads) t,
      record {
        small = g.small;
        firsts = λ s a. first_other (λ z. f t₀ e (omega arith) (omega arith)) (g.firsts s a);
        links = nexts_step g.links (λ m z. refl) (λ a b. absurd (f t₀ e a b));
      },
    );
  }

  module _ {e : CodeEntry} (ee : entry_of e ≡ entry_in form t k) {slot : ℕ} (z : slot ≡ slot_in h slots (entry_of e)) where
    slot_here : (t₀ : List ℕ) → bare t ≡ bare t₀ → slot ≡ slot_at form h t₀ slots k
    slot_here t₀ b = z ∙ ap (slot_in h slots) (ee ∙ same_entry form t t₀ b k)

    pub entry_before : slot < from → LinksEntry form h slots from k heads t heads t
    entry_before l = entry_skipped (λ t₀ b c d. omega (arith, slot_here t₀ b))

    pub entry_past : length heads ≤ slot - from → LinksEntry form h slots from k heads t heads t
    entry_past l = entry_skipped (λ t₀ b c d. omega (arith, slot_here t₀ b))

    module _ (a : from ≤ slot) (l : slot - from < length heads) {next : ℕ} (n : next ≡ get_or heads (slot - from) 0) {t' : List ℕ} (w : t' ≡ noted form t k next) where
      abbrev at : ℕ
      at = slot - from

      other_note : (m : ℕ) → (m ≡ k → ⊥) → note_at form t' m ≡ note_at form t m
      other_note m f = rw w (noted_other form t k next f)

      other_link : (m : ℕ) → (m ≡ k → ⊥) → link_at form t' m ≡ link_at form t m
      unfolding link_at
      other_link m f = ap (◌% 2 ^ 23) (other_note m f)

      module _ (t₀ : List ℕ) (b : bare t ≡ bare t₀) (c : k < room form t₀) (g : LinkedFrom (slot_at form h t₀ slots) (link_at form t) (room form t₀) from heads (k + 1)) where
        abbrev slot_on : ℕ → ℕ
        slot_on m = slot_at form h t₀ slots m

        small : next < 2 ^ 23
        small = rw n (g.small at l)

        here : from + at ≡ slot_on k
        here = omega (arith, slot_here t₀ b)

        own_note : note_at form t' k ≡ next
        own_note = rw w (noted_own form t k next (rw (same_room form t t₀ b) c) (omega (arith, small)))

        own_link : link_at form t' k ≡ next
        unfolding link_at
        own_link = rw own_note (omega (arith, small))

        own_fresh : is_written form t' k ≡ false
        unfolding is_written
        own_fresh = rw own_note (lt-leb (2 ^ 23) next small)

        other_fresh : (m : ℕ) → (m ≡ k → ⊥) → is_written form t m ≡ false → is_written form t' m ≡ false
        unfolding is_written
        other_fresh m f q = rw (other_note m f) q

        relinked : Relinks form (slot_at form h t₀ slots) from (length heads) t t'
        relinked = record {
          same = rw w (noted_bare form t k next);
          kept = λ m f. other_link m (λ x. f (rw x (omega (arith, here))) (rw x (omega (arith, here))));
          fresh = λ m f. elim (test (eqb m k)) [
            | pass x ↦ rw (eqb-true m k x) own_fresh
            | fail x ↦ other_fresh m (eqb-false m k x) f
          ];
        }

        head_now : (s : ℕ) → s < length heads → FirstFrom (slot_at form h t₀ slots) (room form t₀) (from + s) k (get_or (set heads at k) s 0)
        head_now s p = elim (test (eqb s at)) [
          | pass x ↦ rw (eqb-true s at x, get_or-set_same heads at k 0 l) (first_own (sym here))
          | fail x ↦
              let f = eqb-false s at x in
              rw (get_or-set_other heads at s k 0 f) (first_other (λ q. f (omega (arith, here))) (g.firsts s p))
        ]

        small_now : k < 2 ^ 23 → (s : ℕ) → s < length heads → get_or (set heads at k) s 0 < 2 ^ 23
        small_now d s p = elim (test (eqb s at)) [
          | pass x ↦ rw (eqb-true s at x, get_or-set_same heads at k 0 l) d
          | fail x ↦ rw (get_or-set_other heads at s k 0 (eqb-false s at x)) (g.small s p)
        ]

        links_now : Nexts (slot_at form h t₀ slots) (link_at form t') (room form t₀) from (length heads) k
        links_now = nexts_step g.links other_link (λ p q. rw (own_link, n, ← here) (g.firsts at l))

      pub entry_here : k < 2 ^ 23 → LinksEntry form h slots from k heads t (set heads at k) t'
      entry_here d = record {
        is = λ t₀ b c g. (
          relinked t₀ b c g,
          record {
            small = rw (length-set heads at k) (small_now t₀ b c g d);
            firsts = rw (length-set heads at k) (head_now t₀ b c g);
            links = rw (length-set heads at k) (links_now t₀ b c g);
          },
        );
      }

pub ruleset placings = (entry_before, entry_past, entry_here)

-- The loop that links, from the last entry to the first

pub record Chaining (form : Form) (h : Bytes) (slots from : ℕ) (heads₀ t₀ heads t : List ℕ) (k : ℕ) : Type 0 where
  pub size : length heads ≡ length heads₀
  pub inside : k ≤ room form t₀
  pub keeps : Relinks form (slot_at form h t₀ slots) from (length heads₀) t₀ t
  pub linked : LinkedFrom (slot_at form h t₀ slots) (link_at form t) (room form t₀) from heads k

pub chain_start : (form : Form) (h : Bytes) (slots from : ℕ) (heads t : List ℕ) → room form t < 2 ^ 23 → Headless heads → {k : ℕ} → k ≡ room form t → Chaining form h slots from heads t heads t k
chain_start form h slots from heads t l f e = record {
  size = refl;
  inside = omega arith;
  keeps = relinks_none form (slot_at form h t slots) from (length heads) t;
  linked = record {
    small = λ s a. omega (arith, f.is s a);
    firsts = λ s a. first_past (omega arith) (omega (arith, f.is s a));
    links = record { is = λ m a b. absurd (omega arith) };
  };
}

module _ {form : Form} {h : Bytes} {slots from : ℕ} {heads₀ t₀ heads t : List ℕ} {k : ℕ} (g : Chaining form h slots from heads₀ t₀ heads t k) where
  pub chain_few : room form t₀ < 2 ^ 23 → 0 < k → k - 1 < 2 ^ 23
  chain_few l a = omega (arith, g.inside)

  pub chain_more : 0 < k → {heads' t' : List ℕ} → LinksEntry form h slots from (k - 1) heads t heads' t' → length heads' ≡ length heads → Chaining form h slots from heads₀ t₀ heads' t' (k - 1)
  chain_more l {heads'} {t'} a c =
      let e : k ≡ k - 1 + 1 = omega arith in
      let x = a.is t₀ g.keeps.same (omega (arith, g.inside)) (subst (LinkedFrom (slot_at form h t₀ slots) (link_at form t) (room form t₀) from heads) e g.linked) in
      record {
        size = c ∙ g.size;
        inside = omega (arith, g.inside);
        keeps = relinks_then form (slot_at form h t₀ slots) from (length heads₀) g.keeps (subst (λ (n : ℕ). Relinks form (slot_at form h t₀ slots) from n t t') g.size x.0);
        linked = x.1;
      }

  pub chain_end : k ≤ 0 → LinksRange form h slots from (length heads₀) t₀ t
  chain_end l =
      let e : k ≡ 0 = omega arith in
      let x = g.linked.links in
      record { keeps = g.keeps; links = subst (λ (i : ℕ). Nexts (slot_at form h t₀ slots) (link_at form t) (room form t₀) from (length heads₀) i) e (rw g.size at x) }

pub ruleset chainings = (same_size, chain_start, chain_few, chain_more, chain_end)

-- what answers the needs of `link_range`

abbrev headless_of : ℕ → List ℕ
headless_of n = replicate n 8388607

sized : (n : ℕ) → length (headless_of n) ≡ n
sized n = length-replicate {A = ℕ} n 8388607

pub headless : (n : ℕ) → Headless (headless_of n)
headless n = record { is = λ s l. get_or-replicate {A = ℕ} n s 8388607 0 (rw (sized n) at l) }

pub range_linked : {form : Form} {h : Bytes} {slots from : ℕ} (n : ℕ) {t t' : List ℕ} → LinksRange form h slots from (length (headless_of n)) t t' → LinksRange form h slots from n t t'
range_linked {form} {h} {slots} {from} n {t} {t'} g = subst (λ (i : ℕ). LinksRange form h slots from i t t') (sized n) g

pub ruleset ranged = (headless, range_linked)

-- The loop over ranges of slots, and what answers the needs of `link_all`

module _ (form : Form) (h : Bytes) where
  pub below_start : (slots : ℕ) (t : List ℕ) → LinksBelow form h slots 0 t t
  below_start slots t = record { same = refl; links = record { is = λ m a b c d. absurd (omega arith) }; fresh = λ m f. f }

  pub below_more : {slots from : ℕ} {t₀ t t' : List ℕ} → LinksBelow form h slots from t₀ t → LinksRange form h slots from 196608 t t' → LinksBelow form h slots (from + 196608) t₀ t'
  below_more {slots} {from} {t₀} {t} {t'} g r =
      let b = sym r.keeps.same in
      record {
        same = r.keeps.same ∙ g.same;
        links = nexts_as (λ m. ap (slot_in h slots) (same_entry form t t' b m)) (same_room form t t' b) (nexts_join g.links r.keeps.kept r.links);
        fresh = λ m f. r.keeps.fresh m (g.fresh m f);
      }

  below_end : {slots from : ℕ} {t t' : List ℕ} → LinksBelow form h slots from t t' → slots ≤ from → LinksBelow form h slots slots t t'
  below_end g l = record { same = g.same; links = record { is = λ m a b c d. g.links.is m a b c (omega arith) }; fresh = g.fresh }

  pub below_few : {slots from : ℕ} {t t' : List ℕ} → LinksBelow form h slots from t t' → room form t < 2 ^ 23 → room form t' < 2 ^ 23
  below_few {slots} {from} {t} {t'} g l = rw (same_room form t' t g.same) l

  bare_fresh : (t : List ℕ) → bare t ≡ t → (m : ℕ) → is_written form t m ≡ false
  unfolding is_written
  bare_fresh t e m = let z : note_at form t m ≡ 0 = rw e at (bare_notes form t m) in rw z (lt-leb (2 ^ 23) 0 (omega arith))

  all_linked : (slots : ℕ) → 0 < slots → {t t' : List ℕ} → LinksBelow form h slots slots t t' → LinksAll form h t t'
  all_linked slots l {t} {t'} g = record {
    same = g.same;
    linked = record { slots = slots; some = l; next = λ m a b. g.links.is m (omega arith) a (omega arith) (omega arith) };
    fresh = λ e m. g.fresh m (bare_fresh t e m);
  }

  module _ {slots from : ℕ} {t₀ t : List ℕ} (g : LinksBelow form h slots from t₀ t) where
    pub all_ranges : 0 < slots → slots ≤ from → LinksAll form h t₀ t
    all_ranges some l = all_linked slots some (below_end g l)

    module _ {t₁ : List ℕ} (q : LinksRange form h slots from 196608 t t₁) where
      pub range_few : room form t₀ < 2 ^ 23 → room form t₁ < 2 ^ 23
      range_few = below_few (below_more g q)

      module _ {t' : List ℕ} (r : LinksRange form h 196608 0 196608 t₁ t') where
        pub all_once : LinksAll form h t₀ t'
        all_once =
            let b = below_more (below_start 196608 t₁) r in
            all_linked 196608 (omega arith) (record { same = b.same ∙ q.keeps.same ∙ g.same; links = b.links; fresh = λ m f. b.fresh m (q.keeps.fresh m (g.fresh m f)) })

        pub once_size : length t' ≡ length t₀
        once_size = same_size t₀ t' all_once.same

pub ruleset ranges = (same_size, below_start, below_more, below_few, range_few, all_once, once_size, all_ranges)
