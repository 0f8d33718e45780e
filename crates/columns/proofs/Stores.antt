-- The entries of a column line: one stored after the other. Assumes nothing.
use Prim.Native.Nat.{ℕ, ◌+◌, ◌-◌, ◌≤◌, ◌<◌}
use native.Mathlib.Omega.{arith}
use mathlib.Core.Path.{◌≡◌, refl, sym, ap, ◌∙◌}
use mathlib.Core.Bool.{Bool, true, false, not}
use mathlib.Core.List.{List, [], ◌∷◌}
use lib.Dec.{ltb}
use lib.ListN.{length, drop, length-take, length-drop}
use borrow.Author.Tests.{le-leb, lt-leb}
use Rattle.values.specs.Bytes.{Bytes, is, before, part, TAB}
use Rattle.values.proofs.Lists.{there, past, stands}
use Rattle.rules.specs.Answer.{ok}
use Rattle.rules.specs.Columns.{Columns, split, read_columns}
use Rattle.rules.specs.Entry.{Entry, columns_kind, sample_kind, plain_entry, tabbed, samples_start, sample_entries, column_entries}
use Rattle.entries.specs.declared.form.Form.{Form}
use Rattle.entries.specs.Tables.{room, stored, put, put_all}
use Rattle.entries.proofs.Stored.{put_none, put_one, put_roomy}
use Rattle.columns.specs.HeaderLines.{name_entries, columns_put}
use Rattle.columns.proofs.Lines.{nameless, with_names, accepted}
use Rattle.columns.proofs.Names.{name_less}
use Rattle.columns.proofs.Splits.{split_last, split_more}

-- a part that is not empty lies in its whole
pub part_inside : (h : Bytes) (start end : ℕ) {s : Bytes} → s ≡ part h start end → 46 ≤ length s → start + length s ≤ length h
part_inside h start end e l =
    let n = ap length e ∙ length-take (end - start) (drop start h) in
    let m = length-drop start h in
    omega arith

-- the entries of the names that stand from the place i of the line on
abbrev names_from : Bytes → ℕ → ℕ → List Entry
names_from s start i = sample_entries (start + i) (split (drop i s))

module _ (s : Bytes) (start from : ℕ) {end : ℕ} (a : end ≡ from + length (before (is TAB) (drop from s))) where
  names_last : length s ≤ end → names_from s start from ≡ plain_entry sample_kind (start + from) (end - from) ∷ []
  unfolding sample_entries
  names_last h =
      let n : length (before (is TAB) (drop from s)) ≡ end - from = omega arith in
      rw (split_last s from a h) (rw n)

  names_next : end < length s → names_from s start from ≡ plain_entry sample_kind (start + from) (end - from) ∷ names_from s start (end + 1)
  unfolding sample_entries
  names_next h =
      let n : length (before (is TAB) (drop from s)) ≡ end - from = omega arith in
      let k : start + from + (end - from) + 1 ≡ start + (end + 1) = omega arith in
      rw (split_more s from a h) (rw n (rw k))

names_short : (s : Bytes) (start : ℕ) → length s < 46 → name_entries s start ≡ []
unfolding name_entries
names_short s start h = rw (lt-leb 46 (length s) h, name_entries)

names_all : (s : Bytes) (start : ℕ) → 46 ≤ length s → name_entries s start ≡ names_from s start 46
unfolding name_entries
names_all s start l = rw (le-leb 46 (length s) l, name_entries)

-- the names of the line s from `from` on, put from number k on, give the whole
pub record Storing (form : Form) (h : Bytes) (start end : ℕ) (s : Bytes) (n : ℕ) (t₀ t : List ℕ) (from k : ℕ) : Type 0 where
  pub fits : start + length s ≤ length h
  pub inside : from ≤ length s
  pub size : length t ≡ length t₀
  pub still : put_all form t k (names_from s start from) ≡ put_all form t₀ n (name_entries (part h start end) start)

module _ (form : Form) (h : Bytes) (start end n : ℕ) (t : List ℕ) {s : Bytes} (e : s ≡ part h start end) where
  pub no_names : length s < 46 → t ≡ put_all form t n (name_entries (part h start end) start)
  unfolding put_all
  no_names l = rw (← e, names_short s start l)

  pub store_all : 46 ≤ length s → Storing form h start end s n t t 46 n
  store_all l = record { fits = part_inside h start end e l; inside = l; size = refl; still = ap (put_all form t n) (sym (names_all s start l) ∙ ap (λ (x : Bytes). name_entries x start) e) }

module _ {form : Form} {h : Bytes} {start end : ℕ} {s : Bytes} {n : ℕ} {t₀ t : List ℕ} {from k : ℕ} (g : Storing form h start end s n t₀ t from k) {tab : ℕ} (a : tab ≡ from + length (before (is TAB) (drop from s)))
    {e : Entry} (c : e ≡ plain_entry sample_kind (start + from) (tab - from)) {q : Bool} (b : q ≡ ltb k (room form t)) {t' : List ℕ} (p : t' ≡ put form t k e) where
  pub store_full : not q ≡ true → t' ≡ put_all form t₀ n (name_entries (part h start end) start)
  store_full f = elim (stands s tab) [
    | there l ↦ put_none form t k e (names_from s start (tab + 1)) b p f ∙ ap (put_all form t k) (ap (◌∷ names_from s start (tab + 1)) c ∙ sym (names_next s start from a l)) ∙ g.still
    | past l ↦ put_none form t k e [] b p f ∙ ap (put_all form t k) (ap (◌∷ []) c ∙ sym (names_last s start from a l)) ∙ g.still
  ]

  pub store_last : not q ≡ false → length s ≤ tab → t' ≡ put_all form t₀ n (name_entries (part h start end) start)
  unfolding put_all
  store_last f l = put_one form t k e [] b p f ∙ ap (put_all form t k) (ap (◌∷ []) c ∙ sym (names_last s start from a l)) ∙ g.still

  pub store_next : not q ≡ false → tab < length s → length t' ≡ length t → Storing form h start end s n t₀ t' (tab + 1) (k + 1)
  store_next f l z = record {
    fits = g.fits;
    inside = omega arith;
    size = z ∙ g.size;
    still = put_one form t k e (names_from s start (tab + 1)) b p f ∙ ap (put_all form t k) (ap (◌∷ names_from s start (tab + 1)) c ∙ sym (names_next s start from a l)) ∙ g.still;
  }

pub ruleset stores = (no_names, store_all, store_full, store_last, store_next, name_less)

-- The column line's own entry, then those of its names

module _ (form : Form) (h : Bytes) (start end n : ℕ) (t₀ : List ℕ) {s : Bytes} (d : s ≡ part h start end) {e : Entry} (c : e ≡ plain_entry columns_kind start (length s))
    {q : Bool} (b : q ≡ ltb n (room form t₀)) {t₁ : List ℕ} (p : t₁ ≡ put form t₀ n e) where
  pub columns_full : not q ≡ true → t₁ ≡ columns_put form (part h start end) start n t₀
  unfolding columns_put
  columns_full f = put_none form t₀ n e (name_entries (part h start end) start) b p f ∙ rw (c, d)

  pub columns_stored : not q ≡ false → {t₂ : List ℕ} → t₂ ≡ put_all form t₁ (n + 1) (name_entries (part h start end) start) → t₂ ≡ columns_put form (part h start end) start n t₀
  unfolding columns_put
  columns_stored f r = r ∙ put_one form t₀ n e (name_entries (part h start end) start) b p f ∙ rw (c, d)

pub ruleset columns = (columns_full, columns_stored)

-- What is put of an accepted line with room is its entries

names_at : samples_start ≡ 46
unfolding samples_start tabbed
names_at = refl

whole_samples : (s : Bytes) (start : ℕ) (c : Columns) → read_columns s ≡ ok c → name_entries s start ≡ sample_entries (start + samples_start) c.samples
unfolding sample_entries
whole_samples s start c r = elim (accepted s c r) [
  | nameless h v ↦ names_short s start h ∙ rw v
  | with_names h v ↦ names_all s start h ∙ rw (v, names_at)
]

pub columns_put_lem : (form : Form) (s : Bytes) (start : ℕ) (c : Columns) → read_columns s ≡ ok c → (n : ℕ) (t : List ℕ) → n + length (column_entries start s c) ≤ room form t
    → columns_put form s start n t ≡ stored form t n (column_entries start s c)
unfolding columns_put column_entries
columns_put_lem form s start c r n t l = rw (whole_samples s start c r) (put_roomy form t n (column_entries start s c) l)
