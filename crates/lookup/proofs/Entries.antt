-- An entry told whole, and the search under a key and an ID: the ways of the code, on plain values. Assumes nothing.
use Prim.Native.Nat.{ℕ, suc, ◌+◌, ◌-◌, ◌*◌, ◌^◌, ◌≤◌, ◌<◌}
use native.Mathlib.Omega.{arith}
use mathlib.Core.Path.{◌≡◌, sym, ap, ◌∙◌}
use mathlib.Core.Bool.{Bool, true, false, not}
use mathlib.Core.List.{List, []}
use Rattle.std.specs.Prelude.{Some, Option, None}
use lib.Dec.{ltb}
use lib.ListN.{length, take, drop}
use borrow.Author.Tests.{le-leb, lt-leb}
use mir.Syntax.{w64}
use mir.Val.{Fits}
use Rattle.values.specs.Bytes.{Bytes, ascii, is, starts, same, before}
use Rattle.values.specs.Value.{meaning}
use Rattle.values.proofs.Tests.{not_true, not_false}
use Rattle.values.proofs.Fields.{before_part}
use Rattle.rules.specs.Entry.{if_counted}
use Rattle.rules.specs.Shown.{has_id, line_in, id_in}
use Rattle.rules.specs.Claims.{key_in}
use Rattle.entries.specs.declared.entry.Entry.{Entry}
use Rattle.entries.specs.declared.form.Form.{Form}
use Rattle.entries.specs.Values.{entry_of}
use Rattle.entries.specs.Shown.{entry_meant}
use Rattle.entries.specs.Tables.{room, entry_at}
use Rattle.entries.proofs.Calls.{found_inside}
use Rattle.index.specs.Index.{first_from}
use Rattle.lookup.specs.Entries.{entry_key, described_in, has_key_and_id, is_under, first_under}

-- The key

module _ (h : Bytes) (e : Entry) where
  pub key_none : 8 < e.kind → [] ≡ entry_key h (entry_of e)
  unfolding entry_key
  key_none l = rw (entry_key, lt-leb e.kind 8 l)

  module _ (k : e.kind ≤ 8) {l : Bytes} (a : l ≡ line_in h (entry_of e)) {q : Bool} (b : q ≡ starts (ascii "##") l) where
    pub key_unmarked : not q ≡ true → [] ≡ entry_key h (entry_of e)
    unfolding entry_key
    key_unmarked n = rw (entry_key, le-leb e.kind 8 k, ← a, ← b, not_true q n)

    pub key_marked : not q ≡ false → {end : ℕ} → end ≡ 2 + length (before (is 61) (drop 2 l)) → {y : Bytes} → y ≡ take (end - 2) (drop 2 l) → y ≡ entry_key h (entry_of e)
    unfolding entry_key
    key_marked n f g = g ∙ rw (entry_key, le-leb e.kind 8 k, ← a, ← b, not_false q n) (before_part (is 61) l 2 f ∙ ap key_in a)

pub ruleset keys = (key_none, key_unmarked, key_marked)

module _ (n : ℕ) {q : Bool} where
  pub is_told : q ≡ true → n ≡ if_counted q n
  is_told e = rw e

  pub not_told : q ≡ false → 0 ≡ if_counted q n
  not_told e = rw e

pub ruleset tellings = (is_told, not_told)

-- An entry

module _ (form : Form) (h : Bytes) (t : List ℕ) (n : ℕ) {r : Option Entry} (a : entry_meant r ≡ entry_at form h t n) where
  pub undescribed : r ≡ None → None ≡ described_in h (entry_at form h t n)
  undescribed e = ap (described_in h) (sym (ap entry_meant e) ∙ a)

  pub no_entry : (key id : Bytes) → r ≡ None → false ≡ is_under form h t key id n
  unfolding is_under
  no_entry key id e = ap (has_key_and_id h key id) (sym (ap entry_meant e) ∙ a)

  module _ {x : Entry} (b : r ≡ Some x) where
    is_some : entry_at form h t n ≡ Some (entry_of x)
    is_some = sym a ∙ ap entry_meant b

    module _ (l : length h * 1 < 2 ^ 63) where
      pub key_place_fits : Fits w64 (x.start + 2)
      key_place_fits = let i = found_inside form h t n a b in record { fits = omega arith }

      pub id_place_fits : Fits w64 (x.start + x.offset)
      id_place_fits = let i = found_inside form h t n a b in record { fits = omega arith }

    module _ {k : Bytes} (c : k ≡ entry_key h (entry_of x)) {q : Bool} (d : q ≡ has_id x.kind) where
      pub describes : {i j : ℕ} → i ≡ if_counted (ltb 0 (length k)) (x.start + 2) → j ≡ if_counted q (x.start + x.offset)
          → Some (record {
            kind = x.kind;
            start = x.start;
            length = x.length;
            key_start = i;
            key_length = length k;
            has_id = q;
            id_start = j;
            id_length = x.id_length;
            quoted = x.quoted;
          })
          ≡ described_in h (entry_at form h t n)
      describes e f = rw (e, f, c, d, is_some)

    module _ (key id : Bytes) {q : Bool} (d : q ≡ has_id x.kind) where
      pub no_id : not q ≡ true → false ≡ is_under form h t key id n
      unfolding is_under
      no_id e = rw (is_some, has_key_and_id, ← d, not_true q e)

      module _ (on : not q ≡ false) {k : Bytes} (c : k ≡ entry_key h (entry_of x)) {s : Bool} (f : s ≡ same k key) where
        pub other_key : s ≡ false → s ≡ is_under form h t key id n
        unfolding is_under
        other_key e = rw (is_some, has_key_and_id, ← d, not_false q on, ← c, ← f, e)

        pub same_key : s ≡ true → {p : Bytes} → p ≡ id_in h (entry_of x) → {y : Bool} → y ≡ same (meaning x.quoted p) (meaning false id) → y ≡ is_under form h t key id n
        unfolding is_under
        same_key e g i = rw (is_some, has_key_and_id, ← d, not_false q on, ← c, ← f, e, ← g) i

pub ruleset descriptions = (undescribed, describes, key_place_fits, id_place_fits)

pub ruleset unders = (no_entry, no_id, other_key, same_key)

-- The search

-- none of the entries before n is a hit
pub record Seeking (form : Form) (h : Bytes) (t : List ℕ) (key id : Bytes) (n : ℕ) : Type 0 where
  pub inside : n ≤ room form t
  pub still : first_under form h t key id ≡ first_from (is_under form h t key id) n (room form t - n)

pub seek_start : (form : Form) (h : Bytes) (t : List ℕ) (key id : Bytes) → Seeking form h t key id 0
seek_start form h t key id = record { inside = omega arith; still = let e : room form t - 0 ≡ room form t = omega arith in rw e }

module _ {form : Form} {h : Bytes} {t : List ℕ} {key id : Bytes} {n : ℕ} (g : Seeking form h t key id n) {count : ℕ} (a : count ≡ room form t) where
  pub seek_end : count ≤ n → None ≡ first_under form h t key id
  unfolding first_from
  seek_end l = let e : room form t - n ≡ 0 = omega arith in sym (g.still ∙ rw e)

  module _ (l : n < count) {q : Bool} (b : q ≡ is_under form h t key id n) where
    one_more : room form t - n ≡ suc (room form t - (n + 1))
    one_more = omega arith

    pub seek_found : q ≡ true → Some n ≡ first_under form h t key id
    unfolding first_from
    seek_found e = sym (g.still ∙ rw (one_more, first_from, ← b, e))

    pub seek_next : q ≡ false → Seeking form h t key id (n + 1)
    unfolding first_from
    seek_next e = record { inside = omega arith; still = g.still ∙ rw (one_more, first_from, ← b, e) }

pub ruleset seeks = (seek_start, seek_end, seek_found, seek_next)
