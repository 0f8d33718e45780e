-- Whether a value is quoted: the code's tests of its meaning. Assumes nothing.
use Rattle.std.specs.Prelude.{Option, Some, None}
use Prim.Native.Nat.{ℕ}
use mathlib.Core.Path.{◌≡◌, refl, sym, ◌∙◌}
use mathlib.Core.Bool.{Bool, true, false, not, ◌&&◌}
use lib.Dec.{eqb}
use lib.ListN.{drop}
use borrow.Author.Tests.{eq-eqb, ne_eqb}
use Rattle.values.specs.Bytes.{Bytes, ascii, empty, begins, any, same}
use Rattle.values.specs.Value.{is_stop, meaning}
use Rattle.values.specs.Places.{unescaped_at}
use Rattle.values.specs.declared.cursor.Cursor.{Cursor}
use Rattle.values.proofs.Tests.{not_true, not_false}
use Rattle.values.proofs.Meanings.{told_end, told_byte, told_less}
use Rattle.rules.specs.House.{closes}
use Rattle.forms.specs.Forms.{quotes}

-- The first byte of a meaning

module _ (x : ℕ) (q : Bool) (s : Bytes) {r : Option (ℕ × Cursor)} (a : r ≡ unescaped_at q s 0) where
  pub begins_none : r ≡ None → false ≡ begins x (meaning q s)
  unfolding begins
  begins_none e = rw (told_end q s 0 a e)

  pub begins_byte : {b : ℕ} {c : Cursor} → r ≡ Some (b, c) → eqb b x ≡ begins x (meaning q s)
  unfolding begins
  begins_byte e = rw (told_byte q s 0 a e)

pub ruleset beginnings = (begins_none, begins_byte)

-- A byte that stops a bare value

pub record Stopping (q : Bool) (s : Bytes) (i : ℕ) : Type 0 where
  pub still : any is_stop (meaning q s) ≡ any is_stop (meaning q (drop i s))

pub stop_all : (q : Bool) (s : Bytes) → Stopping q s 0
stop_all q s = record { still = refl }

module _ {q : Bool} {s : Bytes} {i : ℕ} (g : Stopping q s i) {r : Option (ℕ × Cursor)} (a : r ≡ unescaped_at q s i) where
  pub stop_none : r ≡ None → false ≡ any is_stop (meaning q s)
  unfolding any
  stop_none e = sym (g.still ∙ rw (told_end q s i a e))

  module _ {b : ℕ} {c : Cursor} (e : r ≡ Some (b, c)) {t : Bool} (d : t ≡ is_stop b) where
    pub stop_here : t ≡ true → true ≡ any is_stop (meaning q s)
    unfolding any
    stop_here f = sym (g.still ∙ rw (told_byte q s i a e, any, sym d ∙ f))

    pub stop_later : t ≡ false → Stopping q s c.at
    unfolding any
    stop_later f = record { still = g.still ∙ rw (told_byte q s i a e, any, sym d ∙ f) }

pub ruleset stops = (stop_all, stop_none, stop_here, stop_later, told_less)

-- The first `]`

pub record Closing (q : Bool) (s : Bytes) (i : ℕ) : Type 0 where
  pub still : closes 93 (meaning q s) ≡ closes 93 (meaning q (drop i s))

pub close_all : (q : Bool) (s : Bytes) → Closing q s 0
close_all q s = record { still = refl }

module _ {q : Bool} {s : Bytes} {i : ℕ} (g : Closing q s i) {r : Option (ℕ × Cursor)} (a : r ≡ unescaped_at q s i) where
  pub close_none : r ≡ None → false ≡ closes 93 (meaning q s)
  unfolding closes
  close_none e = sym (g.still ∙ rw (told_end q s i a e))

  module _ {b : ℕ} {c : Cursor} (e : r ≡ Some (b, c)) where
    pub close_later : (b ≡ 93 → ⊥) → Closing q s c.at
    unfolding closes
    close_later n = record { still = g.still ∙ rw (told_byte q s i a e, closes, ne_eqb b 93 n) }

    module _ (h : b ≡ 93) {t : Option (ℕ × Cursor)} (d : t ≡ unescaped_at q s c.at) where
      here : closes 93 (meaning q s) ≡ empty (meaning q (drop c.at s))
      unfolding closes
      here = g.still ∙ rw (told_byte q s i a e, closes, eq-eqb b 93 h)

      pub close_last : t ≡ None → true ≡ closes 93 (meaning q s)
      close_last f = sym (here ∙ rw (told_end q s c.at d f))

      pub close_early : {x : ℕ} {y : Cursor} → t ≡ Some (x, y) → false ≡ closes 93 (meaning q s)
      close_early f = sym (here ∙ rw (told_byte q s c.at d f))

pub ruleset closings = (close_all, close_none, close_later, close_last, close_early, told_less)

-- META's Values

module _ (key t : Bytes) (meta : Bool) where
  pub not_meta : not meta ≡ true → false ≡ (meta && (same key (ascii "Values") && begins 91 t))
  not_meta e = rw (not_true meta e)

  module _ (e : not meta ≡ false) {k : Bool} (a : k ≡ same key (ascii "Values")) where
    pub not_values : not k ≡ true → false ≡ (meta && (same key (ascii "Values") && begins 91 t))
    not_values f = rw (not_false meta e, sym a ∙ not_true k f)

    pub values_begun : not k ≡ false → {b : Bool} → b ≡ begins 91 t → b ≡ (meta && (same key (ascii "Values") && begins 91 t))
    values_begun f g = rw (not_false meta e, sym a ∙ not_false k f) g

pub ruleset brackets = (not_meta, not_values, values_begun)

-- The rule

module _ (key t : Bytes) (meta : Bool) {k : Bool} (a : k ≡ same key (ascii "Description")) where
  pub description_quoted : k ≡ true → true ≡ quotes meta key t
  unfolding quotes
  description_quoted e = rw (quotes, sym a ∙ e)

  module _ (e : k ≡ false) {w : Bool} (b : w ≡ (meta && (same key (ascii "Values") && begins 91 t))) where
    pub values_quoted : w ≡ true → {c : Bool} → c ≡ closes 93 t → not c ≡ quotes meta key t
    unfolding quotes
    values_quoted f g = rw (quotes, sym a ∙ e, sym b ∙ f, g)

    module _ (f : w ≡ false) {x : Bool} (c : x ≡ begins 34 t) where
      pub quote_quoted : x ≡ true → true ≡ quotes meta key t
      unfolding quotes
      quote_quoted g = rw (quotes, sym a ∙ e, sym b ∙ f, sym c ∙ g)

      pub stop_quoted : x ≡ false → {y : Bool} → y ≡ any is_stop t → y ≡ quotes meta key t
      unfolding quotes
      stop_quoted g h = rw (quotes, sym a ∙ e, sym b ∙ f, sym c ∙ g) h

pub ruleset quotings = (description_quoted, values_quoted, quote_quoted, stop_quoted)
