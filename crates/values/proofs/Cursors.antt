-- Cursors: the next byte, and the next byte of a meaning. Assumes nothing.
use Rattle.std.specs.Prelude.{Option, Some, None}
use Prim.Native.Nat.{ℕ, ◌+◌, ◌≤◌, ◌<◌}
use native.Mathlib.Omega.{arith}
use mathlib.Core.Path.{◌≡◌, refl, sym, ap, ◌∙◌}
use mathlib.Core.Bool.{Bool, true, false, not}
use mathlib.Core.List.{[], ◌∷◌}
use lib.Dec.{eqb}
use lib.ListN.{length, get_or, drop, drop_of_length-le}
use borrow.Author.Tests.{eq-eqb, ne_eqb, eqb-true, eqb-false}
use Rattle.values.specs.Bytes.{Bytes, is}
use Rattle.values.specs.Value.{is_escapable, unescaped, meaning}
use Rattle.values.specs.Places.{cursor_at, byte_at, escapes, unescaped_from, unescaped_at}
use Rattle.values.specs.declared.cursor.Cursor.{Cursor}
use Rattle.values.proofs.Tests.{pass, fail, test, or_r, not_true, not_false, both, never}
use Rattle.values.proofs.Lists.{some_pair, none_not, some_not, there, past, stands, drop_past, here}

pub byte_there : (s : Bytes) (i : ℕ) → i < length s → Some (get_or s i 0, cursor_at (i + 1)) ≡ byte_at s i
byte_there s i h = rw (here s i)

pub byte_past : (s : Bytes) (i : ℕ) → length s ≤ i → None ≡ byte_at s i
byte_past s i h = rw (drop_of_length-le s h)

-- what answers the needs of `next_byte`
pub ruleset bytes = (byte_there, byte_past)

-- what was read stands there
pub byte_read : (s : Bytes) (i : ℕ) {b : ℕ} {c : Cursor} → byte_at s i ≡ Some (b, c) → (get_or s i 0 ≡ b) × (c ≡ cursor_at (i + 1)) × (i < length s)
byte_read s i {b} {c} e = elim (stands s i) [
  | there h ↦ let p = some_pair (byte_there s i h ∙ e) in (p.0, sym p.1, h)
  | past h ↦ none_not (byte_past s i h ∙ e)
]

none_escapes : (s : Bytes) (i : ℕ) → byte_at s i ≡ None → escapes (drop i s) ≡ false
none_escapes s i e = elim (stands s i) [
  | there h ↦ some_not (byte_there s i h ∙ e)
  | past h ↦ rw (drop_past s i h)
]

one_escapes : (s : Bytes) (i : ℕ) {b : ℕ} {c : Cursor} → byte_at s i ≡ Some (b, c) → escapes (drop i s) ≡ is_escapable b
one_escapes s i e = let r = byte_read s i e in let h = r.2 in rw (here s i, r.0)

pub unescaped_past : (q : Bool) (s : Bytes) (i : ℕ) → length s ≤ i → unescaped_at q s i ≡ None
unfolding unescaped_at
unescaped_past true s i h = rw (drop_past s i h)
unescaped_past false s i h = rw (drop_past s i h)

pub unescaped_bare : (s : Bytes) (i : ℕ) → unescaped_at false s i ≡ byte_at s i
unfolding unescaped_at
unescaped_bare s i = refl

module _ (s : Bytes) (i : ℕ) (h : i < length s) where
  pub unescaped_plain : (get_or s i 0 ≡ 92 → ⊥) → unescaped_at true s i ≡ byte_at s i
  unfolding unescaped_at
  unescaped_plain ne = rw (here s i) (rw (ne_eqb (get_or s i 0) 92 ne, unescaped_from))

  module _ (e : get_or s i 0 ≡ 92) where
    pub unescaped_slash : escapes (drop (i + 1) s) ≡ true → unescaped_at true s i ≡ byte_at s (i + 1)
    unfolding unescaped_at
    unescaped_slash f = rw (here s i) (rw (eq-eqb (get_or s i 0) 92 e, f, unescaped_from))

    pub unescaped_stray : escapes (drop (i + 1) s) ≡ false → unescaped_at true s i ≡ byte_at s i
    unfolding unescaped_at
    unescaped_stray f = rw (here s i) (rw (eq-eqb (get_or s i 0) 92 e, f, unescaped_from))

-- r is the byte that the code read at i
module _ (q : Bool) (s : Bytes) (i : ℕ) {r : Option (ℕ × Cursor)} (a : r ≡ byte_at s i) where
  pub no_byte : r ≡ None → None ≡ unescaped_at q s i
  no_byte e = elim (stands s i) [
    | there h ↦ some_not (byte_there s i h ∙ sym a ∙ e)
    | past h ↦ sym (unescaped_past q s i h)
  ]

  module _ {b : ℕ} {c : Cursor} (e : r ≡ Some (b, c)) where
    read : (get_or s i 0 ≡ b) × (c ≡ cursor_at (i + 1)) × (i < length s)
    read = byte_read s i (sym a ∙ e)

    pub bare_byte : not q ≡ true → Some (b, c) ≡ unescaped_at q s i
    bare_byte n = sym e ∙ a ∙ rw (not_true q n, unescaped_bare s i)

    pub quoted_byte : not q ≡ false → (b ≡ 92 → ⊥) → Some (b, c) ≡ unescaped_at q s i
    quoted_byte n ne = sym e ∙ a ∙ rw (not_false q n, unescaped_plain s i read.2 (rw read.0 ne))

    -- r' is the one that the code read after a backslash
    module _ (n : not q ≡ false) (w : b ≡ 92) {r' : Option (ℕ × Cursor)} (a' : r' ≡ byte_at s c.at) where
      after : r' ≡ byte_at s (i + 1)
      after = a' ∙ ap (λ (d : Cursor). byte_at s d.at) read.1

      stray : escapes (drop (i + 1) s) ≡ false → Some (b, c) ≡ unescaped_at q s i
      stray f = sym e ∙ a ∙ rw (not_false q n, unescaped_stray s i read.2 (read.0 ∙ w) f)

      pub last_slash : r' ≡ None → Some (b, c) ≡ unescaped_at q s i
      last_slash z = stray (none_escapes s (i + 1) (sym after ∙ z))

      module _ {x : ℕ} {d : Cursor} (z : r' ≡ Some (x, d)) {t : Bool} (u : t ≡ is_escapable x) where
        pub slash_byte : t ≡ true → Some (x, d) ≡ unescaped_at q s i
        slash_byte y =
            sym z ∙ after ∙ rw (not_false q n, unescaped_slash s i read.2 (read.0 ∙ w) (one_escapes s (i + 1) (sym after ∙ z) ∙ sym u ∙ y))

        pub stray_slash : t ≡ false → Some (b, c) ≡ unescaped_at q s i
        stray_slash y = stray (one_escapes s (i + 1) (sym after ∙ z) ∙ sym u ∙ y)

-- what answers the needs of `next_unescaped`
pub ruleset unescapes = (no_byte, bare_byte, quoted_byte, last_slash, slash_byte, stray_slash)

meaning_slash : (b : ℕ) (bs : Bytes) → b ≡ 92 → meaning true (b ∷ bs) ≡ unescaped true bs
unfolding unescaped
meaning_slash b bs e = rw (eq-eqb b 92 e, unescaped)

meaning_plain : (b : ℕ) (bs : Bytes) → (b ≡ 92 → ⊥) → meaning true (b ∷ bs) ≡ b ∷ meaning true bs
unfolding unescaped
meaning_plain b bs ne = rw (ne_eqb b 92 ne, unescaped)

escaped_means : (b : ℕ) (bs : Bytes) → is_escapable b ≡ true → unescaped true (b ∷ bs) ≡ b ∷ meaning true bs
unfolding unescaped
escaped_means b bs e = rw (e, unescaped)

-- a backslash before another byte, or at the end, means itself
stray_means : (bs : Bytes) → escapes bs ≡ false → unescaped true bs ≡ 92 ∷ meaning true bs
unfolding unescaped
stray_means [] e = refl
stray_means (b ∷ bs) e = rw (e, or_r (is 34 b) (is 92 b) e, unescaped)

pub meaning_nil : (q : Bool) → meaning q [] ≡ []
unfolding unescaped
meaning_nil true = refl
meaning_nil false = refl

-- an answer is the next byte of the meaning, or says that there is none
abbrev pub Shows : Bool → Bytes → ℕ → Option (ℕ × Cursor) → Type 0
Shows q s i None = meaning q (drop i s) ≡ []
Shows q s i (Some (b, c)) = (meaning q (drop i s) ≡ b ∷ meaning q (drop c.at s)) × (i < c.at) × (c.at ≤ length s)

shows_there : (q : Bool) (s : Bytes) (i : ℕ) → i < length s → Shows q s i (unescaped_at q s i)
unfolding unescaped
shows_there false s i h = rw (unescaped_bare s i, ← byte_there s i h) (here s i h, omega arith, omega arith)
shows_there true s i h = elim (test (eqb (get_or s i 0) 92)) [
  | fail e ↦ let ne = eqb-false (get_or s i 0) 92 e in
      rw (unescaped_plain s i h ne, ← byte_there s i h) (rw (here s i) (meaning_plain (get_or s i 0) (drop (i + 1) s) ne), omega arith, omega arith)
  | pass e ↦ let w = eqb-true (get_or s i 0) 92 e in
      let m : meaning true (drop i s) ≡ unescaped true (drop (i + 1) s) = rw (here s i) (meaning_slash (get_or s i 0) (drop (i + 1) s) w) in
      elim (test (escapes (drop (i + 1) s))) [
        | fail f ↦ rw (unescaped_stray s i h w f, ← byte_there s i h) (m ∙ stray_means (drop (i + 1) s) f ∙ rw w, omega arith, omega arith)
        | pass f ↦ rw (unescaped_slash s i h w f) (elim (stands s (i + 1)) [
          | there l ↦
              let x : is_escapable (get_or s (i + 1) 0) ≡ true = rw (here s (i + 1)) at f in
              rw (← byte_there s (i + 1) l) (m ∙ rw (here s (i + 1)) (escaped_means (get_or s (i + 1) 0) (drop (i + 1 + 1) s) x), omega arith, omega arith)
          | past l ↦ both f (rw (drop_past s (i + 1) l))
        ])
      ]
]

pub shows : (q : Bool) (s : Bytes) (i : ℕ) → Shows q s i (unescaped_at q s i)
shows q s i = elim (stands s i) [
  | there h ↦ shows_there q s i h
  | past h ↦ rw (unescaped_past q s i h) (rw (drop_past s i h) (meaning_nil q))
]
