-- Values: the scan for a closingAt quote, and the ways through the readers of a value, on plain values. Assumes nothing.
use Prim.Native.Nat.{ℕ, suc, ◌+◌, ◌-◌, ◌≤◌, ◌<◌}
use native.Mathlib.Omega.{arith}
use mathlib.Core.Path.{◌≡◌, refl, sym, ap, ◌∙◌}
use mathlib.Core.Bool.{Bool, true, false, not}
use mathlib.Core.List.{[], ◌∷◌, ◌++◌}
use Rattle.std.specs.Prelude.{Option, None, Some}
use lib.Dec.{eqb}
use lib.ListN.{length, get_or, take, drop, length-append, length-take, length-drop, take-append-drop}
use lib.Seq.{drop-drop}
use borrow.Author.Tests.{eq-eqb, ne_eqb}
use Rattle.values.specs.Bytes.{Bytes, is, any, begins, before, from}
use Rattle.values.specs.Value.{written, prepend, is_escapable, quoted_text, in_quotes, read_quoted, is_stop, read_bare, is_bracketed, read_bracketed, read_values, read_unquoted, read_value}
use Rattle.values.specs.Places.{cursor_at, byte_at, closing_at, value_placed, escaped_from, value_at}
use Rattle.values.specs.declared.cursor.Cursor.{Cursor}
use Rattle.values.proofs.Tests.{not_true, not_false, and_off, or_l, or_r}
use Rattle.values.proofs.Lists.{there, past, stands, drop_past, here, from_at, from_none, from_some, some_pair, none_not, some_not}
use Rattle.values.proofs.Scans.{stop_of}
use Rattle.values.proofs.Cursors.{byte_read, byte_there}
use Rattle.values.specs.declared.string.Text.{Text}

closing_put : (i b : ℕ) (x : Option (Bytes × Bytes)) → closing_at i (prepend b x) ≡ closing_at (i + 1) x
closing_put i b None = refl
closing_put i b (Some p) = let e : i + suc (length p.0) ≡ i + 1 + length p.0 = omega arith in rw e

-- the text before i goes on with no closingAt quote
pub record Quoting (s : Bytes) (start : ℕ) (escaped : Bool) (i : ℕ) : Type 0 where
  pub still : closing_at start (quoted_text false (drop start s)) ≡ closing_at i (quoted_text escaped (drop i s))

pub open_quote : (s : Bytes) (start : ℕ) → Quoting s start false start
open_quote s start = record { still = refl }

module _ {s : Bytes} {start : ℕ} {escaped : Bool} {i : ℕ} (g : Quoting s start escaped i) where
  pub never_closed : length s ≤ i → None ≡ closing_at start (quoted_text false (drop start s))
  unfolding quoted_text
  never_closed h = sym (g.still ∙ rw (drop_past s i h) (at_end escaped))
    where
      at_end : (e : Bool) → closing_at i (quoted_text e []) ≡ None
      at_end true = refl
      at_end false = refl

  module _ (h : i < length s) where
    abbrev b : ℕ
    b = get_or s i 0

    abbrev t : Bytes
    t = drop (i + 1) s

    turn : closing_at start (quoted_text false (drop start s)) ≡ closing_at i (quoted_text escaped (b ∷ t))
    turn = g.still ∙ rw (here s i)

    -- q is what the code's test of the byte answered
    pub bad_escape : escaped ≡ true → {q : Bool} → q ≡ is_escapable b → not q ≡ true → None ≡ closing_at start (quoted_text false (drop start s))
    unfolding quoted_text
    bad_escape e {q} a n = sym (turn ∙ rw (e, quoted_text, ← a, not_true q n))

    pub good_escape : escaped ≡ true → {q : Bool} → q ≡ is_escapable b → not q ≡ false → Quoting s start false (i + 1)
    unfolding quoted_text
    good_escape e {q} a n = record { still = turn ∙ rw (e, quoted_text, ← a, not_false q n) (closing_put i b (quoted_text false t)) }

    pub closed : escaped ≡ false → b ≡ 34 → Some (i, cursor_at (i + 1)) ≡ closing_at start (quoted_text false (drop start s))
    unfolding quoted_text
    closed e w = let z : i + 0 ≡ i = omega arith in sym (turn ∙ rw (e, quoted_text, eq-eqb b 34 w) (rw z))

    pub goes_on : escaped ≡ false → (b ≡ 34 → ⊥) → Quoting s start (eqb b 92) (i + 1)
    unfolding quoted_text
    goes_on e ne = record { still = turn ∙ rw (e, quoted_text, ne_eqb b 34 ne) (closing_put i b (quoted_text (eqb b 92) t)) }

-- the text goes on over bytes that are neither a quote nor a backslash
plain_past : (xs ys : Bytes) (i : ℕ) → any is_escapable xs ≡ false → closing_at i (quoted_text false (xs ++ ys)) ≡ closing_at (i + length xs) (quoted_text false ys)
unfolding any quoted_text
plain_past [] ys i e = let z : i + 0 ≡ i = omega arith in rw z
plain_past (b ∷ xs) ys i e =
    let n = or_l (is_escapable b) (any is_escapable xs) e in
    let w : i + suc (length xs) ≡ i + 1 + length xs = omega arith in
    rw (quoted_text, or_l (is 34 b) (is 92 b) n, or_r (is 34 b) (is 92 b) n, w)
    (closing_put i b (quoted_text false (xs ++ ys)) ∙ plain_past xs ys (i + 1) (or_r (is_escapable b) (any is_escapable xs) e))

module _ {s : Bytes} {start i : ℕ} (g : Quoting s start false i) where
  pub plain_skipped : {m : ℕ} → m ≡ length s - i → 16 ≤ m → {q : Bool} → q ≡ any is_escapable (take (i + 16 - i) (drop i s)) → q ≡ false → Quoting s start false (i + 16)
  plain_skipped v w a e =
      let n : i + 16 - i ≡ 16 = omega arith in
      let m : length (take 16 (drop i s)) ≡ 16 = omega (arith, length-take 16 (drop i s), length-drop i s) in
      let d : drop 16 (drop i s) ≡ drop (i + 16) s = drop-drop 16 i s in
      let p = plain_past (take 16 (drop i s)) (drop 16 (drop i s)) i (rw n at (sym a ∙ e)) in
      record { still = g.still ∙ rw (← take-append-drop 16 (drop i s)) (p ∙ rw (m, d)) }

  pub plain_stops : closing_at i (quoted_text false (drop i s)) ≡ closing_at start (quoted_text false (drop start s))
  plain_stops = sym g.still

-- what answers the needs of `skip_plain`
pub ruleset plains = (open_quote, plain_skipped, plain_stops)

-- from where the blocks end
pub from_plain : {s : Bytes} {start i : ℕ} → closing_at i (quoted_text false (drop i s)) ≡ closing_at start (quoted_text false (drop start s)) → Quoting s start false i
from_plain e = record { still = sym e }

-- what answers the needs of `find_closing`
pub ruleset closes = (from_plain, never_closed, bad_escape, good_escape, closed, goes_on)

-- what answers the needs of `parse_raw_string`
pub bare_placed : (s : Bytes) (i : ℕ) {e : ℕ} → e ≡ stop_of is_stop s i
    → Some (record { start = i; end = e; quoted = false }, cursor_at e) ≡ value_placed i (read_bare (drop i s))
unfolding written
bare_placed s i a = rw a

escaped_quote : (i b : ℕ) (bs : Bytes) → b ≡ 34 → escaped_from i (b ∷ bs) ≡ value_placed i (read_quoted bs)
unfolding begins
escaped_quote i b bs e = rw (eq-eqb b 34 e, escaped_from)

escaped_other : (i b : ℕ) (bs : Bytes) → (b ≡ 34 → ⊥) → escaped_from i (b ∷ bs) ≡ None
unfolding begins
escaped_other i b bs ne = rw (ne_eqb b 34 ne, escaped_from)

quoted_placed : (i j : ℕ) → j ≡ i + 1 → (x : Option (Bytes × Bytes)) {e : ℕ} {n : Cursor} → closing_at j x ≡ Some (e, n)
    → Some (record { start = j; end = e; quoted = true }, n) ≡ value_placed i (in_quotes x)
unfolding written
quoted_placed i j h None q = none_not q
quoted_placed i j h (Some p) {e} {n} q =
    let w = some_pair q in
    let a : e ≡ j + length p.0 = sym w.0 in
    let b : n ≡ cursor_at (j + length p.0 + 1) = sym w.1 in
    let d : i + suc (length (p.0 ++ 34 ∷ [])) ≡ i + 1 + length p.0 + 1 = rw (length-append p.0 (34 ∷ [])) (omega arith) in
    rw (a, b, h, d)

quoted_refused : (i j : ℕ) (x : Option (Bytes × Bytes)) → closing_at j x ≡ None → None ≡ value_placed i (in_quotes x)
quoted_refused i j None q = refl
quoted_refused i j (Some p) q = some_not q

-- r is the byte that the code read at i
module _ (s : Bytes) (i : ℕ) {r : Option (ℕ × Cursor)} (a : r ≡ byte_at s i) where
  pub no_quote : r ≡ None → None ≡ escaped_from i (drop i s)
  unfolding begins
  no_quote e = elim (stands s i) [
    | there h ↦ some_not (byte_there s i h ∙ sym a ∙ e)
    | past h ↦ rw (drop_past s i h)
  ]

  module _ {b : ℕ} {c : Cursor} (e : r ≡ Some (b, c)) where
    rest_is : drop i s ≡ b ∷ drop c.at s
    rest_is = let t = byte_read s i (sym a ∙ e) in here s i t.2 ∙ rw (t.0, t.1)

    pub other_byte : (b ≡ 34 → ⊥) → None ≡ escaped_from i (drop i s)
    other_byte ne = sym (rw rest_is (escaped_other i b (drop c.at s) ne))

    -- k is what the code's scan answered
    module _ (w : b ≡ 34) {k : Option (ℕ × Cursor)} (f : k ≡ closing_at c.at (quoted_text false (drop c.at s))) where
      pub not_closed : k ≡ None → None ≡ escaped_from i (drop i s)
      not_closed m = quoted_refused i c.at (quoted_text false (drop c.at s)) (sym f ∙ m) ∙ sym (rw rest_is (escaped_quote i b (drop c.at s) w))

      pub closed_at : {e : ℕ} {n : Cursor} → k ≡ Some (e, n) → Some (record { start = c.at; end = e; quoted = true }, n) ≡ escaped_from i (drop i s)
      closed_at m =
          quoted_placed i c.at (ap (λ (d : Cursor). d.at) (byte_read s i (sym a ∙ e)).1) (quoted_text false (drop c.at s)) (sym f ∙ m)
          ∙ sym (rw rest_is (escaped_quote i b (drop c.at s) w))

-- what answers the needs of `parse_escaped_string`
pub ruleset escapes = (no_quote, other_byte, not_closed, closed_at)

pub bracketed_not : (bs : Bytes) → is_bracketed bs ≡ false → read_values bs ≡ read_bare bs
unfolding read_values
bracketed_not bs e = rw (e, read_values)

pub bracketed_is : (bs : Bytes) → is_bracketed bs ≡ true → read_values bs ≡ read_bracketed bs
unfolding read_values
bracketed_is bs e = rw (e, read_values)

begins_at : (c : ℕ) (s : Bytes) (i : ℕ) → i < length s → begins c (drop i s) ≡ is c (get_or s i 0)
unfolding begins
begins_at c s i h = rw (here s i)

-- where the code reads a bare value, r is what it answered
module _ (s : Bytes) (i : ℕ) {r : Option (Text × Cursor)} (a : r ≡ value_placed i (read_bare (drop i s))) where
  not_bracketed : is_bracketed (drop i s) ≡ false → r ≡ value_placed i (read_values (drop i s))
  not_bracketed e = a ∙ ap (value_placed i) (sym (bracketed_not (drop i s) e))

  pub values_past : length s ≤ i → r ≡ value_placed i (read_values (drop i s))
  unfolding begins
  values_past h = not_bracketed (rw (drop_past s i h))

  pub values_other : i < length s → (get_or s i 0 ≡ 91 → ⊥) → r ≡ value_placed i (read_values (drop i s))
  values_other h ne = not_bracketed (rw (begins_at 91 s i h, ne_eqb (get_or s i 0) 91 ne))

  pub values_open : {k : ℕ} → k ≡ stop_of (is 93) s i → length s ≤ k → r ≡ value_placed i (read_values (drop i s))
  values_open {k} q h =
      not_bracketed (and_off (begins 91 (drop i s)) (from_none (is 93) (drop i s) (from_at (is 93) s i ∙ rw (← q) (drop_past s k h))))

pub values_closed : (s : Bytes) (i : ℕ) → i < length s → get_or s i 0 ≡ 91 → {k : ℕ} → k ≡ stop_of (is 93) s i → k < length s
    → Some (record { start = i; end = k + 1; quoted = false }, cursor_at (k + 1)) ≡ value_placed i (read_values (drop i s))
unfolding written
values_closed s i h w {k} q l =
    let f : from (is 93) (drop i s) ≡ get_or s k 0 ∷ drop (k + 1) s = from_at (is 93) s i ∙ rw (← q) (here s k l) in
    let has = from_some (is 93) (drop i s) f in
    let e : i + length (before (is 93) (drop i s) ++ 93 ∷ []) ≡ k + 1 = rw (length-append (before (is 93) (drop i s)) (93 ∷ [])) (omega arith) in
    rw (bracketed_is (drop i s) (rw (begins_at 91 s i h, eq-eqb (get_or s i 0) 91 w, has)), e)

-- what answers the needs of `parse_values`
pub ruleset brackets = (values_past, values_other, values_open, values_closed)

value_quoted : (m : Bool) (b : ℕ) (bs : Bytes) → b ≡ 34 → read_value m (b ∷ bs) ≡ read_quoted bs
unfolding read_value begins
value_quoted m b bs e = rw (eq-eqb b 34 e, read_value)

value_other : (m : Bool) (b : ℕ) (bs : Bytes) → (b ≡ 34 → ⊥) → read_value m (b ∷ bs) ≡ read_unquoted m (b ∷ bs)
unfolding read_value begins
value_other m b bs ne = rw (ne_eqb b 34 ne, read_value)

value_none : (m : Bool) → read_value m [] ≡ read_bare []
unfolding read_value read_values begins
value_none true = refl
value_none false = refl

-- r is the byte that the code read at i, and v what it answered of the value
module _ (m : Bool) (s : Bytes) (i : ℕ) {r : Option (ℕ × Cursor)} (a : r ≡ byte_at s i) where
  pub value_past : r ≡ None → {v : Option (Text × Cursor)} → v ≡ value_placed i (read_bare (drop i s)) → v ≡ value_at m s i
  unfolding value_at
  value_past e f = elim (stands s i) [
    | there h ↦ some_not (byte_there s i h ∙ sym a ∙ e)
    | past h ↦ f ∙ rw (drop_past s i h) (ap (value_placed i) (sym (value_none m)))
  ]

  module _ {b : ℕ} {c : Cursor} (e : r ≡ Some (b, c)) where
    pub value_quote : b ≡ 34 → {v : Option (Text × Cursor)} → v ≡ escaped_from i (drop i s) → v ≡ value_at m s i
    unfolding value_at
    value_quote w f =
        f ∙ rw (rest_is s i a e) (escaped_quote i b (drop c.at s) w ∙ ap (value_placed i) (sym (value_quoted m b (drop c.at s) w)))

    module _ (ne : b ≡ 34 → ⊥) where
      unquoted : read_value m (drop i s) ≡ read_unquoted m (drop i s)
      unquoted = rw (rest_is s i a e) (value_other m b (drop c.at s) ne)

      pub value_values : m ≡ true → {v : Option (Text × Cursor)} → v ≡ value_placed i (read_values (drop i s)) → v ≡ value_at m s i
      unfolding value_at
      value_values t f = f ∙ rw (unquoted, t)

      pub value_raw : m ≡ false → {v : Option (Text × Cursor)} → v ≡ value_placed i (read_bare (drop i s)) → v ≡ value_at m s i
      unfolding value_at
      value_raw t f = f ∙ rw (unquoted, t)

-- what answers the needs of `parse_value`
pub ruleset reads = (value_past, value_quote, value_values, value_raw)
