-- A text that spells an integer holds no escape, so that the code may read the bytes as they stand. Assumes nothing.
use Prim.Native.Nat.{ℕ}
use mathlib.Core.Path.{◌≡◌, refl, sym, ap, ◌∙◌}
use mathlib.Core.Bool.{Bool, true, false, not, ◌&&◌}
use mathlib.Core.List.{[], ◌∷◌, tail}
use Rattle.std.specs.Prelude.{Option, None, Some}
use borrow.Author.Tests.{eqb-true}
use Rattle.values.specs.Bytes.{Bytes, is, empty, begins, any}
use Rattle.values.specs.Integer.{is_no_digit, is_plain, value_if, unsigned_read, without_sign, integer_read, number_of}
use Rattle.values.specs.Value.{Value, text_of, meaning_of, unescaped, prepend, is_escapable, quoted_text, in_quotes, is_bracketed, read_unquoted, read_value}
use Rattle.values.specs.Field.{read_key, with_value, may_bracket, with_key, read_field}
use Rattle.values.proofs.Tests.{pass, fail, test, or_l, or_r, or_on, and_r}
use Rattle.values.proofs.Lists.{OnSome}
use Rattle.values.proofs.Values.{bracketed_is, bracketed_not}
use Rattle.values.proofs.Escapes.{unescaped_slash, unescaped_plain, unescaped_escaped}

-- a text with a backslash has a byte in its meaning that stood escaped; `true`: a backslash stood just before
abbrev Slashed : Bool → Bytes × Bytes → Type 0
Slashed true p = any is_escapable (unescaped true p.0) ≡ true
Slashed false p = any (is 92) p.0 ≡ true → any is_escapable (unescaped false p.0) ≡ true

put_escaped : (b : ℕ) → is_escapable b ≡ true → (a : Option (Bytes × Bytes)) → OnSome (Slashed true) (prepend b a)
unfolding any
put_escaped b e None = tt
put_escaped b e (Some p) = rw (unescaped_escaped b p.0 e, any, e)

put_slash : (b : ℕ) → is 92 b ≡ true → (a : Option (Bytes × Bytes)) → OnSome (Slashed true) a → OnSome (Slashed false) (prepend b a)
put_slash b e None h = tt
put_slash b e (Some p) h = λ u. rw (unescaped_slash b p.0 e) h

put_plain : (b : ℕ) → is 92 b ≡ false → (a : Option (Bytes × Bytes)) → OnSome (Slashed false) a → OnSome (Slashed false) (prepend b a)
unfolding any
put_plain b e None h = tt
put_plain b e (Some p) h = λ u. rw (unescaped_plain b p.0 e, any) (or_on (is_escapable b) (h (rw (any, e) at u)))

slashed : (e : Bool) (bs : Bytes) → OnSome (Slashed e) (quoted_text e bs)
unfolding quoted_text any
slashed true [] = tt
slashed false [] = tt
slashed true (b ∷ bs) = elim (test (is_escapable b)) [
  | pass w ↦ rw (quoted_text, w) (put_escaped b w (quoted_text false bs))
  | fail w ↦ rw (quoted_text, w) tt
]
slashed false (b ∷ bs) = elim (test (is 34 b)) [
  | pass w ↦ rw (quoted_text, w) (λ u. cc)
  | fail w ↦ rw (quoted_text, w) (elim (test (is 92 b)) [
    | pass s ↦ rw s (put_slash b s (quoted_text true bs) (slashed true bs))
    | fail s ↦ rw s (put_plain b s (quoted_text false bs) (slashed false bs))
  ])
]

-- without a backslash a text means itself
plain_means : (t : Bytes) → any (is 92) t ≡ false → unescaped false t ≡ t
unfolding any unescaped
plain_means [] e = refl
plain_means (b ∷ t) e = unescaped_plain b t (or_l (is 92 b) (any (is 92) t) e) ∙ ap (b ∷◌) (plain_means t (or_r (is 92 b) (any (is 92) t) e))

escapable_other : (b : ℕ) → is_escapable b ≡ true → is_no_digit b ≡ true
escapable_other b e = elim (test (is 34 b)) [
  | pass q ↦ rw (eqb-true b 34 q)
  | fail q ↦ rw (eqb-true b 92 (rw q at e))
]

slash_escapable : (b : ℕ) → is 92 b ≡ true → is_escapable b ≡ true
slash_escapable b e = or_on (is 34 b) e

any_more : (s t : ℕ → Bool) → ((b : ℕ) → s b ≡ true → t b ≡ true) → (bs : Bytes) → any s bs ≡ true → any t bs ≡ true
unfolding any
any_more s t h [] e = cc
any_more s t h (b ∷ bs) e = elim (test (s b)) [
  | pass q ↦ rw (any, h b q)
  | fail q ↦ or_on (t b) (any_more s t h bs (rw (any, q) at e))
]

-- a sign is no escapable byte
sign_left : (sign : Bool) (t : Bytes) → any is_escapable t ≡ true → any is_no_digit (without_sign sign t) ≡ true
unfolding without_sign any begins
sign_left sign [] e = cc
sign_left sign (b ∷ t) e = elim (test (sign && is 43 b)) [
  | pass q ↦ rw (without_sign, q) (any_more is_escapable is_no_digit escapable_other t (rw (any, eqb-true b 43 (and_r sign (is 43 b) q)) at e))
  | fail q ↦ rw (without_sign, q) (any_more is_escapable is_no_digit escapable_other (b ∷ t) e)
]

-- an escapable byte refuses the text
refused : (sign : Bool) (bound : ℕ) (t : Bytes) → any is_escapable t ≡ true → integer_read sign bound t ≡ None
unfolding unsigned_read
refused sign bound t e = rw (unsigned_read, sign_left sign t e) (off (not (empty (without_sign sign t))))
  where
    off : (q : Bool) → value_if (q && false) (number_of (without_sign sign t)) (is_plain t) ≡ None
    off true = refl
    off false = refl

raw_quoted : (sign : Bool) (bound : ℕ) (p : Bytes × Bytes) → Slashed false p → integer_read sign bound (unescaped false p.0) ≡ integer_read sign bound p.0
raw_quoted sign bound p h = elim (test (any (is 92) p.0)) [
  | pass e ↦ refused sign bound (unescaped false p.0) (h e) ∙ sym (refused sign bound p.0 (any_more (is 92) is_escapable slash_escapable p.0 e))
  | fail e ↦ rw (plain_means p.0 e)
]

-- the bytes of a value spell what its meaning spells
abbrev pub Raw : Bool → ℕ → Value → Type 0
Raw sign bound v = integer_read sign bound (meaning_of v) ≡ integer_read sign bound (text_of v)

module _ (sign : Bool) (bound : ℕ) where
  in_quotes_lem : (a : Option (Bytes × Bytes)) → OnSome (Slashed false) a → OnSome (λ p. Raw sign bound p.0) (in_quotes a)
  in_quotes_lem None h = tt
  in_quotes_lem (Some p) h = raw_quoted sign bound p h

  unquoted : (m : Bool) (bs : Bytes) → OnSome (λ p. Raw sign bound p.0) (read_unquoted m bs)
  unquoted true bs = elim (test (is_bracketed bs)) [
    | pass e ↦ rw (bracketed_is bs e) refl
    | fail e ↦ rw (bracketed_not bs e) refl
  ]
  unquoted false bs = refl

  value_raw : (m : Bool) (bs : Bytes) → OnSome (λ p. Raw sign bound p.0) (read_value m bs)
  unfolding read_value
  value_raw m bs = elim (test (begins 34 bs)) [
    | pass e ↦ rw (read_value, e) (in_quotes_lem (quoted_text false (tail bs)) (slashed false (tail bs)))
    | fail e ↦ rw (read_value, e) (unquoted m bs)
  ]

  with_value_lem : (k : Bytes) (a : Option (Value × Bytes)) → OnSome (λ p. Raw sign bound p.0) a → OnSome (λ p. Raw sign bound p.0.value) (with_value k a)
  with_value_lem k None h = tt
  with_value_lem k (Some p) h = h

  with_key_lem : (m : Bool) (a : Option (Bytes × Bytes)) → OnSome (λ p. Raw sign bound p.0.value) (with_key m a)
  with_key_lem m None = tt
  with_key_lem m (Some p) = with_value_lem p.0 (read_value (may_bracket m p.0) p.1) (value_raw (may_bracket m p.0) p.1)

  pub field_raw : (m : Bool) (bs : Bytes) → OnSome (λ p. Raw sign bound p.0.value) (read_field m bs)
  unfolding read_field
  field_raw m bs = with_key_lem m (read_key bs)
