-- UTF-8 by the three bytes before each byte is UTF-8 by RFC 3629's rows. Assumes nothing.
use Prim.Native.Nat.{ℕ, zero, suc, ◌≤◌, ◌<◌}
use native.Mathlib.Omega.{arith}
use mathlib.Core.Path.{◌≡◌, refl, sym, ◌∙◌}
use mathlib.Core.Bool.{Bool, true, false, not, ◌&&◌, ◌||◌, or-false, or-true, and_assoc, true≢false, false≢true}
use mathlib.Core.List.{List, [], ◌∷◌}
use Rattle.std.specs.Prelude.{None, Some}
use lib.Dec.{leb, ltb}
use lib.ListN.{length, get_or, replicate}
use borrow.Author.Tests.{le-leb, lt-leb, le-ltb, lt-ltb, leb-true, leb-false, ltb-true, ltb-false, ne_eqb}
use Rattle.values.specs.Bytes.{Bytes}
use Rattle.values.specs.Utf8.{Range, Character, up_to, tail, within, look, characters, followers, completes, is_utf8, is_ascii}
use Rattle.values.specs.Fitting.{is_due, goes_on, is_first, fits, all_fit}
use Rattle.values.proofs.Tests.{pass, fail, test, and_l, and_r, and_off, and_on}
use Rattle.values.proofs.Rows.{spans}
use Rattle.values.proofs.Texts.{begin, begin_bad, next, next_bad}
use Rattle.values.proofs.Ascii.{ascii_utf8}

or_more : (a b c : Bool) → (a || b) ≡ true → (a || (b || c)) ≡ true
or_more true b c e = refl
or_more false true c e = refl
or_more false false c e = absurd (false≢true e)

-- the range is that of the bytes that go on after the byte first
abbrev After : ℕ → Range → Type 0
After first r = (b : ℕ) → within r b ≡ goes_on first b

-- what of the bytes due may still come, after the bytes second and nearest: so many tails behind the next byte
abbrev Behind : ℕ → ℕ → ℕ → Type 0
Behind zero second nearest = (nearest < 0xE0) × (second < 0xF0)
Behind (suc zero) second nearest = (nearest < 0xF0) × ((leb 0xF0 second || leb 0xE0 nearest) ≡ true)
Behind (suc (suc zero)) second nearest = 0xF0 ≤ nearest
Behind (suc (suc (suc n))) second nearest = ⊥

-- where the rows stand after three bytes that fitted
data Reached (due : List Range) (third second nearest : ℕ) : Type 0 where
  whole : due ≡ [] → third < 0xF0 → second < 0xE0 → nearest < 0xC0 → Reached due third second nearest
  unfinished : (r : Range) (n : ℕ) → due ≡ r ∷ replicate n tail → After nearest r → is_due third second nearest ≡ true
      → Behind n second nearest → Reached due third second nearest

none_due : (third second nearest : ℕ) → third < 0xF0 → second < 0xE0 → nearest < 0xC0 → is_due third second nearest ≡ false
none_due third second nearest a b c = rw (lt-leb 0xF0 third a, lt-leb 0xE0 second b, lt-leb 0xC0 nearest c)

not_due : (third second nearest : ℕ) → is_due third second nearest ≡ false → (third < 0xF0) × (second < 0xE0) × (nearest < 0xC0)
not_due third second nearest e = elim (test (leb 0xF0 third)) [
  | pass f ↦ absurd (true≢false (rw f at e))
  | fail f ↦ elim (test (leb 0xE0 second)) [
    | pass g ↦ absurd (true≢false (rw (f, g) at e))
    | fail g ↦ (leb-false 0xF0 third f, leb-false 0xE0 second g, leb-false 0xC0 nearest (rw (f, g) at e))
  ]
]

-- after most bytes it is every tail
plain : (first : ℕ) → (first ≡ 0xE0 → ⊥) × (first ≡ 0xED → ⊥) × (first ≡ 0xF0 → ⊥) × (first ≡ 0xF4 → ⊥) → After first tail
plain first (e, d, z, f) b = rw (ne_eqb first 0xE0 e, ne_eqb first 0xED d, ne_eqb first 0xF0 z, ne_eqb first 0xF4 f) (sym (and_on (within tail b)))

raised : (low b : ℕ) → 0x80 ≤ low → within (up_to low 0xBF) b ≡ (within tail b && not (ltb b low))
raised low b h = elim (test (leb low b)) [
  | pass e ↦ let l = leb-true low b e in rw (e, le-leb 0x80 b (omega arith), le-ltb b low l) (sym (and_on (leb b 0xBF)))
  | fail e ↦ rw (e, lt-ltb b low (leb-false low b e)) (sym (and_off (within tail b) refl))
]

lowered : (high b : ℕ) → high ≤ 0xBF → within (up_to 0x80 high) b ≡ (within tail b && not (ltb high b))
lowered high b h = elim (test (leb b high)) [
  | pass e ↦ let l = leb-true b high e in rw (e, le-leb b 0xBF (omega arith), le-ltb high b l) (sym (and_on _))
  | fail e ↦ rw (e, lt-ltb high b (leb-false b high e)) (and_off (leb 0x80 b) refl ∙ sym (and_off (within tail b) refl))
]

-- what a first byte asks for
data Asks (b : ℕ) : Type 0 where
  single : b < 0x80 → followers b ≡ Some [] → Asks b
  several : (r : Range) (n : ℕ) → followers b ≡ Some (r ∷ replicate n tail) → After b r → (0xC2 ≤ b) × (b ≤ 0xF4)
      → ((p : ℕ) → p < 0xF0 → Behind n p b) → Asks b
  nothing : is_first b ≡ false → followers b ≡ None → Asks b

-- every row ends below b
abbrev Under : List Character → ℕ → Type 0
Under [] b = Unit {0}
Under (r ∷ rs) b = (r.first.high < b) × Under rs b

look_past : (rs : List Character) (b : ℕ) → Under rs b → look rs b ≡ None
look_past [] b h = refl
look_past (r ∷ rs) b h = rw (and_off (leb r.first.low b) (lt-leb b r.first.high h.0), look) (look_past rs b h.1)

past_rows : (b : ℕ) → 0xF5 ≤ b → followers b ≡ None
unfolding followers
past_rows b h = look_past characters b (omega arith)

asks_f0 : (b : ℕ) → 0xF0 ≤ b → Asks b
asks_f0 b h = elim (test (ltb b 0xF1)) [
  | pass e ↦
      let i : b ≡ 0xF0 = omega (arith, ltb-true b 0xF1 e) in
      several (up_to 0x90 0xBF) 2 (spans 0xF0 0xF0 b refl h (omega arith)) (λ c. rw (i, or-false (ltb c 0x90)) (raised 0x90 c (omega arith))) (omega arith) (λ p q. h)
  | fail e ↦ let l = ltb-false b 0xF1 e in elim (test (ltb b 0xF4)) [
    | pass f ↦
        let u = ltb-true b 0xF4 f in
        several tail 2 (spans 0xF1 0xF3 b refl l (omega arith)) (plain b (omega arith)) (omega arith) (λ p q. h)
    | fail f ↦ let u = ltb-false b 0xF4 f in elim (test (ltb b 0xF5)) [
      | pass g ↦
          let i : b ≡ 0xF4 = omega (arith, ltb-true b 0xF5 g) in
          several (up_to 0x80 0x8F) 2 (spans 0xF4 0xF4 b refl u (omega arith)) (λ c. rw i (lowered 0x8F c (omega arith))) (omega arith) (λ p q. h)
      | fail g ↦
          let w = ltb-false b 0xF5 g in
          nothing (rw (le-ltb b 0x80 (omega arith), lt-leb b 0xF4 (omega arith)) (and_off (leb 0xC2 b) refl)) (past_rows b w)
    ]
  ]
]

asks_e0 : (b : ℕ) → 0xE0 ≤ b → b < 0xF0 → Asks b
asks_e0 b h t =
    let behind : (p : ℕ) → p < 0xF0 → Behind 1 p b = λ p q. (t, rw (le-leb 0xE0 b h) (or-true (leb 0xF0 p))) in
    elim (test (ltb b 0xE1)) [
      | pass e ↦
          let i : b ≡ 0xE0 = omega (arith, ltb-true b 0xE1 e) in
          several (up_to 0xA0 0xBF) 1 (spans 0xE0 0xE0 b refl h (omega arith)) (λ c. rw (i, or-false (ltb c 0xA0), or-false (ltb c 0xA0)) (raised 0xA0 c (omega arith))) (omega arith) behind
      | fail e ↦ let l = ltb-false b 0xE1 e in elim (test (ltb b 0xED)) [
        | pass f ↦
            let u = ltb-true b 0xED f in
            several tail 1 (spans 0xE1 0xEC b refl l (omega arith)) (plain b (omega arith)) (omega arith) behind
        | fail f ↦ let u = ltb-false b 0xED f in elim (test (ltb b 0xEE)) [
          | pass g ↦
              let i : b ≡ 0xED = omega (arith, ltb-true b 0xEE g) in
              several (up_to 0x80 0x9F) 1 (spans 0xED 0xED b refl u (omega arith)) (λ c. rw (i, or-false (ltb 0x9F c)) (lowered 0x9F c (omega arith))) (omega arith) behind
          | fail g ↦
              let w = ltb-false b 0xEE g in
              several tail 1 (spans 0xEE 0xEF b refl w (omega arith)) (plain b (omega arith)) (omega arith) behind
        ]
      ]
    ]

asks : (b : ℕ) → Asks b
asks b = elim (test (ltb b 0x80)) [
  | pass e ↦ let h = ltb-true b 0x80 e in single h (spans 0x00 0x7F b refl (omega arith) (omega arith))
  | fail e ↦ let h = ltb-false b 0x80 e in elim (test (ltb b 0xC2)) [
    | pass f ↦ let l = ltb-true b 0xC2 f in nothing (rw (e, lt-leb 0xC2 b l)) (spans 0x80 0xC1 b refl h (omega arith))
    | fail f ↦ let l = ltb-false b 0xC2 f in elim (test (ltb b 0xE0)) [
      | pass g ↦
          let u = ltb-true b 0xE0 g in
          several tail 0 (spans 0xC2 0xDF b refl l (omega arith)) (plain b (omega arith)) (omega arith) (λ p q. (u, q))
      | fail g ↦ let u = ltb-false b 0xE0 g in elim (test (ltb b 0xF0)) [
        | pass k ↦ asks_e0 b u (ltb-true b 0xF0 k)
        | fail k ↦ asks_f0 b (ltb-false b 0xF0 k)
      ]
    ]
  ]
]

-- what a byte does: it fits and the rows go on with what is due then, or it fits not and they refuse
data Turned (due : List Range) (third second nearest b : ℕ) : Type 0 where
  on : (then : List Range) → fits third second nearest b ≡ true → ((t : Bytes) → completes due (b ∷ t) ≡ completes then t) → Reached then second nearest b
      → Turned due third second nearest b
  off : fits third second nearest b ≡ false → ((t : Bytes) → completes due (b ∷ t) ≡ false) → Turned due third second nearest b

-- the two halves of `fits`
fits_due : (d g f : Bool) → d ≡ true → ((d && g) || (not d && f)) ≡ g
fits_due d g f e = rw e (or-false g)

fits_first : (d g f : Bool) → d ≡ false → ((d && g) || (not d && f)) ≡ f
fits_first d g f e = rw e

-- a tail after which n more are due
behind : (n second nearest b : ℕ) → within tail b ≡ true → Behind n second nearest → Reached (replicate n tail) second nearest b
behind n second nearest b e = go n (leb-true b 0xBF (and_r (leb 0x80 b) (leb b 0xBF) e))
  where
    go : (n : ℕ) → b ≤ 0xBF → Behind n second nearest → Reached (replicate n tail) second nearest b
    go zero u h = whole refl h.1 h.0 (omega arith)
    go (suc zero) u h =
        unfinished tail 0 refl (plain b (omega arith))
        (or_more (leb 0xF0 second) (leb 0xE0 nearest) (leb 0xC0 b) h.1) (omega arith, h.0)
    go (suc (suc zero)) u h =
        unfinished tail 1 refl (plain b (omega arith))
        (rw (le-leb 0xE0 nearest (omega arith)) (or-true (leb 0xF0 second))) (omega arith, rw (le-leb 0xF0 nearest h))
    go (suc (suc (suc n))) u h = absurd h

turned : {due : List Range} {third second nearest : ℕ} → Reached due third second nearest → (b : ℕ) → Turned due third second nearest b
turned {due} {third} {second} {nearest} (whole d h l m) b =
    let f = fits_first (is_due third second nearest) (goes_on nearest b) (is_first b) (none_due third second nearest h l m) in
    elim (asks b) [
      | single u k ↦ on [] (f ∙ rw (lt-ltb b 0x80 u)) (λ t. rw d (begin b t k)) (whole refl (omega arith) (omega arith) (omega arith))
      | several r n k a (u, v) w ↦
          on (r ∷ replicate n tail) (f ∙ rw (le-leb 0xC2 b u, le-leb b 0xF4 v) (or-true (ltb b 0x80))) (λ t. rw d (begin b t k))
          (unfinished r n refl a (rw (le-leb 0xC0 b (omega arith), or-true (leb 0xE0 nearest)) (or-true (leb 0xF0 second))) (w nearest (omega arith)))
      | nothing e k ↦ off (f ∙ e) (λ t. rw d (begin_bad b t k))
    ]
turned {due} {third} {second} {nearest} (unfinished r n d a i h) b =
    let f = fits_due (is_due third second nearest) (goes_on nearest b) (is_first b) i in
    elim (test (goes_on nearest b)) [
      | pass e ↦ on (replicate n tail) (f ∙ e) (λ t. rw d (next b t r (replicate n tail) (a b ∙ e))) (behind n second nearest b (and_l (within tail b) _ e) h)
      | fail e ↦ off (f ∙ e) (λ t. rw d (next_bad b t r (replicate n tail) (a b ∙ e)))
    ]

-- each byte fits, and at the end none is due
unfoldable fitting : ℕ → ℕ → ℕ → Bytes → Bool
fitting third second nearest [] = not (is_due third second nearest)
fitting third second nearest (b ∷ bs) = fits third second nearest b && fitting second nearest b bs

same_texts : {due : List Range} {third second nearest : ℕ} → Reached due third second nearest → (s : Bytes) → completes due s ≡ fitting third second nearest s
unfolding completes fitting
same_texts {due} {third} {second} {nearest} (whole d h l m) [] = rw (d, none_due third second nearest h l m)
same_texts {due} {third} {second} {nearest} (unfinished r n d a i h) [] = rw (d, i)
same_texts g (b ∷ s) = elim (turned g b) [
  | on then f c r ↦ c s ∙ same_texts r s ∙ rw f
  | off f c ↦ c s ∙ rw f
]

-- so the bytes are a text where each fits and the last three leave none due
fitting_ends : (a b c : ℕ) (s : Bytes)
    → fitting a b c s ≡ (all_fit a b c s && not (is_due (get_or (a ∷ b ∷ c ∷ s) (length s) 0) (get_or (b ∷ c ∷ s) (length s) 0) (get_or (c ∷ s) (length s) 0)))
unfolding all_fit fitting
fitting_ends a b c [] = refl
fitting_ends a b c (x ∷ s) = rw (fitting_ends b c x s) (sym (and_assoc (fits a b c x) (all_fit b c x s) _))

pub utf8_fits : (s : Bytes)
    → is_utf8 s ≡ (all_fit 0 0 0 s && not (is_due (get_or (0 ∷ 0 ∷ 0 ∷ s) (length s) 0) (get_or (0 ∷ 0 ∷ s) (length s) 0) (get_or (0 ∷ s) (length s) 0)))
utf8_fits s = same_texts (whole refl (omega arith) (omega arith) (omega arith)) s ∙ fitting_ends 0 0 0 s

-- ASCII bytes fit where none is due
pub ascii_fit : (a b c : ℕ) (s : Bytes) → is_due a b c ≡ false → is_ascii s ≡ true → all_fit a b c s ≡ true
ascii_fit a b c s e f =
    let (h, l, m) = not_due a b c e in
    and_l (all_fit a b c s) _ (sym (fitting_ends a b c s) ∙ sym (same_texts (whole refl h l m) s) ∙ ascii_utf8 s f)
