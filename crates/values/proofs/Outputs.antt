-- Laws of writing: nothing, one byte, one text after another; the first difference from what is given; a turn of `put_bytes`' loop.
-- Assumes nothing.
use Prim.Native.Nat.{ℕ, suc, ◌+◌, ◌/◌, ◌%◌, ◌≤◌, ◌<◌, min}
use native.Mathlib.Omega.{arith}
use native.Mathlib.Decide.{dec_le}
use mathlib.Core.Path.{◌≡◌, refl, sym, ap, ◌∙◌}
use mathlib.Core.Bool.{true, false}
use mathlib.Core.List.{[], ◌∷◌, ◌++◌}
use Rattle.std.specs.Prelude.{Option, None, Some}
use lib.ListN.{length, get_or, drop, set, length-append, drop_of_length-le}
use lib.Seq.{sets, length-sets, set_out}
use Rattle.values.specs.Bytes.{Bytes}
use Rattle.values.specs.Integer.{decimal}
use borrow.Author.Tests.{le-ltb, lt-ltb, eq-eqb, ne_eqb}
use Rattle.values.specs.Written.{last, onward, is_at, differing, sooner, Puts, plain, Wrote}
use Rattle.values.specs.declared.sink.Sink.{Sink}
use Rattle.values.proofs.Tests.{pass, fail, test}
use Rattle.values.proofs.Lists.{here}
use Rattle.values.proofs.Decimals.{decimal_small, decimal_large}

-- the last place is past every output
sets_past : (out : Bytes) (at : ℕ) (text : Bytes) → length out ≤ at → sets out at text ≡ out
sets_past out at [] h = refl
sets_past out at (b ∷ text) h = rw (set_out out at b h) (sets_past out (suc at) text (omega arith))

pub sets_append : (out : Bytes) (at : ℕ) (x y : Bytes) → sets (sets out at x) (at + length x) y ≡ sets out at (x ++ y)
sets_append out at [] y = let e : at + 0 ≡ at = omega arith in rw e
sets_append out at (b ∷ x) y = let e : at + suc (length x) ≡ suc at + length x = omega arith in rw e (sets_append (set out at b) (suc at) x y)

-- the same from the capped place
sets_onward : (out : Bytes) (at : ℕ) (x y : Bytes) → length out ≤ last → sets (sets out at x) (onward at (length x)) y ≡ sets out at (x ++ y)
unfolding onward
sets_onward out at x y h = go (dec_le (at + length x) last)
  where
    o : Bytes
    o = sets out at x

    long : length o ≤ last
    long = rw (length-sets out at x) h

    go : Dec (at + length x ≤ last) → sets o (min (at + length x) last) y ≡ sets out at (x ++ y)
    go (yes l) = let e : min (at + length x) last ≡ at + length x = omega arith in rw e (sets_append out at x y)
    go (no n) =
        let e : min (at + length x) last ≡ last = omega arith in
        rw e (sets_past o last y long ∙ sym (sets_past o (at + length x) y (omega (arith, long))) ∙ sets_append out at x y)

-- The first difference

module _ (given : Bytes) (at b : ℕ) (text : Bytes) where
  differing_same : is_at given at b ≡ true → differing given at (b ∷ text) ≡ differing given (onward at 1) text
  unfolding differing
  differing_same e = rw (differing, e)

  differing_here : is_at given at b ≡ false → differing given at (b ∷ text) ≡ Some at
  unfolding differing
  differing_here e = rw (differing, e)

-- past one there is none that is sooner
no_sooner : (given : Bytes) (n at : ℕ) (text : Bytes) → n ≤ at → n ≤ last → sooner n (differing given at text) ≡ n
unfolding onward differing
no_sooner given n at [] h l = refl
no_sooner given n at (b ∷ text) h l = elim (test (is_at given at b)) [
  | pass e ↦ rw (differing_same given at b text e) (no_sooner given n (onward at 1) text (omega arith) l)
  | fail e ↦ rw (differing_here given at b text e) (omega arith)
]

-- that of one text after another
differing_then : (given : Bytes) (n at : ℕ) (x y : Bytes) → at ≤ last
    → sooner (sooner n (differing given at x)) (differing given (onward at (length x)) y) ≡ sooner n (differing given at (x ++ y))
unfolding onward differing
differing_then given n at [] y h = let e : min (at + 0) last ≡ at = omega arith in rw e
differing_then given n at (b ∷ x) y h = elim (test (is_at given at b)) [
  | pass e ↦
      let m : min (at + suc (length x)) last ≡ min (min (at + 1) last + length x) last = omega arith in
      rw (differing_same given at b x e, differing_same given at b (x ++ y) e, m) (differing_then given n (onward at 1) x y (omega arith))
  | fail e ↦ rw (differing_here given at b x e, differing_here given at b (x ++ y) e) (no_sooner given (min n at) (onward at (suc (length x))) y (omega arith) (omega arith))
]

-- what answers the needs of `compare`
module _ (given : Bytes) (s : Sink) (b : ℕ) where
  pub compared_before : s.differs ≤ s.at → s.differs ≡ sooner s.differs (differing given s.at (b ∷ []))
  unfolding differing
  compared_before h = elim (test (is_at given s.at b)) [
    | pass e ↦ rw (differing_same given s.at b [] e)
    | fail e ↦ rw (differing_here given s.at b [] e) (omega arith)
  ]

  module _ (n : s.at < s.differs) where
    differs_here : is_at given s.at b ≡ false → s.at ≡ sooner s.differs (differing given s.at (b ∷ []))
    differs_here e = rw (differing_here given s.at b [] e) (omega arith)

    pub compared_past : length given ≤ s.at → s.at ≡ sooner s.differs (differing given s.at (b ∷ []))
    compared_past h = differs_here (rw (le-ltb s.at (length given) h))

    module _ (h : s.at < length given) where
      pub compared_same : get_or given s.at 0 ≡ b → s.differs ≡ sooner s.differs (differing given s.at (b ∷ []))
      unfolding differing
      compared_same e = rw (differing_same given s.at b [] (rw (lt-ltb s.at (length given) h, eq-eqb (get_or given s.at 0) b e)))

      pub compared_other : (get_or given s.at 0 ≡ b → ⊥) → s.at ≡ sooner s.differs (differing given s.at (b ∷ []))
      compared_other e = differs_here (rw (lt-ltb s.at (length given) h, ne_eqb (get_or given s.at 0) b e))

pub ruleset compares = (compared_before, compared_past, compared_same, compared_other)

-- Writing

pub puts_nothing : (given out : Bytes) (s : Sink) → s.at ≤ last → length out ≤ last → Puts given out s [] s out
unfolding onward differing
puts_nothing given out s h l = record { place = omega arith; differs = refl; output = refl; fits = l; capped = h }

-- one text after another
pub then : {given out : Bytes} {s : Sink} {x : Bytes} {r : Sink} {o : Bytes} {y : Bytes} {r' : Sink} {o' : Bytes}
    → Puts given out s x r o → Puts given o r y r' o' → Puts given out s (x ++ y) r' o'
unfolding onward
then {given} {out} {s} {x} {y = y} p q = record {
  place = q.place ∙ rw (p.place, length-append x y) (omega arith);
  differs = q.differs ∙ rw (p.differs, p.place) (differing_then given s.differs s.at x y p.capped);
  output = q.output ∙ rw (p.output, p.place) (sets_onward out s.at x y p.fits);
  fits = p.fits;
  capped = p.capped;
}

-- what answers the needs of `put_byte`; n is what was compared
module _ {given out : Bytes} {s : Sink} (b : ℕ) {n : ℕ} (c : n ≡ sooner s.differs (differing given s.at (b ∷ []))) (fits : length out ≤ last) where
  pub byte_inside : s.at < length out → Puts given out s (b ∷ []) (record { at = s.at + 1; differs = n }) (set out s.at b)
  unfolding onward
  byte_inside h = record { place = omega arith; differs = c; output = refl; fits = fits; capped = omega arith }

  pub byte_counted : length out ≤ s.at → s.at < last → Puts given out s (b ∷ []) (record { at = s.at + 1; differs = n }) out
  unfolding onward
  byte_counted h l = record { place = omega arith; differs = c; output = sym (set_out out s.at b h); fits = fits; capped = omega arith }

  pub byte_capped : length out ≤ s.at → s.at ≡ last → Puts given out s (b ∷ []) (record { at = s.at; differs = n }) out
  unfolding onward
  byte_capped h e = record { place = omega arith; differs = c; output = sym (set_out out s.at b h); fits = fits; capped = omega arith }

pub puts_length : {given out : Bytes} {at : Sink} {text : Bytes} {r : Sink} {o : Bytes} → Puts given out at text r o → length o ≡ length out
puts_length {out = out} {at} {text} w = ap length w.output ∙ length-sets out at.at text

pub puts_capped : {given out : Bytes} {at : Sink} {text : Bytes} {r : Sink} {o : Bytes} → Puts given out at text r o → r.at ≤ last
unfolding onward
puts_capped w = rw w.place (omega arith)

-- what answers the needs of `count_on` and `put_bytes`
pub counted : (at n : ℕ) {m : ℕ} → m ≡ min (at + n) last → m ≡ onward at n
unfolding onward
counted at n e = e

pub counts_past : {given out : Bytes} {s : Sink} (text : Bytes) {n : ℕ} → n ≡ onward s.at (length text) → s.at ≤ last → length out ≤ s.at → s.differs ≤ s.at
    → Puts given out s text (record { at = n; differs = s.differs }) out
counts_past {given} {out} {s} text e l h d = record {
  place = e;
  differs = sym (no_sooner given s.differs s.at text d (omega arith));
  output = sym (sets_past out s.at text h);
  fits = omega arith;
  capped = l;
}

-- the bytes before i are written: what is written of the rest from here on is written of the whole
pub record Putting (given out₀ : Bytes) (at : Sink) (s out : Bytes) (next : Sink) (i : ℕ) : Type 0 where
  pub inside : i ≤ length s
  pub capped : next.at ≤ last
  pub fits : length out ≤ last
  pub size : length out ≡ length out₀
  pub still : (r : Sink) (o : Bytes) → Puts given out next (drop i s) r o → Puts given out₀ at s r o

module _ {given out₀ : Bytes} {at : Sink} {s out : Bytes} {next : Sink} {i : ℕ} (g : Putting given out₀ at s out next i) where
  pub more : i < length s → {r : Sink} {o : Bytes} → Puts given out next (get_or s i 0 ∷ []) r o → Putting given out₀ at s o r (i + 1)
  more h {r} {o} w = record {
    inside = omega arith;
    capped = puts_capped w;
    fits = rw (puts_length w) g.fits;
    size = puts_length w ∙ g.size;
    still = λ r' o' w'. g.still r' o' (rw (here s i) (then w w'));
  }

  pub ended : length s ≤ i → Puts given out₀ at s next out
  ended h = g.still next out (rw (drop_of_length-le s h) (puts_nothing given out next g.capped g.fits))

pub started : (given out : Bytes) (at : Sink) (s : Bytes) → at.at ≤ last → length out ≤ last → Putting given out at s out at 0
started given out at s h l = record { inside = omega arith; capped = h; fits = l; size = refl; still = λ r o w. w }

-- what answers the needs of `put_decimal`
pub small_number : {given out : Bytes} {at : Sink} {n : ℕ} {r : Sink} {o : Bytes} → n < 10 → Puts given out at ((48 + n) ∷ []) r o → Puts given out at (decimal n) r o
small_number {n = n} h w = rw (decimal_small n h) w

pub large_number : {given out : Bytes} {at : Sink} {n : ℕ} {r : Sink} {o : Bytes} {r' : Sink} {o' : Bytes} → 10 ≤ n
    → Puts given out at (decimal (n / 10)) r o → Puts given o r ((48 + n % 10) ∷ []) r' o' → Puts given out at (decimal n) r' o'
large_number {n = n} h w w' = rw (decimal_large n h) (then w w')

-- what answers the needs of the functions that only write
pub wrote_nothing : (out : Bytes) (at : ℕ) → at ≤ last → length out ≤ last → Wrote out at [] at out
wrote_nothing out at h l = puts_nothing [] out (plain at) h l

pub only_written : {out : Bytes} {at : ℕ} {text : Bytes} {next : Sink} {left : Bytes} → Puts [] out (plain at) text next left → Wrote out at text next.at left
only_written {at = at} {text} w =
    record { place = w.place; differs = least (differing [] at text); output = w.output; fits = w.fits; capped = w.capped }
  where
    least : (x : Option ℕ) → 0 ≡ sooner 0 x
    least None = refl
    least (Some p) = omega arith
