-- Texts by their meaning: compared, and written; a turn of each loop on plain values. Assumes nothing.
use Rattle.std.specs.Prelude.{Option, Some, None, is_some}
use Prim.Native.Nat.{ℕ, ◌-◌, ◌≤◌, ◌<◌}
use native.Mathlib.Omega.{arith}
use mathlib.Core.Path.{◌≡◌, refl, sym, subst, ◌∙◌}
use mathlib.Core.Bool.{Bool, true, false, not}
use mathlib.Core.List.{[], ◌∷◌, ◌++◌, append-nil}
use lib.ListN.{length, drop}
use Rattle.values.specs.Bytes.{Bytes, same}
use Rattle.values.specs.Value.{written, meaning, is_escapable, escaped_byte, escape, spelling, write_value}
use Rattle.values.specs.Places.{unescaped_at}
use Rattle.values.specs.Written.{last, Puts}
use Rattle.values.specs.declared.sink.Sink.{Sink}
use Rattle.values.specs.declared.cursor.Cursor.{Cursor}
use Rattle.values.proofs.Tests.{never, not_true, not_false}
use Rattle.values.proofs.Sames.{same_hit, same_miss}
use Rattle.values.proofs.Cursors.{Shows, shows}
use Rattle.values.proofs.Outputs.{puts_nothing, puts_length, puts_capped, then}

-- what the code was told of the next byte
module _ (q : Bool) (s : Bytes) (i : ℕ) {r : Option (ℕ × Cursor)} (a : r ≡ unescaped_at q s i) where
  told : {x : Option (ℕ × Cursor)} → r ≡ x → Shows q s i x
  told e = subst (Shows q s i) (sym a ∙ e) (shows q s i)

  pub told_end : r ≡ None → meaning q (drop i s) ≡ []
  told_end e = told e

  module _ {b : ℕ} {c : Cursor} (e : r ≡ Some (b, c)) where
    pub told_byte : meaning q (drop i s) ≡ b ∷ meaning q (drop c.at s)
    told_byte = (told e).0

    pub told_less : length s - c.at < length s - i
    told_less = let t = told e in omega arith

-- two bare texts mean their bytes
pub both_bare : (a : Bytes) (aq : Bool) (b : Bytes) (bq : Bool) → not aq ≡ true → not bq ≡ true → {q : Bool} → q ≡ same a b
    → q ≡ same (meaning aq a) (meaning bq b)
both_bare a aq b bq e f g = rw (not_true aq e, not_true bq f) g

-- the meanings before i and j are the same
pub record Comparing (a : Bytes) (aq : Bool) (b : Bytes) (bq : Bool) (i j : ℕ) : Type 0 where
  pub still : same (meaning aq a) (meaning bq b) ≡ same (meaning aq (drop i a)) (meaning bq (drop j b))

pub compare : (a : Bytes) (aq : Bool) (b : Bytes) (bq : Bool) → Comparing a aq b bq 0 0
compare a aq b bq = record { still = refl }

module _ {a : Bytes} {aq : Bool} {b : Bytes} {bq : Bool} {i j : ℕ} (g : Comparing a aq b bq i j)
    {r : Option (ℕ × Cursor)} (ea : r ≡ unescaped_at aq a i) {t : Option (ℕ × Cursor)} (eb : t ≡ unescaped_at bq b j) where
  both_end : r ≡ None → t ≡ None → true ≡ same (meaning aq a) (meaning bq b)
  unfolding same
  both_end er et = sym (g.still ∙ rw (told_end aq a i ea er, told_end bq b j eb et))

  right_longer : r ≡ None → {y : ℕ} {d : Cursor} → t ≡ Some (y, d) → false ≡ same (meaning aq a) (meaning bq b)
  unfolding same
  right_longer er et = sym (g.still ∙ rw (told_end aq a i ea er, told_byte bq b j eb et))

  pub ends_too : r ≡ None → {v : Bool} → is_some t ≡ not v → v ≡ same (meaning aq a) (meaning bq b)
  ends_too er {v} w = go t refl v w
    where
      go : (x : Option (ℕ × Cursor)) → t ≡ x → (v : Bool) → is_some x ≡ not v → v ≡ same (meaning aq a) (meaning bq b)
      go None e true w = both_end er e
      go None e false w = never cc
      go (Some p) e true w = never cc
      go (Some p) e false w = right_longer er e

  module _ {x : ℕ} {c : Cursor} (er : r ≡ Some (x, c)) where
    pub left_longer : t ≡ None → false ≡ same (meaning aq a) (meaning bq b)
    unfolding same
    left_longer et = sym (g.still ∙ rw (told_byte aq a i ea er, told_end bq b j eb et))

    module _ {y : ℕ} {d : Cursor} (et : t ≡ Some (y, d)) where
      turn : same (meaning aq a) (meaning bq b) ≡ same (x ∷ meaning aq (drop c.at a)) (y ∷ meaning bq (drop d.at b))
      turn = g.still ∙ rw (told_byte aq a i ea er, told_byte bq b j eb et)

      pub differ : (x ≡ y → ⊥) → false ≡ same (meaning aq a) (meaning bq b)
      differ ne = sym (turn ∙ same_miss x y _ _ ne)

      pub agree : x ≡ y → Comparing a aq b bq c.at d.at
      agree e = record { still = turn ∙ same_hit x y _ _ e }

-- what answers the needs of `same_meaning`
pub ruleset compares = (both_bare, compare, ends_too, left_longer, differ, agree, told_less)

spelling_nil : (quote : Bool) → spelling quote [] ≡ []
unfolding escape
spelling_nil true = refl
spelling_nil false = refl

spelling_cons : (quote : Bool) (b : ℕ) (bs : Bytes) → spelling quote (b ∷ bs) ≡ spelling quote (b ∷ []) ++ spelling quote bs
unfolding escape
spelling_cons true b bs = rw append-nil
spelling_cons false b bs = refl

-- what answers the needs of `put_spelled`
module _ {given out : Bytes} {at : Sink} (b : ℕ) (quote : Bool) where
  pub bare_spelled : quote ≡ false → {r : Sink} {o : Bytes} → Puts given out at (b ∷ []) r o → Puts given out at (spelling quote (b ∷ [])) r o
  bare_spelled n w = rw n w

  -- q is what the code's test of the byte answered
  module _ (n : quote ≡ true) {q : Bool} (a : q ≡ is_escapable b) where
    pub plain_spelled : q ≡ false → {r : Sink} {o : Bytes} → Puts given out at (b ∷ []) r o → Puts given out at (spelling quote (b ∷ [])) r o
    unfolding escape
    plain_spelled e w = rw (n, sym a ∙ e, escaped_byte) w

    pub slash_spelled : q ≡ true → {r : Sink} {o : Bytes} → Puts given out at (92 ∷ []) r o → {r' : Sink} {o' : Bytes} → Puts given o r (b ∷ []) r' o'
        → Puts given out at (spelling quote (b ∷ [])) r' o'
    unfolding escape
    slash_spelled e w w' = rw (n, sym a ∙ e, escaped_byte) (then w w')

pub ruleset spells = (bare_spelled, plain_spelled, slash_spelled)

-- the meaning before the place c is written
pub record Writing (given out₀ : Bytes) (at : Sink) (s : Bytes) (q quote : Bool) (out : Bytes) (next : Sink) (c : ℕ) : Type 0 where
  pub capped : next.at ≤ last
  pub fits : length out ≤ last
  pub size : length out ≡ length out₀
  pub still : (r : Sink) (o : Bytes) → Puts given out next (spelling quote (meaning q (drop c s))) r o → Puts given out₀ at (spelling quote (meaning q s)) r o

pub write : (given out : Bytes) (at : Sink) (s : Bytes) (q quote : Bool) → at.at ≤ last → length out ≤ last → Writing given out at s q quote out at 0
write given out at s q quote h l = record { capped = h; fits = l; size = refl; still = λ r o w. w }

module _ {given out₀ : Bytes} {at : Sink} {s : Bytes} {q quote : Bool} {out : Bytes} {next : Sink} {c : ℕ} (g : Writing given out₀ at s q quote out next c)
    {r : Option (ℕ × Cursor)} (a : r ≡ unescaped_at q s c) where
  pub wrote_all : r ≡ None → Puts given out₀ at (spelling quote (meaning q s)) next out
  wrote_all e = g.still next out (rw (told_end q s c a e, spelling_nil quote) (puts_nothing given out next g.capped g.fits))

  pub wrote_one : {b : ℕ} {d : Cursor} → r ≡ Some (b, d) → {n : Sink} {o : Bytes} → Puts given out next (spelling quote (b ∷ [])) n o
      → Writing given out₀ at s q quote o n d.at
  wrote_one {b} {d} e w = record {
    capped = puts_capped w;
    fits = rw (puts_length w) g.fits;
    size = puts_length w ∙ g.size;
    still = λ r' o' w'. g.still r' o' (rw (told_byte q s c a e, spelling_cons quote b (meaning q (drop d.at s))) (then w w'));
  }

-- what answers the needs of `put_meaning`
pub ruleset writes = (wrote_all, wrote_one, told_less)

-- what answers the needs of `put_value`
module _ {given out : Bytes} {at : Sink} (v : Bytes) (quote : Bool) where
  pub bare_value : not quote ≡ true → {r : Sink} {o : Bytes} → Puts given out at (spelling quote v) r o → Puts given out at (write_value quote v) r o
  unfolding written
  bare_value n w = rw (not_true quote n) (rw (not_true quote n) at w)

  pub quoted_value : not quote ≡ false → {r : Sink} {o : Bytes} → Puts given out at (34 ∷ []) r o → {r' : Sink} {o' : Bytes} → Puts given o r (spelling quote v) r' o'
      → {r'' : Sink} {o'' : Bytes} → Puts given o' r' (34 ∷ []) r'' o'' → Puts given out at (write_value quote v) r'' o''
  unfolding written
  quoted_value n w w' w'' = rw (not_false quote n) (then w (then (rw (not_false quote n) at w') w''))

pub ruleset quotes = (bare_value, quoted_value)
