-- Writing into a lent output: bytes past its end are counted and not written. What is written is held against bytes that are given.
-- Assumes nothing.
use Rattle.std.specs.Prelude.{ℕ, ◌+◌, ◌-◌, ◌^◌, ◌≤◌, min, ◌≡◌, Bool, true, false, ◌&&◌, [], ◌∷◌, eqb, ltb, length, get_or, Option, None, Some}
use Rattle.std.proofs.lemmas.List.Edits.{sets}
use Rattle.values.specs.Bytes.{Bytes}
use Rattle.values.specs.declared.sink.Sink.{Sink}

-- the largest place: no output reaches it
abbrev pub last : ℕ
last = 2 ^ 64 - 1

-- the place n bytes on, at most the last
unfoldable pub onward : ℕ → ℕ → ℕ
onward at n = min (at + n) last

-- b is the byte of `given` at this place
abbrev pub is_at : Bytes → ℕ → ℕ → Bool
is_at given at b = ltb at (length given) && eqb (get_or given at 0) b

-- the first place, from `at` on, where the text is not what is given
unfoldable pub differing : Bytes → ℕ → Bytes → Option ℕ
differing given at [] = None
differing given at (b ∷ text) = elim (is_at given at b) [ true ↦ differing given (onward at 1) text | false ↦ Some at ]

-- the smaller one of a place and a place that there may be
abbrev pub sooner : ℕ → Option ℕ → ℕ
sooner n None = n
sooner n (Some p) = min n p

-- text was put where s stands: written into out, which left it as `left`, and held against `given`; next stands after the text
pub record Puts (given out : Bytes) (s : Sink) (text : Bytes) (next : Sink) (left : Bytes) : Type 0 where
  pub place : next.at ≡ onward s.at (length text)
  pub differs : next.differs ≡ sooner s.differs (differing given s.at text)
  pub output : left ≡ sets out s.at text
  pub fits : length out ≤ last
  pub capped : s.at ≤ last

-- a place where nothing is held against anything: a difference at the first byte is known already
abbrev pub plain : ℕ → Sink
plain at = record { at = at; differs = 0 }

-- text was written into out from the place at on, which left it as `left`, and next is the place after the text
abbrev pub Wrote : Bytes → ℕ → Bytes → ℕ → Bytes → Type 0
Wrote out at text next left = Puts [] out (plain at) text (plain next) left
