-- The line that stands at a place of a header, by the pieces into which the rules cut it. Assumes nothing.
use Rattle.std.specs.Prelude.{ℕ, suc, ◌+◌, ◌-◌, ◌≤◌, ◌<◌, ◌≡◌, true, false, List, [], ◌∷◌, length, drop, take}
use Rattle.values.specs.Bytes.{Bytes, LF, is, any}
use Rattle.rules.specs.Lines.{pieces, line_of}
use Rattle.lines.specs.declared.line.Line.{Line}

-- the first of the pieces from a place on, its line, and the pieces that are left after it
pub record PieceIs (h : Bytes) (at : ℕ) (r : Line) (p : Bytes) (ps : List Bytes) : Type 0 where
  pub ended : r.end ≡ at + length (line_of p)
  pub stepped : r.next ≡ at + length p
  pub here : take (r.end - at) (drop at h) ≡ line_of p
  pub left : pieces (drop r.next h) ≡ ps

pub record LineIs (h : Bytes) (at : ℕ) (r : Line) : Type 0 where
  pub first : (p : Bytes) (ps : List Bytes) → pieces (drop at h) ≡ p ∷ ps → PieceIs h at r p ps
  pub begun : at ≤ r.end
  pub ordered : r.end ≤ r.next
  pub moves : at < length h → at < r.next
  pub inside : at ≤ length h → r.next ≤ length h
  pub past : length h ≤ at → (r.end ≡ at) × (r.next ≡ at)

-- up to and with the last LF
unfoldable pub end_of : Bytes → ℕ
end_of [] = 0
end_of (b ∷ bs) = elim (any (is LF) (b ∷ bs)) [ true ↦ suc (end_of bs) | false ↦ 0 ]

-- the place after the last LF from a place on; that place, where there is none
abbrev pub last_end : Bytes → ℕ → ℕ
last_end h at = at + end_of (drop at h)
