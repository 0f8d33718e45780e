-- Document 01, "Lines": how a header falls into lines, and how a line is written. Assumes nothing.
use Rattle.std.specs.Prelude.{ℕ, Bool, true, false, List, [], ◌∷◌, ◌++◌}
use Rattle.values.specs.Bytes.{Bytes, CR, LF, is}

-- one byte more, in front of the first piece
abbrev pub push : ℕ → List Bytes → List Bytes
push b [] = (b ∷ []) ∷ []
push b (p ∷ ps) = (b ∷ p) ∷ ps

-- a header cut after each LF: LF ends a line, a last line without LF counts, nothing follows a last LF
unfoldable pub pieces : Bytes → List Bytes
pieces [] = []
pieces (b ∷ bs) = elim (is LF b) [ true ↦ (b ∷ []) ∷ pieces bs | false ↦ push b (pieces bs) ]

-- the last byte is c
unfoldable pub ends : ℕ → Bytes → Bool
ends c [] = false
ends c (b ∷ []) = is c b
ends c (b ∷ d ∷ bs) = ends c (d ∷ bs)

-- without its last byte, if that is c
unfoldable pub drop_end : ℕ → Bytes → Bytes
drop_end c [] = []
drop_end c (b ∷ []) = elim (is c b) [ true ↦ [] | false ↦ b ∷ [] ]
drop_end c (b ∷ d ∷ bs) = b ∷ drop_end c (d ∷ bs)

-- one CR just before an LF is dropped with it; a last line without LF keeps a final CR
unfoldable pub line_of : Bytes → Bytes
line_of p = elim (ends LF p) [ true ↦ drop_end CR (drop_end LF p) | false ↦ p ]

-- a line ends in LF, but in CR LF if its own last byte is CR
unfoldable pub write_line : Bytes → Bytes
write_line l = elim (ends CR l) [ true ↦ l ++ CR ∷ LF ∷ [] | false ↦ l ++ LF ∷ [] ]

unfoldable pub write_lines : List Bytes → Bytes
write_lines [] = []
write_lines (l ∷ ls) = write_line l ++ write_lines ls
