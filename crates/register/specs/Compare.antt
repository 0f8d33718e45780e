-- Document 02, §11: the wells in which two registers differ. Assumes nothing.
use Rattle.std.specs.Prelude.{ℕ, ◌+◌, true, false, List, [], ◌∷◌, eqb}

-- a well, with the two numbers that it has
pub record Difference : Type 0 where
  pub well : ℕ
  pub old : ℕ
  pub new : ℕ

-- lowest first; the first numbers are those of the well w
unfoldable pub differing : ℕ → List ℕ → List ℕ → List Difference
differing w [] bs = []
differing w (a ∷ as') [] = []
differing w (a ∷ as') (b ∷ bs) = elim (eqb a b) [ true ↦ differing (w + 1) as' bs | false ↦ record { well = w; old = a; new = b } ∷ differing (w + 1) as' bs ]
