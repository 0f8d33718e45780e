-- Lines: what is written is cut into the same lines again, and a line holds no LF. Assumes nothing.
use Prim.Native.Nat.{ℕ}
use mathlib.Core.Path.{◌≡◌, refl, sym, ap, ◌∙◌}
use mathlib.Core.Bool.{Bool, true, false}
use mathlib.Core.List.{List, [], ◌∷◌, ◌++◌, map, append_assoc, append-nil}
use borrow.Author.Tests.{eq-eqb}
use Rattle.values.specs.Bytes.{Bytes, CR, LF, is, any}
use Rattle.values.proofs.Tests.{pass, fail, test, or_l, or_r}
use Rattle.values.proofs.Lists.{any_append}
use Rattle.rules.specs.Lines.{push, pieces, ends, drop_end, line_of, write_line, write_lines}

pub pieces_lf : (b : ℕ) (bs : Bytes) → is LF b ≡ true → pieces (b ∷ bs) ≡ (b ∷ []) ∷ pieces bs
unfolding pieces
pieces_lf b bs e = rw (e, pieces)

pub pieces_push : (b : ℕ) (bs : Bytes) → is LF b ≡ false → pieces (b ∷ bs) ≡ push b (pieces bs)
unfolding pieces
pieces_push b bs e = rw (e, pieces)

-- a run without LF, then LF, is a piece
pub pieces_line : (x r : Bytes) → any (is LF) x ≡ false → pieces (x ++ LF ∷ r) ≡ (x ++ LF ∷ []) ∷ pieces r
unfolding any
pieces_line [] r h = pieces_lf LF r refl
pieces_line (b ∷ x) r h = rw (pieces_push b (x ++ LF ∷ r) (or_l (is LF b) _ h), pieces_line x r (or_r (is LF b) _ h))

-- a last run without LF is one too
pub pieces_last : (b : ℕ) (x : Bytes) → any (is LF) (b ∷ x) ≡ false → pieces (b ∷ x) ≡ (b ∷ x) ∷ []
unfolding any pieces
pieces_last b [] h = pieces_push b [] (or_l (is LF b) _ h)
pieces_last b (c ∷ x) h = rw (pieces_push b (c ∷ x) (or_l (is LF b) _ h), pieces_last c x (or_r (is LF b) _ h))

pub ends_more : (c : ℕ) (xs : Bytes) (y : ℕ) (ys : Bytes) → ends c (xs ++ y ∷ ys) ≡ ends c (y ∷ ys)
unfolding ends
ends_more c [] y ys = refl
ends_more c (x ∷ []) y ys = refl
ends_more c (x ∷ w ∷ xs) y ys = ends_more c (w ∷ xs) y ys

pub ends_snoc : (c : ℕ) (x : Bytes) (d : ℕ) → ends c (x ++ d ∷ []) ≡ is c d
unfolding ends
ends_snoc c x d = ends_more c x d []

-- a run without c does not end in it
pub no_end : (c : ℕ) (x : Bytes) → any (is c) x ≡ false → ends c x ≡ false
unfolding ends any
no_end c [] h = refl
no_end c (b ∷ []) h = or_l (is c b) false h
no_end c (b ∷ d ∷ x) h = no_end c (d ∷ x) (or_r (is c b) (any (is c) (d ∷ x)) h)

pub drop_end_lem : (c : ℕ) (x : Bytes) → drop_end c (x ++ c ∷ []) ≡ x
unfolding drop_end
drop_end_lem c [] = rw (eq-eqb c c refl, drop_end)
drop_end_lem c (b ∷ []) = ap (b ∷◌) (drop_end_lem c [])
drop_end_lem c (b ∷ e ∷ x) = ap (b ∷◌) (drop_end_lem c (e ∷ x))

pub drop_other : (c : ℕ) (x : Bytes) → ends c x ≡ false → drop_end c x ≡ x
unfolding drop_end ends
drop_other c [] h = refl
drop_other c (b ∷ []) h = rw (h, drop_end)
drop_other c (b ∷ e ∷ x) h = ap (b ∷◌) (drop_other c (e ∷ x) h)

-- what is left of a piece with an LF, and without one
pub line_lf : (x : Bytes) → line_of (x ++ LF ∷ []) ≡ drop_end CR x
unfolding line_of
line_lf x = rw (ends_snoc LF x LF, line_of, drop_end_lem LF x)

pub line_last : (x : Bytes) → ends LF x ≡ false → line_of x ≡ x
unfolding line_of
line_last x h = rw (h, line_of)

-- a line as it is written is a piece, and the piece's line is the line
pub record Written (l r : Bytes) : Type 0 where
  pub piece : pieces (write_line l ++ r) ≡ write_line l ∷ pieces r
  pub line : line_of (write_line l) ≡ l

pub written : (l r : Bytes) → any (is LF) l ≡ false → Written l r
unfolding write_line any
written l r h = elim (test (ends CR l)) [
  | pass e ↦
      let n : any (is LF) (l ++ CR ∷ []) ≡ false = any_append (is LF) l (CR ∷ []) ∙ rw h in
      let a = append_assoc l (CR ∷ []) (LF ∷ []) in
      record {
        piece = rw (e, write_line, ← a) (rw (append_assoc (l ++ CR ∷ []) (LF ∷ []) r) (pieces_line (l ++ CR ∷ []) r n));
        line = rw (e, write_line, ← a) (line_lf (l ++ CR ∷ []) ∙ drop_end_lem CR l);
      }
  | fail e ↦ record {
    piece = rw (e, write_line) (rw (append_assoc l (LF ∷ []) r) (pieces_line l r h));
    line = rw (e, write_line) (line_lf l ∙ drop_other CR l e);
  }
]

-- every line is without LF
abbrev pub NoLF : List Bytes → Type 0
NoLF [] = Unit {0}
NoLF (l ∷ ls) = (any (is LF) l ≡ false) × NoLF ls

pub pieces_lines : (ls : List Bytes) → NoLF ls → pieces (write_lines ls) ≡ map write_line ls
unfolding write_lines pieces
pieces_lines [] h = refl
pieces_lines (l ∷ ls) h = (written l (write_lines ls) h.0).piece ∙ ap (write_line l ∷◌) (pieces_lines ls h.1)

-- a line as read holds no LF
any_drop_end : (t : ℕ → Bool) (c : ℕ) (x : Bytes) → any t x ≡ false → any t (drop_end c x) ≡ false
unfolding any drop_end
any_drop_end t c [] h = h
any_drop_end t c (b ∷ []) h = elim (test (is c b)) [ pass e ↦ rw (e, drop_end) | fail e ↦ rw (e, drop_end) h ]
any_drop_end t c (b ∷ d ∷ x) h = rw (or_l (t b) (any t (d ∷ x)) h) (any_drop_end t c (d ∷ x) (or_r (t b) (any t (d ∷ x)) h))

-- a piece has no LF but its last byte
abbrev pub Piece : Bytes → Type 0
Piece p = any (is LF) (drop_end LF p) ≡ false

abbrev pub Pieces : List Bytes → Type 0
Pieces [] = Unit {0}
Pieces (p ∷ ps) = Piece p × Pieces ps

pub piece_line : (p : Bytes) → Piece p → any (is LF) (line_of p) ≡ false
unfolding line_of
piece_line p h = elim (test (ends LF p)) [
  | pass e ↦ rw (e, line_of) (any_drop_end (is LF) CR (drop_end LF p) h)
  | fail e ↦ rw (e, line_of) (rw (drop_other LF p e) at h)
]

push_piece : (b : ℕ) (p : Bytes) → is LF b ≡ false → Piece p → Piece (b ∷ p)
unfolding drop_end any
push_piece b [] e h = rw (e, drop_end) (rw e)
push_piece b (c ∷ p) e h = rw e h

push_pieces : (b : ℕ) (ps : List Bytes) → is LF b ≡ false → Pieces ps → Pieces (push b ps)
unfolding drop_end any
push_pieces b [] e h = (rw (e, drop_end) (rw e), tt)
push_pieces b (p ∷ ps) e h = (push_piece b p e h.0, h.1)

pub pieces_fine : (bs : Bytes) → Pieces (pieces bs)
unfolding pieces drop_end any
pieces_fine [] = tt
pieces_fine (b ∷ bs) = elim (test (is LF b)) [
  | pass e ↦ rw (pieces_lf b bs e) (rw (e, drop_end), pieces_fine bs)
  | fail e ↦ rw (pieces_push b bs e) (push_pieces b (pieces bs) e (pieces_fine bs))
]

-- a header is nothing, or its first piece and the rest; if more follows, the piece ends in LF and is one before anything
pub data Cut (h : Bytes) : Type 0 where
  nothing : h ≡ [] → Cut h
  cut : (p r : Bytes) → h ≡ p ++ r → pieces h ≡ p ∷ pieces r → ((x : Bytes) → (r ≡ [] → ⊥) → pieces (p ++ x) ≡ p ∷ pieces x) → Cut h

pub cut_first : (h : Bytes) → Cut h
unfolding pieces
cut_first [] = nothing refl
cut_first (b ∷ bs) = elim (test (is LF b)) [
  | pass e ↦ cut (b ∷ []) bs refl (pieces_lf b bs e) (λ x _. pieces_lf b x e)
  | fail e ↦ elim (cut_first bs) [
    | nothing n ↦ cut (b ∷ []) [] (rw n) (rw n (pieces_push b [] e)) (λ x no. absurd (no refl))
    | cut p r a q t ↦ cut (b ∷ p) r (ap (b ∷◌) a) (pieces_push b bs e ∙ ap (push b) q) (λ x no. pieces_push b (p ++ x) e ∙ ap (push b) (t x no))
  ]
]

-- a line is the beginning of its piece
drop_end_prefix : (c : ℕ) (x : Bytes) → (e : Bytes) × (x ≡ drop_end c x ++ e)
unfolding drop_end
drop_end_prefix c [] = ([], refl)
drop_end_prefix c (b ∷ []) = elim (test (is c b)) [ pass e ↦ rw (e, drop_end) (b ∷ [], refl) | fail e ↦ rw (e, drop_end) ([], refl) ]
drop_end_prefix c (b ∷ d ∷ x) = let r = drop_end_prefix c (d ∷ x) in (r.0, ap (b ∷◌) r.1)

pub line_prefix : (p : Bytes) → (e : Bytes) × (p ≡ line_of p ++ e)
unfolding line_of
line_prefix p = elim (test (ends LF p)) [
  | pass e ↦
      let a = drop_end_prefix LF p in
      let b = drop_end_prefix CR (drop_end LF p) in
      rw (e, line_of) (b.0 ++ a.0, a.1 ∙ ap (◌++ a.0) b.1 ∙ append_assoc (drop_end CR (drop_end LF p)) b.0 a.0)
  | fail e ↦ rw (e, line_of) ([], sym (append-nil p))
]

-- what stands last
pub last_of : (xs : List Bytes) (z : Bytes) (zs : List Bytes) → (ys : List Bytes) × (y : Bytes) × (xs ++ z ∷ zs ≡ ys ++ y ∷ [])
last_of [] z [] = ([], z, refl)
last_of [] z (y ∷ zs) = let d = last_of [] y zs in (z ∷ d.0, d.1, ap (z ∷◌) d.2)
last_of (x ∷ xs) z zs = let d = last_of xs z zs in (x ∷ d.0, d.1, ap (x ∷◌) d.2)
