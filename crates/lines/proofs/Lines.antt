-- The line at a place: the code's ways to it, and when there is one. Assumes nothing.
use Prim.Native.Nat.{ℕ, ◌+◌, ◌-◌, ◌≤◌, ◌<◌}
use native.Mathlib.Decide.{dec_le}
use native.Mathlib.Omega.{arith}
use mathlib.Core.Path.{◌≡◌, refl, sym, ap, ap₂, ◌∙◌}
use mathlib.Core.Bool.{false}
use mathlib.Core.List.{List, [], ◌∷◌, ◌++◌, append_assoc, append-nil}
use lib.ListN.{length, get_or, drop, length-append, length-drop}
use lib.Seq.{get_or-drop}
use borrow.Author.Tests.{eqb-true, ne_eqb}
use Rattle.values.specs.Bytes.{Bytes, CR, LF, is, any, before, from}
use Rattle.values.proofs.Lists.{here, drop_past, before_from, before_none, from_at, from_first}
use Rattle.values.proofs.Scans.{stop_of}
use Rattle.values.proofs.Fields.{text_here}
use Rattle.rules.specs.Lines.{pieces, ends, drop_end, line_of}
use Rattle.rules.proofs.Pieces.{nothing, cut, cut_first, pieces_line, pieces_last, line_lf, line_last, ends_snoc, no_end, drop_end_lem, drop_other}
use Rattle.rules.proofs.Trace.{first_line}
use Rattle.lines.specs.declared.line.Line.{Line}
use Rattle.lines.specs.Lines.{PieceIs, LineIs}

-- When there is a line

pub pieces_past : (h : Bytes) (at : ℕ) → length h ≤ at → pieces (drop at h) ≡ []
unfolding pieces
pieces_past h at l = ap pieces (drop_past h at l)

pub record SomePiece (h : Bytes) (at : ℕ) : Type 0 where
  pub piece : Bytes
  pub rest : List Bytes
  pub is : pieces (drop at h) ≡ piece ∷ rest

pub pieces_there : (h : Bytes) (at : ℕ) → at < length h → SomePiece h at
pieces_there h at l = elim (cut_first (drop at h)) [
  | nothing n ↦ let e = sym (length-drop at h) ∙ ap length n in absurd (omega arith)
  | cut p r a q t ↦ record { piece = p; rest = pieces r; is = q }
]

-- where a piece stands, the header goes on
pub piece_inside : (h : Bytes) (at : ℕ) {p : Bytes} {ps : List Bytes} → pieces (drop at h) ≡ p ∷ ps → at < length h
unfolding pieces
piece_inside h at {p} {ps} e = go (drop at h) refl e
  where
    go : (x : Bytes) → drop at h ≡ x → pieces x ≡ p ∷ ps → at < length h
    go [] a q = let z : ◌≡◌ {A = ℕ} 0 1 = cc in absurd (omega arith)
    go (b ∷ x) a q = let n = sym (length-drop at h) ∙ ap length a in omega arith

-- The ways of `next_line`

-- the piece that stands there is the only one
piece_is : (h : Bytes) (at : ℕ) (r : Line) (p : Bytes) (ps : List Bytes) → pieces (drop at h) ≡ p ∷ ps → r.end ≡ at + length (line_of p) → r.next ≡ at + length p
    → (q : Bytes) (qs : List Bytes) → pieces (drop at h) ≡ q ∷ qs → PieceIs h at r q qs
piece_is h at r p ps e a b q qs f =
    let l = piece_inside h at f in
    let w = first_line h at q qs (omega arith) f in
    let z : p ∷ ps ≡ q ∷ qs = sym e ∙ f in
    let i : p ≡ q = cc in
    let a' : r.end ≡ at + length (line_of q) = rw (← i) a in
    let b' : r.next ≡ at + length q = rw (← i) b in
    record { ended = a'; stepped = b'; here = rw a' w.here; left = rw b' w.left }

-- nothing, or bytes with a last one
data Last (x : Bytes) : Type 0 where
  no_byte : x ≡ [] → Last x
  byte : (y : Bytes) (d : ℕ) → x ≡ y ++ d ∷ [] → Last x

last_of : (x : Bytes) → Last x
last_of [] = no_byte refl
last_of (b ∷ x) = go (last_of x)
  where
    go : Last x → Last (b ∷ x)
    go (no_byte e) = byte [] b (ap (b ∷◌) e)
    go (byte y d e) = byte (b ∷ y) d (ap (b ∷◌) e)

-- the bytes up to the LF, or to the end, found from a start between which and `at` there is none
module _ (h : Bytes) (at start : ℕ) {lf : ℕ} (skipped : stop_of (is LF) h start ≡ stop_of (is LF) h at) (hit : lf ≡ stop_of (is LF) h start) where
  found : lf ≡ stop_of (is LF) h at
  found = hit ∙ skipped

  abbrev x : Bytes
  x = before (is LF) (drop at h)

  whole : drop at h ≡ x ++ drop lf h
  whole = sym (before_from (is LF) (drop at h)) ∙ ap (x ++◌) (from_at (is LF) h at ∙ rw (← found))

  -- no LF follows
  pub line_unended : length h ≤ lf → LineIs h at (record { end = lf; next = lf })
  line_unended l =
      let e : drop at h ≡ x = whole ∙ rw (drop_past h lf l) (append-nil x) in
      let n = sym (length-drop at h) ∙ ap length e in
      record {
        first = λ p ps f. go x e (before_none (is LF) (drop at h)) found p ps f;
        begun = omega arith;
        ordered = omega arith;
        moves = λ i. omega arith;
        inside = λ i. omega arith;
        past = λ i. let z = ap length (drop_past h at i) in (omega arith, omega arith);
      }
    where
      go : (y : Bytes) → drop at h ≡ y → any (is LF) y ≡ false → lf ≡ at + length y → (p : Bytes) (ps : List Bytes) → pieces (drop at h) ≡ p ∷ ps
          → PieceIs h at (record { end = lf; next = lf }) p ps
      go [] e a q p ps f = let i = piece_inside h at f in let n = sym (length-drop at h) ∙ ap length e in absurd (omega arith)
      go (b ∷ y) e a q p ps f =
          let g = line_last (b ∷ y) (no_end LF (b ∷ y) a) in
          piece_is h at (record { end = lf; next = lf }) (b ∷ y) [] (rw e (pieces_last b y a)) (rw g q) q p ps f

  module _ (l : lf < length h) where
    after : drop at h ≡ x ++ LF ∷ drop (lf + 1) h
    after =
        let a : from (is LF) (drop at h) ≡ get_or h lf 0 ∷ drop (lf + 1) h = from_at (is LF) h at ∙ rw (← found) (here h lf l) in
        let b : get_or h lf 0 ≡ LF = eqb-true (get_or h lf 0) LF (from_first (is LF) (drop at h) a) in
        whole ∙ ap (x ++◌) (rw (here h lf l, b))

    -- the line whose end is told
    told : (end : ℕ) → end ≡ at + length (drop_end CR x) → at ≤ end → end ≤ lf + 1 → LineIs h at (record { end = end; next = lf + 1 })
    told end e b o =
        let m = length-append x (LF ∷ []) in
        record {
          first = piece_is h at (record { end = end; next = lf + 1 }) (x ++ LF ∷ []) (pieces (drop (lf + 1) h))
              (ap pieces after ∙ pieces_line x (drop (lf + 1) h) (before_none (is LF) (drop at h))) (rw (line_lf x) e) (omega arith);
          begun = b;
          ordered = o;
          moves = λ i. omega arith;
          inside = λ i. omega arith;
          past = λ i. absurd (omega arith);
        }

    pub line_empty : lf ≡ at → LineIs h at (record { end = lf; next = lf + 1 })
    unfolding drop_end
    line_empty e = told lf (go x (omega arith)) (omega arith) (omega arith)
      where
        go : (y : Bytes) → length y ≡ 0 → lf ≡ at + length (drop_end CR y)
        go [] n = omega arith
        go (b ∷ y) n = absurd (omega arith)

    module _ (ne : lf ≡ at → ⊥) where
      -- the byte before the LF
      last_byte : (y : Bytes) (d : ℕ) → x ≡ y ++ d ∷ [] → (get_or h (lf - 1) 0 ≡ d) × (lf - 1 ≡ at + length y)
      last_byte y d e =
          let m = ap length e ∙ length-append y (d ∷ []) in
          let i : lf - 1 ≡ at + length y = omega arith in
          let w : drop at h ≡ y ++ d ∷ (LF ∷ drop (lf + 1) h) = after ∙ rw e (append_assoc y (d ∷ []) (LF ∷ drop (lf + 1) h)) in
          let t = (text_here h at y (d ∷ (LF ∷ drop (lf + 1) h)) w).1 in
          let z : at + length y + 0 ≡ at + length y = omega arith in
          (rw (i, ← z, ← get_or-drop (at + length y) h 0 0, t), i)

      pub line_cr : get_or h (lf - 1) 0 ≡ CR → LineIs h at (record { end = lf - 1; next = lf + 1 })
      line_cr c = go (last_of x)
        where
          go : Last x → LineIs h at (record { end = lf - 1; next = lf + 1 })
          go (no_byte e) = let n = ap length e in absurd (ne (omega arith))
          go (byte y d e) =
              let b = last_byte y d e in
              let k : d ≡ CR = sym b.0 ∙ c in
              told (lf - 1) (rw (e, k, drop_end_lem CR y) b.1) (omega (arith, b.1)) (omega arith)

      pub line_lf_only : (get_or h (lf - 1) 0 ≡ CR → ⊥) → LineIs h at (record { end = lf; next = lf + 1 })
      line_lf_only c = go (last_of x)
        where
          go : Last x → LineIs h at (record { end = lf; next = lf + 1 })
          go (no_byte e) = let n = ap length e in absurd (ne (omega arith))
          go (byte y d e) =
              let b = last_byte y d e in
              let k : ends CR x ≡ false = rw e (ends_snoc CR y d ∙ ne_eqb d CR (λ q. c (b.0 ∙ q))) in
              told lf (rw (drop_other CR x k) found) (omega arith) (omega arith)

pub ruleset ways = (line_unended, line_empty, line_cr, line_lf_only)

-- two answers that meet the promise are equal
pub line_determined : (h : Bytes) (at : ℕ) (a b : Line) → LineIs h at a → LineIs h at b → a ≡ b
line_determined h at a b p q = go (dec_le (length h) at)
  where
    both : a.end ≡ b.end → a.next ≡ b.next → a ≡ b
    both e n = ap₂ (λ (i j : ℕ). record { end = i; next = j }) e n

    go : Dec (length h ≤ at) → a ≡ b
    go (yes l) = both ((p.past l).0 ∙ sym (q.past l).0) ((p.past l).1 ∙ sym (q.past l).1)
    go (no n) =
        let s = pieces_there h at (omega (arith, n)) in
        let x = p.first s.piece s.rest s.is in
        let y = q.first s.piece s.rest s.is in
        both (x.ended ∙ sym y.ended) (x.stepped ∙ sym y.stepped)
