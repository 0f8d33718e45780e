-- The end of a header: a turn of the loop over lines. Assumes nothing.
use Prim.Native.Nat.{ℕ, ◌+◌, ◌-◌, ◌≤◌, ◌<◌}
use native.Mathlib.Omega.{arith}
use mathlib.Core.Path.{◌≡◌, sym, ap, ◌∙◌}
use mathlib.Core.Bool.{Bool, true, false}
use mathlib.Core.List.{List, ◌∷◌}
use lib.ListN.{length, take, drop}
use Rattle.values.specs.Bytes.{Bytes, ascii, starts}
use Rattle.rules.specs.Lines.{pieces, line_of}
use Rattle.lines.specs.Lines.{PieceIs, LineIs}
use Rattle.lines.specs.declared.line.Line.{Line}
use Rattle.lines.proofs.Lines.{pieces_past, SomePiece, pieces_there}
use Rattle.lookup.specs.End.{header_end}

module _ (p : Bytes) (ps : List Bytes) where
  end_here : starts (ascii "#CHROM") (line_of p) ≡ true → header_end (p ∷ ps) ≡ length p
  unfolding header_end
  end_here e = rw (header_end, e)

  end_later : starts (ascii "#CHROM") (line_of p) ≡ false → header_end (p ∷ ps) ≡ length p + header_end ps
  unfolding header_end
  end_later e = rw (header_end, e)

-- the lines before a place are none
pub record Ending (s : Bytes) (at : ℕ) : Type 0 where
  pub inside : at ≤ length s
  pub still : header_end (pieces s) ≡ at + header_end (pieces (drop at s))

pub end_start : (s : Bytes) → Ending s 0
end_start s = record { inside = omega arith; still = omega arith }

module _ {s : Bytes} {at : ℕ} (g : Ending s at) where
  pub end_all : length s ≤ at → at ≡ header_end (pieces s)
  unfolding header_end
  end_all h = sym (g.still ∙ ap (λ (ps : List Bytes). at + header_end ps) (pieces_past s at h) ∙ omega arith)

  module _ (h : at < length s) {l : Line} (b : LineIs s at l) where
    abbrev there : SomePiece s at
    there = pieces_there s at h

    abbrev here : PieceIs s at l there.piece there.rest
    here = b.first there.piece there.rest there.is

    pub end_less : length s - l.next < length s - at
    end_less = let m = b.moves h in omega arith

    module _ {x : Bytes} (c : x ≡ take (l.end - at) (drop at s)) {q : Bool} (d : q ≡ starts (ascii "#CHROM") x) where
      tested : {y : Bool} → q ≡ y → starts (ascii "#CHROM") (line_of there.piece) ≡ y
      tested e = ap (λ (z : Bytes). starts (ascii "#CHROM") z) (sym (c ∙ here.here)) ∙ sym d ∙ e

      pub end_found : q ≡ true → l.next ≡ header_end (pieces s)
      end_found e = here.stepped ∙ sym (g.still ∙ ap (at +◌) (ap header_end there.is ∙ end_here there.piece there.rest (tested e)))

      pub end_next : q ≡ false → Ending s l.next
      end_next e =
          let w : header_end (pieces s) ≡ at + (length there.piece + header_end there.rest) = g.still ∙ ap (at +◌) (ap header_end there.is ∙ end_later there.piece there.rest (tested e)) in
          let n = here.stepped in
          let r : header_end (pieces (drop l.next s)) ≡ header_end there.rest = ap header_end here.left in
          record { inside = b.inside g.inside; still = omega arith }

pub ruleset ends = (end_start, end_all, end_less, end_found, end_next)
