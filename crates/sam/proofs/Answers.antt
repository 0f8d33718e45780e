-- The answer to a call, by what its two walks tell; and that there is one. Assumes nothing.
use Rattle.std.specs.Prelude.{Result, Ok, Err}
use Prim.Native.Nat.{ℕ, ◌*◌, ◌^◌, ◌≤◌, ◌<◌}
use native.Mathlib.Omega.{arith}
use mathlib.Core.Path.{◌≡◌, refl, sym, ap, subst, ◌∙◌}
use lib.ListN.{length}
use lib.Seq.{sets}
use borrow.Author.Tests.{le-leb, lt-leb}
use Rattle.values.specs.Bytes.{Bytes}
use Rattle.values.specs.Written.{onward}
use Rattle.rules.specs.Lines.{write_lines}
use Rattle.sam.specs.Contigs.{Contigs, refused, read_contigs, contig_lines, contigs_fitting}
use Rattle.sam.specs.Lines.{sam_number}
use Rattle.sam.specs.Answers.{contigs_answer_means, contigs_mean, ContigsCall, refused_answer, WalkedAs, Walks}
use Rattle.sam.specs.declared.refusal.SamRefusal.{SamRefusal}
use Rattle.sam.specs.declared.refusal.SamRefusal.TheVariants.{LineTooLong, InvalidUtf8, InvalidTag, InvalidSequence, DuplicateSequence, OutputTooSmall}
use Rattle.sam.specs.declared.contigs.ContigsAnswer.{ContigsAnswer}

number_positive : (x : SamRefusal) → 0 < sam_number x
number_positive LineTooLong = omega arith
number_positive InvalidUtf8 = omega arith
number_positive InvalidTag = omega arith
number_positive InvalidSequence = omega arith
number_positive DuplicateSequence = omega arith
number_positive OutputTooSmall = omega arith

-- the lines that were read fit, or don't
module _ (room : ℕ) (sam : Bytes) where
  fits_all : length (contig_lines (read_contigs sam).contigs) ≤ room → contigs_fitting room sam ≡ read_contigs sam
  unfolding contigs_fitting
  fits_all h = rw (contigs_fitting, le-leb (length (contig_lines (read_contigs sam).contigs)) room h)

  fits_not : room < length (contig_lines (read_contigs sam).contigs) → contigs_fitting room sam ≡ refused 28 0 0
  unfolding contigs_fitting
  fits_not h = rw (contigs_fitting, lt-leb (length (contig_lines (read_contigs sam).contigs)) room h)

-- what is answered of these
call_as : (sam out : Bytes) {d : Contigs} → contigs_fitting (length out) sam ≡ d → (r : ContigsAnswer) → contigs_answer_means r ≡ contigs_mean d
    → {out' : Bytes} → out' ≡ sets out 0 (contig_lines d.contigs) → ContigsCall sam out r out'
call_as sam out f r a b = record { answer = a ∙ ap contigs_mean (sym f); output = b ∙ ap (λ (y : Contigs). sets out 0 (contig_lines y.contigs)) (sym f) }

-- w is what the first walk told
module _ (sam : Bytes) {no : Bytes} {w : Result (ℕ × ℕ × ℕ) (SamRefusal × ℕ × ℕ)} {no' : Bytes} (m : Walks sam no w no') where
  pub call_refused : {x : SamRefusal} {line start : ℕ} → w ≡ Err (x, line, start) → (out : Bytes) {r : ContigsAnswer} → r ≡ refused_answer x line start → ContigsCall sam out r out
  unfolding contig_lines write_lines
  call_refused {x} {line} {start} e out {r} a =
      let t : read_contigs sam ≡ refused (sam_number x) line start = subst (λ (y : Result (ℕ × ℕ × ℕ) (SamRefusal × ℕ × ℕ)). WalkedAs sam no y no') e m.is in
      call_as sam out (fits_all (length out) sam (rw t (omega arith)) ∙ t) r (ap contigs_answer_means a) refl

  module _ {n k size : ℕ} (e : w ≡ Ok (n, k, size)) where
    whole : WalkedAs sam no (Ok (n, k, size)) no'
    whole = subst (λ (y : Result (ℕ × ℕ × ℕ) (SamRefusal × ℕ × ℕ)). WalkedAs sam no y no') e m.is

    pub call_short : (out : Bytes) → length out < size → {r : ContigsAnswer} → r ≡ refused_answer OutputTooSmall 0 0 → ContigsCall sam out r out
    unfolding onward contig_lines write_lines
    call_short out h {r} a = call_as sam out (fits_not (length out) sam (rw whole.1 (omega (arith, whole.3.place)))) r (ap contigs_answer_means a) refl

    pub call_whole : (out : Bytes) → length out * 1 < 2 ^ 63 → size ≤ length out → {w' : Result (ℕ × ℕ × ℕ) (SamRefusal × ℕ × ℕ)} {out' : Bytes} → Walks sam out w' out'
        → ContigsCall sam out (record { outcome = (Ok tt); line = n; start = length sam; contigs = k; length = size }) out'
    unfolding onward
    call_whole out b h {w'} {out'} v =
        let s : length (contig_lines whole.0) ≡ size = omega (arith, whole.3.place) in
        call_as sam out (fits_all (length out) sam (rw whole.1 (omega arith)) ∙ whole.1) _ (rw (s, whole.2)) (again w' v.is)
      where
        again : (w : Result (ℕ × ℕ × ℕ) (SamRefusal × ℕ × ℕ)) → WalkedAs sam out w out' → out' ≡ sets out 0 (contig_lines whole.0)
        again (Ok (n, k, next)) v = v.3.output ∙ ap (λ (y : Contigs). sets out 0 (contig_lines y.contigs)) (sym v.1 ∙ whole.1)
        again (Err (x, line, start)) v =
            let z : 0 ≡ sam_number x = ap (λ (y : Contigs). y.number) (sym whole.1 ∙ v) in
            absurd (omega (arith, number_positive x))

pub ruleset calls = (call_refused, call_short, call_whole)
