-- The answer of the call for contigs as numbers. Assumes nothing.
use Prim.Native.Nat.{ℕ}
use mathlib.Core.Path.{◌≡◌, ap, ◌∙◌}
use lib.ListN.{length}
use lib.Seq.{sets}
use Rattle.values.specs.Bytes.{Bytes}
use Rattle.sam.specs.Contigs.{contig_lines, contigs_fitting}
use Rattle.sam.specs.Answers.{contigs_number, ContigsMeaning, ContigsCall}
use Rattle.sam.specs.declared.contigs.ContigsAnswer.{ContigsAnswer}
use Rattle.capi.specs.Answers.{contigs_in_c}
use Rattle.capi.specs.declared.VcfhContigs.{VcfhContigs}

abbrev numbers : ContigsMeaning → VcfhContigs
numbers t = record { number = t.number; line = t.line; start = t.start; contigs = t.contigs; length = t.size }

module _ {sam out : Bytes} {a : ContigsAnswer} {out' : Bytes} (call : ContigsCall sam out a out') where
  pub contigs_answer : {n : ℕ} → n ≡ contigs_number a.outcome
      → record { number = n; line = a.line; start = a.start; contigs = a.contigs; length = a.length } ≡ contigs_in_c (contigs_fitting (length out) sam)
  contigs_answer q = ap (λ k. record { number = k; line = a.line; start = a.start; contigs = a.contigs; length = a.length }) q ∙ ap numbers call.answer

  pub lines_written : out' ≡ sets out 0 (contig_lines (contigs_fitting (length out) sam).contigs)
  lines_written = call.output
