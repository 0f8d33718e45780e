-- What a call for the contigs of a SAM header answers. Assumes nothing.
use Rattle.std.specs.Prelude.{ℕ, ◌≡◌, List, length, Result, Ok, Err, ⊤}
use Rattle.std.proofs.lemmas.List.Edits.{sets}
use Rattle.values.specs.Bytes.{Bytes}
use Rattle.values.specs.Written.{Wrote}
use Rattle.sam.specs.Contigs.{Contig, Contigs, refused, read_contigs, contig_lines, contigs_fitting}
use Rattle.sam.specs.Lines.{sam_number}
use Rattle.sam.specs.declared.refusal.SamRefusal.{SamRefusal}
use Rattle.sam.specs.declared.contigs.ContigsAnswer.{ContigsAnswer}

abbrev pub contigs_number : Result ⊤ SamRefusal → ℕ
contigs_number (Ok tt) = 0
contigs_number (Err x) = sam_number x

-- the number, the place, how many contigs, and how many bytes were written
pub record ContigsMeaning : Type 0 where
  pub number : ℕ
  pub line : ℕ
  pub start : ℕ
  pub contigs : ℕ
  pub size : ℕ

abbrev pub contigs_answer_means : ContigsAnswer → ContigsMeaning
contigs_answer_means a = record { number = contigs_number a.outcome; line = a.line; start = a.start; contigs = a.contigs; size = a.length }

abbrev pub contigs_mean : Contigs → ContigsMeaning
contigs_mean r = record { number = r.number; line = r.line; start = r.start; contigs = length r.contigs; size = length (contig_lines r.contigs) }

-- what `contigs` promises of a call: the SAM header and the output; the answer, and the output after it
pub record ContigsCall (sam out : Bytes) (r : ContigsAnswer) (out' : Bytes) : Type 0 where
  pub answer : contigs_answer_means r ≡ contigs_mean (contigs_fitting (length out) sam)
  pub output : out' ≡ sets out 0 (contig_lines (contigs_fitting (length out) sam).contigs)

-- How the code comes to it

abbrev pub refused_answer : SamRefusal → ℕ → ℕ → ContigsAnswer
refused_answer x line start = record { outcome = Err x; line = line; start = start; contigs = 0; length = 0 }

abbrev pub accepted : ℕ → ℕ → List Contig → Contigs
accepted n size cs = record { number = 0; line = n; start = size; contigs = cs }

-- all lines were read, and the contigs' were written; or one was refused
abbrev pub WalkedAs : Bytes → Bytes → Result (ℕ × ℕ × ℕ) (SamRefusal × ℕ × ℕ) → Bytes → Type 0
WalkedAs sam out (Ok (n, k, next)) out' =
    (cs : List Contig) × (read_contigs sam ≡ accepted n (length sam) cs) × (length cs ≡ k) × Wrote out 0 (contig_lines cs) next out'
WalkedAs sam out (Err (x, line, start)) out' = read_contigs sam ≡ refused (sam_number x) line start

pub record Walks (sam out : Bytes) (r : Result (ℕ × ℕ × ℕ) (SamRefusal × ℕ × ℕ)) (out' : Bytes) : Type 0 where
  pub is : WalkedAs sam out r out'
