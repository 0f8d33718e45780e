-- The theorems for the dictionaries of an accepted call: neither clashes, and each ID is listed at its first line with its number. Assumes nothing.
use Prim.Native.Nat.{ℕ}
use native.Mathlib.Omega.{arith}
use mathlib.Core.Path.{◌≡◌, refl, subst, ◌∙◌}
use mathlib.Core.Bool.{false, ◌||◌}
use mathlib.Core.List.{List, []}
use Rattle.values.specs.Bytes.{Bytes}
use Rattle.values.proofs.Tests.{pass, fail, test, or_l, or_r}
use Rattle.rules.specs.Answer.{first}
use Rattle.rules.specs.Known.{is_in}
use Rattle.dictionary.specs.Dictionary.{Line, mixed_idx, first_lines, id_number, dictionary_clash, refusal, dictionary}
use Rattle.dictionary.specs.declared.line.Dictionary.{Dictionary}
use Rattle.dictionary.specs.declared.line.Dictionary.TheVariants.{Strings, Contigs}
use Rattle.dictionary.proofs.Firsts.{first_ids}
use Rattle.dictionary.proofs.Theorems.{Member, id_member, line_with, first_member, has_number}

-- where nothing is refused, no line of either dictionary lacks what others carry, and no two clash
pub record Unrefused (strings contigs : List Line) : Type 0 where
  pub strings_whole : mixed_idx strings ≡ false
  pub contigs_whole : mixed_idx contigs ≡ false
  pub strings_free : dictionary_clash Strings strings ≡ false
  pub contigs_free : dictionary_clash Contigs contigs ≡ false

pub unrefused : (s c : ℕ) (strings contigs : List Line) → refusal s c strings contigs ≡ 0 → Unrefused strings contigs
unfolding refusal first
unrefused s c strings contigs z = elim (test (mixed_idx strings || mixed_idx contigs)) [
  | pass m ↦ absurd (omega (arith, rw m at z))
  | fail m ↦ elim (test (dictionary_clash Strings strings || dictionary_clash Contigs contigs)) [
    | pass q ↦ absurd (omega (arith, rw (m, q) at z))
    | fail q ↦ record {
      strings_whole = or_l (mixed_idx strings) (mixed_idx contigs) m;
      contigs_whole = or_r (mixed_idx strings) (mixed_idx contigs) m;
      strings_free = or_l (dictionary_clash Strings strings) (dictionary_clash Contigs contigs) q;
      contigs_free = or_r (dictionary_clash Strings strings) (dictionary_clash Contigs contigs) q;
    }
  ]
]

-- a line that is listed
pub record Listed (d : Dictionary) (ls : List Line) (x : Bytes) : Type 0 where
  pub line : Line
  pub listed : Member line (first_lines [] ls)
  pub is : line.id ≡ x
  pub number : Member (x, id_number d ls line) (dictionary d ls)

-- each ID is listed, and with its number
pub each_listed : (d : Dictionary) (ls : List Line) → dictionary_clash d ls ≡ false → (l : Line) → Member l ls → Listed d ls l.id
unfolding is_in
each_listed d ls free l m =
    let w = line_with l.id (first_lines [] ls) (first_ids l.id [] ls refl ∙ id_member l ls m) in
    record {
      line = w.line;
      listed = w.member;
      is = w.is;
      number = subst (λ (x : Bytes). Member (x, id_number d ls w.line) (dictionary d ls)) w.is (has_number d ls free w.line (first_member w.line [] ls w.member));
    }
