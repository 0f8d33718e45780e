-- What becomes of both dictionaries: the refusals in their order, and what is written. Assumes nothing.
use Rattle.std.specs.Prelude.{Option, Some, None}
use Prim.Native.Nat.{ℕ, ◌*◌, ◌/◌, ◌≤◌, ◌<◌}
use native.Mathlib.Omega.{arith}
use mathlib.Core.Path.{◌≡◌, refl, sym, ap, ◌∙◌}
use mathlib.Core.Bool.{Bool, true, false, ◌||◌, ◌&&◌}
use mathlib.Core.List.{List, []}
use lib.Dec.{leb}
use lib.ListN.{length}
use borrow.Author.Tests.{leb-true, le-leb, lt-leb}
use Rattle.values.specs.Bytes.{Bytes}
use Rattle.values.proofs.Tests.{pass, fail, test, or_l, or_r, or_on, and_l, and_r, and_off, never}
use Rattle.dictionary.specs.Dictionary.{Line, mixed_idx, first_lines, id_number, dictionary_clash, pairs}
use Rattle.dictionary.specs.Lines.{string_lines, contig_lines}
use Rattle.dictionary.specs.Pairs.{carried_by, EndsLines, Uniform, count_or_none, numbering_of, NumbersLines}
use Rattle.dictionary.specs.Answers.{judged_of, CountsPairs, Judges, NumbersBoth}
use Rattle.dictionary.specs.declared.line.Dictionary.{Dictionary}
use Rattle.dictionary.specs.declared.line.Dictionary.TheVariants.{Strings, Contigs}
use Rattle.dictionary.specs.declared.numbering.Carried.{Carried}
use Rattle.dictionary.specs.declared.string_maps.Judged.{Judged}
use Rattle.dictionary.specs.declared.string_maps.Judged.TheVariants.{Whole, PartlyIndexed, NumberClash, SliceTooSmall}
use Rattle.dictionary.proofs.Pairs.{words_length}
use Rattle.dictionary.proofs.Slotting.{ahead_is}
use Rattle.entries.specs.Tables.{first_entries}
use Rattle.entries.specs.declared.form.Form.{Form}

-- what answers the needs of `count_pairs`
pub pairs_counted : {d : Dictionary} {indexed : Bool} {ls : List Line} {out : List ℕ} {r : Option ℕ} {o : List ℕ} → NumbersLines d indexed ls out r o → CountsPairs d indexed ls r
pairs_counted w = record { is = w.is }

pub ruleset counted = (pairs_counted)

-- The refusals in their order

pub pairs_length : (d : Dictionary) (ls : List Line) → length (pairs d ls) ≡ 2 * length (first_lines [] ls)
unfolding pairs
pairs_length d ls = words_length (id_number d ls) (first_lines [] ls)

module _ (s c : ℕ) (ss cs : List Line) where
  abbrev fit : Bool
  fit = leb (length (pairs Strings ss)) s && leb (length (pairs Contigs cs)) c

  judged_mixed : mixed_idx ss || mixed_idx cs ≡ true → judged_of s c ss cs ≡ PartlyIndexed
  unfolding judged_of
  judged_mixed e = rw (judged_of, e)

  module _ (e : mixed_idx ss || mixed_idx cs ≡ false) where
    judged_clash : dictionary_clash Strings ss || dictionary_clash Contigs cs ≡ true → judged_of s c ss cs ≡ NumberClash
    unfolding judged_of
    judged_clash f = rw (judged_of, e, f)

    module _ (f : dictionary_clash Strings ss || dictionary_clash Contigs cs ≡ false) where
      judged_small : fit ≡ false → judged_of s c ss cs ≡ SliceTooSmall
      unfolding judged_of
      judged_small g = rw (judged_of, e, f, g)

      judged_whole : fit ≡ true → judged_of s c ss cs ≡ Whole (length (first_lines [] ss)) (length (first_lines [] cs))
      unfolding judged_of
      judged_whole g = rw (judged_of, e, f, g)

  -- which of them it is
  pub data Judgement : Type 0 where
    partly : mixed_idx ss || mixed_idx cs ≡ true → judged_of s c ss cs ≡ PartlyIndexed → Judgement
    clashing : mixed_idx ss || mixed_idx cs ≡ false → dictionary_clash Strings ss || dictionary_clash Contigs cs ≡ true → judged_of s c ss cs ≡ NumberClash → Judgement
    small : mixed_idx ss || mixed_idx cs ≡ false → dictionary_clash Strings ss || dictionary_clash Contigs cs ≡ false → fit ≡ false → judged_of s c ss cs ≡ SliceTooSmall → Judgement
    whole : mixed_idx ss || mixed_idx cs ≡ false → dictionary_clash Strings ss || dictionary_clash Contigs cs ≡ false → fit ≡ true
        → judged_of s c ss cs ≡ Whole (length (first_lines [] ss)) (length (first_lines [] cs)) → Judgement

  pub judgement : Judgement
  judgement = elim (test (mixed_idx ss || mixed_idx cs)) [
    | pass e ↦ partly e (judged_mixed e)
    | fail e ↦ elim (test (dictionary_clash Strings ss || dictionary_clash Contigs cs)) [
      | pass f ↦ clashing e f (judged_clash e f)
      | fail f ↦ elim (test fit) [
        | pass g ↦ whole e f g (judged_whole e f g)
        | fail g ↦ small e f g (judged_small e f g)
      ]
    ]
  ]

-- which lines carry IDX is known where not some do and some don't
uniform : (x : Carried) (ls : List Line) → x ≡ carried_by ls → x.given && x.missing ≡ false → Uniform x.given ls
uniform x ls e m = go x.given refl
  where
    go : (b : Bool) → x.given ≡ b → Uniform b ls
    go true g = sym (ap (λ (y : Carried). y.missing) e) ∙ (rw g at m)
    go false g = sym (ap (λ (y : Carried). y.given) e) ∙ g

counts : (b : Bool) (k : ℕ) {n : ℕ} → count_or_none b k ≡ Some n → (b ≡ false) × (k ≡ n)
counts true k e = never cc
counts false k e = (refl, cc)

counts_not : (b : Bool) (k : ℕ) → count_or_none b k ≡ None → b ≡ true
counts_not true k e = refl
counts_not false k e = never cc

-- what answers the needs of `judge`
module _ (x y : Carried) (form : Form) (h : Bytes) (t : List ℕ) (s c : ℕ) {p : Bool} (ep : p ≡ x.given && x.missing) where
  abbrev ss : List Line
  ss = string_lines form h t

  abbrev cs : List Line
  cs = contig_lines form h t

  pub judge_strings : p ≡ true → Judges form x y h t s c PartlyIndexed
  judge_strings e = record { is = λ ex ey. sym (judged_mixed s c ss cs (rw (sym (ap (λ (z : Carried). z.given && z.missing) ex) ∙ sym ep ∙ e))) }

  module _ (fp : p ≡ false) {q : Bool} (eq : q ≡ y.given && y.missing) where
    pub judge_contigs : q ≡ true → Judges form x y h t s c PartlyIndexed
    judge_contigs e = record { is = λ ex ey. sym (judged_mixed s c ss cs (or_on (mixed_idx ss) (sym (ap (λ (z : Carried). z.given && z.missing) ey) ∙ sym eq ∙ e))) }

    module _ (fq : q ≡ false) where
      unmixed : x ≡ carried_by ss → y ≡ carried_by cs → mixed_idx ss || mixed_idx cs ≡ false
      unmixed ex ey = rw (sym (ap (λ (z : Carried). z.given && z.missing) ex) ∙ sym ep ∙ fp, sym (ap (λ (z : Carried). z.given && z.missing) ey) ∙ sym eq ∙ fq)

      module _ {m : Option ℕ} (w : CountsPairs Strings x.given ss m) where
        strings_are : x ≡ carried_by ss → count_or_none (dictionary_clash Strings ss) (length (first_lines [] ss)) ≡ m
        unfolding numbering_of
        strings_are ex = sym (w.is (uniform x ss ex (sym ep ∙ fp)))

        pub judge_strings_clash : m ≡ None → Judges form x y h t s c NumberClash
        judge_strings_clash e = record {
          is = λ ex ey. sym (judged_clash s c ss cs (unmixed ex ey) (rw (counts_not (dictionary_clash Strings ss) (length (first_lines [] ss)) (strings_are ex ∙ e))));
        }

        module _ {n₁ : ℕ} (em : m ≡ Some n₁) {m' : Option ℕ} (w' : CountsPairs Contigs y.given cs m') where
          string_counts : x ≡ carried_by ss → (dictionary_clash Strings ss ≡ false) × (length (first_lines [] ss) ≡ n₁)
          string_counts ex = counts (dictionary_clash Strings ss) (length (first_lines [] ss)) (strings_are ex ∙ em)

          contigs_are : y ≡ carried_by cs → count_or_none (dictionary_clash Contigs cs) (length (first_lines [] cs)) ≡ m'
          unfolding numbering_of
          contigs_are ey = sym (w'.is (uniform y cs ey (sym eq ∙ fq)))

          pub judge_contigs_clash : m' ≡ None → Judges form x y h t s c NumberClash
          judge_contigs_clash e = record {
            is = λ ex ey. sym (judged_clash s c ss cs (unmixed ex ey) (or_on (dictionary_clash Strings ss) (counts_not (dictionary_clash Contigs cs) (length (first_lines [] cs)) (contigs_are ey ∙ e))));
          }

          module _ {n₂ : ℕ} (em' : m' ≡ Some n₂) where
            contig_counts : y ≡ carried_by cs → (dictionary_clash Contigs cs ≡ false) × (length (first_lines [] cs) ≡ n₂)
            contig_counts ey = counts (dictionary_clash Contigs cs) (length (first_lines [] cs)) (contigs_are ey ∙ em')

            free : x ≡ carried_by ss → y ≡ carried_by cs → dictionary_clash Strings ss || dictionary_clash Contigs cs ≡ false
            free ex ey = rw ((string_counts ex).0, (contig_counts ey).0)

            pub judge_strings_small : s / 2 < n₁ → Judges form x y h t s c SliceTooSmall
            judge_strings_small l = record {
              is = λ ex ey.
                  let f : leb (length (pairs Strings ss)) s ≡ false = lt-leb (length (pairs Strings ss)) s (omega (arith, pairs_length Strings ss, (string_counts ex).1)) in
                  sym (judged_small s c ss cs (unmixed ex ey) (free ex ey) (rw f));
            }

            module _ (ls : n₁ ≤ s / 2) where
              pub judge_contigs_small : c / 2 < n₂ → Judges form x y h t s c SliceTooSmall
              judge_contigs_small l = record {
                is = λ ex ey.
                    let f : leb (length (pairs Contigs cs)) c ≡ false = lt-leb (length (pairs Contigs cs)) c (omega (arith, pairs_length Contigs cs, (contig_counts ey).1)) in
                    sym (judged_small s c ss cs (unmixed ex ey) (free ex ey) (and_off (leb (length (pairs Strings ss)) s) f));
              }

              pub judge_whole : n₂ ≤ c / 2 → Judges form x y h t s c (Whole n₁ n₂)
              judge_whole l = record {
                is = λ ex ey.
                    let a = (string_counts ex).1 in
                    let b = (contig_counts ey).1 in
                    let f : leb (length (pairs Strings ss)) s ≡ true = le-leb (length (pairs Strings ss)) s (omega (arith, pairs_length Strings ss)) in
                    let g : leb (length (pairs Contigs cs)) c ≡ true = le-leb (length (pairs Contigs cs)) c (omega (arith, pairs_length Contigs cs)) in
                    sym (judged_whole s c ss cs (unmixed ex ey) (free ex ey) (rw (f, g)) ∙ rw (a, b));
              }

pub ruleset judges = (judge_strings, judge_contigs, judge_strings_clash, judge_contigs_clash, judge_strings_small, judge_contigs_small, judge_whole)

-- what answers the needs of `number_both`
module _ (form : Form) (h : Bytes) (t s c : List ℕ) {x : Carried} (ex : x ≡ carried_by (string_lines form h t)) {y : Carried} (ey : y ≡ carried_by (contig_lines form h t))
    {r : Judged} (j : Judges form x y h t (length s) (length c) r) where
  abbrev strings : List Line
  strings = string_lines form h t

  abbrev contigs : List Line
  contigs = contig_lines form h t

  judged_is : r ≡ judged_of (length s) (length c) strings contigs
  judged_is = j.is ex ey

  -- where both fit, nothing is mixed and nothing clashes
  record Fits : Type 0 where
    unmixed_strings : mixed_idx strings ≡ false
    unmixed_contigs : mixed_idx contigs ≡ false
    free_strings : dictionary_clash Strings strings ≡ false
    free_contigs : dictionary_clash Contigs contigs ≡ false
    strings_fit : length (pairs Strings strings) ≤ length s
    contigs_fit : length (pairs Contigs contigs) ≤ length c

  fits : {n m : ℕ} → r ≡ Whole n m → Fits
  fits e = go (judgement (length s) (length c) strings contigs)
    where
      go : Judgement (length s) (length c) strings contigs → Fits
      go (partly a i) = never (let z : PartlyIndexed ≡ Whole _ _ = sym i ∙ sym judged_is ∙ e in cc)
      go (clashing a b i) = never (let z : NumberClash ≡ Whole _ _ = sym i ∙ sym judged_is ∙ e in cc)
      go (small a b f i) = never (let z : SliceTooSmall ≡ Whole _ _ = sym i ∙ sym judged_is ∙ e in cc)
      go (whole a b f i) =
          let p = leb (length (pairs Strings strings)) (length s) in
          let q = leb (length (pairs Contigs contigs)) (length c) in
          record {
            unmixed_strings = or_l (mixed_idx strings) (mixed_idx contigs) a;
            unmixed_contigs = or_r (mixed_idx strings) (mixed_idx contigs) a;
            free_strings = or_l (dictionary_clash Strings strings) (dictionary_clash Contigs contigs) b;
            free_contigs = or_r (dictionary_clash Strings strings) (dictionary_clash Contigs contigs) b;
            strings_fit = leb-true (length (pairs Strings strings)) (length s) (and_l p q f);
            contigs_fit = leb-true (length (pairs Contigs contigs)) (length c) (and_r p q f);
          }

  pub both_whole : {n m : ℕ} → r ≡ Whole n m → {r₁ : Option ℕ} {s' : List ℕ} → NumbersLines Strings x.given strings s r₁ s' → {r₂ : Option ℕ} {c' : List ℕ}
      → NumbersLines Contigs y.given contigs c r₂ c' → NumbersBoth form h t s c r s' c'
  both_whole e w₁ w₂ =
      let f = fits e in
      record {
        is = judged_is;
        strings_are = rw e (w₁.output (uniform x strings ex (ap (λ (z : Carried). z.given && z.missing) ex ∙ f.unmixed_strings)) f.free_strings f.strings_fit);
        contigs_are = rw e (w₂.output (uniform y contigs ey (ap (λ (z : Carried). z.given && z.missing) ey ∙ f.unmixed_contigs)) f.free_contigs f.contigs_fit);
      }

pub ruleset boths = (both_whole)

-- what answers the needs of `number_both`: entries behind the last line tell nothing
pub both_used : (form : Form) (h : Bytes) (t : List ℕ) {n : ℕ} → EndsLines form t n → {used : List ℕ} → used ≡ first_entries form t n → {s c : List ℕ} {r : Judged} {s' c' : List ℕ}
    → NumbersBoth form h used s c r s' c' → NumbersBoth form h t s c r s' c'
both_used form h t {n} e {used} u w =
    let ss : string_lines form h t ≡ string_lines form h used = sym (ahead_is Strings form h t n u ∙ e.is Strings h) in
    let cs : contig_lines form h t ≡ contig_lines form h used = sym (ahead_is Contigs form h t n u ∙ e.is Contigs h) in
    record { is = rw (ss, cs) w.is; strings_are = rw ss w.strings_are; contigs_are = rw cs w.contigs_are }
