-- What a dictionary call answers is what the rules say. Assumes nothing.
use Prim.Native.Nat.{ℕ, suc, ◌/◌, ◌<◌}
use native.Mathlib.Omega.{arith}
use mathlib.Core.Path.{◌≡◌, refl, sym, ap, subst, ◌∙◌}
use mathlib.Core.List.{List, []}
use Rattle.std.specs.Prelude.{Option, Some, Result, Ok, Err}
use lib.ListN.{length}
use lib.Seq.{sets}
use Rattle.values.specs.Bytes.{Bytes}
use Rattle.rules.specs.Answer.{first}
use Rattle.rules.specs.Version.{Version}
use Rattle.rules.specs.Reading.{State, empty, ready, done, Reading}
use Rattle.rules.proofs.Trace.{header_traced}
use Rattle.records.specs.Formats.{version_of}
use Rattle.records.specs.Refusals.{number}
use Rattle.records.specs.declared.refusal.Refusal.{Refusal}
use Rattle.records.specs.declared.file_format.FileFormat.{FileFormat}
use Rattle.records.proofs.Refusals.{number_suc}
use Rattle.entries.specs.declared.form.Form.{Form}
use Rattle.entries.specs.Values.{limits_by}
use Rattle.entries.specs.Tables.{room, first_entries}
use Rattle.header.proofs.Callers.{Read, read_line_lem, read_start, read_entries, read_refused, read_accepted, read_records, read_kept, read_good}
use Rattle.header.specs.declared.parser.ReadAnswer.{ReadAnswer}
use Rattle.header.specs.Parsers.{AnswerMeaning, outcome_says as read_says, answer_means, accepted_in, reading_means, read_into, ReadCall}
use Rattle.dictionary.specs.Dictionary.{Line, first_lines, pairs, refusal, lines_of, Dictionaries, refused_by, numbering, dictionaries_of, dictionaries}
use Rattle.dictionary.specs.Lines.{entry_lines, table_lines, string_lines, contig_lines}
use Rattle.dictionary.specs.Answers.{dictionary_number, dictionary_answer_means, dictionaries_mean, DictionaryCall, judged_of, pairs_written, NumbersBoth, dictionary_refused_as, answer_of, AnswersBoth}
use Rattle.dictionary.specs.declared.line.Dictionary.{Dictionary}
use Rattle.dictionary.specs.declared.line.Dictionary.TheVariants.{Strings, Contigs}
use Rattle.dictionary.specs.declared.string_maps.Judged.{Judged}
use Rattle.dictionary.specs.declared.string_maps.Judged.TheVariants.{Whole, PartlyIndexed, NumberClash, SliceTooSmall}
use Rattle.dictionary.specs.declared.string_maps.DictionaryRefusal.{DictionaryRefusal}
use Rattle.dictionary.specs.declared.string_maps.DictionaryRefusal.TheVariants as outcome
use Rattle.dictionary.specs.declared.string_maps.DictionaryAnswer.{DictionaryAnswer}
use Rattle.dictionary.proofs.Judging.{pairs_length, Judgement, partly, clashing, small, whole, judgement}
use Rattle.dictionary.proofs.Rows.{header_lines}

-- what answers the needs of `number`
module _ (o : Result (FileFormat × ℕ) DictionaryRefusal) where
  pub number_accepted : {f : FileFormat} {k : ℕ} → o ≡ Ok (f, k) → 0 ≡ dictionary_number o
  number_accepted e = rw e

  pub number_refused : {x : Refusal} → o ≡ Err (outcome.Unread x) → {n : ℕ} → n ≡ number x → n ≡ dictionary_number o
  number_refused e q = q ∙ rw e

  pub number_partly : o ≡ Err outcome.PartlyIndexed → 34 ≡ dictionary_number o
  number_partly e = rw e

  pub number_clash : o ≡ Err outcome.NumberClash → 35 ≡ dictionary_number o
  number_clash e = rw e

  pub number_slice : o ≡ Err outcome.SliceTooSmall → 36 ≡ dictionary_number o
  number_slice e = rw e

pub ruleset outcomes = (number_accepted, number_refused, number_partly, number_clash, number_slice)

-- what answers the needs of `answer`
module _ (a : ReadAnswer) (f : FileFormat) (k : ℕ) (j : Judged) where
  pub answer_whole : {n m : ℕ} → j ≡ Whole n m
      → ◌≡◌ {A = DictionaryAnswer} (record { outcome = Ok (f, k); line = a.line; start = a.start; entries = a.entries; strings = n; contigs = m }) (answer_of a f k j)
  answer_whole e = rw e

  pub answer_partly : j ≡ PartlyIndexed → {r : DictionaryAnswer} → r ≡ dictionary_refused_as (Err outcome.PartlyIndexed) 0 0 a.entries → r ≡ answer_of a f k j
  answer_partly e q = q ∙ rw e

  pub answer_clash : j ≡ NumberClash → {r : DictionaryAnswer} → r ≡ dictionary_refused_as (Err outcome.NumberClash) 0 0 a.entries → r ≡ answer_of a f k j
  answer_clash e q = q ∙ rw e

  pub answer_small : j ≡ SliceTooSmall → {r : DictionaryAnswer} → r ≡ dictionary_refused_as (Err outcome.SliceTooSmall) 0 0 a.entries → r ≡ answer_of a f k j
  answer_small e q = q ∙ rw e

pub ruleset answers = (answer_whole, answer_partly, answer_clash, answer_small)

-- what answers the needs of `answer_accepted`
pub both_answered : (form : Form) (a : ReadAnswer) (f : FileFormat) (k : ℕ) → f.major < 4294967296 → f.minor < 4294967296 → {h : Bytes} {t s c : List ℕ} {j : Judged} {s' c' : List ℕ}
    → NumbersBoth form h t s c j s' c' → {r : DictionaryAnswer} → r ≡ answer_of a f k j → AnswersBoth form a f k h t s c r s' c'
both_answered form a f k x y w e = record { judgement = _; numbers = w; answers = e; sized = record { major = omega arith; minor = omega arith } }

-- What becomes of both, and what the rules answer

record Answers (a : ReadAnswer) (f : FileFormat) (k : ℕ) (r : Reading) (ss cs : List Line) (j : Judged) (x : Dictionaries) : Type 0 where
  tells_it : dictionary_answer_means (answer_of a f k j) ≡ dictionaries_mean r x
  strings_it : pairs_written j (pairs Strings ss) ≡ x.strings
  contigs_it : pairs_written j (pairs Contigs cs) ≡ x.contigs

module _ (a : ReadAnswer) (f : FileFormat) (k : ℕ) (r : Reading) (e : answer_means a ≡ reading_means r) (o : a.outcome ≡ Ok (f, k)) (z : r.number ≡ 0) (s c : ℕ) (ss cs : List Line) where
  counted : a.entries ≡ length r.entries
  counted = ap (λ (x : AnswerMeaning). x.entries) e

  accepted_as : Some (version_of f, k) ≡ accepted_in 0 r.state
  accepted_as = sym (ap read_says o) ∙ ap (λ (x : AnswerMeaning). x.accepted) e ∙ rw z

  half : (d : Dictionary) (ls : List Line) → length (first_lines [] ls) ≡ length (pairs d ls) / 2
  half d ls = let p = pairs_length d ls in omega arith

  answers_by : Judgement s c ss cs → Answers a f k r ss cs (judged_of s c ss cs) (numbering s c r ss cs)
  unfolding numbering refusal first
  answers_by (partly m i) = rw (i, numbering, refusal, m) (record { tells_it = rw counted; strings_it = refl; contigs_it = refl })
  answers_by (clashing m q i) = rw (i, numbering, refusal, m, q) (record { tells_it = rw counted; strings_it = refl; contigs_it = refl })
  answers_by (small m q g i) = rw (i, numbering, refusal, m, q, g) (record { tells_it = rw counted; strings_it = refl; contigs_it = refl })
  answers_by (whole m q g i) = rw (i, numbering, refusal, m, q, g) (record {
    tells_it = rw (ap (λ (x : AnswerMeaning). x.line) e, ap (λ (x : AnswerMeaning). x.start) e, counted, half Strings ss, half Contigs cs, accepted_as);
    strings_it = refl;
    contigs_it = refl;
  })

dictionaries_refused : (s c : ℕ) (r : Reading) {n : ℕ} → r.number ≡ suc n → dictionaries_of s c r r.state ≡ refused_by r.number r.line r.start
dictionaries_refused s c r e = go r.state
  where
    go : (x : State) → dictionaries_of s c r x ≡ refused_by r.number r.line r.start
    go empty = refl
    go (ready v rs) = refl
    go (done v rs y) = rw e

-- what answers the needs of `dictionaries`
module _ (form : Form) (imposed : Option Version) (h : Bytes) (t₀ : List ℕ) (a : ReadAnswer) {t : List ℕ} (call : ReadCall form imposed h t₀ a t) where
  abbrev read : Reading
  read = read_into form imposed t₀ h

  abbrev given : ℕ → ℕ → Dictionaries
  given s c = dictionaries (limits_by form) imposed (room form t₀) s c h

  module _ {x : Refusal} (o : a.outcome ≡ Err x) where
    refused_is : (s c : ℕ) → given s c ≡ refused_by read.number read.line read.start
    unfolding dictionaries
    refused_is s c = let n = number_suc x in dictionaries_refused s c read (read_refused call o ∙ n.1)

    refused_told : (s c : ℕ) {r : DictionaryAnswer} → r ≡ dictionary_refused_as (Err (outcome.Unread x)) a.line a.start a.entries → dictionary_answer_means r ≡ dictionaries_mean read (given s c)
    refused_told s c q =
        let n = number_suc x in
        ap dictionary_answer_means q ∙ rw (refused_is s c, read_refused call o, read_line_lem call, read_start call, read_entries call) (rw n.1)

    pub refused_call : (s c : List ℕ) {r : DictionaryAnswer} → r ≡ dictionary_refused_as (Err (outcome.Unread x)) a.line a.start a.entries → DictionaryCall form imposed h t₀ s c r t s c
    refused_call s c q = record {
      answer = refused_told (length s) (length c) q;
      table = call.table;
      strings = rw (refused_is (length s) (length c));
      contigs = rw (refused_is (length s) (length c));
    }

  module _ {f : FileFormat} {k : ℕ} (o : a.outcome ≡ Ok (f, k)) {kept : List ℕ} (ek : kept ≡ first_entries form t a.entries)
      {s c : List ℕ} {r : DictionaryAnswer} {s' c' : List ℕ} (w : AnswersBoth form a f k h kept s c r s' c') where
    abbrev was_read : Read read (version_of f) k
    was_read = read_records call o

    the_lines : (d : Dictionary) → table_lines d form h kept ≡ lines_of d (version_of f) 1 was_read.records
    the_lines d =
        let x = header_traced (limits_by form) imposed (room form t₀) h was_read.accepted in
        ap (entry_lines d h 0) (read_kept call o ek) ∙ header_lines (limits_by form) h (version_of f) d read.entries x (read_good call o w.sized)

    abbrev ss : List Line
    ss = string_lines form h kept

    abbrev cs : List Line
    cs = contig_lines form h kept

    given_is : given (length s) (length c) ≡ numbering (length s) (length c) read ss cs
    unfolding dictionaries
    given_is = rw (was_read.accepted.state, read_accepted call o, ← the_lines Strings, ← the_lines Contigs)

    answers_it : Answers a f k read ss cs w.judgement (given (length s) (length c))
    answers_it =
        subst (λ (j : Judged). Answers a f k read ss cs j (given (length s) (length c))) (sym w.numbers.is)
        (subst (Answers a f k read ss cs (judged_of (length s) (length c) ss cs)) (sym given_is) (answers_by a f k read call.answer o (read_accepted call o) (length s) (length c) ss cs (judgement (length s) (length c) ss cs)))

    pub accepted_call : DictionaryCall form imposed h t₀ s c r t s' c'
    accepted_call = record {
      answer = ap dictionary_answer_means w.answers ∙ answers_it.tells_it;
      table = call.table;
      strings = w.numbers.strings_are ∙ ap (sets s 0) answers_it.strings_it;
      contigs = w.numbers.contigs_are ∙ ap (sets c 0) answers_it.contigs_it;
    }

pub ruleset calls = (refused_call, accepted_call)
