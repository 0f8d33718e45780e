-- What a house-form call answers is what the rules say. Assumes nothing.
use Prim.Native.Nat.{ℕ, suc, ◌*◌, ◌^◌, ◌≤◌, ◌<◌}
use native.Mathlib.Omega.{arith}
use mathlib.Core.Path.{◌≡◌, refl, ap, ◌∙◌}
use mathlib.Core.Bool.{false}
use mathlib.Core.List.{List, ◌++◌}
use Rattle.std.specs.Prelude.{Option, None, Some, Result, Ok, Err}
use lib.Dec.{leb}
use lib.ListN.{length, take, drop, take-append-drop}
use lib.Seq.{sets}
use Rattle.values.specs.Bytes.{Bytes}
use Rattle.values.proofs.Tests.{pass, fail, test}
use Rattle.rules.specs.Sizes.{Limits}
use Rattle.rules.specs.Lines.{write_lines}
use Rattle.rules.specs.Version.{Version}
use Rattle.rules.specs.Entry.{Entry}
use Rattle.rules.specs.Reading.{State, empty, ready, done, Reading}
use Rattle.rules.specs.Meaning.{Meaning, header_meaning}
use Rattle.rules.specs.House.{house_lines, house_form, HouseReading, too_long, refused_form, fitted, lined, form_answer, house_of, house}
use Rattle.rules.proofs.Trace.{header_traced}
use Rattle.rules.proofs.Stands.{reading_fits}
use Rattle.records.specs.Formats.{version_of}
use Rattle.records.specs.declared.refusal.Refusal.{Refusal}
use Rattle.records.specs.declared.refusal.Refusal.TheVariants as refusal
use Rattle.records.proofs.Refusals.{number_suc}
use Rattle.records.specs.declared.file_format.FileFormat.{FileFormat}
use Rattle.header.specs.declared.parser.ReadAnswer.{ReadAnswer}
use Rattle.header.specs.Parsers.{AnswerMeaning, answer_means, reading_means, read_into, ReadCall}
use Rattle.entries.specs.declared.form.Form.{Form}
use Rattle.entries.specs.Values.{limits_by}
use Rattle.entries.specs.Words.{word_count}
use Rattle.entries.specs.Tables.{room, first_entries, entries_in}
use Rattle.entries.specs.Notes.{bare}
use Rattle.entries.proofs.Tables.{entries_fit, kept_some}
use Rattle.entries.proofs.Stored.{stored_length}
use Rattle.entries.proofs.Noted.{kept_bare}
use Rattle.header.proofs.Callers.{Read, read_line_lem, read_start, read_entries, read_refused, read_accepted, read_records, read_kept, read_good}
use Rattle.house.specs.declared.form.FormRefusal.{FormRefusal}
use Rattle.house.specs.declared.form.FormRefusal.TheVariants.{TooLong, LineTooLong, NoRoom}
use Rattle.house.specs.declared.form.HouseAnswer.{HouseAnswer}
use Rattle.house.specs.Keys.{AllListed}
use Rattle.house.specs.Forms.{form_lines, fitted_as, lined_as, outcome_of, written_of, WritesForm}
use Rattle.house.specs.Answers.{FormMeaning, form_answer_means, house_means, refused_answer, form_answered, AnswersForm, HouseCall}
use Rattle.house.proofs.Arranged.{FormIs, form_is}
use Rattle.rules.specs.Claims.{Sized}

-- what answers the needs of `answer`
module _ (a : ReadAnswer) (form : Result ℕ FormRefusal) where
  pub answer_whole : {n : ℕ} → form ≡ Ok n → ◌≡◌ {A = HouseAnswer} (record { outcome = a.outcome; line = a.line; start = a.start; entries = a.entries; length = n }) (form_answered a form)
  answer_whole e = rw e

  pub answer_long : form ≡ Err TooLong → {r : HouseAnswer} → r ≡ refused_answer refusal.HeaderTooLong 0 0 a.entries → r ≡ form_answered a form
  answer_long e q = q ∙ rw e

  pub answer_line_lem : {l s : ℕ} → form ≡ Err (LineTooLong l s) → {r : HouseAnswer} → r ≡ refused_answer refusal.LineTooLong l s a.entries → r ≡ form_answered a form
  answer_line_lem e q = q ∙ rw e

  pub answer_room : form ≡ Err NoRoom → {r : HouseAnswer} → r ≡ refused_answer refusal.FormTooLong 0 0 a.entries → r ≡ form_answered a form
  answer_room e q = q ∙ rw e

pub ruleset answers = (answer_whole, answer_long, answer_line_lem, answer_room)

-- what answers the needs of `answer_accepted`
pub form_answered_lem : (a : ReadAnswer) (f : FileFormat) → f.major < 4294967296 → f.minor < 4294967296 → {lim : Limits} {h : Bytes} {es : List Entry} {out : Bytes} {written : Result ℕ FormRefusal} {new : Bytes}
    → WritesForm lim (version_of f) h es out written new → {r : HouseAnswer} → r ≡ form_answered a written → AnswersForm lim a f h es out r new
form_answered_lem a f i j w e = record { written = _; writes = w; answers = e; sized = record { major = omega arith; minor = omega arith } }

-- What becomes of the form, and what the rules answer of it

abbrev sizing : ℕ → AnswerMeaning → FormMeaning
sizing n x = record { number = x.number; line = x.line; start = x.start; entries = x.entries; size = n; accepted = x.accepted }

pub record Answers (a : ReadAnswer) (r : Reading) (ls : List Bytes) (form : Result ℕ FormRefusal) (f : HouseReading) : Type 0 where
  pub tells_it : form_answer_means (form_answered a form) ≡ house_means r f
  pub writes_it : written_of form ls ≡ f.form

module _ (lim : Limits) (a : ReadAnswer) (r : Reading) (e : answer_means a ≡ reading_means r) (z : r.number ≡ 0) (room : ℕ) (m : Meaning) where
  abbrev ls : List Bytes
  ls = house_lines m

  abbrev size : ℕ
  size = length (write_lines ls)

  counted : a.entries ≡ length r.entries
  counted = ap (λ (x : AnswerMeaning). x.entries) e

  answers_fit : Answers a r ls (fitted_as room size) (fitted room r (write_lines ls))
  answers_fit = elim (test (leb size room)) [
    | pass q ↦ rw (fitted_as, fitted, q) (record { tells_it = ap (sizing size) e ∙ rw z; writes_it = refl })
    | fail q ↦ rw (fitted_as, fitted, q) (record { tells_it = rw counted; writes_it = refl })
  ]

  answers_lined : (x : Option (ℕ × ℕ)) → Answers a r ls (lined_as room size x) (lined room r (write_lines ls) x)
  answers_lined None = answers_fit
  answers_lined (Some p) = record { tells_it = rw counted; writes_it = refl }

  answers_form : Answers a r ls (outcome_of lim room ls) (form_answer lim room r m)
  unfolding outcome_of form_answer house_form
  answers_form = elim (test (leb size lim.header)) [
    | pass q ↦ rw (outcome_of, form_answer, q) (answers_lined (too_long lim.line 0 0 ls))
    | fail q ↦ rw (outcome_of, form_answer, q) (record { tells_it = rw counted; writes_it = refl })
  ]

house_refused : (lim : Limits) (room : ℕ) (r : Reading) {n : ℕ} → r.number ≡ suc n → house_of lim room r r.state ≡ refused_form r.number r.line r.start
house_refused lim room r e = go r.state
  where
    go : (s : State) → house_of lim room r s ≡ refused_form r.number r.line r.start
    go empty = refl
    go (ready v rs) = refl
    go (done v rs c) = rw e

-- What `house_form` and `is_house` lend of the table after a reading: the words of its entries

module _ {form : Form} {imposed : Option Version} {h : Bytes} {t₀ : List ℕ} {a : ReadAnswer} {t : List ℕ} (call : ReadCall form imposed h t₀ a t) {c : ℕ} (w : c ≡ word_count form) where
  fits : a.entries ≤ room form t₀
  fits = rw (read_entries call) (reading_fits (limits_by form) imposed (room form t₀) h)

  inside : c * a.entries ≤ length t₀
  inside = rw w (entries_fit form t₀ a.entries fits)

  pub lent_inside : c * a.entries ≤ length t
  lent_inside = rw (call.table, stored_length form t₀ 0 (read_into form imposed t₀ h).entries) inside

  pub lent_fits : length t₀ * 8 < 2 ^ 63 → c * a.entries < 2 ^ 64
  lent_fits z = omega (arith, inside)

  pub lent_first : take (c * a.entries) t ≡ first_entries form t a.entries
  lent_first = kept_some form t a.entries refl w

  -- no notes stand there
  pub lent_bare : bare (take (c * a.entries) t) ≡ take (c * a.entries) t
  lent_bare =
      let es = (read_into form imposed t₀ h).entries in
      kept_bare form t₀ es a.entries (omega (arith, read_entries call)) fits (lent_first ∙ ap (λ (u : List ℕ). first_entries form u a.entries) call.table)

-- they come back as they were
pub lent_back : (t : List ℕ) (n : ℕ) {kept : List ℕ} → kept ≡ take n t → kept ++ drop n t ≡ t
lent_back t n e = rw e (take-append-drop n t)

pub ruleset lent = (lent_inside, lent_fits, lent_first, lent_bare, lent_back)

-- what answers the needs of `house_form`
module _ (form : Form) (imposed : Option Version) (h : Bytes) (t₀ : List ℕ) (a : ReadAnswer) {t : List ℕ} (call : ReadCall form imposed h t₀ a t) where
  abbrev read : Reading
  read = read_into form imposed t₀ h

  abbrev form_in : ℕ → HouseReading
  form_in size = house (limits_by form) imposed (room form t₀) size h

  module _ {x : Refusal} (o : a.outcome ≡ Err x) where
    pub refused_house : (size : ℕ) → form_in size ≡ refused_form read.number read.line read.start
    unfolding house
    refused_house size = let n = number_suc x in house_refused (limits_by form) size read (read_refused call o ∙ n.1)

    pub refused_told : (size : ℕ) {r : HouseAnswer} → r ≡ refused_answer x a.line a.start a.entries → form_answer_means r ≡ house_means read (form_in size)
    refused_told size q =
        let n = number_suc x in
        ap form_answer_means q ∙ rw (refused_house size, read_refused call o, read_line_lem call, read_start call, read_entries call) (rw n.1)

    pub house_refused_call : (out : Bytes) {r : HouseAnswer} → r ≡ refused_answer x a.line a.start a.entries → HouseCall form imposed h t₀ out r t out
    house_refused_call out q = record { answer = refused_told (length out) q; table = call.table; output = rw (refused_house (length out)) }

  -- an accepted reading: o is what came of its form, where the output has `space` bytes
  module _ {f : FileFormat} {n : ℕ} (o : a.outcome ≡ Ok (f, n)) (sized : Sized (version_of f)) where
    abbrev was_read : Read read (version_of f) n
    was_read = read_records call o

    abbrev means : Meaning
    means = header_meaning (version_of f) was_read.records was_read.columns

    is_form : FormIs (version_of f) h was_read.records was_read.columns read.entries
    is_form =
        let t = header_traced (limits_by form) imposed (room form t₀) h was_read.accepted in
        form_is (limits_by form) imposed h (version_of f) was_read.records was_read.columns read.entries t (read_good call o sized)

    module _ {kept : List ℕ} (ek : kept ≡ first_entries form t a.entries) where
      pub is_readable : AllListed false (version_of f) h (entries_in form kept)
      is_readable = rw (read_kept call o ek) is_form.readable

      the_lines : form_lines (version_of f) h (entries_in form kept) ≡ house_lines means
      the_lines = ap (form_lines (version_of f) h) (read_kept call o ek) ∙ is_form.lines

      pub answers_it : (space : ℕ) (written : Result ℕ FormRefusal) → written ≡ outcome_of (limits_by form) space (form_lines (version_of f) h (entries_in form kept))
          → Answers a read (form_lines (version_of f) h (entries_in form kept)) written (form_in space)
      unfolding house
      answers_it space written e =
          let house-is : form_in space ≡ form_answer (limits_by form) space read means = rw (house, was_read.accepted.state, read_accepted call o) in
          rw (e, the_lines, house-is) (answers_form (limits_by form) a read call.answer (read_accepted call o) space means)

  module _ {f : FileFormat} {n : ℕ} (o : a.outcome ≡ Ok (f, n)) {kept : List ℕ} (ek : kept ≡ first_entries form t a.entries)
      {t' : List ℕ} (et : t' ≡ t) {out : Bytes} {r : HouseAnswer} {new : Bytes} (w : AnswersForm (limits_by form) a f h (entries_in form kept) out r new) where
    pub house_accepted_call : HouseCall form imposed h t₀ out r t' new
    house_accepted_call =
        let d = is_readable o w.sized ek in
        let x = answers_it o w.sized ek (length out) w.written (w.writes.is d) in
        record { answer = ap form_answer_means w.answers ∙ x.tells_it; table = et ∙ call.table; output = w.writes.output d ∙ ap (sets out 0) x.writes_it }

pub ruleset houses = (house_refused_call, house_accepted_call)
