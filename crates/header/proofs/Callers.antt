-- What a caller of `read` goes by: why a header was refused; of an accepted one its records, and that the table's first entries are the
-- reading's. Assumes nothing.
use Prim.Native.Nat.{ℕ, ◌≤◌}
use mathlib.Core.Path.{◌≡◌, refl, sym, ap, subst, ◌∙◌}
use mathlib.Core.List.{List}
use Rattle.std.specs.Prelude.{Option, None, Some, Ok, Err}
use lib.ListN.{length}
use Rattle.values.specs.Bytes.{Bytes}
use Rattle.values.proofs.Lists.{some_is, none_not}
use Rattle.rules.specs.Version.{Version, in_force}
use Rattle.rules.specs.Record.{Record}
use Rattle.rules.specs.Columns.{Columns}
use Rattle.rules.specs.Reading.{State, empty, ready, done, Reading}
use Rattle.rules.specs.Claims.{All, Sized, SizedOption, Accepted}
use Rattle.rules.proofs.House.{accepted_good}
use Rattle.rules.proofs.Records.{Entered}
use Rattle.rules.proofs.Trace.{header_traced}
use Rattle.rules.proofs.Stands.{reading_stands, reading_fits, accepted_short}
use Rattle.records.specs.Formats.{version_of}
use Rattle.records.specs.Refusals.{number}
use Rattle.records.specs.declared.file_format.FileFormat.{FileFormat}
use Rattle.records.specs.declared.refusal.Refusal.{Refusal}
use Rattle.entries.specs.declared.form.Form.{Form}
use Rattle.entries.specs.Values.{limits_by}
use Rattle.entries.specs.Tables.{room, first_entries, entries_in}
use Rattle.entries.proofs.Stored.{entries_stored}
use Rattle.header.specs.Parsers.{AnswerMeaning, outcome_number, outcome_says, accepted_in, read_into, ReadCall}
use Rattle.header.specs.declared.parser.ReadAnswer.{ReadAnswer}

-- an accepted reading: the version in force is that of the answer
pub record Read (r : Reading) (v : Version) (n : ℕ) : Type 0 where
  pub records : List Record
  pub columns : Columns
  pub accepted : Accepted v records columns r
  pub samples : length columns.samples ≡ n

was_accepted : (r : Reading) (v : Version) (n : ℕ) → r.number ≡ 0 → accepted_in r.number r.state ≡ Some (v, n) → Read r v n
was_accepted r v n z e = go r.state refl (rw z at e)
  where
    go : (s : State) → r.state ≡ s → accepted_in 0 s ≡ Some (v, n) → Read r v n
    go empty q a = none_not a
    go (ready w rs) q a = none_not a
    go (done w rs c) q a =
        let p = some_is a in
        record { records = rs; columns = c; accepted = record { number = z; state = q ∙ ap (λ (u : Version). done u rs c) (ap (λ (x : Version × ℕ). x.0) p) }; samples = ap (λ (x : Version × ℕ). x.1) p }

-- the version in force is of 32-bit parts, so the imposed one is
sized_imposed : (imposed : Option Version) (own : Version) {v : Version} → v ≡ in_force imposed own → Sized v → SizedOption imposed
sized_imposed None own e s = tt
sized_imposed (Some w) own e s = rw e at s

module _ {form : Form} {imposed : Option Version} {h : Bytes} {t₀ : List ℕ} {a : ReadAnswer} {t : List ℕ} (call : ReadCall form imposed h t₀ a t) where
  abbrev read : Reading
  read = read_into form imposed t₀ h

  pub read_line_lem : a.line ≡ read.line
  read_line_lem = ap (λ (x : AnswerMeaning). x.line) call.answer

  pub read_start : a.start ≡ read.start
  read_start = ap (λ (x : AnswerMeaning). x.start) call.answer

  pub read_entries : a.entries ≡ length read.entries
  read_entries = ap (λ (x : AnswerMeaning). x.entries) call.answer

  pub read_refused : {x : Refusal} → a.outcome ≡ Err x → read.number ≡ number x
  read_refused o = sym (ap (λ (y : AnswerMeaning). y.number) call.answer) ∙ ap outcome_number o

  module _ {f : FileFormat} {n : ℕ} (o : a.outcome ≡ Ok (f, n)) where
    pub read_accepted : read.number ≡ 0
    read_accepted = sym (ap (λ (y : AnswerMeaning). y.number) call.answer) ∙ ap outcome_number o

    pub read_records : Read read (version_of f) n
    read_records = was_accepted read (version_of f) n read_accepted (sym (ap (λ (y : AnswerMeaning). y.accepted) call.answer) ∙ ap outcome_says o)

    pub read_kept : {kept : List ℕ} → kept ≡ first_entries form t a.entries → entries_in form kept ≡ read.entries
    read_kept e =
        let l = limits_by form in
        let c : length read.entries ≡ a.entries = sym read_entries in
        ap (entries_in form) (e ∙ ap (λ (x : List ℕ). first_entries form x a.entries) call.table)
        ∙ entries_stored form (accepted_short l imposed (room form t₀) h read_accepted) t₀ read.entries c (subst (λ (k : ℕ). k ≤ room form t₀) c (reading_fits l imposed (room form t₀) h)) (reading_stands l h imposed (room form t₀))

    -- what holds of each record
    pub read_good : Sized (version_of f) → All (Entered (version_of f)) read_records.records
    read_good s =
        let l = limits_by form in
        let r = read_records.accepted in
        let d = header_traced l imposed (room form t₀) h r in
        (accepted_good l imposed (room form t₀) h (sized_imposed imposed d.own d.force s) r).0.0.good
