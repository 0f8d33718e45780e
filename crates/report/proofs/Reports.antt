-- The lines of a report, written part by part; what an answer says is the report of the reading. Assumes nothing.
use Prim.Native.Nat.{ℕ, zero, suc, ◌/◌, ◌≤◌, ◌<◌}
use mathlib.Core.Path.{◌≡◌, refl, sym, ap, ◌∙◌, subst}
use mathlib.Core.List.{List, [], ◌∷◌, ◌++◌, append_assoc}
use Rattle.std.specs.Prelude.{None, Result, Ok, Err}
use native.Mathlib.Omega.{arith}
use native.Mathlib.Decide.{dec_le}
use lib.ListN.{length, take}
use lib.Seq.{length-take-le, take_all}
use borrow.Author.Tests.{le-leb, lt-leb}
use Rattle.values.specs.Bytes.{Bytes, LF, ascii}
use Rattle.values.specs.Integer.{decimal}
use Rattle.values.specs.Written.{Wrote}
use Rattle.values.proofs.Outputs.{then}
use Rattle.rules.specs.Sizes.{limits}
use Rattle.rules.specs.Version.{Version}
use Rattle.rules.specs.Entry.{Entry}
use Rattle.rules.specs.Reading.{State, empty, ready, done, Reading, reading}
use Rattle.rules.specs.Report.{accepted_line, refused_line, reported, report}
use Rattle.records.specs.Formats.{version_of}
use Rattle.records.specs.Refusals.{number}
use Rattle.records.specs.declared.refusal.Refusal.{Refusal}
use Rattle.records.specs.declared.file_format.FileFormat.{FileFormat}
use Rattle.entries.specs.declared.form.Form.TheVariants.{First}
use Rattle.entries.specs.Tables.{room}
use Rattle.header.specs.Parsers.{answer_means, reading_means, outcome_number, outcome_says, ReadCall}
use Rattle.header.specs.declared.parser.ReadAnswer.{ReadAnswer}
use Rattle.report.specs.Printed.{buffer, table_words, printed, answer_line, version_text, counts_text}

-- a label and a number, and a text after them
labelled : (x n : Bytes) {out : Bytes} {at a : ℕ} {o : Bytes} {y : Bytes} {r : ℕ} {o' : Bytes}
    → Wrote out at (x ++ n) a o → Wrote o a y r o' → Wrote out at (x ++ (n ++ y)) r o'
labelled x n {out} {at} {y = y} {r} {o'} w w' = subst (λ (t : Bytes). Wrote out at t r o') (append_assoc x n y) (then w w')

-- what answers the needs of `put_number` and `put_version`
pub number_put : {label : Bytes} (n : ℕ) {out : Bytes} {at a : ℕ} {o : Bytes} → Wrote out at label a o
    → {r : ℕ} {o' : Bytes} → Wrote o a (decimal n) r o' → Wrote out at (label ++ decimal n) r o'
number_put n w w' = then w w'

pub version_put : (v : Version) {out : Bytes} {at a : ℕ} {o : Bytes} → Wrote out at (decimal v.major) a o
    → {r : ℕ} {o' : Bytes} → Wrote o a (ascii "." ++ decimal v.minor) r o' → Wrote out at (version_text v) r o'
version_put v w w' = then w w'

-- of `put_counts` and `put_accepted`
pub counts_put : (entries samples : ℕ) {out : Bytes} {at a : ℕ} {o₁ : Bytes} → Wrote out at (ascii " entries=" ++ decimal entries) a o₁
    → {b : ℕ} {o₂ : Bytes} → Wrote o₁ a (ascii " samples=" ++ decimal samples) b o₂ → {r : ℕ} {o₃ : Bytes} → Wrote o₂ b (LF ∷ []) r o₃
    → Wrote out at (counts_text entries samples) r o₃
counts_put entries samples w₁ w₂ w₃ = labelled (ascii " entries=") (decimal entries) w₁ (labelled (ascii " samples=") (decimal samples) w₂ w₃)

pub accepted_put : (v : Version) (entries samples : ℕ) {out : Bytes} {at a : ℕ} {o₁ : Bytes} → Wrote out at (ascii "ok version=") a o₁
    → {b : ℕ} {o₂ : Bytes} → Wrote o₁ a (version_text v) b o₂ → {r : ℕ} {o₃ : Bytes} → Wrote o₂ b (counts_text entries samples) r o₃
    → Wrote out at (accepted_line v entries samples) r o₃
accepted_put v entries samples w₁ w₂ w₃ = then w₁ (labelled (decimal v.major) (46 ∷ decimal v.minor) w₂ w₃)

-- of `put_refused`
pub refused_put : (number line start : ℕ) {out : Bytes} {at a : ℕ} {o₁ : Bytes} → Wrote out at (ascii "refused " ++ decimal number) a o₁
    → {b : ℕ} {o₂ : Bytes} → Wrote o₁ a (ascii " line=" ++ decimal line) b o₂ → {c : ℕ} {o₃ : Bytes} → Wrote o₂ b (ascii " offset=" ++ decimal start) c o₃
    → {r : ℕ} {o₄ : Bytes} → Wrote o₃ c (LF ∷ []) r o₄ → Wrote out at (refused_line number line start) r o₄
refused_put number line start w₁ w₂ w₃ w₄ =
    labelled (ascii "refused ") (decimal number) w₁ (labelled (ascii " line=") (decimal line) w₂ (labelled (ascii " offset=") (decimal start) w₃ w₄))

-- of `put_answer`
abbrev line_by : ReadAnswer → Result (FileFormat × ℕ) Refusal → Bytes
line_by a x = answer_line (record { number = outcome_number x; line = a.line; start = a.start; entries = a.entries; accepted = outcome_says x })

module _ (a : ReadAnswer) {out : Bytes} {at r : ℕ} {o : Bytes} where
  pub accepted_line_lem : {f : FileFormat} {n : ℕ} → a.outcome ≡ Ok (f, n) → Wrote out at (accepted_line (version_of f) a.entries n) r o
      → Wrote out at (answer_line (answer_means a)) r o
  accepted_line_lem e w = subst (λ (x : Result (FileFormat × ℕ) Refusal). Wrote out at (line_by a x) r o) (sym e) w

  pub refused_line_lem : {x : Refusal} → a.outcome ≡ Err x → {n : ℕ} → n ≡ number x → Wrote out at (refused_line n a.line a.start) r o
      → Wrote out at (answer_line (answer_means a)) r o
  refused_line_lem {x} e i w =
      subst (λ (y : Result (FileFormat × ℕ) Refusal). Wrote out at (line_by a y) r o) (sym e) (subst (λ (m : ℕ). Wrote out at (refused_line m a.line a.start) r o) i w)

-- what a reading tells is its report
abbrev reading_of : ℕ → ℕ → ℕ → List Entry → State → Reading
reading_of n line start es s = record { number = n; line = line; start = start; entries = es; state = s }

told_reported : (n line start : ℕ) (es : List Entry) (s : State) → answer_line (reading_means (reading_of n line start es s)) ≡ reported (reading_of n line start es s) s
told_reported zero line start es empty = refl
told_reported zero line start es (ready v rs) = refl
told_reported zero line start es (done v rs c) = refl
told_reported (suc n) line start es empty = refl
told_reported (suc n) line start es (ready v rs) = refl
told_reported (suc n) line start es (done v rs c) = refl

told_report : (r : Reading) → answer_line (reading_means r) ≡ report r
unfolding report
told_report r = told_reported r.number r.line r.start r.entries r.state

-- a longer input is 27, so that nothing past the first byte too many is looked at
too_long : (h : Bytes) → buffer < length h → printed h ≡ refused_line 27 0 0
unfolding printed
too_long h l = rw (printed, lt-leb (length h) buffer l)

pub printed_seen : (h : Bytes) → printed (take (suc buffer) h) ≡ printed h
printed_seen h = go (dec_le (length h) (suc buffer))
  where
    go : Dec (length h ≤ suc buffer) → printed (take (suc buffer) h) ≡ printed h
    go (yes l) = ap printed (take_all (suc buffer) h l)
    go (no n) =
        let m : suc buffer ≤ length h = omega arith in
        let e : length (take (suc buffer) h) ≡ suc buffer = length-take-le (suc buffer) h m in
        too_long (take (suc buffer) h) (omega (arith, e)) ∙ sym (too_long h (omega (arith, m)))

-- of `print`
module _ (h : Bytes) {out : Bytes} {r : ℕ} {o : Bytes} where
  pub printed_long : buffer < length h → Wrote out 0 (refused_line 27 0 0) r o → Wrote out 0 (printed h) r o
  printed_long l w = subst (λ (t : Bytes). Wrote out 0 t r o) (sym (too_long h l)) w

  pub printed_read : (t : List ℕ) {t' : List ℕ} (a : ReadAnswer) → length h ≤ buffer → table_words ≡ length t → ReadCall First None h t a t'
      → Wrote out 0 (answer_line (answer_means a)) r o → Wrote out 0 (printed h) r o
  unfolding printed room
  printed_read t a l s c w =
      let e : printed h ≡ report (reading limits None (table_words / 2) h) = rw (printed, le-leb (length h) buffer l) in
      let f : reading limits None (room First t) h ≡ reading limits None (table_words / 2) h = ap (λ (n : ℕ). reading limits None (n / 2) h) (sym s) in
      subst (λ (x : Bytes). Wrote out 0 x r o) (ap answer_line c.answer ∙ told_report (reading limits None (room First t) h) ∙ ap report f ∙ sym e) w

pub ruleset reports = (number_put, version_put, counts_put, accepted_put, refused_put, accepted_line_lem, refused_line_lem, printed_long, printed_read)
