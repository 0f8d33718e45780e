-- Lines that may change places, for the calls: what they promise makes their answers the same. Assumes nothing.
use Prim.Native.Nat.{ℕ, zero, suc, ◌≤◌}
use native.Mathlib.Omega.{arith}
use mathlib.Core.Path.{◌≡◌, refl, sym, ap, ◌∙◌}
use mathlib.Core.List.{List}
use Rattle.std.specs.Prelude.{Option, Some, Ok}
use lib.ListN.{length}
use lib.Seq.{sets}
use Rattle.values.specs.Bytes.{Bytes}
use Rattle.rules.specs.Version.{Version}
use Rattle.rules.specs.Record.{Record}
use Rattle.rules.specs.Columns.{Columns}
use Rattle.rules.specs.Reading.{done, Reading, reading}
use Rattle.rules.specs.Meaning.{header_meaning}
use Rattle.rules.specs.House.{HouseReading, house_of, house}
use Rattle.rules.specs.Claims.{Accepted, Moved}
use Rattle.rules.proofs.Rooms.{roomier}
use Rattle.rules.proofs.Exchange.{lines_moved, house_moved}
use Rattle.records.specs.declared.file_format.FileFormat.{FileFormat}
use Rattle.header.specs.declared.parser.ReadAnswer.{ReadAnswer}
use Rattle.header.specs.Parsers.{AnswerMeaning, outcome_number, accepted_in, reading_means, read_into, ReadCall}
use Rattle.header.proofs.Answers.{answer_injective}
use Rattle.entries.specs.declared.form.Form.{Form}
use Rattle.entries.specs.Values.{limits_by}
use Rattle.entries.specs.Tables.{room}
use Rattle.house.specs.declared.form.HouseAnswer.{HouseAnswer}
use Rattle.house.specs.Answers.{house_means, HouseCall, IsAccepted, form_written, meant, means}
use Rattle.header.proofs.Callers.{read_records}
use Rattle.house.proofs.Determined.{form_injective}
use Rattle.house.proofs.Program.{wrote, means_is, form_written_lem}

-- the records of an accepted reading are not told
told_accepted : (v : Version) (rs ys : List Record) (c : Columns) (n : ℕ) → accepted_in n (done v ys c) ≡ accepted_in n (done v rs c)
told_accepted v rs ys c zero = refl
told_accepted v rs ys c (suc n) = refl

houses_same : {v : Version} {rs ys : List Record} {c : Columns} (r s : Reading) (f : HouseReading) → r.state ≡ done v rs c → s.state ≡ done v ys c → length s.entries ≡ length r.entries
    → house_means s f ≡ house_means r f
houses_same {v} {rs} {ys} {c} r s f e g n = rw (e, g, n, told_accepted v rs ys c f.number)

-- a header, and the same after exchanges of lines; a table of at least the first one's room
module _ (form : Form) (imposed : Option Version) {h h' : Bytes} (x : Moved h h') (t u : List ℕ) (roomy : room form t ≤ room form u) where
  still_read : {v : Version} {rs : List Record} {c : Columns} → Accepted v rs c (read_into form imposed t h) → read_into form imposed u h' ≡ reading (limits_by form) imposed (room form t) h'
  still_read a = roomier (limits_by form) imposed (room form t) (room form u) h' roomy (lines_moved (limits_by form) imposed (room form t) x a).accepted.number

  means_same : {v : Version} {rs : List Record} {c : Columns} → Accepted v rs c (read_into form imposed t h) → reading_means (read_into form imposed u h') ≡ reading_means (read_into form imposed t h)
  means_same a =
      let d = lines_moved (limits_by form) imposed (room form t) x a in
      ap reading_means (still_read a) ∙ rw (d.accepted.number, d.accepted.state, a.number, a.state, d.line, d.start, d.count)

  -- if a reading is accepted, the other gets the same answer
  pub read_call_moved : {r s : ReadAnswer} {t₁ u₁ : List ℕ} {f : FileFormat} {n : ℕ} → ReadCall form imposed h t r t₁ → ReadCall form imposed h' u s u₁ → r.outcome ≡ Ok (f, n) → s ≡ r
  read_call_moved {r} {s} {f = f} {n} p q o =
      let z = sym (ap (λ (y : AnswerMeaning). y.number) p.answer) ∙ ap outcome_number o in
      let a = read_records p o in
      answer_injective s r (q.answer ∙ means_same a.accepted ∙ sym p.answer)

  -- of a header that is accepted, house-form calls with one output get one answer and leave one output, be it the form or its refusal
  pub house_call_moved : {out : Bytes} {r s : HouseAnswer} {t₁ u₁ : List ℕ} {out₁ out₂ : Bytes} → HouseCall form imposed h t out r t₁ out₁ → HouseCall form imposed h' u out s u₁ out₂
      → {v : Version} {rs : List Record} {c : Columns} → Accepted v rs c (read_into form imposed t h) → (s ≡ r) × (out₂ ≡ out₁)
  unfolding house
  house_call_moved {out} {r} {s} p q a =
      let k : house (limits_by form) imposed (room form u) (length out) h' ≡ house (limits_by form) imposed (room form t) (length out) h
      = ap (λ (y : Reading). house_of (limits_by form) (length out) y y.state) (still_read a) ∙ house_moved (limits_by form) imposed (room form t) (length out) x a in
      let d = lines_moved (limits_by form) imposed (room form t) x a in
      let r' = read_into form imposed u h' in
      let told : house_means r' (house (limits_by form) imposed (room form u) (length out) h') ≡ house_means (read_into form imposed t h) (house (limits_by form) imposed (room form t) (length out) h)
      = ap (house_means r') k ∙ houses_same (read_into form imposed t h) r' (house (limits_by form) imposed (room form t) (length out) h) a.state
      (ap (λ (y : Reading). y.state) (still_read a) ∙ d.accepted.state) (ap (λ (y : Reading). length y.entries) (still_read a) ∙ d.count) in
      (form_injective s r (q.answer ∙ told ∙ sym p.answer), q.output ∙ ap (λ (y : HouseReading). sets out 0 y.form) k ∙ sym p.output)

-- if a house-form call is accepted, the other, with an output that holds the form, is accepted and writes the same bytes
pub form_moved : {form : Form} {imposed : Option Version} {h h' : Bytes} {t u t₁ u₁ : List ℕ} {out out₁ o o₁ : Bytes} {r s : HouseAnswer} → Moved h h' → room form t ≤ room form u → r.length ≤ length o
    → HouseCall form imposed h t out r t₁ out₁ → HouseCall form imposed h' u o s u₁ o₁ → IsAccepted r → IsAccepted s × (form_written s o₁ ≡ form_written r out₁)
form_moved {form} {imposed} {h} {h'} {t} {u} x roomy l p q a =
    let w = wrote p a in
    let d = lines_moved (limits_by form) imposed (room form t) x w.accepted in
    let m : means (limits_by form) imposed (room form u) h' ≡ Some (header_meaning w.version w.records w.columns)
    = ap (λ (y : Reading). meant y.number y.state) (roomier (limits_by form) imposed (room form t) (room form u) h' roomy d.accepted.number) ∙ means_is (limits_by form) imposed (room form t) h' d.accepted ∙ ap Some d.meaning in
    let f = form_written_lem q m w.fits (omega (arith, w.size)) in
    (f.0, f.1 ∙ sym w.written)
