-- Demand 3 for the calls: what they promise, with the rules' theorems, makes the form that they write the one form of a header. Assumes nothing.
use Prim.Native.Nat.{ℕ, zero, suc, ◌+◌, ◌≤◌}
use native.Mathlib.Omega.{arith}
use mathlib.Core.Path.{◌≡◌, refl, sym, ap, subst, ◌∙◌}
use mathlib.Core.List.{List}
use Rattle.std.specs.Prelude.{Option, None, Some, Result, Ok, Err}
use mathlib.Core.Logic.{◌↔◌}
use lib.Dec.{leb}
use lib.ListN.{length, take, drop}
use lib.Seq.{sets, sets-eq, take-append_seam}
use borrow.Author.Tests.{leb-true, le-leb}
use Rattle.values.specs.Bytes.{Bytes}
use Rattle.values.proofs.Tests.{pass, fail, test}
use Rattle.values.proofs.Lists.{none_not, some_is}
use Rattle.rules.specs.Sizes.{Limits}
use Rattle.rules.specs.Version.{Version}
use Rattle.rules.specs.Record.{Record}
use Rattle.rules.specs.Columns.{Columns}
use Rattle.rules.specs.Reading.{State, empty, ready, done, Reading, reading}
use Rattle.rules.specs.Meaning.{Meaning, header_meaning}
use Rattle.rules.specs.House.{house_lines, house_form, HouseReading, too_long, fitted, lined, form_answer, house_of, house}
use Rattle.rules.proofs.House.{house_reads_back, house_canonical}
use Rattle.rules.proofs.Rooms.{roomier}
use Rattle.records.specs.Formats.{version_of}
use Rattle.records.specs.declared.file_format.FileFormat.{FileFormat}
use Rattle.records.proofs.Refusals.{number_suc}
use Rattle.header.specs.Parsers.{outcome_number, outcome_says, accepted_in}
use Rattle.entries.specs.declared.form.Form.{Form}
use Rattle.entries.specs.Values.{limits_by}
use Rattle.entries.specs.Tables.{room}
use Rattle.house.specs.declared.form.HouseAnswer.{HouseAnswer}
use Rattle.house.specs.Answers.{FormMeaning, HouseCall, IsAccepted, form_written, meant, means}
use Rattle.rules.specs.Claims.{SizedOption, Accepted, Fits}
use Rattle.records.specs.declared.refusal.Refusal.{Refusal}

pub take_sets : (t₀ ws : List ℕ) (n : ℕ) → n ≡ length ws → length ws ≤ length t₀ → take n (sets t₀ 0 ws) ≡ ws
take_sets t₀ ws n e l = rw (e, sets-eq ws t₀ 0 (omega arith)) (take-append_seam ws (drop (0 + length ws) t₀))

-- A form that was accepted

record Formed (lim : Limits) (room : ℕ) (m : Meaning) (f : HouseReading) : Type 0 where
  fits : Fits lim m
  form : f.form ≡ house_form m
  inside : length (house_form m) ≤ room

module _ (lim : Limits) (room : ℕ) (r : Reading) (m : Meaning) where
  formed : (form_answer lim room r m).number ≡ 0 → Formed lim room m (form_answer lim room r m)
  unfolding form_answer
  formed z = elim (test (leb (length (house_form m)) lim.header)) [
    | fail q ↦ let n : ◌≡◌ {A = ℕ} 27 0 = rw (form_answer, q) at z in absurd (omega arith)
    | pass q ↦ rw (form_answer, q) (short (too_long lim.line 0 0 (house_lines m)) refl (leb-true (length (house_form m)) lim.header q) (rw (form_answer, q) at z))
  ]
    where
      short : (x : Option (ℕ × ℕ)) → too_long lim.line 0 0 (house_lines m) ≡ x → length (house_form m) ≤ lim.header → (lined room r (house_form m) x).number ≡ 0 → Formed lim room m (lined room r (house_form m) x)
      short (Some p) e l n = absurd (omega arith)
      short None e l n = elim (test (leb (length (house_form m)) room)) [
        | fail q ↦ let k : ◌≡◌ {A = ℕ} 28 0 = rw (lined, fitted, q) at n in absurd (omega arith)
        | pass q ↦ rw (lined, fitted, q) (record { fits = record { header = l; lines = e }; form = refl; inside = leb-true (length (house_form m)) room q })
      ]

  -- a form that fits is accepted
  fitting : Fits lim m → length (house_form m) ≤ room → ((form_answer lim room r m).number ≡ 0) × ((form_answer lim room r m).form ≡ house_form m)
  unfolding form_answer
  fitting f l =
      let a = le-leb (length (house_form m)) lim.header f.header in
      let b = le-leb (length (house_form m)) room l in
      (rw (form_answer, a, f.lines) (rw (lined, fitted, b)), rw (form_answer, a, f.lines) (rw (lined, fitted, b)))

  done_formed : (v : Version) (rs : List Record) (c : Columns) → (house_of lim room r (done v rs c)).number ≡ 0 → (r.number ≡ 0) × (house_of lim room r (done v rs c) ≡ form_answer lim room r (header_meaning v rs c))
  done_formed v rs c z = go r.number refl
    where
      go : (n : ℕ) → r.number ≡ n → (r.number ≡ 0) × (house_of lim room r (done v rs c) ≡ form_answer lim room r (header_meaning v rs c))
      go zero e = (e, rw e)
      go (suc n) e = let k : r.number ≡ 0 = rw (house_of, e) at z in absurd (omega arith)

-- an accepted call: the records, and the form that it wrote
pub record Wrote (form : Form) (imposed : Option Version) (h : Bytes) (t : List ℕ) (out : Bytes) (r : HouseAnswer) (out' : Bytes) : Type 0 where
  pub version : Version
  pub records : List Record
  pub columns : Columns
  pub accepted : Accepted version records columns (reading (limits_by form) imposed (room form t) h)
  pub fits : Fits (limits_by form) (header_meaning version records columns)
  pub size : r.length ≡ length (house_form (header_meaning version records columns))
  pub written : form_written r out' ≡ house_form (header_meaning version records columns)
  pub inside : length (house_form (header_meaning version records columns)) ≤ length out

module _ {form : Form} {imposed : Option Version} {h : Bytes} {t : List ℕ} {out : Bytes} {r : HouseAnswer} {t' : List ℕ} {out' : Bytes} (call : HouseCall form imposed h t out r t' out') where
  abbrev read : Reading
  read = reading (limits_by form) imposed (room form t) h

  abbrev answer : HouseReading
  answer = house (limits_by form) imposed (room form t) (length out) h

  -- the output, where the form is known
  wrote_form : {text : Bytes} → answer.form ≡ text → length text ≤ length out → (r.length ≡ length text) × (form_written r out' ≡ text)
  wrote_form {text} e l =
      let n : r.length ≡ length text = ap (λ (x : FormMeaning). x.size) call.answer ∙ ap length e in
      (n, ap (take r.length) (call.output ∙ ap (sets out 0) e) ∙ take_sets out text r.length n l)

  pub wrote : IsAccepted r → Wrote form imposed h t out r out'
  unfolding house
  wrote a = go read.state refl (rw number at (sym (ap (λ (x : FormMeaning). x.accepted) call.answer) ∙ ap outcome_says a.2))
    where
      number : answer.number ≡ 0
      number = sym (ap (λ (x : FormMeaning). x.number) call.answer) ∙ ap outcome_number a.2

      go : (s : State) → read.state ≡ s → accepted_in 0 read.state ≡ Some (version_of a.0, a.1) → Wrote form imposed h t out r out'
      go empty q e = none_not (rw q at e)
      go (ready v rs) q e = none_not (rw q at e)
      go (done v rs c) q e =
          let is : answer ≡ house_of (limits_by form) (length out) read (done v rs c) = ap (house_of (limits_by form) (length out) read) q in
          let d = done_formed (limits_by form) (length out) read (header_meaning v rs c) v rs c (sym (ap (λ (x : HouseReading). x.number) is) ∙ number) in
          let f = formed (limits_by form) (length out) read (header_meaning v rs c) (sym (ap (λ (x : HouseReading). x.number) (is ∙ d.1)) ∙ number) in
          let w = wrote_form (ap (λ (x : HouseReading). x.form) (is ∙ d.1) ∙ f.form) f.inside in
          record {
            version = v;
            records = rs;
            columns = c;
            accepted = record { number = d.0; state = q };
            fits = f.fits;
            size = w.0;
            written = w.1;
            inside = f.inside;
          }

pub means_is : (lim : Limits) (imposed : Option Version) (room : ℕ) (h : Bytes) {v : Version} {rs : List Record} {c : Columns} → Accepted v rs c (reading lim imposed room h) → means lim imposed room h ≡ Some (header_meaning v rs c)
means_is lim imposed room h a = rw (a.number, a.state)

-- a header with a meaning was accepted
pub record Meant (m : Meaning) (r : Reading) : Type 0 where
  pub version : Version
  pub records : List Record
  pub columns : Columns
  pub accepted : Accepted version records columns r
  pub is : header_meaning version records columns ≡ m

pub was_meant : (r : Reading) {m : Meaning} → meant r.number r.state ≡ Some m → Meant m r
was_meant r {m} e = go r.number refl r.state refl e
  where
    go : (n : ℕ) → r.number ≡ n → (s : State) → r.state ≡ s → meant n s ≡ Some m → Meant m r
    go zero z empty q e = none_not e
    go zero z (ready v rs) q e = none_not e
    go zero z (done v rs c) q e = record { version = v; records = rs; columns = c; accepted = record { number = z; state = q }; is = some_is e }
    go (suc n) z s q e = none_not e

pub is_accepted : (o : Result (FileFormat × ℕ) Refusal) → outcome_number o ≡ 0 → (f : FileFormat) × (n : ℕ) × (o ≡ Ok (f, n))
is_accepted (Ok (f, n)) e = (f, n, refl)
is_accepted (Err x) e = let n = number_suc x in absurd (omega (arith, n.1, e))

house_meant : (lim : Limits) (size : ℕ) (g : Reading) {m : Meaning} → Meant m g → house_of lim size g g.state ≡ form_answer lim size g m
house_meant lim size g a =
    let d : house_of lim size g (done a.version a.records a.columns) ≡ form_answer lim size g (header_meaning a.version a.records a.columns) = rw a.accepted.number in
    ap (house_of lim size g) a.accepted.state ∙ d ∙ ap (form_answer lim size g) a.is

-- where a header means m, whose form fits the limits and the output, the call is accepted and writes that form
pub form_written_lem : {form : Form} {imposed : Option Version} {h : Bytes} {t : List ℕ} {out : Bytes} {r : HouseAnswer} {t' : List ℕ} {out' : Bytes} → HouseCall form imposed h t out r t' out'
    → {m : Meaning} → means (limits_by form) imposed (room form t) h ≡ Some m → Fits (limits_by form) m → length (house_form m) ≤ length out → IsAccepted r × (form_written r out' ≡ house_form m)
unfolding house
form_written_lem {form} {imposed} {h} {t} {out} {r} call {m} e f n =
    let g = reading (limits_by form) imposed (room form t) h in
    let a = was_meant g e in
    let is : house (limits_by form) imposed (room form t) (length out) h ≡ form_answer (limits_by form) (length out) g m = house_meant (limits_by form) (length out) g a in
    let d = fitting (limits_by form) (length out) g m f n in (
      is_accepted r.outcome (ap (λ (y : FormMeaning). y.number) call.answer ∙ ap (λ (y : HouseReading). y.number) is ∙ d.0),
      (wrote_form call (ap (λ (y : HouseReading). y.form) is ∙ d.1) n).1,
    )

-- two accepted calls, on two headers: the headers mean the same exactly when the forms that were written are equal
pub one_form : {form : Form} {imposed imposed' : Option Version} {h h' : Bytes} {t t₁ u u₁ : List ℕ} {out out₁ o o₁ : Bytes} {r s : HouseAnswer}
    → SizedOption imposed → SizedOption imposed' → HouseCall form imposed h t out r t₁ out₁ → HouseCall form imposed' h' u o s u₁ o₁ → IsAccepted r → IsAccepted s
    → (means (limits_by form) imposed (room form t) h ≡ means (limits_by form) imposed' (room form u) h') ↔ (form_written r out₁ ≡ form_written s o₁)
one_form {form} {imposed} {imposed'} {h} {h'} {t} {u = u} i j p q a b =
    let x = wrote p a in
    let y = wrote q b in
    let m = means_is (limits_by form) imposed (room form t) h x.accepted in
    let n = means_is (limits_by form) imposed' (room form u) h' y.accepted in
    let same = house_canonical (limits_by form) imposed imposed' (room form t) (room form u) h h' i j x.accepted y.accepted x.fits y.fits in (
      (λ e. x.written ∙ same.0 (some_is (sym m ∙ e ∙ n)) ∙ sym y.written),
      (λ e. m ∙ ap Some (same.1 (sym x.written ∙ e ∙ y.written)) ∙ sym n),
    )

module _ {form : Form} {imposed : Option Version} {h : Bytes} {t : List ℕ} {out : Bytes} {r : HouseAnswer} {t₁ : List ℕ} {out₁ : Bytes}
    (sized : SizedOption imposed) (call : HouseCall form imposed h t out r t₁ out₁) (a : IsAccepted r) where
  -- what was written, read with a table of at least the same size
  again : (n : ℕ) → room form t ≤ n
      → (rs : List Record) × Accepted (wrote call a).version rs (wrote call a).columns (reading (limits_by form) None n (form_written r out₁))
      × (header_meaning (wrote call a).version rs (wrote call a).columns ≡ header_meaning (wrote call a).version (wrote call a).records (wrote call a).columns)
  again n l =
      let x = wrote call a in
      let b = house_reads_back (limits_by form) imposed (room form t) h sized x.accepted x.fits in
      let g = house_form (header_meaning x.version x.records x.columns) in
      let more : reading (limits_by form) None n g ≡ reading (limits_by form) None (room form t) g = roomier (limits_by form) None (room form t) n g l b.1.number in
      rw x.written (b.0, subst (Accepted x.version b.0 x.columns) (sym more) b.1, b.2)

  -- reading what was written gives the same meaning
  pub reads_back : (n : ℕ) → room form t ≤ n → means (limits_by form) None n (form_written r out₁) ≡ means (limits_by form) imposed (room form t) h
  reads_back n l = let b = again n l in means_is (limits_by form) None n (form_written r out₁) b.1 ∙ ap Some b.2 ∙ sym (means_is (limits_by form) imposed (room form t) h (wrote call a).accepted)

  -- a call on what was written, with a table of at least the same size and an output that holds it, is accepted and writes the same
  pub fixed : {u u₁ : List ℕ} {o o₁ : Bytes} {s : HouseAnswer} → HouseCall form None (form_written r out₁) u o s u₁ o₁ → room form t ≤ room form u → r.length ≤ length o
      → IsAccepted s × (form_written s o₁ ≡ form_written r out₁)
  fixed {u} {o = o} call' l m =
      let x = wrote call a in
      let d = form_written_lem call' (reads_back (room form u) l ∙ means_is (limits_by form) imposed (room form t) h x.accepted) x.fits (omega (arith, x.size)) in
      (d.0, d.1 ∙ sym x.written)
