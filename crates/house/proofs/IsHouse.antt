-- Document 02 §13 for the calls: what `is_house` promises makes it say yes exactly of a header that is accepted and is its own house form,
-- and of the form that `house_form` wrote. Assumes nothing.
use Prim.Native.Nat.{ℕ, zero, suc, ◌+◌, ◌≤◌}
use native.Mathlib.Omega.{arith}
use mathlib.Core.Path.{◌≡◌, refl, sym, ap, ap₂, subst, ◌∙◌}
use mathlib.Core.Bool.{Bool, true, false, true≢false, false≢true}
use mathlib.Core.List.{List, [], ◌∷◌, ◌++◌, map}
use Rattle.std.specs.Prelude.{Option, None, Some}
use mathlib.Core.Logic.{◌↔◌}
use lib.Dec.{eqb, leb}
use lib.ListN.{length}
use lib.Seq.{sets}
use borrow.Author.Tests.{eqb-true, eqb-false, le-leb}
use Rattle.values.specs.Bytes.{Bytes, same}
use Rattle.values.proofs.Tests.{pass, fail, test}
use Rattle.values.proofs.Lists.{some_is}
use Rattle.values.proofs.Sames.{same_sound, same_self}
use Rattle.rules.specs.Sizes.{Limits}
use Rattle.rules.specs.Lines.{pieces, write_line}
use Rattle.rules.specs.Version.{Version}
use Rattle.rules.specs.Record.{Record, fileformat}
use Rattle.rules.specs.Columns.{Columns}
use Rattle.rules.specs.Reading.{State, empty, ready, done, Reading, reading, run}
use Rattle.rules.specs.Meaning.{Meaning, header_meaning}
use Rattle.rules.specs.House.{write_record, house_lines, house_form, HouseReading, too_long, fitted, lined, form_answer, house_of, house}
use Rattle.rules.specs.Claims.{All, SizedOption, Accepted, Fits}
use Rattle.rules.proofs.Pieces.{NoLF, written, pieces_lines}
use Rattle.rules.proofs.Groups.{arrange, all_keys, arrange_all}
use Rattle.rules.proofs.Samples.{GoodColumns, columns_pure}
use Rattle.rules.proofs.Records.{Entered, record_pure, format_pure}
use Rattle.rules.proofs.Back.{record_lines, column_line, reading_short}
use Rattle.rules.proofs.Runs.{first_taken}
use Rattle.rules.proofs.Stands.{accepted_short}
use Rattle.rules.proofs.House.{house_lines_lem, accepted_good}
use Rattle.header.specs.declared.parser.ReadAnswer.{ReadAnswer}
use Rattle.header.specs.Parsers.{outcome_number, read_into}
use Rattle.header.proofs.Answers.{answer_injective}
use Rattle.entries.specs.declared.form.Form.{Form}
use Rattle.entries.specs.Values.{limits_by}
use Rattle.entries.specs.Tables.{room}
use Rattle.house.specs.declared.form.HouseAnswer.{HouseAnswer}
use Rattle.house.specs.declared.form.IsHouseAnswer.{IsHouseAnswer}
use Rattle.house.specs.Answers.{house_means, HouseCall, IsAccepted, form_written, means}
use Rattle.house.specs.IsHouse.{first_difference, FirstDiffers, judged, is_house}
use Rattle.house.specs.Verdicts.{VerdictMeaning, verdict_means, is_house_means, IsHouseCall}
use Rattle.house.proofs.Program.{take_sets, wrote, means_is, was_meant, is_accepted, form_written_lem, reads_back}

-- The first difference is what its name says

pub first_differs : (x y : Bytes) → FirstDiffers x y (first_difference x y)
unfolding first_difference
first_differs [] y = record { before = refl; left = omega arith; right = omega arith; here = λ l r e. absurd (omega arith) }
first_differs (a ∷ x) [] = record { before = refl; left = omega arith; right = omega arith; here = λ l r e. absurd (omega arith) }
first_differs (a ∷ x) (b ∷ y) = elim (test (eqb a b)) [
  | pass q ↦
      let d = first_differs x y in
      rw (first_difference, q) (record {
        before = ap₂ ◌∷◌ (eqb-true a b q) d.before;
        left = omega (arith, d.left);
        right = omega (arith, d.right);
        here = λ l r e. d.here (omega arith) (omega arith) e;
      })
  | fail q ↦ rw (first_difference, q) (record { before = refl; left = omega arith; right = omega arith; here = λ l r e. eqb-false a b q e })
]

-- A header that is its own form is within the limits, so its form is

no_lf : (v : Version) (xs : List Record) (c : Columns) → All (Entered v) xs → GoodColumns c → NoLF (write_record (fileformat v) ∷ (record_lines v xs ++ column_line c ∷ []))
no_lf v xs c e g = ((format_pure v).line, go xs e)
  where
    go : (ys : List Record) → All (Entered v) ys → NoLF (record_lines v ys ++ column_line c ∷ [])
    go [] f = ((columns_pure c g).line, tt)
    go (y ∷ ys) f = ((record_pure v y f.0).line, go ys f.1)

-- no line of an accepted run is too long
short_lines : (lim : Limits) (imposed : Option Version) (room n start count : ℕ) (s : State) (ls : List Bytes) → NoLF ls → {v : Version} {rs : List Record} {c : Columns}
    → Accepted v rs c (run lim imposed room n start count s (map write_line ls)) → (k at : ℕ) → too_long lim.line k at ls ≡ None
unfolding too_long
short_lines lim imposed room n start count s [] p a k at = refl
short_lines lim imposed room n start count s (l ∷ ls) p a k at =
    let f = first_taken lim imposed room n start count s (write_line l) (map write_line ls) a in
    let m : length l ≤ lim.line = rw (written l [] p.0).line at f.line.0 in
    rw (too_long, le-leb (length l) lim.line m) (short_lines lim imposed room (suc n) (start + length (write_line l)) (count + length f.after.1) f.after.0 ls p.1 f.rest (suc k) (at + length (write_line l)))

own_form_fits : (lim : Limits) (imposed : Option Version) (room : ℕ) (h : Bytes) {v : Version} {rs : List Record} {c : Columns} → SizedOption imposed
    → Accepted v rs c (reading lim imposed room h) → h ≡ house_form (header_meaning v rs c) → Fits lim (header_meaning v rs c)
unfolding house_form
own_form_fits lim imposed room h {v} {rs} {c} i a e =
    let l = accepted_short lim imposed room h a.number in
    let g = accepted_good lim imposed room h i a in
    let ls = house_lines (header_meaning v rs c) in
    let n : NoLF ls = subst NoLF (sym (house_lines_lem v rs c)) (no_lf v (arrange (all_keys rs) rs) c (arrange_all (Entered v) (all_keys rs) rs g.0.0.good) g.0.1) in
    let is : reading lim imposed room h ≡ run lim imposed room 0 0 0 empty (map write_line ls)
    = reading_short lim imposed room h l ∙ ap (run lim imposed room 0 0 0 empty) (ap pieces e ∙ pieces_lines ls n) in
    record { header = rw (← e) l; lines = short_lines lim imposed room 0 0 0 empty ls n (subst (Accepted v rs c) is a) 0 0 }

-- The call answers as a house-form call does whose output has as many bytes as a header may

abbrev blank : ℕ → Bytes
blank zero = []
blank (suc n) = 0 ∷ blank n

blank_length : (n : ℕ) → length (blank n) ≡ n
blank_length zero = refl
blank_length (suc n) = ap suc (blank_length n)

module _ {form : Form} {imposed : Option Version} {h : Bytes} {t : List ℕ} {r : IsHouseAnswer} {t' : List ℕ} (call : IsHouseCall form imposed h t r t') where
  abbrev limit : ℕ
  limit = (limits_by form).header

  abbrev read : Reading
  read = read_into form imposed t h

  abbrev answer : HouseReading
  answer = house (limits_by form) imposed (room form t) limit h

  -- the same answer, with the form's length for the verdict
  abbrev answered : HouseAnswer
  answered = record { outcome = r.outcome; line = r.line; start = r.start; entries = r.entries; length = length answer.form }

  verdict : verdict_means r ≡ is_house_means read (judged h answer answer.number)
  unfolding is_house
  verdict = call.answer

  -- a verdict keeps what the form's answer says
  kept : is_house_means read (judged h answer answer.number) ≡ record {
    number = answer.number;
    line = answer.line;
    start = answer.start;
    entries = length read.entries;
    holds = (judged h answer answer.number).holds;
    place = (judged h answer answer.number).place;
    accepted = (house_means read answer).accepted;
  }
  kept = go answer.number
    where
      go : (n : ℕ) → is_house_means read (judged h answer n) ≡ record {
        number = answer.number;
        line = answer.line;
        start = answer.start;
        entries = length read.entries;
        holds = (judged h answer n).holds;
        place = (judged h answer n).place;
        accepted = (house_means read answer).accepted;
      }
      go (suc n) = refl
      go zero = elim (test (same h answer.form)) [ pass e ↦ rw e | fail e ↦ rw e ]

  pub as_house_call : HouseCall form imposed h t (blank limit) answered t' (sets (blank limit) 0 answer.form)
  as_house_call =
      let n = blank_length limit in
      record {
        answer =
            ap (λ (x : VerdictMeaning). record { number = x.number; line = x.line; start = x.start; entries = x.entries; size = length answer.form; accepted = x.accepted }) (verdict ∙ kept)
            ∙ ap (λ (k : ℕ). house_means read (house (limits_by form) imposed (room form t) k h)) (sym n);
        table = call.table;
        output = ap (λ (k : ℕ). sets (blank limit) 0 (house (limits_by form) imposed (room form t) k h).form) (sym n);
      }

  -- what a verdict tells of the form's answer
  module _ {holds : Bool} (e : r.holds ≡ holds) where
    said : (judged h answer answer.number).holds ≡ holds
    said = sym (ap (λ (x : VerdictMeaning). x.holds) (verdict ∙ kept)) ∙ e

    placed : r.differs ≡ (judged h answer answer.number).place
    placed = ap (λ (x : VerdictMeaning). x.place) (verdict ∙ kept)

  accepted_number : answer.number ≡ 0 → IsAccepted answered
  accepted_number z = is_accepted r.outcome (ap (λ (x : VerdictMeaning). x.number) (verdict ∙ kept) ∙ z)

  number_accepted : IsAccepted answered → answer.number ≡ 0
  number_accepted a = sym (ap (λ (x : VerdictMeaning). x.number) (verdict ∙ kept)) ∙ ap outcome_number a.2

  -- an accepted call's meaning, and its form
  own_form : (a : IsAccepted answered) → (m : Meaning) × (means (limits_by form) imposed (room form t) h ≡ Some m) × (answer.form ≡ house_form m)
  own_form a =
      let x = wrote as_house_call a in
      let n = blank_length limit in (
        header_meaning x.version x.records x.columns,
        means_is (limits_by form) imposed (room form t) h x.accepted,
        sym (take_sets (blank limit) answer.form (length answer.form) refl (omega (arith, x.size, x.inside))) ∙ x.written,
      )

  judged_same : answer.number ≡ 0 → h ≡ answer.form → (judged h answer answer.number).holds ≡ true
  judged_same z e = rw z (rw (ap (λ (x : Bytes). same x answer.form) e ∙ same_self answer.form))

  judged_true : (judged h answer answer.number).holds ≡ true → (answer.number ≡ 0) × (h ≡ answer.form)
  judged_true e = go answer.number refl
    where
      go : (n : ℕ) → answer.number ≡ n → (answer.number ≡ 0) × (h ≡ answer.form)
      go (suc n) q = absurd (false≢true (rw q at e))
      go zero q = elim (test (same h answer.form)) [
        | pass s ↦ (q, same_sound h answer.form s)
        | fail s ↦ absurd (false≢true (rw (q, s) at e))
      ]

  judged_false : answer.number ≡ 0 → (judged h answer answer.number).holds ≡ false → (judged h answer answer.number).place ≡ first_difference h answer.form
  judged_false z e = elim (test (same h answer.form)) [
    | pass s ↦ absurd (true≢false (rw (z, s) at e))
    | fail s ↦ rw (z, s)
  ]

  -- yes exactly when the header is accepted and equals its own house form
  pub is_house_exactly : SizedOption imposed → (r.holds ≡ true) ↔ ((m : Meaning) × (means (limits_by form) imposed (room form t) h ≡ Some m) × (h ≡ house_form m))
  is_house_exactly i = (to, from)
    where
      to : r.holds ≡ true → (m : Meaning) × (means (limits_by form) imposed (room form t) h ≡ Some m) × (h ≡ house_form m)
      to e =
          let d = judged_true (said e) in
          let x = own_form (accepted_number d.0) in
          (x.0, x.1, d.1 ∙ x.2)

      from : (m : Meaning) × (means (limits_by form) imposed (room form t) h ≡ Some m) × (h ≡ house_form m) → r.holds ≡ true
      from x =
          let a = was_meant read x.1 in
          let f : Fits (limits_by form) x.0 = subst (Fits (limits_by form)) a.is (own_form_fits (limits_by form) imposed (room form t) h i a.accepted (x.2 ∙ ap house_form (sym a.is))) in
          let n = blank_length limit in
          let d = form_written_lem as_house_call x.1 f (omega (arith, n, f.header)) in
          let o = own_form d.0 in
          let z = number_accepted d.0 in
          let same-form : answer.form ≡ house_form x.0 = o.2 ∙ ap house_form (some_is (sym o.1 ∙ x.1)) in
          ap (λ (v : VerdictMeaning). v.holds) (verdict ∙ kept) ∙ judged_same z (x.2 ∙ sym same-form)

  pub yes_place : r.holds ≡ true → r.differs ≡ 0
  yes_place e =
      let d = judged_true (said e) in
      placed e ∙ rw d.0 (rw (ap (λ (x : Bytes). same x answer.form) d.1 ∙ same_self answer.form))

  -- the place of a no on an accepted header is the first place where it and its form differ, or the shorter one's length
  pub no_place : IsAccepted answered → r.holds ≡ false → (m : Meaning) × (means (limits_by form) imposed (room form t) h ≡ Some m) × FirstDiffers h (house_form m) r.differs
  no_place a e =
      let z = number_accepted a in
      let x = own_form a in
      let p : r.differs ≡ first_difference h (house_form x.0) = placed e ∙ judged_false z (said e) ∙ ap (first_difference h) x.2 in
      (x.0, x.1, subst (FirstDiffers h (house_form x.0)) (sym p) (first_differs h (house_form x.0)))

-- what a house-form call wrote is its own form: with a table of at least the same size, the call says yes
pub written_holds : {form : Form} {imposed : Option Version} {h : Bytes} {t : List ℕ} {out : Bytes} {r : HouseAnswer} {t₁ : List ℕ} {out₁ : Bytes} → SizedOption imposed
    → HouseCall form imposed h t out r t₁ out₁ → IsAccepted r → {u u₁ : List ℕ} {s : IsHouseAnswer} → IsHouseCall form None (form_written r out₁) u s u₁ → room form t ≤ room form u → s.holds ≡ true
written_holds {form} {imposed} {h} {t} i call a {u} call' l =
    let x = wrote call a in
    let m = reads_back i call a (room form u) l ∙ means_is (limits_by form) imposed (room form t) h x.accepted in
    (is_house_exactly call' tt).1 (header_meaning x.version x.records x.columns, m, x.written)

-- two answers that tell the same are the same, so what `is_house` promises is one answer
pub verdict_injective : (a b : IsHouseAnswer) → verdict_means a ≡ verdict_means b → a ≡ b
verdict_injective a b e =
    let r = answer_injective (reads a) (reads b)
    (ap (λ (t : VerdictMeaning). record { number = t.number; line = t.line; start = t.start; entries = t.entries; accepted = t.accepted }) e) in
    let o = ap (λ (x : ReadAnswer). x.outcome) r in
    let l = ap (λ (t : VerdictMeaning). t.line) e in
    let s = ap (λ (t : VerdictMeaning). t.start) e in
    let n = ap (λ (t : VerdictMeaning). t.entries) e in
    let h = ap (λ (t : VerdictMeaning). t.holds) e in
    let p = ap (λ (t : VerdictMeaning). t.place) e in
    rw (o, l, s, n, h, p)
  where
    reads : IsHouseAnswer → ReadAnswer
    reads x = record { outcome = x.outcome; line = x.line; start = x.start; entries = x.entries }

-- the header limit is room for every form that may stand
room_enough : (lim : Limits) (r : Reading) (m : Meaning) → (form_answer lim lim.header r m).number ≡ 28 → ⊥
unfolding form_answer
room_enough lim r m n = elim (test (leb (length (house_form m)) lim.header)) [
  | pass q ↦ within q (too_long lim.line 0 0 (house_lines m)) (rw (form_answer, q) at n)
  | fail q ↦ let k : ◌≡◌ {A = ℕ} 27 28 = rw (form_answer, q) at n in omega arith
]
  where
    within : leb (length (house_form m)) lim.header ≡ true → (x : Option (ℕ × ℕ)) → (lined lim.header r (house_form m) x).number ≡ 28 → ⊥
    within q (Some p) n = omega arith
    within q None n = let k : ◌≡◌ {A = ℕ} 0 28 = rw (lined, fitted, q) at n in omega arith

-- so that an accepted header is never answered by 28
pub never_28 : (lim : Limits) (imposed : Option Version) (tableRoom : ℕ) (h : Bytes) → (reading lim imposed tableRoom h).number ≡ 0 → (is_house lim imposed tableRoom h).number ≡ 28 → ⊥
unfolding house is_house
never_28 lim imposed tableRoom h z e =
    let r = reading lim imposed tableRoom h in
    let f = house lim imposed tableRoom lim.header h in
    by_state r z r.state (sym (judged_number h f f.number) ∙ e)
  where
    judged_number : (h : Bytes) (f : HouseReading) (n : ℕ) → (judged h f n).number ≡ f.number
    judged_number h f (suc n) = refl
    judged_number h f zero = elim (test (same h f.form)) [ pass s ↦ rw s | fail s ↦ rw s ]

    by_state : (r : Reading) → r.number ≡ 0 → (s : State) → (house_of lim lim.header r s).number ≡ 28 → ⊥
    by_state r z empty n = omega arith
    by_state r z (ready v rs) n = omega arith
    by_state r z (done v rs c) n =
        let d : house_of lim lim.header r (done v rs c) ≡ form_answer lim lim.header r (header_meaning v rs c) = rw z in
        room_enough lim r (header_meaning v rs c) (sym (ap (λ (f : HouseReading). f.number) d) ∙ n)
