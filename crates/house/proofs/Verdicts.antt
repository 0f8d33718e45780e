-- The first difference of two texts, and what `is_house` answers by it. Assumes nothing.
use Prim.Native.Nat.{ℕ, suc, ◌+◌, ◌≤◌, ◌<◌, min}
use native.Mathlib.Omega.{arith}
use mathlib.Core.Path.{◌≡◌, refl, sym, ap, ap₂, ◌∙◌}
use mathlib.Core.Bool.{Bool, true, false, false≢true}
use mathlib.Core.List.{List, [], ◌∷◌}
use Rattle.std.specs.Prelude.{Option, Result, Ok, Err}
use lib.Dec.{eqb, leb, ltb}
use lib.ListN.{length, get_or, drop, drop_of_length-le}
use borrow.Author.Tests.{eqb-true, eq-eqb, ne_eqb, ltb-true, ltb-false, lt-ltb, le-ltb, leb-true}
use Rattle.values.specs.Bytes.{Bytes, same}
use Rattle.values.specs.Written.{last, onward, is_at, differing, sooner}
use Rattle.values.proofs.Tests.{pass, fail, test, and_l, and_r, both}
use Rattle.values.proofs.Lists.{here}
use Rattle.values.proofs.Sames.{same_sound, same_self}
use Rattle.rules.specs.Sizes.{Limits}
use Rattle.rules.specs.Lines.{write_lines}
use Rattle.rules.specs.Version.{Version}
use Rattle.rules.specs.Entry.{Entry}
use Rattle.rules.specs.Reading.{Reading}
use Rattle.rules.specs.House.{HouseReading, house}
use Rattle.records.specs.Formats.{version_of}
use Rattle.records.specs.declared.file_format.FileFormat.{FileFormat}
use Rattle.records.specs.declared.refusal.Refusal.{Refusal}
use Rattle.records.specs.declared.refusal.Refusal.TheVariants as refusal
use Rattle.records.specs.Refusals.{number}
use Rattle.records.proofs.Refusals.{number_suc}
use Rattle.entries.specs.declared.form.Form.{Form}
use Rattle.entries.specs.Values.{limits_by}
use Rattle.entries.specs.Tables.{room, first_entries, entries_in}
use Rattle.entries.proofs.Words.{limits_small}
use Rattle.header.specs.declared.parser.ReadAnswer.{ReadAnswer}
use Rattle.header.specs.Parsers.{outcome_number, read_into, ReadCall}
use Rattle.house.specs.declared.form.FormRefusal.{FormRefusal}
use Rattle.house.specs.declared.form.FormRefusal.TheVariants.{TooLong, LineTooLong, NoRoom}
use Rattle.house.specs.declared.form.Compared.{Compared}
use Rattle.house.specs.declared.form.HouseAnswer.{HouseAnswer}
use Rattle.house.specs.declared.form.IsHouseAnswer.{IsHouseAnswer}
use Rattle.house.specs.Forms.{form_lines, outcome_of, ComparesForm}
use Rattle.house.specs.Answers.{FormMeaning, form_answer_means, house_means, refused_answer, form_answered}
use Rattle.house.specs.IsHouse.{first_difference, answered_as, held_as, judged, is_house}
use Rattle.house.specs.Verdicts.{VerdictMeaning, verdict_means, is_house_means, told_answer, verdict_by, verdict, AnswersComparison, IsHouseCall}
use Rattle.house.specs.Keys.{AllListed}
use Rattle.house.proofs.Forms.{is_whole, is_whole_lem}
use Rattle.house.proofs.Answers.{Answers, refused_told, is_readable, answers_it}

-- The first difference

none_longer : (x : Bytes) → first_difference x [] ≡ 0
unfolding first_difference
none_longer [] = refl
none_longer (a ∷ x) = refl

pub difference_self : (x : Bytes) → first_difference x x ≡ length x
unfolding first_difference
difference_self [] = refl
difference_self (a ∷ x) = rw (first_difference, eq-eqb a a refl) (ap suc (difference_self x))

-- two texts of one length that differ nowhere
pub difference_none : (x y : Bytes) → first_difference x y ≡ length y → length y ≡ length x → x ≡ y
unfolding first_difference
difference_none [] [] e n = refl
difference_none [] (b ∷ y) e n = absurd (omega arith)
difference_none (a ∷ x) [] e n = absurd (omega arith)
difference_none (a ∷ x) (b ∷ y) e n = elim (test (eqb a b)) [
  | pass q ↦ let f : suc (first_difference x y) ≡ suc (length y) = rw (first_difference, q) at e in ap₂ ◌∷◌ (eqb-true a b q) (difference_none x y (omega arith) (omega arith))
  | fail q ↦ let f : 0 ≡ suc (length y) = rw (first_difference, q) at e in absurd (omega arith)
]

-- what the writer kept of the places before the text's end is the first difference
compared : (h : Bytes) (at : ℕ) (text : Bytes) → at + length text ≤ last → min (sooner last (differing h at text)) (at + length text) ≡ at + first_difference (drop at h) text
unfolding differing onward first_difference
compared h at [] l = rw (none_longer (drop at h)) (omega arith)
compared h at (b ∷ text) l = elim (test (is_at h at b)) [
  | pass e ↦
      let i : at < length h = ltb-true at (length h) (and_l (ltb at (length h)) (eqb (get_or h at 0) b) e) in
      let f = and_r (ltb at (length h)) (eqb (get_or h at 0) b) e in
      let n : min (at + 1) last ≡ at + 1 = omega arith in
      let m : at + suc (length text) ≡ at + 1 + length text = omega arith in
      rw (differing, e, here h at i, first_difference, f, n, m) (compared h (at + 1) text (omega arith) ∙ omega arith)
  | fail e ↦ rw (differing, e, differs_here h at b text e) (omega arith)
]
  where
    differs_here : (h : Bytes) (at b : ℕ) (text : Bytes) → is_at h at b ≡ false → first_difference (drop at h) (b ∷ text) ≡ 0
    differs_here h at b text e = elim (test (ltb at (length h))) [
      | pass q ↦ rw (here h at (ltb-true at (length h) q), first_difference, rw q at e)
      | fail q ↦ rw (drop_of_length-le h {i = at} (ltb-false at (length h) q))
    ]

-- what answers the needs of `judge`
module _ (a : HouseAnswer) (size differs : ℕ) where
  pub judge_refused : {x : Refusal} → a.outcome ≡ Err x → {r : IsHouseAnswer} → r ≡ told_answer a false 0 → r ≡ verdict a size differs
  unfolding verdict
  judge_refused e q = q ∙ sym (ap (verdict_by a size differs) e)

  module _ {f : FileFormat} {n : ℕ} (e : a.outcome ≡ Ok (f, n)) {r : IsHouseAnswer} where
    pub judge_early : differs < a.length → r ≡ told_answer a false differs → r ≡ verdict a size differs
    unfolding verdict
    judge_early l q = q ∙ sym (ap (verdict_by a size differs) e ∙ rw (verdict_by, lt-ltb differs a.length l))

    module _ (l : a.length ≤ differs) where
      pub judge_same : a.length ≡ size → r ≡ told_answer a true 0 → r ≡ verdict a size differs
      unfolding verdict
      judge_same s q = q ∙ sym (ap (verdict_by a size differs) e ∙ rw (verdict_by, le-ltb differs a.length l, eq-eqb a.length size s))

      pub judge_longer : (a.length ≡ size → ⊥) → r ≡ told_answer a false a.length → r ≡ verdict a size differs
      unfolding verdict
      judge_longer s q = q ∙ sym (ap (verdict_by a size differs) e ∙ rw (verdict_by, le-ltb differs a.length l, ne_eqb a.length size s))

pub ruleset judges = (judge_refused, judge_early, judge_same, judge_longer)

-- what answers the needs of `judge_accepted`
pub comparison_answered : (a : ReadAnswer) (f : FileFormat) → f.major < 4294967296 → f.minor < 4294967296 → {lim : Limits} {h : Bytes} {es : List Entry} {compared : Compared}
    → ComparesForm lim (version_of f) h es compared → {q : HouseAnswer} → q ≡ form_answered a compared.outcome → {r : IsHouseAnswer} → r ≡ verdict q (length h) compared.differs
    → AnswersComparison lim a f h es r
comparison_answered a f i j {h = h} {compared = compared} w q e = record {
  compared = compared;
  compares = w;
  answers = e ∙ ap (λ (x : HouseAnswer). verdict x (length h) compared.differs) q;
  sized = record { major = omega arith; minor = omega arith };
}

-- The verdict is that of the definition

abbrev judging : Bool → ℕ → FormMeaning → VerdictMeaning
judging holds place x = record { number = x.number; line = x.line; start = x.start; entries = x.entries; holds = holds; place = place; accepted = x.accepted }

-- f is what the rules say of the form, and a tells the same; `differs` is what the writer kept
module _ (h : Bytes) (a : HouseAnswer) (r : Reading) (f : HouseReading) (e : form_answer_means a ≡ house_means r f) (differs : ℕ)
    (kept : f.number ≡ 0 → differs ≡ sooner last (differing h 0 f.form)) (small : f.number ≡ 0 → length f.form ≤ last) where
  abbrev place : ℕ
  place = first_difference h f.form

  tells : (holds : Bool) (p : ℕ) → verdict_means (told_answer a holds p) ≡ is_house_means r (answered_as f holds p)
  tells holds p = ap (judging holds p) e

  held : f.number ≡ 0 → {holds : Bool} → same h f.form ≡ holds → is_house_means r (judged h f f.number) ≡ is_house_means r (held_as f holds place)
  held z s = ap (λ (n : ℕ). is_house_means r (judged h f n)) z ∙ ap (λ (b : Bool). is_house_means r (held_as f b place)) s

  at_place : f.number ≡ 0 → min differs (length f.form) ≡ place
  at_place z = let c = compared h 0 f.form (omega (arith, small z)) in omega (arith, c, kept z)

  no_more : f.number ≡ 0 → (place ≡ length f.form → length f.form ≡ length h → ⊥) → same h f.form ≡ false
  no_more z n = elim (test (same h f.form)) [
    | pass s ↦ let w = same_sound h f.form s in absurd (n (ap (λ (x : Bytes). first_difference x f.form) w ∙ difference_self f.form) (sym (ap length w)))
    | fail s ↦ s
  ]

  found : f.number ≡ 0 → a.length ≡ length f.form → (v : FileFormat) (n : ℕ) → verdict_means (verdict_by a (length h) differs (Ok (v, n))) ≡ is_house_means r (judged h f f.number)
  found z s v n = elim (test (ltb differs a.length)) [
    | pass t ↦
        let p = at_place z in
        let l = ltb-true differs a.length t in
        let d : differs ≡ place = omega (arith, p, l, s) in
        rw (verdict_by, t) (tells false differs ∙ rw d (sym (held z (no_more z (λ x y. absurd (omega (arith, x, d, l, s)))))))
    | fail t ↦ elim (test (eqb a.length (length h))) [
      | pass u ↦
          let p = at_place z in
          let d : place ≡ length f.form = omega (arith, p, ltb-false differs a.length t, s) in
          let n : length f.form ≡ length h = sym s ∙ eqb-true a.length (length h) u in
          let w = difference_none h f.form d n in
          rw (verdict_by, t, u) (tells true 0 ∙ sym (held z (ap (λ (x : Bytes). same x f.form) w ∙ same_self f.form)))
      | fail u ↦
          let p = at_place z in
          let d : a.length ≡ place = omega (arith, p, ltb-false differs a.length t, s) in
          rw (verdict_by, t, u) (tells false a.length ∙ rw d (sym (held z (no_more z (λ x y. both (eq-eqb a.length (length h) (s ∙ y)) u)))))
    ]
  ]

  verdict_is : verdict_means (verdict a (length h) differs) ≡ is_house_means r (judged h f f.number)
  unfolding verdict
  verdict_is = go a.outcome refl
    where
      number_is : {o : Result (FileFormat × ℕ) Refusal} → a.outcome ≡ o → f.number ≡ outcome_number o
      number_is q = sym (ap (λ (x : FormMeaning). x.number) e) ∙ ap outcome_number q

      go : (o : Result (FileFormat × ℕ) Refusal) → a.outcome ≡ o → verdict_means (verdict_by a (length h) differs a.outcome) ≡ is_house_means r (judged h f f.number)
      go (Err x) q =
          let n = number_suc x in
          ap (λ (o : Result (FileFormat × ℕ) Refusal). verdict_means (verdict_by a (length h) differs o)) q ∙ tells false 0 ∙ sym (ap (λ (k : ℕ). is_house_means r (judged h f k)) (number_is q ∙ n.1))
      go (Ok (v, n)) q =
          ap (λ (o : Result (FileFormat × ℕ) Refusal). verdict_means (verdict_by a (length h) differs o)) q ∙ found (number_is q) (ap (λ (x : FormMeaning). x.size) e) v n

-- the form of an accepted call is whole, and within the limit
accepted_whole : (a : ReadAnswer) (o : Result ℕ FormRefusal) → outcome_number (form_answered a o).outcome ≡ 0 → is_whole o ≡ true
accepted_whole a (Ok n) z = refl
accepted_whole a (Err TooLong) z = let n = number_suc refusal.HeaderTooLong in absurd (omega (arith, n.1, z))
accepted_whole a (Err (LineTooLong l s)) z = let n = number_suc refusal.LineTooLong in absurd (omega (arith, n.1, z))
accepted_whole a (Err NoRoom) z = let n = number_suc refusal.FormTooLong in absurd (omega (arith, n.1, z))

whole_within : (lim : Limits) (space : ℕ) (ls : List Bytes) → is_whole (outcome_of lim space ls) ≡ true → length (write_lines ls) ≤ lim.header
unfolding outcome_of
whole_within lim space ls w = elim (test (leb (length (write_lines ls)) lim.header)) [
  | pass q ↦ leb-true (length (write_lines ls)) lim.header q
  | fail q ↦ absurd (false≢true (rw (outcome_of, q) at w))
]

-- what answers the needs of `is_house`
module _ (form : Form) (imposed : Option Version) (h : Bytes) (t₀ : List ℕ) (a : ReadAnswer) {t : List ℕ} (call : ReadCall form imposed h t₀ a t) where
  abbrev read : Reading
  read = read_into form imposed t₀ h

  abbrev header_limit : ℕ
  header_limit = (limits_by form).header

  abbrev form_in : HouseReading
  form_in = house (limits_by form) imposed (room form t₀) (header_limit) h

  pub is_house_refused : {x : Refusal} → a.outcome ≡ Err x → {q : HouseAnswer} → q ≡ refused_answer x a.line a.start a.entries → {r : IsHouseAnswer} → r ≡ told_answer q false 0
      → IsHouseCall form imposed h t₀ r t
  unfolding is_house
  is_house_refused {x} o {q} e {r} w =
      let told = refused_told form imposed h t₀ a call o (header_limit) e in
      let n = number_suc x in
      let refused : form_in.number ≡ number x = sym (ap (λ (y : FormMeaning). y.number) told) ∙ ap (λ (y : HouseAnswer). outcome_number y.outcome) e in
      let is : r ≡ verdict q (length h) 0 = judge_refused q (length h) 0 (ap (λ (y : HouseAnswer). y.outcome) e) w in
      record {
        answer = ap verdict_means is ∙ verdict_is h q read form_in told 0 (λ z. absurd (omega (arith, z, refused, n.1))) (λ z. absurd (omega (arith, z, refused, n.1)));
        table = call.table;
      }

  module _ {f : FileFormat} {n : ℕ} (o : a.outcome ≡ Ok (f, n)) {kept : List ℕ} (ek : kept ≡ first_entries form t a.entries) {t' : List ℕ} (et : t' ≡ t) {r : IsHouseAnswer}
      (w : AnswersComparison (limits_by form) a f h (entries_in form kept) r) where
    abbrev ls : List Bytes
    ls = form_lines (version_of f) h (entries_in form kept)

    abbrev written : Result ℕ FormRefusal
    written = w.compared.outcome

    readable : AllListed false (version_of f) h (entries_in form kept)
    readable = is_readable form imposed h t₀ a call o w.sized ek

    answers : Answers a read ls written form_in
    answers = answers_it form imposed h t₀ a call o w.sized ek (header_limit) written (w.compares.is readable)

    module _ (z : form_in.number ≡ 0) where
      whole : is_whole written ≡ true
      whole = accepted_whole a written (ap (λ (y : FormMeaning). y.number) answers.tells_it ∙ z)

      text : write_lines ls ≡ form_in.form
      text = sym (is_whole_lem written whole ls) ∙ answers.writes_it

      kept_is : w.compared.differs ≡ sooner last (differing h 0 form_in.form)
      kept_is = w.compares.differs readable ∙ ap (λ (x : Bytes). sooner last (differing h 0 x)) text

      small : length form_in.form ≤ last
      small =
          let l = whole_within (limits_by form) (header_limit) ls (ap is_whole (sym (w.compares.is readable)) ∙ whole) in
          omega (arith, l, limits_small form, ap length text)

    pub is_house_accepted : IsHouseCall form imposed h t₀ r t'
    unfolding is_house
    is_house_accepted = record {
      answer = ap verdict_means w.answers ∙ verdict_is h (form_answered a written) read form_in answers.tells_it w.compared.differs kept_is small;
      table = et ∙ call.table;
    }

pub ruleset is_houses = (is_house_refused, is_house_accepted)
