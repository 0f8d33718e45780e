-- The answers as numbers: the ways of the code, on plain values. Assumes nothing.
use Prim.Native.Nat.{ℕ, ◌-◌, ◌≤◌}
use mathlib.Core.Path.{◌≡◌, refl, sym, ap, ap₂, ◌∙◌, subst, subst₂}
use mathlib.Core.Bool.{Bool, true, false}
use mathlib.Core.List.{List}
use Rattle.std.specs.Prelude.{Option, None, Some, Result, Ok, Err}
use lib.ListN.{length}
use lib.Seq.{sets}
use borrow.Author.Tests.{eq-eqb, ne_eqb}
use Rattle.rules.specs.Version.{Version, version}
use Rattle.rules.specs.House.{house}
use Rattle.rules.specs.Shown.{Part}
use Rattle.entries.specs.Tables.{room, stored as stored_in, shown_entry, shown_id, shown_key, shown_field}
use Rattle.entries.specs.Values.{limits_by}
use Rattle.entries.specs.declared.form.Form.{Form}
use Rattle.entries.specs.declared.form.Form.TheVariants.{First, Second}
use Rattle.records.specs.Refusals.{number}
use Rattle.records.specs.declared.refusal.Refusal.{Refusal}
use Rattle.records.specs.declared.refusal.Refusal.TheVariants as refusal
use Rattle.records.specs.Formats.{version_of}
use Rattle.records.specs.declared.file_format.FileFormat.{FileFormat}
use Rattle.entries.specs.Shown.{answered, or_refused, shown_as, Inside, key_answered, key_or_refused, KeyInside}
use Rattle.entries.proofs.Calls.{answer_is, key_answered_injective}
use Rattle.values.proofs.Tests.{never}
use Rattle.header.specs.Parsers.{AnswerMeaning, outcome_number, outcome_says, read_into, ReadCall}
use Rattle.header.specs.declared.parser.ReadAnswer.{ReadAnswer}
use Rattle.house.specs.Answers.{FormMeaning, HouseCall}
use Rattle.house.specs.declared.form.HouseAnswer.{HouseAnswer}
use Rattle.register.specs.Register.{register_of}
use Rattle.register.specs.Compare.{differing}
use Rattle.register.specs.Compared.{listed_in_arrays}
use Rattle.register.specs.Answers.{register_number, RegisterMeaning, RegisterCall}
use Rattle.register.specs.declared.probe.RegisterRead.{RegisterRead}
use Rattle.register.specs.declared.compare.Differences.{Differences}
use Rattle.spelling.specs.Odd.{odd_in, odd_answer, odd_list}
use Rattle.spelling.specs.Odd.{outcome_number as odd_number}
use Rattle.spelling.specs.declared.odd.OddAnswer.{OddAnswer}
use Rattle.capi.specs.declared.VcfhOdd.{VcfhOdd}
use Rattle.turning.specs.Turning.{turn_number, to_second, turn_answer, turn_table}
use Rattle.turning.specs.declared.turn.TurnAnswer.{TurnAnswer}
use Rattle.capi.specs.declared.VcfhTurned.{VcfhTurned}
use Rattle.capi.specs.Answers.{odd_as, turned_as, flag, told_as, imposed_by, form_by, answer_in_c, form_in_c, part_of, part_as, Ordered, key_shown_in, key_shown_as, KeyOrdered, register_as, differences_as}
use Rattle.capi.specs.declared.Told.{Told}
use Rattle.capi.specs.declared.VcfhAnswer.{VcfhAnswer}
use Rattle.capi.specs.declared.VcfhForm.{VcfhForm}
use Rattle.capi.specs.declared.VcfhPart.{VcfhPart}
use Rattle.capi.specs.declared.VcfhKey.{VcfhKey}
use Rattle.capi.specs.declared.VcfhRegister.{VcfhRegister}

-- Parts

pub ordered : (n : ℕ) (s : Option (ℕ × ℕ)) → Inside n s → Ordered s
ordered n (Some (start, end)) i = i.0
ordered n None i = tt

as_shown : (o : Option Part) → part_as (shown_as o) ≡ part_of o
as_shown None = refl
as_shown (Some p) = refl

-- the form that the code names, and the one that was asked for
module _ {f form : Form} (k : f ≡ form) (h t : List ℕ) (n : ℕ) (s : Option (ℕ × ℕ)) {r : VcfhPart} where
  shows : (o : Form → Option Part) → answered s ≡ or_refused (o f) → r ≡ part_as s → r ≡ part_of (o form)
  shows o a b = b ∙ ap part_as (answer_is s (o f) a) ∙ as_shown (o f) ∙ ap (λ (x : Form). part_of (o x)) k

  pub shows_entry : answered s ≡ or_refused (shown_entry f h t n) → r ≡ part_as s → r ≡ part_of (shown_entry form h t n)
  shows_entry = shows (λ (x : Form). shown_entry x h t n)

  pub shows_id : answered s ≡ or_refused (shown_id f h t n) → r ≡ part_as s → r ≡ part_of (shown_id form h t n)
  shows_id = shows (λ (x : Form). shown_id x h t n)

  module _ (major minor i : ℕ) {v : FileFormat} (e : v ≡ record { major = major; minor = minor }) where
    pub shows_field : answered s ≡ or_refused (shown_field f h t n (version_of v) i) → r ≡ part_as s → r ≡ part_of (shown_field form h t n (version major minor) i)
    shows_field a b = shows (λ (x : Form). shown_field x h t n (version_of v) i) a b ∙ ap (λ g. part_of (shown_field form h t n (version_of g) i)) e

module _ (s : Option (ℕ × ℕ)) (start end : ℕ) (e : s ≡ Some (start, end)) where
  pub part_ordered : Ordered s → start ≤ end
  part_ordered o = subst Ordered e o

  pub part_numbers : record { number = 0; start = start; length = end - start } ≡ part_as s
  part_numbers = sym (ap part_as e)

module _ (s : Option (ℕ × ℕ)) where
  pub no_part : s ≡ None → {n : ℕ} → n ≡ number refusal.InvalidEntry → record { number = n; start = 0; length = 0 } ≡ part_as s
  no_part e q = rw (q, e)

pub ruleset parts = (ordered, shows_entry, shows_id, shows_field, part_ordered, part_numbers, no_part)

-- Keys

pub key_ordered : (n : ℕ) (s : Option (ℕ × ℕ × ℕ)) → KeyInside n s → KeyOrdered s
key_ordered n (Some (start, end, fields)) i = i.0
key_ordered n None i = tt

module _ {f form : Form} (k : f ≡ form) (h t : List ℕ) (n : ℕ) (s : Option (ℕ × ℕ × ℕ)) {r : VcfhKey} where
  pub shows_key : key_answered s ≡ key_or_refused (shown_key f h t n) → r ≡ key_shown_as s → r ≡ key_shown_in (shown_key form h t n)
  shows_key a b = b ∙ go s (shown_key f h t n) a ∙ ap (λ (x : Form). key_shown_in (shown_key x h t n)) k
    where
      go : (s : Option (ℕ × ℕ × ℕ)) (o : Option (Part × ℕ)) → key_answered s ≡ key_or_refused o → key_shown_as s ≡ key_shown_in o
      go (Some (start, end, fields)) None e = never cc
      go (Some (start, end, fields)) (Some p) e = ap key_shown_as (key_answered_injective (Some (start, end, fields)) (Some (p.0.0, p.0.1, p.1)) e)
      go None None e = refl
      go None (Some p) e = never cc

module _ (s : Option (ℕ × ℕ × ℕ)) where
  module _ (start end fields : ℕ) (e : s ≡ Some (start, end, fields)) where
    pub key_fits : KeyOrdered s → start ≤ end
    key_fits o = subst KeyOrdered e o

    pub key_numbers : record { number = 0; start = start; length = end - start; fields = fields } ≡ key_shown_as s
    key_numbers = sym (ap key_shown_as e)

  pub no_key : s ≡ None → {n : ℕ} → n ≡ number refusal.InvalidEntry → record { number = n; start = 0; length = 0; fields = 0 } ≡ key_shown_as s
  no_key e q = rw (q, e)

pub ruleset keys = (key_ordered, shows_key, key_fits, key_numbers, no_key)

-- Readings

abbrev numbers : AnswerMeaning → VcfhAnswer
numbers t = record {
  number = t.number;
  line = t.line;
  start = t.start;
  entries = t.entries;
  samples = (told_as t.accepted).samples;
  major = (told_as t.accepted).major;
  minor = (told_as t.accepted).minor;
}

-- a call with the form and the version that were asked for
module _ {f form : Form} (k : f ≡ form) {imposed wanted : Option Version} (e : imposed ≡ wanted) {h t : List ℕ} (a : ReadAnswer) {t' : List ℕ} (call : ReadCall f imposed h t a t') where
  asked : ReadCall form wanted h t a t'
  asked = subst₂ (λ (x : Form) (i : Option Version). ReadCall x i h t a t') k e call

  pub answers : {n : ℕ} → n ≡ outcome_number a.outcome → {x : Told} → x ≡ told_as (outcome_says a.outcome)
      → record { number = n; line = a.line; start = a.start; entries = a.entries; samples = x.samples; major = x.major; minor = x.minor } ≡ answer_in_c (read_into form wanted t h)
  answers c d =
      ap₂ (λ (k : ℕ) (y : Told). record { number = k; line = a.line; start = a.start; entries = a.entries; samples = y.samples; major = y.major; minor = y.minor }) c d
      ∙ ap numbers asked.answer

  pub stored : t' ≡ stored_in form t 0 (read_into form wanted t h).entries
  stored = asked.table

abbrev form_numbers : FormMeaning → VcfhForm
form_numbers t = record { number = t.number; line = t.line; start = t.start; entries = t.entries; length = t.size }

module _ {f form : Form} (k : f ≡ form) {imposed wanted : Option Version} (e : imposed ≡ wanted) {h t o : List ℕ} (a : HouseAnswer) {t' o' : List ℕ} (call : HouseCall f imposed h t o a t' o') where
  asked_form : HouseCall form wanted h t o a t' o'
  asked_form = subst₂ (λ (x : Form) (i : Option Version). HouseCall x i h t o a t' o') k e call

  pub form_answers : {n : ℕ} → n ≡ outcome_number a.outcome → record { number = n; line = a.line; start = a.start; entries = a.entries; length = a.length }
      ≡ form_in_c (read_into form wanted t h) (house (limits_by form) wanted (room form t) (length o) h)
  form_answers c = ap (λ k. record { number = k; line = a.line; start = a.start; entries = a.entries; length = a.length }) c ∙ ap form_numbers asked_form.answer

  pub form_stored : t' ≡ stored_in form t 0 (read_into form wanted t h).entries
  form_stored = asked_form.table

  pub written : o' ≡ sets o 0 (house (limits_by form) wanted (room form t) (length o) h).form
  written = asked_form.output

module _ (o : Result (FileFormat × ℕ) Refusal) (x : Refusal) {n : ℕ} where
  pub refused_number : o ≡ Err x → n ≡ number x → n ≡ outcome_number o
  refused_number e a = a ∙ sym (ap outcome_number e)

module _ (o : Result (FileFormat × ℕ) Refusal) where
  pub told_accepted : {f : FileFormat} {n : ℕ} → o ≡ Ok (f, n) → record { samples = n; major = f.major; minor = f.minor } ≡ told_as (outcome_says o)
  told_accepted e = sym (ap (λ (x : Result (FileFormat × ℕ) Refusal). told_as (outcome_says x)) e)

  pub told_refused : {x : Refusal} → o ≡ Err x → record { samples = 0; major = 0; minor = 0 } ≡ told_as (outcome_says o)
  told_refused e = sym (ap (λ (x : Result (FileFormat × ℕ) Refusal). told_as (outcome_says x)) e)

pub ruleset tellings = (told_accepted, told_refused)

pub ruleset readings = (answers, stored, form_answers, form_stored, written, refused_number)

-- Registers

abbrev register_numbers : RegisterMeaning → VcfhRegister
register_numbers t = record { number = t.number; line = t.line; start = t.start; entries = t.entries; constants = t.constants }

module _ {f form : Form} (k : f ≡ form) {imposed wanted : Option Version} (e : imposed ≡ wanted) {h t : List ℕ} (a : RegisterRead) {t' : List ℕ} (call : RegisterCall f imposed h t a t') where
  asked_register : RegisterCall form wanted h t a t'
  asked_register = subst₂ (λ (x : Form) (i : Option Version). RegisterCall x i h t a t') k e call

  pub register_answers : {n : ℕ} → n ≡ register_number a.outcome
      → record { number = n; line = a.line; start = a.start; entries = a.entries; constants = a.constants } ≡ register_as (register_of (limits_by form) wanted (room form t) h)
  register_answers c = ap (λ k. record { number = k; line = a.line; start = a.start; entries = a.entries; constants = a.constants }) c ∙ ap register_numbers asked_register.answer

  pub register_stored : t' ≡ stored_in form t 0 (read_into form wanted t h).entries
  register_stored = asked_register.table

pub ruleset registers = (register_answers, register_stored)

pub compared : (old new : List ℕ) {d : Differences} → d ≡ listed_in_arrays (differing 1 old new) → record { count = d.count; wells = d.wells; old = d.old; new = d.new } ≡ differences_as (differing 1 old new)
compared old new e = ap (λ (x : Differences). record { count = x.count; wells = x.wells; old = x.old; new = x.new }) e

module _ (imposed major minor : ℕ) where
  pub not_imposed : imposed ≡ 0 → None ≡ imposed_by imposed major minor
  not_imposed e = rw (imposed_by, eq-eqb imposed 0 e)

  pub is_imposed : (imposed ≡ 0 → ⊥) → (f : FileFormat) → f ≡ record { major = major; minor = minor } → Some (version_of f) ≡ imposed_by imposed major minor
  is_imposed n f e = rw (imposed_by, ne_eqb imposed 0 n) (ap (λ g. Some (version_of g)) e)

pub ruleset imposing = (not_imposed, is_imposed)

module _ (form : ℕ) where
  pub names_second : form ≡ 2 → Second ≡ form_by form
  names_second e = rw (form_by, eq-eqb form 2 e)

  pub names_first : (form ≡ 2 → ⊥) → First ≡ form_by form
  names_first n = rw (form_by, ne_eqb form 2 n)

pub ruleset naming = (names_second, names_first)

-- UTF-8

module _ {q b : Bool} (a : q ≡ b) where
  pub flag_set : q ≡ true → 1 ≡ flag b
  flag_set e = sym (ap flag (sym a ∙ e))

  pub flag_clear : q ≡ false → 0 ≡ flag b
  flag_clear e = sym (ap flag (sym a ∙ e))

pub ruleset flags = (flag_set, flag_clear)

-- Oddly spelled numbers

module _ {g form : Form} (k : g ≡ form) (h t list : List ℕ) (major minor : ℕ) {f : FileFormat} (e : f ≡ record { major = major; minor = minor }) where
  under : odd_in g h t (version_of f) ≡ odd_in form h t (version major minor)
  under = ap₂ (λ (x : Form) (v : FileFormat). odd_in x h t (version_of v)) k e

  pub odd_answer_lem : {r : OddAnswer} → r ≡ odd_answer (length list) (odd_in g h t (version_of f)) → {n : ℕ} → n ≡ odd_number r.outcome
      → record { number = n; listed = r.listed } ≡ odd_as (odd_answer (length list) (odd_in form h t (version major minor)))
  odd_answer_lem {r} a {n} b = ap (odd_of r.listed) b ∙ ap odd_as (a ∙ ap (odd_answer (length list)) under)
    where
      odd_of : ℕ → ℕ → VcfhOdd
      odd_of listed n = record { number = n; listed = listed }

  pub odd_list_lem : {list' : List ℕ} → list' ≡ odd_list list (odd_in g h t (version_of f)) → list' ≡ odd_list list (odd_in form h t (version major minor))
  odd_list_lem a = a ∙ ap (odd_list list) under

pub ruleset odd = (odd_answer_lem, odd_list_lem)

-- Entries in another form

pub turned_told : (a : TurnAnswer) {n : ℕ} → n ≡ turn_number a.outcome → record { number = n; entries = a.entries } ≡ turned_as a
turned_told a e = ap (λ k. record { number = k; entries = a.entries }) e

pub turned_is : {a b : TurnAnswer} → a ≡ b → {r : VcfhTurned} → r ≡ turned_as a → r ≡ turned_as b
turned_is e q = q ∙ ap turned_as e

module _ (major minor : ℕ) {f : FileFormat} (e : f ≡ record { major = major; minor = minor }) (h s t : List ℕ) where
  pub turned_under : {a : TurnAnswer} → a ≡ turn_answer (to_second (version_of f)) h s t → {r : VcfhTurned} → r ≡ turned_as a → r ≡ turned_as (turn_answer (to_second (version major minor)) h s t)
  turned_under b q = q ∙ ap turned_as (b ∙ ap (λ (x : FileFormat). turn_answer (to_second (version_of x)) h s t) e)

  pub table_under : {t' : List ℕ} → t' ≡ turn_table (to_second (version_of f)) h s t → t' ≡ turn_table (to_second (version major minor)) h s t
  table_under b = b ∙ ap (λ (x : FileFormat). turn_table (to_second (version_of x)) h s t) e

pub ruleset turnings = (turned_told, turned_is, turned_under, table_under)
