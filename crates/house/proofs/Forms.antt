-- The whole form, and what becomes of it. Assumes nothing.
use Prim.Native.Nat.{ℕ, zero, suc, ◌+◌, ◌≤◌, ◌<◌, ◌^◌}
use native.Mathlib.Omega.{arith}
use mathlib.Core.Path.{◌≡◌, refl, sym, ap, ◌∙◌, subst}
use mathlib.Core.Bool.{Bool, true, false, false≢true}
use mathlib.Core.List.{List, [], ◌∷◌}
use Rattle.std.specs.Option.{option_or}
use Rattle.std.specs.Prelude.{None, Result, Ok, Err}
use lib.Dec.{leb}
use lib.ListN.{length, take, drop}
use borrow.Author.Tests.{eq-eqb, ne_eqb, le-leb, lt-leb, leb-true, leb-false}
use Rattle.values.specs.Bytes.{Bytes}
use Rattle.values.specs.Written.{onward}
use Rattle.values.proofs.Tests.{pass, fail, test}
use Rattle.rules.specs.Sizes.{Limits}
use Rattle.rules.specs.Lines.{write_lines}
use Rattle.rules.specs.Version.{Version}
use Rattle.rules.specs.Known.{typed_keys}
use Rattle.rules.specs.Record.{fileformat}
use Rattle.rules.specs.Entry.{Entry, columns_kind}
use Rattle.rules.specs.Shown.{line_in}
use Rattle.rules.specs.House.{write_record, too_long}
use Rattle.entries.specs.declared.entry.Entry.{Entry as CodeEntry}
use Rattle.entries.specs.Values.{entry_of}
use Rattle.entries.specs.Tables.{room, entries_in, entry_in}
use Rattle.entries.proofs.Stored.{entries_here, entries_past}
use Rattle.house.specs.declared.progress.Progress.{Progress}
use Rattle.house.specs.declared.form.FormRefusal.{FormRefusal}
use Rattle.house.specs.declared.form.FormRefusal.TheVariants.{TooLong, LineTooLong, NoRoom}
use Rattle.house.specs.Writes.{long_in, WroteLines}
use Rattle.house.specs.Keys.{AllListed, AreFormed, PutsKeys, PutsOthers}
use Rattle.house.proofs.Picks.{listed_on}
use Rattle.house.specs.Forms.{column_line, record_lines, form_lines, begun, PutsRecords, PutsForm, measured_as, outcome_of, fitted_as, lined_as, written_of, ComparesForm}
use Rattle.house.proofs.Writes.{lines_count, then_lines}
use Rattle.entries.specs.Values.{limits_of, limits_by}
use Rattle.entries.specs.declared.limits.Limits.{Limits as CodeLimits}
use Rattle.entries.proofs.Words.{limits_small}
use Rattle.entries.specs.declared.form.Form.{Form}

-- The scan for the column line: no entry before number k is one

pub record Columns (form : Form) (h : Bytes) (t : List ℕ) (k : ℕ) : Type 0 where
  pub still : column_line h (entries_in form t) ≡ column_line h (drop k (entries_in form t))

pub column_start : {form : Form} {h : Bytes} {t : List ℕ} → Columns form h t 0
column_start = record { still = refl }

module _ {form : Form} {h : Bytes} {t : List ℕ} {k : ℕ} (g : Columns form h t k) {n : ℕ} (en : n ≡ room form t) where
  pub column_end : n ≤ k → take 0 (drop 0 h) ≡ column_line h (entries_in form t)
  unfolding column_line
  column_end l = sym (g.still ∙ rw (entries_past form t k (rw (← en) l)))

  module _ (l : k < n) {e : CodeEntry} (ee : entry_of e ≡ entry_in form t k) where
    here : drop k (entries_in form t) ≡ entry_of e ∷ drop (k + 1) (entries_in form t)
    here = entries_here form t k (rw (← en) l) ∙ ap (◌∷ drop (k + 1) (entries_in form t)) (sym ee)

    pub column_here : e.kind ≡ columns_kind → {p : Bytes} → p ≡ line_in h (entry_of e) → p ≡ column_line h (entries_in form t)
    unfolding column_line
    column_here q f = f ∙ sym (g.still ∙ rw (here, eq-eqb e.kind columns_kind q))

    pub column_later : (e.kind ≡ columns_kind → ⊥) → Columns form h t (k + 1)
    unfolding column_line
    column_later q = record { still = g.still ∙ rw (here, ne_eqb e.kind columns_kind q) }

pub ruleset columns = (column_start, column_end, column_here, column_later)

-- A table that came back from a call as it was

pub still_entries : (form : Form) {t t' : List ℕ} → t' ≡ t → entries_in form t' ≡ entries_in form t
still_entries form e = ap (entries_in form) e

-- what answers the needs of `put_records` and `put_form`
module _ {v : Version} {h : Bytes} {es : List Entry} {given old : Bytes} where
  pub records_put : {s r : Progress} {o : Bytes} → PutsKeys v h es typed_keys given old s r o → {r' : Progress} {o' : Bytes} → PutsOthers v h es given o r r' o' → PutsRecords v h es given old s r' o'
  unfolding record_lines
  records_put p q = record { is = λ a. let w = p.is a in then_lines w (q.is (listed_on w v h es a)) }

  pub form_put : {limit : ℕ} {formed : Bool} {r₁ : Progress} {o₁ : Bytes} → WroteLines given old (begun limit formed) (write_record (fileformat v) ∷ []) r₁ o₁ → {r₂ : Progress} {o₂ : Bytes} → PutsRecords v h es given o₁ r₁ r₂ o₂
      → {l : Bytes} {es' : List Entry} → l ≡ column_line h es' → es' ≡ es → {r₃ : Progress} {o₃ : Bytes} → WroteLines given o₂ r₂ (l ∷ []) r₃ o₃ → PutsForm limit formed v h es given old r₃ o₃
  unfolding form_lines
  form_put p q e i t = record { is = λ a. then_lines p (then_lines (q.is (listed_on p v h es a)) (rw (e, i) at t)) }

pub ruleset form_puts = (form_put, still_entries)

-- What becomes of a form; m is what the measuring of it told

module _ (lim : Limits) (small : lim.header < 2 ^ 24) {v : Version} {h : Bytes} {es : List Entry} {given none_out none_left : Bytes} {m : Progress} {f : Bool} (p : PutsForm lim.line f v h es given none_out m none_left)
    (a : AllListed f v h es) where
  abbrev ls : List Bytes
  ls = form_lines v h es

  abbrev size : ℕ
  size = length (write_lines ls)

  at_size : m.next.at ≡ onward 0 size
  at_size = (p.is a).text.place

  whole_size : m.next.at ≤ lim.header → m.next.at ≡ size
  unfolding onward
  whole_size l = omega (arith, at_size, small)

  first_long : m.next.at ≤ lim.header → long_in m ≡ too_long lim.line 0 0 ls
  first_long l =
      let s = whole_size l in
      (p.is a).long (omega (arith, s, small)) (omega (arith, s, small, lines_count ls))

  measured_is : (room : ℕ) → measured_as lim room m ≡ outcome_of lim room ls
  unfolding measured_as outcome_of onward
  measured_is room = elim (test (leb m.next.at lim.header)) [
    | pass q ↦
        let l = leb-true m.next.at lim.header q in
        let s = whole_size l in
        rw (measured_as, q, first_long l, s, outcome_of, rw s at q)
    | fail q ↦ rw (measured_as, q, outcome_of, lt-leb size lim.header (omega (arith, at_size, leb-false m.next.at lim.header q)))
  ]

abbrev pub is_whole : Result ℕ FormRefusal → Bool
is_whole (Ok n) = true
is_whole (Err TooLong) = false
is_whole (Err (LineTooLong l s)) = false
is_whole (Err NoRoom) = false

pub is_whole_lem : (o : Result ℕ FormRefusal) → is_whole o ≡ true → (ls : List Bytes) → written_of o ls ≡ write_lines ls
is_whole_lem (Ok n) e ls = refl
is_whole_lem (Err TooLong) e ls = absurd (false≢true e)
is_whole_lem (Err (LineTooLong l s)) e ls = absurd (false≢true e)
is_whole_lem (Err NoRoom) e ls = absurd (false≢true e)

-- the code has the form's limits in hand
module _ (form : Form) {limits : CodeLimits} (g : limits_of limits ≡ limits_by form) {v : Version} {h : Bytes} {es : List Entry} {given none_out none_left : Bytes} {m : Progress}
    {f : Bool} (p : PutsForm limits.line f v h es given none_out m none_left) (k : AreFormed v h es f) where
  small : limits.header < 2 ^ 24
  small = subst (λ (x : Limits). x.header < 2 ^ 24) (sym g) (limits_small form)

  outcome_is : (room : ℕ) {o : Result ℕ FormRefusal} → o ≡ measured_as (limits_of limits) room m → AllListed false v h es → o ≡ outcome_of (limits_by form) room (form_lines v h es)
  outcome_is room e a = e ∙ measured_is (limits_of limits) small p (k.is a) room ∙ ap (λ (x : Limits). outcome_of x room (form_lines v h es)) g

-- what answers the needs of `compare_form`
pub form_compared : (form : Form) {limits : CodeLimits} → limits_of limits ≡ limits_by form → {v : Version} {h : Bytes} {es : List Entry} {none_out none_left : Bytes} {m : Progress}
    → {f : Bool} → AreFormed v h es f → PutsForm limits.line f v h es h none_out m none_left → {o : Result ℕ FormRefusal} → o ≡ measured_as (limits_of limits) limits.header m
    → ComparesForm (limits_by form) v h es (record { outcome = o; differs = m.next.differs })
form_compared form {limits} g {v} {h} {es} k p e = record {
  is = λ a. outcome_is form g p k limits.header e a ∙ ap (λ (x : Limits). outcome_of (limits_by form) x.header (form_lines v h es)) g;
  differs = λ a. (p.is (k.is a)).text.differs;
}

-- what answers the needs of `outcome_of`
module _ (lim : Limits) (room : ℕ) (m : Progress) where
  pub outcome_long : lim.header < m.next.at → Err TooLong ≡ measured_as lim room m
  unfolding measured_as
  outcome_long l = rw (measured_as, lt-leb m.next.at lim.header l)

  module _ (l : m.next.at ≤ lim.header) where
    within : measured_as lim room m ≡ lined_as room m.next.at (long_in m)
    unfolding measured_as
    within = rw (measured_as, le-leb m.next.at lim.header l)

    pub outcome_line : 0 < m.long → Err (LineTooLong m.long m.start) ≡ measured_as lim room m
    outcome_line b = go m.long refl ∙ sym within
      where
        go : (k : ℕ) → m.long ≡ k → Err (LineTooLong m.long m.start) ≡ lined_as room m.next.at (long_in m)
        go zero e = absurd (omega arith)
        go (suc n) e = rw e

    module _ (b : m.long ≤ 0) where
      no_line : long_in m ≡ None
      no_line = let z : m.long ≡ 0 = omega arith in rw z

      pub outcome_room : room < m.next.at → Err NoRoom ≡ measured_as lim room m
      outcome_room r = sym (within ∙ rw no_line (rw (lined_as, fitted_as, lt-leb m.next.at room r)))

      pub outcome_whole : m.next.at ≤ room → Ok m.next.at ≡ measured_as lim room m
      outcome_whole r = sym (within ∙ rw no_line (rw (lined_as, fitted_as, le-leb m.next.at room r)))

pub ruleset outcomes = (outcome_long, outcome_line, outcome_room, outcome_whole)
