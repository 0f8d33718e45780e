-- The walk over a table's entries, and the loops over the wells, a turn of each on plain values. Assumes nothing.
use Prim.Native.Nat.{ℕ, zero, suc, ◌+◌, ◌-◌, ◌≤◌, ◌<◌}
use native.Mathlib.Omega.{arith}
use native.Mathlib.Decide.{dec_le}
use mathlib.Core.Path.{◌≡◌, refl, sym, ap, subst, ◌∙◌}
use mathlib.Core.Bool.{Bool, true, false, true≢false}
use mathlib.Core.List.{List, [], ◌∷◌}
use Rattle.std.specs.Prelude.{Option, None, Some}
use lib.Dec.{eqb}
use lib.ListN.{length, get_or, set, length-set, drop, take, replicate, length-replicate, get_or-replicate}
use lib.Seq.{sets, get_or-set_same, get_or-set_other}
use borrow.Author.Tests.{eq-eqb, ne_eqb, eqb-true, eqb-false}
use Rattle.values.specs.Bytes.{Bytes, ascii, starts}
use Rattle.values.specs.Field.{Field}
use Rattle.values.specs.declared.string.Text.{Text}
use Rattle.values.proofs.Tests.{pass, fail, test, never}
use Rattle.values.proofs.Lists.{some_is, none_not}
use Rattle.rules.specs.Entry.{Entry}
use Rattle.rules.specs.Shown.{line_in, id_in}
use Rattle.entries.specs.declared.entry.Entry.{Entry as CodeEntry}
use Rattle.entries.specs.Values.{entry_of}
use Rattle.entries.specs.declared.form.Form.{Form}
use Rattle.entries.specs.Tables.{room, entries_in, entry_in}
use Rattle.entries.proofs.Stored.{entries_here, entries_past}
use Rattle.ids.specs.Clashes.{has_key}
use Rattle.register.specs.Cells.{well_of, hundredths, Cell, constant_of, first_of, wells_from, wells}
use Rattle.register.specs.Register.{absent, fault_in, fault_of, faulty, or_zero, constant_in, constants}
use Rattle.register.specs.Wells.{WellTold, constant_read, is_cell, constant_at, cell_in, cells_by, cells_in, table_cells, cell_line, Lines, StartTold, ConstantTold, MissingTold, filled, plate_of, ConstantsTold}
use Rattle.register.proofs.Raw.{constant_raw}
use Rattle.register.proofs.Listed.{there, gone, see, first_here, first_later, faulty_here, faulty_later}
use Rattle.rules.specs.Map.{field_keyed, fields_at}
use Rattle.records.specs.Fields.{FoundIs, FindsField}

-- what answers the needs of `is_cell`
module _ (h : Bytes) (e : CodeEntry) where
  pub cell_other : (e.kind ≡ 7 → ⊥) → eqb e.kind 7 ≡ is_cell h (entry_of e)
  unfolding has_key
  cell_other n = rw (ne_eqb e.kind 7 n)

  pub cell_line_lem : e.kind ≡ 7 → {p : Bytes} → p ≡ line_in h (entry_of e) → {r : Bool} → r ≡ starts (ascii "##cell=") p → r ≡ is_cell h (entry_of e)
  unfolding has_key
  cell_line_lem k q r = r ∙ rw (eq-eqb e.kind 7 k, q)

pub ruleset is_cells = (cell_other, cell_line_lem)

-- what answers the needs of `start_of` and `constant_on`
pub start_none : (form : Form) (t : List ℕ) {line : ℕ} → line ≡ 0 → StartTold form t line 0
start_none form t e = record { is = λ l. absurd (omega arith) }

pub start_is : {form : Form} {t : List ℕ} {line : ℕ} {e : CodeEntry} → entry_of e ≡ entry_in form t (line - 1) → StartTold form t line e.start
start_is q = record { is = λ l. ap (λ (x : Entry). x.start) q }

pub ruleset start_tolds = (start_none, start_is)

pub on_none : (form : Form) (h : Bytes) (t : List ℕ) {line : ℕ} → line ≡ 0 → ConstantTold form h t line None
on_none form h t e = record { is = λ l. absurd (omega arith) }

pub on_is : (h : Bytes) {form : Form} {t : List ℕ} {line : ℕ} {e : CodeEntry} → entry_of e ≡ entry_in form t (line - 1) → {r : Option ℕ} → r ≡ constant_read (constant_at h (entry_of e)) → ConstantTold form h t line r
on_is h q r = record { is = λ l. r ∙ ap (λ (x : Entry). constant_read (constant_at h x)) q }

pub ruleset constants_on = (on_none, on_is)

-- what answers the needs of `constant_of`
module _ (h : Bytes) (e : CodeEntry) {p : Bytes} (q : p ≡ line_in h (entry_of e)) {r : Option Text} (f : FindsField false p 8 (ascii "K") r) where
  abbrev named : Option Field
  named = field_keyed (ascii "K") (fields_at false p 8)

  at_line : constant_at h (entry_of e) ≡ constant_of named
  unfolding constant_at
  at_line = rw (← q)

  pub constant_none : r ≡ None → None ≡ constant_read (constant_at h (entry_of e))
  constant_none m = sym (ap constant_read (at_line ∙ go named (subst (FoundIs p named) m f.value)))
    where
      go : (o : Option Field) → FoundIs p o None → constant_of o ≡ None
      go None x = refl
      go (Some g) x = absurd x

  pub constant_found : {t : Text} → r ≡ Some t → {b : Bytes} → b ≡ take (t.end - t.start) (drop t.start p) → {c : Option ℕ} → c ≡ constant_read (hundredths b)
      → c ≡ constant_read (constant_at h (entry_of e))
  constant_found {t} m {b} i c = c ∙ ap constant_read (sym (at_line ∙ go named (subst (FoundIs p named) m f.value)))
    where
      go : (o : Option Field) → FoundIs p o (Some t) → constant_of o ≡ hundredths b
      go None x = absurd x
      go (Some g) x = ap hundredths (sym x.0) ∙ constant_raw t.quoted (take (t.end - t.start) (drop t.start p)) ∙ ap hundredths (sym i)

pub ruleset constants_of = (constant_none, constant_found)

-- The walk

no_lines : Lines [] (replicate 41 0)
unfolding first_of
no_lines = record { long = length-replicate {0} {A = ℕ} 41 0; each = λ w l. get_or-replicate {0} {A = ℕ} 41 w 0 0 (omega arith) }

more_lines : {cs : List Cell} {ls : List ℕ} (c : Cell) → c.well ≤ 40 → Lines cs ls → Lines (c ∷ cs) (set ls c.well c.line)
more_lines {cs} {ls} c s g = record {
  long = length-set ls c.well c.line ∙ g.long;
  each = λ w l. elim (test (eqb c.well w)) [
    | pass e ↦ rw (← eqb-true c.well w e) (get_or-set_same ls c.well c.line 0 (omega (arith, g.long))) ∙ ap cell_line (sym (first_here w c cs e))
    | fail e ↦ get_or-set_other ls c.well w c.line 0 (λ q. eqb-false c.well w e (sym q)) ∙ g.each w l ∙ ap cell_line (sym (first_later w c cs e))
  ];
}

-- the lines of the entries from number k on are found
pub record Walked (form : Form) (h : Bytes) (t ls : List ℕ) (k : ℕ) : Type 0 where
  pub within : k ≤ room form t
  pub lines : Lines (cells_in h (k + 1) (drop k (entries_in form t))) ls

pub walk_start : (h : Bytes) {form : Form} {t : List ℕ} {n : ℕ} → n ≡ room form t → Walked form h t (replicate 41 0) n
unfolding cells_in
walk_start h {form} {t} {n} e = record { within = omega arith; lines = rw (entries_past form t n (omega arith)) no_lines }

module _ {form : Form} {h : Bytes} {t ls : List ℕ} {k : ℕ} (g : Walked form h t ls k) (l : 0 < k) {e : CodeEntry} (ee : entry_of e ≡ entry_in form t (k - 1)) {q : Bool} (u : q ≡ is_cell h (entry_of e)) where
  step : cells_in h (k - 1 + 1) (drop (k - 1) (entries_in form t)) ≡ cells_by q (cell_in h k (entry_of e)) (cells_in h (k + 1) (drop k (entries_in form t)))
  unfolding cells_in
  step =
      let i : k - 1 + 1 ≡ k = omega arith in
      rw (entries_here form t (k - 1) (omega (arith, g.within)), ← ee, ← u, i)

  pub walk_more : q ≡ true → {p : Bytes} → p ≡ id_in h (entry_of e) → {w : ℕ} → WellTold p w → Walked form h t (set ls w k) (k - 1)
  walk_more f {p} i {w} a =
      let j : w ≡ well_of (id_in h (entry_of e)) = a.is ∙ ap well_of i in
      record {
        within = omega (arith, g.within);
        lines = rw (step, f, j) (more_lines (cell_in h k (entry_of e)) (rw j at a.small) g.lines);
      }

  pub walk_other : q ≡ false → Walked form h t ls (k - 1)
  walk_other f = record { within = omega (arith, g.within); lines = rw (step, f) g.lines }

pub walk_end : {form : Form} {h : Bytes} {t ls : List ℕ} {k : ℕ} → Walked form h t ls k → k ≤ 0 → Lines (table_cells form h t) ls
walk_end {h} {t} {ls} {k} g l = let z : k ≡ 0 = omega arith in rw z at g.lines

pub ruleset walks = (walk_start, walk_more, walk_other, walk_end)

-- Where a cell comes from

-- the entry of a cell: its number is one less than the line's
pub record From (form : Form) (h : Bytes) (t : List ℕ) (c : Cell) : Type 0 where
  pub above : 1 ≤ c.line
  pub start : c.start ≡ (entry_in form t (c.line - 1)).start
  pub constant : c.constant ≡ constant_at h (entry_in form t (c.line - 1))

from_table : (form : Form) (h : Bytes) (t : List ℕ) (n k w : ℕ) → room form t ≤ n + k → {c : Cell} → first_of w (cells_in h (k + 1) (drop k (entries_in form t))) ≡ Some c → From form h t c
unfolding cells_in first_of
from_table form h t zero k w l e = none_not (rw (entries_past form t k (omega arith)) at e)
from_table form h t (suc n) k w l {c} e = elim (dec_le (room form t) k) [
  | yes p ↦ none_not (rw (entries_past form t k p) at e)
  | no p ↦
      let i : k < room form t = omega arith in
      let x = entry_in form t k in
      let rest = cells_in h (k + 1 + 1) (drop (k + 1) (entries_in form t)) in
      let d : first_of w (cells_by (is_cell h x) (cell_in h (k + 1) x) rest) ≡ Some c = rw (entries_here form t k i) at e in
      elim (test (is_cell h x)) [
        | fail f ↦ from_table form h t n (k + 1) w (omega arith) (rw f at d)
        | pass f ↦ let s : first_of w (cell_in h (k + 1) x ∷ rest) ≡ Some c = rw f at d in
            elim (test (eqb (well_of (id_in h x)) w)) [
              | fail o ↦ from_table form h t n (k + 1) w (omega arith) (sym (first_later w (cell_in h (k + 1) x) rest o) ∙ s)
              | pass o ↦ here k (some_is (sym (first_here w (cell_in h (k + 1) x) rest o) ∙ s))
            ]
      ]
]
  where
    here : (k : ℕ) → cell_in h (k + 1) (entry_in form t k) ≡ c → From form h t c
    here k y = rw (← y) (let i : k + 1 - 1 ≡ k = omega arith in record { above = omega arith; start = rw i; constant = rw i })

pub from_entry : (form : Form) (h : Bytes) (t : List ℕ) (w : ℕ) {c : Cell} → first_of w (table_cells form h t) ≡ Some c → From form h t c
from_entry form h t w e = from_table form h t (room form t) 0 w (omega arith) e

-- a well's line is 0 only where it has none
line_none : (form : Form) (h : Bytes) (t : List ℕ) (w : ℕ) → cell_line (first_of w (table_cells form h t)) ≡ 0 → first_of w (table_cells form h t) ≡ None
line_none form h t w z = elim (see (first_of w (table_cells form h t))) [
  | gone e ↦ e
  | there c e ↦ let k : c.line ≡ 0 = sym (ap cell_line e) ∙ z in absurd (omega (arith, (from_entry form h t w e).above))
]

-- The loop that looks for a missing well: those before w have their lines

pub record Missing (ls : List ℕ) (w : ℕ) : Type 0 where
  pub low : 1 ≤ w
  pub high : w ≤ 41
  pub still : (form : Form) (h : Bytes) (t : List ℕ) → Lines (table_cells form h t) ls → absent (wells_from w (41 - w)) (table_cells form h t) ≡ absent wells (table_cells form h t)

pub missing_start : (ls : List ℕ) → Missing ls 1
missing_start ls = record { low = omega arith; high = omega arith; still = λ form h t g. refl }

-- the wells from w on, one by one
wells_step : (w n : ℕ) → wells_from w (suc n) ≡ w ∷ wells_from (w + 1) n
unfolding wells_from
wells_step w n = refl

absent_first : (w : ℕ) (ws : List ℕ) (cs : List Cell) → first_of w cs ≡ None → absent (w ∷ ws) cs ≡ true
unfolding absent
absent_first w ws cs e = rw e

absent_rest : (w : ℕ) (ws : List ℕ) (cs : List Cell) {c : Cell} → first_of w cs ≡ Some c → absent (w ∷ ws) cs ≡ absent ws cs
unfolding absent
absent_rest w ws cs e = rw e

module _ {ls : List ℕ} {w : ℕ} (g : Missing ls w) where
  module _ (l : w ≤ 40) where
    step_wells : wells_from w (41 - w) ≡ w ∷ wells_from (w + 1) (41 - (w + 1))
    step_wells = let i : 41 - w ≡ suc (41 - (w + 1)) = omega arith in rw i (wells_step w (41 - (w + 1)))

    pub missing_here : get_or ls w 0 ≡ 0 → MissingTold ls true
    missing_here z = record {
      is = λ form h t a. let cs = table_cells form h t in
          sym (absent_first w (wells_from (w + 1) (41 - (w + 1))) cs (line_none form h t w (sym (a.each w l) ∙ z))) ∙ ap (λ (ws : List ℕ). absent ws cs) (sym step_wells) ∙ g.still form h t a;
    }

    pub missing_next : (get_or ls w 0 ≡ 0 → ⊥) → Missing ls (w + 1)
    missing_next n = record {
      low = omega arith;
      high = omega arith;
      still = λ form h t a. let cs = table_cells form h t in elim (see (first_of w cs)) [
        | gone e ↦ absurd (n (a.each w l ∙ ap cell_line e))
        | there c e ↦ sym (ap (λ (ws : List ℕ). absent ws cs) step_wells ∙ absent_rest w (wells_from (w + 1) (41 - (w + 1))) cs e) ∙ g.still form h t a
      ];
    }

  pub missing_none : 40 < w → MissingTold ls false
  unfolding wells_from absent
  missing_none l = record { is = λ form h t a. let i : 41 - w ≡ 0 = omega (arith, g.high) in let z : absent (wells_from w (41 - w)) (table_cells form h t) ≡ false = rw i in sym z ∙ g.still form h t a }

pub ruleset missings = (missing_start, missing_here, missing_next, missing_none)

-- The loop over the constants: those of the wells before number w are found

pub record Fills (cs : List Cell) (found : List ℕ) (w : ℕ) : Type 0 where
  pub there_are : absent (wells_from (w + 1) (40 - w)) cs ≡ false
  pub fault : faulty (wells_from (w + 1) (40 - w)) cs ≡ faulty wells cs
  pub list : sets found w (constants (wells_from (w + 1) (40 - w)) cs) ≡ filled (constants wells cs)

pub record Filling (form : Form) (h : Bytes) (t ls found : List ℕ) (w : ℕ) : Type 0 where
  pub within : w ≤ 40
  pub size : length found ≡ 40
  pub still : Lines (table_cells form h t) ls → absent wells (table_cells form h t) ≡ false → Fills (table_cells form h t) found w

pub fill_start : (form : Form) (h : Bytes) (t ls : List ℕ) → Filling form h t ls (replicate 40 0) 0
fill_start form h t ls = record { within = omega arith; size = length-replicate {0} {A = ℕ} 40 0; still = λ a b. record { there_are = b; fault = refl; list = refl } }

constants_step : (w : ℕ) (ws : List ℕ) (cs : List Cell) → constants (w ∷ ws) cs ≡ constant_in (first_of w cs) ∷ constants ws cs
unfolding constants
constants_step w ws cs = refl

-- no wells are left
none_left : (w : ℕ) (cs : List Cell) → (faulty (wells_from w 0) cs ≡ None) × (constants (wells_from w 0) cs ≡ [])
unfolding wells_from faulty constants
none_left w cs = (refl, refl)

read_none : (o : Option ℕ) → None ≡ constant_read o → o ≡ None
read_none o e = go o e
  where
    go : (o : Option ℕ) → None ≡ constant_read o → o ≡ None
    go None e = refl
    go (Some n) e = never cc

read_some : (o : Option ℕ) {n : ℕ} → Some n ≡ constant_read o → o ≡ Some n
read_some o {n} e = go o e
  where
    go : (o : Option ℕ) → Some n ≡ constant_read o → o ≡ Some n
    go None e = never cc
    go (Some m) e = let q : n ≡ m = cc in ap Some (sym q)

module _ {form : Form} {h : Bytes} {t ls found : List ℕ} {w : ℕ} (g : Filling form h t ls found w) where
  abbrev cs : List Cell
  cs = table_cells form h t

  abbrev ws : List ℕ
  ws = wells_from (w + 1 + 1) (40 - (w + 1))

  module _ (l : w < 40) {line : ℕ} (el : line ≡ get_or ls (w + 1) 0) {r : Option ℕ} (told : ConstantTold form h t line r) where
    fill_wells : wells_from (w + 1) (40 - w) ≡ (w + 1) ∷ ws
    fill_wells = let i : 40 - w ≡ suc (40 - (w + 1)) = omega arith in rw i (wells_step (w + 1) (40 - (w + 1)))

    -- the cell of this well, and what was read of it
    record Here : Type 0 where
      cell : Cell
      first : first_of (w + 1) cs ≡ Some cell
      on_line : line ≡ cell.line
      read : r ≡ constant_read cell.constant

    here : Lines cs ls → absent (wells_from (w + 1) (40 - w)) cs ≡ false → Here
    here a b = elim (see (first_of (w + 1) cs)) [
      | gone e ↦ absurd (true≢false (sym (absent_first (w + 1) ws cs e) ∙ ap (λ (x : List ℕ). absent x cs) (sym fill_wells) ∙ b))
      | there c e ↦
          let f = from_entry form h t (w + 1) e in
          let i : line ≡ c.line = el ∙ a.each (w + 1) (omega arith) ∙ ap cell_line e in
          record {
            cell = c;
            first = e;
            on_line = i;
            read = told.is (omega (arith, f.above, i)) ∙ ap (λ (k : ℕ). constant_read (constant_at h (entry_in form t (k - 1)))) i ∙ ap constant_read (sym f.constant);
          }
    ]

    pub fill_fault : r ≡ None → ConstantsTold form h t ls (record { fault = line; constants = replicate 40 0 })
    fill_fault e = record {
      is = λ a b.
          let s = g.still a b in
          let x = here a s.there_are in
          let n = read_none x.cell.constant (sym e ∙ x.read) in
          let f : faulty wells cs ≡ Some x.cell = sym s.fault ∙ ap (λ (y : List ℕ). faulty y cs) fill_wells ∙ faulty_here (w + 1) ws cs (ap fault_of x.first ∙ ap (fault_in x.cell) n) in
          ap (λ (k : ℕ). record { fault = k; constants = filled [] }) x.on_line ∙ ap (plate_of cs) (sym f);
    }

    pub fill_more : {n : ℕ} → r ≡ Some n → Filling form h t ls (set found w n) (w + 1)
    fill_more {n} e = record {
      within = omega arith;
      size = length-set found w n ∙ g.size;
      still = λ a b.
          let s = g.still a b in
          let x = here a s.there_are in
          let m = read_some x.cell.constant (sym e ∙ x.read) in
          let y : constant_in (first_of (w + 1) cs) ≡ n = ap constant_in x.first ∙ in_cell x.cell m in
          record {
            there_are = sym (absent_rest (w + 1) ws cs x.first) ∙ ap (λ (z : List ℕ). absent z cs) (sym fill_wells) ∙ s.there_are;
            fault = sym (faulty_later (w + 1) ws cs (ap fault_of x.first ∙ ap (fault_in x.cell) m)) ∙ ap (λ (z : List ℕ). faulty z cs) (sym fill_wells) ∙ s.fault;
            list = next y ∙ s.list;
          };
    }
      where
        in_cell : (c : Cell) → c.constant ≡ Some n → constant_in (Some c) ≡ n
        in_cell c m = ap or_zero m

        next : constant_in (first_of (w + 1) cs) ≡ n → sets (set found w n) (w + 1) (constants ws cs) ≡ sets found w (constants (wells_from (w + 1) (40 - w)) cs)
        next y =
            let i : w + 1 ≡ suc w = omega arith in
            ap (λ (k : ℕ). sets (set found w n) k (constants ws cs)) i
            ∙ sym (ap (sets found w) (ap (λ (z : List ℕ). constants z cs) fill_wells ∙ constants_step (w + 1) ws cs ∙ ap (◌∷ constants ws cs) y))

  pub fill_end : 40 ≤ w → ConstantsTold form h t ls (record { fault = 0; constants = found })
  fill_end l = record {
    is = λ a b.
        let s = g.still a b in
        let i : 40 - w ≡ 0 = omega arith in
        let n = none_left (w + 1) cs in
        let f : faulty wells cs ≡ None = sym s.fault ∙ rw i n.0 in
        let x : sets found w (constants (wells_from (w + 1) 0) cs) ≡ filled (constants wells cs) = rw i at s.list in
        let y : found ≡ filled (constants wells cs) = rw n.1 at x in
        rw f (ap (λ (k : List ℕ). record { fault = 0; constants = k }) y);
  }

pub ruleset fills = (fill_start, fill_fault, fill_more, fill_end)
