-- The cells of a header's records, and what an accepted register says of each well. Assumes nothing.
use Prim.Native.Nat.{ℕ, zero, suc, ◌+◌, ◌<◌}
use native.Mathlib.Omega.{arith}
use mathlib.Core.Path.{◌≡◌, refl, sym, ap, ◌∙◌}
use mathlib.Core.Bool.{true, false, true≢false}
use mathlib.Core.List.{List, [], ◌∷◌}
use Rattle.std.specs.Prelude.{Option, None, Some}
use lib.Dec.{eqb}
use lib.ListN.{length, get_or}
use borrow.Author.Tests.{eqb-true}
use Rattle.values.specs.Bytes.{Bytes, ascii, same}
use Rattle.values.specs.Field.{Field}
use Rattle.values.proofs.Tests.{pass, fail, test, or_l, or_r}
use Rattle.values.proofs.Lists.{some_is, none_not}
use Rattle.values.proofs.Sames.{same_sound}
use Rattle.rules.specs.Version.{Version}
use Rattle.rules.specs.Map.{field_named, value_named}
use Rattle.rules.specs.Record.{Record, fileformat, fields, text}
use Rattle.rules.specs.Entry.{Entry}
use Rattle.register.specs.Cells.{well_of, Cell, constant_of, cell_of, declared, cells, first_of, wells_from}
use Rattle.register.specs.Register.{is_absent, absent, fault_in, fault_of, faulty, or_zero, constant_in, constants}
use Rattle.rules.specs.Claims.{nth}

-- an option by cases, with the equation kept
pub data Seen {A : Type 0} (a : Option A) : Type 0 where
  there : (x : A) → a ≡ Some x → Seen a
  gone : a ≡ None → Seen a

pub see : {A : Type 0} (a : Option A) → Seen a
see None = gone refl
see (Some x) = there x refl

-- The first cell of a well

module _ (w : ℕ) (c : Cell) (cs : List Cell) where
  pub first_here : eqb c.well w ≡ true → first_of w (c ∷ cs) ≡ Some c
  unfolding first_of
  first_here e = rw (e, first_of)

  pub first_later : eqb c.well w ≡ false → first_of w (c ∷ cs) ≡ first_of w cs
  unfolding first_of
  first_later e = rw (e, first_of)

-- Wells that are all declared with a constant

-- the well w has its cell, with n hundredths
pub record Set (cs : List Cell) (w n : ℕ) : Type 0 where
  pub cell : Cell
  pub first : first_of w cs ≡ Some cell
  pub constant : cell.constant ≡ Some n

module _ (w : ℕ) (ws : List ℕ) (cs : List Cell) where
  pub absent_here : absent (w ∷ ws) cs ≡ false → is_absent (first_of w cs) ≡ false
  unfolding absent
  absent_here e = or_l (is_absent (first_of w cs)) (absent ws cs) e

  pub absent_later : absent (w ∷ ws) cs ≡ false → absent ws cs ≡ false
  unfolding absent
  absent_later e = or_r (is_absent (first_of w cs)) (absent ws cs) e

  pub faulty_here : {c : Cell} → fault_of (first_of w cs) ≡ Some c → faulty (w ∷ ws) cs ≡ Some c
  unfolding faulty
  faulty_here e = rw (e, faulty)

  pub faulty_later : fault_of (first_of w cs) ≡ None → faulty (w ∷ ws) cs ≡ faulty ws cs
  unfolding faulty
  faulty_later e = rw (e, faulty)

  -- no fault among them: none here
  pub faultless : faulty (w ∷ ws) cs ≡ None → fault_of (first_of w cs) ≡ None
  faultless e = elim (see (fault_of (first_of w cs))) [ gone q ↦ q | there c q ↦ none_not (sym e ∙ faulty_here q) ]

  set_here : absent (w ∷ ws) cs ≡ false → faulty (w ∷ ws) cs ≡ None → Set cs w (constant_in (first_of w cs))
  set_here a f = elim (see (first_of w cs)) [
    | gone e ↦ absurd (true≢false (rw e at (absent_here a)))
    | there c e ↦ elim (see c.constant) [
      | there n q ↦ record { cell = c; first = e; constant = q ∙ ap Some (sym (ap constant_in e ∙ ap or_zero q)) }
      | gone q ↦ none_not (sym (faultless f) ∙ ap fault_of e ∙ ap (fault_in c) q)
    ]
  ]

pub each_set : (cs : List Cell) (a k : ℕ) → absent (wells_from a k) cs ≡ false → faulty (wells_from a k) cs ≡ None → (i : ℕ) → i < k
    → Set cs (a + i) (get_or (constants (wells_from a k) cs) i 0)
unfolding wells_from constants
each_set cs a zero x f i l = absurd (omega arith)
each_set cs a (suc k) x f zero l =
    let e : a + 0 ≡ a = omega arith in
    rw e (set_here a (wells_from (a + 1) k) cs x f)
each_set cs a (suc k) x f (suc i) l =
    let e : a + suc i ≡ a + 1 + i = omega arith in
    let ws = wells_from (a + 1) k in
    rw e (each_set cs (a + 1) k (absent_later a ws cs x) (sym (faulty_later a ws cs (faultless a ws cs f)) ∙ f) i (omega arith))

pub constants_count : (cs : List Cell) (a k : ℕ) → length (constants (wells_from a k) cs) ≡ k
unfolding wells_from constants
constants_count cs a zero = refl
constants_count cs a (suc k) = ap suc (constants_count cs (a + 1) k)

-- Where a cell comes from

-- record i is a `##cell` map of the well w, and its K is k
pub record CellAt (v : Version) (rs : List Record) (i w : ℕ) (k : Option ℕ) : Type 0 where
  pub fs : List Field
  pub is : nth rs i ≡ Some (fields (ascii "cell") fs)
  pub well : well_of (value_named v (ascii "cell") (ascii "ID") fs) ≡ w
  pub constant : constant_of (field_named v (ascii "cell") (ascii "K") fs) ≡ k

-- the record of a cell; it stands so many lines further
pub record Found (v : Version) (line : ℕ) (rs : List Record) (w : ℕ) (c : Cell) : Type 0 where
  pub at : ℕ
  pub there : CellAt v rs at w c.constant
  pub line_is : c.line ≡ line + at

later : {v : Version} {line : ℕ} {r : Record} {rs : List Record} {w : ℕ} {c : Cell} → Found v (line + 1) rs w c → Found v line (r ∷ rs) w c
later f = record {
  at = suc f.at;
  there = record { fs = f.there.fs; is = f.there.is; well = f.there.well; constant = f.there.constant };
  line_is = omega (arith, f.line_is);
}

pub first_found : (v : Version) (line : ℕ) (es : List Entry) (rs : List Record) (w : ℕ) {c : Cell} → first_of w (cells v line es rs) ≡ Some c → Found v line rs w c
unfolding cells declared first_of
first_found v line [] rs w e = none_not e
first_found v line (x ∷ es) [] w e = none_not e
first_found v line (x ∷ es) (fileformat u ∷ rs) w e = later (first_found v (line + 1) es rs w e)
first_found v line (x ∷ es) (text k t ∷ rs) w e = later (first_found v (line + 1) es rs w e)
first_found v line (x ∷ es) (fields k fs ∷ rs) w {c} e = elim (test (same k (ascii "cell"))) [
  | fail q ↦ later (first_found v (line + 1) es rs w (rw (q, declared) at e))
  | pass q ↦
      let y = cell_of v line x.start k fs in
      let d : first_of w (y ∷ cells v (line + 1) es rs) ≡ Some c = rw (q, declared) at e in
      elim (test (eqb y.well w)) [
        | fail n ↦ later (first_found v (line + 1) es rs w (sym (first_later w y (cells v (line + 1) es rs) n) ∙ d))
        | pass n ↦ here k (same_sound k (ascii "cell") q) (eqb-true y.well w n) (some_is (sym (first_here w y (cells v (line + 1) es rs) n) ∙ d))
      ]
]
  where
    here : (k : Bytes) → k ≡ ascii "cell" → (cell_of v line x.start k fs).well ≡ w → cell_of v line x.start k fs ≡ c → Found v line (fields k fs ∷ rs) w c
    here k i n y = record {
      at = 0;
      there = record {
        fs = fs;
        is = ap (λ (j : Bytes). Some (fields j fs)) i;
        well = ap (λ (j : Bytes). well_of (value_named v j (ascii "ID") fs)) (sym i) ∙ n;
        constant = ap (λ (j : Bytes). constant_of (field_named v j (ascii "K") fs)) (sym i) ∙ ap (λ (z : Cell). z.constant) y;
      };
      line_is = let z = ap (λ (z : Cell). z.line) y in omega (arith, z);
    }
