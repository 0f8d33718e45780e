-- For whoever calibrates a probe: what an accepted register holds, and that no line that is added changes it. Assumes nothing.
use Prim.Native.Nat.{ℕ, zero, suc, ◌+◌, ◌-◌, ◌<◌, ◌≤◌}
use native.Mathlib.Omega.{arith}
use native.Mathlib.Decide.{dec_le}
use mathlib.Core.Path.{◌≡◌, refl, sym, ap, subst, ◌∙◌}
use mathlib.Core.Bool.{true, false}
use mathlib.Core.List.{List, [], ◌∷◌, ◌++◌, tail}
use Rattle.std.specs.Prelude.{Option, None, Some}
use lib.ListN.{length, get_or}
use lib.Seq.{ext_get_or}
use Rattle.values.specs.Bytes.{Bytes, ascii, same, starts}
use Rattle.values.specs.Utf8.{is_utf8}
use Rattle.values.specs.Field.{Field}
use Rattle.values.proofs.Tests.{pass, fail, test}
use Rattle.values.proofs.Lists.{some_is, none_not}
use Rattle.values.proofs.Sames.{same_self}
use Rattle.rules.specs.Answer.{ok, refuse}
use Rattle.rules.specs.Sizes.{Limits}
use Rattle.rules.specs.Lines.{pieces, line_of}
use Rattle.rules.specs.Version.{Version, v4_3, v4_5, earlier, in_force}
use Rattle.rules.specs.Known.{is_typed, is_in}
use Rattle.rules.specs.Map.{field_named, value_named}
use Rattle.rules.specs.Record.{Record, fileformat, fields, read_record}
use Rattle.rules.specs.Columns.{Columns}
use Rattle.rules.specs.Reading.{beside, State, empty, ready, done, step, Reading, reading}
use Rattle.rules.specs.House.{write_record}
use Rattle.rules.proofs.Firsts.{on_ok}
use Rattle.rules.proofs.Texts.{LineOf, record_in}
use Rattle.rules.proofs.Groups.{Apart}
use Rattle.rules.proofs.Sound.{Good}
use Rattle.rules.proofs.Refusals.{Among, second_refused}
use Rattle.register.specs.Cells.{well_of, Cell, constant_of, cells, first_of, wells}
use Rattle.register.specs.Register.{RegisterReading, absent, faulty, constants, counted, register_accepted, in_state, by_number, registered, register_of}
use Rattle.register.proofs.Spelling.{well_one}
use Rattle.register.proofs.Taken.{Reads, header_lines, header_apart}
use Rattle.register.proofs.Listed.{there, gone, see, Set, each_set, constants_count, CellAt, Found, first_found}
use Rattle.rules.specs.Claims.{All, Accepted, nth}

-- Two records that declare one well

-- a later record beside an earlier one
apart_at : (v : Version) (rs : List Record) (i j : ℕ) {r s : Record} → Apart v rs → i < j → nth rs i ≡ Some r → nth rs j ≡ Some s → beside v s r ≡ 0
apart_at v [] i j a l x y = none_not x
apart_at v (z ∷ rs) zero zero a l x y = absurd (omega arith)
apart_at v (z ∷ rs) zero (suc j) {r} {s} a l x y = subst (λ (q : Record). beside v s q ≡ 0) (some_is x) (at rs j a.0 y)
  where
    at : (rs : List Record) (j : ℕ) → All (λ q. beside v q z ≡ 0) rs → nth rs j ≡ Some s → beside v s z ≡ 0
    at [] j h e = none_not e
    at (q ∷ rs) zero h e = subst (λ (u : Record). beside v u z ≡ 0) (some_is e) h.0
    at (q ∷ rs) (suc j) h e = at rs j h.1 e
apart_at v (z ∷ rs) (suc i) zero a l x y = absurd (omega arith)
apart_at v (z ∷ rs) (suc i) (suc j) a l x y = apart_at v rs i j a.1 (omega arith) x y

-- two cells of one well clash
cells_clash : (v : Version) (fs gs : List Field) {w : ℕ} → well_of (value_named v (ascii "cell") (ascii "ID") fs) ≡ w → well_of (value_named v (ascii "cell") (ascii "ID") gs) ≡ w → 1 ≤ w
    → beside v (fields (ascii "cell") fs) (fields (ascii "cell") gs) ≡ 21
unfolding beside is_typed is_in same
cells_clash v fs gs e f l =
    let i = well_one (value_named v (ascii "cell") (ascii "ID") gs) (value_named v (ascii "cell") (ascii "ID") fs) f e l in
    rw (i, same_self (value_named v (ascii "cell") (ascii "ID") fs))

not_before : (v : Version) (rs : List Record) (i j : ℕ) {w : ℕ} {k m : Option ℕ} → Apart v rs → 1 ≤ w → CellAt v rs i w k → CellAt v rs j w m → i < j → ⊥
not_before v rs i j a l x y b =
    let z = apart_at v rs i j a b x.is y.is in
    let c = cells_clash v y.fs x.fs y.well x.well l in
    omega (arith, z, c)

-- of the records of an accepted header, at most one declares a well
pub one_cell : (v : Version) (rs : List Record) (i j : ℕ) {w : ℕ} {k m : Option ℕ} → Apart v rs → 1 ≤ w → CellAt v rs i w k → CellAt v rs j w m → i ≡ j
one_cell v rs i j a l x y = elim (dec_le i j) [
  | yes p ↦ elim (dec_le j i) [ yes q ↦ omega arith | no q ↦ absurd (not_before v rs i j a l x y (omega arith)) ]
  | no p ↦ absurd (not_before v rs j i a l y x (omega arith))
]

-- An accepted call

-- the cells of a reading whose records are these
abbrev pub cells_of : Reading → Version → List Record → List Cell
cells_of r v rs = cells v 2 (tail r.entries) rs

record Called (r : Reading) : Type 0 where
  version : Version
  records : List Record
  columns : Columns
  accepted_is : Accepted version records columns r
  recent : earlier version v4_3 ≡ false
  all_known : first_of 0 (cells_of r version records) ≡ None
  all_there : absent wells (cells_of r version records) ≡ false
  faultless : faulty wells (cells_of r version records) ≡ None
  register : (registered r).constants ≡ constants wells (cells_of r version records)

-- the refusals did not come
record Passed (r : Reading) (v : Version) (cs : List Cell) : Type 0 where
  recent : earlier v v4_3 ≡ false
  all_known : first_of 0 cs ≡ None
  all_there : absent wells cs ≡ false
  faultless : faulty wells cs ≡ None
  register : (register_accepted r v cs).constants ≡ constants wells cs

passed : (r : Reading) (v : Version) (cs : List Cell) → (register_accepted r v cs).number ≡ 0 → Passed r v cs
unfolding register_accepted counted
passed r v cs z = elim (test (earlier v v4_3)) [
  | pass e ↦ let n : ◌≡◌ {A = ℕ} 37 0 = rw (register_accepted, e) at z in absurd (omega arith)
  | fail e ↦ elim (see (first_of 0 cs)) [
    | there c f ↦ let n : ◌≡◌ {A = ℕ} 38 0 = rw (register_accepted, e, f) at z in absurd (omega arith)
    | gone f ↦ elim (test (absent wells cs)) [
      | pass a ↦ let n : ◌≡◌ {A = ℕ} 39 0 = rw (register_accepted, e, f, counted, a) at z in absurd (omega arith)
      | fail a ↦ elim (see (faulty wells cs)) [
        | there c b ↦ let n : ◌≡◌ {A = ℕ} 40 0 = rw (register_accepted, e, f, counted, a, b) at z in absurd (omega arith)
        | gone b ↦ record { recent = e; all_known = f; all_there = a; faultless = b; register = rw (register_accepted, e, f, counted, a, b) }
      ]
    ]
  ]
]

was_called : (r : Reading) → (registered r).number ≡ 0 → Called r
was_called r z = go r.number refl r.state refl
  where
    go : (n : ℕ) → r.number ≡ n → (s : State) → r.state ≡ s → Called r
    go (suc n) e s q = let m : r.number ≡ 0 = sym (ap (λ (k : ℕ). (by_number r k).number) e) ∙ z in absurd (omega (arith, e, m))
    go zero e empty q = let m = sym (ap (λ (k : ℕ). (by_number r k).number) e ∙ ap (λ (s : State). (in_state r s).number) q) ∙ z in absurd (omega (arith, m))
    go zero e (ready v rs) q = let m = sym (ap (λ (k : ℕ). (by_number r k).number) e ∙ ap (λ (s : State). (in_state r s).number) q) ∙ z in absurd (omega (arith, m))
    go zero e (done v rs c) q =
        let i : registered r ≡ register_accepted r v (cells_of r v rs) = ap (by_number r) e ∙ ap (in_state r) q in
        let p = passed r v (cells_of r v rs) (sym (ap (λ (x : RegisterReading). x.number) i) ∙ z) in
        record {
          version = v;
          records = rs;
          columns = c;
          accepted_is = record { number = e; state = q };
          recent = p.recent;
          all_known = p.all_known;
          all_there = p.all_there;
          faultless = p.faultless;
          register = ap (λ (x : RegisterReading). x.constants) i ∙ p.register;
        }

-- 1. The register

-- the well w has one line in the header: record `at`, which stands on line `at` + 2, and its K spells n hundredths
pub record OneLine (v : Version) (rs : List Record) (w n : ℕ) : Type 0 where
  pub at : ℕ
  pub declares : CellAt v rs at w (Some n)
  pub only : (j : ℕ) {k : Option ℕ} → CellAt v rs j w k → j ≡ at

-- a header whose register was accepted: from 4.3 on, with forty constants, each that of its well's one line
pub record Probe (lim : Limits) (imposed : Option Version) (room : ℕ) (h : Bytes) : Type 0 where
  pub version : Version
  pub records : List Record
  pub columns : Columns
  pub accepted_is : Accepted version records columns (reading lim imposed room h)
  pub recent : earlier version v4_3 ≡ false
  pub forty : length (register_of lim imposed room h).constants ≡ 40
  pub each : (w : ℕ) → 1 ≤ w → w ≤ 40 → OneLine version records w (get_or (register_of lim imposed room h).constants (w - 1) 0)

-- an accepted register holds for each well exactly the hundredths of the one line that declares it
pub register_holds : (lim : Limits) (imposed : Option Version) (room : ℕ) (h : Bytes) → (register_of lim imposed room h).number ≡ 0 → Probe lim imposed room h
unfolding register_of
register_holds lim imposed room h z =
    let r = reading lim imposed room h in
    let c = was_called r z in
    let v = c.version in
    let rs = c.records in
    let cs = cells_of r v rs in
    record {
      version = v;
      records = rs;
      columns = c.columns;
      accepted_is = c.accepted_is;
      recent = c.recent;
      forty = ap length c.register ∙ constants_count cs 1 40;
      each = λ w a b. one v rs cs w a (header_apart lim imposed room h c.accepted_is) (λ c e. first_found v 2 (tail r.entries) rs w e)
          (at w a c.register (each_set cs 1 40 c.all_there c.faultless (w - 1) (omega arith)));
    }
  where
    at : {cs : List Cell} {xs : List ℕ} (w : ℕ) → 1 ≤ w → xs ≡ constants wells cs → Set cs (1 + (w - 1)) (get_or (constants wells cs) (w - 1) 0) → Set cs w (get_or xs (w - 1) 0)
    at {cs} {xs} w a e s = let i : 1 + (w - 1) ≡ w = omega arith in rw e (subst (λ (k : ℕ). Set cs k (get_or (constants wells cs) (w - 1) 0)) i s)

    one : (v : Version) (rs : List Record) (cs : List Cell) (w : ℕ) {n : ℕ} → 1 ≤ w → Apart v rs → ((c : Cell) → first_of w cs ≡ Some c → Found v 2 rs w c) → Set cs w n → OneLine v rs w n
    one v rs cs w {n} a p f s =
        let d = f s.cell s.first in
        let c : CellAt v rs d.at w (Some n) = record { fs = d.there.fs; is = d.there.is; well = d.there.well; constant = d.there.constant ∙ s.constant } in
        record { at = d.at; declares = c; only = λ j x. one_cell v rs j d.at p a x c }

-- 2. Lines that are added

-- the lines qs are the lines ps with others put among them
pub data Added : List Bytes → List Bytes → Type 0 where
  as_was : Added [] []
  kept : (p : Bytes) {ps qs : List Bytes} → Added ps qs → Added (p ∷ ps) (p ∷ qs)
  new : (q : Bytes) {ps qs : List Bytes} → Added ps qs → Added ps (q ∷ qs)

-- each record is still there
still_there : (v : Version) (ps qs : List Bytes) (rs xs : List Record) → Added ps qs → Reads v ps rs → Reads v qs xs → (i : ℕ) {r : Record} → nth rs i ≡ Some r → (j : ℕ) × (nth xs j ≡ Some r)
still_there v [] [] [] xs as_was a b i e = none_not e
still_there v [] [] (r ∷ rs) xs as_was a b i e = absurd a
still_there v (p ∷ ps) [] rs xs x a b i e = elim x [ ]
still_there v (p ∷ ps) (_ ∷ qs) [] xs (kept _ x) a b i e = absurd a
still_there v (p ∷ ps) (_ ∷ qs) (r ∷ rs) [] (kept _ x) a b i e = absurd b
still_there v (p ∷ ps) (_ ∷ qs) (r ∷ rs) (y ∷ xs) (kept _ x) a b zero e = (0, sym (ok_is (sym a.0 ∙ b.0)) ∙ e)
  where
    ok_is : {r y : Record} → ok r ≡ ok y → Some r ≡ Some y
    ok_is q = cc
still_there v (p ∷ ps) (_ ∷ qs) (r ∷ rs) (y ∷ xs) (kept _ x) a b (suc i) e = let d = still_there v ps qs rs xs x a.1 b.1 i e in (suc d.0, d.1)
still_there v ps (q ∷ qs) rs [] (new _ x) a b i e = absurd b
still_there v ps (q ∷ qs) rs (y ∷ xs) (new _ x) a b i e = let d = still_there v ps qs rs xs x a b.1 i e in (suc d.0, d.1)

same_format : (l : Bytes) (u : Version) {v w : Version} → read_record u l ≡ ok (fileformat v) → read_record u l ≡ ok (fileformat w) → v ≡ w
same_format l u e f = let q = sym e ∙ f in cc

-- whatever lines are added to an accepted probe header between the fileformat line and the column line, whatever becomes of that, and whatever
-- the tables' rooms are: if the call is accepted, the register is the same
pub factory_line : (lim : Limits) (imposed : Option Version) (room room' : ℕ) (h h' f z z' : Bytes) (ps qs : List Bytes)
    → pieces h ≡ f ∷ (ps ++ z ∷ []) → pieces h' ≡ f ∷ (qs ++ z' ∷ []) → Added ps qs
    → (register_of lim imposed room h).number ≡ 0 → (register_of lim imposed room' h').number ≡ 0 → (register_of lim imposed room' h').constants ≡ (register_of lim imposed room h).constants
factory_line lim imposed room room' h h' f z z' ps qs e e' x a a' =
    let p = register_holds lim imposed room h a in
    let q = register_holds lim imposed room' h' a' in
    let l = header_lines lim imposed room h f ps z e p.accepted_is in
    let m = header_lines lim imposed room' h' f qs z' e' q.accepted_is in
    let v : q.version ≡ p.version = m.force ∙ ap (in_force imposed) (same_format (line_of f) v4_5 m.format l.format) ∙ sym l.force in
    ext_get_or 0 (register_of lim imposed room' h').constants (register_of lim imposed room h).constants (q.forty ∙ sym p.forty)
    (λ i b. sym (agree p.version q.version p.records q.records (i + 1) v (omega arith)
    (λ j r g. still_there p.version ps qs p.records q.records x l.reads (subst (λ (u : Version). Reads u qs q.records) v m.reads) j g)
    (at (register_of lim imposed room h).constants i (p.each (i + 1) (omega arith) (omega (arith, q.forty)))) (at (register_of lim imposed room' h').constants i (q.each (i + 1) (omega arith) (omega (arith, q.forty))))))
  where
    at : {v : Version} {rs : List Record} (xs : List ℕ) (i : ℕ) → OneLine v rs (i + 1) (get_or xs (i + 1 - 1) 0) → OneLine v rs (i + 1) (get_or xs i 0)
    at {v} {rs} xs i o = let e : i + 1 - 1 ≡ i = omega arith in subst (λ (k : ℕ). OneLine v rs (i + 1) (get_or xs k 0)) e o

    agree : (v u : Version) (rs xs : List Record) (w : ℕ) {n m : ℕ} → u ≡ v → 1 ≤ w → ((j : ℕ) (r : Record) → nth rs j ≡ Some r → (k : ℕ) × (nth xs k ≡ Some r))
        → OneLine v rs w n → OneLine u xs w m → n ≡ m
    agree v u rs xs w i l s o q =
        let d = o.declares in
        let k = s o.at (fields (ascii "cell") d.fs) d.is in
        let c : CellAt u xs k.0 w (constant_of (field_named u (ascii "cell") (ascii "K") d.fs)) = record { fs = d.fs; is = k.1; well = rw i d.well; constant = refl } in
        let y : ◌≡◌ {A = Option Record} (Some (fields (ascii "cell") d.fs)) (Some (fields (ascii "cell") q.declares.fs)) = sym k.1 ∙ ap (nth xs) (q.only k.0 c) ∙ q.declares.is in
        let t : d.fs ≡ q.declares.fs = cc in
        some_is (sym d.constant ∙ rw (← i, t) q.declares.constant)

-- 3. A second line for a well

-- no header that is accepted has two
pub never_twice : (lim : Limits) (imposed : Option Version) (room : ℕ) (h : Bytes) {v : Version} {rs : List Record} {c : Columns} → Accepted v rs c (reading lim imposed room h)
    → (i j : ℕ) {w : ℕ} {k m : Option ℕ} → 1 ≤ w → CellAt v rs i w k → CellAt v rs j w m → i ≡ j
never_twice lim imposed room h {v} {rs} a i j l x y = one_cell v rs i j (header_apart lim imposed room h a) l x y

-- after a line for the well, a second one is refused with 21, whatever stands between and however the ID is spelled
pub second_line : (lim : Limits) (imposed : Option Version) (start : ℕ) (v : Version) (rs : List Record) (l : Bytes) (fs gs : List Field) → Good v rs → length l ≤ lim.line → is_utf8 l ≡ true
    → read_record v l ≡ ok (fields (ascii "cell") fs) → Among (fields (ascii "cell") gs) rs → (w : ℕ) → 1 ≤ w
    → well_of (value_named v (ascii "cell") (ascii "ID") fs) ≡ w → well_of (value_named v (ascii "cell") (ascii "ID") gs) ≡ w → step lim imposed start (ready v rs) l ≡ refuse 21
unfolding starts write_record is_typed is_in same
second_line lim imposed start v rs l fs gs g n u r a w p e f =
    let i = well_one (value_named v (ascii "cell") (ascii "ID") gs) (value_named v (ascii "cell") (ascii "ID") fs) f e p in
    let c : starts (ascii "#CHROM") l ≡ false = rw (on_ok (LineOf l) (record_in v l) r) in
    second_refused lim imposed start v rs l (ascii "cell") fs gs g n u c r a (rw i (same_self (value_named v (ascii "cell") (ascii "ID") fs)))
