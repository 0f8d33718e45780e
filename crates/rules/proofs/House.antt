-- Demand 3: each accepted header has one house form. Assumes nothing.
use Prim.Native.Nat.{ℕ, suc, ◌+◌, ◌≤◌}
use native.Mathlib.Omega.{arith}
use mathlib.Core.Path.{◌≡◌, sym, ap, ◌∙◌}
use mathlib.Core.List.{List, [], ◌∷◌, ◌++◌, map}
use Rattle.std.specs.Prelude.{Option, None, Some}
use mathlib.Core.Logic.{◌↔◌}
use lib.Dec.{leb}
use lib.ListN.{length, length-map}
use borrow.Author.Tests.{leb-true}
use Rattle.values.specs.Bytes.{Bytes}
use Rattle.values.proofs.Tests.{pass, fail, test}
use Rattle.values.proofs.Lists.{none_not, some_is}
use Rattle.rules.specs.Sizes.{Limits}
use Rattle.rules.specs.Lines.{write_line}
use Rattle.rules.specs.Version.{Version}
use Rattle.rules.specs.Record.{Record, fileformat}
use Rattle.rules.specs.Columns.{Columns}
use Rattle.rules.specs.Reading.{State, done, Reading, reading}
use Rattle.rules.specs.Meaning.{Meaning, header_meaning}
use Rattle.rules.specs.House.{write_record, house_lines, house_form, too_long}
use Rattle.rules.proofs.Tidy.{tidied}
use Rattle.rules.proofs.Groups.{arrange, all_keys, records_arranged, house_groups, keys_apart, arrange_all, apart_arrange, apart_tidied, clear, house_count}
use Rattle.rules.proofs.Samples.{GoodColumns, columns_pure}
use Rattle.rules.proofs.Records.{Entered, record_pure, format_pure}
use Rattle.rules.proofs.Sound.{Good, reading_good}
use Rattle.rules.proofs.Back.{Line, record_lines, column_line, lines_back}
use Rattle.rules.proofs.Rooms.{roomier}
use Rattle.rules.specs.Claims.{All, SizedOption, Accepted, Fits}

short : (limit n start : ℕ) (ls : List Bytes) → too_long limit n start ls ≡ None → All (λ l. length l ≤ limit) ls
unfolding too_long
short limit n start [] h = tt
short limit n start (l ∷ ls) h = elim (test (leb (length l) limit)) [
  | pass e ↦ (leb-true (length l) limit e, short limit (suc n) (start + length (write_line l)) ls (rw (too_long, e) at h))
  | fail e ↦ none_not (sym (rw (too_long, e) at h))
]

-- the lines that the house form writes
pub house_lines_lem : (v : Version) (rs : List Record) (c : Columns)
    → house_lines (header_meaning v rs c) ≡ write_record (fileformat v) ∷ (record_lines v (arrange (all_keys rs) rs) ++ column_line c ∷ [])
unfolding house_lines header_meaning
house_lines_lem v rs c = rw (records_arranged v (all_keys rs) rs)

-- lines that are not too long may stand in a header
pub lines_fit : (lim : Limits) (v : Version) (xs : List Record) (c : Columns) → All (Entered v) xs → GoodColumns c
    → All (λ l. length l ≤ lim.line) (write_record (fileformat v) ∷ (record_lines v xs ++ column_line c ∷ []))
    → All (Line lim) (write_record (fileformat v) ∷ (record_lines v xs ++ column_line c ∷ []))
lines_fit lim v xs c e g h = (record { short = h.0; pure = format_pure v }, go xs e h.1)
  where
    go : (ys : List Record) → All (Entered v) ys → All (λ l. length l ≤ lim.line) (record_lines v ys ++ column_line c ∷ []) → All (Line lim) (record_lines v ys ++ column_line c ∷ [])
    go [] f k = (record { short = k.0; pure = columns_pure c g }, tt)
    go (y ∷ ys) f k = (record { short = k.0; pure = record_pure v y f.0 }, go ys f.1 k.1)

-- the records that the house form writes mean the same
pub house_meaning : (v : Version) (rs : List Record) (c : Columns) → header_meaning v (map (tidied v) (arrange (all_keys rs) rs)) c ≡ header_meaning v rs c
unfolding header_meaning
house_meaning v rs c = rw (house_groups v rs)

-- what an accepted reading has
pub accepted_good : (lim : Limits) (imposed : Option Version) (room : ℕ) (h : Bytes) {v : Version} {rs : List Record} {c : Columns} → SizedOption imposed
    → Accepted v rs c (reading lim imposed room h) → (Good v rs × GoodColumns c) × (2 + length rs + length c.samples ≤ room)
accepted_good lim imposed room h i a = rw a.state at (reading_good lim imposed room h i)

-- reading the form of an accepted header, no version imposed and with the same room, is accepted with the same meaning
pub house_reads_back : (lim : Limits) (imposed : Option Version) (room : ℕ) (h : Bytes) {v : Version} {rs : List Record} {c : Columns} → SizedOption imposed
    → Accepted v rs c (reading lim imposed room h) → Fits lim (header_meaning v rs c)
    → (rs' : List Record) × Accepted v rs' c (reading lim None room (house_form (header_meaning v rs c))) × (header_meaning v rs' c ≡ header_meaning v rs c)
unfolding house_form
house_reads_back lim imposed room h {v} {rs} {c} i a f =
    (map (tidied v) xs, back (accepted_good lim imposed room h i a), house_meaning v rs c)
  where
    xs : List Record
    xs = arrange (all_keys rs) rs

    fit : Fits lim (header_meaning v rs c) → All (λ l. length l ≤ lim.line) (write_record (fileformat v) ∷ (record_lines v xs ++ column_line c ∷ []))
    fit f = rw (house_lines_lem v rs c) at (short lim.line 0 0 (house_lines (header_meaning v rs c)) f.lines)

    back : (Good v rs × GoodColumns c) × (2 + length rs + length c.samples ≤ room) → Accepted v (map (tidied v) xs) c (reading lim None room (house_form (header_meaning v rs c)))
    back g =
        let e = arrange_all (Entered v) (all_keys rs) rs g.0.0.good in
        let n : length xs ≡ length rs = sym (length-map xs (tidied v)) ∙ house_count v rs in
        rw (house_lines_lem v rs c) (lines_back lim room v c g.0.1 xs g.0.0.sized e
        (clear v [] (map (tidied v) xs) (apart_tidied v xs (apart_arrange v (all_keys rs) rs (keys_apart rs) g.0.0.apart)) (nothing (map (tidied v) xs)))
        (lines_fit lim v xs c e g.0.1 (fit f)) (rw (house_lines_lem v rs c) at f.header) (rw n g.1))
      where
        nothing : (ys : List Record) → All (λ r. Unit {0}) ys
        nothing [] = tt
        nothing (y ∷ ys) = (tt, nothing ys)

-- the form's own form is itself
pub house_fixed : (lim : Limits) (imposed : Option Version) (room : ℕ) (h : Bytes) {v : Version} {rs : List Record} {c : Columns} → SizedOption imposed
    → Accepted v rs c (reading lim imposed room h) → Fits lim (header_meaning v rs c)
    → (rs' : List Record) × Accepted v rs' c (reading lim None room (house_form (header_meaning v rs c))) × (house_form (header_meaning v rs' c) ≡ house_form (header_meaning v rs c))
house_fixed lim imposed room h i a f = let b = house_reads_back lim imposed room h i a f in (b.0, b.1, ap house_form b.2)

-- an accepted reading with more room
more_room : (lim : Limits) (imposed : Option Version) (less more : ℕ) (h : Bytes) {v : Version} {rs : List Record} {c : Columns} → less ≤ more
    → Accepted v rs c (reading lim imposed less h) → (reading lim imposed more h).state ≡ done v rs c
more_room lim imposed less more h r a = ap (λ (x : Reading). x.state) (roomier lim imposed less more h r a.number) ∙ a.state

abbrev meant : State → Option Meaning
meant State.empty = None
meant (State.ready v rs) = None
meant (done v rs c) = Some (header_meaning v rs c)

-- what is read of one text, with whatever room, means one thing
one_meaning : (lim : Limits) (imposed : Option Version) (room room' : ℕ) (h : Bytes) {v v' : Version} {rs rs' : List Record} {c c' : Columns}
    → Accepted v rs c (reading lim imposed room h) → Accepted v' rs' c' (reading lim imposed room' h) → header_meaning v rs c ≡ header_meaning v' rs' c'
one_meaning lim imposed room room' h a b =
    some_is (ap meant (sym (more_room lim imposed room (room + room') h (omega arith) a) ∙ more_room lim imposed room' (room + room') h (omega arith) b))

-- two accepted headers whose forms fit have the same meaning exactly when the forms are equal
pub house_canonical : (lim : Limits) (imposed imposed' : Option Version) (room room' : ℕ) (h h' : Bytes) {v v' : Version} {rs rs' : List Record} {c c' : Columns}
    → SizedOption imposed → SizedOption imposed'
    → Accepted v rs c (reading lim imposed room h) → Accepted v' rs' c' (reading lim imposed' room' h')
    → Fits lim (header_meaning v rs c) → Fits lim (header_meaning v' rs' c')
    → (header_meaning v rs c ≡ header_meaning v' rs' c') ↔ (house_form (header_meaning v rs c) ≡ house_form (header_meaning v' rs' c'))
house_canonical lim imposed imposed' room room' h h' {v} {v'} {rs} {rs'} {c} {c'} i i' a a' f f' = (ap house_form, back)
  where
    back : house_form (header_meaning v rs c) ≡ house_form (header_meaning v' rs' c') → header_meaning v rs c ≡ header_meaning v' rs' c'
    back e =
        let b = house_reads_back lim imposed room h i a f in
        let b' = house_reads_back lim imposed' room' h' i' a' f' in
        sym b.2 ∙ one_meaning lim None room room' (house_form (header_meaning v' rs' c')) (rw e at b.1) b'.1 ∙ b'.2
