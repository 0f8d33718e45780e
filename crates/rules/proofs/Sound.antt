-- What an accepted header has: every record is good, none clashes, and there is room. Assumes nothing.
use Prim.Native.Nat.{ℕ, suc, ◌+◌, ◌≤◌}
use native.Mathlib.Omega.{arith}
use mathlib.Core.Path.{◌≡◌, refl, ap, ◌∙◌}
use mathlib.Core.Bool.{Bool, true, false}
use mathlib.Core.List.{List, [], ◌∷◌, ◌++◌}
use Rattle.std.specs.Prelude.{Option}
use lib.Dec.{leb}
use lib.ListN.{length, length-append}
use borrow.Author.Tests.{leb-true, le-leb}
use Rattle.values.specs.Bytes.{Bytes, LF, ascii, is, any, starts}
use Rattle.values.specs.Utf8.{is_utf8}
use Rattle.values.proofs.Tests.{pass, fail, test}
use Rattle.rules.specs.Answer.{Answer, ok, refuse}
use Rattle.rules.specs.Sizes.{Limits}
use Rattle.rules.specs.Lines.{pieces, line_of}
use Rattle.rules.specs.Version.{Version, v4_5}
use Rattle.rules.specs.Record.{Record, fileformat, fields, text, read_record}
use Rattle.rules.specs.Columns.{Columns, read_columns}
use Rattle.rules.specs.Entry.{Entry, samples_start, sample_entries, column_entries}
use Rattle.rules.specs.Reading.{clash, State, empty, ready, done, begin, enter, finish, step_text, is_done, step, Reading, stop, following, at_end, run, reading}
use Rattle.rules.proofs.Firsts.{OnOk, on_ok, map_ok, bind_ok, judged_ok, was, not_read, see}
use Rattle.rules.proofs.Alls.{all_append}
use Rattle.rules.proofs.Pure.{Pure}
use Rattle.rules.proofs.Pieces.{Pieces, piece_line, pieces_fine}
use Rattle.rules.proofs.Versions.{force_sized}
use Rattle.rules.proofs.Groups.{Apart, apart_snoc}
use Rattle.rules.proofs.Samples.{GoodColumns, columns_good}
use Rattle.rules.proofs.Records.{GoodRecord, Entered, record_good}
use Rattle.rules.specs.Claims.{All, Sized, SizedOption}

pub record Good (v : Version) (rs : List Record) : Type 0 where
  pub sized : Sized v
  pub good : All (Entered v) rs
  pub apart : Apart v rs

abbrev pub Inv : State → Type 0
Inv empty = Unit {0}
Inv (ready v rs) = Good v rs
Inv (done v rs c) = Good v rs × GoodColumns c

-- as many entries as the state has
abbrev pub entries_in : State → ℕ
entries_in empty = 0
entries_in (ready v rs) = 1 + length rs
entries_in (done v rs c) = 2 + length rs + length c.samples

pub samples_count : (at : ℕ) (xs : List Bytes) → length (sample_entries at xs) ≡ length xs
unfolding sample_entries
samples_count at [] = refl
samples_count at (x ∷ xs) = ap suc (samples_count (at + length x + 1) xs)

-- the state after a line, and its entries
abbrev Stepped : State → State × List Entry → Type 0
Stepped s q = Inv q.0 × (entries_in q.0 ≡ entries_in s + length q.1)

pub good_snoc : (v : Version) (rs : List Record) (r : Record) → Good v rs → Entered v r → clash v r rs ≡ 0 → Good v (rs ++ r ∷ [])
good_snoc v rs r g h c = record { sized = g.sized; good = all_append (Entered v) rs (r ∷ []) g.good (h, tt); apart = apart_snoc v rs r g.apart c }

begin_good : (counted : Bool) (imposed : Option Version) (start : ℕ) (l : Bytes) (r : Record) → SizedOption imposed → GoodRecord v4_5 r → OnOk (Stepped empty) (begin counted imposed start l r)
begin_good counted imposed start l (fileformat w) i h = (record { sized = force_sized imposed w i h; good = tt; apart = tt }, omega arith)
begin_good counted imposed start l (fields k fs) i h = tt
begin_good counted imposed start l (text k t) i h = tt

enter_good : (counted : Bool) (v : Version) (rs : List Record) (start : ℕ) (l : Bytes) (r : Record) → Good v rs → GoodRecord v r → OnOk (Stepped (ready v rs)) (enter counted v rs start l r)
enter_good counted v rs start l (fileformat w) g h = tt
enter_good counted v rs start l (fields k fs) g h =
    judged_ok (Stepped (ready v rs)) (clash v (fields k fs) rs) _ (λ z. (good_snoc v rs (fields k fs) g h z, rw (length-append rs (fields k fs ∷ [])) (omega arith)))
enter_good counted v rs start l (text k t) g h =
    judged_ok (Stepped (ready v rs)) (clash v (text k t) rs) _ (λ z. (good_snoc v rs (text k t) g h z, rw (length-append rs (text k t ∷ [])) (omega arith)))

finish_good : (v : Version) (rs : List Record) (start : ℕ) (l : Bytes) (c : Columns) → Good v rs → GoodColumns c → OnOk (Stepped (ready v rs)) (finish v rs start l c)
unfolding column_entries
finish_good v rs start l c g h = ((g, h), rw (samples_count (start + samples_start) c.samples) (omega arith))

text_good : (counted : Bool) (imposed : Option Version) (start : ℕ) (s : State) (l : Bytes) → SizedOption imposed → Inv s → Pure l → OnOk (Stepped s) (step_text counted imposed start s l)
unfolding step_text
text_good counted imposed start empty l i inv p = bind_ok (GoodRecord v4_5) (Stepped empty) (read_record v4_5 l) _ (record_good v4_5 l p) (λ r h. begin_good counted imposed start l r i h)
text_good counted imposed start (ready v rs) l i inv p = elim (test (starts (ascii "#CHROM") l)) [
  | pass e ↦ rw (step_text, e) (bind_ok GoodColumns (Stepped (ready v rs)) (read_columns l) _ (columns_good l p) (λ c h. finish_good v rs start l c inv h))
  | fail e ↦ rw (step_text, e) (bind_ok (GoodRecord v) (Stepped (ready v rs)) (read_record v l) _ (record_good v l p) (λ r h. enter_good counted v rs start l r inv h))
]
text_good counted imposed start (done v rs c) l i inv p = tt

-- a line that is taken is short and UTF-8
abbrev pub Taken : Limits → Option Version → ℕ → State → Bytes → State × List Entry → Type 0
Taken lim imposed start s l q = (length l ≤ lim.line) × (is_utf8 l ≡ true) × (step_text lim.counted imposed start s l ≡ ok q)

pub step_taken : (lim : Limits) (imposed : Option Version) (start : ℕ) (s : State) (l : Bytes) → OnOk (Taken lim imposed start s l) (step lim imposed start s l)
unfolding step
step_taken lim imposed start s l = elim (test (is_done s)) [
  | pass d ↦ rw (step, d) tt
  | fail d ↦ elim (test (leb (length l) lim.line)) [
    | pass e ↦ elim (test (is_utf8 l)) [
      | pass u ↦ rw (step, d, e, u) (same (step_text lim.counted imposed start s l) (leb-true (length l) lim.line e) u)
      | fail u ↦ rw (step, d, e, u) tt
    ]
    | fail e ↦ rw (step, d, e) tt
  ]
]
  where
    same : (a : Answer (State × List Entry)) → length l ≤ lim.line → is_utf8 l ≡ true → OnOk (λ q. (length l ≤ lim.line) × (is_utf8 l ≡ true) × (a ≡ ok q)) a
    same (ok q) e u = (e, u, refl)
    same (refuse n) e u = tt

-- a line that may be taken is judged by its text
pub step_text_lem : (lim : Limits) (imposed : Option Version) (start : ℕ) (s : State) (l : Bytes) → length l ≤ lim.line → is_utf8 l ≡ true → is_done s ≡ false
    → step lim imposed start s l ≡ step_text lim.counted imposed start s l
unfolding step
step_text_lem lim imposed start s l h u d = rw (d, le-leb (length l) lim.line h, u, step)

pub step_good : (lim : Limits) (imposed : Option Version) (start : ℕ) (s : State) (l : Bytes) → SizedOption imposed → Inv s → any (is LF) l ≡ false
    → OnOk (Stepped s) (step lim imposed start s l)
step_good lim imposed start s l i inv n =
    map_ok (Taken lim imposed start s l) (Stepped s) (step lim imposed start s l)
    (λ q t. on_ok (Stepped s) (text_good lim.counted imposed start s l i inv (record { utf8 = t.1; line = n })) t.2) (step_taken lim imposed start s l)

-- a run, one piece at a time
module _ (lim : Limits) (imposed : Option Version) (room n start count : ℕ) (s : State) (p : Bytes) (ps : List Bytes) where
  pub run_refused : {m : ℕ} → step lim imposed start s (line_of p) ≡ refuse m → run lim imposed room n start count s (p ∷ ps) ≡ stop m (suc n) start s
  unfolding run
  run_refused a = rw (run, a)

  module _ {q : State × List Entry} (a : step lim imposed start s (line_of p) ≡ ok q) where
    pub run_full : leb (count + length q.1) room ≡ false → run lim imposed room n start count s (p ∷ ps) ≡ stop 24 (suc n) start s
    unfolding run
    run_full e = rw (run, a, e)

    pub run_more : leb (count + length q.1) room ≡ true
        → run lim imposed room n start count s (p ∷ ps) ≡ following q.1 (run lim imposed room (suc n) (start + length p) (count + length q.1) q.0 ps)
    unfolding run
    run_more e = rw (run, a, e)

-- the end of a run: a good state, within the room
abbrev pub Ended : ℕ → Reading → Type 0
Ended room r = Inv r.state × (entries_in r.state ≤ room)

pub run_good : (lim : Limits) (imposed : Option Version) (room n start count : ℕ) (s : State) (ps : List Bytes) → SizedOption imposed → Inv s → Pieces ps
    → entries_in s ≡ count → count ≤ room → Ended room (run lim imposed room n start count s ps)
unfolding run
run_good lim imposed room n start count s [] i inv p e h = at_end_lem s inv e
  where
    at_end_lem : (s : State) → Inv s → entries_in s ≡ count → Ended room (at_end n start s)
    at_end_lem empty inv e = (inv, omega arith)
    at_end_lem (ready v rs) inv e = (inv, omega arith)
    at_end_lem (done v rs c) inv e = (inv, omega arith)
run_good lim imposed room n start count s (p ∷ ps) i inv w e h =
    elim (see (step lim imposed start s (line_of p))) [
      | not_read m a ↦ rw (run_refused lim imposed room n start count s p ps a) (inv, rw e h)
      | was q a ↦ let g = on_ok (Stepped s) (step_good lim imposed start s (line_of p) i inv (piece_line p w.0)) a in
          elim (test (leb (count + length q.1) room)) [
            | pass t ↦ rw (run_more lim imposed room n start count s p ps a t)
                (run_good lim imposed room (suc n) (start + length p) (count + length q.1) q.0 ps i g.0 w.1 (g.1 ∙ rw e) (leb-true _ room t))
            | fail t ↦ rw (run_full lim imposed room n start count s p ps a t) (inv, rw e h)
          ]
    ]

pub reading_good : (lim : Limits) (imposed : Option Version) (room : ℕ) (h : Bytes) → SizedOption imposed → Ended room (reading lim imposed room h)
unfolding reading
reading_good lim imposed room h i = elim (test (leb (length h) lim.header)) [
  | pass e ↦ rw (reading, e) (run_good lim imposed room 0 0 0 empty (pieces h) i tt (pieces_fine h) refl (omega arith))
  | fail e ↦ rw (reading, e) (tt, omega arith)
]
