-- An accepted header's entries, each with its line and its record. Assumes nothing.
use Prim.Native.Nat.{ℕ, suc, ◌+◌, ◌≤◌}
use native.Mathlib.Omega.{arith}
use mathlib.Core.Path.{◌≡◌, refl, sym, ap, subst, ◌∙◌}
use mathlib.Core.Bool.{Bool, false}
use mathlib.Core.List.{List, [], ◌∷◌, ◌++◌, append_assoc, append-nil}
use Rattle.std.specs.Prelude.{Option}
use lib.Dec.{leb}
use lib.ListN.{length, drop, length-append, length-drop}
use Rattle.values.specs.Bytes.{Bytes, ascii, starts, part}
use Rattle.values.proofs.Tests.{pass, fail, test, never}
use Rattle.values.proofs.Fields.{text_here}
use Rattle.rules.specs.Answer.{ok}
use Rattle.rules.specs.Sizes.{Limits}
use Rattle.rules.specs.Lines.{pieces, line_of}
use Rattle.rules.specs.Version.{Version, v4_5, in_force}
use Rattle.rules.specs.Record.{Record, fileformat, fields, text, read_record}
use Rattle.rules.specs.Columns.{Columns, read_columns}
use Rattle.rules.specs.Entry.{Entry, record_entry, column_entries}
use Rattle.rules.specs.Reading.{clash, State, empty, ready, done, begin, enter, step_text, step, Reading, stop, run, reading}
use Rattle.rules.proofs.Firsts.{OnOk, on_ok, judged_ok, judged_zero, was, not_read, see}
use Rattle.rules.proofs.Pieces.{nothing, cut, cut_first, line_prefix}
use Rattle.rules.proofs.Sound.{run_refused, run_more}
use Rattle.rules.proofs.Runs.{first_taken}
use Rattle.rules.specs.Claims.{Accepted, LineAt, Rows}

-- what a line does in Ready: it enters its record, as it would at any place after any records that it goes with; or it is the column line
pub data Stepped (counted : Bool) (imposed : Option Version) (v : Version) (rs : List Record) (start : ℕ) (l : Bytes) (q : State × List Entry) : Type 0 where
  entered : (r : Record) → read_record v l ≡ ok r → q ≡ (ready v (rs ++ r ∷ []), record_entry counted v start l r ∷ []) → clash v r rs ≡ 0
      → ((at : ℕ) (xs : List Record) → clash v r xs ≡ 0 → step_text counted imposed at (ready v xs) l ≡ ok (ready v (xs ++ r ∷ []), record_entry counted v at l r ∷ []))
      → Stepped counted imposed v rs start l q
  finished : (c : Columns) → read_columns l ≡ ok c → q ≡ (done v rs c, column_entries start l c) → Stepped counted imposed v rs start l q

pub text_steps : (counted : Bool) (imposed : Option Version) (start : ℕ) (v : Version) (rs : List Record) (l : Bytes) → OnOk (Stepped counted imposed v rs start l) (step_text counted imposed start (ready v rs) l)
unfolding step_text
text_steps counted imposed start v rs l = elim (test (starts (ascii "#CHROM") l)) [
  | pass e ↦ elim (see (read_columns l)) [
    | was c a ↦ rw (step_text, e, a) (finished c a refl)
    | not_read m a ↦ rw (step_text, e, a) tt
  ]
  | fail e ↦ elim (see (read_record v l)) [
    | was r a ↦ rw (step_text, e, a) (go e r a)
    | not_read m a ↦ rw (step_text, e, a) tt
  ]
]
  where
    go : starts (ascii "#CHROM") l ≡ false → (r : Record) → read_record v l ≡ ok r → OnOk (Stepped counted imposed v rs start l) (enter counted v rs start l r)
    go e (fileformat w) a = tt
    go e (fields k fs) a = judged_ok (Stepped counted imposed v rs start l) (clash v (fields k fs) rs) _ (λ z. entered (fields k fs) a refl z (λ at xs c. rw (step_text, e, a) (judged_zero _ c)))
    go e (text k t) a = judged_ok (Stepped counted imposed v rs start l) (clash v (text k t) rs) _ (λ z. entered (text k t) a refl z (λ at xs c. rw (step_text, e, a) (judged_zero _ c)))

-- the first line of what is left of a header, and what is left after it
pub record FirstLine (h : Bytes) (start : ℕ) (p : Bytes) (ps : List Bytes) : Type 0 where
  pub here : part h start (start + length (line_of p)) ≡ line_of p
  pub inside : start + length (line_of p) ≤ length h
  pub next : start + length p ≤ length h
  pub left : pieces (drop (start + length p) h) ≡ ps

pub first_line : (h : Bytes) (start : ℕ) (p : Bytes) (ps : List Bytes) → start ≤ length h → pieces (drop start h) ≡ p ∷ ps → FirstLine h start p ps
unfolding pieces
first_line h start p ps l e = elim (cut_first (drop start h)) [
  | nothing n ↦ let z : ◌≡◌ {A = List Bytes} [] (p ∷ ps) = rw n at e in absurd (None z)
  | cut p' r a q t ↦
      let f : p' ∷ pieces r ≡ p ∷ ps = sym q ∙ e in
      let i : p' ≡ p = cc in
      let j : pieces r ≡ ps = cc in
      let x = line_prefix p in
      let b : drop start h ≡ line_of p ++ (x.0 ++ r) = a ∙ rw i (ap (◌++ r) x.1 ∙ append_assoc (line_of p) x.0 r) in
      let d : drop start h ≡ p ++ r = a ∙ rw i in
      let n = sym (length-drop start h) ∙ ap length d ∙ length-append p r in
      let m = ap length x.1 ∙ length-append (line_of p) x.0 in
      record {
        here = (text_here h start (line_of p) (x.0 ++ r) b).0;
        inside = omega arith;
        next = omega arith;
        left = ap pieces (text_here h start p r d).1 ∙ j;
      }
]
  where
    None : ◌≡◌ {A = List Bytes} [] (p ∷ ps) → ⊥
    None z = never cc

-- the records that were added, their entries, and the column line
pub record Traced (lim : Limits) (h : Bytes) (v : Version) (before : List Record) (w : Version) (after : List Record) (c : Columns) (entries : List Entry) : Type 0 where
  pub version : v ≡ w
  pub new : List Record
  pub rows : List Entry
  pub start : ℕ
  pub line : Bytes
  pub records : after ≡ before ++ new
  pub all : Rows lim h v rows new
  pub last : LineAt lim h start line
  pub read : read_columns line ≡ ok c
  pub these : entries ≡ rows ++ column_entries start line c

done_only : (lim : Limits) (imposed : Option Version) (room n start count : ℕ) (v : Version) (rs : List Record) (c : Columns) (ps : List Bytes)
    → (run lim imposed room n start count (done v rs c) ps).number ≡ 0 → run lim imposed room n start count (done v rs c) ps ≡ stop 0 n start (done v rs c)
unfolding run step
done_only lim imposed room n start count v rs c [] z = refl
done_only lim imposed room n start count v rs c (p ∷ ps) z = absurd (omega (arith, sym (ap (λ (r : Reading). r.number) (run_refused lim imposed room n start count (done v rs c) p ps refl)) ∙ z))

-- one record more, and the column line
module _ (lim : Limits) (h : Bytes) (v : Version) (rs : List Record) (start : ℕ) (l : Bytes) (here : LineAt lim h start l) where
  traced_record : {w : Version} {rs' : List Record} {c : Columns} (r : Record) (es : List Entry) → read_record v l ≡ ok r → Traced lim h v (rs ++ r ∷ []) w rs' c es
      → Traced lim h v rs w rs' c (record_entry lim.counted v start l r ∷ es)
  traced_record r es x d = record {
    version = d.version;
    new = r ∷ d.new;
    rows = record_entry lim.counted v start l r ∷ d.rows;
    start = d.start;
    line = d.line;
    records = d.records ∙ append_assoc rs (r ∷ []) d.new;
    all = (record { start = start; line = l; there = here; read = x; entry = refl }, d.all);
    last = d.last;
    read = d.read;
    these = ap (record_entry lim.counted v start l r ∷◌) d.these;
  }

  traced_column : {w : Version} {rs' : List Record} {c c' : Columns} → read_columns l ≡ ok c' → c' ≡ c → rs ≡ rs' → v ≡ w → Traced lim h v rs w rs' c (column_entries start l c')
  traced_column x uc ur uv = record {
    version = uv;
    new = [];
    rows = [];
    start = start;
    line = l;
    records = sym ur ∙ sym (append-nil rs);
    all = tt;
    last = here;
    read = x ∙ ap ok uc;
    these = ap (column_entries start l) uc;
  }

same_state : {v w : Version} {rs rs' : List Record} {c c' : Columns} → ◌≡◌ {A = State} (done v rs c) (done w rs' c') → (rs ≡ rs') × (c ≡ c') × (v ≡ w)
same_state e = (cc, cc, cc)

-- a line that is taken in Ready: the rest is read from the state after it
module _ (lim : Limits) (imposed : Option Version) (room : ℕ) (h : Bytes) (n next count start : ℕ) (v : Version) (rs : List Record) (l : Bytes) (ps : List Bytes)
    (w : Version) (rs' : List Record) (c : Columns) where
  abbrev Rest : State × List Entry → Type 0
  Rest q = Accepted w rs' c (run lim imposed room n next (count + length q.1) q.0 ps)
      → Traced lim h v rs w rs' c (q.1 ++ (run lim imposed room n next (count + length q.1) q.0 ps).entries)

  abbrev Later : Type 0
  Later = (r : Record) → Accepted w rs' c (run lim imposed room n next (count + 1) (ready v (rs ++ r ∷ [])) ps)
      → Traced lim h v (rs ++ r ∷ []) w rs' c (run lim imposed room n next (count + 1) (ready v (rs ++ r ∷ [])) ps).entries

  rest_traced : (q : State × List Entry) → LineAt lim h start l → Stepped lim.counted imposed v rs start l q → Later → Rest q
  rest_traced q here (entered r x y _ _) ih = subst Rest (sym y) (λ a. traced_record lim h v rs start l here r _ x (ih r a))
  rest_traced q here (finished c' x y) ih = subst Rest (sym y) (λ a.
      let k = count + length (column_entries start l c') in
      let o = done_only lim imposed room n next k v rs c' ps a.number in
      let u = same_state (sym (ap (λ (r : Reading). r.state) o) ∙ a.state) in
      let es : column_entries start l c' ++ (run lim imposed room n next k (done v rs c') ps).entries ≡ column_entries start l c'
      = ap (column_entries start l c' ++◌) (ap (λ (r : Reading). r.entries) o) ∙ append-nil (column_entries start l c') in
      subst (Traced lim h v rs w rs' c) (sym es) (traced_column lim h v rs start l here x u.1 u.0 u.2))

pub traced : (lim : Limits) (imposed : Option Version) (room : ℕ) (h : Bytes) (ps : List Bytes) (n start count : ℕ) (v : Version) (rs : List Record)
    → start ≤ length h → pieces (drop start h) ≡ ps → {w : Version} {rs' : List Record} {c : Columns}
    → Accepted w rs' c (run lim imposed room n start count (ready v rs) ps)
    → Traced lim h v rs w rs' c (run lim imposed room n start count (ready v rs) ps).entries
unfolding run
traced lim imposed room h [] n start count v rs l e a = absurd (omega (arith, a.number))
traced lim imposed room h (p ∷ ps) n start count v rs l e {w} {rs'} {c} a =
    let f = first_line h start p ps l e in
    let t = first_taken lim imposed room n start count (ready v rs) p ps a in
    subst (λ (r : Reading). Traced lim h v rs w rs' c r.entries) (sym (run_more lim imposed room n start count (ready v rs) p ps t.taken t.roomy))
    (rest_traced lim imposed room h (suc n) (start + length p) count start v rs (line_of p) ps w rs' c t.after
    (record { here = f.here; inside = f.inside; short = t.line.0; utf8 = t.line.1 })
    (on_ok (Stepped lim.counted imposed v rs start (line_of p)) (text_steps lim.counted imposed start v rs (line_of p)) t.line.2)
    (λ r a'. traced lim imposed room h ps (suc n) (start + length p) (count + 1) v (rs ++ r ∷ []) f.next f.left a')
    t.rest)

-- what the first line does
data Begun (counted : Bool) (imposed : Option Version) (l : Bytes) (q : State × List Entry) : Type 0 where
  begun : (w : Version) → read_record v4_5 l ≡ ok (fileformat w) → q ≡ (ready (in_force imposed w) [], record_entry counted w 0 l (fileformat w) ∷ []) → Begun counted imposed l q

begin_steps : (counted : Bool) (imposed : Option Version) (l : Bytes) → OnOk (Begun counted imposed l) (step_text counted imposed 0 empty l)
unfolding step_text
begin_steps counted imposed l = elim (see (read_record v4_5 l)) [ was r e ↦ rw e (go r e) | not_read m e ↦ rw e tt ]
  where
    go : (r : Record) → read_record v4_5 l ≡ ok r → OnOk (Begun counted imposed l) (begin counted imposed 0 l r)
    go (fileformat w) e = begun w e refl
    go (fields k fs) e = tt
    go (text k t) e = tt

-- an accepted header: its fileformat line, its records, its column line
pub record TracedHeader (lim : Limits) (imposed : Option Version) (h : Bytes) (v : Version) (rs : List Record) (c : Columns) (entries : List Entry) : Type 0 where
  pub own : Version
  pub format : Bytes
  pub first : LineAt lim h 0 format
  pub read_format : read_record v4_5 format ≡ ok (fileformat own)
  pub force : v ≡ in_force imposed own
  pub rows : List Entry
  pub all : Rows lim h v rows rs
  pub start : ℕ
  pub line : Bytes
  pub last : LineAt lim h start line
  pub read_last : read_columns line ≡ ok c
  pub these : entries ≡ record_entry lim.counted own 0 format (fileformat own) ∷ (rows ++ column_entries start line c)

empty_not : {w : Version} {rs' : List Record} {c : Columns} → ◌≡◌ {A = State} empty (done w rs' c) → ⊥
empty_not e = never cc

-- the fileformat line: the rest is read from the state after it
module _ (lim : Limits) (imposed : Option Version) (room : ℕ) (h p : Bytes) (ps : List Bytes) (v : Version) (rs : List Record) (c : Columns) where
  abbrev First : State × List Entry → Type 0
  First q = Accepted v rs c (run lim imposed room 1 (0 + length p) (0 + length q.1) q.0 ps)
      → TracedHeader lim imposed h v rs c (q.1 ++ (run lim imposed room 1 (0 + length p) (0 + length q.1) q.0 ps).entries)

  first_traced : (q : State × List Entry) → LineAt lim h 0 (line_of p) → FirstLine h 0 p ps → Begun lim.counted imposed (line_of p) q → First q
  first_traced q here f (begun w x y) = subst First (sym y) (λ a.
      let d = traced lim imposed room h ps 1 (0 + length p) 1 (in_force imposed w) [] f.next f.left a in
      record {
        own = w;
        format = line_of p;
        first = here;
        read_format = x;
        force = sym d.version;
        rows = d.rows;
        all = rows_all d.rows d.version d.records d.all;
        start = d.start;
        line = d.line;
        last = d.last;
        read_last = d.read;
        these = ap (record_entry lim.counted w 0 (line_of p) (fileformat w) ∷◌) d.these;
      })
    where
      rows_all : {u : Version} {new : List Record} (es : List Entry) → u ≡ v → rs ≡ new → Rows lim h u es new → Rows lim h v es rs
      rows_all {u} {new} es e g r = subst (λ (x : List Record). Rows lim h v es x) (sym g) (subst (λ (x : Version). Rows lim h x es new) e r)

run_empty : (lim : Limits) (imposed : Option Version) (room : ℕ) (h : Bytes) (ps : List Bytes) → pieces h ≡ ps → {v : Version} {rs : List Record} {c : Columns}
    → Accepted v rs c (run lim imposed room 0 0 0 empty ps) → TracedHeader lim imposed h v rs c (run lim imposed room 0 0 0 empty ps).entries
unfolding run
run_empty lim imposed room h [] e a = absurd (empty_not a.state)
run_empty lim imposed room h (p ∷ ps) e {v} {rs} {c} a =
    let f = first_line h 0 p ps (omega arith) e in
    let t = first_taken lim imposed room 0 0 0 empty p ps a in
    subst (λ (r : Reading). TracedHeader lim imposed h v rs c r.entries) (sym (run_more lim imposed room 0 0 0 empty p ps t.taken t.roomy))
    (first_traced lim imposed room h p ps v rs c t.after (record { here = f.here; inside = f.inside; short = t.line.0; utf8 = t.line.1 }) f
    (on_ok (Begun lim.counted imposed (line_of p)) (begin_steps lim.counted imposed (line_of p)) t.line.2) t.rest)

pub header_traced : (lim : Limits) (imposed : Option Version) (room : ℕ) (h : Bytes) {v : Version} {rs : List Record} {c : Columns}
    → Accepted v rs c (reading lim imposed room h) → TracedHeader lim imposed h v rs c (reading lim imposed room h).entries
unfolding reading
header_traced lim imposed room h a = elim (test (leb (length h) lim.header)) [
  | pass e ↦ rw (reading, e) (run_empty lim imposed room h (pieces h) refl (rw (reading, e) at a))
  | fail e ↦ absurd (empty_not (rw (reading, e) at a.state))
]
