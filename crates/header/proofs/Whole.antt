-- A header that is read line by line over the entries kept so far is read as the rules say. Assumes nothing.
use Prim.Native.Nat.{ℕ, zero, suc, ◌+◌, ◌≤◌}
use native.Mathlib.Omega.{arith}
use mathlib.Core.Path.{◌≡◌, refl, sym, ap, subst, ◌∙◌}
use mathlib.Core.Bool.{true, false}
use mathlib.Core.List.{List, [], ◌∷◌, ◌++◌, append_assoc, append-nil}
use Rattle.std.specs.Prelude.{Option, None, Some}
use lib.Dec.{leb, ltb}
use lib.ListN.{length, drop, length-append}
use borrow.Author.Tests.{le-leb, leb-true, lt-ltb}
use Rattle.values.specs.Bytes.{Bytes, LF, ascii, is, any, starts, part}
use Rattle.values.specs.Utf8.{is_utf8}
use Rattle.values.proofs.Tests.{pass, fail, test}
use Rattle.rules.specs.Answer.{Answer, ok, refuse, ◌>>=◌, judged}
use Rattle.rules.specs.Sizes.{Limits}
use Rattle.rules.specs.Version.{Version, v4_5, in_force}
use Rattle.rules.specs.Lines.{pieces, line_of}
use Rattle.rules.specs.Record.{Record, fileformat, fields, text, key_of, read_record}
use Rattle.rules.specs.Columns.{read_columns}
use Rattle.rules.specs.Entry.{Entry, format_kind, record_entry, column_entries}
use Rattle.rules.specs.Reading.{clash, State, empty, ready, done, begin, enter, finish, is_done, step_text, step, Reading, stop, following, at_end, run, reading}
use Rattle.rules.specs.Claims.{All, LineAt, Row, Rows}
use Rattle.rules.proofs.Alls.{all_append}
use Rattle.rules.proofs.Firsts.{on_ok, was, not_read, see}
use Rattle.rules.proofs.Groups.{Apart, apart_snoc}
use Rattle.rules.proofs.Pieces.{Pieces, piece_line, pieces_fine}
use Rattle.rules.proofs.Records.{GoodRecord, Entered, record_good}
use Rattle.rules.proofs.Shows.{entry_placed_lem}
use Rattle.rules.proofs.Sound.{step_text_lem, run_refused, run_full, run_more}
use Rattle.lines.proofs.Lines.{piece_inside}
use Rattle.rules.proofs.Trace.{first_line}
use Rattle.ids.specs.Clashes.{clash_number, clash_in, prefix_of}
use Rattle.ids.proofs.Clashes.{found_clash}
use Rattle.header.specs.Steps.{Stage, opening, body, ending, stage_after, fresh_state, held_against, step_on, Point, Went, passed, start_point, go_on, told_by}
use Rattle.header.specs.Parsers.{accepted_in, reading_means, closed_at}
use Rattle.header.proofs.Steps.{go_refused, go_full, go_more, go_none}

-- the entries kept so far: the fileformat line's, and one for each record
pub record ReadyRows (lim : Limits) (h : Bytes) (v : Version) (rs : List Record) (es : List Entry) : Type 0 where
  pub own : Entry
  pub rows : List Entry
  pub is : es ≡ own ∷ rows
  pub kind : own.kind ≡ format_kind
  pub all : Rows lim h v rows rs
  pub good : All (Entered v) rs
  pub apart : Apart v rs

abbrev pub Tabled : Limits → Bytes → State → List Entry → Type 0
Tabled lim h empty es = es ≡ []
Tabled lim h (ready v rs) es = ReadyRows lim h v rs es
Tabled lim h (done v rs c) es = Unit {0}

rows_snoc : (lim : Limits) (h : Bytes) (v : Version) (es : List Entry) (rs : List Record) (e : Entry) (r : Record) → Rows lim h v es rs → Row lim h v e r → Rows lim h v (es ++ e ∷ []) (rs ++ r ∷ [])
rows_snoc lim h v [] [] e r a b = (b, tt)
rows_snoc lim h v [] (x ∷ rs) e r a b = absurd a
rows_snoc lim h v (y ∷ es) [] e r a b = absurd a
rows_snoc lim h v (y ∷ es) (x ∷ rs) e r a b = (a.0, rows_snoc lim h v es rs e r a.1 b)

-- One line, in a state of the rules and over its entries

-- what a state's answer tells
abbrev pub staged : Answer (State × List Entry) → Answer (Stage × List Entry)
staged (ok q) = ok (stage_after q.0, q.1)
staged (refuse n) = refuse n

-- the two answer the same, and the state after the line has its entries too
pub record Same (lim : Limits) (h : Bytes) (es : List Entry) (a : Answer (State × List Entry)) (b : Answer (Stage × List Entry)) : Type 0 where
  pub is : b ≡ staged a
  pub follows : {q : State × List Entry} → a ≡ ok q → Tabled lim h q.0 (es ++ q.1)

module _ (lim : Limits) (h : Bytes) (es : List Entry) where
  refused_same : (n : ℕ) {a : Answer (State × List Entry)} {b : Answer (Stage × List Entry)} → a ≡ refuse n → b ≡ refuse n → Same lim h es a b
  refused_same n e f = record { is = f ∙ rw e; follows = λ o. let z : ◌≡◌ {A = ℕ} 0 1 = cc in absurd (omega arith) }

  ok_same : {a : Answer (State × List Entry)} {b : Answer (Stage × List Entry)} (q : State × List Entry) → a ≡ ok q → b ≡ ok (stage_after q.0, q.1) → Tabled lim h q.0 (es ++ q.1) → Same lim h es a b
  ok_same q e f t = record { is = f ∙ rw e; follows = λ o. subst (λ (x : State × List Entry). Tabled lim h x.0 (es ++ x.1)) (same_ok (sym e ∙ o)) t }
    where
      same_ok : {x y : State × List Entry} → ok x ≡ ok y → x ≡ y
      same_ok w = cc

  -- both judged, by the same number
  judged_same : (n : ℕ) {m : ℕ} → m ≡ n → (q : State × List Entry) → (n ≡ 0 → Tabled lim h q.0 (es ++ q.1)) → Same lim h es (judged n q) (judged m (stage_after q.0, q.1))
  judged_same zero e q t = ok_same q refl (rw e) (t refl)
  judged_same (suc n) e q t = refused_same (suc n) refl (rw e)

  same_as : {a a' : Answer (State × List Entry)} {b b' : Answer (Stage × List Entry)} → a ≡ a' → b ≡ b' → Same lim h es a' b' → Same lim h es a b
  same_as e f s = rw (e, f) s

module _ (lim : Limits) (imposed : Option Version) (h : Bytes) (es : List Entry) (start : ℕ) (l : Bytes) where
  abbrev held : Answer (State × List Entry) → Answer (Stage × List Entry)
  held a = a >>= held_against h es

  -- the first line
  begin_same : es ≡ [] → Same lim h es (step_text lim.counted imposed start empty l) (held (step_text lim.counted imposed start empty l))
  unfolding step_text
  begin_same z = elim (see (read_record v4_5 l)) [
    | not_read n a ↦ refused_same lim h es n (rw a) (rw a)
    | was r a ↦ go r a
  ]
    where
      go : (r : Record) → read_record v4_5 l ≡ ok r → Same lim h es (read_record v4_5 l >>= begin lim.counted imposed start l) (read_record v4_5 l >>= begin lim.counted imposed start l >>= held_against h es)
      go (fileformat w) a =
          let own = record_entry lim.counted w start l (fileformat w) in
          ok_same lim h es (ready (in_force imposed w) [], own ∷ []) (rw a) (rw a)
          (record { own = own; rows = []; is = ap (◌++ own ∷ []) z; kind = (entry_placed_lem lim.counted w start l (fileformat w)).is_kind; all = tt; good = tt; apart = tt })
      go (fields k fs) a = refused_same lim h es 4 (rw a) (rw a)
      go (text k t) a = refused_same lim h es 4 (rw a) (rw a)

  module _ (v : Version) (rs : List Record) (t : ReadyRows lim h v rs es) where
    -- a record, which is good
    entered : (r : Record) → LineAt lim h start l → read_record v l ≡ ok r → Entered v r
        → Same lim h es (judged (clash v r rs) (ready v (rs ++ r ∷ []), record_entry lim.counted v start l r ∷ []))
        (judged (clash_number (clash_in h es (prefix_of (key_of r)) (record_entry lim.counted v start l r))) (body v, record_entry lim.counted v start l r ∷ []))
    entered r there e g =
        let new = record_entry lim.counted v start l r in
        let row : Row lim h v new r = record { start = start; line = l; there = there; read = e; entry = refl } in
        let c : clash_number (clash_in h es (prefix_of (key_of r)) new) ≡ clash v r rs = rw t.is (found_clash lim h v t.own t.kind t.rows rs t.all t.good t.apart new r row g) in
        judged_same lim h es (clash v r rs) c (ready v (rs ++ r ∷ []), new ∷ []) (λ z. record {
          own = t.own;
          rows = t.rows ++ new ∷ [];
          is = ap (◌++ new ∷ []) t.is;
          kind = t.kind;
          all = rows_snoc lim h v t.rows rs new r t.all row;
          good = all_append (Entered v) rs (r ∷ []) t.good (g, tt);
          apart = apart_snoc v rs r t.apart z;
        })

    record_same : LineAt lim h start l → any (is LF) l ≡ false → Same lim h es (read_record v l >>= enter lim.counted v rs start l) (held (read_record v l >>= enter lim.counted v [] start l))
    unfolding clash
    record_same there line = elim (see (read_record v l)) [
      | not_read n a ↦ refused_same lim h es n (rw a) (rw a)
      | was r a ↦ same_as lim h es (rw a) (rw a) (go r a (on_ok (GoodRecord v) (record_good v l (record { utf8 = there.utf8; line = line })) a))
    ]
      where
        go : (r : Record) → read_record v l ≡ ok r → GoodRecord v r → Same lim h es (enter lim.counted v rs start l r) (held (enter lim.counted v [] start l r))
        go (fileformat w) e g = refused_same lim h es 5 refl refl
        go (fields k fs) e g = entered (fields k fs) there e g
        go (text k x) e g = entered (text k x) there e g

    columns_same : Same lim h es (read_columns l >>= finish v rs start l) (held (read_columns l >>= finish v [] start l))
    columns_same = elim (see (read_columns l)) [
      | not_read n a ↦ refused_same lim h es n (rw a) (rw a)
      | was c a ↦ ok_same lim h es (done v rs c, column_entries start l c) (rw a) (rw a) tt
    ]

    body_same : LineAt lim h start l → any (is LF) l ≡ false → Same lim h es (step_text lim.counted imposed start (ready v rs) l) (held (step_text lim.counted imposed start (ready v []) l))
    unfolding step_text
    body_same there line = elim (test (starts (ascii "#CHROM") l)) [
      | pass e ↦ same_as lim h es (rw (step_text, e)) (rw (step_text, e)) columns_same
      | fail e ↦ same_as lim h es (rw (step_text, e)) (rw (step_text, e)) (record_same there line)
    ]

  -- 1, 2 and 3 do not look at the entries
  module _ (s : State) (d : is_done s ≡ false) where
    step_long : leb (length l) lim.line ≡ false → step lim imposed start s l ≡ refuse 2
    unfolding step
    step_long a = rw (step, d, a)

    step_bytes : leb (length l) lim.line ≡ true → is_utf8 l ≡ false → step lim imposed start s l ≡ refuse 3
    unfolding step
    step_bytes a u = rw (step, d, a, u)

  step_held : (g : Stage) {a : Answer (State × List Entry)} → step lim imposed start (fresh_state g) l ≡ a → step_on lim imposed h es start g l ≡ held a
  unfolding step_on
  step_held g e = ap held e

  -- the two are judged by their texts
  by_text : (s : State) (g : Stage) → is_done s ≡ false → is_done (fresh_state g) ≡ false
      → (length l ≤ lim.line → is_utf8 l ≡ true → Same lim h es (step_text lim.counted imposed start s l) (held (step_text lim.counted imposed start (fresh_state g) l)))
      → Same lim h es (step lim imposed start s l) (step_on lim imposed h es start g l)
  by_text s g d f k = elim (test (leb (length l) lim.line)) [
    | fail a ↦ refused_same lim h es 2 (step_long s d a) (step_held g (step_long (fresh_state g) f a))
    | pass a ↦ elim (test (is_utf8 l)) [
      | fail u ↦ refused_same lim h es 3 (step_bytes s d a u) (step_held g (step_bytes (fresh_state g) f a u))
      | pass u ↦
          let n = leb-true (length l) lim.line a in
          same_as lim h es (step_text_lem lim imposed start s l n u d) (step_held g (step_text_lem lim imposed start (fresh_state g) l n u f)) (k n u)
    ]
  ]

  pub step_same : (s : State) → Tabled lim h s es → part h start (start + length l) ≡ l → start + length l ≤ length h → any (is LF) l ≡ false
      → Same lim h es (step lim imposed start s l) (step_on lim imposed h es start (stage_after s) l)
  unfolding step
  step_same empty t here inside line = by_text empty opening refl refl (λ n u. begin_same t)
  step_same (ready v rs) t here inside line = by_text (ready v rs) (body v) refl refl (λ n u. body_same v rs t (record { here = here; inside = inside; short = n; utf8 = u }) line)
  step_same (done v rs c) t here inside line = refused_same lim h es 1 refl (step_held (ending v (length c.samples)) refl)

-- All lines

module _ (lim : Limits) (imposed : Option Version) (room : ℕ) (h : Bytes) where
  abbrev Left : Point → State → List Bytes → Reading
  Left q s ps = following q.entries (run lim imposed room q.line q.at (length q.entries) s ps)

  abbrev Gone : Point → List Bytes → Went
  Gone q ps = go_on lim imposed room h (length h) q ps

  -- a reading tells what the lines over the entries tell
  pub record Tells (r : Reading) (w : Went) : Type 0 where
    pub answer : reading_means r ≡ closed_at (told_by w)
    pub entries : r.entries ≡ w.point.entries

  refused_tells : (q : Point) (s : State) (m : ℕ) → accepted_in m s ≡ None → Tells (following q.entries (stop m (suc q.line) q.at s)) (record { stop = Some m; point = q })
  refused_tells q s m e = record { answer = rw (append-nil q.entries, e); entries = append-nil q.entries }

  -- a line is refused before any header is accepted, or by 1
  accepted_none : (s : State) (m start : ℕ) (l : Bytes) → step lim imposed start s l ≡ refuse m → accepted_in m s ≡ None
  unfolding step
  accepted_none empty zero start l e = refl
  accepted_none empty (suc m) start l e = refl
  accepted_none (ready v rs) zero start l e = refl
  accepted_none (ready v rs) (suc m) start l e = refl
  accepted_none (done v rs c) m start l e = rw (← one e)
    where
      one : ◌≡◌ {A = Answer (State × List Entry)} (refuse 1) (refuse m) → 1 ≡ m
      one z = cc

  ended_tells : (q : Point) (s : State) → stage_after s ≡ q.stage → Tells (following q.entries (at_end q.line q.at s)) (record { stop = None; point = q })
  ended_tells q empty e = record { answer = rw (append-nil q.entries, ← e); entries = append-nil q.entries }
  ended_tells q (ready v rs) e = record { answer = rw (append-nil q.entries, ← e); entries = append-nil q.entries }
  ended_tells q (done v rs c) e = record { answer = rw (append-nil q.entries, ← e); entries = append-nil q.entries }

  following_both : (es fs : List Entry) (r : Reading) → following es (following fs r) ≡ following (es ++ fs) r
  following_both es fs r = rw (append_assoc es fs r.entries)

  runs : (ps : List Bytes) (q : Point) (s : State) → q.at ≤ length h → pieces (drop q.at h) ≡ ps → stage_after s ≡ q.stage → Tabled lim h s q.entries → Tells (Left q s ps) (Gone q ps)
  unfolding run
  runs [] q s a e g t = rw (go_none lim imposed room h (length h) q) (ended_tells q s g)
  runs (p ∷ ps) q s a e g t =
      let f = first_line h q.at p ps a e in
      let fine : Pieces (p ∷ ps) = subst Pieces e (pieces_fine (drop q.at h)) in
      let here : ltb q.at (length h) ≡ true = lt-ltb q.at (length h) (piece_inside h q.at e) in
      let c = step_same lim imposed h q.entries q.at (line_of p) s t f.here f.inside (piece_line p fine.0) in
      let on : step_on lim imposed h q.entries q.at q.stage (line_of p) ≡ staged (step lim imposed q.at s (line_of p))
      = ap (λ (x : Stage). step_on lim imposed h q.entries q.at x (line_of p)) (sym g) ∙ c.is in
      elim (see (step lim imposed q.at s (line_of p))) [
        | not_read m b ↦
            rw (run_refused lim imposed room q.line q.at (length q.entries) s p ps b, go_refused lim imposed room h (length h) q p ps here (on ∙ ap staged b))
            (refused_tells q s m (accepted_none s m q.at (line_of p) b))
        | was y b ↦
            let z : step_on lim imposed h q.entries q.at q.stage (line_of p) ≡ ok (stage_after y.0, y.1) = on ∙ ap staged b in
            elim (test (leb (length q.entries + length y.1) room)) [
              | fail r ↦
                  rw (run_full lim imposed room q.line q.at (length q.entries) s p ps b r, go_full lim imposed room h (length h) q p ps here z r)
                  (refused_tells q s 24 refl)
              | pass r ↦
                  let q' = passed q p (stage_after y.0, y.1) in
                  let n : length q.entries + length y.1 ≡ length (q.entries ++ y.1) = sym (length-append q.entries y.1) in
                  rw (
                    run_more lim imposed room q.line q.at (length q.entries) s p ps b r,
                    go_more lim imposed room h (length h) q p ps here z r,
                    n,
                    following_both q.entries y.1 (run lim imposed room (suc q.line) (q.at + length p) (length (q.entries ++ y.1)) y.0 ps),
                  )
                  (runs ps q' y.0 f.next f.left refl (c.follows b))
            ]
      ]

  pub whole : length h ≤ lim.header → Tells (reading lim imposed room h) (go_on lim imposed room h (length h) start_point (pieces h))
  unfolding reading
  whole l = rw (reading, le-leb (length h) lim.header l) (runs (pieces h) start_point empty (omega arith) refl refl refl)
