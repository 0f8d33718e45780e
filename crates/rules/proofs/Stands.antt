-- Every entry that a reading keeps stands in its header, in a line within the limit, and there was room for it. Assumes nothing.
use Prim.Native.Nat.{ℕ, suc, ◌+◌, ◌≤◌}
use native.Mathlib.Omega.{arith}
use mathlib.Core.Path.{◌≡◌, refl, sym, ap, subst, ◌∙◌}
use mathlib.Core.Bool.{Bool, true, false, ◌&&◌}
use mathlib.Core.List.{List, [], ◌∷◌, ◌++◌, tail, append-nil}
use Rattle.std.specs.Prelude.{Option}
use lib.Dec.{leb}
use lib.ListN.{length, drop, length-append, length-drop}
use lib.Seq.{drop-drop}
use borrow.Author.Tests.{leb-true}
use Rattle.values.specs.Bytes.{Bytes, LF, ascii, is, any, starts, TAB}
use Rattle.values.proofs.Tests.{pass, fail, test, never, or_on}
use Rattle.values.proofs.Fields.{text_here}
use Rattle.rules.specs.Answer.{ok}
use Rattle.rules.specs.Sizes.{Limits}
use Rattle.rules.specs.Lines.{pieces, line_of}
use Rattle.rules.specs.Version.{Version, v4_5}
use Rattle.rules.specs.Record.{Record, fileformat, fields, text, read_record}
use Rattle.rules.specs.Columns.{Columns, read_columns}
use Rattle.rules.specs.Entry.{Entry, format_kind, text_kind, columns_kind, sample_kind, plain_entry, line_entry, no_counts, counts_of, record_entry, tabbed, samples_start, sample_entries, column_entries}
use Rattle.rules.specs.Shown.{has_id, counts_in_place, well_formed}
use Rattle.rules.specs.Reading.{clash, State, empty, ready, done, begin, enter, step_text, step, at_end, run, reading}
use Rattle.rules.specs.House.{parted, write_columns}
use Rattle.rules.proofs.Firsts.{OnOk, on_ok, judged_ok, was, not_read, see}
use Rattle.rules.proofs.Alls.{all_append}
use Rattle.rules.proofs.Pure.{Pure}
use Rattle.rules.proofs.Pieces.{Pieces, piece_line, pieces_fine}
use Rattle.rules.proofs.Samples.{GoodColumns, columns_of, columns_good, columns_in}
use Rattle.rules.proofs.Records.{GoodRecord, record_good}
use Rattle.rules.proofs.Sound.{Taken, step_taken, run_refused, run_full, run_more}
use Rattle.rules.proofs.Trace.{first_line}
use Rattle.rules.proofs.Shows.{shows_map, entry_placed_lem, plain_formed, plain_counts}
use Rattle.rules.proofs.Counts.{counts_small}
use Rattle.rules.specs.Claims.{All, LineAt, Row}

-- Sample names

-- names that stand at a place of the line, tab-parted
abbrev pub NamesAt : Bytes → ℕ → List Bytes → Type 0
NamesAt l at [] = Unit {0}
NamesAt l at (x ∷ xs) = (drop at l ≡ parted (x ∷ xs)) × (at ≤ length l)

pub names_next : (l : Bytes) (at : ℕ) (x : Bytes) (xs : List Bytes) → NamesAt l at (x ∷ xs) → NamesAt l (at + length x + 1) xs
unfolding parted
names_next l at x [] h = tt
names_next l at x (y ∷ xs) h =
    let t = text_here l at x (TAB ∷ parted (y ∷ xs)) h.0 in
    let n = sym (length-drop at l) ∙ ap length h.0 ∙ length-append x (TAB ∷ parted (y ∷ xs)) in
    (sym (drop-drop 1 (at + length x) l) ∙ ap tail t.1, omega (arith, h.1))

pub first_name : (l : Bytes) (at : ℕ) (x : Bytes) (xs : List Bytes) → NamesAt l at (x ∷ xs) → (r : Bytes) × (drop at l ≡ x ++ r)
unfolding parted
first_name l at x [] h = ([], h.0 ∙ sym (append-nil x))
first_name l at x (y ∷ xs) h = (TAB ∷ parted (y ∷ xs), h.0)

pub names_start : (c : Columns) → GoodColumns c → NamesAt (write_columns c.format c.samples) samples_start c.samples
unfolding write_columns parted samples_start tabbed
names_start c g = go c.format c.samples g.formatted
  where
    go : (f : Bool) (xs : List Bytes) → (f ≡ false → xs ≡ []) → NamesAt (parted (columns_of f xs)) samples_start xs
    go true [] h = tt
    go true (x ∷ xs) h = (refl, omega arith)
    go false [] h = tt
    go false (x ∷ xs) h = never (cc (h refl))

-- An entry that stands in a header of `size` bytes

pub record Stands (lim : Limits) (size : ℕ) (e : Entry) : Type 0 where
  pub formed : well_formed size e ≡ true
  pub short : e.length ≤ lim.line
  pub key : e.key_length ≤ e.length
  pub fields : e.field_count ≤ e.length
  pub uncounted : lim.counted ≡ false → (e.key_length ≡ 0) × (e.field_count ≡ 0)

module _ (lim : Limits) (h : Bytes) where
  abbrev All-stand : List Entry → Type 0
  All-stand = All (Stands lim (length h))

  plain_stands : (kind start len : ℕ) → leb 1 kind && leb kind 10 ≡ true → has_id kind ≡ false → start + len ≤ length h → len ≤ lim.line → Stands lim (length h) (plain_entry kind start len)
  unfolding counts_in_place
  plain_stands kind start len k i fits short = record {
    formed = plain_formed no_counts kind start len (length h) k i (rw (or_on (leb kind 8) refl, i)) fits;
    short = short;
    key = omega arith;
    fields = omega arith;
    uncounted = λ c. (refl, refl);
  }

  -- names in a line that stands at s
  names_stand : (s : ℕ) (l : Bytes) → s + length l ≤ length h → length l ≤ lim.line → (at : ℕ) (xs : List Bytes) → NamesAt l at xs → All-stand (sample_entries (s + at) xs)
  unfolding sample_entries
  names_stand s l fits short at [] a = tt
  names_stand s l fits short at (x ∷ xs) a =
      let t = first_name l at x xs a in
      let n = sym (length-drop at l) ∙ ap length t.1 ∙ length-append x t.0 in
      let q : s + (at + length x + 1) ≡ s + at + length x + 1 = omega arith in
      (plain_stands sample_kind (s + at) (length x) refl refl (omega (arith, a.1)) (omega (arith, a.1)), rw (← q) (names_stand s l fits short (at + length x + 1) xs (names_next l at x xs a)))

  module _ (start : ℕ) (l : Bytes) (there : LineAt lim h start l) (line : any (is LF) l ≡ false) where
    pure : Pure l
    pure = record { utf8 = there.utf8; line = line }

    abbrev Kept : State × List Entry → Type 0
    Kept q = All-stand q.1

    -- the entry of the line's record
    record_stands : (u v : Version) (r : Record) → read_record u l ≡ ok r → well_formed (length h) (record_entry lim.counted v start l r) ≡ true
        → Stands lim (length h) (record_entry lim.counted v start l r)
    record_stands u v r e formed =
        let n = (entry_placed_lem lim.counted v start l r).is_length in
        let s = counts_small lim.counted u v start l r e in
        record { formed = formed; short = rw n there.short; key = rw n s.0; fields = rw n s.1; uncounted = s.2 }

    begin_stands : (imposed : Option Version) (r : Record) → read_record v4_5 l ≡ ok r → OnOk Kept (begin lim.counted imposed start l r)
    unfolding record_entry line_entry
    begin_stands imposed (fileformat v) e =
        (record_stands v4_5 v (fileformat v) e (plain_formed (counts_of lim.counted (fileformat v)) format_kind start (length l) (length h) refl refl (plain_counts lim.counted format_kind start (length l) (fileformat v) refl refl) there.inside), tt)
    begin_stands imposed (fields k fs) e = tt
    begin_stands imposed (text k t) e = tt

    enter_stands : (v : Version) (rs : List Record) (r : Record) → read_record v l ≡ ok r → OnOk Kept (enter lim.counted v rs start l r)
    unfolding record_entry line_entry
    enter_stands v rs (fileformat w) e = tt
    enter_stands v rs (fields k fs) e = judged_ok Kept (clash v (fields k fs) rs) _ (λ z.
        let g = on_ok (GoodRecord v) (record_good v l pure) e in
        let new = record_entry lim.counted v start l (fields k fs) in
        let row : Row lim h v new (fields k fs) = record { start = start; line = l; there = there; read = e; entry = refl } in
        (record_stands v v (fields k fs) e (shows_map lim h v k fs new row g.fine.whole).formed, tt))
    enter_stands v rs (text k t) e = judged_ok Kept (clash v (text k t) rs) _ (λ z.
        (record_stands v v (text k t) e (plain_formed (counts_of lim.counted (text k t)) text_kind start (length l) (length h) refl refl (plain_counts lim.counted text_kind start (length l) (text k t) refl refl) there.inside), tt))

    columns_stand : (c : Columns) → read_columns l ≡ ok c → All-stand (column_entries start l c)
    unfolding column_entries
    columns_stand c e =
        let w = on_ok _ (columns_in l) e in
        let g = on_ok GoodColumns (columns_good l pure) e in (
          plain_stands columns_kind start (length l) refl refl there.inside there.short,
          names_stand start l there.inside there.short samples_start c.samples (rw w at (names_start c g)),
        )

    pub text_stands : (imposed : Option Version) (s : State) → OnOk Kept (step_text lim.counted imposed start s l)
    unfolding step_text
    text_stands imposed empty = elim (see (read_record v4_5 l)) [
      | was r a ↦ rw (step_text, a) (begin_stands imposed r a)
      | not_read m a ↦ rw (step_text, a) tt
    ]
    text_stands imposed (ready v rs) = elim (test (starts (ascii "#CHROM") l)) [
      | pass e ↦ elim (see (read_columns l)) [
        | was c a ↦ rw (step_text, e, a) (columns_stand c a)
        | not_read m a ↦ rw (step_text, e, a) tt
      ]
      | fail e ↦ elim (see (read_record v l)) [
        | was r a ↦ rw (step_text, e, a) (enter_stands v rs r a)
        | not_read m a ↦ rw (step_text, e, a) tt
      ]
    ]
    text_stands imposed (done v rs c) = tt

  run_stands : (imposed : Option Version) (room n start count : ℕ) (s : State) (ps : List Bytes) → start ≤ length h → pieces (drop start h) ≡ ps → All-stand (run lim imposed room n start count s ps).entries
  unfolding run
  run_stands imposed room n start count s [] l e = at_end_lem s
    where
      at_end_lem : (s : State) → All-stand (at_end n start s).entries
      at_end_lem empty = tt
      at_end_lem (ready v rs) = tt
      at_end_lem (done v rs c) = tt
  run_stands imposed room n start count s (p ∷ ps) l e = elim (see (step lim imposed start s (line_of p))) [
    | not_read m a ↦ rw (run_refused lim imposed room n start count s p ps a) tt
    | was q a ↦ elim (test (leb (count + length q.1) room)) [
      | fail t ↦ rw (run_full lim imposed room n start count s p ps a t) tt
      | pass t ↦
          let f = first_line h start p ps l e in
          let k = on_ok (Taken lim imposed start s (line_of p)) (step_taken lim imposed start s (line_of p)) a in
          let fine : Pieces (p ∷ ps) = subst Pieces e (pieces_fine (drop start h)) in
          let there : LineAt lim h start (line_of p) = record { here = f.here; inside = f.inside; short = k.0; utf8 = k.1 } in
          rw (run_more lim imposed room n start count s p ps a t)
          (all_append (Stands lim (length h)) q.1 (run lim imposed room (suc n) (start + length p) (count + length q.1) q.0 ps).entries
          (on_ok (λ (x : State × List Entry). All-stand x.1) (text_stands start (line_of p) there (piece_line p fine.0) imposed s) k.2)
          (run_stands imposed room (suc n) (start + length p) (count + length q.1) q.0 ps f.next f.left))
    ]
  ]

  pub reading_stands : (imposed : Option Version) (room : ℕ) → All (Stands lim (length h)) (reading lim imposed room h).entries
  unfolding reading
  reading_stands imposed room = elim (test (leb (length h) lim.header)) [
    | pass e ↦ rw (reading, e) (run_stands imposed room 0 0 0 empty (pieces h) (omega arith) refl)
    | fail e ↦ rw (reading, e) tt
  ]

-- There was room for them

run_fits : (lim : Limits) (imposed : Option Version) (room n start count : ℕ) (s : State) (ps : List Bytes) → count ≤ room → count + length (run lim imposed room n start count s ps).entries ≤ room
unfolding run
run_fits lim imposed room n start count s [] h = at_end_lem s
  where
    at_end_lem : (s : State) → count + length (at_end n start s).entries ≤ room
    at_end_lem empty = omega arith
    at_end_lem (ready v rs) = omega arith
    at_end_lem (done v rs c) = omega arith
run_fits lim imposed room n start count s (p ∷ ps) h = elim (see (step lim imposed start s (line_of p))) [
  | not_read m a ↦ rw (run_refused lim imposed room n start count s p ps a) (omega arith)
  | was q a ↦ elim (test (leb (count + length q.1) room)) [
    | fail t ↦ rw (run_full lim imposed room n start count s p ps a t) (omega arith)
    | pass t ↦
        let es = (run lim imposed room (suc n) (start + length p) (count + length q.1) q.0 ps).entries in
        rw (run_more lim imposed room n start count s p ps a t, length-append q.1 es)
        (omega (arith, run_fits lim imposed room (suc n) (start + length p) (count + length q.1) q.0 ps (leb-true _ room t)))
  ]
]

pub reading_fits : (lim : Limits) (imposed : Option Version) (room : ℕ) (h : Bytes) → length (reading lim imposed room h).entries ≤ room
unfolding reading
reading_fits lim imposed room h = elim (test (leb (length h) lim.header)) [
  | pass e ↦ rw (reading, e) (omega (arith, run_fits lim imposed room 0 0 0 empty (pieces h) (omega arith)))
  | fail e ↦ rw (reading, e) (omega arith)
]

-- an accepted header is within the limit
pub accepted_short : (lim : Limits) (imposed : Option Version) (room : ℕ) (h : Bytes) → (reading lim imposed room h).number ≡ 0 → length h ≤ lim.header
unfolding reading
accepted_short lim imposed room h z = elim (test (leb (length h) lim.header)) [
  | pass e ↦ leb-true (length h) lim.header e
  | fail e ↦ let q : ◌≡◌ {A = ℕ} 27 0 = rw (reading, e) at z in absurd (omega arith)
]
