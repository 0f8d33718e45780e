-- Demand 2 over a whole header: what the calls show of every entry of an accepted header. Assumes nothing.
use Prim.Native.Nat.{ℕ, zero, suc, ◌+◌, ◌≤◌}
use native.Mathlib.Omega.{arith}
use mathlib.Core.Path.{◌≡◌, refl, sym, ap, subst, ◌∙◌}
use mathlib.Core.List.{List, [], ◌∷◌, ◌++◌}
use Rattle.std.specs.Prelude.{Option, Some}
use lib.ListN.{length, length-append, length-drop}
use Rattle.values.specs.Bytes.{Bytes, part}
use Rattle.values.proofs.Lists.{some_is, none_not}
use Rattle.values.proofs.Fields.{text_here}
use Rattle.rules.specs.Sizes.{Limits}
use Rattle.rules.specs.Version.{Version, v4_5}
use Rattle.rules.specs.Record.{Record, fileformat, fields, text, read_record}
use Rattle.rules.specs.Columns.{Columns}
use Rattle.rules.specs.Shown.{counts_in_place}
use Rattle.rules.specs.Entry.{Entry, format_kind, columns_kind, sample_kind, plain_entry, line_entry, no_counts, counts_of, record_entry, samples_start, sample_entries, column_entries}
use Rattle.rules.specs.Reading.{reading}
use Rattle.rules.proofs.Firsts.{on_ok}
use Rattle.rules.proofs.Samples.{columns_in}
use Rattle.rules.proofs.Records.{Entered}
use Rattle.rules.proofs.Texts.{FormatIs, format_any}
use Rattle.rules.proofs.Sound.{samples_count}
use Rattle.rules.proofs.House.{accepted_good}
use Rattle.rules.proofs.Trace.{TracedHeader, header_traced}
use Rattle.rules.proofs.Shows.{plain_counts, shows_map, shows_plain, shows_text, part_part}
use Rattle.rules.proofs.Counts.{record_tells}
use Rattle.rules.proofs.Stands.{NamesAt, names_next, first_name, names_start}
use Rattle.rules.specs.Claims.{All, SizedOption, Accepted, Row, Rows, nth, Shows, Tells, Shown, ShownPlain}

-- the row of the i-th record
record RowAt (lim : Limits) (h : Bytes) (v : Version) (es : List Entry) (i : ℕ) (r : Record) : Type 0 where
  entry : Entry
  is : nth es i ≡ Some entry
  row : Row lim h v entry r

row_at : (lim : Limits) (h : Bytes) (v : Version) (es : List Entry) (rs : List Record) (i : ℕ) {r : Record} → Rows lim h v es rs → nth rs i ≡ Some r → RowAt lim h v es i r
row_at lim h v [] [] i a e = none_not e
row_at lim h v [] (r ∷ rs) i a e = absurd a
row_at lim h v (x ∷ es) [] i a e = absurd a
row_at lim h v (x ∷ es) (r ∷ rs) zero a e = record { entry = x; is = refl; row = subst (Row lim h v x) (some_is e) a.0 }
row_at lim h v (x ∷ es) (r ∷ rs) (suc i) a e = let d = row_at lim h v es rs i a.1 e in record { entry = d.entry; is = d.is; row = d.row }

all_at : (P : Record → Type 0) (rs : List Record) (i : ℕ) {r : Record} → All P rs → nth rs i ≡ Some r → P r
all_at P [] i a e = none_not e
all_at P (r ∷ rs) zero a e = subst P (some_is e) a.0
all_at P (r ∷ rs) (suc i) a e = all_at P rs i a.1 e

entry_left : (xs ys : List Entry) (i : ℕ) {e : Entry} → nth xs i ≡ Some e → nth (xs ++ ys) i ≡ Some e
entry_left [] ys i h = none_not h
entry_left (x ∷ xs) ys zero h = h
entry_left (x ∷ xs) ys (suc i) h = entry_left xs ys i h

entry_right : (xs ys : List Entry) (i : ℕ) → nth (xs ++ ys) (length xs + i) ≡ nth ys i
entry_right [] ys i = let e : 0 + i ≡ i = omega arith in rw e
entry_right (x ∷ xs) ys i = let e : suc (length xs) + i ≡ suc (length xs + i) = omega arith in rw e (entry_right xs ys i)

rows_length : (lim : Limits) (h : Bytes) (v : Version) (es : List Entry) (rs : List Record) → Rows lim h v es rs → length es ≡ length rs
rows_length lim h v [] [] a = refl
rows_length lim h v [] (r ∷ rs) a = absurd a
rows_length lim h v (x ∷ es) [] a = absurd a
rows_length lim h v (x ∷ es) (r ∷ rs) a = ap suc (rows_length lim h v es rs a.1)

-- a sample's name, where its entry says
pub record NameIn (s : ℕ) (l : Bytes) (es : List Entry) (j : ℕ) (x : Bytes) : Type 0 where
  pub at : ℕ
  pub is : nth es j ≡ Some (plain_entry sample_kind (s + at) (length x))
  pub here : part l at (at + length x) ≡ x
  pub inside : at + length x ≤ length l

name_in : (s : ℕ) (l : Bytes) (at : ℕ) (xs : List Bytes) (j : ℕ) {x : Bytes} → NamesAt l at xs → nth xs j ≡ Some x → NameIn s l (sample_entries (s + at) xs) j x
unfolding sample_entries
name_in s l at [] j h e = none_not e
name_in s l at (y ∷ xs) zero {x} h e =
    let t = first_name l at y xs h in
    let n = sym (length-drop at l) ∙ ap length t.1 ∙ length-append y t.0 in
    subst (NameIn s l (sample_entries (s + at) (y ∷ xs)) zero) (some_is e)
    (record { at = at; is = refl; here = (text_here l at y t.0 t.1).0; inside = omega (arith, h.1) })
name_in s l at (y ∷ xs) (suc j) h e =
    let d = name_in s l (at + length y + 1) xs j (names_next l at y xs h) e in
    let q : s + (at + length y + 1) ≡ s + at + length y + 1 = omega arith in
    record { at = d.at; is = rw (← q) d.is; here = d.here; inside = d.inside }

module _ (lim : Limits) (imposed : Option Version) (sized : SizedOption imposed) (room : ℕ) (h : Bytes)
    {v : Version} {rs : List Record} {c : Columns} (a : Accepted v rs c (reading lim imposed room h)) where
  abbrev entries : List Entry
  entries = (reading lim imposed room h).entries

  pub traced : TracedHeader lim imposed h v rs c entries
  traced = header_traced lim imposed room h a

  record_shown : (i : ℕ) (r : Record) (e : Entry) → Entered v r → Row lim h v e r → nth entries (suc i) ≡ Some e → Shown lim h v entries (suc i) r
  unfolding record_entry line_entry
  record_shown i r e g row q = record {
    entry = e;
    is = q;
    start = row.start;
    line = row.line;
    there = row.there;
    read = row.read;
    shows = go r g row;
    tells = rw row.entry (record_tells lim h v v row.start row.line r row.there row.read);
  }
    where
      go : (r : Record) → Entered v r → (row : Row lim h v e r) → Shows lim.counted h v row.line e r
      go (fileformat u) g row = absurd g
      go (fields k fs) g row = shows_map lim h v k fs e row g.fine.whole
      go (text k t) g row = shows_text lim h v k t e row

  -- entry i + 1 shows record i
  pub entry_shows : (i : ℕ) {r : Record} → nth rs i ≡ Some r → Shown lim h v entries (suc i) r
  entry_shows i {r} e =
      let d = row_at lim h v traced.rows rs i traced.all e in
      let g = all_at (Entered v) rs i (accepted_good lim imposed room h sized a).0.0.good e in
      record_shown i r d.entry g d.row (ap (λ (x : List Entry). nth x (suc i)) traced.these ∙ entry_left traced.rows _ i d.is)

  -- entry 0 shows the fileformat line
  pub format_shows : ShownPlain h entries 0 format_kind traced.format
  unfolding record_entry line_entry
  format_shows = record {
    entry = record_entry lim.counted traced.own 0 traced.format (fileformat traced.own);
    is = ap (λ (x : List Entry). nth x 0) traced.these;
    shows = shows_plain lim h v (counts_of lim.counted (fileformat traced.own)) format_kind 0 traced.format refl refl
        (plain_counts lim.counted format_kind 0 (length traced.format) (fileformat traced.own) refl refl) traced.first.here traced.first.inside;
  }

  -- and tells of it, whatever the version
  pub format_tells : (u : Version) → (e : Entry) × (nth entries 0 ≡ Some e) × Tells lim.counted h u e (fileformat traced.own)
  format_tells u =
      let read = on_ok (FormatIs (read_record u traced.format)) (format_any v4_5 u traced.format) traced.read_format in
      let tells = record_tells lim h u traced.own 0 traced.format (fileformat traced.own) traced.first read in
      (record_entry lim.counted traced.own 0 traced.format (fileformat traced.own), ap (λ (x : List Entry). nth x 0) traced.these, tells)

  -- the entry after the records shows the column line
  pub column_shows : ShownPlain h entries (suc (length rs)) columns_kind traced.line
  unfolding column_entries counts_in_place
  column_shows =
      let n : length traced.rows + 0 ≡ length rs = rw (rows_length lim h v traced.rows rs traced.all) (omega arith) in
      record {
        entry = plain_entry columns_kind traced.start (length traced.line);
        is = ap (λ (x : List Entry). nth x (suc (length rs))) traced.these ∙ rw (← n) (entry_right traced.rows (column_entries traced.start traced.line c) 0);
        shows = shows_plain lim h v no_counts columns_kind traced.start traced.line refl refl refl traced.last.here traced.last.inside;
      }

  -- the entry count is that of the rules
  pub entry_count : length entries ≡ 2 + length rs + length c.samples
  unfolding column_entries
  entry_count =
      ap length traced.these ∙ ap suc (length-append traced.rows (column_entries traced.start traced.line c))
      ∙ rw (rows_length lim h v traced.rows rs traced.all, samples_count (traced.start + samples_start) c.samples) (omega arith)

  -- the entries after it show the sample names
  pub sample_shows : (j : ℕ) {x : Bytes} → nth c.samples j ≡ Some x → ShownPlain h entries (suc (length rs) + suc j) sample_kind x
  unfolding column_entries counts_in_place
  sample_shows j {x} e =
      let s = traced.start in
      let g = (accepted_good lim imposed room h sized a).0.1 in
      let i = on_ok _ (columns_in traced.line) traced.read_last in
      let d = name_in s traced.line samples_start c.samples j (rw i at (names_start c g)) e in
      let n : length traced.rows + suc j ≡ length rs + suc j = rw (rows_length lim h v traced.rows rs traced.all) in
      let m : suc (length rs) + suc j ≡ suc (length rs + suc j) = omega arith in
      let k : s + d.at + length x ≡ s + (d.at + length x) = omega arith in
      let at = traced.last in
      record {
        entry = plain_entry sample_kind (s + d.at) (length x);
        is = ap (λ (x : List Entry). nth x (suc (length rs) + suc j)) traced.these ∙ rw m (rw (← n) (entry_right traced.rows (column_entries s traced.line c) (suc j)) ∙ d.is);
        shows = shows_plain lim h v no_counts sample_kind (s + d.at) x refl refl refl
            (rw k (part_part h s traced.line d.at (d.at + length x) at.here d.inside ∙ d.here)) (omega (arith, at.inside, d.inside));
      }
