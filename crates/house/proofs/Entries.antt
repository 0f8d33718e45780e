-- What an accepted header's entries tell: of each record its key and its line. Assumes nothing.
use Prim.Native.Nat.{ℕ, ◌+◌, ◌-◌, ◌≤◌}
use native.Mathlib.Omega.{arith}
use mathlib.Core.Path.{◌≡◌, refl, sym, ap, subst, ◌∙◌}
use mathlib.Core.Bool.{true, false, not, ◌&&◌}
use mathlib.Core.List.{List, [], ◌∷◌, ◌++◌}
use lib.Dec.{eqb, ltb}
use lib.ListN.{length}
use lib.Seq.{take-append-add}
use borrow.Author.Tests.{lt-ltb, le-ltb, ne_eqb, ltb-true, ltb-false}
use Rattle.values.specs.Bytes.{Bytes, ascii, is, any, same}
use Rattle.values.proofs.Tests.{pass, fail, test, or_l}
use Rattle.values.proofs.Lists.{before_stop}
use Rattle.rules.specs.Answer.{ok}
use Rattle.rules.specs.Sizes.{Limits}
use Rattle.rules.specs.Version.{Version}
use Rattle.rules.specs.Known.{kind_of, is_typed}
use Rattle.rules.specs.Record.{Record, fileformat, fields, text, read_record, key_of}
use Rattle.rules.specs.Columns.{Columns}
use Rattle.rules.specs.Entry.{Entry, Counts, format_kind, map_kind, text_kind, columns_kind, plain_entry, with_counts, sample_entries, column_entries}
use Rattle.rules.specs.Shown.{line_in}
use Rattle.rules.specs.House.{write_fields, write_record}
use Rattle.rules.proofs.Firsts.{on_ok}
use Rattle.rules.proofs.Records.{Entered}
use Rattle.rules.proofs.Texts.{LineOf, record_in}
use Rattle.rules.proofs.Shows.{Placed, entry_placed_lem}
use Rattle.ids.specs.Clashes.{prefix_of}
use Rattle.ids.proofs.Clashes.{prefix_starts}
use Rattle.ids.proofs.KeyKinds.{typed_below, number_small}
use Rattle.forms.specs.Lines.{record_line, IsEntry, house_line}
use Rattle.forms.proofs.Lines.{entry_is}
use Rattle.house.specs.Writes.{Readable}
use Rattle.house.specs.Keys.{is_record, is_under, prefix_in, is_other_record}
use Rattle.rules.specs.Claims.{All, LineAt, Row, Rows}

-- the line that an entry stands for
pub line_of : (lim : Limits) (h : Bytes) (start : ℕ) (l : Bytes) → LineAt lim h start l → (e : Entry) → e.start ≡ start → e.length ≡ length l → line_in h e ≡ l
unfolding line_in
line_of lim h start l at e s n =
    let m : start + length l - start ≡ length l = omega arith in
    rw (s, n) (rw m at at.here)

-- an entry that is no record: the fileformat line, the column line or a sample
pub record Aside (e : Entry) : Type 0 where
  pub unrecorded : is_record e ≡ false
  pub not_other : is_other_record e ≡ false

-- Records

pub record RowIs (v : Version) (h : Bytes) (e : Entry) (r : Record) : Type 0 where
  pub other : is_other_record e ≡ not (is_typed (key_of r))
  pub no_columns : eqb e.kind columns_kind ≡ false
  pub plain : any (is 61) (key_of r) ≡ false
  pub readable : Readable v (line_in h e)
  pub written : house_line v (line_in h e) ≡ record_line v r
  pub under : (k : Bytes) → any (is 61) k ≡ false → is_under h (prefix_of k) e ≡ same (key_of r) k
  pub prefix : prefix_in h e ≡ prefix_of (key_of r)

lacks_key : (k : Bytes) → any (is 61) k ≡ false → any (is 61) (ascii "##" ++ k) ≡ false
unfolding any
lacks_key k h = h

module _ (v : Version) (h : Bytes) (e : Entry) (r : Record) (rest l : Bytes) (is_line_lem : line_in h e ≡ l) (l-is : l ≡ ascii "##" ++ (key_of r ++ 61 ∷ rest))
    (plain : any (is 61) (key_of r) ≡ false) (kind : ℕ) (is_kind : e.kind ≡ kind) (low : 2 ≤ kind) (high : kind ≤ 8) where
  prefix_is : prefix_in h e ≡ prefix_of (key_of r)
  unfolding prefix_in
  prefix_is =
      let p = ascii "##" ++ key_of r in
      rw (is_line_lem ∙ l-is, before_stop (is 61) p 61 rest (lacks_key (key_of r) plain) refl) (take-append-add p (61 ∷ rest) 1)

  record_kind_lem : is_record e ≡ true
  record_kind_lem = rw (is_kind, lt-ltb 1 kind (omega arith), lt-ltb kind 9 (omega arith))

  row_of : is_other_record e ≡ not (is_typed (key_of r)) → read_record v l ≡ ok r → IsEntry r → RowIs v h e r
  unfolding is_under
  row_of o read entry = record {
    other = o;
    no_columns = rw is_kind (ne_eqb kind 9 (λ q. omega arith));
    plain = plain;
    readable = record { line = r; read = rw is_line_lem read; entry = entry };
    written = rw is_line_lem (entry_is v l r read entry);
    under = λ k a. rw (record_kind_lem, is_line_lem ∙ l-is) (prefix_starts k (key_of r) rest a plain);
    prefix = prefix_is;
  }

other_typed : (kind : ℕ) → kind ≤ 8 → (ltb 6 kind && ltb kind 9) ≡ not (ltb kind 7)
other_typed kind l = elim (test (ltb kind 7)) [
  | pass e ↦ rw (e, le-ltb 6 kind (omega (arith, ltb-true kind 7 e)))
  | fail e ↦ rw (e, lt-ltb 6 kind (omega (arith, ltb-false kind 7 e)), lt-ltb kind 9 (omega arith))
]

pub row_is : (lim : Limits) (v : Version) (h : Bytes) (e : Entry) (r : Record) → Row lim h v e r → Entered v r → RowIs v h e r
unfolding write_record
row_is lim v h e (fileformat u) row g = absurd g
row_is lim v h e (fields k fs) row g =
    let kind = map_kind (kind_of k) in
    let n = number_small (kind_of k) in
    let d = subst (Placed kind row.start (length row.line)) (sym row.entry) (entry_placed_lem lim.counted v row.start row.line (fields k fs)) in
    let is_line_lem = line_of lim h row.start row.line row.there e d.is_start d.is_length in
    row_of v h e (fields k fs) (60 ∷ (write_fields fs ++ 62 ∷ [])) row.line is_line_lem (on_ok (LineOf row.line) (record_in v row.line) row.read) g.key.plain
    kind d.is_kind n.0 (omega (arith, n.1)) (rw d.is_kind (other_typed kind (omega (arith, n.1)) ∙ ap not (sym (typed_below k)))) row.read tt
row_is lim v h e (text k t) row g =
    let d = subst (Placed text_kind row.start (length row.line)) (sym row.entry) (entry_placed_lem lim.counted v row.start row.line (text k t)) in
    let is_line_lem = line_of lim h row.start row.line row.there e d.is_start d.is_length in
    row_of v h e (text k t) t row.line is_line_lem (on_ok (LineOf row.line) (record_in v row.line) row.read) g.key.plain
    8 d.is_kind (omega arith) (omega arith) (rw (d.is_kind, or_l (is_typed k) _ g.no_map)) row.read tt

-- entries and the records that they are
abbrev pub Are : Version → Bytes → List Entry → List Record → Type 0
Are v h [] [] = Unit {0}
Are v h [] (r ∷ rs) = ⊥
Are v h (e ∷ es) [] = ⊥
Are v h (e ∷ es) (r ∷ rs) = RowIs v h e r × Are v h es rs

pub rows_are : (lim : Limits) (v : Version) (h : Bytes) (es : List Entry) (rs : List Record) → Rows lim h v es rs → All (Entered v) rs → Are v h es rs
rows_are lim v h [] [] a g = tt
rows_are lim v h [] (r ∷ rs) a g = absurd a
rows_are lim v h (e ∷ es) [] a g = absurd a
rows_are lim v h (e ∷ es) (r ∷ rs) a g = (row_is lim v h e r a.0 g.0, rows_are lim v h es rs a.1 g.1)

-- The other entries

pub format_aside : (c : Counts) (start len : ℕ) → Aside (with_counts c (plain_entry format_kind start len))
format_aside c start len = record { unrecorded = refl; not_other = refl }

samples_aside : (at : ℕ) (xs : List Bytes) → All Aside (sample_entries at xs)
unfolding sample_entries
samples_aside at [] = tt
samples_aside at (x ∷ xs) = (record { unrecorded = refl; not_other = refl }, samples_aside (at + length x + 1) xs)

pub columns_aside : (start : ℕ) (l : Bytes) (c : Columns) → All Aside (column_entries start l c)
unfolding column_entries
columns_aside start l c = (record { unrecorded = refl; not_other = refl }, samples_aside _ c.samples)
