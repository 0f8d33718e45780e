-- The cells that a header's entries tell are those of its records. Assumes nothing.
use Prim.Native.Nat.{ℕ, ◌+◌}
use mathlib.Core.Path.{◌≡◌, refl, sym, ap, ap₂, ◌∙◌}
use mathlib.Core.Bool.{true, false}
use mathlib.Core.List.{List, [], ◌∷◌, ◌++◌, map, tail}
use Rattle.std.specs.Prelude.{Option}
use lib.Dec.{eqb}
use lib.ListN.{length}
use borrow.Author.Tests.{eq-eqb}
use Rattle.values.specs.Bytes.{Bytes, ascii, any, same, starts}
use Rattle.values.specs.Field.{Field}
use Rattle.values.proofs.Tests.{pass, fail, test, and_off}
use Rattle.values.proofs.Sames.{same_sound}
use Rattle.rules.specs.Answer.{ok}
use Rattle.rules.specs.Sizes.{Limits}
use Rattle.rules.specs.Version.{Version}
use Rattle.rules.specs.Known.{kind_of, always_map, names_id, name_of}
use Rattle.rules.specs.Map.{field_named, value_named, field_keyed, fields_at}
use Rattle.rules.specs.Record.{Record, fileformat, fields, text, read_record}
use Rattle.rules.specs.Columns.{Columns}
use Rattle.rules.specs.Entry.{Entry, Counts, with_counts, map_kind, fields_start, line_entry, record_entry, sample_entries, column_entries}
use Rattle.rules.specs.Shown.{line_in, id_in}
use Rattle.rules.specs.House.{write_fields, write_record}
use Rattle.rules.proofs.Firsts.{on_ok}
use Rattle.rules.proofs.Records.{Entered}
use Rattle.rules.proofs.Texts.{LineOf, record_in, Scanned, record_scanned}
use Rattle.rules.proofs.Trace.{TracedHeader}
use Rattle.rules.proofs.Shows.{shows_map}
use Rattle.ids.specs.Clashes.{prefix_of, has_key}
use Rattle.ids.proofs.Clashes.{prefix_starts}
use Rattle.register.specs.Cells.{well_of, Cell, constant_of, declared, cells}
use Rattle.register.specs.Wells.{is_cell, constant_at, cell_in, cells_by, cells_in}
use Rattle.register.proofs.Raw.{well_raw}
use Rattle.rules.specs.Claims.{All, Row, Rows}
use Rattle.rules.proofs.Scans.{fields_read}

-- in a `##cell` map each field is named by its own key
cell_name : (v : Version) (key : Bytes) → name_of v (ascii "cell") key ≡ key
unfolding name_of names_id same
cell_name v key = refl

cell_field : (v : Version) (name : Bytes) (fs : List Field) → field_named v (ascii "cell") name fs ≡ field_keyed name fs
unfolding field_named field_keyed
cell_field v name [] = refl
cell_field v name (f ∷ fs) = elim (test (same f.key name)) [
  | pass e ↦ rw (field_named, field_keyed, cell_name v f.key, e)
  | fail e ↦ rw (field_named, field_keyed, cell_name v f.key, e) (cell_field v name fs)
]

-- the fields of its line
cell_fields : (v : Version) (l : Bytes) (fs : List Field) → read_record v l ≡ ok (fields (ascii "cell") fs) → fields_at false l (fields_start (ascii "cell")) ≡ fs
unfolding same always_map
cell_fields v l fs r = fields_read false false l (fields_start (ascii "cell")) (on_ok (Scanned v l) (record_scanned v l) r)

-- an entry that is no cell's
no_cell : (h : Bytes) (line : ℕ) (e : Entry) (es : List Entry) → eqb e.kind 7 ≡ false → cells_in h line (e ∷ es) ≡ cells_in h (line + 1) es
unfolding cells_in has_key
no_cell h line e es k = rw k

-- a record's entry tells the cell that the record declares
module _ (lim : Limits) (h : Bytes) (v : Version) (line : ℕ) (e : Entry) where
  module _ (k : Bytes) (fs : List Field) (row : Row lim h v e (fields k fs)) (g : Entered v (fields k fs)) where
    starts_cell : starts (prefix_of (ascii "cell")) (line_in h e) ≡ same k (ascii "cell")
    unfolding write_record any
    starts_cell =
        let l : row.line ≡ write_record (fields k fs) = on_ok (LineOf row.line) (record_in v row.line) row.read in
        rw ((shows_map lim h v k fs e row g.fine.whole).line ∙ l) (prefix_starts (ascii "cell") k (60 ∷ (write_fields fs ++ 62 ∷ [])) refl g.key.plain)

    other_key : same k (ascii "cell") ≡ false → is_cell h e ≡ false
    unfolding has_key
    other_key q = and_off (eqb e.kind 7) (starts_cell ∙ q)

    cell_key : same k (ascii "cell") ≡ true → is_cell h e ≡ true
    unfolding has_key kind_of same
    cell_key q =
        let n : e.kind ≡ 7 = (shows_map lim h v k fs e row g.fine.whole).kind ∙ ap (λ (j : Bytes). map_kind (kind_of j)) (same_sound k (ascii "cell") q) in
        rw (eq-eqb e.kind 7 n) (starts_cell ∙ q)

    well_is : well_of (id_in h e) ≡ well_of (value_named v k (ascii "ID") fs)
    well_is = sym (well_raw e.quoted (id_in h e)) ∙ ap well_of (shows_map lim h v k fs e row g.fine.whole).id

    constant_is : k ≡ ascii "cell" → constant_at h e ≡ constant_of (field_named v k (ascii "K") fs)
    unfolding constant_at
    constant_is i =
        ap (λ (l : Bytes). constant_of (field_keyed (ascii "K") (fields_at false l (fields_start (ascii "cell"))))) (shows_map lim h v k fs e row g.fine.whole).line
        ∙ ap (λ (x : List Field). constant_of (field_keyed (ascii "K") x)) (cell_fields v row.line fs (row.read ∙ ap (λ (j : Bytes). ok (fields j fs)) i))
        ∙ ap constant_of (sym (cell_field v (ascii "K") fs))
        ∙ ap (λ (j : Bytes). constant_of (field_named v j (ascii "K") fs)) (sym i)

    map_cell : (cs : List Cell) → cells_by (is_cell h e) (cell_in h line e) cs ≡ declared v line e.start (fields k fs) ++ cs
    unfolding declared
    map_cell cs = elim (test (same k (ascii "cell"))) [
      | fail q ↦ rw (other_key q, declared, q)
      | pass q ↦ rw (cell_key q, declared, q)
          (ap (◌∷ cs) (ap₂ (λ (w : ℕ) (c : Option ℕ). record { line = line; start = e.start; well = w; constant = c }) well_is (constant_is (same_sound k (ascii "cell") q))))
    ]

  row_cell : (r : Record) → Row lim h v e r → Entered v r → (cs : List Cell) → cells_by (is_cell h e) (cell_in h line e) cs ≡ declared v line e.start r ++ cs
  unfolding declared has_key record_entry line_entry
  row_cell (fileformat w) row g cs = absurd g
  row_cell (text k t) row g cs = let k : e.kind ≡ 8 = ap (λ (x : Entry). x.kind) row.entry in rw k
  row_cell (fields k fs) row g cs = map_cell k fs row g cs

-- entries after the records' are no cells
abbrev Aside : Entry → Type 0
Aside e = eqb e.kind 7 ≡ false

none_aside : (h : Bytes) (line : ℕ) (es : List Entry) → All Aside es → cells_in h line es ≡ []
unfolding cells_in
none_aside h line [] a = refl
none_aside h line (e ∷ es) a = no_cell h line e es a.0 ∙ none_aside h (line + 1) es a.1

cells_none : (v : Version) (line : ℕ) (es : List Entry) → cells v line es [] ≡ []
unfolding cells
cells_none v line [] = refl
cells_none v line (e ∷ es) = refl

rows_cells : (lim : Limits) (h : Bytes) (v : Version) (line : ℕ) (es more : List Entry) (rs : List Record) → Rows lim h v es rs → All (Entered v) rs → All Aside more
    → cells_in h line (es ++ more) ≡ cells v line (es ++ more) rs
unfolding cells_in cells
rows_cells lim h v line [] more [] a g x = none_aside h line more x ∙ sym (cells_none v line more)
rows_cells lim h v line [] more (r ∷ rs) a g x = absurd a
rows_cells lim h v line (e ∷ es) more [] a g x = absurd a
rows_cells lim h v line (e ∷ es) more (r ∷ rs) a g x =
    row_cell lim h v line e r a.0 g.0 (cells_in h (line + 1) (es ++ more)) ∙ ap (declared v line e.start r ++◌) (rows_cells lim h v (line + 1) es more rs a.1 g.1 x)

samples_aside : (at : ℕ) (xs : List Bytes) → All Aside (sample_entries at xs)
unfolding sample_entries
samples_aside at [] = tt
samples_aside at (x ∷ xs) = (refl, samples_aside (at + length x + 1) xs)

columns_aside : (start : ℕ) (l : Bytes) (c : Columns) → All Aside (column_entries start l c)
unfolding column_entries
columns_aside start l c = (refl, samples_aside _ c.samples)

-- the cells of the entries of an accepted header
pub header_cells : (lim : Limits) (imposed : Option Version) (h : Bytes) (v : Version) (rs : List Record) (c : Columns) (es : List Entry) → TracedHeader lim imposed h v rs c es → All (Entered v) rs
    → cells_in h 1 es ≡ cells v 2 (tail es) rs
unfolding record_entry line_entry
header_cells lim imposed h v rs c es t g =
    rw t.these (no_cell h 1 (record_entry lim.counted t.own 0 t.format (fileformat t.own)) _ refl
    ∙ rows_cells lim h v 2 t.rows (column_entries t.start t.line c) rs t.all g (columns_aside t.start t.line c))

-- the cells are those of the entries whatever these tell of keys and fields, so in either form
pub cells_uncounted : (h : Bytes) (line : ℕ) (counts : Entry → Counts) (es : List Entry) → cells_in h line (map (λ (e : Entry). with_counts (counts e) e) es) ≡ cells_in h line es
unfolding cells_in has_key constant_at line_in id_in
cells_uncounted h line counts [] = refl
cells_uncounted h line counts (e ∷ es) = ap (cells_by (is_cell h e) (cell_in h line e)) (cells_uncounted h (line + 1) counts es)
