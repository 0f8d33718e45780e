-- The lines that an accepted header's entries tell are those of its records. Assumes nothing.
use Prim.Native.Nat.{ℕ, ◌+◌}
use mathlib.Core.Path.{◌≡◌, refl, sym, ap, ap₂, ◌∙◌}
use mathlib.Core.Bool.{Bool, true, false, true≢false}
use mathlib.Core.List.{List, [], ◌∷◌, ◌++◌, map}
use Rattle.std.specs.Prelude.{Option}
use lib.ListN.{length}
use Rattle.values.specs.Bytes.{Bytes, ascii, same}
use Rattle.values.specs.Field.{Field}
use Rattle.values.proofs.Tests.{pass, fail, test}
use Rattle.values.proofs.Sames.{same_sound}
use Rattle.rules.specs.Answer.{ok}
use Rattle.rules.specs.Sizes.{Limits}
use Rattle.rules.specs.Version.{Version}
use Rattle.rules.specs.Known.{Kind, INFO, FILTER, FORMAT, ALT, contig, other, kind_of, always_map}
use Rattle.rules.specs.Map.{is_meta, fields_at}
use Rattle.rules.specs.Record.{Record, fileformat, fields, text, read_record}
use Rattle.rules.specs.Columns.{Columns}
use Rattle.rules.specs.Entry.{Entry, Counts, with_counts, map_kind, text_kind, fields_start, line_entry, record_entry, sample_entries, column_entries}
use Rattle.rules.specs.Shown.{line_in, id_in}
use Rattle.rules.specs.Reading.{id_of}
use Rattle.rules.proofs.Firsts.{on_ok}
use Rattle.rules.proofs.Records.{Entered}
use Rattle.rules.proofs.Texts.{Scanned, record_scanned}
use Rattle.rules.proofs.Shows.{shows_map}
use Rattle.rules.proofs.Trace.{TracedHeader}
use Rattle.forms.proofs.Forms.{named_keyed}
use Rattle.dictionary.specs.Dictionary.{belongs, Line, idx_of, idx_in, is_of, line_if, lines_of}
use Rattle.dictionary.specs.Lines.{holds, fields_place, entry_idx, line_of_entry, entry_lines}
use Rattle.dictionary.specs.declared.line.Dictionary.{Dictionary}
use Rattle.dictionary.specs.declared.line.Dictionary.TheVariants.{Strings, Contigs}
use Rattle.rules.specs.Claims.{All, Row, Rows}
use Rattle.rules.proofs.Scans.{fields_read}

holds_kind : (d : Dictionary) (kind : Kind) → holds d (map_kind kind) ≡ belongs d kind
holds_kind Strings INFO = refl
holds_kind Strings FILTER = refl
holds_kind Strings FORMAT = refl
holds_kind Strings ALT = refl
holds_kind Strings contig = refl
holds_kind Strings other = refl
holds_kind Contigs INFO = refl
holds_kind Contigs FILTER = refl
holds_kind Contigs FORMAT = refl
holds_kind Contigs ALT = refl
holds_kind Contigs contig = refl
holds_kind Contigs other = refl

-- the keys of a dictionary's lines
data Keyed (k : Bytes) : Type 0 where
  info : k ≡ ascii "INFO" → Keyed k
  filter : k ≡ ascii "FILTER" → Keyed k
  format : k ≡ ascii "FORMAT" → Keyed k
  sequence : k ≡ ascii "contig" → Keyed k

keyed_by : (d : Dictionary) (k : Bytes) → belongs d (kind_of k) ≡ true → Keyed k
unfolding kind_of
keyed_by d k h = elim (test (same k (ascii "INFO"))) [
  | pass a ↦ info (same_sound k (ascii "INFO") a)
  | fail a ↦ elim (test (same k (ascii "FILTER"))) [
    | pass b ↦ filter (same_sound k (ascii "FILTER") b)
    | fail b ↦ elim (test (same k (ascii "FORMAT"))) [
      | pass c ↦ format (same_sound k (ascii "FORMAT") c)
      | fail c ↦ elim (test (same k (ascii "ALT"))) [
        | pass e ↦ absurd (true≢false (sym h ∙ rw (kind_of, a, b, c, e) (None d)))
        | fail e ↦ elim (test (same k (ascii "contig"))) [
          | pass f ↦ sequence (same_sound k (ascii "contig") f)
          | fail f ↦ absurd (true≢false (sym h ∙ rw (kind_of, a, b, c, e, f) (last d)))
        ]
      ]
    ]
  ]
]
  where
    None : (d : Dictionary) → belongs d ALT ≡ false
    None Strings = refl
    None Contigs = refl

    last : (d : Dictionary) → belongs d other ≡ false
    last Strings = refl
    last Contigs = refl

-- of such a line: where its fields stand, and that it is no META
place_is : (k : Bytes) → Keyed k → fields_place (map_kind (kind_of k)) ≡ fields_start k
unfolding kind_of same
place_is k (info e) = rw e
place_is k (filter e) = rw e
place_is k (format e) = rw e
place_is k (sequence e) = rw e

no_meta : (v : Version) (k : Bytes) → Keyed k → is_meta v k ≡ false
unfolding same
no_meta v k (info e) = rw e
no_meta v k (filter e) = rw e
no_meta v k (format e) = rw e
no_meta v k (sequence e) = rw e

module _ (lim : Limits) (h : Bytes) (v : Version) (d : Dictionary) where
  idx_is : (k : Bytes) (fs : List Field) (e : Entry) → Keyed k → (l : Bytes) → read_record v l ≡ ok (fields k fs) → line_in h e ≡ l → e.kind ≡ map_kind (kind_of k)
      → entry_idx h e ≡ idx_in v (fields k fs)
  unfolding entry_idx same
  idx_is k fs e key l read is_line_lem is_kind =
      let fields_are : fields_at (is_meta v k) l (fields_start k) ≡ fs = fields_read (is_meta v k) (always_map k) l (fields_start k) (on_ok (Scanned v l) (record_scanned v l) read) in
      let these : fields_at false l (fields_start k) ≡ fs = rw (no_meta v k key) at fields_are in
      rw (is_line_lem, is_kind, place_is k key, these) (ap idx_of (sym (named_keyed v k (ascii "IDX") fs refl refl)))

  -- the line of an entry is that of its record
  record Same (n : ℕ) (e : Entry) (r : Record) : Type 0 where
    kind : holds d e.kind ≡ is_of d r
    line : is_of d r ≡ true → line_of_entry h n e ≡ record { entry = n; id = id_of v r; idx = idx_in v r }

  row_same : (n : ℕ) (e : Entry) (r : Record) → Row lim h v e r → Entered v r → Same n e r
  unfolding record_entry line_entry
  row_same n e (fileformat w) row g = absurd g
  row_same n e (fields k fs) row g =
      let s = shows_map lim h v k fs e row g.fine.whole in
      record {
        kind = rw s.kind (holds_kind d (kind_of k));
        line = λ b. ap₂ (λ (x : Bytes) (i : Option ℕ). record { entry = n; id = x; idx = i }) s.id (idx_is k fs e (keyed_by d k b) row.line row.read s.line s.kind);
      }
  row_same n e (text k t) row g = record { kind = rw row.entry (None d); line = λ b. absurd (true≢false (sym b)) }
    where
      None : (d : Dictionary) → holds d text_kind ≡ false
      None Strings = refl
      None Contigs = refl

  picked : (q : Bool) {x y : Line} {xs ys : List Line} → (q ≡ true → x ≡ y) → xs ≡ ys → line_if q x xs ≡ line_if q y ys
  picked true f e = ap₂ ◌∷◌ (f refl) e
  picked false f e = e

  rows_same : (n : ℕ) (es : List Entry) (rs : List Record) (rest : List Entry) → Rows lim h v es rs → All (Entered v) rs → ((m : ℕ) → entry_lines d h m rest ≡ [])
      → entry_lines d h n (es ++ rest) ≡ lines_of d v n rs
  unfolding entry_lines lines_of
  rows_same n [] [] rest a g f = f n
  rows_same n [] (r ∷ rs) rest a g f = absurd a
  rows_same n (e ∷ es) [] rest a g f = absurd a
  rows_same n (e ∷ es) (r ∷ rs) rest a g f =
      let s = row_same n e r a.0 g.0 in
      rw s.kind (picked (is_of d r) s.line (rows_same (n + 1) es rs rest a.1 g.1 f))

  samples_none : (m at : ℕ) (xs : List Bytes) → entry_lines d h m (sample_entries at xs) ≡ []
  unfolding entry_lines sample_entries
  samples_none m at [] = refl
  samples_none m at (x ∷ xs) = rw (no_sample d) (samples_none (m + 1) (at + length x + 1) xs)
    where
      no_sample : (d : Dictionary) → holds d 10 ≡ false
      no_sample Strings = refl
      no_sample Contigs = refl

  columns_none : (start : ℕ) (l : Bytes) (c : Columns) (m : ℕ) → entry_lines d h m (column_entries start l c) ≡ []
  unfolding entry_lines column_entries
  columns_none start l c m = rw (no_columns d) (samples_none (m + 1) _ c.samples)
    where
      no_columns : (d : Dictionary) → holds d 9 ≡ false
      no_columns Strings = refl
      no_columns Contigs = refl

  -- the fileformat line is entry 0, so the first record's entry is 1
  pub header_lines : {imposed : Option Version} {rs : List Record} {c : Columns} (es : List Entry) → TracedHeader lim imposed h v rs c es → All (Entered v) rs
      → entry_lines d h 0 es ≡ lines_of d v 1 rs
  unfolding entry_lines record_entry line_entry
  header_lines {rs = rs} {c = c} es t g =
      ap (entry_lines d h 0) t.these ∙ rw (no_format d) (rows_same 1 t.rows rs (column_entries t.start t.line c) t.all g (columns_none t.start t.line c))
    where
      no_format : (d : Dictionary) → holds d 1 ≡ false
      no_format Strings = refl
      no_format Contigs = refl

-- the lines are those of the entries whatever these tell of keys and fields, so in either form
pub lines_uncounted : (d : Dictionary) (h : Bytes) (n : ℕ) (counts : Entry → Counts) (es : List Entry) → entry_lines d h n (map (λ (e : Entry). with_counts (counts e) e) es) ≡ entry_lines d h n es
unfolding entry_lines line_in id_in entry_idx
lines_uncounted d h n counts [] = refl
lines_uncounted d h n counts (e ∷ es) = ap (line_if (holds d e.kind) (line_of_entry h n e)) (lines_uncounted d h (n + 1) counts es)
