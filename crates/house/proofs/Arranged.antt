-- The form's lines, as an accepted header's entries tell them, are those of the rules. Assumes nothing.
use mathlib.Core.Path.{◌≡◌, refl, sym, ap, ap₂, ◌∙◌}
use mathlib.Core.Bool.{Bool, true, false, not, ◌||◌, false≢true, or-false, or_assoc, or_comm}
use mathlib.Core.List.{List, [], ◌∷◌, ◌++◌, map, append_assoc, map-append, map-map}
use Rattle.std.specs.Prelude.{Option}
use lib.ListN.{length}
use Rattle.values.specs.Bytes.{Bytes, is, any, same}
use Rattle.values.proofs.Tests.{pass, fail, test, or_l, or_r, both}
use Rattle.values.proofs.Sames.{same_sound, same_sym}
use Rattle.rules.specs.Sizes.{Limits}
use Rattle.rules.specs.Version.{Version}
use Rattle.rules.specs.Known.{is_in, is_typed, typed_keys}
use Rattle.rules.specs.Record.{Record, fileformat, key_of}
use Rattle.rules.specs.Columns.{Columns}
use Rattle.rules.specs.Entry.{Entry, format_kind, columns_kind, plain_entry, counts_of, line_entry, record_entry, column_entries}
use Rattle.rules.specs.Meaning.{under, without, other_keys, header_meaning}
use Rattle.rules.specs.House.{write_record, write_columns, house_lines}
use Rattle.rules.proofs.Firsts.{on_ok}
use Rattle.rules.proofs.Records.{Entered}
use Rattle.rules.proofs.Groups.{arrange, under_yes, under_no, without_yes, without_no, keys_typed, keys_other, all_keys}
use Rattle.rules.proofs.House.{house_lines_lem}
use Rattle.rules.proofs.Samples.{columns_in}
use Rattle.rules.proofs.Tidy.{tidied}
use Rattle.rules.proofs.Trace.{TracedHeader}
use Rattle.ids.specs.Clashes.{prefix_of}
use Rattle.forms.specs.Lines.{record_line}
use Rattle.house.specs.Keys.{is_under, picked, Listed, AllListed, lines_under, prefix_in, seen_under, is_first, lines_if, other_lines}
use Rattle.house.specs.Forms.{column_line, record_lines, form_lines}
use Rattle.house.proofs.Picks.{picked_yes, picked_no}
use Rattle.house.proofs.Entries.{line_of, Aside, RowIs, Are, rows_are, format_aside, columns_aside}
use Rattle.rules.specs.Claims.{All}

abbrev Plain : Bytes → Type 0
Plain k = any (is 61) k ≡ false

abbrev Asides : List Entry → Type 0
Asides = All Aside

module _ (v : Version) (h : Bytes) where
  not_under : (prefix : Bytes) (e : Entry) → Aside e → is_under h prefix e ≡ false
  unfolding is_under
  not_under prefix e a = rw a.unrecorded

  not_first : (ahead : List Entry) (e : Entry) → Aside e → is_first h ahead e ≡ false
  unfolding is_first
  not_first ahead e a = rw a.not_other

  -- Every line can be read

  aside_readable : (es : List Entry) → Asides es → AllListed false v h es
  aside_readable [] a = tt
  aside_readable (e ∷ es) a = (λ q. both q a.0.unrecorded, aside_readable es a.1)

  listed : (e : Entry) (r : Record) → RowIs v h e r → Listed false v h e
  listed e r a = record { readable = a.readable; copied = λ q. absurd (false≢true q); key = key_of r; plain = a.plain; other = a.other; prefix = a.prefix; under = a.under }

  rows_readable : (es : List Entry) (rs : List Record) (rest : List Entry) → Are v h es rs → Asides rest → AllListed false v h (es ++ rest)
  rows_readable [] [] rest a b = aside_readable rest b
  rows_readable [] (r ∷ rs) rest a b = absurd a
  rows_readable (e ∷ es) [] rest a b = absurd a
  rows_readable (e ∷ es) (r ∷ rs) rest a b = (λ q. listed e r a.0, rows_readable es rs rest a.1 b)

  -- The entries of a key are the records under it

  picked_aside : (prefix : Bytes) (es : List Entry) → Asides es → picked v h prefix es ≡ []
  unfolding picked
  picked_aside prefix [] a = refl
  picked_aside prefix (e ∷ es) a = picked_no v h prefix e es (not_under prefix e a.0) ∙ picked_aside prefix es a.1

  picked_rows : (k : Bytes) → Plain k → (es : List Entry) (rs : List Record) (rest : List Entry) → Are v h es rs → Asides rest → picked v h (prefix_of k) (es ++ rest) ≡ map (record_line v) (under k rs)
  unfolding under
  picked_rows k p [] [] rest a b = picked_aside (prefix_of k) rest b
  picked_rows k p [] (r ∷ rs) rest a b = absurd a
  picked_rows k p (e ∷ es) [] rest a b = absurd a
  picked_rows k p (e ∷ es) (r ∷ rs) rest a b = elim (test (same (key_of r) k)) [
    | pass q ↦ picked_yes v h (prefix_of k) e (es ++ rest) (a.0.under k p ∙ q)
        ∙ ap₂ ◌∷◌ a.0.written (picked_rows k p es rs rest a.1 b) ∙ sym (ap (map (record_line v)) (under_yes k r rs q))
    | fail q ↦ picked_no v h (prefix_of k) e (es ++ rest) (a.0.under k p ∙ q)
        ∙ picked_rows k p es rs rest a.1 b ∙ sym (ap (map (record_line v)) (under_no k r rs q))
  ]

  seen_snoc : (prefix : Bytes) (es : List Entry) (e : Entry) → seen_under h prefix (es ++ e ∷ []) ≡ (seen_under h prefix es || is_under h prefix e)
  unfolding seen_under
  seen_snoc prefix [] e = or-false (is_under h prefix e)
  seen_snoc prefix (f ∷ es) e = rw (seen_snoc prefix es e) (sym (or_assoc (is_under h prefix f) (seen_under h prefix es) (is_under h prefix e)))

-- The keys that are not typed, each where it first appears and if it is none of ks

unfoldable fresh_keys : List Bytes → List Record → List Bytes
fresh_keys ks [] = []
fresh_keys ks (r ∷ rs) = elim (is_typed (key_of r)) [
  | true ↦ fresh_keys ks rs
  | false ↦ elim (is_in (key_of r) ks) [ true ↦ fresh_keys (key_of r ∷ ks) rs | false ↦ key_of r ∷ fresh_keys (key_of r ∷ ks) rs ]
]

module _ (ks : List Bytes) (r : Record) (rs : List Record) where
  fresh_typed : is_typed (key_of r) ≡ true → fresh_keys ks (r ∷ rs) ≡ fresh_keys ks rs
  unfolding fresh_keys
  fresh_typed e = rw (e, fresh_keys)

  module _ (e : is_typed (key_of r) ≡ false) where
    fresh_seen : is_in (key_of r) ks ≡ true → fresh_keys ks (r ∷ rs) ≡ fresh_keys (key_of r ∷ ks) rs
    unfolding fresh_keys
    fresh_seen f = rw (fresh_keys, e, f)

    fresh_new : is_in (key_of r) ks ≡ false → fresh_keys ks (r ∷ rs) ≡ key_of r ∷ fresh_keys (key_of r ∷ ks) rs
    unfolding fresh_keys
    fresh_new f = rw (fresh_keys, e, f)

-- all but ks
unfoldable lacking : List Bytes → List Bytes → List Bytes
lacking [] js = js
lacking (k ∷ ks) js = lacking ks (without k js)

lacking_in : (ks : List Bytes) (j : Bytes) (js : List Bytes) → is_in j ks ≡ true → lacking ks (j ∷ js) ≡ lacking ks js
unfolding lacking is_in
lacking_in [] j js h = absurd (false≢true h)
lacking_in (k ∷ ks) j js h = elim (test (same j k)) [
  | pass e ↦ ap (lacking ks) (without_yes k j js e)
  | fail e ↦ ap (lacking ks) (without_no k j js e) ∙ lacking_in ks j (without k js) (rw (same_sym k j ∙ e) at h)
]

lacking_out : (ks : List Bytes) (j : Bytes) (js : List Bytes) → is_in j ks ≡ false → lacking ks (j ∷ js) ≡ j ∷ lacking ks js
unfolding lacking is_in
lacking_out [] j js h = refl
lacking_out (k ∷ ks) j js h =
    ap (lacking ks) (without_no k j js (same_sym j k ∙ or_l (same k j) (is_in j ks) h)) ∙ lacking_out ks j (without k js) (or_r (same k j) (is_in j ks) h)

lacking_none : (ks : List Bytes) → lacking ks [] ≡ []
unfolding lacking without
lacking_none [] = refl
lacking_none (k ∷ ks) = lacking_none ks

fresh_lacking : (ks : List Bytes) (rs : List Record) → fresh_keys ks rs ≡ lacking ks (other_keys rs)
unfolding fresh_keys other_keys lacking
fresh_lacking ks [] = sym (lacking_none ks)
fresh_lacking ks (r ∷ rs) = elim (test (is_typed (key_of r))) [
  | pass e ↦ fresh_typed ks r rs e ∙ fresh_lacking ks rs ∙ ap (lacking ks) (sym (keys_typed r rs e))
  | fail e ↦ elim (test (is_in (key_of r) ks)) [
    | pass f ↦ fresh_seen ks r rs e f ∙ fresh_lacking (key_of r ∷ ks) rs ∙ sym (ap (lacking ks) (keys_other r rs e) ∙ lacking_in ks (key_of r) (without (key_of r) (other_keys rs)) f)
    | fail f ↦ fresh_new ks r rs e f ∙ ap (key_of r ∷◌) (fresh_lacking (key_of r ∷ ks) rs) ∙ sym (ap (lacking ks) (keys_other r rs e) ∙ lacking_out ks (key_of r) (without (key_of r) (other_keys rs)) f)
  ]
]

-- a typed key is none that is not
typed_not : (j k : Bytes) → is_typed j ≡ true → is_typed k ≡ false → same j k ≡ false
typed_not j k a b = elim (test (same j k)) [ pass e ↦ both (rw (same_sound j k e) at a) b | fail e ↦ e ]

module _ (v : Version) (h : Bytes) (all : List Entry) (ts : List Record) (pick : (k : Bytes) → Plain k → picked v h (prefix_of k) all ≡ map (record_line v) (under k ts)) where
  -- the lines of these keys, then more
  lines_arranged : (js ks : List Bytes) {ls : List Bytes} → All Plain js → ls ≡ map (record_line v) (arrange ks ts) → lines_under v h all js ++ ls ≡ map (record_line v) (arrange (js ++ ks) ts)
  unfolding lines_under arrange
  lines_arranged [] ks p e = e
  lines_arranged (j ∷ js) ks {ls} p e =
      append_assoc (picked v h (prefix_of j) all) (lines_under v h all js) ls
      ∙ ap₂ ◌++◌ (pick j p.0) (lines_arranged js ks p.1 e)
      ∙ sym (map-append (record_line v) (under j ts) (arrange (js ++ ks) ts))

  others_aside : (ahead : List Entry) (es : List Entry) → Asides es → other_lines v h all ahead es ≡ []
  unfolding other_lines
  others_aside ahead [] a = refl
  others_aside ahead (e ∷ es) a = rw (not_first v h ahead e a.0) (others_aside (ahead ++ e ∷ []) es a.1)

  -- ks are the other keys that were seen in the entries before
  abbrev Seen : List Entry → List Bytes → Type 0
  Seen es ks = (k : Bytes) → Plain k → is_typed k ≡ false → seen_under h (prefix_of k) es ≡ is_in k ks

  seen_typed : (ahead : List Entry) (ks : List Bytes) (e : Entry) (r : Record) → RowIs v h e r → is_typed (key_of r) ≡ true → Seen ahead ks → Seen (ahead ++ e ∷ []) ks
  seen_typed ahead ks e r a t s k p u = seen_snoc v h (prefix_of k) ahead e ∙ rw (s k p u, a.under k p, typed_not (key_of r) k t u) (or_comm (is_in k ks) false)

  seen_other : (ahead : List Entry) (ks : List Bytes) (e : Entry) (r : Record) → RowIs v h e r → Seen ahead ks → Seen (ahead ++ e ∷ []) (key_of r ∷ ks)
  unfolding is_in
  seen_other ahead ks e r a s k p u = seen_snoc v h (prefix_of k) ahead e ∙ rw (s k p u, a.under k p) (or_comm (is_in k ks) (same (key_of r) k))

  typed_first : (ahead : List Entry) (e : Entry) (r : Record) → RowIs v h e r → is_typed (key_of r) ≡ true → is_first h ahead e ≡ false
  unfolding is_first
  typed_first ahead e r a t = rw (a.other, t)

  other_first : (ahead : List Entry) (ks : List Bytes) (e : Entry) (r : Record) → RowIs v h e r → is_typed (key_of r) ≡ false → Seen ahead ks → is_first h ahead e ≡ not (is_in (key_of r) ks)
  unfolding is_first
  other_first ahead ks e r a t s = rw (a.other, t, a.prefix, s (key_of r) a.plain t)

  -- one entry off the front
  others_turn : (ahead : List Entry) (e : Entry) (es : List Entry) {b : Bool} → is_first h ahead e ≡ b
      → other_lines v h all ahead (e ∷ es) ≡ lines_if b (picked v h (prefix_in h e) all) ++ other_lines v h all (ahead ++ e ∷ []) es
  unfolding other_lines
  others_turn ahead e es q = rw q

  others_arranged : (es : List Entry) (rs : List Record) (rest : List Entry) → Are v h es rs → Asides rest → (ahead : List Entry) (ks : List Bytes) → Seen ahead ks
      → other_lines v h all ahead (es ++ rest) ≡ map (record_line v) (arrange (fresh_keys ks rs) ts)
  unfolding fresh_keys arrange
  others_arranged [] [] rest a b ahead ks s = others_aside ahead rest b
  others_arranged [] (r ∷ rs) rest a b ahead ks s = absurd a
  others_arranged (e ∷ es) [] rest a b ahead ks s = absurd a
  others_arranged (e ∷ es) (r ∷ rs) rest a b ahead ks s = elim (test (is_typed (key_of r))) [
    | pass t ↦ others_turn ahead e (es ++ rest) (typed_first ahead e r a.0 t)
        ∙ others_arranged es rs rest a.1 b (ahead ++ e ∷ []) ks (seen_typed ahead ks e r a.0 t s)
        ∙ sym (ap (λ (js : List Bytes). map (record_line v) (arrange js ts)) (fresh_typed ks r rs t))
    | fail t ↦ elim (test (is_in (key_of r) ks)) [
      | pass f ↦ others_turn ahead e (es ++ rest) (other_first ahead ks e r a.0 t s ∙ ap not f)
          ∙ others_arranged es rs rest a.1 b (ahead ++ e ∷ []) (key_of r ∷ ks) (seen_other ahead ks e r a.0 s)
          ∙ sym (ap (λ (js : List Bytes). map (record_line v) (arrange js ts)) (fresh_seen ks r rs t f))
      | fail f ↦ others_turn ahead e (es ++ rest) (other_first ahead ks e r a.0 t s ∙ ap not f)
          ∙ ap₂ ◌++◌ (ap (λ (p : Bytes). picked v h p all) a.0.prefix ∙ pick (key_of r) a.0.plain)
          (others_arranged es rs rest a.1 b (ahead ++ e ∷ []) (key_of r ∷ ks) (seen_other ahead ks e r a.0 s))
          ∙ sym (map-append (record_line v) (under (key_of r) ts) (arrange (fresh_keys (key_of r ∷ ks) rs) ts))
          ∙ sym (ap (λ (js : List Bytes). map (record_line v) (arrange js ts)) (fresh_new ks r rs t f))
    ]
  ]

-- A header's entries: its version's line, its records, its column line and samples

module _ (v : Version) (h : Bytes) (own : Entry) (es : List Entry) (rs : List Record) (rest : List Entry) (aside : Aside own) (are : Are v h es rs) (asides : Asides rest) where
  abbrev all : List Entry
  all = own ∷ (es ++ rest)

  all_readable : AllListed false v h all
  all_readable = (λ q. both q aside.unrecorded, rows_readable v h es rs rest are asides)

  pick_under : (k : Bytes) → Plain k → picked v h (prefix_of k) all ≡ map (record_line v) (under k rs)
  pick_under k p = picked_no v h (prefix_of k) own (es ++ rest) (not_under v h (prefix_of k) own aside) ∙ picked_rows v h k p es rs rest are asides

  none_seen : Seen v h all rs pick_under (own ∷ []) []
  unfolding seen_under is_in
  none_seen k p u = rw (not_under v h (prefix_of k) own aside)

  others_are : other_lines v h all [] all ≡ map (record_line v) (arrange (other_keys rs) rs)
  unfolding other_lines lacking
  others_are =
      rw (not_first v h [] own aside)
      (others_arranged v h all rs pick_under es rs rest are asides (own ∷ []) [] none_seen ∙ ap (λ (ks : List Bytes). map (record_line v) (arrange ks rs)) (fresh_lacking [] rs))

  typed_plain : All Plain typed_keys
  unfolding any
  typed_plain = (refl, (refl, (refl, (refl, (refl, tt)))))

  records_are : record_lines v h all ≡ map (record_line v) (arrange (all_keys rs) rs)
  unfolding record_lines
  records_are = lines_arranged v h all rs pick_under typed_keys (other_keys rs) typed_plain others_are

  rows_column : (fs : List Entry) (ss : List Record) → Are v h fs ss → column_line h (fs ++ rest) ≡ column_line h rest
  unfolding column_line
  rows_column [] [] a = refl
  rows_column [] (s ∷ ss) a = absurd a
  rows_column (f ∷ fs) [] a = absurd a
  rows_column (f ∷ fs) (s ∷ ss) a = rw a.0.no_columns (rows_column fs ss a.1)

  column_is : own.kind ≡ format_kind → column_line h all ≡ column_line h rest
  unfolding column_line
  column_is e = rw e (rows_column es rs are)

-- an accepted header: every record's line can be read, and the lines are those of its meaning
pub record FormIs (v : Version) (h : Bytes) (rs : List Record) (c : Columns) (es : List Entry) : Type 0 where
  pub readable : AllListed false v h es
  pub lines : form_lines v h es ≡ house_lines (header_meaning v rs c)

form_lines_lem : (v : Version) (rs : List Record) (c : Columns) → house_lines (header_meaning v rs c) ≡ write_record (fileformat v) ∷ (map (record_line v) (arrange (all_keys rs) rs) ++ write_columns c.format c.samples ∷ [])
form_lines_lem v rs c = house_lines_lem v rs c ∙ ap (λ (ls : List Bytes). write_record (fileformat v) ∷ (ls ++ write_columns c.format c.samples ∷ [])) (map-map write_record (tidied v) (arrange (all_keys rs) rs))

module _ (lim : Limits) (imposed : Option Version) (h : Bytes) (v : Version) (rs : List Record) (c : Columns) (entries : List Entry)
    (t : TracedHeader lim imposed h v rs c entries) (good : All (Entered v) rs) where
  abbrev own : Entry
  own = record_entry lim.counted t.own 0 t.format (fileformat t.own)

  abbrev rest : List Entry
  rest = column_entries t.start t.line c

  column_line_lem : write_columns c.format c.samples ≡ t.line
  column_line_lem = on_ok (λ (x : Columns). write_columns x.format x.samples ≡ t.line) (columns_in t.line) t.read_last

  last_line : column_line h rest ≡ t.line
  unfolding column_entries column_line
  last_line = line_of lim h t.start t.line t.last (plain_entry columns_kind t.start (length t.line)) refl refl

  pub form_is : FormIs v h rs c entries
  unfolding form_lines record_entry line_entry
  form_is =
      let aside = format_aside (counts_of lim.counted (fileformat t.own)) 0 (length t.format) in
      let are = rows_are lim v h t.rows rs t.all good in
      let asides = columns_aside t.start t.line c in
      let column : column_line h (own ∷ (t.rows ++ rest)) ≡ write_columns c.format c.samples
      = column_is v h own t.rows rs rest aside are asides refl ∙ last_line ∙ sym column_line_lem in
      rw t.these (record {
        readable = all_readable v h own t.rows rs rest aside are asides;
        lines = rw (records_are v h own t.rows rs rest aside are asides, column, form_lines_lem v rs c);
      })
