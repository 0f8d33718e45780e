-- Demand 2 for the calls: after a reading they find its entries in the table, and show what these say. Assumes nothing.
use Prim.Native.Nat.{ℕ, suc, ◌+◌}
use mathlib.Core.Path.{◌≡◌, sym, subst}
use mathlib.Core.List.{List, [], ◌∷◌}
use Rattle.std.specs.Prelude.{Option, Some}
use lib.Dec.{leb}
use lib.ListN.{length}
use borrow.Author.Tests.{leb-true, leb-false}
use Rattle.values.specs.Bytes.{Bytes}
use Rattle.values.proofs.Tests.{pass, fail, test}
use Rattle.values.proofs.Lists.{some_is, none_not}
use Rattle.rules.specs.Sizes.{Limits}
use Rattle.rules.specs.Version.{Version}
use Rattle.rules.specs.Record.{Record, fileformat}
use Rattle.rules.specs.Columns.{Columns}
use Rattle.rules.specs.Entry.{Entry, format_kind, columns_kind, sample_kind}
use Rattle.rules.specs.Reading.{Reading}
use Rattle.rules.proofs.Refusals.{long_keeps}
use Rattle.rules.proofs.Stands.{Stands, reading_stands, reading_fits}
use Rattle.rules.proofs.Demands.{entry_shows, format_shows, format_tells, column_shows, sample_shows, traced}
use Rattle.entries.specs.declared.form.Form.{Form}
use Rattle.entries.specs.Values.{limits_by}
use Rattle.entries.specs.Tables.{room, entry_at}
use Rattle.entries.proofs.Stored.{storable, entry_stored}
use Rattle.header.specs.Parsers.{read_into, ReadCall}
use Rattle.header.specs.declared.parser.ReadAnswer.{ReadAnswer}
use Rattle.rules.specs.Claims.{All, SizedOption, Accepted, nth, Tells, ShownPlain}
use Rattle.header.specs.Calls.{CallsShow, CallsShowPlain}

stands_at : (lim : Limits) (size : ℕ) (es : List Entry) (n : ℕ) {e : Entry} → All (Stands lim size) es → nth es n ≡ Some e → Stands lim size e
stands_at lim size [] n a h = none_not h
stands_at lim size (x ∷ es) ℕ.zero a h = subst (Stands lim size) (some_is h) a.0
stands_at lim size (x ∷ es) (suc n) a h = stands_at lim size es n a.1 h

module _ {form : Form} {imposed : Option Version} {h : Bytes} {t : List ℕ} {r : ReadAnswer} {t' : List ℕ} (call : ReadCall form imposed h t r t') where
  abbrev entries : List Entry
  entries = (read_into form imposed t h).entries

  -- accepted or refused: entry n of the reading is what the calls find under n
  pub call_finds : (n : ℕ) {e : Entry} → nth entries n ≡ Some e → entry_at form h t' n ≡ Some e
  call_finds n {e} a = elim (test (leb (length h) (limits_by form).header)) [
    | pass l ↦
        let s = stands_at (limits_by form) (length h) entries n (reading_stands (limits_by form) h imposed (room form t)) a in
        subst (λ (x : List ℕ). entry_at form h x n ≡ Some e) (sym call.table)
        (entry_stored form t entries n (reading_fits (limits_by form) imposed (room form t) h) a h (storable form (leb-true (length h) (limits_by form).header l) e s) s.formed)
    | fail l ↦ none_not (subst (λ (x : Reading). nth x.entries n ≡ Some e) (long_keeps (limits_by form) imposed (room form t) h (leb-false (length h) (limits_by form).header l)) a)
  ]

  -- an accepted header: its lines and samples, number by number
  module _ (sized : SizedOption imposed) {v : Version} {rs : List Record} {c : Columns} (a : Accepted v rs c (read_into form imposed t h)) where
    plain : {n kind : ℕ} {x : Bytes} → ShownPlain h entries n kind x → CallsShowPlain form h v t' n kind x
    plain {n} s = record { entry = s.entry; found = call_finds n s.is; shows = s.shows }

    pub record_called : (i : ℕ) {x : Record} → nth rs i ≡ Some x → CallsShow form h v t' (suc i) x
    record_called i e =
        let s = entry_shows (limits_by form) imposed sized (room form t) h a i e in
        record { entry = s.entry; found = call_finds (suc i) s.is; line = s.line; read = s.read; shows = s.shows; tells = s.tells }

    pub format_called : CallsShowPlain form h v t' 0 format_kind (traced (limits_by form) imposed sized (room form t) h a).format
    format_called = plain (format_shows (limits_by form) imposed sized (room form t) h a)

    -- under every version the fileformat line's entry tells of it
    pub format_told : (u : Version) → (e : Entry) × (entry_at form h t' 0 ≡ Some e)
        × Tells (limits_by form).counted h u e (fileformat (traced (limits_by form) imposed sized (room form t) h a).own)
    format_told u = let f = format_tells (limits_by form) imposed sized (room form t) h a u in (f.0, call_finds 0 f.1, f.2)

    pub columns_called : CallsShowPlain form h v t' (suc (length rs)) columns_kind (traced (limits_by form) imposed sized (room form t) h a).line
    columns_called = plain (column_shows (limits_by form) imposed sized (room form t) h a)

    pub sample_called : (j : ℕ) {x : Bytes} → nth c.samples j ≡ Some x → CallsShowPlain form h v t' (suc (length rs) + suc j) sample_kind x
    sample_called j e = plain (sample_shows (limits_by form) imposed sized (room form t) h a j e)
