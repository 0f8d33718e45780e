-- A line of a dictionary: its kind, its IDX and whether its ID is implied. Assumes nothing.
use Prim.Native.Nat.{ℕ, ◌-◌, ◌<◌, ◌≤◌}
use mathlib.Core.Path.{◌≡◌, refl, sym, ap, subst, ◌∙◌}
use mathlib.Core.Bool.{Bool, false, or-false}
use Rattle.std.specs.Prelude.{Option, None, Some}
use lib.Dec.{eqb, leb}
use lib.ListN.{drop, take}
use borrow.Author.Tests.{eq-eqb, ne_eqb, le-leb, lt-leb}
use Rattle.values.specs.Bytes.{Bytes, ascii, same}
use Rattle.values.specs.Integer.{u64_read}
use Rattle.values.specs.Value.{meaning}
use Rattle.values.specs.Field.{Field}
use Rattle.values.specs.declared.string.Text.{Text}
use Rattle.values.proofs.Sames.{same_sym}
use Rattle.rules.specs.Known.{is_in}
use Rattle.rules.specs.Shown.{line_in, id_in}
use Rattle.entries.specs.declared.entry.Entry.{Entry as CodeEntry}
use Rattle.entries.specs.Values.{entry_of}
use Rattle.dictionary.specs.Dictionary.{integer_in, idx_of}
use Rattle.dictionary.specs.Lines.{holds, fields_place, entry_idx, is_implied}
use Rattle.dictionary.specs.declared.line.Dictionary.{Dictionary}
use Rattle.dictionary.specs.declared.line.Dictionary.TheVariants.{Strings, Contigs}
use Rattle.rules.specs.Map.{field_keyed, fields_at}
use Rattle.records.specs.Fields.{FoundIs, FindsField}

-- what answers the needs of `has_kind`
module _ (d : Dictionary) (kind : ℕ) where
  pub strings_low : d ≡ Strings → kind < 2 → false ≡ holds d kind
  strings_low e l = rw (e, lt-leb 2 kind l)

  pub strings_high : d ≡ Strings → 2 ≤ kind → leb kind 4 ≡ holds d kind
  strings_high e l = rw (e, le-leb 2 kind l)

  pub contigs_kind : d ≡ Contigs → eqb kind 6 ≡ holds d kind
  contigs_kind e = rw e

pub ruleset kinds = (strings_low, strings_high, contigs_kind)

pub info_place : (kind : ℕ) → kind ≡ 2 → 8 ≡ fields_place kind
info_place kind e = rw (fields_place, eq-eqb kind 2 e)

pub other_place : (kind : ℕ) → (kind ≡ 2 → ⊥) → 10 ≡ fields_place kind
other_place kind ne = rw (fields_place, ne_eqb kind 2 ne)

pub ruleset places = (info_place, other_place)

found_none : (s : Bytes) (o : Option Field) → FoundIs s o None → idx_of o ≡ None
found_none s None f = refl
found_none s (Some x) f = absurd f

found_some : (s : Bytes) (o : Option Field) (t : Text) → FoundIs s o (Some t) → idx_of o ≡ integer_in (u64_read (take (t.end - t.start) (drop t.start s)))
found_some s None t f = absurd f
found_some s (Some x) t f = ap integer_in f.1

-- what answers the needs of `line_idx`
module _ (h : Bytes) (e : CodeEntry) {line : Bytes} (el : line ≡ line_in h (entry_of e)) {start : ℕ} (es : start ≡ fields_place e.kind)
    {r : Option Text} (f : FindsField false line start (ascii "IDX") r) where
  looked : entry_idx h (entry_of e) ≡ idx_of (field_keyed (ascii "IDX") (fields_at false line start))
  unfolding entry_idx
  looked = rw (← el, ← es)

  pub idx_missing : r ≡ None → None ≡ entry_idx h (entry_of e)
  idx_missing q = sym (looked ∙ found_none line (field_keyed (ascii "IDX") (fields_at false line start)) (subst (FoundIs line (field_keyed (ascii "IDX") (fields_at false line start))) q f.value))

  module _ {t : Text} (q : r ≡ Some t) {p : Bytes} (ep : p ≡ take (t.end - t.start) (drop t.start line)) {v : Option (ℕ × Bool)} (ev : v ≡ u64_read p) where
    read : entry_idx h (entry_of e) ≡ integer_in v
    read = looked ∙ found_some line (field_keyed (ascii "IDX") (fields_at false line start)) t (subst (FoundIs line (field_keyed (ascii "IDX") (fields_at false line start))) q f.value)
        ∙ ap integer_in (ap u64_read (sym ep) ∙ sym ev)

    pub idx_unread : v ≡ None → None ≡ entry_idx h (entry_of e)
    idx_unread w = sym (read ∙ ap integer_in w)

    pub idx_read : {n : ℕ} {p : Bool} → v ≡ Some (n, p) → Some n ≡ entry_idx h (entry_of e)
    idx_read w = sym (read ∙ ap integer_in w)

pub ruleset idxs = (idx_missing, idx_unread, idx_read)

-- what answers the needs of `is_implied`
module _ (h : Bytes) (d : Dictionary) (e : CodeEntry) where
  pub implied_string : d ≡ Strings → {p : Bytes} → p ≡ id_in h (entry_of e) → {q : Bool} → q ≡ same (meaning e.quoted p) (ascii "PASS") → q ≡ is_implied h d (entry_of e)
  unfolding is_implied is_in
  implied_string ed ep eq = eq ∙ rw (ed, ep) (same_sym (meaning e.quoted (id_in h (entry_of e))) (ascii "PASS") ∙ sym (or-false (same (ascii "PASS") (meaning e.quoted (id_in h (entry_of e))))))

  pub implied_contig : d ≡ Contigs → false ≡ is_implied h d (entry_of e)
  unfolding is_implied is_in
  implied_contig ed = rw ed

pub ruleset implieds = (implied_string, implied_contig)
