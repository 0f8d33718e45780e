-- What an entry tells of its record's key and fields. Assumes nothing.
use Prim.Native.Nat.{ℕ, ◌+◌, ◌≤◌}
use native.Mathlib.Omega.{arith}
use mathlib.Core.Path.{◌≡◌, refl, ap, ◌∙◌}
use mathlib.Core.Bool.{Bool, true, false, true≢false, false≢true}
use mathlib.Core.List.{List, [], ◌∷◌, ◌++◌}
use Rattle.std.specs.Prelude.{Some}
use lib.Dec.{leb}
use lib.ListN.{length, drop, length-append}
use borrow.Author.Tests.{le-leb}
use Rattle.values.specs.Bytes.{Bytes, ascii, part}
use Rattle.values.specs.Value.{written}
use Rattle.values.specs.Field.{Field, written_field}
use Rattle.values.proofs.Fields.{text_here}
use Rattle.rules.specs.Answer.{ok}
use Rattle.rules.specs.Sizes.{Limits}
use Rattle.rules.specs.Version.{Version}
use Rattle.rules.specs.Known.{kind_of}
use Rattle.rules.specs.Record.{Record, fileformat, fields, text, key_of, read_record}
use Rattle.rules.specs.Entry.{Entry, fields_of, record_kind, counts_of, record_entry}
use Rattle.rules.specs.Shown.{Part, entry_key_part}
use Rattle.rules.specs.House.{write_more, write_fields, write_record}
use Rattle.rules.specs.Claims.{LineAt, Tells}
use Rattle.rules.proofs.Firsts.{on_ok}
use Rattle.rules.proofs.Texts.{LineOf, record_in, Keyed, record_keyed}
use Rattle.rules.proofs.Shows.{part_part, map_kind_lem, Placed, entry_placed_lem, tells_own, placed_again}

-- A map has a byte or more for each of its fields

more_size : (fs : List Field) → length fs ≤ length (write_more fs)
unfolding write_more
more_size [] = omega arith
more_size (f ∷ fs) = let m = more_size fs in rw (length-append (written_field f) (write_more fs)) (omega (arith, m))

fields_size : (fs : List Field) → length fs ≤ length (write_fields fs)
unfolding write_fields written_field
fields_size [] = omega arith
fields_size (f ∷ fs) =
    let m = more_size fs in
    rw (length-append (written_field f) (write_more fs), length-append f.key (61 ∷ written f.value)) (omega (arith, m))

pub line_fields : (v : Version) (l : Bytes) (r : Record) → read_record v l ≡ ok r → length (fields_of r) ≤ length l
unfolding write_record
line_fields v l (fileformat w) e = omega arith
line_fields v l (fields k fs) e =
    let n = fields_size fs in
    let w : l ≡ write_record (fields k fs) = on_ok (LineOf l) (record_in v l) e in
    rw (w, length-append k (61 ∷ 60 ∷ (write_fields fs ++ 62 ∷ [])), length-append (write_fields fs) (62 ∷ [])) (omega (arith, n))
line_fields v l (text k t) e = omega arith

-- the key stands after `##`
pub line_key : (v : Version) (l : Bytes) (r : Record) → read_record v l ≡ ok r → (part l 2 (2 + length (key_of r)) ≡ key_of r) × (2 + length (key_of r) ≤ length l)
line_key v l r e =
    let w = on_ok (Keyed l) (record_keyed v l) e in
    let n = ap length w.1 ∙ length-append (ascii "##") (key_of r ++ 61 ∷ w.0) in
    ((text_here l 2 (key_of r) (61 ∷ w.0) (ap (drop 2) w.1)).0, rw (w.1, length-append (key_of r) (61 ∷ w.0)) (omega arith))

-- what an entry tells is no more than its line has, and nothing where it is not counted
pub counts_small : (counted : Bool) (v w : Version) (start : ℕ) (l : Bytes) (r : Record) → read_record v l ≡ ok r
    → ((record_entry counted w start l r).key_length ≤ length l) × ((record_entry counted w start l r).field_count ≤ length l)
    × (counted ≡ false → ((record_entry counted w start l r).key_length ≡ 0) × ((record_entry counted w start l r).field_count ≡ 0))
unfolding record_entry counts_of
counts_small true v w start l r e = let k = (line_key v l r e).1 in let f = line_fields v l r e in (omega (arith, k), f, λ c. absurd (true≢false c))
counts_small false v w start l r e = (omega arith, omega arith, λ c. (refl, refl))

-- where it is counted, it is the record's
counted_own : (counted : Bool) (v : Version) (start : ℕ) (l : Bytes) (r : Record) → counted ≡ true
    → ((record_entry counted v start l r).key_length ≡ length (key_of r)) × ((record_entry counted v start l r).field_count ≡ length (fields_of r))
unfolding record_entry counts_of
counted_own true v start l r c = (refl, refl)
counted_own false v start l r c = absurd (false≢true c)

key_part : (kind start len n m : ℕ) (e : Entry) → Placed kind start len e → e.key_length ≡ n → e.field_count ≡ m → leb kind 8 ≡ true → 2 + n ≤ len
    → entry_key_part true (Some e) ≡ Some ((start + 2, start + 2 + n), m)
key_part kind start len n m e p k f small fits = rw (entry_key_part, p.is_kind, small, p.is_length, le-leb (2 + e.key_length) len (rw k fits), p.is_start, f, k)

-- an entry of an accepted header: its line, read again, is its record, and its key is shown
module _ (lim : Limits) (h : Bytes) (v w : Version) (start : ℕ) (l : Bytes) (r : Record) (at : LineAt lim h start l) (read : read_record v l ≡ ok r) where
  abbrev e : Entry
  e = record_entry lim.counted w start l r

  placed : Placed (record_kind r) start (length l) e
  placed = entry_placed_lem lim.counted w start l r

  kind_small : (r : Record) → leb (record_kind r) 8 ≡ true
  kind_small (fileformat u) = refl
  kind_small (fields k fs) = (map_kind_lem (kind_of k)).2
  kind_small (text k t) = refl

  key_shown_lem : lim.counted ≡ true → (p : Part) × (entry_key_part true (Some e) ≡ Some (p, length (fields_of r))) × (part h p.0 p.1 ≡ key_of r)
  key_shown_lem c =
      let k = line_key v l r read in
      let n : start + 2 + length (key_of r) ≡ start + (2 + length (key_of r)) = omega arith in
      let d = counted_own lim.counted w start l r c in
      ((start + 2, start + 2 + length (key_of r)), key_part (record_kind r) start (length l) (length (key_of r)) (length (fields_of r)) e placed d.0 d.1 (kind_small r) k.1, rw n (part_part h start l 2 (2 + length (key_of r)) at.here k.1 ∙ k.0))

  pub record_tells : Tells lim.counted h v e r
  unfolding record_entry
  record_tells = record { again = placed_again lim.counted h v start l r e placed (tells_own lim.counted r e) at.here at.utf8 read; key = key_shown_lem }
