-- What the house form writes is read back: reading it is accepted, with the records that were written. Assumes nothing.
use Prim.Native.Nat.{ℕ, suc, ◌+◌, ◌≤◌}
use native.Mathlib.Omega.{arith}
use mathlib.Core.Path.{◌≡◌, refl, ap, ◌∙◌}
use mathlib.Core.Bool.{Bool, false}
use mathlib.Core.List.{List, [], ◌∷◌, ◌++◌, map, append_assoc, append-nil}
use Rattle.std.specs.Prelude.{Option, None}
use lib.ListN.{length}
use borrow.Author.Tests.{le-leb}
use Rattle.values.specs.Bytes.{Bytes}
use Rattle.rules.specs.Answer.{ok}
use Rattle.rules.specs.Sizes.{Limits}
use Rattle.rules.specs.Lines.{pieces, line_of, write_line, write_lines}
use Rattle.rules.specs.Version.{Version, v4_5}
use Rattle.rules.specs.Record.{Record, fileformat, fields, text}
use Rattle.rules.specs.Columns.{Columns}
use Rattle.rules.specs.Entry.{Entry, record_entry, samples_start, column_entries}
use Rattle.rules.specs.Reading.{clash, State, empty, ready, done, enter, step_text, is_done, step, Reading, following, run, reading}
use Rattle.rules.specs.Meaning.{saying}
use Rattle.rules.specs.House.{record_of, write_record, write_columns}
use Rattle.rules.proofs.Pure.{Pure}
use Rattle.rules.proofs.Pieces.{NoLF, written, pieces_lines}
use Rattle.rules.proofs.Tidy.{tidied}
use Rattle.rules.proofs.Groups.{Clear, all_split}
use Rattle.rules.proofs.Samples.{GoodColumns, columns_back, columns_start}
use Rattle.rules.proofs.Records.{Entered, record_back, format_back, not_column}
use Rattle.rules.proofs.Sound.{samples_count, step_text_lem, run_more}
use Rattle.rules.specs.Claims.{All, Sized, Accepted}

-- a line that is not too long and holds what a line may
pub record Line (lim : Limits) (l : Bytes) : Type 0 where
  pub short : length l ≤ lim.line
  pub pure : Pure l

step_line : (lim : Limits) (start : ℕ) (s : State) (l : Bytes) → Line lim l → is_done s ≡ false
    → step lim None start s (line_of (write_line l)) ≡ step_text lim.counted None start s l
step_line lim start s l h d = ap (step lim None start s) (written l [] h.pure.line).line ∙ step_text_lem lim None start s l h.short h.pure.utf8 d

enter_ok : (counted : Bool) (v : Version) (seen : List Record) (start : ℕ) (l : Bytes) (x : Record) → Entered v x → clash v (tidied v x) seen ≡ 0
    → enter counted v seen start l (tidied v x) ≡ ok (ready v (seen ++ tidied v x ∷ []), record_entry counted v start l (tidied v x) ∷ [])
unfolding saying record_of
enter_ok counted v seen start l (fileformat w) g c = absurd g
enter_ok counted v seen start l (fields k fs) g c = rw c
enter_ok counted v seen start l (text k t) g c = rw c

text_record : (counted : Bool) (v : Version) (seen : List Record) (start : ℕ) (x : Record) → Entered v x → clash v (tidied v x) seen ≡ 0
    → step_text counted None start (ready v seen) (write_record (tidied v x)) ≡ ok (ready v (seen ++ tidied v x ∷ []), record_entry counted v start (write_record (tidied v x)) (tidied v x) ∷ [])
unfolding step_text
text_record counted v seen start x g c = rw (step_text, not_column v x, record_back v x g, enter_ok counted v seen start (write_record (tidied v x)) x g c)

text_columns : (counted : Bool) (v : Version) (rs : List Record) (start : ℕ) (c : Columns) → GoodColumns c
    → step_text counted None start (ready v rs) (write_columns c.format c.samples) ≡ ok (done v rs c, column_entries start (write_columns c.format c.samples) c)
unfolding step_text
text_columns counted v rs start c g = rw (step_text, columns_start c.format c.samples, columns_back c g)

text_format : (counted : Bool) (v : Version) (start : ℕ) → Sized v → step_text counted None start empty (write_record (fileformat v)) ≡ ok (ready v [], record_entry counted v start (write_record (fileformat v)) (fileformat v) ∷ [])
unfolding step_text
text_format counted v start h = rw (format_back v4_5 v h)

column_count : (start : ℕ) (l : Bytes) (c : Columns) → length (column_entries start l c) ≡ 1 + length c.samples
unfolding column_entries
column_count start l c = rw (samples_count (start + samples_start) c.samples) (omega arith)

pub reading_short : (lim : Limits) (imposed : Option Version) (room : ℕ) (h : Bytes) → length h ≤ lim.header → reading lim imposed room h ≡ run lim imposed room 0 0 0 empty (pieces h)
unfolding reading
reading_short lim imposed room h l = rw (le-leb (length h) lim.header l, reading)

accepted_after : {v : Version} {rs : List Record} {c : Columns} {r : Reading} (es : List Entry) {t : Reading} → t ≡ following es r → Accepted v rs c r → Accepted v rs c t
accepted_after es e a = rw e (record { number = a.number; state = a.state })

-- the lines of records, and a column line after them
abbrev pub record_lines : Version → List Record → List Bytes
record_lines v xs = map write_record (map (tidied v) xs)

abbrev pub column_line : Columns → Bytes
column_line c = write_columns c.format c.samples

module _ (lim : Limits) (room : ℕ) (v : Version) (c : Columns) (g : GoodColumns c) where
  run_columns : (n start count : ℕ) (rs : List Record) → Line lim (column_line c) → count + (1 + length c.samples) ≤ room
      → Accepted v rs c (run lim None room n start count (ready v rs) (write_line (column_line c) ∷ []))
  unfolding run
  run_columns n start count rs h r =
      let a = step_line lim start (ready v rs) (column_line c) h refl ∙ text_columns lim.counted v rs start c g in
      accepted_after (column_entries start (column_line c) c)
      (run_more lim None room n start count (ready v rs) (write_line (column_line c)) [] a (le-leb _ room (rw (column_count start (column_line c) c) r)))
      (record { number = refl; state = refl })

  run_records : (xs : List Record) (n start count : ℕ) (seen : List Record) → All (Entered v) xs → Clear v seen (map (tidied v) xs)
      → All (Line lim) (record_lines v xs) → Line lim (column_line c) → count + length xs + (1 + length c.samples) ≤ room
      → Accepted v (seen ++ map (tidied v) xs) c (run lim None room n start count (ready v seen) (map write_line (record_lines v xs ++ column_line c ∷ [])))
  run_records [] n start count seen e k ls h r = rw (append-nil seen) (run_columns n start count seen h (omega arith))
  run_records (x ∷ xs) n start count seen e k ls h r =
      let l = write_record (tidied v x) in
      let a = step_line lim start (ready v seen) l ls.0 refl ∙ text_record lim.counted v seen start x e.0 k.0 in
      accepted_after (record_entry lim.counted v start l (tidied v x) ∷ [])
      (run_more lim None room n start count (ready v seen) (write_line l) (map write_line (record_lines v xs ++ column_line c ∷ [])) a (le-leb _ room (omega arith)))
      (rw (← append_assoc seen (tidied v x ∷ []) (map (tidied v) xs))
      (run_records xs (suc n) (start + length (write_line l)) (count + 1) (seen ++ tidied v x ∷ []) e.1 k.1 ls.1 h (omega arith)))

  -- a whole header, as it is written
  pub lines_back : (xs : List Record) → Sized v → All (Entered v) xs → Clear v [] (map (tidied v) xs)
      → All (Line lim) (write_record (fileformat v) ∷ (record_lines v xs ++ column_line c ∷ []))
      → length (write_lines (write_record (fileformat v) ∷ (record_lines v xs ++ column_line c ∷ []))) ≤ lim.header
      → 2 + length xs + length c.samples ≤ room
      → Accepted v (map (tidied v) xs) c (reading lim None room (write_lines (write_record (fileformat v) ∷ (record_lines v xs ++ column_line c ∷ []))))
  lines_back xs sv e k ls short r =
      let l = write_record (fileformat v) in
      let a = step_line lim 0 empty l ls.0 refl ∙ text_format lim.counted v 0 sv in
      read_pieces (l ∷ (record_lines v xs ++ column_line c ∷ [])) ls short
      (accepted_after (record_entry lim.counted v 0 l (fileformat v) ∷ [])
      (run_more lim None room 0 0 0 empty (write_line l) (map write_line (record_lines v xs ++ column_line c ∷ [])) a (le-leb _ room (omega arith)))
      (run_records xs 1 (0 + length (write_line l)) (0 + 1) [] e k (all_split (Line lim) (record_lines v xs) (column_line c ∷ []) ls.1).0
      (all_split (Line lim) (record_lines v xs) (column_line c ∷ []) ls.1).1.0 (omega arith)))
    where
      no_lf : (xs : List Bytes) → All (Line lim) xs → NoLF xs
      no_lf [] h = tt
      no_lf (x ∷ xs) h = (h.0.pure.line, no_lf xs h.1)

      read_pieces : (ls : List Bytes) → All (Line lim) ls → length (write_lines ls) ≤ lim.header → Accepted v (map (tidied v) xs) c (run lim None room 0 0 0 empty (map write_line ls))
          → Accepted v (map (tidied v) xs) c (reading lim None room (write_lines ls))
      read_pieces ls h short acc = rw (reading_short lim None room (write_lines ls) short, pieces_lines ls (no_lf ls h)) acc
