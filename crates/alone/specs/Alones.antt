-- What the code finds of a line that is read alone. Assumes nothing.
use Rattle.std.specs.Prelude.{ℕ, ◌≡◌, Bool, true, false, List, [], length, Option, None, Some}
use Rattle.values.specs.Bytes.{Bytes}
use Rattle.values.specs.Field.{Field}
use Rattle.rules.specs.Answer.{ok}
use Rattle.rules.specs.Version.{Version}
use Rattle.rules.specs.Record.{Record, fields, key_of, read_record}
use Rattle.rules.specs.Entry.{Entry, Counts, if_counted, fields_of}
use Rattle.rules.specs.Shown.{line_in, read_alone, entry_record}
use Rattle.rules.specs.Claims.{key_in}
use Rattle.records.specs.Keys.{Named}
use Rattle.records.specs.Maps.{tally_of}
use Rattle.records.specs.Records.{value_start}
use Rattle.records.specs.declared.record.MapRecord.{MapRecord}
use Rattle.alone.specs.declared.read.Alone.{Alone}
use Rattle.alone.specs.declared.read.Alone.TheVariants.{Map, Plain}

abbrev pub plain_if : Bool → ℕ → Option Alone
plain_if true n = Some (Plain n)
plain_if false n = None

abbrev pub counts_in : Bool → ℕ → ℕ → Counts
counts_in counted key n = record { key_length = if_counted counted key; field_count = if_counted counted n }

-- the map on the line l, with the fields fs
pub record MapOn (v : Version) (l : Bytes) (fs : List Field) (m : MapRecord) : Type 0 where
  pub named : Named (key_in l) m.key
  pub value : m.value ≡ value_start l
  pub read : read_record v l ≡ ok (fields (key_in l) fs)
  pub tally : m.tally ≡ tally_of v (key_in l) fs

-- o is what the rules find on the line l
abbrev pub AloneIs : Version → Bytes → Option Record → Option Alone → Type 0
AloneIs v l o (Some (Map m)) = (fs : List Field) × (o ≡ Some (fields (key_in l) fs)) × MapOn v l fs m
AloneIs v l o (Some (Plain n)) = (r : Record) × (o ≡ Some r) × (fields_of r ≡ []) × (n ≡ length (key_of r))
AloneIs v l o None = o ≡ None

-- a line was read as a record of this kind
pub record ReadsAlone (v : Version) (kind : ℕ) (l : Bytes) (r : Option Alone) : Type 0 where
  pub is : AloneIs v l (read_alone v kind l) r

-- an entry's line was read again
pub record ReadsEntry (counted : Bool) (v : Version) (h : Bytes) (e : Entry) (r : Option Alone) : Type 0 where
  pub is : AloneIs v (line_in h e) (entry_record counted h v e) r
