-- What the calls show of the entries of a reading. Assumes nothing.
use Rattle.std.specs.Prelude.{ℕ, ◌≡◌, List, Some}
use Rattle.values.specs.Bytes.{Bytes}
use Rattle.rules.specs.Answer.{ok}
use Rattle.rules.specs.Version.{Version}
use Rattle.rules.specs.Record.{Record, read_record}
use Rattle.rules.specs.Entry.{Entry}
use Rattle.entries.specs.declared.form.Form.{Form}
use Rattle.entries.specs.Values.{limits_by}
use Rattle.entries.specs.Tables.{entry_at}
use Rattle.rules.specs.Claims.{Shows, ShowsPlain, Tells}

-- what the calls find under n in the table is the entry of the record r, and shows it
pub record CallsShow (form : Form) (h : Bytes) (v : Version) (t : List ℕ) (n : ℕ) (r : Record) : Type 0 where
  pub entry : Entry
  pub found : entry_at form h t n ≡ Some entry
  pub line : Bytes
  pub read : read_record v line ≡ ok r
  pub shows : Shows (limits_by form).counted h v line entry r
  pub tells : Tells (limits_by form).counted h v entry r

-- the same for an entry of a kind without an ID, which shows these bytes
pub record CallsShowPlain (form : Form) (h : Bytes) (v : Version) (t : List ℕ) (n kind : ℕ) (x : Bytes) : Type 0 where
  pub entry : Entry
  pub found : entry_at form h t n ≡ Some entry
  pub shows : ShowsPlain h kind x entry
