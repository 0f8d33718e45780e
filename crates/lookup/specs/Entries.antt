-- An entry with all that it tells, and the entry under a key and an ID. Assumes nothing.
use Rattle.std.specs.Prelude.{ℕ, ◌+◌, Bool, true, false, ◌&&◌, List, [], leb, ltb, length, Option, None, Some}
use Rattle.values.specs.Bytes.{Bytes, ascii, starts, same}
use Rattle.rules.specs.Entry.{Entry, if_counted}
use Rattle.rules.specs.Shown.{has_id, line_in, id_meaning}
use Rattle.rules.specs.Claims.{key_in}
use Rattle.entries.specs.declared.form.Form.{Form}
use Rattle.entries.specs.Tables.{room, entry_at}
use Rattle.index.specs.Index.{first_from}
use Rattle.lookup.specs.declared.entry.Described.{Described}

-- the key on an entry's line; the column line and samples have none
unfoldable pub entry_key : Bytes → Entry → Bytes
entry_key h e = elim (leb e.kind 8 && starts (ascii "##") (line_in h e)) [ true ↦ key_in (line_in h e) | false ↦ [] ]

-- the kind, and the line, the key and the ID as parts of the header; where there is no key or no ID they begin at 0
abbrev pub described : Bytes → Entry → Described
described h e = record {
  kind = e.kind;
  start = e.start;
  length = e.length;
  key_start = if_counted (ltb 0 (length (entry_key h e))) (e.start + 2);
  key_length = length (entry_key h e);
  has_id = has_id e.kind;
  id_start = if_counted (has_id e.kind) (e.start + e.offset);
  id_length = e.id_length;
  quoted = e.quoted;
}

abbrev pub described_in : Bytes → Option Entry → Option Described
described_in h None = None
described_in h (Some e) = Some (described h e)

-- it has this key, and an ID that means this
abbrev pub has_key_and_id : Bytes → Bytes → Bytes → Option Entry → Bool
has_key_and_id h key id None = false
has_key_and_id h key id (Some e) = has_id e.kind && (same (entry_key h e) key && same (id_meaning h e) id)

unfoldable pub is_under : Form → Bytes → List ℕ → Bytes → Bytes → ℕ → Bool
is_under form h t key id n = has_key_and_id h key id (entry_at form h t n)

-- the first such entry of a table
abbrev pub first_under : Form → Bytes → List ℕ → Bytes → Bytes → Option ℕ
first_under form h t key id = first_from (is_under form h t key id) 0 (room form t)
