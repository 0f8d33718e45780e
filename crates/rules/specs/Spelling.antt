-- Document 02, §4 and §10: how the numbers of an entry's line were spelled. Assumes nothing.
use Rattle.std.specs.Prelude.{ℕ, Bool, true, false, not, ◌||◌, ◌&&◌, List, [], ◌∷◌, leb, Option, None, Some}
use Rattle.values.specs.Bytes.{Bytes}
use Rattle.values.specs.Integer.{u64_read}
use Rattle.values.specs.Value.{meaning_of}
use Rattle.values.specs.Field.{Field}
use Rattle.rules.specs.Version.{Version}
use Rattle.rules.specs.Known.{Reads, KnownField, any_text, a_number, a_type, an_integer}
use Rattle.rules.specs.Map.{known_named}
use Rattle.rules.specs.Record.{Record, fileformat, fields, text}
use Rattle.rules.specs.Entry.{Entry}
use Rattle.rules.specs.Shown.{has_id, entry_record}

-- a number that is not plainly spelled; what is no number, a letter too, is not spelled oddly
abbrev pub is_odd : Option (ℕ × Bool) → Bool
is_odd (Some (n, plain)) = not plain
is_odd None = false

-- Number, IDX and length are read as numbers
abbrev pub odd_read : Bytes → Reads → Bool
odd_read t any_text = false
odd_read t a_number = is_odd (u64_read t)
odd_read t a_type = false
odd_read t an_integer = is_odd (u64_read t)

-- of a known field's value; the others are not read
abbrev pub odd_value : Bytes → Option KnownField → Bool
odd_value t None = false
odd_value t (Some r) = odd_read t r.reads

-- a field of a map under the key k, by what its value means
abbrev pub is_odd_field : Version → Bytes → Field → Bool
is_odd_field v k f = odd_value (meaning_of f.value) (known_named v k f.key)

unfoldable pub has_odd : Version → Bytes → List Field → Bool
has_odd v k [] = false
has_odd v k (f ∷ fs) = is_odd_field v k f || has_odd v k fs

-- Whether an entry carries an oddly spelled number; none is refusal 29

-- none but maps have numbers
abbrev pub record_odd : Version → Option Record → Option Bool
record_odd v None = None
record_odd v (Some (fileformat w)) = Some false
record_odd v (Some (text k t)) = Some false
record_odd v (Some (fields k fs)) = Some (has_odd v k fs)

-- kinds 2 to 7 are read again, and where keys and fields are counted kinds 1 and 8 too
abbrev pub is_read_again : Bool → ℕ → Bool
is_read_again counted kind = has_id kind || (counted && leb kind 8)

abbrev pub entry_odd : Bool → Bytes → Version → Option Entry → Option Bool
entry_odd counted h v None = None
entry_odd counted h v (Some e) = elim (is_read_again counted e.kind) [ true ↦ record_odd v (entry_record counted h v e) | false ↦ Some false ]
