-- Document 01, "Lines" and "Refusal numbers": the line machine, and the reading of a whole header. Assumes nothing.
use Rattle.std.specs.Prelude.{ℕ, suc, ◌+◌, Bool, true, false, List, [], ◌∷◌, ◌++◌, leb, length, Option}
use Rattle.values.specs.Bytes.{Bytes, ascii, same, starts}
use Rattle.values.specs.Utf8.{is_utf8}
use Rattle.rules.specs.Answer.{Answer, ok, refuse, ◌>>=◌, first, judged}
use Rattle.rules.specs.Sizes.{Limits}
use Rattle.rules.specs.Lines.{pieces, line_of}
use Rattle.rules.specs.Version.{Version, v4_5, in_force}
use Rattle.rules.specs.Known.{is_typed}
use Rattle.rules.specs.Map.{value_named}
use Rattle.rules.specs.Record.{Record, fileformat, fields, text, key_of, read_record}
use Rattle.rules.specs.Columns.{Columns, read_columns}
use Rattle.rules.specs.Entry.{Entry, record_entry, column_entries}

abbrev pub id_of : Version → Record → Bytes
id_of v (fileformat w) = []
id_of v (fields k fs) = value_named v k (ascii "ID") fs
id_of v (text k t) = []

abbrev pub is_fields : Record → Bool
is_fields (fileformat v) = false
is_fields (fields k fs) = true
is_fields (text k t) = false

-- a record beside an earlier one: the same key; which is a map; the same ID; a typed key
abbrev pub beside_of : Bool → Bool → Bool → Bool → Bool → ℕ
beside_of false a b id typed = 0
beside_of true false false id typed = 0
beside_of true false true id typed = 20
beside_of true true false id typed = 20
beside_of true true true false typed = 0
beside_of true true true true true = 19
beside_of true true true true false = 21

unfoldable pub beside : Version → Record → Record → ℕ
beside v r s = beside_of (same (key_of s) (key_of r)) (is_fields r) (is_fields s) (same (id_of v s) (id_of v r)) (is_typed (key_of r))

-- 19 to 21
unfoldable pub clash : Version → Record → List Record → ℕ
clash v r [] = 0
clash v r (s ∷ ss) = first (beside v r s ∷ clash v r ss ∷ [])

-- the phases: the version in force, the records after the fileformat line, the columns
pub data State : Type 0 where
  empty : State
  ready : Version → List Record → State
  done : Version → List Record → Columns → State

-- the first line must be fileformat
abbrev pub begin : Bool → Option Version → ℕ → Bytes → Record → Answer (State × List Entry)
begin counted imposed start l (fileformat v) = ok (ready (in_force imposed v) [], record_entry counted v start l (fileformat v) ∷ [])
begin counted imposed start l (fields k fs) = refuse 4
begin counted imposed start l (text k t) = refuse 4

-- a later one goes with those before it
abbrev pub enter : Bool → Version → List Record → ℕ → Bytes → Record → Answer (State × List Entry)
enter counted v rs start l (fileformat w) = refuse 5
enter counted v rs start l (fields k fs) = judged (clash v (fields k fs) rs) (ready v (rs ++ fields k fs ∷ []), record_entry counted v start l (fields k fs) ∷ [])
enter counted v rs start l (text k t) = judged (clash v (text k t) rs) (ready v (rs ++ text k t ∷ []), record_entry counted v start l (text k t) ∷ [])

abbrev pub finish : Version → List Record → ℕ → Bytes → Columns → Answer (State × List Entry)
finish v rs start l c = ok (done v rs c, column_entries start l c)

-- a line of UTF-8, by its phase
unfoldable pub step_text : Bool → Option Version → ℕ → State → Bytes → Answer (State × List Entry)
step_text counted imposed start empty l = read_record v4_5 l >>= begin counted imposed start l
step_text counted imposed start (ready v rs) l = elim (starts (ascii "#CHROM") l) [
  | true ↦ read_columns l >>= finish v rs start l
  | false ↦ read_record v l >>= enter counted v rs start l
]
step_text counted imposed start (done v rs c) l = refuse 1

abbrev pub is_done : State → Bool
is_done empty = false
is_done (ready v rs) = false
is_done (done v rs c) = true

-- by line: 1, 2, 3, then grammar
unfoldable pub step : Limits → Option Version → ℕ → State → Bytes → Answer (State × List Entry)
step lim imposed start s l = elim (is_done s) [
  | true ↦ refuse 1
  | false ↦ elim (leb (length l) lim.line) [
    | true ↦ elim (is_utf8 l) [ true ↦ step_text lim.counted imposed start s l | false ↦ refuse 3 ]
    | false ↦ refuse 2
  ]
]

-- number, 0 if accepted; line from 1; start; the entries kept, and the state after the lines that were read
pub record Reading : Type 0 where
  pub number : ℕ
  pub line : ℕ
  pub start : ℕ
  pub entries : List Entry
  pub state : State

abbrev pub stop : ℕ → ℕ → ℕ → State → Reading
stop number line start s = record { number = number; line = line; start = start; entries = []; state = s }

abbrev pub following : List Entry → Reading → Reading
following es r = record { number = r.number; line = r.line; start = r.start; entries = es ++ r.entries; state = r.state }

-- no line at all, no column line, or accepted: n lines, `size` bytes
abbrev pub at_end : ℕ → ℕ → State → Reading
at_end n size empty = stop 25 0 0 empty
at_end n size (ready v rs) = stop 26 n size (ready v rs)
at_end n size (done v rs c) = stop 0 n size (done v rs c)

-- the pieces after n lines, `start` bytes and `count` entries; the table has room for `room` of these
unfoldable pub run : Limits → Option Version → ℕ → ℕ → ℕ → ℕ → State → List Bytes → Reading
run lim imposed room n start count s [] = at_end n start s
run lim imposed room n start count s (p ∷ ps) = elim (step lim imposed start s (line_of p)) [
  | refuse m ↦ stop m (suc n) start s
  | ok q ↦ elim (leb (count + length q.1) room) [
    | true ↦ following q.1 (run lim imposed room (suc n) (start + length p) (count + length q.1) q.0 ps)
    | false ↦ stop 24 (suc n) start s
  ]
]

unfoldable pub reading : Limits → Option Version → ℕ → Bytes → Reading
reading lim imposed room h = elim (leb (length h) lim.header) [
  | true ↦ run lim imposed room 0 0 0 empty (pieces h)
  | false ↦ stop 27 0 0 empty
]
