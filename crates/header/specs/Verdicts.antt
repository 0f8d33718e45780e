-- What a verdict says of a line, in the terms of the definitions. Assumes nothing.
use Rattle.std.specs.Prelude.{ℕ, ◌-◌, ◌≤◌, ◌≡◌, Bool, true, false, List, [], ◌∷◌, length, take, Option, None, Some, Result, Ok, Err}
use Rattle.values.specs.Bytes.{Bytes, part}
use Rattle.values.specs.Utf8.{is_utf8}
use Rattle.rules.specs.Answer.{Answer, ok, refuse, ◌>>=◌, judged}
use Rattle.rules.specs.Sizes.{Limits}
use Rattle.rules.specs.Version.{Version}
use Rattle.rules.specs.Record.{read_record}
use Rattle.rules.specs.Columns.{Columns, read_columns}
use Rattle.entries.specs.declared.entry.Entry.{Entry as CodeEntry}
use Rattle.rules.specs.Entry.{Entry, format_kind, map_kind, plain_entry, if_counted, with_counts, column_entries}
use Rattle.rules.specs.Shown.{line_in}
use Rattle.rules.specs.Reading.{empty, ready, enter, step_text}
use Rattle.rules.specs.Claims.{All, key_in}
use Rattle.records.specs.Formats.{version_of}
use Rattle.records.specs.Refusals.{number}
use Rattle.records.specs.Keys.{kind_by}
use Rattle.records.specs.Fields.{text_in}
use Rattle.records.specs.declared.file_format.FileFormat.{FileFormat}
use Rattle.records.specs.declared.record.MapRecord.{MapRecord}
use Rattle.records.specs.declared.record.Record.{Record}
use Rattle.records.specs.Records.{ParsesRecord}
use Rattle.entries.specs.Values.{entry_of}
use Rattle.ids.specs.Clashes.{clash_number, clash_in, prefix_of, Prefixes}
use Rattle.ids.specs.Ahead.{Named}
use Rattle.ids.specs.Marks.{Marked, MarkedFor}
use Rattle.header.specs.Steps.{Stage, opening, body, ending, fresh_state, held_against, step_on}
use Rattle.header.specs.declared.phase.Phase.{Phase}
use Rattle.header.specs.declared.phase.Phase.TheVariants as phase
use Rattle.header.specs.declared.verdict.Verdict.{Verdict}
use Rattle.header.specs.declared.verdict.Verdict.TheVariants as verdict
use Rattle.records.specs.declared.refusal.Refusal.{Refusal}

abbrev pub imposed_of : Option FileFormat → Option Version
imposed_of None = None
imposed_of (Some f) = Some (version_of f)

abbrev pub stage_of : Phase → Stage
stage_of phase.Empty = opening
stage_of (phase.Ready f) = body (version_of f)
stage_of (phase.Done f n) = ending (version_of f) n

abbrev pub is_done_phase : Phase → Bool
is_done_phase phase.Empty = false
is_done_phase (phase.Ready f) = false
is_done_phase (phase.Done f n) = true

-- What a verdict says: a is what the definitions answer of the line l, which stands at start, in the stage g; ms are the marks after it

-- the entry of a fileformat line, whose key has ten bytes
abbrev pub format_entry : Limits → ℕ → ℕ → Entry
format_entry lim start len = with_counts (record { key_length = if_counted lim.counted 10; field_count = 0 }) (plain_entry format_kind start len)

-- the column line
pub record Ended (a : Answer (Stage × List Entry)) (start : ℕ) (l : Bytes) (f : FileFormat) (n : ℕ) : Type 0 where
  pub c : Columns
  pub read : read_columns l ≡ ok c
  pub count : length c.samples ≡ n
  pub ends : a ≡ ok (ending (version_of f) n, column_entries start l c)

abbrev pub Says : Limits → Bytes → Bytes → Answer (Stage × List Entry) → ℕ → Stage → Bytes → Result Verdict Refusal → Type 0
Says lim h ms a start g l (Ok (verdict.Begin f)) = a ≡ ok (body (version_of f), format_entry lim start (length l) ∷ [])
Says lim h ms a start g l (Ok (verdict.Entry e)) = (a ≡ ok (g, entry_of e ∷ [])) × Marked h ms (entry_of e)
Says lim h ms a start g l (Ok (verdict.Columns f n)) = Ended a start l f n
Says lim h ms a start g l (Err x) = a ≡ refuse (number x)

-- What is marked

-- a line that is no column line, in the body
abbrev pub record_beside : Limits → Bytes → List Entry → Version → ℕ → Bytes → Answer (Stage × List Entry)
record_beside lim h es v start l = read_record v l >>= enter lim.counted v [] start l >>= held_against h es

-- the version by which records from this stage on are read
abbrev pub IsInBody : Stage → Version → Type 0
IsInBody opening v = Unit {0}
IsInBody (body w) v = w ≡ v
IsInBody (ending w n) v = ⊥

-- the names of the record that stands on the line l, at start, were noted
pub record LineNamed (lim : Limits) (g : Stage) (h : Bytes) (ns : List ℕ) (start : ℕ) (l : Bytes) : Type 0 where
  pub is : (v : Version) → IsInBody g v → (e : Entry) → record_beside lim h [] v start l ≡ ok (body v, e ∷ []) → Named h ns e

-- the entries are marked that it may clash with
pub record MarkedBefore (lim : Limits) (g : Stage) (h : Bytes) (start : ℕ) (l ms : Bytes) (es : List Entry) : Type 0 where
  pub notes : List ℕ
  pub named : LineNamed lim g h notes start l
  pub all : All (MarkedFor h notes ms) es

-- what was marked stays so
pub record MarksKept (h ms ms' : Bytes) : Type 0 where
  pub long : length ms' ≡ length ms
  pub all : (ns : List ℕ) (es : List Entry) → All (MarkedFor h ns ms) es → All (MarkedFor h ns ms') es

-- The parts of a verdict

-- the first line: no record, and no column line
abbrev pub FirstSays : Option Version → Bytes → Result Verdict Refusal → Type 0
FirstSays imposed l (Ok (verdict.Begin f)) = (lim : Limits) (start : ℕ) → step_text lim.counted imposed start empty l ≡ ok (ready (version_of f) [], format_entry lim start (length l) ∷ [])
FirstSays imposed l (Ok (verdict.Entry e)) = ⊥
FirstSays imposed l (Ok (verdict.Columns f n)) = ⊥
FirstSays imposed l (Err x) = (lim : Limits) (start : ℕ) → step_text lim.counted imposed start empty l ≡ refuse (number x)

pub record FirstJudged (imposed : Option Version) (l : Bytes) (r : Result Verdict Refusal) : Type 0 where
  pub is : FirstSays imposed l r

-- a new entry e, whose line begins with the prefix, beside the entries es
abbrev pub beside_entries : Bytes → List Entry → Bytes → Stage → Entry → Answer (Stage × List Entry)
beside_entries h es prefix g e = judged (clash_number (clash_in h es prefix e)) (g, e ∷ [])

pub record IdJudged (lim : Limits) (h : Bytes) (es : List Entry) (ms prefix : Bytes) (e : Entry) (r : Result Verdict Refusal) (ms' : Bytes) : Type 0 where
  pub marks : MarksKept h ms ms'
  pub is : 2 ≤ e.kind → Prefixes prefix (line_in h e) → (ns : List ℕ) → Named h ns e → All (MarkedFor h ns ms) es → (start : ℕ) (g : Stage) (l : Bytes) → Says lim h ms' (beside_entries h es prefix g e) start g l r

-- the entry of a map that was read
abbrev pub made_of : Limits → ℕ → Bytes → MapRecord → Entry
made_of lim start l m = record {
  kind = map_kind (kind_by m.key);
  start = start;
  length = length l;
  offset = m.id.start;
  id_length = length (text_in l m.id);
  quoted = m.id.quoted;
  tag = m.tag;
  key_length = if_counted lim.counted (m.value - 3);
  field_count = if_counted lim.counted m.tally.fields;
}

-- a record that stands on the line l, at start, with its entry and where its value stands: it is still to be held against the entries before it
pub record NewRecord (lim : Limits) (v : Version) (start : ℕ) (l : Bytes) (e : Entry) (at : ℕ) : Type 0 where
  pub prefix : take at l ≡ prefix_of (key_in l)
  pub kind : 2 ≤ e.kind
  pub stands : e.start ≡ start
  pub size : e.length ≡ length l
  pub beside : (h : Bytes) (es : List Entry) → beside_entries h es (prefix_of (key_in l)) (body v) e ≡ record_beside lim h es v start l

abbrev pub MetSays : Limits → Version → ℕ → Bytes → Result (CodeEntry × ℕ) Refusal → Type 0
MetSays lim v start l (Ok (e, at)) = NewRecord lim v start l (entry_of e) at
MetSays lim v start l (Err x) = (h : Bytes) (es : List Entry) → record_beside lim h es v start l ≡ refuse (number x)

-- x is what was read of the line
pub record MeetsRead (lim : Limits) (start : ℕ) (l : Bytes) (x : Result Record Refusal) (r : Result (CodeEntry × ℕ) Refusal) : Type 0 where
  pub is : (v : Version) → ParsesRecord v l x → MetSays lim v start l r

pub record RecordJudged (lim : Limits) (h : Bytes) (es : List Entry) (ms : Bytes) (v : Version) (start end : ℕ) (r : Result Verdict Refusal) (ms' : Bytes) : Type 0 where
  pub marks : MarksKept h ms ms'
  pub is : (l : Bytes) → l ≡ part h start end → MarkedBefore lim (body v) h start l ms es → Says lim h ms' (record_beside lim h es v start l) start (body v) l r

-- the column line
abbrev pub ColumnsSay : Bytes → FileFormat → Result Verdict Refusal → Type 0
ColumnsSay l f (Ok (verdict.Begin g)) = ⊥
ColumnsSay l f (Ok (verdict.Entry e)) = ⊥
ColumnsSay l f (Ok (verdict.Columns g n)) = (g ≡ f) × ((c : Columns) × (read_columns l ≡ ok c) × (length c.samples ≡ n))
ColumnsSay l f (Err x) = read_columns l ≡ refuse (number x)

pub record ColumnsJudged (l : Bytes) (f : FileFormat) (r : Result Verdict Refusal) : Type 0 where
  pub is : ColumnsSay l f r

-- a line of UTF-8, by its phase
abbrev pub text_beside : Limits → Option Version → Bytes → List Entry → ℕ → Stage → Bytes → Answer (Stage × List Entry)
text_beside lim imposed h es start g l = step_text lim.counted imposed start (fresh_state g) l >>= held_against h es

pub record TextJudged (lim : Limits) (h : Bytes) (es : List Entry) (ms : Bytes) (start end : ℕ) (p : Phase) (imposed : Option Version) (r : Result Verdict Refusal) (ms' : Bytes) :
    Type 0 where
  pub marks : MarksKept h ms ms'
  pub is : (l : Bytes) → l ≡ part h start end → MarkedBefore lim (stage_of p) h start l ms es → Says lim h ms' (text_beside lim imposed h es start (stage_of p) l) start (stage_of p) l r

-- whether the line is UTF-8, where it is so in an ASCII header
pub record Utf8Told (plain : Bool) (l : Bytes) (r : Bool) : Type 0 where
  pub is : (plain ≡ true → is_utf8 l ≡ true) → r ≡ is_utf8 l

-- 1, 2 and 3 come first; plain: the line is known to be ASCII
pub record LineJudged (lim : Limits) (h : Bytes) (es : List Entry) (ms : Bytes) (plain : Bool) (start end : ℕ) (p : Phase) (imposed : Option Version)
    (r : Result Verdict Refusal) (ms' : Bytes) : Type 0 where
  pub marks : MarksKept h ms ms'
  pub is : (l : Bytes) → l ≡ part h start end → MarkedBefore lim (stage_of p) h start l ms es → (plain ≡ true → is_utf8 l ≡ true)
      → Says lim h ms' (step_on lim imposed h es start (stage_of p) l) start (stage_of p) l r
