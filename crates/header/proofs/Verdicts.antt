-- What a line is, beside the lines before it. Assumes nothing.
use Prim.Native.Nat.{ℕ, zero, suc, ◌+◌, ◌-◌, ◌≤◌, ◌<◌}
use native.Mathlib.Omega.{arith}
use mathlib.Core.Path.{◌≡◌, refl, sym, ap, ap₂, subst, ◌∙◌}
use mathlib.Core.Bool.{Bool, true, false, not}
use mathlib.Core.List.{List, [], ◌∷◌, ◌++◌}
use Rattle.std.specs.Prelude.{Option, None, Some, Result, Ok, Err}
use lib.ListN.{length, take, drop, length-take, length-drop}
use lib.Seq.{take-append-add}
use borrow.Author.Tests.{eq-eqb, le-leb, lt-leb}
use Rattle.values.specs.Bytes.{Bytes, ascii, starts, part}
use Rattle.values.specs.Utf8.{is_utf8}
use Rattle.values.specs.Field.{Field}
use Rattle.values.specs.declared.string.Text.{Text}
use Rattle.values.proofs.Tests.{not_true, not_false}
use Rattle.values.proofs.Lists.{some_is}
use Rattle.rules.specs.Answer.{Answer, ok, refuse, ◌>>=◌, judged}
use Rattle.rules.specs.Sizes.{Limits}
use Rattle.rules.specs.Version.{Version, v4_5, in_force}
use Rattle.rules.specs.Known.{kind_of, tag_of}
use Rattle.rules.specs.Map.{field_named}
use Rattle.rules.specs.Record.{Record, fileformat, fields, text, read_record}
use Rattle.rules.specs.Columns.{Columns, read_columns}
use Rattle.rules.specs.Entry.{Entry, format_kind, map_kind, text_kind, plain_entry, fields_start, text_named, line_entry, if_counted, counts_of, with_counts, record_entry, column_entries}
use Rattle.rules.specs.Shown.{line_in}
use Rattle.rules.specs.Reading.{clash, State, empty, ready, begin, enter, finish, is_done, step_text, step}
use Rattle.rules.specs.House.{write_record}
use Rattle.rules.proofs.Firsts.{on_ok, judged_zero}
use Rattle.rules.proofs.Texts.{LineOf, record_in}
use Rattle.rules.proofs.Shows.{Both, AnyAt, named_text, line_fields}
use Rattle.records.specs.Formats.{version_of}
use Rattle.records.specs.Refusals.{number}
use Rattle.records.specs.Keys.{kind_by}
use Rattle.records.specs.Fields.{text_in}
use Rattle.records.specs.Maps.{slotted}
use Rattle.records.specs.Records.{RecordIs, ParsesRecord}
use Rattle.records.specs.declared.file_format.FileFormat.{FileFormat}
use Rattle.records.specs.declared.refusal.Refusal.{Refusal}
use Rattle.records.specs.declared.refusal.Refusal.TheVariants.{ExpectedEof, LineTooLong, InvalidUtf8, MissingFileFormat, UnexpectedFileFormat, DuplicateId, MixedValues, DuplicateOtherId, InvalidHeader, DuplicateSampleName}
use Rattle.records.specs.declared.map.Tally.{Tally}
use Rattle.records.specs.declared.record.MapRecord.{MapRecord}
use Rattle.records.specs.declared.record.Record.{Record as LineRecord}
use Rattle.records.specs.declared.record.Record.TheVariants as read
use Rattle.records.proofs.Determined.{filled_one}
use Rattle.records.proofs.Keys.{kind_by_case}
use Rattle.columns.specs.HeaderLines.{HeaderRead}
use Rattle.columns.specs.declared.header_line.ColumnsRefusal.{ColumnsRefusal}
use Rattle.columns.specs.declared.header_line.ColumnsRefusal.TheVariants as columns
use Rattle.columns.proofs.Answers.{columns_read, column_wrong, sample_twice}
use Rattle.entries.specs.declared.entry.Entry.{Entry as CodeEntry}
use Rattle.entries.specs.Values.{entry_of, limits_of}
use Rattle.entries.specs.declared.limits.Limits.{Limits as CodeLimits}
use Rattle.ids.specs.Clashes.{clash_number, clash_in, prefix_of, Prefixes}
use Rattle.ids.specs.Names.{prefix_hash}
use Rattle.ids.specs.Ahead.{Named}
use Rattle.ids.specs.Marks.{mark_under, Marked, MarkedFor, clash_under}
use Rattle.ids.specs.declared.scan.Clash.{Clash}
use Rattle.ids.specs.declared.scan.Clash.TheVariants as clashes
use Rattle.ids.proofs.KeyKinds.{number_small}
use Rattle.ids.proofs.Markings.{under_length, entry_own, under_kept, prefix_own, clash_sure}
use Rattle.header.specs.Steps.{Stage, opening, body, ending, fresh_state, held_against, step_on}
use Rattle.header.specs.Verdicts.{imposed_of, stage_of, is_done_phase, format_entry, Says, MarksKept, MarkedBefore, FirstSays, FirstJudged, beside_entries, IdJudged, record_beside, made_of, MetSays, MeetsRead, RecordJudged, ColumnsSay, ColumnsJudged, text_beside, TextJudged, Utf8Told, LineJudged}
use Rattle.header.specs.declared.phase.Phase.{Phase}
use Rattle.header.specs.declared.phase.Phase.TheVariants as phase
use Rattle.header.specs.declared.verdict.Verdict.{Verdict}
use Rattle.header.specs.declared.verdict.Verdict.TheVariants as verdict
use Rattle.header.proofs.Aheads.{alone}
use Rattle.rules.specs.Claims.{All, Sized, SizedOption, key_in}

-- The version in force

pub force_none : (i : Option FileFormat) (v : FileFormat) → i ≡ None → version_of v ≡ in_force (imposed_of i) (version_of v)
force_none i v e = rw e

pub force_some : (i : Option FileFormat) (v : FileFormat) {w : FileFormat} → i ≡ Some w → version_of w ≡ in_force (imposed_of i) (version_of v)
force_some i v e = rw e

pub sizes : (v : FileFormat) → v.major < 4294967296 → v.minor < 4294967296 → Sized (version_of v)
sizes v a b = record { major = omega arith; minor = omega arith }

pub ruleset forces = (force_none, force_some)

-- what the theorems ask of a version that is imposed holds of every one that the code can be given: its parts have 32 bits
pub imposed_sized : (i : Option FileFormat) → ((f : FileFormat) → i ≡ Some f → (f.major < 4294967296) × (f.minor < 4294967296)) → SizedOption (imposed_of i)
imposed_sized None parts = tt
imposed_sized (Some f) parts = let p = parts f refl in sizes f p.0 p.1

-- The first line

none_counted : (counted : Bool) → if_counted counted 0 ≡ 0
none_counted true = refl
none_counted false = refl

format_entry_lem : (lim : Limits) (v : Version) (start : ℕ) (l : Bytes) → record_entry lim.counted v start l (fileformat v) ≡ format_entry lim start (length l)
unfolding record_entry line_entry counts_of
format_entry_lem lim v start l = ap (λ (n : ℕ). with_counts (record { key_length = if_counted lim.counted 10; field_count = n }) (plain_entry format_kind start (length l))) (none_counted lim.counted)

module _ (imposed : Option Version) (l : Bytes) (x : Result LineRecord Refusal) (a : ParsesRecord v4_5 l x) where
  first_is : {r : Record} → read_record v4_5 l ≡ ok r → (lim : Limits) (start : ℕ) → step_text lim.counted imposed start empty l ≡ begin lim.counted imposed start l r
  unfolding step_text
  first_is e lim start = rw e

  pub first_format : {w : FileFormat} → x ≡ Ok (read.FileFormat w) → (f : FileFormat) → version_of f ≡ in_force imposed (version_of w) → FirstJudged imposed l (Ok (verdict.Begin f))
  first_format {w} e f g = record {
    is = λ lim start.
        first_is (subst (RecordIs v4_5 l) e a.is) lim start ∙ rw (← g) (ap (λ (y : Entry). ok (ready (version_of f) [], y ∷ [])) (format_entry_lem lim (version_of w) start l));
  }

  pub first_map : {m : MapRecord} → x ≡ Ok (read.Map m) → FirstJudged imposed l (Err MissingFileFormat)
  first_map e = record { is = λ lim start. first_is (subst (RecordIs v4_5 l) e a.is).3 lim start }

  pub first_text : {at : ℕ} → x ≡ Ok (read.Text at) → FirstJudged imposed l (Err MissingFileFormat)
  first_text e = record { is = λ lim start. first_is (subst (RecordIs v4_5 l) e a.is).1 lim start }

  pub first_refused : {y : Refusal} → x ≡ Err y → FirstJudged imposed l (Err y)
  unfolding step_text
  first_refused e = record { is = λ lim start. let h = subst (RecordIs v4_5 l) e a.is in rw h }

pub ruleset firsts = (first_format, first_map, first_text, first_refused)

-- A record beside those before it

marks_same : (h ms : Bytes) → MarksKept h ms ms
marks_same h ms = record { long = refl; all = λ ns es a. a }

marks_more : (h ms : Bytes) (key : ℕ) (e : Entry) {ms' : Bytes} → ms' ≡ mark_under h key e ms → MarksKept h ms ms'
marks_more h ms key e a = rw a (record { long = under_length h key e ms; all = λ ns es b. under_kept h ns key e ms es b })

judged_by_lem : {A : Type 0} {n m : ℕ} (x : A) → m ≡ n → {k : ℕ} → m ≡ suc k → judged n x ≡ refuse (suc k)
judged_by_lem x e f = rw (← e, f)

module _ (lim : Limits) (h : Bytes) (es : List Entry) (ms prefix : Bytes) (e : CodeEntry) {a : Option Clash} (ea : a ≡ clash_under h es ms prefix (prefix_hash prefix e.kind) (entry_of e))
    {ms' : Bytes} (em : ms' ≡ mark_under h (prefix_hash prefix e.kind) (entry_of e) ms) where
  abbrev OwnPrefix : Type 0
  OwnPrefix = Prefixes prefix (line_in h (entry_of e))

  found : 2 ≤ (entry_of e).kind → OwnPrefix → (ns : List ℕ) → Named h ns (entry_of e) → All (MarkedFor h ns ms) es → clash_number a ≡ clash_number (clash_in h es prefix (entry_of e))
  found two own ns n m =
      ap clash_number (ea ∙ ap (λ (k : ℕ). clash_under h es ms prefix k (entry_of e)) (prefix_own h prefix (entry_of e) own.key) ∙ clash_sure h ns es ms prefix (entry_of e) own two n m)

  marked : OwnPrefix → Marked h ms' (entry_of e)
  marked own = subst (λ (y : Bytes). Marked h y (entry_of e)) (sym (em ∙ ap (λ (k : ℕ). mark_under h k (entry_of e) ms) (prefix_own h prefix (entry_of e) own.key))) (entry_own h (entry_of e) ms)

  pub id_free : a ≡ None → IdJudged lim h es ms prefix (entry_of e) (Ok (verdict.Entry e)) ms'
  id_free f = record {
    marks = marks_more h ms (prefix_hash prefix e.kind) (entry_of e) em;
    is = λ two own ns n m start g l. (judged_zero (g, entry_of e ∷ []) (sym (found two own ns n m) ∙ ap clash_number f), marked own);
  }

  id_clash : (y : Refusal) {b : Option Clash} → a ≡ b → {n : ℕ} → clash_number b ≡ suc n → number y ≡ suc n → IdJudged lim h es ms prefix (entry_of e) (Err y) ms'
  id_clash y f c i = record {
    marks = marks_more h ms (prefix_hash prefix e.kind) (entry_of e) em;
    is = λ two own ns n m start g l. judged_by_lem (g, entry_of e ∷ []) (found two own ns n m) (ap clash_number f ∙ c) ∙ ap refuse (sym i);
  }

  pub id_twice : a ≡ Some clashes.TypedId → IdJudged lim h es ms prefix (entry_of e) (Err DuplicateId) ms'
  id_twice f = id_clash DuplicateId f refl refl

  pub id_mixed : a ≡ Some clashes.Mixed → IdJudged lim h es ms prefix (entry_of e) (Err MixedValues) ms'
  id_mixed f = id_clash MixedValues f refl refl

  pub id_other : a ≡ Some clashes.OtherId → IdJudged lim h es ms prefix (entry_of e) (Err DuplicateOtherId) ms'
  id_other f = id_clash DuplicateOtherId f refl refl

pub ruleset ids = (id_free, id_twice, id_mixed, id_other)

-- A line's `##key=`

take_again : (n : ℕ) (xs : Bytes) → take (length (take n xs)) xs ≡ take n xs
take_again zero xs = refl
take_again (suc n) [] = refl
take_again (suc n) (x ∷ xs) = ap (x ∷◌) (take_again n xs)

-- the line that an entry tells
line_here : (h : Bytes) (e : Entry) (start end : ℕ) {l : Bytes} → l ≡ part h start end → e.start ≡ start → e.length ≡ length l → line_in h e ≡ l
unfolding line_in
line_here h e start end {l} el es en = rw (es, en, el) (take_again (end - start) (drop start h))

prefix_here : (k r : Bytes) → take (2 + length k + 1) (ascii "##" ++ (k ++ 61 ∷ r)) ≡ prefix_of k
prefix_here k r = let e : 2 + length k ≡ suc (suc (length k)) = omega arith in rw e (take-append-add (ascii "##" ++ k) (61 ∷ r) 1)

starts_take : (n : ℕ) (l : Bytes) → starts (take n l) l ≡ true
unfolding starts
starts_take zero l = refl
starts_take (suc n) [] = refl
starts_take (suc n) (b ∷ l) = rw (starts, eq-eqb b b refl) (starts_take n l)

-- the line of an entry is l, and begins with the prefix
prefixed : (n : ℕ) {prefix l line : Bytes} → prefix ≡ take n l → prefix ≡ prefix_of (key_in l) → line ≡ l → Prefixes prefix line
prefixed n {prefix} {l} t k e = rw e (record { key = k; first = ap (λ (p : Bytes). starts p l) t ∙ starts_take n l })

-- the record was read from the line l
module _ (v : Version) (l : Bytes) where
  prefix_map : (k : Bytes) (fs : List Field) → read_record v l ≡ ok (fields k fs) → take (2 + length k + 1) l ≡ prefix_of k
  unfolding write_record
  prefix_map k fs e = ap (take (2 + length k + 1)) (on_ok (LineOf l) (record_in v l) e) ∙ prefix_here k _

  prefix_text : (k t : Bytes) → read_record v l ≡ ok (text k t) → take (2 + length k + 1) l ≡ prefix_of k
  unfolding write_record
  prefix_text k t e = ap (take (2 + length k + 1)) (on_ok (LineOf l) (record_in v l) e) ∙ prefix_here k t

-- The ID of a map

-- the text that is kept is the one that the rules name
record Kept (o : Option (Bytes × Text)) (id : Text) (tag : ℕ) : Type 0 where
  key : Bytes
  is : o ≡ Some (key, id)
  tagged : tag_of key ≡ tag

kept_is : (o : Option (Bytes × Text)) {id : Text} {tag : ℕ} → slotted o ≡ Some (id, tag) → Kept o id tag
kept_is None e = let nope : ◌≡◌ {A = ℕ} 0 1 = cc in absurd (omega arith)
kept_is (Some p) e = let h = filled_one e in record { key = p.0; is = ap (λ (t : Text). Some (p.0, t)) h.0; tagged = h.1 }

text_inside : (l : Bytes) (a : Option Field) (b : Option (Bytes × Text)) → Both l a b → {k : Bytes} {id : Text} → b ≡ Some (k, id) → (id.start ≤ id.end) × (id.end ≤ length l)
text_inside l None None u e = let nope : ◌≡◌ {A = ℕ} 0 1 = cc in absurd (omega arith)
text_inside l None (Some p) u e = absurd u
text_inside l (Some f) None u e = absurd u
text_inside l (Some f) (Some p) u {k} {id} e =
    let t : p.1 ≡ id = ap (λ (x : Bytes × Text). x.1) (some_is e) in
    subst (λ (x : Text). (x.start ≤ x.end) × (x.end ≤ length l)) t (u.ordered, u.inside)

module _ (v : Version) (l k : Bytes) (fs : List Field) (line : l ≡ write_record (fields k fs)) (id : Text) (tag : ℕ) (e : slotted (text_named v k (ascii "ID") (fields_start k) fs) ≡ Some (id, tag)) where
  id_both : Both l (field_named v k (ascii "ID") fs) (text_named v k (ascii "ID") (fields_start k) fs)
  id_both = named_text v k (ascii "ID") l (fields_start k) fs (subst (λ (x : Bytes). AnyAt x (fields_start k) fs) (sym line) (line_fields k fs))

  made_is : (lim : Limits) (start : ℕ) (m : MapRecord) → m.id ≡ id → m.tag ≡ tag → map_kind (kind_by m.key) ≡ map_kind (kind_of k) → m.value - 3 ≡ length k → m.tally.fields ≡ length fs
      → made_of lim start l m ≡ record_entry lim.counted v start l (fields k fs)
  unfolding record_entry line_entry counts_of
  made_is lim start m ei et ek ev ef =
      let x = kept_is (text_named v k (ascii "ID") (fields_start k) fs) e in
      let i = text_inside l (field_named v k (ascii "ID") fs) (text_named v k (ascii "ID") (fields_start k) fs) id_both x.is in
      let d = length-drop id.start l in
      let n : length (text_in l id) ≡ id.end - id.start = length-take (id.end - id.start) (drop id.start l) ∙ omega (arith, i.0, i.1) in
      rw (x.is, ei, et, ek, ev, ef, n, x.tagged)

-- A record

module _ (lim : Limits) (h : Bytes) (es : List Entry) (v : Version) (start : ℕ) (l : Bytes) where
  map_beside : (k : Bytes) (fs : List Field) → read_record v l ≡ ok (fields k fs)
      → beside_entries h es (prefix_of k) (body v) (record_entry lim.counted v start l (fields k fs)) ≡ record_beside lim h es v start l
  unfolding clash
  map_beside k fs e = rw e

  text_beside_lem : (k t : Bytes) → read_record v l ≡ ok (text k t)
      → beside_entries h es (prefix_of k) (body v) (record_entry lim.counted v start l (text k t)) ≡ record_beside lim h es v start l
  unfolding clash
  text_beside_lem k t e = rw e

module _ (lim : Limits) (v : Version) (start : ℕ) (l : Bytes) (x : Result LineRecord Refusal) (a : ParsesRecord v l x) where
  read_as : {y : Answer Record} → read_record v l ≡ y → (h : Bytes) (es : List Entry) → record_beside lim h es v start l ≡ (y >>= enter lim.counted v [] start l >>= held_against h es)
  read_as e h es = ap (λ (z : Answer Record). z >>= enter lim.counted v [] start l >>= held_against h es) e

  met_format : {w : FileFormat} → x ≡ Ok (read.FileFormat w) → MetSays lim v start l (Err UnexpectedFileFormat)
  met_format e = read_as (subst (RecordIs v l) e a.is)

  met_refused : {y : Refusal} → x ≡ Err y → MetSays lim v start l (Err y)
  met_refused e = read_as (subst (RecordIs v l) e a.is)

  met_map : {y : MapRecord} → x ≡ Ok (read.Map y) → {e : CodeEntry} → entry_of e ≡ made_of lim start l y → MetSays lim v start l (Ok (e, y.value))
  met_map {y} w {e} q =
      let m = subst (RecordIs v l) w a.is in
      let k = key_in l in
      let i : y.value ≡ 2 + length k + 1 = m.2 in
      let made = made_is v l k m.0 (on_ok (LineOf l) (record_in v l) m.3) y.id y.tag m.4 lim start y refl refl (ap map_kind (sym (m.1.kind ∙ kind_by_case y.key))) (omega (arith, i)) (ap (λ (t : Tally). t.fields) m.5) in
      rw q (record {
        prefix = ap (λ (n : ℕ). take n l) i ∙ prefix_map v l k m.0 m.3;
        kind = (number_small (kind_by y.key)).0;
        stands = refl;
        size = refl;
        beside = λ h es. ap (beside_entries h es (prefix_of k) (body v)) made ∙ map_beside lim h es v start l k m.0 m.3;
      })

  met_text : {at : ℕ} → x ≡ Ok (read.Text at) → {n key : ℕ} → n ≡ at - 3 → key ≡ if_counted lim.counted n
      → {e : CodeEntry} → entry_of e ≡ with_counts (record { key_length = key; field_count = 0 }) (plain_entry text_kind start (length l)) → MetSays lim v start l (Ok (e, at))
  unfolding record_entry line_entry counts_of
  met_text {at} w {n} {key} en ek {e} q =
      let m = subst (RecordIs v l) w a.is in
      let k = key_in l in
      let i : at ≡ 2 + length k + 1 = m.0 in
      let c : n ≡ length k = omega (arith, en, m.0) in
      let made : with_counts (record { key_length = key; field_count = 0 }) (plain_entry text_kind start (length l)) ≡ record_entry lim.counted v start l (text k (drop at l))
      = ap₂ (λ (k f : ℕ). with_counts (record { key_length = k; field_count = f }) (plain_entry text_kind start (length l))) (ek ∙ ap (if_counted lim.counted) c) (sym (none_counted lim.counted)) in
      rw q (record {
        prefix = ap (λ (n : ℕ). take n l) i ∙ prefix_text v l k (drop at l) m.1;
        kind = omega arith;
        stands = refl;
        size = refl;
        beside = λ h es. ap (beside_entries h es (prefix_of k) (body v)) made ∙ text_beside_lem lim h es v start l k (drop at l) m.1;
      })

-- whatever the version
module _ (lim : Limits) (start : ℕ) (l : Bytes) (x : Result LineRecord Refusal) where
  pub read_format_lem : {w : FileFormat} → x ≡ Ok (read.FileFormat w) → MeetsRead lim start l x (Err UnexpectedFileFormat)
  read_format_lem e = record { is = λ v a. met_format lim v start l x a e }

  pub read_refused : {y : Refusal} → x ≡ Err y → MeetsRead lim start l x (Err y)
  read_refused e = record { is = λ v a. met_refused lim v start l x a e }

  pub read_map_lem : {y : MapRecord} → x ≡ Ok (read.Map y) → {e : CodeEntry} → entry_of e ≡ made_of lim start l y → MeetsRead lim start l x (Ok (e, y.value))
  read_map_lem w q = record { is = λ v a. met_map lim v start l x a w q }

  pub read_text : {at : ℕ} → x ≡ Ok (read.Text at) → {n key : ℕ} → n ≡ at - 3 → key ≡ if_counted lim.counted n
      → {e : CodeEntry} → entry_of e ≡ with_counts (record { key_length = key; field_count = 0 }) (plain_entry text_kind start (length l)) → MeetsRead lim start l x (Ok (e, at))
  read_text w en ek q = record { is = λ v a. met_text lim v start l x a w en ek q }

-- what answers the need of `map_entry`
pub made_entry : (lim : Limits) (start : ℕ) (l : Bytes) (m : MapRecord) {name : Bytes} → name ≡ text_in l m.id → {kind : ℕ} → kind ≡ map_kind (kind_by m.key) → {at : ℕ} → at ≡ m.value - 3
    → {key : ℕ} → key ≡ if_counted lim.counted at → {count : ℕ} → count ≡ if_counted lim.counted m.tally.fields
    → ◌≡◌ {A = Entry} (record { kind = kind; start = start; length = length l; offset = m.id.start; id_length = length name; quoted = m.id.quoted; tag = m.tag; key_length = key; field_count = count })
    (made_of lim start l m)
made_entry lim start l m en ek ea ey ec = rw (en, ek, ey, ea, ec)

pub ruleset mets = (read_format_lem, read_refused, read_map_lem, read_text)

module _ (lim : Limits) (h : Bytes) (es : List Entry) (ms : Bytes) (start end : ℕ) {l : Bytes} (el : l ≡ part h start end) (v : Version) {y : Result LineRecord Refusal} (b : ParsesRecord v l y) (x : Result (CodeEntry × ℕ) Refusal) (a : MeetsRead lim start l y x) where
  -- the line is the one that the code read
  placed : (r : Result Verdict Refusal) {ms' : Bytes} → (MarkedBefore lim (body v) h start l ms es → Says lim h ms' (record_beside lim h es v start l) start (body v) l r) → MarksKept h ms ms' → RecordJudged lim h es ms v start end r ms'
  placed r {ms'} f m = record {
    marks = m;
    is = λ l' el' all.
        subst (λ (y : Bytes). Says lim h ms' (record_beside lim h es v start y) start (body v) y r) (el ∙ sym el')
        (f (subst (λ (y : Bytes). MarkedBefore lim (body v) h start y ms es) (el' ∙ sym el) all));
  }

  pub record_refused : {y : Refusal} → x ≡ Err y → RecordJudged lim h es ms v start end (Err y) ms
  record_refused {y} e = placed (Err y) (λ all. subst (MetSays lim v start l) e (a.is v b) h es) (marks_same h ms)

  pub record_new : {e : CodeEntry} {at : ℕ} → x ≡ Ok (e, at) → {prefix : Bytes} → prefix ≡ take (at - 0) (drop 0 l) → (r : Result Verdict Refusal) {ms' : Bytes}
      → IdJudged lim h es ms prefix (entry_of e) r ms' → RecordJudged lim h es ms v start end r ms'
  record_new {e} {at} w {prefix} p r {ms'} j = placed r (λ all.
      let n = subst (MetSays lim v start l) w (a.is v b) in
      let z : at - 0 ≡ at = omega arith in
      let q : prefix ≡ prefix_of (key_in l) = p ∙ ap (λ (i : ℕ). take i l) z ∙ n.prefix in
      let own = prefixed (at - 0) p q (line_here h (entry_of e) start end el n.stands n.size) in
      let named = all.named.is v refl (entry_of e) (sym (n.beside h []) ∙ alone h _ (body v) (entry_of e)) in
      subst (λ (y : Answer (Stage × List Entry)). Says lim h ms' y start (body v) l r) (ap (λ (y : Bytes). beside_entries h es y (body v) (entry_of e)) q ∙ n.beside h es) (j.is n.kind own all.notes named all.all start (body v) l))
      j.marks

pub ruleset records = (record_refused, record_new)

-- The column line

module _ (l : Bytes) (f : FileFormat) (x : Result (Bool × ℕ) ColumnsRefusal) (a : HeaderRead l x) where
  pub columns_good : {b : Bool} {n : ℕ} → x ≡ Ok (b, n) → ColumnsJudged l f (Ok (verdict.Columns f n))
  columns_good e = let c = columns_read l a e in record { is = (refl, (c.0, c.1, c.3)) }

  pub columns_wrong : x ≡ Err columns.WrongColumn → ColumnsJudged l f (Err InvalidHeader)
  columns_wrong e = record { is = column_wrong l a e }

  pub columns_twice : x ≡ Err columns.DuplicateSample → ColumnsJudged l f (Err DuplicateSampleName)
  columns_twice e = record { is = sample_twice l a e }

pub ruleset all_columns = (columns_good, columns_wrong, columns_twice)

-- A line, by its phase

module _ (lim : Limits) (imposed : Option Version) (h ms : Bytes) (es : List Entry) (start : ℕ) (l : Bytes) where
  first_says : (r : Result Verdict Refusal) → FirstSays imposed l r → Says lim h ms (text_beside lim imposed h es start opening l) start opening l r
  first_says (Ok (verdict.Begin f)) j = ap (λ (a : Answer (State × List Entry)). a >>= held_against h es) (j lim start)
  first_says (Ok (verdict.Entry e)) j = absurd j
  first_says (Ok (verdict.Columns f n)) j = absurd j
  first_says (Err x) j = ap (λ (a : Answer (State × List Entry)). a >>= held_against h es) (j lim start)

  -- what a column line gives
  abbrev columns_beside : Version → Answer (Stage × List Entry)
  columns_beside v = read_columns l >>= finish v [] start l >>= held_against h es

  columns_say : (f : FileFormat) (r : Result Verdict Refusal) → ColumnsSay l f r → Says lim h ms (columns_beside (version_of f)) start (body (version_of f)) l r
  columns_say f (Ok (verdict.Begin g)) j = absurd j
  columns_say f (Ok (verdict.Entry e)) j = absurd j
  columns_say f (Ok (verdict.Columns g n)) j =
      let c = j.1 in
      record {
        c = c.0;
        read = c.1;
        count = c.2;
        ends = ap (λ (a : Answer Columns). a >>= finish (version_of f) [] start l >>= held_against h es) c.1
            ∙ ap₂ (λ (x : FileFormat) (k : ℕ). ok (ending (version_of x) k, column_entries start l c.0)) (sym j.0) c.2;
      }
  columns_say f (Err x) j = ap (λ (a : Answer Columns). a >>= finish (version_of f) [] start l >>= held_against h es) j

module _ (lim : Limits) (h : Bytes) (es : List Entry) (ms : Bytes) (start end : ℕ) {l : Bytes} (el : l ≡ part h start end) (imposed : Option Version) (p : Phase) where
  -- the line is the one that the code read, and the phase is x
  here : {x : Phase} → p ≡ x → (r : Result Verdict Refusal) {ms' : Bytes} → (MarkedBefore lim (stage_of x) h start l ms es → Says lim h ms' (text_beside lim imposed h es start (stage_of x) l) start (stage_of x) l r)
      → MarksKept h ms ms' → TextJudged lim h es ms start end p imposed r ms'
  here {x} e r {ms'} f m = record {
    marks = m;
    is = λ l' el' all.
        let there = subst (λ (y : Phase). MarkedBefore lim (stage_of y) h start l ms es) e (subst (λ (y : Bytes). MarkedBefore lim (stage_of p) h start y ms es) (el' ∙ sym el) all) in
        subst (λ (y : Phase). Says lim h ms' (text_beside lim imposed h es start (stage_of y) l') start (stage_of y) l' r) (sym e)
        (subst (λ (y : Bytes). Says lim h ms' (text_beside lim imposed h es start (stage_of x) y) start (stage_of x) y r) (el ∙ sym el') (f there));
  }

  pub text_first : p ≡ phase.Empty → (r : Result Verdict Refusal) → FirstJudged imposed l r → TextJudged lim h es ms start end p imposed r ms
  text_first e r j = here e r (λ all. first_says lim imposed h ms es start l r j.is) (marks_same h ms)

  pub text_done : {f : FileFormat} {n : ℕ} → p ≡ phase.Done f n → TextJudged lim h es ms start end p imposed (Err ExpectedEof) ms
  unfolding step_text
  text_done e = here e (Err ExpectedEof) (λ all. refl) (marks_same h ms)

  module _ {f : FileFormat} (e : p ≡ phase.Ready f) {q : Bool} (a : q ≡ starts (ascii "#CHROM") l) where
    body_columns : q ≡ true → columns_beside lim imposed h ms es start l (version_of f) ≡ text_beside lim imposed h es start (body (version_of f)) l
    unfolding step_text
    body_columns b = rw (step_text, sym a ∙ b)

    body_record : q ≡ false → record_beside lim h es (version_of f) start l ≡ text_beside lim imposed h es start (body (version_of f)) l
    unfolding step_text
    body_record b = rw (step_text, sym a ∙ b)

    pub text_columns : q ≡ true → (r : Result Verdict Refusal) → ColumnsJudged l f r → TextJudged lim h es ms start end p imposed r ms
    text_columns b r j =
        here e r (λ all. subst (λ (y : Answer (Stage × List Entry)). Says lim h ms y start (body (version_of f)) l r) (body_columns b) (columns_say lim imposed h ms es start l f r j.is)) (marks_same h ms)

    pub text_record : q ≡ false → (r : Result Verdict Refusal) {ms' : Bytes} → RecordJudged lim h es ms (version_of f) start end r ms' → TextJudged lim h es ms start end p imposed r ms'
    text_record b r {ms'} j = here e r (λ all. subst (λ (y : Answer (Stage × List Entry)). Says lim h ms' y start (body (version_of f)) l r) (body_record b) (j.is l el all)) j.marks

pub ruleset texts = (text_first, text_done, text_columns, text_record)

phase_done : (p : Phase) → is_done (fresh_state (stage_of p)) ≡ is_done_phase p
phase_done phase.Empty = refl
phase_done (phase.Ready f) = refl
phase_done (phase.Done f n) = refl

-- what answers the needs of `is_utf8`
pub utf8_known : (l : Bytes) {plain : Bool} → plain ≡ true → Utf8Told plain l true
utf8_known l e = record { is = λ f. sym (f e) }

pub utf8_looked : (plain : Bool) (l : Bytes) {r : Bool} → r ≡ is_utf8 l → Utf8Told plain l r
utf8_looked plain l e = record { is = λ f. e }

pub ruleset utf8s = (utf8_known, utf8_looked)

module _ (lim : Limits) (h : Bytes) (es : List Entry) (ms : Bytes) (plain : Bool) (start end : ℕ) (imposed : Option Version) (p : Phase) {d : Bool} (a : d ≡ is_done_phase p) where
  abbrev Judged : Result Verdict Refusal → Bytes → Type 0
  Judged r ms' = LineJudged lim h es ms plain start end p imposed r ms'

  pub line_done : d ≡ true → Judged (Err ExpectedEof) ms
  unfolding step_on step
  line_done e = record { marks = marks_same h ms; is = λ l el all u. rw (step_on, step, phase_done p ∙ sym a ∙ e) }

  module _ (e : d ≡ false) {given : CodeLimits} (g : limits_of given ≡ lim) {l : Bytes} (el : l ≡ part h start end) where
    most : given.line ≡ lim.line
    most = ap (λ (x : Limits). x.line) g

    -- the line is the one that the code looked at
    of_line : (r : Result Verdict Refusal) {ms' : Bytes} → (MarkedBefore lim (stage_of p) h start l ms es → (plain ≡ true → is_utf8 l ≡ true) → Says lim h ms' (step_on lim imposed h es start (stage_of p) l) start (stage_of p) l r)
        → MarksKept h ms ms' → Judged r ms'
    of_line r {ms'} f m = record {
      marks = m;
      is = λ l' el' all u.
          subst (λ (y : Bytes). Says lim h ms' (step_on lim imposed h es start (stage_of p) y) start (stage_of p) y r) (el ∙ sym el')
          (f (subst (λ (y : Bytes). MarkedBefore lim (stage_of p) h start y ms es) (el' ∙ sym el) all) (λ i. subst (λ (y : Bytes). is_utf8 y ≡ true) (el' ∙ sym el) (u i)));
    }

    pub line_long : given.line < length l → Judged (Err LineTooLong) ms
    unfolding step_on step
    line_long n = of_line (Err LineTooLong) (λ all u. rw (step_on, step, phase_done p ∙ sym a ∙ e, lt-leb (length l) lim.line (rw (← most) n))) (marks_same h ms)

    module _ (n : length l ≤ given.line) {q : Bool} (b : Utf8Told plain l q) where
      pub line_bytes : not q ≡ true → Judged (Err InvalidUtf8) ms
      unfolding step_on step
      line_bytes f = of_line (Err InvalidUtf8) (λ all u.
          let z : is_utf8 l ≡ false = sym (b.is u) ∙ not_true q f in
          rw (step_on, step, phase_done p ∙ sym a ∙ e, le-leb (length l) lim.line (rw (← most) n), z)) (marks_same h ms)

      line_steps : is_utf8 l ≡ true → text_beside lim imposed h es start (stage_of p) l ≡ step_on lim imposed h es start (stage_of p) l
      unfolding step_on step
      line_steps z = rw (step_on, step, phase_done p ∙ sym a ∙ e, le-leb (length l) lim.line (rw (← most) n), z)

      pub line_text : not q ≡ false → (r : Result Verdict Refusal) {ms' : Bytes} → TextJudged lim h es ms start end p imposed r ms' → Judged r ms'
      line_text f r {ms'} j = of_line r (λ all u.
          subst (λ (y : Answer (Stage × List Entry)). Says lim h ms' y start (stage_of p) l r) (line_steps (sym (b.is u) ∙ not_false q f)) (j.is l el all)) j.marks

pub ruleset all_lines = (line_done, line_long, line_bytes, line_text)
