-- One line after the other, in the code: what is left of the lines, read from here, is what is left of those from the spot where reading
-- began. Assumes nothing.
use Prim.Native.Nat.{ℕ, suc, ◌+◌, ◌-◌, ◌^◌, ◌≤◌, ◌<◌}
use native.Mathlib.Omega.{arith}
use mathlib.Core.Path.{◌≡◌, refl, sym, ap, ap₂, subst, ◌∙◌}
use mathlib.Core.Bool.{Bool, true, false, not}
use mathlib.Core.List.{List, [], ◌∷◌, ◌++◌, append_assoc, append-nil}
use Rattle.std.specs.Prelude.{Option, None, Some, Result, Ok, Err}
use lib.Dec.{leb, ltb}
use lib.ListN.{length, take, drop, length-append, length-drop, drop_of_length-le}
use lib.Seq.{take_all, drop-drop, drop-append-add}
use borrow.Author.Tests.{le-leb, lt-leb, leb-true, ltb-true, ltb-false, lt-ltb, le-ltb}
use Rattle.values.specs.Bytes.{Bytes, part}
use Rattle.values.specs.Utf8.{is_ascii}
use Rattle.values.proofs.Ascii.{ascii_utf8, ascii_part}
use Rattle.values.proofs.Lists.{none_not}
use Rattle.values.proofs.Tests.{pass, fail, test, not_true, not_false}
use Rattle.rules.specs.Answer.{Answer, ok, refuse}
use Rattle.rules.specs.Sizes.{Limits}
use Rattle.rules.specs.Version.{Version}
use Rattle.rules.specs.Lines.{pieces, line_of}
use Rattle.rules.specs.Columns.{Columns}
use Rattle.rules.specs.Entry.{Entry, format_kind, columns_kind, sample_kind, plain_entry, if_counted, with_counts, samples_start, sample_entries, column_entries}
use Rattle.rules.specs.Reading.{empty, stop, reading}
use Rattle.rules.proofs.Alls.{all_append, all_map}
use Rattle.rules.proofs.Firsts.{on_ok, was, not_read, see}
use Rattle.rules.proofs.Stands.{Stands}
use Rattle.rules.proofs.Trace.{first_line}
use Rattle.records.specs.Refusals.{number}
use Rattle.records.specs.declared.file_format.FileFormat.{FileFormat}
use Rattle.records.specs.declared.refusal.Refusal.{Refusal}
use Rattle.records.specs.declared.refusal.Refusal.TheVariants.{TableFull, Empty, MissingHeader, HeaderTooLong}
use Rattle.entries.specs.declared.entry.Entry.{Entry as CodeEntry}
use Rattle.entries.specs.declared.form.Form.{Form}
use Rattle.entries.specs.declared.form.Form.TheVariants.{First, Second}
use Rattle.entries.specs.declared.limits.Limits.{Limits as CodeLimits}
use Rattle.entries.specs.Values.{entry_of, limits_of, limits_by}
use Rattle.entries.specs.Tables.{room, stored, put, first_entries, entries_in}
use Rattle.entries.proofs.Words.{Storable}
use Rattle.entries.proofs.Stored.{first_entries_lem, first_room, entries_count, stored_room, stored_length, stored_none, stored_more, entries_more, storable, put_fits}
use Rattle.lines.specs.Lines.{LineIs}
use Rattle.lines.specs.declared.line.Line.{Line}
use Rattle.lines.proofs.Lines.{pieces_past, pieces_there}
use Rattle.columns.specs.HeaderLines.{columns_put}
use Rattle.columns.proofs.Answers.{columns_room}
use Rattle.columns.proofs.Stores.{columns_put_lem}
use Rattle.ids.specs.Marks.{Marked, MarkedFor}
use Rattle.ids.proofs.Markings.{unmarked, unmarked_last, marked_for}
use Rattle.header.specs.Steps.{Stage, step_on, Point, Went, passed, go_on, start_point, Spot, Told, start_spot, fits, point_of, went_on, told_by, read_on, table_on}
use Rattle.header.specs.Verdicts.{stage_of, format_entry, Ended, Says, IsInBody, MarkedBefore, LineJudged}
use Rattle.header.specs.Ahead.{LinesNamed, AheadMarked}
use Rattle.header.proofs.Aheads.{body_kept, stage_named, ahead_none}
use Rattle.header.specs.Parsers.{answer_means, read_into, refused_as, ReadCall, spot_in, advance_means, ended_at, refused_at, closed_at, ReadsOn, Begins, BeginsMarked, Bounds, spot_after, table_after, partial_means, Stepped, KeepsLine, Parses}
use Rattle.header.specs.declared.phase.Phase.{Phase}
use Rattle.header.specs.declared.phase.Phase.TheVariants as phase
use Rattle.header.specs.declared.verdict.Verdict.{Verdict}
use Rattle.header.specs.declared.verdict.Verdict.TheVariants as verdict
use Rattle.header.specs.declared.parser.ReadAnswer.{ReadAnswer}
use Rattle.header.specs.declared.parser.Parser.{Parser}
use Rattle.header.proofs.Steps.{Fit, fit, fitting, took_stand, piece_some, go_past, go_refused, go_full, go_more, go_none, Further, goes_inside}
use Rattle.header.proofs.Whole.{Tells, whole}
use Rattle.rules.specs.Claims.{All}

-- What is kept of a line

-- where there is room for the entries, and where there is none
module _ (form : Form) (s : Spot) (next : ℕ) (t : List ℕ) (q : Stage × List Entry) where
  spot_more : leb (s.count + length q.1) (room form t) ≡ true
      → spot_after (room form t) s next (ok q) ≡ ok (record { stage = q.0; line = s.line + 1; at = next; count = s.count + length q.1 })
  spot_more e = rw (spot_after, e)

  spot_full : leb (s.count + length q.1) (room form t) ≡ false → spot_after (room form t) s next (ok q) ≡ refuse 24
  spot_full e = rw (spot_after, e)

  table_more : leb (s.count + length q.1) (room form t) ≡ true → table_after form t s.count (ok q) ≡ stored form t s.count q.1
  table_more e = rw (table_after, e)

  table_full : leb (s.count + length q.1) (room form t) ≡ false → table_after form t s.count (ok q) ≡ t
  table_full e = rw (table_after, e)

-- the entry x was put, if there was room for it
module _ (form : Form) (t : List ℕ) (n : ℕ) (x : Entry) {q : Bool} (a : q ≡ ltb n (room form t)) {t' : List ℕ} (b : t' ≡ put form t n x) where
  no_room : not q ≡ true → room form t ≤ n
  no_room d = ltb-false n (room form t) (sym a ∙ not_true q d)

  not_put : not q ≡ true → t' ≡ t
  unfolding put
  not_put d = b ∙ rw (le-ltb n (room form t) (no_room d), put)

  some_room : not q ≡ false → n < room form t
  some_room d = ltb-true n (room form t) (sym a ∙ not_false q d)

  was_put : not q ≡ false → t' ≡ stored form t n (x ∷ [])
  was_put d = b ∙ put_fits form t n x (some_room d)

-- no new line clashes with a column line or its samples
samples_marked : (h ms : Bytes) (at : ℕ) (xs : List Bytes) → All (Marked h ms) (sample_entries at xs)
unfolding sample_entries
samples_marked h ms at [] = tt
samples_marked h ms at (x ∷ xs) = (unmarked_last h ms (plain_entry sample_kind at (length x)) (omega arith), samples_marked h ms (at + length x + 1) xs)

columns_marked : (h ms : Bytes) (start : ℕ) (l : Bytes) (c : Columns) → All (Marked h ms) (column_entries start l c)
unfolding column_entries
columns_marked h ms start l c = (unmarked_last h ms (plain_entry columns_kind start (length l)) (omega arith), samples_marked h ms (start + samples_start) c.samples)

module _ (form : Form) (p : Parser) (h : Bytes) (end next : ℕ) (t : List ℕ) where
  abbrev l : Bytes
  l = part h p.at end

  abbrev Keeps : Result Verdict Refusal → Result Parser Refusal → List ℕ → Type 0
  Keeps v r t' = KeepsLine form p h end next v t r t'

  abbrev SaysHere : Bytes → Answer (Stage × List Entry) → Result Verdict Refusal → Type 0
  SaysHere ms a x = Says (limits_by form) h ms a p.at (stage_of p.phase) l x

  stays : (ms : Bytes) {a : Answer (Stage × List Entry)} (x : Refusal) → a ≡ refuse (number x) → Stepped form h ms p next a t (Err x) t
  stays ms x e = rw e (record { told = refl; table = refl; marked = tt })

  module _ (ms : Bytes) {a : Answer (Stage × List Entry)} {q : Stage × List Entry} (e : a ≡ ok q) (m : All (Marked h ms) q.1) {t' : List ℕ} where
    full : room form t < p.count + length q.1 → t' ≡ t → Stepped form h ms p next a t (Err TableFull) t'
    full f w = let b = lt-leb (p.count + length q.1) (room form t) f in rw e (record { told = sym (spot_full form (spot_in p) next t q b); table = w ∙ sym (table_full form (spot_in p) next t q b); marked = m })

    taken : p.count + length q.1 ≤ room form t → t' ≡ stored form t p.count q.1 → (x : Phase) → stage_of x ≡ q.0 → {n : ℕ} → n ≡ p.count + length q.1
        → Stepped form h ms p next a t (Ok (record { phase = x; line = p.line + 1; at = next; count = n })) t'
    taken f w x g c =
        let b = le-leb (p.count + length q.1) (room form t) f in
        rw e (record { told = rw (g, c) (sym (spot_more form (spot_in p) next t q b)); table = w ∙ sym (table_more form (spot_in p) next t q b); marked = m })

  pub keep_refused : (v : Result Verdict Refusal) {x : Refusal} → v ≡ Err x → Keeps v (Err x) t
  keep_refused v {x} e = record { is = λ ms a s. stays ms x (subst (SaysHere ms a) e s) }

  -- as the part of the code for this kind of line keeps it
  pub keep_by : (v : Result Verdict Refusal) {w : Result Verdict Refusal} → v ≡ w → {r : Result Parser Refusal} {t' : List ℕ} → Keeps w r t' → Keeps v r t'
  keep_by v e {r} {t'} k = rw e k

  module _ (f : FileFormat) {s : Bytes} (es : s ≡ l) {n : ℕ} (en : n ≡ if_counted (limits_by form).counted 10)
      {y : CodeEntry} (ey : entry_of y ≡ with_counts (record { key_length = n; field_count = 0 }) (plain_entry format_kind p.at (length s))) {q : Bool} (a : q ≡ ltb p.count (room form t))
      {t' : List ℕ} (b : t' ≡ put form t p.count (entry_of y)) where
    abbrev own : Entry
    own = format_entry (limits_by form) p.at (length l)

    own_is : entry_of y ≡ own
    own_is = ey ∙ ap₂ (λ (k : ℕ) (x : Bytes). with_counts (record { key_length = k; field_count = 0 }) (plain_entry format_kind p.at (length x))) en es

    pub begin_full : not q ≡ true → Keeps (Ok (verdict.Begin f)) (Err TableFull) t'
    begin_full d = record {
      is = λ ms z s. full ms s (unmarked h ms own (omega arith), tt) (omega (arith, no_room form t p.count (entry_of y) a b d)) (not_put form t p.count (entry_of y) a b d);
    }

    pub begin_kept : not q ≡ false → Keeps (Ok (verdict.Begin f)) (Ok (record { phase = phase.Ready f; line = p.line + 1; at = next; count = p.count + 1 })) t'
    begin_kept d = record {
      is = λ ms z s. taken ms s (unmarked h ms own (omega arith), tt) (omega (arith, some_room form t p.count (entry_of y) a b d))
          (was_put form t p.count (entry_of y) a b d ∙ ap (λ (x : Entry). stored form t p.count (x ∷ [])) own_is) (phase.Ready f) refl refl;
    }

  module _ (v : Result Verdict Refusal) {y : CodeEntry} (e : v ≡ Ok (verdict.Entry y)) {q : Bool} (a : q ≡ ltb p.count (room form t)) {t' : List ℕ} (b : t' ≡ put form t p.count (entry_of y)) where
    pub entry_full : not q ≡ true → Keeps v (Err TableFull) t'
    entry_full d = record {
      is = λ ms z s. let w = subst (SaysHere ms z) e s in
          full ms w.0 (w.1, tt) (omega (arith, no_room form t p.count (entry_of y) a b d)) (not_put form t p.count (entry_of y) a b d);
    }

    pub entry_kept : not q ≡ false → Keeps v (Ok (record { phase = p.phase; line = p.line + 1; at = next; count = p.count + 1 })) t'
    entry_kept d = record {
      is = λ ms z s. let w = subst (SaysHere ms z) e s in
          taken ms w.0 (w.1, tt) (omega (arith, some_room form t p.count (entry_of y) a b d)) (was_put form t p.count (entry_of y) a b d) p.phase refl refl;
    }

  module _ (f : FileFormat) (n : ℕ) {m : ℕ} (a : m ≡ room form t) where
    entries_of : {z : Answer (Stage × List Entry)} (g : Ended z p.at l f n) → length (column_entries p.at l g.c) ≡ 1 + n
    entries_of g = columns_room p.at l g.c ∙ ap (1 +◌) g.count

    pub columns_full : m - p.count ≤ n → p.count ≤ room form t → Keeps (Ok (verdict.Columns f n)) (Err TableFull) t
    columns_full d bound = record {
      is = λ ms z g.
          full ms g.ends (columns_marked h ms p.at l g.c) (omega (arith, entries_of g)) refl;
    }

    pub columns_kept : n < m - p.count → {t' : List ℕ} → t' ≡ columns_put form l p.at p.count t
        → Keeps (Ok (verdict.Columns f n)) (Ok (record { phase = phase.Done f n; line = p.line + 1; at = next; count = p.count + 1 + n })) t'
    columns_kept d c = record {
      is = λ ms z g. let j = entries_of g in
          taken ms g.ends (columns_marked h ms p.at l g.c) (omega (arith, j)) (c ∙ columns_put_lem form l p.at g.c g.read p.count t (omega (arith, j)))
          (phase.Done f n) refl (omega (arith, j));
    }

pub ruleset begins = (begin_full, begin_kept)

pub ruleset columns = (columns_full, columns_kept)

pub ruleset keeps = (keep_refused, keep_by, entry_full, entry_kept)

-- One line: found, judged, kept

module _ (form : Form) (imposed : Option Version) (plain : Bool) (p : Parser) (h ms t : List ℕ) {line : Line} (a : LineIs h p.at line) {kept : List ℕ} (ek : kept ≡ first_entries form t p.count)
    {v : Result Verdict Refusal} {ms' : Bytes} (d : LineJudged (limits_by form) h (entries_in form kept) ms plain p.at line.end p.phase imposed v ms') (r : Result Parser Refusal) (t' : List ℕ) (e : KeepsLine form p h line.end line.next v t r t') where
  pub line_parsed : Parses form imposed plain p h ms t r ms' t'
  line_parsed = record {
    marks = d.marks;
    is = λ piece ps f all u.
        let q = a.first piece ps f in
        let es = entries_in form (first_entries form t p.count) in
        let here = part h p.at line.end in
        let j = subst (λ (x : List ℕ). LineJudged (limits_by form) h (entries_in form x) ms plain p.at line.end p.phase imposed v ms') ek d in
        let before = subst (λ (y : Bytes). MarkedBefore (limits_by form) (stage_of p.phase) h p.at y ms es) (sym q.here) all in
        let s = j.is here refl before (λ i. ascii_utf8 here (ascii_part (line.end - p.at) 0 (drop p.at h) (u i))) in
        let k = e.is ms' (step_on (limits_by form) imposed h es p.at (stage_of p.phase) here) s in
        subst (λ (n : ℕ). Stepped form h ms' p n (step_on (limits_by form) imposed h es p.at (stage_of p.phase) (line_of piece)) t r t') q.stepped
        (subst (λ (y : Bytes). Stepped form h ms' p line.next (step_on (limits_by form) imposed h es p.at (stage_of p.phase) y) t r t') q.here k);
  }

-- The end

module _ (p : Parser) where
  pub finish_empty : p.phase ≡ phase.Empty → answer_means (record { outcome = Err Empty; line = 0; start = 0; entries = p.count }) ≡ ended_at (spot_in p)
  finish_empty e = rw e

  pub finish_ready : {f : FileFormat} → p.phase ≡ phase.Ready f → answer_means (record { outcome = Err MissingHeader; line = p.line; start = p.at; entries = p.count }) ≡ ended_at (spot_in p)
  finish_ready e = rw e

  pub finish_done : {f : FileFormat} {n : ℕ} → p.phase ≡ phase.Done f n → answer_means (record { outcome = Ok (f, n); line = p.line; start = p.at; entries = p.count }) ≡ ended_at (spot_in p)
  finish_done e = rw e

pub ruleset finishes = (finish_empty, finish_ready, finish_done)

-- What fits

module _ (form : Form) (size : ℕ) (t : List ℕ) (p : Parser) {given : CodeLimits} (g : limits_of given ≡ limits_by form) where
  most : given.header ≡ (limits_by form).header
  most = ap (λ (x : Limits). x.header) g

  pub fit_long : given.header < size → false ≡ fits form size t (spot_in p)
  unfolding fits
  fit_long e = rw (lt-leb size (limits_by form).header (rw (← most) e))

  module _ (e : size ≤ given.header) {n : ℕ} (en : n ≡ room form t) where
    long : leb size (limits_by form).header ≡ true
    long = le-leb size (limits_by form).header (rw (← most) e)

    pub fit_full : n < p.count → false ≡ fits form size t (spot_in p)
    unfolding fits
    fit_full f = rw (long, lt-leb p.count (room form t) (rw (← en) f))

    pub fit_past : p.count ≤ n → size < p.at → false ≡ fits form size t (spot_in p)
    unfolding fits
    fit_past f i = rw (long, le-leb p.count (room form t) (rw (← en) f), lt-leb p.at size i)

    pub fit_all : p.count ≤ n → p.at ≤ size → leb p.line p.at ≡ fits form size t (spot_in p)
    unfolding fits
    fit_all f i = rw (long, le-leb p.count (room form t) (rw (← en) f), le-leb p.at size i)

pub ruleset fit_laws = (fit_long, fit_full, fit_past, fit_all)

-- The lines, one after the other

-- the entries of a spot are as many as it counts
pub spot_count : (form : Form) (t : List ℕ) (n : ℕ) → n ≤ room form t → length (entries_in form (first_entries form t n)) ≡ n
spot_count form t n l = entries_count form (first_entries form t n) ∙ first_room form t n l

ascii_rest : (h : Bytes) (at n : ℕ) → is_ascii (drop at h) ≡ true → is_ascii (drop (at + n) h) ≡ true
ascii_rest h at n e =
    let d : drop n (drop at h) ≡ drop (at + n) h = drop-drop n at h in
    let all : take (length (drop (at + n) h)) (drop (at + n) h) ≡ drop (at + n) h = take_all (length (drop (at + n) h)) (drop (at + n) h) (omega arith) in
    subst (λ (x : Bytes). is_ascii x ≡ true) all (subst (λ (x : Bytes). is_ascii (take (length (drop (at + n) h)) x) ≡ true) d (ascii_part (length (drop (at + n) h)) n (drop at h) e))

ok_is : {A : Type 0} {x y : A} → ok x ≡ ok y → x ≡ y
ok_is {A} {x} e = ap pick e
  where
    pick : Answer A → A
    pick (ok z) = z
    pick (refuse n) = x

refuse_is : {A : Type 0} {m n : ℕ} → ◌≡◌ {A = Answer A} (refuse m) (refuse n) → m ≡ n
refuse_is {A} {m} e = ap pick e
  where
    pick : Answer A → ℕ
    pick (ok z) = m
    pick (refuse k) = k

refuse_not : {A B : Type 0} {n : ℕ} {x : A} → refuse n ≡ ok x → B
refuse_not e = let z : ◌≡◌ {A = ℕ} 0 1 = cc in absurd (omega arith)

pub drop_front : {A : Type 0} (xs ys : List A) (n : ℕ) → length xs ≡ n → drop n (xs ++ ys) ≡ ys
drop_front xs ys n e = let z : n ≡ length xs + 0 = omega (arith, e) in rw z (drop-append-add xs ys 0)

module _ (form : Form) (imposed : Option Version) (plain : Bool) (h : Bytes) (end : ℕ) (t₀ : List ℕ) (s₀ : Spot) where
  -- the lines before the parser are read
  pub record Going (ms₀ ms t : List ℕ) (p : Parser) : Type 0 where
    pub new : List Entry
    pub stored_are : t ≡ stored form t₀ s₀.count new
    pub entries_are : (point_of form t (spot_in p)).entries ≡ (point_of form t₀ s₀).entries ++ new
    pub counted : p.count ≡ s₀.count + length new
    pub began : Fit form (length h) t₀ s₀
    pub fit_here : Fit form (length h) t (spot_in p)
    pub marked : AheadMarked (limits_by form) (stage_of p.phase) h p.at ms (point_of form t (spot_in p)).entries
    pub ascii : plain ≡ true → is_ascii (drop p.at h) ≡ true
    pub long : length ms ≡ length ms₀
    pub rest : went_on form imposed h end t₀ s₀ ≡ go_on (limits_by form) imposed (room form t₀) h end (point_of form t (spot_in p)) (pieces (drop p.at h))

  pub going_start : (ms : Bytes) {p : Parser} → s₀ ≡ spot_in p → BeginsMarked form plain h ms t₀ s₀ → Going ms ms t₀ p
  going_start ms {p} e b =
      let f = fit form (length h) t₀ s₀ b.begins.fit in
      record {
        new = [];
        stored_are = sym (stored_none form t₀ s₀.count);
        entries_are = rw e (sym (append-nil (point_of form t₀ (spot_in p)).entries));
        counted = rw e (omega arith);
        began = f;
        fit_here = rw e at f;
        marked = rw e at b.marked;
        ascii = rw e at b.begins.ascii;
        long = refl;
        rest = rw e;
      }

  module _ {ms₀ ms t : List ℕ} {p : Parser} (g : Going ms₀ ms t p) where
    abbrev here : Point
    here = point_of form t (spot_in p)

    same_room : room form t ≡ room form t₀
    same_room = ap (room form) g.stored_are ∙ stored_room form t₀ s₀.count g.new

    pub kept_length : length t ≡ length t₀
    kept_length = ap length g.stored_are ∙ stored_length form t₀ s₀.count g.new

    pub marks_length : length ms ≡ length ms₀
    marks_length = g.long

    pub kept_bounds : p.at < length h → Bounds form h t p
    kept_bounds m = let f = g.fit_here in record { count = f.count; line = omega (arith, f.line) }

    here_count : length here.entries ≡ p.count
    here_count = spot_count form t p.count g.fit_here.count

    -- where reading ends: the point is here
    ended : (n : Option ℕ) → went_on form imposed h end t₀ s₀ ≡ record { stop = n; point = here } → {r : Result Parser (Parser × Refusal)} → advance_means r ≡ record { stop = n; spot = spot_in p } → ReadsOn form imposed h end t₀ s₀ r t
    unfolding read_on table_on
    ended n w m =
        let f = fitting form (length h) t₀ s₀ g.began in
        let c = spot_count form t₀ s₀.count g.began.count in
        record {
          told = m ∙ rw (read_on, f, w, here_count);
          table = rw (table_on, f, w) (g.stored_are ∙ ap (stored form t₀ s₀.count) (sym (ap (drop s₀.count) g.entries_are ∙ drop_front (point_of form t₀ s₀).entries g.new s₀.count c)));
        }

    pub going_past : length h ≤ p.at → ReadsOn form imposed h end t₀ s₀ (Ok p) t
    going_past e =
        ended None (g.rest ∙ ap (go_on (limits_by form) imposed (room form t₀) h end here) (pieces_past h p.at e) ∙ go_none (limits_by form) imposed (room form t₀) h end here) refl

    pub going_end : end ≤ p.at → ReadsOn form imposed h end t₀ s₀ (Ok p) t
    going_end e = ended None (g.rest ∙ go_past (limits_by form) imposed (room form t₀) h end here (pieces (drop p.at h)) e) refl

    -- a line at hand
    module _ (m : p.at < end) (i : p.at < length h) (r : Result Parser Refusal) (ms' t' : List ℕ) (f : Parses form imposed plain p h ms t r ms' t') where
      abbrev piece : Bytes
      piece = (pieces_there h p.at i).piece

      abbrev after : List Bytes
      after = (pieces_there h p.at i).rest

      there : pieces (drop p.at h) ≡ piece ∷ after
      there = (pieces_there h p.at i).is

      abbrev answer : Answer (Stage × List Entry)
      answer = step_on (limits_by form) imposed h here.entries p.at (stage_of p.phase) (line_of piece)

      named : LinesNamed (limits_by form) (stage_of p.phase) h g.marked.notes p.at (piece ∷ after)
      named = subst (LinesNamed (limits_by form) (stage_of p.phase) h g.marked.notes p.at) there g.marked.named

      step : Stepped form h ms' p (p.at + length piece) answer t r t'
      step = f.is piece after there (record { notes = g.marked.notes; named = named.0; all = g.marked.all }) g.ascii

      unrolled : went_on form imposed h end t₀ s₀ ≡ go_on (limits_by form) imposed (room form t₀) h end here (piece ∷ after)
      unrolled = g.rest ∙ ap (go_on (limits_by form) imposed (room form t₀) h end here) there

      before : ltb p.at end ≡ true
      before = lt-ltb p.at end m

      told_as_lem : {x : Result Parser Refusal} → r ≡ x → {a : Answer (Stage × List Entry)} → answer ≡ a → partial_means x ≡ spot_after (room form t) (spot_in p) (p.at + length piece) a
      told_as_lem e w = ap partial_means (sym e) ∙ step.told ∙ ap (spot_after (room form t) (spot_in p) (p.at + length piece)) w

      table_as : {a : Answer (Stage × List Entry)} → answer ≡ a → t' ≡ table_after form t p.count a
      table_as w = step.table ∙ ap (table_after form t p.count) w

      room_here : (x : Stage × List Entry) {b : Bool} → leb (p.count + length x.1) (room form t) ≡ b → leb (length here.entries + length x.1) (room form t₀) ≡ b
      room_here x e = rw (here_count, ← same_room) e

      -- refused
      stopped : {x : Refusal} → r ≡ Err x → (went_on form imposed h end t₀ s₀ ≡ record { stop = Some (number x); point = here }) × (t' ≡ t)
      stopped {x} e = elim (see answer) [
        | not_read n a ↦
            let c : number x ≡ n = refuse_is (told_as_lem e a) in
            (unrolled ∙ go_refused (limits_by form) imposed (room form t₀) h end here piece after before a ∙ rw c, table_as a)
        | was y a ↦ elim (test (leb (p.count + length y.1) (room form t))) [
          | pass b ↦ refuse_not (told_as_lem e a ∙ spot_more form (spot_in p) (p.at + length piece) t y b)
          | fail b ↦
              let c : number x ≡ 24 = refuse_is (told_as_lem e a ∙ spot_full form (spot_in p) (p.at + length piece) t y b) in
              (unrolled ∙ go_full (limits_by form) imposed (room form t₀) h end here piece after before a (room_here y b) ∙ rw c, table_as a ∙ table_full form (spot_in p) (p.at + length piece) t y b)
        ]
      ]

      pub going_stop : {x : Refusal} → r ≡ Err x → ReadsOn form imposed h end t₀ s₀ (Err (p, x)) t'
      going_stop {x} e = let s = stopped e in subst (ReadsOn form imposed h end t₀ s₀ (Err (p, x))) (sym s.1) (ended (Some (number x)) s.0 refl)

      pub stop_length : {x : Refusal} → r ≡ Err x → length t' ≡ length t₀
      stop_length e = ap length (stopped e).1 ∙ kept_length

      -- kept
      pub record Kept (q : Parser) : Type 0 where
        pub x : Stage × List Entry
        pub taken : answer ≡ ok x
        pub roomy : leb (p.count + length x.1) (room form t) ≡ true
        pub spot : spot_in q ≡ record { stage = x.0; line = p.line + 1; at = p.at + length piece; count = p.count + length x.1 }
        pub table : t' ≡ stored form t p.count x.1

      kept : {q : Parser} → r ≡ Ok q → Kept q
      kept {q} e = elim (see answer) [
        | not_read n a ↦ refuse_not (sym (told_as_lem e a))
        | was y a ↦ elim (test (leb (p.count + length y.1) (room form t))) [
          | pass b ↦ record {
            x = y;
            taken = a;
            roomy = b;
            spot = ok_is (told_as_lem e a ∙ spot_more form (spot_in p) (p.at + length piece) t y b);
            table = table_as a ∙ table_more form (spot_in p) (p.at + length piece) t y b;
          }
          | fail b ↦ refuse_not (sym (told_as_lem e a ∙ spot_full form (spot_in p) (p.at + length piece) t y b))
        ]
      ]

      module _ {q : Parser} (e : r ≡ Ok q) where
        abbrev k : Kept q
        k = kept e

        moved : q.at ≡ p.at + length piece
        moved = ap (λ (s : Spot). s.at) k.spot

        stand : All (Storable form) k.x.1
        stand = all_map (Stands (limits_by form) (length h)) (Storable form) k.x.1 (storable form g.fit_here.header)
            (took_stand (limits_by form) imposed h here.entries p.at (stage_of p.phase) piece after g.fit_here.at there k.taken)

        same_room' : room form t' ≡ room form t
        same_room' = ap (room form) k.table ∙ stored_room form t p.count k.x.1

        -- the point after the line, as the table has it
        next_point : point_of form t' (spot_in q) ≡ passed here piece k.x
        next_point =
            let i : p.line + 1 ≡ suc p.line = omega arith in
            let c : q.count ≡ p.count + length k.x.1 = ap (λ (s : Spot). s.count) k.spot in
            let es : entries_in form (first_entries form t' q.count) ≡ here.entries ++ k.x.1
            = ap (λ (x : List ℕ). entries_in form (first_entries form x q.count)) k.table ∙ entries_more form t p.count k.x.1 c (rw c (leb-true _ (room form t) k.roomy)) stand in
            ap₂ (λ (s : Spot) (fs : List Entry). record { stage = s.stage; line = s.line; at = s.at; entries = fs }) k.spot es ∙ rw i

        -- records are read by the same version
        in_body : (v : Version) → IsInBody (stage_of q.phase) v → IsInBody (stage_of p.phase) v
        in_body v i = body_kept (limits_by form) imposed h here.entries p.at (stage_of p.phase) (line_of piece) k.taken v (subst (λ (y : Spot). IsInBody y.stage v) k.spot i)

        pub going_next : length ms' ≡ length ms → Going ms₀ ms' t' q
        going_next n =
            let line = first_line h p.at piece after g.fit_here.at there in
            let Some = piece_some (drop p.at h) piece after there in
            let c : q.count ≡ p.count + length k.x.1 = ap (λ (s : Spot). s.count) k.spot in
            let ln : q.line ≡ p.line + 1 = ap (λ (s : Spot). s.line) k.spot in
            let es : (point_of form t' (spot_in q)).entries ≡ here.entries ++ k.x.1 = ap (λ (y : Point). y.entries) next_point in
            record {
              new = g.new ++ k.x.1;
              stored_are = k.table ∙ ap (λ (x : List ℕ). stored form x p.count k.x.1) g.stored_are ∙ stored_more form t₀ s₀.count g.new k.x.1 g.counted;
              entries_are = es ∙ ap (◌++ k.x.1) g.entries_are ∙ append_assoc (point_of form t₀ s₀).entries g.new k.x.1;
              counted = rw (length-append g.new k.x.1) (omega (arith, c, g.counted));
              began = g.began;
              fit_here = record {
                header = g.fit_here.header;
                count = rw (same_room', c) (leb-true _ (room form t) k.roomy);
                at = rw moved line.next;
                line = omega (arith, ln, moved, Some, g.fit_here.line);
              };
              marked = record {
                notes = g.marked.notes;
                named = rw (moved, line.left) (stage_named (limits_by form) h g.marked.notes (stage_of p.phase) (stage_of q.phase) in_body (p.at + length piece) after named.1);
                all = rw es
                    (all_append (MarkedFor h g.marked.notes ms') here.entries k.x.1 (f.marks.all g.marked.notes here.entries g.marked.all)
                    (all_map (Marked h ms') (MarkedFor h g.marked.notes ms') k.x.1 (λ (y : Entry) m. marked_for h g.marked.notes ms' y m)
                    (on_ok (λ (y : Stage × List Entry). All (Marked h ms') y.1) step.marked k.taken)));
              };
              ascii = λ j. rw moved (ascii_rest h p.at (length piece) (g.ascii j));
              long = n ∙ g.long;
              rest = unrolled ∙ go_more (limits_by form) imposed (room form t₀) h end here piece after before k.taken (room_here k.x k.roomy)
                  ∙ ap₂ (go_on (limits_by form) imposed (room form t₀) h end) (sym next_point) (sym (rw moved line.left));
            }

        pub going_less : length h - q.at < length h - p.at
        going_less =
            let line = first_line h p.at piece after g.fit_here.at there in
            let Some = piece_some (drop p.at h) piece after there in
            omega (arith, moved, Some, line.next)

pub ruleset goings = (going_start, kept_length, marks_length, kept_bounds, going_past, going_end, going_stop, stop_length, going_next, going_less)

-- From a spot on

module _ (form : Form) (plain : Bool) (h t : List ℕ) (s : Spot) (b : Begins form plain h t s) where
  -- what lines from there on may clash with is marked
  pub begin_marked : {kept : List ℕ} → kept ≡ first_entries form t s.count → {ms : Bytes} → AheadMarked (limits_by form) s.stage h s.at ms (entries_in form kept) → BeginsMarked form plain h ms t s
  begin_marked e f = record { begins = b; marked = rw e at f }

  -- or there are no marks
  pub begin_unmarked : {ms : Bytes} → length ms ≡ 0 → BeginsMarked form plain h ms t s
  begin_unmarked {ms} e = record { begins = b; marked = ahead_none (limits_by form) s.stage h s.at ms (point_of form t s).entries e }

  pub begin_inside : s.at ≤ length h
  begin_inside = (fit form (length h) t s b.fit).at

module _ (form : Form) (h : Bytes) (t : List ℕ) (p : Parser) where
  module _ {q : Bool} (a : q ≡ fits form (length h) t (spot_in p)) where
    pub on_unfit : (imposed : Option Version) (end : ℕ) → not q ≡ true → ReadsOn form imposed h end t (spot_in p) (Ok p) t
    unfolding read_on table_on
    on_unfit imposed end e = let f : fits form (length h) t (spot_in p) ≡ false = sym a ∙ not_true q e in record { told = rw (read_on, f); table = rw (table_on, f) }

    pub on_fit : not q ≡ false → fits form (length h) t (spot_in p) ≡ true
    on_fit e = sym a ∙ not_false q e

  module _ (f : fits form (length h) t (spot_in p) ≡ true) where
    pub on_inside : p.at ≤ length h
    on_inside = (fit form (length h) t (spot_in p) f).at

    pub on_begins : {plain : Bool} → plain ≡ is_ascii (take (length h - p.at) (drop p.at h)) → Begins form plain h t (spot_in p)
    on_begins {plain} e = record {
      fit = f;
      ascii = λ i. subst (λ (x : Bytes). is_ascii x ≡ true) (take_all (length h - p.at) (drop p.at h) (rw (length-drop p.at h) (omega arith))) (sym e ∙ i);
    }

-- the table keeps its length
pub table_length : (form : Form) (imposed : Option Version) (h : Bytes) (end : ℕ) (t : List ℕ) (s : Spot) → length (table_on form imposed h end t s) ≡ length t
unfolding table_on
table_length form imposed h end t s = elim (test (fits form (length h) t s)) [
  | pass f ↦ rw (table_on, f) (stored_length form t s.count (drop s.count (went_on form imposed h end t s).point.entries))
  | fail f ↦ rw (table_on, f)
]

pub on_length : {form : Form} {imposed : Option Version} {h : Bytes} {end : ℕ} {t : List ℕ} {s : Spot} {r : Result Parser (Parser × Refusal)} {t' : List ℕ} → ReadsOn form imposed h end t s r t' → length t' ≡ length t
on_length {form} {imposed} {h} {end} {t} {s} c = ap length c.table ∙ table_length form imposed h end t s

-- nothing begins before an end that is not after the spot
pub on_out : (form : Form) (imposed : Option Version) (h : Bytes) (end : ℕ) (t : List ℕ) (p : Parser) → end ≤ p.at → ReadsOn form imposed h end t (spot_in p) (Ok p) t
unfolding read_on table_on
on_out form imposed h end t p l = elim (test (fits form (length h) t (spot_in p))) [
  | fail f ↦ record { told = rw (read_on, f); table = rw (table_on, f) }
  | pass f ↦
      let here = point_of form t (spot_in p) in
      let n = spot_count form t p.count (fit form (length h) t (spot_in p) f).count in
      let w : went_on form imposed h end t (spot_in p) ≡ record { stop = None; point = here } = go_past (limits_by form) imposed (room form t) h end here (pieces (drop p.at h)) l in
      let none-new : drop p.count here.entries ≡ [] = drop_of_length-le here.entries {i = p.count} (rw n (omega arith)) in
      record { told = rw (read_on, f, w, n); table = rw (table_on, f, w, none-new) (sym (stored_none form t p.count)) }
]

pub header_small : (form : Form) → (limits_by form).header ≤ 16777215
header_small First = omega arith
header_small Second = omega arith

-- where the lines from a spot on end: in the header, and with no more lines than bytes
pub went_inside : (form : Form) (imposed : Option Version) (h : Bytes) (end : ℕ) (t : List ℕ) (s : Spot) → Fit form (length h) t s
    → Further (limits_by form) (room form t) h (point_of form t s) (went_on form imposed h end t s)
went_inside form imposed h end t s f =
    goes_inside (limits_by form) imposed (room form t) h end (point_of form t s) (pieces (drop s.at h)) (record { at = f.at; line = f.line; roomy = rw (spot_count form t s.count f.count) f.count }) refl

-- so a line that was refused has a number
pub on_lines : {form : Form} {imposed : Option Version} {h : Bytes} {end : ℕ} {t : List ℕ} {s : Spot} {r : Result Parser (Parser × Refusal)} {t' : List ℕ} → ReadsOn form imposed h end t s r t'
    → {p : Parser} {x : Refusal} → r ≡ Err (p, x) → p.line + 1 < 2 ^ 64
unfolding read_on
on_lines {form} {imposed} {h} {end} {t} {s} {r} c {p} {x} i = elim (test (fits form (length h) t s)) [
  | pass e ↦
      let f = fit form (length h) t s e in
      let g = went_inside form imposed h end t s f in
      let q : read_on form imposed h end t s ≡ told_by (went_on form imposed h end t s) = rw (read_on, e) in
      let l : p.line ≡ (went_on form imposed h end t s).point.line = ap (λ (y : Told). y.spot.line) (sym (ap advance_means i) ∙ c.told ∙ q) in
      omega (arith, l, g.inside.line, g.inside.at, f.header, header_small form)
  | fail e ↦
      let q : read_on form imposed h end t s ≡ record { stop = None; spot = s } = rw (read_on, e) in
      none_not (sym (ap (λ (y : Told). y.stop) (sym (ap advance_means i) ∙ c.told ∙ q)))
]

pub ruleset ons = (begin_marked, begin_unmarked, begin_inside, on_out, on_unfit, on_fit, on_inside, on_begins, on_length)

-- A whole header

module _ (form : Form) (imposed : Option Version) (h t₀ : List ℕ) {given : CodeLimits} (g : limits_of given ≡ limits_by form) where
  given_header : given.header ≡ (limits_by form).header
  given_header = ap (λ (x : Limits). x.header) g

  too_long : (limits_by form).header < length h → read_into form imposed t₀ h ≡ stop 27 0 0 empty
  unfolding reading
  too_long e = rw (reading, lt-leb (length h) (limits_by form).header e)

  pub read_long : given.header < length h → {r : ReadAnswer} → r ≡ refused_as HeaderTooLong 0 0 0 → ReadCall form imposed h t₀ r t₀
  read_long e f = let z = too_long (rw (← given_header) e) in record { answer = rw (f, z); table = rw z (sym (stored_none form t₀ 0)) }

  module _ (e : length h ≤ given.header) {s₀ : Spot} (start : s₀ ≡ start_spot) {r : Result Parser (Parser × Refusal)} {t : List ℕ} (c : ReadsOn form imposed h (length h) t₀ s₀ r t) where
    abbrev went : Went
    went = go_on (limits_by form) imposed (room form t₀) h (length h) start_point (pieces h)

    small : length h ≤ (limits_by form).header
    small = rw (← given_header) e

    start_fits : fits form (length h) t₀ s₀ ≡ true
    start_fits = rw start (fitting form (length h) t₀ start_spot (record { header = small; count = omega arith; at = omega arith; line = omega arith }))

    -- the point from which it is read
    from_start : went_on form imposed h (length h) t₀ s₀ ≡ went
    from_start = rw start (ap (λ (es : List Entry). go_on (limits_by form) imposed (room form t₀) h (length h) (record { stage = start_spot.stage; line = 0; at = 0; entries = es }) (pieces h)) (first_entries_lem form t₀ 0))

    told_all : advance_means r ≡ told_by went
    unfolding read_on
    told_all = c.told ∙ rw (read_on, start_fits, from_start)

    table_all : t ≡ stored form t₀ 0 went.point.entries
    unfolding table_on
    table_all = c.table ∙ rw (table_on, start_fits, from_start, start)

    tells : Tells (limits_by form) imposed (room form t₀) h (read_into form imposed t₀ h) went
    tells = whole (limits_by form) imposed (room form t₀) h small

    done : {a : ReadAnswer} → answer_means a ≡ closed_at (advance_means r) → ReadCall form imposed h t₀ a t
    done f = record { answer = f ∙ ap closed_at told_all ∙ sym tells.answer; table = table_all ∙ ap (stored form t₀ 0) (sym tells.entries) }

    pub read_ended : {p : Parser} → r ≡ Ok p → {a : ReadAnswer} → answer_means a ≡ ended_at (spot_in p) → ReadCall form imposed h t₀ a t
    read_ended i f = done (f ∙ sym (ap (λ (y : Result Parser (Parser × Refusal)). closed_at (advance_means y)) i))

    module _ {p : Parser} {x : Refusal} (i : r ≡ Err (p, x)) where
      pub read_stopped : {a : ReadAnswer} → a ≡ refused_as x (p.line + 1) p.at p.count → ReadCall form imposed h t₀ a t
      read_stopped f =
          let n : p.line + 1 ≡ suc p.line = omega arith in
          let m : answer_means (refused_as x (p.line + 1) p.at p.count) ≡ refused_at (number x) (spot_in p) = rw n in
          done (ap answer_means f ∙ m ∙ sym (ap (λ (y : Result Parser (Parser × Refusal)). closed_at (advance_means y)) i))

pub ruleset reads = (read_long, read_ended, read_stopped, on_lines, on_length)
