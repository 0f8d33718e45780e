-- The lines of an accepted header, each with the record that it is read as. Assumes nothing.
use Prim.Native.Nat.{ℕ, suc, ◌+◌}
use mathlib.Core.Path.{◌≡◌, refl, sym, ap, subst, ◌∙◌}
use mathlib.Core.Bool.{Bool}
use mathlib.Core.List.{List, [], ◌∷◌, ◌++◌, append_assoc, append-nil}
use Rattle.std.specs.Prelude.{Option}
use lib.Dec.{leb}
use lib.ListN.{length}
use Rattle.values.specs.Bytes.{Bytes}
use Rattle.values.proofs.Tests.{pass, fail, test, never}
use Rattle.rules.specs.Answer.{ok}
use Rattle.rules.specs.Sizes.{Limits}
use Rattle.rules.specs.Lines.{pieces, line_of}
use Rattle.rules.specs.Version.{Version, v4_5, in_force}
use Rattle.rules.specs.Record.{Record, fileformat, fields, text, read_record}
use Rattle.rules.specs.Columns.{Columns}
use Rattle.rules.specs.Entry.{Entry}
use Rattle.rules.specs.Reading.{State, empty, ready, done, begin, step_text, run, reading}
use Rattle.rules.proofs.Firsts.{OnOk, on_ok, was, not_read, see}
use Rattle.rules.proofs.Pieces.{last_of}
use Rattle.rules.proofs.Groups.{Apart, apart_snoc}
use Rattle.rules.proofs.Runs.{first_taken, done_more}
use Rattle.rules.proofs.Trace.{Stepped, entered, finished, text_steps}
use Rattle.rules.specs.Claims.{Accepted}

-- lines that are read as these records, one by one
abbrev pub Reads : Version → List Bytes → List Record → Type 0
Reads v [] [] = Unit {0}
Reads v [] (r ∷ rs) = ⊥
Reads v (p ∷ ps) [] = ⊥
Reads v (p ∷ ps) (r ∷ rs) = (read_record v (line_of p) ≡ ok r) × Reads v ps rs

-- what the first line does
record Begun (imposed : Option Version) (l : Bytes) (s : State) : Type 0 where
  own : Version
  read : read_record v4_5 l ≡ ok (fileformat own)
  is : s ≡ ready (in_force imposed own) []

text_begun : (counted : Bool) (imposed : Option Version) (start : ℕ) (l : Bytes) → OnOk (λ q. Begun imposed l q.0) (step_text counted imposed start empty l)
unfolding step_text
text_begun counted imposed start l = elim (see (read_record v4_5 l)) [ was r e ↦ rw e (go r e) | not_read m e ↦ rw e tt ]
  where
    go : (r : Record) → read_record v4_5 l ≡ ok r → OnOk (λ (q : State × List Entry). Begun imposed l q.0) (begin counted imposed start l r)
    go (fileformat w) e = record { own = w; read = e; is = refl }
    go (fields k fs) e = tt
    go (text k t) e = tt

-- the records that the lines added
pub record Took (v : Version) (rs : List Record) (ps : List Bytes) (w : Version) (after : List Record) : Type 0 where
  pub version : v ≡ w
  pub new : List Record
  pub records : after ≡ rs ++ new
  pub reads : Reads v ps new
  pub apart : Apart v rs → Apart v after

ready_not : {v w : Version} {rs rs' : List Record} {c : Columns} {A : Type 0} → ◌≡◌ {A = State} (ready v rs) (done w rs' c) → A
ready_not e = never cc

empty_not : {w : Version} {rs' : List Record} {c : Columns} {A : Type 0} → ◌≡◌ {A = State} empty (done w rs' c) → A
empty_not e = never cc

done_parts : {v w : Version} {rs rs' : List Record} {c c' : Columns} → ◌≡◌ {A = State} (done v rs c) (done w rs' c') → (v ≡ w) × (rs ≡ rs')
done_parts e = (cc, cc)

-- the lines of a run that ends with the column line
pub run_took : (lim : Limits) (imposed : Option Version) (room n start count : ℕ) (v : Version) (rs : List Record) (ps : List Bytes) (z : Bytes)
    {w : Version} {rs' : List Record} {c : Columns} → Accepted w rs' c (run lim imposed room n start count (ready v rs) (ps ++ z ∷ [])) → Took v rs ps w rs'
unfolding run
run_took lim imposed room n start count v rs [] z {w} {rs'} {c} a =
    let f = first_taken lim imposed room n start count (ready v rs) z [] a in
    go f.after (on_ok (Stepped lim.counted imposed v rs start (line_of z)) (text_steps lim.counted imposed start v rs (line_of z)) f.line.2) f.rest
  where
    go : (q : State × List Entry) → Stepped lim.counted imposed v rs start (line_of z) q → Accepted w rs' c (run lim imposed room (suc n) (start + length z) (count + length q.1) q.0 []) → Took v rs [] w rs'
    go q (entered r x e y more) b = ready_not (rw e at b.state)
    go q (finished d x e) b = let i = done_parts (rw e at b.state) in record { version = i.0; new = []; records = sym i.1 ∙ sym (append-nil rs); reads = tt; apart = λ g. subst (Apart v) i.1 g }
run_took lim imposed room n start count v rs (p ∷ ps) z {w} {rs'} {c} a =
    let f = first_taken lim imposed room n start count (ready v rs) p (ps ++ z ∷ []) a in
    go f.after (on_ok (Stepped lim.counted imposed v rs start (line_of p)) (text_steps lim.counted imposed start v rs (line_of p)) f.line.2) f.rest
    (λ r m b. run_took lim imposed room (suc n) (start + length p) m v (rs ++ r ∷ []) ps z b)
  where
    last : (m : ℕ) (d : Columns) (ps : List Bytes) → Accepted w rs' c (run lim imposed room (suc n) (start + length p) m (done v rs d) (ps ++ z ∷ [])) → Took v rs (p ∷ ps) w rs'
    last m d [] b = done_more lim imposed room (suc n) (start + length p) m v rs d z [] b
    last m d (x ∷ xs) b = done_more lim imposed room (suc n) (start + length p) m v rs d x (xs ++ z ∷ []) b

    go : (q : State × List Entry) → Stepped lim.counted imposed v rs start (line_of p) q → Accepted w rs' c (run lim imposed room (suc n) (start + length p) (count + length q.1) q.0 (ps ++ z ∷ []))
        → ((r : Record) (m : ℕ) → Accepted w rs' c (run lim imposed room (suc n) (start + length p) m (ready v (rs ++ r ∷ [])) (ps ++ z ∷ [])) → Took v (rs ++ r ∷ []) ps w rs') → Took v rs (p ∷ ps) w rs'
    go q (entered r x e y again) b more =
        let t = more r (count + 1) (rw e at b) in
        record {
          version = t.version;
          new = r ∷ t.new;
          records = t.records ∙ append_assoc rs (r ∷ []) t.new;
          reads = (x, t.reads);
          apart = λ g. t.apart (apart_snoc v rs r g y);
        }
    go q (finished d x e) b more = last _ d ps (rw e at b)

-- an accepted header: its fileformat line, the lines of its records, its column line
pub record Lines (imposed : Option Version) (f : Bytes) (ps : List Bytes) (v : Version) (rs : List Record) : Type 0 where
  pub own : Version
  pub format : read_record v4_5 (line_of f) ≡ ok (fileformat own)
  pub force : v ≡ in_force imposed own
  pub reads : Reads v ps rs
  pub apart : Apart v rs

lines_took : (lim : Limits) (imposed : Option Version) (room : ℕ) (f : Bytes) (ps : List Bytes) (z : Bytes) {v : Version} {rs : List Record} {c : Columns}
    → Accepted v rs c (run lim imposed room 0 0 0 empty (f ∷ (ps ++ z ∷ []))) → Lines imposed f ps v rs
lines_took lim imposed room f ps z {v} {rs} {c} a =
    let t = first_taken lim imposed room 0 0 0 empty f (ps ++ z ∷ []) a in
    go t.after (on_ok (λ q. Begun imposed (line_of f) q.0) (text_begun lim.counted imposed 0 (line_of f)) t.line.2) t.rest
  where
    go : (q : State × List Entry) → Begun imposed (line_of f) q.0 → Accepted v rs c (run lim imposed room 1 (0 + length f) (0 + length q.1) q.0 (ps ++ z ∷ [])) → Lines imposed f ps v rs
    go q b a =
        let t = run_took lim imposed room 1 (0 + length f) (0 + length q.1) (in_force imposed b.own) [] ps z
        (subst (λ (s : State). Accepted v rs c (run lim imposed room 1 (0 + length f) (0 + length q.1) s (ps ++ z ∷ []))) b.is a) in
        record {
          own = b.own;
          format = b.read;
          force = sym t.version;
          reads = subst (λ (u : Version). Reads u ps rs) t.version (subst (Reads (in_force imposed b.own) ps) (sym t.records) t.reads);
          apart = subst (λ (u : Version). Apart u rs) t.version (t.apart tt);
        }

pub header_lines : (lim : Limits) (imposed : Option Version) (room : ℕ) (h f : Bytes) (ps : List Bytes) (z : Bytes) → pieces h ≡ f ∷ (ps ++ z ∷ [])
    → {v : Version} {rs : List Record} {c : Columns} → Accepted v rs c (reading lim imposed room h) → Lines imposed f ps v rs
unfolding reading
header_lines lim imposed room h f ps z e {v} {rs} {c} a = elim (test (leb (length h) lim.header)) [
  | pass l ↦ lines_took lim imposed room f ps z (subst (λ (xs : List Bytes). Accepted v rs c (run lim imposed room 0 0 0 empty xs)) e (rw (reading, l) at a))
  | fail l ↦ empty_not (rw (reading, l) at a.state)
]

-- Every accepted header has these lines

pub record Split (h : Bytes) : Type 0 where
  pub first : Bytes
  pub records : List Bytes
  pub last : Bytes
  pub is : pieces h ≡ first ∷ (records ++ last ∷ [])

pub header_splits : (lim : Limits) (imposed : Option Version) (room : ℕ) (h : Bytes) {v : Version} {rs : List Record} {c : Columns}
    → Accepted v rs c (reading lim imposed room h) → Split h
unfolding reading run
header_splits lim imposed room h {v} {rs} {c} a = elim (test (leb (length h) lim.header)) [
  | pass l ↦ go (pieces h) refl (rw (reading, l) at a)
  | fail l ↦ empty_not (rw (reading, l) at a.state)
]
  where
    one : (f : Bytes) (q : State × List Entry) → Begun imposed (line_of f) q.0 → Accepted v rs c (run lim imposed room 1 (0 + length f) (0 + length q.1) q.0 []) → Split h
    one f q b a = ready_not (rw b.is at a.state)

    go : (ps : List Bytes) → pieces h ≡ ps → Accepted v rs c (run lim imposed room 0 0 0 empty ps) → Split h
    go [] e a = empty_not a.state
    go (f ∷ []) e a =
        let t = first_taken lim imposed room 0 0 0 empty f [] a in
        one f t.after (on_ok (λ q. Begun imposed (line_of f) q.0) (text_begun lim.counted imposed 0 (line_of f)) t.line.2) t.rest
    go (f ∷ p ∷ ps) e a = let d = last_of [] p ps in record { first = f; records = d.0; last = d.1; is = e ∙ ap (f ∷◌) d.2 }

pub header_apart : (lim : Limits) (imposed : Option Version) (room : ℕ) (h : Bytes) {v : Version} {rs : List Record} {c : Columns}
    → Accepted v rs c (reading lim imposed room h) → Apart v rs
header_apart lim imposed room h a =
    let s = header_splits lim imposed room h a in
    (header_lines lim imposed room h s.first s.records s.last s.is a).apart
