-- An accepted run, line by line. Assumes nothing.
use Prim.Native.Nat.{ℕ, suc, ◌+◌}
use native.Mathlib.Omega.{arith}
use mathlib.Core.Path.{◌≡◌, refl, sym, ap, ◌∙◌}
use mathlib.Core.Bool.{true}
use mathlib.Core.List.{List, [], ◌∷◌, ◌++◌, append_assoc}
use Rattle.std.specs.Prelude.{Option}
use lib.Dec.{leb}
use lib.ListN.{length}
use Rattle.values.specs.Bytes.{Bytes}
use Rattle.values.proofs.Tests.{pass, fail, test}
use Rattle.rules.specs.Answer.{Answer, ok, refuse}
use Rattle.rules.specs.Sizes.{Limits}
use Rattle.rules.specs.Lines.{line_of}
use Rattle.rules.specs.Version.{Version}
use Rattle.rules.specs.Record.{Record}
use Rattle.rules.specs.Columns.{Columns}
use Rattle.rules.specs.Entry.{Entry}
use Rattle.rules.specs.Reading.{State, done, step, Reading, following, run}
use Rattle.rules.proofs.Firsts.{on_ok, was, not_read, see}
use Rattle.rules.proofs.Sound.{Taken, step_taken, run_refused, run_full, run_more}
use Rattle.rules.proofs.Refusals.{Begun, step_begun, after_column}
use Rattle.rules.specs.Claims.{Accepted}

-- an accepted run is one of the rest, after its first line was taken and had room
pub record First (lim : Limits) (imposed : Option Version) (room n start count : ℕ) (s : State) (p : Bytes) (ps : List Bytes) (w : Version) (rs : List Record) (c : Columns) : Type 0 where
  pub after : State × List Entry
  pub taken : step lim imposed start s (line_of p) ≡ ok after
  pub line : Taken lim imposed start s (line_of p) after
  pub roomy : leb (count + length after.1) room ≡ true
  pub rest : Accepted w rs c (run lim imposed room (suc n) (start + length p) (count + length after.1) after.0 ps)

module _ (lim : Limits) (imposed : Option Version) (room n start count : ℕ) (s : State) (p : Bytes) (ps : List Bytes) {w : Version} {rs : List Record} {c : Columns}
    (a : Accepted w rs c (run lim imposed room n start count s (p ∷ ps))) where
  one_refused : {m : ℕ} → ◌≡◌ {A = Answer (State × List Entry)} (refuse 1) (refuse m) → m ≡ 1
  one_refused e = cc

  pub first_taken : First lim imposed room n start count s p ps w rs c
  first_taken = elim (see (step lim imposed start s (line_of p))) [
    | not_read m b ↦
        let r = run_refused lim imposed room n start count s p ps b in
        let d : s ≡ done w rs c = sym (ap (λ (x : Reading). x.state) r) ∙ a.state in
        let one : m ≡ 1 = one_refused (sym (ap (λ (x : State). step lim imposed start x (line_of p)) d ∙ after_column lim imposed start w rs c (line_of p)) ∙ b) in
        absurd (omega (arith, one, sym (ap (λ (x : Reading). x.number) r) ∙ a.number))
    | was q b ↦ elim (test (leb (count + length q.1) room)) [
      | fail t ↦ absurd (omega (arith, sym (ap (λ (x : Reading). x.number) (run_full lim imposed room n start count s p ps b t)) ∙ a.number))
      | pass t ↦
          let m = run_more lim imposed room n start count s p ps b t in
          record {
            after = q;
            taken = b;
            line = on_ok (Taken lim imposed start s (line_of p)) (step_taken lim imposed start s (line_of p)) b;
            roomy = t;
            rest = record { number = sym (ap (λ (x : Reading). x.number) m) ∙ a.number; state = sym (ap (λ (x : Reading). x.state) m) ∙ a.state };
          }
    ]
  ]

-- nothing follows the column line
pub done_more : (lim : Limits) (imposed : Option Version) (room n start count : ℕ) (v : Version) (rs : List Record) (c : Columns) (p : Bytes) (ps : List Bytes)
    {w : Version} {rs' : List Record} {c' : Columns} {A : Type 0} → Accepted w rs' c' (run lim imposed room n start count (done v rs c) (p ∷ ps)) → A
done_more lim imposed room n start count v rs c p ps a =
    absurd (omega (arith, sym (ap (λ (r : Reading). r.number) (run_refused lim imposed room n start count (done v rs c) p ps (after_column lim imposed start v rs c (line_of p)))) ∙ a.number))

-- after these lines, which were taken, a run goes on with whatever follows them
pub record Goes (lim : Limits) (imposed : Option Version) (room n start count : ℕ) (s : State) (ps : List Bytes) : Type 0 where
  pub lines : ℕ
  pub place : ℕ
  pub kept : ℕ
  pub after : State
  pub entries : List Entry
  pub begun : Begun s → Begun after
  pub on : (qs : List Bytes) → run lim imposed room n start count s (ps ++ qs) ≡ following entries (run lim imposed room lines place kept after qs)

pub accepted_rest : {v : Version} {rs : List Record} {c : Columns} {r t : Reading} (es : List Entry) → r ≡ following es t → Accepted v rs c r → Accepted v rs c t
accepted_rest es e a = record { number = sym (ap (λ (r : Reading). r.number) e) ∙ a.number; state = sym (ap (λ (r : Reading). r.state) e) ∙ a.state }

pub goes : (lim : Limits) (imposed : Option Version) (room n start count : ℕ) (s : State) (ps qs : List Bytes) {w : Version} {rs : List Record} {c : Columns}
    → Accepted w rs c (run lim imposed room n start count s (ps ++ qs)) → Goes lim imposed room n start count s ps
goes lim imposed room n start count s [] qs a =
    record { lines = n; place = start; kept = count; after = s; entries = []; begun = λ b. b; on = λ qs. refl }
goes lim imposed room n start count s (p ∷ ps) qs a =
    let f = first_taken lim imposed room n start count s p (ps ++ qs) a in
    let es = f.after.1 in
    let d = goes lim imposed room (suc n) (start + length p) (count + length es) f.after.0 ps qs f.rest in
    record {
      lines = d.lines;
      place = d.place;
      kept = d.kept;
      after = d.after;
      entries = es ++ d.entries;
      begun = λ b. d.begun (step_begun lim imposed start s (line_of p) f.taken);
      on = λ xs. run_more lim imposed room n start count s p (ps ++ xs) f.taken f.roomy ∙ ap (following es) (d.on xs)
          ∙ following_both es d.entries (run lim imposed room d.lines d.place d.kept d.after xs);
    }
  where
    following_both : (es fs : List Entry) (r : Reading) → following es (following fs r) ≡ following (es ++ fs) r
    following_both es fs r = rw (append_assoc es fs r.entries)
