-- The lines still to be read: their names are noted, and entries of which one was are marked. Assumes nothing.
use Prim.Native.Nat.{ℕ, ◌+◌, ◌-◌, ◌≤◌, ◌<◌}
use native.Mathlib.Omega.{arith}
use mathlib.Core.Path.{◌≡◌, refl, sym, ap, subst, ◌∙◌}
use mathlib.Core.List.{List, [], ◌∷◌}
use Rattle.std.specs.Prelude.{Option, Result, Ok, Err}
use lib.Dec.{eqb, ltb}
use lib.ListN.{length, drop}
use Rattle.values.specs.Bytes.{Bytes, part}
use Rattle.values.proofs.Tests.{pass, fail, test}
use Rattle.rules.specs.Answer.{ok, refuse}
use Rattle.rules.specs.Sizes.{Limits}
use Rattle.rules.specs.Version.{Version}
use Rattle.rules.specs.Lines.{pieces, line_of}
use Rattle.rules.specs.Entry.{Entry}
use Rattle.rules.specs.Reading.{State, ready, step}
use Rattle.rules.proofs.Firsts.{on_ok, was, not_read, see}
use Rattle.rules.proofs.Sound.{Taken, step_taken}
use Rattle.rules.proofs.Trace.{Stepped, entered, finished, text_steps}
use Rattle.records.specs.Records.{ParsesRecord}
use Rattle.records.specs.declared.record.Record.{Record}
use Rattle.records.specs.declared.refusal.Refusal.{Refusal}
use Rattle.entries.specs.declared.entry.Entry.{Entry as CodeEntry}
use Rattle.entries.specs.Values.{entry_of}
use Rattle.lines.specs.Lines.{LineIs}
use Rattle.lines.specs.declared.line.Line.{Line}
use Rattle.lines.proofs.Lines.{pieces_past, pieces_there}
use Rattle.ids.specs.Clashes.{clash_by, key_seen, id_seen}
use Rattle.ids.specs.Ahead.{note_names, Named}
use Rattle.ids.specs.Marks.{mark_noted}
use Rattle.ids.proofs.Aheads.{Kept, kept_same, kept_then, kept_names, named_kept, names_own, unnoted}
use Rattle.ids.proofs.Markings.{noted_all, unmarked_all}
use Rattle.header.specs.Steps.{Stage, opening, body, ending, stage_after, step_on}
use Rattle.header.specs.Verdicts.{stage_of, beside_entries, record_beside, IsInBody, MetSays, MeetsRead}
use Rattle.header.specs.Ahead.{note_entries, note_line, note_lines, LinesNamed, AheadMarked}
use Rattle.header.specs.declared.phase.Phase.{Phase}
use Rattle.header.proofs.Steps.{took}

-- beside no entry a new one clashes with nothing
pub alone : (h prefix : Bytes) (g : Stage) (e : Entry) → beside_entries h [] prefix g e ≡ ok (g, e ∷ [])
unfolding key_seen id_seen clash_by
alone h prefix g e = elim (test (ltb e.kind 7)) [
  | pass l ↦ rw (clash_by, l)
  | fail l ↦ elim (test (eqb e.kind 7)) [ pass k ↦ rw (clash_by, l, k) | fail k ↦ rw (clash_by, l, k) ]
]

-- A line

-- y is what was read of it, and x what that is
module _ (lim : Limits) (h : Bytes) (v : Version) (start end : ℕ) (ns : List ℕ) {l : Bytes} (el : l ≡ part h start end) {y : Result Record Refusal} (b : ParsesRecord v l y) (x : Result (CodeEntry × ℕ) Refusal) (a : MeetsRead lim start l y x) where
  pub line_noted : {e : CodeEntry} {at : ℕ} → x ≡ Ok (e, at) → {ns' : List ℕ} → ns' ≡ note_names h (entry_of e) ns → ns' ≡ note_line lim v h start (part h start end) ns
  unfolding note_line note_entries
  line_noted {e} w f =
      let n = subst (MetSays lim v start l) w (a.is v b) in
      let i : record_beside lim h [] v start l ≡ ok (body v, entry_of e ∷ []) = sym (n.beside h []) ∙ alone h _ (body v) (entry_of e) in
      f ∙ rw (← el, note_line, i)

  pub line_unnoted : {z : Refusal} → x ≡ Err z → ns ≡ note_line lim v h start (part h start end) ns
  unfolding note_line
  line_unnoted w = let i = subst (MetSays lim v start l) w (a.is v b) h [] in rw (← el, note_line, i)

pub ruleset line_notes = (line_noted, line_unnoted)

kept_entries : (h : Bytes) (es : List Entry) (ns : List ℕ) → Kept ns (note_entries h es ns)
unfolding note_entries
kept_entries h [] ns = kept_same ns
kept_entries h (e ∷ es) ns = kept_then (kept_names h e ns) (kept_entries h es (note_names h e ns))

module _ (lim : Limits) (v : Version) (h : Bytes) where
  kept_line : (start : ℕ) (l : Bytes) (ns : List ℕ) → Kept ns (note_line lim v h start l ns)
  unfolding note_line
  kept_line start l ns = elim (see (record_beside lim h [] v start l)) [
    | was q a ↦ rw (note_line, a) (kept_entries h q.1 ns)
    | not_read m a ↦ rw (note_line, a) (kept_same ns)
  ]

  kept_lines : (at : ℕ) (ps : List Bytes) (ns : List ℕ) → Kept ns (note_lines lim v h at ps ns)
  unfolding note_lines
  kept_lines at [] ns = kept_same ns
  kept_lines at (p ∷ ps) ns = kept_then (kept_line at (line_of p) ns) (kept_lines (at + length p) ps (note_line lim v h at (line_of p) ns))

  line_own : (start : ℕ) (l : Bytes) (ns : List ℕ) (e : Entry) → record_beside lim h [] v start l ≡ ok (body v, e ∷ []) → Named h (note_line lim v h start l ns) e
  unfolding note_line note_entries
  line_own start l ns e a = rw (note_line, a) (names_own h e ns)

  lines_own : (at : ℕ) (ps : List Bytes) (ns : List ℕ) → LinesNamed lim (body v) h (note_lines lim v h at ps ns) at ps
  unfolding note_lines
  lines_own at [] ns = tt
  lines_own at (p ∷ ps) ns =
      let ns' = note_line lim v h at (line_of p) ns in (
        record {
          is = λ w i e a.
              named_kept (kept_lines (at + length p) ps ns') h e
              (line_own at (line_of p) ns e (subst (λ (u : Version). record_beside lim h [] u at (line_of p) ≡ ok (body u, e ∷ [])) (sym i) a));
        },
        lines_own (at + length p) ps ns',
      )

-- All lines from a place on

pub record Noting (lim : Limits) (v : Version) (h : Bytes) (from : ℕ) (ns₀ ns : List ℕ) (at : ℕ) : Type 0 where
  pub long : length ns ≡ length ns₀
  pub inside : at ≤ length h
  pub still : note_lines lim v h from (pieces (drop from h)) ns₀ ≡ note_lines lim v h at (pieces (drop at h)) ns

pub noting_start : (lim : Limits) (v : Version) (h : Bytes) (from : ℕ) (ns : List ℕ) → from ≤ length h → Noting lim v h from ns ns from
noting_start lim v h from ns l = record { long = refl; inside = l; still = refl }

module _ {lim : Limits} {v : Version} {h : Bytes} {from : ℕ} {ns₀ ns : List ℕ} {at : ℕ} (g : Noting lim v h from ns₀ ns at) where
  pub noting_end : length h ≤ at → ns ≡ note_lines lim v h from (pieces (drop from h)) ns₀
  unfolding note_lines
  noting_end l = sym (g.still ∙ rw (pieces_past h at l))

  pub noting_long : length ns ≡ length ns₀
  noting_long = g.long

  module _ (i : at < length h) {line : Line} (a : LineIs h at line) where
    pub noting_next : {ns' : List ℕ} → ns' ≡ note_line lim v h at (part h at line.end) ns → Noting lim v h from ns₀ ns' line.next
    unfolding note_lines
    noting_next f =
        let t = pieces_there h at i in
        let q = a.first t.piece t.rest t.is in
        let n = ap (λ (l : Bytes). note_line lim v h at l ns) q.here in
        record {
          long = ap length f ∙ (kept_line lim v h at (part h at line.end) ns).long ∙ g.long;
          inside = a.inside g.inside;
          still = g.still ∙ rw (t.is, note_lines, ← q.stepped, ← q.left, ← n, ← f);
        }

    pub noting_less : length h - line.next < length h - at
    noting_less = omega (arith, a.moves i)

pub ruleset notings = (noting_start, noting_end, noting_long, noting_next, noting_less)

-- What lines from a place on may clash with is marked

any_named : (lim : Limits) (g : Stage) (h : Bytes) (ns : List ℕ) → length ns ≡ 0 → (at : ℕ) (ps : List Bytes) → LinesNamed lim g h ns at ps
any_named lim g h ns z at [] = tt
any_named lim g h ns z at (p ∷ ps) = (record { is = λ v i e a. unnoted h ns e z }, any_named lim g h ns z (at + length p) ps)

module _ (lim : Limits) (h : Bytes) (from : ℕ) (es : List Entry) (ms ns : List ℕ) {ms' : List ℕ} (f : ms' ≡ mark_noted h ns es ms) where
  pub ahead_noted : (v : Version) (ns₀ : List ℕ) → ns ≡ note_lines lim v h from (pieces (drop from h)) ns₀ → AheadMarked lim (body v) h from ms' es
  ahead_noted v ns₀ e = record {
    notes = ns;
    named = subst (λ (y : List ℕ). LinesNamed lim (body v) h y from (pieces (drop from h))) (sym e) (lines_own lim v h from (pieces (drop from h)) ns₀);
    all = rw f (noted_all h ns es ms);
  }

  -- where there are no notes all entries are
  pub ahead_all : (g : Stage) → length ns ≡ 0 → AheadMarked lim g h from ms' es
  ahead_all g z = record { notes = ns; named = any_named lim g h ns z from (pieces (drop from h)); all = rw f (noted_all h ns es ms) }

-- where there are no marks, all may have been met
pub ahead_none : (lim : Limits) (g : Stage) (h : Bytes) (from : ℕ) (ms : List ℕ) (es : List Entry) → length ms ≡ 0 → AheadMarked lim g h from ms es
ahead_none lim g h from ms es z = record { notes = []; named = any_named lim g h [] refl from (pieces (drop from h)); all = unmarked_all h [] es ms z }

pub ahead_body : (lim : Limits) (h : Bytes) (from : ℕ) (es : List Entry) (ms : List ℕ) {p q : Phase} → p ≡ q → AheadMarked lim (stage_of q) h from ms es → AheadMarked lim (stage_of p) h from ms es
ahead_body lim h from es ms e f = rw e f

pub ruleset aheads = (ahead_noted, ahead_all, ahead_body)

-- The version stays in force

refuse_not : {A : Type 0} {B : Type 0} {n : ℕ} {x : A} → refuse n ≡ ok x → B
refuse_not e = let z : ◌≡◌ {A = ℕ} 0 1 = cc in absurd (omega arith)

pub body_kept : (lim : Limits) (imposed : Option Version) (h : Bytes) (es : List Entry) (start : ℕ) (g : Stage) (l : Bytes) {x : Stage × List Entry} → step_on lim imposed h es start g l ≡ ok x
    → (v : Version) → IsInBody x.0 v → IsInBody g v
unfolding step
body_kept lim imposed h es start opening l e v i = tt
body_kept lim imposed h es start (body w) l {x} e v i =
    let k = took lim imposed h es start (body w) l e in
    let t = on_ok (Taken lim imposed start (ready w []) l) (step_taken lim imposed start (ready w []) l) k.stepped in
    let s = on_ok (Stepped lim.counted imposed w [] start l) (text_steps lim.counted imposed start w [] l) t.2 in
    let j : IsInBody (stage_after k.after.0) v = subst (λ (y : Stage × List Entry). IsInBody y.0 v) (sym k.is) i in
    elim s [
      | entered r a q c f ↦ subst (λ (y : State × List Entry). IsInBody (stage_after y.0) v) q j
      | finished c a q ↦ absurd (subst (λ (y : State × List Entry). IsInBody (stage_after y.0) v) q j)
    ]
body_kept lim imposed h es start (ending w n) l e v i = refuse_not (took lim imposed h es start (ending w n) l e).stepped

-- so that lines that were noted are so at the next stage
pub stage_named : (lim : Limits) (h : Bytes) (ns : List ℕ) (g g' : Stage) → ((v : Version) → IsInBody g' v → IsInBody g v) → (at : ℕ) (ps : List Bytes) → LinesNamed lim g h ns at ps → LinesNamed lim g' h ns at ps
stage_named lim h ns g g' f at [] a = tt
stage_named lim h ns g g' f at (p ∷ ps) a = (record { is = λ v i e b. a.0.is v (f v i) e b }, stage_named lim h ns g g' f (at + length p) ps a.1)
