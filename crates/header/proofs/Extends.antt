-- More bytes after those that are there change nothing of what their complete lines give; and lines are read on where they were left.
-- Assumes nothing.
use Prim.Native.Nat.{ℕ, ◌+◌, ◌≤◌}
use native.Mathlib.Omega.{arith}
use mathlib.Core.Path.{◌≡◌, refl, sym, ap, ◌∙◌}
use mathlib.Core.Bool.{true}
use mathlib.Core.List.{List, [], ◌∷◌, ◌++◌}
use Rattle.std.specs.Prelude.{Option, None, Some}
use lib.Dec.{leb, ltb}
use lib.ListN.{length, take, drop, length-drop}
use lib.Seq.{take-append-le, drop-append-le}
use borrow.Author.Tests.{ltb-true, ltb-false, lt-ltb}
use Rattle.values.specs.Bytes.{Bytes}
use Rattle.values.specs.Value.{meaning}
use Rattle.values.proofs.Tests.{pass, fail, test}
use Rattle.rules.specs.Answer.{judged}
use Rattle.rules.specs.Sizes.{Limits}
use Rattle.rules.specs.Version.{Version}
use Rattle.rules.specs.Lines.{pieces, line_of}
use Rattle.rules.specs.Record.{key_of}
use Rattle.rules.specs.Known.{other}
use Rattle.rules.specs.Entry.{Entry, map_kind, text_kind}
use Rattle.rules.specs.Shown.{line_in, id_in, id_meaning}
use Rattle.rules.specs.Reading.{State, empty, ready, done, step}
use Rattle.rules.specs.Claims.{All}
use Rattle.rules.proofs.Alls.{all_append, all_map}
use Rattle.rules.proofs.Firsts.{was, not_read, see}
use Rattle.rules.proofs.Stands.{Stands}
use Rattle.entries.proofs.Calls.{Formed, formed}
use Rattle.lines.specs.Lines.{end_of}
use Rattle.lines.proofs.Lines.{pieces_there}
use Rattle.lines.proofs.Ends.{end_length, complete}
use Rattle.ids.specs.Clashes.{prefix_of, has_key, key_seen, is_of_key, is_of_id, id_seen, clash_number, clash_in}
use Rattle.header.specs.Steps.{Stage, stage_after, fresh_state, new_clash, step_on, Point, Went, passed, go_on}
use Rattle.header.proofs.Steps.{step_stand, took_stand, go_refused, go_full, go_more, go_none, go_past, Inside, passed_inside}

-- What the entries show

module _ (h x : Bytes) where
  part_same : (a n : ℕ) → a + n ≤ length h → take n (drop a (h ++ x)) ≡ take n (drop a h)
  part_same a n l = ap (take n) (drop-append-le a h x (omega arith)) ∙ take-append-le n (drop a h) x (rw (length-drop a h) (omega arith))

  module _ (e : Entry) (f : Formed (length h) e) where
    line_same : line_in (h ++ x) e ≡ line_in h e
    unfolding line_in
    line_same = part_same e.start e.length f.line

    id_same : id_meaning (h ++ x) e ≡ id_meaning h e
    unfolding id_in
    id_same = ap (meaning e.quoted) (part_same (e.start + e.offset) e.id_length (omega (arith, f.line, f.id)))

  keys_same : (prefix : Bytes) (kind : ℕ) (es : List Entry) → All (Formed (length h)) es → key_seen (h ++ x) prefix kind es ≡ key_seen h prefix kind es
  unfolding key_seen has_key
  keys_same prefix kind [] a = refl
  keys_same prefix kind (e ∷ es) a = rw (line_same e a.0, keys_same prefix kind es a.1)

  ids_same : (prefix : Bytes) (kind : ℕ) (m : Bytes) (es : List Entry) → All (Formed (length h)) es → id_seen (h ++ x) prefix kind m es ≡ id_seen h prefix kind m es
  unfolding id_seen is_of_id is_of_key
  ids_same prefix kind m [] a = refl
  ids_same prefix kind m (e ∷ es) a = rw (line_same e a.0, id_same e a.0, ids_same prefix kind m es a.1)

  module _ (es : List Entry) (a : All (Formed (length h)) es) where
    clash_same : (prefix : Bytes) (e : Entry) → Formed (length h) e → clash_in (h ++ x) es prefix e ≡ clash_in h es prefix e
    clash_same prefix e f =
        rw (id_same e f, ids_same prefix e.kind (id_meaning h e) es a, keys_same prefix text_kind es a, keys_same prefix (map_kind other) es a)

    new_same : (s : State) (fs : List Entry) → All (Formed (length h)) fs → new_clash (h ++ x) es s fs ≡ new_clash h es s fs
    new_same empty fs f = refl
    new_same (ready v []) fs f = refl
    new_same (ready v (r ∷ rs)) [] f = refl
    new_same (ready v (r ∷ rs)) (e ∷ fs) f = ap clash_number (clash_same (prefix_of (key_of r)) e f.0)
    new_same (done v rs c) fs f = refl

pub all_formed_lem : (lim : Limits) (size : ℕ) (es : List Entry) → All (Stands lim size) es → All (Formed size) es
all_formed_lem lim size es a = all_map (Stands lim size) (Formed size) es (λ e s. formed size e s.formed) a

-- a line gives the same
pub step_more : (lim : Limits) (imposed : Option Version) (h x : Bytes) (es : List Entry) → All (Formed (length h)) es → (start : ℕ) (g : Stage) (p : Bytes) (ps : List Bytes)
    → start ≤ length h → pieces (drop start h) ≡ p ∷ ps → step_on lim imposed (h ++ x) es start g (line_of p) ≡ step_on lim imposed h es start g (line_of p)
unfolding step_on
step_more lim imposed h x es a start g p ps l e = elim (see (step lim imposed start (fresh_state g) (line_of p))) [
  | not_read n b ↦ rw b
  | was q b ↦
      let f = all_formed_lem lim (length h) q.1 (step_stand lim imposed h start (fresh_state g) p ps l e b) in
      let n = new_same h x es a q.0 q.1 f in
      rw b (ap (λ (k : ℕ). judged k (stage_after q.0, q.1)) n)
]

-- The lines before an end that is not after the last LF

module _ (lim : Limits) (imposed : Option Version) (room : ℕ) (h x : Bytes) (end : ℕ) (short : end ≤ end_of h) where
  pub extends : (ps : List Bytes) (q : Point) → Inside lim room h q → All (Formed (length h)) q.entries → pieces (drop q.at h) ≡ ps
      → go_on lim imposed room (h ++ x) end q (pieces (drop q.at (h ++ x))) ≡ go_on lim imposed room h end q ps
  extends [] q i a e = go_past lim imposed room (h ++ x) end q (pieces (drop q.at (h ++ x))) (omega (arith, short, end_length h, none_there)) ∙ sym (go_none lim imposed room h end q)
    where
      none_there : length h ≤ q.at
      none_there = elim (test (ltb q.at (length h))) [
        | pass l ↦
            let s = pieces_there h q.at (ltb-true q.at (length h) l) in
            nothing (sym e ∙ s.is)
        | fail l ↦ ltb-false q.at (length h) l
      ]
        where
          nothing : {A : Type 0} {p : Bytes} {ps : List Bytes} → [] ≡ p ∷ ps → A
          nothing z = let y : ◌≡◌ {A = ℕ} 0 1 = cc in absurd (omega arith)
  extends (p ∷ ps) q i a e = elim (test (ltb q.at end)) [
    | fail l ↦
        let out = ltb-false q.at end l in
        go_past lim imposed room (h ++ x) end q (pieces (drop q.at (h ++ x))) out ∙ sym (go_past lim imposed room h end q (p ∷ ps) out)
    | pass l ↦
        let c = complete h x q.at p ps e (omega (arith, ltb-true q.at end l, short)) in
        let s = step_more lim imposed h x q.entries a q.at q.stage p ps i.at e in
        let rest = pieces (drop (q.at + length p) (h ++ x)) in
        ap (go_on lim imposed room (h ++ x) end q) c.piece ∙ elim (see (step_on lim imposed h q.entries q.at q.stage (line_of p))) [
          | not_read m b ↦ go_refused lim imposed room (h ++ x) end q p rest l (s ∙ b) ∙ sym (go_refused lim imposed room h end q p ps l b)
          | was y b ↦ elim (test (leb (length q.entries + length y.1) room)) [
            | fail r ↦ go_full lim imposed room (h ++ x) end q p rest l (s ∙ b) r ∙ sym (go_full lim imposed room h end q p ps l b r)
            | pass r ↦
                let n = passed_inside lim imposed room h q p ps i e y r in
                let f = all_append (Formed (length h)) q.entries y.1 a (all_formed_lem lim (length h) y.1 (took_stand lim imposed h q.entries q.at q.stage p ps i.at e b)) in
                go_more lim imposed room (h ++ x) end q p rest l (s ∙ b) r ∙ extends ps (passed q p y) n.0 f n.1 ∙ sym (go_more lim imposed room h end q p ps l b r)
          ]
        ]
  ]

-- the point is not past the last LF
pub ends_by : (lim : Limits) (imposed : Option Version) (room : ℕ) (h : Bytes) (ps : List Bytes) (q : Point) → Inside lim room h q → q.at ≤ end_of h → pieces (drop q.at h) ≡ ps
    → (go_on lim imposed room h (end_of h) q ps).point.at ≤ end_of h
ends_by lim imposed room h [] q i l e = rw (go_none lim imposed room h (end_of h) q) l
ends_by lim imposed room h (p ∷ ps) q i l e = elim (test (ltb q.at (end_of h))) [
  | fail b ↦ rw (go_past lim imposed room h (end_of h) q (p ∷ ps) (ltb-false q.at (end_of h) b)) l
  | pass b ↦ elim (see (step_on lim imposed h q.entries q.at q.stage (line_of p))) [
    | not_read m a ↦ rw (go_refused lim imposed room h (end_of h) q p ps b a) l
    | was y a ↦ elim (test (leb (length q.entries + length y.1) room)) [
      | fail r ↦ rw (go_full lim imposed room h (end_of h) q p ps b a r) l
      | pass r ↦
          let n = passed_inside lim imposed room h q p ps i e y r in
          let c = complete h [] q.at p ps e (ltb-true q.at (end_of h) b) in
          rw (go_more lim imposed room h (end_of h) q p ps b a r) (ends_by lim imposed room h ps (passed q p y) n.0 c.before_end n.1)
    ]
  ]
]

-- Lines that are read on where they were left

-- up to a later end, after these lines
abbrev pub on_to : Limits → Option Version → ℕ → Bytes → ℕ → Option ℕ → Point → Went
on_to lim imposed room h end None q = go_on lim imposed room h end q (pieces (drop q.at h))
on_to lim imposed room h end (Some m) q = record { stop = Some m; point = q }

pub goes_on : (lim : Limits) (imposed : Option Version) (room : ℕ) (h : Bytes) (first end : ℕ) → first ≤ end → (ps : List Bytes) (q : Point) → Inside lim room h q → pieces (drop q.at h) ≡ ps
    → go_on lim imposed room h end q ps ≡ on_to lim imposed room h end (go_on lim imposed room h first q ps).stop (go_on lim imposed room h first q ps).point
goes_on lim imposed room h first end l [] q i e = rw (go_none lim imposed room h first q) (ap (go_on lim imposed room h end q) (sym e))
goes_on lim imposed room h first end l (p ∷ ps) q i e = elim (test (ltb q.at first)) [
  | fail b ↦ rw (go_past lim imposed room h first q (p ∷ ps) (ltb-false q.at first b)) (ap (go_on lim imposed room h end q) (sym e))
  | pass b ↦
      let d : ltb q.at end ≡ true = lt-ltb q.at end (omega (arith, ltb-true q.at first b)) in
      elim (see (step_on lim imposed h q.entries q.at q.stage (line_of p))) [
        | not_read m a ↦ rw (go_refused lim imposed room h first q p ps b a) (go_refused lim imposed room h end q p ps d a)
        | was y a ↦ elim (test (leb (length q.entries + length y.1) room)) [
          | fail r ↦ rw (go_full lim imposed room h first q p ps b a r) (go_full lim imposed room h end q p ps d a r)
          | pass r ↦
              let n = passed_inside lim imposed room h q p ps i e y r in
              rw (go_more lim imposed room h first q p ps b a r) (go_more lim imposed room h end q p ps d a r ∙ goes_on lim imposed room h first end l ps (passed q p y) n.0 n.1)
        ]
      ]
]
