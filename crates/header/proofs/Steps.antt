-- The line machine over entries: one line more, what its entries are, and how far it goes. Assumes nothing.
use Prim.Native.Nat.{ℕ, zero, suc, ◌+◌, ◌≤◌, ◌<◌}
use native.Mathlib.Omega.{arith}
use mathlib.Core.Path.{◌≡◌, refl, sym, ap, subst, ◌∙◌}
use mathlib.Core.Bool.{Bool, true, false, ◌&&◌}
use mathlib.Core.List.{List, [], ◌∷◌, ◌++◌, append_assoc, append-nil}
use Rattle.std.specs.Prelude.{Option, None, Some}
use lib.Dec.{leb, ltb}
use lib.ListN.{length, drop, length-append}
use borrow.Author.Tests.{le-ltb, leb-true, le-leb}
use Rattle.values.specs.Bytes.{Bytes, LF, is}
use Rattle.values.proofs.Tests.{pass, fail, test, and_l, and_r}
use Rattle.rules.specs.Answer.{Answer, ok, refuse, ◌>>=◌, judged}
use Rattle.rules.specs.Sizes.{Limits}
use Rattle.rules.specs.Version.{Version}
use Rattle.rules.specs.Lines.{push, pieces, line_of}
use Rattle.rules.specs.Entry.{Entry}
use Rattle.rules.specs.Reading.{State, step}
use Rattle.rules.specs.Claims.{All, LineAt}
use Rattle.rules.proofs.Alls.{all_append}
use Rattle.rules.proofs.Firsts.{on_ok, was, not_read, see}
use Rattle.rules.proofs.Pieces.{Pieces, pieces_lf, pieces_push, piece_line, pieces_fine}
use Rattle.rules.proofs.Sound.{Taken, step_taken}
use Rattle.rules.proofs.Stands.{Stands, text_stands}
use Rattle.rules.proofs.Trace.{first_line}
use Rattle.entries.specs.declared.form.Form.{Form}
use Rattle.entries.specs.Values.{limits_by}
use Rattle.entries.specs.Tables.{room}
use Rattle.header.specs.Steps.{Stage, stage_after, fresh_state, new_clash, held_against, step_on, Point, Went, passed, go_on, Spot, fits}

-- What fits

pub record Fit (form : Form) (size : ℕ) (t : List ℕ) (s : Spot) : Type 0 where
  pub header : size ≤ (limits_by form).header
  pub count : s.count ≤ room form t
  pub at : s.at ≤ size
  pub line : s.line ≤ s.at

module _ (form : Form) (size : ℕ) (t : List ℕ) (s : Spot) where
  abbrev a : Bool
  a = leb size (limits_by form).header

  abbrev b : Bool
  b = leb s.count (room form t)

  abbrev c : Bool
  c = leb s.at size

  abbrev d : Bool
  d = leb s.line s.at

  pub fit : fits form size t s ≡ true → Fit form size t s
  unfolding fits
  fit e =
      let e₂ = and_r a (b && (c && d)) e in
      let e₃ = and_r b (c && d) e₂ in
      record {
        header = leb-true size (limits_by form).header (and_l a (b && (c && d)) e);
        count = leb-true s.count (room form t) (and_l b (c && d) e₂);
        at = leb-true s.at size (and_l c d e₃);
        line = leb-true s.line s.at (and_r c d e₃);
      }

  pub fitting : Fit form size t s → fits form size t s ≡ true
  unfolding fits
  fitting f = rw (le-leb size (limits_by form).header f.header, le-leb s.count (room form t) f.count, le-leb s.at size f.at, le-leb s.line s.at f.line)

-- A line

-- a line that is taken: what it gives in a fresh state, and that it goes with the entries
pub record Took (lim : Limits) (imposed : Option Version) (h : Bytes) (es : List Entry) (start : ℕ) (g : Stage) (l : Bytes) (x : Stage × List Entry) : Type 0 where
  pub after : State × List Entry
  pub stepped : step lim imposed start (fresh_state g) l ≡ ok after
  pub fresh : new_clash h es after.0 after.1 ≡ 0
  pub is : (stage_after after.0, after.1) ≡ x

ok_is : {A : Type 0} {x y : A} → ok x ≡ ok y → x ≡ y
ok_is {A} {x} e = ap (λ (z : Answer A). pick z) e
  where
    pick : Answer A → A
    pick (ok z) = z
    pick (refuse n) = x

judged_was : {A : Type 0} (n : ℕ) (a : A) {x : A} → judged n a ≡ ok x → (n ≡ 0) × (a ≡ x)
judged_was zero a e = (refl, ok_is e)
judged_was (suc n) a e = let z : ◌≡◌ {A = ℕ} 0 1 = cc in absurd (omega arith)

pub took : (lim : Limits) (imposed : Option Version) (h : Bytes) (es : List Entry) (start : ℕ) (g : Stage) (l : Bytes) {x : Stage × List Entry} → step_on lim imposed h es start g l ≡ ok x → Took lim imposed h es start g l x
unfolding step_on
took lim imposed h es start g l {x} e = elim (see (step lim imposed start (fresh_state g) l)) [
  | was q a ↦
      let b : held_against h es q ≡ ok x = sym (ap (λ (z : Answer (State × List Entry)). z >>= held_against h es) a) ∙ e in
      let c = judged_was (new_clash h es q.0 q.1) (stage_after q.0, q.1) b in
      record { after = q; stepped = a; fresh = c.0; is = c.1 }
  | not_read n a ↦
      let b : refuse n ≡ ok x = sym (ap (λ (z : Answer (State × List Entry)). z >>= held_against h es) a) ∙ e in
      let z : ◌≡◌ {A = ℕ} 0 1 = cc in absurd (omega arith)
]

-- the entries of a line stand in the header
pub step_stand : (lim : Limits) (imposed : Option Version) (h : Bytes) (start : ℕ) (s : State) (p : Bytes) (ps : List Bytes) {q : State × List Entry}
    → start ≤ length h → pieces (drop start h) ≡ p ∷ ps → step lim imposed start s (line_of p) ≡ ok q → All (Stands lim (length h)) q.1
step_stand lim imposed h start s p ps l e a =
    let f = first_line h start p ps l e in
    let t = on_ok (Taken lim imposed start s (line_of p)) (step_taken lim imposed start s (line_of p)) a in
    let fine : Pieces (p ∷ ps) = subst Pieces e (pieces_fine (drop start h)) in
    let there : LineAt lim h start (line_of p) = record { here = f.here; inside = f.inside; short = t.0; utf8 = t.1 } in
    on_ok (λ (y : State × List Entry). All (Stands lim (length h)) y.1) (text_stands lim h start (line_of p) there (piece_line p fine.0) imposed s) t.2

pub took_stand : (lim : Limits) (imposed : Option Version) (h : Bytes) (es : List Entry) (start : ℕ) (g : Stage) (p : Bytes) (ps : List Bytes) {x : Stage × List Entry}
    → start ≤ length h → pieces (drop start h) ≡ p ∷ ps → step_on lim imposed h es start g (line_of p) ≡ ok x → All (Stands lim (length h)) x.1
took_stand lim imposed h es start g p ps l e a =
    let k = took lim imposed h es start g (line_of p) a in
    subst (λ (y : Stage × List Entry). All (Stands lim (length h)) y.1) k.is (step_stand lim imposed h start (fresh_state g) p ps l e k.stepped)

-- a piece has a byte
pub piece_some : (bs p : Bytes) (ps : List Bytes) → pieces bs ≡ p ∷ ps → 0 < length p
unfolding pieces
piece_some [] p ps e = let z : ◌≡◌ {A = ℕ} 0 1 = cc in absurd (omega arith)
piece_some (b ∷ bs) p ps e = elim (test (is LF b)) [
  | pass f ↦ go (b ∷ []) (pieces bs) (sym (pieces_lf b bs f) ∙ e) (omega arith)
  | fail f ↦ pushed (pieces bs) (sym (pieces_push b bs f) ∙ e)
]
  where
    go : (q : Bytes) (qs : List Bytes) → q ∷ qs ≡ p ∷ ps → 0 < length q → 0 < length p
    go q qs z l = let i : q ≡ p = cc in rw (← i) l

    pushed : (qs : List Bytes) → push b qs ≡ p ∷ ps → 0 < length p
    pushed [] z = go (b ∷ []) [] z (omega arith)
    pushed (q ∷ qs) z = go (b ∷ q) qs z (omega arith)

-- The lines, one at a time

module _ (lim : Limits) (imposed : Option Version) (room : ℕ) (h : Bytes) (end : ℕ) (q : Point) (p : Bytes) (ps : List Bytes) where
  abbrev answer : Answer (Stage × List Entry)
  answer = step_on lim imposed h q.entries q.at q.stage (line_of p)

  pub go_out : ltb q.at end ≡ false → go_on lim imposed room h end q (p ∷ ps) ≡ record { stop = None; point = q }
  unfolding go_on
  go_out e = rw (go_on, e)

  module _ (l : ltb q.at end ≡ true) where
    pub go_refused : {m : ℕ} → answer ≡ refuse m → go_on lim imposed room h end q (p ∷ ps) ≡ record { stop = Some m; point = q }
    unfolding go_on
    go_refused a = rw (go_on, l, a)

    module _ {x : Stage × List Entry} (a : answer ≡ ok x) where
      pub go_full : leb (length q.entries + length x.1) room ≡ false → go_on lim imposed room h end q (p ∷ ps) ≡ record { stop = Some 24; point = q }
      unfolding go_on
      go_full e = rw (go_on, l, a, e)

      pub go_more : leb (length q.entries + length x.1) room ≡ true → go_on lim imposed room h end q (p ∷ ps) ≡ go_on lim imposed room h end (passed q p x) ps
      unfolding go_on
      go_more e = rw (go_on, l, a, e)

pub go_none : (lim : Limits) (imposed : Option Version) (room : ℕ) (h : Bytes) (end : ℕ) (q : Point) → go_on lim imposed room h end q [] ≡ record { stop = None; point = q }
unfolding go_on
go_none lim imposed room h end q = refl

-- nothing begins before an end that is not after the point
pub go_past : (lim : Limits) (imposed : Option Version) (room : ℕ) (h : Bytes) (end : ℕ) (q : Point) (ps : List Bytes) → end ≤ q.at → go_on lim imposed room h end q ps ≡ record { stop = None; point = q }
go_past lim imposed room h end q [] l = go_none lim imposed room h end q
go_past lim imposed room h end q (p ∷ ps) l = go_out lim imposed room h end q p ps (le-ltb q.at end l)

-- How far the lines go: the point stays in the header, there is room for its entries, and they stand in the header if those before them do

pub record Inside (lim : Limits) (room : ℕ) (h : Bytes) (q : Point) : Type 0 where
  pub at : q.at ≤ length h
  pub line : q.line ≤ q.at
  pub roomy : length q.entries ≤ room

pub record Further (lim : Limits) (room : ℕ) (h : Bytes) (q : Point) (w : Went) : Type 0 where
  pub inside : Inside lim room h w.point
  pub new : List Entry
  pub more : w.point.entries ≡ q.entries ++ new
  pub stand : All (Stands lim (length h)) new

-- a line further
pub passed_inside : (lim : Limits) (imposed : Option Version) (room : ℕ) (h : Bytes) (q : Point) (p : Bytes) (ps : List Bytes) → Inside lim room h q → pieces (drop q.at h) ≡ p ∷ ps
    → (x : Stage × List Entry) → leb (length q.entries + length x.1) room ≡ true → Inside lim room h (passed q p x) × (pieces (drop (q.at + length p) h) ≡ ps)
passed_inside lim imposed room h q p ps i e x r =
    let f = first_line h q.at p ps i.at e in
    let s = piece_some (drop q.at h) p ps e in
    (record { at = f.next; line = omega (arith, i.line); roomy = rw (length-append q.entries x.1) (leb-true _ room r) }, f.left)

pub goes_inside : (lim : Limits) (imposed : Option Version) (room : ℕ) (h : Bytes) (end : ℕ) (q : Point) (ps : List Bytes) → Inside lim room h q → pieces (drop q.at h) ≡ ps
    → Further lim room h q (go_on lim imposed room h end q ps)
goes_inside lim imposed room h end q [] i e = rw (go_none lim imposed room h end q) (record { inside = i; new = []; more = sym (append-nil q.entries); stand = tt })
goes_inside lim imposed room h end q (p ∷ ps) i e =
    elim (test (ltb q.at end)) [
      | fail l ↦ rw (go_out lim imposed room h end q p ps l) (stays i None)
      | pass l ↦ elim (see (step_on lim imposed h q.entries q.at q.stage (line_of p))) [
        | not_read m a ↦ rw (go_refused lim imposed room h end q p ps l a) (stays i (Some m))
        | was x a ↦ elim (test (leb (length q.entries + length x.1) room)) [
          | fail t ↦ rw (go_full lim imposed room h end q p ps l a t) (stays i (Some 24))
          | pass t ↦
              let n = passed_inside lim imposed room h q p ps i e x t in
              let f = goes_inside lim imposed room h end (passed q p x) ps n.0 n.1 in
              rw (go_more lim imposed room h end q p ps l a t) (record {
                inside = f.inside;
                new = x.1 ++ f.new;
                more = f.more ∙ append_assoc q.entries x.1 f.new;
                stand = all_append (Stands lim (length h)) x.1 f.new (took_stand lim imposed h q.entries q.at q.stage p ps i.at e a) f.stand;
              })
        ]
      ]
    ]
  where
    stays : Inside lim room h q → (n : Option ℕ) → Further lim room h q (record { stop = n; point = q })
    stays i n = record { inside = i; new = []; more = sym (append-nil q.entries); stand = tt }
