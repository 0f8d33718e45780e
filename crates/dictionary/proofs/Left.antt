-- The lines before an entry, and those that a loop over the entries has left. Assumes nothing.
use Prim.Native.Nat.{ℕ, suc, ◌+◌, ◌<◌, ◌≤◌}
use native.Mathlib.Omega.{arith}
use mathlib.Core.Path.{◌≡◌, refl, sym, ap, ◌∙◌}
use mathlib.Core.Bool.{Bool, true, false}
use mathlib.Core.List.{List, [], ◌∷◌, ◌++◌, append-nil}
use lib.ListN.{length, take, drop, take-append-drop, length-append}
use lib.Seq.{take-add, length-take-le}
use Rattle.values.specs.Bytes.{Bytes}
use Rattle.entries.specs.declared.entry.Entry.{Entry as CodeEntry}
use Rattle.entries.specs.Values.{entry_of}
use Rattle.entries.specs.Tables.{room, entries_in, entry_in}
use Rattle.entries.proofs.Stored.{entries_here, entries_past, entries_count}
use Rattle.rules.specs.Entry.{Entry}
use Rattle.dictionary.specs.Dictionary.{Line, line_if}
use Rattle.dictionary.specs.Lines.{holds, line_of_entry, entry_lines, table_lines, lines_before, ordinal, entry_of_line}
use Rattle.dictionary.specs.declared.line.Dictionary.{Dictionary}
use Rattle.entries.specs.declared.form.Form.{Form}

-- those from entry k on
abbrev pub left : Dictionary → Form → Bytes → List ℕ → ℕ → List Line
left d form h t k = entry_lines d h k (drop k (entries_in form t))

module _ (d : Dictionary) (form : Form) (h : Bytes) (t : List ℕ) (k : ℕ) {n : ℕ} (en : n ≡ room form t) where
  pub left_end : n ≤ k → left d form h t k ≡ []
  unfolding entry_lines
  left_end l = rw (entries_past form t k (rw (← en) l))

  -- e is the entry that the code got
  module _ (l : k < n) {e : CodeEntry} (ee : entry_of e ≡ entry_in form t k) {q : Bool} (eq : q ≡ holds d e.kind) where
    left_turn : left d form h t k ≡ line_if q (line_of_entry h k (entry_of e)) (left d form h t (k + 1))
    unfolding entry_lines
    left_turn = rw (entries_here form t k (rw (← en) l), ← ee, eq)

    pub left_skip : q ≡ false → left d form h t k ≡ left d form h t (k + 1)
    left_skip f = left_turn ∙ rw f

    pub left_take : q ≡ true → left d form h t k ≡ line_of_entry h k (entry_of e) ∷ left d form h t (k + 1)
    left_take f = left_turn ∙ rw f

-- Those before entry k

lines_append : (d : Dictionary) (h : Bytes) (n : ℕ) (xs ys : List Entry) → entry_lines d h n (xs ++ ys) ≡ entry_lines d h n xs ++ entry_lines d h (n + length xs) ys
unfolding entry_lines
lines_append d h n [] ys = let e : n + 0 ≡ n = omega arith in rw e
lines_append d h n (x ∷ xs) ys =
    let e : n + 1 + length xs ≡ n + suc (length xs) = omega arith in
    go (holds d x.kind) (lines_append d h (n + 1) xs ys ∙ rw e)
  where
    go : (q : Bool) → entry_lines d h (n + 1) (xs ++ ys) ≡ entry_lines d h (n + 1) xs ++ entry_lines d h (n + suc (length xs)) ys
        → line_if q (line_of_entry h n x) (entry_lines d h (n + 1) (xs ++ ys)) ≡ line_if q (line_of_entry h n x) (entry_lines d h (n + 1) xs) ++ entry_lines d h (n + suc (length xs)) ys
    go true e = ap (line_of_entry h n x ∷◌) e
    go false e = e

module _ (d : Dictionary) (form : Form) (h : Bytes) (t : List ℕ) (k : ℕ) where
  taken : k ≤ room form t → length (take k (entries_in form t)) ≡ k
  taken l = length-take-le k (entries_in form t) (rw (entries_count form t) l)

  pub split_at : k ≤ room form t → table_lines d form h t ≡ lines_before d form h t k ++ left d form h t k
  split_at l =
      let e : 0 + length (take k (entries_in form t)) ≡ k = omega (arith, taken l) in
      ap (entry_lines d h 0) (sym (take-append-drop k (entries_in form t))) ∙ lines_append d h 0 (take k (entries_in form t)) (drop k (entries_in form t)) ∙ rw e

  module _ (l : k < room form t) {x : Entry} (ex : x ≡ entry_in form t k) {q : Bool} (eq : q ≡ holds d x.kind) where
    before_turn : lines_before d form h t (k + 1) ≡ lines_before d form h t k ++ line_if q (line_of_entry h k x) []
    unfolding entry_lines
    before_turn =
        let here : drop k (entries_in form t) ≡ x ∷ drop (k + 1) (entries_in form t) = entries_here form t k l ∙ ap (◌∷ drop (k + 1) (entries_in form t)) (sym ex) in
        let more : take (k + 1) (entries_in form t) ≡ take k (entries_in form t) ++ x ∷ [] = take-add k 1 (entries_in form t) ∙ rw here in
        let c : 0 + length (take k (entries_in form t)) ≡ k = omega (arith, taken (omega arith)) in
        ap (entry_lines d h 0) more ∙ lines_append d h 0 (take k (entries_in form t)) (x ∷ []) ∙ rw (c, eq)

    pub before_skip : q ≡ false → lines_before d form h t (k + 1) ≡ lines_before d form h t k
    before_skip f = before_turn ∙ rw f (append-nil (lines_before d form h t k))

    pub before_take : q ≡ true → lines_before d form h t (k + 1) ≡ lines_before d form h t k ++ line_of_entry h k x ∷ []
    before_take f = before_turn ∙ rw f

-- The numbers of lines

lines_few : (d : Dictionary) (h : Bytes) (n : ℕ) (es : List Entry) → length (entry_lines d h n es) ≤ length es
unfolding entry_lines
lines_few d h n [] = omega arith
lines_few d h n (e ∷ es) = go (holds d e.kind) (lines_few d h (n + 1) es)
  where
    go : (q : Bool) → length (entry_lines d h (n + 1) es) ≤ length es → length (line_if q (line_of_entry h n e) (entry_lines d h (n + 1) es)) ≤ suc (length es)
    go true l = omega (arith, l)
    go false l = omega (arith, l)

entry_there : (xs : List Line) (l : Line) (ys : List Line) → entry_of_line (xs ++ l ∷ ys) (length xs) ≡ l.entry
unfolding entry_of_line
entry_there [] l ys = refl
entry_there (x ∷ xs) l ys = entry_there xs l ys

module _ (d : Dictionary) (form : Form) (h : Bytes) (t : List ℕ) (k : ℕ) where
  pub ordinal_few : k ≤ room form t → ordinal d form h t k ≤ k
  ordinal_few l = omega (arith, lines_few d h 0 (take k (entries_in form t)), taken d form h t k l)

  pub before_all : room form t ≤ k → k ≤ room form t → lines_before d form h t k ≡ table_lines d form h t
  before_all l m = sym (split_at d form h t k m ∙ ap (lines_before d form h t k ++◌) (left_end d form h t k refl l) ∙ append-nil (lines_before d form h t k))

  module _ (l : k < room form t) (f : holds d (entry_in form t k).kind ≡ true) where
    pub ordinal_next : ordinal d form h t (k + 1) ≡ ordinal d form h t k + 1
    ordinal_next = ap length (before_take d form h t k l refl refl f) ∙ length-append (lines_before d form h t k) (line_of_entry h k (entry_in form t k) ∷ [])

    abbrev line : Line
    line = line_of_entry h k (entry_in form t k)

    parted : table_lines d form h t ≡ lines_before d form h t k ++ line ∷ left d form h t (k + 1)
    unfolding entry_lines
    parted =
        let here : left d form h t k ≡ line ∷ left d form h t (k + 1) = rw (entries_here form t k l, f) in
        split_at d form h t k (omega arith) ∙ rw here

    pub ordinal_below : ordinal d form h t k < length (table_lines d form h t)
    ordinal_below = omega (arith, ap length parted ∙ length-append (lines_before d form h t k) (line ∷ left d form h t (k + 1)))

    pub ordinal_entry : entry_of_line (table_lines d form h t) (ordinal d form h t k) ≡ k
    ordinal_entry = ap (λ (ls : List Line). entry_of_line ls (ordinal d form h t k)) parted ∙ entry_there (lines_before d form h t k) line (left d form h t (k + 1))
