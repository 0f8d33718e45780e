-- A step, and the walk of all steps: it shows, in order, what the plain calls show. Assumes nothing.
use Prim.Native.Nat.{ℕ, zero, suc, ◌+◌, ◌-◌, ◌^◌, ◌≤◌, ◌<◌}
use native.Mathlib.Omega.{arith}
use mathlib.Core.Path.{◌≡◌, refl, sym, ap, ◌∙◌}
use mathlib.Core.Bool.{◌&&◌}
use mathlib.Core.List.{List, [], ◌∷◌}
use Rattle.std.specs.Prelude.{Option, None, Some}
use lib.Dec.{ltb}
use lib.ListN.{length, get_or}
use borrow.Author.Tests.{ltb-true}
use mir.Syntax.{w64}
use mir.Val.{Fits}
use Rattle.values.specs.Bytes.{Bytes}
use Rattle.values.proofs.Tests.{pass, fail, test, and_l, never}
use Rattle.values.proofs.Lists.{none_not}
use Rattle.rules.specs.Shown.{Part as RulePart, well_formed}
use Rattle.entries.specs.declared.form.Form.{Form}
use Rattle.entries.proofs.Tables.{room_small}
use Rattle.entries.specs.Tables.{room, words_clear, entry_in, entry_at, shown_entry}
use Rattle.entries.specs.Shown.{answered, or_refused, shown_as}
use Rattle.entries.proofs.Calls.{answer_is}
use Rattle.view.specs.Steps.{stepped, step_at, steps, shown_from, steps_to}
use Rattle.view.specs.declared.Stepped.{Stepped}

-- A step

-- an entry that is shown lies in the table
shown_near : (form : Form) (h : Bytes) (table : List ℕ) (n : ℕ) {p : RulePart} → shown_entry form h table n ≡ Some p → n < room form table
unfolding entry_at words_clear
shown_near form h table n e = elim (test (words_clear form table n && well_formed (length h) (entry_in form table n))) [
  | pass f ↦ ltb-true n (room form table) (and_l (ltb n (room form table)) _ (and_l (words_clear form table n) _ f))
  | fail f ↦ none_not (rw (entry_at, f) at e)
]

-- the answer behind what is shown
shown_part : (o : Option RulePart) {s e : ℕ} → Some (s, e) ≡ shown_as o → o ≡ Some (s, e)
shown_part None e = never cc
shown_part (Some p) {s} {e} q = let a : s ≡ p.0 = cc in let b : e ≡ p.1 = cc in rw (a, b)

shown_none : (o : Option RulePart) → None ≡ shown_as o → o ≡ None
shown_none None e = refl
shown_none (Some p) e = never cc

module _ (form : Form) (h : Bytes) (table : List ℕ) (at : ℕ) {r : Option (ℕ × ℕ)} (said : answered r ≡ or_refused (shown_entry form h table at)) where
  a : r ≡ shown_as (shown_entry form h table at)
  a = answer_is r (shown_entry form h table at) said

  pub step_refused : r ≡ None → ◌≡◌ {A = Stepped} (record { found = r; at = at }) (step_at form h table at)
  step_refused e = rw (← a, e)

  module _ {s e : ℕ} (b : r ≡ Some (s, e)) where
    pub step_shown : ◌≡◌ {A = Stepped} (record { found = r; at = at + 1 }) (step_at form h table at)
    step_shown = rw (← a, b)

    pub step_fits : length table < 2 ^ 64 → Fits w64 (at + 1)
    step_fits l =
        let n = shown_near form h table at (shown_part (shown_entry form h table at) (sym b ∙ a)) in
        record { fits = omega (arith, room_small form table) }

pub ruleset one_step = (step_refused, step_shown, step_fits)

stepped_found : (at : ℕ) (x : Option (ℕ × ℕ)) → (stepped at x).found ≡ x
stepped_found at (Some (s, e)) = refl
stepped_found at None = refl

stepped_on : (at : ℕ) {x : Option (ℕ × ℕ)} {s e : ℕ} → x ≡ Some (s, e) → (stepped at x).at ≡ at + 1
stepped_on at e = rw e

module _ (form : Form) (h : Bytes) (table : List ℕ) (at : ℕ) {p : Stepped} (a : p ≡ step_at form h table at) where
  found_is : p.found ≡ shown_as (shown_entry form h table at)
  found_is = ap (λ (q : Stepped). q.found) a ∙ stepped_found at (shown_as (shown_entry form h table at))

  on : {s e : ℕ} → p.found ≡ Some (s, e) → (p.at ≡ at + 1) × (shown_entry form h table at ≡ Some (s, e))
  on b =
      let q = sym b ∙ found_is in
      (ap (λ (q : Stepped). q.at) a ∙ stepped_on at (sym q), shown_part (shown_entry form h table at) q)

-- The walk

steps_more : (n : ℕ) (form : Form) (h : Bytes) (table : List ℕ) (at : ℕ) {p : RulePart} → shown_entry form h table at ≡ Some p → steps (suc n) form h table at ≡ p ∷ steps n form h table (at + 1)
unfolding steps
steps_more n form h table at e = rw (steps, e)

steps_end : (n : ℕ) (form : Form) (h : Bytes) (table : List ℕ) (at : ℕ) → shown_entry form h table at ≡ None → steps n form h table at ≡ []
unfolding steps
steps_end zero form h table at e = refl
steps_end (suc n) form h table at e = rw (steps, e)

-- what is left to be counted
pub record Counting (form : Form) (h : Bytes) (table : List ℕ) (first at : ℕ) : Type 0 where
  pub fuel : ℕ
  pub enough : room form table ≤ at + fuel
  pub from : first ≤ at
  pub counted : length (shown_from form h table first) ≡ at - first + length (steps fuel form h table at)

pub count_all : (form : Form) (h : Bytes) (table : List ℕ) (first : ℕ) → Counting form h table first first
count_all form h table first = record { fuel = room form table; enough = omega arith; from = omega arith; counted = omega arith }

module _ {form : Form} {h : Bytes} {table : List ℕ} {first at : ℕ} (g : Counting form h table first at) {p : Stepped} (a : p ≡ step_at form h table at) where
  pub count_end : p.found ≡ None → at - first ≡ length (shown_from form h table first)
  count_end e =
      let f = steps_end g.fuel form h table at (shown_none (shown_entry form h table at) (sym e ∙ found_is form h table at a)) in
      let n = g.counted ∙ ap (λ (x : List RulePart). at - first + length x) f in
      omega arith

  module _ {s e : ℕ} (b : p.found ≡ Some (s, e)) where
    pub count_less : room form table - p.at < room form table - at
    count_less = let q = on form h table at a b in let n = shown_near form h table at q.1 in omega (arith, q.0)

    pub count_more : Counting form h table first p.at
    count_more = go g.fuel g.enough g.counted
      where
        go : (n : ℕ) → room form table ≤ at + n → length (shown_from form h table first) ≡ at - first + length (steps n form h table at) → Counting form h table first p.at
        go zero l c = let q = on form h table at a b in let n = shown_near form h table at q.1 in absurd (omega arith)
        go (suc n) l c =
            let q = on form h table at a b in
            let f = g.from in
            let t = c ∙ ap (λ (x : List RulePart). at - first + length x) (steps_more n form h table at q.1) in
            rw q.0 (record { fuel = n; enough = omega arith; from = omega arith; counted = omega arith })

pub ruleset counts = (count_all, count_end, count_less, count_more)

-- What is shown, in order

steps_shown : (n : ℕ) (form : Form) (h : Bytes) (table : List ℕ) (at k : ℕ) → k < length (steps n form h table at) → shown_entry form h table (at + k) ≡ Some (get_or (steps n form h table at) k (0, 0))
unfolding steps
steps_shown zero form h table at k l = absurd (omega arith)
steps_shown (suc n) form h table at k l = go (λ k l. steps_shown n form h table (at + 1) k l) (shown_entry form h table at) refl k l
  where
    go : ((k : ℕ) → k < length (steps n form h table (at + 1)) → shown_entry form h table (at + 1 + k) ≡ Some (get_or (steps n form h table (at + 1)) k (0, 0)))
        → (o : Option RulePart) → shown_entry form h table at ≡ o → (k : ℕ) → k < length {A = RulePart} (elim o [ None ↦ [] | Some p ↦ p ∷ steps n form h table (at + 1) ])
        → shown_entry form h table (at + k) ≡ Some (get_or {A = RulePart} (elim o [ None ↦ [] | Some p ↦ p ∷ steps n form h table (at + 1) ]) k (0, 0))
    go next None e k l = absurd (omega arith)
    go next (Some p) e zero l = let z : at + zero ≡ at = omega arith in rw z e
    go next (Some p) e (suc k) l = let z : at + suc k ≡ at + 1 + k = omega arith in rw z (next k (omega arith))

steps_ended : (n : ℕ) (form : Form) (h : Bytes) (table : List ℕ) (at : ℕ) → room form table ≤ at + n → shown_entry form h table (at + length (steps n form h table at)) ≡ None
unfolding steps
steps_ended zero form h table at l = let z : at + zero ≡ at = omega arith in rw z (past (shown_entry form h table at) refl)
  where
    past : (o : Option RulePart) → shown_entry form h table at ≡ o → shown_entry form h table at ≡ None
    past None e = e
    past (Some p) e = let n = shown_near form h table at e in absurd (omega arith)
steps_ended (suc n) form h table at l = go (steps_ended n form h table (at + 1) (omega arith)) (shown_entry form h table at) refl
  where
    go : shown_entry form h table (at + 1 + length (steps n form h table (at + 1))) ≡ None
        → (o : Option RulePart) → shown_entry form h table at ≡ o → shown_entry form h table (at + length {A = RulePart} (elim o [ None ↦ [] | Some p ↦ p ∷ steps n form h table (at + 1) ])) ≡ None
    go next None e = let z : at + zero ≡ at = omega arith in rw z e
    go next (Some p) e = let z : at + suc (length (steps n form h table (at + 1))) ≡ at + 1 + length (steps n form h table (at + 1)) = omega arith in rw z next

-- the walk's parts are, in order, what the entry call shows of the numbers from the first on
pub walk_shown : (form : Form) (h : Bytes) (table : List ℕ) (first k : ℕ) → k < length (shown_from form h table first) → shown_entry form h table (first + k) ≡ Some (get_or (shown_from form h table first) k (0, 0))
walk_shown form h table first k l = steps_shown (room form table) form h table first k l

-- and it ends where that call refuses
pub walk_ended : (form : Form) (h : Bytes) (table : List ℕ) (first : ℕ) → shown_entry form h table (first + length (shown_from form h table first)) ≡ None
walk_ended form h table first = steps_ended (room form table) form h table first (omega arith)

steps_moved : (n : ℕ) (form : Form) (h : Bytes) (table : List ℕ) (at k : ℕ) → k ≤ length (steps n form h table at) → steps_to k form h table at ≡ at + k
unfolding steps steps_to
steps_moved n form h table at zero l = omega arith
steps_moved zero form h table at (suc k) l = absurd (omega arith)
steps_moved (suc n) form h table at (suc k) l = go (λ m. steps_moved n form h table (at + 1) k m) (shown_entry form h table at) l
  where
    go : (k ≤ length (steps n form h table (at + 1)) → steps_to k form h table (at + 1) ≡ at + 1 + k) → (o : Option RulePart) → suc k ≤ length {A = RulePart} (elim o [ None ↦ [] | Some p ↦ p ∷ steps n form h table (at + 1) ])
        → steps_to k form h table (stepped at (shown_as o)).at ≡ at + suc k
    go next None l = absurd (omega arith)
    go next (Some p) l = let z : at + suc k ≡ at + 1 + k = omega arith in rw z (next (omega arith))

-- until then each step leads to the next number
pub walk_moved : (form : Form) (h : Bytes) (table : List ℕ) (first k : ℕ) → k ≤ length (shown_from form h table first) → steps_to k form h table first ≡ first + k
walk_moved form h table first k l = steps_moved (room form table) form h table first k l

-- so the view's step number k shows what the entry call shows of entry first + k
pub walk_found : (form : Form) (h : Bytes) (table : List ℕ) (first k : ℕ) → k ≤ length (shown_from form h table first) → (step_at form h table (steps_to k form h table first)).found ≡ shown_as (shown_entry form h table (first + k))
walk_found form h table first k l = rw (walk_moved form h table first k l) (stepped_found (first + k) (shown_as (shown_entry form h table (first + k))))
