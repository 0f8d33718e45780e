-- The index's answers in C. Assumes nothing.
use Rattle.std.specs.Prelude.{Some, None}
use Prim.Native.Nat.{ℕ}
use mathlib.Core.Path.{◌≡◌, ap, ◌∙◌}
use mathlib.Core.List.{List}
use lib.ListN.{length}
use Rattle.values.specs.Bytes.{Bytes}
use Rattle.entries.specs.declared.form.Form.{Form}
use Rattle.index.specs.Index.{indexed_in, build_number, build_answer, built_index, find_in}
use Rattle.index.specs.declared.build.BuildAnswer.{BuildAnswer}
use Rattle.index.specs.declared.find.Search.{Search}
use Rattle.capi.specs.Searches.{indexed_as, found_by, found_as}
use Rattle.capi.specs.declared.indexes.VcfhIndexed.{VcfhIndexed}
use Rattle.capi.specs.declared.indexes.VcfhFound.{VcfhFound}

module _ (s : Search) where
  pub found_entry : {n : ℕ} → s.found ≡ Some n → found_by (Some n) s.looked ≡ found_as s
  found_entry e = rw e

  pub found_none : s.found ≡ None → found_by None s.looked ≡ found_as s
  found_none e = rw e

pub ruleset founds = (found_entry, found_none)

module _ (h : Bytes) (t index : List ℕ) {g form : Form} (k : g ≡ form) where
  pub index_answer : {r : BuildAnswer} → r ≡ build_answer (length index) (indexed_in g h t) → {n : ℕ} → n ≡ build_number r.outcome
      → record { number = n; placed = r.placed } ≡ indexed_as (build_answer (length index) (indexed_in form h t))
  index_answer {r} a {n} b = ap (indexed r.placed) b ∙ ap indexed_as (a ∙ ap (λ (f : Form). build_answer (length index) (indexed_in f h t)) k)
    where
      indexed : ℕ → ℕ → VcfhIndexed
      indexed placed n = record { number = n; placed = placed }

  pub index_list : {index' : List ℕ} → index' ≡ built_index g h t index → index' ≡ built_index form h t index
  index_list a = a ∙ ap (λ (f : Form). built_index f h t index) k

  pub find_answer : (kind : ℕ) (id : Bytes) {s : Search} → s ≡ find_in g h t index kind id → {r : VcfhFound} → r ≡ found_as s → r ≡ found_as (find_in form h t index kind id)
  find_answer kind id a b = b ∙ ap found_as (a ∙ ap (λ (f : Form). find_in f h t index kind id) k)

pub ruleset indexes = (index_answer, index_list, find_answer)
