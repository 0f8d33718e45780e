-- The entries of a key, a turn of each loop on plain values. Assumes nothing.
use Prim.Native.Nat.{ℕ, ◌+◌, ◌-◌, ◌≤◌, ◌<◌}
use native.Mathlib.Omega.{arith}
use mathlib.Core.Path.{◌≡◌, refl, sym, ap, subst, ◌∙◌}
use mathlib.Core.Bool.{Bool, true, false}
use mathlib.Core.List.{List, [], ◌∷◌, ◌++◌, append-nil}
use lib.Dec.{eqb, ltb}
use lib.ListN.{length, drop, take}
use borrow.Author.Tests.{lt-ltb, le-ltb}
use Rattle.values.specs.Bytes.{Bytes, ascii, starts, same}
use Rattle.values.specs.Written.{last}
use Rattle.values.proofs.Tests.{pass, fail, test, and_off}
use Rattle.rules.specs.Version.{Version}
use Rattle.rules.specs.Known.{typed_keys}
use Rattle.rules.specs.Entry.{Entry}
use Rattle.rules.specs.Shown.{line_in}
use Rattle.entries.specs.declared.entry.Entry.{Entry as CodeEntry}
use Rattle.entries.specs.Values.{entry_of}
use Rattle.entries.specs.Tables.{room, entries_in, entry_in}
use Rattle.entries.proofs.Stored.{entries_here, entries_past}
use Rattle.ids.specs.Clashes.{prefix_of}
use Rattle.house.specs.declared.progress.Progress.{Progress}
use Rattle.forms.specs.Lines.{house_line}
use Rattle.house.specs.Writes.{WroteLines}
use Rattle.house.specs.Keys.{is_record, is_under, picked, AllListed, PutsKey, lines_under, later_keys, PutsKeys}
use Rattle.house.proofs.Writes.{wrote_no_lines, then_lines}
use Rattle.entries.specs.declared.form.Form.{Form}

-- what is under a key begins with its prefix: a part as long as that is the same
starts_same : (p s : Bytes) → starts p s ≡ same (take (length p) s) p
unfolding starts same
starts_same [] s = refl
starts_same (c ∷ p) [] = refl
starts_same (c ∷ p) (b ∷ bs) = elim (test (eqb b c)) [
  | pass e ↦ rw (starts, same, e) (starts_same p bs)
  | fail e ↦ rw (starts, same, e)
]

-- what answers the needs of `is_under`
module _ (e : CodeEntry) where
  pub record_low : e.kind < 2 → false ≡ is_record (entry_of e)
  record_low l = rw (le-ltb 1 e.kind (omega arith))

  pub record_high : 8 < e.kind → false ≡ is_record (entry_of e)
  record_high l = rw (le-ltb e.kind 9 (omega arith), and_off (ltb 1 e.kind) refl)

  pub record_is : 2 ≤ e.kind → e.kind ≤ 8 → true ≡ is_record (entry_of e)
  record_is a b = rw (lt-ltb 1 e.kind (omega arith), lt-ltb e.kind 9 (omega arith))

  module _ (h prefix : Bytes) {q : Bool} (a : q ≡ is_record (entry_of e)) where
    pub under_not : q ≡ false → false ≡ is_under h prefix (entry_of e)
    unfolding is_under
    under_not n = rw (← a, n)

    pub under_line : q ≡ true → {p : Bytes} → p ≡ line_in h (entry_of e) → {r : Bool} → r ≡ starts prefix p → r ≡ is_under h prefix (entry_of e)
    unfolding is_under
    under_line n i f = f ∙ rw (← a, n, i)

    pub under_part : q ≡ true → {p : Bytes} → p ≡ line_in h (entry_of e) → {t : Bytes} → t ≡ take (length prefix - 0) (drop 0 p)
        → {r : Bool} → r ≡ same t prefix → r ≡ is_under h prefix (entry_of e)
    under_part n {p} i c f = let z : length prefix - 0 ≡ length prefix = omega arith in under_line n i (f ∙ rw (c, z) (sym (starts_same prefix p)))

pub ruleset unders = (record_low, record_high, record_is, under_not, under_part)

module _ (v : Version) (h prefix : Bytes) (e : Entry) (es : List Entry) where
  pub picked_yes : is_under h prefix e ≡ true → picked v h prefix (e ∷ es) ≡ house_line v (line_in h e) ∷ picked v h prefix es
  unfolding picked
  picked_yes u = rw u

  pub picked_no : is_under h prefix e ≡ false → picked v h prefix (e ∷ es) ≡ picked v h prefix es
  unfolding picked
  picked_no u = rw u

-- what is listed is so after lines were written
pub listed_on : {given old : Bytes} {s : Progress} {ls : List Bytes} {r : Progress} {new : Bytes} → WroteLines given old s ls r new → (v : Version) (h : Bytes) (es : List Entry) → AllListed s.formed v h es → AllListed r.formed v h es
listed_on w v h es a = subst (λ (f : Bool). AllListed f v h es) (sym w.formed) a

-- The loop over the entries of a key: the lines of those before number k are written

pub record Picking (form : Form) (v : Version) (h : Bytes) (t : List ℕ) (prefix given old : Bytes) (s₀ : Progress) (new : Bytes) (s : Progress) (k : ℕ) : Type 0 where
  pub size : length new ≡ length old
  pub is : AllListed s₀.formed v h (entries_in form t)
      → (ls : List Bytes) × ((picked v h prefix (entries_in form t) ≡ ls ++ picked v h prefix (drop k (entries_in form t))) × WroteLines given old s₀ ls s new)

pub pick_start : (form : Form) (v : Version) (h : Bytes) (t : List ℕ) (prefix given old : Bytes) (s : Progress) → s.next.at ≤ last → s.lines ≤ last → length old ≤ last → Picking form v h t prefix given old s old s 0
pick_start form v h t prefix given old s a b d = record { size = refl; is = λ g. ([], (refl, wrote_no_lines given old s a b d)) }

module _ {form : Form} {v : Version} {h : Bytes} {t : List ℕ} {prefix given old : Bytes} {s₀ : Progress} {new : Bytes} {s : Progress} {k : ℕ} (g : Picking form v h t prefix given old s₀ new s k) {n : ℕ} (en : n ≡ room form t) where
  -- e is the entry that the code got
  pub pick_other : k < n → {e : CodeEntry} → entry_of e ≡ entry_in form t k → {q : Bool} → q ≡ is_under h prefix (entry_of e) → q ≡ false → Picking form v h t prefix given old s₀ new s (k + 1)
  pick_other l {e} ee u f = record {
    size = g.size;
    is = λ a.
        let d = g.is a in
        let w = entry_in form t k in (
          d.0,
          (
            d.1.0 ∙ ap (d.0 ++◌) (ap (picked v h prefix) (entries_here form t k (rw (← en) l)) ∙ picked_no v h prefix w (drop (k + 1) (entries_in form t)) (ap (is_under h prefix) (sym ee) ∙ sym u ∙ f)),
            d.1.1,
          ),
        );
  }

  pub pick_end : n ≤ k → PutsKey v h (entries_in form t) prefix given old s₀ s new
  unfolding picked
  pick_end l = record {
    is = λ a.
        let d = g.is a in
        subst (λ (ls : List Bytes). WroteLines given old s₀ ls s new) (sym (d.1.0 ∙ ap (d.0 ++◌) (rw (entries_past form t k (rw (← en) l))) ∙ append-nil d.0)) d.1.1;
  }

pub ruleset picks = (pick_other, pick_end)

-- what answers the needs of `put_later_typed` and `put_typed`
module _ {v : Version} {h : Bytes} {es : List Entry} {given : Bytes} where
  one_key : {k old : Bytes} {s : Progress} {ks : List Bytes} {r : Progress} {o : Bytes} {r' : Progress} {o' : Bytes} → PutsKey v h es (prefix_of k) given old s r o → PutsKeys v h es ks given o r r' o' → PutsKeys v h es (k ∷ ks) given old s r' o'
  unfolding lines_under
  one_key p q = record { is = λ a. let w = p.is a in then_lines w (q.is (listed_on w v h es a)) }

  last_key : {k old : Bytes} {s r : Progress} {o : Bytes} → PutsKey v h es (prefix_of k) given old s r o → PutsKeys v h es (k ∷ []) given old s r o
  unfolding lines_under
  last_key {k} {old} {s} {r} {o} p = record { is = λ a. subst (λ (ls : List Bytes). WroteLines given old s ls r o) (sym (append-nil (picked v h (prefix_of k) es))) (p.is a) }

  pub later_keys_lem : {old : Bytes} {s r₁ : Progress} {o₁ : Bytes} → PutsKey v h es (prefix_of (ascii "FORMAT")) given old s r₁ o₁
      → {r₂ : Progress} {o₂ : Bytes} → PutsKey v h es (prefix_of (ascii "ALT")) given o₁ r₁ r₂ o₂
      → {r₃ : Progress} {o₃ : Bytes} → PutsKey v h es (prefix_of (ascii "contig")) given o₂ r₂ r₃ o₃ → PutsKeys v h es later_keys given old s r₃ o₃
  later_keys_lem a b c = one_key a (one_key b (last_key c))

  pub typed_keys_lem : {old : Bytes} {s r₁ : Progress} {o₁ : Bytes} → PutsKey v h es (prefix_of (ascii "INFO")) given old s r₁ o₁
      → {r₂ : Progress} {o₂ : Bytes} → PutsKey v h es (prefix_of (ascii "FILTER")) given o₁ r₁ r₂ o₂
      → {r₃ : Progress} {o₃ : Bytes} → PutsKeys v h es later_keys given o₂ r₂ r₃ o₃ → PutsKeys v h es typed_keys given old s r₃ o₃
  typed_keys_lem a b c = one_key a (one_key b c)
