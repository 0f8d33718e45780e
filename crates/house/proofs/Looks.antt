-- What a look over the entries tells before any is written: whether all lines stand in form, whether a key is typed.
-- Assumes nothing.
use Prim.Native.Nat.{ℕ, ◌+◌, ◌≤◌, ◌<◌}
use native.Mathlib.Omega.{arith}
use mathlib.Core.Path.{◌≡◌, refl, sym, ap, subst, ◌∙◌}
use mathlib.Core.Bool.{Bool, true, false, not, ◌||◌}
use mathlib.Core.List.{List, [], ◌∷◌, ◌++◌}
use lib.Dec.{ltb}
use lib.ListN.{length, take, drop, take-append-drop}
use borrow.Author.Tests.{lt-ltb, le-ltb, ltb-true, ltb-false}
use Rattle.values.specs.Bytes.{Bytes, is, any, same, starts}
use Rattle.values.specs.Written.{last}
use Rattle.values.proofs.Tests.{pass, fail, test, or_l, or_r, and_l, and_r, and_off, not_true, not_false, both}
use Rattle.values.proofs.Sames.{same_sound}
use Rattle.rules.specs.Version.{Version}
use Rattle.rules.specs.Known.{is_in, typed_keys, is_typed}
use Rattle.rules.specs.Claims.{All}
use Rattle.rules.specs.Entry.{Entry}
use Rattle.rules.specs.Shown.{line_in}
use Rattle.ids.specs.Clashes.{prefix_of}
use Rattle.entries.specs.declared.entry.Entry.{Entry as CodeEntry}
use Rattle.entries.specs.declared.form.Form.{Form}
use Rattle.entries.specs.Values.{entry_of}
use Rattle.entries.specs.Tables.{room, entry_in, entries_in}
use Rattle.entries.proofs.Stored.{entries_here, entries_past}
use Rattle.forms.specs.Lines.{house_line}
use Rattle.forms.specs.Formed.{FormedLine}
use Rattle.house.specs.declared.progress.Progress.{Progress}
use Rattle.house.specs.Writes.{WroteLines, Readable}
use Rattle.house.specs.Keys.{is_record, is_under, picked, Listed, AllListed, AreFormed, is_typed_record, any_typed, lines_under, PutsKeys, is_other_record, prefix_in}
use Rattle.house.proofs.Writes.{wrote_no_lines}

-- Entries that have keys

pub listed_at : (f : Bool) (v : Version) (h : Bytes) (xs : List Entry) (e : Entry) (ys : List Entry) → AllListed f v h (xs ++ e ∷ ys) → is_record e ≡ true → Listed f v h e
listed_at f v h [] e ys a q = a.0 q
listed_at f v h (x ∷ xs) e ys a q = listed_at f v h xs e ys a.1 q

pub listed_nth : (form : Form) (f : Bool) (v : Version) (h : Bytes) (t : List ℕ) → AllListed f v h (entries_in form t) → (m : ℕ) → m < room form t → is_record (entry_in form t m) ≡ true → Listed f v h (entry_in form t m)
listed_nth form f v h t a m l = listed_at f v h (take m (entries_in form t)) (entry_in form t m) (drop (m + 1) (entries_in form t))
    (subst (AllListed f v h) (sym (take-append-drop m (entries_in form t)) ∙ ap (take m (entries_in form t) ++◌) (entries_here form t m l)) a)

pub other_record : (e : Entry) → is_other_record e ≡ true → is_record e ≡ true
other_record e q =
    let a = ltb-true 6 e.kind (and_l (ltb 6 e.kind) (ltb e.kind 9) q) in
    rw (lt-ltb 1 e.kind (omega arith), and_r (ltb 6 e.kind) (ltb e.kind 9) q)

-- an entry is under the prefix of a key that is not typed only if the key is its own
pub own_key : (f : Bool) (v : Version) (h : Bytes) (e : Entry) → (is_record e ≡ true → Listed f v h e) → (k : Bytes) → any (is 61) k ≡ false → is_typed k ≡ false → is_under h (prefix_of k) e ≡ true
    → (is_other_record e ≡ true) × (prefix_in h e ≡ prefix_of k)
unfolding is_under
own_key f v h e l k p t u =
    let g = l (and_l (is_record e) (starts (prefix_of k) (line_in h e)) u) in
    let s = same_sound g.key k (sym (g.under k p) ∙ u) in
    (g.other ∙ rw (s, t), g.prefix ∙ ap prefix_of s)

-- The loop that asks whether the lines stand in form: if those from number k on do, all do

pub record Forming (form : Form) (v : Version) (h : Bytes) (t : List ℕ) (k : ℕ) : Type 0 where
  pub still : AllListed false v h (entries_in form t) → AllListed true v h (drop k (entries_in form t)) → AllListed true v h (entries_in form t)

pub forming_all : (form : Form) (v : Version) (h : Bytes) (t : List ℕ) → Forming form v h t 0
forming_all form v h t = record { still = λ a b. b }

pub forming_not : (v : Version) (h : Bytes) (es : List Entry) → AreFormed v h es false
forming_not v h es = record { is = λ a. a }

module _ {form : Form} {v : Version} {h : Bytes} {t : List ℕ} {k : ℕ} (g : Forming form v h t k) {n : ℕ} (en : n ≡ room form t) where
  pub forming_end : n ≤ k → AreFormed v h (entries_in form t) true
  forming_end l = record { is = λ a. g.still a (subst (AllListed true v h) (sym (entries_past form t k (rw (← en) l))) tt) }

  module _ (l : k < n) {e : CodeEntry} (ee : entry_of e ≡ entry_in form t k) {q : Bool} (u : q ≡ is_record (entry_of e)) where
    here_formed : drop k (entries_in form t) ≡ entry_of e ∷ drop (k + 1) (entries_in form t)
    here_formed = entries_here form t k (rw (← en) l) ∙ ap (◌∷ drop (k + 1) (entries_in form t)) (sym ee)

    forming_more : (Listed false v h (entry_of e) → is_record (entry_of e) ≡ true → Listed true v h (entry_of e)) → Forming form v h t (k + 1)
    forming_more f = record {
      still = λ a b. g.still a (subst (AllListed true v h) (sym here_formed) (
        λ r. f (listed_at false v h (take k (entries_in form t)) (entry_of e) (drop (k + 1) (entries_in form t))
            (subst (AllListed false v h) (sym (take-append-drop k (entries_in form t)) ∙ ap (take k (entries_in form t) ++◌) here_formed) a) r) r,
        b,
      ));
    }

    pub forming_aside : q ≡ false → Forming form v h t (k + 1)
    forming_aside f = forming_more (λ a r. both r (sym u ∙ f))

    -- the line of a record that can be read stands in form
    pub forming_own : {line : Bytes} → line ≡ line_in h (entry_of e) → (Readable v line → house_line v line ≡ line) → Forming form v h t (k + 1)
    forming_own i f = forming_more (λ a r.
        let d = a.readable in record {
          readable = d;
          copied = λ q. subst (λ (x : Bytes). house_line v x ≡ x) i (f (subst (Readable v) (sym i) d));
          key = a.key;
          plain = a.plain;
          other = a.other;
          prefix = a.prefix;
          under = a.under;
        })

    pub forming_line : {line : Bytes} → line ≡ line_in h (entry_of e) → {z : Bool} → FormedLine v line z → not z ≡ false → Forming form v h t (k + 1)
    forming_line i {z} f o = forming_own i (λ d. f.is (not_false z o) d.line d.read d.entry)

pub ruleset formings = (forming_all, forming_not, forming_end, forming_aside, forming_line)

-- Typed keys, where no entry has one

module _ (e : CodeEntry) where
  pub typed_low : e.kind < 2 → false ≡ is_typed_record (entry_of e)
  typed_low l = rw (le-ltb 1 e.kind (omega arith))

  pub typed_high : 7 ≤ e.kind → false ≡ is_typed_record (entry_of e)
  typed_high l = rw (le-ltb e.kind 7 l, and_off (ltb 1 e.kind) refl)

  pub typed_is : 2 ≤ e.kind → e.kind < 7 → true ≡ is_typed_record (entry_of e)
  typed_is a b = rw (lt-ltb 1 e.kind (omega arith), lt-ltb e.kind 7 b)

-- no entry before number k has one
pub record Untyped (form : Form) (t : List ℕ) (k : ℕ) : Type 0 where
  pub still : any_typed (entries_in form t) ≡ any_typed (drop k (entries_in form t))

pub untyped_start : {form : Form} {t : List ℕ} → Untyped form t 0
untyped_start = record { still = refl }

module _ {form : Form} {t : List ℕ} {k : ℕ} (g : Untyped form t k) {n : ℕ} (en : n ≡ room form t) where
  pub untyped_end : n ≤ k → false ≡ any_typed (entries_in form t)
  unfolding any_typed
  untyped_end l = sym (g.still ∙ rw (entries_past form t k (rw (← en) l)))

  module _ (l : k < n) {e : CodeEntry} (ee : entry_of e ≡ entry_in form t k) {q : Bool} (u : q ≡ is_typed_record (entry_of e)) where
    untyped_turn : any_typed (entries_in form t) ≡ (q || any_typed (drop (k + 1) (entries_in form t)))
    unfolding any_typed
    untyped_turn = g.still ∙ rw (entries_here form t k (rw (← en) l), ← ee, ← u)

    pub typed_here : q ≡ true → true ≡ any_typed (entries_in form t)
    typed_here f = sym (untyped_turn ∙ rw f)

    pub untyped_more : q ≡ false → Untyped form t (k + 1)
    untyped_more f = record { still = untyped_turn ∙ rw f }

pub ruleset untypeds = (typed_low, typed_high, typed_is, untyped_start, untyped_end, typed_here, untyped_more)

untyped_under : (f : Bool) (v : Version) (h : Bytes) (e : Entry) → (is_record e ≡ true → Listed f v h e) → is_typed_record e ≡ false → (k : Bytes) → any (is 61) k ≡ false → is_typed k ≡ true → is_under h (prefix_of k) e ≡ false
unfolding is_under
untyped_under f v h e l n k p t = elim (test (is_under h (prefix_of k) e)) [
  | fail q ↦ q
  | pass q ↦
      let r = and_l (is_record e) (starts (prefix_of k) (line_in h e)) q in
      let g = l r in
      let s = same_sound g.key k (sym (g.under k p) ∙ q) in
      let low = and_l (ltb 1 e.kind) (ltb e.kind 9) r in
      let high : ltb e.kind 7 ≡ false = rw low at n in
      let o : is_other_record e ≡ true = rw (lt-ltb 6 e.kind (omega (arith, ltb-false e.kind 7 high)), and_r (ltb 1 e.kind) (ltb e.kind 9) r) in
      both t (ap is_typed (sym s) ∙ not_true (is_typed g.key) (sym g.other ∙ o))
]

untyped_picked : (f : Bool) (v : Version) (h : Bytes) (es : List Entry) → AllListed f v h es → any_typed es ≡ false → (k : Bytes) → any (is 61) k ≡ false → is_typed k ≡ true → picked v h (prefix_of k) es ≡ []
unfolding picked any_typed
untyped_picked f v h [] a n k p t = refl
untyped_picked f v h (e ∷ es) a n k p t =
    rw (untyped_under f v h e a.0 (or_l (is_typed_record e) (any_typed es) n) k p t) (untyped_picked f v h es a.1 (or_r (is_typed_record e) (any_typed es) n) k p t)

untyped_lines : (f : Bool) (v : Version) (h : Bytes) (es : List Entry) → AllListed f v h es → any_typed es ≡ false → (ks : List Bytes) → All (λ k. (any (is 61) k ≡ false) × (is_typed k ≡ true)) ks → lines_under v h es ks ≡ []
unfolding lines_under
untyped_lines f v h es a n [] w = refl
untyped_lines f v h es a n (k ∷ ks) w = rw (untyped_picked f v h es a n k w.0.0 w.0.1) (untyped_lines f v h es a n ks w.1)

-- what answers the needs of `put_typed`
pub typed_none : (v : Version) (h : Bytes) {es : List Entry} {q : Bool} → q ≡ any_typed es → not q ≡ true → (given old : Bytes) (s : Progress) → s.next.at ≤ last → s.lines ≤ last → length old ≤ last
    → PutsKeys v h es typed_keys given old s s old
unfolding any is_typed is_in same
typed_none v h {es} {q} e n given old s a b d = record {
  is = λ x. subst (λ (ls : List Bytes). WroteLines given old s ls s old)
      (sym (untyped_lines s.formed v h es x (sym e ∙ not_true q n) typed_keys ((refl, refl), ((refl, refl), ((refl, refl), ((refl, refl), ((refl, refl), tt)))))))
      (wrote_no_lines given old s a b d);
}
