-- The size of a form: what is summed over its lines is summed over the entries, in the header's order. Assumes nothing.
use Prim.Native.Nat.{ℕ, zero, suc, ◌+◌, ◌≤◌, ◌<◌, ◌^◌}
use native.Mathlib.Omega.{arith}
use mathlib.Core.Path.{◌≡◌, refl, sym, ap, subst, ◌∙◌}
use mathlib.Core.Bool.{Bool, true, false, not, ◌||◌, or_assoc, or-false}
use mathlib.Core.List.{List, [], ◌∷◌, ◌++◌, append_assoc, append-nil}
use Rattle.std.specs.Option.{option_or}
use Rattle.std.specs.Prelude.{Option, None, Some, Ok, Err}
use lib.Dec.{eqb, leb}
use lib.ListN.{length, drop, length-append}
use borrow.Author.Tests.{le-leb, lt-leb, leb-true, leb-false, eqb-true, eqb-false}
use Rattle.values.specs.Bytes.{Bytes, is, any, same, starts}
use Rattle.values.specs.Written.{last, onward}
use Rattle.values.proofs.Tests.{pass, fail, test, or_on, and_l, and_r, not_true, not_false, both, never}
use Rattle.values.proofs.Sames.{same_sound, same_self, same_sym}
use Rattle.rules.specs.Version.{Version}
use Rattle.rules.specs.Known.{is_in, typed_keys, is_typed}
use Rattle.rules.specs.Lines.{ends, write_line, write_lines}
use Rattle.rules.specs.Sizes.{Limits}
use Rattle.rules.specs.Record.{fileformat}
use Rattle.rules.specs.House.{write_record, too_long}
use Rattle.rules.specs.Entry.{Entry}
use Rattle.rules.specs.Shown.{line_in}
use Rattle.ids.specs.Clashes.{prefix_of}
use Rattle.entries.specs.declared.entry.Entry.{Entry as CodeEntry}
use Rattle.entries.specs.declared.form.Form.{Form}
use Rattle.entries.specs.declared.limits.Limits.{Limits as CodeLimits}
use Rattle.entries.specs.Values.{entry_of, limits_of, limits_by}
use Rattle.entries.specs.Tables.{room, entries_in, entry_in}
use Rattle.entries.proofs.Stored.{entries_here, entries_past}
use Rattle.entries.proofs.Words.{limits_small}
use Rattle.forms.specs.Formed.{FormedLine}
use Rattle.forms.specs.Lines.{record_line, house_line, WroteEnded}
use Rattle.forms.specs.declared.line.LineWritten.{LineWritten}
use Rattle.forms.proofs.Lines.{entry_is, entry_ended}
use Rattle.house.specs.declared.progress.Progress.{Progress}
use Rattle.house.specs.declared.sizes.Sum.{Sum}
use Rattle.house.specs.declared.form.Compared.{Compared}
use Rattle.house.specs.declared.form.FormRefusal.TheVariants.{NoRoom}
use Rattle.house.specs.Writes.{long_in, WroteLines, Readable}
use Rattle.house.specs.Keys.{is_record, is_under, picked, is_other_record, prefix_in, Listed, AllListed, AreFormed, lines_under, seen_under, is_first, lines_if, other_lines}
use Rattle.house.specs.Forms.{column_line, record_lines, form_lines, PutsForm, outcome_of, fitted_as, written_of, WritesForm, ComparesForm}
use Rattle.house.specs.Sizes.{line_size, with_line, size_of, listed_lines, AddsPut, AddsRecord, SumsLines, outer_lines, SizesForm}
use Rattle.house.proofs.Writes.{line_longer, then_lines}
use Rattle.house.proofs.Picks.{picked_yes, picked_no}
use Rattle.house.proofs.Looks.{listed_at, listed_nth, other_record, own_key, Forming, forming_all, forming_not, forming_end, forming_aside, forming_own}

-- n if the test holds
abbrev weigh : Bool → ℕ → ℕ
weigh true n = n
weigh false n = 0

-- c holds where a or b does, and these never both do
abbrev Parts : Bool → Bool → Bool → Type 0
Parts a b c = (n : ℕ) → weigh c n ≡ weigh a n + weigh b n

part_first : {a b c : Bool} → a ≡ true → b ≡ false → c ≡ true → Parts a b c
part_first x y z n = rw (x, y, z) (omega arith)

part_second : {a b c : Bool} → a ≡ false → b ≡ c → Parts a b c
part_second x y n = rw (x, y) (omega arith)

-- Sums over entries

unfoldable sum_if : (Entry → ℕ) → (Entry → Bool) → List Entry → ℕ
sum_if w p [] = 0
sum_if w p (e ∷ es) = weigh (p e) (w e) + sum_if w p es

-- Sums over lines

unfoldable total : (Bytes → ℕ) → List Bytes → ℕ
total f [] = 0
total f (l ∷ ls) = f l + total f ls

-- 1 if a line is too long
abbrev excess : ℕ → Bytes → ℕ
excess limit l = elim (leb (length l) limit) [ true ↦ 0 | false ↦ 1 ]

total_append : (g : Bytes → ℕ) (ls ms : List Bytes) → total g (ls ++ ms) ≡ total g ls + total g ms
unfolding total
total_append g [] ms = omega arith
total_append g (l ∷ ls) ms = omega (arith, total_append g ls ms)

total_size : (ls : List Bytes) → length (write_lines ls) ≡ total line_size ls
unfolding total write_lines
total_size [] = refl
total_size (l ∷ ls) = length-append (write_line l) (write_lines ls) ∙ ap (line_size l +◌) (total_size ls)

none_long : (limit n start : ℕ) (ls : List Bytes) → total (excess limit) ls ≡ 0 → too_long limit n start ls ≡ None
unfolding total too_long
none_long limit n start [] z = refl
none_long limit n start (l ∷ ls) z = elim (test (leb (length l) limit)) [
  | pass q ↦ let y : total (excess limit) ls ≡ 0 = omega (arith, z) in rw (too_long, q) (none_long limit (suc n) (start + length (write_line l)) ls y)
  | fail q ↦ let y : 1 + total (excess limit) ls ≡ 0 = rw (excess, q) at z in absurd (omega arith)
]

long_none : (limit n start : ℕ) (ls : List Bytes) → too_long limit n start ls ≡ None → total (excess limit) ls ≡ 0
unfolding total too_long
long_none limit n start [] z = refl
long_none limit n start (l ∷ ls) z = elim (test (leb (length l) limit)) [
  | pass q ↦ let y = long_none limit (suc n) (start + length (write_line l)) ls (rw (too_long, q) at z) in rw (excess, q) (omega (arith, y))
  | fail q ↦ let y : ◌≡◌ {A = Option (ℕ × ℕ)} (Some (suc n, start)) None = rw (too_long, q) at z in never cc
]

-- The size of lines of which m are too long, and which take n bytes

abbrev sized : ℕ → ℕ → ℕ
sized zero n = onward 0 n
sized (suc m) n = last

sized_long : (m n : ℕ) → 0 < m → sized m n ≡ last
sized_long zero n l = absurd (omega arith)
sized_long (suc m) n l = refl

sized_large : (m n : ℕ) → last < n → sized m n ≡ last
unfolding onward
sized_large zero n l = omega arith
sized_large (suc m) n l = refl

sized_more : (m n a : ℕ) → onward (sized m n) a ≡ sized m (a + n)
unfolding onward
sized_more zero n a = omega arith
sized_more (suc m) n a = omega arith

sized_small : (m n k : ℕ) → sized m n ≤ k → k < last → (m ≡ 0) × (n ≡ sized m n)
unfolding onward
sized_small zero n k a b = (refl, omega arith)
sized_small (suc m) n k a b = absurd (omega arith)

size_totals : (limit : ℕ) (ls : List Bytes) → size_of limit ls ≡ sized (total (excess limit) ls) (total line_size ls)
unfolding size_of with_line total onward
size_totals limit [] = omega arith
size_totals limit (l ∷ ls) = elim (test (leb (length l) limit)) [
  | pass q ↦
      let z : 0 + total (excess limit) ls ≡ total (excess limit) ls = omega arith in
      rw (with_line, excess, q, size_totals limit ls, z) (sized_more (total (excess limit) ls) (total line_size ls) (line_size l))
  | fail q ↦ rw (with_line, excess, q) (sym (sized_long (1 + total (excess limit) ls) (line_size l + total line_size ls) (omega arith)))
]

-- the order is no matter
size_same : (limit : ℕ) (ls ms : List Bytes) → ((g : Bytes → ℕ) → total g ls ≡ total g ms) → size_of limit ls ≡ size_of limit ms
size_same limit ls ms f = size_totals limit ls ∙ rw (f (excess limit), f line_size) (sym (size_totals limit ms))

size_snoc : (limit : ℕ) (ls : List Bytes) (l : Bytes) → size_of limit (ls ++ l ∷ []) ≡ with_line limit (size_of limit ls) l
unfolding size_of total
size_snoc limit ls l = size_same limit (ls ++ l ∷ []) (l ∷ ls) (λ g. let z = total_append g ls (l ∷ []) in omega (arith, z))

-- The form's lines of the records

module _ (v : Version) (h : Bytes) where
  abbrev Told : Entry → Type 0
  Told e = is_record e ≡ true → Listed false v h e

  module _ (w : Entry → ℕ) where
    sum_parts : (p q r : Entry → Bool) → ((x : Entry) → Told x → Parts (p x) (q x) (r x)) → (es : List Entry) → AllListed false v h es → sum_if w r es ≡ sum_if w p es + sum_if w q es
    unfolding sum_if
    sum_parts p q r g [] a = omega arith
    sum_parts p q r g (e ∷ es) a = omega (arith, g e a.0 (w e), sum_parts p q r g es a.1)

    sum_same : (p q : Entry → Bool) → ((x : Entry) → Told x → p x ≡ q x) → (es : List Entry) → AllListed false v h es → sum_if w p es ≡ sum_if w q es
    unfolding sum_if
    sum_same p q g [] a = refl
    sum_same p q g (e ∷ es) a = rw (g e a.0, sum_same p q g es a.1)

  abbrev Plain : Bytes → Type 0
  Plain k = any (is 61) k ≡ false

  under_record : (p : Bytes) (e : Entry) → is_under h p e ≡ true → is_record e ≡ true
  unfolding is_under
  under_record p e u = and_l (is_record e) (starts p (line_in h e)) u

  no_record : (p : Bytes) (e : Entry) → is_record e ≡ false → is_under h p e ≡ false
  unfolding is_under
  no_record p e r = rw r

  -- under one of these keys
  unfoldable under_any : List Bytes → Entry → Bool
  under_any [] e = false
  under_any (k ∷ ks) e = is_under h (prefix_of k) e || under_any ks e

  -- keys without `=`, of which none is another
  abbrev Apart : List Bytes → Type 0
  Apart [] = Unit {0}
  Apart (k ∷ ks) = Plain k × ((is_in k ks ≡ false) × Apart ks)

  any_none : (ks : List Bytes) (e : Entry) → is_record e ≡ false → under_any ks e ≡ false
  unfolding under_any
  any_none [] e r = refl
  any_none (k ∷ ks) e r = rw (no_record (prefix_of k) e r) (any_none ks e r)

  any_own : (ks : List Bytes) → Apart ks → (e : Entry) (g : Listed false v h e) → under_any ks e ≡ is_in g.key ks
  unfolding under_any is_in
  any_own [] a e g = refl
  any_own (k ∷ ks) a e g = rw (g.under k a.0, same_sym g.key k, any_own ks a.1.1 e g)

  -- an entry under a key is under none of the others
  any_parts : (k : Bytes) (ks : List Bytes) → Apart (k ∷ ks) → (e : Entry) → Told e → Parts (is_under h (prefix_of k) e) (under_any ks e) (under_any (k ∷ ks) e)
  unfolding under_any
  any_parts k ks a e t = elim (test (is_under h (prefix_of k) e)) [
    | pass u ↦
        let g = t (under_record (prefix_of k) e u) in
        let s = same_sound g.key k (sym (g.under k a.0) ∙ u) in
        let c : under_any (k ∷ ks) e ≡ true = rw u in
        part_first u (any_own ks a.1.1 e g ∙ ap (λ (x : Bytes). is_in x ks) s ∙ a.1.0) c
    | fail u ↦ let c : under_any ks e ≡ under_any (k ∷ ks) e = rw u in part_second u c
  ]

  -- an other record is under its own key, and any entry under this has this key
  own_under : (e : Entry) → Told e → is_other_record e ≡ true → is_under h (prefix_in h e) e ≡ true
  own_under e t o = let g = t (other_record e o) in rw g.prefix (g.under g.key g.plain ∙ same_self g.key)

  other_under : (x e : Entry) → Told x → Told e → is_other_record x ≡ true → is_under h (prefix_in h x) e ≡ true → (is_other_record e ≡ true) × (prefix_in h e ≡ prefix_in h x)
  other_under x e tx te o u =
      let g = tx (other_record x o) in
      let k = own_key false v h e te g.key g.plain (not_true (is_typed g.key) (sym g.other ∙ o)) (ap (λ (p : Bytes). is_under h p e) (sym g.prefix) ∙ u) in
      (k.0, k.1 ∙ sym g.prefix)

  seen_snoc : (p : Bytes) (es : List Entry) (e : Entry) → seen_under h p (es ++ e ∷ []) ≡ (seen_under h p es || is_under h p e)
  unfolding seen_under
  seen_snoc p [] e = or-false (is_under h p e)
  seen_snoc p (x ∷ es) e = rw (seen_snoc p es e) (sym (or_assoc (is_under h p x) (seen_under h p es) (is_under h p e)))

  module _ (ahead : List Entry) (e : Entry) (te : Told e) (x : Entry) (tx : Told x) where
    -- an entry that is not under the key of x leaves x where it is
    left_as : is_under h (prefix_in h x) e ≡ false → is_first h (ahead ++ e ∷ []) x ≡ is_first h ahead x
    unfolding is_first
    left_as u = rw (is_first, seen_snoc (prefix_in h x) ahead e, u, or-false (seen_under h (prefix_in h x) ahead))

    left_typed : is_other_record x ≡ false → is_first h (ahead ++ e ∷ []) x ≡ is_first h ahead x
    unfolding is_first
    left_typed o = rw (is_first, o)

    later : is_first h ahead e ≡ false → is_first h (ahead ++ e ∷ []) x ≡ is_first h ahead x
    unfolding is_first
    later n = elim (test (is_other_record x)) [
      | fail o ↦ left_typed o
      | pass o ↦ elim (test (is_under h (prefix_in h x) e)) [
        | fail u ↦ left_as u
        | pass u ↦
            let k = other_under x e tx te o u in
            let m : not (seen_under h (prefix_in h e) ahead) ≡ false = rw (is_first, k.0) at n in
            let s : seen_under h (prefix_in h x) ahead ≡ true = rw (← k.1) (not_false (seen_under h (prefix_in h e) ahead) m) in
            rw (is_first, seen_snoc (prefix_in h x) ahead e, s)
      ]
    ]

    first_parts : is_first h ahead e ≡ true → Parts (is_under h (prefix_in h e) x) (is_first h (ahead ++ e ∷ []) x) (is_first h ahead x)
    unfolding is_first
    first_parts n =
        let oe = and_l (is_other_record e) (not (seen_under h (prefix_in h e) ahead)) n in
        let own = own_under e te oe in
        elim (test (is_under h (prefix_in h e) x)) [
          | pass u ↦
              let k = other_under e x te tx oe u in
              let c : is_first h ahead x ≡ true = rw (is_first, k.0, k.1) (and_r (is_other_record e) (not (seen_under h (prefix_in h e) ahead)) n) in
              let b : is_first h (ahead ++ e ∷ []) x ≡ false = rw (is_first, k.0, k.1, seen_snoc (prefix_in h e) ahead e, or_on (seen_under h (prefix_in h e) ahead) own) in
              part_first u b c
          | fail u ↦ elim (test (is_other_record x)) [
            | fail o ↦ part_second u (left_typed o)
            | pass o ↦ elim (test (is_under h (prefix_in h x) e)) [
              | fail q ↦ part_second u (left_as q)
              | pass q ↦ let k = other_under x e tx te o q in both (own_under x tx o) (rw (← k.1) u)
            ]
          ]
        ]

  module _ (g : Bytes → ℕ) where
    abbrev w : Entry → ℕ
    w e = g (house_line v (line_in h e))

    total_picked : (p : Bytes) (es : List Entry) → AllListed false v h es → total g (picked v h p es) ≡ sum_if w (is_under h p) es
    unfolding picked total sum_if
    total_picked p [] a = refl
    total_picked p (e ∷ es) a = elim (test (is_under h p e)) [
      | pass u ↦ rw (picked_yes v h p e es u, u, total_picked p es a.1)
      | fail u ↦ rw (picked_no v h p e es u, u, total_picked p es a.1) (omega arith)
    ]

    total_listed : (es : List Entry) → total g (listed_lines v h es) ≡ sum_if w is_record es
    unfolding listed_lines total sum_if
    total_listed [] = refl
    total_listed (e ∷ es) = elim (test (is_record e)) [
      | pass r ↦ rw (listed_lines, r, total_listed es)
      | fail r ↦ rw (listed_lines, r, total_listed es) (omega arith)
    ]

    total_typed : (es : List Entry) → AllListed false v h es → (ks : List Bytes) → Apart ks → total g (lines_under v h es ks) ≡ sum_if w (under_any ks) es
    unfolding lines_under total sum_if under_any
    total_typed es a [] d = sym (sum_none es)
      where
        sum_none : (xs : List Entry) → sum_if w (under_any []) xs ≡ 0
        sum_none [] = refl
        sum_none (x ∷ xs) = omega (arith, sum_none xs)
    total_typed es a (k ∷ ks) d =
        total_append g (picked v h (prefix_of k) es) (lines_under v h es ks) ∙ rw (total_picked (prefix_of k) es a, total_typed es a ks d.1.1)
        (sym (sum_parts w (is_under h (prefix_of k)) (under_any ks) (under_any (k ∷ ks)) (any_parts k ks d) es a))

    -- where all entries were passed, none is the first of a key
    none_left : (ahead xs : List Entry) → AllListed false v h xs → ((p : Bytes) → seen_under h p xs ≡ true → seen_under h p ahead ≡ true) → sum_if w (is_first h ahead) xs ≡ 0
    unfolding sum_if seen_under is_first
    none_left ahead [] a k = refl
    none_left ahead (x ∷ xs) a k =
        let rest = none_left ahead xs a.1 (λ p s. k p (or_on (is_under h p x) s)) in
        elim (test (is_other_record x)) [
          | fail o ↦ let z : is_first h ahead x ≡ false = rw (is_first, o) in rw z (omega (arith, rest))
          | pass o ↦
              let s = k (prefix_in h x) (rw (own_under x a.0 o)) in
              let z : is_first h ahead x ≡ false = rw (is_first, o, s) in
              rw z (omega (arith, rest))
        ]

    total_others : (all ahead es : List Entry) → all ≡ ahead ++ es → AllListed false v h all → total g (other_lines v h all ahead es) ≡ sum_if w (is_first h ahead) all
    unfolding other_lines total
    total_others all ahead [] q a = sym (none_left ahead all a (λ p s. rw (← append-nil ahead, ← q) s))
    total_others all ahead (e ∷ es) q a =
        let te = listed_at false v h ahead e es (subst (AllListed false v h) q a) in
        let next = total_others all (ahead ++ e ∷ []) es (q ∙ sym (append_assoc ahead (e ∷ []) es)) a in
        let lines = picked v h (prefix_in h e) all in
        let sum = total_append g (lines_if (is_first h ahead e) lines) (other_lines v h all (ahead ++ e ∷ []) es) in
        elim (test (is_first h ahead e)) [
          | pass n ↦ sum ∙ rw (n, total_picked (prefix_in h e) all a, next) (sym (sum_parts w (is_under h (prefix_in h e)) (is_first h (ahead ++ e ∷ [])) (is_first h ahead) (λ x tx. first_parts ahead e te x tx n) all a))
          | fail n ↦
              let same_sum = sum_same w (is_first h (ahead ++ e ∷ [])) (is_first h ahead) (λ x tx. later ahead e te x tx n) all a in
              sum ∙ rw (n, next) (omega (arith, same_sum))
        ]

    typed_apart : Apart typed_keys
    unfolding any is_in same
    typed_apart = (refl, (refl, (refl, (refl, (refl, (refl, (refl, (refl, (refl, (refl, tt))))))))))

    -- a record is under a typed key, or it is of another
    record_parts : (x : Entry) → Told x → Parts (under_any typed_keys x) (is_first h [] x) (is_record x)
    unfolding is_first seen_under is_typed
    record_parts x t = elim (test (is_record x)) [
      | fail r ↦ elim (test (is_other_record x)) [
        | pass o ↦ both (other_record x o) r
        | fail o ↦ part_second (any_none typed_keys x r) (let z : is_first h [] x ≡ false = rw (is_first, o) in z ∙ sym r)
      ]
      | pass r ↦
          let l = t r in
          let u : under_any typed_keys x ≡ is_typed l.key = any_own typed_keys typed_apart x l in
          let o = l.other in
          elim (test (is_typed l.key)) [
            | pass q ↦ part_first (u ∙ q) (let z : is_first h [] x ≡ false = rw (is_first, o, q) in z) r
            | fail q ↦ part_second (u ∙ q) (let z : is_first h [] x ≡ true = rw (is_first, o, q) in z ∙ sym r)
          ]
    ]

    records_total : (es : List Entry) → AllListed false v h es → total g (record_lines v h es) ≡ total g (listed_lines v h es)
    unfolding record_lines
    records_total es a =
        total_append g (lines_under v h es typed_keys) (other_lines v h es [] es) ∙ rw (total_typed es a typed_keys typed_apart, total_others es [] es refl a, total_listed es)
        (sym (sum_parts w (under_any typed_keys) (is_first h []) is_record record_parts es a))

    -- the whole form
    form_total : (es : List Entry) → AllListed false v h es → total g (form_lines v h es) ≡ total g (outer_lines v (column_line h es) ++ listed_lines v h es)
    unfolding form_lines total
    form_total es a = let z = total_append g (record_lines v h es) (column_line h es ∷ []) in omega (arith, z, records_total es a)

-- what answers the needs of `add_line`
module _ (limit size : ℕ) (text : Bytes) where
  pub line_long : limit < length text → last ≡ with_line limit size text
  unfolding with_line
  line_long l = rw (with_line, lt-leb (length text) limit l)

  module _ (b : length text ≤ limit) {s : ℕ} (a : s ≡ onward size (length text)) {q : Bool} (e : q ≡ ends 13 text) where
    line_by_lem : (n : ℕ) → line_size text ≡ length text + n → {r : ℕ} → r ≡ onward s n → r ≡ with_line limit size text
    unfolding with_line onward
    line_by_lem n t c = rw (with_line, le-leb (length text) limit b) (omega (arith, a, c, t))

    pub line_cr : q ≡ true → {r : ℕ} → r ≡ onward s 2 → r ≡ with_line limit size text
    unfolding write_line
    line_cr t c = line_by_lem 2 (rw (write_line, ← e, t) (length-append text (13 ∷ 10 ∷ []))) c

    pub line_lf : q ≡ false → {r : ℕ} → r ≡ onward s 1 → r ≡ with_line limit size text
    unfolding write_line
    line_lf t c = line_by_lem 1 (rw (write_line, ← e, t) (length-append text (10 ∷ []))) c

pub ruleset line_sizes = (line_long, line_cr, line_lf)

-- what answers the needs of `add_put`
module _ (limit : ℕ) (v : Version) (size : ℕ) (l : Bytes) {given out : Bytes} {put : LineWritten} {o : Bytes} (w : WroteEnded given out (record { at = 0; differs = 0 }) (house_line v l) (ends 13 l) put o) where
  pub put_long : limit < put.end → AddsPut limit v size l last
  unfolding with_line onward
  put_long b = record { is = λ x. let z = w.place in rw (with_line, lt-leb (length (house_line v l)) limit (omega (arith, z))) }

  pub put_short : put.end ≤ limit → {r : ℕ} → r ≡ onward size put.next.at → AddsPut limit v size l r
  unfolding with_line onward
  put_short b c = record {
    is = λ x.
        let d = entry_ended v l x.line x.read x.entry w in
        let m = record_line v x.line in
        let e = d.0 in
        let p = d.1.place in
        rw (entry_is v l x.line x.read x.entry) (elim (test (leb (length m) limit)) [
          | pass q ↦ rw (with_line, q) (omega (arith, c, p))
          | fail q ↦ rw (with_line, q) (omega (arith, c, p, e, leb-false (length m) limit q, line_longer m))
        ]);
  }

pub ruleset put_sizes = (put_long, put_short)

-- what answers the needs of `add_record`
module _ (limit : ℕ) (v : Version) (s : Sum) (l : Bytes) where
  pub record_own : {q : Bool} → FormedLine v l q → q ≡ true → {n : ℕ} → n ≡ with_line limit s.size l → AddsRecord limit v s l (record { formed = s.formed; size = n })
  record_own f t c =
      let own : Readable v l → house_line v l ≡ l = λ x. f.is t x.line x.read x.entry in
      record { formed = λ e. (e, own); size = λ x. c ∙ ap (with_line limit s.size) (sym (own x)) }

  pub record_put : {n : ℕ} → AddsPut limit v s.size l n → AddsRecord limit v s l (record { formed = false; size = n })
  record_put p = record { formed = λ e. never cc; size = p.is }

pub ruleset record_sizes = (record_own, record_put)

-- The loop over the records: the lines of those before number k are added

pub record Summing (form : Form) (limit : ℕ) (v : Version) (h : Bytes) (t : List ℕ) (s : Sum) (k : ℕ) : Type 0 where
  pub forming : s.formed ≡ true → Forming form v h t k
  pub ls : List Bytes
  pub lines : listed_lines v h (entries_in form t) ≡ ls ++ listed_lines v h (drop k (entries_in form t))
  pub size : AllListed false v h (entries_in form t) → s.size ≡ size_of limit ls

pub summing_start : (form : Form) (limit : ℕ) (v : Version) (h : Bytes) (t : List ℕ) → Summing form limit v h t (record { formed = true; size = 0 }) 0
unfolding size_of
summing_start form limit v h t = record { forming = λ e. forming_all form v h t; ls = []; lines = refl; size = λ a. refl }

module _ {form : Form} {limit : ℕ} {v : Version} {h : Bytes} {t : List ℕ} {s : Sum} {k : ℕ} (g : Summing form limit v h t s k) {n : ℕ} (en : n ≡ room form t) where
  pub summing_end : n ≤ k → SumsLines limit v h (entries_in form t) s
  unfolding listed_lines
  summing_end l = record {
    formed = elim (test s.formed) [
      | pass q ↦ subst (AreFormed v h (entries_in form t)) (sym q) (forming_end (g.forming q) en l)
      | fail q ↦ subst (AreFormed v h (entries_in form t)) (sym q) (forming_not v h (entries_in form t))
    ];
    size = λ a. g.size a ∙ ap (size_of limit) (sym (g.lines ∙ ap (g.ls ++◌) (rw (entries_past form t k (rw (← en) l))) ∙ append-nil g.ls));
  }

  module _ (l : k < n) {e : CodeEntry} (ee : entry_of e ≡ entry_in form t k) {q : Bool} (u : q ≡ is_record (entry_of e)) where
    here : drop k (entries_in form t) ≡ entry_of e ∷ drop (k + 1) (entries_in form t)
    here = entries_here form t k (rw (← en) l) ∙ ap (◌∷ drop (k + 1) (entries_in form t)) (sym ee)

    pub summing_aside : q ≡ false → Summing form limit v h t s (k + 1)
    unfolding listed_lines
    summing_aside f =
        let z : listed_lines v h (drop k (entries_in form t)) ≡ listed_lines v h (drop (k + 1) (entries_in form t)) = rw (here, ← u, f) in
        record { forming = λ b. forming_aside (g.forming b) en l ee u f; ls = g.ls; lines = g.lines ∙ ap (g.ls ++◌) z; size = g.size }

    pub summing_line : q ≡ true → {line : Bytes} → line ≡ line_in h (entry_of e) → {r : Sum} → AddsRecord limit v s line r → Summing form limit v h t r (k + 1)
    unfolding listed_lines
    summing_line f {line} i c =
        let own = house_line v line in
        let rest = listed_lines v h (drop (k + 1) (entries_in form t)) in
        let z : listed_lines v h (drop k (entries_in form t)) ≡ own ∷ rest = rw (here, ← u, f, i) in
        record {
          forming = λ b. let x = c.formed b in forming_own (g.forming x.0) en l ee u i x.1;
          ls = g.ls ++ own ∷ [];
          lines = g.lines ∙ ap (g.ls ++◌) z ∙ sym (append_assoc g.ls (own ∷ []) rest);
          size = λ a.
              let y = (listed_nth form false v h t a k (rw (← en) l) (ap is_record (sym ee) ∙ sym u ∙ f)).readable in
              c.size (subst (Readable v) (ap (line_in h) (sym ee) ∙ sym i) y) ∙ ap (λ (m : ℕ). with_line limit m own) (g.size a) ∙ sym (size_snoc limit g.ls own);
        }

pub ruleset summings = (summing_start, summing_end, summing_aside, summing_line)

-- what answers the needs of `size_form`

-- nothing is counted yet, and nothing is held against anything
abbrev uncounted : ℕ → Progress
uncounted limit = record { limit = limit; next = record { at = 0; differs = 0 }; lines = 0; long = 0; start = 0; formed = true }

module _ (limit : ℕ) (v : Version) (columns : Bytes) {given old : Bytes} {r₁ : Progress} {o₁ : Bytes} (p : WroteLines given old (uncounted limit) (write_record (fileformat v) ∷ []) r₁ o₁)
    {r₂ : Progress} {o₂ : Bytes} (q : WroteLines given o₁ r₁ (columns ∷ []) r₂ o₂) (records : ℕ) where
  abbrev outer : List Bytes
  outer = outer_lines v columns

  abbrev over : ℕ
  over = total (excess limit) outer

  abbrev bytes : ℕ
  bytes = total line_size outer

  outer_put : WroteLines given old (uncounted limit) outer r₂ o₂
  outer_put = then_lines p q

  at_end_lem : r₂.next.at ≡ onward 0 bytes
  at_end_lem = outer_put.text.place ∙ ap (onward 0) (total_size outer)

  first_long : bytes ≤ last → long_in r₂ ≡ too_long limit 0 0 outer
  first_long l = let z = total_size outer in outer_put.long (omega (arith, z)) (omega arith)

  -- with other lines
  size_beside : (ls : List Bytes) → size_of limit (outer ++ ls) ≡ sized (over + total (excess limit) ls) (bytes + total line_size ls)
  size_beside ls = size_totals limit (outer ++ ls) ∙ rw (total_append (excess limit) outer ls, total_append line_size outer ls)

  pub size_none : 0 < r₂.long → SizesForm limit v columns records last
  size_none b = record {
    is = λ ls e. sym (size_beside ls ∙ elim (test (leb bytes last)) [
      | fail f ↦ sized_large (over + total (excess limit) ls) (bytes + total line_size ls) (omega (arith, leb-false bytes last f))
      | pass f ↦ elim (test (eqb over 0)) [
        | fail x ↦ sized_long (over + total (excess limit) ls) (bytes + total line_size ls) (omega (arith, eqb-false over 0 x))
        | pass x ↦ absurd (noted r₂.long refl (first_long (leb-true bytes last f) ∙ none_long limit 0 0 outer (eqb-true over 0 x)))
      ]
    ]);
  }
    where
      noted : (n : ℕ) → r₂.long ≡ n → long_in r₂ ≡ None → ⊥
      noted zero z y = omega arith
      noted (suc n) z y = let x : ◌≡◌ {A = Option (ℕ × ℕ)} (Some (suc n, r₂.start)) None = rw z at y in never cc

  pub size_sum : r₂.long ≤ 0 → {r : ℕ} → r ≡ onward r₂.next.at records → SizesForm limit v columns records r
  unfolding onward
  size_sum b {r} y = record {
    is = λ ls e.
        let m = total (excess limit) ls in
        let n = total line_size ls in
        let a = at_end_lem in
        sym (size_beside ls ∙ elim (test (leb bytes last)) [
          | fail f ↦ sized_large (over + m) (bytes + n) (omega (arith, leb-false bytes last f)) ∙ omega (arith, y, a, leb-false bytes last f)
          | pass f ↦
              let i = leb-true bytes last f in
              let zero-long : r₂.long ≡ 0 = omega arith in
              let none_yet : long_in r₂ ≡ None = rw zero-long in
              let z : over + m ≡ m = let c = long_none limit 0 0 outer (sym (first_long i) ∙ none_yet) in omega (arith, c) in
              rw z (sym (sized_more m n bytes) ∙ rw (← size_totals limit ls, ← e) (omega (arith, y, a, i)))
        ]);
  }

pub ruleset sizings = (size_none, size_sum)

-- what answers the needs of `write_form`
pub sum_formed : {limit : ℕ} {v : Version} {h : Bytes} {es : List Entry} {r : Sum} → SumsLines limit v h es r → AreFormed v h es r.formed
sum_formed s = s.formed

module _ (lim : Limits) (ls : List Bytes) where
  abbrev bytes_of : ℕ
  bytes_of = length (write_lines ls)

  -- lines that are too long, or of which one is, are so whatever room there is
  never_whole : lim.header < last → lim.header < size_of lim.line ls → (a b : ℕ) → (outcome_of lim a ls ≡ outcome_of lim b ls) × (written_of (outcome_of lim a ls) ls ≡ [])
  unfolding outcome_of onward
  never_whole small l a b = elim (test (leb bytes_of lim.header)) [
    | fail q ↦ (rw (outcome_of, q), rw (outcome_of, q))
    | pass q ↦ go (too_long lim.line 0 0 ls) refl q
  ]
    where
      go : (x : Option (ℕ × ℕ)) → too_long lim.line 0 0 ls ≡ x → leb bytes_of lim.header ≡ true → (outcome_of lim a ls ≡ outcome_of lim b ls) × (written_of (outcome_of lim a ls) ls ≡ [])
      go (Some p) e q = (rw (outcome_of, q, e), rw (outcome_of, q, e))
      go None e q =
          let z = size_totals lim.line ls in
          let x : size_of lim.line ls ≡ onward 0 (total line_size ls) = rw (long_none lim.line 0 0 ls e) at z in
          absurd (omega (arith, x, total_size ls, leb-true bytes_of lim.header q))

  -- lines that fit, and of which none is too long
  sum_fits : lim.header < last → size_of lim.line ls ≤ lim.header → (space : ℕ) → outcome_of lim space ls ≡ fitted_as space (size_of lim.line ls)
  unfolding outcome_of
  sum_fits small l space =
      let z = size_totals lim.line ls in
      let x = sized_small (total (excess lim.line) ls) (total line_size ls) lim.header (rw z at l) small in
      let y : bytes_of ≡ size_of lim.line ls = total_size ls ∙ x.1 ∙ sym z in
      rw (outcome_of, y, le-leb (size_of lim.line ls) lim.header l, none_long lim.line 0 0 ls x.0) (ap (fitted_as space) y)

module _ (form : Form) {limits : CodeLimits} (g : limits_of limits ≡ limits_by form) {v : Version} {h : Bytes} {es : List Entry} {r : Sum} (s : SumsLines limits.line v h es r)
    {columns : Bytes} (c : columns ≡ column_line h es) {size : ℕ} (y : SizesForm limits.line v columns r.size size) where
  abbrev ls : List Bytes
  ls = form_lines v h es

  small : limits.header < last
  small = let b : limits.header < 2 ^ 24 = subst (λ (x : Limits). x.header < 2 ^ 24) (sym g) (limits_small form) in omega (arith, b)

  size_is : AllListed false v h es → size ≡ size_of limits.line ls
  size_is a =
      y.is (listed_lines v h es) (s.size a) ∙ ap (λ (x : Bytes). size_of limits.line (outer_lines v x ++ listed_lines v h es)) c
      ∙ size_same limits.line (outer_lines v (column_line h es) ++ listed_lines v h es) ls (λ f. sym (form_total v h f es a))

  pub sum_refused : limits.header < size → {o : Compared} → ComparesForm (limits_by form) v h es o → {out : Bytes} → WritesForm (limits_by form) v h es out o.outcome out
  sum_refused l {o} p {out} = record { is = λ a. p.is a ∙ (never a (limits_by form).header (length out)).0; output = λ a. rw (p.is a, (never a (limits_by form).header 0).1) }
    where
      never : AllListed false v h es → (a b : ℕ) → (outcome_of (limits_by form) a ls ≡ outcome_of (limits_by form) b ls) × (written_of (outcome_of (limits_by form) a ls) ls ≡ [])
      never a = subst (λ (x : Limits). (m n : ℕ) → (outcome_of x m ls ≡ outcome_of x n ls) × (written_of (outcome_of x m ls) ls ≡ [])) g (never_whole (limits_of limits) ls small (rw (size_is a) at l))

  module _ (l : size ≤ limits.header) where
    fitted : (space : ℕ) → AllListed false v h es → outcome_of (limits_by form) space ls ≡ fitted_as space size
    fitted space a = ap (λ (x : Limits). outcome_of x space ls) (sym g) ∙ sum_fits (limits_of limits) ls small (rw (size_is a) at l) space ∙ ap (fitted_as space) (sym (size_is a))

    pub sum_no_room : {out : Bytes} → length out < size → WritesForm (limits_by form) v h es out (Err NoRoom) out
    sum_no_room {out} b = record { is = λ a. rw (fitted (length out) a, fitted_as, lt-leb size (length out) b); output = λ a. refl }

    pub sum_whole : {out : Bytes} → size ≤ length out → {given : Bytes} {m : Progress} {new : Bytes} → PutsForm limits.line r.formed v h es given out m new → WritesForm (limits_by form) v h es out (Ok size) new
    sum_whole {out} b p = record { is = λ a. rw (fitted (length out) a, fitted_as, le-leb size (length out) b); output = λ a. (p.is (s.formed.is a)).text.output }

pub ruleset sum_writes = (sum_formed, sum_refused, sum_no_room, sum_whole)
