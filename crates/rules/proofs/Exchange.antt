-- Lines that may change places: with them exchanged an accepted header is accepted, with the same room, and means the same. Assumes nothing.
use Prim.Native.Nat.{ℕ, zero, suc, ◌+◌, ◌≤◌}
use native.Mathlib.Omega.{arith}
use mathlib.Core.Path.{◌≡◌, refl, sym, ap, ap₂, subst, ◌∙◌}
use mathlib.Core.Bool.{Bool, true, false, false≢true}
use mathlib.Core.List.{List, [], ◌∷◌, ◌++◌, append_assoc, append-nil}
use Rattle.std.specs.Prelude.{Option, None, Some}
use mathlib.Core.Logic.{◌⊎◌, inl, inr, ⊎_elim}
use lib.Dec.{leb}
use lib.ListN.{length, length-append}
use Rattle.values.specs.Bytes.{Bytes, LF, ascii, is, same, starts}
use Rattle.values.specs.Utf8.{is_utf8}
use Rattle.values.proofs.Tests.{pass, fail, test, not_true, both, never}
use Rattle.values.proofs.Sames.{same_sound, same_sym}
use Rattle.rules.specs.Answer.{Answer, ok, refuse, first, judged}
use Rattle.rules.specs.Sizes.{Limits}
use Rattle.rules.specs.Lines.{push, pieces, line_of}
use Rattle.rules.specs.Version.{Version}
use Rattle.rules.specs.Known.{is_typed}
use Rattle.rules.specs.Record.{Record, fileformat, fields, text, read_record, key_of}
use Rattle.rules.specs.Columns.{Columns, read_columns}
use Rattle.rules.specs.Entry.{Entry, record_entry}
use Rattle.rules.specs.Reading.{beside, clash, State, empty, ready, done, enter, step_text, is_done, step, Reading, following, at_end, run, reading}
use Rattle.rules.specs.Meaning.{under, without, other_keys, groups, Meaning, header_meaning}
use Rattle.rules.specs.House.{house_form, house_lines, too_long, lined, form_answer, house}
use Rattle.rules.proofs.Firsts.{on_ok, was, not_read, see}
use Rattle.rules.proofs.Alls.{all_append}
use Rattle.rules.proofs.Pieces.{pieces_lf, pieces_push, nothing, cut, cut_first, last_of}
use Rattle.rules.proofs.Groups.{under_yes, under_no, keys_typed, keys_other, clash_all, all_clash, all_split, beside_other}
use Rattle.rules.proofs.Sound.{step_text_lem, run_refused, run_full, run_more}
use Rattle.rules.proofs.Back.{reading_short}
use Rattle.rules.proofs.Texts.{record_key}
use Rattle.rules.proofs.Refusals.{Begun, step_begun}
use Rattle.rules.proofs.Runs.{first_taken, done_more, goes, accepted_rest}
use Rattle.rules.proofs.Stands.{accepted_short}
use Rattle.rules.proofs.Trace.{Stepped, entered, finished, text_steps}
use Rattle.rules.specs.Claims.{All, Accepted, key_in, may_change, joined, Exchanged, Moved, unmoved, moved, SameMeaning}

-- Pieces

joined_pieces : (bs : Bytes) → joined (pieces bs) ≡ bs
unfolding pieces joined
joined_pieces [] = refl
joined_pieces (b ∷ bs) = elim (test (is LF b)) [
  | pass e ↦ ap joined (pieces_lf b bs e) ∙ ap (b ∷◌) (joined_pieces bs)
  | fail e ↦ ap joined (pieces_push b bs e) ∙ pushed (pieces bs) ∙ ap (b ∷◌) (joined_pieces bs)
]
  where
    pushed : (ps : List Bytes) → joined (push b ps) ≡ b ∷ joined ps
    pushed [] = refl
    pushed (p ∷ ps) = refl

-- a piece of its own, whatever follows it
abbrev Whole : Bytes → Type 0
Whole p = (x : Bytes) → pieces (p ++ x) ≡ p ∷ pieces x

not_nil : {A : Type 0} {p : Bytes} {ps : List Bytes} → ◌≡◌ {A = List Bytes} [] (p ∷ ps) → A
not_nil e = never cc

parts : {p q : Bytes} {ps qs : List Bytes} → p ∷ ps ≡ q ∷ qs → (p ≡ q) × (ps ≡ qs)
parts e = (cc, cc)

snoc_not : {A : Type 0} (ps : List Bytes) (z : Bytes) → [] ≡ ps ++ z ∷ [] → A
snoc_not [] z e = not_nil e
snoc_not (p ∷ ps) z e = not_nil e

no_pieces : (r : Bytes) → pieces r ≡ [] → r ≡ []
unfolding joined
no_pieces r e = sym (joined_pieces r) ∙ ap joined e

-- of a header's pieces all but the last are whole
all_whole : (h : Bytes) (ps : List Bytes) (z : Bytes) → pieces h ≡ ps ++ z ∷ [] → All Whole ps × (pieces z ≡ z ∷ [])
unfolding pieces
all_whole h [] z e = elim (cut_first h) [
  | nothing n ↦ not_nil (rw n at e)
  | cut p r a q t ↦
      let i = parts (sym q ∙ e) in
      let is : h ≡ z ++ [] = a ∙ ap₂ ◌++◌ i.0 (no_pieces r i.1) in
      (tt, sym (ap pieces (is ∙ append-nil z)) ∙ e)
]
all_whole h (p ∷ ps) z e = elim (cut_first h) [
  | nothing n ↦ not_nil (rw n at e)
  | cut p' r a q t ↦
      let i = parts (sym q ∙ e) in
      let d = all_whole r ps z i.1 in
      ((subst Whole i.0 (λ x. t x (λ n. snoc_not ps z (ap pieces (sym n) ∙ i.1))), d.0), d.1)
]

joined_cut : (ps : List Bytes) (z : Bytes) → All Whole ps → pieces z ≡ z ∷ [] → pieces (joined (ps ++ z ∷ [])) ≡ ps ++ z ∷ []
unfolding joined
joined_cut [] z w e = ap pieces (append-nil z) ∙ e
joined_cut (p ∷ ps) z w e = w.0 (joined (ps ++ z ∷ [])) ∙ ap (p ∷◌) (joined_cut ps z w.1 e)

all_exchanged : {A : Type 0} (P : A → Type 0) (xs : List A) (a b : A) (ys : List A) → All P (xs ++ a ∷ b ∷ ys) → All P (xs ++ b ∷ a ∷ ys)
all_exchanged P [] a b ys h = (h.1.0, (h.0, h.1.1))
all_exchanged P (x ∷ xs) a b ys h = (h.0, all_exchanged P xs a b ys h.1)

joined_length : (xs : List Bytes) (a b : Bytes) (ys : List Bytes) → length (joined (xs ++ a ∷ b ∷ ys)) ≡ length (joined (xs ++ b ∷ a ∷ ys))
unfolding joined
joined_length [] a b ys =
    length-append a (b ++ joined ys) ∙ rw (length-append b (joined ys)) (omega (arith, length-append b (a ++ joined ys), length-append a (joined ys)))
joined_length (x ∷ xs) a b ys = length-append x (joined (xs ++ a ∷ b ∷ ys)) ∙ rw (joined_length xs a b ys) (sym (length-append x (joined (xs ++ b ∷ a ∷ ys))))

-- Records

-- two neighbours in the other order
data Swapped (a b : Record) : List Record → List Record → Type 0 where
  here : (rs : List Record) → Swapped a b (a ∷ b ∷ rs) (b ∷ a ∷ rs)
  there : (r : Record) {xs ys : List Record} → Swapped a b xs ys → Swapped a b (r ∷ xs) (r ∷ ys)

swapped_last : (xs : List Record) (a b : Record) → Swapped a b ((xs ++ a ∷ []) ++ b ∷ []) ((xs ++ b ∷ []) ++ a ∷ [])
swapped_last [] a b = here []
swapped_last (x ∷ xs) a b = there x (swapped_last xs a b)

swapped_more : {a b : Record} {xs ys : List Record} (r : Record) → Swapped a b xs ys → Swapped a b (xs ++ r ∷ []) (ys ++ r ∷ [])
swapped_more r (here rs) = here (rs ++ r ∷ [])
swapped_more r (there x s) = there x (swapped_more r s)

first_one : (n : ℕ) → first (n ∷ []) ≡ n
unfolding first
first_one zero = refl
first_one (suc n) = refl

first_none : (m n : ℕ) → first (0 ∷ first (m ∷ n ∷ []) ∷ []) ≡ first (m ∷ first (0 ∷ n ∷ []) ∷ [])
unfolding first
first_none m n = first_one (first (m ∷ n ∷ [])) ∙ sym (ap (λ (x : ℕ). first (m ∷ x ∷ [])) (first_one n))

-- records of two keys
module _ (a b : Record) (apart : same (key_of a) (key_of b) ≡ false) where
  other_key : (k : Bytes) → same (key_of a) k ≡ true → same (key_of b) k ≡ false
  other_key k e = rw (← same_sound (key_of a) k e) (same_sym (key_of b) (key_of a) ∙ apart)

  -- a later record is judged the same
  clash_swapped : (v : Version) (r : Record) {xs ys : List Record} → Swapped a b xs ys → clash v r xs ≡ clash v r ys
  unfolding clash
  clash_swapped v r (here rs) = elim (test (same (key_of a) (key_of r))) [
    | pass e ↦ rw (beside_other v r b (other_key (key_of r) e)) (sym (first_none (beside v r a) (clash v r rs)))
    | fail e ↦ rw (beside_other v r a e) (first_none (beside v r b) (clash v r rs))
  ]
  clash_swapped v r (there x s) = rw (clash_swapped v r s)

  under_more : (k : Bytes) (r : Record) (xs ys : List Record) → under k xs ≡ under k ys → under k (r ∷ xs) ≡ under k (r ∷ ys)
  under_more k r xs ys e = elim (test (same (key_of r) k)) [
    | pass q ↦ under_yes k r xs q ∙ ap (r ∷◌) e ∙ sym (under_yes k r ys q)
    | fail q ↦ under_no k r xs q ∙ e ∙ sym (under_no k r ys q)
  ]

  under_swapped : (k : Bytes) {xs ys : List Record} → Swapped a b xs ys → under k xs ≡ under k ys
  under_swapped k (here rs) = elim (test (same (key_of a) k)) [
    | pass e ↦ let n = other_key k e in under_more k a (b ∷ rs) rs (under_no k b rs n) ∙ sym (under_no k b (a ∷ rs) n)
    | fail e ↦ under_no k a (b ∷ rs) e ∙ sym (under_more k b (a ∷ rs) rs (under_no k a rs e))
  ]
  under_swapped k (there x {xs} {ys} s) = under_more k x xs ys (under_swapped k s)

  groups_swapped : (v : Version) (ks : List Bytes) {xs ys : List Record} → Swapped a b xs ys → groups v ks xs ≡ groups v ks ys
  unfolding groups
  groups_swapped v [] s = refl
  groups_swapped v (k ∷ ks) s = rw (under_swapped k s, groups_swapped v ks s)

  keys_more : (r : Record) (xs ys : List Record) → other_keys xs ≡ other_keys ys → other_keys (r ∷ xs) ≡ other_keys (r ∷ ys)
  keys_more r xs ys e = elim (test (is_typed (key_of r))) [
    | pass t ↦ keys_typed r xs t ∙ e ∙ sym (keys_typed r ys t)
    | fail t ↦ keys_other r xs t ∙ ap (λ (ks : List Bytes). key_of r ∷ without (key_of r) ks) e ∙ sym (keys_other r ys t)
  ]

  keys_swapped : (is_typed (key_of a) ≡ true) ⊎ (is_typed (key_of b) ≡ true) → {xs ys : List Record} → Swapped a b xs ys → other_keys xs ≡ other_keys ys
  keys_swapped t (here rs) = ⊎_elim (λ e. keys_typed a (b ∷ rs) e ∙ sym (keys_more b (a ∷ rs) rs (keys_typed a rs e))) (λ e. keys_more a (b ∷ rs) rs (keys_typed b rs e) ∙ sym (keys_typed b (a ∷ rs) e)) t
  keys_swapped t (there x {xs} {ys} s) = keys_more x xs ys (keys_swapped t s)

  -- the meaning groups by key, and one of the two keys has its place whatever comes first
  meaning_swapped : (is_typed (key_of a) ≡ true) ⊎ (is_typed (key_of b) ≡ true) → (v : Version) (c : Columns) {xs ys : List Record} → Swapped a b xs ys
      → header_meaning v ys c ≡ header_meaning v xs c
  unfolding header_meaning
  meaning_swapped t v c {xs} {ys} s = rw (← keys_swapped t s, groups_swapped v _ s)

  -- The lines after the two

  data SwappedState : State → State → Type 0 where
    both_ready : (v : Version) {xs ys : List Record} → Swapped a b xs ys → SwappedState (ready v xs) (ready v ys)
    both_done : (v : Version) (c : Columns) {xs ys : List Record} → Swapped a b xs ys → SwappedState (done v xs c) (done v ys c)

  -- a line does the same in both
  abbrev SwappedAnswer : Answer (State × List Entry) → Answer (State × List Entry) → Type 0
  SwappedAnswer (ok q) (ok r) = SwappedState q.0 r.0 × (q.1 ≡ r.1)
  SwappedAnswer (refuse m) (refuse n) = m ≡ n
  SwappedAnswer (ok q) (refuse n) = ⊥
  SwappedAnswer (refuse m) (ok r) = ⊥

  judged_swapped : (v : Version) (r : Record) (es : List Entry) {xs ys : List Record} → Swapped a b xs ys
      → SwappedAnswer (judged (clash v r xs) (ready v (xs ++ r ∷ []), es)) (judged (clash v r ys) (ready v (ys ++ r ∷ []), es))
  judged_swapped v r es {xs} {ys} s = rw (← clash_swapped v r s) (go (clash v r xs))
    where
      go : (n : ℕ) → SwappedAnswer (judged n (ready v (xs ++ r ∷ []), es)) (judged n (ready v (ys ++ r ∷ []), es))
      go zero = (both_ready v (swapped_more r s), refl)
      go (suc n) = refl

  enter_swapped : (counted : Bool) (v : Version) (start : ℕ) (l : Bytes) (r : Record) {xs ys : List Record} → Swapped a b xs ys → SwappedAnswer (enter counted v xs start l r) (enter counted v ys start l r)
  enter_swapped counted v start l (fileformat w) s = refl
  enter_swapped counted v start l (fields k fs) s = judged_swapped v (fields k fs) _ s
  enter_swapped counted v start l (text k t) s = judged_swapped v (text k t) _ s

  text_swapped : (counted : Bool) (imposed : Option Version) (start : ℕ) (l : Bytes) (s t : State) → SwappedState s t → SwappedAnswer (step_text counted imposed start s l) (step_text counted imposed start t l)
  unfolding step_text
  text_swapped counted imposed start l _ _ (both_done v c s) = refl
  text_swapped counted imposed start l _ _ (both_ready v s) = elim (test (starts (ascii "#CHROM") l)) [
    | pass e ↦ elim (see (read_columns l)) [
      | was c q ↦ rw (step_text, e, q) (both_done v c s, refl)
      | not_read m q ↦ rw (step_text, e, q) refl
    ]
    | fail e ↦ elim (see (read_record v l)) [
      | was r q ↦ rw (step_text, e, q) (enter_swapped counted v start l r s)
      | not_read m q ↦ rw (step_text, e, q) refl
    ]
  ]

  done_both : (s t : State) → SwappedState s t → is_done s ≡ is_done t
  done_both _ _ (both_ready v s) = refl
  done_both _ _ (both_done v c s) = refl

  step_swapped : (lim : Limits) (imposed : Option Version) (start : ℕ) (l : Bytes) (s t : State) → SwappedState s t → SwappedAnswer (step lim imposed start s l) (step lim imposed start t l)
  unfolding step
  step_swapped lim imposed start l s t h = elim (test (is_done s)) [
    | pass d ↦ rw (step, d, sym (done_both s t h) ∙ d) refl
    | fail d ↦ elim (test (leb (length l) lim.line)) [
      | pass e ↦ elim (test (is_utf8 l)) [
        | pass u ↦ rw (step, d, sym (done_both s t h) ∙ d, e, u) (text_swapped lim.counted imposed start l s t h)
        | fail u ↦ rw (step, d, sym (done_both s t h) ∙ d, e, u) refl
      ]
      | fail e ↦ rw (step, d, sym (done_both s t h) ∙ d, e) refl
    ]
  ]

  -- two readings that differ in the order of the two records alone
  record Alike (r t : Reading) : Type 0 where
    number : r.number ≡ t.number
    line : r.line ≡ t.line
    start : r.start ≡ t.start
    entries : r.entries ≡ t.entries
    state : SwappedState r.state t.state

  run_swapped : (lim : Limits) (imposed : Option Version) (room n start count : ℕ) (ps : List Bytes) (s t : State) → SwappedState s t
      → Alike (run lim imposed room n start count s ps) (run lim imposed room n start count t ps)
  unfolding run
  run_swapped lim imposed room n start count [] s t h = at_end_lem s t h
    where
      at_end_lem : (s t : State) → SwappedState s t → Alike (at_end n start s) (at_end n start t)
      at_end_lem _ _ (both_ready v s) = record { number = refl; line = refl; start = refl; entries = refl; state = both_ready v s }
      at_end_lem _ _ (both_done v c s) = record { number = refl; line = refl; start = refl; entries = refl; state = both_done v c s }
  run_swapped lim imposed room n start count (p ∷ ps) s t h =
      let k = step_swapped lim imposed start (line_of p) s t h in
      elim (see (step lim imposed start s (line_of p))) [
        | not_read m x ↦ elim (see (step lim imposed start t (line_of p))) [
          | not_read n' y ↦
              let e : m ≡ n' = rw (x, y) at k in
              rw (run_refused lim imposed room n start count s p ps x, run_refused lim imposed room n start count t p ps y) (record { number = e; line = refl; start = refl; entries = refl; state = h })
          | was r y ↦ absurd (rw (x, y) at k)
        ]
        | was q x ↦ elim (see (step lim imposed start t (line_of p))) [
          | not_read n' y ↦ absurd (rw (x, y) at k)
          | was r y ↦
              let g : SwappedState q.0 r.0 × (q.1 ≡ r.1) = rw (x, y) at k in
              elim (test (leb (count + length q.1) room)) [
                | fail e ↦ rw (run_full lim imposed room n start count s p ps x e, run_full lim imposed room n start count t p ps y (rw g.1 at e))
                    (record { number = refl; line = refl; start = refl; entries = refl; state = h })
                | pass e ↦
                    let d = run_swapped lim imposed room (suc n) (start + length p) (count + length q.1) ps q.0 r.0 g.0 in
                    rw (run_more lim imposed room n start count s p ps x e, run_more lim imposed room n start count t p ps y (rw g.1 at e), ← g.1)
                    (record { number = d.number; line = d.line; start = d.start; entries = ap (q.1 ++◌) d.entries; state = d.state })
              ]
        ]
      ]

  done_swapped : {w : Version} {rs : List Record} {c : Columns} (t : State) → SwappedState (done w rs c) t → (ys : List Record) × (t ≡ done w ys c) × Swapped a b rs ys
  done_swapped _ (both_done w c {ys = ys} s) = (ys, refl, s)

  -- of two readings that differ in the order of the two records, one of which is typed, the second was accepted if the first was
  alike_meaning : (is_typed (key_of a) ≡ true) ⊎ (is_typed (key_of b) ≡ true) → {w : Version} {rs : List Record} {c : Columns} (r t : Reading) → Accepted w rs c r → Alike r t → SameMeaning w rs c r t
  alike_meaning typed {w} {rs} {c} r t acc k =
      let d = done_swapped t.state (rw acc.state at k.state) in
      record {
        records = d.0;
        accepted = record { number = sym k.number ∙ acc.number; state = d.1 };
        line = sym k.line;
        start = sym k.start;
        count = ap length (sym k.entries);
        meaning = meaning_swapped typed w c d.2;
      }

-- Lines

typed_apart : (j k : Bytes) → is_typed j ≡ true → is_typed k ≡ false → same j k ≡ false
typed_apart j k e f = elim (test (same j k)) [
  | pass q ↦ both (rw (same_sound j k q) at e) f
  | fail q ↦ q
]

-- lines that may change places have two keys, one of which is typed
may_apart : (l m : Bytes) → may_change l m ≡ true → (same (key_in l) (key_in m) ≡ false) × ((is_typed (key_in l) ≡ true) ⊎ (is_typed (key_in m) ≡ true))
unfolding may_change
may_apart l m h = elim (test (is_typed (key_in l))) [
  | pass e ↦ elim (test (is_typed (key_in m))) [
    | pass f ↦ (not_true (same (key_in l) (key_in m)) (rw (may_change, e, f) at h), inl e)
    | fail f ↦ (typed_apart (key_in l) (key_in m) e f, inl e)
  ]
  | fail e ↦ elim (test (is_typed (key_in m))) [
    | pass f ↦ (same_sym (key_in l) (key_in m) ∙ typed_apart (key_in m) (key_in l) f e, inr f)
    | fail f ↦ absurd (false≢true (rw (may_change, e, f) at h))
  ]
]

same_after : (es fs : List Entry) {w : Version} {rs : List Record} {c : Columns} {r t : Reading} → length fs ≡ length es → SameMeaning w rs c r t
    → SameMeaning w rs c (following es r) (following fs t)
same_after es fs {r = r} {t = t} e d = record {
  records = d.records;
  accepted = record { number = d.accepted.number; state = d.accepted.state };
  line = d.line;
  start = d.start;
  count = length-append fs t.entries ∙ ap₂ ◌+◌ e d.count ∙ sym (length-append es r.entries);
  meaning = d.meaning;
}

module _ (lim : Limits) (imposed : Option Version) (room : ℕ) where
  -- a line with its record, which is entered at any place after any records that it goes with
  record Enters (v : Version) (l : Bytes) : Type 0 where
    kept : Record
    key : key_of kept ≡ key_in l
    again : (at : ℕ) (xs : List Record) → clash v kept xs ≡ 0 → step lim imposed at (ready v xs) l ≡ ok (ready v (xs ++ kept ∷ []), record_entry lim.counted v at l kept ∷ [])

  -- a record line of an accepted run: other lines follow it
  record Entered (n start count : ℕ) (v : Version) (xs : List Record) (p : Bytes) (ps : List Bytes) (w : Version) (rs : List Record) (c : Columns) : Type 0 where
    line : Enters v (line_of p)
    clear : clash v line.kept xs ≡ 0
    roomy : leb (count + 1) room ≡ true
    rest : Accepted w rs c (run lim imposed room (suc n) (start + length p) (count + 1) (ready v (xs ++ line.kept ∷ [])) ps)

  enters : (n start count : ℕ) (v : Version) (xs : List Record) (p q : Bytes) (ps : List Bytes) {w : Version} {rs : List Record} {c : Columns}
      → Accepted w rs c (run lim imposed room n start count (ready v xs) (p ∷ q ∷ ps)) → Entered n start count v xs p (q ∷ ps) w rs c
  enters n start count v xs p q ps {w} {rs} {c} acc =
      let f = first_taken lim imposed room n start count (ready v xs) p (q ∷ ps) acc in
      go f.after f.line.0 f.line.1 (on_ok (Stepped lim.counted imposed v xs start (line_of p)) (text_steps lim.counted imposed start v xs (line_of p)) f.line.2) f.roomy f.rest
    where
      go : (x : State × List Entry) → length (line_of p) ≤ lim.line → is_utf8 (line_of p) ≡ true → Stepped lim.counted imposed v xs start (line_of p) x → leb (count + length x.1) room ≡ true
          → Accepted w rs c (run lim imposed room (suc n) (start + length p) (count + length x.1) x.0 (q ∷ ps)) → Entered n start count v xs p (q ∷ ps) w rs c
      go x short utf8 (finished d _ e) r a = done_more lim imposed room (suc n) (start + length p) _ v xs d q ps (rw e at a)
      go x short utf8 (entered kept e y z more) r a = record {
        line = record {
          kept = kept;
          key = on_ok (λ t. key_of t ≡ key_in (line_of p)) (record_key v (line_of p)) e;
          again = λ at ys d. step_text_lem lim imposed at (ready v ys) (line_of p) short utf8 refl ∙ more at ys d;
        };
        clear = z;
        roomy = rw y at r;
        rest = rw y at a;
      }

  run_enters : (n start count : ℕ) (v : Version) (xs : List Record) (p : Bytes) (ps : List Bytes) (x : Enters v (line_of p)) → clash v x.kept xs ≡ 0 → leb (count + 1) room ≡ true
      → run lim imposed room n start count (ready v xs) (p ∷ ps)
      ≡ following (record_entry lim.counted v start (line_of p) x.kept ∷ []) (run lim imposed room (suc n) (start + length p) (count + 1) (ready v (xs ++ x.kept ∷ [])) ps)
  run_enters n start count v xs p ps x c r = run_more lim imposed room n start count (ready v xs) p ps (x.again start xs c) r

  -- two lines that may change places, and others after them
  two_lines : (n start count : ℕ) (v : Version) (xs : List Record) (p q z : Bytes) (ps : List Bytes) {w : Version} {rs : List Record} {c : Columns}
      → may_change (line_of p) (line_of q) ≡ true → Accepted w rs c (run lim imposed room n start count (ready v xs) (p ∷ q ∷ z ∷ ps))
      → SameMeaning w rs c (run lim imposed room n start count (ready v xs) (p ∷ q ∷ z ∷ ps)) (run lim imposed room n start count (ready v xs) (q ∷ p ∷ z ∷ ps))
  two_lines n start count v xs p q z ps {w} {rs} {c} may acc =
      let x = enters n start count v xs p q (z ∷ ps) acc in
      let y = enters (suc n) (start + length p) (count + 1) v (xs ++ x.line.kept ∷ []) q z ps x.rest in
      let a = x.line.kept in
      let b = y.line.kept in
      let m = may_apart (line_of p) (line_of q) may in
      let apart : same (key_of a) (key_of b) ≡ false = rw (x.line.key, y.line.key) m.0 in
      let typed : (is_typed (key_of a) ≡ true) ⊎ (is_typed (key_of b) ≡ true) = rw (x.line.key, y.line.key) m.1 in
      let s = all_split (λ t. beside v b t ≡ 0) xs (a ∷ []) (clash_all v b (xs ++ a ∷ []) y.clear) in
      let ca : clash v a (xs ++ b ∷ []) ≡ 0 = all_clash v a (xs ++ b ∷ []) (all_append (λ t. beside v a t ≡ 0) xs (b ∷ []) (clash_all v a xs x.clear) (beside_other v a b (same_sym (key_of b) (key_of a) ∙ apart), tt)) in
      let place : start + length q + length p ≡ start + length p + length q = omega arith in
      let after = z ∷ ps in
      let pa : (at : ℕ) → List Entry = λ at. record_entry lim.counted v at (line_of p) a ∷ [] in
      let qb : (at : ℕ) → List Entry = λ at. record_entry lim.counted v at (line_of q) b ∷ [] in
      let one = run_enters n start count v xs p (q ∷ after) x.line x.clear x.roomy
      ∙ ap (following (pa start)) (run_enters (suc n) (start + length p) (count + 1) v (xs ++ a ∷ []) q after y.line y.clear y.roomy) in
      let two = run_enters n start count v xs q (p ∷ after) y.line (all_clash v b xs s.0) x.roomy
      ∙ ap (following (qb start)) (run_enters (suc n) (start + length q) (count + 1) v (xs ++ b ∷ []) p after x.line ca y.roomy) in
      let k = run_swapped a b apart lim imposed room (suc (suc n)) (start + length p + length q) (count + 1 + 1) (z ∷ ps)
      (ready v ((xs ++ a ∷ []) ++ b ∷ [])) (ready v ((xs ++ b ∷ []) ++ a ∷ [])) (both_ready v (swapped_last xs a b)) in
      rw (one, two, place) (same_after (pa start) (qb start) refl (same_after (qb (start + length p)) (pa (start + length q)) refl (alike_meaning a b apart typed _ _ y.rest k)))

  -- the same after other lines, the first of which is the first of a header
  among_lines : (f : Bytes) (above : List Bytes) (p q z : Bytes) (ps : List Bytes) {w : Version} {rs : List Record} {c : Columns}
      → may_change (line_of p) (line_of q) ≡ true → Accepted w rs c (run lim imposed room 0 0 0 empty (f ∷ (above ++ p ∷ q ∷ z ∷ ps)))
      → SameMeaning w rs c (run lim imposed room 0 0 0 empty (f ∷ (above ++ p ∷ q ∷ z ∷ ps))) (run lim imposed room 0 0 0 empty (f ∷ (above ++ q ∷ p ∷ z ∷ ps)))
  among_lines f above p q z ps {w} {rs} {c} may acc =
      let t = first_taken lim imposed room 0 0 0 empty f (above ++ p ∷ q ∷ z ∷ ps) acc in
      let g = goes lim imposed room 1 (0 + length f) (0 + length t.after.1) t.after.0 above (p ∷ q ∷ z ∷ ps) t.rest in
      let x : (qs : List Bytes) → run lim imposed room 0 0 0 empty (f ∷ (above ++ qs)) ≡ following t.after.1 (following g.entries (run lim imposed room g.lines g.place g.kept g.after qs))
      = λ qs. run_more lim imposed room 0 0 0 empty f (above ++ qs) t.taken t.roomy ∙ ap (following t.after.1) (g.on qs) in
      rw (x (p ∷ q ∷ z ∷ ps), x (q ∷ p ∷ z ∷ ps)) (same_after t.after.1 t.after.1 refl (same_after g.entries g.entries refl
      (go g.lines g.place g.kept g.after (g.begun (step_begun lim imposed 0 empty (line_of f) t.taken)) (accepted_rest g.entries (g.on (p ∷ q ∷ z ∷ ps)) t.rest))))
    where
      go : (n start count : ℕ) (s : State) → Begun s → Accepted w rs c (run lim imposed room n start count s (p ∷ q ∷ z ∷ ps))
          → SameMeaning w rs c (run lim imposed room n start count s (p ∷ q ∷ z ∷ ps)) (run lim imposed room n start count s (q ∷ p ∷ z ∷ ps))
      go n start count empty b a = absurd b
      go n start count (ready v xs) b a = two_lines n start count v xs p q z ps may a
      go n start count (done v xs d) b a = done_more lim imposed room n start count v xs d p (q ∷ z ∷ ps) a

-- Headers

-- the pieces of a header with two lines exchanged are its own with these exchanged, and it is as long
exchanged_cut : {h h' : Bytes} (x : Exchanged h h') → (pieces h' ≡ x.first ∷ (x.above ++ x.lower ∷ x.upper ∷ (x.below ++ x.last ∷ []))) × (length h' ≡ length h)
exchanged_cut {h} {h'} x =
    let one = append_assoc (x.first ∷ x.above) (x.upper ∷ x.lower ∷ x.below) (x.last ∷ []) in
    let two = append_assoc (x.first ∷ x.above) (x.lower ∷ x.upper ∷ x.below) (x.last ∷ []) in
    let d = all_whole h ((x.first ∷ x.above) ++ x.upper ∷ x.lower ∷ x.below) x.last (x.was ∙ sym one) in
    let w = all_exchanged Whole (x.first ∷ x.above) x.upper x.lower x.below d.0 in (
      ap pieces (x.becomes ∙ ap joined (sym two)) ∙ joined_cut ((x.first ∷ x.above) ++ x.lower ∷ x.upper ∷ x.below) x.last w d.1 ∙ two,
      ap length x.becomes ∙ joined_length (x.first ∷ x.above) x.lower x.upper (x.below ++ x.last ∷ []) ∙ ap length (ap joined (sym x.was) ∙ joined_pieces h),
    )

-- something stands there
snoc_cons : (xs : List Bytes) (z : Bytes) → (y : Bytes) × (ys : List Bytes) × (xs ++ z ∷ [] ≡ y ∷ ys)
snoc_cons [] z = (z, [], refl)
snoc_cons (x ∷ xs) z = (x, xs ++ z ∷ [], refl)

-- an accepted header in which two neighbouring record lines, of two different typed kinds or one typed and the other not, were exchanged,
-- is accepted with the same room, and means the same, so that its house form is the same bytes
pub lines_exchange : (lim : Limits) (imposed : Option Version) (room : ℕ) {h h' : Bytes} → Exchanged h h' → {v : Version} {rs : List Record} {c : Columns}
    → Accepted v rs c (reading lim imposed room h) → SameMeaning v rs c (reading lim imposed room h) (reading lim imposed room h')
lines_exchange lim imposed room {h} {h'} x {v} {rs} {c} a =
    let d = exchanged_cut x in
    let short = accepted_short lim imposed room h a.number in
    let y = snoc_cons x.below x.last in
    let one = reading_short lim imposed room h short ∙ ap (run lim imposed room 0 0 0 empty) (x.was ∙ ap (λ (t : List Bytes). x.first ∷ (x.above ++ x.upper ∷ x.lower ∷ t)) y.2) in
    let two = reading_short lim imposed room h' (omega (arith, short, d.1)) ∙ ap (run lim imposed room 0 0 0 empty) (d.0 ∙ ap (λ (t : List Bytes). x.first ∷ (x.above ++ x.lower ∷ x.upper ∷ t)) y.2) in
    rw (one, two) (among_lines lim imposed room x.first x.above x.upper x.lower y.0 y.1 x.may (rw one at a))

-- however many such exchanges are made
pub lines_moved : (lim : Limits) (imposed : Option Version) (room : ℕ) {h h' : Bytes} → Moved h h' → {v : Version} {rs : List Record} {c : Columns}
    → Accepted v rs c (reading lim imposed room h) → SameMeaning v rs c (reading lim imposed room h) (reading lim imposed room h')
lines_moved lim imposed room unmoved {rs = rs} a = record { records = rs; accepted = a; line = refl; start = refl; count = refl; meaning = refl }
lines_moved lim imposed room (moved m x) a =
    let d = lines_moved lim imposed room m a in
    let e = lines_exchange lim imposed room x d.accepted in
    record {
      records = e.records;
      accepted = e.accepted;
      line = e.line ∙ d.line;
      start = e.start ∙ d.start;
      count = e.count ∙ d.count;
      meaning = e.meaning ∙ d.meaning;
    }

-- a house-form call answers the same of both, whatever room the output has: the same bytes, or the same refusal of the form
pub house_moved : (lim : Limits) (imposed : Option Version) (room output : ℕ) {h h' : Bytes} → Moved h h' → {v : Version} {rs : List Record} {c : Columns}
    → Accepted v rs c (reading lim imposed room h) → house lim imposed room output h' ≡ house lim imposed room output h
unfolding house form_answer
house_moved lim imposed room output {h} {h'} x {v} {rs} {c} a =
    let d = lines_moved lim imposed room x a in
    let r = reading lim imposed room h in
    let r' = reading lim imposed room h' in
    let one : house lim imposed room output h ≡ form_answer lim output r (header_meaning v rs c) = rw (a.state, a.number) in
    let two : house lim imposed room output h' ≡ form_answer lim output r' (header_meaning v d.records c) = rw (d.accepted.state, d.accepted.number) in
    two ∙ ap (form_answer lim output r') d.meaning ∙ form_places lim output (header_meaning v rs c) r' r d.line d.start ∙ sym one
  where
    form_places : (lim : Limits) (output : ℕ) (m : Meaning) (r t : Reading) → r.line ≡ t.line → r.start ≡ t.start → form_answer lim output r m ≡ form_answer lim output t m
    form_places lim output m r t e f = elim (test (leb (length (house_form m)) lim.header)) [
      | pass q ↦ rw (form_answer, q) (go (too_long lim.line 0 0 (house_lines m)))
      | fail q ↦ rw (form_answer, q) refl
    ]
      where
        go : (x : Option (ℕ × ℕ)) → lined output r (house_form m) x ≡ lined output t (house_form m) x
        go None = rw (e, f)
        go (Some p) = refl

-- Blocks of lines

moved_on : {h g : Bytes} → Moved h g → {h' : Bytes} → Moved g h' → Moved h h'
moved_on m unmoved = m
moved_on m (moved n x) = moved (moved_on m n) x

-- a header that has these pieces after exchanges
abbrev Reaches : Bytes → List Bytes → Type 0
Reaches h ps = (h' : Bytes) × Moved h h' × (pieces h' ≡ ps)

module _ (f z : Bytes) (zs : List Bytes) where
  one_past_one : (h : Bytes) (above : List Bytes) (p q : Bytes) (xs : List Bytes) → may_change (line_of p) (line_of q) ≡ true → pieces h ≡ f ∷ (above ++ p ∷ q ∷ (xs ++ z ∷ zs))
      → Reaches h (f ∷ (above ++ q ∷ p ∷ (xs ++ z ∷ zs)))
  one_past_one h above p q xs may e =
      let d = last_of xs z zs in
      let h' = joined (f ∷ (above ++ q ∷ p ∷ (d.0 ++ d.1 ∷ []))) in
      let x : Exchanged h h' = record {
        first = f;
        above = above;
        upper = p;
        lower = q;
        below = d.0;
        last = d.1;
        was = e ∙ ap (λ (t : List Bytes). f ∷ (above ++ p ∷ q ∷ t)) d.2;
        becomes = refl;
        may = may;
      } in
      (h', moved unmoved x, (exchanged_cut x).0 ∙ ap (λ (t : List Bytes). f ∷ (above ++ q ∷ p ∷ t)) (sym d.2))

  -- a line past all of a block
  one_past : (qs : List Bytes) (h : Bytes) (above : List Bytes) (p : Bytes) (xs : List Bytes) → All (λ q. may_change (line_of p) (line_of q) ≡ true) qs
      → pieces h ≡ f ∷ (above ++ p ∷ (qs ++ (xs ++ z ∷ zs))) → Reaches h (f ∷ (above ++ (qs ++ p ∷ (xs ++ z ∷ zs))))
  one_past [] h above p xs may e = (h, unmoved, e)
  one_past (q ∷ qs) h above p xs may e =
      let a = one_past_one h above p q (qs ++ xs) may.0 (e ∙ ap (λ (t : List Bytes). f ∷ (above ++ p ∷ q ∷ t)) (sym (append_assoc qs xs (z ∷ zs)))) in
      let b = one_past qs a.0 (above ++ q ∷ []) p xs may.1
      (a.2 ∙ ap (λ (t : List Bytes). f ∷ (above ++ q ∷ p ∷ t)) (append_assoc qs xs (z ∷ zs)) ∙ ap (f ∷◌) (sym (append_assoc above (q ∷ []) (p ∷ (qs ++ (xs ++ z ∷ zs)))))) in
      (b.0, moved_on a.1 b.1, b.2 ∙ ap (f ∷◌) (append_assoc above (q ∷ []) (qs ++ p ∷ (xs ++ z ∷ zs))))

  -- a block past another
  all_past : (ps : List Bytes) (h : Bytes) (above qs xs : List Bytes) → All (λ p. All (λ q. may_change (line_of p) (line_of q) ≡ true) qs) ps
      → pieces h ≡ f ∷ (above ++ (ps ++ (qs ++ (xs ++ z ∷ zs)))) → Reaches h (f ∷ (above ++ (qs ++ (ps ++ (xs ++ z ∷ zs)))))
  all_past [] h above qs xs may e = (h, unmoved, e)
  all_past (p ∷ ps) h above qs xs may e =
      let a = all_past ps h (above ++ p ∷ []) qs xs may.1 (e ∙ ap (f ∷◌) (sym (append_assoc above (p ∷ []) (ps ++ (qs ++ (xs ++ z ∷ zs)))))) in
      let b = one_past qs a.0 above p (ps ++ xs) may.0
      (a.2 ∙ ap (f ∷◌) (append_assoc above (p ∷ []) (qs ++ (ps ++ (xs ++ z ∷ zs)))) ∙ ap (λ (t : List Bytes). f ∷ (above ++ p ∷ (qs ++ t))) (sym (append_assoc ps xs (z ∷ zs)))) in
      (b.0, moved_on a.1 b.1, b.2 ∙ ap (λ (t : List Bytes). f ∷ (above ++ (qs ++ p ∷ t))) (append_assoc ps xs (z ∷ zs)))

-- two blocks of lines, contigs and INFO lines say, are exchanged by exchanging neighbours, if each line of the one may change places with
-- each of the other
pub blocks_exchange : (h first : Bytes) (above ps qs below : List Bytes) (last : Bytes) → pieces h ≡ first ∷ (above ++ (ps ++ (qs ++ (below ++ last ∷ []))))
    → All (λ p. All (λ q. may_change (line_of p) (line_of q) ≡ true) qs) ps → Moved h (joined (first ∷ (above ++ (qs ++ (ps ++ (below ++ last ∷ []))))))
blocks_exchange h first above ps qs below last e may =
    let d = all_past first last [] ps h above qs below may e in
    subst (Moved h) (sym (joined_pieces d.0) ∙ ap joined d.2) d.1
