-- What is refused, as facts: a second equal ID, a line after the column line; and what a refused header keeps. Assumes nothing.
use Prim.Native.Nat.{ℕ, suc, ◌+◌, ◌≤◌, ◌<◌}
use native.Mathlib.Omega.{arith}
use mathlib.Core.Path.{◌≡◌, refl, sym, subst}
use mathlib.Core.Bool.{Bool, true, false, true≢false}
use mathlib.Core.Logic.{◌⊎◌, inl, inr, ⊎_elim}
use mathlib.Core.List.{List, [], ◌∷◌, ◌++◌}
use Rattle.std.specs.Prelude.{Option}
use lib.Dec.{leb}
use lib.ListN.{length}
use borrow.Author.Tests.{le-leb, lt-leb}
use Rattle.values.specs.Bytes.{Bytes, ascii, same, starts}
use Rattle.values.specs.Utf8.{is_utf8}
use Rattle.values.specs.Field.{Field}
use Rattle.values.proofs.Tests.{pass, fail, test, both, never}
use Rattle.rules.specs.Answer.{ok, refuse, first, judged}
use Rattle.rules.specs.Sizes.{Limits}
use Rattle.rules.specs.Lines.{pieces, line_of}
use Rattle.rules.specs.Version.{Version, v4_5}
use Rattle.rules.specs.Known.{is_typed}
use Rattle.rules.specs.Map.{value_named}
use Rattle.rules.specs.Record.{Record, fileformat, fields, text, read_record, key_of}
use Rattle.rules.specs.Columns.{Columns, read_columns}
use Rattle.rules.specs.Entry.{Entry, record_entry}
use Rattle.rules.specs.Reading.{id_of, is_fields, beside, clash, State, empty, ready, done, begin, enter, step_text, step, Reading, stop, following, at_end, run, reading}
use Rattle.rules.proofs.Firsts.{OnOk, on_ok, judged_ok, was, not_read, see}
use Rattle.values.proofs.Sames.{same_self, same_sound}
use Rattle.rules.proofs.Alls.{all_map}
use Rattle.rules.proofs.Groups.{Apart}
use Rattle.rules.proofs.Sound.{Good, Taken, step_taken, run_refused, run_full, run_more}
use Rattle.rules.proofs.Back.{reading_short}
use Rattle.rules.specs.Claims.{All, Keeps, all_taken, stopped}

-- a record among others
pub data Among (r : Record) : List Record → Type 0 where
  first_one : {rs : List Record} → Among r (r ∷ rs)
  later_one : {s : Record} {rs : List Record} → Among r rs → Among r (s ∷ rs)

all_among : (P : Record → Type 0) {x : Record} {rs : List Record} → Among x rs → All P rs → P x
all_among P first_one h = h.0
all_among P (later_one a) h = all_among P a h.1

-- 19 under a typed key, 21 under another
abbrev pub second : Bytes → ℕ
second k = elim (is_typed k) [ true ↦ 19 | false ↦ 21 ]

-- the same key as that of a map: no text
abbrev Textless : Bytes → Record → Type 0
Textless k s = is_fields s ≡ false → same (key_of s) k ≡ false

beside_text : (v : Version) (k : Bytes) (gs : List Field) (s : Record) → beside v (fields k gs) s ≡ 0 → Textless k s
unfolding beside
beside_text v k gs s b t = elim (test (same (key_of s) k)) [ pass e ↦ absurd (omega (arith, rw (e, t) at b)) | fail e ↦ e ]

text_beside_lem : (v : Version) (k : Bytes) (gs : List Field) (s : Record) → beside v s (fields k gs) ≡ 0 → Textless k s
unfolding beside
text_beside_lem v k gs s b t = elim (test (same (key_of s) k)) [
  | pass e ↦ let q : same k (key_of s) ≡ true = rw (same_sound (key_of s) k e) (same_self k) in absurd (omega (arith, rw (q, t) at b))
  | fail e ↦ e
]

textless : (v : Version) (k : Bytes) (gs : List Field) (rs : List Record) → Among (fields k gs) rs → Apart v rs → All (Textless k) rs
textless v k gs (_ ∷ rs) first_one p = ((λ t. absurd (true≢false t)), all_map (λ s. beside v s (fields k gs) ≡ 0) (Textless k) rs (text_beside_lem v k gs) p.0)
textless v k gs (s ∷ rs) (later_one a) p = (beside_text v k gs s (all_among (λ x. beside v x s ≡ 0) a p.0), textless v k gs rs a p.1)
textless v k gs [] x'' p = elim x'' [ ]

-- beside any of them, a map is refused as a second one or not at all
beside_maps : (v : Version) (k : Bytes) (fs : List Field) (s : Record) → Textless k s → (beside v (fields k fs) s ≡ 0) ⊎ (beside v (fields k fs) s ≡ second k)
unfolding beside
beside_maps v k fs s h = elim (test (same (key_of s) k)) [
  | fail e ↦ inl (rw e)
  | pass e ↦ elim (test (is_fields s)) [
    | fail f ↦ both e (h f)
    | pass f ↦ elim (test (same (id_of v s) (value_named v k (ascii "ID") fs))) [
      | fail i ↦ inl (rw (e, f, i))
      | pass i ↦ elim (test (is_typed k)) [ pass t ↦ inr (rw (e, f, i, second, t)) | fail t ↦ inr (rw (e, f, i, second, t)) ]
    ]
  ]
]

clash_second : (v : Version) (r : Record) (n : ℕ) (rs : List Record) {x : Record} → Among x rs → beside v r x ≡ suc n → All (λ s. (beside v r s ≡ 0) ⊎ (beside v r s ≡ suc n)) rs → clash v r rs ≡ suc n
unfolding clash first
clash_second v r n (x ∷ rs) first_one e h = rw e
clash_second v r n (s ∷ rs) (later_one a) e h = ⊎_elim (λ z. rw z (rw (clash_second v r n rs a e h.1))) (λ z. rw z) h.0
clash_second v r n [] x5 e h = elim x5 [ ]

abbrev second_of : Bool → ℕ
second_of true = 19
second_of false = 21

beside_same : (v : Version) (k : Bytes) (fs gs : List Field) → same (value_named v k (ascii "ID") gs) (value_named v k (ascii "ID") fs) ≡ true → (t : Bool) → is_typed k ≡ t
    → beside v (fields k fs) (fields k gs) ≡ second_of t
unfolding beside
beside_same v k fs gs e true t = rw (same_self k, e, t)
beside_same v k fs gs e false t = rw (same_self k, e, t)

-- a second map of an ID by meaning, under a key among whose maps it stands, whatever stands between and however it is spelled
pub second_clash : (v : Version) (k : Bytes) (fs gs : List Field) (rs : List Record) → Among (fields k gs) rs → Apart v rs
    → same (value_named v k (ascii "ID") gs) (value_named v k (ascii "ID") fs) ≡ true → clash v (fields k fs) rs ≡ second k
second_clash v k fs gs rs a p e = elim (test (is_typed k)) [
  | pass t ↦ rw (second, t) (clash_second v (fields k fs) 18 rs a (beside_same v k fs gs e true t) (all_map (Textless k) _ rs (λ s h. rw (second, t) at (beside_maps v k fs s h)) (textless v k gs rs a p)))
  | fail t ↦ rw (second, t) (clash_second v (fields k fs) 20 rs a (beside_same v k fs gs e false t) (all_map (Textless k) _ rs (λ s h. rw (second, t) at (beside_maps v k fs s h)) (textless v k gs rs a p)))
]

-- a line that holds one is refused
pub second_refused : (lim : Limits) (imposed : Option Version) (start : ℕ) (v : Version) (rs : List Record) (l k : Bytes) (fs gs : List Field) → Good v rs
    → length l ≤ lim.line → is_utf8 l ≡ true → starts (ascii "#CHROM") l ≡ false → read_record v l ≡ ok (fields k fs) → Among (fields k gs) rs
    → same (value_named v k (ascii "ID") gs) (value_named v k (ascii "ID") fs) ≡ true → step lim imposed start (ready v rs) l ≡ refuse (second k)
unfolding step step_text
second_refused lim imposed start v rs l k fs gs g n u c r a e =
    rw (le-leb (length l) lim.line n, u, step, c, step_text, r, second_clash v k fs gs rs a g.apart e) (two (is_typed k) refl)
  where
    two : (t : Bool) → is_typed k ≡ t → judged {A = State × List Entry} (second k) (ready v (rs ++ fields k fs ∷ []), record_entry lim.counted v start l (fields k fs) ∷ []) ≡ refuse (second k)
    two true t = rw (second, t)
    two false t = rw (second, t)

-- a line after the column line
pub after_column : (lim : Limits) (imposed : Option Version) (start : ℕ) (v : Version) (rs : List Record) (c : Columns) (l : Bytes) → step lim imposed start (done v rs c) l ≡ refuse 1
unfolding step
after_column lim imposed start v rs c l = refl

-- What a refused header keeps

-- after a line the machine has begun
abbrev pub Begun : State → Type 0
Begun empty = ⊥
Begun (ready v rs) = Unit {0}
Begun (done v rs c) = Unit {0}

begin_begun : (counted : Bool) (imposed : Option Version) (start : ℕ) (l : Bytes) (r : Record) → OnOk (λ q. Begun q.0) (begin counted imposed start l r)
begin_begun counted imposed start l (fileformat w) = tt
begin_begun counted imposed start l (fields k fs) = tt
begin_begun counted imposed start l (text k t) = tt

enter_begun : (counted : Bool) (v : Version) (rs : List Record) (start : ℕ) (l : Bytes) (r : Record) → OnOk (λ q. Begun q.0) (enter counted v rs start l r)
enter_begun counted v rs start l (fileformat w) = tt
enter_begun counted v rs start l (fields k fs) = judged_ok (λ (q : State × List Entry). Begun q.0) (clash v (fields k fs) rs) _ (λ z. tt)
enter_begun counted v rs start l (text k t) = judged_ok (λ (q : State × List Entry). Begun q.0) (clash v (text k t) rs) _ (λ z. tt)

text_begun : (counted : Bool) (imposed : Option Version) (start : ℕ) (s : State) (l : Bytes) → OnOk (λ q. Begun q.0) (step_text counted imposed start s l)
unfolding step_text
text_begun counted imposed start empty l = elim (see (read_record v4_5 l)) [ was r e ↦ rw e (begin_begun counted imposed start l r) | not_read m e ↦ rw e tt ]
text_begun counted imposed start (ready v rs) l = elim (test (starts (ascii "#CHROM") l)) [
  | pass e ↦ elim (see (read_columns l)) [ was c a ↦ rw (step_text, e, a) tt | not_read m a ↦ rw (step_text, e, a) tt ]
  | fail e ↦ elim (see (read_record v l)) [ was r a ↦ rw (step_text, e, a) (enter_begun counted v rs start l r) | not_read m a ↦ rw (step_text, e, a) tt ]
]
text_begun counted imposed start (done v rs c) l = tt

pub step_begun : (lim : Limits) (imposed : Option Version) (start : ℕ) (s : State) (l : Bytes) {q : State × List Entry} → step lim imposed start s l ≡ ok q → Begun q.0
step_begun lim imposed start s l a =
    on_ok (λ q. Begun q.0) (text_begun lim.counted imposed start s l) (on_ok (Taken lim imposed start s l) (step_taken lim imposed start s l) a).2

run_keeps : (lim : Limits) (imposed : Option Version) (room n start count : ℕ) (s : State) (ps : List Bytes) → (s ≡ empty → n ≡ 0) → Keeps lim imposed n start s ps (run lim imposed room n start count s ps)
unfolding run
run_keeps lim imposed room n start count s [] h = at_end_lem s h
  where
    at_end_lem : (s : State) → (s ≡ empty → n ≡ 0) → Keeps lim imposed n start s [] (at_end n start s)
    at_end_lem empty h = all_taken (let z = h refl in omega arith) refl
    at_end_lem (ready v rs) h = all_taken (omega arith) refl
    at_end_lem (done v rs c) h = all_taken (omega arith) refl
run_keeps lim imposed room n start count s (p ∷ ps) h = elim (see (step lim imposed start s (line_of p))) [
  | not_read m a ↦ subst (Keeps lim imposed n start s (p ∷ ps)) (sym (run_refused lim imposed room n start count s p ps a)) (stopped 0 (omega arith) refl)
  | was q a ↦ elim (test (leb (count + length q.1) room)) [
    | fail t ↦ subst (Keeps lim imposed n start s (p ∷ ps)) (sym (run_full lim imposed room n start count s p ps a t)) (stopped 0 (omega arith) refl)
    | pass t ↦
        let r = run lim imposed room (suc n) (start + length p) (count + length q.1) q.0 ps in
        subst (Keeps lim imposed n start s (p ∷ ps)) (sym (run_more lim imposed room n start count s p ps a t))
        (more q a r (run_keeps lim imposed room (suc n) (start + length p) (count + length q.1) q.0 ps (λ e. absurd (begun q.0 (step_begun lim imposed start s (line_of p) a) e))))
  ]
]
  where
    begun : (s : State) → Begun s → s ≡ empty → ⊥
    begun empty b e = absurd b
    begun (ready v rs) b e = never cc
    begun (done v rs c) b e = never cc

    more : (q : State × List Entry) → step lim imposed start s (line_of p) ≡ ok q → (r : Reading) → Keeps lim imposed (suc n) (start + length p) q.0 ps r → Keeps lim imposed n start s (p ∷ ps) (following q.1 r)
    more q a r (all_taken e t) = all_taken (omega (arith, e)) (q, r.entries, a, refl, t)
    more q a r (stopped k e t) = stopped (suc k) (omega (arith, e)) (q, r.entries, a, refl, t)

-- the entries of a header within the limit are, in order, those of its lines, or of the lines before the one that was refused or had no room
pub refused_keeps : (lim : Limits) (imposed : Option Version) (room : ℕ) (h : Bytes) → length h ≤ lim.header → Keeps lim imposed 0 0 empty (pieces h) (reading lim imposed room h)
refused_keeps lim imposed room h l = rw (reading_short lim imposed room h l) (run_keeps lim imposed room 0 0 0 empty (pieces h) (λ e. refl))

-- a longer one keeps none
pub long_keeps : (lim : Limits) (imposed : Option Version) (room : ℕ) (h : Bytes) → lim.header < length h → reading lim imposed room h ≡ stop 27 0 0 empty
unfolding reading
long_keeps lim imposed room h l = rw (reading, lt-leb (length h) lim.header l)
