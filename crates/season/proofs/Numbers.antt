-- No header is lost: a reading's number is at most 27, so that the headers read are those accepted and those refused. Assumes nothing.
use Prim.Native.Nat.{ℕ, zero, suc, ◌+◌, ◌≤◌, ◌<◌}
use native.Mathlib.Omega.{arith}
use mathlib.Core.Path.{◌≡◌, refl, sym, ap, ap₂, ◌∙◌}
use mathlib.Core.Bool.{Bool, true, false, not, ◌&&◌, ◌||◌}
use mathlib.Core.List.{List, [], ◌∷◌, ◌++◌, map, tail}
use Rattle.std.specs.Prelude.{Option, None, Some}
use lib.Dec.{eqb, leb}
use lib.ListN.{length, take, drop, get_or}
use lib.Seq.{length-take-le}
use Rattle.values.specs.Bytes.{Bytes, ascii, is, same, starts, begins, before, from, empty as is_empty, EQUALS, LESS, GREATER}
use Rattle.values.specs.Integer.{u64_read}
use Rattle.rules.proofs.Firsts.{was, not_read, see}
use Rattle.rules.proofs.Fields.{no_field, a_field, see_field, was_more, was_done, was_wrong, see_after}
use Rattle.values.specs.Utf8.{is_utf8}
use Rattle.values.specs.Field.{Field, read_field}
use Rattle.values.specs.Value.{meaning_of}
use Rattle.rules.specs.Answer.{Answer, ok, refuse, ◌>>=◌, unless, first, judged}
use Rattle.rules.specs.Sizes.{Limits}
use Rattle.rules.specs.Lines.{pieces, line_of}
use Rattle.rules.specs.Version.{Version, v4_5, read_version}
use Rattle.rules.specs.Known.{Kind, INFO, FILTER, FORMAT, ALT, contig, other, KnownField, Reads, any_text, a_number, a_type, an_integer, is_in, is_typed, kind_of, always_map, name_of, types, read_number, required}
use Rattle.rules.specs.Reserved.{declares, reserved}
use Rattle.rules.specs.Map.{is_some, value_named, is_value, is_meta, field_named, After, more, done, wrong, after, scan, closing_refusal, read_fields, misread, value_refusal, known_named, check_fields, missing, misdeclared, map_refusal, read_map}
use Rattle.rules.specs.Record.{Record, fileformat, fields, text, key_of, fileformat_read, is_map, read_record_value, read_keyed, read_record}
use Rattle.rules.specs.Columns.{column_names, split, distinct, formatted, read_columns, after_columns}
use Rattle.rules.specs.Entry.{Entry, record_entry}
use Rattle.rules.specs.Reading.{State, empty, ready, done as finished, id_of, is_fields, beside_of, beside, clash, begin, enter, finish, step_text, is_done, step, run, reading}
use Rattle.values.proofs.Tests.{pass, fail, test}
use borrow.Author.Tests.{ne_eqb, eqb-true, eqb-false}
use Rattle.season.specs.Sheet.{numbers, once, accepted_entries, tally_of, sums, Given, tally_in, sheet_of}
use Rattle.season.specs.Claims.{total, by_number}
use Rattle.season.proofs.Tallies.{tally_length, tally_first}
use Rattle.season.proofs.Seasons.{sheet_length}

abbrev Low : {A : Type 0} → Answer A → Type 0
Low (ok a) = Unit {0}
Low (refuse n) = n ≤ 27

bind_low : {A B : Type 0} (a : Answer A) (f : A → Answer B) → Low a → ((x : A) → Low (f x)) → Low (a >>= f)
bind_low (ok a) f l g = g a
bind_low (refuse n) f l g = l

judged_low : {A : Type 0} (n : ℕ) (a : A) → n ≤ 27 → Low (judged n a)
judged_low zero a l = tt
judged_low (suc n) a l = l

unless_low : (q : Bool) (n : ℕ) → n ≤ 27 → unless q n ≤ 27
unless_low true n l = omega arith
unless_low false n l = l

abbrev AllLow : List ℕ → Type 0
AllLow [] = Unit {0}
AllLow (n ∷ ns) = (n ≤ 27) × AllLow ns

first_low : (ns : List ℕ) → AllLow ns → first ns ≤ 27
unfolding first
first_low [] a = omega arith
first_low (zero ∷ ns) a = first_low ns a.1
first_low (suc n ∷ ns) a = a.0

-- A map

scan_low : (n : ℕ) (meta : Bool) (bs : Bytes) → (scan n meta bs).1 ≤ 27
unfolding scan
scan_low zero meta bs = omega arith
scan_low (suc n) meta bs = elim (see_field (read_field meta bs)) [
  | no_field e ↦ rw (scan, e) (omega arith)
  | a_field p e ↦ elim (see_after (after p.1)) [
    | was_more r a ↦ rw (scan, e, a) (scan_low n meta r)
    | was_done a ↦ rw (scan, e, a) (omega arith)
    | was_wrong a ↦ rw (scan, e, a) (omega arith)
  ]
]

fields_low : (meta needed : Bool) (bs : Bytes) → (read_fields meta needed bs).1 ≤ 27
unfolding read_fields
fields_low meta needed bs = elim (test (not needed && (is_empty bs || begins GREATER bs))) [
  | pass e ↦ rw (read_fields, e) (closing (after bs))
  | fail e ↦ rw (read_fields, e) (scan_low (length bs) meta bs)
]
  where
    closing : (a : After) → closing_refusal a ≤ 27
    closing (more r) = omega arith
    closing done = omega arith
    closing wrong = omega arith

value_low : (v : Version) (kind : Kind) (t : Bytes) (o : Option KnownField) → value_refusal v kind t o ≤ 27
value_low v kind t None = omega arith
value_low v kind t (Some r) = misread_low r.reads
  where
    misread_low : (x : Reads) → misread v kind t x ≤ 27
    misread_low any_text = omega arith
    misread_low a_number = unless_low (is_some (read_number v kind t)) 11 (omega arith)
    misread_low a_type = unless_low (is_in t (types kind)) 12 (omega arith)
    misread_low an_integer = unless_low (is_value (u64_read t)) 13 (omega arith)

check_low : (v : Version) (k : Bytes) (seen : List Bytes) (fs : List Field) → check_fields v k seen fs ≤ 27
unfolding check_fields
check_low v k seen [] = omega arith
check_low v k seen (f ∷ fs) = first_low
    (value_refusal v (kind_of k) (meaning_of f.value) (known_named v k f.key) ∷ unless (not (is_in (name_of v k f.key) seen)) 10 ∷ check_fields v k (name_of v k f.key ∷ seen) fs ∷ [])
    (value_low v (kind_of k) (meaning_of f.value) (known_named v k f.key), (unless_low (not (is_in (name_of v k f.key) seen)) 10 (omega arith), (check_low v k (name_of v k f.key ∷ seen) fs, tt)))

missing_low : (v : Version) (k : Bytes) (fs : List Field) → missing v k fs ≤ 27
unfolding missing
missing_low v k fs = first_low (map asked (required (kind_of k))) (by (kind_of k))
  where
    asked : KnownField → ℕ
    asked r = unless (is_some (field_named v k r.name fs)) r.missing

    low : (name : Bytes) (n : ℕ) → n ≤ 27 → unless (is_some (field_named v k name fs)) n ≤ 27
    low name n l = unless_low (is_some (field_named v k name fs)) n l

    by : (kind : Kind) → AllLow (map asked (required kind))
    by INFO = (low (ascii "ID") 14 (omega arith), (low (ascii "Number") 15 (omega arith), (low (ascii "Type") 16 (omega arith), (low (ascii "Description") 17 (omega arith), tt))))
    by FORMAT = (low (ascii "ID") 14 (omega arith), (low (ascii "Number") 15 (omega arith), (low (ascii "Type") 16 (omega arith), (low (ascii "Description") 17 (omega arith), tt))))
    by FILTER = (low (ascii "ID") 14 (omega arith), (low (ascii "Description") 17 (omega arith), tt))
    by ALT = (low (ascii "ID") 14 (omega arith), (low (ascii "Description") 17 (omega arith), tt))
    by contig = (low (ascii "ID") 14 (omega arith), tt)
    by other = (low (ascii "ID") 14 (omega arith), tt)

misdeclared_low : (v : Version) (k : Bytes) (fs : List Field) → misdeclared v k fs ≤ 27
unfolding misdeclared
misdeclared_low v k fs = unless_low
    (declares (reserved v (kind_of k) (value_named v k (ascii "ID") fs)) (read_number v (kind_of k) (value_named v k (ascii "Number") fs)) (value_named v k (ascii "Type") fs)) 18 (omega arith)

map_low : (v : Version) (k : Bytes) (x : Bytes) → Low (read_map v k x)
unfolding read_map map_refusal
map_low v k x = elim (test (begins LESS x)) [
  | pass e ↦ rw (read_map, e) (
      let s = read_fields (is_meta v k) (always_map k) (tail x) in
      judged_low (map_refusal v k s) s.0 (first_low (check_fields v k [] s.0 ∷ s.1 ∷ missing v k s.0 ∷ misdeclared v k s.0 ∷ []) (check_low v k [] s.0, (fields_low (is_meta v k) (always_map k) (tail x), (missing_low v k s.0, (misdeclared_low v k s.0, tt))))))
  | fail e ↦ rw (read_map, e) (omega arith)
]

-- A line

value_read_low : (v : Version) (k x : Bytes) → Low (read_record_value v k x)
unfolding read_record_value
value_read_low v k x = elim (test (same k (ascii "fileformat"))) [
  | pass e ↦ rw (read_record_value, e) (format (read_version x))
  | fail e ↦ elim (test (is_map v k x)) [
    | pass m ↦ rw (read_record_value, e, m) (bind_low (read_map v k x) (λ fs. ok (fields k fs)) (map_low v k x) (λ fs. tt))
    | fail m ↦ rw (read_record_value, e, m) tt
  ]
]
  where
    format : (o : Option Version) → Low (fileformat_read o)
    format None = omega arith
    format (Some w) = tt

record_low : (v : Version) (l : Bytes) → Low (read_record v l)
unfolding read_record read_keyed
record_low v l = elim (test (starts (ascii "##") l)) [
  | pass e ↦ let k = before (is EQUALS) (drop 2 l) in let r = from (is EQUALS) (drop 2 l) in
      elim (test (not (is_empty k) && begins EQUALS r)) [
        | pass m ↦ rw (read_record, e, read_keyed, m) (value_read_low v k (tail r))
        | fail m ↦ rw (read_record, e, read_keyed, m) (omega arith)
      ]
  | fail e ↦ rw (read_record, e) (omega arith)
]

columns_low : (l : Bytes) → Low (read_columns l)
unfolding read_columns
columns_low l = by (after_columns column_names (split l))
  where
    by : (o : Option (List Bytes)) → Low (formatted o)
    by None = omega arith
    by (Some []) = tt
    by (Some (x ∷ xs)) = elim (test (same x (ascii "FORMAT"))) [
      | pass e ↦ rw (formatted, e) (judged_low (unless (distinct xs) 23) (record { format = true; samples = xs }) (unless_low (distinct xs) 23 (omega arith)))
      | fail e ↦ rw (formatted, e) (omega arith)
    ]

clash_low : (v : Version) (r : Record) (ss : List Record) → clash v r ss ≤ 27
unfolding clash beside
clash_low v r [] = omega arith
clash_low v r (s ∷ ss) = first_low (beside v r s ∷ clash v r ss ∷ []) (by (same (key_of s) (key_of r)) (is_fields r) (is_fields s) (same (id_of v s) (id_of v r)) (is_typed (key_of r)), (clash_low v r ss, tt))
  where
    by : (a b c d e : Bool) → beside_of a b c d e ≤ 27
    by false b c d e = omega arith
    by true false false d e = omega arith
    by true false true d e = omega arith
    by true true false d e = omega arith
    by true true true false e = omega arith
    by true true true true true = omega arith
    by true true true true false = omega arith

begin_low : (counted : Bool) (imposed : Option Version) (start : ℕ) (l : Bytes) (r : Record) → Low (begin counted imposed start l r)
begin_low counted imposed start l (fileformat v) = tt
begin_low counted imposed start l (fields k fs) = omega arith
begin_low counted imposed start l (text k t) = omega arith

enter_low : (counted : Bool) (v : Version) (rs : List Record) (start : ℕ) (l : Bytes) (r : Record) → Low (enter counted v rs start l r)
enter_low counted v rs start l (fileformat w) = omega arith
enter_low counted v rs start l (fields k fs) = judged_low (clash v (fields k fs) rs) (ready v (rs ++ fields k fs ∷ []), record_entry counted v start l (fields k fs) ∷ []) (clash_low v (fields k fs) rs)
enter_low counted v rs start l (text k t) = judged_low (clash v (text k t) rs) (ready v (rs ++ text k t ∷ []), record_entry counted v start l (text k t) ∷ []) (clash_low v (text k t) rs)

text_low : (counted : Bool) (imposed : Option Version) (start : ℕ) (s : State) (l : Bytes) → Low (step_text counted imposed start s l)
unfolding step_text
text_low counted imposed start empty l = bind_low (read_record v4_5 l) (begin counted imposed start l) (record_low v4_5 l) (begin_low counted imposed start l)
text_low counted imposed start (ready v rs) l = elim (test (starts (ascii "#CHROM") l)) [
  | pass e ↦ rw (step_text, e) (bind_low (read_columns l) (finish v rs start l) (columns_low l) (λ c. tt))
  | fail e ↦ rw (step_text, e) (bind_low (read_record v l) (enter counted v rs start l) (record_low v l) (enter_low counted v rs start l))
]
text_low counted imposed start (finished v rs c) l = omega arith

step_low : (lim : Limits) (imposed : Option Version) (start : ℕ) (s : State) (l : Bytes) → Low (step lim imposed start s l)
unfolding step
step_low lim imposed start s l = elim (test (is_done s)) [
  | pass d ↦ rw (step, d) (omega arith)
  | fail d ↦ elim (test (leb (length l) lim.line)) [
    | pass m ↦ elim (test (is_utf8 l)) [
      | pass u ↦ rw (step, d, m, u) (text_low lim.counted imposed start s l)
      | fail u ↦ rw (step, d, m, u) (omega arith)
    ]
    | fail m ↦ rw (step, d, m) (omega arith)
  ]
]

-- A header

run_low : (lim : Limits) (imposed : Option Version) (room n start count : ℕ) (s : State) (ps : List Bytes) → (run lim imposed room n start count s ps).number ≤ 27
unfolding run
run_low lim imposed room n start count empty [] = omega arith
run_low lim imposed room n start count (ready v rs) [] = omega arith
run_low lim imposed room n start count (finished v rs c) [] = omega arith
run_low lim imposed room n start count s (p ∷ ps) = elim (see (step lim imposed start s (line_of p))) [
  | not_read m e ↦ rw (run, e) (rw e at (step_low lim imposed start s (line_of p)))
  | was q e ↦ elim (test (leb (count + length q.1) room)) [
    | pass f ↦ rw (run, e, f) (run_low lim imposed room (suc n) (start + length p) (count + length q.1) q.0 ps)
    | fail f ↦ rw (run, e, f) (omega arith)
  ]
]

-- no reading is refused by a number past 27
pub reading_low : (lim : Limits) (imposed : Option Version) (room : ℕ) (h : Bytes) → (reading lim imposed room h).number ≤ 27
unfolding reading
reading_low lim imposed room h = elim (test (leb (length h) lim.header)) [
  | pass e ↦ rw (reading, e) (run_low lim imposed room 0 0 0 empty (pieces h))
  | fail e ↦ rw (reading, e) (omega arith)
]

-- The sheet

-- once among the numbers from n on, if it is one of them
none_of : (m n k : ℕ) → m < n → total (map (λ i. once (eqb m i)) (numbers n k)) ≡ 0
unfolding numbers total
none_of m n zero l = refl
none_of m n (suc k) l = rw (ne_eqb m n (λ e. omega (arith, e))) (let y = none_of m (n + 1) k (omega arith) in omega (arith, y))

one_of : (m n k : ℕ) → n ≤ m → m < n + k → total (map (λ i. once (eqb m i)) (numbers n k)) ≡ 1
unfolding numbers total
one_of m n zero l h = absurd (omega arith)
one_of m n (suc k) l h = elim (test (eqb m n)) [
  | pass e ↦ rw e (let z = eqb-true m n e in let y = none_of m (n + 1) k (omega (arith, z)) in omega (arith, y))
  | fail e ↦ rw e (let y = one_of m (n + 1) k (let z = eqb-false m n e in after_it m n l z) (omega arith) in omega (arith, y))
]
  where
    after_it : (m n : ℕ) → n ≤ m → (m ≡ n → ⊥) → n + 1 ≤ m
    after_it m n l f = omega (arith, f)

total_sums : (as' bs : List ℕ) → length as' ≡ length bs → total (sums as' bs) ≡ total as' + total bs
unfolding total sums
total_sums [] [] e = refl
total_sums [] (b ∷ bs) e = absurd (omega (arith, e))
total_sums (a ∷ as') [] e = absurd (omega (arith, e))
total_sums (a ∷ as') (b ∷ bs) e = let y = total_sums as' bs (omega (arith, e)) in omega (arith, y)

take_sums : (k : ℕ) (as' bs : List ℕ) → take k (sums as' bs) ≡ sums (take k as') (take k bs)
unfolding sums
take_sums zero as' bs = refl
take_sums (suc k) [] bs = refl
take_sums (suc k) (a ∷ as') [] = refl
take_sums (suc k) (a ∷ as') (b ∷ bs) = ap ((a + b) ∷◌) (take_sums k as' bs)

-- two sheets: the headers read, and those by number
first_sums : (as' bs : List ℕ) → length as' ≡ 39 → length bs ≡ 39 → (get_or (sums as' bs) 0 0 ≡ get_or as' 0 0 + get_or bs 0 0) × (total (by_number (sums as' bs)) ≡ total (by_number as') + total (by_number bs))
unfolding sums
first_sums [] bs l m = absurd (omega (arith, l))
first_sums (a ∷ as') [] l m = absurd (omega (arith, m))
first_sums (a ∷ as') (b ∷ bs) l m = (refl, ap total (take_sums 28 as' bs) ∙ total_sums (take 28 as') (take 28 bs) (length-take-le 28 as' (omega (arith, l)) ∙ sym (length-take-le 28 bs (omega (arith, m)))))

tally_told : (m : ℕ) (es : List Entry) → m ≤ 27 → total (by_number (tally_of m es)) ≡ 1
unfolding tally_of numbers
tally_told m es l = one_of m 0 28 (omega arith) (omega arith)

-- the headers read are those accepted and those refused by 1 to 27: none is left out
pub all_told : (xs : List Given) → get_or (sheet_of xs) 0 0 ≡ total (by_number (sheet_of xs))
unfolding sheet_of total
all_told [] = refl
all_told (x ∷ xs) =
    let r = reading x.limits x.imposed x.room x.bytes in
    let s = first_sums (tally_in x) (sheet_of xs) (tally_length r.number (accepted_entries r.number r.entries)) (sheet_length xs) in
    s.0 ∙ ap₂ ◌+◌ (one_read x) (all_told xs) ∙ ap (◌+ total (by_number (sheet_of xs))) (sym (tally_told r.number (accepted_entries r.number r.entries) (reading_low x.limits x.imposed x.room x.bytes))) ∙ sym s.1
  where
    one_read : (x : Given) → get_or (tally_in x) 0 0 ≡ 1
    one_read x = tally_first _ _
