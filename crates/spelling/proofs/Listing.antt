-- The list of entries that carry an oddly spelled number: one line, one entry, one turn of the walk. Assumes nothing.
use Prim.Native.Nat.{ℕ, suc, ◌+◌, ◌-◌, ◌≤◌, ◌<◌}
use native.Mathlib.Omega.{arith}
use mathlib.Core.Path.{◌≡◌, refl, sym, ap, ap₂, subst, ◌∙◌}
use mathlib.Core.Bool.{Bool, true, false, ◌||◌, ◌&&◌, true≢false}
use mathlib.Core.List.{List, [], ◌∷◌, ◌++◌, append_assoc, append-nil}
use Rattle.std.specs.Prelude.{Option, None, Some}
use lib.Dec.{leb}
use lib.ListN.{length, length-append}
use lib.Seq.{sets, length-sets}
use Rattle.values.specs.Bytes.{Bytes}
use Rattle.values.specs.Field.{Field}
use Rattle.values.proofs.Tests.{pass, fail, test, never}
use Rattle.values.proofs.Lists.{some_is}
use Rattle.values.proofs.Outputs.{sets_append}
use Rattle.rules.specs.Version.{Version}
use Rattle.rules.specs.Record.{Record, fileformat, fields, text}
use Rattle.rules.specs.Known.{kind_of}
use Rattle.rules.specs.Entry.{Entry, fields_of, record_kind, counts_of, with_counts}
use Rattle.rules.specs.Shown.{has_id, line_in, read_alone, counted_as, entry_record}
use Rattle.rules.proofs.Shows.{map_kind_lem, tells_own}
use Rattle.rules.specs.Spelling.{has_odd, record_odd, is_read_again, entry_odd}
use Rattle.records.specs.declared.map.Tally.{Tally}
use Rattle.records.specs.declared.record.MapRecord.{MapRecord}
use Rattle.alone.specs.Alones.{AloneIs, ReadsEntry}
use Rattle.alone.specs.declared.read.Alone.{Alone}
use Rattle.alone.specs.declared.read.Alone.TheVariants as alone
use Rattle.entries.specs.Values.{limits_by}
use Rattle.entries.specs.declared.form.Form.{Form}
use Rattle.entries.specs.Tables.{room, entry_at}
use Rattle.spelling.specs.Odd.{listing, odd_from, odd_in, spelling_means, Walks}

-- A line

without_fields : (v : Version) (r : Record) → fields_of r ≡ [] → Some false ≡ record_odd v (Some r)
unfolding has_odd
without_fields v (fileformat w) e = refl
without_fields v (text k t) e = refl
without_fields v (fields k fs) e = ap (λ (fs : List Field). Some (has_odd v k fs)) (sym e)

module _ (counted : Bool) (h : Bytes) (v : Version) (e : Entry) {x : Option Alone} (a : ReadsEntry counted v h e x) where
  told : {y : Option Alone} → x ≡ y → AloneIs v (line_in h e) (entry_record counted h v e) y
  told q = subst (AloneIs v (line_in h e) (entry_record counted h v e)) q a.is

  pub line_refused : x ≡ None → None ≡ record_odd v (entry_record counted h v e)
  line_refused q = sym (ap (record_odd v) (told q))

  pub line_without : {n : ℕ} → x ≡ Some (alone.Plain n) → Some false ≡ record_odd v (entry_record counted h v e)
  line_without q = let t = told q in without_fields v t.0 t.2 ∙ sym (ap (record_odd v) t.1)

  module _ {m : MapRecord} (q : x ≡ Some (alone.Map m)) where
    map_odd : {o : Bool} → m.tally.odd ≡ o → Some o ≡ record_odd v (entry_record counted h v e)
    map_odd f = let t = told q in sym (ap (record_odd v) t.1 ∙ ap Some (sym (ap (λ (y : Tally). y.odd) t.2.tally) ∙ f))

    pub line_odd : m.tally.odd ≡ true → Some true ≡ record_odd v (entry_record counted h v e)
    line_odd f = map_odd f

    pub line_plain : m.tally.odd ≡ false → Some false ≡ record_odd v (entry_record counted h v e)
    line_plain f = map_odd f

pub ruleset lines = (line_refused, line_without, line_odd, line_plain)

-- An entry of the second form with the counts of its line is spelled as it is in the first, where the line reads as a record of its kind

kind_odd : (v : Version) (r : Record) → has_id (record_kind r) ≡ false → record_odd v (Some r) ≡ Some false
kind_odd v (fileformat w) e = refl
kind_odd v (fields k fs) e = absurd (true≢false (sym (map_kind_lem (kind_of k)).0 ∙ e))
kind_odd v (text k t) e = refl

kind_small : (r : Record) → leb (record_kind r) 8 ≡ true
kind_small (fileformat w) = refl
kind_small (fields k fs) = (map_kind_lem (kind_of k)).2
kind_small (text k t) = refl

module _ (h : Bytes) (v : Version) (e : Entry) {r : Record} (q : read_alone v e.kind (line_in h e) ≡ Some r) (k : record_kind r ≡ e.kind) where
  counted_record : (counted : Bool) → entry_record counted h v (with_counts (counts_of counted r) e) ≡ Some r
  unfolding entry_record line_in
  counted_record counted = ap (counted_as counted (with_counts (counts_of counted r) e)) q ∙ ap (λ (b : Bool). elim b [ true ↦ Some r | false ↦ None ]) (tells_own counted r e)

  -- read again or not
  odd_by : (counted : Bool) {q : Bool} → is_read_again counted e.kind ≡ q
      → entry_odd counted h v (Some (with_counts (counts_of counted r) e)) ≡ elim q [ true ↦ record_odd v (Some r) | false ↦ Some false ]
  odd_by counted {q} i =
      ap (λ (q : Bool). elim q [ true ↦ record_odd v (entry_record counted h v (with_counts (counts_of counted r) e)) | false ↦ Some false ]) i
      ∙ ap (λ (o : Option Record). elim q [ true ↦ record_odd v o | false ↦ Some false ]) (counted_record counted)

  pub either_form : entry_odd true h v (Some (with_counts (counts_of true r) e)) ≡ entry_odd false h v (Some (with_counts (counts_of false r) e))
  either_form = elim (test (has_id e.kind)) [
    | pass i ↦ odd_by true {q = true} (ap (λ (b : Bool). b || (true && leb e.kind 8)) i) ∙ sym (odd_by false {q = true} (ap (λ (b : Bool). b || (false && leb e.kind 8)) i))
    | fail i ↦
        odd_by true {q = true} (ap₂ (λ (b c : Bool). b || (true && c)) i (ap (λ (n : ℕ). leb n 8) (sym k) ∙ kind_small r)) ∙ kind_odd v r (ap has_id k ∙ i)
        ∙ sym (odd_by false {q = false} (ap (λ (b : Bool). b || (false && leb e.kind 8)) i))
  ]

-- The walk

-- these numbers in front of the rest
abbrev after : List ℕ → Option (List ℕ) → Option (List ℕ)
after ds None = None
after ds (Some ns) = Some (ds ++ ns)

after_odd : (ds : List ℕ) (n : ℕ) (o : Option (List ℕ)) → after ds (listing n (Some true) o) ≡ after (ds ++ n ∷ []) o
after_odd ds n None = refl
after_odd ds n (Some ns) = ap Some (sym (append_assoc ds (n ∷ []) ns))

after_plain : (ds : List ℕ) (n : ℕ) (o : Option (List ℕ)) → after ds (listing n (Some false) o) ≡ after ds o
after_plain ds n None = refl
after_plain ds n (Some ns) = refl

-- the entries before n were passed, `found` of them listed
pub record Walking (form : Form) (h : Bytes) (t : List ℕ) (v : Version) (list₀ : List ℕ) (list : List ℕ) (n found : ℕ) : Type 0 where
  pub inside : n ≤ room form t
  pub small : found ≤ n
  pub done : List ℕ
  pub size : length done ≡ found
  pub whole : odd_in form h t v ≡ after done (odd_from form h t v n (room form t - n))
  pub wrote : list ≡ sets list₀ 0 done
  pub long : length list ≡ length list₀

pub walk_start : (form : Form) (h : Bytes) (t : List ℕ) (v : Version) (list : List ℕ) → Walking form h t v list list 0 0
walk_start form h t v list = record { inside = omega arith; small = omega arith; done = []; size = refl; whole = let z : room form t - 0 ≡ room form t = omega arith in rw z (sym (nothing (odd_in form h t v))); wrote = refl; long = refl }
  where
    nothing : (o : Option (List ℕ)) → after [] o ≡ o
    nothing None = refl
    nothing (Some ns) = refl

module _ {form : Form} {h : Bytes} {t : List ℕ} {v : Version} {list₀ list : List ℕ} {n found : ℕ} (g : Walking form h t v list₀ list n found) {m : ℕ} (all : m ≡ room form t) where
  pub walk_end : m ≤ n → Walks (odd_in form h t v) list₀ (Some found) list
  unfolding odd_from
  walk_end e =
      let z : room form t - n ≡ 0 = omega (arith, e, all) in
      let w : odd_in form h t v ≡ Some g.done = g.whole ∙ rw (z, append-nil g.done) in
      record {
        counts = (g.done, w, sym g.size);
        lists = λ ns f. g.wrote ∙ ap (sets list₀ 0) (some_is (sym w ∙ f));
      }

  module _ (b : n < m) (r : Option Bool) (a : spelling_means r ≡ entry_odd (limits_by form).counted h v (entry_at form h t n)) where
    more : (r : Option Bool) → entry_odd (limits_by form).counted h v (entry_at form h t n) ≡ r → odd_in form h t v ≡ after g.done (listing n r (odd_from form h t v (n + 1) (room form t - (n + 1))))
    unfolding odd_from
    more r e = let z : room form t - n ≡ suc (room form t - (n + 1)) = omega (arith, b, all) in g.whole ∙ rw (z, odd_from, e)

    pub walk_refused : r ≡ None → Walks (odd_in form h t v) list₀ None list
    walk_refused e = let w = more None (sym a ∙ ap spelling_means e) in record { counts = w; lists = λ ns f. never_some (sym w ∙ f) }
      where
        never_some : {ns : List ℕ} {A : Type 0} → ◌≡◌ {A = Option (List ℕ)} None (Some ns) → A
        never_some e = never cc

    pub walk_plain : {o : Bool} → r ≡ Some o → o ≡ false → Walking form h t v list₀ list (n + 1) found
    walk_plain z y = let e = z ∙ ap Some y in record {
      inside = omega (arith, b, all);
      small = omega (arith, g.small);
      done = g.done;
      size = g.size;
      whole = more (Some false) (sym a ∙ ap spelling_means e) ∙ after_plain g.done n (odd_from form h t v (n + 1) (room form t - (n + 1)));
      wrote = g.wrote;
      long = g.long;
    }

    pub walk_odd : {o : Bool} → r ≡ Some o → o ≡ true → {list' : List ℕ} → list' ≡ sets list found (n ∷ []) → Walking form h t v list₀ list' (n + 1) (found + 1)
    walk_odd z y {list'} f = let e = z ∙ ap Some y in record {
      inside = omega (arith, b, all);
      small = omega (arith, g.small);
      done = g.done ++ n ∷ [];
      size = length-append g.done (n ∷ []) ∙ ap (◌+ 1) g.size;
      whole = more (Some true) (sym a ∙ ap spelling_means e) ∙ after_odd g.done n (odd_from form h t v (n + 1) (room form t - (n + 1)));
      wrote = let s : found ≡ 0 + length g.done = sym g.size ∙ omega arith in f ∙ rw (g.wrote, s) (sets_append list₀ 0 g.done (n ∷ []));
      long = ap length f ∙ length-sets list found (n ∷ []) ∙ g.long;
    }

pub ruleset walking = (walk_start, walk_end, walk_refused, walk_plain, walk_odd)
