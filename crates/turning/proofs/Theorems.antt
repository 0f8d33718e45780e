-- Document 02, §5 and §10: what turning keeps. Assumes nothing.
use Prim.Native.Nat.{ℕ, zero, suc, ◌+◌, ◌-◌, ◌^◌, ◌≤◌, ◌<◌}
use native.Mathlib.Omega.{arith}
use mathlib.Core.Path.{◌≡◌, refl, sym, ap, subst, ◌∙◌}
use mathlib.Core.Bool.{Bool, true, false, ◌||◌, ◌&&◌, true≢false}
use mathlib.Core.List.{List, [], ◌∷◌}
use Rattle.std.specs.Prelude.{Option, None, Some, Ok}
use mathlib.Core.Logic.{◌↔◌}
use lib.Dec.{eqb, leb}
use lib.ListN.{length, drop, length-take}
use borrow.Author.Tests.{le-leb, leb-true, leb-false, eqb-true}
use Rattle.values.specs.Bytes.{Bytes}
use Rattle.values.specs.Utf8.{is_utf8}
use Rattle.values.proofs.Tests.{pass, fail, test, and_l, and_r, never}
use Rattle.values.proofs.Lists.{some_is, none_not}
use Rattle.rules.specs.Answer.{Answer, ok, refuse}
use Rattle.rules.specs.Version.{Version}
use Rattle.rules.specs.Known.{kind_of}
use Rattle.rules.specs.Record.{Record, fileformat, fields, text, read_record}
use Rattle.rules.specs.Columns.{Columns}
use Rattle.rules.specs.Entry.{Entry, Counts, no_counts, counts_of, with_counts, fields_of, record_kind}
use Rattle.rules.specs.Reading.{reading}
use Rattle.rules.specs.Shown.{has_id, says_no_id, counts_in_place, well_formed, line_in, of_kind, read_alone, counted_as, entry_record, entry_part, id_part}
use Rattle.rules.specs.Claims.{All, nth, SizedOption, Accepted, ShowsPlain}
use Rattle.rules.proofs.Counts.{line_key, line_fields}
use Rattle.rules.proofs.Shows.{map_kind_lem}
use Rattle.rules.proofs.Alls.{all_map}
use Rattle.rules.proofs.Stands.{Stands, reading_stands, accepted_short}
use Rattle.rules.proofs.Demands.{entry_shows, format_tells, column_shows, sample_shows, entry_count}
use Rattle.entries.specs.declared.form.Form.{Form}
use Rattle.entries.specs.declared.form.Form.TheVariants.{First, Second}
use Rattle.entries.specs.Values.{limits_by}
use Rattle.entries.specs.Words.{unpacked}
use Rattle.entries.specs.Tables.{room, stored, first_entries, words_at, entry_in, entries_from, entries_in, entry_at}
use Rattle.entries.proofs.Calls.{formed, found_at}
use Rattle.entries.proofs.Words.{Word, Storable, storable_within, unpacked_storable}
use Rattle.entries.proofs.Stored.{entries_here, entries_count, entry_stored, storable, first_stored, entry_at_first, first_room, stored_room, words_again}
use Rattle.turning.specs.Turning.{Way, to_first, to_second, target_of, source_of, with_record, raised, turned_entry, turned_if, turned_at, turned_from, turned_in, fits_in, all_fit, outcome_by, outcome_of, turn_outcome}
use Rattle.turning.proofs.Turns.{parts, turned_count}

-- Lists by their numbers

nth_of : (xs ys : List Entry) (n : ℕ) {x : Entry} → drop n xs ≡ x ∷ ys → nth xs n ≡ Some x
nth_of [] ys zero e = never cc
nth_of [] ys (suc n) e = never cc
nth_of (y ∷ xs) ys zero {x} e = let q : y ≡ x = cc in ap Some q
nth_of (y ∷ xs) ys (suc n) e = nth_of xs ys n e

nth_in : (form : Form) (t : List ℕ) (n : ℕ) → n < room form t → nth (entries_in form t) n ≡ Some (entry_in form t n)
nth_in form t n l = nth_of (entries_in form t) (drop (n + 1) (entries_in form t)) n (entries_here form t n l)

nth_there : {A : Type 0} (xs : List A) (n : ℕ) → n < length xs → (x : A) × (nth xs n ≡ Some x)
nth_there [] n l = absurd (omega arith)
nth_there (x ∷ xs) zero l = (x, refl)
nth_there (x ∷ xs) (suc n) l = nth_there xs n (omega arith)

nth_low : {A : Type 0} (xs : List A) (n : ℕ) {x : A} → nth xs n ≡ Some x → n < length xs
nth_low [] n e = none_not e
nth_low (x ∷ xs) zero e = omega arith
nth_low (x ∷ xs) (suc n) e = let l = nth_low xs n e in omega arith

-- what holds of each number's one holds of all, and of one of them
all_of : (P : Entry → Type 0) (es : List Entry) → ((n : ℕ) (e : Entry) → nth es n ≡ Some e → P e) → All P es
all_of P [] f = tt
all_of P (e ∷ es) f = (f 0 e refl, all_of P es (λ n x q. f (suc n) x q))

one_of : (P : Entry → Type 0) (es : List Entry) (n : ℕ) {e : Entry} → All P es → nth es n ≡ Some e → P e
one_of P [] n a h = none_not h
one_of P (x ∷ es) zero a h = subst P (some_is h) a.0
one_of P (x ∷ es) (suc n) a h = one_of P es n a.1 h

-- All entries of a table are turned exactly when each is

module _ (w : Way) (h : Bytes) (s : List ℕ) where
  -- number i of those that were turned, and the entry that it was
  pub record TurnedOne (es : List Entry) (i : ℕ) (n : ℕ) : Type 0 where
    pub was : Entry
    pub found : entry_at (source_of w) h s n ≡ Some was
    pub is : Entry
    pub turns_so : turned_entry w h was ≡ Some is
    pub there : nth es i ≡ Some is

  one_from : (n k : ℕ) {es : List Entry} → turned_from w h s n k ≡ Some es → (i : ℕ) → i < k → TurnedOne es i (n + i)
  unfolding turned_from
  one_from n zero e i l = absurd (omega arith)
  one_from n (suc k) {es} e i l = let p = parts (turned_at w h s n) (turned_from w h s (n + 1) k) e in go i l p.0 p.1 p.2 (λ j m. one_from (n + 1) k p.3 j m) p.4
    where
      here : (o : Option Entry) {x : Entry} → turned_if w h o ≡ Some x → (y : Entry) × (o ≡ Some y) × (turned_entry w h y ≡ Some x)
      here None e = none_not e
      here (Some y) e = (y, refl, e)

      go : (i : ℕ) → i < suc k → (x : Entry) (fs : List Entry) → turned_at w h s n ≡ Some x → ((j : ℕ) → j < k → TurnedOne fs j (n + 1 + j)) → es ≡ x ∷ fs → TurnedOne es i (n + i)
      go zero l x fs a b c =
          let q = here (entry_at (source_of w) h s n) a in
          let z : n + 0 ≡ n = omega arith in
          rw z (record { was = q.0; found = q.1; is = x; turns_so = q.2; there = ap (λ (y : List Entry). nth y 0) c })
      go (suc j) l x fs a b c =
          let r = b j (omega arith) in
          let z : n + suc j ≡ n + 1 + j = omega arith in
          rw z (record { was = r.was; found = r.found; is = r.is; turns_so = r.turns_so; there = ap (λ (y : List Entry). nth y (suc j)) c ∙ r.there })

  turned_one : {es : List Entry} → turned_in w h s ≡ Some es → (n : ℕ) → n < room (source_of w) s → TurnedOne es n n
  turned_one {es} e n l = let z : 0 + n ≡ n = omega arith in subst (TurnedOne es n) z (one_from 0 (room (source_of w) s) e n l)

  all_from : (n k : ℕ) → ((i : ℕ) → n ≤ i → i < n + k → (e : Entry) × (turned_at w h s i ≡ Some e)) → (es : List Entry) × (turned_from w h s n k ≡ Some es)
  unfolding turned_from
  all_from n zero f = ([], refl)
  all_from n (suc k) f =
      let x = f n (omega arith) (omega arith) in
      let r = all_from (n + 1) k (λ i a b. f i (omega arith) (omega arith)) in
      (x.0 ∷ r.0, rw (x.1, r.1))

  turned_all : ((i : ℕ) → i < room (source_of w) s → (e : Entry) × (turned_at w h s i ≡ Some e)) → (es : List Entry) × (turned_in w h s ≡ Some es)
  turned_all f = all_from 0 (room (source_of w) s) (λ i a b. f i (omega arith))

-- An entry that is turned stays well formed, and all but its counts stays

-- a line that was read alone
read_so : (v : Version) (kind : ℕ) (l : Bytes) {r : Record} → read_alone v kind l ≡ Some r → (read_record v l ≡ ok r) × (record_kind r ≡ kind)
unfolding read_alone
read_so v kind l {r} e = go (is_utf8 l) e
  where
    by_kind_lem : (x : Record) (b : Bool) → eqb (record_kind x) kind ≡ b → elim b [ true ↦ Some x | false ↦ None ] ≡ Some r → (x ≡ r) × (record_kind r ≡ kind)
    by_kind_lem x true k e = let q = some_is e in (q, ap record_kind (sym q) ∙ eqb-true (record_kind x) kind k)
    by_kind_lem x false k e = none_not e

    go_read : (a : Answer Record) → of_kind kind a ≡ Some r → (a ≡ ok r) × (record_kind r ≡ kind)
    go_read (refuse n) e = none_not e
    go_read (ok x) e = let q = by_kind_lem x (eqb (record_kind x) kind) refl e in (ap ok q.0, q.1)

    go : (b : Bool) → elim b [ true ↦ of_kind kind (read_record v l) | false ↦ None ] ≡ Some r → (read_record v l ≡ ok r) × (record_kind r ≡ kind)
    go true e = go_read (read_record v l) e
    go false e = none_not e

-- a record has fields in the kinds with an ID alone
few_fields : (r : Record) → (has_id (record_kind r) || eqb (length (fields_of r)) 0) ≡ true
few_fields (fileformat v) = refl
few_fields (fields k fs) = rw (map_kind_lem (kind_of k)).0
few_fields (text k t) = refl

-- what turning makes of an entry
pub record Kept (w : Way) (e x : Entry) : Type 0 where
  pub counts : Counts
  pub is : x ≡ with_counts counts e
  pub key : counts.key_length ≤ e.length
  pub field : counts.field_count ≤ e.length
  pub uncounted : (limits_by (target_of w)).counted ≡ false → (counts.key_length ≡ 0) × (counts.field_count ≡ 0)
  pub placed : counts_in_place (with_counts counts e) ≡ true

without : (w : Way) (e : Entry) → Kept w e (with_counts no_counts e)
unfolding counts_in_place
without w e = record { counts = no_counts; is = refl; key = omega arith; field = omega arith; uncounted = λ q. (refl, refl); placed = rw (or-true (leb e.kind 8), or-true (has_id e.kind)) }
  where
    or-true : (b : Bool) → (b || true) ≡ true
    or-true true = refl
    or-true false = refl

kept : (w : Way) (h : Bytes) (e : Entry) {x : Entry} → turned_entry w h e ≡ Some x → Kept w e x
unfolding raised counts_of counts_in_place line_in
kept to_first h e {x} q = subst (Kept to_first e) (some_is q) (without to_first e)
kept (to_second v) h e {x} q = go (leb e.kind 8) refl q
  where
    counted : leb e.kind 8 ≡ true → (o : Option Record) → read_alone (v) e.kind (line_in h e) ≡ o → with_record e o ≡ Some x → Kept (to_second v) e x
    counted low None a q = none_not q
    counted low (Some r) a q =
        let s = read_so (v) e.kind (line_in h e) a in
        let k = (line_key (v) (line_in h e) r s.0).1 in
        let n = line_fields (v) (line_in h e) r s.0 in
        let t = length-take e.length (drop e.start h) in
        record {
          counts = counts_of true r;
          is = sym (some_is q);
          key = omega (arith, k, t);
          field = omega (arith, n, t);
          uncounted = λ z. absurd (true≢false z);
          placed = rw (low, ← s.1) (few_fields r);
        }

    go : (b : Bool) → leb e.kind 8 ≡ b → elim b [ true ↦ with_record e (read_alone (v) e.kind (line_in h e)) | false ↦ Some (with_counts no_counts e) ] ≡ Some x → Kept (to_second v) e x
    go true low q = counted low (read_alone (v) e.kind (line_in h e)) refl q
    go false low q = subst (Kept (to_second v) e) (some_is q) (without (to_second v) e)

-- well-formedness looks at the counts last
still_formed : (size : ℕ) (c : Counts) (e : Entry) → counts_in_place (with_counts c e) ≡ true → well_formed size e ≡ true → well_formed size (with_counts c e) ≡ true
unfolding well_formed says_no_id
still_formed size c e p f =
    let a = leb 1 e.kind && leb e.kind 10 in
    let b = eqb e.tag 0 || (eqb e.kind 7 && leb e.tag 2) in
    let d = has_id e.kind || says_no_id e in
    let i = leb (e.start + e.length) size in
    let j = leb (e.offset + e.id_length) e.length in
    let k = counts_in_place e in
    let s = and_r a (b && (d && (i && (j && k)))) f in
    let t = and_r b (d && (i && (j && k))) s in
    let u = and_r d (i && (j && k)) t in
    let v = and_r i (j && k) u in
    all_true (and_l a (b && (d && (i && (j && k)))) f) (and_l b (d && (i && (j && k))) s) (and_l d (i && (j && k)) t) (and_l i (j && k) u) (and_l j k v) p
  where
    all_true : {a b c d i j : Bool} → a ≡ true → b ≡ true → c ≡ true → d ≡ true → i ≡ true → j ≡ true → (a && (b && (c && (d && (i && j))))) ≡ true
    all_true p q r s t u = rw (p, q, r, s, t, u)

-- an entry whose numbers are within a form's limits
pub record Within (form : Form) (e : Entry) : Type 0 where
  pub start : e.start ≤ (limits_by form).header
  pub length : e.length ≤ (limits_by form).line
  pub offset : e.offset ≤ (limits_by form).line
  pub id_length : e.id_length ≤ (limits_by form).line

within : (form : Form) (e : Entry) → fits_in form e ≡ true → Within form e
within form e f =
    let h = (limits_by form).header in
    let l = (limits_by form).line in
    let a = leb e.start h in
    let b = leb e.length l in
    let c = leb e.offset l in
    let d = leb e.id_length l in
    let x = and_r a (b && (c && d)) f in
    let y = and_r b (c && d) x in
    record {
      start = leb-true e.start h (and_l a (b && (c && d)) f);
      length = leb-true e.length l (and_l b (c && d) x);
      offset = leb-true e.offset l (and_l c d y);
      id_length = leb-true e.id_length l (and_r c d y);
    }

fitting : (form : Form) (e : Entry) → Within form e → fits_in form e ≡ true
fitting form e w =
    let h = (limits_by form).header in
    let l = (limits_by form).line in
    rw (le-leb e.start h w.start, le-leb e.length l w.length, le-leb e.offset l w.offset, le-leb e.id_length l w.id_length)

all_within : (form : Form) (es : List Entry) → (all_fit form es ≡ true) ↔ All (Within form) es
unfolding all_fit
all_within form [] = ((λ e. tt), (λ a. refl))
all_within form (e ∷ es) = let r = all_within form es in (
  (λ f. (within form e (and_l (fits_in form e) (all_fit form es) f), r.0 (and_r (fits_in form e) (all_fit form es) f))),
  (λ a. rw (fitting form e a.0, r.1 a.1)),
)

-- One law over both ways: the calls find the entries that were turned, number by number

pub record IsTurned (w : Way) (h : Bytes) (s t : List ℕ) (es : List Entry) : Type 0 where
  pub all : turned_in w h s ≡ Some es
  pub fits_all : All (Within (target_of w)) es
  pub roomy : room (source_of w) s ≤ room (target_of w) t

pub is_turned : (w : Way) (h : Bytes) (s t : List ℕ) → turn_outcome w h s t ≡ Ok tt → (es : List Entry) × IsTurned w h s t es
is_turned w h s t e = go (turned_in w h s) refl e
  where
    both_true : (x y : Bool) → outcome_by x y ≡ Ok tt → (x ≡ true) × (y ≡ true)
    both_true false y e = never cc
    both_true true false e = never cc
    both_true true true e = (refl, refl)

    go : (o : Option (List Entry)) → turned_in w h s ≡ o → outcome_of (target_of w) t o ≡ Ok tt → (es : List Entry) × IsTurned w h s t es
    go None q e = never cc
    go (Some es) q e =
        let p = both_true (all_fit (target_of w) es) (leb (length es) (room (target_of w) t)) e in
        let l = leb-true (length es) (room (target_of w) t) p.1 in
        (es, record { all = q; fits_all = (all_within (target_of w) es).0 p.0; roomy = rw (← turned_count w h s 0 (room (source_of w) s) q) l })

pub turns : {w : Way} {h : Bytes} {s t : List ℕ} {es : List Entry} → IsTurned w h s t es → turn_outcome w h s t ≡ Ok tt
turns {w} {h} {s} {t} {es} i = rw (i.all, (all_within (target_of w) es).1 i.fits_all, le-leb (length es) (room (target_of w) t) (rw (turned_count w h s 0 (room (source_of w) s) i.all) i.roomy))

module _ {w : Way} {h : Bytes} {s t : List ℕ} {es : List Entry} (i : IsTurned w h s t es) where
  abbrev from : Form
  from = source_of w

  abbrev to : Form
  to = target_of w

  abbrev many : length es ≡ room from s
  many = turned_count w h s 0 (room from s) i.all

  module _ (n : ℕ) (l : n < room from s) where
    abbrev one : TurnedOne w h s es n n
    one = turned_one w h s i.all n l

    well : well_formed (length h) one.was ≡ true
    well = (found_at from h s n one.found).well

    stays : Kept w one.was one.is
    stays = kept w h one.was one.turns_so

    turned_storable : Storable to one.is
    turned_storable =
        let k = stays in
        let f = formed (length h) one.was well in
        let x = subst (Within to) k.is (one_of (Within to) es n i.fits_all one.there) in
        let d = x.length in
        rw k.is (storable_within to (with_counts k.counts one.was) f.high f.tag x.start x.length x.offset x.id_length (omega (arith, k.key, d)) (omega (arith, k.field, d)) k.uncounted)

    -- the entry that is found there is the one that was found here, but for its counts
    pub turned_found : (e : Entry) × (c : Counts) × (entry_at from h s n ≡ Some e) × (entry_at to h (stored to t 0 es) n ≡ Some (with_counts c e))
    turned_found =
        let k = stays in
        let f = still_formed (length h) k.counts one.was k.placed well in
        (one.was, k.counts, one.found, entry_stored to t es n (omega (arith, many, i.roomy)) (one.there ∙ ap Some k.is) h (subst (Storable to) k.is turned_storable) f)

    -- so the entry call and the ID call show the same
    pub turned_shows : (entry_part (entry_at to h (stored to t 0 es) n) ≡ entry_part (entry_at from h s n)) × (id_part (entry_at to h (stored to t 0 es) n) ≡ id_part (entry_at from h s n))
    turned_shows = let f = turned_found in (ap entry_part f.3 ∙ sym (ap entry_part f.2), ap id_part f.3 ∙ sym (ap id_part f.2))

-- To the second form: where every entry's line reads and there is room

held_within : (ws : List ℕ) → Within First (unpacked First ws)
held_within ws =
    let s = unpacked_storable First ws in
    record { start = omega (arith, s.one.1.0); length = omega (arith, s.one.1.1.0); offset = omega (arith, s.two.0); id_length = omega (arith, s.two.1.0) }

second_fits : (v : Version) (h : Bytes) (s : List ℕ) {es : List Entry} → turned_in (to_second v) h s ≡ Some es → All (Within Second) es
unfolding entry_in
second_fits v h s {es} a = all_of (Within Second) es (λ n e q.
    let l : n < room First s = rw (← turned_count (to_second v) h s 0 (room First s) a) (nth_low es n q) in
    let o = turned_one (to_second v) h s a n l in
    let k = kept (to_second v) h o.was o.turns_so in
    let w = subst (Within First) (found_at First h s n o.found).held (held_within (words_at First s n)) in
    let same : e ≡ with_counts k.counts o.was = some_is (sym q ∙ o.there) ∙ k.is in
    rw same (record { start = omega (arith, w.start); length = omega (arith, w.length); offset = omega (arith, w.offset); id_length = omega (arith, w.id_length) }))

pub to_second_turns : {v : Version} {h : Bytes} {s t : List ℕ} {es : List Entry} → turned_in (to_second v) h s ≡ Some es → room First s ≤ room Second t → IsTurned (to_second v) h s t es
to_second_turns {v} {h} {s} a l = record { all = a; fits_all = second_fits v h s a; roomy = l }

-- which it does for the entries of an accepted header under its version

-- a line that reads as its record
again_raised : (h : Bytes) (v : Version) (e : Entry) {r : Record} → entry_record false h v e ≡ Some r → (x : Entry) × (raised h v e ≡ Some x)
unfolding entry_record raised
again_raised h v e {r} q = go (leb e.kind 8) (read_alone v e.kind (line_in h e)) q
  where
    go : (b : Bool) (o : Option Record) → counted_as false e o ≡ Some r → (x : Entry) × (elim b [ true ↦ with_record e o | false ↦ Some (with_counts no_counts e) ] ≡ Some x)
    go false o q = (with_counts no_counts e, refl)
    go true None q = none_not q
    go true (Some y) q = (with_counts (counts_of true y) e, refl)

-- kinds 9 and 10 are not read
plain_raised : (h : Bytes) (v : Version) (e : Entry) → leb e.kind 8 ≡ false → (x : Entry) × (raised h v e ≡ Some x)
unfolding raised
plain_raised h v e q = (with_counts no_counts e, rw (raised, q))

module _ (imposed : Option Version) (sized : SizedOption imposed) (size : ℕ) (h : Bytes) {v : Version} {rs : List Record} {c : Columns} (a : Accepted v rs c (reading (limits_by First) imposed size h)) where
  abbrev read : List Entry
  read = (reading (limits_by First) imposed size h).entries

  same_kind : {kind : ℕ} {x : Bytes} {e : Entry} → ShowsPlain h kind x e → leb kind 8 ≡ false → leb e.kind 8 ≡ false
  same_kind s q = ap (λ (k : ℕ). leb k 8) s.is_kind ∙ q

  each_raised : (n : ℕ) → n < length read → (e : Entry) × (nth read n ≡ Some e) × (x : Entry) × (raised h v e ≡ Some x)
  each_raised zero l = let t = format_tells (limits_by First) imposed sized size h a v in let g = again_raised h v t.0 t.2.again in (t.0, t.1, g.0, g.1)
  each_raised (suc i) l = elim (test (leb (suc i) (length rs))) [
    | pass m ↦
        let r = nth_there rs i (leb-true (suc i) (length rs) m) in
        let s = entry_shows (limits_by First) imposed sized size h a i r.1 in
        let g = again_raised h v s.entry s.tells.again in
        (s.entry, s.is, g.0, g.1)
    | fail m ↦ let k = leb-false (suc i) (length rs) m in after i l (omega (arith, k))
  ]
    where
      after : (i : ℕ) → suc i < length read → length rs ≤ i → (e : Entry) × (nth read (suc i) ≡ Some e) × (x : Entry) × (raised h v e ≡ Some x)
      after i l m = go (i - length rs) refl
        where
          go : (j : ℕ) → i - length rs ≡ j → (e : Entry) × (nth read (suc i) ≡ Some e) × (x : Entry) × (raised h v e ≡ Some x)
          go zero q =
              let s = column_shows (limits_by First) imposed sized size h a in
              let z : suc (length rs) ≡ suc i = omega (arith, m, q) in
              let g = plain_raised h v s.entry (same_kind s.shows refl) in
              (s.entry, subst (λ (n : ℕ). nth read n ≡ Some s.entry) z s.is, g.0, g.1)
          go (suc j) q =
              let k = entry_count (limits_by First) imposed sized size h a in
              let x = nth_there c.samples j (omega (arith, l, m, q, k)) in
              let s = sample_shows (limits_by First) imposed sized size h a j x.1 in
              let z : suc (length rs) + suc j ≡ suc i = omega (arith, m, q) in
              let g = plain_raised h v s.entry (same_kind s.shows refl) in
              (s.entry, subst (λ (n : ℕ). nth read n ≡ Some s.entry) z s.is, g.0, g.1)

  -- the part of a table that holds them
  module _ (t : List ℕ) (l : length read ≤ room First t) where
    abbrev held : List ℕ
    held = first_entries First (stored First t 0 read) (length read)

    held_room : room First held ≡ length read
    held_room = first_room First (stored First t 0 read) (length read) (rw (stored_room First t 0 read) l)

    held_turned : (n : ℕ) → n < room First held → (x : Entry) × (turned_at (to_second v) h held n ≡ Some x)
    held_turned n m =
        let k : n < length read = rw held_room at m in
        let d = each_raised n k in
        let st = one_of (Stands (limits_by First) (length h)) read n (reading_stands (limits_by First) h imposed size) d.1 in
        let found : entry_at First h held n ≡ Some d.0 =
        entry_at_first First h (stored First t 0 read) (length read) n (rw (stored_room First t 0 read) l) k
        ∙ entry_stored First t read n l d.1 h (storable First (accepted_short (limits_by First) imposed size h a.number) d.0 st) st.formed
        in
        (d.2, ap (turned_if (to_second v) h) found ∙ d.3)

    pub accepted_turns : (u : List ℕ) → length read ≤ room Second u → (es : List Entry) × IsTurned (to_second v) h held u es
    accepted_turns u m = let d = turned_all (to_second v) h held held_turned in (d.0, to_second_turns d.1 (rw held_room m))

-- To the first form: exactly those whose numbers all fit its bits

pub record FitsFirst (e : Entry) : Type 0 where
  pub start : e.start < 2 ^ 20
  pub length : e.length < 2 ^ 16
  pub offset : e.offset < 2 ^ 16
  pub id_length : e.id_length < 2 ^ 16

-- without their counts
unfoldable pub uncounted : List Entry → List Entry
uncounted [] = []
uncounted (e ∷ es) = with_counts no_counts e ∷ uncounted es

pub to_first_turns : (h : Bytes) (s t : List ℕ) {es : List Entry} → turned_in to_first h s ≡ Some es → room Second s ≤ room First t → (turn_outcome to_first h s t ≡ Ok tt) ↔ All FitsFirst es
to_first_turns h s t {es} a l = (
  (λ e. let i = is_turned to_first h s t e in
      let same : i.0 ≡ es = some_is (sym i.1.all ∙ a) in
      rw same at (all_map (Within First) FitsFirst i.0 (λ x w. record { start = omega (arith, w.start); length = omega (arith, w.length); offset = omega (arith, w.offset); id_length = omega (arith, w.id_length) }) i.1.fits_all)),
  (λ f. turns (record {
    all = a;
    fits_all = all_map FitsFirst (Within First) es (λ x w. record { start = omega (arith, w.start); length = omega (arith, w.length); offset = omega (arith, w.offset); id_length = omega (arith, w.id_length) }) f;
    roomy = l;
  })),
)

-- and what is turned so are the entries, without their counts
lowered_from : (h : Bytes) (s : List ℕ) (n k : ℕ) → ((i : ℕ) → n ≤ i → i < n + k → (e : Entry) × (entry_at Second h s i ≡ Some e)) → turned_from to_first h s n k ≡ Some (uncounted (entries_from Second s n k))
unfolding turned_from entries_from uncounted
lowered_from h s n zero f = refl
lowered_from h s n (suc k) f =
    let d = f n (omega arith) (omega arith) in
    rw (d.1, lowered_from h s (n + 1) k (λ i a b. f i (omega arith) (omega arith)), (found_at Second h s n d.1).held)

pub lowered : (h : Bytes) (s : List ℕ) → ((n : ℕ) → n < room Second s → (e : Entry) × (entry_at Second h s n ≡ Some e)) → turned_in to_first h s ≡ Some (uncounted (entries_in Second s))
unfolding entries_in
lowered h s f = lowered_from h s 0 (room Second s) (λ i a b. f i (omega arith))

-- There and back: the second table's entries are turned, and the words are those of the first table again

-- the words of the second table t into which the entries es were turned
abbrev pub written : List Entry → List ℕ → List ℕ
written es t = first_entries Second (stored Second t 0 es) (length es)

-- an entry of the first form has no counts
plain_held : (ws : List ℕ) → with_counts no_counts (unpacked First ws) ≡ unpacked First ws
unfolding unpacked
plain_held ws = refl

module _ {v : Version} {h : Bytes} {s t : List ℕ} {es : List Entry} (i : IsTurned (to_second v) h s t es) (u : List ℕ) (l : room First s ≤ room First u) where
  abbrev between : List ℕ
  between = written es t

  count : length es ≡ room First s
  count = turned_count (to_second v) h s 0 (room First s) i.all

  roomy_there : length es ≤ room Second (stored Second t 0 es)
  roomy_there = rw (stored_room Second t 0 es, count) i.roomy

  room_between : room Second between ≡ room First s
  room_between = first_room Second (stored Second t 0 es) (length es) roomy_there ∙ count

  back_at : (n : ℕ) → n < room First s → turned_at to_first h between n ≡ Some (entry_in First s n)
  unfolding entry_in
  back_at n m =
      let d = turned_found i n m in
      let q = (found_at First h s n d.2).held in
      ap (turned_if to_first h) (entry_at_first Second h (stored Second t 0 es) (length es) n roomy_there (rw count m) ∙ d.3)
      ∙ ap (λ (e : Entry). Some (with_counts no_counts e)) (sym q) ∙ ap Some (plain_held (words_at First s n))

  back_from : (n k : ℕ) → n + k ≤ room First s → turned_from to_first h between n k ≡ Some (entries_from First s n k)
  unfolding turned_from entries_from
  back_from n zero m = refl
  back_from n (suc k) m = rw (back_at n (omega (arith, m)), back_from (n + 1) k (omega (arith, m)))

  back_all : turned_in to_first h between ≡ Some (entries_in First s)
  unfolding entries_in
  back_all = rw room_between (back_from 0 (room First s) (omega arith))

  pub back_turns : IsTurned to_first h (written es t) u (entries_in First s)
  unfolding entry_in
  back_turns = record {
    all = back_all;
    fits_all = all_of (Within First) (entries_in First s) (λ n e q.
        let m : n < room First s = rw (← entries_count First s) (nth_low (entries_in First s) n q) in
        rw (some_is (sym q ∙ nth_in First s n m)) (held_within (words_at First s n)));
    roomy = rw room_between l;
  }

  pub back_words : All Word s → first_entries First (stored First u 0 (entries_in First s)) (room First s) ≡ first_entries First s (room First s)
  back_words w =
      first_stored First u (entries_in First s) (entries_count First s) l
      ∙ words_again First s w (λ n m. (found_at First h s n (turned_one (to_second v) h s i.all n m).found).clear)
