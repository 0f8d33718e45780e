-- Fields whose names are known to differ. Assumes nothing.
use Prim.Native.Nat.{ℕ, ◌+◌, ◌-◌, ◌%◌, ◌^◌, ◌≤◌, ◌<◌}
use native.Mathlib.Omega.{arith}
use native.Mathlib.Nat.{max-eq_left, max-eq_right, min-le_left, min-le_right, mod-lt}
use Rattle.std.specs.Prelude.{max, min, Option, None, Some}
use mathlib.Core.Path.{◌≡◌, refl, sym, ap, ap₂, subst, ◌∙◌}
use mathlib.Core.Bool.{Bool, true, false, not, ◌&&◌}
use mathlib.Core.List.{List, [], ◌∷◌, ◌++◌, tail}
use lib.Dec.{leb, ltb}
use lib.ListN.{length, drop, take}
use lib.Seq.{drop-drop}
use borrow.Author.Tests.{leb-true, leb-false, ltb-true, ltb-false, eq-eqb, ne_eqb}
use Rattle.values.specs.Bytes.{Bytes, begins}
use Rattle.values.specs.Field.{Field, written_field, read_field}
use Rattle.values.specs.Hash.{wide_step}
use Rattle.values.specs.Marks.{is_met, meet}
use Rattle.values.specs.Places.{field_at, separator_at}
use Rattle.values.specs.declared.cursor.Cursor.{Cursor}
use Rattle.values.specs.declared.string.Text.{Text}
use Rattle.values.proofs.Tests.{pass, fail, test, not_true, not_false, both, and_l, and_r}
use Rattle.values.proofs.Sames.{differ}
use Rattle.values.proofs.Scans.{stop_of, Scanning, started, hit, miss, ended}
use Rattle.values.proofs.Places.{FieldHere, field_here}
use Rattle.values.proofs.Fields.{placed_comma, tail_is}
use Rattle.values.proofs.Markings.{meet_length, meet_own, meet_kept, none_met}
use Rattle.rules.specs.Known.{is_in}
use Rattle.rules.proofs.Alls.{all_append}
use Rattle.records.specs.Maps.{FieldsFrom, keys_of, HasKey, Distinct}
use Rattle.records.specs.Names.{name_hash, again, is_of, mark_if, is_doubted, is_clear, is_sure, DistinctOf, NamesMarked, NameSought, Doubts}
use Rattle.records.specs.declared.key.MapContext.{MapContext}
use Rattle.records.proofs.Walks.{few_fields, fields_snoc}

-- What is marked stays so

mark_length : (b : Bool) (ms : List ℕ) (hash : ℕ) → length (mark_if b ms hash) ≡ length ms
mark_length true ms hash = meet_length ms hash
mark_length false ms hash = refl

mark_kept : (b : Bool) (ms : List ℕ) (hash other : ℕ) → is_met ms other ≡ true → is_met (mark_if b ms hash) other ≡ true
mark_kept true ms hash other a = meet_kept ms hash other a
mark_kept false ms hash other a = a

module _ (such : Bytes → Bool) (hash : Bytes → ℕ) (ms : List ℕ) where
  unmarked_fresh : (name : Bytes) (fs : List Field) → NamesMarked such hash ms fs → such name ≡ true → is_met ms (hash name) ≡ false → is_in name (keys_of fs) ≡ false
  unfolding is_in
  unmarked_fresh name [] a o e = refl
  unmarked_fresh name (f ∷ fs) a o e = rw (
    differ f.key name (λ z. both (a.0 (subst (λ (y : Bytes). such y ≡ true) (sym z) o)) (subst (λ (y : Bytes). is_met ms (hash y) ≡ false) (sym z) e)),
    unmarked_fresh name fs a.1 o e,
  )

  names_stay : (b : Bool) (other : ℕ) (fs : List Field) → NamesMarked such hash ms fs → NamesMarked such hash (mark_if b ms other) fs
  names_stay b other [] a = tt
  names_stay b other (f ∷ fs) a = (λ o. mark_kept b ms other (hash f.key) (a.0 o), names_stay b other fs a.1)

  own_marked : (name : Bytes) → such name ≡ true → is_met (mark_if (such name) ms (hash name)) (hash name) ≡ true
  own_marked name o = rw o (meet_own ms (hash name))

-- what answers the needs of `is_named`
module _ (x : MapContext) (s : Bytes) (ds ms : List ℕ) (at : ℕ) (name : Bytes) {h : ℕ} (eh : h ≡ name_hash name) {d : Bool} (ed : d ≡ is_met ds h) where
  doubt_is : d ≡ is_doubted ds name
  unfolding is_doubted
  doubt_is = ed ∙ rw eh

  pub name_clear : not d ≡ true → NameSought x s ds ms at name false
  name_clear n = record { among = λ fs w a o. absurd (both o (sym doubt_is ∙ not_true d n)) }

  pub clear_marks : not d ≡ true → ms ≡ mark_if (is_doubted ds name) ms (again name)
  clear_marks n = rw (sym doubt_is ∙ not_true d n)

  module _ (t : not d ≡ false) {i : ℕ} (ei : i ≡ wide_step h 1) where
    again_is : i ≡ again name
    again_is = ei ∙ rw eh

    pub doubt_marks : {ns : List ℕ} → ns ≡ meet ms i → ns ≡ mark_if (is_doubted ds name) ms (again name)
    doubt_marks e = e ∙ rw (again_is, sym doubt_is ∙ not_false d t)

    module _ {q : Bool} (eq : q ≡ is_met ms i) where
      pub name_new : not q ≡ true → NameSought x s ds ms at name false
      name_new n = record { among = λ fs w a o. sym (unmarked_fresh (is_doubted ds) again ms name fs a o (ap (is_met ms) (sym again_is) ∙ sym eq ∙ not_true q n)) }

  pub name_looked : {r : Bool} → HasKey x.brackets s x.start at name r → NameSought x s ds ms at name r
  name_looked k = record { among = λ fs w a o. k.among fs w }

pub ruleset names = (name_clear, clear_marks, doubt_marks, name_new, name_looked)

-- what answers the needs of `doubt_name`
module _ (n k : ℕ) (ms ds : List ℕ) (name : Bytes) {h : ℕ} (eh : h ≡ name_hash name) where
  module _ (ne : h % 4294967296 % n ≡ k → ⊥) where
    not_of : is_of n k name ≡ false
    unfolding is_of
    not_of = rw (← eh) (ne_eqb (h % 4294967296 % n) k ne)

    pub other_marks : ms ≡ mark_if (is_of n k name) ms (name_hash name)
    other_marks = rw not_of

    pub other_doubts : ds ≡ mark_if (is_of n k name && is_met ms (name_hash name)) ds (name_hash name)
    other_doubts = rw not_of

  module _ (e : h % 4294967296 % n ≡ k) where
    of_class : is_of n k name ≡ true
    unfolding is_of
    of_class = rw (← eh) (eq-eqb (h % 4294967296 % n) k e)

    pub own_marks : {ns : List ℕ} → ns ≡ meet ms h → ns ≡ mark_if (is_of n k name) ms (name_hash name)
    own_marks i = i ∙ rw (of_class, eh)

    module _ {q : Bool} (eq : q ≡ is_met ms h) where
      met_is : is_met ms (name_hash name) ≡ q
      met_is = ap (is_met ms) (sym eh) ∙ sym eq

      pub own_doubts : q ≡ true → {es : List ℕ} → es ≡ meet ds h → es ≡ mark_if (is_of n k name && is_met ms (name_hash name)) ds (name_hash name)
      own_doubts t i = i ∙ rw (of_class, met_is ∙ t, eh)

      pub no_doubts : q ≡ false → ds ≡ mark_if (is_of n k name && is_met ms (name_hash name)) ds (name_hash name)
      no_doubts f = rw (of_class, met_is ∙ f)

pub ruleset doubted = (other_marks, other_doubts, own_marks, own_doubts, no_doubts, meet_length)

pub none_distinct : (x : MapContext) (s : Bytes) → Distinct x s 0
none_distinct x s = record { apart = λ before at w f rest r l. absurd (omega arith) }

-- One walk over the fields

abbrev field_or : Field → Option (Field × Bytes) → Field
field_or f None = f
field_or f (Some p) = p.0

same_field : {f g : Field} {r t : Bytes} → ◌≡◌ {A = Option (Field × Bytes)} (Some (f, r)) (Some (g, t)) → f ≡ g
same_field {f} e = ap (field_or f) e

-- of two walks from one place on, the one ends where the field f stands, the other there or within it
same_walk : (m : Bool) (s : Bytes) (start : ℕ) (xs ys : List Field) (at i : ℕ) → FieldsFrom m s start xs at → FieldsFrom m s start ys i
    → (f : Field) (rest : Bytes) → read_field m (drop at s) ≡ Some (f, rest) → at ≤ i → i < at + length (written_field f) + 1 → xs ≡ ys
same_walk m s start [] [] at i w u f rest r l h = refl
same_walk m s start [] (g ∷ gs) at i w u f rest r l h =
    let e : g ≡ f = same_field (sym u.0 ∙ ap (λ (j : ℕ). read_field m (drop j s)) w ∙ r) in
    let n : length (written_field g) ≡ length (written_field f) = ap (λ (y : Field). length (written_field y)) e in
    absurd (omega (arith, few_fields m s (start + length (written_field g) + 1) gs i u.1, n, w))
same_walk m s start (y ∷ xs) [] at i w u f rest r l h = absurd (omega (arith, few_fields m s (start + length (written_field y) + 1) xs at w.1, u))
same_walk m s start (y ∷ xs) (z ∷ ys) at i w u f rest r l h =
    let e : y ≡ z = same_field (sym w.0 ∙ u.0) in
    ap₂ ◌∷◌ e (same_walk m s (start + length (written_field y) + 1) xs ys at i w.1
    (subst (λ (g : Field). FieldsFrom m s (start + length (written_field g) + 1) ys i) (sym e) u.1) f rest r l h)

one_end : (m : Bool) (s : Bytes) (start : ℕ) (fs : List Field) (at i : ℕ) → FieldsFrom m s start fs at → FieldsFrom m s start fs i → at ≡ i
one_end m s start [] at i w u = sym w ∙ u
one_end m s start (f ∷ fs) at i w u = one_end m s (start + length (written_field f) + 1) fs at i w.1 u.1

-- the fields before a place, of which such are marked, and whose names differ where they are sure
pub record Naming (such sure : Bytes → Bool) (hash : Bytes → ℕ) (x : MapContext) (s : Bytes) (ms : List ℕ) (at : ℕ) : Type 0 where
  pub before : List Field
  pub fields : FieldsFrom x.brackets s x.start before at
  pub marked : NamesMarked such hash ms before
  pub apart : DistinctOf sure x s at

naming_start : (such sure : Bytes → Bool) (hash : Bytes → ℕ) (x : MapContext) (s : Bytes) (ms : List ℕ) → Naming such sure hash x s ms x.start
naming_start such sure hash x s ms = record {
  before = [];
  fields = refl;
  marked = tt;
  apart = record { apart = λ before at w f rest r l o. absurd (omega (arith, few_fields x.brackets s x.start before at w)) };
}

-- a field more, which is new if it is to be sure then
module _ {such sure sure' : Bytes → Bool} {hash : Bytes → ℕ} {x : MapContext} {s : Bytes} {ms : List ℕ} {at : ℕ} (g : Naming such sure hash x s ms at)
    {r : Option (ℕ × Text × Cursor)} (a : r ≡ field_at x.brackets s at) {e : ℕ} {t : Text} {n : Cursor} (b : r ≡ Some (e, t, n)) {p : Bytes} (c : p ≡ take (e - at) (drop at s))
    (less : (y : Bytes) → sure' y ≡ true → sure y ≡ true)
    (new : (fs : List Field) → FieldsFrom x.brackets s x.start fs at → NamesMarked such hash ms fs → sure' p ≡ true → is_in p (keys_of fs) ≡ false) where
  told : FieldHere x.brackets s at e t n
  told = field_here x.brackets s at (sym a ∙ b)

  abbrev f : Field
  f = told.field

  key_is : p ≡ f.key
  key_is = c ∙ told.key

  fresh : sure' f.key ≡ true → is_in f.key (keys_of g.before) ≡ false
  fresh o = rw key_is at (new g.before g.fields g.marked (subst (λ (y : Bytes). sure' y ≡ true) (sym key_is) o))

  past : DistinctOf sure' x s (at + length (written_field f) + 1)
  past = record {
    apart = λ before i w h rest rd l q. elim (test (leb at i)) [
      | pass o ↦ here before i w h rest rd l q (leb-true at i o)
      | fail o ↦ g.apart.apart before i w h rest rd (leb-false at i o) (less h.key q)
    ];
  }
    where
      here : (before : List Field) (i : ℕ) → FieldsFrom x.brackets s x.start before i → (h : Field) (rest : Bytes) → read_field x.brackets (drop i s) ≡ Some (h, rest)
          → i < at + length (written_field f) + 1 → sure' h.key ≡ true → at ≤ i → is_in h.key (keys_of before) ≡ false
      here before i w h rest rd l q o =
          let y = same_walk x.brackets s x.start g.before before at i g.fields w f (drop n.at s) told.read o l in
          let u = subst (λ (z : List Field). FieldsFrom x.brackets s x.start z i) (sym y) w in
          let j = one_end x.brackets s x.start g.before at i g.fields u in
          let d : h ≡ f = same_field (sym rd ∙ ap (λ (z : ℕ). read_field x.brackets (drop z s)) (sym j) ∙ told.read) in
          let m = fresh (subst (λ (z : Field). sure' z.key ≡ true) d q) in
          subst (λ (z : List Field). is_in h.key (keys_of z) ≡ false) y (subst (λ (z : Field). is_in z.key (keys_of g.before) ≡ false) (sym d) m)

  naming_last : DistinctOf sure' x s n.at
  naming_last = let z = told.next in record { apart = λ before i w h rest rd l. past.apart before i w h rest rd (omega (arith, z)) }

  module _ {y : Option Cursor} (j : y ≡ separator_at s n.at) {d : Cursor} (o : y ≡ Some d) where
    comma : (drop n.at s ≡ 44 ∷ drop (n.at + 1) s) × (d.at ≡ n.at + 1)
    unfolding separator_at
    comma =
        let z = placed_comma n.at (begins 44 (drop n.at s)) (sym j ∙ o) in
        let w = tail_is 44 (drop n.at s) z.0 in
        (w ∙ ap (44 ∷◌) (sym (ap tail w) ∙ drop-drop 1 n.at s), sym (ap (λ (c : Cursor). c.at) z.1))

    place : d.at ≡ at + length (written_field f) + 1
    place = comma.1 ∙ ap (◌+ 1) told.next

    naming_next : {ns : List ℕ} → ns ≡ mark_if (such p) ms (hash p) → Naming such sure' hash x s ns d.at
    naming_next {ns} m = record {
      before = g.before ++ f ∷ [];
      fields = subst (FieldsFrom x.brackets s x.start (g.before ++ f ∷ [])) (sym place)
          (fields_snoc x.brackets s x.start g.before at f g.fields (told.read ∙ ap (λ (z : Bytes). Some (f, z)) (comma.0 ∙ ap (λ (i : ℕ). 44 ∷ drop (i + 1) s) told.next)));
      marked = subst (λ (z : List ℕ). NamesMarked such hash z (g.before ++ f ∷ [])) (sym m)
          (all_append (λ (h : Field). such h.key ≡ true → is_met (mark_if (such p) ms (hash p)) (hash h.key) ≡ true) g.before (f ∷ []) (names_stay such hash ms (such p) (hash p) g.before g.marked) (own, tt));
      apart = subst (DistinctOf sure' x s) (sym place) past;
    }
      where
        own : such f.key ≡ true → is_met (mark_if (such p) ms (hash p)) (hash f.key) ≡ true
        own = subst (λ (z : Bytes). such z ≡ true → is_met (mark_if (such p) ms (hash p)) (hash z) ≡ true) key_is (own_marked such hash ms p)

    naming_less : length s - d.at < length s - at
    naming_less =
        let u = told.keyed in
        let v = told.begun in
        let w = told.ordered in
        let z = told.ended in
        let i = told.inside in
        omega (arith, comma.1)

-- what answers the needs of `mark_fields`
pub record Seeking (x : MapContext) (s : Bytes) (ds ms₀ ms : List ℕ) (at : ℕ) : Type 0 where
  pub long : length ms ≡ length ms₀
  pub naming : Naming (is_doubted ds) (is_doubted ds) again x s ms at

pub seeking_start : (x : MapContext) (s : Bytes) (ds ms : List ℕ) → Seeking x s ds ms ms x.start
seeking_start x s ds ms = record { long = refl; naming = naming_start (is_doubted ds) (is_doubted ds) again x s ms }

pub seeking_long : {x : MapContext} {s : Bytes} {ds ms₀ ms : List ℕ} {at : ℕ} → Seeking x s ds ms₀ ms at → length ms ≡ length ms₀
seeking_long g = g.long

pub seeking_ends : {x : MapContext} {s : Bytes} {ds ms₀ ms : List ℕ} {at : ℕ} → Seeking x s ds ms₀ ms at → DistinctOf (is_doubted ds) x s at
seeking_ends g = g.naming.apart

module _ {x : MapContext} {s : Bytes} {ds ms₀ ms : List ℕ} {at : ℕ} (g : Seeking x s ds ms₀ ms at) {r : Option (ℕ × Text × Cursor)} (a : r ≡ field_at x.brackets s at) {e : ℕ} {t : Text} {n : Cursor} (b : r ≡ Some (e, t, n))
    {p : Bytes} (c : p ≡ take (e - at) (drop at s)) {q : Bool} (k : NameSought x s ds ms at p q) (new : q ≡ false) where
  absent : (fs : List Field) → FieldsFrom x.brackets s x.start fs at → NamesMarked (is_doubted ds) again ms fs → is_doubted ds p ≡ true → is_in p (keys_of fs) ≡ false
  absent fs w m o = sym (k.among fs w m o) ∙ new

  pub seeking_last : DistinctOf (is_doubted ds) x s n.at
  seeking_last = naming_last g.naming a b c (λ y o. o) absent

  module _ {y : Option Cursor} (j : y ≡ separator_at s n.at) {d : Cursor} (o : y ≡ Some d) where
    pub seeking_next : {ns : List ℕ} → ns ≡ mark_if (is_doubted ds p) ms (again p) → Seeking x s ds ms₀ ns d.at
    seeking_next m = record {
      long = ap length m ∙ mark_length (is_doubted ds p) ms (again p) ∙ g.long;
      naming = naming_next g.naming a b c (λ y o. o) absent j o m;
    }

    pub seeking_less : length s - d.at < length s - at
    seeking_less = naming_less g.naming a b c (λ y o. o) absent j o

pub ruleset seekings = (seeking_start, seeking_long, seeking_ends, seeking_last, seeking_next, seeking_less)

-- what answers the needs of `doubt_fields`
pub record Doubting (n k : ℕ) (x : MapContext) (s : Bytes) (ds₀ ds ms₀ ms : List ℕ) (at : ℕ) : Type 0 where
  pub marks_long : length ms ≡ length ms₀
  pub doubts_long : length ds ≡ length ds₀
  pub grown : (hash : ℕ) → is_met ds₀ hash ≡ true → is_met ds hash ≡ true
  pub naming : Naming (is_of n k) (is_sure n k ds) name_hash x s ms at

pub doubting_start : (n k : ℕ) (x : MapContext) (s : Bytes) (ds ms : List ℕ) → Doubting n k x s ds ds ms ms x.start
doubting_start n k x s ds ms = record { marks_long = refl; doubts_long = refl; grown = λ h a. a; naming = naming_start (is_of n k) (is_sure n k ds) name_hash x s ms }

module _ {n k : ℕ} {x : MapContext} {s : Bytes} {ds₀ ds ms₀ ms : List ℕ} {at : ℕ} (g : Doubting n k x s ds₀ ds ms₀ ms at) where
  pub doubting_marks : length ms ≡ length ms₀
  doubting_marks = g.marks_long

  pub doubting_long : length ds ≡ length ds₀
  doubting_long = g.doubts_long

  pub doubting_ends : Doubts n k x s ds₀ ds at
  doubting_ends = record { grown = g.grown; apart = g.naming.apart }

sure_less : (n k : ℕ) (ds ds' : List ℕ) → ((hash : ℕ) → is_met ds hash ≡ true → is_met ds' hash ≡ true) → (y : Bytes) → is_sure n k ds' y ≡ true → is_sure n k ds y ≡ true
unfolding is_sure is_clear is_doubted
sure_less n k ds ds' up y o = elim (test (is_met ds (name_hash y))) [
  | pass e ↦ absurd (both (up (name_hash y) e) (not_true (is_met ds' (name_hash y)) (and_r (is_of n k y) (not (is_met ds' (name_hash y))) o)))
  | fail e ↦ rw (and_l (is_of n k y) (not (is_met ds' (name_hash y))) o, e)
]

module _ {n k : ℕ} {x : MapContext} {s : Bytes} {ds₀ ds ms₀ ms : List ℕ} {at : ℕ} (g : Doubting n k x s ds₀ ds ms₀ ms at) {r : Option (ℕ × Text × Cursor)} (a : r ≡ field_at x.brackets s at) {e : ℕ} {t : Text} {m : Cursor} (b : r ≡ Some (e, t, m))
    {p : Bytes} (c : p ≡ take (e - at) (drop at s)) {ns : List ℕ} (en : ns ≡ mark_if (is_of n k p) ms (name_hash p))
    {es : List ℕ} (ee : es ≡ mark_if (is_of n k p && is_met ms (name_hash p)) ds (name_hash p)) where
  stays : (hash : ℕ) → is_met ds hash ≡ true → is_met es hash ≡ true
  stays hash o = rw ee (mark_kept (is_of n k p && is_met ms (name_hash p)) ds (name_hash p) hash o)

  unmet : is_sure n k es p ≡ true → is_met ms (name_hash p) ≡ false
  unfolding is_sure is_clear is_doubted
  unmet o = elim (test (is_met ms (name_hash p))) [
    | pass q ↦
        let i : es ≡ meet ds (name_hash p) = ee ∙ rw (and_l (is_of n k p) (not (is_met es (name_hash p))) o, q) in
        absurd (both (rw i (meet_own ds (name_hash p))) (not_true (is_met es (name_hash p)) (and_r (is_of n k p) (not (is_met es (name_hash p))) o)))
    | fail q ↦ q
  ]

  of_sure : is_sure n k es p ≡ true → is_of n k p ≡ true
  unfolding is_sure
  of_sure o = and_l (is_of n k p) (is_clear es p) o

  lost : (fs : List Field) → FieldsFrom x.brackets s x.start fs at → NamesMarked (is_of n k) name_hash ms fs → is_sure n k es p ≡ true → is_in p (keys_of fs) ≡ false
  lost fs w q o = unmarked_fresh (is_of n k) name_hash ms p fs q (of_sure o) (unmet o)

  pub doubting_last : Doubts n k x s ds₀ es m.at
  doubting_last = record { grown = λ h o. stays h (g.grown h o); apart = naming_last g.naming a b c (sure_less n k ds es stays) lost }

  doubting_lengths : (length ns ≡ length ms₀) × (length es ≡ length ds₀)
  doubting_lengths = (ap length en ∙ mark_length (is_of n k p) ms (name_hash p) ∙ g.marks_long, ap length ee ∙ mark_length (is_of n k p && is_met ms (name_hash p)) ds (name_hash p) ∙ g.doubts_long)

  module _ {y : Option Cursor} (j : y ≡ separator_at s m.at) {d : Cursor} (o : y ≡ Some d) where
    pub doubting_next : Doubting n k x s ds₀ es ms₀ ns d.at
    doubting_next = record {
      marks_long = doubting_lengths.0;
      doubts_long = doubting_lengths.1;
      grown = λ h q. stays h (g.grown h q);
      naming = naming_next g.naming a b c (sure_less n k ds es stays) lost j o en;
    }

    pub doubting_less : length s - d.at < length s - at
    doubting_less = naming_less g.naming a b c (sure_less n k ds es stays) lost j o

pub ruleset doubtings = (doubting_start, doubting_marks, doubting_long, doubting_ends, doubting_last, doubting_next, doubting_less)

-- where no byte ends a name
pub name_ended : {t : ℕ → Bool} {s : Bytes} {start i : ℕ} → Scanning t s start i → length s ≤ i → (start ≤ length s → i ≤ length s) → {m : ℕ} → m ≡ max start (length s) → m ≡ stop_of t s start
name_ended {t} {s} {start} g h u w = elim (test (leb start (length s))) [
  | pass e ↦ let l = leb-true start (length s) e in w ∙ max-eq_right l ∙ omega (arith, h, u l) ∙ ended g h
  | fail e ↦ let l = leb-false start (length s) e in w ∙ max-eq_left (omega (arith, l)) ∙ ended (started t s start) (omega (arith, l))
]

pub ruleset name_ends = (started, hit, miss, name_ended)

-- what answers the needs of `doubt_classes`
pub record Classing (n k : ℕ) (x : MapContext) (s : Bytes) (ds₀ ds : List ℕ) (r : ℕ) : Type 0 where
  pub some_classes : 0 < n
  pub long : length ds ≡ length ds₀
  pub fresh : (j : ℕ) → j < k → DistinctOf (is_sure n j ds) x s r

pub class_start : (n : ℕ) (x : MapContext) (s : Bytes) (ds : List ℕ) (r : ℕ) → Classing (n + 1) 0 x s ds ds r
class_start n x s ds r = record { some_classes = omega arith; long = refl; fresh = λ j l. absurd (omega arith) }

module _ {n k : ℕ} {x : MapContext} {s : Bytes} {ds₀ ds : List ℕ} {r : ℕ} (g : Classing n k x s ds₀ ds r) where
  pub class_some : 0 < n
  class_some = g.some_classes

  pub class_long : length ds ≡ length ds₀
  class_long = g.long

  pub class_next : {es : List ℕ} {e : ℕ} → Doubts n k x s ds es e → length es ≡ length ds → {m : ℕ} → m ≡ min r e → Classing n (k + 1) x s ds₀ es m
  class_next {es} {e} d el {m} w = let lr : m ≤ r = rw w (min-le_left r e) in let le : m ≤ e = rw w (min-le_right r e) in record {
    some_classes = g.some_classes;
    long = el ∙ g.long;
    fresh = λ j l. elim (test (ltb j k)) [
      | pass q ↦ record { apart = λ before at w f rest rd i o. (g.fresh j (ltb-true j k q)).apart before at w f rest rd (omega arith) (sure_less n j ds es d.grown f.key o) }
      | fail q ↦
          let z : k ≡ j = omega (arith, ltb-false j k q) in
          subst (λ (i : ℕ). DistinctOf (is_sure n i es) x s m) z (record { apart = λ before at w f rest rd i o. d.apart.apart before at w f rest rd (omega arith) o })
    ];
  }

  pub class_last : n ≤ k → DistinctOf (is_clear ds) x s r
  unfolding is_sure is_of
  class_last l = record {
    apart = λ before at w f rest rd i o.
        let c = name_hash f.key % 2 ^ 32 in
        let m = mod-lt c g.some_classes in
        (g.fresh (c % n) (omega (arith, m))).apart before at w f rest rd i (rw (eq-eqb (c % n) (c % n) refl) o);
  }

pub ruleset classings = (class_start, class_some, class_long, class_next, class_last)

-- what answers the needs of those that find a place: a name is in doubt or not, and where there are no doubts each is
pub clear_and_doubted : (x : MapContext) (s : Bytes) (ds : List ℕ) {a b r : ℕ} → DistinctOf (is_clear ds) x s a → DistinctOf (is_doubted ds) x s b → r ≤ a → r ≤ b → Distinct x s r
unfolding is_clear
clear_and_doubted x s ds c d la lb = record {
  apart = λ before at w f rest rd l. elim (test (is_doubted ds f.key)) [
    | pass e ↦ d.apart before at w f rest rd (omega arith) e
    | fail e ↦ c.apart before at w f rest rd (omega arith) (rw e)
  ];
}

pub clear_and_sought : (x : MapContext) (s : Bytes) (ds : List ℕ) {a b r : ℕ} → DistinctOf (is_clear ds) x s a → DistinctOf (is_doubted ds) x s b → r ≡ min a b → Distinct x s r
clear_and_sought x s ds {a} {b} c d w = clear_and_doubted x s ds c d (rw w (min-le_left a b)) (rw w (min-le_right a b))

pub all_doubted : (x : MapContext) (s : Bytes) (ds : List ℕ) {r : ℕ} → length ds ≡ 0 → DistinctOf (is_doubted ds) x s r → Distinct x s r
unfolding is_doubted
all_doubted x s ds e d = record { apart = λ before at w f rest rd l. d.apart before at w f rest rd l (sym (none_met ds (name_hash f.key) e)) }

pub ruleset founds = (clear_and_sought, all_doubted)
