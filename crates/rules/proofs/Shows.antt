-- Demand 2: what the calls show of an accepted header's entries. Assumes nothing.
use Prim.Native.Nat.{ℕ, zero, suc, ◌+◌, ◌-◌, ◌≤◌}
use native.Mathlib.Omega.{arith}
use mathlib.Core.Path.{◌≡◌, refl, sym, ap, ap₂, ◌∙◌}
use mathlib.Core.Bool.{Bool, true, false, ◌||◌, ◌&&◌, false≢true}
use mathlib.Core.List.{List, [], ◌∷◌, ◌++◌, tail, append_assoc}
use Rattle.std.specs.Prelude.{Option, None, Some}
use lib.Dec.{eqb, leb}
use lib.ListN.{length, take, drop, length-append, length-drop}
use lib.Seq.{drop-drop, take-take, take-nil}
use borrow.Author.Tests.{eq-eqb, le-leb}
use Rattle.values.specs.Bytes.{Bytes, ascii, same, part}
use Rattle.values.specs.Utf8.{is_utf8}
use Rattle.values.specs.Value.{Value, written, meaning, meaning_of}
use Rattle.values.specs.Field.{Field, written_field}
use Rattle.values.specs.Places.{text_at}
use Rattle.values.specs.declared.string.Text.{Text}
use Rattle.values.proofs.Tests.{pass, fail, test, or_on}
use Rattle.values.proofs.Fields.{text_here}
use Rattle.values.proofs.Places.{value_by, value_in, text_of_value}
use Rattle.rules.specs.Answer.{ok}
use Rattle.rules.specs.Sizes.{Limits}
use Rattle.rules.specs.Version.{Version}
use Rattle.rules.specs.Known.{Kind, INFO, FILTER, FORMAT, ALT, contig, other, kind_of, always_map, name_of, tag_of}
use Rattle.rules.specs.Map.{is_some, field_named, meaning_of_field as value_of_field, value_named, missing}
use Rattle.rules.specs.Record.{Record, fileformat, fields, text, read_record}
use Rattle.rules.specs.Entry.{Entry, map_kind, text_kind, plain_entry, map_entry, fields_start, text_named, record_kind, line_entry, Counts, fields_of, counts_of, with_counts, record_entry}
use Rattle.rules.specs.Shown.{Part, has_id, says_no_id, counts_in_place, well_formed, line_in, id_in, id_meaning, of_kind, read_alone, tells, counted_as, entry_record, id_part, nth_field_part, entry_field_part}
use Rattle.rules.specs.House.{write_more, write_fields, write_record}
use Rattle.rules.specs.Meaning.{tag_in as tag_in_field}
use Rattle.values.proofs.Sames.{same_sound}
use Rattle.rules.proofs.Tidy.{tag as tag_of_id}
use Rattle.rules.proofs.Records.{tag_none, id_given}
use Rattle.rules.proofs.Texts.{LineOf, record_in}
use Rattle.rules.proofs.Firsts.{on_ok}
use Rattle.rules.proofs.Checks.{named_yes as field_yes, named_no as field_no}
use Rattle.rules.specs.Claims.{LineAt, Row, nth, PartOf, ShowsMap, ShowsPlain}

-- Fields at their places

-- fields that stand at a place of the line, each before a `,` or the `>`
abbrev pub FieldsAt : Bytes → ℕ → List Field → Type 0
FieldsAt l at fs = (drop at l ≡ write_fields fs ++ 62 ∷ []) × (at ≤ length l)

-- the fields after the first, or none
fields_next : (l : Bytes) (at : ℕ) (f g : Field) (fs : List Field) → FieldsAt l at (f ∷ g ∷ fs) → FieldsAt l (at + length (written_field f) + 1) (g ∷ fs)
unfolding write_fields write_more
fields_next l at f g fs h =
    let r = written_field g ++ write_more fs ++ 62 ∷ [] in
    let e : drop at l ≡ written_field f ++ 44 ∷ r = h.0 ∙ append_assoc (written_field f) (44 ∷ written_field g ++ write_more fs) (62 ∷ []) in
    let t = text_here l at (written_field f) (44 ∷ r) e in
    let n = sym (length-drop at l) ∙ ap length e ∙ length-append (written_field f) (44 ∷ r) in
    (sym (drop-drop 1 (at + length (written_field f)) l) ∙ ap tail t.1, omega arith)

first_text : (l : Bytes) (at : ℕ) (f : Field) (fs : List Field) → FieldsAt l at (f ∷ fs) → (r : Bytes) × (drop at l ≡ written_field f ++ r)
unfolding write_fields
first_text l at f fs h = (write_more fs ++ 62 ∷ [], h.0 ∙ append_assoc (written_field f) (write_more fs) (62 ∷ []))

-- the text of a field's value, where it is said to stand
pub record TextIn (l : Bytes) (f : Field) (p : Bytes × Text) : Type 0 where
  pub key : p.0 ≡ f.key
  pub value : value_in l p.1 ≡ f.value
  pub ordered : p.1.start ≤ p.1.end
  pub inside : p.1.end ≤ length l

text_in : (l : Bytes) (at : ℕ) (f : Field) (fs : List Field) → FieldsAt l at (f ∷ fs) → TextIn l f (f.key, text_at (at + length f.key + 1) f.value)
unfolding written_field
text_in l at f fs h =
    let t = first_text l at f fs h in
    let e : drop at l ≡ f.key ++ 61 ∷ (written f.value ++ t.0) = t.1 ∙ append_assoc f.key (61 ∷ written f.value) t.0 in
    let k = text_here l at f.key (61 ∷ written f.value ++ t.0) e in
    let n = sym (length-drop at l) ∙ ap length e ∙ length-append f.key (61 ∷ written f.value ++ t.0) in
    let w = text_of_value l (at + length f.key + 1) f.value t.0 (sym (drop-drop 1 (at + length f.key) l) ∙ ap tail k.1) (omega arith) in
    record { key = refl; value = w.value; ordered = w.ordered; inside = omega (arith, w.ended, w.inside) }

-- the field of a name and its text go together
abbrev pub Both : Bytes → Option Field → Option (Bytes × Text) → Type 0
Both l None None = Unit {0}
Both l None (Some p) = ⊥
Both l (Some f) None = ⊥
Both l (Some f) (Some p) = TextIn l f p

named_no : (v : Version) (k n : Bytes) (at : ℕ) (f : Field) (fs : List Field) → same (name_of v k f.key) n ≡ false → text_named v k n at (f ∷ fs) ≡ text_named v k n (at + length (written_field f) + 1) fs
unfolding text_named
named_no v k n at f fs e = rw (e, text_named)

named_yes : (v : Version) (k n : Bytes) (at : ℕ) (f : Field) (fs : List Field) → same (name_of v k f.key) n ≡ true → text_named v k n at (f ∷ fs) ≡ Some (f.key, text_at (at + length f.key + 1) f.value)
unfolding text_named
named_yes v k n at f fs e = rw (e, text_named)

-- if there are any
abbrev pub AnyAt : Bytes → ℕ → List Field → Type 0
AnyAt l at [] = Unit {0}
AnyAt l at (f ∷ fs) = FieldsAt l at (f ∷ fs)

any_next : (l : Bytes) (at : ℕ) (f : Field) (fs : List Field) → FieldsAt l at (f ∷ fs) → AnyAt l (at + length (written_field f) + 1) fs
any_next l at f [] h = tt
any_next l at f (g ∷ fs) h = fields_next l at f g fs h

pub named_text : (v : Version) (k n l : Bytes) (at : ℕ) (fs : List Field) → AnyAt l at fs → Both l (field_named v k n fs) (text_named v k n at fs)
unfolding field_named text_named
named_text v k n l at [] h = tt
named_text v k n l at (f ∷ fs) h = elim (test (same (name_of v k f.key) n)) [
  | pass e ↦ rw (field_yes v k n f fs e, named_yes v k n at f fs e) (text_in l at f fs h)
  | fail e ↦ rw (field_no v k n f fs e, named_no v k n at f fs e) (named_text v k n l (at + length (written_field f) + 1) fs (any_next l at f fs h))
]

pub field_part : (l : Bytes) (at : ℕ) (fs : List Field) (i : ℕ) → AnyAt l at fs → PartOf l (nth fs i) (nth_field_part at fs i)
unfolding nth_field_part
field_part l at [] i h = tt
field_part l at (f ∷ fs) zero h =
    let t = first_text l at f fs h in
    let n = sym (length-drop at l) ∙ ap length t.1 ∙ length-append (written_field f) t.0 in
    ((text_here l at (written_field f) t.0 t.1).0, omega (arith, h.1))
field_part l at (f ∷ fs) (suc i) h = field_part l (at + length (written_field f) + 1) fs i (any_next l at f fs h)

-- the fields of a record's line
pub line_fields : (k : Bytes) (fs : List Field) → AnyAt (write_record (fields k fs)) (fields_start k) fs
unfolding write_record
line_fields k [] = tt
line_fields k (f ∷ fs) =
    let l = write_record (fields k (f ∷ fs)) in
    let r = write_fields (f ∷ fs) ++ 62 ∷ [] in
    let e : drop 2 l ≡ k ++ 61 ∷ 60 ∷ r = refl in
    let t = text_here l 2 k (61 ∷ 60 ∷ r) e in
    let n = length-append k (61 ∷ 60 ∷ r) in
    (sym (drop-drop 2 (2 + length k) l) ∙ ap (λ (x : Bytes). drop 2 x) t.1, omega arith)

abbrev pub shifted : ℕ → Option Part → Option Part
shifted s None = None
shifted s (Some p) = Some (s + p.0, s + p.1)

pub drop_take : (a n : ℕ) (x : Bytes) → drop a (take n x) ≡ take (n - a) (drop a x)
drop_take zero n x = let e : n - 0 ≡ n = omega arith in rw e
drop_take (suc a) zero x = let e : 0 - suc a ≡ 0 = omega arith in rw e
drop_take (suc a) (suc n) [] = let e : suc n - suc a ≡ n - a = omega arith in rw e (sym (take-nil (n - a)))
drop_take (suc a) (suc n) (b ∷ x) = let e : suc n - suc a ≡ n - a = omega arith in rw e (drop_take a n x)

-- a part of a line is a part of the header
pub part_part : (h : Bytes) (start : ℕ) (l : Bytes) (a e : ℕ) → part h start (start + length l) ≡ l → e ≤ length l → part h (start + a) (start + e) ≡ part l a e
part_part h start l a e p s =
    let n : start + length l - start ≡ length l = omega arith in
    let m : start + e - (start + a) ≡ e - a = omega arith in
    let q : take (length l) (drop start h) ≡ l = rw n at p in
    let t = take-take (e - a) (length l - a) (drop a (drop start h)) (omega arith) in
    rw (m, ← drop-drop a start h) (sym t ∙ ap (take (e - a)) (sym (drop_take a (length l) (drop start h))) ∙ ap (λ (x : Bytes). take (e - a) (drop a x)) q)

-- The calls

pub map_kind_lem : (kind : Kind) → (has_id (map_kind kind) ≡ true) × (leb 1 (map_kind kind) && leb (map_kind kind) 10 ≡ true) × (leb (map_kind kind) 8 ≡ true)
map_kind_lem INFO = (refl, refl, refl)
map_kind_lem FILTER = (refl, refl, refl)
map_kind_lem FORMAT = (refl, refl, refl)
map_kind_lem ALT = (refl, refl, refl)
map_kind_lem contig = (refl, refl, refl)
map_kind_lem other = (refl, refl, refl)

pub tag_small : (key : Bytes) → tag_of key ≤ 2
tag_small key = elim (test (same key (ascii "Child"))) [
  | pass e ↦ rw (tag_of, e) (omega arith)
  | fail e ↦ elim (test (same key (ascii "Derived"))) [ pass f ↦ rw (tag_of, e, f) (omega arith) | fail f ↦ rw (tag_of, e, f) (omega arith) ]
]

always_other : (k : Bytes) → always_map k ≡ true → kind_of k ≡ other
unfolding always_map kind_of same
always_other k h = elim (test (same k (ascii "META"))) [
  | pass e ↦ rw (same_sound k (ascii "META") e)
  | fail e ↦ rw (same_sound k (ascii "PEDIGREE") (rw e at h))
]

-- a tag other than 0 stands only in kind 7
tag_fits : (v : Version) (k : Bytes) (fs : List Field) → eqb (tag_of_id v k fs) 0 || (eqb (map_kind (kind_of k)) 7 && leb (tag_of_id v k fs) 2) ≡ true
tag_fits v k fs = elim (test (always_map k)) [
  | pass e ↦ or_on (eqb (tag_of_id v k fs) 0) (rw (always_other k e) (small (field_named v k (ascii "ID") fs)))
  | fail e ↦ rw (tag_none v k fs e)
]
  where
    small : (x : Option Field) → leb (tag_in_field x) 2 ≡ true
    small None = refl
    small (Some f) = le-leb (tag_of f.key) 2 (tag_small f.key)

-- a map's ID in its line
pub record IdIn (v : Version) (k : Bytes) (fs : List Field) (l : Bytes) (p : Bytes × Text) : Type 0 where
  pub is : text_named v k (ascii "ID") (fields_start k) fs ≡ Some p
  pub tagged : tag_of p.0 ≡ tag_of_id v k fs
  pub means : meaning p.1.quoted (part l p.1.start p.1.end) ≡ value_named v k (ascii "ID") fs
  pub ordered : p.1.start ≤ p.1.end
  pub inside : p.1.end ≤ length l

pub value_means : (l : Bytes) (t : Text) (x : Value) → value_in l t ≡ x → meaning t.quoted (part l t.start t.end) ≡ meaning_of x
value_means l t x e = go t.quoted e
  where
    go : (q : Bool) → value_by q (part l t.start t.end) ≡ x → meaning q (part l t.start t.end) ≡ meaning_of x
    go true e = rw (← e)
    go false e = rw (← e)

pub id_in_lem : (v : Version) (k : Bytes) (fs : List Field) → missing v k fs ≡ 0 → (p : Bytes × Text) × IdIn v k fs (write_record (fields k fs)) p
id_in_lem v k fs m = go (field_named v k (ascii "ID") fs) refl (text_named v k (ascii "ID") (fields_start k) fs) refl (id_given v k fs m)
    (named_text v k (ascii "ID") (write_record (fields k fs)) (fields_start k) fs (line_fields k fs))
  where
    l : Bytes
    l = write_record (fields k fs)

    go : (x : Option Field) → field_named v k (ascii "ID") fs ≡ x → (y : Option (Bytes × Text)) → text_named v k (ascii "ID") (fields_start k) fs ≡ y → is_some x ≡ true → Both l x y
        → (p : Bytes × Text) × IdIn v k fs l p
    go None e y f s b = absurd (false≢true s)
    go (Some x) e None f s b = absurd b
    go (Some x) e (Some p) f s b = (
      p,
      record {
        is = f;
        tagged = ap tag_of b.key ∙ sym (ap tag_in_field e);
        means = value_means l p.1 x.value b.value ∙ sym (ap value_of_field e);
        ordered = b.ordered;
        inside = b.inside;
      },
    )

-- a field's part, in the line and in the header
pub shift_part : (s at : ℕ) (fs : List Field) (i : ℕ) → nth_field_part (s + at) fs i ≡ shifted s (nth_field_part at fs i)
unfolding nth_field_part
shift_part s at [] i = refl
shift_part s at (f ∷ fs) zero = let e : s + at + length (written_field f) ≡ s + (at + length (written_field f)) = omega arith in rw e
shift_part s at (f ∷ fs) (suc i) = let e : s + at + length (written_field f) + 1 ≡ s + (at + length (written_field f) + 1) = omega arith in rw e (shift_part s (at + length (written_field f) + 1) fs i)

header_part : (h : Bytes) (s : ℕ) (l : Bytes) → part h s (s + length l) ≡ l → s + length l ≤ length h → (x : Option Field) (y : Option Part) → PartOf l x y → PartOf h x (shifted s y)
header_part h s l p n None None b = tt
header_part h s l p n None (Some y) b = b
header_part h s l p n (Some f) None b = b
header_part h s l p n (Some f) (Some y) b = (part_part h s l y.0 y.1 p b.1 ∙ b.0, omega (arith, b.1))

-- The entry of a record: where its line stands, and what the line is when it is read again

pub record Placed (kind start len : ℕ) (e : Entry) : Type 0 where
  pub is_kind : e.kind ≡ kind
  pub is_start : e.start ≡ start
  pub is_length : e.length ≡ len

pub entry_placed_lem : (counted : Bool) (v : Version) (start : ℕ) (l : Bytes) (r : Record) → Placed (record_kind r) start (length l) (record_entry counted v start l r)
unfolding record_entry line_entry
entry_placed_lem counted v start l (fileformat w) = record { is_kind = refl; is_start = refl; is_length = refl }
entry_placed_lem counted v start l (fields k fs) = go (text_named v k (ascii "ID") (fields_start k) fs)
  where
    go : (o : Option (Bytes × Text)) → Placed (map_kind (kind_of k)) start (length l) (with_counts (counts_of counted (fields k fs)) (map_entry (map_kind (kind_of k)) start (length l) o))
    go None = record { is_kind = refl; is_start = refl; is_length = refl }
    go (Some p) = record { is_kind = refl; is_start = refl; is_length = refl }
entry_placed_lem counted v start l (text k t) = record { is_kind = refl; is_start = refl; is_length = refl }

placed_line : (h : Bytes) (kind start : ℕ) (l : Bytes) (e : Entry) → Placed kind start (length l) e → part h start (start + length l) ≡ l → line_in h e ≡ l
unfolding line_in
placed_line h kind start l e p here = let m : start + length l - start ≡ length l = omega arith in rw (p.is_start, p.is_length) (rw m at here)

-- a line that is read alone as a record of its kind
pub alone : (v : Version) (l : Bytes) (r : Record) → is_utf8 l ≡ true → read_record v l ≡ ok r → read_alone v (record_kind r) l ≡ Some r
unfolding read_alone
alone v l r u e =
    ap (λ (q : Bool). elim q [ true ↦ of_kind (record_kind r) (read_record v l) | false ↦ None ]) u
    ∙ ap (of_kind (record_kind r)) e
    ∙ ap (λ (q : Bool). elim q [ true ↦ Some r | false ↦ None ]) (eq-eqb (record_kind r) (record_kind r) refl)

-- an entry tells the counts that it was given
pub tells_own : (counted : Bool) (r : Record) (e : Entry) → tells (with_counts (counts_of counted r) e) (counts_of counted r) ≡ true
unfolding tells
tells_own counted r e = rw (eq-eqb (counts_of counted r).key_length (counts_of counted r).key_length refl, eq-eqb (counts_of counted r).field_count (counts_of counted r).field_count refl)

-- an entry's line, read again
pub placed_again : (counted : Bool) (h : Bytes) (v : Version) (start : ℕ) (l : Bytes) (r : Record) (e : Entry) → Placed (record_kind r) start (length l) e → tells e (counts_of counted r) ≡ true
    → part h start (start + length l) ≡ l → is_utf8 l ≡ true → read_record v l ≡ ok r → entry_record counted h v e ≡ Some r
unfolding entry_record
placed_again counted h v start l r e p t here u q =
    ap₂ (λ (k : ℕ) (x : Bytes). counted_as counted e (read_alone v k x)) p.is_kind (placed_line h (record_kind r) start l e p here)
    ∙ ap (counted_as counted e) (alone v l r u q)
    ∙ ap (λ (q : Bool). elim q [ true ↦ Some r | false ↦ None ]) t

again_part : (counted : Bool) (h : Bytes) (v : Version) (i : ℕ) (e : Entry) (k : Bytes) (fs : List Field) → has_id e.kind ≡ true → entry_record counted h v e ≡ Some (fields k fs)
    → entry_field_part counted h v i (Some e) ≡ nth_field_part (e.start + fields_start k) fs i
again_part counted h v i e k fs q r = rw (entry_field_part, q, r)

-- an entry of a kind without an ID is well formed, if it tells nothing that its kind has not
pub plain_formed : (c : Counts) (kind start len size : ℕ) → leb 1 kind && leb kind 10 ≡ true → has_id kind ≡ false → counts_in_place (with_counts c (plain_entry kind start len)) ≡ true
    → start + len ≤ size → well_formed size (with_counts c (plain_entry kind start len)) ≡ true
unfolding well_formed says_no_id
plain_formed c kind start len size k i m fits = rw (k, i, le-leb (start + len) size fits, le-leb 0 len (omega arith)) m

-- the counts of a record without fields are those that its kind may have
pub plain_counts : (counted : Bool) (kind start len : ℕ) (r : Record) → leb kind 8 ≡ true → fields_of r ≡ [] → counts_in_place (with_counts (counts_of counted r) (plain_entry kind start len)) ≡ true
unfolding counts_in_place counts_of
plain_counts true kind start len r k e = rw (k, e) (or_on (has_id kind) refl)
plain_counts false kind start len r k e = rw k (or_on (has_id kind) refl)

-- an entry of an accepted header: it is well formed, and what the calls show of it
module _ (lim : Limits) (h : Bytes) (v : Version) where
  module _ (k : Bytes) (fs : List Field) (start : ℕ) (p : Bytes × Text) (i : IdIn v k fs (write_record (fields k fs)) p) (at : LineAt lim h start (write_record (fields k fs))) where
    abbrev l : Bytes
    l = write_record (fields k fs)

    abbrev e : Entry
    e = with_counts (counts_of lim.counted (fields k fs)) (map_entry (map_kind (kind_of k)) start (length l) (Some p))

    map_placed : Placed (map_kind (kind_of k)) start (length l) e
    map_placed = record { is_kind = refl; is_start = refl; is_length = refl }

    map_line : line_in h e ≡ l
    map_line = placed_line h (map_kind (kind_of k)) start l e map_placed at.here

    map_formed : well_formed (length h) e ≡ true
    unfolding well_formed counts_in_place
    map_formed =
        let kc = map_kind_lem (kind_of k) in
        let t : eqb (tag_of p.0) 0 || (eqb (map_kind (kind_of k)) 7 && leb (tag_of p.0) 2) ≡ true = rw i.tagged (tag_fits v k fs) in
        rw (
          kc.1,
          t,
          kc.0,
          le-leb (start + length l) (length h) at.inside,
          le-leb (p.1.start + (p.1.end - p.1.start)) (length l) (omega (arith, i.ordered, i.inside)),
          kc.2,
        )

    map_id : id_meaning h e ≡ value_named v k (ascii "ID") fs
    unfolding id_in
    map_id =
        let m : start + p.1.end - (start + p.1.start) ≡ p.1.end - p.1.start = omega (arith, i.ordered) in
        rw (rw m at (part_part h start l p.1.start p.1.end at.here i.inside)) i.means

    map_fields : read_record v l ≡ ok (fields k fs) → (n : ℕ) → PartOf h (nth fs n) (entry_field_part lim.counted h v n (Some e))
    map_fields r n =
        let again = placed_again lim.counted h v start l (fields k fs) e map_placed (tells_own lim.counted (fields k fs) e) at.here at.utf8 r in
        rw (again_part lim.counted h v n e k fs (map_kind_lem (kind_of k)).0 again, shift_part start (fields_start k) fs n)
        (header_part h start l at.here at.inside (nth fs n) (nth_field_part (fields_start k) fs n) (field_part l (fields_start k) fs n (line_fields k fs)))

    pub map_shown : read_record v l ≡ ok (fields k fs) → ShowsMap lim.counted h v k fs l e
    map_shown r = record { formed = map_formed; kind = refl; line = map_line; tag = i.tagged; id = map_id; field = map_fields r }

  pub shows_map : (k : Bytes) (fs : List Field) (e : Entry) (row : Row lim h v e (fields k fs)) → missing v k fs ≡ 0 → ShowsMap lim.counted h v k fs row.line e
  unfolding record_entry line_entry
  shows_map k fs e row m =
      let d = id_in_lem v k fs m in
      let w : row.line ≡ write_record (fields k fs) = on_ok (LineOf row.line) (record_in v row.line) row.read in
      let at : LineAt lim h row.start (write_record (fields k fs)) = rw w at row.there in
      let r : read_record v (write_record (fields k fs)) ≡ ok (fields k fs) = rw w at row.read in
      rw (row.entry, w, d.1.is) (map_shown k fs row.start d.0 d.1 at r)

  pub shows_plain : (c : Counts) (kind start : ℕ) (l : Bytes) → leb 1 kind && leb kind 10 ≡ true → has_id kind ≡ false → counts_in_place (with_counts c (plain_entry kind start (length l))) ≡ true
      → part h start (start + length l) ≡ l → start + length l ≤ length h → ShowsPlain h kind l (with_counts c (plain_entry kind start (length l)))
  shows_plain c kind start l k i m here fits = record {
    formed = plain_formed c kind start (length l) (length h) k i m fits;
    is_kind = refl;
    line = placed_line h kind start l _ (record { is_kind = refl; is_start = refl; is_length = refl }) here;
    id = rw (id_part, i);
    field = λ counted w j. rw (entry_field_part, i);
  }

  pub shows_text : (k t : Bytes) (e : Entry) (row : Row lim h v e (text k t)) → ShowsPlain h text_kind row.line e
  unfolding record_entry line_entry
  shows_text k t e row =
      rw row.entry (shows_plain (counts_of lim.counted (text k t)) text_kind row.start row.line refl refl
      (plain_counts lim.counted text_kind row.start (length row.line) (text k t) refl refl) row.there.here row.there.inside)
