-- Lines read alone: the ways of the code, on plain values. Assumes nothing.
use Prim.Native.Nat.{ℕ, ◌-◌}
use native.Mathlib.Omega.{arith}
use mathlib.Core.Path.{◌≡◌, refl, sym, ap, ap₂, subst, ◌∙◌}
use mathlib.Core.Bool.{Bool, true, false, not}
use mathlib.Core.List.{[]}
use Rattle.std.specs.Prelude.{Option, None, Some, Result, Ok, Err}
use lib.Dec.{eqb}
use lib.ListN.{length, drop}
use borrow.Author.Tests.{eq-eqb, ne_eqb, eqb-true, eqb-false}
use Rattle.values.specs.Bytes.{Bytes}
use Rattle.values.specs.Utf8.{is_utf8}
use Rattle.values.proofs.Tests.{pass, fail, test, not_true, not_false}
use Rattle.rules.specs.Answer.{Answer, ok}
use Rattle.rules.specs.Version.{Version}
use Rattle.rules.specs.Known.{kind_of}
use Rattle.rules.specs.Record.{Record, fileformat, fields, text, key_of, read_record}
use Rattle.rules.specs.Entry.{Entry as RuleEntry, map_kind, record_kind, fields_of, counts_of}
use Rattle.rules.specs.Shown.{line_in, of_kind, read_alone, tells, counted_as, entry_record}
use Rattle.rules.specs.Claims.{key_in}
use Rattle.records.specs.Formats.{version_of}
use Rattle.records.specs.Keys.{kind_by}
use Rattle.records.specs.Records.{RecordIs, ParsesRecord}
use Rattle.records.specs.declared.file_format.FileFormat.{FileFormat}
use Rattle.records.specs.declared.refusal.Refusal.{Refusal}
use Rattle.records.specs.declared.map.Tally.{Tally}
use Rattle.records.specs.declared.record.MapRecord.{MapRecord}
use Rattle.records.specs.declared.record.Record.{Record as LineRecord}
use Rattle.records.specs.declared.record.Record.TheVariants as read
use Rattle.records.proofs.Keys.{kind_by_case}
use Rattle.entries.specs.declared.entry.Entry.{Entry}
use Rattle.entries.specs.Values.{entry_of}
use Rattle.alone.specs.Alones.{plain_if, counts_in, AloneIs, ReadsAlone, ReadsEntry}
use Rattle.alone.specs.declared.read.Alone.{Alone}
use Rattle.alone.specs.declared.read.Alone.TheVariants.{Map, Plain}

module _ (n : ℕ) {b : Bool} where
  pub plain_asked : b ≡ true → Some (Plain n) ≡ plain_if b n
  plain_asked e = rw e

  pub plain_unasked : b ≡ false → None ≡ plain_if b n
  plain_unasked e = rw e

pub ruleset plains = (plain_asked, plain_unasked)

either_way : (a b : ℕ) → eqb a b ≡ eqb b a
either_way a b = elim (test (eqb b a)) [
  | pass e ↦ rw e (eq-eqb a b (sym (eqb-true b a e)))
  | fail e ↦ rw e (ne_eqb a b (λ q. eqb-false b a e (sym q)))
]

-- A line

module _ (v : Version) (l : Bytes) (kind : ℕ) {u : Bool} (a : u ≡ is_utf8 l) where
  line_by_lem : {q : Bool} → is_utf8 l ≡ q → read_alone v kind l ≡ elim q [ true ↦ of_kind kind (read_record v l) | false ↦ None ]
  unfolding read_alone
  line_by_lem e = ap (λ (q : Bool). elim q [ true ↦ of_kind kind (read_record v l) | false ↦ None ]) e

  pub alone_not_utf8 : not u ≡ true → ReadsAlone v kind l None
  alone_not_utf8 e = record { is = line_by_lem (sym a ∙ not_true u e) }

  module _ (on : not u ≡ false) {x : Result LineRecord Refusal} (b : ParsesRecord v l x) where
    read_as : {r : Answer Record} → read_record v l ≡ r → read_alone v kind l ≡ of_kind kind r
    read_as e = line_by_lem (sym a ∙ not_false u on) ∙ ap (of_kind kind) e

    kind_as : {r : Record} → read_record v l ≡ ok r → {q : Bool} → eqb (record_kind r) kind ≡ q → read_alone v kind l ≡ elim q [ true ↦ Some r | false ↦ None ]
    kind_as {r} e f = read_as e ∙ ap (λ (q : Bool). elim q [ true ↦ Some r | false ↦ None ]) f

    told : {y : Result LineRecord Refusal} → x ≡ y → RecordIs v l y
    told e = subst (RecordIs v l) e b.is

    pub alone_refused : {y : Refusal} → x ≡ Err y → ReadsAlone v kind l None
    alone_refused e = record { is = read_as (told e) }

    -- a record without fields
    plain_as : (r : Record) → read_record v l ≡ ok r → fields_of r ≡ [] → {n : ℕ} → n ≡ length (key_of r) → (q : Bool) → eqb (record_kind r) kind ≡ q → AloneIs v l (read_alone v kind l) (plain_if q n)
    plain_as r e f c true k = (r, kind_as e k, f, c)
    plain_as r e f c false k = kind_as e k

    pub alone_format : {w : FileFormat} → x ≡ Ok (read.FileFormat w) → {r : Option Alone} → r ≡ plain_if (eqb kind 1) 10 → ReadsAlone v kind l r
    alone_format {w} e f = record { is = rw f (plain_as (fileformat (version_of w)) (told e) refl refl (eqb kind 1) (either_way 1 kind)) }

    pub alone_text : {at : ℕ} → x ≡ Ok (read.Text at) → {n : ℕ} → n ≡ at - 3 → {r : Option Alone} → r ≡ plain_if (eqb kind 8) n → ReadsAlone v kind l r
    alone_text {at} e {n} c f =
        let t = told e in
        let m : n ≡ length (key_in l) = omega (arith, c, t.0) in
        record { is = rw f (plain_as (text (key_in l) (drop at l)) t.1 refl m (eqb kind 8) (either_way 8 kind)) }

    module _ {m : MapRecord} (e : x ≡ Ok (read.Map m)) {k : ℕ} (c : k ≡ map_kind (kind_by m.key)) where
      kind_is : map_kind (kind_of (key_in l)) ≡ k
      kind_is = ap map_kind ((told e).1.kind ∙ kind_by_case m.key) ∙ sym c

      pub alone_other_kind : (k ≡ kind → ⊥) → ReadsAlone v kind l None
      alone_other_kind n = record { is = kind_as (told e).3 {q = false} (rw kind_is (ne_eqb k kind n)) }

      pub alone_map : k ≡ kind → ReadsAlone v kind l (Some (Map m))
      alone_map q =
          let t = told e in
          record { is = (t.0, kind_as t.3 {q = true} (rw kind_is (eq-eqb k kind q)), record { named = t.1; value = t.2; read = t.3; tally = t.5 }) }

pub ruleset lines = (alone_not_utf8, alone_refused, alone_format, alone_text, alone_other_kind, alone_map)

-- What an entry tells

module _ (e : Entry) (counted : Bool) (key n : ℕ) {k : ℕ} (a : k ≡ (counts_in counted key n).key_length) where
  pub key_otherwise : (k ≡ e.key_length → ⊥) → false ≡ tells (entry_of e) (counts_in counted key n)
  unfolding tells
  key_otherwise f = rw (← a, ne_eqb k e.key_length f)

  pub key_agrees : k ≡ e.key_length → {m : ℕ} → m ≡ (counts_in counted key n).field_count → eqb m e.field_count ≡ tells (entry_of e) (counts_in counted key n)
  unfolding tells
  key_agrees f c = rw (← a, eq-eqb k e.key_length f, ← c)

pub ruleset told_counts = (key_otherwise, key_agrees)

-- An entry

module _ (counted : Bool) (v : Version) (h : Bytes) (e : RuleEntry) {l : Bytes} (a : l ≡ line_in h e) {x : Option Alone} (b : ReadsAlone v e.kind l x) where
  found : {y : Option Alone} → x ≡ y → AloneIs v (line_in h e) (read_alone v e.kind (line_in h e)) y
  found {y} q = subst (λ (l : Bytes). AloneIs v l (read_alone v e.kind l) y) a (subst (AloneIs v l (read_alone v e.kind l)) q b.is)

  counted_by : {o : Option Record} → read_alone v e.kind (line_in h e) ≡ o → entry_record counted h v e ≡ counted_as counted e o
  unfolding entry_record
  counted_by f = ap (counted_as counted e) f

  pub entry_unread : x ≡ None → ReadsEntry counted v h e None
  entry_unread q = record { is = counted_by (found q) }

  told_as_lem : {r : Record} → read_alone v e.kind (line_in h e) ≡ Some r → {t : Bool} → tells e (counts_of counted r) ≡ t → entry_record counted h v e ≡ elim t [ true ↦ Some r | false ↦ None ]
  told_as_lem {r} f g = counted_by f ∙ ap (λ (t : Bool). elim t [ true ↦ Some r | false ↦ None ]) g

  module _ {m : MapRecord} (q : x ≡ Some (Map m)) {n : ℕ} (c : n ≡ m.value - 3) {t : Bool} (d : t ≡ tells e (counts_in counted n m.tally.fields)) where
    map_tells : tells e (counts_of counted (fields (key_in (line_in h e)) (found q).0)) ≡ t
    unfolding counts_of
    map_tells =
        let f = found q in
        let k : length (key_in (line_in h e)) ≡ n = omega (arith, c, f.2.value) in
        let s : length f.0 ≡ m.tally.fields = sym (ap (λ (y : Tally). y.fields) f.2.tally) in
        rw (k, s) (sym d)

    pub entry_map : t ≡ true → ReadsEntry counted v h e (Some (Map m))
    entry_map f = let y = found q in record { is = (y.0, told_as_lem y.1 (map_tells ∙ f), y.2) }

    pub entry_map_otherwise : t ≡ false → ReadsEntry counted v h e None
    entry_map_otherwise f = let y = found q in record { is = told_as_lem y.1 (map_tells ∙ f) }

  pub entry_plain : {n : ℕ} → x ≡ Some (Plain n) → {t : Bool} → t ≡ tells e (counts_in counted n 0) → {r : Option Alone} → r ≡ plain_if t n → ReadsEntry counted v h e r
  unfolding counts_of
  entry_plain {n} q {t} d f = record { is = rw f (go t (plain_tells ∙ sym d)) }
    where
      y : (r : Record) × (read_alone v e.kind (line_in h e) ≡ Some r) × (fields_of r ≡ []) × (n ≡ length (key_of r))
      y = found q

      plain_tells : tells e (counts_of counted y.0) ≡ tells e (counts_in counted n 0)
      plain_tells = ap₂ (λ (k i : ℕ). tells e (counts_in counted k i)) (sym y.3) (ap length y.2)

      go : (t : Bool) → tells e (counts_of counted y.0) ≡ t → AloneIs v (line_in h e) (entry_record counted h v e) (plain_if t n)
      go true g = (y.0, told_as_lem y.1 g, y.2, y.3)
      go false g = told_as_lem y.1 g

pub ruleset entry = (entry_unread, entry_map, entry_map_otherwise, entry_plain)
