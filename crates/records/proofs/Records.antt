-- A record: its key, and its value by the key. Assumes nothing.
use Prim.Native.Nat.{ℕ, ◌+◌, ◌-◌, ◌≤◌, ◌<◌}
use native.Mathlib.Omega.{arith}
use mathlib.Core.Path.{◌≡◌, refl, sym, ap, subst, ◌∙◌}
use mathlib.Core.Bool.{Bool, true, false, not, ◌&&◌, and-false}
use mathlib.Core.List.{List, [], ◌∷◌, tail}
use Rattle.std.specs.Prelude.{Option, None, Some, Result, Ok, Err}
use lib.ListN.{length, take, drop, drop_of_length-le}
use Rattle.values.specs.Bytes.{Bytes, ascii, is, empty, begins, from, same, starts}
use Rattle.values.specs.Field.{Field}
use Rattle.values.specs.declared.cursor.Cursor.{Cursor}
use Rattle.values.specs.declared.string.Text.{Text}
use Rattle.values.proofs.Tests.{not_true, not_false, never}
use Rattle.values.proofs.Lists.{here, rest, from_at, from_begins}
use Rattle.values.proofs.Fields.{before_part}
use Rattle.rules.specs.Answer.{Answer, ok, refuse, ◌>>=◌, unless, judged}
use Rattle.rules.specs.Version.{Version, read_version}
use Rattle.rules.specs.Known.{is_typed, always_map}
use Rattle.rules.specs.Map.{read_map}
use Rattle.rules.specs.Entry.{fields_start, text_named}
use Rattle.rules.specs.Record.{fields, text, looks_map, is_map, fileformat_read, read_record_value, read_keyed, read_record}
use Rattle.records.specs.Formats.{format_read}
use Rattle.records.specs.Keys.{case_bytes, key_named, Named}
use Rattle.records.specs.Maps.{slotted, tallied, MapIs, ParsesMap, Identified, Described, Full, TypedIs, ParsesTyped, Typed, Declared}
use Rattle.rules.specs.Claims.{key_in}
use Rattle.records.specs.Records.{ValueIs, ParsesValue, KeyedIs, version_record, RecordIs, ParsesRecord}
use Rattle.records.specs.declared.map.Tally.{Tally}
use Rattle.records.specs.declared.file_format.FileFormat.{FileFormat}
use Rattle.records.specs.declared.key.MapKey.{MapKey}
use Rattle.records.specs.declared.refusal.Refusal.{Refusal}
use Rattle.records.specs.declared.refusal.Refusal.TheVariants.{InvalidRecord, InvalidFileFormat, DefinitionMismatch}
use Rattle.records.specs.declared.record.RecordKey.{RecordKey}
use Rattle.records.specs.declared.record.RecordKey.TheVariants as key
use Rattle.records.specs.declared.record.Record.{Record}
use Rattle.records.specs.declared.record.Record.TheVariants as read
use Rattle.records.proofs.Needed.{full_info, full_format, described_filter, described_alternative_allele, identified_contig, identified_meta, identified_pedigree, identified_other}
use Rattle.records.proofs.Keys.{named, map_by_case, text_by_case, odd_by_case, looks_by_case}

-- INFO and FORMAT with their definition

judged_unless : {A : Type 0} {n : ℕ} {b : Bool} (x : A) → n ≡ unless b 18 → b ≡ true → judged n x ≡ ok x
judged_unless x e f = rw (e, f)

judged_otherwise : {A : Type 0} {n : ℕ} {b : Bool} (x : A) → n ≡ unless b 18 → b ≡ false → judged n x ≡ refuse 18
judged_otherwise x e f = rw (e, f)

module _ (v : Version) (key : MapKey) (s : Bytes) (c : Cursor) {r : Result (Text × ℕ × Text × Text × Tally) Refusal} (o : Full key → ParsesTyped v key s c.at r) where
  pub typed_unread : {x : Refusal} → r ≡ Err x → Full key → ParsesMap v key s c.at (Err x)
  typed_unread e full = record { is = subst (TypedIs v (case_bytes key) s c.at) e (o full).is }

  module _ {id : Text} {g : ℕ} {n t : Text} {tally : Tally} (e : r ≡ Ok (id, g, n, t, tally)) {q : Bool} (d : Declared v key s id n t q) where
    as_typed : Full key → Typed v (case_bytes key) s c.at id g n t tally
    as_typed full = subst (TypedIs v (case_bytes key) s c.at) e (o full).is

    pub typed_otherwise : not q ≡ true → Full key → ParsesMap v key s c.at (Err DefinitionMismatch)
    typed_otherwise f full = record { is = let y = as_typed full in y.read ∙ judged_otherwise y.fs (d.is c.at g tally y) (not_true q f) }

    pub typed_defined : not q ≡ false → Full key → ParsesMap v key s c.at (Ok (id, g, tally))
    typed_defined f full = record { is = let y = as_typed full in (y.fs, y.read ∙ judged_unless y.fs (d.is c.at g tally y) (not_false q f), y.named, y.tallied) }

pub ruleset with_definition = (typed_unread, typed_otherwise, typed_defined)

-- by the case of the key
module _ (v : Version) (key : MapKey) (s : Bytes) (at : ℕ) {j : MapKey} (e : key ≡ j) {r : Result (Text × ℕ × Tally) Refusal} where
  pub typed_told : Full j → (Full key → ParsesMap v key s at r) → ParsesMap v key s at r
  typed_told full h = h (subst Full (sym e) full)

  pub described_told : Described j → (Described key → ParsesMap v key s at r) → ParsesMap v key s at r
  described_told d h = h (subst Described (sym e) d)

  pub identified_told : Identified j → (Identified key → ParsesMap v key s at r) → ParsesMap v key s at r
  identified_told i h = h (subst Identified (sym e) i)

pub ruleset by_case = (typed_told, described_told, identified_told, full_info, full_format, described_filter, described_alternative_allele, identified_contig, identified_meta, identified_pedigree, identified_other)

-- Whether the value is a map

module _ (v : Version) (key : MapKey) (x : Bytes) {t : Bool} (a : t ≡ is_typed (case_bytes key)) where
  pub typed_map : t ≡ true → true ≡ is_map v (case_bytes key) x
  typed_map e = rw (sym a ∙ e)

  pub always_map_lem : t ≡ false → {w : Bool} → w ≡ always_map (case_bytes key) → w ≡ true → true ≡ is_map v (case_bytes key) x
  always_map_lem e b f = rw (sym a ∙ e, sym b ∙ f)

  pub looked_map : t ≡ false → {w : Bool} → w ≡ always_map (case_bytes key) → w ≡ false → {q : Bool} → q ≡ looks_map v x → q ≡ is_map v (case_bytes key) x
  looked_map e b f g = rw (sym a ∙ e, sym b ∙ f) g

pub ruleset are_maps = (typed_map, always_map_lem, looked_map)

-- A value

module _ (v : Version) (k x : Bytes) where
  value_version : same k (ascii "fileformat") ≡ true → read_record_value v k x ≡ fileformat_read (read_version x)
  unfolding read_record_value
  value_version e = rw (read_record_value, e)

  value_text : same k (ascii "fileformat") ≡ false → is_map v k x ≡ false → read_record_value v k x ≡ ok (text k x)
  unfolding read_record_value
  value_text e f = rw (read_record_value, e, f)

  value_map : same k (ascii "fileformat") ≡ false → is_map v k x ≡ true → read_record_value v k x ≡ (read_map v k x >>= λ fs. ok (fields k fs))
  unfolding read_record_value
  value_map e f = rw (read_record_value, e, f)

module _ (s : Bytes) (c : Cursor) {p : Bytes} (b : p ≡ take (length s - c.at) (drop c.at s)) {r : Option FileFormat} (d : r ≡ format_read (read_version p)) where
  as_read : {x : Option FileFormat} → r ≡ x → x ≡ format_read (read_version (drop c.at s))
  as_read g = sym g ∙ d ∙ ap (λ (y : Bytes). format_read (read_version y)) (b ∙ rest s c.at)

  pub version_unread : r ≡ None → Err InvalidFileFormat ≡ version_record (read_version (drop c.at s))
  version_unread g = go (read_version (drop c.at s)) (as_read g)
    where
      go : (a : Option Version) → None ≡ format_read a → Err InvalidFileFormat ≡ version_record a
      go None e = refl
      go (Some w) e = never cc

  pub version_read_lem : {w : FileFormat} → r ≡ Some w → Ok (read.FileFormat w) ≡ version_record (read_version (drop c.at s))
  version_read_lem {w} g = go (read_version (drop c.at s)) (as_read g)
    where
      go : (a : Option Version) → Some w ≡ format_read a → Ok (read.FileFormat w) ≡ version_record a
      go None e = never cc
      go (Some u) e = cc

pub ruleset versions = (version_unread, version_read_lem)

module _ (v : Version) (key : MapKey) (s : Bytes) (c : Cursor) {m : Bool} (b : m ≡ is_map v (case_bytes key) (drop c.at s)) where
  pub a_text : not m ≡ true → ParsesValue v key s c.at (Ok None)
  a_text g = record { is = λ k n. value_text v k (drop c.at s) n.format (looks_by_case v k key n (drop c.at s) ∙ sym b ∙ not_true m g) }

  module _ (g : not m ≡ false) {r : Result (Text × ℕ × Tally) Refusal} (h : ParsesMap v key s c.at r) where
    mapped : (k : Bytes) → Named k key → {a : Answer (List Field)} → read_map v (case_bytes key) (drop c.at s) ≡ a → read_record_value v k (drop c.at s) ≡ (a >>= λ fs. ok (fields k fs))
    mapped k n e =
        value_map v k (drop c.at s) n.format (looks_by_case v k key n (drop c.at s) ∙ sym b ∙ not_false m g)
        ∙ ap (λ (a : Answer (List Field)). a >>= λ fs. ok (fields k fs)) (map_by_case v k key n (drop c.at s) ∙ e)

    pub map_unread : {x : Refusal} → r ≡ Err x → ParsesValue v key s c.at (Err x)
    map_unread i = record { is = λ k n. mapped k n (subst (MapIs v (case_bytes key) s c.at) i h.is) }

    pub map_given : {id : Text} {t : ℕ} {o : Tally} → r ≡ Ok (id, t, o) → ParsesValue v key s c.at (Ok (Some (id, t, o)))
    map_given i = record {
      is = λ k n.
          let y = subst (MapIs v (case_bytes key) s c.at) i h.is in
          (y.0, mapped k n y.1, ap slotted (text_by_case v k key n (ascii "ID") (c.at + 1) y.0) ∙ y.2, y.3 ∙ sym (ap (λ (b : Bool). tallied b (length y.0)) (odd_by_case v k key n y.0)));
    }

pub ruleset values = (a_text, map_unread, map_given)

-- The key

module _ (s : Bytes) (hash : starts (ascii "##") s ≡ true) where
  keyed : (v : Version) → read_record v s ≡ read_keyed v (key_in s) (from (is 61) (drop 2 s))
  unfolding read_record
  keyed v = rw (read_record, hash)

  unkeyed : not (empty (key_in s)) && begins 61 (from (is 61) (drop 2 s)) ≡ false → (v : Version) → read_record v s ≡ refuse 6
  unfolding read_keyed
  unkeyed e v = keyed v ∙ rw (read_keyed, e)

some_bytes : (k : Bytes) → (length k ≡ 0 → ⊥) → empty k ≡ false
some_bytes [] e = absurd (e refl)
some_bytes (b ∷ k) e = refl

module _ (s : Bytes) {end : ℕ} (f : end ≡ 2 + length (key_in s)) where
  equals : from (is 61) (drop 2 s) ≡ drop end s
  equals = from_at (is 61) s 2 ∙ ap (λ (i : ℕ). drop i s) (sym f)

  pub no_key : end ≡ 2 → starts (ascii "##") s ≡ true → KeyedIs s None
  no_key e h = unkeyed s h (ap (λ (k : Bytes). not (empty k) && begins 61 (from (is 61) (drop 2 s))) (drop_of_length-le (key_in s) {i = 0} (omega arith)))

  pub no_equals : length s ≤ end → starts (ascii "##") s ≡ true → KeyedIs s None
  unfolding begins
  no_equals e h = unkeyed s h (rw (equals, drop_of_length-le s e) (and-false (not (empty (key_in s)))))

  module _ (ne : end ≡ 2 → ⊥) (l : end < length s) {p : Bytes} (b : p ≡ take (end - 2) (drop 2 s)) {q : Bool} (t : q ≡ same p (ascii "fileformat")) {d : Cursor} (at : d.at ≡ end + 1) where
    key_tested : {x : Bool} → q ≡ x → same (key_in s) (ascii "fileformat") ≡ x
    key_tested e = ap (λ (k : Bytes). same k (ascii "fileformat")) (sym (b ∙ before_part (is 61) s 2 f)) ∙ sym t ∙ e

    key_value : starts (ascii "##") s ≡ true → (v : Version) → read_record v s ≡ read_record_value v (key_in s) (drop d.at s)
    unfolding read_keyed begins
    key_value h v =
        let r = equals ∙ here s end l in
        keyed s h v ∙ rw (read_keyed, some_bytes (key_in s) (λ z. ne (omega arith)), from_begins 61 (drop 2 s) r) (ap (read_record_value v (key_in s)) (ap tail r ∙ ap (λ (i : ℕ). drop i s) (sym at)))

    pub a_format : q ≡ true → starts (ascii "##") s ≡ true → KeyedIs s (Some (key.FileFormat d))
    a_format e h = λ v. key_value h v ∙ value_version v (key_in s) (drop d.at s) (key_tested e)

    pub a_key : q ≡ false → {j : MapKey} → j ≡ key_named p → starts (ascii "##") s ≡ true → KeyedIs s (Some (key.Map j d))
    a_key e i h = (subst (Named (key_in s)) (ap key_named (sym (b ∙ before_part (is 61) s 2 f)) ∙ sym i) (named (key_in s) (key_tested e)), omega arith, key_value h)

pub ruleset keys = (no_key, no_equals, a_format, a_key)

-- A record

module _ (v : Version) (s : Bytes) {q : Bool} (a : q ≡ starts (ascii "##") s) where
  pub no_prefix : not q ≡ true → ParsesRecord v s (Err InvalidRecord)
  unfolding read_record
  no_prefix e = record { is = rw (read_record, sym a ∙ not_true q e) }

  module _ (e : not q ≡ false) (x : Option RecordKey) (f : starts (ascii "##") s ≡ true → KeyedIs s x) where
    hash : KeyedIs s x
    hash = f (sym a ∙ not_false q e)

    pub key_unread : x ≡ None → ParsesRecord v s (Err InvalidRecord)
    key_unread g = record { is = subst (KeyedIs s) g hash v }

    pub record_version : {d : Cursor} → x ≡ Some (key.FileFormat d) → {r : Result Record Refusal} → r ≡ version_record (read_version (drop d.at s)) → ParsesRecord v s r
    record_version {d} g {r} w = record { is = rw w (go (read_version (drop d.at s)) (subst (KeyedIs s) g hash v)) }
      where
        go : (a : Option Version) → read_record v s ≡ fileformat_read a → RecordIs v s (version_record a)
        go None e = e
        go (Some u) e = e

    module _ {j : MapKey} {d : Cursor} (g : x ≡ Some (key.Map j d)) {y : Result (Option (Text × ℕ × Tally)) Refusal} (h : ParsesValue v j s d.at y) where
      key_is : KeyedIs s (Some (key.Map j d))
      key_is = subst (KeyedIs s) g hash

      parsed : {z : Result (Option (Text × ℕ × Tally)) Refusal} → y ≡ z → ValueIs v (key_in s) s d.at z
      parsed w = subst (ValueIs v (key_in s) s d.at) w (h.is (key_in s) key_is.0)

      pub record_text_lem : y ≡ Ok None → ParsesRecord v s (Ok (read.Text d.at))
      record_text_lem w = record { is = (key_is.1, key_is.2 v ∙ parsed w) }

      pub record_refused : {z : Refusal} → y ≡ Err z → ParsesRecord v s (Err z)
      record_refused w = record { is = key_is.2 v ∙ parsed w }

      pub record_map : {id : Text} {t : ℕ} {o : Tally} → y ≡ Ok (Some (id, t, o)) → ParsesRecord v s (Ok (read.Map (record { key = j; value = d.at; id = id; tag = t; tally = o })))
      record_map w = let m = parsed w in
          let e : d.at + 1 ≡ fields_start (key_in s) = ap (◌+ 1) key_is.1 ∙ omega arith in
          record { is = (m.0, key_is.0, key_is.1, key_is.2 v ∙ m.1, ap (λ (i : ℕ). slotted (text_named v (key_in s) (ascii "ID") i m.0)) (sym e) ∙ m.2, m.3) }

pub ruleset records = (no_prefix, key_unread, record_version, record_text_lem, record_refused, record_map)
