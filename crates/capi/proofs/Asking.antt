-- What a header says under a name, in C: the ways of the code, on plain values. Assumes nothing.
use Prim.Native.Nat.{ℕ, ◌-◌, ◌≤◌}
use mathlib.Core.Path.{◌≡◌, sym, ap, ap₂, subst, ◌∙◌}
use mathlib.Core.Bool.{Bool}
use mathlib.Core.List.{List}
use Rattle.std.specs.Prelude.{Some, Option, None}
use lib.ListN.{length, take, drop}
use lib.Seq.{sets}
use Rattle.values.specs.Bytes.{Bytes, same}
use Rattle.values.specs.Value.{meaning}
use Rattle.values.specs.declared.string.Text.{Text}
use Rattle.rules.specs.Version.{version}
use Rattle.records.specs.Refusals.{number}
use Rattle.records.specs.Formats.{version_of}
use Rattle.records.specs.declared.file_format.FileFormat.{FileFormat}
use Rattle.records.specs.declared.refusal.Refusal.TheVariants as refusal
use Rattle.entries.specs.declared.form.Form.{Form}
use Rattle.entries.specs.Values.{limits_by}
use Rattle.entries.specs.Tables.{entry_at, shown_field}
use Rattle.lookup.specs.Entries.{described_in, first_under}
use Rattle.lookup.specs.Fields.{field_apart, entry_text, text_under, TextInside}
use Rattle.lookup.specs.Meanings.{fitting, written_as}
use Rattle.lookup.specs.declared.entry.Described.{Described}
use Rattle.lookup.specs.declared.field.FieldParts.{FieldParts}
use Rattle.capi.specs.Answers.{flag}
use Rattle.capi.specs.Lookups.{is_set, described, undescribed, described_as, field_as, value_as, TextOrdered, entry_as, meaning_as, meant, text_answer, text_written}
use Rattle.capi.specs.declared.lookups.VcfhDescribed.{VcfhDescribed}
use Rattle.capi.specs.declared.lookups.VcfhField.{VcfhField}
use Rattle.capi.specs.declared.lookups.VcfhValue.{VcfhValue}
use Rattle.capi.specs.declared.lookups.VcfhUnder.{VcfhUnder}
use Rattle.capi.specs.declared.lookups.VcfhMeaning.{VcfhMeaning}

-- Answers as numbers

module _ (d : Option Described) where
  pub is_described : (e : Described) → d ≡ Some e → {i q : ℕ} → i ≡ flag e.has_id → q ≡ flag e.quoted → described e i q ≡ described_as d
  is_described e a b c = rw (a, b, c)

  pub not_described : d ≡ None → {n : ℕ} → n ≡ number refusal.InvalidEntry → undescribed n ≡ described_as d
  not_described a b = rw (a, b)

module _ (s : Option FieldParts) where
  pub a_field : (f : FieldParts) → s ≡ Some f → {q : ℕ} → q ≡ flag f.quoted
      → record { number = 0; key_start = f.key_start; key_length = f.key_length; start = f.start; length = f.length; quoted = q } ≡ field_as s
  a_field f a b = rw (a, b)

  pub no_field : s ≡ None → {n : ℕ} → n ≡ number refusal.InvalidEntry → record { number = n; key_start = 0; key_length = 0; start = 0; length = 0; quoted = 0 } ≡ field_as s
  no_field a b = rw (a, b)

module _ (s : Option Text) where
  pub a_value : (t : Text) → s ≡ Some t → {q : ℕ} → q ≡ flag t.quoted → record { number = 0; start = t.start; length = t.end - t.start; quoted = q } ≡ value_as s
  a_value t a b = rw (a, b)

  pub value_ordered : (t : Text) → s ≡ Some t → TextOrdered s → t.start ≤ t.end
  value_ordered t a o = subst TextOrdered a o

  pub no_value : s ≡ None → {n : ℕ} → n ≡ number refusal.InvalidEntry → record { number = n; start = 0; length = 0; quoted = 0 } ≡ value_as s
  no_value a b = rw (a, b)

module _ (f : Option ℕ) where
  pub an_entry : {n : ℕ} → f ≡ Some n → record { number = 0; entry = n } ≡ entry_as f
  an_entry a = rw a

  pub no_entry : f ≡ None → {n : ℕ} → n ≡ number refusal.InvalidEntry → record { number = n; entry = 0 } ≡ entry_as f
  no_entry a b = rw (a, b)

module _ (w : Option ℕ) where
  pub all_bytes : {n : ℕ} → w ≡ Some n → record { number = 0; length = n } ≡ meaning_as w
  all_bytes a = rw a

  pub no_room : w ≡ None → {n : ℕ} → n ≡ number refusal.FormTooLong → record { number = n; length = 0 } ≡ meaning_as w
  no_room a b = rw (a, b)

pub ruleset answers = (is_described, not_described, a_field, no_field, a_value, value_ordered, no_value, an_entry, no_entry, all_bytes, no_room)

-- Calls, in the form and by the version that were asked for

pub text_ordered : (n : ℕ) (s : Option Text) → TextInside n s → TextOrdered s
text_ordered n (Some t) i = i.0
text_ordered n None i = tt

module _ {f form : Form} (k : f ≡ form) (h t : List ℕ) (n : ℕ) where
  pub describes : {d : Option Described} → d ≡ described_in h (entry_at f h t n) → {r : VcfhDescribed} → r ≡ described_as d → r ≡ described_as (described_in h (entry_at form h t n))
  describes a b = b ∙ ap described_as (a ∙ ap (λ (x : Form). described_in h (entry_at x h t n)) k)

  module _ (major minor : ℕ) {v : FileFormat} (e : v ≡ record { major = major; minor = minor }) where
    pub shows_parts : (i : ℕ) {s : Option FieldParts} → s ≡ field_apart h (shown_field f h t n (version_of v) i) → {r : VcfhField} → r ≡ field_as s
        → r ≡ field_as (field_apart h (shown_field form h t n (version major minor) i))
    shows_parts i a b = b ∙ ap field_as (a ∙ ap₂ (λ (x : Form) (g : FileFormat). field_apart h (shown_field x h t n (version_of g) i)) k e)

    pub shows_value : (name : Bytes) {s : Option Text} → s ≡ entry_text (limits_by f).counted h (version_of v) name (entry_at f h t n) → {r : VcfhValue} → r ≡ value_as s
        → r ≡ value_as (entry_text (limits_by form).counted h (version major minor) name (entry_at form h t n))
    shows_value name a b = b ∙ ap value_as (a ∙ ap₂ (λ (x : Form) (g : FileFormat). entry_text (limits_by x).counted h (version_of g) name (entry_at x h t n)) k e)

module _ {f form : Form} (k : f ≡ form) (h t key id : List ℕ) where
  pub finds_entry : {x : Option ℕ} → x ≡ first_under f h t key id → {r : VcfhUnder} → r ≡ entry_as x → r ≡ entry_as (first_under form h t key id)
  finds_entry a b = b ∙ ap entry_as (a ∙ ap (λ (x : Form). first_under x h t key id) k)

  module _ (major minor : ℕ) {v : FileFormat} (e : v ≡ record { major = major; minor = minor }) (name : Bytes) {s : Option Text} (a : s ≡ text_under f h t (version_of v) name (first_under f h t key id)) where
    looked : s ≡ text_under form h t (version major minor) name (first_under form h t key id)
    looked = a ∙ ap₂ (λ (x : Form) (g : FileFormat). text_under x h t (version_of g) name (first_under x h t key id)) k e

    pub finds_value : {r : VcfhValue} → r ≡ value_as s → r ≡ value_as (text_under form h t (version major minor) name (first_under form h t key id))
    finds_value b = b ∙ ap value_as looked

    module _ (out : Bytes) where
      pub text_nowhere : s ≡ None → {n : ℕ} → n ≡ number refusal.InvalidEntry
          → record { number = n; length = 0 } ≡ text_answer (length out) (meant h (text_under form h t (version major minor) name (first_under form h t key id)))
      text_nowhere b c = rw c (ap (λ (x : Option Text). text_answer (length out) (meant h x)) (sym b ∙ looked))

      pub out_stays : s ≡ None → out ≡ text_written out (meant h (text_under form h t (version major minor) name (first_under form h t key id)))
      out_stays b = ap (λ (x : Option Text). text_written out (meant h x)) (sym b ∙ looked)

      module _ (x : Text) (b : s ≡ Some x) {p : Bytes} (c : p ≡ take (x.end - x.start) (drop x.start h)) where
        text_is : Some (meaning x.quoted p) ≡ meant h (text_under form h t (version major minor) name (first_under form h t key id))
        text_is = ap (λ (y : Bytes). Some (meaning x.quoted y)) c ∙ ap (meant h) (sym b ∙ looked)

        pub text_told : {w : Option ℕ} → w ≡ written_as (length out) (meaning x.quoted p) → {r : VcfhMeaning} → r ≡ meaning_as w
            → r ≡ text_answer (length out) (meant h (text_under form h t (version major minor) name (first_under form h t key id)))
        text_told d g = g ∙ ap meaning_as d ∙ ap (text_answer (length out)) text_is

        pub text_put : {left : Bytes} → left ≡ sets out 0 (fitting (length out) (meaning x.quoted p))
            → left ≡ text_written out (meant h (text_under form h t (version major minor) name (first_under form h t key id)))
        text_put d = d ∙ ap (text_written out) text_is

pub ruleset calls = (text_ordered, describes, shows_parts, shows_value, finds_entry, finds_value, text_nowhere, out_stays, text_told, text_put)

-- Meanings

module _ (text : Bytes) (quoted : ℕ) (out : Bytes) where
  pub meaning_told : {w : Option ℕ} → w ≡ written_as (length out) (meaning (is_set quoted) text) → {r : VcfhMeaning} → r ≡ meaning_as w
      → r ≡ meaning_as (written_as (length out) (meaning (is_set quoted) text))
  meaning_told a b = b ∙ ap meaning_as a

pub meaning_same : (text : Bytes) (quoted : ℕ) (other : Bytes) {q : Bool} → q ≡ same (meaning (is_set quoted) text) other → {r : ℕ} → r ≡ flag q → r ≡ flag (same (meaning (is_set quoted) text) other)
meaning_same text quoted other a b = b ∙ ap flag a

pub ruleset meanings = (meaning_told, meaning_same)
