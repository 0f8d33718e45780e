-- What a header says under a name, as structs of numbers. Assumes nothing.
use Rattle.std.specs.Prelude.{ℕ, ◌-◌, ◌≤◌, Bool, not, eqb, length, Option, None, Some}
use Rattle.std.proofs.lemmas.List.Edits.{sets}
use Rattle.values.specs.Bytes.{Bytes, part}
use Rattle.values.specs.Value.{meaning}
use Rattle.lookup.specs.Meanings.{fitting, written_as}
use Rattle.lookup.specs.declared.entry.Described.{Described}
use Rattle.capi.specs.Answers.{flag}
use Rattle.capi.specs.declared.lookups.VcfhDescribed.{VcfhDescribed}
use Rattle.capi.specs.declared.lookups.VcfhField.{VcfhField}
use Rattle.capi.specs.declared.lookups.VcfhValue.{VcfhValue}
use Rattle.capi.specs.declared.lookups.VcfhUnder.{VcfhUnder}
use Rattle.capi.specs.declared.lookups.VcfhMeaning.{VcfhMeaning}
use Rattle.values.specs.declared.string.Text.{Text}
use Rattle.lookup.specs.declared.field.FieldParts.{FieldParts}

-- any number but 0
abbrev pub is_set : ℕ → Bool
is_set n = not (eqb n 0)

-- i: whether there is an ID; q: whether that stands between quotes
abbrev pub described : Described → ℕ → ℕ → VcfhDescribed
described e i q = record {
  number = 0;
  kind = e.kind;
  start = e.start;
  length = e.length;
  key_start = e.key_start;
  key_length = e.key_length;
  has_id = i;
  id_start = e.id_start;
  id_length = e.id_length;
  quoted = q;
}

abbrev pub undescribed : ℕ → VcfhDescribed
undescribed n = record {
  number = n;
  kind = 0;
  start = 0;
  length = 0;
  key_start = 0;
  key_length = 0;
  has_id = 0;
  id_start = 0;
  id_length = 0;
  quoted = 0;
}

-- nothing to show is refusal 29
abbrev pub described_as : Option Described → VcfhDescribed
described_as (Some e) = described e (flag e.has_id) (flag e.quoted)
described_as None = undescribed 29

abbrev pub field_as : Option FieldParts → VcfhField
field_as (Some f) = record { number = 0; key_start = f.key_start; key_length = f.key_length; start = f.start; length = f.length; quoted = flag f.quoted }
field_as None = record { number = 29; key_start = 0; key_length = 0; start = 0; length = 0; quoted = 0 }

abbrev pub value_as : Option Text → VcfhValue
value_as (Some t) = record { number = 0; start = t.start; length = t.end - t.start; quoted = flag t.quoted }
value_as None = record { number = 29; start = 0; length = 0; quoted = 0 }

abbrev pub TextOrdered : Option Text → Type 0
TextOrdered (Some t) = t.start ≤ t.end
TextOrdered None = Unit {0}

abbrev pub entry_as : Option ℕ → VcfhUnder
entry_as (Some n) = record { number = 0; entry = n }
entry_as None = record { number = 29; entry = 0 }

-- too small an output is refusal 28
abbrev pub meaning_as : Option ℕ → VcfhMeaning
meaning_as (Some n) = record { number = 0; length = n }
meaning_as None = record { number = 28; length = 0 }

-- what a value that was looked for means
abbrev pub meant : Bytes → Option Text → Option Bytes
meant h (Some t) = Some (meaning t.quoted (part h t.start t.end))
meant h None = None

abbrev pub text_answer : ℕ → Option Bytes → VcfhMeaning
text_answer room None = record { number = 29; length = 0 }
text_answer room (Some t) = meaning_as (written_as room t)

abbrev pub text_written : Bytes → Option Bytes → Bytes
text_written out None = out
text_written out (Some t) = sets out 0 (fitting (length out) t)
