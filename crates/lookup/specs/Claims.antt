-- What the calls by name show of an accepted header's record. Assumes nothing.
use Rattle.std.specs.Prelude.{◌+◌, ◌≡◌, Option, None, Some}
use Rattle.values.specs.Bytes.{Bytes, part}
use Rattle.values.specs.Value.{is_quoted, text_of}
use Rattle.values.specs.Field.{Field}
use Rattle.lookup.specs.declared.field.FieldParts.{FieldParts}
use Rattle.values.specs.declared.string.Text.{Text}

-- a field's key and the text of its value stand where the parts say, and quotes are told
pub record FieldTold (h : Bytes) (f : Field) (p : FieldParts) : Type 0 where
  pub key : part h p.key_start (p.key_start + p.key_length) ≡ f.key
  pub quoted : p.quoted ≡ is_quoted f.value
  pub text : part h p.start (p.start + p.length) ≡ text_of f.value

-- a field that there may be, and what is shown of it
abbrev pub ShownAs : Bytes → Option Field → Option FieldParts → Type 0
ShownAs h None None = Unit {0}
ShownAs h None (Some p) = ⊥
ShownAs h (Some f) None = ⊥
ShownAs h (Some f) (Some p) = FieldTold h f p

abbrev pub FoundAs : Bytes → Option Field → Option Text → Type 0
FoundAs h None None = Unit {0}
FoundAs h None (Some t) = ⊥
FoundAs h (Some f) None = ⊥
FoundAs h (Some f) (Some t) = (t.quoted ≡ is_quoted f.value) × (part h t.start t.end ≡ text_of f.value)
