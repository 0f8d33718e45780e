-- INFO and FORMAT maps, whose ID, Number, Type and Description are required; and the closed facts of the other kinds. Assumes nothing.
use Prim.Native.Nat.{ℕ, ◌+◌}
use mathlib.Core.Path.{◌≡◌, refl, sym, ap, subst, ◌∙◌}
use mathlib.Core.List.{[], ◌∷◌, map}
use Rattle.std.specs.Prelude.{Option, None, Some, Result, Ok, Err}
use Rattle.values.specs.Bytes.{Bytes, ascii, same, part}
use Rattle.values.specs.Integer.{u64_read}
use Rattle.values.specs.Value.{text_of}
use Rattle.values.specs.Field.{Field}
use Rattle.values.specs.declared.cursor.Cursor.{Cursor}
use Rattle.values.specs.declared.string.Text.{Text}
use Rattle.values.proofs.Tests.{never}
use Rattle.values.proofs.Lists.{OnSome}
use Rattle.values.proofs.Places.{text_by}
use Rattle.rules.specs.Answer.{first}
use Rattle.rules.specs.Version.{Version}
use Rattle.rules.specs.Known.{kind_of, number_field, type_field, description_field, row_named, name_of}
use Rattle.rules.specs.Map.{is_some, field_named, meaning_of_field, value_named, missing}
use Rattle.rules.specs.Entry.{text_named}
use Rattle.rules.proofs.Checks.{on_named}
use Rattle.rules.proofs.Shows.{Both, named_text, value_means}
use Rattle.records.specs.Keys.{case_bytes}
use Rattle.records.specs.Tags.{tag_name}
use Rattle.records.specs.Fields.{text_in, meaning_in}
use Rattle.records.specs.Maps.{typed_of, get, slotted, OpenIs, OpensMap, Full, ParsesTyped, Identified, Described}
use Rattle.records.specs.declared.map.Tally.{Tally}
use Rattle.records.specs.declared.key.MapKey.{MapKey}
use Rattle.records.specs.declared.key.MapKey.TheVariants as key
use Rattle.records.specs.declared.refusal.Refusal.{Refusal}
use Rattle.records.specs.declared.refusal.Refusal.TheVariants.{MissingId, MissingNumber, MissingType, MissingDescription}
use Rattle.records.specs.declared.tag.Tag.{Tag}
use Rattle.records.specs.declared.tag.Tag.TheVariants.{Id, Number, ValueType, Description}
use Rattle.records.specs.declared.map.Slots.{Slots}
use Rattle.records.proofs.Determined.{filled_one}
use Rattle.records.proofs.Required.{RawField, asks, asked_first, asked_later, Fielded, fielded, Keeps, keeps_id, holds, has, lacks, whole, asks_of}

-- The texts that are kept are those of the values

module _ (s : Bytes) (x : Text) (g : ℕ) where
  pub text_means : (a : Option Field) (b : Option (Bytes × Text)) → Both s a b → slotted b ≡ Some (x, g) → meaning_of_field a ≡ meaning_in s x
  text_means None None u e = never cc
  text_means None (Some p) u e = absurd u
  text_means (Some f) None u e = absurd u
  text_means (Some f) (Some p) u e = sym (value_means s p.1 f.value u.value) ∙ ap (meaning_in s) (filled_one e).0

  text_raw : (P : Field → Type 0) (a : Option Field) (b : Option (Bytes × Text)) → Both s a b → OnSome (λ f. RawField f × P f) a → slotted b ≡ Some (x, g) → u64_read (meaning_of_field a) ≡ u64_read (text_in s x)
  text_raw P None None u h e = never cc
  text_raw P None (Some p) u h e = absurd u
  text_raw P (Some f) None u h e = absurd u
  text_raw P (Some f) (Some p) u h e =
      h.0 ∙ ap u64_read (ap text_of (sym u.value) ∙ text_by p.1.quoted (part s p.1.start p.1.end) ∙ ap (text_in s) (filled_one e).0)

module _ {v : Version} {k s : Bytes} {at : ℕ} {slots : Slots} {tally : Tally} (f : Fielded v k s at slots tally) (t : Tag) (a : Keeps k t) {x : Text} {g : ℕ} (e : get t slots ≡ Some (x, g)) where
  value_is : value_named v k (tag_name t) f.fs ≡ meaning_in s x
  value_is = text_means s x g (field_named v k (tag_name t) f.fs) (text_named v k (tag_name t) (at + 1) f.fs) (named_text v k (tag_name t) s (at + 1) f.fs f.stand) (holds f t a e)

  value_raw : u64_read (value_named v k (tag_name t) f.fs) ≡ u64_read (text_in s x)
  value_raw = text_raw s x g (λ f. name_of v k f.key ≡ tag_name t) (field_named v k (tag_name t) f.fs) (text_named v k (tag_name t) (at + 1) f.fs) (named_text v k (tag_name t) s (at + 1) f.fs f.stand)
      (on_named RawField v k (tag_name t) f.fs f.raw) (holds f t a e)

-- The four required fields

pub full_info : Full key.Info
unfolding kind_of row_named same
full_info = record { needs = refl; numbered = refl; typed = refl; described = refl }

pub full_format : Full key.Format
unfolding kind_of row_named same
full_format = record { needs = refl; numbered = refl; typed = refl; described = refl }

module _ (v : Version) (key : MapKey) (s : Bytes) (c : Cursor) {r : Result (Slots × Tally) Refusal} (o : OpensMap v key s c.at r) where
  pub typed_refused : {x : Refusal} → r ≡ Err x → Full key → ParsesTyped v key s c.at (Err x)
  typed_refused e full = record { is = subst (OpenIs v (case_bytes key) s c.at) e o.is }

  module _ {slots : Slots} {tally : Tally} (e : r ≡ Ok (slots, tally)) where
    abbrev f : Fielded v (case_bytes key) s c.at slots tally
    f = fielded v (case_bytes key) s c.at slots tally (subst (OpenIs v (case_bytes key) s c.at) e o.is)

    pub no_id : slots.id ≡ None → Full key → ParsesTyped v key s c.at (Err MissingId)
    no_id i full = record { is = lacks f (asks_of f full.needs ∙ asked_first (is_some (field_named v (case_bytes key) (ascii "ID") f.fs)) 13 _ (has f Id (keeps_id (case_bytes key)) i)) }

    module _ {id : Text} {g : ℕ} (i : slots.id ≡ Some (id, g)) where
      past_id : Full key → missing v (case_bytes key) f.fs ≡ first (map (asks v (case_bytes key) f.fs) (number_field ∷ type_field ∷ description_field ∷ []))
      past_id full = asks_of f full.needs ∙ asked_later (is_some (field_named v (case_bytes key) (ascii "ID") f.fs)) 14 _ (has f Id (keeps_id (case_bytes key)) i)

      pub no_number : slots.number ≡ None → Full key → ParsesTyped v key s c.at (Err MissingNumber)
      no_number n full = record { is = lacks f (past_id full ∙ asked_first (is_some (field_named v (case_bytes key) (ascii "Number") f.fs)) 14 _ (has f Number (refl, full.numbered) n)) }

      module _ {nr : Text} {h : ℕ} (n : slots.number ≡ Some (nr, h)) where
        past_number : Full key → missing v (case_bytes key) f.fs ≡ first (map (asks v (case_bytes key) f.fs) (type_field ∷ description_field ∷ []))
        past_number full = past_id full ∙ asked_later (is_some (field_named v (case_bytes key) (ascii "Number") f.fs)) 15 _ (has f Number (refl, full.numbered) n)

        pub no_type : slots.kind ≡ None → Full key → ParsesTyped v key s c.at (Err MissingType)
        no_type t full = record { is = lacks f (past_number full ∙ asked_first (is_some (field_named v (case_bytes key) (ascii "Type") f.fs)) 15 _ (has f ValueType (refl, full.typed) t)) }

        module _ {ty : Text} {j : ℕ} (t : slots.kind ≡ Some (ty, j)) where
          past_type : Full key → missing v (case_bytes key) f.fs ≡ first (map (asks v (case_bytes key) f.fs) (description_field ∷ []))
          past_type full = past_number full ∙ asked_later (is_some (field_named v (case_bytes key) (ascii "Type") f.fs)) 16 _ (has f ValueType (refl, full.typed) t)

          pub no_description : slots.description ≡ None → Full key → ParsesTyped v key s c.at (Err MissingDescription)
          no_description d full = record { is = lacks f (past_type full ∙ asked_first (is_some (field_named v (case_bytes key) (ascii "Description") f.fs)) 16 _ (has f Description (refl, full.described) d)) }

          pub all_given : {de : Text} {l : ℕ} → slots.description ≡ Some (de, l) → {r : Result (Text × ℕ × Text × Text × Tally) Refusal} → r ≡ typed_of id g nr ty tally → Full key → ParsesTyped v key s c.at r
          unfolding first
          all_given d e full = rw e (record {
            is = record {
              fs = f.fs;
              read = whole f (past_type full ∙ asked_later (is_some (field_named v (case_bytes key) (ascii "Description") f.fs)) 17 [] (has f Description (refl, full.described) d));
              named = holds f Id (keeps_id (case_bytes key)) i;
              id_is = value_is f Id (keeps_id (case_bytes key)) i;
              number_is = value_is f Number (refl, full.numbered) n;
              kind_is = value_is f ValueType (refl, full.typed) t;
              raw = value_raw f Number (refl, full.numbered) n;
              tallied = f.tallied;
            };
          })

pub ruleset all_typed = (typed_refused, no_id, no_number, no_type, no_description, all_given)

-- The kinds without reserved IDs

pub identified_contig : Identified key.Contig
unfolding kind_of same
identified_contig = record { needs = refl; free = refl }

pub identified_meta : Identified key.Meta
unfolding kind_of same
identified_meta = record { needs = refl; free = refl }

pub identified_pedigree : Identified key.Pedigree
unfolding kind_of same
identified_pedigree = record { needs = refl; free = refl }

pub identified_other : Identified key.Other
unfolding kind_of same
identified_other = record { needs = refl; free = refl }

pub described_filter : Described key.Filter
unfolding kind_of row_named same
described_filter = record { needs = refl; free = refl; known = refl }

pub described_alternative_allele : Described key.AlternativeAllele
unfolding kind_of row_named same
described_alternative_allele = record { needs = refl; free = refl; known = refl }
