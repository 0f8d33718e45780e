-- The known field that a tag stands for. Assumes nothing.
use Rattle.std.specs.Prelude.{Bool, false, not, List, [], ◌∷◌, eqb, Option, None, Some}
use Rattle.values.specs.Bytes.{Bytes}
use Rattle.rules.specs.Known.{Kind, KnownField, id_field, number_field, type_field, description_field, length_field, md5_field, url_field, idx_field, rows}
use Rattle.records.specs.declared.tag.Tag.{Tag}
use Rattle.records.specs.declared.tag.Tag.TheVariants.{Id, Number, ValueType, Description, Length, Md5, Url, Idx, Other}

abbrev pub tag_row : Tag → Option KnownField
tag_row Id = Some id_field
tag_row Number = Some number_field
tag_row ValueType = Some type_field
tag_row Description = Some description_field
tag_row Length = Some length_field
tag_row Md5 = Some md5_field
tag_row Url = Some url_field
tag_row Idx = Some idx_field
tag_row Other = None

abbrev pub name_in : Option KnownField → Bytes
name_in None = []
name_in (Some r) = r.name

abbrev pub tag_name : Tag → Bytes
tag_name t = name_in (tag_row t)

abbrev pub is_required : Option KnownField → Bool
is_required None = false
is_required (Some r) = not (eqb r.missing 0)

-- the required fields are kept while a map is read
abbrev pub is_kept : Tag → Bool
is_kept t = is_required (tag_row t)

abbrev pub past_first : List KnownField → List KnownField
past_first [] = []
past_first (r ∷ rs) = rs

-- the known fields after the ID
abbrev pub after_id : Kind → List KnownField
after_id kind = past_first (rows kind)
