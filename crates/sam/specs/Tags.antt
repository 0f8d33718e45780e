-- Document 02, §14: the `@SQ` lines of a SAM header and their tags. Assumes nothing.
use Rattle.std.specs.Prelude.{ℕ, Bool, true, false, not, ◌||◌, ◌&&◌, List, [], ◌∷◌, leb, take, drop, Option, None, Some}
use Rattle.values.specs.Bytes.{Bytes, ascii, is, same}
use Rattle.values.specs.Integer.{is_digit}
use Rattle.rules.specs.Map.{is_some}
use Rattle.rules.specs.Columns.{split, after_columns}

-- `:`
abbrev pub COLON : ℕ
COLON = 58

-- what follows `@SQ`, tab-parted, in a line whose first part is exactly this; none of any other line
unfoldable pub tags_of : Bytes → Option (List Bytes)
tags_of l = after_columns (ascii "@SQ" ∷ []) (split l)

-- `A` to `Z`, `a` to `z`
unfoldable pub is_letter : ℕ → Bool
is_letter b = (leb 65 b && leb b 90) || (leb 97 b && leb b 122)

unfoldable pub is_letter_or_digit : ℕ → Bool
is_letter_or_digit b = is_letter b || is_digit b

-- a letter, a letter or digit, `:` and one byte or more
unfoldable pub is_tag : Bytes → Bool
is_tag [] = false
is_tag (a ∷ []) = false
is_tag (a ∷ b ∷ []) = false
is_tag (a ∷ b ∷ c ∷ []) = false
is_tag (a ∷ b ∷ c ∷ d ∷ v) = is_letter a && (is_letter_or_digit b && is COLON c)

abbrev pub tag_name : Bytes → Bytes
tag_name t = take 2 t

abbrev pub tag_value : Bytes → Bytes
tag_value t = drop 3 t

-- the value of the first tag of this name
unfoldable pub tagged : Bytes → List Bytes → Option Bytes
tagged name [] = None
tagged name (t ∷ ts) = elim (same (tag_name t) name) [ true ↦ Some (tag_value t) | false ↦ tagged name ts ]

-- each is a tag, and none after it has its name
unfoldable pub are_tags : List Bytes → Bool
are_tags [] = true
are_tags (t ∷ ts) = is_tag t && (not (is_some (tagged (tag_name t) ts)) && are_tags ts)
