-- UTF-8 by RFC 3629, section 4: a text is a run of characters, and a character is a first byte with the bytes that must follow it, each
-- within a range. Assumes nothing.
use Rattle.std.specs.Prelude.{ℕ, Bool, true, false, ◌&&◌, List, [], ◌∷◌, leb, ltb, Option, None, Some}
use Rattle.values.specs.Bytes.{Bytes}

-- the bytes from low to high
pub record Range : Type 0 where
  pub low : ℕ
  pub high : ℕ

abbrev pub up_to : ℕ → ℕ → Range
up_to a b = record { low = a; high = b }

abbrev pub within : Range → ℕ → Bool
within r b = leb r.low b && leb b r.high

-- UTF8-tail
abbrev pub tail : Range
tail = up_to 0x80 0xBF

-- a first byte's range, and those of the bytes that follow it
pub record Character : Type 0 where
  pub first : Range
  pub follow : List Range

abbrev pub character : Range → List Range → Character
character r rs = record { first = r; follow = rs }

-- UTF8-1 to UTF8-4
abbrev pub characters : List Character
characters =
    character (up_to 0x00 0x7F) []
    ∷ character (up_to 0xC2 0xDF) (tail ∷ [])
    ∷ character (up_to 0xE0 0xE0) (up_to 0xA0 0xBF ∷ tail ∷ [])
    ∷ character (up_to 0xE1 0xEC) (tail ∷ tail ∷ [])
    ∷ character (up_to 0xED 0xED) (up_to 0x80 0x9F ∷ tail ∷ [])
    ∷ character (up_to 0xEE 0xEF) (tail ∷ tail ∷ [])
    ∷ character (up_to 0xF0 0xF0) (up_to 0x90 0xBF ∷ tail ∷ tail ∷ [])
    ∷ character (up_to 0xF1 0xF3) (tail ∷ tail ∷ tail ∷ [])
    ∷ character (up_to 0xF4 0xF4) (up_to 0x80 0x8F ∷ tail ∷ tail ∷ [])
    ∷ []

-- what follows the first byte b by the rows; nothing, where no character begins with b
abbrev pub look : List Character → ℕ → Option (List Range)
look [] b = None
look (r ∷ rs) b = elim (within r.first b) [ true ↦ Some r.follow | false ↦ look rs b ]

unfoldable pub followers : ℕ → Option (List Range)
followers b = look characters b

-- the bytes complete a text of which the ranges due are still to be met
unfoldable pub completes : List Range → Bytes → Bool
completes [] [] = true
completes (r ∷ due) [] = false
completes [] (b ∷ bs) = elim (followers b) [ None ↦ false | Some due ↦ completes due bs ]
completes (r ∷ due) (b ∷ bs) = elim (within r b) [ true ↦ completes due bs | false ↦ false ]

abbrev pub is_utf8 : Bytes → Bool
is_utf8 bs = completes [] bs

-- no byte is above 127
unfoldable pub is_ascii : Bytes → Bool
is_ascii [] = true
is_ascii (b ∷ bs) = ltb b 0x80 && is_ascii bs
