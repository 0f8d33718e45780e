-- Document 02, §5 and §10: entries turned there and back, computed by the checker. Assumes nothing.
use Rattle.std.specs.Prelude.{ℕ, ◌≡◌, refl, List, [], ◌∷◌, ◌++◌, take}
use Rattle.rules.specs.Version.{version}
use Rattle.rules.specs.Examples.{opened, cell}
use Rattle.rules.specs.Entry.{counts_of}
use Rattle.rules.specs.Shown.{says_no_id, counts_in_place, well_formed, line_in, read_alone}
use Rattle.entries.specs.Words.{word_one, word_two, word_three, unpacked, is_clear}
use Rattle.entries.specs.Tables.{room, words, stored, words_at, entry_in, words_clear, entry_at}
use Rattle.turning.specs.Turning.{turn_number, Way, to_first, to_second, turn_answer, turn_table, raised, turned_from, all_fit}

-- the 83 bytes' entries, in each form
abbrev pub first : List ℕ
first = 0x1000000014000000 ∷ 0 ∷ 0x7000150016000000 ∷ 0x000B000300000000 ∷ 0x90002C0026000000 ∷ 0 ∷ []

abbrev pub second : List ℕ
second =
    0x1000000000014000 ∷ 0 ∷ 0x00000A0000000000
    ∷ 0x7000015000016000 ∷ 0x00000B0000030000 ∷ 0x0000040000020000
    ∷ 0x900002C000026000 ∷ 0 ∷ 0
    ∷ []

-- a table of ten words, all 7
abbrev pub sevens : List ℕ
sevens = 7 ∷ 7 ∷ 7 ∷ 7 ∷ 7 ∷ 7 ∷ 7 ∷ 7 ∷ 7 ∷ 7 ∷ []

abbrev pub to_second_lem : Way
to_second_lem = to_second (version 4 3)

-- the number, how many entries, and the table after it
abbrev pub turned : Way → List ℕ → List ℕ → ℕ × (ℕ × List ℕ)
turned w s t = (turn_number (turn_answer w cell s t).outcome, ((turn_answer w cell s t).entries, turn_table w cell s t))

abbrev pub asked : List (ℕ × (ℕ × List ℕ))
asked =
    turned to_second_lem first sevens
    ∷ turned to_first second sevens
    -- words left over, in either table
    ∷ turned to_second_lem (first ++ 9 ∷ []) sevens
    -- no entries
    ∷ turned to_second_lem (9 ∷ []) []
    -- one that is not well formed
    ∷ turned to_second_lem (0x1000000014000001 ∷ 0 ∷ []) sevens
    -- a line that is no record: the map without its first byte
    ∷ turned to_second_lem (0x7000160015000000 ∷ 0x000A000300000000 ∷ []) sevens
    -- a record of another kind than the entry says
    ∷ turned to_second_lem (0x6000150016000000 ∷ 0x000B000300000000 ∷ []) sevens
    -- a table one word short
    ∷ turned to_second_lem first (take 8 sevens)
    ∷ turned to_first second (take 5 sevens)
    ∷ []

turned_cases : asked ≡ (
    (0, (3, second ++ 7 ∷ []))
    ∷ (0, (3, first ++ 7 ∷ 7 ∷ 7 ∷ 7 ∷ []))
    ∷ (0, (3, second ++ 7 ∷ []))
    ∷ (0, (0, []))
    ∷ (29, (0, sevens))
    ∷ (29, (0, sevens))
    ∷ (29, (0, sevens))
    ∷ (24, (0, take 8 sevens))
    ∷ (24, (0, take 5 sevens))
    ∷ []
    )
unfolding opened room words word_one word_two word_three stored unpacked is_clear words_at entry_in words_clear entry_at says_no_id counts_in_place well_formed line_in read_alone counts_of raised turned_from all_fit
turned_cases = refl
