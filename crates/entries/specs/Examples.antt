-- Document 01, "Lines on both sides": the words that the starred cases leave, and what the calls show of other words, computed by the checker; both in each form of document 02, §5. Assumes nothing.
use Rattle.std.specs.Prelude.{ℕ, ◌-◌, ◌^◌, ◌≡◌, refl, Bool, true, false, List, [], ◌∷◌, ◌++◌, map, ltb, None}
use Rattle.rules.specs.Answer.{Answer, ok, refuse}
use Rattle.rules.specs.Version.{v4_3}
use Rattle.rules.specs.Shown.{Part, says_no_id, counts_in_place, well_formed, line_in, read_alone, tells, entry_record, nth_field_part}
use Rattle.rules.specs.Sizes.{raised_limits}
use Rattle.rules.specs.Reading.{reading}
use Rattle.rules.specs.Examples.{Case, Expected, starred, opened, cell, keyed}
use Rattle.entries.specs.declared.form.Form.{Form}
use Rattle.entries.specs.declared.form.Form.TheVariants.{First, Second}
use Rattle.entries.specs.Words.{word_one, word_two, word_three, unpacked, is_clear, strays, excess}
use Rattle.entries.specs.Shown.{or_refused, key_or_refused}
use Rattle.entries.specs.Tables.{room, words, words_at, entry_in, words_clear, entry_at, shown_entry, shown_id, shown_field, shown_key}

abbrev pub words_kept : Case × Expected → List ℕ
words_kept c = words First c.1.entries

-- one look at several entries: of a map with an ID, in a header of 43 bytes and in one of 42; of an ID past its line; of a text
faults : List (ℕ × Bool)
faults =
    (strays 0x7000150016000000 0x000B000300000000, ltb (excess (2 ^ 63 - 1 - 43) 0x7000150016000000 0x000B000300000000) (2 ^ 63))
    ∷ (0, ltb (excess (2 ^ 63 - 1 - 42) 0x7000150016000000 0x000B000300000000) (2 ^ 63))
    ∷ (strays 0x7000150016000000 0x0014000320000000, ltb (excess (2 ^ 63 - 1 - 43) 0x7000150016000000 0x0014000320000000) (2 ^ 63))
    ∷ (strays 0x8000150016000001 0, ltb (excess (2 ^ 63 - 1 - 43) 0x8000150016000001 0) (2 ^ 63))
    ∷ []

faults_told : faults ≡ ((0, true) ∷ (0, false) ∷ (0x20000000, false) ∷ (1, false) ∷ [])
unfolding faults strays excess
faults_told = refl

-- the fileformat line's words
abbrev pub format_words : List ℕ
format_words = 0x1000000014000000 ∷ 0 ∷ []

-- those of the rules' tables of cases, in their order
starred_words : map words_kept starred ≡ (
    []
    ∷ format_words
    ∷ (format_words ++ 0x7000150016000000 ∷ 0x000B000300000000 ∷ 0x90002C0026000000 ∷ 0 ∷ [])
    ∷ (format_words ++ 0x700015001A000000 ∷ 0x0015000380000000 ∷ 0x9000300026000000 ∷ 0 ∷ [])
    ∷ (format_words ++ 0x6000150016000000 ∷ 0x000D000100000000 ∷ 0x90002C0026000000 ∷ 0 ∷ [])
    ∷ format_words
    ∷ format_words
    ∷ (format_words ++ 0x900015002D000000 ∷ 0 ∷ [])
    ∷ format_words
    ∷ (format_words ++ 0x700015001A000000 ∷ 0x000B000100000000 ∷ 0x9000300026000000 ∷ 0 ∷ [])
    ∷ format_words
    ∷ format_words
    ∷ format_words
    ∷ (format_words ++ 0x300015001D000000 ∷ 0x000D000100000000 ∷ [])
    ∷ []
    )
unfolding words word_one word_two
starred_words = refl

-- those of a header with an entry of every sort, in the second form
second_words : words Second (reading raised_limits None 99 keyed).entries ≡ (
    0x1000000000014000 ∷ 0 ∷ 0x00000A0000000000
    ∷ 0x700001500001C000 ∷ 0x00000B0000010000 ∷ 0x0000040000020000
    ∷ 0x8000032000005000 ∷ 0 ∷ 0x0000010000000000
    ∷ 0x3000038000021000 ∷ 0x00000D0000010000 ∷ 0x0000060000020000
    ∷ 0x700005A000012000 ∷ 0x0000080000010000 ∷ 0x0000010000030000
    ∷ 0x900006D00002F000 ∷ 0 ∷ 0
    ∷ 0xA00009B000001000 ∷ 0 ∷ 0
    ∷ []
    )
unfolding words word_one word_two word_three opened
second_words = refl

-- 29: the words of a table of one entry, and what the calls answer of the 83 bytes: the entry, its ID, its field 1 under 4.3

pub record Parts : Type 0 where
  pub entry : Answer Part
  pub id : Answer Part
  pub field : Answer Part

abbrev pub parts : Form → List ℕ → Parts
parts form t = record {
  entry = or_refused (shown_entry form cell t 0);
  id = or_refused (shown_id form cell t 0);
  field = or_refused (shown_field form cell t 0 v4_3 1);
}

abbrev pub shows : Answer Part → Answer Part → Answer Part → Parts
shows e i f = record { entry = e; id = i; field = f }

abbrev pub nothing : Parts
nothing = shows (refuse 29) (refuse 29) (refuse 29)

abbrev pub line : Answer Part
line = ok (21, 43)

abbrev pub shown : List (List ℕ × Parts)
shown =
    (0x7000150016000000 ∷ 0x000B000300000000 ∷ [], shows line (ok (32, 35)) (ok (36, 42)))
    -- no such entry
    ∷ ([], nothing)
    ∷ (0x7000150016000000 ∷ [], nothing)
    -- no such kind
    ∷ (0x0000150016000000 ∷ 0 ∷ [], nothing)
    ∷ (0xB000150016000000 ∷ 0 ∷ [], nothing)
    -- a bit that should be 0
    ∷ (0x7000150016000001 ∷ 0x000B000300000000 ∷ [], nothing)
    ∷ (0x7000150016000000 ∷ 0x000B000300000001 ∷ [], nothing)
    -- no such tag, or not of this kind
    ∷ (0x7000150016000000 ∷ 0x000B000360000000 ∷ [], nothing)
    ∷ (0x6000150016000000 ∷ 0x000B000320000000 ∷ [], nothing)
    -- a line past the header, an ID past the line
    ∷ (0x700015003F000000 ∷ 0x000B000300000000 ∷ [], nothing)
    ∷ (0x7000150016000000 ∷ 0x0014000300000000 ∷ [], nothing)
    -- an ID where the kind has none
    ∷ (0x8000150016000000 ∷ 0x000B000300000000 ∷ [], nothing)
    -- well formed, without an ID
    ∷ (0x8000150016000000 ∷ 0 ∷ [], shows line (refuse 29) (refuse 29))
    -- well formed, of another kind than its line
    ∷ (0x6000150016000000 ∷ 0x000B000300000000 ∷ [], shows line (ok (32, 35)) (refuse 29))
    ∷ []

pub refused_parts : map (λ (c : List ℕ × Parts). parts First c.0) shown ≡ map (λ (c : List ℕ × Parts). c.1) shown
unfolding opened room unpacked is_clear words_at entry_in words_clear entry_at says_no_id counts_in_place well_formed line_in read_alone tells entry_record nth_field_part
refused_parts = refl

-- the same in the second form, and the key
abbrev pub key_shown : List ℕ → Answer (Part × ℕ)
key_shown t = key_or_refused (shown_key Second cell t 0)

-- the third word of the line's entry: a key of four bytes and two fields
abbrev pub third : ℕ
third = 0x0000040000020000

abbrev pub key : Answer (Part × ℕ)
key = ok ((23, 27), 2)

abbrev pub shown_second : List (List ℕ × Parts × Answer (Part × ℕ))
shown_second =
    (0x7000015000016000 ∷ 0x00000B0000030000 ∷ third ∷ [], shows line (ok (32, 35)) (ok (36, 42)), key)
    -- no such entry
    ∷ ([], nothing, refuse 29)
    ∷ (0x7000015000016000 ∷ 0x00000B0000030000 ∷ [], nothing, refuse 29)
    -- no such kind
    ∷ (0x0000015000016000 ∷ 0 ∷ 0 ∷ [], nothing, refuse 29)
    ∷ (0xB000015000016000 ∷ 0 ∷ 0 ∷ [], nothing, refuse 29)
    -- a bit that should be 0, the highest and the lowest of each word
    ∷ (0x7000015000016800 ∷ 0x00000B0000030000 ∷ third ∷ [], nothing, refuse 29)
    ∷ (0x7000015000016001 ∷ 0x00000B0000030000 ∷ third ∷ [], nothing, refuse 29)
    ∷ (0x7000015000016000 ∷ 0x00000B0000031000 ∷ third ∷ [], nothing, refuse 29)
    ∷ (0x7000015000016000 ∷ 0x00000B0000030001 ∷ third ∷ [], nothing, refuse 29)
    ∷ (0x7000015000016000 ∷ 0x00000B0000030000 ∷ 0x0000040000028000 ∷ [], nothing, refuse 29)
    ∷ (0x7000015000016000 ∷ 0x00000B0000030000 ∷ 0x0000040000020001 ∷ [], nothing, refuse 29)
    -- no such tag, or not of this kind
    ∷ (0x7000015000016000 ∷ 0x00000B0000036000 ∷ third ∷ [], nothing, refuse 29)
    ∷ (0x6000015000016000 ∷ 0x00000B0000032000 ∷ third ∷ [], nothing, refuse 29)
    -- a line past the header, an ID past the line
    ∷ (0x700001500003F000 ∷ 0x00000B0000030000 ∷ third ∷ [], nothing, refuse 29)
    ∷ (0x7000015000016000 ∷ 0x0000140000030000 ∷ third ∷ [], nothing, refuse 29)
    -- an ID where the kind has none, and fields, and a key
    ∷ (0x8000015000016000 ∷ 0x00000B0000030000 ∷ 0 ∷ [], nothing, refuse 29)
    ∷ (0x8000015000016000 ∷ 0 ∷ third ∷ [], nothing, refuse 29)
    ∷ (0x9000015000016000 ∷ 0 ∷ 0x0000040000000000 ∷ [], nothing, refuse 29)
    -- well formed, without an ID, and without a key
    ∷ (0x8000015000016000 ∷ 0 ∷ 0x0000040000000000 ∷ [], shows line (refuse 29) (refuse 29), ok ((23, 27), 0))
    ∷ (0x9000015000016000 ∷ 0 ∷ 0 ∷ [], shows line (refuse 29) (refuse 29), refuse 29)
    -- well formed, of another kind than its line
    ∷ (0x6000015000016000 ∷ 0x00000B0000030000 ∷ third ∷ [], shows line (ok (32, 35)) (refuse 29), key)
    -- with another number of fields than its line, with another key length, and with one that is past the line
    ∷ (0x7000015000016000 ∷ 0x00000B0000030000 ∷ 0x0000040000010000 ∷ [], shows line (ok (32, 35)) (refuse 29), ok ((23, 27), 1))
    ∷ (0x7000015000016000 ∷ 0x00000B0000030000 ∷ 0x0000140000020000 ∷ [], shows line (ok (32, 35)) (refuse 29), ok ((23, 43), 2))
    ∷ (0x7000015000016000 ∷ 0x00000B0000030000 ∷ 0x0000150000020000 ∷ [], shows line (ok (32, 35)) (refuse 29), refuse 29)
    ∷ []

abbrev answers : List ℕ × Parts × Answer (Part × ℕ) → Parts × Answer (Part × ℕ)
answers c = (parts Second c.0, key_shown c.0)

abbrev expected : List ℕ × Parts × Answer (Part × ℕ) → Parts × Answer (Part × ℕ)
expected c = (c.1, c.2)

pub refused_second : map answers shown_second ≡ map expected shown_second
unfolding opened room unpacked is_clear words_at entry_in words_clear entry_at says_no_id counts_in_place well_formed line_in read_alone tells entry_record nth_field_part
refused_second = refl
