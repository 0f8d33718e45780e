-- Document 02, §8: headers in pieces, computed by the checker. Assumes nothing.
use Rattle.std.specs.Prelude.{ℕ, ◌≡◌, refl, List, [], ◌∷◌, ◌++◌, take, drop, replicate, None}
use Rattle.values.specs.Bytes.{Bytes}
use Rattle.rules.specs.Examples.{opened, cell}
use Rattle.rules.specs.Shown.{says_no_id, counts_in_place, well_formed, line_in, id_in}
use Rattle.entries.specs.declared.form.Form.TheVariants.{First}
use Rattle.entries.specs.Words.{word_one, word_two, word_three, unpacked, is_clear}
use Rattle.entries.specs.Tables.{room, words, stored, first_entries, words_at, entry_in, entries_from, entries_in, words_clear, entry_at, all_formed}
use Rattle.ids.specs.Clashes.{has_key, key_seen, is_of_key, is_of_id, id_seen, clash_by}
use Rattle.header.specs.Steps.{step_on, go_on, fits, read_on, table_on}
use Rattle.lines.specs.Lines.{end_of}
use Rattle.feed.specs.Feeding.{Fed, start_of, is_sound, has_room, piece_fed, feed_of, close_of, feed_all}

-- the 83 bytes' entries in a table of eight words
abbrev pub kept : List ℕ
kept = 0x1000000014000000 ∷ 0 ∷ 0x7000150016000000 ∷ 0x000B000300000000 ∷ 0x90002C0026000000 ∷ 0 ∷ 7 ∷ 7 ∷ []

abbrev pub sevens : ℕ → List ℕ
sevens n = replicate n 7

-- number, line, start, entries, and the table
abbrev pub shown : Fed → (ℕ × (ℕ × (ℕ × ℕ))) × List ℕ
shown x = ((x.answer.number, (x.answer.line, (x.answer.start, x.answer.entries))), x.table)

-- pieces into a buffer of 90 bytes and a table of eight words, and the end
abbrev pub sent : List Bytes → (ℕ × (ℕ × (ℕ × ℕ))) × List ℕ
sent xs = shown (feed_all First (start_of None) xs (sevens 90) (sevens 8))

accepted : (ℕ × (ℕ × (ℕ × ℕ))) × List ℕ
accepted = ((0, (3, (83, 3))), kept)

-- whole, in three pieces with an empty one, with the LF of the first line in a piece of its own
whole_cases : (sent (cell ∷ []) ∷ sent (take 30 cell ∷ [] ∷ drop 30 cell ∷ []) ∷ sent (take 20 cell ∷ take 1 (drop 20 cell) ∷ drop 21 cell ∷ []) ∷ []) ≡ (accepted ∷ accepted ∷ accepted ∷ [])
unfolding opened room words stored first_entries words_at entry_in entries_from entries_in words_clear entry_at word_one word_two word_three unpacked is_clear says_no_id counts_in_place well_formed line_in id_in has_key key_seen is_of_key is_of_id id_seen clash_by step_on go_on fits read_on table_on all_formed is_sound has_room end_of piece_fed feed_of close_of feed_all accepted
whole_cases = refl

-- no line at all; no column line; a piece that does not fit, of which nothing is taken, and which a further piece does not undo
refused_cases : (sent [] ∷ sent (take 44 cell ∷ []) ∷ sent (take 44 cell ∷ replicate 47 35 ∷ drop 44 cell ∷ []) ∷ [])
    ≡ (((25, (0, (0, 0))), sevens 8) ∷ ((26, (2, (44, 2))), take 4 kept ++ sevens 4) ∷ ((27, (0, (0, 2))), take 4 kept ++ sevens 4) ∷ [])
unfolding opened room words stored first_entries words_at entry_in entries_from entries_in words_clear entry_at word_one word_two word_three unpacked is_clear says_no_id counts_in_place well_formed line_in id_in has_key key_seen is_of_key is_of_id id_seen clash_by step_on go_on fits read_on table_on all_formed is_sound has_room end_of piece_fed feed_of close_of feed_all
refused_cases = refl
