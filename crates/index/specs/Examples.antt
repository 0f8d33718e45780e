-- Document 02, §7: indexes that are built and searched, computed by the checker. Assumes nothing.
use Rattle.std.specs.Prelude.{ℕ, ◌≡◌, refl, List, [], ◌∷◌, ◌++◌, map, length, replicate, Some, None}
use Rattle.values.specs.Bytes.{Bytes, ascii}
use Rattle.values.specs.Examples as values
use Rattle.rules.specs.Shown.{says_no_id, counts_in_place, well_formed, id_in}
use Rattle.entries.specs.declared.form.Form.TheVariants.{First}
use Rattle.entries.specs.Words.{unpacked, is_clear}
use Rattle.entries.specs.Tables.{room, words_at, entry_in, words_clear, entry_at}
use Rattle.index.specs.Index.{first_place, in_turn, is_named, searched, walk, find_in, fill, placed, entry_placed, all_placed, indexed_from, indexed_in, all_fit, build_number, build_answer, built_index, first_from, first_named}
use Rattle.index.specs.declared.find.Search.{Search}

-- what the definitions need to compute
unfoldable pub opened : Unit {0}
unfolding values.opened says_no_id counts_in_place well_formed id_in unpacked is_clear room words_at entry_in words_clear entry_at first_place in_turn is_named walk find_in fill placed entry_placed all_placed indexed_from all_fit first_from
opened = tt

-- four entries to index, INFO `a`, `b` and `d` and a quoted FILTER `\"`, and a text
abbrev pub header : Bytes
header = ascii "abd\\\""

abbrev pub table : List ℕ
table =
    0x2000000001000000 ∷ 0x100000000
    ∷ 0x8000000005000000 ∷ 0
    ∷ 0x2000010001000000 ∷ 0x100000000
    ∷ 0x2000020001000000 ∷ 0x100000000
    ∷ 0x3000030002000000 ∷ 0x280000000
    ∷ []

-- the number, how many were placed, and the index after it
abbrev pub built : List ℕ → List ℕ → ℕ × (ℕ × List ℕ)
built t index =
    let a = build_answer (length index) (indexed_in First header t) in
    (build_number a.outcome, (a.placed, built_index First header t index))

builds : (
    built table (replicate 4 7)
    ∷ built table (replicate 5 7)
    ∷ built table (replicate 8 7)
    -- a place too few, and none
    ∷ built table (replicate 3 7)
    ∷ built table []
    -- the same entry twice, and no entry
    ∷ built (0x2000000001000000 ∷ 0x100000000 ∷ 0x2000000001000000 ∷ 0x100000000 ∷ []) (replicate 3 7)
    ∷ built [] (7 ∷ [])
    -- one that is not well formed, where there are too few places too
    ∷ built (table ++ 0 ∷ 0 ∷ []) (replicate 3 7)
    ∷ []) ≡ (
    (0, (4, 1 ∷ 3 ∷ 5 ∷ 4 ∷ []))
    ∷ (0, (4, 3 ∷ 4 ∷ 5 ∷ 1 ∷ 0 ∷ []))
    ∷ (0, (4, 5 ∷ 0 ∷ 0 ∷ 4 ∷ 1 ∷ 3 ∷ 0 ∷ 0 ∷ []))
    ∷ (33, (0, replicate 3 7))
    ∷ (33, (0, []))
    ∷ (0, (2, 2 ∷ 0 ∷ 1 ∷ []))
    ∷ (0, (0, 0 ∷ []))
    ∷ (29, (0, replicate 3 7))
    ∷ [])
unfolding opened
builds = refl

abbrev pub look : List ℕ → ℕ × Bytes → Search
look index q = find_in First header table index q.0 q.1

-- in the index of four places: FILTER `"` stands two places behind its first, all are looked at for INFO `x`; other kinds
searches : map (look (1 ∷ 3 ∷ 5 ∷ 4 ∷ [])) (
    (2, ascii "a")
    ∷ (2, ascii "b")
    ∷ (2, ascii "d")
    ∷ (3, ascii "\"")
    ∷ (3, ascii "\\\"")
    ∷ (2, ascii "x")
    ∷ (6, ascii "a")
    ∷ (7, ascii "a")
    ∷ (258, ascii "a")
    ∷ []) ≡ (
    searched (Some 0) 1
    ∷ searched (Some 2) 1
    ∷ searched (Some 3) 1
    ∷ searched (Some 4) 3
    ∷ searched None 4
    ∷ searched None 4
    ∷ searched None 4
    ∷ searched None 0
    ∷ searched None 0
    ∷ [])
unfolding opened
searches = refl

abbrev pub look_for : ℕ → Bytes → List ℕ → Search
look_for kind id index = find_in First header table index kind id

-- INFO `a` in forged indexes: no place; numbers past the table; one hit everywhere; the text everywhere; a 0; the largest number
forged : map (look_for 2 (ascii "a")) (
    []
    ∷ (9 ∷ 9 ∷ 9 ∷ [])
    ∷ (1 ∷ 1 ∷ 1 ∷ [])
    ∷ (2 ∷ 2 ∷ 2 ∷ 2 ∷ [])
    ∷ (0 ∷ 5 ∷ [])
    ∷ (4294967295 ∷ 0 ∷ [])
    ∷ (4 ∷ 1 ∷ 3 ∷ [])
    ∷ []) ≡ (
    searched None 0
    ∷ searched None 3
    ∷ searched (Some 0) 1
    ∷ searched None 4
    ∷ searched None 1
    ∷ searched None 2
    ∷ searched (Some 0) 3
    ∷ [])
unfolding opened
forged = refl

-- the first entry of a table with a kind and an ID
firsts : map (λ (q : ℕ × Bytes). first_named First header table q.0 q.1) ((2, ascii "d") ∷ (3, ascii "\"") ∷ (3, ascii "d") ∷ []) ≡ (Some 3 ∷ Some 4 ∷ None ∷ [])
unfolding opened
firsts = refl
