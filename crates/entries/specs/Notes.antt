-- Numbers of 24 bits that stand for a while in the lowest 12 bits of an entry's first two words, which no number of an entry has. Assumes nothing.
use Rattle.std.specs.Prelude.{ℕ, ◌+◌, ◌*◌, ◌/◌, ◌%◌, true, false, List, map, ltb, get_or, set}
use Rattle.entries.specs.declared.form.Form.{Form}
use Rattle.entries.specs.Words.{word_count}
use Rattle.entries.specs.Tables.{room}

-- a word with the lowest 12 bits of x in place of its own
abbrev pub with_note : ℕ → ℕ → ℕ
with_note w x = w / 4096 * 4096 + x % 4096

-- with none of them
abbrev pub bare_word : ℕ → ℕ
bare_word w = w / 4096 * 4096

-- a table without notes
unfoldable pub bare : List ℕ → List ℕ
bare t = map bare_word t

-- an entry's first two words in a table
abbrev pub one_at : Form → List ℕ → ℕ → ℕ
one_at form t n = get_or t (word_count form * n) 0

abbrev pub two_at : Form → List ℕ → ℕ → ℕ
two_at form t n = get_or t (word_count form * n + 1) 0

-- the note of entry n; 0 past the table
unfoldable pub note_at : Form → List ℕ → ℕ → ℕ
note_at form t n = elim (ltb n (room form t)) [ true ↦ one_at form t n % 4096 * 4096 + two_at form t n % 4096 | false ↦ 0 ]

-- the table with what 24 bits hold of x as the note of entry n, if there is such an entry
unfoldable pub noted : Form → List ℕ → ℕ → ℕ → List ℕ
noted form t n x =
    elim (ltb n (room form t)) [
      | true ↦ set (set t (word_count form * n) (with_note (one_at form t n) (x / 4096))) (word_count form * n + 1) (with_note (two_at form t n) x)
      | false ↦ t
    ]
