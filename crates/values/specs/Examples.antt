-- Worked examples, one table for each definition, computed by the checker. Assumes nothing.
use Rattle.std.specs.Prelude.{ℕ, ◌-◌, ◌^◌, ◌≡◌, refl, Bool, true, false, not, ◌&&◌, List, [], ◌∷◌, ◌++◌, map, length, replicate, Option, Some, None}
use Rattle.values.specs.Bytes.{Bytes, ascii, begins, any, before, from, same}
use Rattle.values.specs.Utf8.{is_utf8, is_ascii, completes, followers}
use Rattle.values.specs.Fitting.{all_fit, byte_before, part_fits, is_cut}
use Rattle.values.specs.Integer.{u32_read, u64_read, unsigned_read, without_sign, number_of, decimal, digits_of}
use Rattle.values.specs.Value.{written, quoted_text, read_values, read_value, unescaped, meaning, escape, write_value}
use Rattle.values.specs.Field.{read_key, read_field, written_field}
use Rattle.values.specs.Hash.{offset_basis, hash_byte, hashed, hash_of}
use Rattle.values.specs.Places.{cursor_at, unescaped_at, field_at}
use Rattle.values.specs.declared.string.Text.{Text}
use Rattle.values.specs.declared.cursor.Cursor.{Cursor}

-- every row's second part is what f gives of its first
abbrev pub Table : {A B : Type 0} → (A → B) → List (A × B) → Type 0
Table {A} {B} f rows = map (λ (r : A × B). f r.0) rows ≡ map (λ (r : A × B). r.1) rows

-- what the definitions need to compute
unfoldable pub opened : Unit {0}
unfolding hashed hash_of hash_byte begins any before from same completes followers is_ascii all_fit byte_before part_fits is_cut unsigned_read without_sign number_of decimal digits_of written quoted_text read_values read_value unescaped escape read_key read_field written_field unescaped_at field_at
opened = tt

-- RFC 3629, section 7; then an overlong form, a surrogate, more than 10FFFF, lone and missing tails, and a cut last character
abbrev texts : List (Bytes × Bool)
texts =
    ([], true)
    ∷ (0x41 ∷ 0xE2 ∷ 0x89 ∷ 0xA2 ∷ 0xCE ∷ 0x91 ∷ 0x2E ∷ [], true)
    ∷ (0xED ∷ 0x95 ∷ 0x9C ∷ 0xEA ∷ 0xB5 ∷ 0xAD ∷ 0xEC ∷ 0x96 ∷ 0xB4 ∷ [], true)
    ∷ (0xE6 ∷ 0x97 ∷ 0xA5 ∷ 0xE6 ∷ 0x9C ∷ 0xAC ∷ 0xE8 ∷ 0xAA ∷ 0x9E ∷ [], true)
    ∷ (0xEF ∷ 0xBB ∷ 0xBF ∷ 0xF0 ∷ 0xA3 ∷ 0x8E ∷ 0xB4 ∷ [], true)
    ∷ (0xC0 ∷ 0x80 ∷ [], false)
    ∷ (0xE0 ∷ 0x9F ∷ 0xBF ∷ [], false)
    ∷ (0xED ∷ 0xA1 ∷ 0x8C ∷ [], false)
    ∷ (0xF4 ∷ 0x90 ∷ 0x80 ∷ 0x80 ∷ [], false)
    ∷ (0xF5 ∷ 0x80 ∷ 0x80 ∷ 0x80 ∷ [], false)
    ∷ (0x80 ∷ [], false)
    ∷ (0xC3 ∷ 0x41 ∷ [], false)
    ∷ (0x41 ∷ 0xE2 ∷ 0x89 ∷ [], false)
    ∷ []

utf8_table : Table is_utf8 texts
unfolding opened
utf8_table = refl

-- and by the three bytes before each byte
fitting_table : Table (λ (s : Bytes). part_fits s 0 (length s) && not (is_cut s)) texts
unfolding opened
fitting_table = refl

ascii_table : Table is_ascii (([], true) ∷ (0x00 ∷ 0x7F ∷ [], true) ∷ (0x80 ∷ 0x41 ∷ [], false) ∷ (0x41 ∷ 0xCE ∷ 0x91 ∷ [], false) ∷ [])
unfolding opened
ascii_table = refl

-- 64 bits with a sign, leading zeros without limit, both sides of the bound, and whether it is plainly spelled
u64_table : Table u64_read (
    (ascii "5", Some (5, true))
    ∷ (ascii "+5", Some (5, false))
    ∷ (ascii "007", Some (7, false))
    ∷ (ascii "0", Some (0, true))
    ∷ (ascii "00", Some (0, false))
    ∷ (ascii "+0", Some (0, false))
    ∷ (ascii "10", Some (10, true))
    ∷ (replicate 40 48 ++ ascii "9", Some (9, false))
    ∷ (ascii "18446744073709551615", Some (2 ^ 64 - 1, true))
    ∷ (ascii "18446744073709551616", None)
    ∷ (ascii "-0", None)
    ∷ (ascii "+", None)
    ∷ (ascii "++5", None)
    ∷ (ascii " 5", None)
    ∷ (ascii "5x", None)
    ∷ ([], None)
    ∷ []
    )
unfolding opened
u64_table = refl

-- a version's part takes no sign
u32_table : Table u32_read (
    (ascii "0004", Some (4, false))
    ∷ (ascii "4294967295", Some (2 ^ 32 - 1, true))
    ∷ (ascii "4294967296", None)
    ∷ (ascii "+4", None)
    ∷ ([], None)
    ∷ []
    )
unfolding opened
u32_table = refl

decimal_table : Table decimal ((0, ascii "0") ∷ (10, ascii "10") ∷ (4096, ascii "4096") ∷ (2 ^ 64 - 1, ascii "18446744073709551615") ∷ [])
unfolding opened
decimal_table = refl

abbrev pub bare_at : ℕ → ℕ → Text
bare_at a e = record { start = a; end = e; quoted = false }

abbrev pub quoted_at : ℕ → ℕ → Text
quoted_at a e = record { start = a; end = e; quoted = true }

abbrev pub field_of : Bool → Bytes × ℕ → Option (ℕ × Text × Cursor)
field_of meta p = field_at meta p.0 p.1

-- fields of document 01's lines; places past the end, `"` alone, a backslash as the last byte and before another byte
field_table : Table (field_of false) (
    ((ascii "ID=W07,K=0.98>", 0), Some (2, bare_at 3 6, cursor_at 6))
    ∷ ((ascii "ID=W07,K=0.98>", 7), Some (8, bare_at 9 13, cursor_at 13))
    ∷ ((ascii "K=\"0.98\",ID=\"W07\">", 0), Some (1, quoted_at 3 7, cursor_at 8))
    ∷ ((ascii "a=\"x\\\"y\\\\\"z", 0), Some (1, quoted_at 3 9, cursor_at 10))
    ∷ ((ascii "a=\\,", 0), Some (1, bare_at 2 3, cursor_at 3))
    ∷ ((ascii "a=", 0), Some (1, bare_at 2 2, cursor_at 2))
    ∷ ((ascii "a=b", 0), Some (1, bare_at 2 3, cursor_at 3))
    ∷ ((ascii "Values=[a,b]>", 0), Some (6, bare_at 7 9, cursor_at 9))
    ∷ (([], 0), None)
    ∷ ((ascii "a=b", 3), None)
    ∷ ((ascii "a=b", 9), None)
    ∷ ((ascii "=b", 0), None)
    ∷ ((ascii "ab", 0), None)
    ∷ ((ascii "a,b=c", 0), None)
    ∷ ((ascii "a\"=c", 0), None)
    ∷ ((ascii "\"", 0), None)
    ∷ ((ascii "a=\"", 0), None)
    ∷ ((ascii "a=\"\\", 0), None)
    ∷ ((ascii "a=\"\\x\"", 0), None)
    ∷ []
    )
unfolding opened
field_table = refl

-- META's Values from 4.3
meta_table : Table (field_of true) (
    ((ascii "Values=[a,b]>", 0), Some (6, bare_at 7 12, cursor_at 12))
    ∷ ((ascii "Values=[a>", 0), Some (6, bare_at 7 9, cursor_at 9))
    ∷ ((ascii "Values=\"[a\",K=]>", 0), Some (6, quoted_at 8 10, cursor_at 11))
    ∷ ((ascii "Value=[a,b]>", 0), Some (5, bare_at 6 8, cursor_at 8))
    ∷ []
    )
unfolding opened
meta_table = refl

abbrev pub unescape : (Bool × Bytes) × ℕ → Option (ℕ × Cursor)
unescape p = unescaped_at p.0.0 p.0.1 p.1

unescape_table : Table unescape (
    (((true, ascii "a\\\"b"), 0), Some (97, cursor_at 1))
    ∷ (((true, ascii "a\\\"b"), 1), Some (34, cursor_at 3))
    ∷ (((true, ascii "a\\"), 1), Some (92, cursor_at 2))
    ∷ (((true, ascii "a\\b"), 1), Some (92, cursor_at 2))
    ∷ (((true, ascii "\\\\\""), 0), Some (92, cursor_at 2))
    ∷ (((true, ascii "\\\\\""), 2), Some (34, cursor_at 3))
    ∷ (((false, ascii "a\\"), 1), Some (92, cursor_at 2))
    ∷ (((true, ascii "a"), 1), None)
    ∷ (((false, ascii "a"), 7), None)
    ∷ []
    )
unfolding opened
unescape_table = refl

-- what quoted bytes mean: only a backslash before `"` or a backslash goes
meaning_table : Table (meaning true) (
    (ascii "a\\\"b", ascii "a\"b")
    ∷ (ascii "\\\\\"", ascii "\\\"")
    ∷ (ascii "\\n", ascii "\\n")
    ∷ (ascii "\\\\n", ascii "\\n")
    ∷ (ascii "a\\", ascii "a\\")
    ∷ []
    )
unfolding opened
meaning_table = refl

-- the published hashes of the empty text, `a` and `foobar`
hash_table : Table (hashed offset_basis) (
    ([], 0x811C9DC5)
    ∷ (ascii "a", 0xE40C292C)
    ∷ (ascii "foobar", 0xBF9CF968)
    ∷ []
    )
unfolding opened
hash_table = refl

abbrev pub same? : (Bool × Bytes) × (Bool × Bytes) → Bool
same? p = same (meaning p.0.0 p.0.1) (meaning p.1.0 p.1.1)

-- IDs by meaning: quotes and escapes are no part of it
same_table : Table same? (
    (((false, ascii "W07"), (true, ascii "W07")), true)
    ∷ (((false, ascii "a\\"), (true, ascii "a\\\\")), true)
    ∷ (((false, ascii "a\\\\"), (true, ascii "a\\\\")), false)
    ∷ (((false, ascii "W07"), (false, ascii "W7")), false)
    ∷ (((false, ascii "W0"), (false, ascii "W07")), false)
    ∷ (((false, []), (true, [])), true)
    ∷ []
    )
unfolding opened
same_table = refl

abbrev pub write : Bool × Bytes → Bytes
write p = write_value p.0 p.1

write_table : Table write (
    ((false, ascii "a\\b"), ascii "a\\b")
    ∷ ((true, ascii "a,b"), ascii "\"a,b\"")
    ∷ ((true, ascii "\"\\"), ascii "\"\\\"\\\\\"")
    ∷ ((true, []), ascii "\"\"")
    ∷ []
    )
unfolding opened
write_table = refl
