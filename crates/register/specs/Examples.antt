-- Document 02, §11: each refusal and an accepted probe header, computed by the checker. Assumes nothing.
use Rattle.std.specs.Prelude.{ℕ, zero, suc, ◌+◌, ◌/◌, ◌%◌, ◌≡◌, refl, List, [], ◌∷◌, ◌++◌, map, length, Option, None, Some}
use Rattle.values.specs.Bytes.{Bytes, ascii}
use Rattle.rules.specs.Sizes.{limits}
use Rattle.rules.specs.Version.{Version, version}
use Rattle.rules.specs.Examples.{opened as rules}
use Rattle.register.specs.Cells.{spells_well, well_of, spells_constant, in_range, hundredths, declared, cells, first_of, wells_from}
use Rattle.register.specs.Register.{RegisterReading, absent, faulty, constants, counted, register_accepted, register_of}
use Rattle.register.specs.Compare.{differing}

unfoldable pub opened : Unit {0}
unfolding rules spells_well well_of spells_constant in_range hundredths declared cells first_of wells_from absent faulty constants counted register_accepted register_of differing
opened = tt

-- number, line, start, how many entries, the constants
abbrev pub Answer : Type 0
Answer = ℕ × ℕ × ℕ × ℕ × List ℕ

abbrev pub answer : RegisterReading → Answer
answer r = (r.number, r.line, r.start, length r.entries, r.constants)

abbrev pub asked : Option Version → Bytes → Answer
asked imposed h = answer (register_of limits imposed 4096 h)

abbrev pub format : Bytes
format = ascii "##fileformat=VCFv4.3\n"

abbrev pub columns : Bytes
columns = ascii "#CHROM\tPOS\tID\tREF\tALT\tQUAL\tFILTER\tINFO\n"

-- the cells of n wells from w on, all with the constant k
abbrev pub factory : Bytes → ℕ → ℕ → Bytes
factory k w zero = []
factory k w (suc n) = ascii "##cell=<ID=W" ++ ((48 + w / 10) ∷ (48 + w % 10) ∷ ascii ",K=" ++ (k ++ ascii ">\n" ++ factory k (w + 1) n))

abbrev pub probe : Bytes → Bytes
probe lines = format ++ (lines ++ columns)

-- forty wells; one of them with quotes, in another order of fields and before the others
abbrev pub today : Bytes
today = ascii "##cell=<K=\"0.98\",ID=\"W07\">\n" ++ (factory (ascii "1.00") 1 6 ++ factory (ascii "2.00") 8 33)

abbrev pub names : List Bytes
names = ascii "W01" ∷ ascii "W40" ∷ ascii "W00" ∷ ascii "W41" ∷ ascii "W1" ∷ ascii "w07" ∷ ascii "W007" ∷ []

IDs : map (λ (t : Bytes). well_of t) names ≡ 1 ∷ 40 ∷ 0 ∷ 0 ∷ 0 ∷ 0 ∷ 0 ∷ []
unfolding opened
IDs = refl

abbrev pub numbers : List Bytes
numbers = ascii "0.49" ∷ ascii "0.50" ∷ ascii "2.00" ∷ ascii "2.01" ∷ ascii "1.5" ∷ ascii "01.50" ∷ ascii "+1.00" ∷ []

Ks : map (λ (t : Bytes). hundredths t) numbers ≡ None ∷ Some 50 ∷ Some 200 ∷ None ∷ None ∷ None ∷ None ∷ []
unfolding opened
Ks = refl

-- the register
whole : asked None (probe today) ≡ (0, 42, 984, 42, 100 ∷ 100 ∷ 100 ∷ 100 ∷ 100 ∷ 100 ∷ 98 ∷ map (λ (n : ℕ). 200) (wells_from 8 33))
unfolding opened
whole = refl

-- a factory line after it: the second W01, by meaning
appended : asked None (probe (today ++ ascii "##cell=<ID=\"W01\",K=1.00>\n")) ≡ (21, 42, 945, 41, [])
unfolding opened
appended = refl

-- 37 comes before 38, 38 before 39, 39 before 40; a text declares no well
refusals : (
    asked (Some (version 4 2)) (probe (ascii "##cell=<ID=W41>\n"))
    ∷ asked None (probe (ascii "##cell=<ID=W01>\n##cell=<ID=w07,K=1.00>\n##cell=<ID=W41,K=1.00>\n"))
    ∷ asked None (probe (ascii "##cell=<ID=W01>\n"))
    ∷ asked None (probe (ascii "##cell=W01\n"))
    ∷ asked None (probe (factory (ascii "2.01") 21 20 ++ factory (ascii "1.5") 1 20))
    ∷ []
    ) ≡ (
    (37, 0, 0, 3, [])
    ∷ (38, 3, 37, 5, [])
    ∷ (39, 0, 0, 3, [])
    ∷ (39, 0, 0, 3, [])
    ∷ (40, 22, 481, 42, [])
    ∷ []
    )
unfolding opened
refusals = refl

-- the wells that differ
compared : differing 1 (100 ∷ 98 ∷ 100 ∷ []) (100 ∷ 100 ∷ 97 ∷ []) ≡ record { well = 2; old = 98; new = 100 } ∷ record { well = 3; old = 100; new = 97 } ∷ []
unfolding opened
compared = refl
