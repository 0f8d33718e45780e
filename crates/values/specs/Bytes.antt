-- Bytes, and the few things that the rules say of a run of them. Assumes nothing.
use Rattle.std.specs.Prelude.{ℕ, ◌-◌, ◌≡◌, Bool, true, false, ◌||◌, List, [], ◌∷◌, eqb, take, drop}
use Prim.Native.Char.{code}
use Prim.Native.String.{String, [] as ε, ◌∷◌ as ◌∷ᵗ◌}

abbrev pub Bytes : Type 0
Bytes = List ℕ

-- ASCII text as its bytes
abbrev pub ascii : String → Bytes
ascii ε = []
ascii (c ∷ᵗ s) = code c ∷ ascii s

-- the bytes that the rules name
abbrev pub TAB : ℕ
TAB = 9

abbrev pub LF : ℕ
LF = 10

abbrev pub CR : ℕ
CR = 13

-- `"`
abbrev pub QUOTE : ℕ
QUOTE = 34

-- `+`
abbrev pub PLUS : ℕ
PLUS = 43

-- `,`
abbrev pub COMMA : ℕ
COMMA = 44

-- `.`
abbrev pub POINT : ℕ
POINT = 46

-- `<`
abbrev pub LESS : ℕ
LESS = 60

-- `=`
abbrev pub EQUALS : ℕ
EQUALS = 61

-- `>`
abbrev pub GREATER : ℕ
GREATER = 62

-- `[`
abbrev pub OPEN : ℕ
OPEN = 91

-- `\`
abbrev pub BACKSLASH : ℕ
BACKSLASH = 92

-- `]`
abbrev pub CLOSE : ℕ
CLOSE = 93

-- a byte is c
abbrev pub is : ℕ → ℕ → Bool
is c b = eqb b c

-- what a call answers of a byte is what the test says
abbrev pub Tells : (ℕ → Bool → Type 0) → (ℕ → Bool) → Type 0
Tells answers t = (b : ℕ) (q : Bool) → answers b q → q ≡ t b

abbrev pub empty : Bytes → Bool
empty [] = true
empty (b ∷ bs) = false

-- the first byte is c
unfoldable pub begins : ℕ → Bytes → Bool
begins c [] = false
begins c (b ∷ bs) = is c b

-- a byte passes the test
unfoldable pub any : (ℕ → Bool) → Bytes → Bool
any t [] = false
any t (b ∷ bs) = t b || any t bs

-- the bytes before the first one that passes the test; all, where none does
unfoldable pub before : (ℕ → Bool) → Bytes → Bytes
before t [] = []
before t (b ∷ bs) = elim (t b) [ true ↦ [] | false ↦ b ∷ before t bs ]

-- the first one that passes the test, and what follows it
unfoldable pub from : (ℕ → Bool) → Bytes → Bytes
from t [] = []
from t (b ∷ bs) = elim (t b) [ true ↦ b ∷ bs | false ↦ from t bs ]

-- the text begins with p
unfoldable pub starts : Bytes → Bytes → Bool
starts [] bs = true
starts (c ∷ p) [] = false
starts (c ∷ p) (b ∷ bs) = elim (eqb b c) [ true ↦ starts p bs | false ↦ false ]

-- byte by byte equal
unfoldable pub same : Bytes → Bytes → Bool
same [] [] = true
same [] (b ∷ bs) = false
same (a ∷ as') [] = false
same (a ∷ as') (b ∷ bs) = elim (eqb a b) [ true ↦ same as' bs | false ↦ false ]

-- the part of s from a up to e
abbrev pub part : Bytes → ℕ → ℕ → Bytes
part s a e = take (e - a) (drop a s)
