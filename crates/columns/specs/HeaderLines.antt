-- What the code answers of a column line, and what it stores of it. Assumes nothing.
use Rattle.std.specs.Prelude.{ℕ, ◌+◌, ◌%◌, ◌^◌, ◌≡◌, Bool, true, false, not, ◌&&◌, List, [], ◌∷◌, length, drop, eqb, leb, Result, Ok, Err}
use Rattle.values.specs.Bytes.{Bytes}
use Rattle.values.specs.Hash.{wide_step, wide_of}
use Rattle.values.specs.Marks.{is_met, meet, is_marked}
use Rattle.rules.specs.Answer.{ok, refuse}
use Rattle.rules.specs.Known.{is_in}
use Rattle.rules.specs.Columns.{Columns, split, read_columns}
use Rattle.rules.specs.Entry.{Entry, columns_kind, sample_kind, plain_entry, sample_entries}
use Rattle.entries.specs.declared.form.Form.{Form}
use Rattle.entries.specs.Tables.{put_all}
use Rattle.columns.specs.declared.header_line.ColumnsRefusal.{ColumnsRefusal}
use Rattle.columns.specs.declared.header_line.ColumnsRefusal.TheVariants as read

unfoldable pub HeaderRead : Bytes → Result (Bool × ℕ) ColumnsRefusal → Type 0
HeaderRead s (Ok (format, n)) = (c : Columns) × (read_columns s ≡ ok c) × (c.format ≡ format) × (length c.samples ≡ n)
HeaderRead s (Err read.WrongColumn) = read_columns s ≡ refuse 22
HeaderRead s (Err read.DuplicateSample) = read_columns s ≡ refuse 23

-- the answer where n names follow FORMAT: whether no two are the same
abbrev pub samples_read : Bool → ℕ → Result (Bool × ℕ) ColumnsRefusal
samples_read true n = Ok (true, n)
samples_read false n = Err read.DuplicateSample

abbrev pub but_last : List Bytes → List Bytes
but_last [] = []
but_last (x ∷ []) = []
but_last (x ∷ y ∷ ys) = x ∷ but_last (y ∷ ys)

-- the names that a tab ends
unfoldable pub ended : Bytes → List Bytes
ended bs = but_last (split bs)

-- Many names, class by class

-- a name is of class k of n, by its hash
unfoldable pub is_of : ℕ → ℕ → Bytes → Bool
is_of n k name = eqb (wide_of sample_kind name % 2 ^ 32 % n) k

-- another hash of it: that of its doubt
abbrev pub again : Bytes → ℕ
again name = wide_step (wide_of sample_kind name) 1

-- a name that may stand twice; where there are no doubts, each may
unfoldable pub is_doubted : List ℕ → Bytes → Bool
is_doubted ds name = is_met ds (again name)

unfoldable pub is_clear : List ℕ → Bytes → Bool
is_clear ds name = not (is_doubted ds name)

-- a name of class k of n that is not in doubt
unfoldable pub is_sure : ℕ → ℕ → List ℕ → Bytes → Bool
is_sure n k ds name = is_of n k name && is_clear ds name

-- no name that is such stands again after it
unfoldable pub distinct_of : (Bytes → Bool) → List Bytes → Bool
distinct_of such [] = true
distinct_of such (x ∷ xs) = not (such x && is_in x xs) && distinct_of such xs

-- a hash is marked if this holds
abbrev pub meet_if : Bool → List ℕ → ℕ → List ℕ
meet_if true ms hash = meet ms hash
meet_if false ms hash = ms

abbrev pub mark_if : Bool → List ℕ → Bytes → List ℕ
mark_if b ms name = meet_if b ms (wide_of sample_kind name)

abbrev pub doubt_if : Bool → List ℕ → Bytes → List ℕ
doubt_if b ds name = meet_if b ds (again name)

-- a name in doubt is not looked for where the marks tell that it isn't there
unfoldable pub is_repeated : List ℕ → Bytes → List ℕ → Bytes → Bool
is_repeated ds bs ms name = is_doubted ds name && (is_marked ms sample_kind name && is_in name (ended bs))

abbrev pub mark_of : List ℕ → List ℕ → Bytes → List ℕ
mark_of ds ms name = mark_if (is_doubted ds name) ms name

-- after the names of class k of n: no doubt is taken away, and none of the class that is clear stands again
pub record Doubts (n k : ℕ) (names : List Bytes) (ds₀ ds : List ℕ) : Type 0 where
  pub kept : (name : Bytes) → is_doubted ds₀ name ≡ true → is_doubted ds name ≡ true
  pub fresh : distinct_of (is_sure n k ds) names ≡ true

-- the names stand from the place 46 of the line s on, if it is that long
unfoldable pub name_entries : Bytes → ℕ → List Entry
name_entries s start = elim (leb 46 (length s)) [ true ↦ sample_entries (start + 46) (split (drop 46 s)) | false ↦ [] ]

-- the table t with the entries of the line s, which stands at `start` in its header, from number n on
unfoldable pub columns_put : Form → Bytes → ℕ → ℕ → List ℕ → List ℕ
columns_put form s start n t = put_all form t n (plain_entry columns_kind start (length s) ∷ name_entries s start)
