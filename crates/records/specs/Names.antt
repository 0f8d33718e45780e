-- Which names of a map's fields differ, told by marks. Assumes nothing.
use Rattle.std.specs.Prelude.{ℕ, ◌%◌, ◌^◌, ◌<◌, ◌≡◌, Bool, true, false, not, ◌&&◌, List, eqb, drop, Some, Option}
use Rattle.values.specs.Bytes.{Bytes}
use Rattle.values.specs.Field.{Field, read_field}
use Rattle.values.specs.Places.{value_at}
use Rattle.values.specs.declared.cursor.Cursor.{Cursor}
use Rattle.values.specs.declared.string.Text.{Text}
use Rattle.values.specs.Hash.{wide_basis, wide_step, wide_from}
use Rattle.values.specs.Marks.{is_met, meet}
use Rattle.rules.specs.Known.{is_in}
use Rattle.rules.specs.Claims.{All}
use Rattle.records.specs.Maps.{FieldsFrom, keys_of}
use Rattle.records.specs.declared.key.MapContext.{MapContext}

abbrev pub name_hash : Bytes → ℕ
name_hash name = wide_from wide_basis name

-- another hash of it
abbrev pub again : Bytes → ℕ
again name = wide_step (name_hash name) 1

-- a name is of class k of n, by its hash
unfoldable pub is_of : ℕ → ℕ → Bytes → Bool
is_of n k name = eqb (name_hash name % 2 ^ 32 % n) k

-- a hash is marked if this holds
abbrev pub mark_if : Bool → List ℕ → ℕ → List ℕ
mark_if true ms hash = meet ms hash
mark_if false ms hash = ms

-- a name that may be among those in doubt
unfoldable pub is_doubted : List ℕ → Bytes → Bool
is_doubted ds name = is_met ds (name_hash name)

unfoldable pub is_clear : List ℕ → Bytes → Bool
is_clear ds name = not (is_doubted ds name)

-- a name of class k of n that is not in doubt
unfoldable pub is_sure : ℕ → ℕ → List ℕ → Bytes → Bool
is_sure n k ds name = is_of n k name && is_clear ds name

-- no field that begins before r and has such a name has the name of an earlier one
pub record DistinctOf (such : Bytes → Bool) (x : MapContext) (s : Bytes) (r : ℕ) : Type 0 where
  pub apart : (before : List Field) (at : ℕ) → FieldsFrom x.brackets s x.start before at → (f : Field) (rest : Bytes) → read_field x.brackets (drop at s) ≡ Some (f, rest)
      → at < r → such f.key ≡ true → is_in f.key (keys_of before) ≡ false

-- the names of these fields that are such are marked, by a hash
abbrev pub NamesMarked : (Bytes → Bool) → (Bytes → ℕ) → List ℕ → List Field → Type 0
NamesMarked such hash ms fs = All (λ (f : Field). such f.key ≡ true → is_met ms (hash f.key) ≡ true) fs

-- a name in doubt was looked for among these fields, whose names in doubt are marked
pub record NameSought (x : MapContext) (s : Bytes) (ds ms : List ℕ) (at : ℕ) (name : Bytes) (r : Bool) : Type 0 where
  pub among : (fs : List Field) → FieldsFrom x.brackets s x.start fs at → NamesMarked (is_doubted ds) again ms fs
      → is_doubted ds name ≡ true → r ≡ is_in name (keys_of fs)

-- the doubts of a class after a walk over the fields before r: none is taken away
pub record Doubts (n k : ℕ) (x : MapContext) (s : Bytes) (ds₀ ds : List ℕ) (r : ℕ) : Type 0 where
  pub grown : (hash : ℕ) → is_met ds₀ hash ≡ true → is_met ds hash ≡ true
  pub apart : DistinctOf (is_sure n k ds) x s r

-- a value that was told is the one that stands there; brackets are none of it
pub record ReadsBare (s : Bytes) (at : ℕ) (r : Option (Text × Cursor)) : Type 0 where
  pub is : {t : Text} {n : Cursor} → r ≡ Some (t, n) → r ≡ value_at false s at
