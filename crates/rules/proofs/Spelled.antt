-- How numbers were spelled: what accepts, means and writes doesn't look at it, and every entry of an accepted header tells it. Assumes nothing.
use Prim.Native.Nat.{ℕ}
use mathlib.Core.Path.{◌≡◌, refl}
use mathlib.Core.Bool.{Bool}
use mathlib.Core.List.{List}
use Rattle.std.specs.Prelude.{Option, Some, None}
use Rattle.values.specs.Bytes.{Bytes}
use Rattle.values.specs.Field.{Field}
use Rattle.rules.specs.Sizes.{Limits}
use Rattle.rules.specs.Version.{Version, version_from}
use Rattle.rules.specs.Known.{Number, kind_of, count_or}
use Rattle.rules.specs.Map.{is_value}
use Rattle.rules.specs.Record.{fields}
use Rattle.rules.specs.Entry.{Entry}
use Rattle.rules.specs.Meaning.{number_or_word}
use Rattle.rules.specs.Spelling.{has_odd, entry_odd}
use Rattle.rules.specs.Claims.{Shown}
use Rattle.rules.proofs.Shows.{map_kind_lem}

-- acceptance, versions and the meaning ask these four of an integer, and none of them asks how it was spelled
pub spelling_unseen : (n : ℕ) (p q : Bool) → (is_value (Some (n, p)) ≡ is_value (Some (n, q)))
    × ((o : Option Number) → count_or o (Some (n, p)) ≡ count_or o (Some (n, q)))
    × ((t : Bytes) → number_or_word t (Some (n, p)) ≡ number_or_word t (Some (n, q)))
    × ((i : Option (ℕ × Bool)) → version_from (Some (n, p)) i ≡ version_from (Some (n, q)) i)
spelling_unseen n p q = (refl, λ o. refl, λ t. refl, λ i. same i)
  where
    same : (i : Option (ℕ × Bool)) → version_from (Some (n, p)) i ≡ version_from (Some (n, q)) i
    same (Some (m, r)) = refl
    same None = refl

-- the entry of a map tells how the numbers of its record were spelled, and is never refused
pub entry_odd_lem : (lim : Limits) (h : Bytes) (v : Version) (es : List Entry) (n : ℕ) (k : Bytes) (fs : List Field) (s : Shown lim h v es n (fields k fs))
    → entry_odd lim.counted h v (Some s.entry) ≡ Some (has_odd v k fs)
entry_odd_lem lim h v es n k fs s = rw (entry_odd, s.shows.kind, (map_kind_lem (kind_of k)).0, s.tells.again)
