-- The form's lines, as a header's bytes and its entries tell them. Assumes nothing.
use Rattle.std.specs.Prelude.{◌+◌, ◌≡◌, Bool, true, false, not, ◌||◌, ◌&&◌, List, [], ◌∷◌, ◌++◌, ltb, length, take}
use Rattle.values.specs.Bytes.{Bytes, ascii, is, any, before, same, starts}
use Rattle.rules.specs.Version.{Version}
use Rattle.rules.specs.Known.{is_typed}
use Rattle.rules.specs.Entry.{Entry}
use Rattle.rules.specs.Shown.{line_in}
use Rattle.ids.specs.Clashes.{prefix_of}
use Rattle.house.specs.declared.progress.Progress.{Progress}
use Rattle.forms.specs.Lines.{house_line}
use Rattle.house.specs.Writes.{WroteLines, Readable}

-- an entry of a map or a text
abbrev pub is_record : Entry → Bool
is_record e = ltb 1 e.kind && ltb e.kind 9

-- such an entry, whose line begins with the prefix
unfoldable pub is_under : Bytes → Bytes → Entry → Bool
is_under h prefix e = is_record e && starts prefix (line_in h e)

-- the line l among others, if it is one of them
abbrev pub pick : Bool → Bytes → List Bytes → List Bytes
pick true l ls = l ∷ ls
pick false l ls = ls

-- the form's lines of the entries under the prefix
unfoldable pub picked : Version → Bytes → Bytes → List Entry → List Bytes
picked v h prefix [] = []
picked v h prefix (e ∷ es) = pick (is_under h prefix e) (house_line v (line_in h e)) (picked v h prefix es)

-- an entry whose key is not typed: an other map, or a text
abbrev pub is_other_record : Entry → Bool
is_other_record e = ltb 6 e.kind && ltb e.kind 9

-- the line of an entry through its first `=`
unfoldable pub prefix_in : Bytes → Entry → Bytes
prefix_in h e = take (length (before (is 61) (line_in h e)) + 1) (line_in h e)

-- an entry whose line can be read and begins with the prefix of its key, and of no other; `formed`: it stands as the form writes it
pub record Listed (formed : Bool) (v : Version) (h : Bytes) (e : Entry) : Type 0 where
  pub readable : Readable v (line_in h e)
  pub copied : formed ≡ true → house_line v (line_in h e) ≡ line_in h e
  pub key : Bytes
  pub plain : any (is 61) key ≡ false
  pub other : is_other_record e ≡ not (is_typed key)
  pub prefix : prefix_in h e ≡ prefix_of key
  pub under : (k : Bytes) → any (is 61) k ≡ false → is_under h (prefix_of k) e ≡ same key k

-- every record is such an entry
abbrev pub AllListed : Bool → Version → Bytes → List Entry → Type 0
AllListed formed v h [] = Unit {0}
AllListed formed v h (e ∷ es) = (is_record e ≡ true → Listed formed v h e) × AllListed formed v h es

-- the lines of all of them stand so
pub record AreFormed (v : Version) (h : Bytes) (es : List Entry) (r : Bool) : Type 0 where
  pub is : AllListed false v h es → AllListed r v h es

pub record PutsKey (v : Version) (h : Bytes) (es : List Entry) (prefix given old : Bytes) (s r : Progress) (new : Bytes) : Type 0 where
  pub is : AllListed s.formed v h es → WroteLines given old s (picked v h prefix es) r new

-- an entry whose key is typed
abbrev pub is_typed_record : Entry → Bool
is_typed_record e = ltb 1 e.kind && ltb e.kind 7

unfoldable pub any_typed : List Entry → Bool
any_typed [] = false
any_typed (e ∷ es) = is_typed_record e || any_typed es

-- the form's lines of all records under these keys, key by key
unfoldable pub lines_under : Version → Bytes → List Entry → List Bytes → List Bytes
lines_under v h es [] = []
lines_under v h es (k ∷ ks) = picked v h (prefix_of k) es ++ lines_under v h es ks

-- the typed keys after the first two
abbrev pub later_keys : List Bytes
later_keys = ascii "FORMAT" ∷ ascii "ALT" ∷ ascii "contig" ∷ []

pub record PutsKeys (v : Version) (h : Bytes) (es : List Entry) (ks : List Bytes) (given old : Bytes) (s r : Progress) (new : Bytes) : Type 0 where
  pub is : AllListed s.formed v h es → WroteLines given old s (lines_under v h es ks) r new

-- a record among these entries has a line that begins with the prefix
unfoldable pub seen_under : Bytes → Bytes → List Entry → Bool
seen_under h prefix [] = false
seen_under h prefix (e ∷ es) = is_under h prefix e || seen_under h prefix es

-- such an entry, and no record of its key is among those before it
unfoldable pub is_first : Bytes → List Entry → Entry → Bool
is_first h ahead e = is_other_record e && not (seen_under h (prefix_in h e) ahead)

abbrev pub lines_if : Bool → List Bytes → List Bytes
lines_if true ls = ls
lines_if false ls = []

-- the form's lines of all records whose key is not typed, by its first appearance; `ahead` are the entries before
unfoldable pub other_lines : Version → Bytes → List Entry → List Entry → List Entry → List Bytes
other_lines v h all ahead [] = []
other_lines v h all ahead (e ∷ es) = lines_if (is_first h ahead e) (picked v h (prefix_in h e) all) ++ other_lines v h all (ahead ++ e ∷ []) es

pub record PutsOthers (v : Version) (h : Bytes) (es : List Entry) (given old : Bytes) (s r : Progress) (new : Bytes) : Type 0 where
  pub is : AllListed s.formed v h es → WroteLines given old s (other_lines v h es [] es) r new
