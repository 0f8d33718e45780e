-- Searches among the lines before, and what they answer. Assumes nothing.
use Prim.Native.Nat.{ℕ, ◌+◌, ◌*◌, ◌/◌, ◌<◌, ◌≤◌}
use native.Mathlib.Omega.{arith}
use mathlib.Core.Path.{◌≡◌, refl, sym, ap, ◌∙◌}
use mathlib.Core.Bool.{Bool, true, false, not, ◌||◌, ◌&&◌, or-false, true≢false, false≢true}
use mathlib.Core.List.{List}
use Rattle.std.specs.Prelude.{Option, None, Some}
use lib.Dec.{eqb}
use lib.ListN.{length}
use Rattle.values.specs.Bytes.{Bytes, ascii, same}
use Rattle.values.specs.Bits.{bit_at}
use Rattle.values.specs.Value.{meaning}
use Rattle.values.proofs.Sames.{same_sym}
use Rattle.values.proofs.Tests.{and_off, and_on}
use Rattle.rules.specs.Known.{is_in}
use Rattle.rules.specs.Entry.{Entry}
use Rattle.rules.specs.Shown.{id_in, id_meaning}
use Rattle.entries.specs.declared.entry.Entry.{Entry as CodeEntry}
use Rattle.entries.specs.Values.{entry_of}
use Rattle.entries.specs.Tables.{room, entry_in, first_entries}
use Rattle.dictionary.specs.Dictionary.{Line, any_of, implied_numbers, clashes, differ}
use Rattle.dictionary.specs.Lines.{holds, idx_meant, entry_idx, is_implied, table_lines, lines_before, id_at, idx_at, is_idx}
use Rattle.dictionary.specs.Slots.{idx_first, line_at, StandsAt}
use Rattle.dictionary.specs.Places.{idx_named, earlier_meant, number_seen, seen_in, new_place, again_place, implied_clash, indexed_place, counted_place, beside_place, indexed_beside, counted_beside, place_if, taken_before, place_at}
use Rattle.dictionary.specs.Marks.{met_bit, is_again, id_bit, number_bit, named_before, bad_at, line_number, Tells, beside_met, beside_new, beside_by, beside_at}
use Rattle.dictionary.specs.declared.line.Dictionary.{Dictionary}
use Rattle.dictionary.specs.declared.line.Dictionary.TheVariants.{Strings, Contigs}
use Rattle.dictionary.specs.declared.place.Asked.{Asked}
use Rattle.dictionary.specs.declared.place.Beside.{Beside}
use Rattle.dictionary.specs.declared.place.Beside.TheVariants as beside
use Rattle.dictionary.specs.declared.place.Beside.TheVariants.{New}
use Rattle.dictionary.specs.declared.place.Placed.{Placed}
use Rattle.dictionary.specs.declared.place.Placed.TheVariants.{Numbered, Due, Again, Clash}
use Rattle.dictionary.proofs.Left.{left, left_end, left_skip, left_take}
use Rattle.dictionary.proofs.Slotting.{ahead_is}
use Rattle.entries.specs.declared.form.Form.{Form}

-- The search for the ID of y: no line before entry k has it

pub record Finding (d : Dictionary) (form : Form) (h : Bytes) (t : List ℕ) (y : CodeEntry) (k : ℕ) : Type 0 where
  pub still : idx_named (id_at h y) (table_lines d form h t) ≡ idx_named (id_at h y) (left d form h t k)

pub find_start : {d : Dictionary} {form : Form} {h : Bytes} {t : List ℕ} {y : CodeEntry} → Finding d form h t y 0
find_start = record { still = refl }

module _ {d : Dictionary} {form : Form} {h : Bytes} {t : List ℕ} {y : CodeEntry} {k : ℕ} (g : Finding d form h t y k) {n : ℕ} (en : n ≡ room form t) where
  pub find_end : n ≤ k → None ≡ idx_named (id_at h y) (table_lines d form h t)
  unfolding idx_first
  find_end l = sym (g.still ∙ ap (idx_named (id_at h y)) (left_end d form h t k en l))

  module _ (l : k < n) {e : CodeEntry} (ee : entry_of e ≡ entry_in form t k) {q : Bool} (eq : q ≡ holds d e.kind) where
    pub find_skip : q ≡ false → Finding d form h t y (k + 1)
    find_skip f = record { still = g.still ∙ ap (idx_named (id_at h y)) (left_skip d form h t k en l ee eq f) }

    module _ (f : q ≡ true) {p : Bytes} (ep : p ≡ id_in h (entry_of e)) {i : Bytes} (ei : i ≡ id_in h (entry_of y))
        {s : Bool} (es : s ≡ same (meaning e.quoted p) (meaning y.quoted i)) where
      find_turn : idx_named (id_at h y) (table_lines d form h t) ≡ elim s [ true ↦ Some (idx_at h e) | false ↦ idx_named (id_at h y) (left d form h t (k + 1)) ]
      unfolding idx_first
      find_turn = let i : same (id_at h e) (id_at h y) ≡ s = sym (es ∙ rw (ep, ei)) in g.still ∙ ap (idx_named (id_at h y)) (left_take d form h t k en l ee eq f) ∙ rw (idx_first, i)

      pub find_other : s ≡ false → Finding d form h t y (k + 1)
      find_other u = record { still = find_turn ∙ rw u }

      pub find_here : s ≡ true → Some (idx_at h e) ≡ idx_named (id_at h y) (table_lines d form h t)
      find_here u = sym (find_turn ∙ rw u)

pub ruleset finds = (find_start, find_end, find_skip, find_other, find_here)

-- what answers the needs of `has_idx`
module _ (h : Bytes) (e : CodeEntry) (n : ℕ) {r : Option ℕ} (er : idx_meant r ≡ idx_at h e) where
  pub no_idx : r ≡ None → false ≡ is_idx n (idx_at h e)
  no_idx q = rw (← er, q)

  pub idx_tested : {m : ℕ} → r ≡ Some m → eqb m n ≡ is_idx n (idx_at h e)
  idx_tested q = rw (← er, q)

pub ruleset idxs = (no_idx, idx_tested)

-- The search for a number: no line before entry k carries it

pub record Counting (d : Dictionary) (form : Form) (h : Bytes) (t : List ℕ) (m k : ℕ) : Type 0 where
  pub still : number_seen m (table_lines d form h t) ≡ number_seen m (left d form h t k)

pub count_start : {d : Dictionary} {form : Form} {h : Bytes} {t : List ℕ} {m : ℕ} → Counting d form h t m 0
count_start = record { still = refl }

module _ {d : Dictionary} {form : Form} {h : Bytes} {t : List ℕ} {m k : ℕ} (g : Counting d form h t m k) {n : ℕ} (en : n ≡ room form t) where
  pub count_end : n ≤ k → false ≡ number_seen m (table_lines d form h t)
  unfolding any_of
  count_end l = sym (g.still ∙ ap (number_seen m) (left_end d form h t k en l))

  module _ (l : k < n) {e : CodeEntry} (ee : entry_of e ≡ entry_in form t k) {q : Bool} (eq : q ≡ holds d e.kind) where
    pub count_skip : q ≡ false → Counting d form h t m (k + 1)
    count_skip f = record { still = g.still ∙ ap (number_seen m) (left_skip d form h t k en l ee eq f) }

    module _ (f : q ≡ true) {s : Bool} (es : s ≡ is_idx m (idx_at h e)) where
      count_turn : number_seen m (table_lines d form h t) ≡ (s || number_seen m (left d form h t (k + 1)))
      unfolding any_of
      count_turn = g.still ∙ ap (number_seen m) (left_take d form h t k en l ee eq f) ∙ rw (← es)

      pub count_other : s ≡ false → Counting d form h t m (k + 1)
      count_other u = record { still = count_turn ∙ rw u }

      pub count_here : s ≡ true → true ≡ number_seen m (table_lines d form h t)
      count_here u = sym (count_turn ∙ rw u)

pub ruleset counts = (count_start, count_end, count_skip, count_other, count_here)

-- what answers the needs of `clashes_implied`
module _ (h : Bytes) (d : Dictionary) (e : CodeEntry) (n : ℕ) where
  pub contig_free : d ≡ Contigs → false ≡ any_of (clashes (id_at h e, n)) (implied_numbers d)
  unfolding any_of
  contig_free ed = rw ed

  module _ (ed : d ≡ Strings) {q : Bool} (eq : q ≡ is_implied h d (entry_of e)) where
    passes : same (id_at h e) (ascii "PASS") ≡ q
    unfolding is_implied is_in
    passes = sym (eq ∙ rw ed (or-false (same (ascii "PASS") (id_at h e)) ∙ same_sym (ascii "PASS") (id_at h e)))

    turned : any_of (clashes (id_at h e, n)) (implied_numbers d) ≡ differ q (eqb n 0)
    unfolding any_of
    turned = rw (ed, passes) (or-false (differ q (eqb n 0)))

    pub pass_other : q ≡ true → not (eqb n 0) ≡ any_of (clashes (id_at h e, n)) (implied_numbers d)
    pass_other f = sym (turned ∙ rw f)

    pub zero_other : q ≡ false → eqb n 0 ≡ any_of (clashes (id_at h e, n)) (implied_numbers d)
    zero_other f = sym (turned ∙ rw f)

pub ruleset implieds = (contig_free, pass_other, zero_other)

-- what answers the needs of `is_again`
module _ (h : Bytes) (indexed : Bool) (bad : ℕ → Bool) (e x : CodeEntry) where
  pub again_always : indexed ≡ false → true ≡ is_again indexed bad (idx_at h e) (idx_at h x)
  again_always f = rw f

  module _ (f : indexed ≡ true) {r : Option ℕ} (er : idx_meant r ≡ idx_at h e) where
    pub again_never : r ≡ None → false ≡ is_again indexed bad (idx_at h e) (idx_at h x)
    again_never q = rw (f, ← er, q)

    module _ {n : ℕ} (q : r ≡ Some n) {c : Bool} (ec : c ≡ bad n) where
      pub again_bad : c ≡ true → false ≡ is_again indexed bad (idx_at h e) (idx_at h x)
      again_bad g = rw (f, ← er, q, ← ec, g)

      pub again_tested : c ≡ false → {s : Bool} → s ≡ is_idx n (idx_at h x) → s ≡ is_again indexed bad (idx_at h e) (idx_at h x)
      again_tested g es = es ∙ rw (f, ← er, q, ← ec, g)

pub ruleset agains = (again_always, again_never, again_bad, again_tested)

-- of `place_new`
module _ (h : Bytes) (e : CodeEntry) (indexed : Bool) (bad taken : ℕ → Bool) where
  new_counted_lem : (i : Option ℕ) → New ≡ beside_by false bad i None taken
  new_counted_lem i = refl

  pub met_counted : indexed ≡ false → New ≡ beside_by indexed bad (idx_at h e) None taken
  met_counted f = new_counted_lem (idx_at h e) ∙ rw f

  module _ (f : indexed ≡ true) {r : Option ℕ} (er : idx_meant r ≡ idx_at h e) where
    pub met_bare : r ≡ None → beside.Clash ≡ beside_by indexed bad (idx_at h e) None taken
    met_bare q = rw (f, ← er, q)

    module _ {n : ℕ} (q : r ≡ Some n) {m : Bool} (em : m ≡ taken n) where
      pub met_taken : m ≡ true → beside.Clash ≡ beside_by indexed bad (idx_at h e) None taken
      met_taken g = rw (f, ← er, q, ← em, g)

      module _ (g : m ≡ false) {c : Bool} (ec : c ≡ bad n) where
        pub met_bad : c ≡ true → beside.Clash ≡ beside_by indexed bad (idx_at h e) None taken
        met_bad z = rw (f, ← er, q, ← em, g, ← ec, z)

        pub met_free : c ≡ false → New ≡ beside_by indexed bad (idx_at h e) None taken
        met_free z = rw (f, ← er, q, ← em, g, ← ec, z)

pub ruleset mets = (met_counted, met_bare, met_taken, met_bad, met_free)

-- of `search_beside`
module _ (h : Bytes) (e : CodeEntry) (indexed : Bool) (bad taken : ℕ → Bool) {o : Option CodeEntry} {found : Option (Option ℕ)} (eo : earlier_meant h o ≡ found) where
  module _ {x : CodeEntry} (q : o ≡ Some x) {m : Bool} (em : m ≡ is_again indexed bad (idx_at h e) (idx_at h x)) where
    pub search_again : m ≡ true → beside.Again ≡ beside_by indexed bad (idx_at h e) found taken
    search_again f = rw (← eo, q, ← em, f)

    pub search_clash : m ≡ false → beside.Clash ≡ beside_by indexed bad (idx_at h e) found taken
    search_clash f = rw (← eo, q, ← em, f)

  pub search_new : o ≡ None → {r : Beside} → r ≡ beside_by indexed bad (idx_at h e) None taken → r ≡ beside_by indexed bad (idx_at h e) found taken
  search_new q er = er ∙ rw (← eo, q)

pub ruleset searches = (search_again, search_clash, search_new)

-- The bits of a line, and what it is

bit_by : Bool → (ℕ → Bool) → Option ℕ → Option (Option ℕ) → (ℕ → Bool) → ℕ → Bool
bit_by indexed bad i o taken b = id_bit indexed bad i o b || (indexed && number_bit bad i taken b)

number_bare : (bad : ℕ → Bool) (i : Option ℕ) (taken : ℕ → Bool) → number_bit bad i taken 0 ≡ false
number_bare bad None taken = refl
number_bare bad (Some n) taken = and_off (taken n || bad n) refl

module _ (indexed : Bool) (bad : ℕ → Bool) (i : Option ℕ) (taken : ℕ → Bool) where
  first_bit : (o : Option (Option ℕ)) → bit_by indexed bad i o taken 0 ≡ id_bit indexed bad i o 0
  unfolding bit_by
  first_bit o = rw (number_bare bad i taken, and_off indexed refl) (or-false (id_bit indexed bad i o 0))

  by_again : (o : Option (Option ℕ)) → bit_by indexed bad i o taken 0 ≡ true → beside.Again ≡ beside_by indexed bad i o taken
  by_again None e = absurd (false≢true (sym (first_bit None) ∙ e))
  by_again (Some m) e = go (is_again indexed bad i m) (sym (first_bit (Some m)) ∙ e)
    where
      go : (q : Bool) → eqb 0 (met_bit q) ≡ true → beside.Again ≡ beside_met q
      go true f = refl
      go false f = absurd (false≢true f)

  met_not : (m : Option ℕ) → bit_by indexed bad i (Some m) taken 0 ≡ false → is_again indexed bad i m ≡ false
  met_not m e = go (is_again indexed bad i m) (sym (first_bit (Some m)) ∙ e)
    where
      go : (q : Bool) → eqb 0 (met_bit q) ≡ false → q ≡ false
      go true f = absurd (true≢false f)
      go false f = refl

  by_second : (b : Bool) (o : Option (Option ℕ)) → bit_by indexed bad i o taken 0 ≡ false → bit_by indexed bad i o taken 1 ≡ b → beside_new b ≡ beside_by indexed bad i o taken
  unfolding bit_by
  by_second b (Some m) e f =
      let q = met_not m e in
      let t : true ≡ b = sym (rw q) ∙ f in
      rw (← t, q)
  by_second b None e f = go indexed i f
    where
      go : (x : Bool) (y : Option ℕ) → (false || (x && number_bit bad y taken 1)) ≡ b → beside_new b ≡ beside_by x bad y None taken
      go false y z = rw (← z)
      go true None z = rw (← z)
      go true (Some n) z = let w : (taken n || bad n) ≡ b = sym (and_on (taken n || bad n)) ∙ z in rw w

-- what answers the needs of `find_beside`
module _ (a : Asked) (h : Bytes) {t : List ℕ} {k : ℕ} {e : CodeEntry} (s : StandsAt a.dictionary a.form t k e) where
  abbrev before : List Line
  before = lines_before a.dictionary a.form h t k

  abbrev taken : ℕ → Bool
  taken = taken_before a.dictionary a.form h t k

  beside_here : beside_at a h t k ≡ beside_by a.indexed (implied_clash a.dictionary (id_at h e)) (idx_at h e) (idx_named (id_at h e) before) taken
  beside_here = ap (λ (x : Entry). beside_by a.indexed (implied_clash a.dictionary (id_meaning h x)) (entry_idx h x) (idx_named (id_meaning h x) before) taken) (sym s.is)

  pub beside_far : {ahead : List ℕ} → ahead ≡ first_entries a.form t k → {r : Beside}
      → r ≡ beside_by a.indexed (implied_clash a.dictionary (id_at h e)) (idx_at h e) (idx_named (id_at h e) (table_lines a.dictionary a.form h ahead)) (seen_in a.dictionary a.form h ahead)
      → r ≡ beside_at a h t k
  beside_far ea er =
      er
      ∙ ap (λ (ls : List Line). beside_by a.indexed (implied_clash a.dictionary (id_at h e)) (idx_at h e) (idx_named (id_at h e) ls) (λ (n : ℕ). number_seen n ls)) (ahead_is a.dictionary a.form h t k ea)
      ∙ sym beside_here

  module _ {ms : List ℕ} (w : Tells a h t ms) {n : ℕ} (en : n ≡ line_number a h t k) (l : n / 32 < length ms) where
    abbrev told : ℕ → Bool
    told b = bit_by a.indexed (bad_at a h t k) (line_at a.form h t k).idx (named_before a h t k) taken b

    told_bit_lem : (b : ℕ) → b < 2 → bit_at ms (2 * n + b) ≡ told b
    unfolding bit_by
    told_bit_lem b s₂ = ap (λ (x : ℕ). bit_at ms (2 * x + b)) en ∙ w.is k b s.inside (rw (← s.is) s.held) s₂ (omega (arith, en))

    told_first : {p : Bool} → p ≡ bit_at ms (2 * n) → told 0 ≡ p
    told_first ep = let z : 2 * n ≡ 2 * n + 0 = omega arith in sym (ep ∙ ap (bit_at ms) z ∙ told_bit_lem 0 (omega arith))

    module _ {p : Bool} (ep : p ≡ bit_at ms (2 * n)) where
      pub beside_again : p ≡ true → beside.Again ≡ beside_at a h t k
      beside_again f = by_again a.indexed (bad_at a h t k) (line_at a.form h t k).idx taken (named_before a h t k) (told_first ep ∙ f)

      module _ (f : p ≡ false) {q : Bool} (eq : q ≡ bit_at ms (2 * n + 1)) where
        second : beside_new q ≡ beside_at a h t k
        second =
            by_second a.indexed (bad_at a h t k) (line_at a.form h t k).idx taken q (named_before a h t k) (told_first ep ∙ f) (sym (eq ∙ told_bit_lem 1 (omega arith)))

        pub beside_clash : q ≡ true → beside.Clash ≡ beside_at a h t k
        beside_clash g = ap beside_new (sym g) ∙ second

        pub beside_new_lem : q ≡ false → New ≡ beside_at a h t k
        beside_new_lem g = ap beside_new (sym g) ∙ second

pub ruleset besides = (beside_far, beside_again, beside_clash, beside_new_lem)

-- of `place_indexed`
as_again : (needed : Bool) (i : Option ℕ) → Again ≡ place_if needed (indexed_beside i beside.Again)
as_again true None = refl
as_again true (Some n) = refl
as_again false None = refl
as_again false (Some n) = refl

as_clash : (needed : Bool) (i : Option ℕ) → Clash ≡ place_if needed (indexed_beside i beside.Clash)
as_clash true None = refl
as_clash true (Some n) = refl
as_clash false None = refl
as_clash false (Some n) = refl

as_new : (i : Option ℕ) → Numbered 0 ≡ place_if false (indexed_beside i New)
as_new None = refl
as_new (Some n) = refl

module _ (h : Bytes) (e : CodeEntry) {b : Beside} (needed : Bool) where
  pub index_again : b ≡ beside.Again → Again ≡ place_if needed (indexed_beside (idx_at h e) b)
  index_again g = rw g (as_again needed (idx_at h e))

  pub index_clash : b ≡ beside.Clash → Clash ≡ place_if needed (indexed_beside (idx_at h e) b)
  index_clash g = rw g (as_clash needed (idx_at h e))

  module _ (g : b ≡ New) where
    pub index_unneeded : needed ≡ false → Numbered 0 ≡ place_if needed (indexed_beside (idx_at h e) b)
    index_unneeded f = rw (g, f) (as_new (idx_at h e))

    module _ (f : needed ≡ true) {r : Option ℕ} (er : idx_meant r ≡ idx_at h e) where
      pub index_missing : r ≡ None → Numbered 0 ≡ place_if needed (indexed_beside (idx_at h e) b)
      index_missing q = rw (g, f, ← er, q)

      pub index_new : {n : ℕ} → r ≡ Some n → Numbered n ≡ place_if needed (indexed_beside (idx_at h e) b)
      index_new q = rw (g, f, ← er, q)

pub ruleset indexeds = (index_again, index_clash, index_unneeded, index_missing, index_new)

-- of `place_counted`
module _ (i : Bool) {b : Beside} where
  pub counted_again : b ≡ beside.Again → Again ≡ counted_beside i b
  counted_again f = rw f

  pub counted_clash : b ≡ beside.Clash → Again ≡ counted_beside i b
  counted_clash f = rw f

  module _ (f : b ≡ New) {q : Bool} (eq : q ≡ i) where
    pub counted_zero : q ≡ true → Numbered 0 ≡ counted_beside i b
    counted_zero g = rw (f, ← eq, g)

    pub counted_due : q ≡ false → Due ≡ counted_beside i b
    counted_due g = rw (f, ← eq, g)

pub ruleset counteds = (counted_again, counted_clash, counted_zero, counted_due)

-- of `place_line`
indexed_as_lem : (d : Dictionary) (x : Bytes) (i : Option ℕ) (o : Option (Option ℕ)) (taken : ℕ → Bool)
    → indexed_beside i (beside_by true (implied_clash d x) i o taken) ≡ indexed_place d x i o taken
indexed_as_lem d x None None taken = refl
indexed_as_lem d x None (Some m) taken = refl
indexed_as_lem d x (Some n) None taken = go (taken n) (implied_clash d x n)
  where
    go : (q c : Bool) → beside_place n (beside_new (q || c)) ≡ elim c [ true ↦ Clash | false ↦ new_place n q ]
    go true true = refl
    go true false = refl
    go false true = refl
    go false false = refl
indexed_as_lem d x (Some n) (Some m) taken = go (is_idx n m) (implied_clash d x n)
  where
    go : (q c : Bool) → beside_place n (beside_met (not c && q)) ≡ elim c [ true ↦ Clash | false ↦ again_place q ]
    go q true = refl
    go true false = refl
    go false false = refl

counted_as_lem : (needed i : Bool) (bad : ℕ → Bool) (x : Option ℕ) (o : Option (Option ℕ)) (taken : ℕ → Bool) → counted_beside i (beside_by false bad x o taken) ≡ place_if needed (counted_place i o)
counted_as_lem true i bad x (Some m) taken = refl
counted_as_lem true true bad x None taken = refl
counted_as_lem true false bad x None taken = refl
counted_as_lem false i bad x (Some m) taken = refl
counted_as_lem false true bad x None taken = refl
counted_as_lem false false bad x None taken = refl

module _ (a : Asked) (h : Bytes) {t : List ℕ} {k : ℕ} {e : CodeEntry} (s : StandsAt a.dictionary a.form t k e) {b : Beside} (eb : b ≡ beside_at a h t k) (needed : Bool) where
  abbrev ahead : List Line
  ahead = lines_before a.dictionary a.form h t k

  abbrev met : ℕ → Bool
  met = taken_before a.dictionary a.form h t k

  pub place_by_idx : a.indexed ≡ true → {p : Placed} → p ≡ place_if needed (indexed_beside (idx_at h e) b) → p ≡ place_if needed (place_at a.indexed a.dictionary a.form h t k e)
  place_by_idx f ep =
      ep ∙ ap (λ (x : Beside). place_if needed (indexed_beside (idx_at h e) x)) (eb ∙ beside_here a h s)
      ∙ rw f (ap (place_if needed) (indexed_as_lem a.dictionary (id_at h e) (idx_at h e) (idx_named (id_at h e) ahead) met))

  pub place_by_count : a.indexed ≡ false → {p : Placed} → p ≡ counted_beside (is_implied h a.dictionary (entry_of e)) b
      → p ≡ place_if needed (place_at a.indexed a.dictionary a.form h t k e)
  unfolding is_implied
  place_by_count f ep =
      ep ∙ ap (counted_beside (is_implied h a.dictionary (entry_of e))) (eb ∙ beside_here a h s)
      ∙ rw f (counted_as_lem needed (is_implied h a.dictionary (entry_of e)) (implied_clash a.dictionary (id_at h e)) (idx_at h e) (idx_named (id_at h e) ahead) met)

pub ruleset lines = (place_by_idx, place_by_count)
