-- The calls on an entry number: the ways of the code's tests and answers, on plain values. Assumes nothing.
use Prim.Native.Nat.{ℕ, ◌+◌, ◌*◌, ◌-◌, ◌^◌, ◌≤◌, ◌<◌}
use native.Mathlib.Omega.{arith}
use mathlib.Core.Path.{◌≡◌, refl, sym, ap, ap₂, ◌∙◌}
use mathlib.Core.Bool.{Bool, true, false, not, ◌||◌, ◌&&◌, and-true, and-false}
use mathlib.Core.List.{List}
use Rattle.std.specs.Prelude.{Option, None, Some}
use lib.Dec.{eqb, leb}
use lib.ListN.{length, take, drop, length-drop}
use lib.Seq.{take_all, drop-drop}
use borrow.Author.Tests.{eq-eqb, ne_eqb, le-leb, lt-leb, eqb-true, leb-true, leb-false}
use mir.Syntax.{w64}
use mir.Val.{Fits}
use Rattle.values.specs.Bytes.{Bytes}
use Rattle.values.proofs.Tests.{pass, fail, test, and_l, and_r, not_true, not_false, never}
use Rattle.values.proofs.Lists.{some_is, none_not}
use Rattle.rules.specs.Entry.{Entry as RuleEntry}
use Rattle.rules.specs.Answer.{Answer, ok, refuse}
use Rattle.rules.specs.Sizes.{Limits as RuleLimits}
use Rattle.rules.specs.Shown.{Part as RulePart, has_id, says_no_id, counts_in_place, well_formed, id_in, id_part, entry_key_part}
use Rattle.entries.specs.Tables.{entry_in, words_clear, entry_at, shown_entry, shown_id, shown_key}
use Rattle.entries.specs.Values.{entry_of, limits_of, limits_by}
use Rattle.entries.specs.declared.entry.Entry.{Entry}
use Rattle.entries.specs.declared.form.Form.{Form}
use Rattle.entries.specs.declared.limits.Limits.{Limits}
use Rattle.entries.specs.Shown.{answered, or_refused, key_answered, key_or_refused, shown_as, entry_meant, bytes_of, Inside, KeyInside}

-- The tests of an entry

module _ (e : Entry) where
  pub offset_said : (e.offset ≡ 0 → ⊥) → false ≡ says_no_id (entry_of e)
  unfolding says_no_id
  offset_said n = rw (ne_eqb e.offset 0 n)

  module _ (o : e.offset ≡ 0) where
    pub length_said : (e.id_length ≡ 0 → ⊥) → false ≡ says_no_id (entry_of e)
    unfolding says_no_id
    length_said n = rw (eq-eqb e.offset 0 o, ne_eqb e.id_length 0 n)

    module _ (l : e.id_length ≡ 0) where
      pub quotes_said : e.quoted ≡ true → false ≡ says_no_id (entry_of e)
      unfolding says_no_id
      quotes_said q = rw (eq-eqb e.offset 0 o, eq-eqb e.id_length 0 l, q)

      pub tag_said : e.quoted ≡ false → eqb e.tag 0 ≡ says_no_id (entry_of e)
      unfolding says_no_id
      tag_said q = rw (eq-eqb e.offset 0 o, eq-eqb e.id_length 0 l, q)

pub ruleset said = (offset_said, length_said, quotes_said, tag_said)

module _ (size start len : ℕ) where
  pub begins_outside : size < start → false ≡ leb (start + len) size
  begins_outside h = sym (lt-leb (start + len) size (omega arith))

  pub begins_inside : start ≤ size → leb len (size - start) ≡ leb (start + len) size
  begins_inside h = elim (test (leb len (size - start))) [
    | pass e ↦ e ∙ sym (le-leb (start + len) size (omega (arith, leb-true len (size - start) e)))
    | fail e ↦ e ∙ sym (lt-leb (start + len) size (omega (arith, leb-false len (size - start) e)))
  ]

pub ruleset insides = (begins_outside, begins_inside)

-- a test that fails, behind three others
fourth_fails : (a b c x : Bool) → x ≡ false → false ≡ (a && (b && (c && x)))
fourth_fails true true true x e = sym e
fourth_fails true true false x e = refl
fourth_fails true false c x e = refl
fourth_fails false b c x e = refl

third_fails : (a b c x : Bool) → c ≡ false → false ≡ (a && (b && (c && x)))
third_fails true true c x e = rw e
third_fails true false c x e = refl
third_fails false b c x e = refl

no_tag : (e : RuleEntry) → says_no_id e ≡ true → eqb e.tag 0 ≡ true
unfolding says_no_id
no_tag e says =
    let rest = and_r (eqb e.offset 0) (eqb e.id_length 0 && (not e.quoted && eqb e.tag 0)) says in
    and_r (not e.quoted) (eqb e.tag 0) (and_r (eqb e.id_length 0) (not e.quoted && eqb e.tag 0) rest)

module _ (size : ℕ) (e : RuleEntry) {u : Bool} (g : u ≡ leb (e.start + e.length) size) where
  abbrev known : Bool
  known = leb 1 e.kind && leb e.kind 10

  abbrev due_tag : Bool
  due_tag = eqb e.tag 0 || (eqb e.kind 7 && leb e.tag 2)

  abbrev due : Bool
  due = has_id e.kind || says_no_id e

  abbrev placed : Bool
  placed = leb (e.start + e.length) size && (leb (e.offset + e.id_length) e.length && counts_in_place e)

  pub line_outside : not u ≡ true → false ≡ well_formed size e
  unfolding well_formed
  line_outside f = fourth_fails known due_tag due placed (rw (← g, not_true u f))

  module _ (un : not u ≡ false) {w : Bool} (b : w ≡ leb (e.offset + e.id_length) e.length) where
    pub id_outside : not w ≡ true → false ≡ well_formed size e
    unfolding well_formed
    id_outside f = fourth_fails known due_tag due placed (rw (← g, not_false u un, ← b, not_true w f))

    module _ (wn : not w ≡ false) {i : Bool} (d : i ≡ has_id e.kind) where
      -- of a kind with an ID only the tag may be wrong
      pub with_id : i ≡ true → {r : Bool} → r ≡ (eqb e.tag 0 || (eqb e.kind 7 && leb e.tag 2)) → r ≡ well_formed size e
      unfolding well_formed counts_in_place
      with_id f {r} c =
          let has : has_id e.kind ≡ true = sym d ∙ f in
          let low = leb-true 2 e.kind (and_l (leb 2 e.kind) (leb e.kind 7) has) in
          let high = leb-true e.kind 7 (and_r (leb 2 e.kind) (leb e.kind 7) has) in
          rw (← g, not_false u un, ← b, not_false w wn, ← c, le-leb 1 e.kind (omega arith), le-leb e.kind 10 (omega arith), has, le-leb e.kind 8 (omega arith)) (sym (and-true r))

      module _ (f : i ≡ false) {k : Bool} (a : k ≡ (leb 1 e.kind && leb e.kind 10)) where
        pub wrong_kind : not k ≡ true → false ≡ well_formed size e
        unfolding well_formed
        wrong_kind z = rw (← a, not_true k z)

        module _ (on : not k ≡ false) {n : Bool} (c : n ≡ says_no_id e) where
          no_id : has_id e.kind ≡ false
          no_id = sym d ∙ f

          pub wrong_id : not n ≡ true → false ≡ well_formed size e
          unfolding well_formed
          wrong_id z = third_fails known due_tag due placed (rw (no_id, ← c, not_true n z))

          -- what says nothing of an ID has tag 0
          pub without_id : not n ≡ false → {x : Bool} → x ≡ counts_in_place e → x ≡ well_formed size e
          unfolding well_formed
          without_id z k-is =
              let says : says_no_id e ≡ true = sym c ∙ not_false n z in
              k-is ∙ rw (← a, not_false k on, no_tag e says, no_id, says, ← g, not_false u un, ← b, not_false w wn)

pub ruleset wells = (line_outside, id_outside, with_id, wrong_kind, wrong_id, without_id)

-- The parts

pub id_text : (h : Bytes) (e : RuleEntry) {p r : Bytes} → p ≡ take (length h) (drop e.start h) → r ≡ take e.id_length (drop e.offset p) → r ≡ id_in h e
unfolding id_in
id_text h e a b = b ∙ rw (a, take_all (length h) (drop e.start h) (simp length-drop (omega arith)), drop-drop e.offset e.start h)

-- The entry

module _ (form : Form) (h : Bytes) (table : List ℕ) (n : ℕ) {p : Bool} (a : p ≡ words_clear form table n) where
  pub entry_unclear : not p ≡ true → None ≡ entry_at form h table n
  unfolding entry_at
  entry_unclear f = rw (entry_at, ← a, not_true p f)

  module _ (on : not p ≡ false) {e : RuleEntry} (c : e ≡ entry_in form table n) {q : Bool} (b : q ≡ well_formed (length h) e) where
    pub entry_formed : q ≡ true → Some e ≡ entry_at form h table n
    unfolding entry_at
    entry_formed f = rw (entry_at, ← a, not_false p on, ← c, ← b, f) (ap Some c)

    pub entry_malformed : q ≡ false → None ≡ entry_at form h table n
    unfolding entry_at
    entry_malformed f = rw (entry_at, ← a, not_false p on, ← c, ← b, f)

pub ruleset entries = (entry_unclear, entry_formed, entry_malformed)

id_small : (k : ℕ) → has_id k ≡ true → k ≤ 8
id_small k h = let s = leb-true k 7 (and_r (leb 2 k) (leb k 7) h) in omega arith

-- what it tells of a key and of fields
module _ (e : Entry) {p : Bool} (a : p ≡ has_id e.kind) where
  pub counts_of_map : p ≡ true → true ≡ counts_in_place (entry_of e)
  unfolding counts_in_place
  counts_of_map f = let h = sym a ∙ f in let s = id_small e.kind h in rw (h, le-leb e.kind 8 s)

  module _ (off : p ≡ false) where
    pub fields_undue : (e.field_count ≡ 0 → ⊥) → false ≡ counts_in_place (entry_of e)
    unfolding counts_in_place
    fields_undue n = rw (sym a ∙ off, ne_eqb e.field_count 0 n) (sym (and-false (leb e.kind 8 || eqb e.key_length 0)))

    module _ (z : e.field_count ≡ 0) where
      pub key_due : e.kind ≤ 8 → true ≡ counts_in_place (entry_of e)
      unfolding counts_in_place
      key_due s = rw (sym a ∙ off, z, le-leb e.kind 8 s)

      pub key_undue : 8 < e.kind → eqb e.key_length 0 ≡ counts_in_place (entry_of e)
      unfolding counts_in_place
      key_undue s = rw (sym a ∙ off, z, lt-leb e.kind 8 s) (sym (and-true (eqb e.key_length 0)))

pub ruleset due_counts = (counts_of_map, fields_undue, key_due, key_undue)

-- what a well-formed entry is
pub record Formed (size : ℕ) (e : RuleEntry) : Type 0 where
  pub low : 1 ≤ e.kind
  pub high : e.kind ≤ 10
  pub tag : e.tag ≤ 2
  pub line : e.start + e.length ≤ size
  pub id : e.offset + e.id_length ≤ e.length

tag_two : (k t : ℕ) → eqb t 0 || (eqb k 7 && leb t 2) ≡ true → t ≤ 2
tag_two k t e = elim (test (eqb t 0)) [
  | pass f ↦ omega (arith, eqb-true t 0 f)
  | fail f ↦ leb-true t 2 (and_r (eqb k 7) (leb t 2) (rw f at e))
]

pub formed : (size : ℕ) (e : RuleEntry) → well_formed size e ≡ true → Formed size e
unfolding well_formed
formed size e w =
    let ks = leb 1 e.kind && leb e.kind 10 in
    let ts = eqb e.tag 0 || (eqb e.kind 7 && leb e.tag 2) in
    let is = has_id e.kind || says_no_id e in
    let ls = leb (e.start + e.length) size in
    let is-in = leb (e.offset + e.id_length) e.length in
    let ds = is-in && counts_in_place e in
    let k = and_l ks (ts && (is && (ls && ds))) w in
    let a = and_r ks (ts && (is && (ls && ds))) w in
    let b = and_r ts (is && (ls && ds)) a in
    let c = and_r is (ls && ds) b in
    record {
      low = leb-true 1 e.kind (and_l (leb 1 e.kind) (leb e.kind 10) k);
      high = leb-true e.kind 10 (and_r (leb 1 e.kind) (leb e.kind 10) k);
      tag = tag_two e.kind e.tag (and_l ts (is && (ls && ds)) a);
      line = leb-true (e.start + e.length) size (and_l ls ds c);
      id = leb-true (e.offset + e.id_length) e.length (and_l is-in (counts_in_place e) (and_r ls ds c));
    }

-- an entry that is found: what the words hold, with no bits but its numbers', and well formed
pub record FoundAt (form : Form) (h : Bytes) (table : List ℕ) (n : ℕ) (e : RuleEntry) : Type 0 where
  pub clear : words_clear form table n ≡ true
  pub held : entry_in form table n ≡ e
  pub well : well_formed (length h) e ≡ true

pub found_at : (form : Form) (h : Bytes) (table : List ℕ) (n : ℕ) {e : RuleEntry} → entry_at form h table n ≡ Some e → FoundAt form h table n e
unfolding entry_at
found_at form h table n {e} a = elim (test (words_clear form table n && well_formed (length h) (entry_in form table n))) [
  | pass f ↦
      let i = some_is (rw (entry_at, f) at a) in
      record { clear = and_l (words_clear form table n) _ f; held = i; well = rw i at (and_r (words_clear form table n) _ f) }
  | fail f ↦ none_not (rw (entry_at, f) at a)
]

pub entry_inside : (form : Form) (h : Bytes) (table : List ℕ) (n : ℕ) {e : RuleEntry} → entry_at form h table n ≡ Some e → Formed (length h) e
entry_inside form h table n {e} a = formed (length h) e (found_at form h table n a).well

pub refused_inside : (size : ℕ) → Inside size None
refused_inside size = tt

module _ (form : Form) (h : Bytes) (table : List ℕ) (n : ℕ) {r : Option Entry} (a : entry_meant r ≡ entry_at form h table n) where
  missing : r ≡ None → entry_at form h table n ≡ None
  missing e = sym a ∙ ap entry_meant e

  pub entry_unshown : r ≡ None → answered None ≡ or_refused (shown_entry form h table n)
  entry_unshown e = rw (missing e)

  pub key_unshown : r ≡ None → key_answered None ≡ key_or_refused (shown_key form h table n)
  key_unshown e = rw (missing e)

  pub id_unshown : r ≡ None → answered None ≡ or_refused (shown_id form h table n)
  id_unshown e = rw (missing e)

  module _ {x : Entry} (b : r ≡ Some x) where
    pub found : entry_at form h table n ≡ Some (entry_of x)
    found = sym a ∙ ap entry_meant b

    pub found_inside : Formed (length h) (entry_of x)
    found_inside = entry_inside form h table n found

    pub entry_shown : answered (Some (x.start, x.start + x.length)) ≡ or_refused (shown_entry form h table n)
    entry_shown = rw found

    pub entry_part_inside : Inside (length h) (Some (x.start, x.start + x.length))
    entry_part_inside = let i = found_inside in (omega arith, omega arith)

    pub id_part_inside : Inside (length h) (Some (x.start + x.offset, x.start + x.offset + x.id_length))
    id_part_inside = let i = found_inside in (omega arith, omega arith)

    module _ {q : Bool} (d : q ≡ has_id x.kind) where
      pub id_not_due : not q ≡ true → answered None ≡ or_refused (shown_id form h table n)
      id_not_due e = rw (found, id_part, ← d, not_true q e)

      pub id_shown : not q ≡ false → answered (Some (x.start + x.offset, x.start + x.offset + x.id_length)) ≡ or_refused (shown_id form h table n)
      id_shown e = rw (found, id_part, ← d, not_false q e)

    -- the key, where the form tells it
    module _ {l : Limits} (c : limits_of l ≡ limits_by form) where
      counted_is : (limits_by form).counted ≡ l.counted
      counted_is = sym (ap (λ (y : RuleLimits). y.counted) c)

      pub key_uncounted : not l.counted ≡ true → key_answered None ≡ key_or_refused (shown_key form h table n)
      key_uncounted e = rw (found, entry_key_part, counted_is, not_true l.counted e)

      module _ (on : not l.counted ≡ false) where
        pub key_none : 8 < x.kind → key_answered None ≡ key_or_refused (shown_key form h table n)
        key_none e = rw (found, entry_key_part, counted_is, not_false l.counted on, lt-leb x.kind 8 e)

        module _ (low : x.kind ≤ 8) {q : Bool} (d : q ≡ leb (2 + x.key_length) x.length) where
          pub key_outside : not q ≡ true → key_answered None ≡ key_or_refused (shown_key form h table n)
          key_outside e = rw (found, entry_key_part, counted_is, not_false l.counted on, le-leb x.kind 8 low, ← d, not_true q e)

          pub key_shown_lem : not q ≡ false → key_answered (Some (x.start + 2, x.start + 2 + x.key_length, x.field_count)) ≡ key_or_refused (shown_key form h table n)
          key_shown_lem e = rw (found, entry_key_part, counted_is, not_false l.counted on, le-leb x.kind 8 low, ← d, not_false q e)

    module _ (few : length h * 1 < 2 ^ 63) {q : Bool} (d : q ≡ leb (2 + x.key_length) x.length) (e : not q ≡ false) where
      pub key_start_fits : Fits w64 (x.start + 2)
      key_start_fits =
          let i = found_inside in
          let k = leb-true (2 + x.key_length) x.length (sym d ∙ not_false q e) in
          record { fits = omega arith }

      pub key_end_fits : Fits w64 (x.start + 2 + x.key_length)
      key_end_fits =
          let i = found_inside in
          let k = leb-true (2 + x.key_length) x.length (sym d ∙ not_false q e) in
          record { fits = omega arith }

    pub key_part_inside : {q : Bool} → q ≡ leb (2 + x.key_length) x.length → not q ≡ false → KeyInside (length h) (Some (x.start + 2, x.start + 2 + x.key_length, x.field_count))
    key_part_inside {q} d e =
        let i = found_inside in
        let k = leb-true (2 + x.key_length) x.length (sym d ∙ not_false q e) in
        (omega arith, omega arith)

pub ruleset shown_entries = (entry_unshown, entry_shown, entry_part_inside, refused_inside, found_inside)

pub ruleset shown_ids = (id_unshown, id_not_due, id_shown, id_part_inside, refused_inside, found_inside)

pub key_refused_inside : (size : ℕ) → KeyInside size None
key_refused_inside size = tt

pub ruleset shown_keys = (key_unshown, key_uncounted, key_none, key_outside, key_shown_lem, key_start_fits, key_end_fits, key_part_inside, key_refused_inside, found_inside)

-- The answer

abbrev part_in : Answer RulePart → RulePart
part_in (ok p) = p
part_in (refuse n) = (0, 0)

-- two answers that say the same are one
pub answered_injective : (x y : Option (ℕ × ℕ)) → answered x ≡ answered y → x ≡ y
answered_injective (Some (a, b)) (Some (c, d)) e = ap (λ (x : Answer RulePart). Some ((part_in x).0, (part_in x).1)) e
answered_injective (Some (a, b)) None e = never cc
answered_injective None (Some (c, d)) e = never cc
answered_injective None None e = refl

abbrev key_in : Answer (RulePart × ℕ) → RulePart × ℕ
key_in (ok p) = p
key_in (refuse n) = ((0, 0), 0)

pub key_answered_injective : (x y : Option (ℕ × ℕ × ℕ)) → key_answered x ≡ key_answered y → x ≡ y
key_answered_injective (Some (a, b, n)) (Some (c, d, m)) e =
    ap (λ (z : RulePart × ℕ). Some (z.0.0, z.0.1, z.1)) (ap key_in e)
key_answered_injective (Some (a, b, n)) None e = never cc
key_answered_injective None (Some (c, d, m)) e = never cc
key_answered_injective None None e = refl

says : (o : Option RulePart) → answered (shown_as o) ≡ or_refused o
says None = refl
says (Some p) = refl

-- the answer that says this, and what an answer says
pub answer_is : (r : Option (ℕ × ℕ)) (o : Option RulePart) → answered r ≡ or_refused o → r ≡ shown_as o
answer_is r o a = answered_injective r (shown_as o) (a ∙ sym (says o))

pub answer_says : {r : Option (ℕ × ℕ)} (o : Option RulePart) → r ≡ shown_as o → answered r ≡ or_refused o
answer_says o a = ap answered a ∙ says o

module _ (h : Bytes) {r : Option (ℕ × ℕ)} where
  pub part_bytes : {a b : ℕ} → r ≡ Some (a, b) → {t : Bytes} → t ≡ take (b - a) (drop a h) → t ≡ bytes_of h r
  part_bytes e f = rw e f

  pub no_bytes : r ≡ None → take 0 (drop 0 h) ≡ bytes_of h r
  no_bytes e = rw e

pub ruleset shown_bytes = (part_bytes, no_bytes)
