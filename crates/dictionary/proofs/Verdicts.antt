-- What the place of a line tells: where it clashes the dictionary clashes, and else one line more is numbered. Assumes nothing.
use Prim.Native.Nat.{ℕ, ◌+◌}
use mathlib.Core.Path.{◌≡◌, refl, sym, ap, subst, ◌∙◌}
use mathlib.Core.Bool.{Bool, true, false, not, ◌||◌, true≢false, false≢true, or_comm, or-false}
use mathlib.Core.List.{List, [], ◌∷◌, ◌++◌, append_assoc, append-nil, map-append}
use Rattle.std.specs.Prelude.{Option, None, Some}
use lib.ListN.{length, length-append}
use Rattle.values.specs.Bytes.{Bytes, ascii, same}
use Rattle.values.proofs.Tests.{pass, fail, test, or_l, or_r, or_on, not_false}
use Rattle.rules.specs.Known.{is_in}
use Rattle.rules.specs.Map.{is_some}
use Rattle.rules.proofs.Alls.{in_append}
use Rattle.dictionary.specs.Dictionary.{Line, carries, lacks, any_of, implied, first_lines, ids_of, place, id_number, Numbered, implied_numbers, clashes, clashed, numbered_lines, dictionary_clash}
use Rattle.dictionary.specs.Places.{idx_named, number_seen, new_place, again_place, place_beside, indexed_place, counted_place, place_by}
use Rattle.dictionary.specs.Lines.{is_idx}
use Rattle.dictionary.specs.Pairs.{Uniform, first_number}
use Rattle.dictionary.specs.declared.line.Dictionary.{Dictionary}
use Rattle.dictionary.specs.declared.line.Dictionary.TheVariants.{Strings, Contigs}
use Rattle.dictionary.specs.declared.place.Placed.{Placed}
use Rattle.dictionary.specs.declared.place.Placed.TheVariants.{Numbered as Given, Due, Again, Clash}
use Rattle.dictionary.proofs.Firsts.{any_append, ids, first_new, first_old, first_ids, onto, in_onto, first_append, place_same, place_new}
use Rattle.dictionary.proofs.Theorems.{placed_number, counted_free}
use Rattle.dictionary.proofs.Going.{named_none, named_some, Free, is_pair, free_has, idx_number, clashes_new, named_pair, named_clash, Carrying}

-- Where lines carry IDX: `book` are the numbers before
pub record Indexed (d : Dictionary) (ls before left : List Line) : Type 0 where
  pub book : List Numbered
  pub alike : (t : Numbered → Bool) → any_of t book ≡ any_of t (numbered_lines d ls before)
  pub free : Free book
  pub rest : dictionary_clash d ls ≡ clashed (book ++ implied_numbers d) (numbered_lines d ls left)

-- where they don't, the next number is due
abbrev pub Mode : Bool → Dictionary → List Line → List Line → List Line → ℕ → Type 0
Mode true d ls before left next = Indexed d ls before left
Mode false d ls before left next = next ≡ length (ids_of d before)

-- what a place tells of the line l
abbrev pub VerdictIs : Bool → Dictionary → List Line → List Line → Line → List Line → ℕ → Placed → Type 0
VerdictIs i d ls before l left next (Given n) =
    (is_in l.id (ids before) ≡ false) × (n ≡ id_number d ls l) × Mode i d ls (before ++ l ∷ []) left next
VerdictIs i d ls before l left next Due =
    (is_in l.id (ids before) ≡ false) × (next ≡ id_number d ls l) × Mode i d ls (before ++ l ∷ []) left (next + 1)
VerdictIs i d ls before l left next Again = (is_in l.id (ids before) ≡ true) × Mode i d ls (before ++ l ∷ []) left next
VerdictIs i d ls before l left next Clash = dictionary_clash d ls ≡ true

module _ (d : Dictionary) (ls before : List Line) (l : Line) (left : List Line) where
  -- With IDX

  module _ (g : Indexed d ls before (l ∷ left)) {n : ℕ} (en : l.idx ≡ Some n) where
    abbrev p : Numbered
    p = (l.id, n)

    p_is : (l.id, id_number d ls l) ≡ p
    p_is = ap (λ (k : ℕ). (l.id, k)) (idx_number d ls l en)

    opened : dictionary_clash d ls ≡ (any_of (clashes p) g.book || any_of (clashes p) (implied_numbers d)) || clashed (p ∷ (g.book ++ implied_numbers d)) (numbered_lines d ls left)
    unfolding clashed
    opened = g.rest ∙ rw (p_is, any_append (clashes p) g.book (implied_numbers d))

    by_implied : any_of (clashes p) (implied_numbers d) ≡ true → dictionary_clash d ls ≡ true
    by_implied h = opened ∙ rw (or_on (any_of (clashes p) g.book) h)

    by_book : any_of (clashes p) (numbered_lines d ls before) ≡ true → dictionary_clash d ls ≡ true
    by_book h = opened ∙ rw (g.alike (clashes p) ∙ h)

    onward : any_of (clashes p) (implied_numbers d) ≡ false → any_of (clashes p) g.book ≡ false → Indexed d ls (before ++ l ∷ []) left
    unfolding any_of
    onward h k = record {
      book = p ∷ g.book;
      alike = λ t.
          let a : any_of t (numbered_lines d ls (before ++ l ∷ [])) ≡ any_of t (numbered_lines d ls before) || t p
          = ap (any_of t) (map-append (λ (m : Line). (m.id, id_number d ls m)) before (l ∷ [])) ∙ any_append t (numbered_lines d ls before) (numbered_lines d ls (l ∷ [])) ∙ rw (p_is, or-false (t p)) in
          rw (g.alike t) (or_comm (t p) (any_of t (numbered_lines d ls before)) ∙ sym a);
      free = (k, g.free);
      rest = opened ∙ rw (h, k);
    }

    module _ (carry : Carrying d ls before) (next : ℕ) where
      abbrev taken : ℕ → Bool
      taken m = number_seen m before

      abbrev Tells : Placed → Type 0
      Tells r = VerdictIs true d ls before l left next r

      beside_none : idx_named l.id before ≡ None → any_of (clashes p) (implied_numbers d) ≡ false → Tells (new_place n (taken n))
      beside_none e h =
          let out = named_none l.id before e in
          let c = clashes_new d ls l.id n before carry out in
          elim (test (number_seen n before)) [
            | pass s ↦ rw s (by_book (c ∙ s))
            | fail s ↦ rw s (out, sym (idx_number d ls l en), onward h (g.alike (clashes p) ∙ c ∙ s))
          ]

      beside_some : {m : Option ℕ} → idx_named l.id before ≡ Some m → any_of (clashes p) (implied_numbers d) ≡ false → Tells (again_place (is_idx n m))
      beside_some {m} e h = elim (test (is_idx n m)) [
        | pass s ↦ rw s (named_some l.id before e, onward h (free_has p g.book g.free (g.alike (is_pair p) ∙ named_pair d ls l.id n before carry e s)))
        | fail s ↦ rw s (by_book (named_clash d ls l.id n before carry e s))
      ]

      beside : (o : Option (Option ℕ)) → idx_named l.id before ≡ o → any_of (clashes p) (implied_numbers d) ≡ false → Tells (place_beside n o (taken n))
      beside None e h = beside_none e h
      beside (Some m) e h = beside_some e h

      pub indexed_tells : Tells (indexed_place d l.id l.idx (idx_named l.id before) taken)
      indexed_tells = elim (test (any_of (clashes p) (implied_numbers d))) [
        | pass h ↦
            let i : indexed_place d l.id (Some n) (idx_named l.id before) taken ≡ Clash = rw (indexed_place, h) in
            subst Tells (sym (place_is ∙ i)) (by_implied h)
        | fail h ↦
            let i : indexed_place d l.id (Some n) (idx_named l.id before) taken ≡ place_beside n (idx_named l.id before) (taken n) = rw (indexed_place, h) in
            subst Tells (sym (place_is ∙ i)) (beside (idx_named l.id before) refl h)
      ]
        where
          place_is : indexed_place d l.id l.idx (idx_named l.id before) taken ≡ indexed_place d l.id (Some n) (idx_named l.id before) taken
          place_is = ap (λ (o : Option ℕ). indexed_place d l.id o (idx_named l.id before) taken) en

  -- Without IDX

  module _ (split : ls ≡ before ++ l ∷ left) (bare : l.idx ≡ None) where
    abbrev firsts : List Line
    firsts = first_lines (implied d) before

    among : is_in l.id (onto before (implied d)) ≡ (is_in l.id (ids before) || is_in l.id (implied d))
    among = in_onto l.id before (implied d)

    ids_kept : is_in l.id (ids before) || is_in l.id (implied d) ≡ true → ids_of d (before ++ l ∷ []) ≡ ids_of d before
    unfolding first_lines
    ids_kept h =
        let f = first_append (implied d) before (l ∷ []) ∙ ap (firsts ++◌) (first_old (onto before (implied d)) l [] (among ∙ h)) ∙ append-nil firsts in
        ap (λ (ms : List Line). implied d ++ ids ms) f

    ids_more : (more : List Line) → is_in l.id (ids before) ≡ false → is_in l.id (implied d) ≡ false
        → ids_of d (before ++ l ∷ more) ≡ ids_of d before ++ l.id ∷ ids (first_lines (l.id ∷ onto before (implied d)) more)
    ids_more more a b =
        let rest = first_lines (l.id ∷ onto before (implied d)) more in
        let f = first_append (implied d) before (l ∷ more) ∙ ap (firsts ++◌) (first_new (onto before (implied d)) l more (among ∙ rw (a, b))) in
        ap (λ (ms : List Line). implied d ++ ids ms) f ∙ ap (implied d ++◌) (map-append (λ (m : Line). m.id) firsts (l ∷ rest))
        ∙ sym (append_assoc (implied d) (ids firsts) (l.id ∷ ids rest))

    number_due : is_in l.id (ids before) ≡ false → is_in l.id (implied d) ≡ false → id_number d ls l ≡ length (ids_of d before)
    number_due a b =
        let out : is_in l.id (ids_of d before) ≡ false = in_append l.id (implied d) (ids firsts) ∙ rw (b, first_ids l.id (implied d) before b, a) in
        placed_number d ls l bare ∙ ap (λ (ms : List Line). place l.id (ids_of d ms)) split ∙ ap (place l.id) (ids_more left a b)
        ∙ place_new l.id (ids_of d before) (ids (first_lines (l.id ∷ onto before (implied d)) left)) out

    zero_place : (d' : Dictionary) (xs : List Bytes) → is_in l.id (implied d') ≡ true → place l.id (implied d' ++ xs) ≡ 0
    unfolding is_in
    zero_place Strings xs h = place_same l.id (ascii "PASS") xs (sym (or-false (same (ascii "PASS") l.id)) ∙ h)
    zero_place Contigs xs h = absurd (false≢true h)

    number_zero : is_in l.id (implied d) ≡ true → id_number d ls l ≡ 0
    number_zero h = placed_number d ls l bare ∙ zero_place d (ids (first_lines (implied d) ls)) h

    module _ {next : ℕ} (en : next ≡ length (ids_of d before)) where
      counted_by : (o : Option (Option ℕ)) → idx_named l.id before ≡ o → VerdictIs false d ls before l left next (counted_place (is_in l.id (implied d)) o)
      unfolding first_lines
      counted_by (Some m) e = let i = named_some l.id before e in (i, en ∙ sym (ap length (ids_kept (rw i))))
      counted_by None e = let out = named_none l.id before e in elim (test (is_in l.id (implied d))) [
        | pass h ↦ rw h (out, sym (number_zero h), en ∙ sym (ap length (ids_kept (or_on (is_in l.id (ids before)) h))))
        | fail h ↦ rw h (out, en ∙ sym (number_due out h), one_more (ap length (ids_more [] out h)))
      ]
        where
          one_more : length (ids_of d (before ++ l ∷ [])) ≡ length (ids_of d before ++ l.id ∷ ids (first_lines (l.id ∷ onto before (implied d)) [])) → next + 1 ≡ length (ids_of d (before ++ l ∷ []))
          one_more q = sym (q ∙ length-append (ids_of d before) (l.id ∷ []) ∙ ap (◌+ 1) (sym en))

      pub counted_tells : VerdictIs false d ls before l left next (counted_place (is_in l.id (implied d)) (idx_named l.id before))
      counted_tells = counted_by (idx_named l.id before) refl

  -- Either way

  lacking_none : (ms : List Line) → any_of lacks ms ≡ false → Carrying d ls ms
  unfolding any_of
  lacking_none [] h = tt
  lacking_none (m ∷ ms) h = (not_false (carries m) (or_l (lacks m) (any_of lacks ms) h), lacking_none ms (or_r (lacks m) (any_of lacks ms) h))

  uniform_here : (t : Line → Bool) → ls ≡ before ++ l ∷ left → any_of t ls ≡ false → (any_of t before ≡ false) × (t l ≡ false)
  unfolding any_of
  uniform_here t e h =
      let a : (any_of t before || (t l || any_of t left)) ≡ false = sym (ap (any_of t) e ∙ any_append t before (l ∷ left)) ∙ h in
      (or_l (any_of t before) (t l || any_of t left) a, or_l (t l) (any_of t left) (or_r (any_of t before) (t l || any_of t left) a))

  the_idx : (o : Option ℕ) → l.idx ≡ o → not (is_some o) ≡ false → (n : ℕ) × (l.idx ≡ Some n)
  the_idx None e h = absurd (true≢false h)
  the_idx (Some n) e h = (n, e)

  no_idx : (o : Option ℕ) → l.idx ≡ o → is_some o ≡ false → l.idx ≡ None
  no_idx None e h = e
  no_idx (Some n) e h = absurd (true≢false h)

  pub verdict : (indexed : Bool) → Uniform indexed ls → ls ≡ before ++ l ∷ left → (next : ℕ) → Mode indexed d ls before (l ∷ left) next
      → VerdictIs indexed d ls before l left next (place_by indexed d l.id l.idx (idx_named l.id before) (λ (m : ℕ). number_seen m before))
  verdict true u e next g =
      let a = uniform_here lacks e u in
      let i = the_idx l.idx refl a.1 in
      indexed_tells g i.1 (lacking_none before a.0) next
  verdict false u e next g = let a = uniform_here carries e u in counted_tells e (no_idx l.idx refl a.1) g

-- Nothing is known of the lines before where there are none

first_number_lem : (d : Dictionary) → first_number d ≡ length (implied d ++ [])
first_number_lem Strings = refl
first_number_lem Contigs = refl

pub mode_start : (indexed : Bool) (d : Dictionary) (ls : List Line) → Mode indexed d ls [] ls (first_number d)
unfolding any_of dictionary_clash first_lines
mode_start true d ls = record { book = []; alike = λ t. refl; free = tt; rest = refl }
mode_start false d ls = first_number_lem d

-- where no line is left there is no clash
pub mode_end : (indexed : Bool) (d : Dictionary) (ls before : List Line) (next : ℕ) → Uniform indexed ls → Mode indexed d ls before [] next → dictionary_clash d ls ≡ false
unfolding clashed
mode_end true d ls before next u g = g.rest
mode_end false d ls before next u g = counted_free d ls u
