-- The calls: the ways of the code's tests and answers, on plain values. Assumes nothing.
use Prim.Native.Nat.{ℕ, suc, ◌+◌, ◌-◌, ◌≤◌, ◌<◌}
use native.Mathlib.Omega.{arith}
use mathlib.Core.Path.{◌≡◌, refl, sym, ap, subst, ◌∙◌}
use mathlib.Core.Bool.{Bool, true, false, not, ◌&&◌}
use mathlib.Core.List.{List}
use Rattle.std.specs.Prelude.{Option, None, Some, Result, Ok, Err}
use lib.Dec.{leb}
use lib.ListN.{length, get_or, drop, take, set, length-take, length-set}
use lib.Seq.{sets, length-sets}
use borrow.Author.Tests.{le-leb, lt-leb, leb-true}
use Rattle.values.specs.Bytes.{Bytes}
use Rattle.values.proofs.Lists.{here, drop_past}
use Rattle.values.proofs.Tests.{pass, fail, test, not_true, not_false, and_l, and_r}
use Rattle.rules.specs.Sizes.{Limits}
use Rattle.records.specs.Refusals.{number}
use Rattle.records.specs.declared.refusal.Refusal.{Refusal}
use Rattle.entries.specs.declared.form.Form.{Form}
use Rattle.entries.specs.declared.limits.Limits.{Limits as CodeLimits}
use Rattle.entries.specs.Tables.{all_formed}
use Rattle.entries.specs.Values.{limits_of, limits_by}
use Rattle.lines.specs.Lines.{last_end}
use Rattle.header.specs.Steps.{fits, read_on, table_on}
use Rattle.header.specs.Parsers.{AnswerMeaning, answer_means, spot_in, advance_means, ended_at, refused_at, ReadsOn}
use Rattle.header.specs.declared.parser.ReadAnswer.{ReadAnswer}
use Rattle.header.specs.declared.parser.Parser.{Parser}
use Rattle.header.proofs.Steps.{Fit, fit}
use Rattle.header.proofs.Parsers.{table_length, on_lines, on_length}
use Rattle.header.proofs.Parts.{part_count}
use Rattle.feed.specs.Feeding.{Feeding, Fed, is_sound, unmoved, broken, unless_over, has_room, too_long, so_far, ended_state, open_state, complete_told, complete_table, piece_fed, feed_of, rest_told, rest_fed, close_of}
use Rattle.feed.specs.Calls.{ended_means, state_means, told, feed_means, ReadsComplete, ReadsRest, Leaves, Closes}
use Rattle.feed.specs.declared.cable.FeedState.{FeedState}
use Rattle.feed.specs.declared.cable.FeedAnswer.{FeedAnswer}

-- The state

module _ (form : Form) (s : Feeding) (b t : List ℕ) where
  pub sound_short : length b < s.held → leb s.held (length b) ≡ is_sound form s b t
  unfolding is_sound
  sound_short l = rw (lt-leb s.held (length b) l)

  module _ (l : s.held ≤ length b) {q : Bool} (e : q ≡ fits form s.held t s.spot) where
    pub sound_unfit : q ≡ false → q ≡ is_sound form s b t
    unfolding is_sound
    sound_unfit n = rw (le-leb s.held (length b) l, ← e, n)

    pub sound_formed : q ≡ true → {r : Bool} → r ≡ all_formed form (take s.held b) t 0 s.spot.count → r ≡ is_sound form s b t
    unfolding is_sound
    sound_formed n f = f ∙ rw (le-leb s.held (length b) l, ← e, n)

pub ruleset sounds = (sound_short, sound_unfit, sound_formed, part_count)

-- what a sound state has
pub record Sound (form : Form) (s : Feeding) (b t : List ℕ) : Type 0 where
  pub held : s.held ≤ length b
  pub fit : Fit form s.held t s.spot
  pub formed : all_formed form (take s.held b) t 0 s.spot.count ≡ true

pub sound : (form : Form) (s : Feeding) (b t : List ℕ) → is_sound form s b t ≡ true → Sound form s b t
unfolding is_sound
sound form s b t e =
    let x = leb s.held (length b) in
    let y = fits form s.held t s.spot in
    let z = all_formed form (take s.held b) t 0 s.spot.count in
    record {
      held = leb-true s.held (length b) (and_l x (y && z) e);
      fit = fit form s.held t s.spot (and_l y z (and_r x (y && z) e));
      formed = and_r y z (and_r x (y && z) e);
    }

-- Room

module _ (form : Form) (held : ℕ) (piece b : Bytes) {given : CodeLimits} (g : limits_of given ≡ limits_by form) {q : Bool} (e : q ≡ leb (held + length piece) (length b)) where
  pub no_room : q ≡ false → q ≡ has_room form held piece b
  unfolding has_room
  no_room n = rw (← e, n)

  pub some_room : q ≡ true → {r : Bool} → r ≡ leb (held + length piece) given.header → r ≡ has_room form held piece b
  unfolding has_room
  some_room n f = f ∙ rw (← e, n, ap (λ (x : Limits). x.header) g)

pub ruleset has_rooms = (no_room, some_room)

-- The lines of the bytes held

module _ (form : Form) (s : Feeding) (h t : List ℕ) {end : ℕ} (ee : end ≡ last_end h s.spot.at) {r : Result Parser (Parser × Refusal)} {t' : List ℕ} (c : ReadsOn form s.imposed h end t s.spot r t') where
  complete_told_lem : {x : Result Parser (Parser × Refusal)} → r ≡ x → complete_told form s h t ≡ advance_means x
  complete_told_lem i = sym (sym (ap advance_means i) ∙ c.told ∙ ap (λ (n : ℕ). read_on form s.imposed h n t s.spot) ee)

  complete_table_lem : t' ≡ complete_table form s h t
  complete_table_lem = c.table ∙ ap (λ (n : ℕ). table_on form s.imposed h n t s.spot) ee

  pub complete_ended : {p : Parser} → r ≡ Ok p → {a : FeedAnswer} → feed_means a ≡ told (open_state s.imposed (spot_in p) s.held) (so_far s.held (spot_in p)) → ReadsComplete form s h t a t'
  complete_ended i f = record { answer = f ∙ rw (complete_told_lem i); table = complete_table_lem }

  pub complete_stopped : {p : Parser} {x : Refusal} → r ≡ Err (p, x) → {a : FeedAnswer}
      → feed_means a ≡ told (ended_state s.imposed (spot_in p) s.held (refused_at (number x) (spot_in p))) (refused_at (number x) (spot_in p)) → ReadsComplete form s h t a t'
  complete_stopped i f = record { answer = f ∙ rw (complete_told_lem i); table = complete_table_lem }

pub ruleset completes = (complete_ended, complete_stopped, on_lines, on_length)

module _ (form : Form) (s : Feeding) (h t : List ℕ) {r : Result Parser (Parser × Refusal)} {t' : List ℕ} (c : ReadsOn form s.imposed h s.held t s.spot r t') where
  rest_told_lem : {x : Result Parser (Parser × Refusal)} → r ≡ x → rest_told form s h t ≡ advance_means x
  rest_told_lem i = sym (sym (ap advance_means i) ∙ c.told)

  pub rest_ended : {p : Parser} → r ≡ Ok p → (y : ReadAnswer) → answer_means y ≡ ended_at (spot_in p) → {a : FeedAnswer}
      → feed_means a ≡ told (ended_state s.imposed (spot_in p) s.held (answer_means y)) (answer_means y) → ReadsRest form s h t a t'
  rest_ended i y g f = record { answer = f ∙ rw (rest_told_lem i, g); table = c.table }

  pub rest_stopped : {p : Parser} {x : Refusal} → r ≡ Err (p, x) → {a : FeedAnswer}
      → feed_means a ≡ told (ended_state s.imposed (spot_in p) s.held (refused_at (number x) (spot_in p))) (refused_at (number x) (spot_in p)) → ReadsRest form s h t a t'
  rest_stopped i f = record { answer = f ∙ rw (rest_told_lem i); table = c.table }

pub ruleset rests = (rest_ended, rest_stopped, on_lines, on_length)

-- A piece

-- the loop that copies: the bytes before number k are written
pub record Copying (b₀ piece b : Bytes) (held k : ℕ) : Type 0 where
  pub size : length b ≡ length b₀
  pub still : sets b (held + k) (drop k piece) ≡ sets b₀ held piece

pub copying_start : (b piece : Bytes) (held : ℕ) → Copying b piece b held 0
copying_start b piece held = let e : held + 0 ≡ held = omega arith in record { size = refl; still = rw e }

module _ {b₀ piece b : Bytes} {held k : ℕ} (g : Copying b₀ piece b held k) where
  pub copying_next : k < length piece → Copying b₀ piece (set b (held + k) (get_or piece k 0)) held (k + 1)
  copying_next l =
      let e : held + (k + 1) ≡ suc (held + k) = omega arith in
      record { size = length-set b (held + k) (get_or piece k 0) ∙ g.size; still = rw e (sym (ap (sets b (held + k)) (here piece k l)) ∙ g.still) }

  pub copying_end : length piece ≤ k → b ≡ sets b₀ held piece
  copying_end l = sym (ap (sets b (held + k)) (drop_past piece k l)) ∙ g.still

pub ruleset copyings = (copying_start, copying_next, copying_end)

-- after it was copied
module _ (form : Form) (held : ℕ) (piece b : Bytes) {q : Bool} (e : q ≡ has_room form held piece b) (n : not q ≡ false) where
  pub roomy : held + length piece ≤ length b
  unfolding has_room
  roomy =
      let x = leb (held + length piece) (length b) in
      leb-true (held + length piece) (length b) (and_l x (leb (held + length piece) (limits_by form).header) (sym e ∙ not_false q n))

  module _ {now : ℕ} (p : now ≡ held + length piece) {b' : Bytes} (o : b' ≡ sets b held piece) where
    pub piece_inside : now ≤ length b'
    piece_inside = rw (p, o, length-sets b held piece) roomy

    pub piece_part : length (take now b') ≡ now
    piece_part = simp length-take (omega (arith, piece_inside))

module _ (form : Form) (s : Feeding) (piece b t : List ℕ) {q : Bool} (e : q ≡ has_room form s.held piece b) where
  pub piece_long : not q ≡ true → (r : FeedAnswer) → feed_means r ≡ told (ended_state s.imposed s.spot s.held (too_long s.spot)) (too_long s.spot) → Leaves (piece_fed form s piece b t) r b t
  unfolding piece_fed
  piece_long n r f =
      let z : has_room form s.held piece b ≡ false = sym e ∙ not_true q n in
      rw (piece_fed, z) (record { answer = f; buffer = refl; table = refl })

  module _ (n : not q ≡ false) {now : ℕ} (p : now ≡ s.held + length piece) {b' : Bytes} (o : b' ≡ sets b s.held piece) where
    pub piece_taken : {r : FeedAnswer} {t' : List ℕ} → ReadsComplete form (open_state s.imposed s.spot now) (take now b') t r t' → Leaves (piece_fed form s piece b t) r b' t'
    unfolding piece_fed
    piece_taken {r} {t'} c =
        let z : has_room form s.held piece b ≡ true = sym e ∙ not_false q n in
        let d = subst (λ (x : Bytes). ReadsComplete form (open_state s.imposed s.spot now) (take now x) t r t') o c in
        let k = subst (λ (i : ℕ). ReadsComplete form (open_state s.imposed s.spot i) (take i (sets b s.held piece)) t r t') p d in
        rw (piece_fed, z) (record { answer = k.answer; buffer = o; table = k.table })

pub complete_length : {form : Form} {s : Feeding} {h t : List ℕ} {r : FeedAnswer} {t' : List ℕ} → ReadsComplete form s h t r t' → length t' ≡ length t
complete_length {form} {s} {h} {t} c = ap length c.table ∙ table_length form s.imposed h (last_end h s.spot.at) t s.spot

pub rest_length : {form : Form} {s : Feeding} {h t : List ℕ} {r : FeedAnswer} {t' : List ℕ} → ReadsRest form s h t r t' → length t' ≡ length t
rest_length {form} {s} {h} {t} c = ap length c.table ∙ table_length form s.imposed h s.held t s.spot

pub piece_length : (b : Bytes) (held : ℕ) (piece : Bytes) {b' : Bytes} → b' ≡ sets b held piece → length b' ≡ length b
piece_length b held piece o = ap length o ∙ length-sets b held piece

pub ruleset pieces = (piece_long, roomy, piece_inside, piece_part, piece_length, piece_taken, complete_length)

-- The calls

-- by the state: broken, ended, or any other
module _ (s : Feeding) (b t : List ℕ) (next : Fed) where
  over_broken : {q : Bool} → q ≡ false → (o : Option AnswerMeaning) → unless_over q s b t o next ≡ unmoved s broken b t
  over_broken e o = rw e

  over_ended : {q : Bool} → q ≡ true → {o : Option AnswerMeaning} {a : AnswerMeaning} → o ≡ Some a → unless_over q s b t o next ≡ unmoved s a b t
  over_ended e f = rw (e, f)

  over_open : {q : Bool} → q ≡ true → {o : Option AnswerMeaning} → o ≡ None → unless_over q s b t o next ≡ next
  over_open e f = rw (e, f)

module _ (form : Form) (s : Feeding) (piece b t : List ℕ) where
  pub feed_when_broken : is_sound form s b t ≡ false → feed_of form s piece b t ≡ unmoved s broken b t
  unfolding feed_of
  feed_when_broken e = over_broken s b t (piece_fed form s piece b t) e s.ended

  pub feed_when_over : is_sound form s b t ≡ true → {a : AnswerMeaning} → s.ended ≡ Some a → feed_of form s piece b t ≡ unmoved s a b t
  unfolding feed_of
  feed_when_over e f = over_ended s b t (piece_fed form s piece b t) e f

  pub feed_when_open : is_sound form s b t ≡ true → s.ended ≡ None → feed_of form s piece b t ≡ piece_fed form s piece b t
  unfolding feed_of
  feed_when_open e f = over_open s b t (piece_fed form s piece b t) e f

module _ (form : Form) (s : Feeding) (b t : List ℕ) where
  pub close_when_broken : is_sound form s b t ≡ false → close_of form s b t ≡ unmoved s broken b t
  unfolding close_of
  close_when_broken e = over_broken s b t (rest_fed form s b t) e s.ended

  pub close_when_over : is_sound form s b t ≡ true → {a : AnswerMeaning} → s.ended ≡ Some a → close_of form s b t ≡ unmoved s a b t
  unfolding close_of
  close_when_over e f = over_ended s b t (rest_fed form s b t) e f

  pub close_when_open : is_sound form s b t ≡ true → s.ended ≡ None → close_of form s b t ≡ rest_fed form s b t
  unfolding close_of
  close_when_open e f = over_open s b t (rest_fed form s b t) e f

module _ (form : Form) (x : FeedState) (b t : List ℕ) {q : Bool} (e : q ≡ is_sound form (state_means x) b t) where
  abbrev s : Feeding
  s = state_means x

  abbrev leaves : Fed → FeedAnswer → Type 0
  leaves y r = Leaves y r b t

  abbrev closes : Fed → FeedAnswer → Type 0
  closes y r = Closes y r t

  module _ (n : not q ≡ true) (r : FeedAnswer) (f : feed_means r ≡ told s broken) where
    pub feed_broken : (piece : Bytes) → Leaves (feed_of form s piece b t) r b t
    feed_broken piece = subst (λ (y : Fed). leaves y r) (sym (feed_when_broken form s piece b t (sym e ∙ not_true q n))) (record { answer = f; buffer = refl; table = refl })

    pub close_broken : Closes (close_of form s b t) r t
    close_broken = subst (λ (y : Fed). closes y r) (sym (close_when_broken form s b t (sym e ∙ not_true q n))) (record { answer = f; table = refl })

  module _ (n : not q ≡ false) where
    sure : is_sound form s b t ≡ true
    sure = sym e ∙ not_false q n

    pub held_inside : x.held ≤ length b
    held_inside = (sound form s b t sure).held

    pub held_part : length (take x.held b) ≡ x.held
    held_part = part_count b x.held held_inside

    module _ {a : ReadAnswer} (i : x.ended ≡ Some a) (r : FeedAnswer) (f : feed_means r ≡ told s (answer_means a)) where
      pub feed_over : (piece : Bytes) → Leaves (feed_of form s piece b t) r b t
      feed_over piece = subst (λ (y : Fed). leaves y r) (sym (feed_when_over form s piece b t sure (ap ended_means i))) (record { answer = f; buffer = refl; table = refl })

      pub close_over : Closes (close_of form s b t) r t
      close_over = subst (λ (y : Fed). closes y r) (sym (close_when_over form s b t sure (ap ended_means i))) (record { answer = f; table = refl })

    module _ (i : x.ended ≡ None) {r : FeedAnswer} {t' : List ℕ} where
      pub feed_taken : (piece : Bytes) {b' : Bytes} → Leaves (piece_fed form s piece b t) r b' t' → Leaves (feed_of form s piece b t) r b' t'
      feed_taken piece {b'} c = subst (λ (y : Fed). Leaves y r b' t') (sym (feed_when_open form s piece b t sure (ap ended_means i))) c

      pub close_read : ReadsRest form s (take x.held b) t r t' → Closes (close_of form s b t) r t'
      close_read c = subst (λ (y : Fed). Closes y r t') (sym (close_when_open form s b t sure (ap ended_means i))) (record { answer = c.answer; table = c.table })

pub piece_fed_length : (form : Form) (s : Feeding) (piece b t : List ℕ) → (length (piece_fed form s piece b t).buffer ≡ length b) × (length (piece_fed form s piece b t).table ≡ length t)
unfolding piece_fed
piece_fed_length form s piece b t = elim (test (has_room form s.held piece b)) [
  | pass e ↦ rw (piece_fed, e) (length-sets b s.held piece, table_length form s.imposed (take (s.held + length piece) (sets b s.held piece)) (last_end (take (s.held + length piece) (sets b s.held piece)) s.spot.at) t s.spot)
  | fail e ↦ rw (piece_fed, e) (refl, refl)
]

module _ (form : Form) (s : Feeding) (piece b t : List ℕ) {r : FeedAnswer} {b' t' : List ℕ} (c : Leaves (piece_fed form s piece b t) r b' t') where
  pub taken_buffer : length b' ≡ length b
  taken_buffer = ap length c.buffer ∙ (piece_fed_length form s piece b t).0

  pub taken_table : length t' ≡ length t
  taken_table = ap length c.table ∙ (piece_fed_length form s piece b t).1

pub ruleset feeds = (feed_broken, feed_over, feed_taken, taken_buffer, taken_table)

pub ruleset closings = (close_broken, close_over, close_read, held_inside, held_part, rest_length)
