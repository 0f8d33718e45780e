-- Document 02, §8: a header that fits is read the same however it is cut. Assumes nothing.
use Prim.Native.Nat.{ℕ, zero, suc, ◌+◌, ◌≤◌, ◌<◌}
use native.Mathlib.Omega.{arith}
use mathlib.Core.Path.{◌≡◌, refl, sym, ap, ap₂, subst, ◌∙◌}
use mathlib.Core.Bool.{true}
use mathlib.Core.List.{List, [], ◌∷◌, ◌++◌, append_assoc, append-nil}
use Rattle.std.specs.Prelude.{Option, None, Some}
use lib.Dec.{leb}
use lib.ListN.{length, take, drop, length-append}
use lib.Seq.{sets, length-sets, sets-eq, take-append_seam, drop-append_seam}
use borrow.Author.Tests.{le-leb}
use Rattle.values.specs.Bytes.{Bytes}
use Rattle.values.proofs.Lists.{some_is, none_not}
use Rattle.rules.specs.Sizes.{Limits}
use Rattle.rules.specs.Version.{Version}
use Rattle.rules.specs.Lines.{pieces}
use Rattle.rules.specs.Entry.{Entry}
use Rattle.rules.specs.Claims.{All, nth, joined}
use Rattle.rules.proofs.Stands.{Stands}
use Rattle.entries.specs.declared.form.Form.{Form}
use Rattle.entries.specs.Values.{limits_by}
use Rattle.entries.specs.Tables.{room, stored, first_entries, entries_in, entry_at, all_formed}
use Rattle.entries.proofs.Stored.{stored_room, stored_more, stored_none, entry_stored, entries_stored, storable}
use Rattle.lines.specs.Lines.{end_of, last_end}
use Rattle.lines.proofs.Ends.{end_length, end_drop, end_more}
use Rattle.header.specs.Steps.{Went, start_point, go_on, Spot, fits, point_of, spot_of, went_on, told_by, read_on, table_on}
use Rattle.header.specs.Parsers.{AnswerMeaning, reading_means, read_into, refused_at, closed_at}
use Rattle.header.proofs.Steps.{Fit, fitting, go_none, Inside, Further, goes_inside}
use Rattle.header.proofs.Extends.{extends, ends_by, on_to, goes_on}
use Rattle.header.proofs.Whole.{whole}
use Rattle.feed.specs.Feeding.{Feeding, Fed, start_of, is_sound, unmoved, has_room, state_by, answer_by, complete_told, complete_table, piece_fed, feed_of, close_of, feed_all}
use Rattle.feed.specs.Calls.{state_means, Answered, feed_means, Sent, closed, fed}
use Rattle.feed.specs.declared.cable.FeedState.{FeedState}
use Rattle.feed.specs.declared.cable.FeedAnswer.{FeedAnswer}
use Rattle.feed.proofs.Calls.{feed_when_over, feed_when_open, close_when_over, close_when_open}

data Stop (o : Option ℕ) : Type 0 where
  unstopped : o ≡ None → Stop o
  stopped_by : (n : ℕ) → o ≡ Some n → Stop o

stop_of_lem : (o : Option ℕ) → Stop o
stop_of_lem None = unstopped refl
stop_of_lem (Some n) = stopped_by n refl

module _ (form : Form) (imposed : Option Version) (t₀ : List ℕ) where
  abbrev lim : Limits
  lim = limits_by form

  abbrev size : ℕ
  size = room form t₀

  -- what the complete lines of the bytes c give, and what all lines give
  abbrev complete_lines : Bytes → Went
  complete_lines c = go_on lim imposed size c (end_of c) start_point (pieces c)

  abbrev all_lines : Bytes → Went
  all_lines h = go_on lim imposed size h (length h) start_point (pieces h)

  start_inside : (h : Bytes) → Inside lim size h start_point
  start_inside h = record { at = omega arith; line = omega arith; roomy = omega arith }

  further : (c : Bytes) → Further lim size c start_point (complete_lines c)
  further c = goes_inside lim imposed size c (end_of c) start_point (pieces c) (start_inside c) refl

  stand : (c : Bytes) → All (Stands lim (length c)) (complete_lines c).point.entries
  stand c = let f = further c in subst (All (Stands lim (length c))) (sym f.more) f.stand

  -- the final answer that a stop gives
  abbrev over_by : Option ℕ → Spot → Option AnswerMeaning
  over_by None p = None
  over_by (Some n) p = Some (refused_at n p)

  -- the state after lines
  by_version : (o : Option ℕ) (n : ℕ) (p : Spot) → (state_by imposed n o p).imposed ≡ imposed
  by_version None n p = refl
  by_version (Some m) n p = refl

  by_held : (o : Option ℕ) (n : ℕ) (p : Spot) → (state_by imposed n o p).held ≡ n
  by_held None n p = refl
  by_held (Some m) n p = refl

  by_spot : (o : Option ℕ) (n : ℕ) (p : Spot) → (state_by imposed n o p).spot ≡ p
  by_spot None n p = refl
  by_spot (Some m) n p = refl

  by_over : (o : Option ℕ) (n : ℕ) (p : Spot) → (state_by imposed n o p).ended ≡ over_by o (state_by imposed n o p).spot
  by_over None n p = refl
  by_over (Some m) n p = refl

  -- after the bytes c: the state, the buffer and the table are what the complete lines of c give
  pub record After (c : Bytes) (s : Feeding) (b t : List ℕ) : Type 0 where
    pub version : s.imposed ≡ imposed
    pub held : s.held ≡ length c
    pub spot : s.spot ≡ spot_of (complete_lines c).point
    pub over : s.ended ≡ over_by (complete_lines c).stop s.spot
    pub buffer : take (length c) b ≡ c
    pub long : length c ≤ length b
    pub small : length c ≤ lim.header
    pub table : t ≡ stored form t₀ 0 (complete_lines c).point.entries

  -- Such a state is sound

  formed_from : (h t : List ℕ) (n k : ℕ) → ((i : ℕ) → i < n + k → (e : Entry) × (entry_at form h t i ≡ Some e)) → all_formed form h t n k ≡ true
  unfolding all_formed
  formed_from h t n zero f = refl
  formed_from h t n (suc k) f = rw ((f n (omega arith)).1, formed_from h t (n + 1) k (λ i l. f i (omega arith)))

  nth_there : (es : List Entry) (i : ℕ) → i < length es → (e : Entry) × (nth es i ≡ Some e)
  nth_there [] i l = absurd (omega arith)
  nth_there (e ∷ es) zero l = (e, refl)
  nth_there (e ∷ es) (suc i) l = nth_there es i (omega arith)

  stands_nth : (n : ℕ) (es : List Entry) (i : ℕ) {e : Entry} → All (Stands lim n) es → nth es i ≡ Some e → Stands lim n e
  stands_nth n [] i a f = none_not f
  stands_nth n (x ∷ es) zero a f = subst (Stands lim n) (some_is f) a.0
  stands_nth n (x ∷ es) (suc i) a f = stands_nth n es i a.1 f

  module _ {c : Bytes} {s : Feeding} {b t : List ℕ} (a : After c s b t) where
    abbrev es : List Entry
    es = (complete_lines c).point.entries

    roomy : length es ≤ size
    roomy = (further c).inside.roomy

    same_room : room form t ≡ size
    same_room = ap (room form) a.table ∙ stored_room form t₀ 0 es

    fit_at : (n : ℕ) → length c ≤ n → n ≤ lim.header → Fit form n t s.spot
    fit_at n l m =
        let f = (further c).inside in
        rw a.spot (record { header = m; count = rw same_room roomy; at = omega (arith, f.at); line = f.line })

    found : (i : ℕ) → i < length es → (e : Entry) × (entry_at form c t i ≡ Some e)
    found i l =
        let n = nth_there es i l in
        let st = stands_nth (length c) es i (stand c) n.1 in
        (n.0, rw a.table (entry_stored form t₀ es i roomy n.1 c (storable form a.small n.0 st) st.formed))

    pub honest : is_sound form s b t ≡ true
    unfolding is_sound
    honest =
        let k : leb s.held (length b) ≡ true = le-leb s.held (length b) (rw a.held a.long) in
        let f : fits form s.held t s.spot ≡ true = rw a.held (fitting form (length c) t s.spot (fit_at (length c) (omega arith) a.small)) in
        let w : all_formed form (take s.held b) t 0 s.spot.count ≡ true
        = rw (a.held, a.buffer, a.spot) (formed_from c t 0 (length es) (λ i l. found i (omega arith))) in
        rw (k, f, w)

    -- the point that the table holds
    point_is : point_of form t s.spot ≡ (complete_lines c).point
    point_is =
        let k : entries_in form (first_entries form t (length es)) ≡ es = rw a.table (entries_stored form a.small t₀ es refl roomy (stand c)) in
        rw (a.spot, k)

    -- The lines of more bytes

    module _ (x : Bytes) where
      abbrev more : Bytes
      more = c ++ x

      longer : length c ≤ length more
      longer = rw (length-append c x) (omega arith)

      goes : (end : ℕ) → end_of c ≤ end → go_on lim imposed size more end start_point (pieces more) ≡ on_to lim imposed size more end (complete_lines c).stop (complete_lines c).point
      goes end l =
          let g = extends lim imposed size c x (end_of c) (omega arith) (pieces c) start_point (start_inside c) tt refl in
          goes_on lim imposed size more (end_of c) end l (pieces more) start_point (start_inside more) refl ∙ rw g

      -- where no line is refused yet
      module _ (goes-still : (complete_lines c).stop ≡ None) (small : length more ≤ lim.header) (end : ℕ) (l : end_of c ≤ end) where
        abbrev went : Went
        went = go_on lim imposed size more end start_point (pieces more)

        on_from : go_on lim imposed size more end (complete_lines c).point (pieces (drop (complete_lines c).point.at more)) ≡ went
        on_from = sym (goes end l ∙ rw goes-still)

        went_is : went_on form imposed more end t s.spot ≡ went
        went_is = rw (same_room, point_is, a.spot) on_from

        fits_more : fits form (length more) t s.spot ≡ true
        fits_more = fitting form (length more) t s.spot (fit_at (length more) longer small)

        told_is : read_on form s.imposed more end t s.spot ≡ told_by went
        unfolding read_on
        told_is = rw (read_on, fits_more, a.version, went_is)

        table_is : table_on form s.imposed more end t s.spot ≡ stored form t₀ 0 went.point.entries
        unfolding table_on
        table_is =
            let i = (further c).inside in
            let q = (complete_lines c).point in
            let f = goes_inside lim imposed size more end q (pieces (drop q.at more)) (record { at = omega (arith, i.at, longer); line = i.line; roomy = i.roomy }) refl in
            let new : went.point.entries ≡ es ++ f.new = ap (λ (w : Went). w.point.entries) (sym on_from) ∙ f.more in
            rw (table_on, fits_more, a.version, went_is, a.spot) (
            ap₂ (λ (u : List ℕ) (fs : List Entry). stored form u (length es) (drop (length es) fs)) a.table new
            ∙ ap (stored form (stored form t₀ 0 es) (length es)) (drop-append_seam es f.new)
            ∙ stored_more form t₀ 0 es f.new (omega arith)
            ∙ ap (stored form t₀ 0) (sym new))

      -- A piece

      module _ (goes-still : (complete_lines c).stop ≡ None) (small : length more ≤ lim.header) (fits-buffer : length more ≤ length b) where
        abbrev lines : Went
        lines = complete_lines more

        -- what feeding it leaves
        abbrev left : Fed
        left = record {
          state = state_by imposed (length more) lines.stop (spot_of lines.point);
          answer = answer_by (length more) lines.stop (spot_of lines.point);
          buffer = sets b (length c) x;
          table = stored form t₀ 0 lines.point.entries;
        }

        both : length c + length x ≡ length more
        both = sym (length-append c x)

        has_room_lem : has_room form s.held x b ≡ true
        unfolding has_room
        has_room_lem = rw (a.held, both, le-leb (length more) (length b) fits-buffer, le-leb (length more) lim.header small)

        copied : take (length more) (sets b (length c) x) ≡ more
        copied =
            let e : sets b (length c) x ≡ more ++ drop (length c + length x) b = sets-eq x b (length c) (omega (arith, both, fits-buffer)) ∙ ap (λ (y : Bytes). y ++ x ++ drop (length c + length x) b) a.buffer in
            ap (take (length more)) e ∙ take-append_seam more (drop (length c + length x) b)

        -- the complete lines are those up to the last LF
        at_end_lem : last_end more s.spot.at ≡ end_of more
        at_end_lem =
            let e : s.spot.at ≤ end_of c = rw a.spot (ends_by lim imposed size c (pieces c) start_point (start_inside c) (omega arith) refl) in
            sym (end_drop s.spot.at more (omega (arith, e, end_more c x)))

        told_lines : complete_told form s more t ≡ told_by lines
        told_lines = rw at_end_lem (told_is goes-still small (end_of more) (end_more c x))

        table_lines_lem : complete_table form s more t ≡ stored form t₀ 0 lines.point.entries
        table_lines_lem = rw at_end_lem (table_is goes-still small (end_of more) (end_more c x))

        fed_is : feed_of form s x b t ≡ left
        unfolding piece_fed
        fed_is =
            let e : s.ended ≡ None = a.over ∙ rw goes-still in
            feed_when_open form s x b t honest e ∙ rw (piece_fed, has_room_lem, a.held, both, copied, told_lines, table_lines_lem, a.version)

        pub fed_buffer : length (feed_of form s x b t).buffer ≡ length b
        fed_buffer = ap (λ (y : Fed). length y.buffer) fed_is ∙ length-sets b (length c) x

        pub fed_more : After more (feed_of form s x b t).state (feed_of form s x b t).buffer (feed_of form s x b t).table
        fed_more = subst (λ (y : Fed). After more y.state y.buffer y.table) (sym fed_is) (record {
          version = by_version lines.stop (length more) (spot_of lines.point);
          held = by_held lines.stop (length more) (spot_of lines.point);
          spot = by_spot lines.stop (length more) (spot_of lines.point);
          over = by_over lines.stop (length more) (spot_of lines.point);
          buffer = copied;
          long = rw (length-sets b (length c) x) fits-buffer;
          small = small;
          table = refl;
        })

  -- One piece after the other

  -- an ended state stays as it is
  all_over : (s : Feeding) (b t : List ℕ) → is_sound form s b t ≡ true → {a : AnswerMeaning} → s.ended ≡ Some a → (xs : List Bytes) → feed_all form s xs b t ≡ unmoved s a b t
  unfolding feed_all
  all_over s b t e f [] = close_when_over form s b t e f
  all_over s b t e f (x ∷ xs) =
      ap (λ (y : Fed). feed_all form y.state xs y.buffer y.table) (feed_when_over form s x b t e f) ∙ all_over s b t e f xs

  -- the answer and the table of reading all lines
  pub record Reads (h : Bytes) (y : Fed) : Type 0 where
    pub answer : y.answer ≡ closed_at (told_by (all_lines h))
    pub table : y.table ≡ stored form t₀ 0 (all_lines h).point.entries

  -- the end, where no line is refused
  close_reads : {c : Bytes} {s : Feeding} {b t : List ℕ} (a : After c s b t) → (complete_lines c).stop ≡ None → Reads c (close_of form s b t)
  close_reads {c} {s} {b} {t} a e =
      let z : c ++ [] ≡ c = append-nil c in
      let l = end_length c in
      let k : length (c ++ []) ≤ lim.header = rw z a.small in
      let told-c : read_on form s.imposed c (length c) t s.spot ≡ told_by (all_lines c)
      = subst (λ (y : Bytes). read_on form s.imposed y (length c) t s.spot ≡ told_by (go_on lim imposed size y (length c) start_point (pieces y))) z (told_is a [] e k (length c) l) in
      let table-c : table_on form s.imposed c (length c) t s.spot ≡ stored form t₀ 0 (all_lines c).point.entries
      = subst (λ (y : Bytes). table_on form s.imposed y (length c) t s.spot ≡ stored form t₀ 0 (go_on lim imposed size y (length c) start_point (pieces y)).point.entries) z (table_is a [] e k (length c) l) in
      subst (Reads c) (sym (close_when_open form s b t (honest a) (a.over ∙ rw e))) (record { answer = rw (a.held, a.buffer) (ap closed_at told-c); table = rw (a.held, a.buffer) table-c })

  -- where a line was refused
  over_reads : (xs : List Bytes) {c : Bytes} {s : Feeding} {b t : List ℕ} (a : After c s b t) (n : ℕ) → (complete_lines c).stop ≡ Some n → (y : Bytes) → Reads (c ++ y) (feed_all form s xs b t)
  over_reads xs {c} {s} {b} {t} a n e y =
      let l = end_length c in
      let w : all_lines (c ++ y) ≡ record { stop = Some n; point = (complete_lines c).point } = goes a y (length (c ++ y)) (omega (arith, l, longer a y)) ∙ rw e in
      let over-now : s.ended ≡ Some (refused_at n s.spot) = a.over ∙ rw e in
      subst (Reads (c ++ y)) (sym (all_over s b t (honest a) over-now xs)) (record { answer = rw (w, a.spot); table = rw w a.table })

  fed_reads : (xs : List Bytes) (c : Bytes) (s : Feeding) (b t : List ℕ) → After c s b t → length (c ++ joined xs) ≤ length b → length (c ++ joined xs) ≤ lim.header → Reads (c ++ joined xs) (feed_all form s xs b t)
  unfolding feed_all joined
  fed_reads [] c s b t a l m = elim (stop_of_lem (complete_lines c).stop) [
    | stopped_by n e ↦ over_reads [] a n e []
    | unstopped e ↦ subst (λ (y : Bytes). Reads y (close_of form s b t)) (sym (append-nil c)) (close_reads a e)
  ]
  fed_reads (x ∷ xs) c s b t a l m = elim (stop_of_lem (complete_lines c).stop) [
    | stopped_by n e ↦ over_reads (x ∷ xs) a n e (x ++ joined xs)
    | unstopped e ↦
        let z : (c ++ x) ++ joined xs ≡ c ++ (x ++ joined xs) = append_assoc c x (joined xs) in
        let k : length (c ++ (x ++ joined xs)) ≡ length (c ++ x) + length (joined xs) = ap length (sym z) ∙ length-append (c ++ x) (joined xs) in
        let fed = fed_more a x e (omega (arith, k)) (omega (arith, k)) in
        let long = fed_buffer a x e (omega (arith, k)) (omega (arith, k)) in
        subst (λ (y : Bytes). Reads y (feed_all form s (x ∷ xs) b t)) z (fed_reads xs (c ++ x) (feed_of form s x b t).state (feed_of form s x b t).buffer (feed_of form s x b t).table fed (rw z (omega (arith, long))) (rw z m))
  ]

  -- before the first piece
  before_any : (b : Bytes) → After [] (start_of imposed) b t₀
  unfolding end_of pieces
  before_any b = record {
    version = refl;
    held = refl;
    spot = rw (go_none lim imposed size [] 0 start_point);
    over = rw (go_none lim imposed size [] 0 start_point);
    buffer = refl;
    long = omega arith;
    small = omega arith;
    table = rw (go_none lim imposed size [] 0 start_point) (sym (stored_none form t₀ 0));
  }

-- A header in pieces that fits the buffer and the limit: the answer and the table are those of reading it whole
pub cut_anyhow : (form : Form) (imposed : Option Version) (xs : List Bytes) (b t : List ℕ) → length (joined xs) ≤ length b → length (joined xs) ≤ (limits_by form).header
    → ((feed_all form (start_of imposed) xs b t).answer ≡ reading_means (read_into form imposed t (joined xs)))
    × ((feed_all form (start_of imposed) xs b t).table ≡ stored form t 0 (read_into form imposed t (joined xs)).entries)
cut_anyhow form imposed xs b t l m =
    let r = fed_reads form imposed t xs [] (start_of imposed) b t (before_any form imposed t b) l m in
    let w = whole (limits_by form) imposed (room form t) (joined xs) m in
    (r.answer ∙ sym w.answer, r.table ∙ ap (stored form t 0) (sym w.entries))

-- The same of the calls

sent_is : (form : Form) (s : FeedState) (xs : List Bytes) (b t : List ℕ) {r : FeedAnswer} {t' : List ℕ} → Sent form s xs b t r t'
    → ((feed_means r).answer ≡ (feed_all form (state_means s) xs b t).answer) × (t' ≡ (feed_all form (state_means s) xs b t).table)
unfolding feed_all
sent_is form s [] b t (closed c) = (ap (λ (x : Answered). x.answer) c.answer, c.table)
sent_is form s (x ∷ xs) b t {r} {t'} (fed {b₁ = b₁} {t₁ = t₁} {q = q} c d) =
    let k = sent_is form q.state xs b₁ t₁ d in
    let e : state_means q.state ≡ (feed_of form (state_means s) x b t).state = ap (λ (y : Answered). y.state) c.answer in
    let z : feed_all form (state_means q.state) xs b₁ t₁ ≡ feed_all form (feed_of form (state_means s) x b t).state xs (feed_of form (state_means s) x b t).buffer (feed_of form (state_means s) x b t).table
    = ap (λ (y : Feeding). feed_all form y xs b₁ t₁) e ∙ ap₂ (λ (u v : List ℕ). feed_all form (feed_of form (state_means s) x b t).state xs u v) c.buffer c.table in
    (k.0 ∙ ap (λ (y : Fed). y.answer) z, k.1 ∙ ap (λ (y : Fed). y.table) z)

pub calls_cut_anyhow : (form : Form) (imposed : Option Version) (s : FeedState) → state_means s ≡ start_of imposed → (xs : List Bytes) (b t : List ℕ) → length (joined xs) ≤ length b → length (joined xs) ≤ (limits_by form).header
    → {r : FeedAnswer} {t' : List ℕ} → Sent form s xs b t r t'
    → ((feed_means r).answer ≡ reading_means (read_into form imposed t (joined xs))) × (t' ≡ stored form t 0 (read_into form imposed t (joined xs)).entries)
calls_cut_anyhow form imposed s start xs b t l m d =
    let k = sent_is form s xs b t d in
    let c = cut_anyhow form imposed xs b t l m in
    (k.0 ∙ rw start c.0, k.1 ∙ rw start c.1)
