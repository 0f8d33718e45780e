-- A long header in parts: the entries that were kept are well formed in the bytes before a part, so that its lines are read there as they are
-- in the whole header. Assumes nothing.
use Prim.Native.Nat.{ℕ, zero, suc, ◌+◌, ◌-◌, ◌≤◌, ◌<◌}
use native.Mathlib.Omega.{arith}
use mathlib.Core.Path.{◌≡◌, refl, sym, ap, ap₂, subst, ◌∙◌}
use mathlib.Core.Bool.{Bool, true, false, ◌&&◌}
use mathlib.Core.List.{List, ◌++◌, append_assoc}
use Rattle.std.specs.Prelude.{Option, None, Some, Result, Ok, Err}
use lib.ListN.{length, take, drop, length-append, length-take, take-append-drop}
use Rattle.values.specs.Bytes.{Bytes}
use Rattle.values.proofs.Tests.{pass, fail, test, and_l, and_r}
use Rattle.rules.specs.Sizes.{Limits}
use Rattle.rules.specs.Version.{Version}
use Rattle.rules.specs.Lines.{pieces}
use Rattle.rules.specs.Entry.{Entry}
use Rattle.rules.specs.Shown.{well_formed}
use Rattle.rules.specs.Claims.{All}
use Rattle.rules.proofs.Alls.{all_append, all_map}
use Rattle.rules.proofs.Stands.{Stands}
use Rattle.records.specs.Refusals.{number}
use Rattle.records.specs.declared.refusal.Refusal.{Refusal}
use Rattle.entries.specs.declared.form.Form.{Form}
use Rattle.entries.specs.Values.{limits_by}
use Rattle.entries.specs.Tables.{room, stored, first_entries, entry_in, entries_in, words_clear, entry_at, is_found, all_formed}
use Rattle.entries.proofs.Words.{Storable}
use Rattle.entries.proofs.Stored.{entries_here, first_entries_lem, stored_room, stored_length, stored_more, entries_more, storable}
use Rattle.entries.proofs.Calls.{Formed, formed}
use Rattle.lines.specs.Lines.{end_of, last_end}
use Rattle.lines.proofs.Ends.{cut_inside, cut_later, cut_ends}
use Rattle.header.specs.Steps.{Point, Went, go_on, Spot, Told, fits, point_of, spot_of, went_on, told_by, read_on, table_on}
use Rattle.header.specs.Parsers.{spot_in, advance_means, ReadsOn}
use Rattle.header.specs.Parts.{BeginsParts, MayPart}
use Rattle.header.specs.declared.parser.Parser.{Parser}
use Rattle.header.proofs.Steps.{Fit, fit, fitting, Inside, Further, goes_inside}
use Rattle.header.proofs.Parsers.{spot_count, drop_front, went_inside, on_inside, on_length}
use Rattle.header.proofs.Extends.{all_formed_lem, extends, on_to, goes_on}

-- The entries that are well formed

module _ (form : Form) (h t : List ℕ) where
  found_formed : (n : ℕ) → is_found (entry_at form h t n) ≡ true → Formed (length h) (entry_in form t n)
  unfolding entry_at
  found_formed n e = elim (test (words_clear form t n && well_formed (length h) (entry_in form t n))) [
    | pass f ↦ formed (length h) (entry_in form t n) (and_r (words_clear form t n) (well_formed (length h) (entry_in form t n)) f)
    | fail f ↦ let z : false ≡ true = rw (entry_at, f) at e in let y : ◌≡◌ {A = ℕ} 0 1 = cc in absurd (omega arith)
  ]

  formed_from : (n k : ℕ) → n + k ≤ room form t → all_formed form h t n k ≡ true → All (Formed (length h)) (take k (drop n (entries_in form t)))
  unfolding all_formed
  formed_from n zero l e = tt
  formed_from n (suc k) l e =
      let a = is_found (entry_at form h t n) in
      let b = all_formed form h t (n + 1) k in
      rw (entries_here form t n (omega arith)) (found_formed n (and_l a b e), formed_from (n + 1) k (omega arith) (and_r a b e))

  -- the entries of a spot
  spot_formed : (s : Spot) → s.count ≤ room form t → all_formed form h t 0 s.count ≡ true → All (Formed (length h)) (point_of form t s).entries
  spot_formed s l e = rw (first_entries_lem form t s.count) (formed_from 0 s.count (omega arith) e)

formed_up : (m n : ℕ) → m ≤ n → (es : List Entry) → All (Formed m) es → All (Formed n) es
formed_up m n l es a = all_map (Formed m) (Formed n) es (λ e f. record { low = f.low; high = f.high; tag = f.tag; line = omega (arith, f.line); id = f.id }) a

-- a part of a header
pub part_count : (h : Bytes) (n : ℕ) → n ≤ length h → length (take n h) ≡ n
part_count h n l = simp length-take (omega arith)

-- The parts, one after the other

fit_up : (form : Form) (m n : ℕ) (t : List ℕ) (s : Spot) → Fit form m t s → m ≤ n → n ≤ (limits_by form).header → Fit form n t s
fit_up form m n t s f l k = record { header = k; count = f.count; at = omega (arith, f.at); line = f.line }

module _ (form : Form) (imposed : Option Version) (h : Bytes) (end : ℕ) (t₀ : List ℕ) (s₀ : Spot) where
  -- what is left of the lines, read from here, is what is left of those from the spot where reading began; the entries lie before `reach`
  pub record Parting (t : List ℕ) (s : Spot) (reach : ℕ) : Type 0 where
    pub ahead : reach ≤ end
    pub inside : end ≤ length h
    pub small : length h ≤ (limits_by form).header
    pub fit_here : Fit form reach t s
    pub formed_here : All (Formed reach) (point_of form t s).entries
    pub long : length t ≡ length t₀
    pub told : read_on form imposed h end t s ≡ read_on form imposed h end t₀ s₀
    pub table : table_on form imposed h end t s ≡ table_on form imposed h end t₀ s₀

  pub parting_start : {s : Spot} → s₀ ≡ s → BeginsParts form h end t₀ s₀ → Parting t₀ s s.at
  parting_start {s} e b =
      let f = fit form (length h) t₀ s₀ b.fit in
      let n : length (take s₀.at h) ≡ s₀.at = simp length-take (omega (arith, f.at)) in
      let a = spot_formed form (take s₀.at h) t₀ s₀ f.count b.formed in
      subst (λ (x : Spot). Parting t₀ x x.at) e (record {
        ahead = b.ahead;
        inside = b.inside;
        small = f.header;
        fit_here = record { header = omega (arith, f.header, f.at); count = f.count; at = omega arith; line = f.line };
        formed_here = rw n at a;
        long = refl;
        told = refl;
        table = refl;
      })

  module _ {t : List ℕ} {s : Spot} {reach : ℕ} (g : Parting t s reach) where
    pub parting_long : length t ≡ length t₀
    parting_long = g.long

    pub parting_ahead : reach ≤ end
    parting_ahead = g.ahead

    fits_at : (n : ℕ) → reach ≤ n → n ≤ length h → Fit form n t s
    fits_at n l m = fit_up form reach n t s g.fit_here l (omega (arith, g.small))

    pub parting_fits : fits form (length h) t s ≡ true
    parting_fits = fitting form (length h) t s (fits_at (length h) (omega (arith, g.ahead, g.inside)) (omega arith))

    -- the rest
    pub parting_end : {r : Result Parser (Parser × Refusal)} {t' : List ℕ} → ReadsOn form imposed h end t s r t' → ReadsOn form imposed h end t₀ s₀ r t'
    parting_end c = record { told = c.told ∙ g.told; table = c.table ∙ g.table }

    -- no line ends there
    parting_past : {next : ℕ} → reach ≤ next → next ≤ end → Parting t s next
    parting_past {next} l m = record {
      ahead = m;
      inside = g.inside;
      small = g.small;
      fit_here = fits_at next l (omega (arith, g.inside));
      formed_here = formed_up reach next l (point_of form t s).entries g.formed_here;
      long = g.long;
      told = g.told;
      table = g.table;
    }

    -- the lines up to a cut after an LF
    module _ {cut : ℕ} (later : reach ≤ cut) (before : cut ≤ end) (whole-lines : end_of (take cut h) ≡ cut) where
      abbrev lim : Limits
      lim = limits_by form

      abbrev size : ℕ
      size = room form t

      abbrev part : Bytes
      part = take cut h

      abbrev from : Point
      from = point_of form t s

      within : cut ≤ length h
      within = omega (arith, before, g.inside)

      part_long : length part ≡ cut
      part_long = simp length-take (omega (arith, within))

      part_fits_lem : fits form (length part) t s ≡ true
      part_fits_lem = rw part_long (fitting form cut t s (fits_at cut later within))

      from_count : length from.entries ≡ s.count
      from_count = spot_count form t s.count g.fit_here.count

      from_inside : (n : ℕ) (x : Bytes) → length x ≡ n → reach ≤ n → Inside lim size x from
      from_inside n x e l = record { at = omega (arith, e, g.fit_here.at); line = g.fit_here.line; roomy = omega (arith, from_count, g.fit_here.count) }

      abbrev went : Went
      went = went_on form imposed part cut t s

      same_lines : went_on form imposed h cut t s ≡ went
      same_lines =
          let a = formed_up reach cut later from.entries g.formed_here in
          let f : All (Formed (length part)) from.entries = rw part_long a in
          let i = from_inside cut part part_long later in
          let short : cut ≤ end_of part = omega (arith, whole-lines) in
          let x = extends lim imposed size part (drop cut h) cut short (pieces (drop s.at part)) from i f refl in
          subst (λ (y : Bytes). go_on lim imposed size y cut from (pieces (drop s.at y)) ≡ went) (take-append-drop cut h) x

      goes : went_on form imposed h end t s ≡ on_to lim imposed size h end went.stop went.point
      goes =
          let i = from_inside (length h) h refl (omega (arith, g.ahead, g.inside)) in
          goes_on lim imposed size h cut end before (pieces (drop s.at h)) from i refl
          ∙ ap (λ (w : Went). on_to lim imposed size h end w.stop w.point) same_lines

      further : Further lim size part from went
      further = went_inside form imposed part cut t s (fit form (length part) t s part_fits_lem)

      new_are : drop s.count went.point.entries ≡ further.new
      new_are = ap (drop s.count) further.more ∙ drop_front from.entries further.new s.count from_count

      fits_whole : fits form (length h) t s ≡ true
      fits_whole = parting_fits

      module _ {r : Result Parser (Parser × Refusal)} {t' : List ℕ} (c : ReadsOn form imposed part cut t s r t') where
        told_went : advance_means r ≡ told_by went
        unfolding read_on
        told_went = c.told ∙ rw (read_on, part_fits_lem)

        table_went : t' ≡ stored form t s.count further.new
        unfolding table_on
        table_went = c.table ∙ rw (table_on, part_fits_lem, new_are)

        -- a line was refused
        parting_stop : {p : Parser} {x : Refusal} → r ≡ Err (p, x) → ReadsOn form imposed h end t₀ s₀ r t'
        unfolding read_on table_on
        parting_stop {p} {x} e =
            let stopped : went.stop ≡ Some (number x) = sym (ap (λ (y : Told). y.stop) (sym (ap advance_means e) ∙ told_went)) in
            let all : went_on form imposed h end t s ≡ went = goes ∙ stays went.stop went.point stopped in
            record {
              told = told_went ∙ rw (← all) (sym (rw (read_on, fits_whole))) ∙ g.told;
              table = table_went ∙ rw (← new_are, ← all) (sym (rw (table_on, fits_whole))) ∙ g.table;
            }
          where
            stays : (o : Option ℕ) (q : Point) {n : ℕ} → o ≡ Some n → on_to lim imposed size h end o q ≡ record { stop = o; point = q }
            stays o q f = rw f

        -- all were kept
        module _ {p : Parser} (e : r ≡ Ok p) where
          spot_is : spot_in p ≡ spot_of went.point
          spot_is = ap (λ (y : Told). y.spot) (sym (ap advance_means e) ∙ told_went)

          unstopped : went.stop ≡ None
          unstopped = sym (ap (λ (y : Told). y.stop) (sym (ap advance_means e) ∙ told_went))

          counted : p.count ≡ s.count + length further.new
          counted = ap (λ (y : Spot). y.count) spot_is ∙ ap length further.more ∙ length-append from.entries further.new ∙ ap (◌+ length further.new) from_count

          roomy : p.count ≤ size
          roomy = rw (ap (λ (y : Spot). y.count) spot_is) further.inside.roomy

          same_room : room form t' ≡ size
          same_room = ap (room form) table_went ∙ stored_room form t s.count further.new

          entries_are : (point_of form t' (spot_in p)).entries ≡ went.point.entries
          entries_are =
              let a = all_map (Stands lim (length part)) (Storable form) further.new (storable form (rw part_long (omega (arith, within, g.small)))) further.stand in
              ap (λ (y : List ℕ). entries_in form (first_entries form y p.count)) table_went ∙ entries_more form t s.count further.new counted roomy a ∙ sym further.more

          point_is : point_of form t' (spot_in p) ≡ went.point
          point_is = ap₂ (λ (y : Spot) (es : List Entry). record { stage = y.stage; line = y.line; at = y.at; entries = es }) spot_is entries_are

          at_is : p.at ≡ went.point.at
          at_is = ap (λ (y : Spot). y.at) spot_is

          abbrev rest : Went
          rest = go_on lim imposed size h end went.point (pieces (drop went.point.at h))

          from_there : went_on form imposed h end t' (spot_in p) ≡ rest
          from_there = rw (same_room, point_is, at_is)

          from_here : went_on form imposed h end t s ≡ rest
          from_here = goes ∙ rw unstopped

          fit_cut : Fit form cut t' (spot_in p)
          fit_cut =
              let i = further.inside in
              let l : p.line ≡ went.point.line = ap (λ (y : Spot). y.line) spot_is in
              record {
                header = omega (arith, within, g.small);
                count = rw same_room roomy;
                at = omega (arith, at_is, i.at, part_long);
                line = omega (arith, at_is, l, i.line);
              }

          fits_there : fits form (length h) t' (spot_in p) ≡ true
          fits_there = fitting form (length h) t' (spot_in p) (fit_up form cut (length h) t' (spot_in p) fit_cut within g.small)

          further_rest : Further lim size h went.point rest
          further_rest =
              let i = further.inside in
              goes_inside lim imposed size h end went.point (pieces (drop went.point.at h)) (record { at = omega (arith, i.at, part_long, within); line = i.line; roomy = i.roomy }) refl

          after : drop p.count rest.point.entries ≡ further_rest.new
          after = ap (drop p.count) further_rest.more ∙ drop_front went.point.entries further_rest.new p.count (sym (ap (λ (y : Spot). y.count) spot_is))

          both : drop s.count rest.point.entries ≡ further.new ++ further_rest.new
          both =
              ap (drop s.count) (further_rest.more ∙ ap (◌++ further_rest.new) further.more ∙ append_assoc from.entries further.new further_rest.new)
              ∙ drop_front from.entries (further.new ++ further_rest.new) s.count from_count

          parting_next : Parting t' (spot_in p) cut
          unfolding read_on table_on
          parting_next = record {
            ahead = before;
            inside = g.inside;
            small = g.small;
            fit_here = fit_cut;
            formed_here = rw (entries_are, further.more)
                (all_append (Formed cut) from.entries further.new (formed_up reach cut later from.entries g.formed_here) (all_formed_lem lim cut further.new (rw part_long at further.stand)));
            long = ap length table_went ∙ stored_length form t s.count further.new ∙ g.long;
            told = rw (read_on, fits_there, from_there) (sym (rw (read_on, fits_whole, from_here))) ∙ g.told;
            table = rw (table_on, fits_there, from_there, after) (ap (λ (y : List ℕ). stored form y p.count further_rest.new) table_went ∙ stored_more form t s.count further.new further_rest.new counted
                ∙ sym (rw (table_on, fits_whole, from_here, both))) ∙ g.table;
          }

-- a part of so many bytes, cut after its last LF
module _ {form : Form} {imposed : Option Version} {h : Bytes} {end : ℕ} {t₀ t : List ℕ} {s₀ s : Spot} {reach : ℕ} (g : Parting form imposed h end t₀ s₀ t s reach) (l : 1179648 ≤ end - reach) where
  pub far_inside : reach + 1048576 ≤ length h
  far_inside = omega (arith, g.ahead, g.inside)

  pub far_past : Parting form imposed h end t₀ s₀ t s (reach + 1048576)
  far_past = parting_past form imposed h end t₀ s₀ g (omega arith) (omega (arith, g.ahead))

  pub far_less : end - (reach + 1048576) < end - reach
  far_less = omega (arith, g.ahead)

  module _ {cut : ℕ} (e : cut ≡ last_end (take (reach + 1048576) h) reach) where
    cut_before : cut ≤ end
    cut_before = let i = cut_inside h (reach + 1048576) reach (omega arith) far_inside e in omega (arith, i, g.ahead)

    later : reach ≤ cut
    later = cut_later h (reach + 1048576) reach (omega arith) far_inside e

    pub cut_within : cut ≤ length h
    cut_within = omega (arith, cut_before, g.inside)

    module _ (n : cut ≡ reach → ⊥) where
      ends : end_of (take cut h) ≡ cut
      ends = cut_ends h (reach + 1048576) reach (omega arith) far_inside e n

      pub cut_fits : fits form (length (take cut h)) t s ≡ true
      cut_fits = part_fits_lem form imposed h end t₀ s₀ g later cut_before ends

      pub cut_less : end - cut < end - reach
      cut_less = omega (arith, later, cut_before, n)

      module _ {r : Result Parser (Parser × Refusal)} {t' : List ℕ} (c : ReadsOn form imposed (take cut h) cut t s r t') where
        pub cut_stops : {p : Parser} {x : Refusal} → r ≡ Err (p, x) → ReadsOn form imposed h end t₀ s₀ (Err (p, x)) t'
        cut_stops i = subst (λ (y : Result Parser (Parser × Refusal)). ReadsOn form imposed h end t₀ s₀ y t') i (parting_stop form imposed h end t₀ s₀ g later cut_before ends c i)

        pub cut_next : {p : Parser} → r ≡ Ok p → Parting form imposed h end t₀ s₀ t' (spot_in p) cut
        cut_next i = parting_next form imposed h end t₀ s₀ g later cut_before ends c i

pub ruleset partings = (parting_start, parting_long, parting_ahead, parting_fits, parting_end, far_inside, far_past, far_less, cut_within, cut_fits, cut_less, cut_stops, cut_next, part_count, on_length)

-- Whether it is read in parts

module _ (form : Form) (h : Bytes) (end : ℕ) (t : List ℕ) (s : Spot) where
  pub part_not : MayPart form h end t s false
  part_not = record { is = λ e. let y : ◌≡◌ {A = ℕ} 0 1 = cc in absurd (omega arith) }

  pub part_formed : fits form (length h) t s ≡ true → s.at ≤ end → end ≤ length h → {r : Bool} → r ≡ all_formed form (take s.at h) t 0 s.count → MayPart form h end t s r
  part_formed f l m e = record { is = λ i. record { fit = f; formed = sym e ∙ i; ahead = l; inside = m } }

pub ruleset May-part = (part_not, part_formed, part_count, on_inside)
