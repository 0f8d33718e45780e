-- Maps: the code's tests of what stands around the fields. Assumes nothing.
use Rattle.std.specs.Prelude.{Option, Some, None, Result, Ok, Err}
use Prim.Native.Nat.{ℕ, ◌+◌, ◌-◌, ◌≤◌, ◌<◌}
use native.Mathlib.Omega.{arith}
use mathlib.Core.Path.{◌≡◌, refl, sym, ap, subst, ◌∙◌}
use mathlib.Core.Bool.{Bool, true, false, not, ◌||◌, ◌&&◌}
use mathlib.Core.List.{List, [], ◌∷◌}
use lib.Dec.{eqb}
use lib.ListN.{length, drop, take, get_or, drop_of_length-le}
use borrow.Author.Tests.{eq-eqb, ne_eqb}
use Rattle.values.specs.Bytes.{Bytes, ascii, is, empty, begins, starts}
use Rattle.values.specs.Places.{cursor_at, separator_at}
use Rattle.values.specs.declared.cursor.Cursor.{Cursor}
use Rattle.values.proofs.Lists.{here, rest, Stands, there, past, stands}
use Rattle.values.proofs.Fields.{placed_comma, placed_other}
use Rattle.rules.specs.Version.{Version, v4_3, earlier}
use Rattle.rules.specs.Map.{done, wrong, after}
use Rattle.rules.specs.Record.{looks_map}
use Rattle.records.specs.Maps.{opens_at, closes_as_map, closes_at, after_placed, after_at, Checked, raw_refusal, put_slot}
use Rattle.values.specs.Value.{meaning}
use Rattle.values.specs.Integer.{u64_read}
use Rattle.rules.specs.Spelling.{is_odd, odd_value}
use Rattle.rules.specs.Answer.{unless}
use Rattle.rules.specs.Known.{Kind, is_info, is_in, letters, types}
use Rattle.records.specs.Refusals.{number}
use Rattle.records.specs.Tags.{tag_row}
use Rattle.records.specs.Numbers.{is_count, letters_of, types_of}
use Rattle.records.specs.declared.number.Letters.{Letters}
use Rattle.records.specs.declared.refusal.Refusal.{Refusal}
use Rattle.records.specs.declared.refusal.Refusal.TheVariants.{InvalidNumber, InvalidType, InvalidInteger}
use Rattle.records.specs.declared.tag.Tag.{Tag}
use Rattle.records.specs.declared.tag.Tag.TheVariants.{Id, Number, ValueType, Description, Length, Md5, Url, Idx, Other}
use Rattle.records.specs.declared.map.Slots.{Slots}
use Rattle.records.specs.declared.map.After.TheVariants as afters
use Rattle.values.specs.declared.string.Text.{Text}

begins_starts : (x : Bytes) → starts (ascii "<") x ≡ begins 60 x
unfolding starts begins
begins_starts [] = refl
begins_starts (b ∷ bs) = go (eqb b 60)
  where
    go : (q : Bool) → elim q [ true ↦ true | false ↦ false ] ≡ q
    go true = refl
    go false = refl

module _ (s : Bytes) (at : ℕ) (v : Version) {p : Bytes} (a : p ≡ take (length s - at) (drop at s)) {e : Bool} (b : e ≡ earlier v v4_3) where
  pub older_map : e ≡ true → {q : Bool} → q ≡ starts (ascii "<ID=") p → q ≡ looks_map v (drop at s)
  unfolding looks_map
  older_map f c = rw (looks_map, sym b ∙ f, ← rest s at, ← a) c

  pub newer_map : e ≡ false → {q : Bool} → q ≡ starts (ascii "<") p → q ≡ looks_map v (drop at s)
  unfolding looks_map
  newer_map f c = rw (looks_map, sym b ∙ f, ← rest s at, ← a, ← begins_starts p) c

pub ruleset looks = (older_map, newer_map)

module _ (s : Bytes) (at : ℕ) where
  pub open_past : length s ≤ at → None ≡ opens_at s at
  unfolding begins
  open_past h = rw (drop_of_length-le s h)

  pub open_here : at < length s → get_or s at 0 ≡ 60 → Some (cursor_at (at + 1)) ≡ opens_at s at
  unfolding begins
  open_here h e = rw (here s at h, begins, eq-eqb (get_or s at 0) 60 e)

  pub open_other : at < length s → (get_or s at 0 ≡ 60 → ⊥) → None ≡ opens_at s at
  unfolding begins
  open_other h n = rw (here s at h, begins, ne_eqb (get_or s at 0) 60 n)

  pub close_past : length s ≤ at → false ≡ closes_at s at
  close_past h = rw (drop_of_length-le s h)

  pub close_other : at < length s → (get_or s at 0 ≡ 62 → ⊥) → false ≡ closes_at s at
  close_other h n = rw (here s at h, ne_eqb (get_or s at 0) 62 n)

  pub close_last : at < length s → get_or s at 0 ≡ 62 → eqb (at + 1) (length s) ≡ closes_at s at
  close_last h e = rw (here s at h, eq-eqb (get_or s at 0) 62 e) (last (stands s (at + 1)))
    where
      last : Stands s (at + 1) → eqb (at + 1) (length s) ≡ empty (drop (at + 1) s)
      last (there l) = rw (here s (at + 1) l) (ne_eqb (at + 1) (length s) (λ z. absurd (omega arith)))
      last (past l) = rw (drop_of_length-le s l) (eq-eqb (at + 1) (length s) (omega arith))

pub ruleset opens = (open_past, open_here, open_other)

pub ruleset closings = (close_past, close_other, close_last)

comma_after : (at : ℕ) (x : Bytes) → begins 44 x ≡ true → afters.More (cursor_at (at + 1)) ≡ after_placed at (after x)
unfolding after begins
comma_after at [] e = cc
comma_after at (b ∷ x) e = rw (after, e)

no_comma : (at : ℕ) (x : Bytes) → begins 44 x ≡ false → after_placed at (after x) ≡ elim (closes_as_map x) [ true ↦ afters.Closed | false ↦ afters.Other ]
unfolding after begins
no_comma at [] e = refl
no_comma at (b ∷ x) e = rw (after, e) (go (is 62 b && empty x))
  where
    go : (q : Bool) → after_placed at (elim q [ true ↦ done | false ↦ wrong ]) ≡ elim q [ true ↦ afters.Closed | false ↦ afters.Other ]
    go true = refl
    go false = refl

module _ (s : Bytes) (c : Cursor) {r : Option Cursor} (a : r ≡ separator_at s c.at) where
  pub after_comma : {d : Cursor} → r ≡ Some d → afters.More d ≡ after_at s c.at
  unfolding separator_at
  after_comma e =
      let p = placed_comma c.at (begins 44 (drop c.at s)) (sym a ∙ e) in
      rw (← p.1) (comma_after c.at (drop c.at s) p.0)

  module _ (e : r ≡ None) {q : Bool} (b : q ≡ closes_at s c.at) where
    uncomma : after_at s c.at ≡ elim (closes_as_map (drop c.at s)) [ true ↦ afters.Closed | false ↦ afters.Other ]
    unfolding separator_at
    uncomma = no_comma c.at (drop c.at s) (placed_other c.at (begins 44 (drop c.at s)) (sym a ∙ e))

    pub after_closed : q ≡ true → afters.Closed ≡ after_at s c.at
    after_closed f = rw (uncomma, sym b ∙ f)

    pub after_other : q ≡ false → afters.Other ≡ after_at s c.at
    after_other f = rw (uncomma, sym b ∙ f)

pub ruleset afters_field = (after_comma, after_closed, after_other)

-- Checks and slots

pub check_passed : (x : Refusal) (b : Bool) → b ≡ true → Checked (Ok false) (unless b (number x)) false
check_passed x b e = record { refusal = rw e; spelled = refl }

pub check_refused : (x : Refusal) (b : Bool) → b ≡ false → Checked (Err x) (unless b (number x)) false
check_refused x b e = record { refusal = rw e; spelled = tt }

pub ruleset checks = (check_passed, check_refused)

module _ (s : Bytes) {i : Option (ℕ × Bool)} (a : i ≡ u64_read s) where
  module _ {n : ℕ} {p : Bool} (e : i ≡ Some (n, p)) where
    spelled_so : not p ≡ is_odd (u64_read s)
    spelled_so = rw (sym a ∙ e)

    pub integer_passed : Checked (Ok (not p)) (unless (is_count s) 13) (is_odd (u64_read s))
    integer_passed = record { refusal = rw (sym a ∙ e); spelled = spelled_so }

    pub count_passed : (ls : List Bytes) (q : Bool) → Checked (Ok (not p)) (unless (is_count s || is_in (meaning q s) ls) 11) (is_odd (u64_read s))
    count_passed ls q = record { refusal = rw (sym a ∙ e); spelled = spelled_so }

  module _ (e : i ≡ None) where
    pub integer_refused : Checked (Err InvalidInteger) (unless (is_count s) 13) (is_odd (u64_read s))
    integer_refused = record { refusal = rw (sym a ∙ e); spelled = tt }

    pub letter_checked : (ls : List Bytes) (q : Bool) {b : Bool} → b ≡ is_in (meaning q s) ls → {r : Result Bool Refusal} → Checked r (unless b (number InvalidNumber)) false
        → Checked r (unless (is_count s || is_in (meaning q s) ls) 11) (is_odd (u64_read s))
    letter_checked ls q f {r} c = rw (sym a ∙ e, ← f) c

pub ruleset integers = (integer_passed, integer_refused)

pub ruleset counts = (count_passed, letter_checked)

module _ (v : Version) (kind : Kind) (t : Tag) (s : Bytes) (q : Bool) where
  pub number_checked : t ≡ Number → (l : Letters) → letters_of l ≡ letters v kind → {r : Result Bool Refusal} → Checked r (unless (is_count s || is_in (meaning q s) (letters_of l)) 11) (is_odd (u64_read s))
      → Checked r (raw_refusal v kind s q (tag_row t)) (odd_value s (tag_row t))
  number_checked e l f {r} h = rw e (subst (λ (ls : List Bytes). Checked r (unless (is_count s || is_in (meaning q s) ls) 11) (is_odd (u64_read s))) f h)

  pub type_checked : t ≡ ValueType → {f : Bool} → f ≡ is_info kind → {b : Bool} → b ≡ is_in (meaning q s) (types_of f) → {r : Result Bool Refusal}
      → Checked r (unless b (number InvalidType)) false → Checked r (raw_refusal v kind s q (tag_row t)) (odd_value s (tag_row t))
  unfolding types
  type_checked e f g {r} h = rw e (subst (λ (b : Bool). Checked r (unless b 12) false) (g ∙ ap (λ (l : Bool). is_in (meaning q s) (types_of l)) f) h)

  pub idx_checked : t ≡ Idx → {r : Result Bool Refusal} → Checked r (unless (is_count s) 13) (is_odd (u64_read s)) → Checked r (raw_refusal v kind s q (tag_row t)) (odd_value s (tag_row t))
  idx_checked e h = rw e h

  pub length_checked : t ≡ Length → {r : Result Bool Refusal} → Checked r (unless (is_count s) 13) (is_odd (u64_read s)) → Checked r (raw_refusal v kind s q (tag_row t)) (odd_value s (tag_row t))
  length_checked e h = rw e h

  abbrev Unread : Type 0
  Unread = Checked (Ok false) (raw_refusal v kind s q (tag_row t)) (odd_value s (tag_row t))

  pub id_unread : t ≡ Id → Unread
  id_unread e = rw e (record { refusal = refl; spelled = refl })

  pub description_unread : t ≡ Description → Unread
  description_unread e = rw e (record { refusal = refl; spelled = refl })

  pub md5_unread : t ≡ Md5 → Unread
  md5_unread e = rw e (record { refusal = refl; spelled = refl })

  pub url_unread : t ≡ Url → Unread
  url_unread e = rw e (record { refusal = refl; spelled = refl })

  pub other_unread : t ≡ Other → Unread
  other_unread e = rw e (record { refusal = refl; spelled = refl })

pub ruleset values = (number_checked, type_checked, idx_checked, length_checked, id_unread, description_unread, md5_unread, url_unread, other_unread)

pub put_told : (t : Tag) (z : Option (Text × ℕ)) (o : Bool) (x : Slots) {y : Tag} → t ≡ y → {w : Slots} → w ≡ put_slot y z o x → w ≡ put_slot t z o x
put_told t z o x e f = rw e f
