-- Names met before, those in doubt, and the line of a turn. Assumes nothing.
use Prim.Native.Nat.{ℕ, ◌+◌, ◌-◌, ◌≤◌, ◌<◌}
use native.Mathlib.Omega.{arith}
use mathlib.Core.Path.{◌≡◌, refl, sym, ap, ap₂, subst, ◌∙◌}
use mathlib.Core.Bool.{Bool, true, false, not, ◌||◌, true≢false, false≢true}
use mathlib.Core.List.{List, [], ◌∷◌, ◌++◌}
use Rattle.std.specs.Prelude.{Option, None, Some, Result, Ok, Err}
use lib.ListN.{length, drop, take}
use Rattle.values.specs.Bytes.{Bytes, ascii, same}
use Rattle.values.specs.Hash.{wide_step}
use Rattle.values.specs.Marks.{is_met, meet}
use Rattle.values.proofs.Tests.{pass, fail, test}
use Rattle.values.proofs.Sames.{same_sound}
use Rattle.values.proofs.Markings.{meet_length, meet_own, meet_kept, none_met}
use Rattle.rules.specs.Answer.{Answer, ◌>>=◌, unless, judged}
use Rattle.rules.specs.Lines.{pieces, line_of}
use Rattle.rules.specs.Known.{is_in}
use Rattle.rules.specs.Map.{is_some}
use Rattle.lines.specs.declared.line.Line.{Line}
use Rattle.lines.specs.Lines.{LineIs}
use Rattle.lines.proofs.Lines.{pieces_past, pieces_there}
use Rattle.sam.specs.Tags.{tags_of}
use Rattle.sam.specs.Contigs.{Contig, read_sequence}
use Rattle.sam.specs.Lines.{tags_at, value_in, sequence_means, contig_in, names, names_in, name_hash, again, mark_if, doubts_of, Doubted, mark_again, is_repeated, ReadsNamed}
use Rattle.sam.specs.declared.refusal.SamRefusal.{SamRefusal}
use Rattle.sam.specs.declared.refusal.SamRefusal.TheVariants.{DuplicateSequence}
use Rattle.sam.proofs.Sequences.{tags_stand}

-- The line at a place

pub record Turn (h : Bytes) (at : ℕ) (r : Line) (t : Bytes) : Type 0 where
  pub piece : Bytes
  pub left : List Bytes
  pub is : pieces (drop at h) ≡ piece ∷ left
  pub line : t ≡ line_of piece
  pub stepped : r.next ≡ at + length piece
  pub after : pieces (drop r.next h) ≡ left

pub turn : {h : Bytes} {at : ℕ} → at < length h → {r : Line} → LineIs h at r → {t : Bytes} → t ≡ take (r.end - at) (drop at h) → Turn h at r t
turn {h} {at} i f b =
    let s = pieces_there h at i in
    let w = f.first s.piece s.rest s.is in
    record { piece = s.piece; left = s.rest; is = s.is; line = b ∙ w.here; stepped = w.stepped; after = w.left }

-- its name, if it is an `@SQ` line
module _ (p : Bytes) (ps : List Bytes) where
  pub names_skip : tags_of (line_of p) ≡ None → names (p ∷ ps) ≡ names ps
  unfolding names
  names_skip e = rw (names, e)

  pub names_more : is_some (tags_of (line_of p)) ≡ true → names (p ∷ ps) ≡ value_in (ascii "SN") (line_of p) ∷ names ps
  unfolding names value_in
  names_more e = rw (names, tags_stand (line_of p) e)

pub none_tags : (x : Option (List Bytes)) → is_some x ≡ false → x ≡ None
none_tags None e = refl
none_tags (Some ts) e = absurd (true≢false e)

-- Looking for a name

-- the lines before `at` have others
pub record Among (earlier name : Bytes) (at : ℕ) : Type 0 where
  pub inside : at ≤ length earlier
  pub still : is_in name (names_in earlier) ≡ is_in name (names (pieces (drop at earlier)))

pub among_all : (earlier name : Bytes) → Among earlier name 0
among_all earlier name = record { inside = omega arith; still = refl }

module _ {earlier name : Bytes} {at : ℕ} (g : Among earlier name at) where
  pub among_none : length earlier ≤ at → false ≡ is_in name (names_in earlier)
  unfolding names is_in
  among_none h = sym (g.still ∙ rw (pieces_past earlier at h))

  module _ (i : at < length earlier) {r : Line} (f : LineIs earlier at r) where
    pub among_less : length earlier - r.next < length earlier - at
    among_less = omega (arith, f.moves i)

    module _ {t : Bytes} (b : t ≡ take (r.end - at) (drop at earlier)) {q : Bool} (a : q ≡ is_some (tags_of t)) where
      abbrev w : Turn earlier at r t
      w = turn i f b

      pub among_skip : q ≡ false → Among earlier name r.next
      among_skip e = record {
        inside = f.inside (omega arith);
        still = g.still ∙ rw (w.is, names_skip w.piece w.left (none_tags (tags_of (line_of w.piece)) (rw (← w.line) (sym a ∙ e))), w.after);
      }

      module _ (e : q ≡ true) {v : Bytes} (c : v ≡ value_in (ascii "SN") t) {s : Bool} (d : s ≡ same v name) where
        this : is_in name (names_in earlier) ≡ (s || is_in name (names (pieces (drop r.next earlier))))
        unfolding is_in
        this = g.still ∙ rw (w.is, names_more w.piece w.left (rw (← w.line) (sym a ∙ e)), ← w.line, ← c, ← d, w.after)

        pub among_found : s ≡ true → true ≡ is_in name (names_in earlier)
        among_found k = sym (this ∙ rw k)

        pub among_next : s ≡ false → Among earlier name r.next
        among_next k = record { inside = f.inside (omega arith); still = this ∙ rw k }

pub ruleset amongs = (among_all, among_none, among_less, among_skip, among_found, among_next)

-- what answers the needs of `is_repeated`
module _ (earlier : Bytes) (ds ms : List ℕ) (name : Bytes) {h : ℕ} (eh : h ≡ name_hash name) {d : Bool} (ed : d ≡ is_met ds h) where
  doubt_is : is_met ds (name_hash name) ≡ d
  doubt_is = ap (is_met ds) (sym eh) ∙ sym ed

  pub name_clear : d ≡ false → d ≡ is_repeated earlier ds ms name
  unfolding is_repeated
  name_clear n = rw (doubt_is, n)

  module _ (t : d ≡ true) {i : ℕ} (ei : i ≡ wide_step h 1) {q : Bool} (eq : q ≡ is_met ms i) where
    again_is : is_met ms (again name) ≡ q
    again_is = sym (eq ∙ rw (ei, eh))

    pub name_new : q ≡ false → q ≡ is_repeated earlier ds ms name
    unfolding is_repeated
    name_new n = rw (doubt_is, t, again_is, n)

    pub name_looked : q ≡ true → {r : Bool} → r ≡ is_in name (names_in earlier) → r ≡ is_repeated earlier ds ms name
    unfolding is_repeated
    name_looked n g = g ∙ rw (doubt_is, t, again_is, n)

pub ruleset repeats = (name_clear, name_new, name_looked)

-- r is what was read of the line alone
module _ (earlier : Bytes) (ds ms : List ℕ) (l : Bytes) {r : Result ℕ SamRefusal} (a : sequence_means l r ≡ read_sequence l (tags_at l 4)) where
  pub named_refused : {x : SamRefusal} → r ≡ Err x → {ms' : List ℕ} → ReadsNamed earlier ds ms l (Err x) ms'
  named_refused {x} e = record {
    alone = (r, a);
    is = ap (λ (y : Answer Contig). y >>= λ c. judged (unless (not (is_repeated earlier ds ms c.id)) 43) c) (sym (ap (sequence_means l) e) ∙ a);
    marks = λ n k. cc;
  }

  module _ {n : ℕ} (e : r ≡ Ok n) {v : Bytes} (b : v ≡ value_in (ascii "SN") l) {q : Bool} (c : q ≡ is_repeated earlier ds ms v) where
    told : (read_sequence l (tags_at l 4) >>= λ c. judged (unless (not (is_repeated earlier ds ms c.id)) 43) c) ≡ judged (unless (not q) 43) (contig_in l n)
    unfolding contig_in
    told = ap (λ (y : Answer Contig). y >>= λ c. judged (unless (not (is_repeated earlier ds ms c.id)) 43) c) (sym a ∙ ap (sequence_means l) e) ∙ rw (← b, ← c)

    pub named_twice : q ≡ true → {ms' : List ℕ} → ReadsNamed earlier ds ms l (Err DuplicateSequence) ms'
    named_twice k = record { alone = (r, a); is = sym (told ∙ rw k); marks = λ n k. cc }

    pub named_fresh : q ≡ false → {ms' : List ℕ} → ms' ≡ mark_again ds ms v → ReadsNamed earlier ds ms l (Ok n) ms'
    named_fresh k m = record { alone = (r, a); is = sym (told ∙ rw k); marks = λ n k. m ∙ ap (mark_again ds ms) b }

pub ruleset namings = (named_refused, named_twice, named_fresh)

-- Names put in doubt

pub mark_length : (b : Bool) (ms : List ℕ) (hash : ℕ) → length (mark_if b ms hash) ≡ length ms
mark_length true ms hash = meet_length ms hash
mark_length false ms hash = refl

pub mark_kept : (b : Bool) (ms : List ℕ) (hash other : ℕ) → is_met ms other ≡ true → is_met (mark_if b ms hash) other ≡ true
mark_kept true ms hash other a = meet_kept ms hash other a
mark_kept false ms hash other a = a

-- the names before `at` were met
pub record Doubting (sam : Bytes) (ms₀ ds₀ ms ds : List ℕ) (at : ℕ) : Type 0 where
  pub inside : at ≤ length sam
  pub marks_long : length ms ≡ length ms₀
  pub doubts_long : length ds ≡ length ds₀
  pub still : doubts_of ms₀ ds₀ (names_in sam) ≡ doubts_of ms ds (names (pieces (drop at sam)))

pub doubting_start : (sam : Bytes) (ms ds : List ℕ) → Doubting sam ms ds ms ds 0
doubting_start sam ms ds = record { inside = omega arith; marks_long = refl; doubts_long = refl; still = refl }

module _ {sam : Bytes} {ms₀ ds₀ ms ds : List ℕ} {at : ℕ} (g : Doubting sam ms₀ ds₀ ms ds at) where
  pub doubting_marks : length ms ≡ length ms₀
  doubting_marks = g.marks_long

  pub doubting_long : length ds ≡ length ds₀
  doubting_long = g.doubts_long

  pub doubting_end : length sam ≤ at → ds ≡ doubts_of ms₀ ds₀ (names_in sam)
  unfolding names doubts_of
  doubting_end h = sym (g.still ∙ rw (pieces_past sam at h))

  module _ (i : at < length sam) {r : Line} (f : LineIs sam at r) where
    pub doubting_less : length sam - r.next < length sam - at
    doubting_less = omega (arith, f.moves i)

    module _ {t : Bytes} (b : t ≡ take (r.end - at) (drop at sam)) {q : Bool} (a : q ≡ is_some (tags_of t)) where
      abbrev u : Turn sam at r t
      u = turn i f b

      pub doubting_skip : q ≡ false → Doubting sam ms₀ ds₀ ms ds r.next
      doubting_skip e = record {
        inside = f.inside (omega arith);
        marks_long = g.marks_long;
        doubts_long = g.doubts_long;
        still = g.still ∙ rw (u.is, names_skip u.piece u.left (none_tags (tags_of (line_of u.piece)) (rw (← u.line) (sym a ∙ e))), u.after);
      }

      pub doubting_next : q ≡ true → {v : Bytes} → v ≡ value_in (ascii "SN") t → {ns : List ℕ} → ns ≡ meet ms (name_hash v)
          → {es : List ℕ} → es ≡ mark_if (is_met ms (name_hash v)) ds (name_hash v) → Doubting sam ms₀ ds₀ ns es r.next
      unfolding doubts_of
      doubting_next e {v} c {ns} en {es} ee =
          let n : names (pieces (drop at sam)) ≡ v ∷ names (pieces (drop r.next sam)) =
          rw (u.is, names_more u.piece u.left (rw (← u.line) (sym a ∙ e)), ← u.line, ← c, u.after) in
          record {
            inside = f.inside (omega arith);
            marks_long = ap length en ∙ meet_length ms (name_hash v) ∙ g.marks_long;
            doubts_long = ap length ee ∙ mark_length (is_met ms (name_hash v)) ds (name_hash v) ∙ g.doubts_long;
            still = g.still ∙ ap (doubts_of ms ds) n ∙ ap₂ (λ (xs ys : List ℕ). doubts_of xs ys (names (pieces (drop r.next sam)))) (sym en) (sym ee);
          }

pub ruleset doubtings = (doubting_start, doubting_marks, doubting_long, doubting_end, doubting_less, doubting_skip, doubting_next)

-- what is in doubt stays so
doubts_kept : (ms ds : List ℕ) (xs : List Bytes) (hash : ℕ) → is_met ds hash ≡ true → is_met (doubts_of ms ds xs) hash ≡ true
unfolding doubts_of
doubts_kept ms ds [] hash e = e
doubts_kept ms ds (x ∷ xs) hash e = doubts_kept (meet ms (name_hash x)) (mark_if (is_met ms (name_hash x)) ds (name_hash x)) xs hash (mark_kept (is_met ms (name_hash x)) ds (name_hash x) hash e)

module _ (y : Bytes) (zs : List Bytes) where
  met_doubted : (ms ds : List ℕ) (xs : List Bytes) → is_met ms (name_hash y) ≡ true → is_met (doubts_of ms ds (xs ++ y ∷ zs)) (name_hash y) ≡ true
  unfolding doubts_of
  met_doubted ms ds [] e = rw (doubts_of, e) (doubts_kept (meet ms (name_hash y)) (meet ds (name_hash y)) zs (name_hash y) (meet_own ds (name_hash y)))
  met_doubted ms ds (x ∷ xs) e = met_doubted (meet ms (name_hash x)) (mark_if (is_met ms (name_hash x)) ds (name_hash x)) xs (meet_kept ms (name_hash x) (name_hash y) e)

  twice_doubted : (ms ds : List ℕ) (xs : List Bytes) → is_in y xs ≡ true → is_met (doubts_of ms ds (xs ++ y ∷ zs)) (name_hash y) ≡ true
  unfolding doubts_of is_in
  twice_doubted ms ds [] e = absurd (false≢true e)
  twice_doubted ms ds (x ∷ xs) e = elim (test (same x y)) [
    | pass s ↦
        met_doubted (meet ms (name_hash x)) (mark_if (is_met ms (name_hash x)) ds (name_hash x)) xs
        (subst (λ (z : Bytes). is_met (meet ms (name_hash x)) (name_hash z) ≡ true) (same_sound x y s) (meet_own ms (name_hash x)))
    | fail s ↦ twice_doubted (meet ms (name_hash x)) (mark_if (is_met ms (name_hash x)) ds (name_hash x)) xs (rw s at e)
  ]

pub doubts_found : (sam : Bytes) (ms ds : List ℕ) {es : List ℕ} → es ≡ doubts_of ms ds (names_in sam) → Doubted sam es
doubts_found sam ms ds e = record { twice = λ xs x ys n t. rw (e, n) (twice_doubted x ys ms ds xs t) }

-- where there are no doubts, each name is in doubt
pub all_doubted : (sam : Bytes) (ds : List ℕ) → length ds ≡ 0 → Doubted sam ds
all_doubted sam ds e = record { twice = λ xs x ys n t. sym (none_met ds (name_hash x) e) }
