-- A walk over all lines: a turn of its loop, and its ways out, on plain values. Assumes nothing.
use Prim.Native.Nat.{ℕ, ◌+◌, ◌-◌, ◌≤◌, ◌<◌}
use native.Mathlib.Numerals.{add-one}
use native.Mathlib.Omega.{arith}
use mathlib.Core.Path.{◌≡◌, refl, sym, ap, ap₂, subst, ◌∙◌}
use mathlib.Core.Bool.{Bool, true, false, not, false≢true}
use mathlib.Core.List.{List, [], ◌∷◌, ◌++◌, append_assoc, append-nil, map-append}
use Rattle.std.specs.Prelude.{None, Result, Ok, Err}
use lib.ListN.{length, drop, take, length-append, length-drop, take-append-drop}
use lib.Seq.{take-add, take-append_seam}
use Rattle.values.specs.Bytes.{Bytes, ascii, same}
use Rattle.values.specs.Marks.{is_met}
use Rattle.values.specs.Written.{last, Wrote}
use Rattle.values.proofs.Tests.{Test, pass, fail, test, both}
use Rattle.values.proofs.Sames.{same_sound}
use Rattle.values.proofs.Markings.{meet_own, sure}
use Rattle.values.proofs.Outputs.{wrote_nothing, puts_length, then}
use Rattle.rules.specs.Answer.{Answer, ok, refuse, ◌>>=◌, unless, judged}
use Rattle.rules.specs.Lines.{pieces, line_of, write_line, write_lines}
use Rattle.rules.specs.Known.{is_in}
use Rattle.rules.specs.Map.{is_some}
use Rattle.rules.proofs.Alls.{in_append}
use Rattle.rules.proofs.Pieces.{Cut, nothing, cut, cut_first}
use Rattle.lines.specs.declared.line.Line.{Line}
use Rattle.lines.specs.Lines.{LineIs}
use Rattle.lines.proofs.Lines.{pieces_past}
use Rattle.sam.specs.Tags.{tags_of}
use Rattle.sam.specs.Contigs.{Contig, ids, add_contig, read_line, refused, read_lines, read_contigs, contig_line, contig_lines}
use Rattle.sam.specs.Lines.{value_in, contig_in, sequence_means, names, names_in, name_hash, again, Doubted, mark_again, is_repeated, ReadsNamed}
use Rattle.sam.specs.Answers.{Walks}
use Rattle.sam.specs.declared.refusal.SamRefusal.{SamRefusal}
use Rattle.sam.proofs.ContigLines.{lines_snoc}
use Rattle.sam.proofs.Sequences.{tags_stand}
use Rattle.sam.proofs.Names.{Turn, turn, names_skip, names_more, none_tags, mark_length, mark_kept}

-- One line more

module _ (n start : ℕ) (cs : List Contig) (p : Bytes) (ps : List Bytes) where
  lines_refused : {m : ℕ} → read_line cs (line_of p) ≡ refuse m → read_lines n start cs (p ∷ ps) ≡ refused m (n + 1) start
  unfolding read_lines
  lines_refused e = rw (read_lines, e, add-one)

  lines_taken : {ds : List Contig} → read_line cs (line_of p) ≡ ok ds → read_lines n start cs (p ∷ ps) ≡ read_lines (n + 1) (start + length p) ds ps
  unfolding read_lines
  lines_taken e = rw (read_lines, e, add-one)

line_skipped : (cs : List Contig) (l : Bytes) → tags_of l ≡ None → read_line cs l ≡ ok cs
unfolding read_line
line_skipped cs l e = rw (read_line, e)

-- held against the contigs so far, as the code does it
abbrev Alike : List Contig → Bytes → List ℕ → List ℕ → Answer Contig → Type 0
Alike cs e ds ms y = (y >>= add_contig cs) ≡ ((y >>= λ c. judged (unless (not (is_repeated e ds ms c.id)) 43) c) >>= λ c. ok (cs ++ c ∷ []))

line_added : (cs : List Contig) (l e : Bytes) (ds ms : List ℕ) → is_repeated e ds ms (value_in (ascii "SN") l) ≡ is_in (value_in (ascii "SN") l) (ids cs) → is_some (tags_of l) ≡ true
    → (r : Result ℕ SamRefusal) (ms' : List ℕ) → ReadsNamed e ds ms l r ms' → read_line cs l ≡ (sequence_means l r >>= λ c. ok (cs ++ c ∷ []))
unfolding read_line contig_in
line_added cs l e ds ms same_as t r ms' d =
    rw (read_line, tags_stand l t) (subst (λ (y : Answer Contig). Alike cs e ds ms y) d.alone.1 (go d.alone.0) ∙ ap (λ (y : Answer Contig). y >>= λ c. ok (cs ++ c ∷ [])) (sym d.is))
  where
    held : (q : Bool) (c : Contig) → judged (unless (not q) 43) (cs ++ c ∷ []) ≡ (judged (unless (not q) 43) c >>= λ c. ok (cs ++ c ∷ []))
    held true c = refl
    held false c = refl

    go : (s : Result ℕ SamRefusal) → Alike cs e ds ms (sequence_means l s)
    go (Ok n) = rw same_as (held (is_in (value_in (ascii "SN") l) (ids cs)) (contig_in l n))
    go (Err x) = refl

names_append : (ps qs : List Bytes) → names (ps ++ qs) ≡ names ps ++ names qs
unfolding names
names_append [] qs = refl
names_append (p ∷ ps) qs = elim (test (is_some (tags_of (line_of p)))) [
  | pass e ↦ rw (names_more p (ps ++ qs) e, names_more p ps e) (ap (value_in (ascii "SN") (line_of p) ∷◌) (names_append ps qs))
  | fail e ↦ let z = none_tags (tags_of (line_of p)) e in rw (names_skip p (ps ++ qs) z, names_skip p ps z) (names_append ps qs)
]

-- a name in doubt is marked then
own_marked : (ds ms : List ℕ) (x : Bytes) → is_met ds (name_hash x) ≡ true → is_met (mark_again ds ms x) (again x) ≡ true
own_marked ds ms x o = rw o (meet_own ms (again x))

-- The walk

-- the lines before `at` were read; their contigs' names that are in doubt are marked, and their lines written
pub record Walking (sam : Bytes) (ds ms₀ : List ℕ) (out₀ : Bytes) (ms : List ℕ) (out : Bytes) (at lines contigs next : ℕ) : Type 0 where
  pub inside : at ≤ length sam
  pub few : lines ≤ at
  pub counted : contigs ≤ lines
  pub long : length ms ≡ length ms₀
  pub size : length out ≡ length out₀
  pub cs : List Contig
  pub count : length cs ≡ contigs
  pub whole : read_contigs sam ≡ read_lines lines at cs (pieces (drop at sam))
  pub before : List Bytes
  pub stand : at < length sam → (t : Bytes) → pieces (take at sam ++ t) ≡ before ++ pieces t
  pub said : names before ≡ ids cs
  pub doubted : Doubted sam ds
  pub marked : (x : Bytes) → is_in x (ids cs) ≡ true → is_met ds (name_hash x) ≡ true → is_met ms (again x) ≡ true
  pub text : Wrote out₀ 0 (contig_lines cs) next out

pub walk_start : (sam : Bytes) (ds ms : List ℕ) (out : Bytes) → Doubted sam ds → length out ≤ last → Walking sam ds ms out ms out 0 0 0 0
unfolding read_contigs names is_in contig_lines write_lines
walk_start sam ds ms out d l = record {
  inside = omega arith;
  few = omega arith;
  counted = omega arith;
  long = refl;
  size = refl;
  cs = [];
  count = refl;
  whole = refl;
  before = [];
  stand = λ i t. refl;
  said = refl;
  doubted = d;
  marked = λ x e o. absurd (false≢true e);
  text = wrote_nothing out 0 (omega arith) l;
}

module _ {sam : Bytes} {ds ms₀ : List ℕ} {out₀ : Bytes} {ms : List ℕ} {out : Bytes} {at lines contigs next : ℕ} (g : Walking sam ds ms₀ out₀ ms out at lines contigs next) where
  pub walk_marks : length ms ≡ length ms₀
  walk_marks = g.long

  pub walk_output : length out ≡ length out₀
  walk_output = g.size

  pub walk_end : length sam ≤ at → Walks sam out₀ (Ok (lines, contigs, next)) out
  unfolding read_lines
  walk_end h =
      let e : at ≡ length sam = omega (arith, g.inside) in
      record { is = (g.cs, g.whole ∙ rw (pieces_past sam at h, ← e), g.count, g.text) }

  module _ (i : at < length sam) {r : Line} (f : LineIs sam at r) where
    pub walk_less : length sam - r.next < length sam - at
    walk_less = omega (arith, f.moves i)

    pub walk_counts : lines + 1 ≤ length sam
    walk_counts = omega (arith, g.few)

    module _ {t : Bytes} (b : t ≡ take (r.end - at) (drop at sam)) {q : Bool} (a : q ≡ is_some (tags_of t)) where
      abbrev w : Turn sam at r t
      w = turn i f b

      -- the pieces before the next place
      stood : r.next < length sam → (x : Bytes) → pieces (take r.next sam ++ x) ≡ (g.before ++ w.piece ∷ []) ++ pieces x
      stood l x = go (cut_first (drop at sam))
        where
          go : Cut (drop at sam) → pieces (take r.next sam ++ x) ≡ (g.before ++ w.piece ∷ []) ++ pieces x
          go (nothing n) = let z = sym (length-drop at sam) ∙ ap length n in absurd (omega arith)
          go (cut p rest e k tail) =
              let z : w.piece ∷ w.left ≡ p ∷ pieces rest = sym w.is ∙ k in
              let y : w.piece ≡ p = cc in
              let n : r.next ≡ at + length p = w.stepped ∙ ap (λ (x : Bytes). at + length x) y in
              let u : take r.next sam ≡ take at sam ++ p = rw n (take-add at (length p) sam) ∙ ap (take at sam ++◌) (ap (take (length p)) e ∙ take-append_seam p rest) in
              let d = sym (length-drop at sam) ∙ ap length e ∙ length-append p rest in
              ap (λ (s : Bytes). pieces (s ++ x)) u ∙ ap pieces (append_assoc (take at sam) p x) ∙ g.stand i (p ++ x)
              ∙ ap (g.before ++◌) (tail x (λ m. let c = ap length m in absurd (omega arith))) ∙ sym (append_assoc g.before (p ∷ []) (pieces x))
              ∙ ap (λ (s : Bytes). (g.before ++ s ∷ []) ++ pieces x) (sym y)

      taken : {ds : List Contig} → read_line g.cs (line_of w.piece) ≡ ok ds → read_contigs sam ≡ read_lines (lines + 1) r.next ds (pieces (drop r.next sam))
      taken {ds} e =
          g.whole ∙ ap (read_lines lines at g.cs) w.is ∙ lines_taken lines at g.cs w.piece w.left e
          ∙ ap₂ (λ (n : ℕ) (ps : List Bytes). read_lines (lines + 1) n ds ps) (sym w.stepped) (sym w.after)

      pub walk_skip : q ≡ false → Walking sam ds ms₀ out₀ ms out r.next (lines + 1) contigs next
      unfolding names
      walk_skip e =
          let z : tags_of (line_of w.piece) ≡ None = none_tags (tags_of (line_of w.piece)) (rw (← w.line) (sym a ∙ e)) in
          record {
            inside = f.inside (omega arith);
            few = omega (arith, g.few, f.moves i);
            counted = omega (arith, g.counted);
            long = g.long;
            size = g.size;
            cs = g.cs;
            count = g.count;
            whole = taken (line_skipped g.cs (line_of w.piece) z);
            before = g.before ++ w.piece ∷ [];
            stand = stood;
            said = names_append g.before (w.piece ∷ []) ∙ ap (names g.before ++◌) (names_skip w.piece [] z) ∙ append-nil (names g.before) ∙ g.said;
            doubted = g.doubted;
            marked = g.marked;
            text = g.text;
          }

      module _ (e : q ≡ true) {x : Bytes} (c : x ≡ take (at - 0) (drop 0 sam)) {n : Result ℕ SamRefusal} {ms' : List ℕ} (d : ReadsNamed x ds ms t n ms') where
        sequence : is_some (tags_of (line_of w.piece)) ≡ true
        sequence = rw (← w.line) (sym a ∙ e)

        -- the names before it are those of the contigs
        met : names_in x ≡ ids g.cs
        unfolding pieces
        met =
            let z : at - 0 ≡ at = omega arith in
            ap names_in (c ∙ ap (λ (n : ℕ). take n sam) z ∙ sym (append-nil (take at sam))) ∙ ap names (g.stand i [] ∙ append-nil g.before) ∙ g.said

        abbrev name : Bytes
        name = value_in (ascii "SN") t

        -- it and those after it stand behind these
        parted : names_in sam ≡ ids g.cs ++ name ∷ names w.left
        parted =
            ap names_in (sym (take-append-drop at sam)) ∙ ap names (g.stand i (drop at sam)) ∙ names_append g.before (pieces (drop at sam))
            ∙ ap₂ ◌++◌ g.said (ap names w.is ∙ names_more w.piece w.left sequence ∙ rw (← w.line))

        in_doubt : is_in name (ids g.cs) ≡ true → is_met ds (name_hash name) ≡ true
        in_doubt = g.doubted.twice (ids g.cs) name (names w.left) parted

        alike : is_repeated x ds ms name ≡ is_in name (ids g.cs)
        unfolding is_repeated
        alike =
            rw (met, sure (is_met ms (again name)) (is_in name (ids g.cs)) (λ h. g.marked name h (in_doubt h)))
            (sure (is_met ds (name_hash name)) (is_in name (ids g.cs)) in_doubt)

        read_as : read_line g.cs (line_of w.piece) ≡ (sequence_means t n >>= λ c. ok (g.cs ++ c ∷ []))
        read_as = rw (← w.line) (line_added g.cs t x ds ms alike (sym a ∙ e) n ms' d)

        pub walk_stop : {y : SamRefusal} → n ≡ Err y → Walks sam out₀ (Err (y, lines + 1, at)) out
        walk_stop k = record {
          is = g.whole ∙ ap (read_lines lines at g.cs) w.is ∙ lines_refused lines at g.cs w.piece w.left
              (read_as ∙ ap (λ (m : Result ℕ SamRefusal). sequence_means t m >>= λ c. ok (g.cs ++ c ∷ [])) k);
        }

        module _ {m : ℕ} (k : n ≡ Ok m) where
          still : (y : Bytes) → is_in y (ids (g.cs ++ contig_in t m ∷ [])) ≡ true → is_met ds (name_hash y) ≡ true → is_met ms' (again y) ≡ true
          unfolding is_in contig_in
          still y j o = rw (d.marks m k) (go (test (is_in y (ids g.cs))))
            where
              go : Test (is_in y (ids g.cs)) → is_met (mark_again ds ms name) (again y) ≡ true
              go (pass h) = mark_kept (is_met ds (name_hash name)) ms (again name) (again y) (g.marked y h o)
              go (fail h) = elim (test (same name y)) [
                | pass v ↦
                    let z = same_sound name y v in
                    subst (λ (s : Bytes). is_met (mark_again ds ms name) (again s) ≡ true) z (own_marked ds ms name (subst (λ (s : Bytes). is_met ds (name_hash s) ≡ true) (sym z) o))
                | fail v ↦ both j (ap (is_in y) (map-append (λ (c : Contig). c.id) g.cs (contig_in t m ∷ [])) ∙ in_append y (ids g.cs) (name ∷ []) ∙ rw (h, v))
              ]

          pub walk_add : {next' : ℕ} {out' : Bytes} → Wrote out next (write_line (contig_line (contig_in t m))) next' out'
              → Walking sam ds ms₀ out₀ ms' out' r.next (lines + 1) (contigs + 1) next'
          unfolding names contig_in
          walk_add v = record {
            inside = f.inside (omega arith);
            few = omega (arith, g.few, f.moves i);
            counted = omega (arith, g.counted);
            long = ap length (d.marks m k) ∙ mark_length (is_met ds (name_hash name)) ms (again name) ∙ g.long;
            size = puts_length v ∙ g.size;
            cs = g.cs ++ contig_in t m ∷ [];
            count = length-append g.cs (contig_in t m ∷ []) ∙ ap (◌+ 1) g.count;
            whole = taken (read_as ∙ ap (λ (m : Result ℕ SamRefusal). sequence_means t m >>= λ c. ok (g.cs ++ c ∷ [])) k);
            before = g.before ++ w.piece ∷ [];
            stand = stood;
            said = names_append g.before (w.piece ∷ []) ∙ ap (names g.before ++◌) (names_more w.piece [] sequence ∙ rw (← w.line)) ∙ ap (◌++ name ∷ []) g.said
                ∙ sym (map-append (λ (c : Contig). c.id) g.cs (contig_in t m ∷ []));
            doubted = g.doubted;
            marked = still;
            text = rw (lines_snoc g.cs (contig_in t m)) (then g.text v);
          }

pub ruleset walks = (walk_start, walk_marks, walk_output, walk_end, walk_less, walk_counts, walk_skip, walk_stop, walk_add)
