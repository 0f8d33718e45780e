-- Lines written one after another. Assumes nothing.
use Prim.Native.Nat.{ℕ, zero, suc, ◌+◌, ◌-◌, ◌≤◌, ◌<◌, min}
use native.Mathlib.Omega.{arith}
use mathlib.Core.Path.{◌≡◌, refl, sym, ap, subst, ◌∙◌}
use mathlib.Core.Bool.{Bool, true, false}
use mathlib.Core.List.{List, [], ◌∷◌, ◌++◌, append_assoc, append-nil}
use Rattle.std.specs.Option.{option_or}
use Rattle.std.specs.Prelude.{Option, None, Some}
use lib.Dec.{eqb, leb}
use lib.ListN.{length, length-append}
use borrow.Author.Tests.{eq-eqb, ne_eqb, lt-ltb, le-ltb, leb-true, leb-false}
use Rattle.values.specs.Bytes.{Bytes, ascii, is, any}
use Rattle.values.specs.Integer.{decimal}
use Rattle.values.specs.Written.{last, onward, Puts}
use Rattle.values.specs.declared.sink.Sink.{Sink}
use Rattle.values.proofs.Tests.{pass, fail, test, and_off}
use Rattle.values.proofs.Lists.{any_append}
use Rattle.values.proofs.Decimals.{decimal_lacks}
use Rattle.values.proofs.Outputs.{puts_nothing, then}
use Rattle.rules.specs.Version.{Version, write_version}
use Rattle.rules.specs.Lines.{ends, write_line, write_lines}
use Rattle.rules.specs.Record.{fileformat, read_record}
use Rattle.rules.specs.House.{write_record, too_long}
use Rattle.rules.proofs.Pieces.{no_end}
use Rattle.forms.specs.Lines.{record_line, house_line, ending, WroteEnded}
use Rattle.forms.specs.Formed.{FormedLine}
use Rattle.forms.proofs.Lines.{line_ended, entry_is, entry_ended}
use Rattle.forms.specs.declared.line.LineWritten.{LineWritten}
use Rattle.house.specs.declared.progress.Progress.{Progress}
use Rattle.house.specs.Writes.{long_in, is_long, noted, WroteLines, PutsEntry, PutsLines, PutsRun}

-- what answers the needs of `note_line`
module _ (s : Progress) (end : ℕ) (next : Sink) where
  is_noted_lem : is_long s end ≡ true → record { limit = s.limit; next = next; lines = onward s.lines 1; long = onward s.lines 1; start = s.next.at; formed = s.formed } ≡ noted s end next
  unfolding noted
  is_noted_lem e = rw (noted, e)

  not_noted : is_long s end ≡ false → record { limit = s.limit; next = next; lines = onward s.lines 1; long = s.long; start = s.start; formed = s.formed } ≡ noted s end next
  unfolding noted
  not_noted e = rw (noted, e)

  module _ {n : ℕ} (c : n ≡ onward s.lines 1) where
    pub note_long : s.long ≡ 0 → s.next.at ≤ end → s.limit < end - s.next.at → ◌≡◌ {A = Progress} (record { limit = s.limit; next = next; lines = n; long = n; start = s.next.at; formed = s.formed }) (noted s end next)
    note_long a b d = rw c (is_noted_lem (rw (eq-eqb s.long 0 a) (lt-ltb s.limit (end - s.next.at) d)))

    pub note_short : s.long ≡ 0 → s.next.at ≤ end → end - s.next.at ≤ s.limit → ◌≡◌ {A = Progress} (record { limit = s.limit; next = next; lines = n; long = s.long; start = s.start; formed = s.formed }) (noted s end next)
    note_short a b d = rw c (not_noted (and_off (eqb s.long 0) (le-ltb s.limit (end - s.next.at) d)))

    pub note_back : s.long ≡ 0 → end < s.next.at → ◌≡◌ {A = Progress} (record { limit = s.limit; next = next; lines = n; long = s.long; start = s.start; formed = s.formed }) (noted s end next)
    note_back a d = rw c (not_noted (and_off (eqb s.long 0) (le-ltb s.limit (end - s.next.at) (omega arith))))

    pub note_later : (s.long ≡ 0 → ⊥) → ◌≡◌ {A = Progress} (record { limit = s.limit; next = next; lines = n; long = s.long; start = s.start; formed = s.formed }) (noted s end next)
    note_later a = rw c (not_noted (rw (ne_eqb s.long 0 a)))

pub ruleset notes = (note_long, note_short, note_back, note_later)

-- The first line that is too long

pub too_long_append : (limit n start : ℕ) (ls ms : List Bytes)
    → too_long limit n start (ls ++ ms) ≡ option_or (too_long limit n start ls) (too_long limit (n + length ls) (start + length (write_lines ls)) ms)
unfolding too_long write_lines
too_long_append limit n start [] ms = let a : n + 0 ≡ n = omega arith in let b : start + 0 ≡ start = omega arith in rw (a, b)
too_long_append limit n start (l ∷ ls) ms = elim (test (leb (length l) limit)) [
  | pass e ↦
      let a : suc n + length ls ≡ n + suc (length ls) = omega arith in
      let b : start + length (write_line l) + length (write_lines ls) ≡ start + length (write_line l ++ write_lines ls) = rw (length-append (write_line l) (write_lines ls)) (omega arith) in
      rw (too_long, e) (too_long_append limit (suc n) (start + length (write_line l)) ls ms ∙ rw (a, b))
  | fail e ↦ rw (too_long, e)
]

pub lines_append : (ls ms : List Bytes) → write_lines (ls ++ ms) ≡ write_lines ls ++ write_lines ms
unfolding write_lines
lines_append [] ms = refl
lines_append (l ∷ ls) ms = ap (write_line l ++◌) (lines_append ls ms) ∙ sym (append_assoc (write_line l) (write_lines ls) (write_lines ms))

-- a written line is longer than its text
pub line_longer : (l : Bytes) → length l < length (write_line l)
unfolding write_line
line_longer l = elim (test (ends 13 l)) [
  | pass e ↦ rw (write_line, e, length-append l (13 ∷ 10 ∷ [])) (omega arith)
  | fail e ↦ rw (write_line, e, length-append l (10 ∷ [])) (omega arith)
]

-- each has an ending
pub lines_count : (ls : List Bytes) → length ls ≤ length (write_lines ls)
unfolding write_lines
lines_count [] = omega arith
lines_count (l ∷ ls) = rw (length-append (write_line l) (write_lines ls)) (omega (arith, line_longer l, lines_count ls))

-- Lines after lines

else_none : (x : Option (ℕ × ℕ)) → option_or x None ≡ x
else_none None = refl
else_none (Some p) = refl

pub wrote_no_lines : (given out : Bytes) (s : Progress) → s.next.at ≤ last → s.lines ≤ last → length out ≤ last → WroteLines given out s [] s out
unfolding write_lines too_long onward
wrote_no_lines given out s a b d = record { limit = refl; formed = refl; text = puts_nothing given out s.next a d; count = omega arith; long = λ x y. sym (else_none (long_in s)) }

pub then_lines : {given out : Bytes} {s : Progress} {ls : List Bytes} {r : Progress} {o : Bytes} {ms : List Bytes} {r' : Progress} {o' : Bytes}
    → WroteLines given out s ls r o → WroteLines given o r ms r' o' → WroteLines given out s (ls ++ ms) r' o'
unfolding onward
then_lines {given} {out} {s} {ls} {r} {o} {ms} {r'} {o'} p q = record {
  limit = q.limit ∙ p.limit;
  formed = q.formed ∙ p.formed;
  text = subst (λ (t : Bytes). Puts given out s.next t r'.next o') (sym (lines_append ls ms)) (then p.text q.text);
  count = q.count ∙ rw (p.count, length-append ls ms) (omega arith);
  long = λ x y.
      let a = ap length (lines_append ls ms) ∙ length-append (write_lines ls) (write_lines ms) in
      let b = length-append ls ms in
      let at : r.next.at ≡ s.next.at + length (write_lines ls) = p.text.place ∙ omega (arith, a) in
      let n : r.lines ≡ s.lines + length ls = p.count ∙ omega (arith, b) in
      q.long (omega (arith, at, a)) (omega (arith, n, b))
      ∙ rw (p.long (omega (arith, a)) (omega (arith, b)), p.limit, at, n, too_long_append s.limit s.lines s.next.at ls ms)
      (else_assoc (long_in s) (too_long s.limit s.lines s.next.at ls) (too_long s.limit (s.lines + length ls) (s.next.at + length (write_lines ls)) ms));
}
  where
    else_assoc : (x y z : Option (ℕ × ℕ)) → option_or (option_or x y) z ≡ option_or x (option_or y z)
    else_assoc None y z = refl
    else_assoc (Some p) y z = refl

-- One line

module _ (s : Progress) (end : ℕ) (next : Sink) where
  noted_next : (noted s end next).next ≡ next
  unfolding noted
  noted_next = elim (test (is_long s end)) [ pass e ↦ rw (noted, e) | fail e ↦ rw (noted, e) ]

  noted_limit : (noted s end next).limit ≡ s.limit
  unfolding noted
  noted_limit = elim (test (is_long s end)) [ pass e ↦ rw (noted, e) | fail e ↦ rw (noted, e) ]

  noted_formed : (noted s end next).formed ≡ s.formed
  unfolding noted
  noted_formed = elim (test (is_long s end)) [ pass e ↦ rw (noted, e) | fail e ↦ rw (noted, e) ]

  noted_lines : (noted s end next).lines ≡ onward s.lines 1
  unfolding noted
  noted_lines = elim (test (is_long s end)) [ pass e ↦ rw (noted, e) | fail e ↦ rw (noted, e) ]

  -- an earlier line was too long
  long_before : {n : ℕ} → s.long ≡ suc n → long_in (noted s end next) ≡ Some (suc n, s.start)
  unfolding noted
  long_before {n} e = rw (noted, e, ne_eqb (suc n) 0 (λ z. omega arith)) (rw e)

  module _ (none_yet : s.long ≡ 0) where
    long_now : s.limit < end - s.next.at → s.lines + 1 ≤ last → long_in (noted s end next) ≡ Some (suc s.lines, s.next.at)
    unfolding noted onward
    long_now h l =
        let n : min (s.lines + 1) last ≡ suc s.lines = omega arith in
        rw (noted, none_yet, lt-ltb s.limit (end - s.next.at) h, n)

    short_now : end - s.next.at ≤ s.limit → long_in (noted s end next) ≡ None
    unfolding noted
    short_now h = rw (noted, none_yet, le-ltb s.limit (end - s.next.at) h) (rw none_yet)

  noted_long : (l : Bytes) → end - s.next.at ≡ length l → s.lines + 1 ≤ last → long_in (noted s end next) ≡ option_or (long_in s) (too_long s.limit s.lines s.next.at (l ∷ []))
  unfolding too_long
  noted_long l size h = go s.long refl
    where
      go : (k : ℕ) → s.long ≡ k → long_in (noted s end next) ≡ option_or (long_in s) (too_long s.limit s.lines s.next.at (l ∷ []))
      go (suc n) e = long_before e ∙ rw e
      go zero e = elim (test (leb (length l) s.limit)) [
        | pass q ↦ short_now e (rw size (leb-true (length l) s.limit q)) ∙ rw (e, too_long, q)
        | fail q ↦ long_now e (rw size (leb-false (length l) s.limit q)) h ∙ rw (e, too_long, q)
      ]

-- a line, and what is noted of it
pub one_line : {given out : Bytes} {s : Progress} (l : Bytes) {end : ℕ} {next : Sink} {o : Bytes} → end ≡ onward s.next.at (length l) → Puts given out s.next (write_line l) next o
    → {r : Progress} → r ≡ noted s end next → WroteLines given out s (l ∷ []) r o
unfolding write_lines onward
one_line {given} {out} {s} l {end} {next} {o} place w {r} e = record {
  limit = ap (λ (x : Progress). x.limit) e ∙ noted_limit s end next;
  formed = ap (λ (x : Progress). x.formed) e ∙ noted_formed s end next;
  text = rw (e, noted_next s end next, append-nil (write_line l)) w;
  count = ap (λ (x : Progress). x.lines) e ∙ noted_lines s end next;
  long = λ x y.
      let a = ap length (append-nil (write_line l)) in
      ap long_in e ∙ noted_long s end next l (omega (arith, place, line_longer l, a)) y;
}

-- what answers the needs of `put_entry`
pub entry_line_lem : (v : Version) (s : Progress) {p l : Bytes} → p ≡ l → {given out : Bytes} {put : LineWritten} {o : Bytes} → WroteEnded given out s.next (house_line v p) (ends 13 p) put o
    → {r : Progress} → r ≡ noted s put.end put.next → PutsEntry v l given out s r o
entry_line_lem v s {p} {l} e {given} {out} {put} {o} w {r} n = record {
  is = λ x c.
      let d = entry_ended v p x.line (ap (read_record v) e ∙ x.read) x.entry w in
      rw (entry_is v l x.line x.read x.entry) (one_line (record_line v x.line) d.0 d.1 n);
}

-- a line that is its own line of the form was copied
module _ (v : Version) {l line : Bytes} (e : line ≡ l) {given out : Bytes} {s r : Progress} {o : Bytes} (w : WroteLines given out s (line ∷ []) r o) where
  same_line : house_line v l ≡ l → WroteLines given out s (house_line v l ∷ []) r o
  same_line c = subst (λ (x : Bytes). WroteLines given out s (x ∷ []) r o) (e ∙ sym c) w

  pub entry_copied : {q : Bool} → FormedLine v line q → q ≡ true → PutsEntry v l given out s r o
  entry_copied f t = record { is = λ g c. same_line (subst (λ (x : Bytes). house_line v x ≡ x) e (f.is t g.line (rw e g.read) g.entry)) }

  pub entry_formed : s.formed ≡ true → PutsEntry v l given out s r o
  entry_formed t = record { is = λ g c. same_line (c t) }

pub ruleset entries = (entry_line_lem, entry_copied, entry_formed)

-- what answers the needs of `put_plain`
pub plain_line : {given out : Bytes} {s : Progress} (l : Bytes) {end : Sink} {o : Bytes} → Puts given out s.next l end o → {cr : Bool} → cr ≡ ends 13 l
    → {next : Sink} {o' : Bytes} → Puts given o end (ending cr) next o' → {r : Progress} → r ≡ noted s end.at next → WroteLines given out s (l ∷ []) r o'
plain_line l w e w' n = one_line l w.place (line_ended l e w w') n

-- a version's line ends in a digit
version_ends : (v : Version) → false ≡ ends 13 (write_record (fileformat v))
unfolding write_record write_version any
version_ends v = sym (no_end 13 (write_record (fileformat v))
    (any_append (is 13) (decimal v.major) (46 ∷ decimal v.minor) ∙ rw (decimal_lacks 13 v.major refl) (decimal_lacks 13 v.minor refl)))

-- what answers the needs of `put_format`
pub format_put : (v : Version) {given out : Bytes} {at a : Sink} {o₁ : Bytes} → Puts given out at (ascii "##fileformat=VCFv") a o₁
    → {b : Sink} {o₂ : Bytes} → Puts given o₁ a (decimal v.major) b o₂ → {c : Sink} {o₃ : Bytes} → Puts given o₂ b (46 ∷ []) c o₃
    → {end : Sink} {o₄ : Bytes} → Puts given o₃ c (decimal v.minor) end o₄ → Puts given out at (write_record (fileformat v)) end o₄
unfolding write_record write_version
format_put v w₁ w₂ w₃ w₄ = then w₁ (then w₂ (then w₃ w₄))

-- what answers the needs of `put_version`
pub version_line : (v : Version) {given out : Bytes} {s : Progress} {end : Sink} {o : Bytes} → Puts given out s.next (write_record (fileformat v)) end o
    → {next : Sink} {o' : Bytes} → Puts given o end (ending false) next o' → {r : Progress} → r ≡ noted s end.at next → WroteLines given out s (write_record (fileformat v) ∷ []) r o'
version_line v w w' n = plain_line (write_record (fileformat v)) w (version_ends v) w' n

-- what answers the needs of `put_lines` and `put_run`
pub lines_put : (text : Bytes) (count : ℕ) {given out : Bytes} {s : Progress} {end : Sink} {o : Bytes} → Puts given out s.next text end o → {next : Sink} {o' : Bytes} → Puts given o end (ending false) next o'
    → {n : ℕ} → n ≡ onward s.lines count → PutsLines text count given out s (record { limit = s.limit; next = next; lines = n; long = s.long; start = s.start; formed = s.formed }) o'
lines_put text count {given} {out} {s} w {next} {o'} w' e = record {
  is = λ ls size t short. record {
    limit = refl;
    formed = refl;
    text = subst (λ (b : Bytes). Puts given out s.next b next o') (sym t) (then w w');
    count = rw size e;
    long = λ x y. sym (ap (option_or (long_in s)) (short s.lines s.next.at) ∙ else_none (long_in s));
  };
}

module _ (v : Version) (text : Bytes) (count : ℕ) {given out : Bytes} {s r : Progress} {o : Bytes} where
  pub run_one : count ≡ 1 → PutsEntry v text given out s r o → PutsRun v text count given out s r o
  run_one e p = record { one = λ f. p; more = λ n. absurd (n e) }

  pub run_more : (count ≡ 1 → ⊥) → PutsLines text count given out s r o → PutsRun v text count given out s r o
  run_more n p = record { one = λ e. absurd (n e); more = λ f. p }

pub ruleset lines = (lines_put, run_one, run_more)
