-- The Number and Type that a reserved ID asks for. Assumes nothing.
use Prim.Native.Nat.{ℕ, ◌≤◌}
use native.Mathlib.Omega.{arith}
use mathlib.Core.Path.{◌≡◌, refl, sym, ap, ap₂, ◌∙◌}
use mathlib.Core.Bool.{Bool, true, false, not, ◌&&◌, false≢true}
use mathlib.Core.List.{List, [], ◌∷◌, ◌++◌}
use Rattle.std.specs.Prelude.{Option, None, Some}
use lib.Dec.{eqb, ltb}
use borrow.Author.Tests.{eqb-true, eq-eqb, ne_eqb, eqb-false, lt-ltb, ltb-true}
use Rattle.values.specs.Bytes.{Bytes, ascii, begins, any, same}
use Rattle.values.specs.Integer.{u64_read, unsigned_read, without_sign, number_of}
use Rattle.values.specs.Value.{meaning}
use Rattle.values.specs.declared.string.Text.{Text}
use Rattle.values.proofs.Tests.{pass, fail, test, and_l, and_r, not_true, not_false, never}
use Rattle.values.proofs.Lists.{some_is}
use Rattle.values.proofs.Sames.{same_sound}
use Rattle.rules.specs.Answer.{unless}
use Rattle.rules.specs.Version.{Version, version, v4_3, v4_4, v4_5, earlier, at_version}
use Rattle.rules.specs.Known.{Kind, INFO, FILTER, FORMAT, ALT, contig, other, is_info, is_format, is_in, kind_of, letters, count_or, letter_in, read_number}
use Rattle.rules.specs.Known.{count, letter}
use Rattle.rules.specs.Known.{Number as Asked}
use Rattle.rules.specs.Reserved.{ReservedRow, info_rows, info_rows4_3, info_rows4_4, format_rows, format_rows4_3, format_rows4_4, format_rows4_5, reserved_rows, look_row, reserved, is_number, declares}
use Rattle.rules.specs.Map.{is_value, value_named, misdeclared}
use Rattle.records.specs.Keys.{case_bytes, kind_by}
use Rattle.records.specs.Numbers.{letters_of, is_integer, lettered, is_number_of, type_name}
use Rattle.records.specs.Definitions.{asked, definition_means, outline}
use Rattle.records.specs.Fields.{text_in}
use Rattle.records.specs.Maps.{Declared}
use Rattle.records.specs.Records.{fits}
use Rattle.records.specs.declared.key.MapKey.{MapKey}
use Rattle.records.specs.declared.number.Number.{Number}
use Rattle.records.specs.declared.number.Number.TheVariants.{Count, Letter}
use Rattle.records.specs.declared.number.Letters.TheVariants.{Common, Phased, Local}
use Rattle.records.specs.declared.number.ValueType.{ValueType}
use Rattle.records.proofs.Keys.{kind_by_case}
use Rattle.records.proofs.Definitions.{plain_rows, look_raw}

eqb_sym : (a b : ℕ) → eqb a b ≡ eqb b a
eqb_sym a b = elim (test (eqb b a)) [
  | pass e ↦ rw e (eq-eqb a b (sym (eqb-true b a e)))
  | fail e ↦ rw e (ne_eqb a b (λ q. eqb-false b a e (sym q)))
]

-- a letter among those that the kind has, which is no integer
module _ (v : Version) (kind : Kind) (l t : Bytes) (no : u64_read l ≡ None) (known : is_in l (letters v kind) ≡ true) where
  integer_not : {m : ℕ} {p : Bool} → u64_read t ≡ Some (m, p) → false ≡ same l t
  integer_not e = elim (test (same l t)) [
    | pass q ↦ let z = sym (ap u64_read (same_sound l t q) ∙ e) ∙ no in never cc
    | fail q ↦ sym q
  ]

  letter_not : is_in t (letters v kind) ≡ false → false ≡ same l t
  letter_not e = elim (test (same l t)) [
    | pass q ↦ absurd (false≢true (sym e ∙ sym (ap (λ (x : Bytes). is_in x (letters v kind)) (same_sound l t q)) ∙ known))
    | fail q ↦ sym q
  ]

  letter_asked : (i : Option (ℕ × Bool)) → u64_read t ≡ i → is_number (letter l) (count_or (letter_in (letters v kind) t) i) ≡ same l t
  letter_asked (Some (m, p)) e = integer_not e
  letter_asked None e = elim (test (is_in t (letters v kind))) [ pass q ↦ rw (is_number, q) | fail q ↦ rw (is_number, q) (letter_not q) ]

count_asked : (n : ℕ) (ls : List Bytes) (t : Bytes) (i : Option (ℕ × Bool)) → is_number (count n) (count_or (letter_in ls t) i) ≡ is_integer n i
count_asked n ls t (Some (m, p)) = eqb_sym n m
count_asked n ls t None = elim (test (is_in t ls)) [ pass q ↦ rw (is_number, q) | fail q ↦ rw (is_number, q) ]

-- a count, or a letter that is no integer and is one of those that the version and the kind have
abbrev readable : Version → Kind → Asked → Bool
readable v kind (count n) = true
readable v kind (letter l) = not (is_value (u64_read l)) && is_in l (letters v kind)

abbrev readable_row : Version → Kind → Option ReservedRow → Bool
readable_row v kind None = true
readable_row v kind (Some r) = readable v kind r.number

abbrev readable_rows : Version → Kind → List ReservedRow → Bool
readable_rows v kind [] = true
readable_rows v kind (r ∷ rs) = readable v kind r.number && readable_rows v kind rs

no_value : (i : Option (ℕ × Bool)) → not (is_value i) ≡ true → i ≡ None
no_value (Some (m, p)) e = absurd (false≢true e)
no_value None e = refl

module _ (v : Version) (kind : Kind) (t raw : Bytes) (q : Bool) (m : t ≡ meaning q raw) (i : u64_read t ≡ u64_read raw) where
  number_asked : (x : Number) → readable v kind (asked x) ≡ true → is_number (asked x) (read_number v kind t) ≡ is_number_of x raw q
  unfolding read_number
  number_asked (Count n) h = count_asked n (letters v kind) t (u64_read t) ∙ ap (is_integer n) i
  number_asked (Letter a b) h =
      let l = lettered a b in
      letter_asked v kind l t (no_value (u64_read l) (and_l (not (is_value (u64_read l))) (is_in l (letters v kind)) h)) (and_r (not (is_value (u64_read l))) (is_in l (letters v kind)) h) (u64_read t) refl
      ∙ ap (same l) m

  declares_as : (ty : Bytes) (p : Bool) {y : Bytes} → y ≡ meaning p ty → (d : Option (Number × ValueType)) (r : Option ReservedRow) → readable_row v kind r ≡ true → definition_means d ≡ outline r
      → declares r (read_number v kind t) y ≡ fits d raw q ty p
  declares_as ty p w None None h e = refl
  declares_as ty p w None (Some r) h e = never cc
  declares_as ty p w (Some (x, z)) None h e = never cc
  declares_as ty p w (Some (x, z)) (Some r) h e =
      rw (sym (pair e).0, sym (pair e).1, w) (ap (λ (b : Bool). b && same (type_name z) (meaning p ty)) (number_asked x (rw (pair e).0 h)))
    where
      pair : {a b : Asked} {c d : Bytes} → ◌≡◌ {A = Option (Asked × Bytes)} (Some (a, c)) (Some (b, d)) → (a ≡ b) × (c ≡ d)
      pair {a} {b} {c} {d} e = let p : ◌≡◌ {A = Asked × Bytes} (a, c) (b, d) = some_is e in (ap (λ (x : Asked × Bytes). x.0) p, ap (λ (x : Asked × Bytes). x.1) p)

-- The pages of a version and a kind

info_is : (kind : Kind) → is_info kind ≡ true → kind ≡ INFO
info_is INFO e = refl
info_is FILTER e = absurd (false≢true e)
info_is FORMAT e = absurd (false≢true e)
info_is ALT e = absurd (false≢true e)
info_is contig e = absurd (false≢true e)
info_is other e = absurd (false≢true e)

format_is : (kind : Kind) → is_format kind ≡ true → kind ≡ FORMAT
format_is INFO e = absurd (false≢true e)
format_is FILTER e = absurd (false≢true e)
format_is FORMAT e = refl
format_is ALT e = absurd (false≢true e)
format_is contig e = absurd (false≢true e)
format_is other e = absurd (false≢true e)

-- a version before one is before those that follow it
earlier_up : (v : Version) (a m n : ℕ) → m ≤ n → earlier v (version a m) ≡ true → earlier v (version a n) ≡ true
unfolding earlier
earlier_up v a m n h e = elim (test (ltb v.major a)) [
  | pass q ↦ rw q
  | fail q ↦
      let p = rw q at e in
      rw (q, and_l (eqb v.major a) (ltb v.minor m) p, lt-ltb v.minor n (omega (arith, ltb-true v.minor m (and_r (eqb v.major a) (ltb v.minor m) p), h)))
]

before_4_4 : (v : Version) → earlier v v4_3 ≡ true → earlier v v4_4 ≡ true
before_4_4 v e = earlier_up v 4 3 4 (omega arith) e

before_4_5 : (v : Version) → earlier v v4_4 ≡ true → earlier v v4_5 ≡ true
before_4_5 v e = earlier_up v 4 4 5 (omega arith) e

module _ (v : Version) where
  rows_before : (kind : Kind) → earlier v v4_3 ≡ true → reserved_rows v kind ≡ []
  unfolding at_version
  rows_before INFO e = rw (at_version, before_4_5 v (before_4_4 v e), before_4_4 v e, e)
  rows_before FILTER e = refl
  rows_before FORMAT e = rw (at_version, before_4_5 v (before_4_4 v e), before_4_4 v e, e)
  rows_before ALT e = refl
  rows_before contig e = refl
  rows_before other e = refl

  rows_of : (kind : Kind) → is_info kind ≡ false → is_format kind ≡ false → reserved_rows v kind ≡ []
  unfolding at_version
  rows_of INFO e f = absurd (false≢true (sym e))
  rows_of FILTER e f = refl
  rows_of FORMAT e f = absurd (false≢true (sym f))
  rows_of ALT e f = refl
  rows_of contig e f = refl
  rows_of other e f = refl

  info_page_4_3 : earlier v v4_3 ≡ false → earlier v v4_4 ≡ true → reserved_rows v INFO ≡ info_rows ++ info_rows4_3
  unfolding at_version
  info_page_4_3 a b = rw (at_version, before_4_5 v b, b, a)

  info_page_4_4 : earlier v v4_4 ≡ false → reserved_rows v INFO ≡ info_rows ++ info_rows4_4
  unfolding at_version
  info_page_4_4 b = elim (test (earlier v v4_5)) [ pass e ↦ rw (at_version, e, b) | fail e ↦ rw (at_version, e) ]

  format_page_4_3 : earlier v v4_3 ≡ false → earlier v v4_4 ≡ true → reserved_rows v FORMAT ≡ format_rows ++ format_rows4_3
  unfolding at_version
  format_page_4_3 a b = rw (at_version, before_4_5 v b, b, a)

  format_page_4_4 : earlier v v4_4 ≡ false → earlier v v4_5 ≡ true → reserved_rows v FORMAT ≡ format_rows ++ format_rows4_4
  unfolding at_version
  format_page_4_4 b c = rw (at_version, c, b)

  format_page_4_5 : earlier v v4_5 ≡ false → reserved_rows v FORMAT ≡ format_rows ++ format_rows4_4 ++ format_rows4_5
  unfolding at_version
  format_page_4_5 c = rw (at_version, c)

  -- the letters that a version's rows ask for are letters of that version
  all_readable : (kind : Kind) → readable_rows v kind (reserved_rows v kind) ≡ true
  unfolding at_version letters is_in same begins any unsigned_read without_sign number_of
  all_readable INFO = elim (test (earlier v v4_4)) [
    | pass b ↦ elim (test (earlier v v4_3)) [ pass a ↦ rw (rows_before INFO a) | fail a ↦ rw (info_page_4_3 a b) ]
    | fail b ↦ rw (info_page_4_4 b)
  ]
  all_readable FILTER = refl
  all_readable FORMAT = elim (test (earlier v v4_4)) [
    | pass b ↦ elim (test (earlier v v4_3)) [ pass a ↦ rw (rows_before FORMAT a) | fail a ↦ rw (format_page_4_3 a b, at_version, before_4_5 v b, b) ]
    | fail b ↦ elim (test (earlier v v4_5)) [ pass c ↦ rw (format_page_4_4 b c, at_version, c, b) | fail c ↦ rw (format_page_4_5 c, at_version, c) ]
  ]
  all_readable ALT = refl
  all_readable contig = refl
  all_readable other = refl

  -- and those of the code's three cases
  module _ (kind : Kind) {f : Bool} (a : f ≡ is_format kind) where
    pub letters_unlisted : not f ≡ true → letters_of Common ≡ letters v kind
    unfolding letters at_version
    letters_unlisted g = go kind (sym a ∙ not_true f g)
      where
        go : (kind : Kind) → is_format kind ≡ false → letters_of Common ≡ letters v kind
        go INFO e = refl
        go FILTER e = refl
        go FORMAT e = absurd (false≢true (sym e))
        go ALT e = refl
        go contig e = refl
        go other e = refl

    module _ (g : not f ≡ false) {e : Bool} (b : e ≡ earlier v v4_4) where
      pub letters_before : e ≡ true → letters_of Common ≡ letters v kind
      unfolding letters at_version
      letters_before h = rw (letters, format_is kind (sym a ∙ not_false f g), at_version, before_4_5 v (sym b ∙ h), sym b ∙ h)

      module _ (h : e ≡ false) {l : Bool} (c : l ≡ earlier v v4_5) where
        pub letters_4_4 : l ≡ true → letters_of Phased ≡ letters v kind
        unfolding letters at_version
        letters_4_4 i = rw (letters, format_is kind (sym a ∙ not_false f g), at_version, sym c ∙ i, sym b ∙ h)

        pub letters_4_5 : l ≡ false → letters_of Local ≡ letters v kind
        unfolding letters at_version
        letters_4_5 i = rw (letters, format_is kind (sym a ∙ not_false f g), at_version, sym c ∙ i)

pub ruleset lettering = (letters_unlisted, letters_before, letters_4_4, letters_4_5)

module _ (v : Version) (kind : Kind) (q : Bool) (id : Bytes) where
  abbrev Row : Option (Asked × Bytes) → Type 0
  Row o = o ≡ outline (reserved v kind (meaning q id))

  none_of : reserved_rows v kind ≡ [] → Row None
  unfolding reserved look_row
  none_of e = rw (reserved, e)

  row_of : (rs : List ReservedRow) → plain_rows rs ≡ true → reserved_rows v kind ≡ rs → {o : Option (Asked × Bytes)} → o ≡ outline (look_row id rs) → Row o
  unfolding reserved
  row_of rs t e f = f ∙ ap outline (sym (look_raw rs t q id) ∙ ap (look_row (meaning q id)) (sym e))

  module _ {a : Bool} (isa : a ≡ earlier v v4_3) where
    pub row_before : a ≡ true → Row None
    row_before e = none_of (rows_before v kind (sym isa ∙ e))

    module _ (na : a ≡ false) {i : Bool} (isi : i ≡ is_info kind) {b : Bool} (isb : b ≡ earlier v v4_4) where
      module _ (yi : i ≡ true) where
        pub row_info_4_3 : b ≡ true → {o : Option (Asked × Bytes)} → o ≡ outline (look_row id (info_rows ++ info_rows4_3)) → Row o
        unfolding any
        row_info_4_3 e f = row_of (info_rows ++ info_rows4_3) refl (ap (reserved_rows v) (info_is kind (sym isi ∙ yi)) ∙ info_page_4_3 v (sym isa ∙ na) (sym isb ∙ e)) f

        pub row_info_4_4 : b ≡ false → {o : Option (Asked × Bytes)} → o ≡ outline (look_row id (info_rows ++ info_rows4_4)) → Row o
        unfolding any
        row_info_4_4 e f = row_of (info_rows ++ info_rows4_4) refl (ap (reserved_rows v) (info_is kind (sym isi ∙ yi)) ∙ info_page_4_4 v (sym isb ∙ e)) f

      module _ {g : Bool} (isg : g ≡ is_format kind) (yg : not g ≡ false) where
        format_rows_lem : reserved_rows v kind ≡ reserved_rows v FORMAT
        format_rows_lem = ap (reserved_rows v) (format_is kind (sym isg ∙ not_false g yg))

        pub row_format_4_3 : b ≡ true → {o : Option (Asked × Bytes)} → o ≡ outline (look_row id (format_rows ++ format_rows4_3)) → Row o
        unfolding any
        row_format_4_3 e f = row_of (format_rows ++ format_rows4_3) refl (format_rows_lem ∙ format_page_4_3 v (sym isa ∙ na) (sym isb ∙ e)) f

        module _ (nb : b ≡ false) {c : Bool} (isc : c ≡ earlier v v4_5) where
          pub row_format_4_4 : c ≡ true → {o : Option (Asked × Bytes)} → o ≡ outline (look_row id (format_rows ++ format_rows4_4)) → Row o
          unfolding any
          row_format_4_4 e f = row_of (format_rows ++ format_rows4_4) refl (format_rows_lem ∙ format_page_4_4 v (sym isb ∙ nb) (sym isc ∙ e)) f

          pub row_format_4_5 : c ≡ false → {o : Option (Asked × Bytes)} → o ≡ outline (look_row id (format_rows ++ format_rows4_4 ++ format_rows4_5)) → Row o
          unfolding any
          row_format_4_5 e f = row_of (format_rows ++ format_rows4_4 ++ format_rows4_5) refl (format_rows_lem ∙ format_page_4_5 v (sym isc ∙ e)) f

  pub row_unlisted : {i : Bool} → i ≡ is_info kind → i ≡ false → {g : Bool} → g ≡ is_format kind → not g ≡ true → Row None
  row_unlisted a b {g} c d = none_of (rows_of v kind (sym a ∙ b) (sym c ∙ not_true g d))

pub ruleset rows = (row_before, row_info_4_3, row_info_4_4, row_format_4_3, row_format_4_4, row_format_4_5, row_unlisted)

look_readable : (v : Version) (kind : Kind) (id : Bytes) (rs : List ReservedRow) → readable_rows v kind rs ≡ true → readable_row v kind (look_row id rs) ≡ true
unfolding look_row
look_readable v kind id [] t = refl
look_readable v kind id (r ∷ rs) t = elim (test (same r.id id)) [
  | pass e ↦ rw (look_row, e) (and_l (readable v kind r.number) (readable_rows v kind rs) t)
  | fail e ↦ rw (look_row, e) (look_readable v kind id rs (and_r (readable v kind r.number) (readable_rows v kind rs) t))
]

pub reserved_asked : (v : Version) (key : MapKey) (s : Bytes) (id number kind : Text) {n x y : Bytes} → n ≡ text_in s id → x ≡ text_in s number → y ≡ text_in s kind
    → (d : Option (Number × ValueType)) → definition_means d ≡ outline (reserved v (kind_by key) (meaning id.quoted n)) → {r : Bool} → r ≡ fits d x number.quoted y kind.quoted
    → Declared v key s id number kind r
unfolding misdeclared reserved
reserved_asked v key s id number kind {n} {x} {y} i j l d m {r} z = record {
  is = λ at tag tally t.
      let row : reserved v (kind_of (case_bytes key)) (value_named v (case_bytes key) (ascii "ID") t.fs) ≡ reserved v (kind_by key) (meaning id.quoted n)
      = ap₂ (reserved v) (kind_by_case key) (t.id_is ∙ ap (meaning id.quoted) (sym i)) in
      rw (misdeclared, row) (ap (λ (b : Bool). unless b 18) (
      declares_as v (kind_of (case_bytes key)) (value_named v (case_bytes key) (ascii "Number") t.fs) x number.quoted (t.number_is ∙ ap (meaning number.quoted) (sym j)) (t.raw ∙ ap u64_read (sym j))
      y kind.quoted (t.kind_is ∙ ap (meaning kind.quoted) (sym l)) d (reserved v (kind_by key) (meaning id.quoted n))
      (rw (kind_by_case key) (look_readable v (kind_by key) (meaning id.quoted n) (reserved_rows v (kind_by key)) (all_readable v (kind_by key)))) m
      ∙ sym z));
}

pub no_definition : (d : Option (Number × ValueType)) (n : Bytes) (nq : Bool) (t : Bytes) (tq : Bool) → d ≡ None → true ≡ fits d n nq t tq
no_definition d n nq t tq e = rw e

module _ (d : Option (Number × ValueType)) (n : Bytes) (nq : Bool) (t : Bytes) (tq : Bool) {x : Number} where
  pub other_number : {y : ValueType} → d ≡ Some (x, y) → {q : Bool} → q ≡ is_number_of x n nq → not q ≡ true → false ≡ fits d n nq t tq
  other_number e {q} a b = rw (e, sym a ∙ not_true q b)

  pub its_number : {y : ValueType} → d ≡ Some (x, y) → {q : Bool} → q ≡ is_number_of x n nq → not q ≡ false → {r : Bool} → r ≡ same (type_name y) (meaning tq t) → r ≡ fits d n nq t tq
  its_number e {q} a b c = rw (e, sym a ∙ not_false q b) c

pub ruleset defined = (no_definition, other_number, its_number)
