-- A map's fields: scans that end, what is read of them, and that what is written is read back. Assumes nothing.
use Prim.Native.Nat.{ℕ, zero, suc, ◌≤◌, ◌<◌}
use native.Mathlib.Omega.{arith}
use mathlib.Core.Path.{◌≡◌, refl, sym, ap, ap₂, ◌∙◌}
use mathlib.Core.Bool.{Bool, true, false, not, ◌||◌, ◌&&◌, false≢true}
use mathlib.Core.List.{List, [], ◌∷◌, ◌++◌, tail, append_assoc}
use Rattle.std.specs.Prelude.{Option, None, Some}
use lib.ListN.{length, length-append}
use borrow.Author.Tests.{eqb-true}
use Rattle.values.specs.Bytes.{Bytes, is, empty, begins, any, before, from}
use Rattle.values.specs.Value.{Value, bare, text_of, written, meaning_of, is_stop, in_quotes, quoted_text, is_bracketed, read_bare, read_values, read_unquoted, read_value, escape, value_of}
use Rattle.values.specs.Field.{Field, written_field, is_forbidden, is_key, read_key, with_value, may_bracket, with_key, read_field}
use Rattle.values.proofs.Tests.{pass, fail, test, or_l, or_r, and_l, and_r, and_off, not_true, both}
use Rattle.values.proofs.Lists.{OnSome, on_some, before_hit, before_miss, before_stop, from_hit, from_miss, from_stop, from_is}
use Rattle.values.proofs.Values.{bracketed_is, bracketed_not}
use Rattle.values.proofs.Escapes.{quoted_escape, unescaped_escape}
use Rattle.values.proofs.Fields.{KeyIn, key_in, key_is, tail_is}
use Rattle.values.proofs.Places.{QuotedIn, quoted_in}
use Rattle.rules.specs.Map.{After, more, done, wrong, after, scan, read_fields}
use Rattle.rules.specs.House.{closes, needs_quotes, write_more, write_fields}
use Rattle.rules.proofs.Pure.{Pure, pure_nil, pure_join, pure_split, pure_tail, pure_cut}
use Rattle.rules.specs.Claims.{All}

-- What is read is pure

stop_ascii : (b : ℕ) → is_stop b ≡ true → b < 128
stop_ascii b h = elim (test (is 44 b)) [
  | pass e ↦ omega (arith, eqb-true b 44 e)
  | fail e ↦ let f : is 62 b ≡ true = rw e at h in omega (arith, eqb-true b 62 f)
]

is_ascii : (c : ℕ) → c < 128 → (b : ℕ) → is c b ≡ true → b < 128
is_ascii c l b h = omega (arith, eqb-true b c h)

-- a value's text and the rest
abbrev PureValue : Value × Bytes → Type 0
PureValue p = Pure (text_of p.0) × Pure p.1

in_quotes_pure : (bs : Bytes) (a : Option (Bytes × Bytes)) → Pure bs → OnSome (QuotedIn bs) a → OnSome PureValue (in_quotes a)
in_quotes_pure bs None g h = tt
in_quotes_pure bs (Some p) g h = pure_split p.0 34 p.1 (omega arith) (rw h at g)

values_pure : (bs : Bytes) → Pure bs → OnSome PureValue (read_values bs)
values_pure bs g = elim (test (is_bracketed bs)) [
  | pass e ↦
      let d = pure_cut (is 93) (is_ascii 93 (omega arith)) bs g in
      let f = from_is 93 bs (and_r (begins 91 bs) _ e) in
      rw (bracketed_is bs e) (pure_join (record { ascii = omega arith; other = refl }) d.0 pure_nil, pure_tail 93 (tail (from (is 93) bs)) (omega arith) (rw f at d.1))
  | fail e ↦ rw (bracketed_not bs e) (pure_cut is_stop stop_ascii bs g)
]

value_pure : (m : Bool) (bs : Bytes) → Pure bs → OnSome PureValue (read_value m bs)
unfolding read_value
value_pure m bs g = elim (test (begins 34 bs)) [
  | pass e ↦ rw (read_value, e) (in_quotes_pure (tail bs) (quoted_text false (tail bs)) (pure_tail 34 (tail bs) (omega arith) (rw (tail_is 34 bs e) at g)) (quoted_in false (tail bs)))
  | fail e ↦ rw (read_value, e) (unquoted m)
]
  where
    unquoted : (m : Bool) → OnSome PureValue (read_unquoted m bs)
    unquoted true = values_pure bs g
    unquoted false = pure_cut is_stop stop_ascii bs g

-- a field as read: its key is one, and its parts are pure
pub record GoodField (f : Field) : Type 0 where
  pub legal : is_key f.key ≡ true
  pub plain : any (is 61) f.key ≡ false
  pub key : Pure f.key
  pub text : Pure (text_of f.value)

abbrev GoodRead : Field × Bytes → Type 0
GoodRead p = GoodField p.0 × Pure p.1

field_good : (m : Bool) (bs : Bytes) → Pure bs → OnSome GoodRead (read_field m bs)
unfolding read_field
field_good m bs g = with_key_lem (read_key bs) (key_in bs)
  where
    with_value_lem : (p : Bytes × Bytes) → KeyIn bs p → Pure p.0 → (a : Option (Value × Bytes)) → OnSome PureValue a → OnSome GoodRead (with_value p.0 a)
    with_value_lem p k l None h = tt
    with_value_lem p k l (Some q) h = (record { legal = k.legal; plain = k.plain; key = l; text = h.0 }, h.1)

    with_key_lem : (a : Option (Bytes × Bytes)) → OnSome (KeyIn bs) a → OnSome GoodRead (with_key m a)
    with_key_lem None h = tt
    with_key_lem (Some p) h =
        let d = pure_split p.0 61 p.1 (omega arith) (rw h.text at g) in
        with_value_lem p h d.0 (read_value (may_bracket m p.0) p.1) (value_pure (may_bracket m p.0) p.1 d.1)

-- what follows a value, by cases with the equation kept
pub data SeenAfter (a : After) : Type 0 where
  was_more : (r : Bytes) → a ≡ more r → SeenAfter a
  was_done : a ≡ done → SeenAfter a
  was_wrong : a ≡ wrong → SeenAfter a

pub see_after : (a : After) → SeenAfter a
see_after (more r) = was_more r refl
see_after done = was_done refl
see_after wrong = was_wrong refl

-- what follows a value
abbrev pub AfterIn : Bytes → After → Type 0
AfterIn bs (more r) = bs ≡ 44 ∷ r
AfterIn bs done = bs ≡ 62 ∷ []
AfterIn bs wrong = Unit {0}

pub after_in : (bs : Bytes) → AfterIn bs (after bs)
unfolding after
after_in [] = tt
after_in (b ∷ bs) = elim (test (is 44 b)) [
  | pass e ↦ rw (after, e) (rw (eqb-true b 44 e))
  | fail e ↦ elim (test (is 62 b && empty bs)) [
    | pass f ↦ rw (after, e, f) (ap₂ ◌∷◌ (eqb-true b 62 (and_l (is 62 b) (empty bs) f)) (None bs (and_r (is 62 b) (empty bs) f)))
    | fail f ↦ rw (after, e, f) tt
  ]
]
  where
    None : (bs : Bytes) → empty bs ≡ true → bs ≡ []
    None [] h = refl
    None (b ∷ bs) h = absurd (false≢true h)

pub data SeenField (a : Option (Field × Bytes)) : Type 0 where
  no_field : a ≡ None → SeenField a
  a_field : (p : Field × Bytes) → a ≡ Some p → SeenField a

pub see_field : (a : Option (Field × Bytes)) → SeenField a
see_field None = no_field refl
see_field (Some p) = a_field p refl

scan_good : (n : ℕ) (m : Bool) (bs : Bytes) → Pure bs → All GoodField (scan n m bs).0
unfolding scan
scan_good zero m bs g = tt
scan_good (suc n) m bs g = elim (see_field (read_field m bs)) [
  | no_field e ↦ rw (scan, e) tt
  | a_field p e ↦ let d = on_some GoodRead (field_good m bs g) e in
      elim (see_after (after p.1)) [
        | was_more r a ↦ rw (scan, e, a) (d.0, scan_good n m r (pure_tail 44 r (omega arith) (rw (rw a at (after_in p.1)) at d.1)))
        | was_done a ↦ rw (scan, e, a) (d.0, tt)
        | was_wrong a ↦ rw (scan, e, a) (d.0, tt)
      ]
]

-- the fields that were read are good
pub fields_good : (m needed : Bool) (bs : Bytes) → Pure bs → All GoodField (read_fields m needed bs).0
unfolding read_fields
fields_good m needed bs g = elim (test (not needed && (empty bs || begins 62 bs))) [
  | pass e ↦ rw (read_fields, e) tt
  | fail e ↦ rw (read_fields, e) (scan_good (length bs) m bs g)
]

-- What is written is read back

-- a value that is read as itself before a `,` or `>`
abbrev pub Stable : Bool → Value → Type 0
Stable m v = (c : ℕ) (r : Bytes) → is_stop c ≡ true → read_value m (written v ++ c ∷ r) ≡ Some (v, c ∷ r)

pub record StableField (m : Bool) (f : Field) : Type 0 where
  pub legal : is_key f.key ≡ true
  pub plain : any (is 61) f.key ≡ false
  pub value : Stable (may_bracket m f.key) f.value

key_back : (k r : Bytes) → is_key k ≡ true → any (is 61) k ≡ false → read_key (k ++ 61 ∷ r) ≡ Some (k, r)
unfolding begins
key_back k r l p =
    let b = before_stop (is 61) k 61 r p refl in
    let f = from_stop (is 61) k 61 r p refl in
    key_is (k ++ 61 ∷ r) (rw (b, f) (rw l)) ∙ rw (b, f)

field_back : (m : Bool) (f : Field) (c : ℕ) (r : Bytes) → StableField m f → is_stop c ≡ true → read_field m (written_field f ++ c ∷ r) ≡ Some (f, c ∷ r)
unfolding read_field written_field
field_back m f c r h s =
    rw (append_assoc f.key (61 ∷ written f.value) (c ∷ r), key_back f.key (written f.value ++ c ∷ r) h.legal h.plain, h.value c r s)

scan_more : (n : ℕ) (m : Bool) (bs : Bytes) (f : Field) (r : Bytes) → read_field m bs ≡ Some (f, 44 ∷ r) → scan (suc n) m bs ≡ (f ∷ (scan n m r).0, (scan n m r).1)
unfolding scan after
scan_more n m bs f r e = rw (scan, e)

scan_done : (n : ℕ) (m : Bool) (bs : Bytes) (f : Field) → read_field m bs ≡ Some (f, 62 ∷ []) → scan (suc n) m bs ≡ (f ∷ [], 0)
unfolding scan after
scan_done n m bs f e = rw (scan, e)

scan_back : (m : Bool) (f : Field) (fs : List Field) (n : ℕ) → length fs < n → All (StableField m) (f ∷ fs)
    → scan n m (written_field f ++ (write_more fs ++ 62 ∷ [])) ≡ (f ∷ fs, 0)
unfolding write_more
scan_back m f fs zero l h = absurd (omega arith)
scan_back m f [] (suc n) l h = scan_done n m _ f (field_back m f 62 [] h.0 refl)
scan_back m f (g ∷ fs) (suc n) l h =
    let r = written_field g ++ (write_more fs ++ 62 ∷ []) in
    let e : (44 ∷ written_field g ++ write_more fs) ++ 62 ∷ [] ≡ 44 ∷ r = ap (44 ∷◌) (append_assoc (written_field g) (write_more fs) (62 ∷ [])) in
    rw (e, scan_more n m (written_field f ++ 44 ∷ r) f r (field_back m f 44 r h.0 refl), scan_back m g fs n (omega arith) h.1)

length_more : (fs : List Field) → length fs ≤ length (write_more fs)
unfolding write_more
length_more [] = omega arith
length_more (f ∷ fs) = rw (length-append (written_field f) (write_more fs)) (omega (arith, length_more fs))

-- a field begins with a byte of its key
field_start : (f : Field) (r : Bytes) → is_key f.key ≡ true → empty (written_field f ++ r) || begins 62 (written_field f ++ r) ≡ false
unfolding written_field any begins
field_start f r h = go f.key h
  where
    go : (k : Bytes) → is_key k ≡ true → empty ((k ++ 61 ∷ written f.value) ++ r) || begins 62 ((k ++ 61 ∷ written f.value) ++ r) ≡ false
    go [] e = cc
    go (b ∷ k) e =
        let q = or_l (is_forbidden b) (any is_forbidden k) (not_true (any is_forbidden (b ∷ k)) e) in
        or_r (is 44 b || is 60 b) (is 62 b) (or_l (is 44 b || is 60 b || is 62 b) (is 34 b) q)

fields_scan : (m needed : Bool) (bs : Bytes) → empty bs || begins 62 bs ≡ false → read_fields m needed bs ≡ scan (length bs) m bs
unfolding read_fields
fields_scan m needed bs h = rw (and_off (not needed) h, read_fields)

pub fields_back : (m needed : Bool) (f : Field) (fs : List Field) → All (StableField m) (f ∷ fs)
    → read_fields m needed (write_fields (f ∷ fs) ++ 62 ∷ []) ≡ (f ∷ fs, 0)
unfolding write_fields
fields_back m needed f fs h =
    let r = write_more fs ++ 62 ∷ [] in
    let s = field_start f r h.0.legal in
    let l : length fs < length (written_field f ++ r) = simp length-append (omega (arith, length_more fs)) in
    rw (append_assoc (written_field f) (write_more fs) (62 ∷ [])) (fields_scan m needed (written_field f ++ r) s ∙ scan_back m f fs _ l h)

-- The house form's choice of quotes

closes_yes : (c b : ℕ) (t : Bytes) → is c b ≡ true → closes c (b ∷ t) ≡ empty t
unfolding closes
closes_yes c b t e = rw (e, closes)

closes_no : (c b : ℕ) (t : Bytes) → is c b ≡ false → closes c (b ∷ t) ≡ closes c t
unfolding closes
closes_no c b t e = rw (e, closes)

-- a text that its first c closes is cut there, whatever follows
record Closed (c : ℕ) (t r : Bytes) : Type 0 where
  text : before (is c) (t ++ r) ++ c ∷ [] ≡ t
  rest : tail (from (is c) (t ++ r)) ≡ r
  has : any (is c) (t ++ r) ≡ true

closed : (c : ℕ) (t r : Bytes) → closes c t ≡ true → Closed c t r
unfolding closes any
closed c [] r h = absurd (false≢true h)
closed c (b ∷ t) r h = elim (test (is c b)) [
  | pass e ↦ last t (sym (closes_yes c b t e) ∙ h) e
  | fail e ↦ let d = closed c t r (sym (closes_no c b t e) ∙ h) in record {
    text = rw (before_miss (is c) b (t ++ r) e) (ap (b ∷◌) d.text);
    rest = rw (from_miss (is c) b (t ++ r) e) d.rest;
    has = rw e d.has;
  }
]
  where
    last : (t : Bytes) → empty t ≡ true → is c b ≡ true → Closed c (b ∷ t) r
    last [] h e = record {
      text = rw (before_hit (is c) b r e, eqb-true b c e);
      rest = rw (from_hit (is c) b r e);
      has = rw e;
    }
    last (x ∷ t) h e = absurd (false≢true h)

begins_append : (c : ℕ) (t : Bytes) (d : ℕ) (r : Bytes) → begins c t ≡ false → is c d ≡ false → begins c (t ++ d ∷ r) ≡ false
unfolding begins
begins_append c [] d r h k = k
begins_append c (b ∷ t) d r h k = h

begins_more : (c : ℕ) (t r : Bytes) → begins c t ≡ true → begins c (t ++ r) ≡ true
unfolding begins
begins_more c [] r h = absurd (false≢true h)
begins_more c (b ∷ t) r h = h

-- a stop is neither a quote nor a bracket
stop_not : (x c : ℕ) → is_stop x ≡ false → is_stop c ≡ true → is x c ≡ false
stop_not x c n s = elim (test (is x c)) [ pass e ↦ both (rw (eqb-true c x e) at s) n | fail e ↦ e ]

value_not : (m : Bool) (bs : Bytes) → begins 34 bs ≡ false → read_value m bs ≡ read_unquoted m bs
unfolding read_value
value_not m bs h = rw (h, read_value)

bare_back : (t : Bytes) (c : ℕ) (r : Bytes) → any is_stop t ≡ false → is_stop c ≡ true → read_bare (t ++ c ∷ r) ≡ Some (bare t, c ∷ r)
bare_back t c r h s = rw (before_stop is_stop t c r h s, from_stop is_stop t c r h s)

pub quoted_stable : (m : Bool) (t : Bytes) → Stable m (value_of true t)
unfolding read_value written begins
quoted_stable m t c r s = rw (append_assoc (escape t) (34 ∷ []) (c ∷ r), quoted_escape t (c ∷ r))

-- a bare value that needs no quotes
pub bare_stable : (m : Bool) (t : Bytes) → needs_quotes t ≡ false → m && begins 91 t ≡ false → Stable m (value_of false t)
unfolding written
bare_stable m t n k c r s =
    let q = begins_append 34 t c r (or_l (begins 34 t) (any is_stop t) n) (stop_not 34 c refl s) in
    value_not m (t ++ c ∷ r) q ∙ unquoted m k
  where
    unquoted : (m : Bool) → m && begins 91 t ≡ false → read_unquoted m (t ++ c ∷ r) ≡ Some (bare t, c ∷ r)
    unquoted true k = bracketed_not (t ++ c ∷ r) (rw (begins_append 91 t c r k (stop_not 91 c refl s))) ∙ bare_back t c r (or_r (begins 34 t) (any is_stop t) n) s
    unquoted false k = bare_back t c r (or_r (begins 34 t) (any is_stop t) n) s

-- a bracketed one
pub brackets_stable : (t : Bytes) → begins 91 t ≡ true → closes 93 t ≡ true → Stable true (value_of false t)
unfolding written begins
brackets_stable t b k c r s =
    let d = closed 93 t (c ∷ r) k in
    value_not true (t ++ c ∷ r) (other t b)
    ∙ bracketed_is (t ++ c ∷ r) (rw (begins_more 91 t (c ∷ r) b) d.has)
    ∙ rw (d.text, d.rest)
  where
    other : (t : Bytes) → begins 91 t ≡ true → begins 34 (t ++ c ∷ r) ≡ false
    other [] h = absurd (false≢true h)
    other (b ∷ t) h = rw (eqb-true b 91 h)

pub meaning_back : (q : Bool) (t : Bytes) → meaning_of (value_of q t) ≡ t
meaning_back true t = unescaped_escape t
meaning_back false t = refl
