-- What a register call answers is what the definitions say, and it is one answer. Assumes nothing.
use Prim.Native.Nat.{ℕ, ◌-◌, ◌≤◌, ◌<◌}
use native.Mathlib.Omega.{arith}
use mathlib.Core.Path.{◌≡◌, refl, sym, ap, ap₂, ◌∙◌}
use mathlib.Core.Bool.{Bool, true, false}
use mathlib.Core.List.{List, [], ◌∷◌, tail}
use Rattle.std.specs.Prelude.{Option, None, Some, Result, Ok, Err, ⊤}
use lib.Dec.{eqb}
use lib.ListN.{length, get_or}
use Rattle.values.specs.Bytes.{Bytes}
use Rattle.values.proofs.Lists.{some_is, none_not}
use Rattle.rules.specs.Version.{Version, v4_3, earlier}
use Rattle.rules.specs.Reading.{Reading}
use Rattle.rules.proofs.Trace.{header_traced}
use Rattle.records.specs.Formats.{version_of}
use Rattle.records.specs.Refusals.{number}
use Rattle.records.specs.declared.refusal.Refusal.{Refusal}
use Rattle.records.specs.declared.refusal.Refusal.TheVariants as refusal
use Rattle.records.proofs.Refusals.{number_suc, number_injective}
use Rattle.records.specs.declared.file_format.FileFormat.{FileFormat}
use Rattle.entries.specs.declared.form.Form.{Form}
use Rattle.entries.specs.Values.{limits_by}
use Rattle.entries.specs.Tables.{room, first_entries, entry_in}
use Rattle.header.proofs.Callers.{Read, read_refused, read_accepted, read_records, read_kept, read_good}
use Rattle.header.specs.declared.parser.ReadAnswer.{ReadAnswer}
use Rattle.header.specs.Parsers.{AnswerMeaning, answer_means, reading_means, read_into, ReadCall}
use Rattle.register.specs.declared.probe.RegisterRefusal.{RegisterRefusal}
use Rattle.register.specs.declared.probe.RegisterRefusal.TheVariants.{Unread, EarlyVersion, UnknownCell, MissingWell, InvalidConstant}
use Rattle.register.specs.declared.probe.RegisterRead.{RegisterRead}
use Rattle.register.specs.declared.cells.Plate.{Plate}
use Rattle.register.specs.Cells.{Cell, cells, first_of, wells}
use Rattle.register.specs.Register.{register_refused, absent, fault_in, fault_of, faulty, constants, settled, counted, wells_known, register_accepted, unread, in_state, by_number, register_of}
use Rattle.register.specs.Wells.{cells_in, table_cells, cell_line, Lines, StartTold, MissingTold, filled, plate_of, ConstantsTold}
use Rattle.register.specs.Answers.{register_number, RegisterMeaning, register_answer_means, register_means, register_refused_as, AnswersKnown, AnswersRegister, RegisterCall}
use Rattle.register.proofs.Listed.{Seen, there, gone, see, faulty_here, faulty_later}
use Rattle.register.proofs.Walk.{from_entry}
use Rattle.register.proofs.Bridge.{header_cells}
use Rattle.rules.specs.Claims.{Sized}

-- what answers the needs of `number`
pub number_told : (o : Result ⊤ RegisterRefusal) {x : Refusal} → o ≡ Err (Unread x) → {r : ℕ} → r ≡ number x → r ≡ register_number o
number_told o e q = q ∙ rw e

-- The refusals, one by one

counted_absent : (g : Reading) (cs : List Cell) → absent wells cs ≡ true → counted g cs ≡ register_refused 39 0 0 g.entries
unfolding counted
counted_absent g cs e = rw (e, counted)

counted_there : (g : Reading) (cs : List Cell) → absent wells cs ≡ false → counted g cs ≡ settled g cs (faulty wells cs)
unfolding counted
counted_there g cs e = rw (e, counted)

-- a fault is the cell of a well
fault_cell : (ws : List ℕ) (cs : List Cell) {c : Cell} → faulty ws cs ≡ Some c → (w : ℕ) × (first_of w cs ≡ Some c)
unfolding faulty
fault_cell [] cs e = none_not e
fault_cell (w ∷ ws) cs {c} e = elim (see (fault_of (first_of w cs))) [
  | there d q ↦ (w, cell (first_of w cs) (q ∙ ap Some (some_is (sym (faulty_here w ws cs q) ∙ e))))
  | gone q ↦ fault_cell ws cs (sym (faulty_later w ws cs q) ∙ e)
]
  where
    cell : (o : Option Cell) → fault_of o ≡ Some c → o ≡ Some c
    cell None q = none_not q
    cell (Some d) q = one d.constant q
      where
        one : (k : Option ℕ) → fault_in d k ≡ Some c → Some d ≡ Some c
        one None q = q
        one (Some n) q = none_not q

-- what the reading told
module _ (a : ReadAnswer) (g : Reading) (e : answer_means a ≡ reading_means g) where
  line_is : a.line ≡ g.line
  line_is = ap (λ (x : AnswerMeaning). x.line) e

  start_is : a.start ≡ g.start
  start_is = ap (λ (x : AnswerMeaning). x.start) e

  entries_are : a.entries ≡ length g.entries
  entries_are = ap (λ (x : AnswerMeaning). x.entries) e

  -- a refusal of the register's own
  refusal_told : (x : Result ⊤ RegisterRefusal) (line start : ℕ) {r : RegisterRead} → r ≡ register_refused_as x line start a.entries → register_answer_means r ≡ register_means (register_refused (register_number x) line start g.entries)
  refusal_told x line start q = ap register_answer_means q ∙ ap (λ (n : ℕ). record { number = register_number x; line = line; start = start; entries = n; constants = filled [] }) entries_are

-- what answers the needs of `answer_known`
module _ (form : Form) (a : ReadAnswer) (h : Bytes) (t : List ℕ) {ls : List ℕ} {q : Bool} (m : MissingTold ls q) where
  pub known_missing : q ≡ true → {r : RegisterRead} → r ≡ register_refused_as (Err MissingWell) 0 0 a.entries → AnswersKnown form a h t ls r
  known_missing f i = record { is = λ l g e. refusal_told a g e (Err MissingWell) 0 0 i ∙ ap register_means (sym (counted_absent g (table_cells form h t) (sym (m.is form h t l) ∙ f))) }

  module _ (f : q ≡ false) {p : Plate} (k : ConstantsTold form h t ls p) where
    abbrev cs : List Cell
    cs = table_cells form h t

    settles : Lines cs ls → (g : Reading) → counted g cs ≡ settled g cs (faulty wells cs)
    settles l g = counted_there g cs (sym (m.is form h t l) ∙ f)

    plate_is : Lines cs ls → p ≡ plate_of cs (faulty wells cs)
    plate_is l = k.is l (sym (m.is form h t l) ∙ f)

    pub known_fault : 0 < p.fault → {s : ℕ} → StartTold form t p.fault s → {r : RegisterRead} → r ≡ register_refused_as (Err InvalidConstant) p.fault s a.entries → AnswersKnown form a h t ls r
    known_fault z {s} y {r} i = record {
      is = λ l g e. go g e (plate_is l) (settles l g) (see (faulty wells cs));
    }
      where
        go : (g : Reading) → answer_means a ≡ reading_means g → p ≡ plate_of cs (faulty wells cs) → counted g cs ≡ settled g cs (faulty wells cs) → Seen (faulty wells cs) → register_answer_means r ≡ register_means (counted g cs)
        go g e u w (gone n) = let b : p.fault ≡ 0 = ap (λ (x : Plate). x.fault) (u ∙ ap (plate_of cs) n) in absurd (omega arith)
        go g e u w (there c n) =
            let b : p.fault ≡ c.line = ap (λ (x : Plate). x.fault) (u ∙ ap (plate_of cs) n) in
            let d = fault_cell wells cs n in
            let o = from_entry form h t d.0 d.1 in
            let s-is : s ≡ c.start = y.is z ∙ ap (λ (x : ℕ). (entry_in form t (x - 1)).start) b ∙ sym o.start in
            refusal_told a g e (Err InvalidConstant) p.fault s i ∙ ap₂ (λ (x y : ℕ). register_means (register_refused 40 x y g.entries)) b s-is ∙ ap register_means (sym (w ∙ ap (settled g cs) n))

    pub known_whole : p.fault ≤ 0 → AnswersKnown form a h t ls (record { outcome = (Ok tt); line = a.line; start = a.start; entries = a.entries; constants = p.constants })
    known_whole z = record {
      is = λ l g e. go g e l (plate_is l) (settles l g) (see (faulty wells cs));
    }
      where
        go : (g : Reading) → answer_means a ≡ reading_means g → Lines cs ls → p ≡ plate_of cs (faulty wells cs) → counted g cs ≡ settled g cs (faulty wells cs) → Seen (faulty wells cs)
            → register_answer_means (record { outcome = (Ok tt); line = a.line; start = a.start; entries = a.entries; constants = p.constants }) ≡ register_means (counted g cs)
        go g e l u w (there c n) =
            let b : p.fault ≡ c.line = ap (λ (x : Plate). x.fault) (u ∙ ap (plate_of cs) n) in
            let d = fault_cell wells cs n in
            absurd (omega (arith, (from_entry form h t d.0 d.1).above, b))
        go g e l u w (gone n) =
            let b : p.constants ≡ filled (constants wells cs) = ap (λ (x : Plate). x.constants) (u ∙ ap (plate_of cs) n) in
            rw (line_is a g e, start_is a g e, entries_are a g e, b) (ap register_means (sym (w ∙ ap (settled g cs) n)))

pub ruleset knowns = (known_missing, known_fault, known_whole)

-- what answers the needs of `answer_accepted`
accepted_early : (g : Reading) (v : Version) (cs : List Cell) → earlier v v4_3 ≡ true → register_accepted g v cs ≡ register_refused 37 0 0 g.entries
unfolding register_accepted
accepted_early g v cs e = rw (e, register_accepted)

accepted_recent : (g : Reading) (v : Version) (cs : List Cell) → earlier v v4_3 ≡ false → register_accepted g v cs ≡ wells_known g cs (first_of 0 cs)
unfolding register_accepted
accepted_recent g v cs e = rw (e, register_accepted)

module _ (a : ReadAnswer) (f : FileFormat) (i : f.major < 4294967296) (j : f.minor < 4294967296) (form : Form) (h : Bytes) (t : List ℕ) {q : Bool} (u : q ≡ earlier (version_of f) v4_3) where
  sized_is : Sized (version_of f)
  sized_is = record { major = omega arith; minor = omega arith }

  pub early_version : q ≡ true → {r : RegisterRead} → r ≡ register_refused_as (Err EarlyVersion) 0 0 a.entries → AnswersRegister a f (table_cells form h t) r
  early_version y k = record {
    is = λ g e. refusal_told a g e (Err EarlyVersion) 0 0 k ∙ ap register_means (sym (accepted_early g (version_of f) (table_cells form h t) (sym u ∙ y)));
    sized = sized_is;
  }

  module _ (y : q ≡ false) {ls : List ℕ} (l : Lines (table_cells form h t) ls) where
    abbrev those : List Cell
    those = table_cells form h t

    recent : (g : Reading) {o : Option Cell} → first_of 0 those ≡ o → register_accepted g (version_of f) those ≡ wells_known g those o
    recent g n = accepted_recent g (version_of f) those (sym u ∙ y) ∙ ap (wells_known g those) n

    pub unknown_cell : 0 < get_or ls 0 0 → {s : ℕ} → StartTold form t (get_or ls 0 0) s → {r : RegisterRead} → r ≡ register_refused_as (Err UnknownCell) (get_or ls 0 0) s a.entries → AnswersRegister a f those r
    unknown_cell z {s} x {r} k = record { is = λ g e. go g e (see (first_of 0 those)); sized = sized_is }
      where
        go : (g : Reading) → answer_means a ≡ reading_means g → Seen (first_of 0 those) → register_answer_means r ≡ register_means (register_accepted g (version_of f) those)
        go g e (gone n) = let b : get_or ls 0 0 ≡ 0 = l.each 0 (omega arith) ∙ ap cell_line n in absurd (omega arith)
        go g e (there c n) =
            let b : get_or ls 0 0 ≡ c.line = l.each 0 (omega arith) ∙ ap cell_line n in
            let s-is : s ≡ c.start = x.is z ∙ ap (λ (m : ℕ). (entry_in form t (m - 1)).start) b ∙ sym (from_entry form h t 0 n).start in
            refusal_told a g e (Err UnknownCell) (get_or ls 0 0) s k ∙ ap₂ (λ (x y : ℕ). register_means (register_refused 38 x y g.entries)) b s-is ∙ ap register_means (sym (recent g n))

    pub known_cells : get_or ls 0 0 ≤ 0 → {r : RegisterRead} → AnswersKnown form a h t ls r → AnswersRegister a f those r
    known_cells z {r} k = record { is = λ g e. go g e (see (first_of 0 those)); sized = sized_is }
      where
        go : (g : Reading) → answer_means a ≡ reading_means g → Seen (first_of 0 those) → register_answer_means r ≡ register_means (register_accepted g (version_of f) those)
        go g e (gone n) = k.is l g e ∙ ap register_means (sym (recent g n))
        go g e (there c n) =
            let b : get_or ls 0 0 ≡ c.line = l.each 0 (omega arith) ∙ ap cell_line n in
            absurd (omega (arith, (from_entry form h t 0 n).above, b))

pub ruleset accepteds = (early_version, unknown_cell, known_cells)

-- what answers the needs of `register`

module _ (form : Form) (imposed : Option Version) (h : Bytes) (t₀ : List ℕ) (a : ReadAnswer) {t : List ℕ} (call : ReadCall form imposed h t₀ a t) where
  abbrev read : Reading
  read = read_into form imposed t₀ h

  module _ {x : Refusal} (o : a.outcome ≡ Err x) where
    refused_is : register_of (limits_by form) imposed (room form t₀) h ≡ unread read
    unfolding register_of
    refused_is = let n = number_suc x in ap (by_number read) (read_refused call o ∙ n.1)

    pub refused_call : {r : RegisterRead} → r ≡ register_refused_as (Err (Unread x)) a.line a.start a.entries → RegisterCall form imposed h t₀ r t
    refused_call q = record {
      answer = ap register_answer_means q ∙ rw (line_is a read call.answer, start_is a read call.answer, entries_are a read call.answer, ← read_refused call o) (ap register_means (sym refused_is));
      table = call.table;
    }

  module _ {f : FileFormat} {n : ℕ} (o : a.outcome ≡ Ok (f, n)) {kept : List ℕ} (ek : kept ≡ first_entries form t a.entries) where
    abbrev was_read : Read read (version_of f) n
    was_read = read_records call o

    the_cells : Sized (version_of f) → table_cells form h kept ≡ cells (version_of f) 2 (tail read.entries) was_read.records
    the_cells s =
        let d = header_traced (limits_by form) imposed (room form t₀) h was_read.accepted in
        ap (cells_in h 1) (read_kept call o ek) ∙ header_cells (limits_by form) imposed h (version_of f) was_read.records was_read.columns read.entries d (read_good call o s)

    pub accepted_call : {r : RegisterRead} → AnswersRegister a f (table_cells form h kept) r → RegisterCall form imposed h t₀ r t
    unfolding register_of
    accepted_call w = record {
      answer = w.is read call.answer ∙ ap (λ (cs : List Cell). register_means (register_accepted read (version_of f) cs)) (the_cells w.sized)
          ∙ ap register_means (sym (ap (by_number read) (read_accepted call o) ∙ ap (in_state read) was_read.accepted.state));
      table = call.table;
    }

pub ruleset registers = (refused_call, accepted_call)

-- One answer

-- document 01's numbers
number_small : (x : Refusal) → (1 ≤ number x) × (number x ≤ 29)
number_small refusal.ExpectedEof = omega arith
number_small refusal.LineTooLong = omega arith
number_small refusal.InvalidUtf8 = omega arith
number_small refusal.MissingFileFormat = omega arith
number_small refusal.UnexpectedFileFormat = omega arith
number_small refusal.InvalidRecord = omega arith
number_small refusal.InvalidFileFormat = omega arith
number_small refusal.InvalidMap = omega arith
number_small refusal.InvalidField = omega arith
number_small refusal.DuplicateTag = omega arith
number_small refusal.InvalidNumber = omega arith
number_small refusal.InvalidType = omega arith
number_small refusal.InvalidInteger = omega arith
number_small refusal.MissingId = omega arith
number_small refusal.MissingNumber = omega arith
number_small refusal.MissingType = omega arith
number_small refusal.MissingDescription = omega arith
number_small refusal.DefinitionMismatch = omega arith
number_small refusal.DuplicateId = omega arith
number_small refusal.MixedValues = omega arith
number_small refusal.DuplicateOtherId = omega arith
number_small refusal.InvalidHeader = omega arith
number_small refusal.DuplicateSampleName = omega arith
number_small refusal.TableFull = omega arith
number_small refusal.Empty = omega arith
number_small refusal.MissingHeader = omega arith
number_small refusal.HeaderTooLong = omega arith
number_small refusal.FormTooLong = omega arith
number_small refusal.InvalidEntry = omega arith

-- the outcome of a number that is none of them
abbrev plain : ℕ → Result ⊤ RegisterRefusal
plain n = elim (eqb n 0) [
  | true ↦ Ok tt
  | false ↦ elim (eqb n 37) [ true ↦ Err EarlyVersion | false ↦ elim (eqb n 38) [ true ↦ Err UnknownCell | false ↦ elim (eqb n 39) [ true ↦ Err MissingWell | false ↦ Err InvalidConstant ] ] ]
]

data Sort (x : Result ⊤ RegisterRefusal) : Type 0 where
  unread_one : (r : Refusal) → x ≡ Err (Unread r) → Sort x
  own : plain (register_number x) ≡ x → (1 ≤ register_number x → 37 ≤ register_number x) → Sort x

sort : (x : Result ⊤ RegisterRefusal) → Sort x
sort (Ok tt) = own refl (λ l. absurd (omega arith))
sort (Err (Unread r)) = unread_one r refl
sort (Err EarlyVersion) = own refl (λ l. omega arith)
sort (Err UnknownCell) = own refl (λ l. omega arith)
sort (Err MissingWell) = own refl (λ l. omega arith)
sort (Err InvalidConstant) = own refl (λ l. omega arith)

apart : {A : Type 0} (x : Result ⊤ RegisterRefusal) (r : Refusal) → (1 ≤ register_number x → 37 ≤ register_number x) → register_number x ≡ number r → A
apart x r b e = let n = number_small r in absurd (omega (arith, n.0, n.1, b (omega (arith, n.0, e)), e))

outcome_one : (x y : Result ⊤ RegisterRefusal) → register_number x ≡ register_number y → x ≡ y
outcome_one x y e = elim (sort x) [
  | own p b ↦ elim (sort y) [ own q c ↦ sym p ∙ ap plain e ∙ q | unread_one r i ↦ apart x r b (e ∙ ap register_number i) ]
  | unread_one r i ↦ elim (sort y) [
    | own q c ↦ apart y r c (sym e ∙ ap register_number i)
    | unread_one s j ↦ i ∙ ap (λ (z : Refusal). Err (Unread z)) (number_injective r s (sym (ap register_number i) ∙ e ∙ ap register_number j)) ∙ sym j
  ]
]

-- two answers that tell the same are the same, so what `register` promises is one answer
pub told_register_injective : (a b : RegisterRead) → register_answer_means a ≡ register_answer_means b → a ≡ b
told_register_injective a b e =
    let o = outcome_one a.outcome b.outcome (ap (λ (x : RegisterMeaning). x.number) e) in
    let l = ap (λ (x : RegisterMeaning). x.line) e in
    let s = ap (λ (x : RegisterMeaning). x.start) e in
    let n = ap (λ (x : RegisterMeaning). x.entries) e in
    let k = ap (λ (x : RegisterMeaning). x.constants) e in
    rw (o, l, s, n, k)
