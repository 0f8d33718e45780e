-- The rules' answers as structs of numbers. Assumes nothing.
use Rattle.std.specs.Prelude.{ℕ, ◌-◌, ◌/◌, ◌≤◌, Bool, true, false, List, eqb, length, map, Option, None, Some}
use Rattle.values.specs.Bytes.{Bytes}
use Rattle.rules.specs.Version.{Version, version}
use Rattle.rules.specs.Reading.{Reading}
use Rattle.rules.specs.House.{HouseReading}
use Rattle.rules.specs.Shown.{Part}
use Rattle.entries.specs.declared.form.Form.{Form}
use Rattle.entries.specs.declared.form.Form.TheVariants.{First, Second}
use Rattle.entries.specs.Values.{limits_by}
use Rattle.entries.specs.Tables.{room}
use Rattle.register.specs.Register.{RegisterReading}
use Rattle.register.specs.Compare.{Difference}
use Rattle.register.specs.Wells.{filled}
use Rattle.header.specs.Parsers.{accepted_in}
use Rattle.capi.specs.declared.Told.{Told}
use Rattle.capi.specs.declared.VcfhAnswer.{VcfhAnswer}
use Rattle.capi.specs.declared.VcfhForm.{VcfhForm}
use Rattle.capi.specs.declared.VcfhDictionaries.{VcfhDictionaries}
use Rattle.dictionary.specs.Dictionary.{Dictionaries, dictionaries}
use Rattle.capi.specs.declared.VcfhPart.{VcfhPart}
use Rattle.capi.specs.declared.VcfhKey.{VcfhKey}
use Rattle.spelling.specs.Odd.{outcome_number}
use Rattle.spelling.specs.declared.odd.OddAnswer.{OddAnswer}
use Rattle.capi.specs.declared.VcfhOdd.{VcfhOdd}
use Rattle.turning.specs.Turning.{turn_number}
use Rattle.turning.specs.declared.turn.TurnAnswer.{TurnAnswer}
use Rattle.capi.specs.declared.VcfhTurned.{VcfhTurned}
use Rattle.capi.specs.declared.VcfhRegister.{VcfhRegister}
use Rattle.capi.specs.declared.VcfhDifferences.{VcfhDifferences}
use Rattle.sam.specs.Contigs.{Contigs, contig_lines}
use Rattle.capi.specs.declared.VcfhContigs.{VcfhContigs}

abbrev pub flag : Bool → ℕ
flag true = 1
flag false = 0

-- 0: none
abbrev pub imposed_by : ℕ → ℕ → ℕ → Option Version
imposed_by imposed major minor = elim (eqb imposed 0) [ true ↦ None | false ↦ Some (version major minor) ]

-- 2: the second; any other number is the first
abbrev pub form_by : ℕ → Form
form_by form = elim (eqb form 2) [ true ↦ Second | false ↦ First ]

-- of an accepted header, the number of samples and the version in force
abbrev pub told_as : Option (Version × ℕ) → Told
told_as None = record { samples = 0; major = 0; minor = 0 }
told_as (Some p) = record { samples = p.1; major = p.0.major; minor = p.0.minor }

abbrev pub answer_in_c : Reading → VcfhAnswer
answer_in_c r = record {
  number = r.number;
  line = r.line;
  start = r.start;
  entries = length r.entries;
  samples = (told_as (accepted_in r.number r.state)).samples;
  major = (told_as (accepted_in r.number r.state)).major;
  minor = (told_as (accepted_in r.number r.state)).minor;
}

-- of a reading, and of the form of what was read
abbrev pub form_in_c : Reading → HouseReading → VcfhForm
form_in_c r f = record { number = f.number; line = f.line; start = f.start; entries = length r.entries; length = length f.form }

-- the dictionaries of a header that is read into a table, with slices for strings and contigs
abbrev pub dictionaries_in : Form → Option Version → Bytes → List ℕ → List ℕ → List ℕ → Dictionaries
dictionaries_in form imposed h t s c = dictionaries (limits_by form) imposed (room form t) (length s) (length c) h

abbrev pub dictionaries_in_c : Reading → Dictionaries → VcfhDictionaries
dictionaries_in_c r d = record {
  number = d.number;
  line = d.line;
  start = d.start;
  entries = length r.entries;
  strings = length d.strings / 2;
  contigs = length d.contigs / 2;
}

-- nothing to show is refusal 29
abbrev pub part_of : Option Part → VcfhPart
part_of None = record { number = 29; start = 0; length = 0 }
part_of (Some p) = record { number = 0; start = p.0; length = p.1 - p.0 }

abbrev pub part_as : Option (ℕ × ℕ) → VcfhPart
part_as (Some (start, end)) = record { number = 0; start = start; length = end - start }
part_as None = record { number = 29; start = 0; length = 0 }

abbrev pub Ordered : Option (ℕ × ℕ) → Type 0
Ordered (Some (start, end)) = start ≤ end
Ordered None = Unit {0}

-- the same of a key, with the number of fields
abbrev pub key_shown_in : Option (Part × ℕ) → VcfhKey
key_shown_in None = record { number = 29; start = 0; length = 0; fields = 0 }
key_shown_in (Some p) = record { number = 0; start = p.0.0; length = p.0.1 - p.0.0; fields = p.1 }

abbrev pub key_shown_as : Option (ℕ × ℕ × ℕ) → VcfhKey
key_shown_as (Some (start, end, fields)) = record { number = 0; start = start; length = end - start; fields = fields }
key_shown_as None = record { number = 29; start = 0; length = 0; fields = 0 }

abbrev pub KeyOrdered : Option (ℕ × ℕ × ℕ) → Type 0
KeyOrdered (Some (start, end, fields)) = start ≤ end
KeyOrdered None = Unit {0}

-- the forty constants, all 0 if refused
abbrev pub register_as : RegisterReading → VcfhRegister
register_as r = record { number = r.number; line = r.line; start = r.start; entries = length r.entries; constants = filled r.constants }

abbrev pub differences_as : List Difference → VcfhDifferences
differences_as ds = record {
  count = length ds;
  wells = filled (map (λ (d : Difference). d.well) ds);
  old = filled (map (λ (d : Difference). d.old) ds);
  new = filled (map (λ (d : Difference). d.new) ds);
}

abbrev pub odd_as : OddAnswer → VcfhOdd
odd_as r = record { number = outcome_number r.outcome; listed = r.listed }

abbrev pub turned_as : TurnAnswer → VcfhTurned
turned_as r = record { number = turn_number r.outcome; entries = r.entries }

abbrev pub contigs_in_c : Contigs → VcfhContigs
contigs_in_c r = record { number = r.number; line = r.line; start = r.start; contigs = length r.contigs; length = length (contig_lines r.contigs) }
