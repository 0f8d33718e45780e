-- The answers of the calls on an entry, as the code gives them. Assumes nothing.
use Rattle.std.specs.Prelude.{ℕ, ◌+◌, ◌-◌, ◌≤◌, [], drop, take, Option, None, Some}
use Rattle.values.specs.Bytes.{Bytes}
use Rattle.rules.specs.Answer.{Answer, ok, refuse}
use Rattle.rules.specs.Entry.{Entry as RuleEntry}
use Rattle.rules.specs.Shown.{Part as RulePart}
use Rattle.entries.specs.Values.{entry_of}
use Rattle.entries.specs.declared.entry.Entry.{Entry}

-- what the code answers: a part, or document 01's number
abbrev pub answered : Option (ℕ × ℕ) → Answer RulePart
answered (Some (start, end)) = ok (start, end)
answered None = refuse 29

-- nothing to show is refusal 29
abbrev pub or_refused : Option RulePart → Answer RulePart
or_refused None = refuse 29
or_refused (Some p) = ok p

-- the same of a key, with the number of fields
abbrev pub key_answered : Option (ℕ × ℕ × ℕ) → Answer (RulePart × ℕ)
key_answered (Some (start, end, fields)) = ok ((start, end), fields)
key_answered None = refuse 29

abbrev pub key_or_refused : Option (RulePart × ℕ) → Answer (RulePart × ℕ)
key_or_refused None = refuse 29
key_or_refused (Some p) = ok p

-- the code's answer that says this
abbrev pub shown_as : Option RulePart → Option (ℕ × ℕ)
shown_as None = None
shown_as (Some p) = Some (p.0, p.1)

-- an entry that was asked for
abbrev pub entry_meant : Option Entry → Option RuleEntry
entry_meant (Some e) = Some (entry_of e)
entry_meant None = None

-- the bytes of what is shown
abbrev pub bytes_of : Bytes → Option (ℕ × ℕ) → Bytes
bytes_of h (Some (start, end)) = take (end - start) (drop start h)
bytes_of h None = []

-- a part of a text of `size` bytes
abbrev pub Inside : ℕ → Option (ℕ × ℕ) → Type 0
Inside size (Some (start, end)) = (start ≤ end) × (end ≤ size)
Inside size None = Unit {0}

abbrev pub KeyInside : ℕ → Option (ℕ × ℕ × ℕ) → Type 0
KeyInside size (Some (start, end, fields)) = (start ≤ end) × (end ≤ size)
KeyInside size None = Unit {0}

-- the same part of a longer text, in which this one stands at `by`
abbrev pub moved_by : ℕ → Option (ℕ × ℕ) → Option (ℕ × ℕ)
moved_by by (Some (start, end)) = Some (by + start, by + end)
moved_by by None = None
