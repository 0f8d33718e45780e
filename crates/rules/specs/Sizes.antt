-- Document 01, "Sizes", and document 02, §5 and §10: what the form of a header's entries sets. Assumes nothing.
use Rattle.std.specs.Prelude.{ℕ, Bool, true, false}

pub record Limits : Type 0 where
  -- of a header, in bytes
  pub header : ℕ
  -- of a line, in bytes, without its ending
  pub line : ℕ
  -- an entry tells how long its key is and how many fields it has
  pub counted : Bool

abbrev pub limits : Limits
limits = record { header = 1048575; line = 65535; counted = false }

-- where entries of the second form are named
abbrev pub raised_limits : Limits
raised_limits = record { header = 16777215; line = 16777215; counted = true }
