-- The code's entry and limits, as the rules have them. Assumes nothing.
use Rattle.rules.specs.Sizes.{Limits as RuleLimits, limits, raised_limits}
use Rattle.rules.specs.Entry.{Entry as RuleEntry}
use Rattle.entries.specs.declared.entry.Entry.{Entry}
use Rattle.entries.specs.declared.limits.Limits.{Limits}
use Rattle.entries.specs.declared.form.Form.{Form}
use Rattle.entries.specs.declared.form.Form.TheVariants.{First, Second}

abbrev pub entry_of : Entry → RuleEntry
entry_of e = record {
  kind = e.kind;
  start = e.start;
  length = e.length;
  offset = e.offset;
  id_length = e.id_length;
  quoted = e.quoted;
  tag = e.tag;
  key_length = e.key_length;
  field_count = e.field_count;
}

abbrev pub limits_of : Limits → RuleLimits
limits_of l = record { header = l.header; line = l.line; counted = l.counted }

-- what this form sets
abbrev pub limits_by : Form → RuleLimits
limits_by First = limits
limits_by Second = raised_limits
