-- The version type, and the version that it holds. Assumes nothing.
use Rattle.std.specs.Prelude.{Option, None, Some}
use Rattle.rules.specs.Version.{Version, version}
use Rattle.records.specs.declared.file_format.FileFormat.{FileFormat}

abbrev pub version_of : FileFormat → Version
version_of f = version f.major f.minor

abbrev pub format_of : Version → FileFormat
format_of v = record { major = v.major; minor = v.minor }

abbrev pub format_read : Option Version → Option FileFormat
format_read None = None
format_read (Some v) = Some (format_of v)
