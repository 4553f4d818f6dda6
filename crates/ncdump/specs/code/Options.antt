-- For contracts. What options ask for.
use Rattle.std.specs.Prelude.{string_bytes}
use Rattle.ncdump.specs.CommandLine.{Asked}
use Rattle.ncdump.specs.Dumps.{options_of}
use Rattle.ncdump.specs.declared.options.DumpOptions.{DumpOptions}

-- what the options ask for
abbrev pub asked_for : DumpOptions → Asked
asked_for o = record { file = string_bytes o.file; options = options_of o }
