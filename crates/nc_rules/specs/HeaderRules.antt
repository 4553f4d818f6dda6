-- Definition. All findings at the fields of a header, whether it is whole or not.
use Rattle.std.specs.Prelude.{List, ◌++◌}
use Rattle.nc_types.specs.Bytes.{Bytes}
use Rattle.nc_findings.specs.declared.entry.Entry.{Entry}
use Rattle.nc_findings.specs.declared.finding.Finding.{Finding}
use Rattle.nc_rules.specs.Indexed.{indexed}
use Rattle.nc_rules.specs.FieldRules.{field_findings, floating_findings}
use Rattle.nc_rules.specs.AttributeRules.{attribute_findings}
use Rattle.nc_rules.specs.NameRules.{name_findings}

-- in a file with this start
unfoldable pub header_findings : Bytes → List Entry → List Finding
header_findings start entries =
    let fields = indexed entries in
    field_findings start fields ++ floating_findings fields ++ name_findings fields ++ attribute_findings fields
