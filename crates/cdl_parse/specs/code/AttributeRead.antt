-- For contracts. What a statement says of an attribute, and what the calls that read it answer, but for want of memory.
use Rattle.std.specs.Prelude.{List, drop, Result}
use Rattle.nc_base.specs.declared.{header.Att.Att}
use Rattle.nc_types.specs.declared.{version.Version.Version}
use Rattle.cdl_statements.specs.code.Contents.{values}
use Rattle.cdl_statements.specs.code.Cutters.{version_of, words}
use Rattle.cdl_statements.specs.declared.{cutter.Cutter.Cutter, fault.CdlKind.CdlKind}
use Rattle.cdl_statements.specs.Lexemes.{Lexeme}
use Rattle.cdl_statements.specs.Shapes.{Value}
use Rattle.cdl_statements.specs.State.{Draft, add_att, change_variable, with_att}
use Rattle.cdl_values.specs.code.Meant.{name_first}

-- the constants of NAME, `=` and constants
abbrev pub constants_said : Version → List Lexeme → List Value
constants_said version ws = values version (drop 2 ws)

-- the attributes with what a statement says, NAME, `=` and constants
abbrev pub att_said : Version → List Lexeme → List Att → Result (List Att) CdlKind
att_said version ws atts = add_att (name_first ws) (constants_said version ws) atts

-- the same of the statement that is next
abbrev pub att_read : Cutter → List Att → Result (List Att) CdlKind
att_read start atts = att_said (version_of start) (words start) atts

-- the variables with what a statement says of one, VARIABLE, `:` and an attribute
abbrev pub variable_att_said : Version → List Lexeme → List Draft → Result (List Draft) CdlKind
variable_att_said version ws drafts = change_variable (name_first ws) (with_att (name_first (drop 2 ws)) (constants_said version (drop 2 ws))) drafts

-- the same of the statement that is next
abbrev pub variable_att_read : Cutter → List Draft → Result (List Draft) CdlKind
variable_att_read start drafts = variable_att_said (version_of start) (words start) drafts
