-- For contracts. What a statement of dimensions makes of the dimensions.
use Rattle.std.specs.Prelude.{◌≡◌, List, [], ◌∷◌, if◌then◌else◌, Result}
use Rattle.nc_base.specs.declared.{header.Dim.Dim}
use Rattle.nc_types.specs.declared.{version.Version.Version}
use Rattle.cdl_statements.specs.code.Contents.{dimension_said, dimensions_said}
use Rattle.cdl_statements.specs.code.Cutters.{version_of, words}
use Rattle.cdl_statements.specs.code.Views.{lexeme_of}
use Rattle.cdl_statements.specs.declared.{cutter.Cutter.Cutter, fault.CdlKind.CdlKind, lexeme.Lexeme.Lexeme}
use Rattle.cdl_statements.specs.State.{add_dim, in_turn}
use Rattle.cdl_parse.specs.declared.dimension_list.NextDimension.{NextDimension}

-- the dimensions with one of this name and length at their end, or its fault
abbrev pub dim_read : Version → Lexeme → Lexeme → List Dim → Result (List Dim) CdlKind
dim_read v name length dims = add_dim v dims (dimension_said v (lexeme_of name) (lexeme_of length))

-- the dimensions with those of the next statement at their end, or the first fault
abbrev pub dims_read : Cutter → List Dim → Result (List Dim) CdlKind
dims_read start dims = in_turn (add_dim (version_of start)) dims (dimensions_said (version_of start) (words start))

-- the dimensions that are next begin with this one, and go on with those after it, if there are any
abbrev pub BeginsWith : Cutter → NextDimension → Type 0
BeginsWith start first =
    dimensions_said (version_of start) (words start) ≡
    dimension_said (version_of start) (lexeme_of first.name) (lexeme_of first.length) ∷ (if first.ends then [] else dimensions_said (version_of start) (words first.rest))
