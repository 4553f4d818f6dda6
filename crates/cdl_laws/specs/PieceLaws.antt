-- Law. A dump is cut into the statements that it was put together from.
use Rattle.std.specs.Prelude.{◌≡◌, ℕ, ℤ, pos, ◌==◌, if◌then◌else◌, true, List, [], ◌∷◌, ◌++◌, All, map, codes, slice_get, Option, None, Some, Ok}
use Rattle.nc_types.specs.Bytes.{Bytes, concat_parts}
use Rattle.nc_base.specs.declared.{dataset.Dataset.Dataset, header.Att.Att, header.Dim.Dim, header.NumRecs.TheVariants.Known, header.Var.Var}
use Rattle.nc_types.specs.declared.{version.Version.Version}
use Rattle.nc_base.specs.Dump.{has_values}
use Rattle.nc_base.specs.Datasets.{values_in_dataset}
use Rattle.nc_types.specs.Escapes.{escaped_name}
use Rattle.nc_base.specs.HeadText.{netcdf_word, dimensions_word, variables_word, global_word, dim_line, shape_text, var_lines, att_line, att_lines}
use Rattle.nc_types.specs.Names.{IsName}
use Rattle.nc_base.specs.Sayable.{IsSayable, trimmed_att}
use Rattle.nc_types.specs.Types.{type_word}
use Rattle.nc_base.specs.ValueText.{look_of, variable_text}
use Rattle.cdl_statements.specs.declared.section.Section.{Section}
use Rattle.cdl_statements.specs.declared.section.Section.TheVariants.{Unopened, Globals, Dimensions, Variables, Values, Closed}
use Rattle.cdl_tokens.specs.declared.token.TokenKind.TheVariants as kinds
use Rattle.cdl_statements.specs.Lexemes.{Lexeme, lexeme}
use Rattle.cdl_statements.specs.Shapes.{Value, Dimension, Statement, Open, Enter, DeclareDimensions, DeclareVariables, Attribute, Listed, Close, End, first_bad, shape}
use Rattle.cdl_statements.specs.Pieces.{statements}
use Rattle.cdl_statements.specs.State.{in_turn, add_dimid, add_constant, first_type, type_of}
use Rattle.cdl_laws.specs.Reading.{cut_lexemes, lexemes, pieces_of}

-- the piece has no bad token, and it is this statement of the section
pub record SaysStatement (version : Version) (section : Section) (piece : List Lexeme) (statement : Statement) : Type 0 where
  pub sound : first_bad version piece ≡ None
  pub shaped : shape version section piece ≡ Some statement

-- whatever follows, the bytes are one piece that says this statement, and what follows is cut as if nothing came before it
pub record IsStatement (version : Version) (section : Section) (bytes : Bytes) (statement : Statement) : Type 0 where
  pub piece : List Lexeme
  pub cut : (rest : Bytes) → pieces_of (bytes ++ rest) ≡ piece ∷ pieces_of rest
  pub says : SaysStatement version section piece statement

-- the pieces of a text, without the places of their tokens, are its statements
abbrev pub PiecesAreStatements : Type 0
PiecesAreStatements = (text : Bytes) → map (map (lexeme text)) (statements text) ≡ cut_lexemes (lexemes text)

-- ---- marks

-- the first line of a dump, but for its line feed
abbrev pub opening_line : Bytes → Bytes
opening_line name = concat_parts (netcdf_word ∷ escaped_name name ∷ codes " {" ∷ [])

-- the pieces that are one lexeme
abbrev pub opening_piece : Bytes → List Lexeme
opening_piece name = record { kind = kinds.Opening; bytes = opening_line name } ∷ []

abbrev pub brace_piece : List Lexeme
brace_piece = record { kind = kinds.Mark; bytes = codes "}" } ∷ []

abbrev pub end_piece : List Lexeme
end_piece = record { kind = kinds.End; bytes = [] } ∷ []

-- What comes between the statements of a dump: its first line, the marks of its sections, the line before the global attributes,
-- which is a comment, and its last line.
pub record MarksReadBack (version : Version) : Type 0 where
  pub opening : (name rest : Bytes) → IsName name → cut_lexemes (lexemes (opening_line name ++ 10 ∷ rest)) ≡ opening_piece name ∷ pieces_of rest
  pub opens : (name : Bytes) → SaysStatement version Unopened (opening_piece name) Open
  pub dimensions : IsStatement version Globals dimensions_word (Enter Dimensions)
  pub variables : IsStatement version Dimensions variables_word (Enter Variables)
  pub variables_alone : IsStatement version Globals variables_word (Enter Variables)
  pub values : IsStatement version Variables (codes "data:\n") (Enter Values)
  pub comment : (rest : Bytes) → pieces_of (global_word ++ rest) ≡ pieces_of rest
  pub closing : pieces_of (codes "}\n") ≡ brace_piece ∷ end_piece ∷ []
  pub closes : All (λ (section : Section). SaysStatement version section brace_piece Close) (Globals ∷ Dimensions ∷ Variables ∷ Values ∷ [])
  pub ends : SaysStatement version Closed end_piece End

-- ---- dimensions

-- what a dimension's length says
abbrev pub extent_said : ℕ → Option ℤ
extent_said len = if len == 0 then None else Some (pos len)

abbrev pub said_dim : Dim → Dimension
said_dim dim = record { name = dim.name; len = extent_said dim.len }

-- the line of a dimension declares its name and its length, however many records there are
abbrev pub DimensionsReadBack : Type 0
DimensionsReadBack = (d : Dataset) (records : ℕ) → IsSayable d
    → All (λ (dim : Dim). IsStatement d.header.version Dimensions (dim_line records dim) (DeclareDimensions (said_dim dim ∷ []))) d.header.dims

-- ---- declarations

-- the line that declares a variable
abbrev pub declaration : List Dim → Var → Bytes
declaration dims var = concat_parts (codes "\t" ∷ type_word var.ty ∷ codes " " ∷ escaped_name var.name ∷ shape_text dims var.dimids ∷ codes " ;\n" ∷ [])

abbrev pub type_lexeme : Var → Lexeme
type_lexeme var = record { kind = kinds.Word; bytes = type_word var.ty }

-- The lines of a variable are its declaration and its attributes. The declaration is that of one variable, with its name, a word
-- that means its type, and names of dimensions that mean its shape.
pub record DeclarationReadsBack (version : Version) (dims : List Dim) (var : Var) : Type 0 where
  pub lines : var_lines dims var ≡ declaration dims var ++ att_lines (escaped_name var.name) var.atts
  pub names : List Bytes
  pub statement : IsStatement version Variables (declaration dims var) (DeclareVariables (type_lexeme var) (record { name = var.name; dimensions = names } ∷ []))
  pub ty : type_of version (type_lexeme var) ≡ Ok var.ty
  pub dimids : in_turn (add_dimid dims) [] names ≡ Ok var.dimids

abbrev pub DeclarationsReadBack : Type 0
DeclarationsReadBack = (d : Dataset) → IsSayable d → All (DeclarationReadsBack d.header.version d.header.dims) d.header.vars

-- ---- attributes

-- the sections before the data
pub data IsBeforeData : Section → Type 0 where
  globals : IsBeforeData Globals
  dimensions : IsBeforeData Dimensions
  variables : IsBeforeData Variables

abbrev pub escaped_owner : Option Bytes → Bytes
escaped_owner None = []
escaped_owner (Some name) = escaped_name name

-- The line of an attribute of the variable with this name, or of the whole dataset: constants of its type, which together have
-- its values without the NULs at their end.
pub record AttributeReadsBack (version : Version) (section : Section) (owner : Option Bytes) (att : Att) : Type 0 where
  pub constants : List Value
  pub statement : IsStatement version section (att_line (escaped_owner owner) att) (Attribute owner att.name constants)
  pub ty : first_type constants ≡ att.ty
  pub vals : in_turn (add_constant att.ty) [] constants ≡ Ok (trimmed_att att).vals

abbrev pub AttributesReadBack : Type 0
AttributesReadBack = (d : Dataset) → IsSayable d
    → All (λ (var : Var). All (AttributeReadsBack d.header.version Variables (Some var.name)) var.atts) d.header.vars

-- the lines of global attributes follow whichever section comes last before the data
abbrev pub GlobalAttributesReadBack : Type 0
GlobalAttributesReadBack = (d : Dataset) (section : Section) → IsSayable d → IsBeforeData section
    → All (AttributeReadsBack d.header.version section None) d.header.gatts

-- ---- data

-- the text of a variable's values, at any width, lists values for that variable
abbrev pub DataReadsBack : Type 0
DataReadsBack = (d : Dataset) (records width place : ℕ) (var : Var) → IsSayable d
    → d.header.numrecs ≡ Known records → slice_get d.header.vars place ≡ Some var → has_values d.header.dims records var ≡ true
    → (values : List Value) × IsStatement d.header.version Values (variable_text (look_of d.header var records width) (values_in_dataset d place var).values) (Listed var.name values)
