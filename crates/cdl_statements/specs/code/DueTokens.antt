-- For contracts. Which token of a statement is due, token by token.
use Rattle.std.specs.Prelude.{Bool, true, false, List, [], ◌∷◌, ◌&&◌, ◌||◌, if◌then◌else◌, not, codes, Option, None, Some}
use Rattle.nc_types.specs.Escapes.{is_reserved}
use Rattle.cdl_statements.specs.Lexemes.{Lexeme, is_mark, is_word, is_word_kind, is_opening_kind}
use Rattle.cdl_statements.specs.Pieces.{section_of}
use Rattle.cdl_statements.specs.Shapes.{is_later}
use Rattle.cdl_statements.specs.declared.{due.Due.Due, section.Section.Section}
use Rattle.cdl_statements.specs.declared.due.Due.TheVariants.{First, DataName, Colon, AttributeName, Equals, Value, Separator, DimensionName, LengthEquals, Length, LengthSeparator, AfterWord, VariableName, AfterVariable, VariableDimension, AfterVariableDimension, AfterShape, Nothing, Never}
use Rattle.cdl_statements.specs.declared.section.Section.TheVariants.{Unopened, Globals, Dimensions, Variables, Values, Closed, Ended}
use Rattle.cdl_tokens.specs.Tokens.{is_end}
use Rattle.cdl_tokens.specs.declared.token.TokenKind.{TokenKind}
use Rattle.cdl_tokens.specs.declared.token.TokenKind.TheVariants as kinds

abbrev pub is_name : Lexeme → Bool
is_name l = is_word_kind l.kind && not (is_reserved l.bytes)

-- a number, a string or, where that is taken, an unescaped `_`
abbrev pub is_value_of : Bool → Lexeme → TokenKind → Bool
is_value_of takes_fill l kinds.Number = true
is_value_of takes_fill l kinds.Text = true
is_value_of takes_fill l _ = takes_fill && is_word (codes "_") l

abbrev pub is_number : TokenKind → Bool
is_number kinds.Number = true
is_number _ = false

-- a number or the record dimension
abbrev pub is_length : Lexeme → Bool
is_length l = is_word (codes "unlimited") l || is_word (codes "UNLIMITED") l || is_number l.kind

-- the word of a section after this one
abbrev pub is_after : Section → Option Section → Bool
is_after before None = false
is_after before (Some s) = is_later before s

abbrev pub opens_section_after : Section → Lexeme → Bool
opens_section_after before l = is_after before (section_of l)

-- this token is due, if the one before it is allowed there
abbrev pub next_if : Bool → Due → Due
next_if test due = if test then due else Never

-- a comma, with which the list goes on, or the semicolon
abbrev pub separator : Due → Lexeme → Due
separator due l = if is_mark 0x2c l then due else next_if (is_mark 0x3b l) Nothing

-- after the first token of a piece
abbrev pub next_first : Section → Lexeme → Due
next_first Unopened l = next_if (is_opening_kind l.kind) Nothing
next_first Globals l = if is_mark 0x7d l then Nothing else (if is_mark 0x3a l then AttributeName else next_if (opens_section_after Globals l) Colon)
next_first Dimensions l = if is_mark 0x7d l then Nothing else (if is_mark 0x3a l then AttributeName else (if opens_section_after Dimensions l then Colon else next_if (is_name l) LengthEquals))
next_first Variables l = if is_mark 0x7d l then Nothing else (if is_mark 0x3a l then AttributeName else next_if (is_word_kind l.kind) (AfterWord (is_name l) (opens_section_after Variables l)))
next_first Values l = if is_mark 0x7d l then Nothing else next_if (is_name l) (Equals true)
next_first Closed l = next_if (is_end l.kind) Nothing
next_first Ended l = Never

-- after a token
unfoldable pub next : Due → Lexeme → Due
next (First section) l = next_first section l
next DataName l = next_if (is_name l) (Equals true)
next Colon l = next_if (is_mark 0x3a l) Nothing
next AttributeName l = next_if (is_name l) (Equals false)
next (Equals takes_fill) l = next_if (is_mark 0x3d l) (Value takes_fill)
next (Value takes_fill) l = next_if (is_value_of takes_fill l l.kind) (Separator takes_fill)
next (Separator takes_fill) l = separator (Value takes_fill) l
next DimensionName l = next_if (is_name l) LengthEquals
next LengthEquals l = next_if (is_mark 0x3d l) Length
next Length l = next_if (is_length l) LengthSeparator
next LengthSeparator l = separator DimensionName l
next (AfterWord named section) l = if is_mark 0x3a l then (if named then AttributeName else next_if section Nothing) else next_if (is_name l) AfterVariable
next VariableName l = next_if (is_name l) AfterVariable
next AfterVariable l = if is_mark 0x28 l then VariableDimension else separator VariableName l
next VariableDimension l = next_if (is_name l) AfterVariableDimension
next AfterVariableDimension l = if is_mark 0x2c l then VariableDimension else next_if (is_mark 0x29 l) AfterShape
next AfterShape l = separator VariableName l
next Nothing l = Never
next Never l = Never

-- no token is due, since the statement is whole
abbrev pub is_whole : Due → Bool
is_whole Nothing = true
is_whole _ = false

-- these tokens complete a statement in which this token is due
unfoldable pub completes : Due → List Lexeme → Bool
completes due [] = is_whole due
completes due (l ∷ ls) = completes (next due l) ls
