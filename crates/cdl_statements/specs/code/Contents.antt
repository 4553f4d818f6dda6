-- For contracts. What the tokens of a statement of the right shape say.
use Rattle.std.specs.Prelude.{ℕ, ℤ, Bool, true, false, List, [], ◌∷◌, ◌&&◌, ◌||◌, not, codes, drop, if◌then◌else◌, Option, None, Some}
use Rattle.nc_types.specs.declared.{nc_type.NcType.TheVariants.Int, version.Version.Version}
use Rattle.cdl_statements.specs.code.DueTokens.{is_name, opens_section_after}
use Rattle.cdl_tokens.specs.Escapes.{inner, string_value, word_value}
use Rattle.cdl_statements.specs.Lexemes.{Lexeme, is_mark, is_mark_kind, is_word}
use Rattle.cdl_tokens.specs.Numerals.{Parts, parts, number}
use Rattle.cdl_statements.specs.Shapes.{Value, Number, Characters, Underscore, Dimension, Variable, Statement, Open, Enter, DeclareDimensions, DeclareVariables, Attribute, Listed, Close, End}
use Rattle.cdl_statements.specs.Pieces.{section_of}
use Rattle.cdl_statements.specs.declared.section.Section.{Section}
use Rattle.cdl_statements.specs.declared.section.Section.TheVariants.{Unopened, Globals, Dimensions, Variables, Values, Closed, Ended}
use Rattle.cdl_tokens.specs.declared.token.TokenKind.{TokenKind}
use Rattle.cdl_tokens.specs.declared.token.TokenKind.TheVariants as kinds

-- no number token without a number gets here
abbrev pub parts_or_zero : Option Parts → Parts
parts_or_zero None = record { minus = false; magnitude = 0; ty = Int }
parts_or_zero (Some n) = n

unfoldable pub value_of : Version → Lexeme → TokenKind → Value
value_of v l kinds.Number = Number (number (parts_or_zero (parts v l.bytes)))
value_of v l kinds.Text = Characters (string_value (inner l.bytes))
value_of v l _ = Underscore

-- the values among these tokens: all but the marks are values
unfoldable pub values : Version → List Lexeme → List Value
values v [] = []
values v (l ∷ ls) = if is_mark_kind l.kind then values v ls else value_of v l l.kind ∷ values v ls

abbrev pub is_unlimited : Lexeme → Bool
is_unlimited l = is_word (codes "unlimited") l || is_word (codes "UNLIMITED") l

abbrev pub length_said : Version → Lexeme → Option ℤ
length_said v l = if is_unlimited l then None else Some (number (parts_or_zero (parts v l.bytes))).value

abbrev pub dimension_said : Version → Lexeme → Lexeme → Dimension
dimension_said v n l = record { name = word_value n.bytes; len = length_said v l }

-- NAME, `=`, a length and a comma or the semicolon
unfoldable pub dimensions_said : Version → List Lexeme → List Dimension
dimensions_said v (n ∷ e ∷ l ∷ c ∷ ls) = dimension_said v n l ∷ dimensions_said v ls
dimensions_said v _ = []

-- what the tokens of a declaration say from one on: further dimensions of the variable before, and further variables
pub record Declaration : Type 0 where
  pub dimensions : List (List ℕ)
  pub variables : List Variable

-- a name in parentheses is that of a dimension, any other one begins a variable
abbrev pub with_name : Bool → List ℕ → Declaration → Declaration
with_name true name rest = record { dimensions = name ∷ rest.dimensions; variables = rest.variables }
with_name false name rest = record { dimensions = []; variables = record { name = name; dimensions = rest.dimensions } ∷ rest.variables }

-- in parentheses or not
unfoldable pub declaration_said : Bool → List Lexeme → Declaration
declaration_said parens [] = record { dimensions = []; variables = [] }
declaration_said parens (l ∷ ls) =
    if is_mark_kind l.kind then declaration_said (is_mark 0x28 l || parens && not (is_mark 0x29 l)) ls
    else with_name parens (word_value l.bytes) (declaration_said parens ls)

-- ---- a whole statement. What isn't whole says nothing; the end of the text stands for that.

-- an attribute of this variable, or of the dataset: NAME, `=` and constants
abbrev pub attribute_said : Version → Option (List ℕ) → List Lexeme → Statement
attribute_said v variable [] = End
attribute_said v variable (n ∷ ls) = Attribute variable (word_value n.bytes) (values v (drop 1 ls))

-- the mark of the section whose word this is
abbrev pub mark_said : Option Section → Statement
mark_said None = End
mark_said (Some section) = Enter section

-- in the section of the variables: a word, and what follows it
abbrev pub variable_said : Version → Lexeme → List Lexeme → Statement
variable_said v word [] = End
variable_said v word (c ∷ ls) =
    if is_mark 0x3a c then (if is_name word then attribute_said v (Some (word_value word.bytes)) ls else mark_said (section_of word))
    else DeclareVariables word (declaration_said false (c ∷ ls)).variables

-- neither a closing brace nor an attribute of the dataset
abbrev pub other_said : Version → Section → Lexeme → List Lexeme → Statement
other_said v Globals l ls = mark_said (section_of l)
other_said v Dimensions l ls = if opens_section_after Dimensions l then mark_said (section_of l) else DeclareDimensions (dimensions_said v (l ∷ ls))
other_said v Variables l ls = variable_said v l ls
other_said v Values l ls = Listed (word_value l.bytes) (values v (drop 1 ls))
other_said v _ l ls = End

-- what the tokens of a whole statement of this section say
unfoldable pub statement_said : Version → Section → List Lexeme → Statement
statement_said v section [] = End
statement_said v Unopened (l ∷ ls) = Open
statement_said v Closed (l ∷ ls) = End
statement_said v Ended (l ∷ ls) = End
statement_said v section (l ∷ ls) = if is_mark 0x7d l then Close else (if is_mark 0x3a l then attribute_said v None ls else other_said v section l ls)
