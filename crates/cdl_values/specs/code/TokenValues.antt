-- For contracts. The values of tokens, packed one after the other.
use Rattle.std.specs.Prelude.{ℕ, ◌≡◌, ◌≤◌, Bool, false, List, [], ◌∷◌, Result, Ok, ⊤, OnOk, IfOk}
use Rattle.nc_types.specs.declared.{nc_type.NcType.NcType, version.Version.Version}
use Rattle.cdl_tokens.specs.Escapes.{inner, string_value}
use Rattle.cdl_tokens.specs.code.Magnitudes.{held}
use Rattle.cdl_tokens.specs.Numerals.{Parts, number}
use Rattle.cdl_tokens.specs.declared.numeral.Numeral.{Numeral}
use Rattle.cdl_tokens.specs.declared.token.TokenKind.TheVariants as kinds
use Rattle.cdl_statements.specs.code.Contents.{value_of, values}
use Rattle.cdl_statements.specs.code.Cutters.{SameText, is_done, offset_of, version_of, words}
use Rattle.cdl_statements.specs.Lexemes as lexemes
use Rattle.cdl_statements.specs.Shapes.{Value, Number, Characters}
use Rattle.cdl_statements.specs.code.Views.{lexeme_of, lexeme_with}
use Rattle.cdl_statements.specs.declared.{cutter.Cutter.Cutter, fault.CdlKind.CdlKind, lexeme.Lexeme.Lexeme}
use Rattle.cdl_statements.specs.State.{add_constant, in_turn}
use Rattle.cdl_values.specs.code.Answers.{ContinuesRead, Leaves}
use Rattle.cdl_values.specs.code.PackedValues.{bytes_of, capacity_after, joined, capacity_minus, packed, value_bytes}
use Rattle.cdl_values.specs.declared.{capacity.Capacity.Capacity, fill.Fill.Fill, form.ValueForm.ValueForm, read_error.ReadError.ReadError, value.QuickPassFault.QuickPassFault}

-- ---- one token

-- the value that a token says
abbrev pub value_said : Version → Lexeme → Value
value_said version token = value_of version (lexeme_of token) token.kind

-- the characters between the quotes of a string
abbrev pub text_said : List ℕ → Value
text_said bytes = Characters (string_value (inner bytes))

-- the bytes of a token's value
abbrev pub token_bytes : ValueForm → Capacity → Version → Lexeme → Result (List ℕ) CdlKind
token_bytes form capacity version token = bytes_of form capacity (value_said version token)

-- the same of a token that is a number
abbrev pub numeral_bytes : ValueForm → Capacity → Version → List ℕ → Result (List ℕ) CdlKind
numeral_bytes form capacity version bytes = bytes_of form capacity (value_of version (lexeme_with kinds.Number bytes) kinds.Number)

-- the same of a variable of numbers
abbrev pub number_token_bytes : Fill → Bool → Version → Lexeme → Result (List ℕ) CdlKind
number_token_bytes fill full version token = value_bytes fill.ty fill.value full (value_said version token)

-- a value takes one of the capacity, whatever its bytes
abbrev pub CountsOne : ValueForm → Capacity → Type 0
CountsOne form capacity = (added : List ℕ) → capacity_after form added capacity ≡ capacity_minus 1 capacity

-- ---- one token after the other

-- packing, between two tokens: the bytes so far, and the capacity that is left
pub record Packing : Type 0 where
  pub bytes : List ℕ
  pub left : Capacity

abbrev pub at : List ℕ → Capacity → Packing
at bytes left = record { bytes = bytes; left = left }

-- the bytes with the values of these tokens
abbrev pub packed_on : Version → ValueForm → Packing → List lexemes.Lexeme → Result (List ℕ) CdlKind
packed_on version form here tokens = joined (Ok here.bytes) (packed form here.left (values version tokens))

-- the token's value is added, which leaves such a capacity; or the fault is that of the values
abbrev pub PacksToken : Version → ValueForm → Lexeme → Packing → List ℕ → Result Capacity ReadError → Type 0
PacksToken version form token before bytes result =
    (rest : List lexemes.Lexeme) → ContinuesRead (λ left. packed_on version form (at bytes left) rest) result (packed_on version form before (lexeme_of token ∷ rest))

-- past a token
abbrev pub Packs : Version → ValueForm → Lexeme → Packing → Packing → Type 0
Packs version form token before after = (rest : List lexemes.Lexeme) → packed_on version form before (lexeme_of token ∷ rest) ≡ packed_on version form after rest

-- with an Ok the token's value is added, which leaves such a capacity
abbrev pub PacksGood : Version → ValueForm → Lexeme → Packing → List ℕ → Result Capacity QuickPassFault → Type 0
PacksGood version form token before bytes result = IfOk result (λ left. Packs version form token before (at bytes left))

-- with an Ok the bytes of the token's value are appended
abbrev pub Appends : Version → ValueForm → Lexeme → Packing → List ℕ → Result ⊤ QuickPassFault → Type 0
Appends version form token before after result = OnOk result (joined (Ok before.bytes) (token_bytes form before.left version token) ≡ Ok after)

-- the same of a token that is a number
abbrev pub AppendsNumber : Version → ValueForm → List ℕ → Packing → List ℕ → Result ⊤ QuickPassFault → Type 0
AppendsNumber version form bytes before after result = OnOk result (joined (Ok before.bytes) (numeral_bytes form before.left version bytes) ≡ Ok after)

-- the values from a cutter on, packed
abbrev pub packed_from : ValueForm → Capacity → Cutter → Result (List ℕ) CdlKind
packed_from form capacity start = packed form capacity (values (version_of start) (words start))

-- ---- constants

-- the constants from a cutter on
abbrev pub constants_read : NcType → Cutter → Result (List ℕ) CdlKind
constants_read ty start = in_turn (add_constant ty) [] (values (version_of start) (words start))

-- the constants from a cutter on, after these
abbrev pub constants_on : NcType → Version → List ℕ → Cutter → Result (List ℕ) CdlKind
constants_on ty v before start = in_turn (add_constant ty) before (values v (words start))

-- the constants up to another cutter are added, or the fault is that of the constants
abbrev pub TakesConstants : NcType → Cutter → List ℕ → List ℕ → Result Cutter ReadError → Type 0
TakesConstants ty start before after result = ContinuesRead (constants_on ty (version_of start) after) result (constants_on ty (version_of start) before start)

-- the other cutter is further on in the same statement, or at the same place
pub record MovesOn (start rest : Cutter) : Type 0 where
  pub same : SameText start rest
  pub goes : is_done rest ≡ false
  pub on : offset_of start ≤ offset_of rest

-- the token's constant is added, or the fault is that of the constants
abbrev pub AddsToken : Version → NcType → Lexeme → List ℕ → List ℕ → Result ⊤ ReadError → Type 0
AddsToken version ty token before after result =
    (rest : List lexemes.Lexeme) → ContinuesRead (λ u. in_turn (add_constant ty) after (values version rest)) result (in_turn (add_constant ty) before (values version (lexeme_of token ∷ rest)))

-- the number that is held so is added, or it has the fault
abbrev pub AddsNumber : NcType → Numeral → List ℕ → List ℕ → Result ⊤ ReadError → Type 0
AddsNumber ty n before after result = (p : Parts) → n ≡ held p → Leaves after result (add_constant ty before (Number (number p)))
