-- For contracts. What a declaration makes of the variables, and what the calls that read it say of it on the way.
use Rattle.std.specs.Prelude.{ℕ, ◌≡◌, Bool, List, [], ◌∷◌, ◌++◌, length, drop, true, false, ◌&&◌, ◌||◌, not, nat_lt, find, Option, Result, Ok, Err}
use Rattle.std.specs.List.{position}
use Rattle.std.specs.Str.{bytes_eq}
use Rattle.nc_types.specs.Names.{is_name}
use Rattle.nc_base.specs.Sizes.{is_record_dim}
use Rattle.nc_types.specs.Types.{type_word}
use Rattle.nc_types.specs.Versions.{has_type}
use Rattle.nc_base.specs.declared.{header.Dim.Dim}
use Rattle.nc_types.specs.declared.{nc_type.NcType.NcType, version.Version.Version}
use Rattle.cdl_statements.specs.code.Contents.{Declaration, declaration_said, with_name}
use Rattle.cdl_statements.specs.code.Cutters.{version_of, words}
use Rattle.cdl_statements.specs.declared.{cutter.Cutter.Cutter, fault.CdlKind.CdlKind}
use Rattle.cdl_statements.specs.Lexemes.{Lexeme, is_mark, is_word}
use Rattle.cdl_tokens.specs.Escapes.{word_value}
use Rattle.cdl_statements.specs.declared.fault.CdlKind.TheVariants.{BadName, BadShape, DuplicateName, UnknownDimension, UnknownType}
use Rattle.std.specs.Option.{ok_or}
use Rattle.cdl_statements.specs.State.{Draft, add_dimid, add_var, in_turn, type_of, unless, when, ◌>>=◌}
use Rattle.cdl_values.specs.code.Answers.{ContinuesRead}
use Rattle.cdl_values.specs.declared.read_error.ReadError.{ReadError}
use Rattle.cdl_parse.specs.code.Drafts.{draft, is_variable_name, with_new_draft}
use Rattle.cdl_parse.specs.declared.declaration.PartialVariable.{PartialVariable}

-- the first of these types that the version has and that the word stands for
abbrev pub first_with_word : List NcType → Version → Lexeme → Option NcType
first_with_word types v word = find (λ ty. has_type v ty && is_word (type_word ty) word) types

-- the type that the first of these words says
abbrev pub type_first : Version → List Lexeme → Result NcType CdlKind
type_first v [] = Err UnknownType
type_first v (word ∷ ls) = type_of v word

-- the variables that these tokens declare, of this type
abbrev pub added : List Dim → NcType → List Draft → List Lexeme → Result (List Draft) CdlKind
added dims ty drafts ls = in_turn (add_var dims ty) drafts (declaration_said false ls).variables

-- the variables after a declaration: a type word, and what it declares
abbrev pub declared : Version → List Dim → List Draft → List Lexeme → Result (List Draft) CdlKind
declared v dims drafts ws = do
  ty ← type_first v ws
  added dims ty drafts (drop 1 ws)

-- the same of the statement that is next
abbrev pub declared_by : Cutter → List Dim → List Draft → Result (List Draft) CdlKind
declared_by start dims drafts = declared (version_of start) dims drafts (words start)

-- the position of the dimension of this name, after these
abbrev pub next_dimid : List Dim → List ℕ → List ℕ → Result ℕ CdlKind
next_dimid dims before name = do
  _ ← unless (is_name name) BadName
  id ← ok_or (position (λ (d : Dim). bytes_eq d.name name) dims) UnknownDimension
  _ ← when (nat_lt 0 (length before) && is_record_dim dims id) BadShape
  Ok id

-- the variable of this name, with further dimensions, and the variables after it
abbrev pub continued : List Dim → NcType → List Draft → List ℕ → List ℕ → Declaration → Result (List Draft) CdlKind
continued dims ty drafts name before rest = do
  _ ← when (is_variable_name name drafts) DuplicateName
  dimids ← in_turn (add_dimid dims) before rest.dimensions
  in_turn (add_var dims ty) (drafts ++ draft name dimids ty [] ∷ []) rest.variables

-- the variables with this one at their end, or the fault that one of them has its name
abbrev pub with_begun : List Draft → PartialVariable → Result (List Draft) CdlKind
with_begun drafts begun = with_new_draft drafts begun.name.items begun.dimids.items begun.ty

-- the variables with this one and all that the tokens after it declare, or the first fault
abbrev pub read_on : List Dim → List Draft → PartialVariable → List Lexeme → Result (List Draft) CdlKind
read_on dims drafts begun ls = continued dims begun.ty drafts begun.name.items begun.dimids.items (declaration_said begun.is_open ls)

-- a parenthesis is open after a mark
abbrev pub is_open_after : Bool → Lexeme → Bool
is_open_after is_open mark = is_mark 0x28 mark || is_open && not (is_mark 0x29 mark)

-- ---- what the calls that read a token answer, but for want of memory

-- a variable of this type is begun, whose name the token is
abbrev pub BeginsVariable : NcType → Lexeme → Result PartialVariable ReadError → Type 0
BeginsVariable ty token result = (dims : List Dim) (drafts : List Draft) (ls : List Lexeme) → ContinuesRead (λ (b : PartialVariable). read_on dims drafts b ls) result (added dims ty drafts (token ∷ ls))

-- after a mark a variable is begun so
abbrev pub PassesMark : PartialVariable → Lexeme → PartialVariable → Type 0
PassesMark begun mark after = (dims : List Dim) (drafts : List Draft) (ls : List Lexeme) → read_on dims drafts begun (mark ∷ ls) ≡ read_on dims drafts after ls

-- the word names a dimension of the variable that is begun
abbrev pub ReadsDimension : List Dim → List Draft → PartialVariable → List ℕ → Result PartialVariable ReadError → Type 0
ReadsDimension dims drafts begun word result =
    (rest : Declaration) → ContinuesRead (λ (b : PartialVariable). continued dims b.ty drafts b.name.items b.dimids.items rest) result
    (continued dims begun.ty drafts begun.name.items begun.dimids.items (with_name true (word_value word) rest))

-- the token is read, which makes the second of these lists of variables of the first
abbrev pub ReadsToken : List Dim → List Draft → List Draft → PartialVariable → Lexeme → Result PartialVariable ReadError → Type 0
ReadsToken dims before after begun token result = (ls : List Lexeme) → ContinuesRead (λ (b : PartialVariable). read_on dims after b ls) result (read_on dims before begun (token ∷ ls))
