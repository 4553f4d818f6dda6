-- Definition. The shapes of statements. NAME, LENGTH, CONST, VALUE and TYPE are tokens, and `..` means more of the same.
use Rattle.std.specs.Prelude.{ℕ, ℤ, Bool, true, false, List, [], ◌∷◌, ◌&&◌, ◌||◌, if◌then◌else◌, codes, Option, None, Some, is_none, is_some, nat_lt}
use Rattle.std.specs.Str.{byte}
use Rattle.std.specs.Option.{option_map, option_and_then, option_or}
use Rattle.nc_types.specs.Bytes.{Bytes}
use Rattle.cdl_tokens.specs.Escapes.{inner, string_value}
use Rattle.cdl_statements.specs.Lexemes.{Lexeme, is_mark, is_word, is_word_kind, is_opening_kind, name_of}
use Rattle.cdl_statements.specs.Pieces.{section_of}
use Rattle.cdl_tokens.specs.Numerals.{TypedNumber, numeral}
use Rattle.cdl_tokens.specs.Tokens.{is_end}
use Rattle.cdl_tokens.specs.declared.token.TokenKind.{TokenKind}
use Rattle.cdl_tokens.specs.declared.token.TokenKind.TheVariants as kinds
use Rattle.cdl_statements.specs.declared.{fault.CdlKind.CdlKind, section.Section.Section}
use Rattle.cdl_statements.specs.declared.fault.CdlKind.TheVariants.{BadToken, BadNumber}
use Rattle.nc_types.specs.declared.version.Version.{Version}
use Rattle.cdl_statements.specs.declared.section.Section.TheVariants.{Unopened, Globals, Dimensions, Variables, Values, Closed, Ended}

-- a CONST or a VALUE
pub data Value : Type 0 where
  Number : (n : TypedNumber) → Value
  Characters : (bytes : Bytes) → Value
  Underscore : Value

pub record Dimension : Type 0 where
  pub name : Bytes
  -- None: the record dimension
  pub len : Option ℤ

pub record Variable : Type 0 where
  pub name : Bytes
  pub dimensions : List Bytes

pub data Statement : Type 0 where
  Open : Statement
  -- a section mark
  Enter : (section : Section) → Statement
  DeclareDimensions : (dimensions : List Dimension) → Statement
  DeclareVariables : (ty : Lexeme) (variables : List Variable) → Statement
  -- None: an attribute of the dataset
  Attribute : (variable : Option Bytes) (name : Bytes) (constants : List Value) → Statement
  -- values in the data section
  Listed : (variable : Bytes) (values : List Value) → Statement
  Close : Statement
  End : Statement

abbrev pub token_fault : Version → TokenKind → Bytes → Option CdlKind
token_fault v kinds.Bad bytes = Some BadToken
token_fault v kinds.Number bytes = if is_none (numeral v bytes) then Some BadNumber else None
token_fault v _ bytes = None

abbrev pub first_bad : Version → List Lexeme → Option CdlKind
first_bad v [] = None
first_bad v (l ∷ ls) = option_or (token_fault v l.kind l.bytes) (first_bad v ls)

-- ---- parts of statements: what tokens say, or None if they have another shape

-- f of both, if both are there
abbrev pub both : {A B C : Type 0} → (A → B → C) → Option A → Option B → Option C
both f None b = None
both f (Some a) None = None
both f (Some a) (Some b) = Some (f a b)

abbrev pub if_so : {A : Type 0} → Bool → Option A → Option A
if_so true a = a
if_so false a = None

-- a, if no token follows
abbrev pub at_end : {A : Type 0} → A → List Lexeme → Option A
at_end a [] = Some a
at_end a (l ∷ ls) = None

-- after a member of a list: a comma and others, or the semicolon at the end
abbrev pub after_member : {A : Type 0} → Option (List A) → Lexeme → List Lexeme → Option (List A)
after_member others c ls = if is_mark (byte ",") c then others else if_so (is_mark (byte ";") c) (at_end [] ls)

-- LENGTH: l, with its kind beside it; Some None: the record dimension
abbrev pub length_of : Version → Lexeme → TokenKind → Option (Option ℤ)
length_of v l kinds.Number = option_map (λ (n : TypedNumber). Some n.value) (numeral v l.bytes)
length_of v l _ = if_so (is_word (codes "unlimited") l || is_word (codes "UNLIMITED") l) (Some None)

-- NAME = LENGTH
abbrev pub dimension : Version → Lexeme → Lexeme → Lexeme → Option Dimension
dimension v n e l =
    if_so (is_mark (byte "=") e) (both (λ name len. record { name = name; len = len }) (name_of n) (length_of v l l.kind))

-- NAME = LENGTH, .. ;
abbrev pub dimensions : Version → List Lexeme → Option (List Dimension)
dimensions v (n ∷ e ∷ l ∷ c ∷ ls) = both (λ d ds. d ∷ ds) (dimension v n e l) (after_member (dimensions v ls) c ls)
dimensions v _ = None

-- VALUE if `_` is taken, otherwise CONST: l, with its kind beside it
abbrev pub constant_of : Version → Bool → Lexeme → TokenKind → Option Value
constant_of v takes_fill l kinds.Number = option_map Number (numeral v l.bytes)
constant_of v takes_fill l kinds.Text = Some (Characters (string_value (inner l.bytes)))
constant_of v takes_fill l _ = if_so (takes_fill && is_word (codes "_") l) (Some Underscore)

abbrev pub constant : Version → Bool → Lexeme → Option Value
constant v takes_fill l = constant_of v takes_fill l l.kind

-- CONST, .. ; or VALUE, .. ;
abbrev pub constants : Version → Bool → List Lexeme → Option (List Value)
constants v takes_fill (l ∷ c ∷ ls) =
    both (λ x xs. x ∷ xs) (constant v takes_fill l) (after_member (constants v takes_fill ls) c ls)
constants v takes_fill _ = None

-- f of a name and values: NAME = VALUE, .. ; if `_` is taken, otherwise NAME = CONST, .. ;
abbrev pub assigned : {A : Type 0} → Version → Bool → (Bytes → List Value → A) → List Lexeme → Option A
assigned v takes_fill f (n ∷ e ∷ ls) = if_so (is_mark (byte "=") e) (both f (name_of n) (constants v takes_fill ls))
assigned v takes_fill f _ = None

abbrev mutual
  -- NAME, .. ; where (NAME, ..) may follow a NAME
  pub variables : List Lexeme → Option (List Variable)
  variables (n ∷ c ∷ ls) = option_and_then (λ name.
      if is_mark (byte "(") c then in_parentheses (λ ds. record { name = name; dimensions = ds }) ls
      else option_map (λ vs. record { name = name; dimensions = [] } ∷ vs) (after_member (variables ls) c ls)) (name_of n)
  variables _ = None

  -- NAME, ..) and what follows; variable: the variable that has these dimensions
  pub in_parentheses : (List Bytes → Variable) → List Lexeme → Option (List Variable)
  in_parentheses variable (n ∷ p ∷ c ∷ ls) = option_and_then (λ name.
      if is_mark (byte ",") p then in_parentheses (λ ds. variable (name ∷ ds)) (c ∷ ls)
      else if_so (is_mark (byte ")") p) (
      option_map (λ vs. variable (name ∷ []) ∷ vs) (after_member (variables ls) c ls))) (name_of n)
  in_parentheses variable _ = None

-- ---- statements

-- the order of the sections
abbrev pub section_number : Section → ℕ
section_number Unopened = 0
section_number Globals = 1
section_number Dimensions = 2
section_number Variables = 3
section_number Values = 4
section_number Closed = 5
section_number Ended = 6

abbrev pub is_later : Section → Section → Bool
is_later before s = nat_lt (section_number before) (section_number s)

-- the mark of a section that comes after this one: l is its word
abbrev pub section_mark : Section → Lexeme → List Lexeme → Option Statement
section_mark before l (c ∷ []) =
    if_so (is_mark (byte ":") c) (option_and_then (λ s. if_so (is_later before s) (Some (Enter s))) (section_of l))
section_mark before l _ = None

-- NAME : NAME = CONST, .. ; or, if the word l that comes first is no NAME, a section mark
abbrev pub attribute_or_mark : Version → Lexeme → Option Bytes → List Lexeme → Option Statement
attribute_or_mark v l (Some name) (c ∷ ls) = assigned v false (Attribute (Some name)) ls
attribute_or_mark v l _ ls = section_mark Variables l ls

-- Before the data, a statement that begins with l, which is neither `}` nor `:`. It is a section mark; or NAME = LENGTH, .. ; or
-- NAME : NAME = CONST, .. ; or TYPE NAME, .. ; where (NAME, ..) may follow a NAME but the TYPE.
abbrev pub other_statement : Version → Section → Lexeme → List Lexeme → Option Statement
other_statement v Globals l ls = section_mark Globals l ls
other_statement v Dimensions l ls =
    if is_some (section_of l) then section_mark Dimensions l ls else option_map DeclareDimensions (dimensions v (l ∷ ls))
other_statement v Variables l (c ∷ ls) =
    if_so (is_word_kind l.kind) (
    if is_mark (byte ":") c then attribute_or_mark v l (name_of l) (c ∷ ls)
    else option_map (DeclareVariables l) (variables (c ∷ ls)))
other_statement v _ l ls = None

-- What a piece says, if it has a shape of its section. From Globals to Values it is `}`, the mark of a later section, or a statement with
-- its `;`.
unfoldable pub shape : Version → Section → List Lexeme → Option Statement
shape v section [] = None
shape v Unopened (l ∷ ls) = if_so (is_opening_kind l.kind) (at_end Open ls)
shape v Closed (l ∷ ls) = if_so (is_end l.kind) (at_end End ls)
shape v Ended (l ∷ ls) = None
shape v Values (l ∷ ls) = if is_mark (byte "}") l then at_end Close ls else assigned v true Listed (l ∷ ls)
shape v section (l ∷ ls) =
    if is_mark (byte "}") l then at_end Close ls
    else if is_mark (byte ":") l then assigned v false (Attribute None) ls
    else other_statement v section l ls
