-- For contracts. What a statement of the data section means.
use Rattle.std.specs.Prelude.{ℕ, List, [], ◌∷◌, if◌then◌else◌, drop, Option, None, Some, Result, Ok, Err, slice_get}
use Rattle.nc_types.specs.declared.version.Version.{Version}
use Rattle.nc_types.specs.Names.{is_name}
use Rattle.cdl_tokens.specs.Escapes.{word_value}
use Rattle.cdl_statements.specs.code.Cutters.{version_of, words}
use Rattle.cdl_statements.specs.declared.{cutter.Cutter.Cutter, due.Due.TheVariants.DataName, fault.CdlKind.CdlKind}
use Rattle.cdl_statements.specs.Lexemes.{Lexeme}
use Rattle.cdl_statements.specs.code.DueTokens.{completes}
use Rattle.cdl_statements.specs.code.Contents.{values}
use Rattle.cdl_statements.specs.Shapes.{first_bad}
use Rattle.cdl_statements.specs.declared.fault.CdlKind.TheVariants.{Syntax, BadName, UnknownVariable, DuplicateData}
use Rattle.cdl_values.specs.code.NameIndices.{position_of}
use Rattle.cdl_values.specs.code.PackedValues.{packed}
use Rattle.cdl_values.specs.declared.data.Target.{Target}

-- the target, where no statement gave its values
abbrev pub unless_given : Option Target → Result Target CdlKind
unless_given None = Err UnknownVariable
unless_given (Some t) = if t.given then Err DuplicateData else Ok t

-- the target at a position, where no statement gave its values
abbrev pub target_at : List Target → Option ℕ → Result Target CdlKind
target_at targets None = Err UnknownVariable
target_at targets (Some k) = unless_given (slice_get targets k)

-- the target of the variable of this name
abbrev pub target_of : List (List ℕ) → List Target → List ℕ → Result Target CdlKind
target_of names targets name = if is_name name then target_at targets (position_of names name) else Err BadName

-- the same, of the variable that a word names
abbrev pub target_said : List (List ℕ) → List Target → List ℕ → Result Target CdlKind
target_said names targets word = target_of names targets (word_value word)

-- the bytes of the values of these tokens, as the target takes them
abbrev pub packed_for : Version → List Lexeme → Result Target CdlKind → Result (List ℕ) CdlKind
packed_for version ws (Err e) = Err e
packed_for version ws (Ok t) = packed t.form t.capacity (values version ws)

-- NAME, `=` and the values
abbrev pub bytes_assigned : Version → List (List ℕ) → List Target → List Lexeme → Result (List ℕ) CdlKind
bytes_assigned version names targets [] = Err Syntax
bytes_assigned version names targets (n ∷ ws) = packed_for version (drop 1 ws) (target_of names targets (word_value n.bytes))

abbrev pub unless_bad : Option CdlKind → Result (List ℕ) CdlKind → Result (List ℕ) CdlKind
unless_bad (Some k) r = Err k
unless_bad None r = r

-- a bad token or a bad number comes before a fault of syntax, and that before all others
unfoldable pub data_read : Version → List (List ℕ) → List Target → List Lexeme → Result (List ℕ) CdlKind
data_read version names targets ws = unless_bad (first_bad version ws) (if completes DataName ws then bytes_assigned version names targets ws else Err Syntax)

-- the same of the next statement
abbrev pub statement_read : Cutter → List (List ℕ) → List Target → Result (List ℕ) CdlKind
statement_read start names targets = data_read (version_of start) names targets (words start)
