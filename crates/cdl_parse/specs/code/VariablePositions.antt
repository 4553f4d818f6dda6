-- For contracts. The variable at a position.
use Rattle.std.specs.Prelude.{ℕ, zero, suc, ◌≡◌, List, [], ◌∷◌, Result, Ok, Err}
use Rattle.cdl_statements.specs.declared.{fault.CdlKind.CdlKind, fault.CdlKind.TheVariants.UnknownVariable}
use Rattle.cdl_statements.specs.State.{Draft, change_variable, ◌>>=◌}
use Rattle.cdl_values.specs.code.Answers.{ContinuesRead}
use Rattle.cdl_values.specs.code.Meant.{names_of}
use Rattle.cdl_values.specs.declared.read_error.ReadError.{ReadError}

-- the variables, the one at this position changed
abbrev pub at_position : ℕ → (Draft → Result Draft CdlKind) → List Draft → Result (List Draft) CdlKind
at_position position f [] = Err UnknownVariable
at_position zero f (d ∷ ds) = do
  e ← f d
  Ok (e ∷ ds)
at_position (suc position) f (d ∷ ds) = do
  es ← at_position position f ds
  Ok (d ∷ es)

-- the name's variable is at this position, whatever it is changed to
abbrev pub FindsVariable : List ℕ → List (List ℕ) → Result ℕ ReadError → Type 0
FindsVariable name names result =
    (drafts : List Draft) → names ≡ names_of drafts → (change : Draft → Result Draft CdlKind) → ContinuesRead (λ position. at_position position change drafts) result (change_variable name change drafts)
