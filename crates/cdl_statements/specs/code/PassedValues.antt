-- For contracts. Values of a list that a cutter passes without saying them.
use Rattle.std.specs.Prelude.{◌≡◌, ◌≤◌, Bool, false}
use Rattle.cdl_statements.specs.Shapes.{first_bad}
use Rattle.cdl_statements.specs.code.Cutters.{SameText, after, is_done, offset_of, version_of, words}
use Rattle.cdl_statements.specs.code.DueTokens.{completes}
use Rattle.cdl_statements.specs.code.ListedTokens.{IsAtComma}
use Rattle.cdl_statements.specs.declared.{cutter.Cutter.Cutter, due.Due.Due, due.Due.TheVariants.Separator}

-- the tokens between the two are good ones, after which the same token is due
pub record PassesGood (due : Due) (start rest : Cutter) : Type 0 where
  pub same : SameText start rest
  pub goes : is_done rest ≡ false
  pub bad : first_bad (version_of start) (words rest) ≡ first_bad (version_of start) (words start)
  pub shaped : completes due (words rest) ≡ completes due (words start)
  pub others : after rest ≡ after start
  pub on : offset_of start ≤ offset_of rest

-- from comma to comma of a list of values
pub record PassesValues (takes_fill : Bool) (start rest : Cutter) : Type 0 where
  pub at : IsAtComma rest
  pub on : PassesGood (Separator takes_fill) start rest
