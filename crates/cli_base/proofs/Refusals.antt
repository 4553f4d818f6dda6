-- What words ask for, by the parse of a command.
use Rattle.std.proofs.Common.{ℕ, List, Option, None, Result, Ok, Err, true, [], ◌∷◌, ◌≡◌, ◌≢◌, ◌⊎◌, inl, inr, refl, sym, ap, subst, ◌∙◌, rules, IsErrAnd}
use Rattle.clap.specs.Kinds.{HasKind, IsAmong, Kinds}
use Rattle.clap.specs.Words.{App, HasMatchesOf, Row, fault_of, found_of, is_simple, is_simple_and_free, kind_of, matches_of, rows_of}
use Rattle.clap.specs.declared.{error.Error.Error, parser.matches.ArgMatches.ArgMatches}
use Rattle.clap.specs.declared.error.kind.ErrorKind.{ErrorKind}
use Rattle.clap.specs.declared.error.kind.ErrorKind.TheVariants as kinds
use Rattle.cli_base.specs.code.Answers.{AnswersBy}
use Rattle.cli_base.specs.Arguments.{if_faultless}
use Rattle.cli_base.specs.declared.fault.OptFault.{OptFault}
use Rattle.cli_base.specs.declared.fault.OptFault.TheVariants.{OutOfMemory, Usage}

-- words with a fault ask for nothing
pub unless_some : {A : Type 0} (kinds : Kinds) (kind : ErrorKind) (asked : Option A) → IsAmong kind kinds → if_faultless kinds asked ≡ None
unless_some [] kind asked among = absurd among
unless_some (k ∷ ks) kind asked among = refl

-- the fault for an error of this kind
abbrev pub TellsKind : ErrorKind → OptFault → Type 0
TellsKind kind fault = (kind ≡ kinds.OutOfMemory → fault ≡ OutOfMemory) × (kind ≢ kinds.OutOfMemory → fault ≡ Usage)

-- the answer to an error of this kind
pub refusal_answers : {Asked Options : Type 0} (asked_for : Options → Asked) (among : Kinds) (asked : Option Asked) (kind : ErrorKind) (r : Result Options OptFault)
    → IsErrAnd r (TellsKind kind) → (kind ≡ kinds.OutOfMemory) ⊎ IsAmong kind among → AnswersBy asked_for (if_faultless among asked) r
refusal_answers asked_for among asked kind (Ok options) is_fault has = absurd is_fault
refusal_answers asked_for among asked kind (Err OutOfMemory) is_fault has = tt
refusal_answers asked_for among asked kind (Err Usage) is_fault (inl is) = let bad : Usage ≡ OutOfMemory = is_fault.0 is in search (rules, bad)
refusal_answers asked_for among asked kind (Err Usage) is_fault (inr is) = unless_some among kind asked is

-- the answer to words that a command takes, and to words that it doesn't take
module _ {Asked Options : Type 0} (asked_for : Options → Asked) (asked_in : List Row → Option Asked) (command parsed : App) (words : List (List ℕ))
    (r : Result Options OptFault) (is : parsed ≡ command) (free : is_simple_and_free command ≡ true) where
  pub taken_answers : (m : ArgMatches) → is_simple command ≡ true → (is_simple_and_free parsed ≡ true → fault_of parsed words ≡ []) → HasMatchesOf parsed words m
      → AnswersBy asked_for (asked_in (rows_of (found_of m))) r → AnswersBy asked_for (if_faultless (fault_of command words) (asked_in (matches_of command words))) r
  taken_answers m simple kinds matches answers =
      let none = ap (λ (app : App). fault_of app words) (sym is) ∙ kinds (ap is_simple_and_free is ∙ free) in
      rw (none, sym (ap (λ (app : App). matches_of app words) is), sym (matches (ap is_simple is ∙ simple)).0) answers

  pub refused_answers : (error : Error) → (is_simple_and_free parsed ≡ true → HasKind (fault_of parsed words) error) → IsErrAnd r (TellsKind (kind_of error))
      → AnswersBy asked_for (if_faultless (fault_of command words) (asked_in (matches_of command words))) r
  refused_answers error kinds told =
      refusal_answers asked_for (fault_of command words) (asked_in (matches_of command words)) (kind_of error) r told
      (subst (λ (app : App). HasKind (fault_of app words) error) is (kinds (ap is_simple_and_free is ∙ free)))
