-- What the whole command line reads.
use Rattle.check_options.proofs.Prelude.{Row, fault_of, is_simple, is_simple_and_free, matches_of, asked_by, asked_in, nccheck, asked_for, Asked, ℕ, true, List, [], ◌∷◌, Result, Err, ◌≡◌, ◌∙◌, refl, ap, inl, inr, ◌⊎◌}
use Rattle.clap.specs.Kinds.{IsAmong, Kinds}
use Rattle.clap.specs.declared.error.kind.ErrorKind.{ErrorKind}
use Rattle.clap.proofs.OnLiterals.{clap_on_literals}
use Rattle.clap.specs.declared.error.kind.ErrorKind.TheVariants as kinds
use Rattle.check_options.specs.CommandLine.{OptionsHaveLetters, if_faultless}
use Rattle.check_options.specs.Misuse.{Misuse, misuse_in}
use Rattle.check_options.specs.code.Misuses.{RefusesBy, Says}
use Rattle.check_options.specs.declared.misuse.CommandFault.{CommandFault}
use Rattle.check_options.specs.declared.misuse.CommandFault.TheVariants.{Misused, OutOfMemory}

-- the parse says all of the command's matches
pub is_plain : is_simple_and_free nccheck ≡ true
unfolding clap_on_literals nccheck
is_plain = refl

pub is_exact : is_simple nccheck ≡ true
unfolding clap_on_literals nccheck
is_exact = refl

-- its options have the letters that a misuse knows
pub letters : OptionsHaveLetters
unfolding clap_on_literals nccheck
letters = refl

faultless : (kinds : Kinds) (misuse : Misuse) (asked : Result Asked Misuse) → kinds ≡ [] → asked ≡ if_faultless kinds misuse asked
faultless kinds misuse asked none = rw none refl

-- words that the command takes ask for what its entries do
pub asked_by_taken : (words : List (List ℕ)) (rows : List Row) → fault_of nccheck words ≡ [] → rows ≡ matches_of nccheck words
    → asked_in rows ≡ asked_by words
unfolding asked_by
asked_by_taken words rows none is =
    ap asked_in is ∙ faultless (fault_of nccheck words) (misuse_in words) (asked_in (matches_of nccheck words)) none

faulty : (kinds : Kinds) (kind : ErrorKind) (misuse : Misuse) (asked : Result Asked Misuse) → IsAmong kind kinds
    → if_faultless kinds misuse asked ≡ Err misuse
faulty [] kind misuse asked among = absurd among
faulty (k ∷ ks) kind misuse asked among = refl

-- the answer to words that the command doesn't take
pub refused_words : (words : List (List ℕ)) (kind : ErrorKind) (fault : CommandFault) → RefusesBy kind (misuse_in words) fault
    → (kind ≡ kinds.OutOfMemory) ⊎ IsAmong kind (fault_of nccheck words) → Says asked_for (asked_by words) (Err fault)
unfolding asked_by
refused_words words kind OutOfMemory refuses has = tt
refused_words words kind (Misused why) refuses (inl is) = absurd (refuses.0 is)
refused_words words kind (Misused why) refuses (inr among) =
    faulty (fault_of nccheck words) kind (misuse_in words) (asked_in (matches_of nccheck words)) among
    ∙ ap (λ (misuse : Misuse). Err misuse) refuses.1
