-- Lists of kinds, as they grow word by word.
use Rattle.check_options.proofs.Prelude.{List, [], ◌∷◌, ◌++◌, ◌≡◌, Result, Ok, Err, ap, append-nil, append_assoc, refl}
use Rattle.nc_findings.specs.declared.kind.Kind.{Kind}
use Rattle.check_options.specs.CommandLine.{kind_before}
use Rattle.check_options.specs.Misuse.{Misuse}

-- these kinds, and then the others
abbrev pub kinds_after : List Kind → Result (List Kind) Misuse → Result (List Kind) Misuse
kinds_after found (Ok kinds) = Ok (found ++ kinds)
kinds_after found (Err misuse) = Err misuse

pub after-none : (others : Result (List Kind) Misuse) → kinds_after [] others ≡ others
after-none (Ok kinds) = refl
after-none (Err misuse) = refl

pub after-one : (found : List Kind) (kind : Kind) (others : Result (List Kind) Misuse)
    → kinds_after (found ++ kind ∷ []) others ≡ kinds_after found (kind_before (Ok kind) others)
after-one found kind (Ok kinds) = ap Ok (append_assoc found (kind ∷ []) kinds)
after-one found kind (Err misuse) = refl

pub ruleset kind_lists = (after-none, after-one, append-nil)
