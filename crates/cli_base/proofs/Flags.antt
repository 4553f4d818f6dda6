-- What a flag reads.
use Rattle.std.proofs.Common.{ℕ, Bool, true, false, List, Option, Some, None, ◌≡◌, refl, rules, codes, unwrap_or}
use Rattle.std.specs.Option.{option_map_or}
use Rattle.std.specs.Str.{bytes_eq}
use Rattle.std.specs.Str.Parse.{ParsesBool}
use Rattle.std.proofs.lemmas.Slice.Eq.{bytes_eq-Decides}
use Rattle.clap.specs.Matches.{ReadsOne}

-- the flag that a text says, read as a `bool`
pub flag_read : (E : Type 0) (text : Option (List ℕ)) (r : Option Bool) → (text ≡ None → r ≡ None)
    → ((t : List ℕ) → text ≡ Some t → ReadsOne (ParsesBool {E = E}) t r)
    → unwrap_or r false ≡ option_map_or (λ (value : List ℕ). bytes_eq value (codes "true")) text false
flag_read E None r none some = rw (none refl) refl
flag_read E (Some t) (Some true) none some = rw (some t refl) refl
flag_read E (Some t) (Some false) none some = rw (some t refl) refl
flag_read E (Some t) None none some = search (rules, bytes_eq-Decides t (codes "true"), some t refl)
