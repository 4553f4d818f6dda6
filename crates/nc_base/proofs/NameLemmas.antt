-- The test for UTF-8 by a conversion that may fail.
use Rattle.nc_base.proofs.Prelude.{◌≡◌, ℕ, List, Result, MatchResult, is_ok, arith, false_from_ne_true, IsUtf8, is_utf8}
use Rattle.std.proofs.lemmas.Str.{IsUtf8-from_is_utf8, is_utf8-from_IsUtf8}

-- a conversion that succeeds exactly at UTF-8 is a test for it
pub is_ok-is_utf8 : {S E : Type 0} (P : S → Type 0) (Q : E → Type 0) (r : Result S E) (bytes : List ℕ)
    → MatchResult r (λ s. P s × IsUtf8 bytes) (λ e. (¬ IsUtf8 bytes) × Q e) → is_ok r ≡ is_utf8 bytes
is_ok-is_utf8 P Q r bytes h = grind (arith, is_utf8-from_IsUtf8, false_from_ne_true, IsUtf8-from_is_utf8)
