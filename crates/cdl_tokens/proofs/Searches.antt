-- A search for a backslash or one other byte.
use Rattle.cdl_tokens.proofs.Prelude.{prefix_len, goes_on, is_ordinary, ◌≡◌, ℕ, Bool, List, arith, ◌&&◌, ◌||◌, ◌==◌, not}
use Rattle.cdl_tokens.specs.declared.search.Stops.TheVariants.{AtEscapeOr}

neither : (a b : Bool) → not (a || b) ≡ (not a && not b)
neither a b = grind arith

pub before_ordinary : (close : ℕ) (bytes : List ℕ) → prefix_len (goes_on (AtEscapeOr close)) bytes ≡ prefix_len (is_ordinary close) bytes
before_ordinary close bytes = λ i. prefix_len (λ b. neither (b == 0x5c) (b == close) i) bytes
