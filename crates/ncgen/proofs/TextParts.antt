-- Reading a text part by part.
use Rattle.ncgen.proofs.Prelude.{ReaderView, HasGrown, ℕ, ◌≡◌, ◌+◌, ◌<◌, ◌≤◌, List, [], ◌++◌, length, Option, append_assoc, arith}
use Rattle.std.specs.Io.KnownBytes.{Consumes}
use Rattle.std.proofs.lemmas.List.{length-append}

-- this is what was handed over so far, by as many reads at most
pub record HasRead (max : ℕ) (start now : ReaderView) (text : List ℕ) : Type 0 where
  pub within : length text ≤ max + 1
  pub bytes : Consumes start.remaining now.remaining text
  pub handed : now.handed ≡ start.handed + length text
  pub reads : now.reads ≤ start.reads + length text
  pub failures : now.failures ≡ start.failures

consumes_then : (a b c : Option (List ℕ)) (first second : List ℕ) → Consumes a b first → Consumes b c second → Consumes a c (first ++ second)
consumes_then a b c first second one two = grind (arith, append_assoc)

consumes_none : (a : Option (List ℕ)) → Consumes a a []
consumes_none a = grind arith

-- nothing was read yet
pub begins : (max : ℕ) (start : ReaderView) → HasRead max start start []
begins max start = grind (arith, consumes_none)

-- a part more was read
pub grows : (max : ℕ) (start old new : ReaderView) (before after : List ℕ) → HasRead max start old before → HasGrown old new before after
    → length before < length after → length after ≤ max + 1 → new.reads ≤ old.reads + 1 → HasRead max start new after
grows max start old new before after so_far grown longer within reads = grind (arith, length-append, consumes_then)
