use Rattle.cdl_tokens.proofs.Prelude.{string_value, ◌≡◌, ◌+◌, ◌≤◌, length}
use Rattle.cdl_tokens.specs.code.Unescaping.{then_rest}
use Rattle.cdl_tokens.proofs.unescaped.gather_unescaped.Given as goal

abbrev pub invariant-characters : goal.invariant-characters
invariant-characters l = record {
  value : then_rest l.text l.end l.rest ≡ string_value l.bytes;
  within : l.end ≤ length l.text;
  short : l.end + length l.rest ≤ length l.bytes;
}

abbrev pub decreases-characters : goal.decreases-characters
decreases-characters l = length l.rest
