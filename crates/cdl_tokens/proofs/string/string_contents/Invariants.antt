use Rattle.cdl_tokens.proofs.Prelude.{len_until, length, ◌≡◌, ◌+◌, ◌&&◌}
use Rattle.cdl_tokens.proofs.StringContents.{are_good, contents}
use Rattle.cdl_tokens.proofs.string.string_contents.Given as goal

abbrev pub invariant-escapes : goal.invariant-escapes
invariant-escapes l = record {
  within : l.len + length l.rest ≡ length l.bytes;
  total : l.len + len_until 0x22 l.rest ≡ len_until 0x22 l.bytes;
  good : (l.has_valid_escapes && are_good (contents l.rest)) ≡ are_good (contents l.bytes);
}

abbrev pub decreases-escapes : goal.decreases-escapes
decreases-escapes l = length l.rest
