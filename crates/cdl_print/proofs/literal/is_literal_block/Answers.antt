use Rattle.cdl_print.proofs.Prelude.{◌≡◌, ◌+◌, ◌≤◌, ℕ, true, length, map, take, drop, sym, ◌∙◌, arith, is_literal, list_all, nat_tests, leading_from_mask_l, length-chunk, needs_escape}
use Rattle.cdl_print.proofs.Lanes.{block_passes, run_at}
use lib.Lanes.{chunk, mask_l}
use Rattle.cdl_print.proofs.literal.is_literal_block.Goals as goal

pub returns : goal.returns
returns c = λ free.
    let bytes = c.args.bytes.now in
    let pass : (i : ℕ) → i + 16 ≤ length bytes → mask_l (map needs_escape (chunk i 16 bytes)) ≡ 0 → list_all is_literal (take 16 (drop i bytes)) ≡ true =
    λ i room none. run_at is_literal bytes i 16 16 (omega (arith, leading_from_mask_l needs_escape (chunk i 16 bytes) none, length-chunk i 16 bytes room)) (omega arith) in
    let first : c.escape_mask-first.result ≡ 0 = grind (arith, nat_tests, free) in
    let second : c.escape_mask-second.result ≡ 0 = grind (arith, nat_tests, free) in
    let third : c.escape_mask-third.result ≡ 0 = grind (arith, nat_tests, free) in
    let fourth : c.escape_mask-fourth.result ≡ 0 = grind (arith, nat_tests, free) in
    block_passes is_literal bytes (pass 0 (omega arith) (sym c.escape_mask-first.ensures ∙ first)) (pass 16 (omega arith) (sym c.escape_mask-second.ensures ∙ second))
    (pass 32 (omega arith) (sym c.escape_mask-third.ensures ∙ third)) (pass 48 (omega arith) (sym c.escape_mask-fourth.ensures ∙ fourth))
