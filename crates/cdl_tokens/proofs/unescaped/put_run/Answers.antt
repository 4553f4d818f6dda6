use Rattle.cdl_tokens.proofs.Prelude.{length-take-le, ◌+◌, arith, take}
use Rattle.std.proofs.lemmas.Simd.{take_more_put_chunk}
use Rattle.cdl_tokens.proofs.Strings.{run_put}
use Rattle.cdl_tokens.proofs.unescaped.put_run.Goals as goal

pub returns-clause-value : goal.returns-clause-value
returns-clause-value c =
    let at = c.args.at in
    let bytes = c.args.bytes.now in
    let old = c.args.text.now in
    let copied = take_more_put_chunk at old (take 16 bytes) (at + 16) (omega (arith, length-take-le 16 bytes (omega arith))) (omega arith) in
    grind (arith, run_put old _ bytes at 16 c.near_len-run.result copied)
