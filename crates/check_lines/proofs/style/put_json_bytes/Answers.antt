use Rattle.std.proofs.Common.{rules}
use Rattle.std.proofs.lemmas.List.{get_or_default}
use Rattle.std.proofs.lemmas.Result.{err_from_is_err_and}
use Rattle.devices.proofs.Writes.{partway_next, wrote_next}
use Rattle.check_lines.proofs.style.put_json_bytes.Goals as goal

pub loop-b-preserved : goal.loop-b-preserved
loop-b-preserved g c = search (rules, wrote_next, get_or_default)

pub returns-in_err-put_json_byte : goal.returns-in_err-put_json_byte
returns-in_err-put_json_byte g c =
    let p = err_from_is_err_and c.from_residual.result c.from_residual.ensures.1 in
    rw p.1 (search (rules, partway_next, get_or_default))
