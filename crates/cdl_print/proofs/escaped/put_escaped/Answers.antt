use Rattle.cdl_print.proofs.Prelude.{ℕ, List, ◌++◌, ap, ◌∙◌, err_from_is_err_and, escaped_in, stands_for_itself, flat_map}
use Rattle.cdl_print.proofs.Begun.{begun_at_first, begun_next, begun_partway}
use Rattle.cdl_print.proofs.Runs.{flat_map_itself, flat_map_parts, plain_itself}
use Rattle.cdl_print.proofs.escaped.put_escaped.Goals as goal

pub loop-rest-init : goal.loop-rest-init
loop-rest-init g c = begun_at_first _ _

pub returns-in_err-put : goal.returns-in_err-put
returns-in_err-put g c =
    let p = err_from_is_err_and c.from_residual.result c.from_residual.ensures.1 in
    let parts = flat_map_parts (escaped_in c.args.quoting) _ c.loop-rest.rest.now _ _ c.split_at.ensures.front c.split_at.ensures.back in
    let plain = flat_map_itself (stands_for_itself c.args.quoting) (escaped_in c.args.quoting) (plain_itself c.args.quoting) c.split_at.result.0.now (rw c.split_at.ensures.front c.plain_len.ensures.plain) in
    rw p.1 (begun_partway _ _ _ _ _ _ _ c.loop-rest.invariant (parts ∙ ap (λ (xs : List ℕ). xs ++ flat_map (escaped_in c.args.quoting) c.split_at.result.1.now) plain) c.in_err-put.ensures)

pub returns-in_err-put_few_escaped : goal.returns-in_err-put_few_escaped
returns-in_err-put_few_escaped g c =
    let p = err_from_is_err_and c.from_residual-in_err-put_few_escaped.result c.from_residual-in_err-put_few_escaped.ensures.1 in
    let parts = flat_map_parts (escaped_in c.args.quoting) _ c.loop-rest.rest.now _ _ c.split_at.ensures.front c.split_at.ensures.back in
    let more = flat_map_parts (escaped_in c.args.quoting) _ c.split_at.result.1.now _ _ c.split_at-in-loop-rest.ensures.front c.split_at-in-loop-rest.ensures.back in
    let plain = flat_map_itself (stands_for_itself c.args.quoting) (escaped_in c.args.quoting) (plain_itself c.args.quoting) c.split_at.result.0.now (rw c.split_at.ensures.front c.plain_len.ensures.plain) in
    rw p.1 (begun_partway _ _ _ _ _ _ _ (begun_next _ _ _ _ _ _ _ c.loop-rest.invariant (parts ∙ ap (λ (xs : List ℕ). xs ++ flat_map (escaped_in c.args.quoting) c.split_at.result.1.now) plain) c.in_ok-put.ensures) more c.in_err-put_few_escaped.ensures)

pub loop-rest-preserved : goal.loop-rest-preserved
loop-rest-preserved g c =
    let parts = flat_map_parts (escaped_in c.args.quoting) _ c.loop-rest.rest.now _ _ c.split_at.ensures.front c.split_at.ensures.back in
    let more = flat_map_parts (escaped_in c.args.quoting) _ c.split_at.result.1.now _ _ c.split_at-in-loop-rest.ensures.front c.split_at-in-loop-rest.ensures.back in
    let plain = flat_map_itself (stands_for_itself c.args.quoting) (escaped_in c.args.quoting) (plain_itself c.args.quoting) c.split_at.result.0.now (rw c.split_at.ensures.front c.plain_len.ensures.plain) in
    begun_next _ _ _ _ _ _ _ (begun_next _ _ _ _ _ _ _ c.loop-rest.invariant (parts ∙ ap (λ (xs : List ℕ). xs ++ flat_map (escaped_in c.args.quoting) c.split_at.result.1.now) plain) c.in_ok-put.ensures) more c.in_ok-put_few_escaped.ensures
