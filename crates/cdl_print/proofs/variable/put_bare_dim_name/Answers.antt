use Rattle.cdl_print.proofs.Prelude.{◌≤◌, length, ap, [], escaped_name, Dim}
use Rattle.std.proofs.lemmas.Option.{slice_get_past}
use Rattle.std.specs.Option.{option_map_or}
use Rattle.cdl_print.proofs.Begun.{appended_none}
use Rattle.cdl_print.proofs.variable.put_bare_dim_name.Goals as goal

pub returns-in-None : goal.returns-in-None
returns-in-None g c =
    let past : length c.args.dims.now ≤ c.args.dimid = c.in-None.ensures.lookup.3 in
    rw (ap (λ o. option_map_or (λ (dim : Dim). escaped_name dim.name) o []) (slice_get_past c.args.dims.now c.args.dimid past)) (appended_none _)
