use Rattle.std.proofs.Common.{rules}
use Rattle.nc_base.specs.Headers.{IsSound}
use Rattle.nc_base.proofs.Fitting.{has-begins}
use Rattle.test_layers.proofs.written_headers.begun.Goals as goal

pub returns-clause-sound : goal.returns-clause-sound
returns-clause-sound g c =
    let sound : IsSound c.args.header = search rules in
    (has-begins c.args.header c.in-Ok.header _ sound c.in-Ok.ensures).sound

pub returns-clause-begins : goal.returns-clause-begins
returns-clause-begins g c =
    let sound : IsSound c.args.header = search rules in
    (has-begins c.args.header c.in-Ok.header _ sound c.in-Ok.ensures).begins
