use Rattle.std.proofs.Common.{◌≡◌, arith}
use Rattle.nc_window.specs.code.Window.{left}
use Rattle.nccheck.proofs.Formats.{starts}
use Rattle.nccheck.proofs.format.first_bytes.Goals as goal

pub returns-clause-bytes : goal.returns-clause-bytes
returns-clause-bytes g c =
    let is = c.new.ensures.starts in
    let all : left c.new.result ≡ (g.S.Source.view c.args.source.now).bytes = grind (arith, is.source_is, is.base, is.pos) in
    starts g.S.Source.is_transparent (g.S.Source.view c.args.source.now).bytes (left c.new.result) (left c.array.new.self) c.array.result all c.array.ensures.reads
