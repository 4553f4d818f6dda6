use Rattle.std.proofs.Common.{rules}
use Rattle.ncgen.proofs.CutOutputs.{cut_short}
use Rattle.ncgen.proofs.output.write_output.Goals as goal

pub returns-in_err-written : goal.returns-in_err-written
returns-in_err-written g c = search (
  rules,
  c.from_residual-in_err-written.ensures,
  cut_short g.C.Creator.is_transparent (g.C.Creator.view c.args.creator.now) (g.C.Creator.view c.create.new.self) (g.C.Creator.view c.close-closed.new.self)
      c.args.path.now _ _ _ c.close-closed.result c.in_ok-output.ensures c.in_err-written.ensures c.close-closed.ensures,
)
