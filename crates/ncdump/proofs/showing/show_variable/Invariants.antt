use Rattle.ncdump.proofs.Prelude.{length}
use Rattle.ncdump.proofs.OneVariable.{Showing}
use Rattle.ncdump.proofs.showing.show_variable.Given as goal

-- the walk and the printer stand after the same values
abbrev pub invariant-loop-chunk : goal.invariant-loop-chunk
invariant-loop-chunk g l =
    Showing g.S.Source.is_transparent l.file.header.now l.v l.file.layout.records l.file.width (length l.fn.buf) l.walk l.printer (g.S.Source.view l.fn.source) (g.S.Source.view l.source) (g.W.Sink.view l.fn.sink) (g.W.Sink.view l.sink)

abbrev pub decreases-loop-chunk : goal.decreases-loop-chunk
decreases-loop-chunk g l = length l.walk.left
