use Rattle.ncdump.proofs.Prelude.{◌≡◌, length, OnTrue, dumped}
use Rattle.ncdump.proofs.Selected.{Selected}
use Rattle.ncdump.proofs.showing.show_selected.Given as goal

-- no device has failed, and the selected variables before this place are shown
abbrev pub invariant-loop-v : goal.invariant-loop-v
invariant-loop-v g l = record {
  source : (g.S.Source.view l.source).failures ≡ (g.S.Source.view l.fn.source).failures;
  sink : (g.W.Sink.view l.sink).failures ≡ (g.W.Sink.view l.fn.sink).failures;
  buffer_len : length l.buf ≡ length l.fn.buf;
  selected : OnTrue g.S.Source.is_transparent (Selected (dumped l.file.header.now (g.S.Source.view l.fn.source) l.file.layout.records l.file.width) l.selection (length l.fn.buf) l.v (g.S.Source.view l.fn.source) (g.S.Source.view l.source) (g.W.Sink.view l.fn.sink) (g.W.Sink.view l.sink));
}
