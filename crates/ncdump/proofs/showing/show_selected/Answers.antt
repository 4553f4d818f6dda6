use Rattle.ncdump.proofs.Prelude.{◌<◌, length, refl, ◌∙◌, arith, err_from_is_err_and, transparent_any, transparent_map, dumped, appended_none}
use Rattle.ncdump.proofs.Selected.{selected-begins, place-skips, place-shown, place-failed, selected-all}
use Rattle.ncdump.proofs.Blame.{fails-after}
use Rattle.ncdump.proofs.showing.show_selected.Goals as goal

pub loop-v-init : goal.loop-v-init
loop-v-init g c = record {
  source = refl;
  sink = refl;
  buffer_len = refl;
  selected = transparent_any g.S.Source.is_transparent (selected-begins _ _ _ _ _ (appended_none _));
}

pub loop-v-preserved-then-not-is_shown : goal.loop-v-preserved-then-not-is_shown
loop-v-preserved-then-not-is_shown g c =
    let i = c.loop-v.invariant in
    let there : c.loop-v.v < length c.args.file.now.header.now.vars = omega (arith, c.loop-v-test.true, c.requires.selection) in
    record {
      source = i.source;
      sink = i.sink;
      buffer_len = i.buffer_len;
      selected = transparent_map g.S.Source.is_transparent (λ m.
          place-skips (dumped c.args.file.now.header.now (g.S.Source.view c.args.source.now) c.args.file.now.layout.records c.args.file.now.width) c.args.selection.now c.loop-v.v c.is_shown.result there c.loop-v-test.true c.is_shown.ensures
          _ _ _ _ _ c.if-not-is_shown.true m) i.selected;
    }

pub loop-v-preserved : goal.loop-v-preserved
loop-v-preserved g c =
    let i = c.loop-v.invariant in
    let there : c.loop-v.v < length c.args.file.now.header.now.vars = omega (arith, c.loop-v-test.true, c.requires.selection) in
    record {
      source = c.in_ok-show_variable.ensures.source ∙ i.source;
      sink = c.in_ok-show_variable.ensures.sink ∙ i.sink;
      buffer_len = c.show_variable.auto.buf ∙ i.buffer_len;
      selected = place-shown (dumped c.args.file.now.header.now (g.S.Source.view c.args.source.now) c.args.file.now.layout.records c.args.file.now.width) c.args.selection.now c.loop-v.v c.is_shown.result there c.loop-v-test.true c.is_shown.ensures
          g.S.Source.is_transparent _ _ _ _ _ _ _ _ i.buffer_len c.if-not-is_shown.false i.selected refl c.in_ok-show_variable.ensures.shows;
    }

pub returns-in_err-show_variable-clause-shows : goal.returns-in_err-show_variable-clause-shows
returns-in_err-show_variable-clause-shows g c =
    let i = c.loop-v.invariant in
    let there : c.loop-v.v < length c.args.file.now.header.now.vars = omega (arith, c.loop-v-test.true, c.requires.selection) in
    let p = err_from_is_err_and c.from_residual.result c.from_residual.ensures.1 in
    rw (p.1, p.2) (place-failed (dumped c.args.file.now.header.now (g.S.Source.view c.args.source.now) c.args.file.now.layout.records c.args.file.now.width) c.args.selection.now c.loop-v.v c.is_shown.result there c.loop-v-test.true c.is_shown.ensures
    g.S.Source.is_transparent _ _ _ _ _ _ _ _ i.buffer_len c.if-not-is_shown.false i.selected _ refl c.in_err-show_variable.ensures.shows)

pub returns-in_err-show_variable-clause-sink : goal.returns-in_err-show_variable-clause-sink
returns-in_err-show_variable-clause-sink g c =
    let p = err_from_is_err_and c.from_residual.result c.from_residual.ensures.1 in
    rw (p.1, p.2) (fails-after (g.W.Sink.view c.args.sink.now) (g.W.Sink.view c.loop-v.sink) (g.W.Sink.view c.show_variable.new.sink) _ c.loop-v.invariant.sink c.in_err-show_variable.ensures.sink)

pub returns-clause-shows : goal.returns-clause-shows
returns-clause-shows g c = transparent_map g.S.Source.is_transparent (λ m. selected-all _ _ _ _ _ _ _ _ (omega (arith, c.loop-v-test.false)) m) c.loop-v.invariant.selected
