use Rattle.ncdump.proofs.Prelude.{◌∙◌, err_from_is_err_and, transparent_map, options_of}
use Rattle.ncdump.proofs.DumpLaws.{transparent-refused, transparent-unselected, transparent-shown}
use Rattle.ncdump.proofs.dumping.dump.Goals as goal

pub returns-in_err-header-clause-answer : goal.returns-in_err-header-clause-answer
returns-in_err-header-clause-answer g c =
    let p = err_from_is_err_and c.from_residual.result c.from_residual.ensures.1 in
    rw (p.1, p.2) (transparent_map g.S.Source.is_transparent (λ x. x.0) (transparent-refused g.S.Source.is_transparent (options_of c.args.options.now) (g.S.Source.view c.args.source.now) (g.S.Source.view c.read_header.new.source) _ _ _ c.in_err-header.ensures.answer))

pub returns-in_err-header-clause-forward : goal.returns-in_err-header-clause-forward
returns-in_err-header-clause-forward g c =
    let p = err_from_is_err_and c.from_residual.result c.from_residual.ensures.1 in
    rw (p.1, p.2) (transparent_map g.S.Source.is_transparent (λ x. x.1) (transparent-refused g.S.Source.is_transparent (options_of c.args.options.now) (g.S.Source.view c.args.source.now) (g.S.Source.view c.read_header.new.source) _ _ _ c.in_err-header.ensures.answer))

pub returns-in_err-selection-clause-answer : goal.returns-in_err-selection-clause-answer
returns-in_err-selection-clause-answer g c =
    let p = err_from_is_err_and c.from_residual-in_err-selection.result c.from_residual-in_err-selection.ensures.1 in
    rw (p.1, p.2) (transparent_map g.S.Source.is_transparent (λ x. x.0)
    (transparent-unselected g.S.Source.is_transparent (options_of c.args.options.now) (g.S.Source.view c.args.source.now) (g.S.Source.view c.read_header.new.source) _ (g.W.Sink.view c.args.sink.now) _ c.in_err-selection.field-0.0 c.in_ok-header.ensures.answer c.in_err-selection.ensures))

pub returns-in_err-selection-clause-forward : goal.returns-in_err-selection-clause-forward
returns-in_err-selection-clause-forward g c =
    let p = err_from_is_err_and c.from_residual-in_err-selection.result c.from_residual-in_err-selection.ensures.1 in
    rw (p.1, p.2) (transparent_map g.S.Source.is_transparent (λ x. x.1)
    (transparent-unselected g.S.Source.is_transparent (options_of c.args.options.now) (g.S.Source.view c.args.source.now) (g.S.Source.view c.read_header.new.source) _ (g.W.Sink.view c.args.sink.now) _ c.in_err-selection.field-0.0 c.in_ok-header.ensures.answer c.in_err-selection.ensures))

pub returns-clause-answer : goal.returns-clause-answer
returns-clause-answer g c =
    transparent_map g.S.Source.is_transparent (λ x. x.0)
    (transparent-shown g.S.Source.is_transparent (options_of c.args.options.now) (g.S.Source.view c.args.source.now) (g.S.Source.view c.read_header.new.source) (g.S.Source.view c.show.new.source) _ _
    (g.W.Sink.view c.args.sink.now) (g.W.Sink.view c.show.new.sink) _ _ c.show.result c.in_ok-header.ensures.answer c.in_ok-selection.ensures.0 (c.as_slice.ensures.value ∙ c.in_ok-selection.ensures.1) c.in_ok-header.ensures.bytes c.read_header.auto.buf c.show.ensures.shows)

pub returns-clause-forward : goal.returns-clause-forward
returns-clause-forward g c =
    transparent_map g.S.Source.is_transparent (λ x. x.1)
    (transparent-shown g.S.Source.is_transparent (options_of c.args.options.now) (g.S.Source.view c.args.source.now) (g.S.Source.view c.read_header.new.source) (g.S.Source.view c.show.new.source) _ _
    (g.W.Sink.view c.args.sink.now) (g.W.Sink.view c.show.new.sink) _ _ c.show.result c.in_ok-header.ensures.answer c.in_ok-selection.ensures.0 (c.as_slice.ensures.value ∙ c.in_ok-selection.ensures.1) c.in_ok-header.ensures.bytes c.read_header.auto.buf c.show.ensures.shows)
