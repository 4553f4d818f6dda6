use Rattle.ncdump.proofs.Prelude.{[], sym, ap, ◌∙◌, subst, Ok, slice_get, err_from_is_err_and, look_of, variable_opening, Look, Appended, FailedPartway, transparent_map, HasPrinted}
use Rattle.ncdump.proofs.OneVariable.{some-at, at-some, showing-begins, takes-chunk, showing-on, unwritten-chunk, shown-whole, unwritten-closing, shown-prefix, unread, unwritten-opening}
use Rattle.ncdump.proofs.showing.show_variable.Goals as goal

pub loop-chunk-init : goal.loop-chunk-init
loop-chunk-init g c =
    let s = c.with_layout-walk.ensures in
    let h = c.args.file.now.header.now in
    let new = some-at (λ var. HasPrinted (look_of h var c.args.file.now.layout.records c.args.file.now.width) [] c.new-printer.result) (slice_get h.vars c.args.v) s.var s.at c.new-printer.ensures in
    let has_printed = subst (HasPrinted (look_of h s.var c.args.file.now.layout.records c.args.file.now.width) []) (sym c.in_ok-start.ensures.ok) new in
    showing-begins g.S.Source.is_transparent h c.args.v c.args.file.now.layout.records c.args.file.now.width _ _ _ _ _ _ s has_printed
    (subst (λ (l : Look). Appended (g.W.Sink.view c.args.sink.now) (g.W.Sink.view c.start.new.sink) (variable_opening l)) new.same_look (c.in_ok-start.ensures.wrote new.unfailed))

pub values-requires : goal.values-requires
values-requires g c =
    let s = c.loop-chunk.invariant in
    takes-chunk _ _ _ _ _ _ _ _ _ _ _ _ s _ c.in-Ok-Some.chunk.now (rw c.in-Ok-Some.field-0-is at (c.in-Ok-Some.ensures.steps s.walked.fault))

pub loop-chunk-preserved : goal.loop-chunk-preserved
loop-chunk-preserved g c =
    let s = c.loop-chunk.invariant in
    showing-on _ _ _ _ _ _ _ _ _ _ _ _ s _ c.in-Ok-Some.chunk.now (rw c.in-Ok-Some.field-0-is at (c.in-Ok-Some.ensures.steps s.walked.fault)) _ _ _ (rw (c.in-Ok-Some.is ∙ ap Ok c.in-Ok-Some.field-0-is) at c.next.follows.holds-at-none) c.in_ok-values-in-Ok-Some.ensures.prints

pub returns-in_err-start-clause-shows : goal.returns-in_err-start-clause-shows
returns-in_err-start-clause-shows g c =
    let p = err_from_is_err_and c.from_residual.result c.from_residual.ensures.1 in
    let s = c.with_layout-walk.ensures in
    let h = c.args.file.now.header.now in
    let new = some-at (λ var. HasPrinted (look_of h var c.args.file.now.layout.records c.args.file.now.width) [] c.new-printer.result) (slice_get h.vars c.args.v) s.var s.at c.new-printer.ensures in
    let partway = subst (λ (l : Look). FailedPartway (g.W.Sink.view c.args.sink.now) (g.W.Sink.view c.start.new.sink) (variable_opening l)) new.same_look (c.in_err-start.ensures.wrote new.unfailed) in
    rw (p.1, p.2) (transparent_map g.S.Source.is_transparent (λ shown. at-some _ (slice_get h.vars c.args.v) s.var s.at shown)
    (unwritten-opening g.S.Source.is_transparent h c.args.v c.args.file.now.layout.records c.args.file.now.width _ _ _ (g.S.Source.view c.args.source.now) _ _ s new partway))

pub returns-in_err-values-in-Ok-Some-clause-shows : goal.returns-in_err-values-in-Ok-Some-clause-shows
returns-in_err-values-in-Ok-Some-clause-shows g c =
    let p = err_from_is_err_and c.from_residual-in_err-values-in-Ok-Some.result c.from_residual-in_err-values-in-Ok-Some.ensures.1 in
    let s = c.loop-chunk.invariant in
    rw (p.1, p.2) (transparent_map g.S.Source.is_transparent (λ shown. at-some _ (slice_get c.args.file.now.header.now.vars c.args.v) s.var s.at shown)
    (unwritten-chunk _ _ _ _ _ _ _ _ _ _ _ _ s _ c.in-Ok-Some.chunk.now (rw c.in-Ok-Some.field-0-is at (c.in-Ok-Some.ensures.steps s.walked.fault)) _ _ c.in_err-values-in-Ok-Some.ensures.prints))

pub returns-in-Err-ReadFailed-clause-shows : goal.returns-in-Err-ReadFailed-clause-shows
returns-in-Err-ReadFailed-clause-shows g c =
    let s = c.loop-chunk.invariant in
    transparent_map g.S.Source.is_transparent (λ shown. at-some _ (slice_get c.args.file.now.header.now.vars c.args.v) s.var s.at shown)
    (unread _ _ _ _ _ _ _ _ _ _ _ _ s _ (rw c.in-Err-ReadFailed.field-0-is at (c.in-Err-ReadFailed.ensures.steps s.walked.fault)))

pub returns-in-Err-DataTruncated-clause-shows : goal.returns-in-Err-DataTruncated-clause-shows
returns-in-Err-DataTruncated-clause-shows g c =
    let s = c.loop-chunk.invariant in
    rw c.in-Err-DataTruncated.value-is (transparent_map g.S.Source.is_transparent (λ shown. at-some _ (slice_get c.args.file.now.header.now.vars c.args.v) s.var s.at shown)
    (shown-prefix _ _ _ _ _ _ _ _ _ _ _ _ s _ c.in-Err-DataTruncated.value (rw c.in-Err-DataTruncated.field-0-is at (c.in-Err-DataTruncated.ensures.steps s.walked.fault))))

pub returns-in_err-finish-clause-shows : goal.returns-in_err-finish-clause-shows
returns-in_err-finish-clause-shows g c =
    let p = err_from_is_err_and c.from_residual-in_err-finish.result c.from_residual-in_err-finish.ensures.1 in
    let s = c.loop-chunk.invariant in
    rw (p.1, p.2) (transparent_map g.S.Source.is_transparent (λ shown. at-some _ (slice_get c.args.file.now.header.now.vars c.args.v) s.var s.at shown)
    (unwritten-closing _ _ _ _ _ _ _ _ _ _ _ _ s _ (rw c.in-Ok-None.field-0-is at (c.in-Ok-None.ensures.steps s.walked.fault)) _ (c.in_err-finish.ensures.wrote s.has_printed.unfailed)))

pub returns-clause-shows : goal.returns-clause-shows
returns-clause-shows g c =
    let s = c.loop-chunk.invariant in
    transparent_map g.S.Source.is_transparent (λ shown. at-some _ (slice_get c.args.file.now.header.now.vars c.args.v) s.var s.at shown)
    (shown-whole _ _ _ _ _ _ _ _ _ _ _ _ s _ (rw c.in-Ok-None.field-0-is at (c.in-Ok-None.ensures.steps s.walked.fault)) _ (c.in_ok-finish.ensures.wrote s.has_printed.unfailed))
