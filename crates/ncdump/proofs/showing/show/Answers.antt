use Rattle.ncdump.proofs.Prelude.{ℕ, Bool, List, length, ap, ◌∙◌, subst, Ok, Err, err_from_is_err_and, head_text, record_count, Appended, FailedPartway, appended_then, transparent_any, transparent_map, WriteFailed, options_of, dumped, Shows, ShowsSelected}
use Rattle.ncdump.proofs.Calls.{call}
use Rattle.ncdump.proofs.WholeText.{no-head, no-word, no-values, no-brace, all-written, brace}
use Rattle.ncdump.proofs.showing.show.Goals as goal

pub returns-in_err-put_head-clause-shows : goal.returns-in_err-put_head-clause-shows
returns-in_err-put_head-clause-shows g c =
    let p = err_from_is_err_and c.from_residual.result c.from_residual.ensures.1 in
    let a = g.S.Source.view c.args.source.now in
    let n = c.record_layout-layout.ensures.records ∙ ap (record_count c.args.header.now) c.len.ensures.length in
    rw (p.1, p.2) (transparent_any g.S.Source.is_transparent
    (no-head (options_of c.args.options.now) c.args.header.now _ c.args.selection.now (length c.args.buf.now) a (g.W.Sink.view c.args.sink.now) (g.W.Sink.view c.put_head.new.sink)
    (subst (λ (k : ℕ). FailedPartway (g.W.Sink.view c.args.sink.now) (g.W.Sink.view c.put_head.new.sink) (head_text c.args.options.now.name c.args.header.now k)) n
    (subst (λ (name : List ℕ). FailedPartway (g.W.Sink.view c.args.sink.now) (g.W.Sink.view c.put_head.new.sink) (head_text name c.args.header.now c.record_layout-layout.result.records)) c.as_slice.ensures c.in_err-put_head.ensures))))

pub returns-in_err-put-clause-shows : goal.returns-in_err-put-clause-shows
returns-in_err-put-clause-shows g c =
    let p = err_from_is_err_and c.from_residual-in_err-put.result c.from_residual-in_err-put.ensures.1 in
    let a = g.S.Source.view c.args.source.now in
    let n = c.record_layout-layout.ensures.records ∙ ap (record_count c.args.header.now) c.len.ensures.length in
    rw (p.1, p.2) (transparent_any g.S.Source.is_transparent
    (no-word (options_of c.args.options.now) c.args.header.now _ c.args.selection.now (length c.args.buf.now) a (g.W.Sink.view c.args.sink.now) (g.W.Sink.view c.put_head.new.sink) (g.W.Sink.view c.put.new.sink)
    (subst (λ (k : ℕ). Appended (g.W.Sink.view c.args.sink.now) (g.W.Sink.view c.put_head.new.sink) (head_text c.args.options.now.name c.args.header.now k)) n
    (subst (λ (name : List ℕ). Appended (g.W.Sink.view c.args.sink.now) (g.W.Sink.view c.put_head.new.sink) (head_text name c.args.header.now c.record_layout-layout.result.records)) c.as_slice.ensures c.in_ok-put_head.ensures))
    (subst (FailedPartway (g.W.Sink.view c.put_head.new.sink) (g.W.Sink.view c.put.new.sink)) c.data_word.ensures c.in_err-put.ensures)))

pub returns-in_err-show_selected-clause-shows : goal.returns-in_err-show_selected-clause-shows
returns-in_err-show_selected-clause-shows g c =
    let p = err_from_is_err_and c.from_residual-in_err-show_selected.result c.from_residual-in_err-show_selected.ensures.1 in
    let fault = c.in_err-show_selected.field-0.0 in
    let o = options_of c.args.options.now in
    let h = c.args.header.now in
    let a = g.S.Source.view c.args.source.now in
    let old = g.W.Sink.view c.args.sink.now in
    let head = g.W.Sink.view c.put_head.new.sink in
    let word = g.W.Sink.view c.put.new.sink in
    let n = c.record_layout-layout.ensures.records ∙ ap (record_count h) c.len.ensures.length in
    let begun = subst (λ (name : List ℕ). Appended old head (head_text name h c.record_layout-layout.result.records)) c.as_slice.ensures c.in_ok-put_head.ensures in
    let before = appended_then old head word _ _ begun (subst (Appended head word) c.data_word.ensures c.in_ok-put.ensures) in
    rw (p.1, p.2) (transparent_map g.S.Source.is_transparent (λ s.
    subst (λ (k : ℕ). Shows {A = Unit {0}} o h k c.args.selection.now (call (length c.args.buf.now) a (g.S.Source.view c.show_selected.new.source) old (g.W.Sink.view c.show_selected.new.sink)) (Err fault)) n
    (no-values o h c.record_layout-layout.result.records c.args.selection.now (length c.args.buf.now) a old word before (g.S.Source.view c.show_selected.new.source) (g.W.Sink.view c.show_selected.new.sink) fault
    (subst (λ (selection : List Bool). ShowsSelected {A = Unit {0}} (dumped h a c.record_layout-layout.result.records o.width) selection (call (length c.args.buf.now) a (g.S.Source.view c.show_selected.new.source) word (g.W.Sink.view c.show_selected.new.sink)) (Err fault)) c.unless_head_only-shown.ensures s)))
    c.in_err-show_selected.ensures.shows)

pub returns-in_err-put-2-clause-shows : goal.returns-in_err-put-2-clause-shows
returns-in_err-put-2-clause-shows g c =
    let p = err_from_is_err_and c.from_residual-in_err-put-2.result c.from_residual-in_err-put-2.ensures.1 in
    let o = options_of c.args.options.now in
    let h = c.args.header.now in
    let a = g.S.Source.view c.args.source.now in
    let old = g.W.Sink.view c.args.sink.now in
    let head = g.W.Sink.view c.put_head.new.sink in
    let word = g.W.Sink.view c.put.new.sink in
    let last = g.W.Sink.view c.show_selected.new.sink in
    let n = c.record_layout-layout.ensures.records ∙ ap (record_count h) c.len.ensures.length in
    let begun = subst (λ (name : List ℕ). Appended old head (head_text name h c.record_layout-layout.result.records)) c.as_slice.ensures c.in_ok-put_head.ensures in
    let before = appended_then old head word _ _ begun (subst (Appended head word) c.data_word.ensures c.in_ok-put.ensures) in
    rw (p.1, p.2) (transparent_map g.S.Source.is_transparent (λ s.
    subst (λ (k : ℕ). Shows {A = Unit {0}} o h k c.args.selection.now (call (length c.args.buf.now) a (g.S.Source.view c.show_selected.new.source) old (g.W.Sink.view c.put-2.new.sink)) (Err WriteFailed)) n
    (no-brace o h c.record_layout-layout.result.records c.args.selection.now (length c.args.buf.now) a old word before (g.S.Source.view c.show_selected.new.source) last
    (subst (λ (selection : List Bool). ShowsSelected {A = Unit {0}} (dumped h a c.record_layout-layout.result.records o.width) selection (call (length c.args.buf.now) a (g.S.Source.view c.show_selected.new.source) word last) (Ok tt)) c.unless_head_only-shown.ensures s)
    (g.W.Sink.view c.put-2.new.sink) (subst (FailedPartway last (g.W.Sink.view c.put-2.new.sink)) brace c.in_err-put-2.ensures)))
    c.in_ok-show_selected.ensures.shows)

pub returns-clause-shows : goal.returns-clause-shows
returns-clause-shows g c =
    let o = options_of c.args.options.now in
    let h = c.args.header.now in
    let a = g.S.Source.view c.args.source.now in
    let old = g.W.Sink.view c.args.sink.now in
    let head = g.W.Sink.view c.put_head.new.sink in
    let word = g.W.Sink.view c.put.new.sink in
    let last = g.W.Sink.view c.show_selected.new.sink in
    let n = c.record_layout-layout.ensures.records ∙ ap (record_count h) c.len.ensures.length in
    let begun = subst (λ (name : List ℕ). Appended old head (head_text name h c.record_layout-layout.result.records)) c.as_slice.ensures c.in_ok-put_head.ensures in
    let before = appended_then old head word _ _ begun (subst (Appended head word) c.data_word.ensures c.in_ok-put.ensures) in
    transparent_map g.S.Source.is_transparent (λ s.
    subst (λ (k : ℕ). Shows {A = Unit {0}} o h k c.args.selection.now (call (length c.args.buf.now) a (g.S.Source.view c.show_selected.new.source) old (g.W.Sink.view c.put-2.new.sink)) (Ok tt)) n
    (all-written o h c.record_layout-layout.result.records c.args.selection.now (length c.args.buf.now) a old word before (g.S.Source.view c.show_selected.new.source) last
    (subst (λ (selection : List Bool). ShowsSelected {A = Unit {0}} (dumped h a c.record_layout-layout.result.records o.width) selection (call (length c.args.buf.now) a (g.S.Source.view c.show_selected.new.source) word last) (Ok tt)) c.unless_head_only-shown.ensures s)
    (g.W.Sink.view c.put-2.new.sink) (subst (Appended last (g.W.Sink.view c.put-2.new.sink)) brace c.in_ok-put-2.ensures)))
    c.in_ok-show_selected.ensures.shows
