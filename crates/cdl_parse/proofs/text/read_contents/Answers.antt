use Rattle.cdl_parse.proofs.Prelude.{rules, ◌≡◌, ◌<◌, length, refl, ap, sym, ◌∙◌, subst, ◌^◌, Result, Err, FailsAt, pieces_left, text_of, version_of, empty, run, State, AllList, AreShaped, unlisted_drafts, state_of, ParseError}
use Rattle.cdl_parse.specs.code.Parsing.{ReadsAll}
use Rattle.cdl_parse.specs.declared.{parse_error.ParseError.TheVariants.Fault, text.Contents.Contents}
use Rattle.cdl_parse.proofs.WholeTexts.{listed_shapes, names_known, same_end, same_fault, same_run}
use Rattle.cdl_parse.proofs.text.read_contents.Goals as goal

pub returns-clause-reads : goal.returns-clause-reads
returns-clause-reads c = λ small.
    let start = c.args.start in
    let rest = c.in_ok-definitions.field-0.rest.cutter in
    let s = state_of c.in_ok-definitions.field-0.definitions in
    let vars = c.in_ok-vars.vars in
    let values = c.in_ok-values.values in
    let short : length (text_of rest) < 2 ^ 63 = subst (λ text. length text < 2 ^ 63) (sym c.in_ok-definitions.ensures.same.text) small in
    let dims : s.dims ≡ c.as_slice.result.now = search rules in
    let listed_of : c.as_slice-2.result.now ≡ vars = search rules in
    let drafts : s.drafts ≡ unlisted_drafts c.as_slice-2.result.now = sym c.in_ok-vars.ensures.vars ∙ ap unlisted_drafts (sym listed_of) in
    let named = names_known c.new.result vars c.as_slice-3.result.now s.drafts (search rules) c.new.ensures c.in_ok-vars.ensures.vars in
    let read = c.in_ok-values.ensures.reads s refl (record { has_dims = dims; unlisted = drafts; named = named; shaped = c.in_ok-definitions.ensures.shaped; short = short }) in
    let at : State = record s { section = values.section; drafts = read.0 } in
    let so_far : run (text_of start) (version_of start) empty (pieces_left start) ≡ run (text_of start) (version_of start) at (pieces_left values.rest.cutter) =
    c.in_ok-definitions.ensures.reads ∙ same_run (text_of start) (text_of rest) (version_of start) (version_of rest) s at (pieces_left rest) (pieces_left values.rest.cutter) c.in_ok-definitions.ensures.same.text c.in_ok-definitions.ensures.same.version read.2 in
    let text = c.in_ok-values.ensures.same.text ∙ c.in_ok-definitions.ensures.same.text in
    let version = c.in_ok-values.ensures.same.version ∙ c.in_ok-definitions.ensures.same.version in
    let ended = c.in_ok-closing_line.ensures.ends at refl in
    let kept : s.dims ≡ c.into_sequence-dims.result = search rules in
    let lists = subst (λ vs. AllList vs values.listed.items read.0) listed_of read.1 in (
      record at { section = ended.0 },
      record {
        dims = search rules;
        gatts = search rules;
        listed = lists;
        shaped = subst (λ ds. AreShaped ds read.0) kept (listed_shapes s.dims vars values.listed.items read.0 lists (subst (AreShaped s.dims) (sym c.in_ok-vars.ensures.vars) c.in_ok-definitions.ensures.shaped));
      },
      so_far ∙ same_end (text_of start) (text_of values.rest.cutter) (version_of start) (version_of values.rest.cutter) at (pieces_left values.rest.cutter) _ text version ended.1,
    )

pub returns-in_err-closing_line-clause-reads : goal.returns-in_err-closing_line-clause-reads
returns-in_err-closing_line-clause-reads c = λ small.
    let start = c.args.start in
    let rest = c.in_ok-definitions.field-0.rest.cutter in
    let s = state_of c.in_ok-definitions.field-0.definitions in
    let vars = c.in_ok-vars.vars in
    let values = c.in_ok-values.values in
    let short : length (text_of rest) < 2 ^ 63 = subst (λ text. length text < 2 ^ 63) (sym c.in_ok-definitions.ensures.same.text) small in
    let dims : s.dims ≡ c.as_slice.result.now = search rules in
    let listed_of : c.as_slice-2.result.now ≡ vars = search rules in
    let drafts : s.drafts ≡ unlisted_drafts c.as_slice-2.result.now = sym c.in_ok-vars.ensures.vars ∙ ap unlisted_drafts (sym listed_of) in
    let named = names_known c.new.result vars c.as_slice-3.result.now s.drafts (search rules) c.new.ensures c.in_ok-vars.ensures.vars in
    let read = c.in_ok-values.ensures.reads s refl (record { has_dims = dims; unlisted = drafts; named = named; shaped = c.in_ok-definitions.ensures.shaped; short = short }) in
    let at : State = record s { section = values.section; drafts = read.0 } in
    let so_far : run (text_of start) (version_of start) empty (pieces_left start) ≡ run (text_of start) (version_of start) at (pieces_left values.rest.cutter) =
    c.in_ok-definitions.ensures.reads ∙ same_run (text_of start) (text_of rest) (version_of start) (version_of rest) s at (pieces_left rest) (pieces_left values.rest.cutter) c.in_ok-definitions.ensures.same.text c.in_ok-definitions.ensures.same.version read.2 in
    let text = c.in_ok-values.ensures.same.text ∙ c.in_ok-definitions.ensures.same.text in
    let version = c.in_ok-values.ensures.same.version ∙ c.in_ok-definitions.ensures.same.version in
    let fault = c.in_err-closing_line.field-0.0 in
    let is : c.from_residual-in_err-closing_line.result ≡ Err (Fault fault) = search rules in
    subst (λ (r : Result Contents ParseError). ReadsAll r (run (text_of start) (version_of start) empty (pieces_left start))) (sym is)
    (so_far ∙ same_end (text_of start) (text_of values.rest.cutter) (version_of start) (version_of values.rest.cutter) at (pieces_left values.rest.cutter) _ text version (c.in_err-closing_line.ensures.ends at refl))

pub returns-in_err-values-clause-reads : goal.returns-in_err-values-clause-reads
returns-in_err-values-clause-reads c = λ small.
    let start = c.args.start in
    let rest = c.in_ok-definitions.field-0.rest.cutter in
    let s = state_of c.in_ok-definitions.field-0.definitions in
    let vars = c.in_ok-vars.vars in
    let short : length (text_of rest) < 2 ^ 63 = subst (λ text. length text < 2 ^ 63) (sym c.in_ok-definitions.ensures.same.text) small in
    let dims : s.dims ≡ c.as_slice.result.now = search rules in
    let listed_of : c.as_slice-2.result.now ≡ vars = search rules in
    let drafts : s.drafts ≡ unlisted_drafts c.as_slice-2.result.now = sym c.in_ok-vars.ensures.vars ∙ ap unlisted_drafts (sym listed_of) in
    let named = names_known c.new.result vars c.as_slice-3.result.now s.drafts (search rules) c.new.ensures c.in_ok-vars.ensures.vars in
    let e = c.in_err-values.field-0.0 in
    let fails = c.in_err-values.ensures.reads s refl (record { has_dims = dims; unlisted = drafts; named = named; shaped = c.in_ok-definitions.ensures.shaped; short = short }) in
    let is : c.from_residual-in_err-values.result ≡ Err e = search rules in
    subst (λ (r : Result Contents ParseError). ReadsAll r (run (text_of start) (version_of start) empty (pieces_left start))) (sym is)
    (subst (FailsAt e) (sym c.in_ok-definitions.ensures.reads) (same_fault (text_of start) (text_of rest) (version_of start) (version_of rest) s (pieces_left rest) e c.in_ok-definitions.ensures.same.text c.in_ok-definitions.ensures.same.version fails))
