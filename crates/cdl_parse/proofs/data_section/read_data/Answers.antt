use Rattle.cdl_parse.proofs.Prelude.{rules, ◌≡◌, ◌<◌, false, length, sym, ap, ◌∙◌, subst, ◌^◌, is_done, pieces_left, text_of, version_of, Section, run, IsInDataSection, TakesStatement, FailsAt, at_line, ParseError, Cutter}
use Rattle.cdl_parse.proofs.DataRuns.{SoFar, none_so_far, values_on}
use Rattle.cdl_parse.proofs.RunSteps.{fewer, goes_on, stops}
use Rattle.cdl_parse.proofs.data_section.read_data.Goals as goal

pub statements-init : goal.statements-init
statements-init c = search (rules, none_so_far)

pub statements-smaller : goal.statements-smaller
statements-smaller c = search (rules, fewer)

pub statements-preserved : goal.statements-preserved
statements-preserved c =
    let start = c.args.start.cutter in
    let t = c.statements in
    let found = c.in-Ok.ensures in
    let more : is_done t.rest.cutter ≡ false = sym c.is_done.ensures ∙ c.if-is_done.false in
    let here = c.past-rest.ensures.cutter in
    record {
      text = ap text_of here ∙ found.rest.same.text ∙ t.invariant.text;
      version = ap version_of here ∙ found.rest.same.version ∙ t.invariant.version;
      reads = λ vars s at.
          let so = t.invariant.reads vars s at in
          let taken = found.reads vars (record s { drafts = so.0 }) (subst (λ names. IsInDataSection vars names t.listings.targets.items t.listings.arrays.items (record s { drafts = so.0 })) (sym at.named) so.1) (subst (λ text. length text < 2 ^ 63) (sym t.invariant.text) at.short) in
          subst (λ (at : Cutter). SoFar vars s start c.read_next_statement.new.listings.targets.items c.read_next_statement.new.listings.arrays.items at) (sym here)
          (values_on start t.rest.cutter t.invariant.text t.invariant.version more vars s t.listings.targets.items c.read_next_statement.new.listings.targets.items t.listings.arrays.items c.read_next_statement.new.listings.arrays.items c.in-Ok.passed.rest found.rest.pieces so
          (subst (λ b. TakesStatement b vars t.rest.cutter (record s { drafts = so.0 }) c.read_next_statement.new.listings.targets.items c.read_next_statement.new.listings.arrays.items) c.if-passed.false taken));
      line = c.past-rest.ensures.line ∙ t.invariant.line;
    }

pub returns-then-passed-clause-reads : goal.returns-then-passed-clause-reads
returns-then-passed-clause-reads c = λ vars s at.
    let start = c.args.start.cutter in
    let t = c.statements in
    let found = c.in-Ok.ensures in
    let more : is_done t.rest.cutter ≡ false = sym c.is_done.ensures ∙ c.if-is_done.false in
    let so = t.invariant.reads vars s at in
    let taken = found.reads vars (record s { drafts = so.0 }) (subst (λ names. IsInDataSection vars names t.listings.targets.items t.listings.arrays.items (record s { drafts = so.0 })) (sym at.named) so.1) (subst (λ text. length text < 2 ^ 63) (sym t.invariant.text) at.short) in
    let closed = subst (λ b. TakesStatement b vars t.rest.cutter (record s { drafts = so.0 }) c.read_next_statement.new.listings.targets.items c.read_next_statement.new.listings.arrays.items) c.if-passed.true taken in (
      so.0,
      closed.1,
      so.2 ∙ subst (λ (at : Cutter). run (text_of start) (version_of start) (record s { drafts = so.0 }) (pieces_left t.rest.cutter) ≡ run (text_of start) (version_of start) (record s { section = Section.Closed; drafts = so.0 }) (pieces_left at)) (sym c.past-rest.ensures.cutter)
          (goes_on start t.rest.cutter t.invariant.text t.invariant.version more (record s { drafts = so.0 }) (record s { section = Section.Closed; drafts = so.0 }) c.in-Ok.passed.rest closed.0 found.rest.pieces),
    )

pub returns-in-Err-clause-reads : goal.returns-in-Err-clause-reads
returns-in-Err-clause-reads c = λ vars s at.
    let start = c.args.start.cutter in
    let t = c.statements in
    let more : is_done t.rest.cutter ≡ false = sym c.is_done.ensures ∙ c.if-is_done.false in
    let so = t.invariant.reads vars s at in
    let fault = c.in-Err.ensures.reads vars (record s { drafts = so.0 }) (subst (λ names. IsInDataSection vars names t.listings.targets.items t.listings.arrays.items (record s { drafts = so.0 })) (sym at.named) so.1) (subst (λ text. length text < 2 ^ 63) (sym t.invariant.text) at.short) in
    subst (λ (e : ParseError). FailsAt e (run (text_of start) (version_of start) s (pieces_left start))) (sym c.at_line.ensures)
    (subst (FailsAt (at_line c.line.result c.in-Err.e)) (sym so.2) (stops start t.rest.cutter t.invariant.text t.invariant.version more (record s { drafts = so.0 }) c.in-Err.e c.line.result (c.line.ensures more) fault))
