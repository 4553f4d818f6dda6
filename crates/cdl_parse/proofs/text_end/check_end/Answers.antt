use Rattle.cdl_parse.proofs.Prelude.{◌≡◌, false, refl, ap, subst, sym, ◌∙◌, is_done, next_token, text_of, version_of, words, lexeme, Ended, rules, Cutter, run, pieces_left}
use Rattle.cdl_parse.proofs.Defining.{ends}
use Rattle.cdl_parse.proofs.RunSteps.{fault_stops, fewer, goes_on}
use Rattle.cdl_parse.proofs.Runs.{run_none}
use Rattle.cdl_parse.proofs.StatementWords.{begins}
use Rattle.cdl_parse.proofs.text_end.check_end.Goals as goal

pub statements-smaller : goal.statements-smaller
statements-smaller c = search (rules, fewer)

pub statements-preserved : goal.statements-preserved
statements-preserved c =
    let start = c.args.start.cutter in
    let t = c.statements in
    let more : is_done t.rest.cutter ≡ false = sym c.is_done.ensures ∙ c.if-is_done.false in
    let begun = begins t.rest.cutter more in
    let next = c.past-rest.ensures.cutter in
    record {
      text = ap text_of next ∙ c.in-Ok.ensures.rest.same.text ∙ t.invariant.text;
      version = ap version_of next ∙ c.in-Ok.ensures.rest.same.version ∙ t.invariant.version;
      past = λ more. refl;
      runs = λ s here.
          let at = record s { section = t.here } in
          t.invariant.runs s here ∙
          subst (λ (c : Cutter). run (text_of start) (version_of start) at (pieces_left t.rest.cutter) ≡ run (text_of start) (version_of start) (record s { section = Ended }) (pieces_left c)) (sym next)
          (goes_on start t.rest.cutter t.invariant.text t.invariant.version more at (record s { section = Ended }) c.in-Ok.after
          (c.in-Ok.ensures.passes at refl ∙ ends (version_of t.rest.cutter) at (lexeme (text_of t.rest.cutter) (next_token t.rest.cutter)) begun.0 (words t.rest.cutter) (t.invariant.past more) begun.1) c.in-Ok.ensures.rest.pieces);
      line = c.past-rest.ensures.line ∙ t.invariant.line;
    }

pub returns-then-is_done-clause-ends : goal.returns-then-is_done-clause-ends
returns-then-is_done-clause-ends c = λ s here. search (rules, run_none)

pub returns-in-Err-clause-ends : goal.returns-in-Err-clause-ends
returns-in-Err-clause-ends c = λ s here.
    let start = c.args.start.cutter in
    let t = c.statements in
    let more : is_done t.rest.cutter ≡ false = sym c.is_done.ensures ∙ c.if-is_done.false in
    let at = record s { section = t.here } in
    t.invariant.runs s here ∙ fault_stops start t.rest.cutter t.invariant.text t.invariant.version more at c.in-Err.kind c.line.result (c.line.ensures more) (c.in-Err.ensures.passes at refl)
