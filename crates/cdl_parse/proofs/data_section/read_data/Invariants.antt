use Rattle.cdl_parse.proofs.Prelude.{◌≡◌, List, length, Var, closing_of, pieces_left, text_of, version_of, State, BeginsData}
use Rattle.cdl_parse.proofs.DataRuns.{SoFar}
use Rattle.cdl_parse.proofs.data_section.read_data.Given as goal

abbrev pub invariant-statements : goal.invariant-statements
invariant-statements l = record {
  text : text_of l.rest.cutter ≡ text_of l.fn.start.cutter;
  version : version_of l.rest.cutter ≡ version_of l.fn.start.cutter;
  reads : (vars : List Var) (s : State) → BeginsData l.fn.start.cutter l.fn.names l.fn.targets.items vars s → SoFar vars s l.fn.start.cutter l.listings.targets.items l.listings.arrays.items l.rest.cutter;
  line : closing_of l.rest ≡ closing_of l.fn.start;
}

abbrev pub decreases-statements : goal.decreases-statements
decreases-statements l = length (pieces_left l.rest.cutter)
