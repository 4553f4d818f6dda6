-- A run over the data section, statement by statement.
use Rattle.cdl_parse.proofs.Prelude.{◌≡◌, ℕ, false, List, [], length, Ok, replicate, rules, Var, after, is_done, pieces_left, text_of, version_of, words, Cutter, Values, piece_read, run, State, Draft, unlisted_drafts, AllSuit, names_of, Target, IsInDataSection}
use Rattle.cdl_parse.proofs.DataStates.{none_listed}
use Rattle.cdl_parse.proofs.RunSteps.{goes_on}

-- the statements up to this cutter make such drafts
abbrev pub SoFar : List Var → State → Cutter → List Target → List (List ℕ) → Cutter → Type 0
SoFar vars s start ts arrays c =
    (ds : List Draft) × IsInDataSection vars (names_of s.drafts) ts arrays (record s { drafts = ds }) ×
    (run (text_of start) (version_of start) s (pieces_left start) ≡ run (text_of start) (version_of start) (record s { drafts = ds }) (pieces_left c))

pub none_so_far : (vars : List Var) (s : State) (start : Cutter) (ts : List Target) (arrays : List (List ℕ)) → s.section ≡ Values → AllSuit s.dims ts s.drafts → s.drafts ≡ unlisted_drafts vars → arrays ≡ replicate (length ts) [] →
    SoFar vars s start ts arrays start
none_so_far vars s start ts arrays section suit is empty = search (rules, none_listed)

module _ (start c : Cutter) (text : text_of c ≡ text_of start) (version : version_of c ≡ version_of start) (more : is_done c ≡ false) where
  -- a statement more
  pub values_on : (vars : List Var) (s : State) (ts us : List Target) (arrays others : List (List ℕ)) (rest : Cutter) → pieces_left rest ≡ after c → (so : SoFar vars s start ts arrays c) →
      (ds : List Draft) × (piece_read (version_of c) (record s { drafts = so.0 }) (words c) ≡ Ok (record s { drafts = ds })) × IsInDataSection vars (names_of so.0) us others (record s { drafts = ds }) → SoFar vars s start us others rest
  values_on vars s ts us arrays others rest on so found = search (rules, goes_on)
