-- The statements of the data section, one by one.
use Rattle.cdl_parse.proofs.Prelude.{◌≡◌, ℕ, true, List, Result, slice_set, sym, ap, ◌∙◌, subst, Some, Ok, arith, Var, Version, Lexeme, statement_said, Cutter, Values, Closed, piece_read, Draft, State, act, AllList, Means, begins_brace, name_first, names_of, with_listed, position_of, Target, ReadError, Closes, ReadsOne, IsInDataSection, given_at}
use Rattle.cdl_parse.specs.declared.data_section.DataStatement.{DataStatement}
use Rattle.cdl_parse.proofs.DataStates.{listed_at, names_are}

-- the statement that begins with the closing brace is that brace
pub closing : (v : Version) (s : State) (ws : List Lexeme) → s.section ≡ Values → begins_brace ws ≡ true → piece_read v s ws ≡ act v s (statement_said v s.section ws) → piece_read v s ws ≡ Ok (record s { section = Closed })
unfolding act statement_said
closing v s ws h h2 h3 = grind arith

-- what the call that reads a brace answers is what the call that reads any statement does
pub closed : (vars : List Var) (start : Cutter) (s : State) (ts : List Target) (arrays : List (List ℕ)) (names : List (List ℕ)) (result : Result DataStatement ReadError) → IsInDataSection vars names ts arrays s → Closes start s result → ReadsOne vars start s ts arrays result
closed vars start s ts arrays names result h h2 = grind arith

-- a statement that lists these bytes of the variable at this position
pub takes : (vars : List Var) (v : Version) (s : State) (ws : List Lexeme) (ts : List Target) (arrays : List (List ℕ)) (array : List ℕ) (k : ℕ) (names : List (List ℕ)) → IsInDataSection vars names ts arrays s →
    Means v s ws (Ok array) → position_of names (name_first ws) ≡ Some k →
    (ds : List Draft) × (piece_read v s ws ≡ Ok (record s { drafts = ds })) × IsInDataSection vars (names_of s.drafts) (given_at k ts) (slice_set arrays k array) (record s { drafts = ds })
takes vars v s ws ts arrays array k names stands means is =
    let ds = with_listed (name_first ws) means.0 s.drafts in
    let after = listed_at s.dims (name_first ws) means.0 vars arrays ts s.drafts k stands.lists stands.suit (ap (λ all. position_of all (name_first ws)) (sym stands.named) ∙ is) in
    let lists = subst (λ bytes. AllList vars (slice_set arrays k bytes) ds) means.1 after.0 in
    let named = names_are vars arrays s.drafts stands.lists ∙ sym (names_are vars (slice_set arrays k array) ds lists) in
    (ds, means.2, record { section = stands.section; named = named; suit = after.1; lists = lists })
