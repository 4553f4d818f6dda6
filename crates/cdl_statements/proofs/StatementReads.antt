-- A statement, by what the check of it finds.
use Rattle.cdl_statements.proofs.Prelude.{◌≡◌, true, false, List, ap, ◌∙◌, None, Some, is_some, Result, Ok, Err, if◌then◌else◌, arith, Version, statement_said, version_of, words, Cutter, completes, Lexeme, Statement, first_bad, shape, CdlKind, Syntax, Section}
use Rattle.cdl_statements.specs.declared.due.Due.TheVariants as dues
use Rattle.cdl_statements.proofs.Options.{none_of}
use Rattle.cdl_statements.proofs.Readings.{checked, shaped}
use Rattle.cdl_statements.proofs.Sections.{piece_completes, said_is}
use Rattle.cdl_statements.specs.code.ShapeFaults.{ActsAsSaid, shape_fault_of}
use Rattle.cdl_statements.specs.State.{State, act}
use Rattle.cdl_statements.specs.Meaning.{piece_read}
use Rattle.std.specs.Option.{option_or}
use Rattle.std.specs.Prelude.{IfErr, OnOk}

reads_bad : (v : Version) (s : State) (ws : List Lexeme) (kind : CdlKind) → first_bad v ws ≡ Some kind → piece_read v s ws ≡ Err kind
unfolding piece_read
reads_bad v s ws kind is = ap (λ o. checked v s o ws) is

reads_shapeless : (v : Version) (s : State) (ws : List Lexeme) → first_bad v ws ≡ None → is_some (shape v s.section ws) ≡ false → piece_read v s ws ≡ Err Syntax
unfolding piece_read
reads_shapeless v s ws good off = ap (λ o. checked v s o ws) good ∙ ap (shaped v s) (none_of (shape v s.section ws) off)

reads_statement : (v : Version) (s : State) (ws : List Lexeme) (statement : Statement) → first_bad v ws ≡ None → shape v s.section ws ≡ Some statement → piece_read v s ws ≡ act v s statement
unfolding piece_read
reads_statement v s ws statement good is = ap (λ o. checked v s o ws) good ∙ ap (shaped v s) is

reads_fault : (v : Version) (s : State) (ws : List Lexeme) (kind : CdlKind) → option_or (first_bad v ws) (if completes (dues.First s.section) ws then None else Some Syntax) ≡ Some kind → piece_read v s ws ≡ Err kind
reads_fault v s ws kind h = grind (arith, reads_bad v s ws, reads_shapeless v s ws, piece_completes v s.section ws)

pub acts : (start : Cutter) (section : Section) (s : State) (result : Result Cutter CdlKind) → s.section ≡ section →
    OnOk result (first_bad (version_of start) (words start) ≡ None) → OnOk result (completes (dues.First section) (words start) ≡ true) → IfErr result (λ kind. shape_fault_of (dues.First section) start ≡ Some kind) → ActsAsSaid start s result
acts start section s (Ok rest) here good whole fault =
    let v = version_of start in
    let ws = words start in
    reads_statement v s ws (statement_said v s.section ws) good (said_is v s.section ws good (ap (λ at. completes (dues.First at) ws) here ∙ whole))
acts start section s (Err kind) here good whole fault = reads_fault (version_of start) s (words start) kind (ap (λ at. shape_fault_of (dues.First at) start) here ∙ fault)
