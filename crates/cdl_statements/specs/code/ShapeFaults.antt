-- For contracts. The fault that the next statement has by its tokens and their order, and what it does without one.
use Rattle.std.specs.Prelude.{◌≡◌, if◌then◌else◌, Option, None, Some, Result, Ok, Err}
use Rattle.std.specs.Option.{option_or}
use Rattle.cdl_statements.specs.Meaning.{piece_read}
use Rattle.cdl_statements.specs.State.{State, act}
use Rattle.cdl_statements.specs.code.Contents.{statement_said}
use Rattle.cdl_statements.specs.code.Cutters.{version_of, words}
use Rattle.cdl_statements.specs.code.DueTokens.{completes}
use Rattle.cdl_statements.specs.Shapes.{first_bad}
use Rattle.cdl_statements.specs.declared.{cutter.Cutter.Cutter, due.Due.Due, fault.CdlKind.CdlKind, fault.CdlKind.TheVariants.Syntax}

-- that of its first bad token, or else Syntax, if its tokens don't complete a statement in which this one is due first
abbrev pub shape_fault_of : Due → Cutter → Option CdlKind
shape_fault_of first start = option_or (first_bad (version_of start) (words start)) (if completes first (words start) then None else Some Syntax)

-- the statement does what it says; or it has this fault, before it does anything
abbrev pub ActsAsSaid : {C : Type 0} → Cutter → State → Result C CdlKind → Type 0
ActsAsSaid start s (Ok rest) =
    piece_read (version_of start) s (words start) ≡ act (version_of start) s (statement_said (version_of start) s.section (words start))
ActsAsSaid start s (Err kind) = piece_read (version_of start) s (words start) ≡ Err kind
