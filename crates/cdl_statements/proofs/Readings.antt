-- A piece that is read, in steps.
use Rattle.cdl_statements.proofs.Prelude.{List, Option, None, Some, Result, Err, State, act, CdlKind, Lexeme, Statement, shape, Syntax, Version}

-- a fault of syntax comes before those of meaning
abbrev pub shaped : Version → State → Option Statement → Result State CdlKind
shaped v s o = elim o [ None ↦ Err Syntax | Some statement ↦ act v s statement ]

-- a bad token or a bad number comes before a fault of syntax
abbrev pub checked : Version → State → Option CdlKind → List Lexeme → Result State CdlKind
checked v s o piece = elim o [ None ↦ shaped v s (shape v s.section piece) | Some bad ↦ Err bad ]
