-- A run over the statements that a cutter has left, one statement on.
use Rattle.cdl_parse.proofs.Prelude.{◌≡◌, ℕ, ◌<◌, false, length, sym, ap, ◌∙◌, arith, Ok, Err, after, first_line, is_done, pieces_left, text_of, version_of, words, Cutter, CdlKind, piece_read, run, State, FailsRead, ReadError, FailsAt, at_line, run_after}
use Rattle.cdl_parse.proofs.Runs.{run_first}
use Rattle.cdl_parse.proofs.StatementWords.{begins}

pub fewer : (c rest : Cutter) → is_done c ≡ false → pieces_left rest ≡ after c → length (pieces_left rest) < length (pieces_left c)
unfolding words after
fewer c rest more on = grind (arith, begins c more)

module _ (start c : Cutter) (text : text_of c ≡ text_of start) (version : version_of c ≡ version_of start) (more : is_done c ≡ false) where
  run_on : (s : State) → run (text_of start) (version_of start) s (pieces_left c) ≡ run_after (text_of start) (version_of start) (first_line (pieces_left c)) (after c) (piece_read (version_of c) s (words c))
  run_on s = grind (arith, run_first (version_of c) s c more, after c, words c)

  -- the statement makes this state, and the others are read on from there
  pub goes_on : (s t : State) (rest : Cutter) → piece_read (version_of c) s (words c) ≡ Ok t → pieces_left rest ≡ after c → run (text_of start) (version_of start) s (pieces_left c) ≡ run (text_of start) (version_of start) t (pieces_left rest)
  goes_on s t rest is on = run_on s ∙ ap (run_after (text_of start) (version_of start) (first_line (pieces_left c)) (after c)) is ∙ ap (run (text_of start) (version_of start) t) (sym on)

  -- the statement's fault is that of the run
  pub stops : (s : State) (e : ReadError) (line : ℕ) → line ≡ first_line (pieces_left c) → FailsRead e (piece_read (version_of c) s (words c)) → FailsAt (at_line line e) (run (text_of start) (version_of start) s (pieces_left c))
  stops s e line is h = grind (arith, after c, words c, run_first, after, words)

  pub fault_stops : (s : State) (kind : CdlKind) (line : ℕ) → line ≡ first_line (pieces_left c) → piece_read (version_of c) s (words c) ≡ Err kind → run (text_of start) (version_of start) s (pieces_left c) ≡ Err (record { line = line; kind = kind })
  fault_stops s kind line is h = run_on s ∙ ap (run_after (text_of start) (version_of start) (first_line (pieces_left c)) (after c)) h ∙ ap (λ n. Err (record { line = n; kind = kind })) (sym is)
