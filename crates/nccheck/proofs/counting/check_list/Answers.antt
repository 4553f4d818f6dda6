use Rattle.nccheck.proofs.Prelude.{fun_ext, length-take-le, ◌∙◌, ◌≤◌, length, refl, arith}
use Rattle.nccheck.proofs.Listing.{read_failed, read_more, read_none, read_stop, read_too_much, read_whole}
use Rattle.nccheck.proofs.counting.check_list.Goals as goal

pub loop-turn-init : goal.loop-turn-init
loop-turn-init g c = record { names = λ p. refl; read = rw c.new.ensures (read_none _ _ c.args.tally); few = omega arith }

pub returns-in-Ok-eq0-clause-counts : goal.returns-in-Ok-eq0-clause-counts
returns-in-Ok-eq0-clause-counts g c =
    read_whole c.loop-turn.invariant.read c.in-Ok-eq0.ensures.read c.in-Ok-eq0.field-0-test (omega arith)
    (rw (fun_ext c.loop-turn.invariant.names) at c.check_last.ensures.counts)

pub returns-in_err-check_paths_in-in-Ok-clause-counts : goal.returns-in_err-check_paths_in-in-Ok-clause-counts
returns-in_err-check_paths_in-in-Ok-clause-counts g c =
    let takes = rw (fun_ext c.loop-turn.invariant.names) at c.in_err-check_paths_in-in-Ok.ensures.takes in
    rw c.from_residual.ensures (read_stop c.loop-turn.invariant.read c.in-Ok.ensures.read takes)

pub loop-turn-preserved : goal.loop-turn-preserved
loop-turn-preserved g c =
    let within : c.in-Ok.n ≤ length c.read_some.new.into = omega (arith, c.in-Ok.ensures.read.within, c.read_some.auto.into) in
    record {
      names = λ p. c.check_paths_in.ensures.names p ∙ c.loop-turn.invariant.names p;
      read = read_more c.loop-turn.invariant.read c.in-Ok.ensures.read (omega (arith, c.in-Ok.n-test.1)) c.read_some.auto.into
          (rw (fun_ext c.loop-turn.invariant.names) at c.in_ok-check_paths_in-in-Ok.ensures.takes);
      few = omega (
        arith,
        c.in_ok-check_paths_in-in-Ok.ensures.few,
        c.loop-turn.invariant.few,
        length-take-le c.in-Ok.n c.read_some.new.into within,
      );
    }

pub returns-in-Err-clause-counts : goal.returns-in-Err-clause-counts
returns-in-Err-clause-counts g c =
    rw c.tell_unread.ensures.tally
    (read_failed c.loop-turn.invariant.read c.in-Err.ensures.read
    (record { opener = refl; out = refl; is = refl; tells = c.tell_unread.ensures.tells }))

pub returns-clause-counts : goal.returns-clause-counts
returns-clause-counts g c =
    rw c.tell_unread-2.ensures.tally
    (read_too_much c.loop-turn.invariant.read (omega (arith, c.loop-turn-test.false))
    (record { opener = refl; out = refl; is = refl; tells = c.tell_unread-2.ensures.tells }))
