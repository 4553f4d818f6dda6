use Rattle.nccheck.proofs.Prelude.{fun_ext, take_more, Bytes, Asked, Path, Openings, State, Counts, Takes, Tally, ℕ, ◌≡◌, ◌∙◌, ◌+◌, ◌<◌, [], ◌∷◌, length, Some, None, Option, refl, sym, get_or, take, drop, take-append-drop, arith}
use Rattle.nccheck.proofs.Listing.{takes_path, takes_stop, takes_then}
use Rattle.nccheck.proofs.counting.check_paths_in.Goals as goal

module _ {P : Type 0} {o : Openings P} {a : Asked} (bytes : Bytes) (i : ℕ)
    {begun path held : Bytes} {old now new : State P} {first tally : Tally} where
  -- the path that ends at this byte was checked too
  next : {last : Bytes} {after : Option Tally} → i < length bytes → get_or bytes i 0 ≡ 0 → held ≡ path → last ≡ []
      → Takes o a (take i bytes) begun path old now first (Some tally) → Counts o a (Path held ∷ []) now new tally after
      → Takes o a (take (i + 1) bytes) begun last old new first after
  next lt is same none one two = rw (take_more bytes i 0 lt, is, none) (takes_then one (takes_path (rw same at two)))

  -- and has ended the run
  stop : {last : Bytes} → i < length bytes → get_or bytes i 0 ≡ 0 → held ≡ path
      → Takes o a (take i bytes) begun path old now first (Some tally) → Counts o a (Path held ∷ []) now new tally None
      → Takes o a bytes begun last old new first None
  stop {last} lt is same one two =
      rw (sym (take-append-drop (i + 1) bytes)) (takes_stop (drop (i + 1) bytes) last (next {last = []} lt is same refl one two))

pub returns-in_err-list-clause-takes : goal.returns-in_err-list-clause-takes
returns-in_err-list-clause-takes g c =
    let step = rw (fun_ext c.loop-b.invariant.names) at c.in_err-list.ensures.counts in
    rw c.from_residual.ensures
    (stop c.args.bytes.now c.loop-b.b-index c.loop-b-test.true c.if-b-ne0.false c.as_slice-path.ensures.value c.loop-b.invariant.takes step)

pub loop-b-preserved : goal.loop-b-preserved
loop-b-preserved g c =
    let step = rw (fun_ext c.loop-b.invariant.names) at c.in_ok-list.ensures.counts in
    record {
      names = λ p. c.check_and_count.ensures.names p ∙ c.loop-b.invariant.names p;
      takes = next c.args.bytes.now c.loop-b.b-index c.loop-b-test.true c.if-b-ne0.false c.as_slice-path.ensures.value c.clear.ensures
          c.loop-b.invariant.takes step;
      few = omega (arith, c.in_ok-list.ensures.few, c.loop-b.invariant.few);
    }
