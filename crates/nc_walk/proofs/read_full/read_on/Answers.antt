use Rattle.nc_walk.proofs.Prelude.{◌≡◌, ℕ, ◌+◌, ◌-◌, ◌≤◌, List, length, take, drop, arith, length-drop, length-take, refl}
use Rattle.nc_walk.proofs.FullReadSteps.{more}
use Rattle.nc_walk.proofs.read_full.read_on.Goals as goal

len : (got : ℕ) (xs ys : List ℕ) → got ≤ length xs → length ys ≡ length (take (length xs - got) (drop got xs)) → length ys + got ≡ length xs
len got xs ys le e = omega (arith, e, length-take (length xs - got) (drop got xs), length-drop got xs)

pub loop-got-preserved : goal.loop-got-preserved
loop-got-preserved g c = more g.S.Source.is_transparent _ _ _ _ _ _ _ _ _ (len c.loop-got.got c.loop-got.into c.read_at.new.into (omega arith) c.read_at.auto.into) refl c.loop-got.invariant c.in-Ok.ensures
