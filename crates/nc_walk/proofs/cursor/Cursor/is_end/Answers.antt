use Rattle.nc_walk.proofs.Prelude.{◌≡◌, ℕ, ◌*◌, ap, arith, le_of_mul-le-mul_right, lt_of_mul-lt-mul_right, Slabs, Cursor, total, number_at, IsCursor, eqb-true, eq-eqb}
use Rattle.nc_walk.proofs.cursor.Cursor.is_end.Goals as goal

-- The cursor after the last value.
at_end : (l : Slabs) (cursor : Cursor) → IsCursor l cursor → cursor.slab ≡ l.total_slabs → number_at l cursor ≡ total l
at_end l cursor is e = omega (arith, is.reached, ap (λ (k : ℕ). k * l.values_per_slab) e)

slab_at_end : (l : Slabs) (cursor : Cursor) → IsCursor l cursor → number_at l cursor ≡ total l → cursor.slab ≡ l.total_slabs
slab_at_end l cursor is e = grind (arith, le_of_mul-le-mul_right, lt_of_mul-lt-mul_right)

pub returns : goal.returns
returns c =
    (λ t. at_end c.args.slabs c.args.self c.requires (eqb-true c.args.self.slab c.args.slabs.total_slabs t), λ e. eq-eqb c.args.self.slab c.args.slabs.total_slabs (slab_at_end c.args.slabs c.args.self c.requires e))
