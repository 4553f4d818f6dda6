use Rattle.nc_file.proofs.Prelude.{ℕ, ◌<◌, List, [], ◌∷◌, ◌++◌, length, All, arith, Dim, AreDimids, count_limit, var_part, type_part, print}
use Rattle.nc_file.proofs.Prints.{any-shape}
use Rattle.devices.proofs.Writes.{wrote_end, wrote_then}
use Rattle.std.proofs.lemmas.List.Elements.{All-nil, All-cons}
use Rattle.nc_file.proofs.write.variable.put_var.Goals as goal

-- The ids of a shape are below what the number of dimensions is below.
small-from_AreDimids : (dims : List Dim) (limit : ℕ) → length dims < limit → (before ids : List ℕ) → AreDimids dims before ids → All (λ id. id < limit) ids
small-from_AreDimids dims limit few before [] are = All-nil (λ id. id < limit)
small-from_AreDimids dims limit few before (id ∷ ids) are =
    All-cons (λ id. id < limit) id ids (omega (arith, are.0.known)) (small-from_AreDimids dims limit few (before ++ id ∷ []) ids are.1)

pub put_shape-requires-clause-small : goal.put_shape-requires-clause-small
put_shape-requires-clause-small g c = rw c.as_slice-2.ensures (small-from_AreDimids c.args.dims.now (count_limit c.args.version) c.requires.few_dims [] c.args.var.now.dimids c.requires.sound.shape)

pub returns : goal.returns
unfolding print var_part type_part
returns g c = wrote_then _ _ _ (rw c.as_slice.ensures at c.in_ok-put_name.ensures) (wrote_then _ _ _ (rw (c.as_slice-2.ensures, ← any-shape c.args.version c.args.dims.now c.args.var.now.dimids) at c.in_ok-put_shape.ensures)
    (wrote_then _ _ _ (rw c.as_slice-3.ensures at c.in_ok-put_att_list.ensures) (wrote_then _ _ _ (rw c.code.ensures at c.in_ok-put_u32.ensures) (wrote_then _ _ _ c.in_ok-put_vsize.ensures (wrote_end _ _ _ _ c.put_offset.ensures)))))
