use Rattle.nc_file.proofs.Prelude.{refl, header_by}
use Rattle.nc_file.proofs.ReadParts.{read-chain, read-done, read-then}
use Rattle.nc_file.proofs.read.header.read_whole_header.Goals as goal

pub returns : goal.returns
unfolding header_by
returns g c = read-chain c.in_ok-version.ensures refl refl refl (read-then c.in_ok-numrecs.ensures refl (read-then c.in_ok-dims.ensures refl (read-then c.in_ok-gatts.ensures refl
    (read-then (rw c.as_slice.ensures at c.in_ok-vars.ensures) refl read-done))))
