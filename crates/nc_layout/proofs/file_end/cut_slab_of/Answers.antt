use Rattle.nc_layout.proofs.Prelude.{nat_tests, arith}
use Rattle.nc_layout.proofs.CutSlabs.{first_cut_is}
use Rattle.nc_layout.proofs.file_end.cut_slab_of.Goals as goal

pub returns-then-whole-records : goal.returns-then-whole-records
returns-then-whole-records c =
    let a = c.args in
    grind (arith, nat_tests, first_cut_is a.file_len a.records.size a.i a.slot c.whole_slabs-whole.result a.records.count 0)

pub returns-else-whole-records : goal.returns-else-whole-records
returns-else-whole-records c =
    let a = c.args in
    grind (arith, nat_tests, first_cut_is a.file_len a.records.size a.i a.slot c.whole_slabs-whole.result a.records.count 0)
