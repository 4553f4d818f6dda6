use Rattle.nc_base.proofs.Prelude.{nat_tests, arith}
use Rattle.nc_base.proofs.SizeLaws.{checked-is}
use Rattle.nc_base.proofs.sizes.rec_size.Goals as goal

pub returns-then-size-le-RECORD_LIMIT : goal.returns-then-size-le-RECORD_LIMIT
returns-then-size-le-RECORD_LIMIT c =
    grind (arith, nat_tests, checked-is c.args.header.now c.is_sole_narrow.result c.capped_record_bytes-size.result)

pub returns-else-size-le-RECORD_LIMIT : goal.returns-else-size-le-RECORD_LIMIT
returns-else-size-le-RECORD_LIMIT c =
    grind (arith, nat_tests, checked-is c.args.header.now c.is_sole_narrow.result c.capped_record_bytes-size.result)
