use Rattle.std.proofs.Common.{ℤ, length, ap, arith, to_z-of_z}
use Rattle.std.specs.Fmt.{signed_decimal}
use Rattle.std.specs.Int.{w128}
use Rattle.cdl_print.proofs.ByteNumbers.{length_is, short_is}
use Rattle.cdl_print.proofs.byte_number.byte_number_len.Goals as goal

pub overflow_sub-result : goal.overflow_sub-result
overflow_sub-result c = omega (arith, length_is c.index_of.result c.index_of.ensures.within)

pub returns-clause-len : goal.returns-clause-len
returns-clause-len c = omega (arith, length_is c.index_of.result c.index_of.ensures.within, ap (λ (n : ℤ). length (signed_decimal n)) (to_z-of_z {w = w128} c.ranges.n), ap (λ (n : ℤ). length (signed_decimal n)) c.index_of.ensures.index)

pub returns-clause-short : goal.returns-clause-short
returns-clause-short c = omega (arith, length_is c.index_of.result c.index_of.ensures.within, short_is c.index_of.result c.index_of.ensures.within)
