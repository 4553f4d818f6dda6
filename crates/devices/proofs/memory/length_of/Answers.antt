use Rattle.std.proofs.Common.{arith}
use Rattle.devices.proofs.memory.length_of.Goals as goal

pub returns-clause-bytes : goal.returns-clause-bytes
returns-clause-bytes c = λ i. omega (arith, c.type_inv.bytes i)
