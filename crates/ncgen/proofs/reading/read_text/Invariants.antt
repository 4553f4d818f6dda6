use Rattle.std.proofs.Common.{◌+◌, ◌-◌, vec_len}
use Rattle.devices.specs.Readers.{view_of}
use Rattle.ncgen.proofs.TextParts.{HasRead}
use Rattle.ncgen.proofs.reading.read_text.Given as goal

abbrev pub invariant-loop-buf : goal.invariant-loop-buf
invariant-loop-buf g l = HasRead l.max (view_of g.R.Read.remaining l.fn.input) (view_of g.R.Read.remaining l.input) l.text.items

abbrev pub decreases-loop-buf : goal.decreases-loop-buf
decreases-loop-buf g l = l.max + 1 - vec_len l.text
