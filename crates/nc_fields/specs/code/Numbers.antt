-- For contracts. The widths of numbers.
use Rattle.std.specs.Int.{Width, w32, w64}
use Rattle.nc_fields.specs.declared.number.NumberWidth.{NumberWidth}
use Rattle.nc_fields.specs.declared.number.NumberWidth.TheVariants.{Four, Eight}

-- the width of a number, as the grammar of a header has it
abbrev pub width_of : NumberWidth → Width
width_of Four = w32
width_of Eight = w64
