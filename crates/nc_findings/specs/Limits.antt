-- Definition. The limits of netCDF-C and of the format that rules and their messages name.
use Rattle.std.specs.Prelude.{ℕ, ◌^◌}

-- the most bytes of a name of netCDF-C (`NC_MAX_NAME`)
abbrev pub longest_name : ℕ
longest_name = 256

-- the most dimensions of a variable of netCDF-C (`NC_MAX_VAR_DIMS`)
abbrev pub highest_rank : ℕ
highest_rank = 1024

-- the numbers of four bytes whose top bit is 0 are below this
abbrev pub large_count : ℕ
large_count = 2 ^ 31
