-- Definition. The rules of a header whose attributes' values aren't kept: what `Grammar.strict` refuses, and reading goes on all the same.
use Rattle.std.specs.Prelude.{ℕ, ◌==◌, ◌^◌, ◌&&◌, not, Bool, nat_lt, nat_le, if◌then◌else◌, [], length, take, drop, take_while, Result, Ok}
use Rattle.std.specs.List.{list_all}
use Rattle.nc_base.specs.declared.{fault.FormatFault.FormatFault}
use Rattle.nc_types.specs.declared.{nc_type.NcType.NcType, version.Version.Version}
use Rattle.nc_types.specs.declared.nc_type.NcType.TheVariants.{Int, Int64}
use Rattle.nc_types.specs.declared.version.Version.TheVariants.{Cdf5}
use Rattle.nc_types.specs.Bytes.{Bytes}
use Rattle.nc_types.specs.Versions.{count_limit}
use Rattle.nc_base.specs.Grammar.{Rules, type_in}

-- a byte that may stand in a name in any coding: no control character of ASCII
abbrev pub is_no_control : ℕ → Bool
is_no_control b = nat_le 32 b && not (b == 127)

-- how many bytes come before the first NUL
abbrev pub len_before_nul : Bytes → ℕ
len_before_nul name = length (take_while (λ b. not (b == 0)) name)

-- Bytes that show that the fields are still in step, whether they are a valid name or not: some that are no control characters, and after
-- them nothing but NULs. (If netCDF-C gives something a shorter name, it leaves NULs there; old files have names in Latin-1.)
abbrev pub may_be_name : Bytes → Bool
may_be_name name =
    let len = len_before_nul name in nat_lt 0 len && list_all is_no_control (take len name) && list_all (λ b. b == 0) (drop len name)

-- NC_FLOAT = \x00 \x00 \x00 \x05, NC_DOUBLE = \x00 \x00 \x00 \x06: only the size of their values matters, 4 and 8 bytes, so an integer type
-- of this size stands for them
abbrev pub sized_type_in : Version → ℕ → Result NcType FormatFault
sized_type_in v code = if code == 5 then Ok Int else (if code == 6 then Ok Int64 else type_in v code)

-- a dimension's length and the number of records may be any number of four bytes, also one whose top bit is 1 (netCDF-C writes and reads them)
abbrev pub any_length_limit : Version → ℕ
any_length_limit Cdf5 = count_limit Cdf5
any_length_limit v = 2 ^ 32

abbrev pub lenient : Rules
lenient = record { is_valid = may_be_name; type_in = sized_type_in; length_limit = any_length_limit; kept = λ vals. [] }
