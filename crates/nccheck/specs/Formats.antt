-- Definition. The format of a file, as `-k` tells it.
use Rattle.std.specs.Prelude.{if◌then◌else◌, codes, take, Option, None, slice_get, option_and_then}
use Rattle.std.specs.Str.{bytes_eq}
use Rattle.nc_types.specs.Bytes.{Bytes}
use Rattle.nc_types.specs.Versions.{version_of_byte}
use Rattle.nc_types.specs.declared.version.Version.{Version}
use Rattle.nc_types.specs.declared.version.Version.TheVariants.{Cdf1, Cdf2, Cdf5}

-- by the first four bytes of a file: `CDF`, and the version
abbrev pub format_of : Bytes → Option Version
format_of bytes = if bytes_eq (codes "CDF") (take 3 bytes) then option_and_then version_of_byte (slice_get bytes 3) else None

-- the word that the option `-k` of ncgen(1) takes for it
unfoldable pub format_line : Version → Bytes
format_line Cdf1 = codes "nc3\n"
format_line Cdf2 = codes "nc6\n"
format_line Cdf5 = codes "nc5\n"
