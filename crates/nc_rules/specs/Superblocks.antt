-- Definition. The least length of an HDF5 file, by the superblock at its start, and what is found at the end of a shorter one. HDF5 File
-- Format Specification, section II.A: the byte 8 of a file is the version of its superblock. In the versions 0 and 1 the byte 13 is "Size
-- of Offsets", and "End of File Address" stands at 40, in version 1 four bytes later. In the versions 2 and 3 these are the byte 9 and at
-- 28.
use Rattle.std.specs.Prelude.{ℕ, nat_le, nat_lt, ◌==◌, ◌+◌, ◌-◌, ◌*◌, ◌^◌, Bool, if◌then◌else◌, length, take, drop, slice_index, Option, Some, None}
use Rattle.std.specs.Bool.{then_some}
use Rattle.std.specs.Int.{w64, from_le_bytes}
use Rattle.std.specs.Option.{option_and_then}
use Rattle.std.specs.Str.{bytes_eq}
use Rattle.nc_types.specs.Bytes.{Bytes}
use Rattle.nc_findings.specs.Contents.{hdf5_signature}
use Rattle.nc_findings.specs.declared.finding.Finding.{Finding}
use Rattle.nc_findings.specs.declared.finding.Fact.TheVariants.{Hdf5Truncated}

-- the bytes of the shortest superblocks with addresses of eight bytes, those of the versions 2 and 3
abbrev pub least_superblock : ℕ
least_superblock = 48

-- where "End of File Address" stands, if the version is one of these and addresses have eight bytes
abbrev pub end_address_at : Bytes → Option ℕ
end_address_at start =
    let version = slice_index start 8 in
    if nat_le version 1 then then_some (slice_index start 13 == 8) (40 + 4 * version)
    else if nat_le version 3 then then_some (slice_index start 9 == 8) 28
    else None

-- an address; if all of its bits are 1, it is undefined
abbrev pub defined_address : ℕ → Option ℕ
defined_address n = if n == 2 ^ 64 - 1 then None else Some n

-- the address that stands here, or, if the file ends inside of it, its own end
abbrev pub end_by : Bytes → ℕ → Option ℕ
end_by start place =
    if nat_lt (length start) (place + 8) then Some (place + 8) else defined_address (from_le_bytes w64 (take 8 (drop place start)))

-- the least length of an HDF5 file with these first 52 bytes (or of these bytes, if they are fewer), as far as its superblock tells one
abbrev pub least_length : Bytes → Option ℕ
least_length start =
    if nat_lt (length start) least_superblock then Some least_superblock else option_and_then (end_by start) (end_address_at start)

-- a file that begins so has the signature of HDF5
abbrev pub is_hdf5 : Bytes → Bool
is_hdf5 start = bytes_eq hdf5_signature (take 8 start)

-- at the end of a file of this length, if it ends before this offset
abbrev pub cut_before : ℕ → ℕ → Option Finding
cut_before file_len end = then_some (nat_lt file_len end) (record { offset = file_len; field = None; fact = Hdf5Truncated file_len end })

-- in an HDF5 file with this start and of this length
abbrev pub hdf5_truncated : Bytes → ℕ → Option Finding
hdf5_truncated start file_len = if is_hdf5 start then option_and_then (cut_before file_len) (least_length start) else None
