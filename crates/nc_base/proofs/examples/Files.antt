-- The files of a few datasets, byte for byte: what a reader doesn't look at (padding, vsize, lists without elements) and the
-- order of blocks are said by no law.
use Rattle.nc_base.proofs.Prelude.{◌≡◌, ◌-◌, ◌^◌, [], ◌∷◌, refl, codes, replicate, Dataset, Streaming, Byte, Short, Version, Cdf1, Cdf2, Cdf5, known_records, vsize_of, data_of, file_of, print, numrecs_part, strict}
use Rattle.nc_base.proofs.examples.Written.{hex, dim, var, dataset, files_computed}

-- a variable of three shorts, whose block is padded
abbrev three_shorts : Version → Dataset
three_shorts v = dataset v 0 (dim (codes "x") 3 ∷ []) [] (var (codes "s") (0 ∷ []) [] Short ∷ []) ((0 ∷ 1 ∷ 0x80 ∷ 1 ∷ 0 ∷ 3 ∷ []) ∷ [])

one_block : file_of (three_shorts Cdf1) ≡ hex (
    "43444601 00000000"  -- magic, numrecs
    ∷ "0000000a 00000001 00000001 78000000 00000003"  -- dim_list: x = 3
    ∷ "00000000 00000000"  -- gatt_list: ABSENT
    ∷ "0000000b 00000001 00000001 73000000 00000001 00000000 00000000 00000000"  -- var_list: s, its dimid, no attributes
    ∷ "00000003 00000008 00000050"  -- short, vsize 8, begin 80
    ∷ "00018001 00038001"  -- the values, and a fill value as padding
    ∷ [])
unfolding files_computed
one_block = refl

one_block_of_version_5 : file_of (three_shorts Cdf5) ≡ hex (
    "43444605 00000000 00000000"  -- magic, numrecs
    ∷ "0000000a 00000000 00000001 00000000 00000001 78000000 00000000 00000003"  -- dim_list: x = 3
    ∷ "00000000 00000000 00000000"  -- gatt_list: ABSENT
    ∷ "0000000b 00000000 00000001 00000000 00000001 73000000"  -- var_list: s
    ∷ "00000000 00000001 00000000 00000000 00000000 00000000 00000000"  -- its dimid, no attributes
    ∷ "00000003 00000000 00000008 00000000 00000080"  -- short, vsize 8, begin 128
    ∷ "00018001 00038001"  -- the values, and a fill value as padding
    ∷ [])
unfolding files_computed
one_block_of_version_5 = refl

-- a sole record variable of bytes: its vsize is padded, its records aren't
abbrev bytes_alone : Dataset
bytes_alone = dataset Cdf1 3 (dim (codes "t") 0 ∷ []) [] (var (codes "b") (0 ∷ []) [] Byte ∷ []) ((1 ∷ 2 ∷ 3 ∷ []) ∷ [])

unpadded_records : file_of bytes_alone ≡ hex (
    "43444601 00000003"  -- magic, numrecs
    ∷ "0000000a 00000001 00000001 74000000 00000000"  -- dim_list: t, the record dimension
    ∷ "00000000 00000000"  -- gatt_list: ABSENT
    ∷ "0000000b 00000001 00000001 62000000 00000001 00000000 00000000 00000000"  -- var_list: b, its dimid, no attributes
    ∷ "00000001 00000004 00000050"  -- byte, vsize 4, begin 80
    ∷ "010203"  -- the records
    ∷ [])
unfolding files_computed
unpadded_records = refl

-- with a second record variable both are padded, and stand side by side in each record
abbrev bytes_and_shorts : Dataset
bytes_and_shorts =
    dataset Cdf1 3 (dim (codes "t") 0 ∷ []) [] (var (codes "b") (0 ∷ []) [] Byte ∷ var (codes "s") (0 ∷ []) [] Short ∷ [])
    ((1 ∷ 2 ∷ 3 ∷ []) ∷ (0 ∷ 4 ∷ 0 ∷ 5 ∷ 0 ∷ 6 ∷ []) ∷ [])

padding_returns : data_of bytes_and_shorts.header bytes_and_shorts.arrays ≡ hex (
    "01818181 00048001"
    ∷ "02818181 00058001"
    ∷ "03818181 00068001"
    ∷ [])
unfolding files_computed
padding_returns = refl

-- a slab whose padded length doesn't fit 32 bits, the longest that fits, and one of version 5
long_slabs : vsize_of Cdf1 (2 ^ 32) ∷ vsize_of Cdf2 (2 ^ 32 - 4) ∷ vsize_of Cdf5 (2 ^ 32) ∷ [] ≡ (2 ^ 32 - 1) ∷ (2 ^ 32 - 4) ∷ (2 ^ 32) ∷ []
long_slabs = refl

-- where a header leaves the number of records open: the mark of its version, and no record
streaming : print (numrecs_part strict Cdf1) Streaming ∷ print (numrecs_part strict Cdf5) Streaming ∷ [] ≡ replicate 4 0xff ∷ replicate 8 0xff ∷ []
unfolding files_computed
streaming = refl

none_said : known_records Streaming ≡ 0
none_said = refl
