-- Where the first wrong field of a few headers lies: no law says which steps are the right ones.
use Rattle.nc_base.proofs.Prelude.{◌≡◌, [], ◌∷◌, ◌++◌, List, map, refl, codes, Step, Magic, VersionByte, Records, Dims, Gatts, Vars, Tag, Count, Item, Name, Length, Text, Padding, TypeCode, Values, Shape, Atts, Vsize, Begin, header_part, Bytes, run, place, ⊤, is_utf8, chars}
use lib.Utf8.{encode}
use Rattle.nc_base.proofs.examples.Written.{hex, files_computed}

unfoldable places_computed : ⊤
unfolding files_computed run place is_utf8 chars encode
places_computed = tt

-- A wrong field after good ones, one in each row: these steps lead to it, and it begins after the good ones.
abbrev Lie : List (List Step × Bytes × Bytes) → Type 0
Lie rows =
    map (λ (row : List Step × Bytes × Bytes). place header_part (row.1 ++ row.2)) rows
    ≡ map (λ (row : List Step × Bytes × Bytes). (row.0, row.2)) rows

-- CDF-1 without records, and the dimension x of length 3
abbrev dims_of_one : Bytes
dims_of_one = hex ("43444601 00000000 0000000a 00000001 00000001 78000000 00000003" ∷ [])

-- an attribute list without elements, and the variable `a` of shape (x), up to its type
abbrev up_to_type : Bytes
up_to_type = dims_of_one ++ hex ("00000000 00000000 0000000b 00000001 00000001 61000000 00000001 00000000 00000000 00000000 00000003" ∷ [])

places : Lie (
    (Magic ∷ [], [], codes "CDG")  -- other letters
    ∷ (VersionByte ∷ [], codes "CDF", 3 ∷ [])  -- another version
    ∷ (Records ∷ [], hex ("43444601" ∷ []), hex ("80000000" ∷ []))  -- a negative number of records
    ∷ (Dims ∷ Tag ∷ [], hex ("43444601 00000000" ∷ []), hex ("0000000b" ∷ []))  -- another tag
    ∷ (Dims ∷ Count ∷ [], hex ("43444601 00000000 00000000" ∷ []), hex ("00000001" ∷ []))  -- elements without a tag
    ∷ (Dims ∷ Item 0 ∷ Name ∷ Text ∷ [], hex ("43444601 00000000 0000000a 00000001 00000001" ∷ []), codes "/")  -- a slash in a name
    ∷ (Dims ∷ Item 0 ∷ Name ∷ Length ∷ [], hex ("43444601 00000000 0000000a 00000001" ∷ []), hex ("0000" ∷ []))  -- the length of a name is cut
    ∷ (Dims ∷ Item 0 ∷ Name ∷ Padding ∷ [], hex ("43444601 00000000 0000000a 00000001 00000001 78" ∷ []), 0 ∷ 0 ∷ [])  -- the padding of a name is cut
    ∷ (Dims ∷ Item 1 ∷ Length ∷ [], hex ("43444601 00000000 0000000a 00000002 00000001 78000000 00000000 00000001 79000000" ∷ []), hex ("00000000" ∷ []))  -- a second record dimension
    ∷ (Gatts ∷ Item 0 ∷ TypeCode ∷ [], dims_of_one ++ hex ("0000000c 00000001 00000001 61000000" ∷ []), hex ("00000005" ∷ []))  -- no type of an attribute
    ∷ (Gatts ∷ Item 0 ∷ Count ∷ [], dims_of_one ++ hex ("0000000c 00000001 00000001 61000000 00000001" ∷ []), hex ("ffffffff" ∷ []))  -- too great a number of values
    ∷ (Gatts ∷ Item 0 ∷ Values ∷ [], dims_of_one ++ hex ("0000000c 00000001 00000001 61000000 00000001 00000002" ∷ []), 1 ∷ [])  -- values are cut
    ∷ (Gatts ∷ Item 0 ∷ Padding ∷ [], dims_of_one ++ hex ("0000000c 00000001 00000001 61000000 00000001 00000002 0102" ∷ []), 0 ∷ [])  -- the padding of values is cut
    ∷ (Vars ∷ Item 0 ∷ Shape ∷ Count ∷ [], dims_of_one ++ hex ("00000000 00000000 0000000b 00000001 00000001 61000000" ∷ []), hex ("80000000" ∷ []))  -- a negative rank
    ∷ (Vars ∷ Item 0 ∷ Shape ∷ Item 1 ∷ [], dims_of_one ++ hex ("00000000 00000000 0000000b 00000001 00000001 61000000 00000002 00000000" ∷ []), hex ("00000001" ∷ []))  -- an unknown dimension
    ∷ (Vars ∷ Item 0 ∷ Atts ∷ Tag ∷ [], dims_of_one ++ hex ("00000000 00000000 0000000b 00000001 00000001 61000000 00000000" ∷ []), hex ("0000000a" ∷ []))  -- the tag of a list of dimensions in the place of attributes
    ∷ (Vars ∷ Item 0 ∷ Vsize ∷ [], up_to_type, hex ("000000" ∷ []))  -- a vsize is cut
    ∷ (Vars ∷ Item 0 ∷ Begin ∷ [], up_to_type ++ hex ("00000008" ∷ []), hex ("80000000" ∷ []))  -- a negative begin
    ∷ [])
unfolding places_computed
places = refl
