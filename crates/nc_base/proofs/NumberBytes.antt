-- Numbers and their big-endian bytes are two ways to write one thing.
use Rattle.nc_base.proofs.Prelude.{◌≡◌, ℕ, ◌<◌, ◌^◌, List, [], ◌∷◌, length, ap, arith, ◌∙◌, be_bytes_2, be_bytes_4, be_bytes_8, Width, w8, w16, w32, w64, to_be_bytes, from_be_bytes, cast_signed, cast_unsigned, AreBytes}
use Rattle.std.proofs.lemmas.Int.{of_z-to_z}
use mir.Val.{bits}
use Rattle.nc_base.specs.NumberLaws.{NumbersReadBack, BytesReadBack, NumbersAreInRange}

-- ---- the bytes of a number without a sign

-- a number of this width is read back from its bytes
abbrev ReadsBack : Width → Type 0
ReadsBack w = (n : ℕ) → n < 2 ^ bits w → from_be_bytes w (to_be_bytes w n) ≡ n

-- as many bytes as the width's are the bytes of their number
be_bytes_1 : (bytes : List ℕ) → AreBytes bytes → length bytes ≡ 1 → to_be_bytes w8 (from_be_bytes w8 bytes) ≡ bytes
be_bytes_1 (b ∷ []) small len = let below : b < 256 = small 0 in ap (λ n. n ∷ []) (omega arith)
be_bytes_1 _ small len = absurd (omega arith)

-- bytes are a number of their width
fits_1 : (bytes : List ℕ) → AreBytes bytes → from_be_bytes w8 bytes < 2 ^ 8
fits_1 bytes small = omega (arith, small 0)

fits_2 : (bytes : List ℕ) → AreBytes bytes → from_be_bytes w16 bytes < 2 ^ 16
fits_2 bytes small = omega (arith, small 0, small 1)

fits_4 : (bytes : List ℕ) → AreBytes bytes → from_be_bytes w32 bytes < 2 ^ 32
fits_4 bytes small = omega (arith, small 0, small 1, small 2, small 3)

fits_8 : (bytes : List ℕ) → AreBytes bytes → from_be_bytes w64 bytes < 2 ^ 64
fits_8 bytes small = omega (arith, small 0, small 1, small 2, small 3, small 4, small 5, small 6, small 7)

-- ---- with and without a sign

-- the bytes of the number, with a sign and without one
bytes_back_signed : (w : Width) (bytes : List ℕ) → from_be_bytes w bytes < 2 ^ bits w → to_be_bytes w (from_be_bytes w bytes) ≡ bytes
    → to_be_bytes w (cast_unsigned w (cast_signed w (from_be_bytes w bytes))) ≡ bytes
bytes_back_signed w bytes fits back = ap (to_be_bytes w) (of_z-to_z w (from_be_bytes w bytes) fits) ∙ back

-- ---- the laws

pub numbers_read_back : NumbersReadBack
numbers_read_back ty number fits = grind arith

pub bytes_read_back : BytesReadBack
bytes_read_back ty bytes small len =
    grind (arith, bytes_back_signed, w8, fits_1, be_bytes_1, w16, fits_2, be_bytes_2, w32, fits_4, be_bytes_4, w64, fits_8, be_bytes_8)

pub numbers_in_range : NumbersAreInRange
numbers_in_range ty bytes small len = grind arith
