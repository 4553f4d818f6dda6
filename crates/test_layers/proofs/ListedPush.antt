-- Lists of bytes that are the first values of their variables.
use Rattle.std.proofs.Common.{◌≡◌, ℕ, zero, suc, ◌+◌, ◌*◌, ◌/◌, ◌%◌, ◌<◌, ◌≤◌, List, [], ◌∷◌, length, get_or, take, sym, ◌∙◌, ap, arith, slice_get, IfSome}
use Rattle.nc_base.specs.declared.{header.Dim.Dim, header.Var.Var}
use Rattle.nc_types.specs.declared.{nc_type.NcType.NcType}
use Rattle.nc_types.specs.declared.nc_type.NcType.TheVariants.{Byte, Char, Short, Int, Ubyte, Ushort, Uint, Int64, Uint64}
use Rattle.nc_base.specs.Sizes.{value_count}
use Rattle.nc_base.specs.code.OwedValues.{IsListed, AreListed}
use Rattle.nc_types.specs.Types.{size_of}

-- one variable more
pub listed-next : (dims : List Dim) (n : ℕ) (vars : List Var) (arrays : List (List ℕ)) (v : ℕ) (d : List ℕ) → v < length vars → v < length arrays → AreListed dims n (take v vars) (take v arrays)
    → IfSome (slice_get vars v) (λ var. IsListed dims n var (get_or arrays v d)) → AreListed dims n (take (suc v) vars) (take (suc v) arrays)
listed-next dims n [] arrays v d p q are is = absurd (omega arith)
listed-next dims n (var ∷ vars) [] v d p q are is = absurd (omega arith)
listed-next dims n (var ∷ vars) (array ∷ arrays) zero d p q are is = (is, tt)
listed-next dims n (var ∷ vars) (array ∷ arrays) (suc v) d p q are is = (are.0, listed-next dims n vars arrays v d (omega arith) (omega arith) are.1 is)

whole-values : (ty : NcType) (n : ℕ) → n % size_of ty ≡ 0 → n ≡ n / size_of ty * size_of ty
whole-values Byte n none = omega arith
whole-values Char n none = omega arith
whole-values Short n none = omega (arith, none)
whole-values Int n none = omega (arith, none)
whole-values Ubyte n none = omega arith
whole-values Ushort n none = omega (arith, none)
whole-values Uint n none = omega (arith, none)
whole-values Int64 n none = omega (arith, none)
whole-values Uint64 n none = omega (arith, none)

-- whole values, and no more than the variable has
pub one-listed : (dims : List Dim) (n : ℕ) (vars : List Var) (v : ℕ) (x : Var) (listed : List ℕ) (size count : ℕ) → x ≡ get_or vars v x → size ≡ size_of x.ty
    → IfSome (slice_get vars v) (λ var. count ≡ value_count dims var n) → length listed % size ≡ 0 → length listed / size ≤ count
    → IfSome (slice_get vars v) (λ var. IsListed dims n var listed)
one-listed dims n [] v x listed size count at size_is count_is whole within = tt
one-listed dims n (var ∷ vars) zero x listed size count at size_is count_is whole within =
    let same : size ≡ size_of var.ty = size_is ∙ ap (λ (y : Var). size_of y.ty) at in
    record {
      count = length listed / size_of var.ty;
      within = omega (arith, within, count_is, ap (λ (k : ℕ). length listed / k) same);
      whole = whole-values var.ty (length listed) (sym (ap (λ (k : ℕ). length listed % k) same) ∙ whole);
    }
one-listed dims n (var ∷ vars) (suc v) x listed size count at size_is count_is whole within = one-listed dims n vars v x listed size count at size_is count_is whole within
