-- Where filled arrays are whole, what is listed of them is whole values, and no more than the variables have.
use Rattle.nc_base.proofs.Prelude.{◌≡◌, ℕ, zero, suc, ◌+◌, ◌-◌, ◌*◌, ◌/◌, inl, inr, List, ◌∷◌, length, sym, ◌∙◌, ap, arith, length-append, cases_lt, Dim, Var, IsArray, AreArrays, value_count, size_of}
use Rattle.nc_base.specs.code.OwedValues.{fills, whole_array, whole_arrays, IsListed, AreListed}
use Rattle.nc_base.proofs.FilePlaces.{length-number}

pub length-fills : (var : Var) (count : ℕ) → length (fills var count) ≡ count * size_of var.ty
length-fills var zero = omega arith
length-fills var (suc count) = grind (arith, length-append, length-number, length-fills var count)

pub is-listed : (dims : List Dim) (n : ℕ) (var : Var) (listed : List ℕ) → IsArray dims n var (whole_array dims n var listed) → IsListed dims n var listed
is-listed dims n var listed is =
    let size : ℕ = size_of var.ty in
    let all : ℕ = value_count dims var n in
    let held : ℕ = length listed / size in
    let long : length listed + (all - held) * size ≡ all * size =
    ap (λ (k : ℕ). length listed + k) (sym (length-fills var (all - held))) ∙ sym (length-append listed (fills var (all - held))) ∙ is.whole in
    elim (cases_lt all held) [
      | inl past ↦
          let none : all - held ≡ 0 = omega arith in
          let nothing : (all - held) * size ≡ 0 * size = ap (λ (k : ℕ). k * size) none in
          record { count = all; within = omega arith; whole = omega (arith, long, nothing) }
      | inr within ↦
          let parts : all - held + held ≡ all = omega arith in
          let split : (all - held + held) * size ≡ (all - held) * size + held * size = omega arith in
          record { count = held; within = within; whole = omega (arith, long, split, ap (λ (k : ℕ). k * size) parts) }
    ]

-- one list for each variable
pub are-listed : (dims : List Dim) (n : ℕ) (vars : List Var) (listed : List (List ℕ)) → length listed ≡ length vars
    → AreArrays dims n vars (whole_arrays dims n vars listed) → AreListed dims n vars listed
are-listed dims n (var ∷ vars) (array ∷ arrays) same are = (is-listed dims n var array are.0, are-listed dims n vars arrays (omega arith) are.1)
are-listed dims n _ _ same are = grind arith
