-- The padded slabs of the record variables before a variable, and with it.
use Rattle.nc_window.proofs.Prelude.{◌≡◌, ℕ, ◌+◌, true, false, cond, List, [], ◌∷◌, ◌++◌, refl, ap, ◌∙◌, arith, Dim, Var, is_record_var, padded_size, padded_total, record_vars, total-append, record_bytes, Some, NcType, total_with, is_within_limits}

-- the padded slabs of the record variables among these
abbrev pub total_of : List Dim → List Var → ℕ
total_of dims vars = padded_total dims (record_vars dims vars)

record_vars-one : (dims : List Dim) (var : Var) → total_of dims (var ∷ []) ≡ record_bytes dims var.dimids var.ty
record_vars-one dims var =
    elim (is_record_var dims var) as (λ b. padded_total dims (cond b (var ∷ []) []) ≡ cond b (padded_size dims var) 0) [ true ↦ omega arith | false ↦ refl ]

pub total_of-append : (dims : List Dim) (before : List Var) (var : Var) → total_of dims (before ++ var ∷ []) ≡ total_of dims before + record_bytes dims var.dimids var.ty
total_of-append dims before var = total-append dims before (var ∷ []) ∙ ap (λ (n : ℕ). total_of dims before + n) (record_vars-one dims var)

-- a variable with a total keeps the limits
pub within : (dims : List Dim) (ids : List ℕ) (ty : NcType) (total sum : ℕ) → Some sum ≡ total_with dims ids ty total → is_within_limits dims total ids ty ≡ true
unfolding total_with
within dims ids ty total sum e = grind arith
