-- For contracts. What a variable takes, beside what its values are checked against.
use Rattle.std.specs.Prelude.{ℕ, ◌≡◌, ◌<◌, ◌-◌, ◌^◌, ℤ, pos, min, true, false, List, length, map, take, Result, Ok, Err}
use Rattle.std.specs.List.{flat_map}
use Rattle.nc_base.specs.declared.{header.Dim.Dim, header.Var.Var}
use Rattle.nc_types.specs.declared.{nc_type.NcType.NcType, nc_type.NcType.TheVariants.Char}
use Rattle.nc_base.specs.Numbers.{bytes_of_number}
use Rattle.nc_base.specs.Sizes.{dim_len, is_record_var, product, slab_count}
use Rattle.cdl_statements.specs.declared.fault.CdlKind.{CdlKind}
use Rattle.cdl_statements.specs.State as states
use Rattle.cdl_statements.specs.State.{Takes, takes_of}
use Rattle.cdl_values.specs.declared.{capacity.Capacity.Capacity, form.ValueForm.ValueForm}
use Rattle.cdl_values.specs.declared.capacity.Capacity.TheVariants.{AtMost, Unlimited}
use Rattle.cdl_values.specs.declared.form.ValueForm.TheVariants.{Numbers, Joined, Rows}

-- the form is this one of the definition (`Takes`); a row has a byte at least
abbrev pub Fills : ValueForm → Takes → Type 0
Fills (Numbers fill) takes = takes ≡ states.Numbers fill.ty fill.value
Fills Joined takes = takes ≡ states.Joined
Fills (Rows len fill) takes = (takes ≡ states.Rows len (pos fill)) × (0 < len) × (fill < 256)

-- the type of what it takes
abbrev pub taken_type : ValueForm → NcType
taken_type (Numbers fill) = fill.ty
taken_type form = Char

-- the greatest capacity
abbrev pub most : ℕ
most = 2 ^ 64 - 1

-- The capacity that stands for m positions. No statement has as many values as the greatest one, so it stands for all from there on.
abbrev pub capacity_for : ValueForm → ℕ → ℕ
capacity_for (Numbers fill) m = min m most
capacity_for Joined m = m
capacity_for (Rows len fill) m = min m most

-- how many positions a variable has: rows, or values
abbrev pub positions_in : ValueForm → List Dim → Var → ℕ
positions_in (Rows len fill) dims var = product (map (dim_len dims) (take (length var.dimids - 1) var.dimids))
positions_in form dims var = slab_count dims var

-- the variable has this capacity in this form
abbrev pub HasCapacity : ValueForm → Capacity → List Dim → Var → Type 0
HasCapacity form Unlimited dims var = is_record_var dims var ≡ true
HasCapacity form (AtMost n) dims var = (is_record_var dims var ≡ false) × (n ≡ capacity_for form (positions_in form dims var))

-- the variable has this capacity, if this is the form in which it takes values
abbrev pub HasCapacityAsFilled : List Dim → Var → ValueForm → Capacity → Type 0
HasCapacityAsFilled dims var form capacity = Fills form (takes_of dims var) → HasCapacity form capacity dims var

-- the bytes of what is listed
abbrev pub as_bytes : NcType → Result (List ℤ) CdlKind → Result (List ℕ) CdlKind
as_bytes ty (Ok values) = Ok (flat_map (bytes_of_number ty) values)
as_bytes ty (Err e) = Err e
