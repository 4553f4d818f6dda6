-- For contracts. The begins of variables, one after the other.
use Rattle.std.specs.Prelude.{ℕ, ◌+◌, Bool, if◌then◌else◌, List, [], ◌∷◌, nat_lt}
use Rattle.nc_base.specs.declared.{header.Dim.Dim, header.Var.Var}
use Rattle.nc_base.specs.Sizes.{is_record_var, padded_size}
use Rattle.nc_file.specs.declared.{write.begins.OffsetTooLarge.OffsetTooLarge, write.begins.NextBegins.NextBegins}

-- where this variable begins, if it is the next one
abbrev pub offset_of : List Dim → NextBegins → Var → ℕ
offset_of dims next var = if is_record_var dims var then next.record_begin else next.fixed_begin

-- where those after it begin
abbrev pub after : List Dim → NextBegins → Var → NextBegins
after dims next var =
    if is_record_var dims var then record next { record_begin = next.record_begin + padded_size dims var } else record next { fixed_begin = next.fixed_begin + padded_size dims var }

-- these variables, each with its begin
abbrev pub placed : List Dim → NextBegins → List Var → List Var
placed dims next [] = []
placed dims next (var ∷ vars) = record var { begin_at = offset_of dims next var } ∷ placed dims (after dims next var) vars

-- the begin is below the limit
abbrev pub is_below : ℕ → Var → Bool
is_below limit var = nat_lt var.begin_at limit

-- the error, which says nothing more
abbrev pub offset_too_large : OffsetTooLarge
offset_too_large = record {}
