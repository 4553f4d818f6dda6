-- For contracts. The weight of a header: how much there is to read, to keep and to write of it.
use Rattle.std.specs.Prelude.{ℕ, ◌+◌, length}
use Rattle.std.specs.List.{sum_by}
use Rattle.nc_base.specs.declared.{header.Att.Att, header.Dim.Dim, header.Var.Var, header.Header.Header}

-- one, and one for each byte of the name
abbrev pub dim_weight : Dim → ℕ
dim_weight dim = length dim.name + 1

-- one, and one for each byte of the name and of the values
abbrev pub att_weight : Att → ℕ
att_weight att = length att.name + length att.vals + 1

-- one, and one for each byte of the name and each dimension id, and the weights of the attributes
abbrev pub var_weight : Var → ℕ
var_weight var = length var.name + length var.dimids + sum_by att_weight var.atts + 1

-- the weights of all dimensions, attributes and variables
abbrev pub weight_of : Header → ℕ
weight_of h = sum_by dim_weight h.dims + sum_by att_weight h.gatts + sum_by var_weight h.vars
