-- A header weighs no more than its spelling has bytes.
use Rattle.nc_file.proofs.Prelude.{ℕ, ◌*◌, ◌≤◌, [], length, false, arith, sum_by-le-sum_by, Att, Dim, Header, Var, Version, header_spelling, att_part, dim_part, var_part, strict, printed_len}
use Rattle.nc_base.specs.code.Weight.{dim_weight, att_weight, var_weight, weight_of}
use Rattle.nc_file.proofs.HeaderLen.{count_bytes, name-len, dim-len, att-len, var-len, dims-len, atts-len, vars-len, header-len}

some-count : (v : Version) → 1 ≤ count_bytes v
some-count v = grind arith

some-each : (v : Version) (n : ℕ) → n ≤ n * count_bytes v
some-each v n = grind arith

dim-light : (v : Version) (dim : Dim) → dim_weight dim ≤ printed_len (dim_part strict v false) dim
dim-light v dim = omega (arith, some-count v, dim-len v false dim, name-len v dim.name)

att-light : (v : Version) (att : Att) → att_weight att ≤ printed_len (att_part strict v) att
att-light v att = omega (arith, att-len v att, name-len v att.name)

var-light : (v : Version) (var : Var) → var_weight var ≤ printed_len (var_part strict v [] 0) var
var-light v var =
    omega (arith, var-len v [] 0 var, name-len v var.name, atts-len v var.atts, some-each v (length var.dimids), sum_by-le-sum_by att_weight (printed_len (att_part strict v)) var.atts (att-light v))

pub weighs_no_more : (h : Header) → weight_of h ≤ length (header_spelling h)
weighs_no_more h =
    omega (
      arith,
      header-len h,
      dims-len h.version h.dims,
      atts-len h.version h.gatts,
      vars-len h.version [] h.vars,
      sum_by-le-sum_by dim_weight (printed_len (dim_part strict h.version false)) h.dims (dim-light h.version),
      sum_by-le-sum_by att_weight (printed_len (att_part strict h.version)) h.gatts (att-light h.version),
      sum_by-le-sum_by var_weight (printed_len (var_part strict h.version [] 0)) h.vars (var-light h.version),
    )
