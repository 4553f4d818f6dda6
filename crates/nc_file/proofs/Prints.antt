-- How the lists of a header and their elements are written.
use Rattle.nc_file.proofs.Prelude.{◌≡◌, ℕ, Bool, false, List, [], ◌++◌, length, refl, sym, ap, ◌∙◌, Att, Dim, Var, Version, flat_map, count_width, number, count_part, list_head, dim_part, dim_after, dim_list, att_part, att_after, att_list, dimid_part, dimid_after, shape_part, counted, var_part, var_after, var_list, dimension_tag, attribute_tag, variable_tag, strict, print}
use Rattle.nc_base.proofs.PrintedLists.{each-printed, list-printed}
use Rattle.devices.proofs.Writes.{writes}

-- what stands before it leaves no trace in how a dimension is written
any-dim : (v : Version) (b : Bool) (dim : Dim) → print (dim_part strict v b) dim ≡ print (dim_part strict v false) dim
unfolding print dim_part
any-dim v b dim = refl

pub dims-print : (v : Version) (dims : List Dim) → print (dim_list strict v) dims ≡ print (list_head v dimension_tag) (length dims) ++ flat_map (print (dim_part strict v false)) dims
unfolding dim_list
dims-print v dims = list-printed v dimension_tag (dim_after strict v) (print (dim_part strict v false)) dims (λ before dim. any-dim v _ dim)

pub atts-print : (v : Version) (atts : List Att) → print (att_list strict v) atts ≡ print (list_head v attribute_tag) (length atts) ++ flat_map (print (att_part strict v)) atts
unfolding att_list
atts-print v atts = list-printed v attribute_tag (att_after strict v) (print (att_part strict v)) atts (λ before att. refl)

-- nor in how a variable is
any-var : (v : Version) (dims : List Dim) (total : ℕ) (var : Var) → print (var_part strict v dims total) var ≡ print (var_part strict v dims 0) var
unfolding print var_part
any-var v dims total var = refl

pub vars-print : (v : Version) (dims : List Dim) (vars : List Var) → print (var_list strict v dims) vars ≡ print (list_head v variable_tag) (length vars) ++ flat_map (print (var_part strict v dims 0)) vars
unfolding var_list
vars-print v dims vars = list-printed v variable_tag (var_after strict v dims) (print (var_part strict v dims 0)) vars (λ before var. any-var v dims _ var)

pub ruleset list_prints = (dims-print, atts-print, vars-print, writes)

-- the ids of a shape, whatever the dimensions
pub shape-print : (v : Version) (dims : List Dim) (ids : List ℕ) → print (shape_part v dims) ids ≡ print (count_part v) (length ids) ++ flat_map (print (number (count_width v))) ids
unfolding print shape_part counted dimid_part
shape-print v dims ids = ap (λ b. print (count_part v) (length ids) ++ b) (each-printed (dimid_after v dims) (print (number (count_width v))) ids (λ before id. refl))

pub any-shape : (v : Version) (dims : List Dim) (ids : List ℕ) → print (shape_part v dims) ids ≡ print (shape_part v []) ids
any-shape v dims ids = shape-print v dims ids ∙ sym (shape-print v [] ids)

pub ruleset var_prints = (shape-print, writes)
