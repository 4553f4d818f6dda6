-- For contracts. The lists of a header.
use Rattle.std.specs.Prelude.{List, [], ◌∷◌}
use Rattle.nc_base.specs.Parts.{Step, Dims, Gatts, Vars, Item, Atts}
use Rattle.nc_fields.specs.declared.list_name.HeaderList.{HeaderList}
use Rattle.nc_fields.specs.declared.list_name.HeaderList.TheVariants as name

-- the steps to a list, the last one first
abbrev pub list_steps : HeaderList → List Step
list_steps name.Dims = Dims ∷ []
list_steps name.GlobalAtts = Gatts ∷ []
list_steps name.Vars = Vars ∷ []
list_steps (name.Atts i) = Atts ∷ Item i ∷ Vars ∷ []
