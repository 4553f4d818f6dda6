-- For contracts. The names of attributes.
use Rattle.std.specs.Prelude.{ℕ, Bool, List, [], ◌∷◌, ◌++◌, map, if◌then◌else◌, Result, Ok}
use Rattle.std.specs.List.{list_any}
use Rattle.std.specs.Str.{bytes_eq}
use Rattle.nc_base.specs.declared.{header.Att.Att}
use Rattle.nc_types.specs.declared.{nc_type.NcType.NcType}
use Rattle.cdl_statements.specs.declared.{fault.CdlKind.CdlKind, fault.CdlKind.TheVariants.DuplicateName}
use Rattle.cdl_statements.specs.State.{when, ◌>>=◌}

abbrev pub att_names : List Att → List (List ℕ)
att_names atts = map (λ (a : Att). a.name) atts

-- one of the attributes has the name
abbrev pub has_attribute : List ℕ → List Att → Bool
has_attribute name atts = list_any (λ (a : Att). bytes_eq a.name name) atts

-- the attributes, with this one at their end if it was added
abbrev pub with_added_att : Bool → List Att → Att → List Att
with_added_att added atts att = if added then atts ++ att ∷ [] else atts

-- the attributes with a new one at their end
abbrev pub with_new_att : List Att → List ℕ → NcType → List ℕ → Result (List Att) CdlKind
with_new_att atts name ty vals = do
  _ ← when (has_attribute name atts) DuplicateName
  Ok (atts ++ record { name = name; ty = ty; vals = vals } ∷ [])
