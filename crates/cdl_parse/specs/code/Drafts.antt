-- For contracts. The variables that are read, as the state has them.
use Rattle.std.specs.Prelude.{ℕ, Bool, List, [], ◌∷◌, ◌++◌, if◌then◌else◌, map, None, Result, Ok}
use Rattle.std.specs.List.{list_any}
use Rattle.std.specs.Str.{bytes_eq}
use Rattle.nc_base.specs.declared.{header.Att.Att, header.Var.Var}
use Rattle.nc_types.specs.declared.{nc_type.NcType.NcType}
use Rattle.cdl_statements.specs.declared.{fault.CdlKind.CdlKind, fault.CdlKind.TheVariants.DuplicateName}
use Rattle.cdl_statements.specs.State.{Draft, when, ◌>>=◌}
use Rattle.cdl_parse.specs.declared.variables.Variable.{Variable}

-- a variable before the data section
abbrev pub draft : List ℕ → List ℕ → NcType → List Att → Draft
draft name dimids ty atts = record { var = record { name = name; dimids = dimids; atts = atts; ty = ty; begin_at = 0 }; listed = None }

-- a variable as one of a header
abbrev pub var_of : Variable → Var
var_of v = record { name = v.name; dimids = v.dimids; atts = v.atts; ty = v.ty; begin_at = 0 }

abbrev pub draft_of : Variable → Draft
draft_of v = record { var = var_of v; listed = None }

abbrev pub drafts_of : List Variable → List Draft
drafts_of variables = map draft_of variables

abbrev pub variable_names : List Variable → List (List ℕ)
variable_names variables = map (λ (v : Variable). v.name) variables

-- one of the variables has the name
abbrev pub is_variable_name : List ℕ → List Draft → Bool
is_variable_name name drafts = list_any (λ (w : Draft). bytes_eq w.var.name name) drafts

-- the variables, with one without attributes at their end if it was added
abbrev pub with_draft : Bool → List Draft → List ℕ → List ℕ → NcType → List Draft
with_draft added drafts name dimids ty = if added then drafts ++ draft name dimids ty [] ∷ [] else drafts

-- the variables with a new one at their end
abbrev pub with_new_draft : List Draft → List ℕ → List ℕ → NcType → Result (List Draft) CdlKind
with_new_draft drafts name dimids ty = do
  _ ← when (is_variable_name name drafts) DuplicateName
  Ok (drafts ++ draft name dimids ty [] ∷ [])
