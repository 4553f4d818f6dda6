-- For contracts. Which variables a dump shows.
use Rattle.std.specs.Prelude.{◌≡◌, ◌&&◌, ◌||◌, ℕ, Bool, not, List, map, Option, Some, None, Vec, Result, Ok, Err}
use Rattle.std.specs.Global.{Global}
use Rattle.nc_base.specs.declared.{header.Header.Header, header.Var.Var}
use Rattle.nc_base.specs.Dump.{Options, has_dimension, has_name, first_unknown, is_selected}
use Rattle.ncdump.specs.declared.{fault.DumpFault.DumpFault, names.NameSet.NameSet}
use Rattle.ncdump.specs.declared.fault.DumpFault.TheVariants.{OutOfMemory, NoSuchVariable}
use Rattle.ncdump.specs.code.Names.{holds, holds_if}

-- a bool for each variable, or the first chosen name that no variable has
abbrev pub Selects : Header → Options → Result (Vec Bool Global) DumpFault → Type 0
Selects h o (Ok selection) = (first_unknown h.vars o.chosen ≡ None) × (selection.items ≡ map (is_selected h o) h.vars)
Selects h o (Err OutOfMemory) = Unit {0}
Selects h o (Err (NoSuchVariable index)) = first_unknown h.vars o.chosen ≡ Some index
Selects h o (Err _) = ⊥

-- the set, where there is one, has the names of the dimensions; and there is one where the values of coordinate variables alone are shown
abbrev pub HoldsDims : Header → Options → Option NameSet → Type 0
HoldsDims h o set = (name : List ℕ) → holds_if set name ≡ (not o.coords || has_dimension h.dims name)

-- both sets, where they are there, have the variable's name
abbrev pub is_in_both : Option NameSet → Option NameSet → Var → Bool
is_in_both chosen dims var = holds_if chosen var.name && holds_if dims var.name

-- these names as a set, if each of them is a variable's; otherwise the index of the first that no variable has
abbrev pub Knows : List Var → List (List ℕ) → Result NameSet DumpFault → Type 0
Knows vars names (Ok set) = (first_unknown vars (Some names) ≡ None) × ((name : List ℕ) → holds set name ≡ has_name names name)
Knows vars names (Err OutOfMemory) = Unit {0}
Knows vars names (Err (NoSuchVariable index)) = first_unknown vars (Some names) ≡ Some index
Knows vars names (Err _) = ⊥

-- the chosen names as a set, where names are chosen
abbrev pub Chooses : List Var → Option (List (List ℕ)) → Result (Option NameSet) DumpFault → Type 0
Chooses vars None (Ok None) = Unit {0}
Chooses vars None (Ok (Some set)) = ⊥
Chooses vars None (Err fault) = ⊥
Chooses vars (Some names) (Ok None) = ⊥
Chooses vars (Some names) (Ok (Some set)) = Knows vars names (Ok set)
Chooses vars (Some names) (Err fault) = Knows vars names (Err fault)
