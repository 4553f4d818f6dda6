-- For contracts. The names of fields that were passed, with the first index of each.
use Rattle.std.specs.Borrow.{Bor}
use Rattle.std.specs.Prelude.{◌≡◌, ◌+◌, ◌*◌, ◌%◌, ◌^◌, ◌==◌, ◌&&◌, ℕ, Bool, if◌then◌else◌, false, List, fold, Option, Some, None}
use Rattle.std.specs.Map.{lookup}
use Rattle.std.specs.Option.{option_map_or}
use Rattle.nc_rules.specs.declared.{names.FirstNames.FirstNames, names.NameScope.NameScope}
use Rattle.nc_rules.specs.declared.names.NameScope.TheVariants.{Dims, GlobalAtts, Vars, VarAtts}
use Rattle.nc_rules.specs.Indexed.{Indexed}
use Rattle.nc_rules.specs.NameRules.{NameKey, is_same_key, is_index, key_of, first_index}

-- a number that goes with a list
abbrev pub list_number : NameScope → ℕ
list_number Dims = 0
list_number GlobalAtts = 1
list_number Vars = 2
list_number (VarAtts var) = var

-- the hash of a name
abbrev pub hash : NameKey → ℕ
hash key = fold (λ (sum b : ℕ). (sum * 31 + b) % 2 ^ 32) (list_number key.0 % 2 ^ 32) key.1

-- a key of the map is that of this name
abbrev pub is_key_of : NameKey → ℕ × (NameScope × Bor (List ℕ)) → Bool
is_key_of key k = (hash key == k.0) && is_same_key key (k.1.0, k.1.1.now)

-- the index that goes with this name, if it is there
abbrev pub index_of : FirstNames → NameKey → Option ℕ
index_of names key = lookup (is_key_of key) names.first.entries

-- the index, if the condition holds
abbrev pub index_if : Bool → ℕ → Option ℕ
index_if holds index = if holds then Some index else None

-- with each name goes the index of the first of these fields that is this name
abbrev pub HasFirst : FirstNames → List Indexed → Type 0
HasFirst names fields = (key : NameKey) → index_of names key ≡ first_index key fields

-- the field has the index that goes with its name
abbrev pub is_first_of : FirstNames → Indexed → Bool
is_first_of names f = option_map_or (λ key. is_index f.index (index_of names key)) (key_of f.entry) false
