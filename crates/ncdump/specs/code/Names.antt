-- For contracts. Sets of names.
use Rattle.std.specs.Prelude.{◌≡◌, ◌||◌, ℕ, Bool, true, List, Option, Some, None}
use Rattle.std.specs.BTreeSet.{contains_by}
use Rattle.std.specs.List.{list_any}
use Rattle.std.specs.Str.{bytes_eq}
use Rattle.std.specs.Cmp.Lexicographic.{slice_cmp}
use Rattle.std.specs.Ordering.{nat_cmp}
use Rattle.ncdump.specs.declared.names.NameSet.{NameSet}

-- the set has this name
abbrev pub holds : NameSet → List ℕ → Bool
holds set name = contains_by (λ k. slice_cmp nat_cmp name k.now) set.names

-- the set has this name, where there is one
abbrev pub holds_if : Option NameSet → List ℕ → Bool
holds_if None name = true
holds_if (Some set) name = holds set name

-- the set has the names of these items, and no others
abbrev pub HoldsNames : {T : Type 0} → (T → List ℕ) → List T → NameSet → Type 0
HoldsNames name_of items set = (name : List ℕ) → holds set name ≡ list_any (λ item. bytes_eq (name_of item) name) items

-- the new set has this name and those of the old one, and no others
abbrev pub HasGained : NameSet → NameSet → List ℕ → Type 0
HasGained old new name = (other : List ℕ) → holds new other ≡ (holds old other || bytes_eq name other)
