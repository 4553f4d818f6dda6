-- For contracts. What the data section lists of the variables, as bytes.
use Rattle.std.specs.Prelude.{ℕ, ◌≡◌, List, [], ◌∷◌, map, None, ⊤, All}
use Rattle.std.specs.List.{flat_map}
use Rattle.nc_base.specs.Headers.{AreDimids}
use Rattle.nc_base.specs.Numbers.{bytes_of_number}
use Rattle.nc_base.specs.declared.{header.Dim.Dim, header.Var.Var}
use Rattle.cdl_statements.specs.Meaning.{listed_values}
use Rattle.cdl_statements.specs.State.{Draft}

-- a variable before the data section
abbrev pub unlisted_draft : Var → Draft
unlisted_draft var = record { var = var; listed = None }

abbrev pub unlisted_drafts : List Var → List Draft
unlisted_drafts vars = map unlisted_draft vars

-- each variable's dimensions are known ones, and the record dimension stands first
abbrev pub AreShaped : List Dim → List Draft → Type 0
AreShaped dims drafts = All (λ (d : Draft). AreDimids dims [] d.var.dimids) drafts

-- of this variable these bytes are listed
pub record Lists (var : Var) (array : List ℕ) (d : Draft) : Type 0 where
  pub is : d.var ≡ var
  pub bytes : array ≡ flat_map (bytes_of_number var.ty) (listed_values d)

-- of each variable the bytes at the same position of the list are listed
abbrev pub AllList : List Var → List (List ℕ) → List Draft → Type 0
AllList [] [] [] = ⊤
AllList (var ∷ vars) (array ∷ arrays) (d ∷ drafts) = Lists var array d × AllList vars arrays drafts
AllList _ _ _ = ⊥
