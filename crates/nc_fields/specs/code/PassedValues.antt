-- For contracts. What a function does that passes over the values of an attribute.
use Rattle.std.specs.Prelude.{◌≡◌, ℕ, Bool, List, length, Result, Ok, Err, IfOk, OnOk}
use Rattle.nc_types.specs.Bytes.{Bytes}
use Rattle.nc_base.specs.Parts.{Step, bytes}
use Rattle.nc_base.specs.declared.fault.FormatFault.TheVariants.{HeaderTruncated}
use Rattle.devices.specs.declared.source.Source.{Ghosts}
use Rattle.nc_window.specs.code.Window.{Read}
use Rattle.nc_window.specs.declared.{head_fault.HeadFault.HeadFault, window.Window.Window}
use Rattle.nc_fields.specs.Entries.{ends_with_nul}
use Rattle.nc_fields.specs.code.Checks.{Reader, Checked}

-- these bytes in place of what is returned
abbrev pub in_place : {A : Type 0} → Bytes → Result A HeadFault → Result Bytes HeadFault
in_place bs (Ok x) = Ok bs
in_place bs (Err e) = Err e

-- n bytes were read, and whether the last is a NUL is returned
pub record PassesValues {S : Type 0} {g : Ghosts S} (old new : Window S g) (n : ℕ) (result : Result Bool HeadFault) : Type 0 where
  pub vals : Bytes
  pub whole : OnOk result (length vals ≡ n)
  pub reads : Read old new (bytes n HeaderTruncated) (in_place vals result)
  pub last : IfOk result (λ is_nul. is_nul ≡ ends_with_nul vals)

-- n bytes were read, and are listed as values
pub record ChecksValues {S A : Type 0} {g : Ghosts S} (old new : Reader S g) (steps : List Step) (n : ℕ) (result : Result A HeadFault) : Type 0 where
  pub vals : Bytes
  pub whole : OnOk result (length vals ≡ n)
  pub checked : Checked old new steps (bytes n HeaderTruncated) (in_place vals result)
