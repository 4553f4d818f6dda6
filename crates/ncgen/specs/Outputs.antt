-- Definition. What writing a file to an output has done.
use Rattle.std.specs.Prelude.{◌≡◌, ◌+◌, ◌⊎◌, Bool, List, [], Option, Some, None}
use Rattle.std.specs.Bool.{OnTrue}
use Rattle.nc_types.specs.Bytes.{Bytes}
use Rattle.devices.specs.Failures.{HasFailed}
use Rattle.devices.specs.Creators.{CreatorView, Output, Unmade, give}
use Rattle.devices.specs.Sinks.{IsPrefix}
use Rattle.ncgen.specs.declared.failure.OutputFault.{OutputFault}
use Rattle.ncgen.specs.declared.failure.OutputFault.TheVariants.{CannotOpen, WriteFailed}

-- what creates outputs
pub record Outputs : Type 0 where
  pub is_transparent : Bool
  pub before : CreatorView
  pub after : CreatorView

-- Creating an output gives the path no bytes; closing it then gives the path all that was written, at once.
abbrev pub created_at : CreatorView → Bytes → List Output
created_at old path = give old.given path (Some [])

-- the path was given these bytes, and no other path any
pub record IsWrittenAt (o : Outputs) (path bytes : Bytes) : Type 0 where
  pub creations : o.after.creations ≡ o.before.creations + 1
  pub failures : o.after.failures ≡ o.before.failures
  pub given : OnTrue o.is_transparent (o.after.given ≡ give (created_at o.before path) path (Some bytes))

pub record IsGivenPrefix (o : Outputs) (path bytes : Bytes) : Type 0 where
  pub prefix : Bytes
  pub is_prefix : IsPrefix prefix bytes
  pub given : o.after.given ≡ give (created_at o.before path) path (Some prefix)

-- An output was created, and has failed: closing it failed, and gave nothing; or writing failed, and closing gave a prefix.
pub record IsCutShortAt (o : Outputs) (path bytes : Bytes) : Type 0 where
  pub creations : o.after.creations ≡ o.before.creations + 1
  pub failures : HasFailed o.before.failures o.after.failures
  pub given : OnTrue o.is_transparent ((o.after.given ≡ created_at o.before path) ⊎ IsGivenPrefix o path bytes)

abbrev pub OutputFails : Outputs → Bytes → Bytes → OutputFault → Type 0
OutputFails o path bytes CannotOpen = Unmade o.before o.after
OutputFails o path bytes WriteFailed = IsCutShortAt o path bytes

abbrev pub IsMade : Outputs → Option Bytes → Bytes → Type 0
IsMade o (Some path) bytes = IsWrittenAt o path bytes
IsMade o None bytes = o.after ≡ o.before
