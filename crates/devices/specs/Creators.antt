-- Definition. What creates outputs, as contracts see it.
use Rattle.std.specs.Prelude.{ℕ, ◌≡◌, List, [], ◌∷◌, ◌++◌, Option}
use Rattle.nc_types.specs.Bytes.{Bytes}
use Rattle.devices.specs.Failures.{HasFailed}

-- a path and the bytes that it was given; None if these came from an opaque sink
pub record Output : Type 0 where
  pub path : Bytes
  pub bytes : Option Bytes

-- What paths were given, in order (if the creator is transparent), how many outputs were created, and how often creating or writing one
-- failed. A path holds what it was given last.
pub record CreatorView : Type 0 where
  pub given : List Output
  pub creations : ℕ
  pub failures : ℕ

-- what paths were given, with one more: these bytes to this path
abbrev pub give : List Output → Bytes → Option Bytes → List Output
give given path bytes = given ++ (record { path = path; bytes = bytes } ∷ [])

-- nothing was created or given, and it has failed
pub record Unmade (old new : CreatorView) : Type 0 where
  pub creations : new.creations ≡ old.creations
  pub given : new.given ≡ old.given
  pub failures : HasFailed old.failures new.failures
