-- Definition. What opens paths, as its contracts see it.
use Rattle.std.specs.Prelude.{ℕ, Bool, Option, Some}
use Rattle.nc_types.specs.Bytes.{Bytes}
use Rattle.devices.specs.Failures.{one_more}
use Rattle.devices.specs.declared.fault.OpenFailed.{OpenFailed}

-- how many paths could not be opened, and why the last of them could not
pub record Refusals : Type 0 where
  pub count : ℕ
  pub last : Option OpenFailed

-- how often it was asked to open a path, the paths that it could not open, and how often the devices that it opened and got back have failed
pub record OpenerView : Type 0 where
  pub opens : ℕ
  pub refusals : Refusals
  pub failures : ℕ

-- one path more could not be opened, for this reason
abbrev pub refuse : Refusals → OpenFailed → Refusals
refuse r why = record { count = one_more r.count; last = Some why }

-- What opens paths, before a call and after it. If it opens transparent devices, contracts know which bytes each path names, if any.
pub record OpenerUse : Type 0 where
  pub is_transparent : Bool
  pub named : Bytes → Option Bytes
  pub before : OpenerView
  pub after : OpenerView

abbrev pub opener_use : {Opener : Type 0} → Bool → (Opener → Bytes → Option Bytes) → (Opener → OpenerView) → Opener → Opener → OpenerUse
opener_use is_transparent named view old new = record { is_transparent = is_transparent; named = named old; before = view old; after = view new }
