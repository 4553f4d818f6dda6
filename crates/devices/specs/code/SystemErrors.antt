-- For contracts. Why a path can't be opened, by the kind of the system's error.
use Rattle.std.specs.declared.io.ErrorKind.{ErrorKind}
use Rattle.std.specs.declared.io.ErrorKind.TheVariants as system
use Rattle.devices.specs.declared.fault.OpenFailed.{OpenFailed}
use Rattle.devices.specs.declared.fault.OpenFailed.TheVariants.{NotFound, PermissionDenied, Other}

abbrev pub reason_of : ErrorKind → OpenFailed
reason_of system.NotFound = NotFound
reason_of system.PermissionDenied = PermissionDenied
reason_of kind = Other
