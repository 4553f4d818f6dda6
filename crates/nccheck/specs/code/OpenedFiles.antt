-- For contracts. How the check of a file that was opened ends.
use Rattle.std.specs.Prelude.{ℕ, ◌≡◌, ◌<◌, ◌≤◌, List, length, take, Result, Ok, Err}
use Rattle.nc_window.specs.declared.head_fault.HeadFault.{HeadFault}
use Rattle.nc_window.specs.declared.head_fault.HeadFault.TheVariants.{Format}
use Rattle.nccheck.specs.Runs.{ReadFailsOnly}
use Rattle.nccheck.specs.declared.{fault.FileFault.FileFault, fault.FileFault.TheVariants.{BadPath, CannotOpen}}

-- a source has failed exactly if the answer says so, which isn't that the path or the file can't be opened
abbrev pub ReadsOpened : {A : Type 0} → ℕ → ℕ → Result A FileFault → Type 0
ReadsOpened old new (Err (BadPath why)) = ⊥
ReadsOpened old new (Err (CannotOpen why)) = ⊥
ReadsOpened old new answer = ReadFailsOnly old new answer

-- these are the first four bytes, or there are fewer
abbrev pub StartsWith : List ℕ → Result (List ℕ) HeadFault → Type 0
StartsWith bytes (Ok start) = (start ≡ take 4 bytes) × (4 ≤ length bytes)
StartsWith bytes (Err (Format fault)) = length bytes < 4
StartsWith bytes (Err fault) = Unit {0}
