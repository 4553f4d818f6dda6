-- The first bytes of a file.
use Rattle.std.proofs.Common.{◌≡◌, ℕ, ◌<◌, ◌≤◌, Bool, List, length, take, Result, Ok, Err, refl, arith}
use Rattle.std.specs.Bool.{OnTrue}
use Rattle.std.proofs.lemmas.Bool.{OnTrue_at, OnTrue_from, leb-true, leb-false}
use Rattle.std.proofs.lemmas.Grind.{common_steps}
use Rattle.devices.specs.Sinks.{SinkView}
use Rattle.nc_base.specs.Parts.{bytes}
unfoldable use Rattle.nc_base.specs.code.PartRuns.{run}
use Rattle.nc_base.specs.declared.fault.FormatFault.{FormatFault}
use Rattle.nc_base.specs.declared.fault.FormatFault.TheVariants.{HeaderTruncated}
use Rattle.nc_window.specs.code.Window.{Reads}
use Rattle.nc_window.specs.declared.head_fault.HeadFault.{HeadFault}
use Rattle.nc_window.specs.declared.head_fault.HeadFault.TheVariants.{OutOfMemory, ReadFailed, Format}
use Rattle.nccheck.specs.Faults.{fault_of_head}
use Rattle.nccheck.specs.Runs.{WriteFailsOnly}
use Rattle.nccheck.specs.code.OpenedFiles.{StartsWith}

taken : (from after x : List ℕ) → run (bytes 4 HeaderTruncated) from ≡ Ok (x, after) → (x ≡ take 4 from) × (4 ≤ length from)
unfolding run
taken from after x is = grind (arith, common_steps, leb-true, leb-false, is)

few : (from after : List ℕ) (fault : FormatFault) → run (bytes 4 HeaderTruncated) from ≡ Err (fault, after) → length from < 4
unfolding run
few from after fault is = grind (arith, common_steps, leb-true, leb-false, is)

-- what was read is the start of what was left, which is the whole file
pub starts : (t : Bool) (file from after : List ℕ) (result : Result (List ℕ) HeadFault) → from ≡ file → Reads t from after (bytes 4 HeaderTruncated) result
    → OnTrue t (StartsWith file result)
starts t file from after (Ok x) same r = OnTrue_from t _ (λ known. rw (← same) (taken from after x (OnTrue_at known r)))
starts t file from after (Err (Format fault)) same r = OnTrue_from t _ (λ known. rw (← same) (few from after fault (OnTrue_at known r)))
starts t file from after (Err OutOfMemory) same r = OnTrue_from t _ (λ known. tt)
starts t file from after (Err ReadFailed) same r = OnTrue_from t _ (λ known. tt)

-- a fault of the first bytes is none of standard output
pub head_writes : (fault : HeadFault) (out : SinkView) → WriteFailsOnly {A = Unit {0}} out out (Err (fault_of_head fault))
head_writes OutOfMemory out = refl
head_writes ReadFailed out = refl
head_writes (Format fault) out = refl
