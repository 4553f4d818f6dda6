-- Whose failure it was, where one call follows another.
use Rattle.ncdump.proofs.Prelude.{◌≡◌, Result, Ok, Err, arith, SourceView, SinkView, DumpFault, ReadFailsOnly, ShowsOrFails, OfDump, OpensFile}
use Rattle.devices.specs.Failures.{HasFailed}
use Rattle.devices.specs.Openers.{OpenerView}
use Rattle.devices.specs.code.PathOpens.{HasBack, OpensOnce}
use Rattle.devices.proofs.Openings.{one_failure, no_failure}
use Rattle.ncdump.specs.declared.fault.FileFault.{FileFault}

pub fails-after : (old mid new : SinkView) (fault : DumpFault) → mid.failures ≡ old.failures → ShowsOrFails {A = Unit {0}} mid new (Err fault) → ShowsOrFails {A = Unit {0}} old new (Err fault)
fails-after old mid new fault h h2 = grind arith

-- the source's failure is the opener's, once it has the source back
pub opens_file : {A D : Type 0} {device : D} (old mid new : OpenerView) (start source : SourceView) (result : Result A FileFault) → OpensOnce old mid (Ok device) → start.failures ≡ 0
    → OfDump (ReadFailsOnly start source) ⊥ result → HasBack mid new source.failures → OpensFile old new result
unfolding HasFailed
opens_file old mid new start source result h h2 h3 h4 = grind (arith, one_failure, no_failure)
