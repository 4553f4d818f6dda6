-- Whose failure it was, where one path was opened.
use Rattle.nccheck.proofs.Prelude.{HasFailed, HasBack, OpensOnce, FileFault, OpensFile, ◌≡◌, Result, Ok, arith}
use Rattle.nccheck.specs.code.OpenedFiles.{ReadsOpened}
use Rattle.devices.specs.Openers.{OpenerView}
use Rattle.devices.specs.Sources.{SourceView}
use Rattle.devices.proofs.Openings.{one_failure, no_failure}

-- the source's failure is the opener's, once it has the source back
pub opens_file : {A D : Type 0} {device : D} (old mid new : OpenerView) (start source : SourceView) (result : Result A FileFault)
    → OpensOnce old mid (Ok device) → start.failures ≡ 0
    → ReadsOpened start.failures source.failures result → HasBack mid new source.failures → OpensFile old new result
unfolding HasFailed
opens_file old mid new start source result h h2 h3 h4 = grind (arith, one_failure, no_failure)
