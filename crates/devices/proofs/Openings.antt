-- What an opener counts of what it opened once and has back.
use Rattle.std.proofs.Common.{◌≡◌, ℕ, ◌+◌, ◌-◌, ◌^◌, ap, ◌∙◌, min, Result}
use Rattle.devices.specs.Failures.{HasFailed}
use Rattle.devices.specs.Openers.{OpenerView}
use Rattle.devices.specs.declared.fault.OpenFailed.{OpenFailed}
use Rattle.devices.specs.code.PathOpens.{HasBack, OpensOnce}

pub one_failure : {D : Type 0} {opened : Result D OpenFailed} (old mid new : OpenerView) (failures : ℕ) → OpensOnce old mid opened → failures ≡ min (0 + 1) (2 ^ 128 - 1) → HasBack mid new failures → HasFailed old.failures new.failures
unfolding HasFailed
one_failure old mid new failures once one back =
    back.failed ∙ ap (λ (n : ℕ). min (n + failures) (2 ^ 128 - 1)) once.failures ∙ ap (λ (n : ℕ). min (old.failures + n) (2 ^ 128 - 1)) one

pub no_failure : {D : Type 0} {opened : Result D OpenFailed} (old mid new : OpenerView) (failures : ℕ) → OpensOnce old mid opened → failures ≡ 0 → HasBack mid new failures → new.failures ≡ old.failures
no_failure old mid new failures once none back = back.unfailed none ∙ once.failures
