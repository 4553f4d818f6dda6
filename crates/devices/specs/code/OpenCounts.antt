-- For contracts. What openers count.
use Rattle.devices.specs.Openers.{OpenerView}
use Rattle.devices.specs.declared.open_counts.OpenCounts.{OpenCounts}

-- the opener with these counts as the contracts of all openers see it
abbrev pub view_of : OpenCounts → OpenerView
view_of c = record { opens = c.opens; refusals = record { count = c.refusals; last = c.last_refusal }; failures = c.failures }
