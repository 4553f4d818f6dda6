-- For contracts. When a source that fails on request does so.
use Rattle.std.specs.Prelude.{◌≡◌, ◌≤◌, ◌+◌, ◌-◌, ◌^◌, ℕ, min}
use Rattle.devices.specs.Sources.{SourceView}
use Rattle.devices.specs.declared.{testing.drip.DripSource.DripSource, testing.drip.FailWhen.FailWhen}
use Rattle.devices.specs.declared.testing.drip.FailWhen.TheVariants.{Never, From, Read}

-- a read at this offset, with this number of reads before it, is to fail
abbrev pub IsDue : FailWhen → ℕ → ℕ → Type 0
IsDue Never at reads = ⊥
IsDue (From from) at reads = from ≤ at
IsDue (Read read) at reads = read ≡ reads

-- the source as the contracts of all sources see it
abbrev pub view_of : DripSource → SourceView
view_of source = record { bytes = source.bytes.now; failures = source.failures; handed = source.handed }

-- how many bytes it gives at most
abbrev pub step_of : DripSource → ℕ
step_of source = source.step

-- when it is to fail
abbrev pub fail_of : DripSource → FailWhen
fail_of source = source.fail

-- how often it has been read
abbrev pub reads_of : DripSource → ℕ
reads_of source = source.reads

-- how often it has been read after one time more, as far as a count goes
abbrev pub reads_after : DripSource → ℕ
reads_after source = min (source.reads + 1) (2 ^ 128 - 1)

-- a read at this offset is to fail
abbrev pub IsDueNow : DripSource → ℕ → Type 0
IsDueNow source at = IsDue source.fail at source.reads
