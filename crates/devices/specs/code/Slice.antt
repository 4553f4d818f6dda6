-- For contracts. A sink over a slice: what it holds, and how much it can take.
use Rattle.std.specs.Prelude.{◌-◌, ℕ, length, take, Some}
use Rattle.devices.specs.Sinks.{SinkView}
use Rattle.devices.specs.declared.testing.slice.SliceSink.{SliceSink}

-- the sink as the contracts of all sinks see it
abbrev pub view_of : SliceSink → SinkView
view_of sink = record { taken = Some (take sink.len sink.into.now); failures = sink.failures }

-- how many bytes more it can take
abbrev pub capacity_left : SliceSink → ℕ
capacity_left sink = length sink.into.now - sink.len

-- how many bytes it takes at most a call
abbrev pub step_of : SliceSink → ℕ
step_of sink = sink.step
