-- For contracts. A source and a sink in memory.
use Rattle.std.specs.Prelude.{Some}
use Rattle.devices.specs.Sinks.{SinkView}
use Rattle.devices.specs.Sources.{SourceView}
use Rattle.devices.specs.declared.{memory.MemSink.MemSink, memory.MemSource.MemSource}

-- a source in memory as the contracts of all sources see it
abbrev pub view_of : MemSource → SourceView
view_of source = record { bytes = source.bytes.now; failures = source.failures; handed = source.handed }

-- a sink in memory as the contracts of all sinks see it
abbrev pub sink_view_of : MemSink → SinkView
sink_view_of sink = record { taken = Some sink.bytes.items; failures = sink.failures }
