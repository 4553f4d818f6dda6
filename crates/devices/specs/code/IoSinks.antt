-- For contracts. A sink over a writer.
use Rattle.std.specs.Prelude.{ℕ, List, Option}
use Rattle.devices.specs.Sinks.{SinkView}
use Rattle.devices.specs.declared.file.IoSink.{IoSink}

-- the sink as the contracts of all sinks see it, given what writers of this type hold
abbrev pub view_of : {W : Type 0} → (W → Option (List ℕ)) → IoSink W → SinkView
view_of contents sink = record { taken = contents sink.writer; failures = sink.failures }
