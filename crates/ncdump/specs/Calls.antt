-- Definition. What a call did with its source and its sink, through the caller's buffer.
use Rattle.std.specs.Prelude.{ℕ, length}
use Rattle.nc_types.specs.Bytes.{Bytes}
use Rattle.devices.specs.Sinks.{SinkView}
use Rattle.devices.specs.Sources.{SourceView}
use Rattle.devices.specs.Uses.{Use}

-- the length of the buffer that the call was lent, and its devices before and after it
pub record Call : Type 0 where
  pub buffer_len : ℕ
  pub source : Use SourceView
  pub sink : Use SinkView

abbrev pub call_of : Bytes → Use SourceView → Use SinkView → Call
call_of buf source sink = record { buffer_len = length buf; source = source; sink = sink }
