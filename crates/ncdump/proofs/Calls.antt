-- A walk, and a call, by the devices that they begin and end with.
use Rattle.ncdump.proofs.Prelude.{ℕ, Bool, Header, Var, SourceView, SinkView, between, Pass}
use Rattle.ncdump.specs.Calls.{Call}

abbrev pub pass : Bool → Header → Var → ℕ → ℕ → SourceView → SourceView → Pass
pass is_transparent h var n buffer_len a b =
    record { is_transparent = is_transparent; header = h; var = var; records = n; buffer_len = buffer_len; source = between a b }

abbrev pub call : ℕ → SourceView → SourceView → SinkView → SinkView → Call
call buffer_len a b old new = record { buffer_len = buffer_len; source = between a b; sink = between old new }
