-- Definition. What a sink has taken, and what a call has written to it.
use Rattle.std.specs.Bool.{OnTrue}
use Rattle.std.specs.Prelude.{Bool, is_some, ◌≡◌, ℕ, ◌≤◌, [], ◌++◌, length, Option, Some, None, option_map, unwrap_or}
use Rattle.nc_types.specs.Bytes.{Bytes}
use Rattle.devices.specs.Failures.{HasFailed}

-- a sink, as contracts see it: the bytes that it has taken, if it is transparent, and how often it has failed
pub record SinkView : Type 0 where
  pub taken : Option Bytes
  pub failures : ℕ

-- the sink after it has taken one more text
unfoldable pub append : SinkView → Bytes → SinkView
append v bytes = record { taken = option_map (λ prefix. prefix ++ bytes) v.taken; failures = v.failures }

-- how many bytes it has taken, or 0 if it is opaque
unfoldable pub taken_len : SinkView → ℕ
taken_len v = length (unwrap_or v.taken [])

pub record IsPrefix (prefix whole : Bytes) : Type 0 where
  pub rest : Bytes
  pub joined : prefix ++ rest ≡ whole

-- a prefix, if both are known; both or neither are
abbrev pub IsPrefixIf : Option Bytes → Option Bytes → Type 0
IsPrefixIf (Some prefix) (Some whole) = IsPrefix prefix whole
IsPrefixIf None None = Unit {0}
IsPrefixIf (Some prefix) None = ⊥
IsPrefixIf None (Some whole) = ⊥

-- the sink has taken a prefix of what it would have taken with the whole text
unfoldable pub IsCut : SinkView → SinkView → Type 0
IsCut now wanted = IsPrefixIf now.taken wanted.taken

-- it has taken a prefix of what it was to take, and no less than before
pub record StoppedShort (old new wanted : SinkView) : Type 0 where
  pub cut : IsCut new wanted
  pub no_less : taken_len old ≤ taken_len new

unfoldable pub is_transparent : SinkView → Bool
is_transparent v = is_some v.taken

-- it has not failed, and if it is transparent, it has taken the text
pub record Appended (old new : SinkView) (text : Bytes) : Type 0 where
  pub failures : new.failures ≡ old.failures
  pub taken : OnTrue (is_transparent old) (new ≡ append old text)

-- it has failed, and if it is transparent, it has taken a prefix of the text
pub record FailedPartway (old new : SinkView) (text : Bytes) : Type 0 where
  pub failures : HasFailed old.failures new.failures
  pub taken : OnTrue (is_transparent old) (StoppedShort old new (append old text))
