-- Definition. What opening a variable gives for the bytes of a file.
use Rattle.std.specs.Prelude.{◌≡◌, ◌<◌, ℕ, length, Option, Some, None, Result, Ok, Err}
use Rattle.std.specs.List.{position}
use Rattle.std.specs.Str.{bytes_eq}
use Rattle.nc_types.specs.Bytes.{Bytes}
use Rattle.nc_base.specs.declared.{header.Header.Header, header.Var.Var}
use Rattle.nc_base.specs.Grammar.{SpellsHeader, StopsAt}
use Rattle.nc_base.specs.Headers.{IsSound}
use Rattle.devices.specs.Failures.{HasFailed}
use Rattle.nc_window.specs.declared.head_fault.HeadFault.{HeadFault}
use Rattle.nc_window.specs.declared.head_fault.HeadFault.TheVariants.{Format, OutOfMemory, ReadFailed}
use Rattle.example.specs.declared.{variable_fault.VariableFault.VariableFault, variable.OpenVariable.OpenVariable}
use Rattle.example.specs.declared.variable_fault.VariableFault.TheVariants.{Header as HeaderFault, NoSuchVariable}

-- the header is sound, and has a variable at the index
pub record IsReady (v : OpenVariable) : Type 0 where
  pub sound : IsSound v.header
  pub there : v.index < length v.header.vars

-- the index of the first variable of this name
abbrev pub index_of : Header → Bytes → Option ℕ
index_of h name = position (λ (var : Var). bytes_eq var.name name) h.vars

-- The bytes begin with a spelling of the header, and the variable is its first one of this name; or there is none; or the header's first
-- wrong field has this fault. If memory runs out, or the source fails, nothing is said of the bytes.
abbrev pub Opens : Bytes → Bytes → Result OpenVariable VariableFault → Type 0
Opens bytes name (Ok v) = (rest : Bytes) × SpellsHeader bytes v.header rest × (index_of v.header name ≡ Some v.index)
Opens bytes name (Err NoSuchVariable) = (h : Header) × (rest : Bytes) × SpellsHeader bytes h rest × (index_of h name ≡ None)
Opens bytes name (Err (HeaderFault (Format fault))) = (end : ℕ) × StopsAt bytes fault end
Opens bytes name (Err (HeaderFault OutOfMemory)) = Unit {0}
Opens bytes name (Err (HeaderFault ReadFailed)) = Unit {0}

-- the source has failed if and only if that is the fault
abbrev pub FailsOnly : ℕ → ℕ → Result OpenVariable VariableFault → Type 0
FailsOnly before now (Err (HeaderFault ReadFailed)) = HasFailed before now
FailsOnly before now result = now ≡ before
