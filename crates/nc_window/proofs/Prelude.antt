-- The names that proofs of this crate cite from elsewhere, passed on from one place.
pub use Rattle.std.proofs.Common.{◌≡◌, ℕ, ◌+◌, ◌-◌, ◌≤◌, Bool, true, List, length, drop, Result, Ok, Err, sym, ap, ◌∙◌, subst, arith, refl, take, false, [], ◌∷◌, ◌++◌, rules, ◌<◌, leb, Option, Some, cond, ◌==◌, ◌||◌, le_refl, set, get_or, ap₂, length-set, append_assoc, length-append}
pub use Rattle.devices.specs.declared.source.Source.{Ghosts}
pub use Rattle.nc_base.proofs.Printable.{total-append}
pub use Rattle.nc_types.specs.Bytes.{Bytes}
pub use Rattle.nc_base.specs.Grammar.{record_bytes, is_within_limits}
pub use Rattle.nc_base.specs.Sizes.{has_record_dim, is_record_var, padded_size, padded_total, record_vars}
pub use Rattle.nc_base.specs.declared.{fault.FormatFault.FormatFault, header.Dim.Dim, header.Var.Var}
pub use Rattle.nc_types.specs.declared.nc_type.NcType.{NcType}
pub use Rattle.nc_base.specs.declared.fault.FormatFault.TheVariants.{HeaderTruncated}
pub use Rattle.nc_window.specs.code.Window.{FailsOnly, IsAdvanced, Kept, Read, Reads, Ready, Stuck, left, next_of, source_of}
pub use Rattle.nc_window.specs.declared.{head_fault.HeadFault.HeadFault, window.Window.Window}
pub use Rattle.nc_window.specs.declared.head_fault.HeadFault.TheVariants.{Format, OutOfMemory, ReadFailed}
pub use Rattle.std.proofs.lemmas.Bool.{OnTrue_at, OnTrue_from, lt-leb, le-leb}
pub use Rattle.std.proofs.lemmas.List.{drop-drop, drop-take, length-drop, length-replicate, length-take, take-take, take_all, drop_more}
pub use Rattle.std.proofs.lemmas.Result.{err_from_is_err_and}
pub use Rattle.std.specs.Bool.{OnTrue}
unfoldable pub use Rattle.nc_base.specs.Grammar.{ignored}
unfoldable pub use Rattle.nc_window.specs.code.SizedVars.{total_with}
pub use Rattle.nc_base.specs.Parts.{Part, bytes, Step, done, decoded, under, chain}
pub use Rattle.nc_base.specs.code.PartRuns.{Outcome, and_then, with_rest}
unfoldable pub use Rattle.nc_base.specs.code.PartRuns.{run, left_after, printed_len}
pub use Rattle.nc_base.proofs.PartLens.{field_lens}
