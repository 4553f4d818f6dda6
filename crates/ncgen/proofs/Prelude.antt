-- The names that proofs of this crate cite from elsewhere, passed on from one place.
pub use Rattle.std.proofs.Common.{Bool, Err, List, None, Ok, Option, Result, Some, [], ap, append_assoc, ap₂, arith, codes, false, if◌then◌else◌, inl, inr, is_some, length, map, min, option_map, refl, rules, subst, sym, true, zip, ℕ, ◌++◌, ◌+◌, ◌-◌, ◌<◌, ◌^◌, ◌∙◌, ◌∷◌, ◌≡◌, ◌≤◌}
pub use Rattle.cdl_statements.specs.Meaning.{meaning}
pub use Rattle.cdl_statements.proofs.Meanings.{IsWhole, meanings_are_whole}
pub use Rattle.cdl_statements.specs.declared.fault.CdlFault.{CdlFault}
pub use Rattle.clap.specs.Words.{app_of, is_simple, is_simple_and_free, new_app, new_rule, rule_of, with_rule}
pub use Rattle.cli_base.specs.Arguments.{flag, option, quiet}
unfoldable pub use Rattle.devices.specs.Failures.{HasFailed}
pub use Rattle.devices.specs.Readers.{ReaderView, view_of}
pub use Rattle.devices.specs.Sinks.{FailedPartway, IsPrefix, IsPrefixIf, SinkView, StoppedShort}
unfoldable pub use Rattle.devices.specs.Sinks.{IsCut, append, is_transparent}
pub use Rattle.nc_base.proofs.Fitting.{IsSound-with_begins, begins-below}
pub use Rattle.nc_base.specs.GeneratedFile.{block, fits, is_sole_narrow, known_records, record_part, vars_with_begins}
unfoldable pub use Rattle.nc_base.specs.GeneratedFile.{data_of, file_of, fill_bytes, padded_slab, with_begins}
pub use Rattle.nc_base.specs.Grammar.{header_spelling}
pub use Rattle.nc_base.specs.Headers.{IsSound, bare_var}
pub use Rattle.nc_base.specs.code.OwedValues.{AreListed, whole_arrays}
pub use Rattle.nc_base.specs.declared.{header.Header.Header}
pub use Rattle.nc_types.specs.declared.{version.Version.Version}
pub use Rattle.nc_walk.specs.code.RecordSlabs.{record_slabs}
pub use Rattle.ncgen.specs.code.Options.{asked_for}
unfoldable pub use Rattle.ncgen.specs.CommandLine.{asked_by, asked_in, ncgen}
pub use Rattle.ncgen.specs.Generated.{file_or_fault}
pub use Rattle.ncgen.specs.Generates.{Generates, Refuses}
unfoldable pub use Rattle.ncgen.specs.Generated.{generated}
pub use Rattle.ncgen.specs.code.Prepared.{IsReady, Prepares, listed_data}
unfoldable pub use Rattle.ncgen.specs.code.Prepared.{file_of_prepared}
pub use Rattle.ncgen.specs.code.TextReads.{HasGrown, ReadsText}
pub use Rattle.ncgen.specs.declared.fault.GenFault.{GenFault}
pub use Rattle.ncgen.specs.declared.fault.GenFault.TheVariants.{Cdl, OffsetTooLarge, WriteFailed}
pub use Rattle.std.proofs.lemmas.Result.{IfOk-weaker, err_from_is_err_and}
pub use Rattle.nc_base.proofs.SlabBytes.{flat_map-same}
