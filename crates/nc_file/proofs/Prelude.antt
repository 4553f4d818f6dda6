-- The names that proofs of this crate cite from elsewhere, passed on from one place.
pub use Rattle.std.proofs.Common.{◌≡◌, ℕ, ◌+◌, ◌-◌, ◌≤◌, Bool, true, List, length, drop, Result, Ok, Err, IfOk, sym, ap, ◌∙◌, subst, arith, refl, ◌*◌, min, take, false, [], ◌∷◌, ◌++◌, rules, suc, ◌<◌, Option, Some, None, if◌then◌else◌, ◌==◌, le_trans, length-append, ◌⊎◌, inl, inr, ◌^◌, ◌&&◌, All, get_or}
pub use Rattle.devices.proofs.UpTo.{UpTo, each-left, up-next, up-partway, up-start}
pub use Rattle.devices.specs.declared.source.Source.{Ghosts}
pub use Rattle.nc_base.proofs.Printable.{header-printable}
pub use Rattle.nc_types.specs.Bytes.{padding_len, Bytes}
pub use Rattle.nc_base.specs.GeneratedFile.{begin_after, fits, fixed_vars, vars_with_begins}
unfoldable pub use Rattle.nc_base.specs.GeneratedFile.{file_of, with_begins}
pub use Rattle.nc_base.specs.Grammar.{SpellsHeader, header_spelling, header_part, count_part, dim_after, att_after, dimid_after, var_after, strict, checked, is_within_limits, dimension_tag, attribute_tag, variable_tag}
pub use Rattle.nc_base.specs.Headers.{AreDimids}
pub use Rattle.nc_base.specs.Sizes.{has_record_dim, is_record_var, padded_total, record_vars, slab_limit, slab_size}
pub use Rattle.nc_types.specs.Versions.{count_limit, count_width, offset_limit, offset_width}
pub use Rattle.nc_base.specs.declared.{fault.FormatFault.FormatFault, header.Att.Att, header.Dim.Dim, header.Header.Header, header.NumRecs.NumRecs, header.Var.Var}
pub use Rattle.nc_types.specs.declared.{nc_type.NcType.NcType, version.Version.Version}
pub use Rattle.nc_base.specs.declared.fault.FormatFault.TheVariants.{HeaderTruncated, TooLarge}
pub use Rattle.nc_file.specs.code.Begins.{after, is_below, offset_of, offset_too_large, placed}
pub use Rattle.nc_window.specs.code.Window.{Kept, Read, Reads, left, next_of, source_of}
unfoldable pub use Rattle.nc_window.specs.code.SizedVars.{total_with}
pub use Rattle.nc_window.specs.declared.{head_fault.HeadFault.HeadFault, window.Window.Window}
pub use Rattle.nc_window.specs.declared.head_fault.HeadFault.TheVariants.{Format, OutOfMemory, ReadFailed}
pub use Rattle.std.proofs.Math.Nat.{sub-zero}
pub use Rattle.std.proofs.lemmas.Bool.{OnTrue_at, OnTrue_from, cases_lt, le-ltb}
pub use Rattle.std.proofs.lemmas.List.{append-nil, drop-take, get_or_default, length-drop, take_all, take_at}
pub use Rattle.std.proofs.lemmas.List.Sums.{sum_by-cons, sum_by-le-sum_by}
pub use Rattle.std.proofs.lemmas.Result.{err_from_is_err_and}
pub use Rattle.std.specs.Bool.{OnTrue}
pub use Rattle.std.specs.Int.{byte_len}
pub use Rattle.std.specs.List.{flat_map, list_all, sum_by}
unfoldable pub use Rattle.nc_base.specs.Grammar.{name_part, type_part, list_head, list_part, dim_part, dim_list, att_part, att_list, dimid_part, counted, shape_part, number, var_part, var_list, version_part, magic_part, numrecs_part, header_by, each}
pub use Rattle.nc_base.specs.Parts.{Part, bytes, Step, done, under, chain}
unfoldable pub use Rattle.nc_base.specs.Parts.{print}
pub use Rattle.nc_base.specs.code.PartRuns.{Outcome, and_then, with_rest}
unfoldable pub use Rattle.nc_base.specs.code.PartRuns.{run, left_after, printed_len, StopsWith}
pub use Rattle.nc_base.proofs.PartLens.{print-len, each-len, count-len, count_field-len, field_lens, each_len-none, each_len-push}
unfoldable pub use Rattle.nc_base.proofs.PartLens.{each_len}
pub use Rattle.nc_base.proofs.FileHolds.{file-holds}
pub use Rattle.nc_base.proofs.HeaderOutcomes.{header-read, header-stopped, rest-within, end-within, stops-at, one-header, one-fault, header-fine}
