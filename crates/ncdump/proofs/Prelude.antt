-- The names that proofs of this crate cite from elsewhere, passed on from one place.
pub use Rattle.std.proofs.Common.{◌≡◌, ℕ, inl, inr, Bool, List, [], ◌++◌, refl, sym, ap, ◌∙◌, append_assoc, subst, Ok, Err, rules, ◌≤◌, true, length, Option, Some, is_some, option_map, unwrap_or, arith, Result, not, position, ◌||◌, Bor, cond, ◌+◌, ◌*◌, take, None, ℤ, slice_get, IfSome, ◌<◌, ◌⊎◌, false, ◌∷◌, drop, get_or, ◌&&◌, if◌then◌else◌, ◌-◌, min, ◌^◌, tests, option_and_then, IsSomeAnd, IfOk, nat_lt, ap₂, codes, map, lit<}
pub use Rattle.cdl_print.proofs.Begun.{appended_none}
pub use Rattle.cdl_print.specs.code.Printer.{HasPrinted, Printed, Stopped, Takes, look_in}
pub use Rattle.clap.specs.Words.{app_of, is_simple, is_simple_and_free, new_app, new_rule, rule_of, with_rule}
pub use Rattle.cli_base.specs.Arguments.{flag, option, quiet}
pub use Rattle.devices.proofs.Writes.{append-++, appended_partway, appended_then, cut-append, split_prefix, transparent-append}
pub use Rattle.devices.specs.Sinks.{Appended, FailedPartway, IsPrefixIf, SinkView}
unfoldable pub use Rattle.devices.specs.Sinks.{IsCut, append, taken_len, is_transparent}
pub use Rattle.devices.specs.Sources.{SourceView}
pub use Rattle.devices.specs.code.SourceReads.{having_read}
pub use Rattle.nc_base.proofs.ValueLaws.{prefix-append, prefix_nil, look-type}
pub use Rattle.nc_base.proofs.CharacterRows.{IsWide, wide_look}
pub use Rattle.nc_base.specs.Dump.{Ending, IsDump, first_unknown, Options, DataText, values_in_file, shown_data, data_truncated, dump_text, has_values, has_variable, no_data_text, no_such_variable, selection_of, shown, shown_data_text, stopped, unknown, with_variable, variables_text, whole, wrong_field}
unfoldable pub use Rattle.nc_base.specs.Dump.{closing_word, data_word}
pub use Rattle.nc_base.specs.Grammar.{SpellsHeader}
unfoldable pub use Rattle.nc_base.specs.HeadText.{head_text}
pub use Rattle.nc_base.specs.Headers.{IsSoundVar}
pub use Rattle.nc_base.specs.Sizes.{value_count, is_record_var, record_count}
unfoldable pub use Rattle.nc_base.specs.Numbers.{numbers}
pub use Rattle.nc_base.specs.Places.{first_missing, stored_values}
pub use Rattle.nc_types.specs.Types.{size_of}
pub use Rattle.nc_base.specs.ValueText.{Look}
pub use Rattle.nc_base.specs.code.LaterPieces.{later_pieces}
unfoldable pub use Rattle.nc_base.specs.ValueText.{variable_closing, look_of, variable_opening, variable_prefix, variable_text}
pub use Rattle.nc_base.specs.declared.{header.Header.Header, header.Var.Var}
pub use Rattle.nc_walk.proofs.FullReadSteps.{after_after, transparent_any, transparent_both, transparent_map}
pub use Rattle.devices.specs.Uses.{between}
pub use Rattle.nc_walk.specs.code.Walked.{GivesChunk, GivesCut, GivesEnd, GivesFailure, HasRead, IsChunk, Pass, Walked}
pub use Rattle.ncdump.specs.CommandLine.{width_said}
pub use Rattle.ncdump.specs.code.Options.{asked_for}
unfoldable pub use Rattle.ncdump.specs.CommandLine.{asked_by, asked_in, ncdump}
pub use Rattle.ncdump.specs.Dumps.{Dumps, IsAfterHeader, ReadsForward, in_header, options_of, WriteFailsOnly}
pub use Rattle.ncdump.specs.code.Names.{holds, holds_if}
pub use Rattle.ncdump.specs.code.Shows.{AreShown, AreUnread, AreUnwritten, Dumped, Holds, IsBefore, IsShown, IsUnread, IsUnwritten, IsUpToDate, KeepsUp, KeepsUpIn, ReadFailsOnly, Shows, ShowsAt, ShowsOne, ShowsOrFails, ShowsSelected, bytes_of, dumped, prefix_text, selected_values, text_before, unless_head_only, values_alone, values_and, values_from, whole_bytes, whole_values}
pub use Rattle.ncdump.specs.declared.fault.DumpFault.{DumpFault}
pub use Rattle.ncdump.specs.declared.fault.DumpFault.TheVariants.{DataTruncated, Format, NoSuchVariable, OutOfMemory, ReadFailed, WriteFailed}
pub use Rattle.std.proofs.Math.Seq.{drop-cons, take-add}
pub use Rattle.std.proofs.lemmas.Bool.{OnTrue_at, OnTrue_from}
pub use Rattle.std.proofs.lemmas.Iterator.Consumers.{YieldsList-at, YieldsList-end}
pub use Rattle.std.proofs.lemmas.List.{length-take, append-nil, drop_all, length-append, length-map, take_all}
pub use Rattle.std.proofs.lemmas.Option.{get_or_from_slice_get, slice_get-get_or, slice_get_within}
pub use Rattle.std.proofs.lemmas.Result.{IfOk-weaker, err_from_is_err_and}
pub use Rattle.std.specs.Bool.{OnTrue, then_some}
pub use Rattle.std.specs.List.{list_all, list_any}
pub use Rattle.std.specs.Str.{bytes_eq}
pub use Rattle.ncdump.specs.Runs.{OfDump, OpensFile, Run, DumpsAsked}
