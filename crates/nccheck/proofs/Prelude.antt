-- The names that several files of proofs cite from elsewhere, passed on from one place.
pub use Rattle.std.proofs.Common.{Bool, Err, IfSome, List, None, Ok, Option, Result, Some, [], ap, append-nil, append_assoc, arith, codes, drop, false, get_or, inl, inr, length, map, not, refl, sym, take, take-append-drop, true, unwrap_or, ℕ, ◌&&◌, ◌*◌, ◌++◌, ◌+◌, ◌<◌, ◌^◌, ◌∙◌, ◌∷◌, ◌≡◌, ◌≤◌, ◌⊎◌}
pub use Rattle.std.specs.Prelude.{MatchBool}
pub use Rattle.cli_base.specs.Arguments.{texts_of}
unfoldable pub use Rattle.devices.specs.Failures.{HasFailed}
pub use Rattle.devices.specs.Readers.{ReaderView, view_of}
pub use Rattle.devices.specs.code.PathOpens.{HasBack, NamesAsBefore, OpensOnce}
pub use Rattle.nc_types.specs.Bytes.{Bytes}
pub use Rattle.check_options.specs.CommandLine.{Asked}
pub use Rattle.check_options.specs.code.Options.{asked_for}
pub use Rattle.nccheck.specs.PathLists.{Broken, Item, ListEnd, Path, Unread, Whole, items_after, items_in, last_items}
unfoldable pub use Rattle.nccheck.specs.PathLists.{path_fault}
pub use Rattle.nccheck.specs.Runs.{ChecksItem, Ending, Fails, IsTold, Openings, OpensFile, ReadsList, RunsFiles, RunsOver, State, Writes, ends_run, has_ended, openings, state}
pub use Rattle.nccheck.specs.Tallies.{Answer, counted, no_files, status_of, summary, total}
pub use Rattle.nccheck.specs.code.Counts.{Counts, CountsAll, CountsList, Gives, IsCount, Takes, TakesItems}
pub use Rattle.nccheck.specs.declared.{fault.FileFault.FileFault, tally.Tally.Tally}
pub use Rattle.std.proofs.Math.Path.{fun_ext}
pub use Rattle.std.proofs.lemmas.List.{length-append, length-take-le, map-append, take_more}
