-- The names that proofs of this crate cite from elsewhere, passed on from one place.
pub use Rattle.devices.specs.declared.{source.Source.Ghosts}
pub use Rattle.nc_types.specs.Bytes.{Bytes, padding_len}
pub use Rattle.nc_base.specs.Grammar.{att_after, checked, dim_after, dimid_after, first, is_within_limits, var_after}
unfoldable pub use Rattle.nc_base.specs.Grammar.{att_part, dim_part, dimid_part, each, header_by, ignored, list_head, magic_part, number, type_part, var_part}
pub use Rattle.nc_base.specs.Parts.{Dims, Item, Magic, Part, Shape, Step, Vars, bytes, chain, decoded, done, under}
pub use Rattle.nc_base.specs.Sizes.{has_record_dim}
pub use Rattle.nc_base.specs.code.PartRuns.{Outcome, and_then, with_rest}
unfoldable pub use Rattle.nc_base.specs.code.PartRuns.{left_after, run}
pub use Rattle.nc_base.specs.declared.{fault.FormatFault.FormatFault, header.Header.Header}
pub use Rattle.nc_base.specs.declared.fault.FormatFault.TheVariants.{HeaderTruncated, NotNetcdf, TooLarge}
pub use Rattle.nc_fields.specs.Entries.{Seen, cut_content, ends_with_nul, number_in, owner_steps, seen_by, steps_of, whole_content}
unfoldable pub use Rattle.nc_fields.specs.Entries.{seen}
pub use Rattle.nc_fields.specs.Fields.{Field, judged}
unfoldable pub use Rattle.nc_fields.specs.Fields.{fields}
pub use Rattle.nc_fields.specs.Lenient.{lenient}
pub use Rattle.nc_fields.specs.code.Checks.{Checked, IsFilling, IsHeld, IsNumeric, IsStart, Lists, ListsCut, Reader, at, entry_of}
unfoldable pub use Rattle.nc_fields.specs.code.Checks.{listed, with_fault}
pub use Rattle.nc_fields.specs.code.PassedValues.{PassesValues, in_place}
pub use Rattle.nc_fields.specs.declared.{fields.PendingField.PendingField, number.NumberWidth.NumberWidth}
pub use Rattle.nc_findings.specs.declared.{listing.Listing.Listing, entry.Content.Content, entry.Entry.Entry, list_fault.ListFault.ListFault, place.Owner.Owner, place.Place.Place}
pub use Rattle.nc_findings.specs.declared.entry.Content.TheVariants.{Cut, Number}
pub use Rattle.nc_window.proofs.Bytes.{Progress, Stopped, chunk-next, on-by, read-content, stop-bytes}
pub use Rattle.nc_window.proofs.PartRuns.{after-chain, after-decoded, has_record-next, left_after-err, left_after-ok, run-chain, run-decoded, run-done, run-under, shorter}
pub use Rattle.nc_window.proofs.Totals.{total_of, total_of-append, within}
pub use Rattle.nc_window.specs.code.Window.{FailsOnly, IsAdvanced, Kept, Read, Reads, Ready, left, next_of, source_of}
pub use Rattle.nc_window.specs.declared.{head_fault.HeadFault.HeadFault, window.Window.Window}
pub use Rattle.nc_window.specs.declared.head_fault.HeadFault.TheVariants.{Format, OutOfMemory, ReadFailed}
pub use Rattle.std.proofs.Common.{Bool, Err, IfOk, List, None, Ok, Option, Result, Some, [], ap, append_assoc, arith, codes, cond, drop, false, if◌then◌else◌, inl, inr, leb, length, length-append, length-take, map, min, nat_lt, refl, rules, slice_index, subst, suc, sym, take, take-take, take_all, true, ℕ, ◌++◌, ◌*◌, ◌+◌, ◌-◌, ◌<◌, ◌==◌, ◌∙◌, ◌∷◌, ◌≡◌, ◌≤◌}
pub use Rattle.std.proofs.lemmas.Bool.{OnTrue_at, OnTrue_from, le-ltb, leb-false, leb-true, lt-ltb}
pub use Rattle.std.proofs.lemmas.List.{append-nil, drop-drop, drop_min, get_or-append_right, length-drop, map-append, take_min}
pub use Rattle.std.proofs.lemmas.Result.{err_from_is_err_and}
pub use Rattle.std.specs.Bool.{OnTrue}
pub use Rattle.std.specs.Int.{Width, byte_len, from_be_bytes, to_be_bytes}
pub use Rattle.std.specs.Result.{IsErrAnd}
pub use Rattle.std.specs.Str.{bytes_eq}
