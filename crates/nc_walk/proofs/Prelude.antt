-- The names that proofs of this crate cite from elsewhere, passed on from one place.
pub use Rattle.std.proofs.Common.{◌≡◌, ℕ, zero, suc, ◌+◌, ◌-◌, ◌*◌, ◌/◌, ◌%◌, ◌<◌, ◌≤◌, List, length, get_or, take, drop, map, refl, sym, ◌∙◌, ap, subst, arith, All, Bool, ◌++◌, None, Some, Ok, Err, rules, if◌then◌else◌, ◌^◌, min, length-append, Option, inl, inr, [], ◌∷◌, replicate, append_assoc, true, false, zip}
pub use Rattle.devices.proofs.UpTo.{UpTo, appended-nothing, up-all, up-next, up-partway, up-start, up-then}
unfoldable pub use Rattle.devices.specs.Failures.{HasFailed}
pub use Rattle.devices.specs.Sinks.{Appended, FailedPartway}
pub use Rattle.devices.specs.code.SinkWrites.{Written}
pub use Rattle.devices.specs.Sources.{SourceView}
pub use Rattle.devices.specs.code.SourceReads.{having_read, NoneRead, BytesRead}
pub use Rattle.nc_base.proofs.FilePlaces.{flat_map-below, length-number, whole-padding, length-replicated}
pub use Rattle.nc_base.proofs.SoundLaws.{some_count, some_size}
pub use Rattle.nc_base.proofs.WholeValues.{length-whole, map-map, none-found, numbers-concat, range-add}
pub use Rattle.nc_types.specs.Bytes.{padding_len}
unfoldable pub use Rattle.nc_base.specs.Fill.{fill_value}
pub use Rattle.nc_base.specs.GeneratedFile.{block, is_sole_narrow, known_records, record_part, slab_in}
unfoldable pub use Rattle.nc_base.specs.GeneratedFile.{data_of, fill_bytes, padded_slab}
pub use Rattle.nc_base.specs.Headers.{IsSound, IsSoundVar}
pub use Rattle.nc_base.specs.Sizes.{value_count, is_narrow, is_record_var, product, record_size, record_vars, slab_count, slab_lens, slab_size}
pub use Rattle.nc_base.specs.Numbers.{bytes_of_number, number_of}
unfoldable pub use Rattle.nc_base.specs.Numbers.{numbers}
pub use Rattle.nc_base.specs.Places.{bytes_at, distance, ends_after, first_missing, lens_over, slab_strides, stored_bytes, stored_values, value_offset, vectors_below}
unfoldable pub use Rattle.nc_base.specs.Places.{value_offsets}
pub use Rattle.nc_types.specs.Types.{size_of}
pub use Rattle.nc_base.specs.code.OwedValues.{AreListed, IsListed, fills, owed_count, whole_array, whole_arrays}
pub use Rattle.nc_base.specs.declared.{header.Dim.Dim, header.Header.Header, header.Var.Var}
pub use Rattle.nc_types.specs.declared.{nc_type.NcType.NcType}
pub use Rattle.nc_walk.specs.code.Filled.{ArrayView, array_view, filled_blocks, filled_record, filled_records, filled_slab, filled_slabs, record_arrays}
unfoldable pub use Rattle.nc_walk.specs.code.Filled.{repeated}
pub use Rattle.nc_walk.specs.code.FullReads.{FailedReadInFull, ReadInFull}
pub use Rattle.nc_walk.specs.code.RecordSlabs.{array_of, record_slab, record_slabs}
pub use Rattle.nc_walk.specs.code.Slabs.{AreSlabsOf, IsCursor, IsOffset, IsSized, Ready, number_at, offset, offsets_after, slabs_of, total}
unfoldable pub use Rattle.nc_walk.specs.code.Slabs.{offsets_from}
pub use Rattle.devices.specs.Uses.{Use, between, use_of}
pub use Rattle.nc_walk.specs.code.Walked.{Gives, GivesChunk, GivesCut, GivesEnd, GivesFailure, HasRead, IsChunk, Pass, StoredNumbers, Walked, going_on, offsets_in, total_in, whole_count, whole_in}
pub use Rattle.nc_walk.specs.code.Walks.{Advanced, Answer, Exactly, Failing, IsWhole, ReadValues, Reading, ReturnsValues, Starts, Steps, Truncated, WalkView, as_answer, count, reading, standing, stopped}
pub use Rattle.nc_walk.specs.declared.{cursor.Cursor.Cursor, slabs.Slabs.Slabs, write.record_slab.RecordSlab.RecordSlab}
pub use Rattle.std.proofs.Math.Nat.{div-mul-le_self, le_of_mul-le-mul_right, lt_of_mul-lt-mul_right, mul-div_cancel, mul-le-mul_left, mul-le-mul_right, mul-sub, mod-lt}
pub use Rattle.std.proofs.Math.Seq.{drop-nil, take-add, take-append-add, take-append_seam, take-nil}
pub use Rattle.std.proofs.lemmas.Bool.{cases_lt, le-ltb, lt-ltb, ltb-false, eqb-true, eq-eqb}
pub use Rattle.std.proofs.lemmas.List.{append-nil, drop-drop, drop-map, drop_all, drop_at, drop_more, get_or-drop, get_or-take, length-drop, length-map, length-replicate, length-take, map-append, nil_from_length, replicate-append-replicate, take-append-le, take-map, take-replicate, take_all, take_at, take_min}
pub use Rattle.std.proofs.lemmas.List.Elements.{All-append, All-from_get_or, All-get_or, All-map, All-nil, All-weaker}
pub use Rattle.std.proofs.lemmas.List.Folds.{concat-append}
pub use Rattle.std.proofs.lemmas.List.FromFn.{get_or-map-range_with_len, length-map-range_with_len, take-map-range_with_len}
pub use Rattle.std.proofs.lemmas.Nat.{div-add-mod', div-mul-add, div_below, mod-mul-add, mod_below}
pub use Rattle.std.proofs.lemmas.Result.{err_from_is_err_and}
pub use Rattle.std.specs.Bool.{OnTrue}
pub use Rattle.std.specs.List.{concat, flat_map, position_or_len, range_with_len}
pub use Rattle.nc_base.proofs.Tests.{some_right}
pub use Rattle.nc_walk.specs.declared.fault.WalkFault.TheVariants.{ReadFailed, DataTruncated}
pub use borrow.Rule.Slice.PartMut.{put_mid, same_len_mid}
