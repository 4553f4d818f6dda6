-- The names that proofs of this crate cite from elsewhere, passed on from one place.
pub use Rattle.std.proofs.Common.{◌≡◌, ℕ, ◌+◌, ◌<◌, ◌≤◌, ◌==◌, Bool, true, false, cond, List, [], ◌∷◌, ◌++◌, length, take, drop, refl, sym, ap, ◌∙◌, arith, rules, suc, min, append_assoc, if◌then◌else◌, ap₂, ◌&&◌, not, nat_lt, position, Some, None, get_or, ◌*◌, ◌/◌, ◌%◌, ◌^◌, zero, eqb, map, replicate, bit_and, w8, Fits, ◌-◌, reverse, length-take, ℤ, codes, add-one, ◌||◌, subst, Option, IfSome, pos, unsigned_abs, length-append, Result, unwrap_or, Ok, Err, OnOk, to_z-of_z, slice_get}
pub use Rattle.cdl_print.specs.code.Fills.{IsFillOf, shows_below_100}
pub use Rattle.cdl_print.specs.code.Leads.{columns_left_after, lead_bytes, lead_in_row, look_at, next_char_lead, next_number_lead, row_lead}
pub use Rattle.cdl_print.specs.code.Pieces.{line_len, opening_of, needs_escape}
unfoldable pub use Rattle.cdl_print.specs.code.Pieces.{dim_text, line_text, prefix_escape, var_rows}
pub use Rattle.cdl_print.specs.code.Printer.{HasPrinted, Takes, look_in, position_of}
pub use Rattle.cdl_print.specs.code.Printing.{AppendedNext, FailedInNext, IsAfter, IsAfterNext, IsAfterNumber, IsAfterPart, NextValues, PrintedInRow, PutAt, PutInRow, PutLine, PutNumber, WrittenNext, bytes_in_row, columns_left_after_text, columns_left_in_row, gathered, held_after, number_bytes, part_bytes, row_index_after_part, shown, text_in_row, values_after}
unfoldable pub use Rattle.cdl_print.specs.code.Printing.{part_text}
pub use Rattle.cdl_print.specs.declared.{printer.ValuePrinter.ValuePrinter, progress.Progress.Progress}
pub use Rattle.devices.proofs.Writes.{IsWritten, append-none, appended_partway, appended_then, partway_next, wrote_next, take_all_of, wrote_end, wrote_then}
pub use Rattle.devices.specs.Sinks.{Appended, FailedPartway, SinkView}
pub use Rattle.devices.specs.code.SinkWrites.{Written}
unfoldable pub use Rattle.devices.specs.Sinks.{append, is_transparent}
pub use Rattle.nc_base.proofs.ValueLaws.{column-broken, column-flat, held_first, held_nul, held_other, held_untrimmed, later-append, later_none, later_one, number_flat, place-add, prefix-append, prefix_nil, length-numbers_from}
pub use Rattle.nc_base.proofs.CharacterRows.{escaped-append}
unfoldable pub use Rattle.nc_types.specs.Bytes.{concat_parts}
pub use Rattle.nc_types.specs.Escapes.{begins_with_digit_or_mark, escaped_in_name, escaped_in_string}
pub use Rattle.nc_types.specs.code.Quoted.{is_literal, escaped_in, stands_for_itself}
unfoldable pub use Rattle.nc_types.specs.Escapes.{escaped_name, escaped_text, is_reserved}
pub use Rattle.nc_base.specs.HeadText.{broken_text, dim_name, joined, without_trailing_nuls}
unfoldable pub use Rattle.nc_base.specs.HeadText.{att_line, att_lines, dim_len_text, dim_line, dim_lines, numbers_text, string_break, var_lines}
pub use Rattle.nc_base.specs.Numbers.{number_of, numbers_from}
unfoldable pub use Rattle.nc_base.specs.Numbers.{numbers}
pub use Rattle.nc_types.specs.Types.{number_suffix, size_of}
pub use Rattle.nc_base.specs.ValueText.{Look, begins_row, char_lead, column, is_char, line_break, number_lead, number_text}
unfoldable pub use Rattle.nc_base.specs.ValueText.{look_of, number_piece, variable_opening, variable_prefix}
pub use Rattle.nc_base.specs.code.LaterPieces.{char_text, held, later_pieces}
unfoldable pub use Rattle.nc_base.specs.code.LaterPieces.{char_piece, piece, pieces}
pub use Rattle.nc_types.specs.declared.nc_type.NcType.{NcType}
pub use Rattle.nc_types.specs.declared.nc_type.NcType.TheVariants.{Char}
pub use Rattle.std.proofs.Math.Nat.{div-eq-sub-div, div-eq_of_lt, div-mul-le_self, le_of_mul-le-mul_right, mul-div_cancel, mul-le-mul_right, zero-mod}
pub use Rattle.std.proofs.lemmas.Bool.{OnTrue_at, OnTrue_from, cond-false, cond-true, false≢true, lt-ltb, agree_below, agree_below_at}
pub use Rattle.std.proofs.lemmas.Bool.Decides.{nat_tests}
pub use Rattle.std.proofs.lemmas.Grind.{common_steps, flat_map-append}
pub use Rattle.std.proofs.lemmas.List.{append-nil, drop-drop, drop-take, length-drop, length-map, length-take-le, map-append, take-append-drop, take-take, take_all, take_more, reverse-append, length-reverse, replicate-append-replicate}
pub use Rattle.std.proofs.lemmas.List.Sums.{prefix_len-le-length, suffix_len-le-length}
pub use Rattle.std.proofs.lemmas.Result.{err_from_is_err_and}
pub use Rattle.std.specs.Fmt.{decimal, signed_decimal}
pub use Rattle.std.specs.Int.{cast_signed, cast_unsigned, w128}
pub use Rattle.std.specs.List.{flat_map, list_all, position_or_len, prefix_len, suffix_len}
pub use Rattle.nc_base.proofs.Tests.{and_parts}
pub use Rattle.nc_base.proofs.SoundLaws.{some_size, whole_part}
pub use Rattle.std.proofs.lemmas.Simd.{Each1-all, Each1-zip2, Each2-splat, length-zip2, SwzOk, SwzOk-from_below, swz_l, get_or-swz_l_below, zip2_splat, mask_l-mod, leading_from_mask_l, length-chunk, zip2_of_maps, trailing_mask_l, length-put_chunk, take_more_put_chunk}
pub use Rattle.std.proofs.Math.Seq.{take-add, take-append_seam, take-append-add, drop-append_seam}
pub use Rattle.std.proofs.lemmas.List.Folds.{list_all-append, prefix_len-append}
pub use Rattle.nc_base.specs.declared.header.Dim.{Dim}
