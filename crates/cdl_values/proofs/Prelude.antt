-- The names that proofs of this crate cite from elsewhere, passed on from one place.
pub use Rattle.std.proofs.Common.{Bool, Err, Global, List, None, Ok, Option, Result, Some, Vec, [], ap, append-nil, append_assoc, arith, codes, cond, drop, false, get_or, if◌then◌else◌, is_none, is_some, length, length-append, map, min, nat_le, nat_lt, neg_ℤ, not, option_map, pos, refl, replicate, rules, slice_get, slice_index, subst, subst₂, suc, sym, take, true, unsigned_abs, zero, ℕ, ℤ, ⊎_elim, ◌&&◌, ◌*◌, ◌++◌, ◌+◌, ◌-◌, ◌<◌, ◌==◌, ◌^◌, ◌∙◌, ◌∷◌, ◌≡◌, ◌≤◌}
pub use Rattle.std.specs.Prelude.{⊤}
pub use Rattle.cdl_statements.specs.State.{Draft, State, add_constant, add_value, change_named, filled, has_room, in_turn, room_of, same_type, type_said, unless, values_listed, with_values}
unfoldable pub use Rattle.cdl_statements.specs.State.{act, change_variable, has_number, takes_of}
pub use Rattle.cdl_statements.proofs.Dues.{fine_on, only_completes}
pub use Rattle.cdl_statements.proofs.Listing.{past_mark}
pub use Rattle.cdl_statements.proofs.ValueLists.{at_same_comma, same_after, same_words}
pub use Rattle.cdl_statements.proofs.ShapeChecks.{going, good_on}
pub use Rattle.cdl_statements.specs.Lexemes.{Lexeme, is_mark, is_mark_kind, is_word_kind, lexeme}
pub use Rattle.cdl_statements.specs.Shapes.{Characters, Listed, Number, Underscore, Value, first_bad, token_fault}
unfoldable pub use Rattle.cdl_statements.specs.Shapes.{shape}
pub use Rattle.cdl_statements.specs.code.Contents.{parts_or_zero}
unfoldable pub use Rattle.cdl_statements.specs.code.Contents.{value_of, values}
pub use Rattle.cdl_statements.specs.code.Cutters.{first_piece, is_done, next_token, offset_of, text_of, version_of}
unfoldable pub use Rattle.cdl_statements.specs.code.Cutters.{after, pieces_left, words}
pub use Rattle.cdl_statements.specs.code.DueTokens.{is_value_of, is_whole, next_if}
unfoldable pub use Rattle.cdl_statements.specs.code.DueTokens.{completes, next}
pub use Rattle.cdl_statements.specs.code.ListedTokens.{IsAtComma, Passes, PassesNumber, PassesString, PassesUnderscore}
pub use Rattle.cdl_statements.specs.code.Views.{lexeme_of, lexeme_with}
pub use Rattle.cdl_statements.specs.declared.{cutter.Cutter.Cutter, due.Due.Due, fault.CdlKind.CdlKind}
pub use Rattle.cdl_statements.specs.declared.due.Due.TheVariants.{DataName, Equals, Separator}
pub use Rattle.cdl_statements.specs.declared.fault.CdlKind.TheVariants.{BadName, NumberRange, Syntax, UnknownVariable}
pub use Rattle.cdl_tokens.proofs.Strings.{or_zero, unescape_past}
pub use Rattle.cdl_tokens.specs.Escapes.{inner, string_value}
unfoldable pub use Rattle.cdl_tokens.specs.Escapes.{character, unescape_at, word_value}
pub use Rattle.cdl_tokens.specs.Numerals.{Parts, number, signed}
unfoldable pub use Rattle.cdl_tokens.specs.Numerals.{parts}
pub use Rattle.cdl_tokens.specs.code.Magnitudes.{held, word}
pub use Rattle.cdl_tokens.specs.code.Scanners.{followed}
pub use Rattle.cdl_tokens.specs.declared.{token.TokenKind.TokenKind}
pub use Rattle.cdl_values.specs.code.Answers.{Adds, ContinuesRead, FailsRead, GivesRead, Leaves}
pub use Rattle.cdl_values.specs.code.Capacities.{Fills, HasCapacity, as_bytes, capacity_for, most, positions_in, taken_type}
pub use Rattle.cdl_values.specs.code.DataRead.{bytes_assigned, unless_given, packed_for, target_at, target_of, unless_bad}
unfoldable pub use Rattle.cdl_values.specs.code.DataRead.{data_read}
pub use Rattle.cdl_values.specs.code.Listed.{AreShaped, unlisted_draft, unlisted_drafts}
pub use Rattle.cdl_values.specs.code.Meant.{AllSuit, HasListed, Means, ReadsStatement, Suits, begins_brace, names_of, result_array}
pub use Rattle.cdl_values.specs.code.NameIndices.{IsIndex, first_with_hash, hash_of, is_new, later_position, position_of}
unfoldable pub use Rattle.cdl_values.specs.code.NameIndices.{hash_on}
pub use Rattle.cdl_values.specs.declared.{capacity.Capacity.Capacity, name_index.NameIndex.NameIndex, data.StatementValues.StatementValues, data.Target.Target, fill.Fill.Fill, form.ValueForm.ValueForm, read_error.ReadError.ReadError}
pub use Rattle.cdl_values.specs.code.PackedValues.{bytes_of, capacity_after, char_bytes, followed_by, greatest, held_bytes, is_full, is_exceeded_by, joined, capacity_minus, number_bytes, row_bytes, text_bytes, value_bytes}
unfoldable pub use Rattle.cdl_values.specs.code.PackedValues.{packed}
pub use Rattle.cdl_values.specs.code.ValueRuns.{GoesOn, Place, TakesValues, place}
pub use Rattle.cdl_values.specs.declared.capacity.Capacity.TheVariants.{AtMost, Unlimited}
pub use Rattle.cdl_values.specs.declared.form.ValueForm.TheVariants.{Joined, Numbers, Rows}
pub use Rattle.cdl_values.specs.declared.read_error.ReadError.TheVariants.{Fault, OutOfMemory}
pub use Rattle.nc_types.specs.Names.{is_name}
pub use Rattle.nc_base.specs.NumberLaws.{IsInRange}
pub use Rattle.nc_base.specs.Numbers.{bytes_of_number}
pub use Rattle.nc_base.specs.Sizes.{dim_len, is_record_var, product}
pub use Rattle.nc_base.specs.ValueText.{is_char}
pub use Rattle.nc_base.specs.declared.{header.Dim.Dim}
pub use Rattle.nc_types.specs.declared.{nc_type.NcType.NcType, version.Version.Version}
pub use Rattle.nc_types.specs.declared.nc_type.NcType.TheVariants.{Char, Int}
pub use Rattle.std.proofs.Math.Seq.{drop-append_seam, take-suc}
pub use Rattle.std.proofs.lemmas.Bool.{cases_Bool, cond-false, cond-true, false≢true}
pub use Rattle.std.proofs.lemmas.Grind.{common_steps, flat_map-append}
pub use Rattle.std.proofs.lemmas.List.{get_or-map, length-drop, length-map, map-append}
pub use Rattle.std.specs.BTreeMap.{BTreeMap}
pub use Rattle.std.specs.List.{flat_map, list_any, position_from}
pub use Rattle.std.specs.Str.{bytes_eq}
pub use Rattle.nc_base.proofs.Tests.{and_left, and_right}
