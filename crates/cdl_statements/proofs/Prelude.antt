-- The names that proofs of this crate cite from elsewhere, passed on from one place.
pub use Rattle.std.proofs.Common.{ℕ, suc, List, [], ◌∷◌, ◌++◌, arith, All, take, drop, ◌≡◌, Bool, true, false, refl, ◌∙◌, if◌then◌else◌, rules, ap, Option, None, Some, is_some, sym, is_none, ℤ, ◌&&◌, ◌==◌, append_assoc, map, ◌<◌, slice_index, ◌/◌, ◌%◌, ◌≤◌, nat_le, length, filter, IsTrue, Result, Err, ◌-◌, subst, IfSome, position, Ok, replicate, ◌*◌, ◌||◌, not, nat_lt, subst₂, ◌+◌}
pub use Rattle.std.specs.Prelude.{⊤}
pub use Rattle.cdl_statements.specs.Lexemes.{Lexeme, is_mark, is_mark_kind, is_opening_kind, is_word_kind, lexeme}
unfoldable pub use Rattle.cdl_statements.specs.Lexemes.{name_of}
pub use Rattle.cdl_statements.specs.Shapes.{Attribute, Close, DeclareDimensions, Dimension, End, Listed, Enter, Open, Statement, DeclareVariables, Value, Variable, after_member, assigned, at_end, attribute_or_mark, both, constant, constant_of, constants, dimension, dimensions, first_bad, if_so, in_parentheses, is_later, length_of, other_statement, section_mark, token_fault, variables}
pub use Rattle.cdl_statements.specs.Pieces.{role_in, role_of, section_of, step, with_first, statements}
unfoldable pub use Rattle.cdl_statements.specs.Shapes.{shape}
pub use Rattle.cdl_statements.specs.code.Contents.{Declaration, attribute_said, dimension_said, length_said, mark_said, variable_said, with_name}
unfoldable pub use Rattle.cdl_statements.specs.code.Contents.{declaration_said, dimensions_said, statement_said, value_of, values}
unfoldable pub use Rattle.cdl_statements.specs.Pieces.{pieces_after, is_section}
pub use Rattle.cdl_statements.specs.code.Cutters.{is_end_role, first_line, first_piece, is_done, offset_of, other_pieces, text_of, tokens_left, version_of}
unfoldable pub use Rattle.cdl_statements.specs.code.Cutters.{after, pieces_left, words}
pub use Rattle.cdl_statements.specs.code.DueTokens.{is_after, is_length, is_name, is_value_of, next_if, opens_section_after, separator}
unfoldable pub use Rattle.cdl_statements.specs.code.DueTokens.{completes, next}
pub use Rattle.cdl_statements.specs.code.ListedTokens.{IsAtComma, Passes, PassesNumber, PassesUnderscore}
pub use Rattle.cdl_statements.specs.code.ValueLists.{SamePlace, reached}
pub use Rattle.cdl_statements.specs.code.Views.{lexeme_of, lexeme_with}
pub use Rattle.cdl_statements.specs.declared.{cutter.Cutter.Cutter, due.Due.Due, fault.CdlKind.CdlKind, piece.CutState.CutState, piece.Role.Role, piece.Step.Step, section.Section.Section}
pub use Rattle.cdl_statements.specs.declared.piece.CutState.TheVariants.{Inside}
pub use Rattle.cdl_statements.specs.declared.piece.Role.TheVariants.{Other}
pub use Rattle.cdl_statements.specs.declared.section.Section.TheVariants.{Dimensions, Ended, Globals, Unopened, Values, Variables, Closed}
pub use Rattle.cdl_tokens.proofs.Words.{and_false}
unfoldable pub use Rattle.cdl_tokens.specs.Escapes.{word_value}
pub use Rattle.cdl_tokens.specs.Numerals.{number}
unfoldable pub use Rattle.cdl_tokens.specs.Numerals.{numeral, parts}
pub use Rattle.cdl_tokens.specs.Tokens.{is_end, raw}
pub use Rattle.cdl_tokens.specs.code.Scanners.{followed, left}
pub use Rattle.cdl_tokens.specs.declared.{token.Token.Token, token.TokenKind.TokenKind}
unfoldable pub use Rattle.nc_types.specs.Escapes.{is_reserved}
pub use Rattle.nc_types.specs.declared.version.Version.{Version}
pub use Rattle.std.proofs.lemmas.Bool.{false≢true, le-leb, leb-true}
pub use Rattle.std.specs.Option.{option_and_then, option_map, option_or, ok_or}
pub use Rattle.nc_base.proofs.Tests.{and_right, none_before, and_left}
unfoldable pub use Rattle.cdl_statements.specs.State.{has_number, act, add_att, add_dim, add_dimid, add_var, change_variable, takes_of}
pub use Rattle.cdl_statements.specs.State.{State, Draft, Takes, add_value, change_named, filled, unless, values_listed, with_att, with_values, in_turn, when, ◌>>=◌}
pub use Rattle.nc_base.specs.Sizes.{slab_size, record_size, slab_limit, record_limit, dim_len, is_record_shape, is_record_var, slab_count, array_limit, value_count, product, slab_lens}
pub use Rattle.cdl_statements.specs.code.PassedValues.{PassesGood, PassesValues}
pub use Rattle.cdl_statements.specs.declared.fault.CdlKind.TheVariants.{BadName, Syntax}
pub use Rattle.cdl_statements.specs.declared.value_list.ValueList.{ValueList}
pub use Rattle.nc_base.specs.Headers.{AreDimids, HasWholeValues, IsSound, IsSoundAtt, IsSoundDim, IsSoundNumRecs, IsSoundVar, IsDimid, AreArrays, IsArray}
pub use Rattle.cdl_statements.specs.declared.due.Due.TheVariants.{DimensionName, Separator}
pub use Rattle.cdl_tokens.specs.code.Magnitudes.{held}
pub use Rattle.cdl_tokens.specs.declared.numeral.Numeral.{Numeral}
pub use Rattle.nc_base.proofs.SoundLaws.{some_size, sound_shape, whole_part, some_count}
pub use Rattle.nc_types.specs.Types.{size_of}
pub use Rattle.std.proofs.Math.Nat.{mod-eq-sub-div-mul, mul-div_cancel, lt-div-mul-add, mul-le-mul_left, mul_comm}
pub use Rattle.std.specs.List.{list_all, flat_map}
