-- The names that proofs of this crate cite from elsewhere, passed on from one place.
pub use Rattle.std.proofs.Common.{Bool, IsTrue, List, None, Option, Some, [], ap, append_assoc, arith, cond, count_by, drop, false, get_or, if◌then◌else◌, is_none, is_some, length, map, min, nat_lt, not, option_map, refl, rules, set, slice_index, subst, suc, sym, take, true, unwrap_or, zero, ℕ, ⊎_elim, ◌&&◌, ◌*◌, ◌++◌, ◌+◌, ◌-◌, ◌<◌, ◌==◌, ◌^◌, ◌||◌, ◌↔◌, ◌∙◌, ◌∷◌, ◌≡◌, ◌≤◌}
pub use Rattle.cdl_tokens.specs.Bytes.{may_begin_word, digit_value, goes_on_number, goes_on_word, is_blank, is_digit, is_escape, is_hex, is_mark_byte, is_octal, is_sign, number_in}
pub use Rattle.cdl_tokens.specs.Escapes.{inner, number_escape, plain_escape, string_value, unescape}
unfoldable pub use Rattle.cdl_tokens.specs.Escapes.{character, unescape_at, word_value}
pub use Rattle.cdl_tokens.specs.Numerals.{with_sign}
unfoldable pub use Rattle.cdl_tokens.specs.Numerals.{parts, type_of_suffix}
pub use Rattle.cdl_tokens.specs.Scan.{begins_number, begins_opening, gap, scan_text, token}
unfoldable pub use Rattle.cdl_tokens.specs.Scan.{scan, len_until, word_len}
pub use Rattle.cdl_tokens.specs.Tokens.{line_at, token_at, with_token}
unfoldable pub use Rattle.cdl_tokens.specs.Tokens.{tokens_at}
pub use Rattle.cdl_tokens.specs.code.Magnitudes.{ReadsDigits, held, in_decimal, word}
pub use Rattle.cdl_tokens.specs.code.PlainTokens.{Begins, BeginsDecimal, BeginsString, BeginsUnderscore, BeginsUnsigned, IsLetterOf, IsSuffix, ends_value}
pub use Rattle.cdl_tokens.specs.code.Scanners.{followed, goes_on, is_ordinary, is_token, is_unescaped, left}
pub use Rattle.cdl_tokens.specs.declared.{scan.Scanned.Scanned, token.Token.Token, token.TokenKind.TokenKind}
pub use Rattle.cdl_tokens.specs.declared.token.TokenKind.TheVariants.{End, Mark, Number, Text, Word}
pub use Rattle.nc_types.specs.declared.{nc_type.NcType.NcType, nc_type.NcType.TheVariants.Int, version.Version.Version}
pub use Rattle.std.proofs.lemmas.Bool.{cases_lt, false≢true, ne_eqb}
pub use Rattle.std.proofs.lemmas.Grind.{common_steps, pow_more}
pub use Rattle.std.proofs.lemmas.List.{append-nil, at_drop_all, at_drop_more, drop-drop, get_or-drop, get_or_past, length-drop, length-take-le, take-append-drop, take-take, take_all}
pub use Rattle.std.proofs.lemmas.List.Sums.{prefix_len-le-length, sum_by-append}
pub use Rattle.std.specs.List.{list_all, prefix_len, take_while}
