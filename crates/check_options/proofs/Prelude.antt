-- The names that several files of proofs cite from elsewhere, passed on from one place.
pub use Rattle.std.proofs.Common.{Err, List, Ok, Result, [], ap, ap₂, append-nil, append_assoc, codes, drop, inl, inr, lit<, refl, rules, subst, sym, true, ℕ, ◌*◌, ◌++◌, ◌+◌, ◌^◌, ◌∙◌, ◌∷◌, ◌≡◌, ◌≤◌, ◌⊎◌}
pub use Rattle.clap.specs.Words.{App, HasKind, Row, app_of, fault_of, found_of, is_simple, is_simple_and_free, kind_of, matches_of, new_app, rows_of, rule_of, with_rule}
pub use Rattle.cli_base.specs.Arguments.{flag, option, quiet, texts_of}
pub use Rattle.nc_types.specs.Bytes.{Bytes}
pub use Rattle.check_options.specs.CommandLine.{Asked, asked_in}
unfoldable pub use Rattle.check_options.specs.CommandLine.{asked_by, nccheck}
pub use Rattle.check_options.specs.code.Options.{asked_for}
