use Rattle.std.proofs.Common.{◌∙◌, ap, ℕ, List, Option, codes, false}
use Rattle.std.specs.Option.{option_map_or}
use Rattle.std.specs.Str.{bytes_eq}
use Rattle.clap.proofs.WalkLemmas.{one_text-rows}
use Rattle.clap.specs.Words.{found_of, one_text}
use Rattle.cli_base.proofs.Flags.{flag_read}
use Rattle.cli_base.proofs.arguments.is_given.Goals as goal

pub returns : goal.returns
returns c =
    let found = found_of c.args.matches.now in
    c.unwrap_or.ensures ∙ flag_read _ (one_text found c.args.id.now) _ c.get_one.ensures.none c.get_one.ensures.value
    ∙ ap (λ (text : Option (List ℕ)). option_map_or (λ (value : List ℕ). bytes_eq value (codes "true")) text false) (one_text-rows found c.args.id.now)
