use Rattle.cdl_parse.proofs.Prelude.{ap, sym, ◌∙◌, next_token, text_of, words, lexeme, lexeme_of, added, rules}
use Rattle.cdl_statements.proofs.ShapeChecks.{first_word, going}
use Rattle.cdl_parse.proofs.DeclarationReads.{all_read, begins_name, goes_name}
use Rattle.cdl_parse.proofs.declaration.read_variables.Goals as goal

pub new_variable-requires : goal.new_variable-requires
new_variable-requires c = begins_name (lexeme_of c.lexeme.result) _ (words c.args.start) (c.lexeme.ensures.first c.requires.more) c.requires.shaped

pub tokens-init : goal.tokens-init
tokens-init c =
    let a = c.args in
    let next = c.advanced.result.0 in
    let ends = c.advanced.result.1 in
    let l = lexeme (text_of a.start) (next_token a.start) in
    let goes = (goes_name l ends (words next) (words a.start) c.advanced.ensures.words c.requires.shaped).0 in
    record {
      text = c.advanced.ensures.same.text;
      goes = c.advanced.ensures.goes goes;
      rest =
          ap (added a.dims.now a.ty a.variables.now) (going (words a.start) (words next) l (lexeme_of c.lexeme.result) ends c.advanced.ensures.words (sym c.lexeme.ensures.lexeme) goes) ∙
          c.in_ok-begun.ensures a.dims.now a.variables.now (words next);
    }

pub returns-then-ends : goal.returns-then-ends
returns-then-ends c = search (rules, first_word, all_read)
