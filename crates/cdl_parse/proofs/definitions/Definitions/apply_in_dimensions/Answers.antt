use Rattle.cdl_parse.proofs.Prelude.{Ok, ap, sym, ◌∙◌, next_token, text_of, words, opens_section_after, lexeme, section_of, Dimensions, after_mark, state_of}
use Rattle.cdl_parse.proofs.Defining.{goes_dimensions, gone, makes_dimension_mark, makes_dimensions}
use Rattle.cdl_parse.proofs.StatementWords.{begins}
use Rattle.cdl_parse.proofs.definitions.Definitions.apply_in_dimensions.Goals as goal

pub returns-then-opens_section_after : goal.returns-then-opens_section_after
returns-then-opens_section_after c =
    let begun = begins c.args.start c.requires.more in
    let on = ap (opens_section_after Dimensions) (sym c.lexeme-word.ensures.lexeme) ∙ sym c.opens_section_after.ensures ∙ c.if-opens_section_after.true in
    makes_dimension_mark _ (state_of c.args.self.now) _ begun.0 (words c.args.start) c.requires.brace c.requires.colon on begun.1 ∙
    ap Ok (gone c.args.self.now c.enter_section.new.self (section_of (lexeme (text_of c.args.start) (next_token c.args.start))) (c.enter_section.ensures.section ∙ ap (λ w. after_mark (section_of w)) c.lexeme-word.ensures.lexeme)
    c.enter_section.ensures.dims c.enter_section.ensures.gatts c.enter_section.ensures.variables)

pub read_dimensions-requires-clause-shaped : goal.read_dimensions-requires-clause-shaped
read_dimensions-requires-clause-shaped c =
    let begun = begins c.args.start c.requires.more in
    let off = ap (opens_section_after Dimensions) (sym c.lexeme-word.ensures.lexeme) ∙ sym c.opens_section_after.ensures ∙ c.if-opens_section_after.false in
    goes_dimensions _ begun.0 (words c.args.start) c.requires.brace c.requires.colon off begun.1 c.requires.whole

pub returns : goal.returns
returns c =
    let begun = begins c.args.start c.requires.more in
    let off = ap (opens_section_after Dimensions) (sym c.lexeme-word.ensures.lexeme) ∙ sym c.opens_section_after.ensures ∙ c.if-opens_section_after.false in
    makes_dimensions _ (state_of c.args.self.now) _ begun.0 (words c.args.start) c.read_dimensions.new.dims c.read_dimensions.result c.requires.brace c.requires.colon off begun.1 c.read_dimensions.ensures
