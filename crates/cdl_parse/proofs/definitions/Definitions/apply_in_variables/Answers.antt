use Rattle.cdl_parse.proofs.Prelude.{Ok, drop, ap, sym, ◌∙◌, next_token, text_of, words, completes, is_mark, lexeme, section_of, AttributeName, VariableName, after_mark, state_of}
use Rattle.cdl_statements.specs.code.DueTokens.{is_name}
use Rattle.cdl_parse.proofs.Defining.{goes_attribute, goes_declaration, gone, makes_attribute, makes_declaration, makes_variable_mark, second_on}
use Rattle.cdl_parse.proofs.definitions.Definitions.apply_in_variables.Goals as goal

pub read_declaration-requires-clause-shaped : goal.read_declaration-requires-clause-shaped
read_declaration-requires-clause-shaped c =
    let on = second_on _ _ _ c.requires.brace c.requires.colon c.requires.whole c.advanced.ensures.words c.advanced.ensures.goes in
    let off = ap (is_mark 0x3a) (sym c.lexeme.ensures.lexeme) ∙ sym c.is_mark.ensures ∙ c.if-not-is_mark.true in
    ap (λ ws. completes VariableName (drop 1 ws)) on.first ∙ goes_declaration _ _ _ on.rest _ off on.second on.due

pub returns-then-not-is_mark : goal.returns-then-not-is_mark
returns-then-not-is_mark c =
    let on = second_on _ _ _ c.requires.brace c.requires.colon c.requires.whole c.advanced.ensures.words c.advanced.ensures.goes in
    let off = ap (is_mark 0x3a) (sym c.lexeme.ensures.lexeme) ∙ sym c.is_mark.ensures ∙ c.if-not-is_mark.true in
    makes_declaration _ (state_of c.args.self.now) _ _ on.rest _ (words c.args.start) c.read_declaration.new.variables c.read_declaration.result c.requires.brace c.requires.colon off on.second on.first c.read_declaration.ensures

pub returns-then-is_name : goal.returns-then-is_name
returns-then-is_name c =
    let on = second_on _ _ _ c.requires.brace c.requires.colon c.requires.whole c.advanced.ensures.words c.advanced.ensures.goes in
    let colon = ap (is_mark 0x3a) (sym c.lexeme.ensures.lexeme) ∙ sym c.is_mark.ensures ∙ c.if-not-is_mark.false in
    let named = ap is_name (sym c.lexeme-word.ensures.lexeme) ∙ sym c.is_name.ensures ∙ c.if-is_name.true in
    makes_attribute _ (state_of c.args.self.now) _ _ on.rest _ (words c.args.start) c.read_attribute.new.self c.read_attribute.result c.requires.brace c.requires.colon colon named on.second on.first on.due c.read_attribute.ensures.reads

pub returns : goal.returns
returns c =
    let on = second_on _ _ _ c.requires.brace c.requires.colon c.requires.whole c.advanced.ensures.words c.advanced.ensures.goes in
    let colon = ap (is_mark 0x3a) (sym c.lexeme.ensures.lexeme) ∙ sym c.is_mark.ensures ∙ c.if-not-is_mark.false in
    let nameless = ap is_name (sym c.lexeme-word.ensures.lexeme) ∙ sym c.is_name.ensures ∙ c.if-is_name.false in
    makes_variable_mark _ (state_of c.args.self.now) _ _ on.rest _ (words c.args.start) c.requires.brace c.requires.colon colon nameless on.second on.first ∙
    ap Ok (gone c.args.self.now c.enter_section.new.self (section_of (lexeme (text_of c.args.start) (next_token c.args.start))) (c.enter_section.ensures.section ∙ ap (λ w. after_mark (section_of w)) c.lexeme-word.ensures.lexeme)
    c.enter_section.ensures.dims c.enter_section.ensures.gatts c.enter_section.ensures.variables)

pub read_attribute-requires-clause-shaped : goal.read_attribute-requires-clause-shaped
read_attribute-requires-clause-shaped c =
    let on = second_on _ _ _ c.requires.brace c.requires.colon c.requires.whole c.advanced.ensures.words c.advanced.ensures.goes in
    let colon = ap (is_mark 0x3a) (sym c.lexeme.ensures.lexeme) ∙ sym c.is_mark.ensures ∙ c.if-not-is_mark.false in
    let named = ap is_name (sym c.lexeme-word.ensures.lexeme) ∙ sym c.is_name.ensures ∙ c.if-is_name.true in
    ap (λ ws. completes AttributeName (drop 2 ws)) on.first ∙ ap (λ ws. completes AttributeName (drop 1 ws)) on.second ∙ goes_attribute _ _ _ on.rest colon named on.second on.due
