use Rattle.cdl_parse.proofs.Prelude.{Ok, ap, sym, ◌∙◌, subst, next_token, text_of, words, is_mark, lexeme, section_of, add_att, Leaves, name_first, constants_said, after_mark, state_of}
use Rattle.cdl_parse.proofs.Defining.{closes, goes_global, gone, makes_first_mark, makes_global, only_globals}
use Rattle.cdl_parse.proofs.StatementWords.{begins}
use Rattle.cdl_parse.proofs.definitions.Definitions.apply_after_opening.Goals as goal

pub returns-then-is_mark : goal.returns-then-is_mark
returns-then-is_mark c =
    let begun = begins c.args.start c.requires.more in
    let on = ap (is_mark 0x7d) (sym c.lexeme-first.ensures.lexeme) ∙ sym c.is_mark.ensures ∙ c.if-is_mark.true in
    closes _ (state_of c.args.self.now) _ begun.0 (words c.args.start) c.requires.defining on begun.1

pub read_attribute-requires-clause-more : goal.read_attribute-requires-clause-more
read_attribute-requires-clause-more c =
    let off = ap (is_mark 0x7d) (sym c.lexeme-first.ensures.lexeme) ∙ sym c.is_mark.ensures ∙ c.if-is_mark.false in
    let on = ap (is_mark 0x3a) (sym c.lexeme-first.ensures.lexeme) ∙ sym c.is_mark-2.ensures ∙ c.if-is_mark-2.true in
    c.advanced.ensures.goes (goes_global _ _ _ _ _ c.requires.defining off on c.advanced.ensures.words c.requires.whole).0

pub read_attribute-requires-clause-shaped : goal.read_attribute-requires-clause-shaped
read_attribute-requires-clause-shaped c =
    let off = ap (is_mark 0x7d) (sym c.lexeme-first.ensures.lexeme) ∙ sym c.is_mark.ensures ∙ c.if-is_mark.false in
    let on = ap (is_mark 0x3a) (sym c.lexeme-first.ensures.lexeme) ∙ sym c.is_mark-2.ensures ∙ c.if-is_mark-2.true in
    (goes_global _ _ _ _ _ c.requires.defining off on c.advanced.ensures.words c.requires.whole).1

pub returns-then-is_mark-2 : goal.returns-then-is_mark-2
returns-then-is_mark-2 c =
    let off = ap (is_mark 0x7d) (sym c.lexeme-first.ensures.lexeme) ∙ sym c.is_mark.ensures ∙ c.if-is_mark.false in
    let on = ap (is_mark 0x3a) (sym c.lexeme-first.ensures.lexeme) ∙ sym c.is_mark-2.ensures ∙ c.if-is_mark-2.true in
    makes_global _ (state_of c.args.self.now) _ _ _ (words c.args.start) c.read_attribute.new.attributes c.read_attribute.result c.requires.defining off on c.advanced.ensures.words c.requires.whole
    (subst (λ v. Leaves c.read_attribute.new.attributes c.read_attribute.result (add_att (name_first (words c.advanced.result.0)) (constants_said v (words c.advanced.result.0)) c.args.self.now.gatts)) c.advanced.ensures.same.version c.read_attribute.ensures.reads)

pub returns-in_default : goal.returns-in_default
returns-in_default c =
    let begun = begins c.args.start c.requires.more in
    let off = ap (is_mark 0x7d) (sym c.lexeme-first.ensures.lexeme) ∙ sym c.is_mark.ensures ∙ c.if-is_mark.false in
    let other = ap (is_mark 0x3a) (sym c.lexeme-first.ensures.lexeme) ∙ sym c.is_mark-2.ensures ∙ c.if-is_mark-2.false in
    makes_first_mark _ (state_of c.args.self.now) _ begun.0 (words c.args.start) (only_globals c.args.self.now.section c.requires.defining c.in_default.not-Dimensions c.in_default.not-Variables) off other begun.1 ∙
    ap Ok (gone c.args.self.now c.enter_section.new.self (section_of (lexeme (text_of c.args.start) (next_token c.args.start))) (c.enter_section.ensures.section ∙ ap (λ w. after_mark (section_of w)) c.lexeme-first.ensures.lexeme)
    c.enter_section.ensures.dims c.enter_section.ensures.gatts c.enter_section.ensures.variables)
