use Rattle.cdl_parse.proofs.Prelude.{rules, arith, ◌∷◌, [], ap₂, sym, ◌∙◌, if◌then◌else◌, dimension_said, dimensions_said, first_goes, version_of, words, Lexeme, said_on, shaped_on}
use Rattle.cdl_parse.proofs.DimensionReads.{equals_goes, length_goes, four_on}
use Rattle.cdl_parse.proofs.StatementWords.{begins}
use Rattle.cdl_parse.proofs.dimension_list.next_dimension.Goals as goal

pub advanced-requires-2 : goal.advanced-requires-2
advanced-requires-2 c = search (rules, first_goes)

pub advanced-requires-3 : goal.advanced-requires-3
advanced-requires-3 c = c.advanced-2.ensures.goes (equals_goes _ _ _ _ _ _ _ c.requires.shaped c.advanced.ensures.words c.advanced-2.ensures.words)

pub advanced-ends-requires : goal.advanced-ends-requires
advanced-ends-requires c = c.advanced-3.ensures.goes (length_goes _ _ _ _ _ _ _ _ _ _ c.requires.shaped c.advanced.ensures.words c.advanced-2.ensures.words c.advanced-3.ensures.words)

pub returns-clause-said : goal.returns-clause-said
returns-clause-said c =
    let v = version_of c.args.start in
    let rest = c.advanced-ends.result.0 in
    let ends = c.advanced-ends.result.1 in
    said_on v _ _ _ _ (words c.args.start) (words rest) ends
    (four_on _ _ _ _ _ _ _ _ (words rest) _ _ _ ends c.requires.shaped c.advanced.ensures.words c.advanced-2.ensures.words c.advanced-3.ensures.words c.advanced-ends.ensures.words) ∙
    ap₂ (λ (n l : Lexeme). dimension_said v n l ∷ (if ends then [] else dimensions_said v (words rest))) (sym c.lexeme.ensures.lexeme) (sym c.lexeme-2.ensures.lexeme)

pub returns-clause-moves : goal.returns-clause-moves
returns-clause-moves c = λ off.
    let one = c.advanced.ensures.moves (first_goes _ _ _ _ c.requires.shaped c.advanced.ensures.words) in
    let two = c.advanced-2.ensures.moves (equals_goes _ _ _ _ _ _ _ c.requires.shaped c.advanced.ensures.words c.advanced-2.ensures.words) in
    let three = c.advanced-3.ensures.moves (length_goes _ _ _ _ _ _ _ _ _ _ c.requires.shaped c.advanced.ensures.words c.advanced-2.ensures.words c.advanced-3.ensures.words) in
    omega (arith, one, two, three, c.advanced-ends.ensures.moves off)

pub returns-clause-shaped : goal.returns-clause-shaped
returns-clause-shaped c = λ off.
    let rest = c.advanced-ends.result.0 in
    let ends = c.advanced-ends.result.1 in
    let begun = begins rest (c.advanced-ends.ensures.goes off) in
    shaped_on _ _ _ _ _ (words c.args.start) (words rest) begun.0 ends c.requires.shaped
    (four_on _ _ _ _ _ _ _ _ (words rest) _ _ _ ends c.requires.shaped c.advanced.ensures.words c.advanced-2.ensures.words c.advanced-3.ensures.words c.advanced-ends.ensures.words) off begun.1
