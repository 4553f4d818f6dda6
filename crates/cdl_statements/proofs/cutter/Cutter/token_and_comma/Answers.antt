use Rattle.cdl_statements.proofs.Prelude.{◌≡◌, ◌∷◌, ◌<◌, List, ℕ, sym, ap, ◌∙◌, subst, Lexeme, lexeme, Passes, role_in}
use Rattle.cdl_tokens.specs.code.Scanners as scanners
use Rattle.cdl_statements.proofs.ListedTokens.{passes}
use Rattle.cdl_statements.proofs.cutter.Cutter.token_and_comma.Goals as goal

pub returns-clause-passes : goal.returns-clause-passes
returns-clause-passes c =
    let s = c.args.self.now in
    let l = c.in_ok-listed.listed in
    let e = c.in_ok-listed.ensures in
    let g = c.move_to_comma.ensures in
    let text = scanners.text_of s.scanner in
    let other = ap (λ (t : List ℕ). role_in t l.token) (sym c.text-text.ensures) ∙ sym c.of.ensures ∙ c.is_other.ensures c.if-not-is_other.false in
    let passed = passes s c.move_to_comma.new.self l.token l.comma c.requires (e.tokens ∙ sym (ap (λ r. l.token ∷ l.comma ∷ scanners.left r) g.scanner)) (ap scanners.text_of g.scanner ∙ e.text) g.version g.comma g.state g.done
    other e.comma (subst (λ r. scanners.offset_of s.scanner < scanners.offset_of r) (sym g.scanner) e.moves) in
    let given : lexeme text l.token ≡ _ = sym (c.of-2.ensures ∙ ap (λ (t : List ℕ). lexeme t l.token) c.text-text.ensures) in
    subst (λ (t : Lexeme). Passes s c.move_to_comma.new.self t) given passed
