use Rattle.cdl_statements.proofs.Prelude.{raw, TokenKind, Passes, reached, role_of, lexeme_with, ◌≡◌, ◌+◌, ◌-◌, ◌≤◌, ℕ, List, length, take, drop, refl, sym, ap, ◌∙◌, subst, arith}
use Rattle.std.proofs.lemmas.List.{drop-drop, drop-take, length-drop, length-take-le, take-take}
use Rattle.cdl_tokens.specs.Escapes.{inner}
use Rattle.cdl_tokens.specs.code.Scanners as scanners
use Rattle.cdl_statements.proofs.ListedTokens.{passes}
use Rattle.cdl_statements.proofs.value_list.ValueList.string_and_comma.Goals as goal

-- the bytes between two quotes
between : (text : List ℕ) (first past : ℕ) → first + 2 ≤ past → past ≤ length text → inner (take (past - first) (drop first text)) ≡ take (past - 1 - (first + 1)) (drop (first + 1) text)
between text first past quoted within =
    let m = past - first in
    let long = length-take-le m (drop first text) (omega (arith, length-drop first text)) in
    let first_past : m ≡ 1 + (m - 1) = omega arith in
    let last : m - 2 ≡ past - 1 - (first + 1) = omega arith in
    ap (λ n. take (n - 2) (drop 1 (take m (drop first text)))) long ∙ ap (λ n. take (m - 2) (drop 1 (take n (drop first text)))) first_past ∙ ap (take (m - 2)) (drop-take 1 (m - 1) (drop first text))
    ∙ take-take (m - 2) (m - 1) (drop 1 (drop first text)) (omega arith) ∙ ap (take (m - 2)) (drop-drop 1 first text) ∙ ap (λ n. take n (drop (first + 1) text)) last

pub returns-clause-passes : goal.returns-clause-passes
returns-clause-passes c =
    let old = c.args.self.now in
    let s = reached old in
    let rest = reached (record { start = old.start; scanner = c.string_and_comma.new.self }) in
    let l = c.in_ok-listed.listed in
    let e = c.in_ok-listed.ensures in
    let text = scanners.text_of old.scanner in
    let r = raw text l.token in
    record {
      bytes = r;
      plain = e.plain.plain ∙ between text l.token.first l.token.past e.quoted e.within ∙ ap (λ (bs : List ℕ). take (l.token.past - 1 - (l.token.first + 1)) (drop (l.token.first + 1) bs)) (sym c.text-text.ensures);
      passes = subst (λ (k : TokenKind). Passes s rest (lexeme_with k r)) e.plain.string
          (passes s rest l.token l.comma c.requires e.tokens e.text refl (sym e.before) refl refl (ap (λ k. role_of k r) e.plain.string) e.comma e.moves);
    }
