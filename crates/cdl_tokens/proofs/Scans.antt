-- A scanner, one gap or token on.
use Rattle.cdl_tokens.proofs.Prelude.{sum_by-append, Scanned, Token, TokenKind, End, scan, is_token, left, followed, tokens_at, line_at, ◌≡◌, ℕ, ◌+◌, ◌<◌, ◌≤◌, Bool, true, false, cond, List, [], ◌∷◌, length, drop, take, ◌∙◌, ap, refl, arith, ◌==◌, None, Some, count_by}
use Rattle.cdl_tokens.specs.declared.scanner.Scanner.{Scanner}
use Rattle.cdl_tokens.proofs.Steps.{tokens_more, tokens_past}
use Rattle.cdl_tokens.proofs.Words.{and_false, and_yes}
use Rattle.std.proofs.Math.Seq.{take-add}

pub followed_token : (t : Token) (kind : TokenKind) (rest : List Token) → is_token (Some kind) ≡ true → followed t kind rest ≡ t ∷ rest
followed_token t kind rest h = grind arith

pub step_token : (text : List ℕ) (at_start : Bool) (at line : ℕ) (f : Scanned) (kind : TokenKind) → at < length text → f ≡ scan at_start (drop at text) → 0 < f.len → f.len ≤ length (drop at text) → is_token f.kind ≡ true → f.kind ≡ Some kind → line ≡ line_at text at →
    tokens_at text at_start at 0 (drop at text) ≡ followed (record { kind = kind; line = line; first = at; past = at + f.len }) kind (tokens_at text false (at + f.len) 0 (drop (at + f.len) text))
step_token text at_start at line f kind h is some within token one on =
    grind (arith, tokens_more text at_start at f h is some within, and_false at_start, followed_token)

pub step_gap : (text : List ℕ) (at_start : Bool) (at : ℕ) (f : Scanned) → at < length text → f ≡ scan at_start (drop at text) → 0 < f.len → f.len ≤ length (drop at text) → f.kind ≡ None →
    tokens_at text at_start at 0 (drop at text) ≡ tokens_at text at_start (at + f.len) 0 (drop (at + f.len) text)
step_gap text at_start at f h is some within gap =
    tokens_more text at_start at f h is some within ∙ rw (gap) (rw (and_yes at_start true refl) refl)

pub left_of : (s : Scanner) (text : List ℕ) (at_start : Bool) (at : ℕ) → s.text.now ≡ text → s.at_start ≡ at_start → s.at ≡ at → left s ≡ tokens_at text at_start at 0 (drop at text)
left_of s text at_start at t f a =
    ap (λ x. tokens_at x s.at_start s.at 0 (drop s.at x)) t ∙ ap (λ x. tokens_at text x s.at 0 (drop s.at text)) f ∙ ap (λ x. tokens_at text at_start x 0 (drop x text)) a

pub step_end : (text : List ℕ) (at_start : Bool) (at line : ℕ) → length text ≤ at → line ≡ line_at text at → tokens_at text at_start at 0 (drop at text) ≡ record { kind = End; line = line; first = at; past = at } ∷ []
step_end text at_start at line h on = grind (arith, tokens_past text at_start at h)

pub line_more : (text : List ℕ) (at n : ℕ) → line_at text (at + n) ≡ line_at text at + count_by (λ b. b == 0x0a) (take n (drop at text))
line_more text at n = rw (take-add at n text) (rw (sum_by-append (λ b. cond (b == 0x0a) 1 0) (take at text) (take n (drop at text))) (omega arith))
