-- The gaps between tokens: only their first byte can be a line feed.
use Rattle.cdl_tokens.proofs.Prelude.{prefix_len, Scanned, TokenKind, scan, gap, token, ◌≡◌, ℕ, Bool, true, false, cond, List, [], ◌∷◌, take, get_or, refl, arith, ◌==◌, not, None, count_by, if◌then◌else◌, rules}
use Rattle.cdl_tokens.specs.Scan.{begins_comment}
use Rattle.cdl_tokens.proofs.PlainTokens.{run_flat}

-- if it is a gap, it has a line feed only if that is its first byte
pub record FeedsFirst (bs : List ℕ) (f : Scanned) : Type 0 where
  pub feeds : f.kind ≡ None → count_by (λ b. b == 0x0a) (take f.len bs) ≡ cond (get_or bs 0 0 == 0x0a) 1 0

feeds_if : (bs : List ℕ) (b : Bool) (f g : Scanned) → (b ≡ true → FeedsFirst bs f) → FeedsFirst bs g → FeedsFirst bs (if b then f else g)
feeds_if bs true f g p q = p refl
feeds_if bs false f g p q = q

token_feeds : (bs : List ℕ) (kind : TokenKind) (n : ℕ) → FeedsFirst bs (token kind n)
token_feeds bs kind n = record { feeds = λ e. cc }

blank_feeds : (bs : List ℕ) → FeedsFirst bs (gap 1)
blank_feeds [] = record { feeds = λ e. refl }
blank_feeds (b ∷ bs) = record { feeds = λ e. grind arith }

comment_feeds : (bs : List ℕ) → begins_comment bs ≡ true → FeedsFirst bs (gap (prefix_len (λ b. not (b == 0x0a)) bs))
comment_feeds bs h = search (rules, run_flat)

pub gap_feeds : (at_start : Bool) (bs : List ℕ) → FeedsFirst bs (scan at_start bs)
unfolding scan
gap_feeds at_start bs = search (rules, feeds_if, token_feeds, blank_feeds, comment_feeds) depth 14
