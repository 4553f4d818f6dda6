use Rattle.cdl_tokens.proofs.Prelude.{List, ℕ, true, ◌≡◌, ◌==◌, ◌∙◌, ap, sym, refl, drop, slice_index, character}
use Rattle.cdl_tokens.specs.Escapes.{escaped_character}
use Rattle.cdl_tokens.proofs.Steps.{after_first}
use Rattle.cdl_tokens.proofs.escape.character.Goals as goal

an_escape : (bytes : List ℕ) → (slice_index bytes 0 == 0x5c) ≡ true → character bytes ≡ escaped_character (drop 1 bytes)
unfolding character
an_escape bytes on = rw (on) refl

pub returns-then-bytes-eq92-clause-character : goal.returns-then-bytes-eq92-clause-character
returns-then-bytes-eq92-clause-character c =
    c.escape.ensures.escape ∙ ap escaped_character (after_first c.args.bytes.now) ∙ sym (an_escape c.args.bytes.now (ap (λ b. b == 0x5c) c.if-bytes-eq92.true))
