use Rattle.cdl_tokens.proofs.Prelude.{List, ℕ, true, false, ◌≡◌, ◌==◌, ◌∙◌, ap, sym, refl, drop, take, slice_index, take_while, is_hex, is_octal, number_escape}
use Rattle.cdl_tokens.specs.Escapes.{escaped_character}
use Rattle.cdl_tokens.proofs.Steps.{after_first}
use Rattle.cdl_tokens.proofs.escape.escape.Goals as goal

first_octal : (bytes : List ℕ) → is_octal (slice_index bytes 0) ≡ true → escaped_character bytes ≡ number_escape 1 8 (take_while is_octal (take 3 bytes))
first_octal bytes on = rw (on) refl

first_x : (bytes : List ℕ) → is_octal (slice_index bytes 0) ≡ false → (slice_index bytes 0 == 0x78) ≡ true → escaped_character bytes ≡ number_escape 2 16 (take_while is_hex (take 2 (drop 1 bytes)))
first_x bytes off on = rw (off) (rw (on) refl)

pub returns-then-is_octal-clause-escape : goal.returns-then-is_octal-clause-escape
returns-then-is_octal-clause-escape c =
    let digits = c.split_at.ensures.front ∙ ap (λ n. take n c.first_bytes-first.result.now) c.octal_len.ensures.len ∙ ap (take_while is_octal) c.first_bytes-first.ensures.first in
    c.number_escape.ensures.escape ∙ ap (number_escape 1 8) digits ∙ sym (first_octal c.args.bytes.now (ap is_octal (sym c.byte_at-b.ensures) ∙ sym c.is_octal.ensures ∙ c.if-is_octal.true))

pub returns-then-not-is_empty-clause-escape : goal.returns-then-not-is_empty-clause-escape
returns-then-not-is_empty-clause-escape c =
    let digits = c.split_at-then-not-is_empty.ensures.front ∙ ap (λ n. take n c.first_bytes-first-then-not-is_empty.result.now) c.hex_len.ensures.len ∙ ap (take_while is_hex) (c.first_bytes-first-then-not-is_empty.ensures.first ∙ ap (take 2) (after_first c.args.bytes.now)) in
    c.number_escape-then-not-is_empty.ensures.escape ∙ ap (number_escape 2 16) digits ∙
    sym (first_x c.args.bytes.now (ap is_octal (sym c.byte_at-b.ensures) ∙ sym c.is_octal.ensures ∙ c.if-is_octal.false) (ap (λ b. b == 0x78) (sym c.byte_at-b.ensures ∙ c.if-b-eq120.true)))
