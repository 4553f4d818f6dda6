use Rattle.cdl_tokens.proofs.Prelude.{List, ℕ, Bool, true, ◌≡◌, ◌==◌, ◌+◌, ◌∙◌, ap, sym, arith, common_steps, slice_index, subst, drop, take, count_by, prefix_len, is_digit, is_mark_byte, goes_on_number, begins_number, scan, token, Number, Mark}
use Rattle.cdl_tokens.proofs.PlainTokens.{digit_number, number_flat, scan_mark, scan_number}
use Rattle.cdl_tokens.proofs.scanner.Scanner.token.Goals as goal

module _ (bytes rest : List ℕ) (n : ℕ) (is : rest ≡ bytes) (on : begins_number rest ≡ true) (len : n ≡ 1 + prefix_len goes_on_number (drop 1 rest)) where
  number_here : (at_start : Bool) → scan at_start bytes ≡ token Number n
  number_here at_start = subst (λ bs. scan at_start bs ≡ token Number n) is (scan_number at_start rest on ∙ ap (token Number) (sym len))

  flat_here : count_by (λ b. b == 0x0a) (take n bytes) ≡ 0
  flat_here = subst (λ bs. count_by (λ b. b == 0x0a) (take n bs) ≡ 0) is (ap (λ k. count_by (λ b. b == 0x0a) (take k rest)) len ∙ number_flat rest on)

mark_flat : (bytes : List ℕ) → is_mark_byte (slice_index bytes 0) ≡ true → count_by (λ b. b == 0x0a) (take 1 bytes) ≡ 0
mark_flat bytes on = grind (arith, common_steps)

pub number_len-requires : goal.number_len-requires
number_len-requires c = digit_number c.split_at.result.1.now (ap is_digit (sym c.byte_at-b.ensures) ∙ sym c.is_digit.ensures ∙ c.if-is_digit.true)

pub take-requires-clause-here : goal.take-requires-clause-here
take-requires-clause-here c = number_here _ c.split_at.result.1.now c.number_len.result c.split_at.ensures.back (digit_number c.split_at.result.1.now (ap is_digit (sym c.byte_at-b.ensures) ∙ sym c.is_digit.ensures ∙ c.if-is_digit.true)) c.number_len.ensures.len c.skip_blanks.new.self.at_start

pub take-requires-clause-flat : goal.take-requires-clause-flat
take-requires-clause-flat c = flat_here _ c.split_at.result.1.now c.number_len.result c.split_at.ensures.back (digit_number c.split_at.result.1.now (ap is_digit (sym c.byte_at-b.ensures) ∙ sym c.is_digit.ensures ∙ c.if-is_digit.true)) c.number_len.ensures.len

pub take-requires-then-is_mark-clause-here : goal.take-requires-then-is_mark-clause-here
take-requires-then-is_mark-clause-here c = subst (λ bs. scan c.skip_blanks.new.self.at_start bs ≡ token Mark 1) c.split_at.ensures.back (scan_mark c.skip_blanks.new.self.at_start c.split_at.result.1.now (ap is_mark_byte (sym c.byte_at-b.ensures) ∙ sym c.is_mark.ensures ∙ c.if-is_mark.true))

pub take-requires-then-begins_number-clause-here : goal.take-requires-then-begins_number-clause-here
take-requires-then-begins_number-clause-here c = number_here _ c.split_at.result.1.now c.number_len-then-begins_number.result c.split_at.ensures.back (sym c.begins_number.ensures ∙ c.if-begins_number.true) c.number_len-then-begins_number.ensures.len c.skip_blanks.new.self.at_start

pub take-requires-then-begins_number-clause-flat : goal.take-requires-then-begins_number-clause-flat
take-requires-then-begins_number-clause-flat c = flat_here _ c.split_at.result.1.now c.number_len-then-begins_number.result c.split_at.ensures.back (sym c.begins_number.ensures ∙ c.if-begins_number.true) c.number_len-then-begins_number.ensures.len

pub take-requires-then-is_mark-clause-flat : goal.take-requires-then-is_mark-clause-flat
take-requires-then-is_mark-clause-flat c = subst (λ bs. count_by (λ b. b == 0x0a) (take 1 bs) ≡ 0) c.split_at.ensures.back (mark_flat c.split_at.result.1.now (ap is_mark_byte (sym c.byte_at-b.ensures) ∙ sym c.is_mark.ensures ∙ c.if-is_mark.true))
