use Rattle.cdl_tokens.proofs.Prelude.{ends_value, ℕ, List, sym, ap, ◌∙◌, ◌==◌, slice_index}
use Rattle.cdl_tokens.proofs.PlainNumbers.{without_suffix}
use Rattle.cdl_tokens.proofs.plain_number.unsigned_plain_number.Goals as goal

pub returns : goal.returns
returns c =
    let n = c.in_ok-len in
    let next = c.byte_at-next.ensures ∙ ap (λ (bs : List ℕ). slice_index bs 0) c.split_at.ensures.back in
    without_suffix c.args.bytes.now n.len n.value (c.byte_at-next.result == 0x2c) n.ensures (ap ends_value (sym next) ∙ sym c.ends_value.ensures ∙ c.if-not-ends_value.false) (ap (λ b. b == 0x2c) next)
