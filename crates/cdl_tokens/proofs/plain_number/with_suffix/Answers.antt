use Rattle.cdl_tokens.proofs.Prelude.{ends_value, IsLetterOf, ℕ, List, sym, ap, ◌∙◌, ◌==◌, slice_index, subst}
use Rattle.cdl_tokens.proofs.PlainNumbers.{with_letter}
use Rattle.cdl_tokens.proofs.plain_number.with_suffix.Goals as goal

pub returns : goal.returns
returns c =
    let a = c.args in
    let letter = c.byte_at.ensures ∙ ap (λ (bs : List ℕ). slice_index bs 0) c.split_at.ensures.back in
    let next = c.byte_at-after.ensures ∙ ap (λ (bs : List ℕ). slice_index bs 1) c.split_at.ensures.back in
    with_letter a.bytes.now a.len a.value c.in_ok-ty.ty (c.byte_at-after.result == 0x2c) c.requires (subst (IsLetterOf c.in_ok-ty.ty) letter c.in_ok-ty.ensures) (ap ends_value (sym next) ∙ sym c.ends_value.ensures ∙ c.if-not-ends_value.false)
    (ap (λ b. b == 0x2c) next)
